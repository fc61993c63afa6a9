-- The loop of `subtype_relation` ends, and gives the answer that View defines. The loop can find a Yes of its own; after the test
-- for an ancestor over the same table it does not.
use Rattle.std.proofs.Math.Path.{◌≡◌, refl, sym, ap, subst}
use Rattle.std.proofs.Common.{◌∙◌, inl, arith, eq-eqb, ne_eqb, eqb-true}
use Rattle.std.specs.Prelude.{Bool, ◌||◌, ◌⊎◌, eqb}
use Rattle.std.proofs.Math.Bool.{true, false, cond, true≢false}
use Rattle.std.proofs.lemmas.Bool.{false≢true, eqb-false}
use mathlib.Core.List.Memᴰ
use mathlib.Core.List.{List, [], ◌∷◌, ◌++◌, Memᴰ}
use Rattle.std.proofs.Math.Logic.{inr, ⊎_elim}
use Rattle.std.proofs.Math.Option.{some}
use Prim.Native.Nat.{ℕ, zero, suc, ◌<◌}
use Rattle.sets.specs.Sets.{tally}
use Rattle.sets.specs.Bits.{tally-more}
use Rattle.view.specs.declared.Relation.{Relation}
use Rattle.view.specs.declared.Relation.TheVariants.{Yes, No, Unknown}
use Rattle.view.specs.View.{View, reach, ancestor, complete, relation}
use Rattle.view.specs.Reach.{Good, Path, here, there, path-reach, reach-path, reach-refl, reach-parent, reach-induction}
use Rattle.view.specs.Ancestors.{ancestor-self, reach-ancestor}
use Rattle.view.specs.Loops.{contains, search, subtype_relation}
use Rattle.view.specs.Walk.{computed-ancestor}
use Rattle.view.specs.Relations.{complete-exactly, incomplete-exactly}

contains-true : (cs : List ℕ) (y : ℕ) → contains cs y ≡ true → Memᴰ y cs
unfolding contains
contains-true [] y e = absurd (false≢true e)
contains-true (c ∷ cs) y e = go (eqb c y) refl e (contains-true cs y)
  where
    go : (t : Bool) → eqb c y ≡ t → (t || contains cs y) ≡ true → (contains cs y ≡ true → Memᴰ y cs) → Memᴰ y (c ∷ cs)
    go true q f ih = Memᴰ.head (sym (eqb-true c y q))
    go false q f ih = Memᴰ.tail (ih f)

contains-false : (cs : List ℕ) (y : ℕ) → contains cs y ≡ false → Memᴰ y cs → ⊥
unfolding contains
contains-false [] y e m = Memᴰ.not-nil m
contains-false (c ∷ cs) y e m = go (eqb c y) refl e (contains-false cs y) (Memᴰ.cases_cons m)
  where
    go : (t : Bool) → eqb c y ≡ t → (t || contains cs y) ≡ false → (contains cs y ≡ false → Memᴰ y cs → ⊥) → (y ≡ c) ⊎ Memᴰ y cs → ⊥
    go true q f ih w = true≢false f
    go false q f ih (inl s) = eqb-false c y q (sym s)
    go false q f ih (inr s) = ih f s

-- ---- what holds between turns
record Between (v : View) (x y : ℕ) (seen pending : List ℕ) (incomplete : Bool) : Type 0 where
  seen-reached : (c : ℕ) → Memᴰ c seen → reach v x c ≡ true
  pending-reached : (c : ℕ) → Memᴰ c pending → reach v x c ≡ true
  begun : Memᴰ x seen ⊎ Memᴰ x pending
  -- a parent of a visited class is visited or pending, and is not what is asked for
  closed : (c p : ℕ) → Memᴰ c seen → Memᴰ p (v.parents c) → (Memᴰ p seen ⊎ Memᴰ p pending) × (p ≡ y → ⊥)
  lacking : incomplete ≡ true → (c : ℕ) × Memᴰ c seen × (v.recorded c ≡ false)
  lacking-none : incomplete ≡ false → (c : ℕ) → Memᴰ c seen → v.recorded c ≡ true

module _ (v : View) (g : Good v) (bare : (c : ℕ) → v.recorded c ≡ false → v.parents c ≡ []) (x y : ℕ) (hx : x < v.names) (apart : x ≡ y → ⊥) where
  -- the answer, if the asked one need not have been tested before
  answer : Relation
  answer = cond (reach v x y) Yes (cond (complete v x) No Unknown)

  -- what is reached and is not x is a parent of something reached
  last-step : reach v x y ≡ true → (c : ℕ) × (reach v x c ≡ true) × Memᴰ y (v.parents c)
  last-step m = go (reach-path v g x hx y m).2 apart
    where
      go : {z n : ℕ} → Path v x z n → (x ≡ z → ⊥) → (c : ℕ) × (reach v x c ≡ true) × Memᴰ z (v.parents c)
      go here n = absurd (n refl)
      go (there {y = c} a q) n = (c, path-reach v g x hx a, q)

  -- with nothing pending all that is reached is visited
  all-seen : {seen : List ℕ} {incomplete : Bool} → Between v x y seen [] incomplete → (c : ℕ) → reach v x c ≡ true → Memᴰ c seen
  all-seen {seen} b =
      reach-induction v g x hx (λ c. Memᴰ c seen) (⊎_elim (λ m. m) (λ m. absurd (Memᴰ.not-nil m)) b.begun)
      (λ c p m k q. ⊎_elim (λ r. r) (λ r. absurd (Memᴰ.not-nil r)) (b.closed c p k q).0)

  ended : (seen : List ℕ) (incomplete : Bool) → Between v x y seen [] incomplete → cond incomplete Unknown No ≡ answer
  unfolding answer
  ended seen incomplete b = go incomplete refl b ∙ ap (λ (t : Bool). cond t Yes (cond (complete v x) No Unknown)) (sym (away (reach v x y) refl))
    where
      away : (t : Bool) → reach v x y ≡ t → t ≡ false
      away true m = absurd (let w = last-step m in (b.closed w.0 y (all-seen b w.0 w.1) w.2).1 refl)
      away false m = refl

      go : (t : Bool) → incomplete ≡ t → Between v x y seen [] incomplete → cond t Unknown No ≡ cond (complete v x) No Unknown
      go true e k =
          let w = k.lacking e in
          sym (ap (λ (t : Bool). cond t No Unknown) ((incomplete-exactly v g x hx).1 (w.0, k.seen-reached w.0 w.1, w.2)))
      go false e k = sym (ap (λ (t : Bool). cond t No Unknown) ((complete-exactly v g x hx).1 (λ c m. k.lacking-none e c (all-seen k c m))))

  -- ---- each way that a turn goes keeps what holds

  module _ (seen pending : List ℕ) (incomplete : Bool) (c : ℕ) (b : Between v x y seen (c ∷ pending) incomplete) where
    shifted : (p : ℕ) (rest : List ℕ) → ((q : ℕ) → Memᴰ q pending → Memᴰ q rest) → Memᴰ p seen ⊎ Memᴰ p (c ∷ pending) → Memᴰ p (c ∷ seen) ⊎ Memᴰ p rest
    shifted p rest keep (inl m) = inl (Memᴰ.tail m)
    shifted p rest keep (inr m) = ⊎_elim (λ e. inl (Memᴰ.head e)) (λ r. inr (keep p r)) (Memᴰ.cases_cons m)

    old : Memᴰ c seen → Between v x y seen pending incomplete
    old k =
        record {
          seen-reached = b.seen-reached;
          pending-reached = λ d m. b.pending-reached d (Memᴰ.tail m);
          begun = again x b.begun;
          closed = λ d p m q. let w = b.closed d p m q in (again p w.0, w.1);
          lacking = b.lacking;
          lacking-none = b.lacking-none;
        }
      where
        again : (p : ℕ) → Memᴰ p seen ⊎ Memᴰ p (c ∷ pending) → Memᴰ p seen ⊎ Memᴰ p pending
        again p (inl m) = inl m
        again p (inr m) = ⊎_elim (λ e. inl (Memᴰ.cast e k)) (λ r. inr r) (Memᴰ.cases_cons m)

    now-reached : (d : ℕ) → Memᴰ d (c ∷ seen) → reach v x d ≡ true
    now-reached d m = ⊎_elim (λ e. ap (reach v x) e ∙ b.pending-reached c (Memᴰ.head refl)) (b.seen-reached d) (Memᴰ.cases_cons m)

    new : v.recorded c ≡ true → (Memᴰ y (v.parents c) → ⊥) → Between v x y (c ∷ seen) (pending ++ v.parents c) incomplete
    new r n =
        record {
          seen-reached = now-reached;
          pending-reached = λ d m.
              ⊎_elim (λ k. b.pending-reached d (Memᴰ.tail k)) (reach-parent v g x hx c d (b.pending-reached c (Memᴰ.head refl))) (Memᴰ.append_cases pending m);
          begun = shifted x (pending ++ v.parents c) (λ q k. Memᴰ.append_left (v.parents c) k) b.begun;
          closed = λ d p m q.
              ⊎_elim
              (λ e.
              let k : Memᴰ p (v.parents c) = subst (λ (z : ℕ). Memᴰ p (v.parents z)) e q in
              (inr (Memᴰ.append_right pending k), λ s. n (subst (λ (z : ℕ). Memᴰ z (v.parents c)) s k)))
              (λ k. let w = b.closed d p k q in (shifted p (pending ++ v.parents c) (λ q k. Memᴰ.append_left (v.parents c) k) w.0, w.1))
              (Memᴰ.cases_cons m);
          lacking = λ e. let w = b.lacking e in (w.0, Memᴰ.tail w.1, w.2);
          lacking-none = λ e d m. ⊎_elim (λ q. ap v.recorded q ∙ r) (b.lacking-none e d) (Memᴰ.cases_cons m);
        }

    unrecorded : v.recorded c ≡ false → Between v x y (c ∷ seen) pending true
    unrecorded r =
        record {
          seen-reached = now-reached;
          pending-reached = λ d m. b.pending-reached d (Memᴰ.tail m);
          begun = shifted x pending (λ q k. k) b.begun;
          closed = λ d p m q.
              ⊎_elim (λ e. absurd (Memᴰ.not-nil (subst (Memᴰ p) (ap v.parents e ∙ bare c r) q)))
              (λ k. let w = b.closed d p k q in (shifted p pending (λ q k. k) w.0, w.1))
              (Memᴰ.cases_cons m);
          lacking = λ e. (c, Memᴰ.head refl, r);
          lacking-none = λ e. absurd (true≢false e);
        }

  -- THE LOOP, if it ends, gives the answer
  search-answer : (n : ℕ) (seen pending : List ℕ) (incomplete : Bool) (r : Relation) → Between v x y seen pending incomplete → search v y n seen pending incomplete ≡ some r → r ≡ answer
  unfolding search answer
  search-answer zero seen [] incomplete r b e = (let q : r ≡ cond incomplete Unknown No = cc in q) ∙ ended seen incomplete b
  search-answer zero seen (c ∷ pending) incomplete r b e = absurd (let z : ◌≡◌ {A = ℕ} 0 1 = cc in omega arith)
  search-answer (suc n) seen [] incomplete r b e = (let q : r ≡ cond incomplete Unknown No = cc in q) ∙ ended seen incomplete b
  search-answer (suc n) seen (c ∷ pending) incomplete r b e =
      go (contains seen c) refl (v.recorded c) refl (contains (v.parents c) y) refl e (search-answer n)
    where
      go : (s : Bool) → contains seen c ≡ s → (t : Bool) → v.recorded c ≡ t → (u : Bool) → contains (v.parents c) y ≡ u
          → cond s (search v y n seen pending incomplete)
          (cond t (cond u (some Yes) (search v y n (c ∷ seen) (pending ++ v.parents c) incomplete)) (search v y n (c ∷ seen) pending true))
          ≡ some r
          → ((seen pending : List ℕ) (incomplete : Bool) (r : Relation) → Between v x y seen pending incomplete → search v y n seen pending incomplete ≡ some r → r ≡ answer)
          → r ≡ answer
      go true p t q u k f ih = ih seen pending incomplete r (old seen pending incomplete c b (contains-true seen c p)) f
      go false p true q true k f ih =
          (let s : r ≡ Yes = cc in s)
          ∙ sym
          (ap (λ (t : Bool). cond t Yes (cond (complete v x) No Unknown))
          (reach-parent v g x hx c y (b.pending-reached c (Memᴰ.head refl)) (contains-true (v.parents c) y k)))
      go false p true q false k f ih = ih (c ∷ seen) (pending ++ v.parents c) incomplete r (new seen pending incomplete c b q (contains-false (v.parents c) y k)) f
      go false p false q u k f ih = ih (c ∷ seen) pending true r (unrecorded seen pending incomplete c b q) f

-- ---- THE LOOP ENDS: a turn shortens the queue or visits one name more

abbrev unseen : List ℕ → ℕ → ℕ
unseen seen k = cond (contains seen k) 0 1

module _ (v : View) (g : Good v) (y : ℕ) where
  -- one more is visited
  fewer : (seen : List ℕ) (c : ℕ) → c < v.names → contains seen c ≡ false → tally (unseen seen) v.names ≡ suc (tally (unseen (c ∷ seen)) v.names)
  unfolding contains
  fewer seen c h e =
      tally-more (unseen (c ∷ seen)) (unseen seen) v.names c h
      (ap (λ (t : Bool). cond t 0 1) e ∙ ap (λ (t : Bool). suc (cond (t || contains seen c) 0 1)) (sym (eq-eqb c c refl)))
      (λ k n. ap (λ (t : Bool). cond (t || contains seen k) 0 1) (sym (ne_eqb c k (λ q. n (sym q)))))

  Ends : List ℕ → List ℕ → Bool → Type 0
  Ends seen pending incomplete = (n : ℕ) × (r : Relation) × (search v y n seen pending incomplete ≡ some r)

  InTable : List ℕ → Type 0
  InTable pending = (c : ℕ) → Memᴰ c pending → c < v.names

  -- with m names or more not visited, if it ends with fewer
  ends-next : (m : ℕ) → ((seen pending : List ℕ) (incomplete : Bool) → InTable pending → tally (unseen seen) v.names < m → Ends seen pending incomplete)
      → (seen pending : List ℕ) (incomplete : Bool) → InTable pending → tally (unseen seen) v.names < suc m → Ends seen pending incomplete
  unfolding Ends InTable search
  ends-next m ih seen [] incomplete inside l = (0, cond incomplete Unknown No, refl)
  ends-next m ih seen (c ∷ pending) incomplete inside l =
      go (contains seen c) refl (v.recorded c) refl (contains (v.parents c) y) refl (ends-next m ih seen pending incomplete (λ d k. inside d (Memᴰ.tail k)) l)
    where
      hc : c < v.names
      hc = inside c (Memᴰ.head refl)

      longer : InTable (pending ++ v.parents c)
      longer d k = ⊎_elim (λ q. inside d (Memᴰ.tail q)) (g.parents-in c d hc) (Memᴰ.append_cases pending k)

      go : (s : Bool) → contains seen c ≡ s → (t : Bool) → v.recorded c ≡ t → (u : Bool) → contains (v.parents c) y ≡ u → Ends seen pending incomplete → Ends seen (c ∷ pending) incomplete
      go true p t q u k w = (suc w.0, w.1, rw p w.2)
      go false p true q true k w = (1, Yes, rw (p, q, k))
      go false p true q false k w =
          let f = fewer seen c hc p in
          let e = ih (c ∷ seen) (pending ++ v.parents c) incomplete longer (omega arith) in
          (suc e.0, e.1, rw (p, q, k) e.2)
      go false p false q u k w =
          let f = fewer seen c hc p in
          let e = ih (c ∷ seen) pending true (λ d z. inside d (Memᴰ.tail z)) (omega arith) in
          (suc e.0, e.1, rw (p, q) e.2)

  ends-with : (m : ℕ) (seen pending : List ℕ) (incomplete : Bool) → InTable pending → tally (unseen seen) v.names < m → Ends seen pending incomplete
  ends-with zero seen pending incomplete inside l = absurd (omega arith)
  ends-with (suc m) seen pending incomplete inside l = ends-next m (ends-with m) seen pending incomplete inside l

-- ---- THE WHOLE QUESTION: some number of turns is enough, and what comes out is `relation`

module _ (v : View) (g : Good v) (bare : (c : ℕ) → v.recorded c ≡ false → v.parents c ≡ []) (x y : ℕ) (hx : x < v.names) where
  -- without the test before it: Yes for what is reached
  pub searched : (x ≡ y → ⊥) → (n : ℕ) (r : Relation) → search v y n [] (x ∷ []) false ≡ some r → r ≡ cond (reach v x y) Yes (cond (complete v x) No Unknown)
  unfolding answer
  searched apart n r e =
      search-answer v g bare x y hx apart n [] (x ∷ []) false r
      (record {
        seen-reached = λ c m. absurd (Memᴰ.not-nil m);
        pending-reached = λ c m. ⊎_elim (λ q. ap (reach v x) q ∙ reach-refl v g x hx) (λ k. absurd (Memᴰ.not-nil k)) (Memᴰ.cases_cons m);
        begun = inr (Memᴰ.head refl);
        closed = λ c p m q. absurd (Memᴰ.not-nil m);
        lacking = λ q. absurd (false≢true q);
        lacking-none = λ q c m. absurd (Memᴰ.not-nil m);
      })
      e

  pub computed-relation : (n : ℕ) (r : Relation) → subtype_relation v x y n ≡ some r → r ≡ relation v x y
  unfolding subtype_relation relation
  computed-relation n r e = go (ancestor v x y) refl (ap (λ (t : Bool). cond t (some Yes) (search v y n [] (x ∷ []) false)) (sym (computed-ancestor v g x hx y)) ∙ e)
    where
      go : (t : Bool) → ancestor v x y ≡ t → cond t (some Yes) (search v y n [] (x ∷ []) false) ≡ some r → r ≡ cond t Yes (cond (complete v x) No Unknown)
      go true a f = let q : r ≡ Yes = cc in q
      go false a f =
          searched (λ q. true≢false (sym (ancestor-self v x) ∙ ap (ancestor v x) q ∙ a)) n r f
          ∙ ap (λ (t : Bool). cond t Yes (cond (complete v x) No Unknown)) (away (reach v x y) refl)
        where
          away : (t : Bool) → reach v x y ≡ t → t ≡ false
          away true m = absurd (true≢false (sym (reach-ancestor v x y m) ∙ a))
          away false m = refl

  pub computed-relation-ends : (n : ℕ) × (subtype_relation v x y n ≡ some (relation v x y))
  unfolding subtype_relation Ends InTable
  computed-relation-ends = go (ancestor v x y) refl
    where
      w : (n : ℕ) × (r : Relation) × (search v y n [] (x ∷ []) false ≡ some r)
      w =
          ends-with v g y (suc (tally (unseen []) v.names)) [] (x ∷ []) false
          (λ c m. ⊎_elim (λ q. subst (λ (z : ℕ). z < v.names) (sym q) hx) (λ k. absurd (Memᴰ.not-nil k)) (Memᴰ.cases_cons m))
          (omega arith)

      told : (n : ℕ) (r : Relation) → subtype_relation v x y n ≡ some r → (n : ℕ) × (subtype_relation v x y n ≡ some (relation v x y))
      told n r e = (n, e ∙ ap some (computed-relation n r e))

      go : (t : Bool) → ancestor v x y ≡ t → (n : ℕ) × (subtype_relation v x y n ≡ some (relation v x y))
      go true a = told 0 Yes (ap (λ (t : Bool). cond t (some Yes) (search v y 0 [] (x ∷ []) false)) (computed-ancestor v g x hx y ∙ a))
      go false a = told w.0 w.1 (ap (λ (t : Bool). cond t (some Yes) (search v y w.0 [] (x ∷ []) false)) (computed-ancestor v g x hx y ∙ a) ∙ w.2)
