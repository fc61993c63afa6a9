-- How the supertype is found with sets: what is strictly above a class is taken out, with one walk for each class that is
-- not above one looked at before. The records say what is left; the laws, over any good view, that the steps lead there.
use Rattle.std.specs.Prelude.{◌≡◌, Bool, cond, ◌&&◌, ◌||◌, ◌⊎◌, ◌↔◌, eqb}
use Rattle.std.proofs.Math.Path.{refl, sym, ap, ap₂}
use Rattle.std.proofs.Common.{◌∙◌, subst, true≢false, eq-or-lt_of_le, ne_eqb}
use Rattle.std.proofs.Math.Bool.{true, false, not, and-eq-true_iff}
use Rattle.std.proofs.lemmas.Bool.{false≢true, eqb-false}
use mathlib.Core.List.Memᴰ
use mathlib.Core.List.{List, [], ◌∷◌, Memᴰ}
use Rattle.std.proofs.Math.Logic.{inl, inr, ⊎_elim}
use Prim.Native.Nat.{ℕ, ◌≤◌, ◌<◌}
use Rattle.std.proofs.Math.Decide.{ℕ_discrete}
use native.Mathlib.Omega.{arith}
use Rattle.std.proofs.Math.ListN.{length}
use Rattle.sets.specs.Sets.{at, member, insert, remove, intersect, subtract, members, first}
use Rattle.sets.specs.Bits.{tally-le, tally-eq, first-le}
use Rattle.sets.specs.Laws.{at-insert-same, at-insert-other, member-cong, at-member, member-at, length-remove, member-remove, length-insert, member-intersect, length-intersect, member-subtract, length-subtract, at-subtract, members-all, count-tally, lowest-member, lowest-none}
use Rattle.view.specs.View.{View, reached, reach, ancestor, below}
use Rattle.view.specs.Reach.{Good, reach-refl, reach-trans, reached-formed}
use Rattle.view.specs.Ancestors.{ancestor-or}
use Rattle.view.specs.Below.{below-tests, below-object, object-not-below}
use Rattle.view.specs.Frontier.{member-lt}

-- of a set, without those of a list that reach d
unfoldable pub strip : View → ℕ → List ℕ → List ℕ → List ℕ
strip v d s [] = s
strip v d s (c ∷ cs) = strip v d (cond (reach v c d) (remove s c) s) cs

-- c is reached from d, and not d from c
abbrev pub Strict : View → ℕ → ℕ → Type 0
Strict v d c = (reach v d c ≡ true) × (reach v c d ≡ false)

-- r has the members of `all` with none of them strictly below by reach
pub record Lows (v : View) (all r : List ℕ) : Type 0 where
  pub size : length r ≡ 16
  pub has : (c : ℕ) → member all c ≡ true → ((d : ℕ) → member all d ≡ true → Strict v d c → ⊥) → member r c ≡ true
  pub inside : (c : ℕ) → member r c ≡ true → member all c ≡ true
  pub free : (c : ℕ) → member r c ≡ true → (d : ℕ) → member all d ≡ true → Strict v d c → ⊥

-- on the way there: what is out has one strictly below, and nothing that is left stands strictly above what was looked at
pub record Lowing (v : View) (all alive todo : List ℕ) : Type 0 where
  pub alive-size : length alive ≡ 16
  pub todo-size : length todo ≡ 16
  pub alive-in : (c : ℕ) → member alive c ≡ true → member all c ≡ true
  pub todo-in : (c : ℕ) → member todo c ≡ true → member all c ≡ true
  pub out : (c : ℕ) → member all c ≡ true → member alive c ≡ false → (d : ℕ) × (member all d ≡ true) × Strict v d c
  pub done : (c e : ℕ) → member all c ≡ true → member todo c ≡ false → member all e ≡ true → Strict v c e → member alive e ≡ false

-- ---- sets

-- what is in the one and not in the other
sub-only : (a b : List ℕ) (c : ℕ) → length a ≡ 16 → length b ≡ 16 → member (subtract a b) c ≡ true → (member a c ≡ true) × (member b c ≡ false)
sub-only a b c la lb m = go (member a c) (member b c) (sym (member-subtract a b c (la ∙ sym lb)) ∙ m)
  where
    go : (s t : Bool) → (s && not t) ≡ true → (s ≡ true) × (t ≡ false)
    go true true e = absurd (false≢true e)
    go true false e = (refl, refl)
    go false t e = absurd (false≢true e)

sub-out : (a b : List ℕ) (c : ℕ) → length a ≡ 16 → length b ≡ 16 → member (subtract a b) c ≡ false → (member a c ≡ false) ⊎ ((member a c ≡ true) × (member b c ≡ true))
sub-out a b c la lb m = go (member a c) (member b c) (sym (member-subtract a b c (la ∙ sym lb)) ∙ m)
  where
    go : (s t : Bool) → (s && not t) ≡ false → (s ≡ false) ⊎ ((s ≡ true) × (t ≡ true))
    go true true e = inr (refl, refl)
    go true false e = absurd (true≢false e)
    go false t e = inl refl

sub-none : (a b : List ℕ) (c : ℕ) → length a ≡ 16 → length b ≡ 16 → (member a c ≡ false) ⊎ (member b c ≡ true) → member (subtract a b) c ≡ false
sub-none a b c la lb w = member-subtract a b c (la ∙ sym lb) ∙ go (member a c) (member b c) w
  where
    go : (s t : Bool) → (s ≡ false) ⊎ (t ≡ true) → (s && not t) ≡ false
    go true true e = refl
    go true false (inl e) = e
    go true false (inr e) = absurd (false≢true e)
    go false t e = refl

-- ---- what strip leaves

module _ (v : View) (d : ℕ) where
  pub length-strip : (s cs : List ℕ) → length (strip v d s cs) ≡ length s
  unfolding strip
  length-strip s [] = refl
  length-strip s (c ∷ cs) = length-strip (cond (reach v c d) (remove s c) s) cs ∙ go (reach v c d)
    where
      go : (b : Bool) → length (cond b (remove s c) s) ≡ length s
      go true = length-remove s c
      go false = refl

  one-has : (s : List ℕ) (c e : ℕ) → member s e ≡ true → reach v e d ≡ false → member (cond (reach v c d) (remove s c) s) e ≡ true
  one-has s c e m n = go (reach v c d) refl
    where
      go : (b : Bool) → reach v c d ≡ b → member (cond b (remove s c) s) e ≡ true
      go true q =
          member-remove s c e
          ∙ ap₂ (λ (a b : Bool). not a && b) (ne_eqb e c (λ k. true≢false (sym q ∙ sym (ap (λ (z : ℕ). reach v z d) k) ∙ n))) m
      go false q = m

  one-only : (s : List ℕ) (c e : ℕ) → member (cond (reach v c d) (remove s c) s) e ≡ true → (member s e ≡ true) × (e ≡ c → reach v e d ≡ false)
  one-only s c e m = go (reach v c d) refl m
    where
      taken : (a b : Bool) → eqb e c ≡ a → (not a && b) ≡ true → (b ≡ true) × (e ≡ c → ⊥)
      taken true b q r = absurd (false≢true r)
      taken false b q r = (r, eqb-false e c q)

      go : (b : Bool) → reach v c d ≡ b → member (cond b (remove s c) s) e ≡ true → (member s e ≡ true) × (e ≡ c → reach v e d ≡ false)
      go true q k = let w = taken (eqb e c) (member s e) refl (sym (member-remove s c e) ∙ k) in (w.0, λ z. absurd (w.1 z))
      go false q k = (k, λ z. ap (λ (x : ℕ). reach v x d) z ∙ q)

  strip-has : (s cs : List ℕ) (e : ℕ) → member s e ≡ true → reach v e d ≡ false → member (strip v d s cs) e ≡ true
  unfolding strip
  strip-has s [] e m n = m
  strip-has s (c ∷ cs) e m n = strip-has (cond (reach v c d) (remove s c) s) cs e (one-has s c e m n) n

  strip-only : (s cs : List ℕ) (e : ℕ) → member (strip v d s cs) e ≡ true → (member s e ≡ true) × (Memᴰ e cs → reach v e d ≡ false)
  unfolding strip
  strip-only s [] e m = (m, λ k. absurd (Memᴰ.not-nil k))
  strip-only s (c ∷ cs) e m =
      let w = strip-only (cond (reach v c d) (remove s c) s) cs e m in
      let o = one-only s c e w.0 in
      (o.0, λ k. ⊎_elim o.1 w.1 (Memᴰ.cases_cons k))

module _ (v : View) (g : Good v) (all : List ℕ) (Below-names : (c : ℕ) → member all c ≡ true → c < v.names) where
  pub lowing-start : length all ≡ 16 → Lowing v all all all
  lowing-start l = record {
    alive-size = l;
    todo-size = l;
    alive-in = λ c m. m;
    todo-in = λ c m. m;
    out = λ c m n. absurd (true≢false (sym m ∙ n));
    done = λ c e m n k s. absurd (true≢false (sym m ∙ n));
  }

  module _ (alive todo : List ℕ) (st : Lowing v all alive todo) where
    -- nothing is left to be looked at
    pub lowing-end : first (at todo) 1024 ≡ 1024 → Lows v all alive
    lowing-end e = record {
      size = st.alive-size;
      has = λ c m none. go c m none (member alive c) refl;
      inside = st.alive-in;
      free = λ c m d k s. true≢false (sym m ∙ st.done d c k (lowest-none todo st.todo-size e d) (st.alive-in c m) s);
    }
      where
        go : (c : ℕ) → member all c ≡ true → ((d : ℕ) → member all d ≡ true → Strict v d c → ⊥) → (b : Bool) → member alive c ≡ b → b ≡ true
        go c m none true q = refl
        go c m none false q = absurd (let w = st.out c m q in none w.0 w.1 w.2)

    module _ (d : ℕ) (d-todo : member todo d ≡ true) (h : d < 1024) where
      abbrev both : List ℕ
      both = intersect (reached v d) alive

      abbrev above : List ℕ
      above = strip v d both (members (at both) 0 1024)

      d-all : member all d ≡ true
      d-all = st.todo-in d d-todo

      size-reached : length (reached v d) ≡ 16
      size-reached = (reached-formed v g d (Below-names d d-all)).0

      size-both : length both ≡ 16
      size-both = length-intersect (reached v d) alive (size-reached ∙ sym st.alive-size) ∙ size-reached

      size-above : length above ≡ 16
      size-above = length-strip v d both (members (at both) 0 1024) ∙ size-both

      above-has : (e : ℕ) → Strict v d e → member alive e ≡ true → member above e ≡ true
      unfolding reach
      above-has e s m =
          strip-has v d both (members (at both) 0 1024) e
          (member-intersect (reached v d) alive e (size-reached ∙ sym st.alive-size) ∙ ap₂ (λ (a b : Bool). a && b) s.0 m) s.1

      above-only : (e : ℕ) → member above e ≡ true → Strict v d e
      unfolding reach
      above-only e m =
          let w = strip-only v d both (members (at both) 0 1024) e m in (
            ((and-eq-true_iff (member (reached v d) e) (member alive e)).0 (sym (member-intersect (reached v d) alive e (size-reached ∙ sym st.alive-size)) ∙ w.0)).0,
            w.1 (members-all both 1024 e (member-lt both e size-both w.0) w.0),
          )

      -- what is strictly above a class that d reaches is strictly above d
      strict-on : (c e : ℕ) → reach v d c ≡ true → member all e ≡ true → Strict v c e → Strict v d e
      strict-on c e r m s = (reach-trans v g d c e (Below-names d d-all) r s.0, go (reach v e d) refl)
        where
          go : (b : Bool) → reach v e d ≡ b → b ≡ false
          go true q = absurd (true≢false (sym (reach-trans v g e d c (Below-names e m) q r) ∙ s.1))
          go false q = refl

      lowing-next : Lowing v all (subtract alive above) (subtract todo (reached v d))
      unfolding reach
      lowing-next = record {
        alive-size = length-subtract alive above (st.alive-size ∙ sym size-above) ∙ st.alive-size;
        todo-size = length-subtract todo (reached v d) (st.todo-size ∙ sym size-reached) ∙ st.todo-size;
        alive-in = λ c m. st.alive-in c (sub-only alive above c st.alive-size size-above m).0;
        todo-in = λ c m. st.todo-in c (sub-only todo (reached v d) c st.todo-size size-reached m).0;
        out = λ c m n. ⊎_elim (st.out c m) (λ w. (d, d-all, above-only c w.1)) (sub-out alive above c st.alive-size size-above n);
        done = λ c e m n k s.
            sub-none alive above e st.alive-size size-above
            (⊎_elim (λ q. inl (st.done c e m q k s)) (λ w. gone e (strict-on c e w.1 k s) (member alive e) refl) (sub-out todo (reached v d) c st.todo-size size-reached n));
      }
        where
          gone : (e : ℕ) → Strict v d e → (b : Bool) → member alive e ≡ b → (member alive e ≡ false) ⊎ (member above e ≡ true)
          gone e s true q = inr (above-has e s q)
          gone e s false q = inl q

      -- and one less is to be looked at
      lowing-less : length (members (at (subtract todo (reached v d))) 0 1024) < length (members (at todo) 0 1024)
      unfolding reach
      lowing-less =
          ⊎_elim
          (λ e.
          absurd
          (let a = tally-eq (at (subtract todo (reached v d))) (at todo) 1024 less (sym (count-tally (subtract todo (reached v d)) 1024) ∙ e ∙ count-tally todo 1024) d h in
          let b = at-subtract todo (reached v d) d (st.todo-size ∙ sym size-reached) in
          let c = at-member todo d d-todo in
          let r = at-member (reached v d) d (reach-refl v g d (Below-names d d-all)) in
          omega arith))
          (λ l. l)
          (eq-or-lt_of_le
          (let a = count-tally (subtract todo (reached v d)) 1024 in
          let b = count-tally todo 1024 in
          let c = tally-le (at (subtract todo (reached v d))) (at todo) 1024 less in
          omega arith))
        where
          less : (j : ℕ) → at (subtract todo (reached v d)) j ≤ at todo j
          less j = let a = at-subtract todo (reached v d) j (st.todo-size ∙ sym size-reached) in omega arith

      -- the same as the code has them
      module _ (r meet up : List ℕ) (e : r ≡ reached v d) (m : meet ≡ intersect r alive) (u : up ≡ strip v d meet (members (at meet) 0 1024)) where
        is-above : up ≡ above
        is-above = u ∙ ap (λ (w : List ℕ). strip v d w (members (at w) 0 1024)) (m ∙ ap (λ (w : List ℕ). intersect w alive) e)

        pub lowing-turn : (alive' todo' : List ℕ) → alive' ≡ subtract alive up → todo' ≡ subtract todo r → Lowing v all alive' todo'
        lowing-turn alive' todo' p q =
            subst (λ (w : List ℕ). Lowing v all w todo') (sym (p ∙ ap (subtract alive) is-above))
            (subst (λ (w : List ℕ). Lowing v all (subtract alive above) w) (sym (q ∙ ap (subtract todo) e)) lowing-next)

      pub lowing-fewer : (r todo' : List ℕ) → r ≡ reached v d → todo' ≡ subtract todo r → length (members (at todo') 0 1024) < length (members (at todo) 0 1024)
      lowing-fewer r todo' e q =
          subst (λ (w : List ℕ). length (members (at w) 0 1024) < length (members (at todo) 0 1024)) (sym (q ∙ ap (subtract todo) e)) lowing-less

-- ---- with Object

-- r has the members of `all` with none of them strictly below
pub record LowestOf (v : View) (all r : List ℕ) : Type 0 where
  pub size : length r ≡ 16
  pub exactly : (c : ℕ) → (member r c ≡ true) ↔ ((member all c ≡ true) × ((d : ℕ) → member all d ≡ true → below v d c ≡ false))

pub remove-in : (s : List ℕ) (i c : ℕ) → (c ≡ i → ⊥) → member (remove s i) c ≡ member s c
remove-in s i c n = member-remove s i c ∙ ap (λ (a : Bool). not a && member s c) (ne_eqb c i n)

pub remove-only : (s : List ℕ) (i c : ℕ) → member (remove s i) c ≡ true → (c ≡ i → ⊥) × (member s c ≡ true)
remove-only s i c m = go (eqb c i) refl (sym (member-remove s i c) ∙ m)
  where
    go : (a : Bool) → eqb c i ≡ a → (not a && member s c) ≡ true → (c ≡ i → ⊥) × (member s c ≡ true)
    go true q r = absurd (false≢true r)
    go false q r = (eqb-false c i q, r)

module _ (v : View) (g : Good v) (all low : List ℕ) (l : length all ≡ 16) (Below-names : (c : ℕ) → member all c ≡ true → c < v.names)
    (object-in : member all v.object ≡ true) (lows : Lows v (remove all v.object) low) where
  -- of two other than Object, strictly below is by reach
  plain : (d c : ℕ) → member all d ≡ true → member all c ≡ true → (d ≡ v.object → ⊥) → (c ≡ v.object → ⊥) → below v d c ≡ (reach v d c && not (reach v c d))
  plain d c hd hc nd nc = below-tests v d c ∙ ap₂ (λ (s t : Bool). s && not t) (one d c hd nc) (one c d hc nd)
    where
      one : (x y : ℕ) → member all x ≡ true → (y ≡ v.object → ⊥) → ancestor v x y ≡ reach v x y
      one x y h n = ancestor-or v g x y (Below-names x h) ∙ ap (λ (t : Bool). t || reach v x y) (ne_eqb y v.object n)

  strict-below : (d c : ℕ) → member all d ≡ true → member all c ≡ true → (d ≡ v.object → ⊥) → (c ≡ v.object → ⊥) → Strict v d c → below v d c ≡ true
  strict-below d c hd hc nd nc s = plain d c hd hc nd nc ∙ ap₂ (λ (a b : Bool). a && not b) s.0 s.1

  not-strict : (d c : ℕ) → member all d ≡ true → member all c ≡ true → (d ≡ v.object → ⊥) → (c ≡ v.object → ⊥) → (Strict v d c → ⊥) → below v d c ≡ false
  not-strict d c hd hc nd nc f = plain d c hd hc nd nc ∙ go (reach v d c) refl (reach v c d) refl
    where
      go : (a : Bool) → reach v d c ≡ a → (b : Bool) → reach v c d ≡ b → (a && not b) ≡ false
      go true p true q = refl
      go true p false q = absurd (f (p, q))
      go false p b q = refl

  -- a class other than Object
  other : (c : ℕ) → (c ≡ v.object → ⊥) → (member low c ≡ true) ↔ ((member all c ≡ true) × ((d : ℕ) → member all d ≡ true → below v d c ≡ false))
  other c n = (λ m. (in-all m, λ d k. free m d k (ℕ_discrete d v.object)), λ w. lows.has c (remove-in all v.object c n ∙ w.0) (λ d k s. none w d k s))
    where
      in-all : member low c ≡ true → member all c ≡ true
      in-all m = (remove-only all v.object c (lows.inside c m)).1

      free : member low c ≡ true → (d : ℕ) → member all d ≡ true → Dec (d ≡ v.object) → below v d c ≡ false
      free m d k (yes e) = ap (λ (x : ℕ). below v x c) e ∙ object-not-below v c
      free m d k (no e) = not-strict d c k (in-all m) e n (lows.free c m d (remove-in all v.object d e ∙ k))

      none : (member all c ≡ true) × ((d : ℕ) → member all d ≡ true → below v d c ≡ false) → (d : ℕ) → member (remove all v.object) d ≡ true → Strict v d c → ⊥
      none w d k s =
          let r = remove-only all v.object d k in
          true≢false (sym (strict-below d c r.1 w.0 r.0 n s) ∙ w.1 d r.1)

  object-out : member low v.object ≡ true → ⊥
  object-out m = (remove-only all v.object v.object (lows.inside v.object m)).0 refl

  -- what Object has not as an ancestor
  abbrev unreached : List ℕ
  unreached = subtract (remove all v.object) (reached v v.object)

  sizes : length (remove all v.object) ≡ length (reached v v.object)
  sizes = length-remove all v.object ∙ l ∙ sym (reached-formed v g v.object g.object-in).0

  object-reach : (d : ℕ) → (d ≡ v.object → ⊥) → below v d v.object ≡ not (reach v v.object d)
  object-reach d n = below-object v d ∙ ap not (ancestor-or v g v.object d g.object-in ∙ ap (λ (t : Bool). t || reach v v.object d) (ne_eqb d v.object n))

  -- Object has none below where it reaches all the others
  lowest-with : first (at unreached) 1024 ≡ 1024 → LowestOf v all (insert low v.object)
  unfolding reach
  lowest-with e = record { size = length-insert low v.object ∙ lows.size; exactly = λ c. go c (ℕ_discrete c v.object) }
    where
      free : (d : ℕ) → member all d ≡ true → Dec (d ≡ v.object) → below v d v.object ≡ false
      free d k (yes q) = ap (λ (x : ℕ). below v x v.object) q ∙ object-not-below v v.object
      free d k (no n) =
          object-reach d n
          ∙ ap not
          (⊎_elim (λ q. absurd (true≢false (sym (remove-in all v.object d n ∙ k) ∙ q))) (λ w. w.1)
          (sub-out (remove all v.object) (reached v v.object) d (length-remove all v.object ∙ l) (reached-formed v g v.object g.object-in).0
          (lowest-none unreached (length-subtract (remove all v.object) (reached v v.object) sizes ∙ length-remove all v.object ∙ l) e d)))

      go : (c : ℕ) → Dec (c ≡ v.object) → (member (insert low v.object) c ≡ true) ↔ ((member all c ≡ true) × ((d : ℕ) → member all d ≡ true → below v d c ≡ false))
      go c (yes q) =
          subst (λ (x : ℕ). (member (insert low v.object) x ≡ true) ↔ ((member all x ≡ true) × ((d : ℕ) → member all d ≡ true → below v d x ≡ false))) (sym q) (
            λ m. (object-in, λ d k. free d k (ℕ_discrete d v.object)),
            λ w. member-at (insert low v.object) v.object (at-insert-same low v.object (let a = lows.size in let b = g.few in let o = g.object-in in omega arith)),
          )
      go c (no n) = subst (λ (b : Bool). (b ≡ true) ↔ ((member all c ≡ true) × ((d : ℕ) → member all d ≡ true → below v d c ≡ false))) (sym (member-cong (insert low v.object) low c (at-insert-other low v.object c n))) (other c n)

  -- else it is out
  lowest-without : (first (at unreached) 1024 ≡ 1024 → ⊥) → LowestOf v all low
  unfolding reach
  lowest-without f = record { size = lows.size; exactly = λ c. go c (ℕ_discrete c v.object) }
    where
      x : ℕ
      x = first (at unreached) 1024

      x-in : (member (remove all v.object) x ≡ true) × (member (reached v v.object) x ≡ false)
      x-in =
          sub-only (remove all v.object) (reached v v.object) x (length-remove all v.object ∙ l) (reached-formed v g v.object g.object-in).0
          (lowest-member unreached 1024 (let b = first-le (at unreached) 1024 in omega arith))

      x-other : (x ≡ v.object → ⊥) × (member all x ≡ true)
      x-other = remove-only all v.object x x-in.0

      go : (c : ℕ) → Dec (c ≡ v.object) → (member low c ≡ true) ↔ ((member all c ≡ true) × ((d : ℕ) → member all d ≡ true → below v d c ≡ false))
      go c (yes q) = (
        λ m. absurd (object-out (subst (λ (x : ℕ). member low x ≡ true) q m)),
        λ w. absurd (true≢false (sym (ap (below v x) q ∙ object-reach x x-other.0 ∙ ap not x-in.1) ∙ w.1 x x-other.1)),
      )
      go c (no n) = other c n

-- the same as the code has them
module _ (v : View) (g : Good v) (all others low r un : List ℕ) (l : length all ≡ 16) (Below-names : (c : ℕ) → member all c ≡ true → c < v.names)
    (object-in : member all v.object ≡ true) (o : others ≡ remove all v.object) (lows : Lows v others low)
    (e : r ≡ reached v v.object) (u : un ≡ subtract others r) where
  is-unreached : un ≡ subtract (remove all v.object) (reached v v.object)
  is-unreached = u ∙ ap₂ (λ (a b : List ℕ). subtract a b) o e

  pub object-lowest : first (at un) 1024 ≡ 1024 → (s : List ℕ) → s ≡ insert low v.object → LowestOf v all s
  object-lowest f s q =
      subst (LowestOf v all) (sym q)
      (lowest-with v g all low l Below-names object-in (subst (λ (w : List ℕ). Lows v w low) o lows) (ap (λ (w : List ℕ). first (at w) 1024) (sym is-unreached) ∙ f))

  pub object-not-lowest : (first (at un) 1024 ≡ 1024 → ⊥) → LowestOf v all low
  object-not-lowest f =
      lowest-without v g all low l Below-names object-in (subst (λ (w : List ℕ). Lows v w low) o lows) (λ q. f (ap (λ (w : List ℕ). first (at w) 1024) is-unreached ∙ q))
