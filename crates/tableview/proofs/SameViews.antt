-- VIEWS THAT AGREE ANSWER ALIKE: the same parents as sets, the same facts; every relation, distance, set of ancestors, cast and least
-- common supertype is the same.
use Rattle.std.specs.Prelude.{◌≡◌, Bool, true, false, ◌&&◌, ◌||◌, length}
use Rattle.std.proofs.Math.Path.{refl, sym, ap, ap₂}
use Rattle.std.proofs.Common.{◌∙◌, true≢false, ⊎_elim, arith}
use Rattle.std.proofs.Math.Bool.{cond, not}
use mathlib.Core.List.{List, [], ◌∷◌, Memᴰ}
use Rattle.std.proofs.Math.Option.{Option, some, none}
use Prim.Native.Nat.{ℕ, zero, suc, ◌<◌}
use Rattle.std.proofs.Math.Decide.{dec_lt}
use Rattle.std.proofs.Math.Dec.{eqb}
use Rattle.order.specs.Truth.{implied-both}
use Rattle.sets.specs.Sets.{at, member, insert, members, first}
use Rattle.sets.specs.Bits.{first-ext}
use Rattle.sets.specs.Laws.{member-ext, member-past}
use Rattle.view.specs.View.{View, grow, level, reached, reach, steps, far, distance, ancestor, ancestors, all_recorded, complete, relation, cast_by_facts, cast, below, any_below, lowest, common, nearer, nearest, numbers, candidates, supertype}
use Rattle.view.specs.declared.Relation.TheVariants.{Yes, No, Unknown}
use Rattle.view.specs.Grow.{Formed, grow-formed, grow-has, grow-only, grow-keeps, member-le}
use Rattle.view.specs.Reach.{level-formed}
use Rattle.tableview.specs.SameViews.{SameView}

-- ---- levels

member-small : (s : List ℕ) (j : ℕ) → length s ≡ 16 → member s j ≡ true → j < 1024
member-small s j w m = go (dec_lt j 1024)
  where
    go : Dec (j < 1024) → j < 1024
    go (yes h) = h
    go (no n) = absurd (true≢false (sym m ∙ member-past s j (omega arith)))

module _ (v u : View) (h : (c p : ℕ) → Memᴰ p (v.parents c) → Memᴰ p (u.parents c)) where
  grow-in : (s : List ℕ) (j : ℕ) → Formed s → j < 1024 → member (grow v s) j ≡ true → member (grow u s) j ≡ true
  grow-in s j f l m =
      ⊎_elim (λ k. member-le s (grow u s) j (grow-keeps u s j) k)
      (λ w. grow-has u s w.0 j f (member-small s w.0 f.0 w.1) l w.1 (h w.0 j w.2))
      (grow-only v s j m)

-- the nearest of a list, by the nearest of its rest
nearest-first : (v : View) (left right c : ℕ) (cs : List ℕ) → nearest v left right cs ≡ none → nearest v left right (c ∷ cs) ≡ some c
unfolding nearest
nearest-first v left right c cs e = rw e

nearest-next : (v : View) (left right c : ℕ) (cs : List ℕ) (d : ℕ) → nearest v left right cs ≡ some d
    → nearest v left right (c ∷ cs) ≡ cond (nearer v left right c d) (some c) (some d)
unfolding nearest
nearest-next v left right c cs d e = rw e

module _ (v u : View) (k : SameView v u) where
  grow-same : (s : List ℕ) → Formed s → grow v s ≡ grow u s
  grow-same s f =
      let a = grow-formed v s f in
      let b = grow-formed u s f in
      member-ext (grow v s) (grow u s) (a.0 ∙ sym b.0) a.1 b.1
      (λ j l. let z = a.0 in let w : j < 1024 = omega arith in
      implied-both (member (grow v s) j) (member (grow u s) j)
      (grow-in v u (λ c p. (k.parents-same c p).0) s j f w)
      (grow-in u v (λ c p. (k.parents-same c p).1) s j f w))

  pub level-same : (n x : ℕ) → level v n x ≡ level u n x
  unfolding level
  level-same zero x = refl
  level-same (suc n) x = grow-same (level v n x) (level-formed v n x) ∙ ap (grow u) (level-same n x)

  pub reached-same : (x : ℕ) → reached v x ≡ reached u x
  unfolding reached
  reached-same x = level-same v.names x ∙ ap (λ (n : ℕ). level u n x) k.names-same

  pub reach-same : (x y : ℕ) → reach v x y ≡ reach u x y
  unfolding reach
  reach-same x y = ap (λ (s : List ℕ). member s y) (reached-same x)

  pub ancestor-same : (x y : ℕ) → ancestor v x y ≡ ancestor u x y
  unfolding ancestor
  ancestor-same x y = ap₂ (λ (o : ℕ) (b : Bool). eqb x y || (eqb y o || b)) k.object-same (reach-same x y)

  -- THE SET OF ANCESTORS
  pub ancestors-same : (x : ℕ) → ancestors v x ≡ ancestors u x
  unfolding ancestors
  ancestors-same x = ap₂ (λ (s : List ℕ) (o : ℕ). insert s o) (reached-same x) k.object-same

  steps-same : (x y : ℕ) → steps v x y ≡ steps u x y
  unfolding steps
  steps-same x y =
      first-ext (λ n. at (level v n x) y) (λ n. at (level u n x) y) (suc v.names) (λ n h. ap (λ (s : List ℕ). at s y) (level-same n x))
      ∙ ap (λ (m : ℕ). first (λ n. at (level u n x) y) (suc m)) k.names-same

  -- THE DISTANCE
  pub distance-same : (x y : ℕ) → distance v x y ≡ distance u x y
  unfolding distance
  distance-same x y i = cond (reach-same x y i) (some (steps-same x y i)) (cond (eqb y (k.object-same i)) (some far) none)

  all-recorded-same : (cs : List ℕ) → all_recorded v cs ≡ all_recorded u cs
  unfolding all_recorded
  all-recorded-same [] = refl
  all-recorded-same (c ∷ cs) = ap₂ (λ (a b : Bool). a && b) (k.recorded-same c) (all-recorded-same cs)

  pub complete-same : (x : ℕ) → complete v x ≡ complete u x
  unfolding complete
  complete-same x = all-recorded-same (members (at (reached v x)) 0 1024) ∙ ap (λ (s : List ℕ). all_recorded u (members (at s) 0 1024)) (reached-same x)

  -- THE RELATION
  pub relation-same : (x y : ℕ) → relation v x y ≡ relation u x y
  unfolding relation
  relation-same x y i = cond (ancestor-same x y i) Yes (cond (complete-same x i) No Unknown)

  -- THE CAST
  pub cast-same : (x y : ℕ) → cast v x y ≡ cast u x y
  unfolding cast
  cast-same x y i =
      (ancestor-same x y i || ancestor-same y x i)
      || ((k.declared-same x i && k.declared-same y i)
      && cast_by_facts (k.interface-same x i) (k.final-same x i) (k.interface-same y i) (k.final-same y i))

  below-same : (d c : ℕ) → below v d c ≡ below u d c
  unfolding below
  below-same d c = ap₂ (λ (a b : Bool). not (eqb d c) && (a && not b)) (ancestor-same d c) (ancestor-same c d)

  any-below-same : (ds : List ℕ) (c : ℕ) → any_below v ds c ≡ any_below u ds c
  unfolding any_below
  any-below-same [] c = refl
  any-below-same (d ∷ ds) c = ap₂ (λ (a b : Bool). a || b) (below-same d c) (any-below-same ds c)

  lowest-same : (all cs : List ℕ) → lowest v all cs ≡ lowest u all cs
  unfolding lowest
  lowest-same all [] = refl
  lowest-same all (c ∷ cs) = ap₂ (λ (b : Bool) (l : List ℕ). cond b l (c ∷ l)) (any-below-same all c) (lowest-same all cs)

  module _ (left right : ℕ) where
    common-same : (cs : List ℕ) → common v left right cs ≡ common u left right cs
    unfolding common
    common-same [] = refl
    common-same (c ∷ cs) =
        ap₂ (λ (b : Bool) (l : List ℕ). cond b (c ∷ l) l) (ap₂ (λ (a b : Bool). a && b) (ancestor-same left c) (ancestor-same right c)) (common-same cs)

    nearer-same : (c d : ℕ) → nearer v left right c d ≡ nearer u left right c d
    unfolding nearer
    nearer-same c d = simp (distance-same left c, distance-same right c, distance-same left d, distance-same right d)

    nearest-same : (cs : List ℕ) → nearest v left right cs ≡ nearest u left right cs
    unfolding nearest
    nearest-same [] = refl
    nearest-same (c ∷ cs) = go (nearest u left right cs) refl (nearest-same cs)
      where
        go : (o : Option ℕ) → nearest u left right cs ≡ o → nearest v left right cs ≡ nearest u left right cs
            → nearest v left right (c ∷ cs) ≡ nearest u left right (c ∷ cs)
        go none e q = nearest-first v left right c cs (q ∙ e) ∙ sym (nearest-first u left right c cs e)
        go (some d) e q =
            nearest-next v left right c cs d (q ∙ e) ∙ ap (λ (b : Bool). cond b (some c) (some d)) (nearer-same c d)
            ∙ sym (nearest-next u left right c cs d e)

    candidates-same : candidates v left right ≡ candidates u left right
    unfolding candidates
    candidates-same = common-same (numbers 0 v.names) ∙ ap (λ (n : ℕ). common u left right (numbers 0 n)) k.names-same

    lows-same : lowest v (candidates v left right) (candidates v left right) ≡ lowest u (candidates u left right) (candidates u left right)
    lows-same = lowest-same (candidates v left right) (candidates v left right) ∙ ap (λ (l : List ℕ). lowest u l l) candidates-same

    -- THE LEAST COMMON SUPERTYPE
    pub supertype-same : supertype v left right ≡ supertype u left right
    unfolding supertype
    supertype-same =
        let n = nearest-same (lowest v (candidates v left right) (candidates v left right)) ∙ ap (nearest u left right) lows-same in
        λ i. cond (ancestor-same left right i) (some right) (cond (ancestor-same right left i) (some left) (n i))
