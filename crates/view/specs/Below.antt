-- Strictly below: an ancestor one way and not the other. It is a strict order for any records, cycles and parents of Object
-- included, since Object is below nothing and the rest is by reach; so of a list that is not empty some have none below.
use Rattle.std.specs.Prelude.{◌≡◌, Bool, ◌&&◌, ◌||◌, ◌⊎◌, ℕ, ◌≤◌, ◌<◌, ltb, length}
use Rattle.std.proofs.Math.Path.{refl, sym, ap}
use Rattle.std.proofs.Common.{ap₂, ◌∙◌, subst, true≢false, inl, inr, eq-or-lt_of_le, eq-eqb, ne_eqb, lt-ltb, le-ltb, eqb-true}
use Rattle.std.proofs.Math.Bool.{true, false, cond, not}
use Rattle.std.proofs.lemmas.Bool.{false≢true}
use mathlib.Core.List.Memᴰ
use mathlib.Core.List.{List, [], ◌∷◌, Memᴰ}
use Rattle.std.proofs.Math.Logic.{⊎_elim}
use Rattle.std.proofs.Math.Decide.{dec_lt, ℕ_discrete}
use native.Mathlib.Omega.{arith}
use Rattle.std.proofs.Math.Dec.{eqb}
use Rattle.sets.specs.Sets.{at, member, members}
use Rattle.sets.specs.Bits.{tally-le, tally-eq}
use Rattle.sets.specs.Laws.{at-member, at-none, count-tally}
use Rattle.view.specs.View.{View, reached, reach, ancestor, below, any_below, lowest}
use Rattle.view.specs.Grow.{count-above}
use Rattle.view.specs.Reach.{Good, reach-refl, reached-subset}
use Rattle.view.specs.Ancestors.{ancestor-self, ancestor-object, ancestor-or, ancestor-reach, ancestor-trans}

-- ---- the size of a set

abbrev pub size : List ℕ → ℕ
size s = length (members (at s) 0 1024)

-- a set with all of another's members is at least as large, and larger if it has one more
size-le : (s t : List ℕ) → ((j : ℕ) → at s j ≤ at t j) → size s ≤ size t
size-le s t h =
    let a = count-tally s 1024 in
    let b = count-tally t 1024 in
    let c = tally-le (at s) (at t) 1024 h in
    omega arith

size-lt : (s t : List ℕ) → ((j : ℕ) → at s j ≤ at t j) → (i : ℕ) → i < 1024 → member s i ≡ false → member t i ≡ true → size s < size t
size-lt s t h i l out in' =
    ⊎_elim
    (λ e. absurd (let a = tally-eq (at s) (at t) 1024 h (sym (count-tally s 1024) ∙ e ∙ count-tally t 1024) i l in let b = at-none s i out in let c = at-member t i in' in omega arith))
    (λ k. k)
    (eq-or-lt_of_le (size-le s t h))

module _ (v : View) where
  -- ---- strictly below

  -- whoever is an ancestor both ways is not, so a class is not below itself
  pub below-tests : (d c : ℕ) → below v d c ≡ (ancestor v d c && not (ancestor v c d))
  unfolding below
  below-tests d c = go (eqb d c) refl (ancestor v d c)
    where
      go : (t : Bool) → eqb d c ≡ t → (a : Bool) → (not t && (a && not (ancestor v c d))) ≡ (a && not (ancestor v c d))
      go true e true = sym (ap not (subst (λ (z : ℕ). ancestor v c z ≡ true) (sym (eqb-true d c e)) (ancestor-self v c)))
      go true e false = refl
      go false e a = refl

  pub below-not : (d c : ℕ) → ancestor v c d ≡ true → below v d c ≡ false
  below-not d c a = below-tests d c ∙ ap (λ (t : Bool). ancestor v d c && not t) a ∙ go (ancestor v d c)
    where
      go : (t : Bool) → (t && false) ≡ false
      go true = refl
      go false = refl

  pub below-irreflexive : (c : ℕ) → below v c c ≡ false
  below-irreflexive c = below-not c c (ancestor-self v c)

  -- OBJECT is below nothing
  pub object-not-below : (c : ℕ) → below v v.object c ≡ false
  object-not-below c = below-not v.object c (ancestor-object v c)

  -- what is below Object: all that Object has not as an ancestor
  pub below-object : (d : ℕ) → below v d v.object ≡ not (ancestor v v.object d)
  below-object d = below-tests d v.object ∙ ap (λ (t : Bool). t && not (ancestor v v.object d)) (ancestor-object v d)

  pub below-up : (d c : ℕ) → below v d c ≡ true → (ancestor v d c ≡ true) × (ancestor v c d ≡ false)
  below-up d c b = go (ancestor v d c) (ancestor v c d) (sym (below-tests d c) ∙ b)
    where
      go : (s t : Bool) → (s && not t) ≡ true → (s ≡ true) × (t ≡ false)
      go true true e = absurd (false≢true e)
      go true false e = (refl, refl)
      go false t e = absurd (false≢true e)

  -- how far a class stands from the top: Object 0, else the number of classes it reaches
  unfoldable pub rank : ℕ → ℕ
  rank c = cond (eqb c v.object) 0 (size (reached v c))

  rank-object : rank v.object ≡ 0
  unfolding rank
  rank-object = ap (λ (t : Bool). cond t 0 (size (reached v v.object))) (eq-eqb v.object v.object refl)

  rank-other : (c : ℕ) → (c ≡ v.object → ⊥) → rank c ≡ size (reached v c)
  unfolding rank
  rank-other c n = ap (λ (t : Bool). cond t 0 (size (reached v c))) (ne_eqb c v.object n)

module _ (v : View) (g : Good v) where
  reached-size : (c : ℕ) → c < v.names → 0 < size (reached v c)
  unfolding reach
  reached-size c h =
      let f = g.few in
      let e = count-tally (reached v c) 1024 in
      let p = count-above (reached v c) c (omega arith) (reach-refl v g c h) in
      omega arith

  smaller : (c d : ℕ) → d < v.names → reach v d c ≡ true → reach v c d ≡ false → size (reached v c) < size (reached v d)
  unfolding reach
  smaller c d h r n =
      size-lt (reached v c) (reached v d) (reached-subset v g d c h r) d (let f = g.few in omega arith) n (reach-refl v g d h)

  -- FOR THE CODE: of two classes other than Object, d is strictly below c exactly if it reaches c and reaches more
  pub below-sizes : (d c : ℕ) → d < v.names → c < v.names → (d ≡ v.object → ⊥) → (c ≡ v.object → ⊥)
      → below v d c ≡ (reach v d c && ltb (size (reached v c)) (size (reached v d)))
  below-sizes d c h k nd nc =
      below-tests v d c ∙ ap₂ (λ (s t : Bool). s && not t) (plain d c h nc) (plain c d k nd) ∙ go (reach v d c) refl (reach v c d) refl
    where
      plain : (x y : ℕ) → x < v.names → (y ≡ v.object → ⊥) → ancestor v x y ≡ reach v x y
      plain x y l n = ancestor-or v g x y l ∙ ap (λ (t : Bool). t || reach v x y) (ne_eqb y v.object n)

      go : (s : Bool) → reach v d c ≡ s → (t : Bool) → reach v c d ≡ t → (s && not t) ≡ (s && ltb (size (reached v c)) (size (reached v d)))
      go true p true q = sym (le-ltb (size (reached v c)) (size (reached v d)) (size-le (reached v d) (reached v c) (reached-subset v g c d k q)))
      go true p false q = sym (lt-ltb (size (reached v c)) (size (reached v d)) (smaller c d h p q))
      go false p t q = refl

  not-object : (d c : ℕ) → below v d c ≡ true → d ≡ v.object → ⊥
  not-object d c b e = true≢false (sym b ∙ ap (λ (z : ℕ). below v z c) e ∙ object-not-below v c)

  -- ACYCLIC: whoever is strictly below has the greater rank
  pub below-rank : (d c : ℕ) → d < v.names → c < v.names → below v d c ≡ true → rank v c < rank v d
  below-rank d c h k b = go (ℕ_discrete d v.object) (ℕ_discrete c v.object)
    where
      go : Dec (d ≡ v.object) → Dec (c ≡ v.object) → rank v c < rank v d
      go (yes e) o = absurd (not-object d c b e)
      go (no n) (yes e) = let z = ap (rank v) e ∙ rank-object v in let p = rank-other v d n in let q = reached-size d h in omega arith
      go (no n) (no m) =
          let a = below-up v d c b in
          let r = ancestor-reach v g d c h m a.0 in
          let s = sym (ancestor-or v g c d k ∙ ap (λ (t : Bool). t || reach v c d) (ne_eqb d v.object n)) ∙ a.1 in
          let l = smaller c d h r s in
          let p = rank-other v d n in
          let q = rank-other v c m in
          omega arith

  -- and it is transitive
  pub below-trans : (e d c : ℕ) → e < v.names → c < v.names → below v e d ≡ true → below v d c ≡ true → below v e c ≡ true
  below-trans e d c he hc p q =
      let up : ancestor v e c ≡ true = ancestor-trans v g e d c he (not-object d c q) (below-up v e d p).0 (below-up v d c q).0 in
      below-tests v e c ∙ ap₂ (λ (s t : Bool). s && not t) up (go (ancestor v c e) refl)
    where
      go : (t : Bool) → ancestor v c e ≡ t → t ≡ false
      go true a = absurd (true≢false (sym (ancestor-trans v g c e d hc (not-object e d p) a (below-up v e d p).0) ∙ (below-up v d c q).1))
      go false a = refl

module _ (v : View) where
  -- ---- those of a list with none of `all` strictly below

  pub any_below-false : (ds : List ℕ) (c : ℕ) → any_below v ds c ≡ false → (d : ℕ) → Memᴰ d ds → below v d c ≡ false
  unfolding any_below
  any_below-false [] c e d m = absurd (Memᴰ.not-nil m)
  any_below-false (b ∷ ds) c e d m = go (below v b c) refl e (Memᴰ.cases_cons m) (λ q r. any_below-false ds c q d r)
    where
      go : (t : Bool) → below v b c ≡ t → (t || any_below v ds c) ≡ false → (d ≡ b) ⊎ Memᴰ d ds → (any_below v ds c ≡ false → Memᴰ d ds → below v d c ≡ false) → below v d c ≡ false
      go true p q w ih = absurd (true≢false q)
      go false p q (inl k) ih = ap (λ (z : ℕ). below v z c) k ∙ p
      go false p q (inr r) ih = ih q r

  pub any_below-none : (ds : List ℕ) (c : ℕ) → ((d : ℕ) → Memᴰ d ds → below v d c ≡ false) → any_below v ds c ≡ false
  unfolding any_below
  any_below-none [] c f = refl
  any_below-none (b ∷ ds) c f =
      ap (λ (t : Bool). t || any_below v ds c) (f b (Memᴰ.head refl)) ∙ any_below-none ds c (λ d m. f d (Memᴰ.tail m))

  module _ (all : List ℕ) where
    pub lowest-has : (cs : List ℕ) (c : ℕ) → Memᴰ c cs → any_below v all c ≡ false → Memᴰ c (lowest v all cs)
    unfolding lowest
    lowest-has [] c m e = absurd (Memᴰ.not-nil m)
    lowest-has (d ∷ cs) c m e = go (any_below v all d) refl (Memᴰ.cases_cons m) (λ r. lowest-has cs c r e)
      where
        go : (t : Bool) → any_below v all d ≡ t → (c ≡ d) ⊎ Memᴰ c cs → (Memᴰ c cs → Memᴰ c (lowest v all cs)) → Memᴰ c (cond t (lowest v all cs) (d ∷ lowest v all cs))
        go true p (inl q) ih = absurd (true≢false (sym p ∙ sym (ap (any_below v all) q) ∙ e))
        go true p (inr r) ih = ih r
        go false p (inl q) ih = Memᴰ.head q
        go false p (inr r) ih = Memᴰ.tail (ih r)

    pub lowest-only : (cs : List ℕ) (c : ℕ) → Memᴰ c (lowest v all cs) → Memᴰ c cs × (any_below v all c ≡ false)
    unfolding lowest
    lowest-only [] c m = absurd (Memᴰ.not-nil m)
    lowest-only (d ∷ cs) c m = go (any_below v all d) refl m (lowest-only cs c)
      where
        go : (t : Bool) → any_below v all d ≡ t → Memᴰ c (cond t (lowest v all cs) (d ∷ lowest v all cs))
            → (Memᴰ c (lowest v all cs) → Memᴰ c cs × (any_below v all c ≡ false)) → Memᴰ c (d ∷ cs) × (any_below v all c ≡ false)
        go true p k ih = let w = ih k in (Memᴰ.tail w.0, w.1)
        go false p k ih =
            ⊎_elim (λ e. (Memᴰ.head e, ap (any_below v all) e ∙ p)) (λ r. let w = ih r in (Memᴰ.tail w.0, w.1)) (Memᴰ.cases_cons k)

  -- one of a list has the greatest rank
  greatest : (c : ℕ) (cs : List ℕ) → (m : ℕ) × Memᴰ m (c ∷ cs) × ((d : ℕ) → Memᴰ d (c ∷ cs) → rank v d ≤ rank v m)
  greatest c [] =
      (c, Memᴰ.head refl, λ d k. ⊎_elim (λ e. let q = ap (rank v) e in omega arith) (λ r. absurd (Memᴰ.not-nil r)) (Memᴰ.cases_cons k))
  greatest c (b ∷ cs) = go (greatest b cs)
    where
      go : (m : ℕ) × Memᴰ m (b ∷ cs) × ((d : ℕ) → Memᴰ d (b ∷ cs) → rank v d ≤ rank v m)
          → (m : ℕ) × Memᴰ m (c ∷ b ∷ cs) × ((d : ℕ) → Memᴰ d (c ∷ b ∷ cs) → rank v d ≤ rank v m)
      go w = pick (dec_lt (rank v w.0) (rank v c))
        where
          pick : Dec (rank v w.0 < rank v c) → (m : ℕ) × Memᴰ m (c ∷ b ∷ cs) × ((d : ℕ) → Memᴰ d (c ∷ b ∷ cs) → rank v d ≤ rank v m)
          pick (yes l) = (
            c,
            Memᴰ.head refl,
            λ d k. ⊎_elim (λ e. let q = ap (rank v) e in omega arith) (λ r. let q = w.2 d r in omega arith) (Memᴰ.cases_cons k),
          )
          pick (no n) = (
            w.0,
            Memᴰ.tail w.1,
            λ d k. ⊎_elim (λ e. let q = ap (rank v) e in omega arith) (λ r. w.2 d r) (Memᴰ.cases_cons k),
          )

module _ (v : View) (g : Good v) where
  -- OF A LIST that is not empty some have none strictly below
  pub some-lowest : (cs : List ℕ) (c : ℕ) → Memᴰ c cs → ((d : ℕ) → Memᴰ d cs → d < v.names) → (m : ℕ) × Memᴰ m (lowest v cs cs)
  some-lowest [] c k inside = absurd (Memᴰ.not-nil k)
  some-lowest (b ∷ cs) c k inside = (top, lowest-has v (b ∷ cs) (b ∷ cs) top (greatest v b cs).1 (any_below-none v (b ∷ cs) top (λ d m. none-below d m (below v d top) refl)))
    where
      top : ℕ
      top = (greatest v b cs).0

      none-below : (d : ℕ) → Memᴰ d (b ∷ cs) → (t : Bool) → below v d top ≡ t → t ≡ false
      none-below d m true e = absurd (let l = below-rank v g d top (inside d m) (inside top (greatest v b cs).1) e in let r = (greatest v b cs).2 d m in omega arith)
      none-below d m false e = refl
