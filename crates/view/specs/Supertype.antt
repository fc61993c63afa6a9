-- The least common supertype: it is never none, it is an ancestor of both, none stands strictly below it, it is the nearest of
-- those, and the two classes may be exchanged unless each is an ancestor of the other. Cycles and parents of Object included.
use Rattle.std.specs.Prelude.{◌≡◌, Bool, ◌&&◌, ◌⊎◌, ◌↔◌, eqb}
use Rattle.std.proofs.Math.Path.{refl, sym, ap, ap₂}
use Rattle.std.proofs.Common.{◌∙◌, subst, true≢false, inl, inr, eq-or-lt_of_le, suc-add}
use Rattle.std.proofs.Math.Bool.{true, false, cond, and-eq-true_iff}
use mathlib.Core.List.Memᴰ
use mathlib.Core.List.{List, [], ◌∷◌, Memᴰ}
use Rattle.std.proofs.Math.Logic.{⊎_elim}
use Rattle.std.proofs.Math.Option.{some}
use Prim.Native.Nat.{ℕ, zero, suc, ◌+◌, ◌-◌, ◌≤◌, ◌<◌}
use native.Mathlib.Omega.{arith}
use Rattle.sets.specs.Sets.{at, member, intersect, keep, members}
use Rattle.sets.specs.Laws.{at-lt, at-none, member-intersect}
use Rattle.view.specs.View.{View, ancestor, ancestors, common, below, lowest, nearer, nearest, numbers, candidates, supertype}
use Rattle.view.specs.Reach.{Good, Path}
use Rattle.view.specs.Ancestors.{ancestor-self, ancestor-object, ancestor-below, ancestor-antisymmetric, ancestors-formed, ancestors-member}
use Rattle.view.specs.Below.{below-not, any_below-false, any_below-none, lowest-has, lowest-only, some-lowest}
use Rattle.view.specs.Nearest.{nearest-some, nearest-in, nearest-least, nearest-swap}

-- an ancestor of both
abbrev pub Common : View → ℕ → ℕ → ℕ → Type 0
Common v left right c = (ancestor v left c ≡ true) × (ancestor v right c ≡ true)

-- no common ancestor stands strictly below
abbrev pub Lowest : View → ℕ → ℕ → ℕ → Type 0
Lowest v left right c = (d : ℕ) → Common v left right d → below v d c ≡ false

-- members that are all below i + n are found among the n numbers from i on
members-none : (f : ℕ → ℕ) (i n : ℕ) → ((k : ℕ) → i ≤ k → f k ≡ 0) → members f i n ≡ []
unfolding members
members-none f i zero z = refl
members-none f i (suc n) z = ap (λ (d : ℕ). keep d i (members f (suc i) n)) (z i (omega arith)) ∙ members-none f (suc i) n (λ k l. z k (omega arith))

members-few : (f : ℕ → ℕ) (i n k : ℕ) → ((j : ℕ) → i + n ≤ j → f j ≡ 0) → members f i (n + k) ≡ members f i n
unfolding members
members-few f i zero k z = members-none f i (0 + k) (λ j l. z j (omega arith))
members-few f i (suc n) k z = ap (members f i) (suc-add n k) ∙ ap (keep (f i) i) (members-few f (suc i) n k (λ j l. z j (omega arith)))

-- a number in range is among the numbers
pub numbers-has : (i n c : ℕ) → i ≤ c → c < i + n → Memᴰ c (numbers i n)
unfolding numbers
numbers-has i zero c l h = absurd (omega arith)
numbers-has i (suc n) c l h =
    ⊎_elim (λ e. Memᴰ.head (sym e)) (λ k. Memᴰ.tail (numbers-has (suc i) n c k (omega arith))) (eq-or-lt_of_le l)

module _ (v : View) where
  -- ---- the common ancestors of a list

  module _ (left right : ℕ) where
    pub common-has : (cs : List ℕ) (c : ℕ) → Memᴰ c cs → Common v left right c → Memᴰ c (common v left right cs)
    unfolding common
    common-has [] c m w = absurd (Memᴰ.not-nil m)
    common-has (d ∷ cs) c m w = go (ancestor v left d && ancestor v right d) refl (Memᴰ.cases_cons m) (λ r. common-has cs c r w)
      where
        go : (t : Bool) → (ancestor v left d && ancestor v right d) ≡ t → (c ≡ d) ⊎ Memᴰ c cs → (Memᴰ c cs → Memᴰ c (common v left right cs))
            → Memᴰ c (cond t (d ∷ common v left right cs) (common v left right cs))
        go true e (inl q) ih = Memᴰ.head q
        go true e (inr r) ih = Memᴰ.tail (ih r)
        go false e (inl q) ih =
            absurd (true≢false (sym (ap₂ (λ (s t : Bool). s && t) (sym (ap (ancestor v left) q) ∙ w.0) (sym (ap (ancestor v right) q) ∙ w.1)) ∙ e))
        go false e (inr r) ih = ih r

    pub common-only : (cs : List ℕ) (c : ℕ) → Memᴰ c (common v left right cs) → Common v left right c
    unfolding common
    common-only [] c m = absurd (Memᴰ.not-nil m)
    common-only (d ∷ cs) c m = go (ancestor v left d) (ancestor v right d) refl refl m (common-only cs c)
      where
        go : (s t : Bool) → ancestor v left d ≡ s → ancestor v right d ≡ t → Memᴰ c (cond (s && t) (d ∷ common v left right cs) (common v left right cs))
            → (Memᴰ c (common v left right cs) → Common v left right c) → Common v left right c
        go true true p q k ih = ⊎_elim (λ e. (ap (ancestor v left) e ∙ p, ap (ancestor v right) e ∙ q)) ih (Memᴰ.cases_cons k)
        go true false p q k ih = ih k
        go false t p q k ih = ih k

    pub common-swap : (cs : List ℕ) → common v left right cs ≡ common v right left cs
    unfolding common
    common-swap [] = refl
    common-swap (c ∷ cs) = go (ancestor v left c) (ancestor v right c) (common-swap cs)
      where
        go : (s t : Bool) → common v left right cs ≡ common v right left cs
            → cond (s && t) (c ∷ common v left right cs) (common v left right cs) ≡ cond (t && s) (c ∷ common v right left cs) (common v right left cs)
        go true true e = ap (λ (l : List ℕ). c ∷ l) e
        go true false e = e
        go false true e = e
        go false false e = e

    -- ---- the three ways of the definition

    pub supertype-right : ancestor v left right ≡ true → supertype v left right ≡ some right
    unfolding supertype
    supertype-right a = rw a

    pub supertype-left : ancestor v left right ≡ false → ancestor v right left ≡ true → supertype v left right ≡ some left
    unfolding supertype
    supertype-left a b = rw (a, b)

    pub supertype-other : ancestor v left right ≡ false → ancestor v right left ≡ false
        → supertype v left right ≡ nearest v left right (lowest v (candidates v left right) (candidates v left right))
    unfolding supertype
    supertype-other a b = rw (a, b)

  -- THE TWO MAY BE EXCHANGED, unless they are two that are each an ancestor of the other
  pub supertype-swap : (left right : ℕ) → (ancestor v left right ≡ true → ancestor v right left ≡ true → left ≡ right) → supertype v left right ≡ supertype v right left
  unfolding candidates
  supertype-swap left right h = go (ancestor v left right) refl (ancestor v right left) refl
    where
      go : (s : Bool) → ancestor v left right ≡ s → (t : Bool) → ancestor v right left ≡ t → supertype v left right ≡ supertype v right left
      go true a true b = supertype-right left right a ∙ ap some (sym (h a b)) ∙ sym (supertype-right right left b)
      go true a false b = supertype-right left right a ∙ sym (supertype-left right left b a)
      go false a true b = supertype-left left right a b ∙ sym (supertype-right right left b)
      go false a false b =
          supertype-other left right a b
          ∙ nearest-swap v left right (lowest v (candidates v left right) (candidates v left right))
          ∙ ap (λ (cs : List ℕ). nearest v right left (lowest v cs cs)) (common-swap left right (numbers 0 v.names))
          ∙ sym (supertype-other right left b a)

  -- ---- the common ancestors among the numbers from i on, as the members of a set

  common-members : (left right : ℕ) (f : ℕ → ℕ) → ((k : ℕ) → (ancestor v left k && ancestor v right k) ≡ eqb (f k) 1) → ((k : ℕ) → f k < 2)
      → (i n : ℕ) → common v left right (numbers i n) ≡ members f i n
  unfolding common numbers members
  common-members left right f same digit i zero = refl
  common-members left right f same digit i (suc n) =
      ap₂ (λ (t : Bool) (l : List ℕ). cond t (i ∷ l) l) (same i) (common-members left right f same digit (suc i) n) ∙ go (f i) (digit i)
    where
      go : (d : ℕ) → d < 2 → cond (eqb d 1) (i ∷ members f (suc i) n) (members f (suc i) n) ≡ keep d i (members f (suc i) n)
      go zero l = refl
      go (suc zero) l = refl
      go (suc (suc d)) l = absurd (omega arith)

module _ (v : View) (g : Good v) (left right : ℕ) (hl : left < v.names) (hr : right < v.names) where
  -- ---- THE CANDIDATES are exactly the common ancestors, and Object is always one

  pub candidates-exactly : (c : ℕ) → Memᴰ c (candidates v left right) ↔ Common v left right c
  unfolding candidates
  candidates-exactly c = (
    common-only v left right (numbers 0 v.names) c,
    λ w.
        let l = ancestor-below v g left c hl w.0 in
        common-has v left right (numbers 0 v.names) c (numbers-has 0 v.names c (omega arith) (omega arith)) w,
  )

  pub candidates-object : Memᴰ v.object (candidates v left right)
  candidates-object = (candidates-exactly v.object).1 (ancestor-object v left, ancestor-object v right)

  -- FOR THE CODE: they are the members of what the two sets of ancestors have in common
  pub candidates-set : candidates v left right ≡ members (at (intersect (ancestors v left) (ancestors v right))) 0 1024
  unfolding candidates member
  candidates-set =
      common-members v left right f same (at-lt both) 0 v.names
      ∙ sym (members-few f 0 v.names (1024 - v.names) (λ j l. past j (omega arith)))
      ∙ ap (members f 0) (let few = g.few in let e : v.names + (1024 - v.names) ≡ 1024 = omega arith in e)
    where
      both : List ℕ
      both = intersect (ancestors v left) (ancestors v right)

      f : ℕ → ℕ
      f = at both

      same : (k : ℕ) → (ancestor v left k && ancestor v right k) ≡ member both k
      same k =
          sym
          (member-intersect (ancestors v left) (ancestors v right) k ((ancestors-formed v g left hl).0 ∙ sym (ancestors-formed v g right hr).0)
          ∙ ap₂ (λ (s t : Bool). s && t) (ancestors-member v g left hl k) (ancestors-member v g right hr k))

      past : (j : ℕ) → v.names ≤ j → f j ≡ 0
      past j l = go (member both j) refl
        where
          go : (t : Bool) → member both j ≡ t → at both j ≡ 0
          go true m = absurd (let b = ancestor-below v g left j hl ((and-eq-true_iff (ancestor v left j) (ancestor v right j)).0 (same j ∙ m)).0 in omega arith)
          go false m = at-none both j m

  below-both : (c d : ℕ) → Memᴰ c (lowest v (candidates v left right) (candidates v left right)) → Memᴰ d (candidates v left right) → below v d c ≡ false
  below-both c d m k = any_below-false v (candidates v left right) c (lowest-only v (candidates v left right) (candidates v left right) c m).1 d k

  -- NEVER NONE
  pub supertype-some : (c : ℕ) × (supertype v left right ≡ some c)
  supertype-some = go (ancestor v left right) refl (ancestor v right left) refl
    where
      go : (s : Bool) → ancestor v left right ≡ s → (t : Bool) → ancestor v right left ≡ t → (c : ℕ) × (supertype v left right ≡ some c)
      go true a t b = (right, supertype-right v left right a)
      go false a true b = (left, supertype-left v left right a b)
      go false a false b =
          let m = some-lowest v g (candidates v left right) v.object candidates-object (λ d k. ancestor-below v g left d hl ((candidates-exactly d).0 k).0) in
          let w = nearest-some v left right (lowest v (candidates v left right) (candidates v left right)) m.0 m.1 in
          (w.0, supertype-other v left right a b ∙ w.1)

  -- IT IS AN ANCESTOR of both, and no common ancestor stands strictly below it
  pub supertype-least : (c : ℕ) → supertype v left right ≡ some c
      → Common v left right c × Lowest v left right c
  supertype-least c h = go (ancestor v left right) refl (ancestor v right left) refl
    where
      go : (s : Bool) → ancestor v left right ≡ s → (t : Bool) → ancestor v right left ≡ t
          → Common v left right c × Lowest v left right c
      go true a t b =
          let q = supertype-right v left right a in
          let e : right ≡ c = cc in
          subst (λ (z : ℕ). Common v left right z × Lowest v left right z) e
          ((a, ancestor-self v right), λ d w. below-not v d right w.1)
      go false a true b =
          let q = supertype-left v left right a b in
          let e : left ≡ c = cc in
          subst (λ (z : ℕ). Common v left right z × Lowest v left right z) e
          ((ancestor-self v left, b), λ d w. below-not v d left w.0)
      go false a false b =
          let m = nearest-in v left right (lowest v (candidates v left right) (candidates v left right)) c (sym (supertype-other v left right a b) ∙ h) in
          ((candidates-exactly c).0 (lowest-only v (candidates v left right) (candidates v left right) c m).0, λ d w. below-both c d m ((candidates-exactly d).1 w))

  -- AND THE NEAREST of the common ancestors with none strictly below, where neither of the two is an ancestor of the other
  pub supertype-nearest : ancestor v left right ≡ false → ancestor v right left ≡ false → (c : ℕ) → supertype v left right ≡ some c
      → (d : ℕ) → Common v left right d → Lowest v left right d → (d ≡ c) ⊎ (nearer v left right c d ≡ true)
  supertype-nearest a b c h d w free =
      nearest-least v left right (lowest v (candidates v left right) (candidates v left right)) c (sym (supertype-other v left right a b) ∙ h) d
      (lowest-has v (candidates v left right) (candidates v left right) d ((candidates-exactly d).1 w)
      (any_below-none v (candidates v left right) d (λ e k. free e ((candidates-exactly e).0 k))))

  -- IN A TABLE WITHOUT CYCLES and without parents of Object the order of the two never matters
  pub supertype-symmetric : ((c n : ℕ) → Path v c c (suc n) → ⊥) → v.parents v.object ≡ [] → supertype v left right ≡ supertype v right left
  supertype-symmetric free top = supertype-swap v left right (ancestor-antisymmetric v g free top left right hl hr)
