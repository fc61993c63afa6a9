-- Which of the lowest candidates is taken, one by one, and that this is the supertype. Over any good view.
use Rattle.std.specs.Prelude.{◌≡◌, Bool, true, ◌&&◌, ◌⊎◌, ℕ, ◌<◌, length}
use Rattle.std.proofs.Math.Path.{sym}
use Rattle.std.proofs.Common.{ap, ap₂, ◌∙◌, ⊎_elim, arith}
use Rattle.std.proofs.Math.Bool.{false, and-eq-true_iff}
use mathlib.Core.List.{List, Memᴰ}
use Rattle.std.proofs.Math.Option.{some}
use Rattle.sets.specs.Sets.{member, intersect}
use Rattle.sets.specs.Laws.{member-intersect, length-intersect}
use Rattle.view.specs.View.{number_of, View, ancestor, ancestors, nearer, nearest, lowest, candidates, supertype}
use Rattle.view.specs.Reach.{Good}
use Rattle.view.specs.Ancestors.{ancestor-below, ancestor-object, ancestors-formed, ancestors-member}
use Rattle.view.specs.Below.{any_below-false, any_below-none, lowest-has, lowest-only, some-lowest}
use Rattle.view.specs.Nearest.{nearer-exactly, nearer-trans, nearest-some, nearest-in, nearest-least}
use Rattle.view.specs.Supertype.{Common, candidates-exactly, candidates-object, supertype-right, supertype-left, supertype-other}
use Rattle.view.specs.Lows.{LowestOf}

-- r is the nearest of a set, where it has a member
pub record NearestOf (v : View) (left right : ℕ) (s : List ℕ) (r : ℕ) : Type 0 where
  pub is-in : (c : ℕ) → member s c ≡ true → member s r ≡ true
  pub least : (d : ℕ) → member s d ≡ true → (d ≡ r) ⊎ (nearer v left right r d ≡ true)

-- nothing is nearer than itself
nearer-self : (v : View) (left right c : ℕ) → nearer v left right c c ≡ true → ⊥
nearer-self v left right c n = ⊎_elim (λ l. omega arith) (λ w. ⊎_elim (λ l. omega arith) (λ u. let l = u.1 in omega arith) w.1) ((nearer-exactly v left right c c).0 n)

-- ---- the supertype

module _ (v : View) (g : Good v) (left right : ℕ) (hl : left < v.names) (hr : right < v.names) where
  pub found-right : (a : List ℕ) → a ≡ ancestors v left → member a right ≡ true → right ≡ number_of (supertype v left right)
  unfolding number_of
  found-right a e m = sym (ap number_of (supertype-right v left right (sym (ancestors-member v g left hl right) ∙ sym (ap (λ (w : List ℕ). member w right) e) ∙ m)))

  module _ (a b : List ℕ) (ea : a ≡ ancestors v left) (eb : b ≡ ancestors v right) (n : member a right ≡ false) where
    not-right : ancestor v left right ≡ false
    not-right = sym (ancestors-member v g left hl right) ∙ sym (ap (λ (w : List ℕ). member w right) ea) ∙ n

    pub found-left : member b left ≡ true → left ≡ number_of (supertype v left right)
    unfolding number_of
    found-left m =
        sym (ap number_of (supertype-left v left right not-right (sym (ancestors-member v g right hr left) ∙ sym (ap (λ (w : List ℕ). member w left) eb) ∙ m)))

    module _ (all : List ℕ) (e : all ≡ intersect a b) where
      all-member : (c : ℕ) → member all c ≡ (ancestor v left c && ancestor v right c)
      all-member c =
          ap (λ (w : List ℕ). member w c) (e ∙ ap₂ (λ (s t : List ℕ). intersect s t) ea eb)
          ∙ member-intersect (ancestors v left) (ancestors v right) c ((ancestors-formed v g left hl).0 ∙ sym (ancestors-formed v g right hr).0)
          ∙ ap₂ (λ (s t : Bool). s && t) (ancestors-member v g left hl c) (ancestors-member v g right hr c)

      all-size : length all ≡ 16
      all-size =
          ap length (e ∙ ap₂ (λ (s t : List ℕ). intersect s t) ea eb)
          ∙ length-intersect (ancestors v left) (ancestors v right) ((ancestors-formed v g left hl).0 ∙ sym (ancestors-formed v g right hr).0)
          ∙ (ancestors-formed v g left hl).0

      both : (c : ℕ) → member all c ≡ true → Common v left right c
      both c m = (and-eq-true_iff (ancestor v left c) (ancestor v right c)).0 (sym (all-member c) ∙ m)

      all-below : (c : ℕ) → member all c ≡ true → c < v.names
      all-below c m = ancestor-below v g left c hl (both c m).0

      all-object : member all v.object ≡ true
      all-object = all-member v.object ∙ ap₂ (λ (s t : Bool). s && t) (ancestor-object v left) (ancestor-object v right)

      pub all-common : (c : ℕ) → member all c ≡ true → Common v left right c
      all-common = both

      -- the common ancestors are classes, Object among them
      pub all-fits : (length all ≡ 16) × ((c : ℕ) → member all c ≡ true → c < v.names) × (member all v.object ≡ true)
      all-fits = (all-size, all-below, all-object)

      -- THE NEAREST OF THE LOWEST IS THE SUPERTYPE, where neither is an ancestor of the other
      pub found-nearest : (low : List ℕ) → LowestOf v all low → (m : ℕ) → NearestOf v left right low m → member b left ≡ false → m ≡ number_of (supertype v left right)
      unfolding number_of
      found-nearest low is-low m near k = same ∙ sym (ap number_of (supertype-other v left right not-right not-left ∙ found.1))
        where
          not-left : ancestor v right left ≡ false
          not-left = sym (ancestors-member v g right hr left) ∙ sym (ap (λ (w : List ℕ). member w left) eb) ∙ k

          cands : List ℕ
          cands = candidates v left right

          all-cands : (c : ℕ) → member all c ≡ true → Memᴰ c cands
          all-cands c u = (candidates-exactly v g left right hl hr c).1 (both c u)

          cands-all : (c : ℕ) → Memᴰ c cands → member all c ≡ true
          cands-all c u = all-member c ∙ (and-eq-true_iff (ancestor v left c) (ancestor v right c)).1 ((candidates-exactly v g left right hl hr c).0 u)

          low-lowest : (c : ℕ) → member low c ≡ true → Memᴰ c (lowest v cands cands)
          low-lowest c u =
              let w = (is-low.exactly c).0 u in
              lowest-has v cands cands c (all-cands c w.0) (any_below-none v cands c (λ d z. w.1 d (cands-all d z)))

          lowest-low : (c : ℕ) → Memᴰ c (lowest v cands cands) → member low c ≡ true
          lowest-low c u =
              let w = lowest-only v cands cands c u in
              (is-low.exactly c).1 (cands-all c w.0, λ d z. any_below-false v cands c w.1 d (all-cands d z))

          found : (x : ℕ) × (nearest v left right (lowest v cands cands) ≡ some x)
          found =
              let x = some-lowest v g cands v.object (candidates-object v g left right hl hr) (λ d u. all-below d (cands-all d u)) in
              nearest-some v left right (lowest v cands cands) x.0 x.1

          x-low : member low found.0 ≡ true
          x-low = lowest-low found.0 (nearest-in v left right (lowest v cands cands) found.0 found.1)

          same : m ≡ found.0
          same =
              ⊎_elim (λ q. q)
              (λ p. ⊎_elim (λ q. sym q) (λ q. absurd (nearer-self v left right m (nearer-trans v left right m found.0 m q p))) (near.least found.0 x-low))
              (nearest-least v left right (lowest v cands cands) found.0 found.1 m (low-lowest m (near.is-in found.0 x-low)))
