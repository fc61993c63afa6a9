-- Lists of categories and sets of them, one bit a category: what the set of a list has, the members of a list that a set has,
-- and that the lists of a join are such.
use Rattle.std.specs.Prelude.{◌≡◌, refl, Bool, true, false, cond, ◌||◌, List, [], ◌∷◌, ℕ, zero, suc, ◌^◌, ◌≤◌, ◌<◌, max, eqb, length}
use Rattle.std.proofs.Common.{sym, ap, ap₂, ◌∙◌, arith, eq-eqb, ne_eqb}
use Rattle.std.proofs.Math.Decide.{ℕ_discrete}
use Rattle.std.specs.Int.Bits.{bit_or}
use Rattle.order.specs.Lists.{elem}
use Rattle.sets.specs.Sets.{bit}
use Rattle.sets.specs.Bits.{bit-lt, bit-zero, bit-or, bit-pow-same, bit-pow-other}
use Rattle.ty.specs.Types.{mask_with}
use Rattle.ty.specs.Digits.{Digits}
use Rattle.lattice.specs.Lattice.{in_either, in_both}

-- whether the set has the category
unfoldable pub has : ℕ → ℕ → Bool
has set c = eqb (bit c set) 1

-- the members of a list that the set has, in the list's order
unfoldable pub kept : ℕ → List ℕ → List ℕ
kept set [] = []
kept set (c ∷ cs) = cond (has set c) (c ∷ kept set cs) (kept set cs)

-- ---- what sets have

has-none : (c : ℕ) → has 0 c ≡ false
unfolding has
has-none c = ap (λ (b : ℕ). eqb b 1) (bit-zero c)

has-max : (a b : ℕ) → a < 2 → b < 2 → eqb (max a b) 1 ≡ (eqb a 1 || eqb b 1)
has-max zero zero h k = refl
has-max zero (suc zero) h k = refl
has-max (suc zero) zero h k = refl
has-max (suc zero) (suc zero) h k = refl
has-max zero (suc (suc b)) h k = absurd (omega arith)
has-max (suc zero) (suc (suc b)) h k = absurd (omega arith)
has-max (suc (suc a)) b h k = absurd (omega arith)

pub has-or : (a b c : ℕ) → has (bit_or a b) c ≡ (has a c || has b c)
unfolding has
has-or a b c = ap (λ (d : ℕ). eqb d 1) (bit-or c a b) ∙ has-max (bit c a) (bit c b) (bit-lt c a) (bit-lt c b)

pub has-one : (d c : ℕ) → has (2 ^ d) c ≡ eqb d c
unfolding has
has-one d c = go (ℕ_discrete d c)
  where
    go : Dec (d ≡ c) → eqb (bit c (2 ^ d)) 1 ≡ eqb d c
    go (yes e) = ap (λ (x : ℕ). eqb (bit c (2 ^ x)) 1) e ∙ ap (λ (b : ℕ). eqb b 1) (bit-pow-same c) ∙ sym (eq-eqb d c e)
    go (no e) = ap (λ (b : ℕ). eqb b 1) (bit-pow-other c d (λ q. e (sym q))) ∙ sym (ne_eqb d c e)

or-assoc : (a b c : Bool) → ((a || b) || c) ≡ (a || (b || c))
or-assoc true b c = refl
or-assoc false true c = refl
or-assoc false false c = refl

-- a set with the members of a list has what it had, and those
has-with : (set : ℕ) (cs : List ℕ) (c : ℕ) → has (mask_with set cs) c ≡ (has set c || elem c cs)
unfolding mask_with elem
has-with set [] c = go (has set c)
  where
    go : (b : Bool) → b ≡ (b || false)
    go true = refl
    go false = refl
has-with set (d ∷ cs) c =
    has-with (bit_or set (2 ^ d)) cs c
    ∙ ap (λ (b : Bool). b || elem c cs) (has-or set (2 ^ d) c ∙ ap (λ (b : Bool). has set c || b) (has-one d c))
    ∙ or-assoc (has set c) (eqb d c) (elem c cs)

-- THE SET OF A LIST HAS WHAT THE LIST HAS
pub has-mask : (cs : List ℕ) (c : ℕ) → has (mask_with 0 cs) c ≡ elem c cs
has-mask cs c = has-with 0 cs c ∙ ap (λ (b : Bool). b || elem c cs) (has-none c)

-- ---- the lists of a join

pub kept-both : (cs ds : List ℕ) → kept (mask_with 0 ds) cs ≡ in_both cs ds
unfolding kept in_both
kept-both [] ds = refl
kept-both (c ∷ cs) ds = ap₂ (λ (b : Bool) (l : List ℕ). cond b (c ∷ l) l) (has-mask ds c) (kept-both cs ds)

-- the n numbers from i on
unfoldable pub from : ℕ → ℕ → List ℕ
from i zero = []
from i (suc n) = i ∷ from (suc i) n

pub kept-ascending : (cs ds : List ℕ) (i n : ℕ) → kept (bit_or (mask_with 0 cs) (mask_with 0 ds)) (from i n) ≡ in_either cs ds i n
unfolding kept from in_either
kept-ascending cs ds i zero = refl
kept-ascending cs ds i (suc n) =
    ap₂ (λ (b : Bool) (l : List ℕ). cond b (i ∷ l) l)
    (has-or (mask_with 0 cs) (mask_with 0 ds) i ∙ ap₂ ◌||◌ (has-mask cs i) (has-mask ds i))
    (kept-ascending cs ds (suc i) n)

-- ---- what is kept is no longer, and of digits

pub kept-length : (set : ℕ) (cs : List ℕ) → length (kept set cs) ≤ length cs
unfolding kept
kept-length set [] = omega arith
kept-length set (c ∷ cs) = go (has set c) (kept-length set cs)
  where
    go : (b : Bool) → length (kept set cs) ≤ length cs → length (cond b (c ∷ kept set cs) (kept set cs)) ≤ suc (length cs)
    go true h = omega arith
    go false h = omega arith

pub kept-digits : (set : ℕ) (cs : List ℕ) → Digits cs → Digits (kept set cs)
unfolding kept
kept-digits set [] h = tt
kept-digits set (c ∷ cs) h = go (has set c) (kept-digits set cs h.1)
  where
    go : (b : Bool) → Digits (kept set cs) → Digits (cond b (c ∷ kept set cs) (kept set cs))
    go true g = (h.0, g)
    go false g = g
