-- What each digit of a rank adds to the payload of an Unknown: the steps of the loop of `members_load`.
use mathlib.Core.Path.{◌≡◌, refl, sym, ap, ap₂, ◌∙◌}
use mathlib.Core.List.{List, ◌∷◌}
use Prim.Native.Nat.{ℕ, zero, suc, ◌+◌, ◌-◌, ◌*◌, ◌/◌, ◌%◌, ◌^◌, ◌≤◌, ◌<◌}
use native.Mathlib.Nat.{mod-lt}
use native.Mathlib.Omega.{arith}
use lib.ListN.{length}
use lib.Pow.{shl_exact}
use Rattle.ty.specs.Words.{pack, unpack}
use Rattle.ty.specs.Round.{list_load}
use Rattle.keys.specs.Rank.{trim, members_of}

-- what a list adds to a payload where its digits are the lowest n
abbrev load_at : ℕ → List ℕ → ℕ
load_at n cs = length cs * 2 ^ 44 + pack n cs

load-none : (n : ℕ) (ds : List ℕ) → load_at (suc n) (trim (0 ∷ ds)) ≡ 0
unfolding trim pack
load-none n ds = refl

load-more : (n d : ℕ) (ds : List ℕ) → (d ≡ 0 → ⊥) → load_at (suc n) (trim (d ∷ ds)) ≡ 2 ^ 44 + (d - 1) * 2 ^ (4 * n) + load_at n (trim ds)
unfolding trim pack
load-more n zero ds h = absurd (h refl)
load-more n (suc d) ds h = omega (arith, ap (λ (e : ℕ). e * 2 ^ (4 * n)) (let e : suc d - 1 ≡ d = omega arith in e))

-- what the lowest n digits of x add to the payload of its members
unfoldable pub rest_load : ℕ → ℕ → ℕ
rest_load n x = load_at n (trim (unpack n x))

pub rest-all : (x : ℕ) → list_load (members_of x) ≡ rest_load 11 x
unfolding members_of rest_load
rest-all x = refl

module _ (x i : ℕ) where
  pub rest-end : 11 ≤ i → rest_load (11 - i) x ≡ 0
  unfolding rest_load unpack trim pack
  rest-end h = ap (λ (n : ℕ). rest_load n x) (let e : 11 - i ≡ 0 = omega arith in e)

  -- the digit i is the first of the lowest 11 - i
  rest-digit : (d : ℕ) → i < 11 → d ≡ x / 2 ^ (4 * (10 - i)) % 16 → rest_load (11 - i) x ≡ load_at (suc (10 - i)) (trim (d ∷ unpack (10 - i) x))
  unfolding rest_load unpack
  rest-digit d h e =
      ap (λ (n : ℕ). rest_load n x) (let f : 11 - i ≡ suc (10 - i) = omega arith in f)
      ∙ ap (λ (n : ℕ). load_at (suc (10 - i)) (trim (n ∷ unpack (10 - i) x))) (sym e)

  pub rest-none : (d : ℕ) → i < 11 → d ≡ x / 2 ^ (4 * (10 - i)) % 16 → d ≡ 0 → rest_load (11 - i) x ≡ 0
  rest-none d h e z = rest-digit 0 h (sym z ∙ e) ∙ load-none (10 - i) (unpack (10 - i) x)

  -- a digit d that is not 0 adds one to the length and, shifted to its place, a member
  pub rest-more : (d : ℕ) → i < 11 → d ≡ x / 2 ^ (4 * (10 - i)) % 16 → (d ≡ 0 → ⊥)
      → rest_load (11 - i) x ≡ 2 ^ 44 + (d - 1) * 2 ^ (4 * (10 - i)) % 2 ^ 64 + rest_load (11 - (i + 1)) x
  unfolding rest_load
  rest-more d h e k =
      rest-digit d h e
      ∙ load-more (10 - i) d (unpack (10 - i) x) k
      ∙ ap₂ (λ (y n : ℕ). 2 ^ 44 + y + rest_load n x)
      (sym (shl_exact {a = d - 1} 4 (4 * (10 - i)) 64 (omega (arith, mod-lt (x / 2 ^ (4 * (10 - i))) {m = 16} (omega arith))) (omega arith)))
      (let f : 10 - i ≡ 11 - (i + 1) = omega arith in f)
