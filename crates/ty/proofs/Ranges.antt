-- What a chain over the numbers of a word's digits, or over words, says of the definitions by lists.
use Rattle.std.proofs.Common.{◌≡◌, ℕ, zero, suc, ◌+◌, ◌-◌, ◌*◌, ◌/◌, ◌%◌, ◌^◌, ◌≤◌, List, [], ◌∷◌, Bool, true, false, ◌&&◌, ◌||◌, leb, min, refl, sym, ap, ◌∙◌, arith, eqb}
use borrow.Author.Tests.{leb-true, leb-false}
use Rattle.std.specs.List.{list_all, list_any, range_with_len}
use Rattle.order.specs.Lists.{elem}
use Rattle.ty.specs.Types.{wide_category, all_wide}
use Rattle.ty.specs.Words.{unpack, good_digits, legal_word, all_legal}
use Rattle.ty.specs.Steps.{rest_of, digit_good, rest-none, rest-end, elem-step, elem-none, wide-step, good-step, good-end}

-- the digit i of an Unknown's list
abbrev pub digit_of : ℕ → ℕ → ℕ
digit_of load i = load / 2 ^ (4 * (10 - i)) % 16

module _ (load n : ℕ) where
  pub any-digit : (d i k : ℕ) → i + k ≡ n → n ≤ 11 → list_any (λ j. eqb (digit_of load j) d) (range_with_len i k) ≡ elem d (rest_of load n i)
  any-digit d i zero e h = sym (elem-none load n i d (omega arith))
  any-digit d i (suc k) e h =
      ap (λ t. eqb (digit_of load i) d || t) (any-digit d (i + 1) k (omega arith) h) ∙ sym (elem-step load n i d (omega arith) (omega arith))

  -- nothing is left where the list or the digits end
  pub rest-past : (i : ℕ) → min n 11 ≤ i → rest_of load n i ≡ []
  rest-past i h = go (leb n i) refl
    where
      go : (b : Bool) → leb n i ≡ b → rest_of load n i ≡ []
      go true e = rest-none load n i (leb-true n i e)
      go false e = let l = leb-false n i e in rest-end load n i (omega arith)

  pub all-wide : (i k : ℕ) → i + k ≡ min n 11 → list_all (λ j. wide_category (digit_of load j)) (range_with_len i k) ≡ all_wide (rest_of load n i)
  unfolding all_wide
  all-wide i zero e = sym (ap all_wide (rest-past i (omega arith)))
  all-wide i (suc k) e =
      ap (λ t. wide_category (digit_of load i) && t) (all-wide (i + 1) k (omega arith)) ∙ sym (wide-step load n i (omega arith) (omega arith))

  pub all-good : (i k : ℕ) → i + k ≡ 11 → n ≤ 11 → list_all (λ j. digit_good load n j) (range_with_len i k) ≡ good_digits (n - i) (unpack (11 - i) load)
  all-good i zero e h = sym (good-end load n i h (omega arith))
  all-good i (suc k) e h =
      ap (λ t. digit_good load n i && t) (all-good (i + 1) k (omega arith) h) ∙ sym (good-step load n i (omega arith) h)

pub all-legal : (names : ℕ) (ws : List ℕ) → list_all (λ w. legal_word names w) ws ≡ all_legal names ws
unfolding all_legal
all-legal names [] = refl
all-legal names (w ∷ ws) = ap (λ t. legal_word names w && t) (all-legal names ws)
