-- primitive_assignable by the order of the categories: Byte, Short, Char, Int, Long, Float, Double are 2 to 8, and a value is
-- assignable to a later one that is not Char. For all numbers.
use Rattle.std.specs.Prelude.{◌≡◌, refl, Bool, true, false, cond, ℕ, ◌≤◌, ◌<◌, eqb, ltb}
use Rattle.std.proofs.Math.Bool.{and-false}
use Rattle.std.proofs.Common.{arith}
use borrow.Author.Tests.{ne_eqb, lt-ltb, le-ltb, ltb-true, ltb-false}
use Rattle.order.specs.Lists.{elem}
use Rattle.order.specs.Tests.{same, same-eq, test_below, tested-below}
use Rattle.lattice.specs.Lattice.{primitive_assignable}

unfoldable pub by_order : ℕ → ℕ → Bool
by_order value expected = cond (eqb expected 4) false (cond (ltb 8 expected) false (cond (ltb value 2) false (ltb value expected)))

tested : test_below 9 (λ v. test_below 9 (λ e. same (primitive_assignable v e) (by_order v e))) ≡ true
unfolding test_below same primitive_assignable by_order elem
tested = refl

cond-false : (b : Bool) → cond b false false ≡ false
cond-false true = refl
cond-false false = refl

module _ (value expected : ℕ) where
  -- past Double there is nothing to widen to, or from
  past-expected : 8 < expected → primitive_assignable value expected ≡ by_order value expected
  unfolding primitive_assignable by_order elem
  past-expected h =
      simp (ne_eqb 3 expected (λ e. omega arith), ne_eqb 5 expected (λ e. omega arith), ne_eqb 6 expected (λ e. omega arith), ne_eqb 7 expected (λ e. omega arith), ne_eqb 8 expected (λ e. omega arith), ne_eqb expected 8 (λ e. omega arith), lt-ltb 8 expected h, and-false, cond-false)

  past-value : 8 < value → expected ≤ 8 → primitive_assignable value expected ≡ by_order value expected
  unfolding primitive_assignable by_order elem
  past-value h k =
      simp (ne_eqb value 2 (λ e. omega arith), ne_eqb 3 value (λ e. omega arith), ne_eqb 4 value (λ e. omega arith), ne_eqb value 5 (λ e. omega arith), ne_eqb value 6 (λ e. omega arith), ne_eqb value 7 (λ e. omega arith), le-ltb value expected (omega arith), cond-false)

  pub widens-by-order : primitive_assignable value expected ≡ by_order value expected
  widens-by-order = go (ltb 8 expected) refl (ltb 8 value) refl
    where
      go : (a : Bool) → ltb 8 expected ≡ a → (b : Bool) → ltb 8 value ≡ b → primitive_assignable value expected ≡ by_order value expected
      go true p b q = past-expected (ltb-true 8 expected p)
      go false p true q = past-value (ltb-true 8 value q) (ltb-false 8 expected p)
      go false p false q =
          let e = ltb-false 8 expected p in
          let v = ltb-false 8 value q in
          same-eq (primitive_assignable value expected) (by_order value expected)
          (tested-below 9 (λ k. same (primitive_assignable value k) (by_order value k)) expected (omega arith)
          (tested-below 9 (λ j. test_below 9 (λ k. same (primitive_assignable j k) (by_order j k))) value (omega arith) tested))
