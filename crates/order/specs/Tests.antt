-- A test of every number below a bound, computed once: what was tested holds of each of them.
use Rattle.std.specs.Prelude.{◌≡◌, refl, Bool, true, false, ◌&&◌, ℕ, zero, suc, ◌<◌}
use Rattle.std.proofs.Common.{ap, ◌∙◌, arith}
use Rattle.std.proofs.lemmas.Bool.{false≢true}
use Rattle.std.proofs.Math.Decide.{ℕ_discrete}
use Rattle.order.specs.Truth.{both}

-- whether two truth values are the same
unfoldable pub same : Bool → Bool → Bool
same true true = true
same true false = false
same false true = false
same false false = true

pub same-eq : (a b : Bool) → same a b ≡ true → a ≡ b
unfolding same
same-eq true true h = refl
same-eq true false h = absurd (false≢true h)
same-eq false true h = absurd (false≢true h)
same-eq false false h = refl

-- whether p says true of each number below n
unfoldable pub test_below : ℕ → (ℕ → Bool) → Bool
test_below zero p = true
test_below (suc n) p = p n && test_below n p

pub tested-below : (n : ℕ) (p : ℕ → Bool) (k : ℕ) → k < n → test_below n p ≡ true → p k ≡ true
unfolding test_below
tested-below zero p k l h = absurd (omega arith)
tested-below (suc n) p k l h = go (ℕ_discrete k n) (tested-below n p k)
  where
    b : (p n ≡ true) × (test_below n p ≡ true)
    b = both (p n) (test_below n p) h

    go : Dec (k ≡ n) → (k < n → test_below n p ≡ true → p k ≡ true) → p k ≡ true
    go (yes e) ih = ap p e ∙ b.0
    go (no e) ih = ih (omega arith) b.1
