-- `ones` meets its contract: by computation at each n below 12.
use mathlib.Core.Path.{◌≡◌, refl, sym, ◌∙◌}
use mathlib.Core.List.{List, [], ◌∷◌}
use Prim.Native.Nat.{ℕ, zero, suc, ◌-◌, ◌*◌, ◌/◌, ◌^◌, ◌<◌}
use native.Mathlib.Omega.{arith}
use lib.ListN.{get_or, replicate}
use lib.Pow.{shr_le}
use Rattle.ty.specs.Words.{pack}
use Rattle.keys.proofs.ones.Goals as goal

-- the first n values of f
table : (ℕ → ℕ) → ℕ → List ℕ
table f zero = []
table f (suc n) = f zero ∷ table (λ k. f (suc k)) n

entry : (f : ℕ → ℕ) (n k : ℕ) → k < n → get_or (table f n) k 0 ≡ f k
unfolding table
entry f zero k h = absurd (omega arith)
entry f (suc n) zero h = refl
entry f (suc n) (suc k) h = entry (λ k. f (suc k)) n k (omega arith)

ones-below : (n : ℕ) → n < 12 → 0x11111111111 - 0x11111111111 / 2 ^ (4 * n) ≡ pack 11 (replicate n 1)
unfolding pack table
ones-below n h =
    sym (entry (λ (k : ℕ). 0x11111111111 - 0x11111111111 / 2 ^ (4 * k)) 12 n h) ∙ entry (λ (k : ℕ). pack 11 (replicate k 1)) 12 n h

pub overflow_sub-result : goal.overflow_sub-result
overflow_sub-result c = shr_le _ _

pub returns : goal.returns
returns c = ones-below c.args.n c.requires
