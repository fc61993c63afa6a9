-- Laws place by place: what a loop over an index goes by.
use Rattle.std.specs.Prelude.{◌≡◌, ℕ, suc, ◌+◌, ◌<◌, length, get_or, set}
use Rattle.std.proofs.Math.Path.{ap}
use Rattle.std.proofs.Common.{◌∙◌, arith, length-set}
use mathlib.Core.List.{List}
use Rattle.std.proofs.Math.Seq.{paste, paste-suc}

-- ---- words copied to the front, one more
pub paste-more : (into now from : List ℕ) (i : ℕ) → i < length from → i < length into → length now ≡ length into → now ≡ paste into 0 from i
    → (length (set now i (get_or from i 0)) ≡ length into) × (set now i (get_or from i 0) ≡ paste into 0 from (i + 1))
paste-more into now from i f l n e = (
  length-set now i (get_or from i 0) ∙ n,
  ap (λ (x : List ℕ). set x i (get_or from i 0)) e ∙ ap (λ (k : ℕ). set (paste into 0 from i) k (get_or from i 0)) (let q : i ≡ 0 + i = omega arith in q)
      ∙ paste-suc into 0 from i 0 (omega arith) f ∙ ap (paste into 0 from) (let q : suc i ≡ i + 1 = omega arith in q),
)
