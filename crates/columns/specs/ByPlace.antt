-- Laws place by place: the part of a list that is cut from a place on.
use Rattle.std.specs.Prelude.{◌≡◌, refl, List, ℕ, ◌-◌, length, take, drop}
use Rattle.std.proofs.Common.{ap, ◌∙◌, arith, length-drop, take_all}

pub from-row : (l : List ℕ) (r k : ℕ) → r ≡ k → take (length l - r) (drop r l) ≡ drop k l
from-row l r k e = take_all (length l - r) (drop r l) (let d = length-drop r l in omega arith) ∙ ap (λ (i : ℕ). drop i l) e

pub from-length : (l m : List ℕ) (r : ℕ) → length l ≡ length m → length (take (length l - r) (drop r l)) ≡ length (take (length m - r) (drop r m))
from-length l m r e =
    let a = ap length (from-row l r r refl) ∙ length-drop r l in
    let b = ap length (from-row m r r refl) ∙ length-drop r m in
    omega arith
