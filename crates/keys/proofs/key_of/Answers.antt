-- `key_of` meets its contract, and the sum fits.
use mathlib.Core.Path.{ap}
use Prim.Native.Nat.{ℕ, ◌+◌, ◌*◌, ◌^◌}
use native.Mathlib.Omega.{arith}
use Rattle.ty.specs.Words.{type_of}
use Rattle.ty.specs.Round.{legal-of-word}
use Rattle.keys.specs.Rank.{key}
use Rattle.keys.specs.Laws.{rank-lt}
use Rattle.keys.proofs.key_of.Goals as goal

pub overflow_add-result : goal.overflow_add-result
overflow_add-result c =
    let w = c.args.t.word in
    let r = c.rank_of.ensures in
    omega (arith, rank-lt (type_of w) (legal-of-word 1024 w (omega arith) c.requires.2))

pub overflow_add-result-2 : goal.overflow_add-result-2
overflow_add-result-2 c =
    let w = c.args.t.word in
    let r = c.rank_of.ensures in
    omega (arith, rank-lt (type_of w) (legal-of-word 1024 w (omega arith) c.requires.2))

pub returns : goal.returns
unfolding key
returns c =
    let a = c.args in
    ap (λ (r : ℕ). a.component * 2 ^ 55 + (a.kind * 2 ^ 52 + r)) c.rank_of.ensures
