-- `rank_of` meets its contract: the parts of the word make the rank.
use mathlib.Core.Path.{sym}
use Prim.Native.Nat.{◌^◌, ◌<◌}
use native.Mathlib.Omega.{arith}
use Rattle.ty.specs.Words.{type_of}
use Rattle.ty.specs.Round.{legal-of-word}
use Rattle.keys.specs.Laws.{rank-lt}
use Rattle.keys.specs.Parts.{rank-known, rank-unknown, unknown-length}
use Rattle.keys.proofs.rank_of.Goals as goal

pub returns-then-tag-lt2 : goal.returns-then-tag-lt2
returns-then-tag-lt2 c =
    let w = c.args.t.word in
    sym (rank-known w (omega arith) c.requires c.if-tag-lt2.true)

pub ones-requires : goal.ones-requires
ones-requires c =
    let w = c.args.t.word in
    unknown-length w (omega arith) c.requires c.if-tag-lt2.false

pub overflow_add-result-4 : goal.overflow_add-result-4
overflow_add-result-4 c =
    let w = c.args.t.word in
    let fits : w < 2 ^ 64 = omega arith in
    let pre = c.requires in
    let r = c.ones.ensures in
    omega (arith, rank-lt (type_of w) (legal-of-word 1024 w fits pre), rank-unknown w fits pre c.if-tag-lt2.false)

pub returns : goal.returns
returns c =
    let w = c.args.t.word in
    let r = c.ones.ensures in
    omega (arith, rank-unknown w (omega arith) c.requires c.if-tag-lt2.false)
