-- `types_length` meets its contract. Invariant: the sum so far and what is left make the whole.
use native.Mathlib.Omega.{arith}
use lib.ListN.{length}
use Rattle.writer.specs.Steps.{size-next, size-none, legal-front}
use Rattle.writer.proofs.types_length.Goals as goal

pub type_length-n-requires : goal.type_length-n-requires
type_length-n-requires c =
    let a = c.args in
    let l = c.loop-word in
    (c.requires.0, (legal-front (length a.name_len.now) a.words.now l.word-index (omega arith) l.invariant.2).0)

pub loop-word-preserved : goal.loop-word-preserved
loop-word-preserved c =
    let a = c.args in
    let l = c.loop-word in
    let e = size-next a.name_len.now a.words.now l.word-index (omega arith) in
    let r = c.type_length-n.ensures in
    (omega arith, omega arith, (legal-front (length a.name_len.now) a.words.now l.word-index (omega arith) l.invariant.2).1)

pub returns : goal.returns
returns c =
    let a = c.args in
    let l = c.loop-word in
    let e = size-none a.name_len.now a.words.now l.word-index (omega arith) in
    (omega arith, omega arith)
