-- The type that its core stands for, once that core is ended.
use mathlib.Core.Path.{sym, ◌∙◌}
use Rattle.descriptor.specs.Core.{ended-tells}
use Rattle.descriptor.proofs.read_last.Goals as goal

pub read_of-requires : goal.read_of-requires
read_of-requires c =
    let a = c.args in
    let k = c.read_core-c in
    (ended-tells a.s.now a.at k.result c.ended-e.result k.ensures c.ended-e.ensures).sound

pub returns : goal.returns
returns c =
    let a = c.args in
    let k = c.read_core-c in
    let e = c.ended-e in
    c.read_of.ensures ∙ sym (ended-tells a.s.now a.at k.result e.result k.ensures e.ensures).whole
