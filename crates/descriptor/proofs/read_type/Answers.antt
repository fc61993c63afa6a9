-- The type that its core stands for.
use mathlib.Core.Path.{sym, ◌∙◌}
use Rattle.descriptor.specs.Core.{core-tells}
use Rattle.descriptor.proofs.read_type.Goals as goal

pub read_of-requires : goal.read_of-requires
read_of-requires c =
    let a = c.args in
    let k = c.read_core-c in
    (core-tells a.s.now a.at a.void k.result k.ensures).sound

pub returns : goal.returns
returns c =
    let a = c.args in
    let k = c.read_core-c in
    c.read_of.ensures ∙ sym (core-tells a.s.now a.at a.void k.result k.ensures).whole
