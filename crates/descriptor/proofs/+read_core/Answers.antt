-- Each way out is a step of reading a core, by the letter of the first byte.
use Rattle.std.proofs.Common.{◌+◌, ℕ, List, false, drop, ap, ◌∙◌}
use Rattle.descriptor.specs.Read.{read_name, read_type}
use Rattle.descriptor.specs.Core.{core_of, lent-anew, core-end, core-name, core-full, core-deeper, core-flat}
use Rattle.descriptor.proofs.+read_core.Goals as goal

pub returns-then-s-at : goal.returns-then-s-at
returns-then-s-at t c = let a = c.args in core-end a.s.now a.at a.void a.dims c.if-s-at.true

pub returns-then-k-eq-CLASS : goal.returns-then-k-eq-CLASS
returns-then-k-eq-CLASS t c =
    let a = c.args in
    c.name_core.ensures
    ∙ ap (λ (l : List ℕ). core_of (read_name (drop (a.at + 1) l) a.at a.dims)) (lent-anew a.s.now)
    ∙ core-name a.s.now a.at a.void a.dims c.if-s-at.false c.letter-k.result c.letter-k.ensures c.if-k-eq-CLASS.true

pub returns-then-dims-ge255 : goal.returns-then-dims-ge255
returns-then-dims-ge255 t c =
    let a = c.args in
    core-full a.s.now a.at a.void a.dims c.if-s-at.false c.letter-k.result c.letter-k.ensures c.if-k-eq10.true c.if-dims-ge255.true

pub returns-else-dims-ge255 : goal.returns-else-dims-ge255
returns-else-dims-ge255 t c =
    let a = c.args in
    c.read_core.ensures
    ∙ ap (λ (l : List ℕ). core_of (read_type (drop (a.at + 1) l) (a.at + 1) false (a.dims + 1))) (lent-anew a.s.now)
    ∙ core-deeper a.s.now a.at a.void a.dims c.if-s-at.false c.letter-k.result c.letter-k.ensures c.if-k-eq10.true c.if-dims-ge255.false

pub returns-else-k-eq10 : goal.returns-else-k-eq10
returns-else-k-eq10 t c =
    let a = c.args in
    c.flat_core.ensures
    ∙ core-flat a.s.now a.at a.void a.dims c.if-s-at.false c.letter-k.result c.letter-k.ensures c.if-k-eq-CLASS.false c.if-k-eq10.false
