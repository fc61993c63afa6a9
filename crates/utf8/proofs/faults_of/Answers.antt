-- `faults_of` meets its contract: the sum of the three tests, each at most 1.
use mathlib.Core.Path.{ap₂, ◌∙◌}
use native.Mathlib.Omega.{arith}
use Rattle.utf8.specs.Seams.{unlike, fault, unlike-le, misfit-le, stray-le}
use Rattle.utf8.proofs.faults_of.Goals as goal

pub overflow_add-result : goal.overflow_add-result
overflow_add-result c =
    let a = c.args in
    let d = unlike-le c.continuing.result c.has_to.result in
    omega (arith, c.differ.ensures, d, c.bad_second.ensures, misfit-le a.b a.c)

pub overflow_add-result-2 : goal.overflow_add-result-2
overflow_add-result-2 c =
    let a = c.args in
    let d = unlike-le c.continuing.result c.has_to.result in
    omega (arith, c.differ.ensures, d, c.bad_second.ensures, misfit-le a.b a.c, c.bad_byte.ensures, stray-le a.c)

pub returns : goal.returns
unfolding fault
returns c =
    let d = c.differ.ensures ∙ ap₂ unlike c.continuing.ensures c.has_to.ensures in
    omega (arith, d, c.bad_second.ensures, c.bad_byte.ensures)
