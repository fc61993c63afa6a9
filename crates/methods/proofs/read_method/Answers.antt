-- Refused before the parameters, or read by their reader from offset 1.
use mathlib.Core.Path.{ap, ◌∙◌}
use mathlib.Core.List.{List}
use Prim.Native.Nat.{ℕ}
use native.Mathlib.Omega.{arith}
use Rattle.descriptor.specs.Core.{lent-anew}
use Rattle.methods.specs.Answers.{method_read}
use Rattle.methods.specs.Params.{method_from}
use Rattle.methods.specs.Filled.{left-same, whole-short, whole-unopened, whole-opened}
use Rattle.methods.proofs.read_method.Goals as goal

pub returns-then-params-lt-PARAMETERS : goal.returns-then-params-lt-PARAMETERS
returns-then-params-lt-PARAMETERS c =
    let a = c.args in
    let w = whole-short a.strict a.s.now a.params.now c.if-params-lt-PARAMETERS.true in
    (c.refused.ensures ∙ w.0, w.1)

pub returns-then-s-eq0 : goal.returns-then-s-eq0
returns-then-s-eq0 c =
    let a = c.args in
    let w = whole-unopened a.strict a.s.now a.params.now c.if-params-lt-PARAMETERS.false (λ l e. omega arith) in
    (c.refused-then-s-eq0.ensures ∙ w.0, w.1)

pub returns-then-s-eq40 : goal.returns-then-s-eq40
returns-then-s-eq40 c =
    let a = c.args in
    let q = c.read_params in
    whole-opened a.strict a.s.now a.params.now c.if-params-lt-PARAMETERS.false c.if-s-eq40.true (method_read q.result) q.new.params
    (left-same 0 a.params.now _ _ (method_read q.result) q.new.params (ap (λ (l : List ℕ). method_from l a.strict 0 1 0) (lent-anew a.s.now)) q.ensures)

pub returns : goal.returns
returns c =
    let a = c.args in
    let w = whole-unopened a.strict a.s.now a.params.now c.if-params-lt-PARAMETERS.false (λ l. c.if-s-eq40.false) in
    (c.refused-2.ensures ∙ w.0, w.1)
