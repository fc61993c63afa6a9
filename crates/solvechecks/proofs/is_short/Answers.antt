-- `is_short` meets its contract: the first slice that is too short, or what the last says.
use Rattle.solvechecks.specs.Steps.{short-answers, short-components, short-kinds, short-types, short-work}
use Rattle.solvechecks.proofs.is_short.Goals as goal

pub returns-then-answers-variables : goal.returns-then-answers-variables
returns-then-answers-variables c =
    let a = c.args in
    short-answers a.variables a.answers a.out_comp a.out_kind a.out_type a.work c.if-answers-variables.true

pub returns-then-out_comp-lt-BOUNDS : goal.returns-then-out_comp-lt-BOUNDS
returns-then-out_comp-lt-BOUNDS c =
    let a = c.args in
    short-components a.variables a.answers a.out_comp a.out_kind a.out_type a.work c.if-answers-variables.false c.if-out_comp-lt-BOUNDS.true

pub returns-then-out_kind-lt-BOUNDS : goal.returns-then-out_kind-lt-BOUNDS
returns-then-out_kind-lt-BOUNDS c =
    let a = c.args in
    short-kinds a.variables a.answers a.out_comp a.out_kind a.out_type a.work c.if-answers-variables.false c.if-out_comp-lt-BOUNDS.false c.if-out_kind-lt-BOUNDS.true

pub returns-then-out_type-lt-BOUNDS : goal.returns-then-out_type-lt-BOUNDS
returns-then-out_type-lt-BOUNDS c =
    let a = c.args in
    short-types a.variables a.answers a.out_comp a.out_kind a.out_type a.work c.if-answers-variables.false c.if-out_comp-lt-BOUNDS.false c.if-out_kind-lt-BOUNDS.false c.if-out_type-lt-BOUNDS.true

pub returns : goal.returns
returns c =
    let a = c.args in
    short-work a.variables a.answers a.out_comp a.out_kind a.out_type a.work c.if-answers-variables.false c.if-out_comp-lt-BOUNDS.false c.if-out_kind-lt-BOUNDS.false c.if-out_type-lt-BOUNDS.false
