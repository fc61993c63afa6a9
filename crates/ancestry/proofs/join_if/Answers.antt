-- `join_if` meets its contract.
use Rattle.ancestry.specs.Rows.{joined-if, joined-not}
use Rattle.ancestry.proofs.join_if.Goals as goal

pub returns-then-taken : goal.returns-then-taken
returns-then-taken c =
    let a = c.args in
    joined-if a.rows.now a.c a.s.words c.join.new.rows c.join.ensures a.taken c.if-taken.true

pub returns-else-taken : goal.returns-else-taken
returns-else-taken c =
    let a = c.args in
    joined-not a.rows.now a.c a.s.words c.requires.0 a.taken c.if-taken.false
