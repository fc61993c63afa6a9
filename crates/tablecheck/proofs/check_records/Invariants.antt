-- `check_records` meets its contract: what is left are the records from i on, after the tables that the first i leave.
use Rattle.layers.specs.Stacks.{stack_of, Holds}
use Rattle.tablecheck.specs.Inside.{Gone}
use Rattle.tablecheck.proofs.check_records.Given as goal

abbrev pub invariant-loop-i : goal.invariant-loop-i
invariant-loop-i l =
    let c = l.columns in
    Holds l.pairs l.marks l.u × Gone c.parents.now c.rec_flags.now c.rec_class.now c.rec_at.now c.rec_len.now (stack_of l.initial.pairs l.initial.marks l.initial.u) l.i (stack_of l.pairs l.marks l.u)
