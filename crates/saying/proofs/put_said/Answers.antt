-- `put_said` meets its contract: by what is said.
use Rattle.lineout.specs.Laws.{puts-none, puts-as}
use Rattle.saying.specs.Printing.{text-accepted, text-solved, text-related, text-supertyped, text-castable, text-refused}
use Rattle.saying.proofs.put_said.Goals as goal

pub returns-in-Accepted : goal.returns-in-Accepted
returns-in-Accepted c = puts-as _ _ _ _ _ _ (text-accepted c.args.line c.args.said c.args.answers.now c.in-Accepted.is) (puts-none c.args.filled c.args.out.now)

pub returns-in-Solved : goal.returns-in-Solved
returns-in-Solved c = puts-as _ _ _ _ _ _ (text-solved c.args.line c.args.said c.args.answers.now c.in-Solved.is) c.put_variables.ensures

pub returns-in-Related : goal.returns-in-Related
returns-in-Related c = puts-as _ _ _ _ _ _ (text-related c.args.line c.args.said c.args.answers.now c.in-Related.k c.in-Related.is) c.put_number.ensures

pub returns-in-Supertyped : goal.returns-in-Supertyped
returns-in-Supertyped c = puts-as _ _ _ _ _ _ (text-supertyped c.args.line c.args.said c.args.answers.now c.in-Supertyped.c c.in-Supertyped.is) c.put_number-in-Supertyped.ensures

pub returns-in-Castable : goal.returns-in-Castable
returns-in-Castable c = puts-as _ _ _ _ _ _ (text-castable c.args.line c.args.said c.args.answers.now c.in-Castable.b c.in-Castable.is) c.put_number-in-Castable.ensures

pub returns-in-Refused : goal.returns-in-Refused
returns-in-Refused c = puts-as _ _ _ _ _ _ (text-refused c.args.line c.args.said c.args.answers.now c.in-Refused.k c.in-Refused.is) c.put_refusal.ensures
