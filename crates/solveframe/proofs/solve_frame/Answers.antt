-- `solve_frame` meets its contract: 9, or what the solve comes to.
use Rattle.lattice.specs.World.{world_of}
use Rattle.solving.specs.Solving.{solve}
use Rattle.solveframe.specs.Parts.{problem_in}
use Rattle.solveframe.specs.Leaving.{frame-object, frame-solved}
use Rattle.solveframe.proofs.solve_frame.Goals as goal

pub returns-then-t : goal.returns-then-t
returns-then-t c = let a = c.args in frame-object (solve (world_of a.pairs.now a.marks.now a.n.stack.tables) (problem_in a.rows.now a.n)) a.answers.now a.n _ c.refuse.ensures c.if-t.true

pub solve_rows-c-requires : goal.solve_rows-c-requires
solve_rows-c-requires c = let p = c.requires in ((p.four-sets, (p.few, p.known c.if-t.false)), p.keeps, p.within, p.all-rows, p.roomy)

pub returns : goal.returns
returns c = let a = c.args in frame-solved (solve (world_of a.pairs.now a.marks.now a.n.stack.tables) (problem_in a.rows.now a.n)) a.answers.now a.n _ _ _ c.solve_rows-c.ensures c.say.ensures c.if-t.false
