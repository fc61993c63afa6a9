-- `bp_solve` meets its contract: the counts of the solve, and the slices that it leaves.
use mathlib.Core.Path.{ap, ◌∙◌}
use Rattle.bracepuffin.specs.Boundary.{solved_answer, solved_told}
use Rattle.bracepuffin.proofs.bp_solve.Goals as goal

pub returns : goal.returns
unfolding solved_told
returns c =
    let r = c.solve_slices-c.ensures in
    record { value = c.solved_answer.ensures ∙ ap solved_answer r.counts; solve_leaves = r.memory }
