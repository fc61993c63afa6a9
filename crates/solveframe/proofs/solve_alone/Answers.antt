-- `solve_alone` meets its contract: its arrays are long enough for every solve.
use borrow.Author.Rules.{rules}
use Rattle.solveframe.proofs.solve_alone.Goals as goal

pub solve_problem-requires : goal.solve_problem-requires
solve_problem-requires c = (c.requires.0, c.requires.1, record { answers = c.requires.2; components = search rules; kinds = search rules; types = search rules; work = search rules })
