-- `solve_rows` meets its contract: what it cuts out are the entries that count.
use borrow.Author.Rules.{rules}
use Rattle.solveframe.specs.Parts.{cut-keeps, cut-variables}
use Rattle.solveframe.specs.Leaving.{alone-cut}
use Rattle.solveframe.proofs.solve_rows.Goals as goal

pub overflow_add-u : goal.overflow_add-u
overflow_add-u c = let h = c.requires.2.uppers in search rules

pub overflow_add-r : goal.overflow_add-r
overflow_add-r c = let h = c.requires.2.reads in search rules

pub overflow_add-w : goal.overflow_add-w
overflow_add-w c = let h = c.requires.2.writes in search rules

pub slice_bounds-solve_alone-end : goal.slice_bounds-solve_alone-end
slice_bounds-solve_alone-end c = let h = c.requires.2.variables in let e = c.requires.3 in search rules

pub slice_bounds-solve_alone-end-2 : goal.slice_bounds-solve_alone-end-2
slice_bounds-solve_alone-end-2 c = let h = c.requires.2.bounds in let e = c.requires.3 in search rules

pub slice_bounds-solve_alone-end-3 : goal.slice_bounds-solve_alone-end-3
slice_bounds-solve_alone-end-3 c = let h = c.requires.2.flows in let e = c.requires.3 in search rules

pub slice_bounds-solve_alone-end-4 : goal.slice_bounds-solve_alone-end-4
slice_bounds-solve_alone-end-4 c = let h = c.requires.2.uppers in let e = c.requires.3 in search rules

pub slice_bounds-solve_alone-end-5 : goal.slice_bounds-solve_alone-end-5
slice_bounds-solve_alone-end-5 c = let h = c.requires.2.reads in let e = c.requires.3 in search rules

pub slice_bounds-solve_alone-end-6 : goal.slice_bounds-solve_alone-end-6
slice_bounds-solve_alone-end-6 c = let h = c.requires.2.writes in let e = c.requires.3 in search rules

pub solve_alone-requires : goal.solve_alone-requires
solve_alone-requires c = let e = cut-variables c.args.rows.now c.args.n c.requires.2 c.requires.3 in (c.requires.0, cut-keeps c.args.rows.now c.args.n c.requires.2 c.requires.1, search rules)

pub returns : goal.returns
returns c = alone-cut c.args.pairs.now c.args.marks.now c.args.rows.now c.args.n c.requires.2 c.args.answers.now _ _ c.solve_alone.ensures
