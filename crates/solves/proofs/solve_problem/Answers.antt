-- `solve_problem` meets its contract: what the inner solve leaves, and the work cleared.
use borrow.Author.Rules.{rules}
use mathlib.Core.Path.{◌≡◌, sym, ap, ◌∙◌}
use Prim.Native.Nat.{ℕ}
use lib.ListN.{length, replicate}
use Rattle.solves.proofs.solve_problem.Goals as goal

pub returns : goal.returns
returns c =
    let x = c.args in
    let o = c.solve_either-c.ensures in
    let d = c.clear in
    let e : length d.new.work ≡ length x.work.now = search rules in
    record {
      counts = o.counts;
      answers = o.answers;
      components = o.components;
      kinds = o.kinds;
      types = o.types;
      work = d.ensures ∙ ap (λ (n : ℕ). replicate n 0) (sym d.auto.work ∙ e);
    }
