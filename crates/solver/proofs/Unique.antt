-- The contract of solve, as the check reads it, allows one outcome: the counts, and unrefused the final table.
use mathlib.Core.Path.{◌≡◌}
use mathlib.Core.List.{map}
use lib.ListN.{take}
use borrow.Fn.Kinds.{Dens, res_t, ended_of}
use denote.Triple.Clauses.{AtExit}
use contract.Lifetimes.{Lfts}
use Rattle.lattice.specs.World.{world_of}
use Rattle.solving.specs.Solving.{propagate}
use Rattle.solving.specs.TableKeys.{bound_of}
use Rattle.rules.specs.Rules.{links_in}
use Rattle.solver.specs.Solver.{solved-one}
use Rattle.solver.proofs.solve.Reads as solve-reads
use Rattle.solver.proofs.solve.Kinds as solve-kinds

pub solve-one : (κs : Lfts 8) (a : Dens κs solve-kinds.ps) (r₁ r₂ : (res_t solve-kinds.r κs).Denot) (x₁ x₂ : AtExit (ended_of 8 solve-kinds.ps solve-kinds.r) κs)
    → solve-reads.Post κs a r₁ x₁ → solve-reads.Post κs a r₂ x₂
    → (r₁ ≡ r₂) × (r₁.refusal ≡ 0 → take r₁.bounds x₁.1.1.1.1.0.now ≡ take r₁.bounds x₂.1.1.1.1.0.now)
solve-one κs a r₁ r₂ x₁ x₂ p q = solved-one
    (propagate (world_of a.0.now a.1.0.now a.1.1.0) (links_in a.1.1.1.1.1.0.now a.1.1.1.1.1.1.0.now a.1.1.1.1.1.1.1.0.now a.1.1.1.1.1.1.1.1.0.now) a.1.1.1.1.1.1.1.1.1.0 (map bound_of a.1.1.1.0.now))
    x₁.1.1.1.1.0.now x₂.1.1.1.1.0.now r₁ r₂ p q
