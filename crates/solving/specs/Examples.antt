-- Solves by computation: the scope paper's example, and the cases in which a reader could take another result.
use Rattle.std.specs.Prelude.{false, List, [], ◌∷◌, ℕ, ltb}
use Rattle.std.proofs.Math.Option.{none}
use Rattle.ty.specs.Types.{Object}
use Rattle.view.specs.View.{View, numbers}
use Rattle.lattice.specs.Lattice.{World}
use Rattle.lattice.specs.World.{world_with}
use Rattle.solving.specs.Solving.{Upper, Lower, Bound, bound, Pair, Problem, Table}

-- a variable for each of n components
abbrev pub problem : ℕ → List Bound → List Pair → List Pair → List Pair → List Pair → Problem
problem n bounds flows upper_flows reads writes = record { components = n; variables = numbers 0 n; bounds = bounds; flows = flows; upper_flows = upper_flows; reads = reads; writes = writes }

-- THE SCOPE PAPER'S: a/TrussA and a/TrussB flow to a/Probe; 3 turns, both answers a/Probe
abbrev pub trusses : Problem
trusses = problem 2 (bound 0 Lower (Object 1) ∷ bound 0 Lower (Object 2) ∷ bound 1 Upper (Object 0) ∷ []) ((0, 1) ∷ []) [] [] []

abbrev pub final : Table
final = bound 0 Upper (Object 0) ∷ bound 0 Lower (Object 1) ∷ bound 0 Lower (Object 2) ∷ bound 1 Upper (Object 0) ∷ bound 1 Lower (Object 0) ∷ []

-- ---- cases that could be read otherwise, over a class a 0 and java/lang/Object 1, both recorded

abbrev view : View
view = record { names = 2; object = 1; recorded = λ c. ltb c 2; parents = λ c. []; declared = λ c. false; interface = λ c. false; final = λ c. false }

abbrev pub small : World
small = world_with view none none
