-- What a solve leaves, by computation: the scope paper's example, and a refused one.
use Rattle.std.specs.Prelude.{◌≡◌, refl, List, [], ◌∷◌, ℕ, ◌+◌, ◌-◌, ◌^◌}
use Rattle.std.proofs.Common.{ap}
use Rattle.std.proofs.Math.Option.{none}
use Rattle.ty.specs.Words.{word_of}
use Rattle.lattice.specs.Examples.{world}
use Rattle.solving.specs.declared.Counts.{Counts}
use Rattle.solving.specs.Examples.{trusses}
use Rattle.solving.proofs.Examples.{paper}
use Rattle.solving.specs.Solving.{Solution, Unsolved, Solved, solve}
use Rattle.solver.specs.Solver.{counted}
use Rattle.solves.specs.SolveResult.{counts_of, answers_after, components_after, kinds_after, types_after}

-- what it hands back, and slices of a 9 each afterwards
pub record Left (s : Solution) (answers components kinds types : List ℕ) (r : Counts) : Type 0 where
  pub counts-are : counts_of s ≡ r
  pub answers-are : answers_after s (9 ∷ 9 ∷ 9 ∷ []) ≡ answers
  pub components-are : components_after s (9 ∷ 9 ∷ 9 ∷ 9 ∷ 9 ∷ 9 ∷ []) ≡ components
  pub kinds-are : kinds_after s (9 ∷ 9 ∷ 9 ∷ 9 ∷ 9 ∷ 9 ∷ []) ≡ kinds
  pub types-are : types_after s (9 ∷ 9 ∷ 9 ∷ 9 ∷ 9 ∷ 9 ∷ []) ≡ types

-- a class's word
abbrev class : ℕ → ℕ
class c = 281474976710656 + c

-- THE SCOPE PAPER'S: 5 bounds, 3 turns, both answers a/Probe; component 0 has Upper a/Probe, Lower both others, component 1 Upper and Lower a/Probe
pub paper-left : Left (solve world trusses) (class 0 ∷ class 0 ∷ 9 ∷ []) (0 ∷ 0 ∷ 0 ∷ 1 ∷ 1 ∷ 9 ∷ []) (2 ∷ 3 ∷ 3 ∷ 2 ∷ 3 ∷ 9 ∷ []) (class 0 ∷ class 1 ∷ class 2 ∷ class 0 ∷ class 0 ∷ 9 ∷ []) (counted 0 5 3)
unfolding counts_of answers_after components_after kinds_after types_after word_of
paper-left = record {
  counts-are = ap counts_of paper;
  answers-are = ap (λ (s : Solution). answers_after s (9 ∷ 9 ∷ 9 ∷ [])) paper;
  components-are = ap (λ (s : Solution). components_after s (9 ∷ 9 ∷ 9 ∷ 9 ∷ 9 ∷ 9 ∷ [])) paper;
  kinds-are = ap (λ (s : Solution). kinds_after s (9 ∷ 9 ∷ 9 ∷ 9 ∷ 9 ∷ 9 ∷ [])) paper;
  types-are = ap (λ (s : Solution). types_after s (9 ∷ 9 ∷ 9 ∷ 9 ∷ 9 ∷ 9 ∷ [])) paper;
}

-- too many bounds: the number and zeros, and nothing is written
pub refused-left : Left (Unsolved 21) (9 ∷ 9 ∷ 9 ∷ []) (9 ∷ 9 ∷ 9 ∷ 9 ∷ 9 ∷ 9 ∷ []) (9 ∷ 9 ∷ 9 ∷ 9 ∷ 9 ∷ 9 ∷ []) (9 ∷ 9 ∷ 9 ∷ 9 ∷ 9 ∷ 9 ∷ []) (counted 21 0 0)
unfolding counts_of answers_after components_after kinds_after types_after
refused-left = record { counts-are = refl; answers-are = refl; components-are = refl; kinds-are = refl; types-are = refl }

-- a variable without an answer
pub no-answer : answers_after (Solved [] 1 (none ∷ [])) (9 ∷ 9 ∷ []) ≡ (2 ^ 64 - 1) ∷ 9 ∷ []
unfolding answers_after
no-answer = refl
