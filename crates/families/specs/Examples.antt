-- Which question reads which view, by computation. 0 has the parent 1, and 1 the parent 2 in the whole table alone; 3 is Object. The search from 0 reads a
-- table in which 1 has no parents.
use Rattle.std.specs.Prelude.{false, List, [], ◌∷◌, ℕ, zero, suc, ltb}
use Rattle.view.specs.View.{View}
use Rattle.families.specs.Families.{Family}

abbrev up : List ℕ → ℕ → List ℕ
up above zero = 1 ∷ []
up above (suc zero) = above
up above (suc (suc c)) = []

abbrev with : List ℕ → View
with above = record { names = 4; object = 3; recorded = λ c. ltb c 3; parents = up above; declared = λ c. false; interface = λ c. false; final = λ c. false }

abbrev pub partly : Family
partly = record { whole = with (2 ∷ []); from = λ x. with [] }
