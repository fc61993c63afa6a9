-- The arguments of a question of the boundary, by what they are: the columns, the numbers asked, the length of the work.
use Rattle.std.specs.Prelude.{ℕ, length}
use borrow.Fn.Kinds.{Dens}
use contract.Lifetimes.{Lfts}
use Rattle.columns.specs.Given.{Given, given}
use Rattle.bracepuffin.proofs.bp_relation.Kinds as bp-relation-kinds
use Rattle.bracepuffin.proofs.bp_ancestors.Kinds as bp-ancestors-kinds

-- ---- of a question with two numbers; those of the six questions are of the same kinds

-- the eight columns
abbrev pub columns_asked : (κs : Lfts 9) → Dens κs bp-relation-kinds.ps → Given
columns_asked κs a =
    given a.0.now a.1.0.now a.1.1.0.now a.1.1.1.0.now a.1.1.1.1.0.now a.1.1.1.1.1.0.now a.1.1.1.1.1.1.0.now a.1.1.1.1.1.1.1.0.now

-- the two numbers
abbrev pub first_asked : (κs : Lfts 9) → Dens κs bp-relation-kinds.ps → ℕ
first_asked κs a = a.1.1.1.1.1.1.1.1.0

abbrev pub second_asked : (κs : Lfts 9) → Dens κs bp-relation-kinds.ps → ℕ
second_asked κs a = a.1.1.1.1.1.1.1.1.1.0

-- the length of the work
abbrev pub room_asked : (κs : Lfts 9) → Dens κs bp-relation-kinds.ps → ℕ
room_asked κs a = length a.1.1.1.1.1.1.1.1.1.1.0.now

-- ---- of the ancestors

abbrev pub columns_of_one : (κs : Lfts 9) → Dens κs bp-ancestors-kinds.ps → Given
columns_of_one κs a =
    given a.0.now a.1.0.now a.1.1.0.now a.1.1.1.0.now a.1.1.1.1.0.now a.1.1.1.1.1.0.now a.1.1.1.1.1.1.0.now a.1.1.1.1.1.1.1.0.now

abbrev pub class_of_one : (κs : Lfts 9) → Dens κs bp-ancestors-kinds.ps → ℕ
class_of_one κs a = a.1.1.1.1.1.1.1.1.0

abbrev pub room_of_one : (κs : Lfts 9) → Dens κs bp-ancestors-kinds.ps → ℕ
room_of_one κs a = length a.1.1.1.1.1.1.1.1.1.0.now
