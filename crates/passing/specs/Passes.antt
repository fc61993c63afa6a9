-- What the contracts of the passes cite.
use Rattle.std.specs.Prelude.{List, map, ℕ, ◌%◌}

-- the second component of a link's number, and of each of a list
abbrev pub second : ℕ → ℕ
second x = x % 512

abbrev pub seconds : List ℕ → List ℕ
seconds links = map second links
