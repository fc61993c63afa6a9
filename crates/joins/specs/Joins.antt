-- What the contracts of this crate cite: which words a join takes, lists in order, and a payload with one member more.
use Rattle.std.specs.Prelude.{◌≡◌, Bool, true, false, ◌&&◌, List, ℕ, ◌+◌, ◌*◌, ◌/◌, ◌%◌, ◌^◌, ◌≤◌, ◌<◌, length, get_or}
use Rattle.ty.specs.Types.{is_known, is_array}
use Rattle.ty.specs.Words.{legal_word, type_of}
use Rattle.tables.specs.declared.Tables.{Tables}
use Rattle.tables.specs.Table.{names_room}
use Rattle.prepared.specs.Prepared.{Prepared}

-- the payload of a list with c before it
unfoldable pub with_first : ℕ → ℕ → ℕ
with_first c load = (load / 2 ^ 44 + 1) * 2 ^ 44 + c * 2 ^ 40 + load % 2 ^ 44 / 16

-- the table's numbers are within the limits, and Object is a name
abbrev pub Fits : Tables → Type 0
Fits t = (t.names ≤ names_room) × (t.object < t.names)

-- and both words are types over its names; what rows there are is right
abbrev pub Joinable : List ℕ → List ℕ → Tables → ℕ → ℕ → Type 0
Joinable pairs marks t left right = Fits t × (legal_word t.names left ≡ true) × (legal_word t.names right ≡ true) × Prepared pairs marks t

-- and they are not the same
abbrev pub Apart : List ℕ → List ℕ → Tables → ℕ → ℕ → Type 0
Apart pairs marks t left right = Joinable pairs marks t left right × (left ≡ right → ⊥)

-- the type of the word is no Unknown
abbrev pub Known : ℕ → Type 0
Known w = is_known (type_of w) ≡ true

-- and no array
abbrev pub Base : ℕ → Type 0
Base w = Known w × (is_array (type_of w) ≡ false)

unfoldable pub both_arrays : ℕ → ℕ → Bool
both_arrays left right = is_array (type_of left) && is_array (type_of right)

-- every word of a list is a type over the names
abbrev pub AllLegal : Tables → List ℕ → Type 0
AllLegal t words = (i : ℕ) → i < length words → legal_word t.names (get_or words i 0) ≡ true
