-- What a row is refused for, and what it makes of the tables: every definition that a contract of this crate cites.
use Rattle.std.specs.Prelude.{◌≡◌, Bool, true, cond, not, ◌&&◌, ◌||◌, List, [], ◌∷◌, ◌++◌, ℕ, ◌+◌, ◌-◌, ◌*◌, ◌/◌, ◌%◌, ◌^◌, ◌<◌, eqb, leb, ltb, length, take, drop, get_or}
use Rattle.text.specs.Text.{ascii}
use Rattle.order.specs.Compare.{compare_lists, is_equal}
use Rattle.sets.specs.Sets.{member, insert, remove}
use Rattle.sorted.specs.Sorted.{has, put}
use Rattle.checks.specs.Checks.{Check, check, first_refusal}
use Rattle.names.specs.Names.{check_name}
use Rattle.tables.specs.declared.Tables.{Tables}
use Rattle.tables.specs.Table.{names_room, pairs_room}
use Rattle.rows.specs.declared.Outcome.{Outcome}

-- ---- a name

-- the three names that the tables keep the numbers of
unfoldable pub object_name : List ℕ
object_name = ascii "java/lang/Object"

unfoldable pub cloneable_name : List ℕ
cloneable_name = ascii "java/lang/Cloneable"

unfoldable pub serializable_name : List ℕ
serializable_name = ascii "java/io/Serializable"

-- the number of a name that is the wanted one; else what was known
unfoldable pub noted : List ℕ → List ℕ → ℕ → ℕ → ℕ
noted name wanted number known = cond (is_equal (compare_lists name wanted)) number known

-- the tables with a name, whose number is how many there were
unfoldable pub with_name : List ℕ → Tables → Tables
with_name name t = record {
  names = t.names + 1;
  bytes = t.bytes + length name;
  object = noted name object_name t.names t.object;
  cloneable = noted name cloneable_name t.names t.cloneable;
  serializable = noted name serializable_name t.names t.serializable;
  pairs = t.pairs;
}

-- the tables before the first row
unfoldable pub no_tables : Tables
no_tables = record { names = 0; bytes = 0; object = 2 ^ 64 - 1; cloneable = 2 ^ 64 - 1; serializable = 2 ^ 64 - 1; pairs = 0 }

-- a refused row leaves the tables as they were
abbrev pub outcome : ℕ → Tables → Tables → Outcome
outcome refusal before after = record { refusal = refusal; tables = cond (eqb refusal 0) after before }

-- a name is refused as names are: 3, 10, 5, 8
unfoldable pub name_row : List ℕ → List ℕ → Tables → Outcome
name_row last name t = outcome (check_name last name t.names t.bytes) t (with_name name t)

-- ---- a record

-- what the tables hold; `tables.pairs` is the number of keys
pub record State : Type 0 where
  pub tables : Tables
  -- class * 1024 + parent, ascending
  pub keys : List ℕ
  -- four sets: class c is number 1024 * k + c, where k is 0 recorded, 1 declared, 2 interface, 3 final
  pub marks : List ℕ

-- what two slices hold
abbrev pub state_of : List ℕ → List ℕ → Tables → State
state_of pairs marks t = record { tables = t; keys = take t.pairs pairs; marks = marks }

-- none; declared, with or without interface and final
unfoldable pub good_flags : ℕ → Bool
good_flags flags = eqb flags 0 || (eqb (flags % 2) 1 && leb flags 7)

-- whether each is below n
unfoldable pub all_below : ℕ → List ℕ → Bool
all_below n [] = true
all_below n (x ∷ xs) = ltb x n && all_below n xs

-- the key of a pair
abbrev pub key : ℕ → ℕ → ℕ
key class parent = class * names_room + parent

-- the keys with each parent of a class
unfoldable pub put_all : ℕ → List ℕ → List ℕ → List ℕ
put_all class [] l = l
put_all class (p ∷ ps) l = put_all class ps (put (key class p) l)

-- whether c is in set k
abbrev pub is_marked : ℕ → ℕ → List ℕ → Bool
is_marked k c marks = member marks (names_room * k + c)

-- c put into set k, or taken out of it
unfoldable pub marked : Bool → ℕ → ℕ → List ℕ → List ℕ
marked on k c marks = cond on (insert marks (names_room * k + c)) (remove marks (names_room * k + c))

-- a class is recorded; a declared record gives its facts, another leaves them
unfoldable pub record_marks : ℕ → ℕ → List ℕ → List ℕ
record_marks flags class marks =
    cond (eqb (flags % 2) 1)
    (marked (eqb (flags / 4) 1) 3 class (marked (eqb (flags / 2 % 2) 1) 2 class (marked true 1 class (marked true 0 class marks))))
    (marked true 0 class marks)

-- what is refused of a record's numbers, whatever keys there are: LENGTH, NUMBER
unfoldable pub numbers_refusal : ℕ → ℕ → ℕ → List ℕ → ℕ
numbers_refusal names flags class parents = cond (ltb 254 (length parents)) 3 (cond (good_flags flags && (ltb class names && all_below names parents)) 0 6)

-- what is refused of a record, in this order: LENGTH, NUMBER, ROOM
-- `names`, `keys`: how many names there are, and the keys before it
unfoldable pub record_checks : ℕ → List ℕ → ℕ → ℕ → List ℕ → List Check
record_checks names keys flags class parents =
    check (ltb 254 (length parents)) 3
    ∷ check (not (good_flags flags && (ltb class names && all_below names parents))) 6
    ∷ check (ltb pairs_room (length (put_all class parents keys))) 8
    ∷ []

-- the first of them that holds; 0 where none does
unfoldable pub record_refusal : ℕ → List ℕ → ℕ → ℕ → List ℕ → ℕ
record_refusal names keys flags class parents = first_refusal (record_checks names keys flags class parents)

-- the tables with n keys
abbrev pub with_pairs : Tables → ℕ → Tables
with_pairs t n = record {
  names = t.names;
  bytes = t.bytes;
  object = t.object;
  cloneable = t.cloneable;
  serializable = t.serializable;
  pairs = n;
}

-- the state with a record
unfoldable pub with_record : State → ℕ → ℕ → List ℕ → State
with_record s flags class parents = record {
  tables = with_pairs s.tables (length (put_all class parents s.keys));
  keys = put_all class parents s.keys;
  marks = record_marks flags class s.marks;
}

-- the state after a record: a refused one leaves no pair, fact or mark
unfoldable pub record_row : State → ℕ → ℕ → List ℕ → State
record_row s flags class parents = cond (eqb (record_refusal s.tables.names s.keys flags class parents) 0) (with_record s flags class parents) s

-- a slice with the entries l in front; what stands past them stays
abbrev pub filled : List ℕ → List ℕ → List ℕ
filled l a = l ++ drop (length l) a

-- a refusal, and the state after it
pub record Ran : Type 0 where
  pub refusal : ℕ
  pub state : State

-- what a record comes to
abbrev pub record_ran : State → ℕ → ℕ → List ℕ → Ran
record_ran s flags class parents = record { refusal = record_refusal s.tables.names s.keys flags class parents; state = record_row s flags class parents }

-- what a result and two slices hold after rows: the keys in front of the pairs as they came
pub record Fills (after : Ran) (pairs pairs' marks' : List ℕ) (r : Outcome) : Type 0 where
  pub outcome-is : r ≡ record { refusal = after.refusal; tables = after.state.tables }
  pub pairs-are : pairs' ≡ filled after.state.keys pairs
  pub marks-are : marks' ≡ after.state.marks

-- ---- how the room is counted

-- each below n
abbrev pub Below : ℕ → List ℕ → Type 0
Below n xs = (i : ℕ) → i < length xs → get_or xs i 0 < n

-- a set with the parents whose key is not there yet
unfoldable pub fresh_in : List ℕ → ℕ → List ℕ → List ℕ → List ℕ
fresh_in l class [] ws = ws
fresh_in l class (p ∷ ps) ws = fresh_in l class ps (cond (has (key class p) l) ws (insert ws p))
