-- The eight columns of a class table, named as the C header names them, and what their rows come to.
use Rattle.std.specs.Prelude.{Bool, cond, ◌&&◌, List, [], ℕ, eqb, length, replicate}
use Rattle.tables.specs.Table.{marks_room}
use Rattle.rows.specs.Rows.{no_tables, Ran}
use Rattle.columns.specs.Columns.{name_rows, table_of}
use Rattle.columns.specs.declared.TableColumns.{TableColumns}
use Rattle.lending.specs.Lending.{Slice, came}

-- the bytes of the names and the place of each; the flags, the class and the place of the parents of each record; the parents
pub record Given : Type 0 where
  pub names : List ℕ
  pub name_at : List ℕ
  pub name_len : List ℕ
  pub rec_flags : List ℕ
  pub rec_class : List ℕ
  pub rec_at : List ℕ
  pub rec_len : List ℕ
  pub parents : List ℕ

abbrev pub given : List ℕ → List ℕ → List ℕ → List ℕ → List ℕ → List ℕ → List ℕ → List ℕ → Given
given names name_at name_len flags class at len parents = record {
  names = names;
  name_at = name_at;
  name_len = name_len;
  rec_flags = flags;
  rec_class = class;
  rec_at = at;
  rec_len = len;
  parents = parents;
}

-- the columns that a function is lent, as they came
abbrev pub given_by : (names name_at name_len flags class at len parents : Slice) → Given
given_by names name_at name_len flags class at len parents = given (came names) (came name_at) (came name_len) (came flags) (came class) (came at) (came len) (came parents)

-- the columns of a struct
abbrev pub given_of : TableColumns → Given
given_of c = given c.names.now c.name_at.now c.name_len.now c.rec_flags.now c.rec_class.now c.rec_at.now c.rec_len.now c.parents.now

-- two columns for the names and four for the records, of equal length each
unfoldable pub even_lengths : ℕ → ℕ → ℕ → ℕ → ℕ → ℕ → Bool
even_lengths name_at name_len flags class at len = eqb name_at name_len && (eqb flags class && (eqb flags at && eqb flags len))

unfoldable pub even : Given → Bool
even g = even_lengths (length g.name_at) (length g.name_len) (length g.rec_flags) (length g.rec_class) (length g.rec_at) (length g.rec_len)

-- no class is marked
abbrev pub no_marks : List ℕ
no_marks = replicate marks_room 0

-- what the rows come to: the names, then the records, until one is refused
unfoldable pub table : Given → Ran
table g = table_of (name_rows g.names g.name_at g.name_len [] no_tables) g.parents g.rec_flags g.rec_class g.rec_at g.rec_len no_marks

-- uneven columns: 3, and no row is read
abbrev pub uneven_table : Ran
uneven_table = record { refusal = 3; state = record { tables = no_tables; keys = []; marks = no_marks } }

-- the table after the test of the columns
unfoldable pub checked_table : Given → Ran
checked_table g = cond (even g) (table g) uneven_table
