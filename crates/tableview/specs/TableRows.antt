-- A class table as plain rows, and the view and the world that it gives: what a reader must believe of a table. A class is the place
-- of its name.
use Rattle.std.specs.Prelude.{Bool, true, false, cond, ◌&&◌, ◌||◌, List, [], ◌∷◌, ◌++◌, ℕ, ◌/◌, ◌%◌, eqb, length, take, drop}
use Rattle.std.proofs.Math.Option.{Option, some, none}
use Rattle.order.specs.Compare.{compare_lists, is_equal}
use Rattle.names.specs.Names.{name_of, next}
use Rattle.view.specs.View.{View, number_of}
use Rattle.sorted.specs.Sorted.{put}
use Rattle.lattice.specs.Lattice.{World}
use Rattle.lattice.specs.World.{world_with}
use Rattle.rows.specs.Rows.{object_name, cloneable_name, serializable_name}
use Rattle.columns.specs.Given.{Given}

pub record Record : Type 0 where
  pub flags : ℕ
  pub class : ℕ
  pub parents : List ℕ

pub record Rows : Type 0 where
  pub names : List (List ℕ)
  pub records : List Record

-- ---- of a class

-- it has a row
unfoldable pub is_recorded : ℕ → List Record → Bool
is_recorded c [] = false
is_recorded c (r ∷ rs) = eqb r.class c || is_recorded c rs

-- what its rows list
unfoldable pub listed_parents : ℕ → List Record → List ℕ
listed_parents c [] = []
listed_parents c (r ∷ rs) = cond (eqb r.class c) (r.parents ++ listed_parents c rs) (listed_parents c rs)

-- the same as a set: ascending, each once
unfoldable pub set_of : List ℕ → List ℕ
set_of [] = []
set_of (x ∷ xs) = put x (set_of xs)

-- a row of it with flag 1
abbrev pub declares : ℕ → ℕ → ℕ → Option ℕ
declares c flags class = cond (eqb class c && eqb (flags % 2) 1) (some flags) none

abbrev pub later : Option ℕ → Option ℕ → Option ℕ
later none o = o
later (some flags) o = some flags

-- the flags of its last row with flag 1
unfoldable pub last_declared : ℕ → List Record → Option ℕ
last_declared c [] = none
last_declared c (r ∷ rs) = later (last_declared c rs) (declares c r.flags r.class)

-- a fact, by the flags that give it; else as it was
abbrev pub fact_from : (ℕ → Bool) → Option ℕ → Bool → Bool
fact_from f none b = b
fact_from f (some flags) b = f flags

abbrev pub any_flags : ℕ → Bool
any_flags flags = true

abbrev pub interface_flag : ℕ → Bool
interface_flag flags = eqb (flags / 2 % 2) 1

abbrev pub final_flag : ℕ → Bool
final_flag flags = eqb (flags / 4) 1

-- ---- of a name

-- the place of the first that has these bytes
unfoldable pub place_of : List ℕ → List (List ℕ) → Option ℕ
place_of wanted [] = none
place_of wanted (n ∷ ns) = cond (is_equal (compare_lists n wanted)) (some 0) (next (place_of wanted ns))

-- ---- THE VIEW AND THE WORLD OF A TABLE

unfoldable pub rows_view : Rows → View
rows_view t = record {
  names = length t.names;
  object = number_of (place_of object_name t.names);
  recorded = λ c. is_recorded c t.records;
  parents = λ c. set_of (listed_parents c t.records);
  declared = λ c. fact_from any_flags (last_declared c t.records) false;
  interface = λ c. fact_from interface_flag (last_declared c t.records) false;
  final = λ c. fact_from final_flag (last_declared c t.records) false;
}

unfoldable pub rows_world : Rows → World
rows_world t = world_with (rows_view t) (place_of cloneable_name t.names) (place_of serializable_name t.names)

-- ---- the rows that columns give

unfoldable pub names_of : List ℕ → List ℕ → List ℕ → List (List ℕ)
names_of bytes [] lens = []
names_of bytes (at ∷ ats) [] = []
names_of bytes (at ∷ ats) (len ∷ lens) = name_of bytes at len ∷ names_of bytes ats lens

unfoldable pub records_of : List ℕ → List ℕ → List ℕ → List ℕ → List ℕ → List Record
records_of parents [] cs ats ls = []
records_of parents (f ∷ fs) [] ats ls = []
records_of parents (f ∷ fs) (c ∷ cs) [] ls = []
records_of parents (f ∷ fs) (c ∷ cs) (a ∷ ats) [] = []
records_of parents (f ∷ fs) (c ∷ cs) (a ∷ ats) (l ∷ ls) = record { flags = f; class = c; parents = take l (drop a parents) } ∷ records_of parents fs cs ats ls

unfoldable pub rows_in : Given → Rows
rows_in g = record { names = names_of g.names g.name_at g.name_len; records = records_of g.parents g.rec_flags g.rec_class g.rec_at g.rec_len }
