-- THE PROVED EXAMPLES OF THE SCOPE PAPER: one statement over one list, of the definitions, the class table in the words of its rows.
-- All ten are there.
use Rattle.std.specs.Prelude.{◌≡◌, refl, Bool, false, List, [], ◌∷◌, ℕ}
use Rattle.std.proofs.Math.Option.{some}
use Prim.Native.String.{String}
use Rattle.order.specs.Compare.{compare_numbers, compare_lists}
use Rattle.order.specs.Lists.{elem}
use Rattle.text.specs.Text.{ascii}
use Rattle.sets.specs.Sets.{bit, at, member, insert, members, first}
use Rattle.sorted.specs.Sorted.{insert_sorted, put}
use Rattle.utf8.specs.Utf8.{table, within, matches, first_match, sequence, scan, valid_prefix}
use Rattle.ty.specs.Types.{ArgType, Primitive, Object, Unknown, Boolean, Short, Char, Int, compare, categories}
use Rattle.descriptor.specs.declared.Base.TheVariants.{Simple}
use Rattle.descriptor.specs.Read.{Read, Found, Refused, letter_of, index_of, name_read, read_name, read_type, finish, read_whole}
use Rattle.methods.specs.Method.{Method, Broken, read_params, returns, after_params, read_method}
use Rattle.view.specs.declared.Relation.{Relation}
use Rattle.view.specs.declared.Relation.TheVariants.{No, Unknown as Incomplete}
use Rattle.view.specs.View.{number_of, insert_all, with_parents, grow, level, reached, reach, steps, distance, ancestor, all_recorded, complete, relation, common, below, any_below, lowest, nearer, nearest, numbers, candidates, supertype}
use Rattle.lattice.specs.Lattice.{same_type, has_all, unknown_accepts, in_either, unknown_union, primitive_assignable, assignable_apart, is_assignable, narrow, under_double, join_primitive, join_known, join_apart, join, join_from, join_all}
use Rattle.rows.specs.Rows.{object_name, cloneable_name, serializable_name}
use Rattle.tableview.specs.TableRows.{Record, Rows, is_recorded, listed_parents, set_of, last_declared, rows_view, rows_world}
use Rattle.tableview.specs.TableRows as rows
use Rattle.questionlaws.specs.Examples.{All}

-- ---- the paper's table: lines 1 to 8 of its frames

abbrev row : ℕ → List ℕ → Record
row class parents = record { flags = 0; class = class; parents = parents }

abbrev named : List Record → Rows
named records = record { names = ascii "a/Probe" ∷ ascii "a/TrussA" ∷ ascii "a/TrussB" ∷ ascii "java/lang/Object" ∷ []; records = records }

abbrev pub paper : Rows
paper = named (row 0 (3 ∷ []) ∷ row 1 (0 ∷ []) ∷ row 2 (0 ∷ []) ∷ row 3 [] ∷ [])

-- without line 8, the record of java/lang/Object
abbrev pub lacking : Rows
lacking = named (row 0 (3 ∷ []) ∷ row 1 (0 ∷ []) ∷ row 2 (0 ∷ []) ∷ [])

-- ---- what an example is

pub data Example : Type 0 where
  -- a descriptor of a type, of a method
  Reads : String → Read → Example
  ReadsMethod : String → Method → Example
  -- frames 0b and 0c: how one class stands to another, the least common supertype of two
  Stands : Rows → ℕ → ℕ → Relation → Example
  Common : Rows → ℕ → ℕ → ℕ → Example
  -- types over a table: the join of two, of a list in order, whether a value goes where another is expected
  Joins : Rows → ArgType → ArgType → ArgType → Example
  JoinsAll : Rows → List ArgType → ArgType → Example
  Assigns : Rows → ArgType → ArgType → Bool → Example

abbrev pub Holds : Example → Type 0
Holds (Reads text r) = read_whole (ascii text) ≡ r
Holds (ReadsMethod text m) = read_method (ascii text) ≡ m
Holds (Stands t value expected r) = relation (rows_view t) value expected ≡ r
Holds (Common t left right c) = supertype (rows_view t) left right ≡ some c
Holds (Joins t left right u) = join (rows_world t) left right ≡ u
Holds (JoinsAll t list u) = join_all (rows_world t) list ≡ some u
Holds (Assigns t value expected b) = is_assignable (rows_world t) value expected ≡ b

-- ---- the list

abbrev pub examples : List Example
examples =
    Reads "[V" (Refused 13 1 0)
    ∷ Reads "L;" (Refused 14 0 0)
    ∷ Reads "[[I" (Found 2 (Simple Int) 3)
    ∷ ReadsMethod "()" (Broken 11 2 0)
    ∷ Stands paper 0 1 No
    ∷ Common paper 1 2 0
    ∷ Stands lacking 0 1 Incomplete
    ∷ Joins paper (Primitive Boolean) (Primitive Int) (Unknown (Boolean ∷ Int ∷ []))
    ∷ JoinsAll paper (Primitive Boolean ∷ Object 1 ∷ Object 2 ∷ []) (Object 2)
    ∷ Assigns paper (Primitive Char) (Primitive Short) false
    ∷ []

-- EVERY EXAMPLE HOLDS, by computation
pub examples-hold : All Holds examples
unfolding ascii letter_of index_of name_read read_name read_type finish read_whole read_params returns after_params read_method table within matches first_match sequence scan valid_prefix rows_view rows_world rows.place_of object_name cloneable_name serializable_name is_recorded listed_parents set_of put insert_sorted elem last_declared number_of bit at member insert members first insert_all with_parents grow level reached reach steps distance ancestor all_recorded complete relation common below any_below lowest nearer nearest numbers candidates supertype compare_numbers compare_lists compare categories same_type has_all unknown_accepts in_either unknown_union primitive_assignable assignable_apart is_assignable narrow under_double join_primitive join_known join_apart join join_from join_all
examples-hold = (refl, (refl, (refl, (refl, (refl, (refl, (refl, (refl, (refl, (refl, tt))))))))))
