-- The examples of the scope paper from their columns, and a case for each refusal: one statement over one list, by computation.
-- a/Probe 0, a/TrussA 1, a/TrussB 2, java/lang/Object 3.
use Rattle.std.specs.Prelude.{◌≡◌, refl, List, [], ◌∷◌, ℕ, ◌-◌, ◌^◌, replicate}
use Rattle.text.specs.Text.{ascii}
use Rattle.order.specs.Lists.{elem}
use Rattle.order.specs.Compare.{compare_numbers, compare_lists}
use Rattle.utf8.specs.Utf8.{table, within, matches, first_match, sequence, scan, valid_prefix, well_formed}
use Rattle.sets.specs.Sets as sets
use Rattle.sets.specs.Sets.{bit, at, member, insert, members}
use Rattle.sorted.specs.Sorted.{insert_sorted, put}
use Rattle.checks.specs.Checks.{first_refusal}
use Rattle.ty.specs.Types.{arrays, compare, categories}
use Rattle.ty.specs.Words.{unpack, pack, list_of, good_digits, good_unknown, base_of, type_of, word_of, legal_base, legal_word, all_legal}
use Rattle.names.specs.Names.{place_good, name_checks, check_row, check_rows}
use Rattle.view.specs.View.{insert_all, with_parents, grow, level, reached, reach, steps, distance, number_of, ancestor, all_recorded, complete, relation, relation_number, cast_by_facts, cast, common, below, any_below, lowest, nearer, nearest, numbers, candidates, supertype}
use Rattle.lattice.specs.Lattice.{same_type, has_all, unknown_accepts, in_either, unknown_union, primitive_assignable, assignable_apart, is_assignable, narrow, under_double, join_primitive, join_known, join_apart, join, array_parent, join_array_class}
use Rattle.rows.specs.Rows.{object_name, cloneable_name, serializable_name, good_flags, all_below}
use Rattle.columns.specs.Columns.{inside}
use Rattle.columns.specs.Examples.{bytes}
use Rattle.columns.specs.Given.{Given, given, even_lengths, even}
use Rattle.tableview.specs.TableRows.{is_recorded, listed_parents, set_of, last_declared, place_of, rows_view, rows_world, names_of, records_of, rows_in}
use Rattle.tableview.specs.RowRefusals.{listed, has_pair, different, row_checks}
use Rattle.stackview.specs.LayerRows.{has_record, recorded_above, shown_rows, shown_in}
use Rattle.stackview.specs.LayerRefusals.{open_checks, layer_row_refusal, layers_refusal, stack_refusal_of}
use Rattle.questions.specs.declared.Question.{Question}
use Rattle.questions.specs.declared.Question.TheVariants.{Relation, Distance, Supertype, Cast, Join, Assignable}
use Rattle.questions.specs.declared.Answer.{Answer}
use Rattle.questions.specs.Questions.{good_numbers, table_checks, refusal_of, value_of, answered, answer_of}

-- the records of the given classes: a/Probe with parent 3, both others with parent 0, Object with none, from the parents 3, 0
abbrev pub recording : List ℕ → List ℕ → List ℕ → List ℕ → Given
recording flags classes starts sizes = given bytes (0 ∷ 7 ∷ 15 ∷ 23 ∷ []) (7 ∷ 8 ∷ 8 ∷ 16 ∷ []) flags classes starts sizes (3 ∷ 0 ∷ [])

abbrev pub whole : Given
whole = recording (0 ∷ 0 ∷ 0 ∷ 0 ∷ []) (0 ∷ 1 ∷ 2 ∷ 3 ∷ []) (0 ∷ 1 ∷ 1 ∷ 2 ∷ []) (1 ∷ 1 ∷ 1 ∷ 0 ∷ [])

-- without the record of Object
abbrev pub lacking : Given
lacking = recording (0 ∷ 0 ∷ 0 ∷ []) (0 ∷ 1 ∷ 2 ∷ []) (0 ∷ 1 ∷ 1 ∷ []) (1 ∷ 1 ∷ 1 ∷ [])

-- with a column too short
abbrev pub uneven : Given
uneven = recording (0 ∷ []) (0 ∷ []) (0 ∷ []) []

-- with a/TrussA an interface, and a/TrussB a class with the given flags
abbrev pub declaring : ℕ → Given
declaring flags = recording (0 ∷ 3 ∷ flags ∷ 0 ∷ []) (0 ∷ 1 ∷ 2 ∷ 3 ∷ []) (0 ∷ 1 ∷ 1 ∷ 2 ∷ []) (1 ∷ 1 ∷ 1 ∷ 0 ∷ [])

-- with one record of a/Probe: its flags, and where its parents stand
abbrev pub single : ℕ → ℕ → ℕ → Given
single flags start size = recording (flags ∷ []) (0 ∷ []) (start ∷ []) (size ∷ [])

-- a/Probe alone
abbrev pub objectless : Given
objectless = given bytes (0 ∷ []) (7 ∷ []) [] [] [] [] []

-- over `declaring 1` a layer in which a/TrussA has no parent any more, and no fact is declared
abbrev pub layered : Given
layered = recording (0 ∷ 3 ∷ 1 ∷ 0 ∷ 142 ∷ 0 ∷ []) (0 ∷ 1 ∷ 2 ∷ 3 ∷ 0 ∷ 1 ∷ []) (0 ∷ 1 ∷ 1 ∷ 2 ∷ 0 ∷ 0 ∷ []) (1 ∷ 1 ∷ 1 ∷ 0 ∷ 0 ∷ 0 ∷ [])

-- a row that opens a layer with this class and so many parents
abbrev pub opening : ℕ → ℕ → Given
opening class size = recording (142 ∷ []) (class ∷ []) (0 ∷ []) (size ∷ [])

-- so many layers above the lowest
abbrev pub towering : ℕ → Given
towering n = recording (replicate n 142) (replicate n 0) (replicate n 0) (replicate n 0)

-- ---- one list

pub record Example : Type 0 where
  pub table : Given
  pub asked : Question
  pub a : ℕ
  pub b : ℕ
  pub room : ℕ
  pub answer : Answer

abbrev value : Given → Question → ℕ → ℕ → ℕ → Example
value g q a b x = record { table = g; asked = q; a = a; b = b; room = 8192; answer = record { refusal = 0; value = x } }

abbrev refused : Given → Question → ℕ → ℕ → ℕ → ℕ → Example
refused g q a b room k = record { table = g; asked = q; a = a; b = b; room = room; answer = record { refusal = k; value = 0 } }

abbrev pub holds : Example → Type 0
holds e = answer_of e.table e.asked e.a e.b e.room ≡ e.answer

-- each of a list
abbrev pub All : {A : Type 0} → (A → Type 0) → List A → Type 0
All P [] = Unit {0}
All P (e ∷ es) = P e × All P es

abbrev pub examples : List Example
examples =
    -- a/Probe to a/TrussA: no, and unknown without Object's record; the Trusses: a/Probe; a/TrussA to Object: 2
    value whole Relation 0 1 1
    ∷ value lacking Relation 0 1 2
    ∷ value whole Supertype 1 2 0
    ∷ value whole Distance 1 3 2
    ∷ value whole Distance 0 1 (2 ^ 64 - 1)
    -- Object to a/TrussA: a cast; a/TrussA to a/TrussB: none of two undeclared classes, one from an interface, but not to a final class
    ∷ value whole Cast 3 1 1
    ∷ value whole Cast 1 2 0
    ∷ value (declaring 1) Cast 1 2 1
    ∷ value (declaring 5) Cast 1 2 0
    -- Boolean with Int; an array of Int with a/TrussA; a/TrussA with a/TrussB; Char to Short; an array of Int to Object
    ∷ value whole Join 1 5 0x0002215000000000
    ∷ value whole Join 0x0100000000000005 0x0001000000000001 0x000229a000000000
    ∷ value whole Join 0x0001000000000001 0x0001000000000002 0x0001000000000000
    ∷ value whole Assignable 4 3 0
    ∷ value whole Assignable 0x0100000000000005 0x0001000000000003 1
    -- a work of 8,191 words, a column too short, parents outside their slice, flags that are none, no class 4, no type of class 4, no java/lang/Object
    ∷ refused uneven Relation 0 4 8191 22
    ∷ refused uneven Relation 0 4 8192 3
    ∷ refused (single 2 1 2) Relation 0 4 8192 3
    ∷ refused (single 2 1 1) Relation 0 1 8192 6
    ∷ refused whole Relation 0 4 8192 6
    ∷ refused whole Join 5 0x0001000000000004 8192 7
    ∷ refused objectless Join 5 0x0001000000000004 8192 7
    ∷ refused objectless Assignable 5 0x0001000000000000 8192 9
    -- a layer: a/TrussA to a/Probe was Yes, and is No; the first class above the Trusses is Object; a/TrussA is still an interface
    ∷ value (declaring 1) Relation 1 0 0
    ∷ value layered Relation 1 0 1
    ∷ value layered Relation 2 0 0
    ∷ value layered Supertype 1 2 3
    ∷ value layered Cast 1 2 1
    ∷ value layered Cast 1 0 0
    -- a row that opens a layer with a class, with a parent; three layers above the lowest, and four
    ∷ refused (opening 1 0) Relation 0 1 8192 3
    ∷ refused (opening 0 1) Relation 0 1 8192 3
    ∷ value (towering 3) Relation 0 1 2
    ∷ refused (towering 4) Relation 0 1 8192 8
    ∷ []

-- EVERY EXAMPLE HOLDS
pub all-hold : All holds examples
unfolding answer_of answered refusal_of table_checks good_numbers value_of stack_refusal_of layers_refusal layer_row_refusal open_checks row_checks different has_pair listed even_lengths even rows_view rows_world shown_in shown_rows recorded_above has_record rows_in names_of records_of is_recorded listed_parents set_of last_declared place_of all_legal legal_word legal_base good_unknown good_digits unpack type_of arrays base_of list_of word_of pack compare categories same_type has_all unknown_accepts in_either unknown_union primitive_assignable assignable_apart is_assignable narrow under_double join_primitive join_known join_apart join array_parent join_array_class first_refusal inside ascii object_name cloneable_name serializable_name good_flags all_below check_rows check_row place_good name_checks compare_lists compare_numbers table within matches first_match sequence scan valid_prefix well_formed insert elem insert_sorted put bit at member members sets.first insert_all with_parents grow level reached reach steps distance number_of ancestor all_recorded complete relation relation_number cast_by_facts cast common below any_below lowest nearer nearest numbers candidates supertype
all-hold = (refl, (refl, (refl, (refl, (refl, (refl, (refl, (refl, (refl, (refl, (refl, (refl, (refl, (refl, (refl, (refl, (refl, (refl, (refl, (refl, (refl, (refl, (refl, (refl, (refl, (refl, (refl, (refl, (refl, (refl, (refl, (refl, tt))))))))))))))))))))))))))))))))
