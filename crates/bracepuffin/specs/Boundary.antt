-- What the functions of the boundary answer: the fields of each result, from the definitions below.
use Rattle.std.specs.Prelude.{◌≡◌, cond, List, ℕ, length}
use Rattle.ty.specs.Words.{type_of, word_of}
use Rattle.names.specs.Names.{LookedUp}
use Rattle.writer.specs.Print.{Written, print_word, print_method_words, type_refusal, method_refusal, answer, output}
use Rattle.descriptor.specs.declared.Base.{Base}
use Rattle.descriptor.specs.declared.Base.TheVariants.{Simple, Class}
use Rattle.descriptor.specs.Read.{Read, Found, Refused}
use Rattle.methods.specs.Answers.{MethodRead, method_answer}
use Rattle.methods.specs.Method.{Method}
use Rattle.view.specs.View.{relation, relation_number, distance, number_of, ancestors, supertype, cast}
use Rattle.lattice.specs.Lattice.{join, is_assignable}
use Rattle.columns.specs.Given.{Given, given_by}
use Rattle.tableview.specs.TableRows.{rows_view, rows_world}
use Rattle.stackview.specs.LayerRows.{shown_in}
use Rattle.questions.specs.declared.Question.TheVariants.{Relation, Distance, Supertype, Cast, Join, Assignable}
use Rattle.questions.specs.declared.Answer.{Answer}
use Rattle.questions.specs.declared.Ancestors.{Ancestors}
use Rattle.questions.specs.Questions.{question_refusal, ancestors_refusal, answered, gathered}
use Rattle.tablecheck.specs.declared.TableCheck.{TableCheck}
use Rattle.tablecheck.specs.TableCheck.{table_check}
use Rattle.solving.specs.declared.Counts.{Counts}
use Rattle.problems.specs.Problems.{Columns}
use Rattle.solves.specs.SolveResult.{Lent, counts_of, lent_by, left_by}
use Rattle.solvedoor.specs.SolveDoor.{solve_in, Leaves}
use Rattle.bracepuffin.specs.declared.BpType.{BpType}
use Rattle.bracepuffin.specs.declared.BpMethod.{BpMethod}
use Rattle.bracepuffin.specs.declared.BpWritten.{BpWritten}
use Rattle.bracepuffin.specs.declared.BpFound.{BpFound}
use Rattle.bracepuffin.specs.declared.BpRelation.{BpRelation}
use Rattle.bracepuffin.specs.declared.BpAnswer.{BpAnswer}
use Rattle.bracepuffin.specs.declared.BpSet.{BpSet}
use Rattle.bracepuffin.specs.declared.BpTable.{BpTable}
use Rattle.bracepuffin.specs.declared.BpSolved.{BpSolved}
use Rattle.lending.specs.Lending.{Slice, MutSlice}
use Rattle.problemcolumns.specs.ProblemColumns.{columns_by}

-- tag 0 a primitive by its category, tag 1 a class by the place of its name
abbrev pub type_found : ℕ → Base → BpType
type_found d (Simple k) = record { refusal = 0; offset = 0; byte = 0; dims = d; tag = 0; category = k; name_at = 0; name_len = 0 }
type_found d (Class at n) = record { refusal = 0; offset = 0; byte = 0; dims = d; tag = 1; category = 0; name_at = at; name_len = n }

abbrev pub type_answer : Read → BpType
type_answer (Found d base next) = type_found d base
type_answer (Refused code at b) = record { refusal = code; offset = at; byte = b; dims = 0; tag = 0; category = 0; name_at = 0; name_len = 0 }

abbrev pub bp_method_of : MethodRead → Base → BpMethod
bp_method_of m (Simple k) =
    record { refusal = m.refusal; offset = m.offset; byte = m.byte; count = m.count; return_at = m.return_at; dims = m.dims; tag = 0; category = k; name_at = 0; name_len = 0 }
bp_method_of m (Class at n) =
    record { refusal = m.refusal; offset = m.offset; byte = m.byte; count = m.count; return_at = m.return_at; dims = m.dims; tag = 1; category = 0; name_at = at; name_len = n }

abbrev pub bp_method : MethodRead → BpMethod
bp_method m = bp_method_of m m.base

abbrev pub method_result : Method → BpMethod
method_result m = bp_method (method_answer m)

-- ---- what is written, and what is looked up

abbrev pub written_answer : Written → BpWritten
written_answer w = record { refusal = w.refusal; «length» = w.«length» }

-- what a writer promises of its result and of the output at its end
pub record Wrote (refusal : ℕ) (printed out out' : List ℕ) (r : BpWritten) : Type 0 where
  pub result : r ≡ written_answer (answer refusal printed)
  pub memory : out' ≡ output refusal printed out

-- of a word, and of the words of a method, over a table of names
abbrev pub WroteType : List ℕ → List ℕ → List ℕ → ℕ → List ℕ → List ℕ → BpWritten → Type 0
WroteType names at len word out out' r = Wrote (type_refusal names at len word (length out)) (print_word names at len word) out out' r

abbrev pub WroteMethod : List ℕ → List ℕ → List ℕ → List ℕ → ℕ → List ℕ → List ℕ → BpWritten → Type 0
WroteMethod names at len params result out out' r =
    Wrote (method_refusal names at len params result (length out)) (print_method_words names at len params result) out out' r

abbrev pub found_answer : LookedUp → BpFound
found_answer f = record { refusal = f.refusal; class_no = f.class_no }

-- ---- where a table is refused, and with what

abbrev pub check_answer : TableCheck → BpTable
check_answer c = record { refusal = c.refusal; part = c.part; row = c.row }

abbrev pub check_told : Given → BpTable
check_told g = check_answer (table_check g)

-- ---- what is asked, of the rows that the columns' layers show; the last number is the length of the work

abbrev pub relation_answer : Answer → BpRelation
relation_answer a = record { refusal = a.refusal; relation = a.value }

abbrev pub number_answer : Answer → BpAnswer
number_answer a = record { refusal = a.refusal; value = a.value }

abbrev pub set_answer : Ancestors → BpSet
set_answer a = record { refusal = a.refusal; count = a.count; lowest = a.lowest; words = a.set.words }

unfoldable pub relation_told : Given → ℕ → ℕ → ℕ → BpRelation
relation_told g value expected room =
    relation_answer (answered (question_refusal g Relation value expected room) (relation_number (relation (rows_view (shown_in g)) value expected)))

unfoldable pub distance_told : Given → ℕ → ℕ → ℕ → BpAnswer
distance_told g value expected room =
    number_answer (answered (question_refusal g Distance value expected room) (number_of (distance (rows_view (shown_in g)) value expected)))

unfoldable pub ancestors_told : Given → ℕ → ℕ → BpSet
ancestors_told g class room = set_answer (gathered (ancestors_refusal g class room) (ancestors (rows_view (shown_in g)) class))

unfoldable pub supertype_told : Given → ℕ → ℕ → ℕ → BpAnswer
supertype_told g left right room =
    number_answer (answered (question_refusal g Supertype left right room) (number_of (supertype (rows_view (shown_in g)) left right)))

unfoldable pub cast_told : Given → ℕ → ℕ → ℕ → BpAnswer
cast_told g source target room =
    number_answer (answered (question_refusal g Cast source target room) (cond (cast (rows_view (shown_in g)) source target) 1 0))

unfoldable pub join_told : Given → ℕ → ℕ → ℕ → BpAnswer
join_told g left right room =
    number_answer (answered (question_refusal g Join left right room) (word_of (join (rows_world (shown_in g)) (type_of left) (type_of right))))

unfoldable pub assignable_told : Given → ℕ → ℕ → ℕ → BpAnswer
assignable_told g value expected room =
    number_answer (answered (question_refusal g Assignable value expected room) (cond (is_assignable (rows_world (shown_in g)) (type_of value) (type_of expected)) 1 0))

-- ---- a solve, over the rows that the columns' layers show

abbrev pub solved_answer : Counts → BpSolved
solved_answer c = record { refusal = c.refusal; bounds = c.bounds; turns = c.turns }

unfoldable pub solved_told : Given → Columns → Lent → BpSolved
solved_told g c lent = solved_answer (counts_of (solve_in g c lent))

-- of what the call is lent, in the order of its parameters: the result, and what stands in the slices afterwards
abbrev pub bp_solved : (names name_at name_len flags class at len parents : Slice) → ℕ → (vc bc bk bt fs fd us ud ra rr wa wv : Slice) → (answers oc ok ot work : MutSlice) → BpSolved
bp_solved names name_at name_len flags class at len parents n vc bc bk bt fs fd us ud ra rr wa wv answers oc ok ot work =
    solved_told (given_by names name_at name_len flags class at len parents) (columns_by n vc bc bk bt fs fd us ud ra rr wa wv) (lent_by answers oc ok ot work)

abbrev pub SolveLeaves : (names name_at name_len flags class at len parents : Slice) → ℕ → (vc bc bk bt fs fd us ud ra rr wa wv : Slice) → (answers oc ok ot work : MutSlice) → Type 0
SolveLeaves names name_at name_len flags class at len parents n vc bc bk bt fs fd us ud ra rr wa wv answers oc ok ot work =
    Leaves (given_by names name_at name_len flags class at len parents) (columns_by n vc bc bk bt fs fd us ud ra rr wa wv)
    (lent_by answers oc ok ot work) (left_by answers oc ok ot work)
