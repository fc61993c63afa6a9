-- Rows by computation: what is taken, what is refused and in which order, on both sides of the limits.
use Rattle.std.specs.Prelude.{◌≡◌, refl, ◌+◌, ◌^◌}
use Rattle.order.specs.Compare.{compare_numbers}
use Rattle.checks.specs.Checks.{first_refusal}
use Rattle.ty.specs.Words.{legal_word, legal_base}
use Rattle.solving.specs.Ordered.{insert}
use Rattle.solving.specs.Solving.{compare_pairs}
use Rattle.problems.specs.Problems.{counted, variable, bounded, flow, upper_flow, reading, writing, no_problem, with_row, row_checks, row_refusal, problem_row, problem_rows, variable_rows, bound_rows, pair_rows, problem_in, problem}
use Rattle.problems.specs.Examples.{count_from, two_components, full, small}

pub count-examples : (row_refusal 3 (counted 512) no_problem ≡ 0) × (row_refusal 3 (counted 513) no_problem ≡ 8)
unfolding row_refusal row_checks first_refusal
count-examples = (refl, refl)

-- 6 before 8; a variable is never there already
pub variable-examples : (row_refusal 3 (variable 1) two_components ≡ 0) × (row_refusal 3 (variable 2) two_components ≡ 6) × (row_refusal 3 (variable 0) full ≡ 8) × (row_refusal 3 (variable 512) full ≡ 6)
unfolding row_refusal row_checks first_refusal two_components full count_from
variable-examples = (refl, refl, refl, refl)

-- kinds 0 to 4; 6 before 7: a class of 3, and the fourth
pub bound-examples : (row_refusal 3 (bounded 1 4 (2 ^ 48 + 2)) two_components ≡ 0) × (row_refusal 3 (bounded 1 5 (2 ^ 48 + 2)) two_components ≡ 6)
    × (row_refusal 3 (bounded 2 4 (2 ^ 48 + 2)) two_components ≡ 6) × (row_refusal 3 (bounded 1 4 (2 ^ 48 + 3)) two_components ≡ 7) × (row_refusal 3 (bounded 1 5 (2 ^ 48 + 3)) two_components ≡ 6)
unfolding row_refusal row_checks first_refusal two_components legal_word legal_base insert
bound-examples = (refl, refl, refl, refl, refl)

-- an entry that is there is never refused 8, a new one past the limit is; reads and writes have one room
pub pair-examples : (row_refusal 3 (flow 1 0) two_components ≡ 0) × (row_refusal 3 (flow 0 2) two_components ≡ 6) × (row_refusal 3 (flow 2 0) two_components ≡ 6)
    × (row_refusal 3 (flow 3 511) full ≡ 0) × (row_refusal 3 (flow 4 0) full ≡ 8) × (row_refusal 3 (flow 512 0) full ≡ 6)
    × (row_refusal 3 (upper_flow 1 511) full ≡ 0) × (row_refusal 3 (upper_flow 2 0) full ≡ 8)
    × (row_refusal 3 (reading 0 24) full ≡ 0) × (row_refusal 3 (reading 2 0) full ≡ 8)
    × (row_refusal 3 (writing 0 23) full ≡ 0) × (row_refusal 3 (writing 0 24) full ≡ 8)
unfolding row_refusal row_checks first_refusal two_components full count_from insert compare_pairs compare_numbers
pair-examples = (refl, refl, refl, refl, refl, refl, refl, refl, refl, refl, refl, refl)

-- in order of kind: the count comes first; what is wrong with a variable comes before a bound's type, and this before what is wrong with a flow or a write
pub column-examples : ((problem 3 (small 2 1 (2 ^ 48 + 2) 1 1)).refusal ≡ 0) × ((problem 3 (small 513 600 (2 ^ 48 + 3) 600 600)).refusal ≡ 8)
    × ((problem 3 (small 2 2 (2 ^ 48 + 3) 1 1)).refusal ≡ 6) × ((problem 3 (small 2 1 (2 ^ 48 + 3) 2 1)).refusal ≡ 7)
    × ((problem 3 (small 2 1 (2 ^ 48 + 2) 2 1)).refusal ≡ 6) × ((problem 3 (small 2 1 (2 ^ 48 + 2) 1 2)).refusal ≡ 6)
unfolding problem problem_in problem_rows problem_row variable_rows bound_rows pair_rows with_row no_problem row_refusal row_checks first_refusal small legal_word legal_base insert
column-examples = (refl, refl, refl, refl, refl, refl)
