-- A hex frame against the tables: kind, length, order, and then the row functions of the columns. Every definition that a contract of the
-- frame step cites.
use Rattle.std.specs.Prelude.{Bool, cond, not, ◌&&◌, ◌||◌, List, [], ◌∷◌, ℕ, ◌-◌, ◌%◌, ◌^◌, eqb, leb, ltb, length, drop, get_or}
use Rattle.std.proofs.Math.Option.{Option, some, none}
use Rattle.ty.specs.Types.{ArgType}
use Rattle.checks.specs.Checks.{Check, check, first_refusal}
use Rattle.view.specs.View.{View, relation, relation_number, supertype, cast}
use Rattle.tables.specs.declared.Tables.{Tables}
use Rattle.rows.specs.Rows.{no_tables, name_row, State, all_below}
use Rattle.columns.specs.Given.{no_marks}
use Rattle.layers.specs.Stacks.{Stack, ground, with_names, stack_refusal, stack_row, open_refusal, open_row}
use Rattle.tableview.specs.Inner.{state_view, state_world}
use Rattle.solving.specs.Solving.{Problem, Solution, Unsolved, Solved, solve}
use Rattle.problems.specs.Problems.{ProblemRow, counted, variable, bounded, flow, upper_flow, reading, writing, no_problem, row_refusal, problem_row}
use Rattle.hexline.specs.Hex.{hex_bytes, bad_hex, number_at, numbers_in, bytes_number}

-- ---- the state

pub record Store : Type 0 where
  -- the last name that was taken; no other name is kept
  pub last : List ℕ
  -- the class table, in layers
  pub classes : Stack
  pub problem : Problem
  -- the highest kind accepted; 10 for 0a to 0d, 2 for 0e
  pub rank : ℕ

unfoldable pub empty_store : Store
empty_store = record { last = []; classes = ground (record { tables = no_tables; keys = []; marks = no_marks }); problem = no_problem; rank = 0 }

-- what the layers together show
abbrev pub shown : Store → State
shown s = s.classes.top.shown

-- ---- a line as bytes

abbrev pub kind_of : Option (List ℕ) → ℕ
kind_of none = 0
kind_of (some []) = 0
kind_of (some (k ∷ body)) = k

abbrev pub body_of : Option (List ℕ) → List ℕ
body_of none = []
body_of (some []) = []
body_of (some (k ∷ body)) = body

-- KIND
unfoldable pub bad_kind : ℕ → Bool
bad_kind k = eqb k 0 || ltb 14 k

-- LENGTH, by kind
unfoldable pub good_length : ℕ → ℕ → Bool
good_length k n =
    cond (eqb k 1) (leb 1 n && leb n 255)
    (cond (eqb k 2) (leb 3 n && (eqb (n % 2) 1 && leb n 511))
    (cond (leb k 4) (eqb n 2)
    (cond (eqb k 5) (eqb n 11)
    (cond (eqb k 10) (eqb n 0)
    (cond (eqb k 14) (eqb n 0) (eqb n 4))))))

-- 0a to 0d are free among themselves, and 0e ranks as 02
abbrev pub rank_of : ℕ → ℕ
rank_of k = cond (ltb k 10) k (cond (eqb k 14) 2 10)

-- ORDER: lower than one accepted before, or 03 again
unfoldable pub bad_order : ℕ → ℕ → Bool
bad_order k rank = ltb (rank_of k) rank || (eqb k 3 && eqb rank 3)

-- ---- what a frame says

pub data Question : Type 0 where
  Relating : Question
  Supertyping : Question
  Casting : Question

pub data Message : Type 0 where
  naming : List ℕ → Message
  recording : ℕ → ℕ → List ℕ → Message
  opening : Message
  row : ProblemRow → Message
  solving : Message
  asking : Question → ℕ → ℕ → Message

unfoldable pub message_of : ℕ → List ℕ → Message
message_of k body =
    cond (eqb k 1) (naming body)
    (cond (eqb k 2) (recording (get_or body 0 0) (number_at 1 body) (numbers_in (drop 3 body)))
    (cond (eqb k 3) (row (counted (number_at 0 body)))
    (cond (eqb k 4) (row (variable (number_at 0 body)))
    (cond (eqb k 5) (row (bounded (number_at 0 body) (get_or body 2 0) (bytes_number 0 (drop 3 body))))
    (cond (eqb k 6) (row (flow (number_at 0 body) (number_at 2 body)))
    (cond (eqb k 7) (row (upper_flow (number_at 0 body) (number_at 2 body)))
    (cond (eqb k 8) (row (reading (number_at 0 body) (number_at 2 body)))
    (cond (eqb k 9) (row (writing (number_at 0 body) (number_at 2 body)))
    (cond (eqb k 10) solving
    (cond (eqb k 11) (asking Relating (number_at 0 body) (number_at 2 body))
    (cond (eqb k 12) (asking Supertyping (number_at 0 body) (number_at 2 body))
    (cond (eqb k 13) (asking Casting (number_at 0 body) (number_at 2 body)) opening))))))))))))

-- ---- what it is refused for: as the columns' rows are

-- of a question or a solve, in order: a number that is no class; no name is java/lang/Object
unfoldable pub ask_checks : Tables → List ℕ → List Check
ask_checks t numbers = check (not (all_below t.names numbers)) 6 ∷ check (eqb t.object (2 ^ 64 - 1)) 9 ∷ []

-- 6 for a name is impossible, 7 comes with bounds alone, 10 and 5 with names, 9 with questions and solves
unfoldable pub message_refusal : Message → Store → ℕ
message_refusal (naming n) s = (name_row s.last n (shown s).tables).refusal
message_refusal (recording flags class parents) s = stack_refusal s.classes flags class parents
message_refusal opening s = open_refusal s.classes
message_refusal (row r) s = row_refusal (shown s).tables.names r s.problem
message_refusal solving s = first_refusal (ask_checks (shown s).tables [])
message_refusal (asking q a b) s = first_refusal (ask_checks (shown s).tables (a ∷ b ∷ []))

unfoldable pub frame_checks : Option (List ℕ) → Store → List Check
frame_checks f s =
    check (bad_hex f) 1
    ∷ check (bad_kind (kind_of f)) 2
    ∷ check (not (good_length (kind_of f) (length (body_of f)))) 3
    ∷ check (bad_order (kind_of f) s.rank) 4
    ∷ check (not (eqb (message_refusal (message_of (kind_of f) (body_of f)) s) 0)) (message_refusal (message_of (kind_of f) (body_of f)) s)
    ∷ []

-- ---- what it makes of the state, and what it says

pub data Said : Type 0 where
  Accepted : Said
  Answers : List (Option ArgType) → Said
  -- 0 Yes, 1 No, 2 Unknown
  Related : ℕ → Said
  Supertyped : Option ℕ → Said
  Castable : Bool → Said
  Refused : ℕ → Said

pub record Stepped : Type 0 where
  pub said : Said
  pub store : Store

abbrev pub stepped : Said → Store → Stepped
stepped said s = record { said = said; store = s }

-- by the same row functions
unfoldable pub with_message : ℕ → Message → Store → Store
with_message rank (naming n) s = record {
  last = n;
  classes = with_names s.classes (name_row s.last n (shown s).tables).tables;
  problem = s.problem;
  rank = rank;
}
with_message rank (recording flags class parents) s = record { last = s.last; classes = stack_row s.classes flags class parents; problem = s.problem; rank = rank }
with_message rank opening s = record { last = s.last; classes = open_row s.classes; problem = s.problem; rank = rank }
with_message rank (row r) s = record { last = s.last; classes = s.classes; problem = (problem_row (shown s).tables.names r s.problem).problem; rank = rank }
with_message rank solving s = record { last = s.last; classes = s.classes; problem = s.problem; rank = rank }
with_message rank (asking q a b) s = record { last = s.last; classes = s.classes; problem = s.problem; rank = rank }

-- a refused run leaves the state, the rank included
abbrev pub solved_step : ℕ → Store → Solution → Stepped
solved_step rank s (Unsolved k) = stepped (Refused k) s
solved_step rank s (Solved table turns answers) = stepped (Answers answers) (with_message rank solving s)

unfoldable pub answer : Question → ℕ → ℕ → View → Said
answer Relating a b v = Related (relation_number (relation v a b))
answer Supertyping a b v = Supertyped (supertype v a b)
answer Casting a b v = Castable (cast v a b)

-- a message that no check refuses
unfoldable pub accepted : ℕ → Message → Store → Stepped
accepted rank (naming n) s = stepped Accepted (with_message rank (naming n) s)
accepted rank (recording flags class parents) s = stepped Accepted (with_message rank (recording flags class parents) s)
accepted rank opening s = stepped Accepted (with_message rank opening s)
accepted rank (row r) s = stepped Accepted (with_message rank (row r) s)
accepted rank solving s = solved_step rank s (solve (state_world (shown s)) s.problem)
accepted rank (asking q a b) s = stepped (answer q a b (state_view (shown s))) (with_message rank (asking q a b) s)

-- ---- ONE FRAME

unfoldable pub frame_bytes : Option (List ℕ) → Store → Stepped
frame_bytes f s =
    cond (eqb (first_refusal (frame_checks f s)) 0) (accepted (rank_of (kind_of f)) (message_of (kind_of f) (body_of f)) s)
    (stepped (Refused (first_refusal (frame_checks f s))) s)

unfoldable pub frame : List ℕ → Store → Stepped
frame line s = frame_bytes (hex_bytes line) s
