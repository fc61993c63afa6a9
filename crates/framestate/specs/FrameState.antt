-- THE STATE OF HEX FRAMES IN LENT SLICES, of which the first entries count, and one struct of numbers: which state they hold, what a sound one
-- has, and what a frame leaves in them. Every definition that a contract of the frames' code cites.
use Rattle.std.specs.Prelude.{◌≡◌, cond, List, map, ℕ, ◌≤◌, eqb, length, take}
use Rattle.view.specs.View.{number_of}
use Rattle.tables.specs.declared.Tables.{Tables}
use Rattle.tables.specs.Table.{marks_room}
use Rattle.rows.specs.Rows.{filled}
use Rattle.layers.specs.declared.StackTables.{StackTables}
use Rattle.layers.specs.Layers.{layers_room, layer_keys}
use Rattle.layers.specs.Stacks.{stack_of, numbers_of as stack_numbers}
use Rattle.solving.specs.TableKeys.{keys_of}
use Rattle.problems.specs.Stored.{pair_key}
use Rattle.problems.specs.Kept.{problem_of, Keeps}
use Rattle.answering.specs.Answering.{answer_word}
use Rattle.frames.specs.Frames as frames
use Rattle.frames.specs.Frames.{Store, shown, Stepped, Message, message_refusal, stepped, accepted, rank_of}
use Rattle.framelaws.specs.Reached.{Sound}
use Rattle.framestate.specs.declared.Numbers.{Numbers}
use Rattle.framestate.specs.declared.Said.{Said}
use Rattle.framestate.specs.declared.Said.TheVariants.{Accepted, Solved, Related, Supertyped, Castable, Refused}
use Rattle.framestate.specs.declared.Framed.{Framed}

pub record Slices : Type 0 where
  pub last : List ℕ
  pub pairs : List ℕ
  pub marks : List ℕ
  pub variables : List ℕ
  pub bounds : List ℕ
  pub flows : List ℕ
  pub uppers : List ℕ
  pub reads : List ℕ
  pub writes : List ℕ

-- THE STATE THAT SLICES AND NUMBERS HOLD
abbrev pub store_of : Slices → Numbers → Store
store_of l n = record {
  last = take n.last l.last;
  classes = stack_of l.pairs l.marks n.stack;
  problem = problem_of n.components (take n.variables l.variables) (take n.bounds l.bounds) (take n.flows l.flows) (take n.uppers l.uppers) (take n.reads l.reads) (take n.writes l.writes);
  rank = n.rank;
}

-- how long the slices are
pub record Sized (l : Slices) : Type 0 where
  pub last : length l.last ≡ 255
  pub pairs : length l.pairs ≡ layers_room
  pub marks : length l.marks ≡ marks_room
  pub variables : length l.variables ≡ 2048
  pub bounds : length l.bounds ≡ 4096
  pub flows : length l.flows ≡ 2048
  pub uppers : length l.uppers ≡ 1024
  pub reads : length l.reads ≡ 1024
  pub writes : length l.writes ≡ 1024

-- how many entries count
pub record Within (n : Numbers) : Type 0 where
  pub last : n.last ≤ 255
  pub variables : n.variables ≤ 2048
  pub bounds : n.bounds ≤ 4096
  pub flows : n.flows ≤ 2048
  pub uppers : n.uppers ≤ 1024
  pub reads : n.reads ≤ 1024
  pub writes : n.writes ≤ 1024

-- WHAT A STATE THAT LINES LEAD TO HAS
pub record Ready (l : Slices) (n : Numbers) : Type 0 where
  pub sized : Sized l
  pub within : Within n
  pub sound : Sound (store_of l n)
  -- the keys of the topmost layer are counted
  pub counted : n.stack.layer.keys ≡ length (layer_keys (store_of l n).classes.top)
  -- the keys of the bounds are their own
  pub keeps : Keeps n.stack.tables.names n.components (take n.variables l.variables) (take n.bounds l.bounds) (take n.flows l.flows) (take n.uppers l.uppers) (take n.reads l.reads) (take n.writes l.writes)

-- ---- what a frame leaves

unfoldable pub numbers_of : Store → Numbers
numbers_of s = record {
  stack = stack_numbers s.classes;
  last = length s.last;
  components = s.problem.components;
  variables = length s.problem.variables;
  bounds = length s.problem.bounds;
  flows = length s.problem.flows;
  uppers = length s.problem.upper_flows;
  reads = length s.problem.reads;
  writes = length s.problem.writes;
  rank = s.rank;
}

-- THE SLICES AND NUMBERS OF A STATE: its entries in front of the slices as they came
pub record Shows (s : Store) (before after : Slices) (n : Numbers) : Type 0 where
  pub numbers-are : n ≡ numbers_of s
  pub last-is : after.last ≡ filled s.last before.last
  pub pairs-are : after.pairs ≡ filled (shown s).keys before.pairs
  pub marks-are : after.marks ≡ (shown s).marks
  pub variables-are : after.variables ≡ filled s.problem.variables before.variables
  pub bounds-are : after.bounds ≡ filled (keys_of s.problem.bounds) before.bounds
  pub flows-are : after.flows ≡ filled (map pair_key s.problem.flows) before.flows
  pub uppers-are : after.uppers ≡ filled (map pair_key s.problem.upper_flows) before.uppers
  pub reads-are : after.reads ≡ filled (map pair_key s.problem.reads) before.reads
  pub writes-are : after.writes ≡ filled (map pair_key s.problem.writes) before.writes

unfoldable pub said_of : frames.Said → Said
said_of frames.Accepted = Accepted
said_of (frames.Answers answers) = Solved
said_of (frames.Related k) = Related k
said_of (frames.Supertyped c) = Supertyped (number_of c)
said_of (frames.Castable b) = Castable (cond b 1 0)
said_of (frames.Refused k) = Refused k

-- answers go in front of their slice
unfoldable pub answers_after : frames.Said → List ℕ → List ℕ
answers_after frames.Accepted slice = slice
answers_after (frames.Answers answers) slice = filled (map answer_word answers) slice
answers_after (frames.Related k) slice = slice
answers_after (frames.Supertyped c) slice = slice
answers_after (frames.Castable b) slice = slice
answers_after (frames.Refused k) slice = slice

-- WHAT A STEP LEAVES
pub record Leaves (step : Stepped) (before after : Slices) (answers answers' : List ℕ) (r : Framed) : Type 0 where
  pub said-is : r.said ≡ said_of step.said
  pub shows : Shows step.store before after r.numbers
  pub answers-are : answers' ≡ answers_after step.said answers

-- a message of a kind that is in order: refused as its row is, or accepted
unfoldable pub message_step : ℕ → Message → Store → Stepped
message_step k m s = cond (eqb (message_refusal m s) 0) (accepted (rank_of k) m s) (stepped (frames.Refused (message_refusal m s)) s)

-- ---- the numbers after a row that is taken

-- after a name: its length, the tables with it
abbrev pub name_numbers : Numbers → ℕ → Tables → Numbers
name_numbers n last tables = record { stack = record { tables = tables; layer = n.stack.layer; under = n.stack.under }; last = last; components = n.components; variables = n.variables; bounds = n.bounds; flows = n.flows; uppers = n.uppers; reads = n.reads; writes = n.writes; rank = 1 }

-- after a record, and where a layer was opened
abbrev pub record_numbers : Numbers → StackTables → Numbers
record_numbers n stack = record { stack = stack; last = n.last; components = n.components; variables = n.variables; bounds = n.bounds; flows = n.flows; uppers = n.uppers; reads = n.reads; writes = n.writes; rank = 2 }

-- after the count of components, and after a row of each kind, how many there are
abbrev pub count_numbers : Numbers → ℕ → Numbers
count_numbers n components = record { stack = n.stack; last = n.last; components = components; variables = n.variables; bounds = n.bounds; flows = n.flows; uppers = n.uppers; reads = n.reads; writes = n.writes; rank = 3 }

abbrev pub variable_numbers : Numbers → ℕ → Numbers
variable_numbers n count = record { stack = n.stack; last = n.last; components = n.components; variables = count; bounds = n.bounds; flows = n.flows; uppers = n.uppers; reads = n.reads; writes = n.writes; rank = 4 }

abbrev pub bound_numbers : Numbers → ℕ → Numbers
bound_numbers n count = record { stack = n.stack; last = n.last; components = n.components; variables = n.variables; bounds = count; flows = n.flows; uppers = n.uppers; reads = n.reads; writes = n.writes; rank = 5 }

abbrev pub flow_numbers : Numbers → ℕ → Numbers
flow_numbers n count = record { stack = n.stack; last = n.last; components = n.components; variables = n.variables; bounds = n.bounds; flows = count; uppers = n.uppers; reads = n.reads; writes = n.writes; rank = 6 }

abbrev pub upper_numbers : Numbers → ℕ → Numbers
upper_numbers n count = record { stack = n.stack; last = n.last; components = n.components; variables = n.variables; bounds = n.bounds; flows = n.flows; uppers = count; reads = n.reads; writes = n.writes; rank = 7 }

abbrev pub read_numbers : Numbers → ℕ → Numbers
read_numbers n count = record { stack = n.stack; last = n.last; components = n.components; variables = n.variables; bounds = n.bounds; flows = n.flows; uppers = n.uppers; reads = count; writes = n.writes; rank = 8 }

abbrev pub write_numbers : Numbers → ℕ → Numbers
write_numbers n count = record { stack = n.stack; last = n.last; components = n.components; variables = n.variables; bounds = n.bounds; flows = n.flows; uppers = n.uppers; reads = n.reads; writes = count; rank = 9 }

-- after a question or a solve
abbrev pub ask_numbers : Numbers → Numbers
ask_numbers n = record { stack = n.stack; last = n.last; components = n.components; variables = n.variables; bounds = n.bounds; flows = n.flows; uppers = n.uppers; reads = n.reads; writes = n.writes; rank = 10 }

abbrev pub framed : Said → Numbers → Framed
framed said n = record { said = said; numbers = n }

-- accepted with these numbers, or refused with those before
abbrev pub taken : ℕ → Numbers → Numbers → Framed
taken refusal before after = cond (eqb refusal 0) (framed Accepted after) (framed (Refused refusal) before)
