-- What the frame of a solve comes to: 9, or what the solve of the problem says. Every definition that a contract of this crate cites.
use Rattle.std.specs.Prelude.{◌≡◌, cond, List, ℕ, ◌-◌, ◌^◌, ◌≤◌, ◌<◌, eqb, length}
use Rattle.tables.specs.Table.{names_room, marks_room}
use Rattle.solving.specs.declared.Counts.{Counts}
use Rattle.solving.specs.Solving.{Solution}
use Rattle.solves.specs.SolveResult.{counts_of, answers_after}
use Rattle.framestate.specs.declared.Numbers.{Numbers}
use Rattle.framestate.specs.declared.Framed.{Framed}
use Rattle.framestate.specs.declared.Said.TheVariants.{Solved, Refused}
use Rattle.framestate.specs.FrameState.{Within, framed, ask_numbers}
use Rattle.solveframe.specs.Parts.{problem_room, KeepsIn}

-- what a solve leaves but for its columns and its work, which nobody sees
pub record Alone (s : Solution) (answers answers' : List ℕ) (r : Counts) : Type 0 where
  pub counts : r ≡ counts_of s
  pub answers-are : answers' ≡ answers_after s answers

-- what a state that lines lead to has of these
pub record SolveReady (marks rows answers : List ℕ) (n : Numbers) : Type 0 where
  pub four-sets : length marks ≡ marks_room
  pub few : n.stack.tables.names ≤ names_room
  pub known : (n.stack.tables.object ≡ 2 ^ 64 - 1 → ⊥) → n.stack.tables.object < n.stack.tables.names
  pub all-rows : length rows ≡ problem_room
  pub within : Within n
  pub keeps : KeepsIn rows n
  pub roomy : 2048 ≤ length answers

-- a run that is refused with 20 or 21 leaves the numbers
abbrev pub solved_by : ℕ → Numbers → Framed
solved_by refusal n = cond (eqb refusal 0) (framed Solved (ask_numbers n)) (framed (Refused refusal) n)

pub record SolveFrames (s : Solution) (answers answers' : List ℕ) (n : Numbers) (r : Framed) : Type 0 where
  pub result : r ≡ cond (eqb n.stack.tables.object (2 ^ 64 - 1)) (framed (Refused 9) n) (solved_by (counts_of s).refusal n)
  pub answers-are : answers' ≡ cond (eqb n.stack.tables.object (2 ^ 64 - 1)) answers (answers_after s answers)
