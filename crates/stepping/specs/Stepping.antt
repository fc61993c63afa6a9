-- WHAT A STEP ASKS OF THE STATE'S SLICES, AND LEAVES IN THEM. Every definition that a contract of this crate cites.
use Rattle.std.specs.Prelude.{◌≡◌, Bool, ◌||◌, List, ℕ, eqb, leb, length}
use Rattle.frames.specs.Frames.{Store, Stepped, message_of}
use Rattle.framestate.specs.declared.Numbers.{Numbers}
use Rattle.framestate.specs.declared.Framed.{Framed}
use Rattle.framestate.specs.FrameState.{Slices, Ready, Leaves, message_step}
use Rattle.solveframe.specs.Parts.{problem_room, slices_of}
use Rattle.frameheads.specs.Heads.{head_refusal}

-- A STATE THAT LINES LEAD TO stands in the slices
pub record Stands (last pairs marks rows : List ℕ) (n : Numbers) : Type 0 where
  pub ready : Ready (slices_of last pairs marks rows) n
  pub all-rows : length rows ≡ problem_room

-- the step of a kind and a body that the head let through
abbrev pub step_of : ℕ → List ℕ → Store → Stepped
step_of kind body s = message_step kind (message_of kind body) s

-- the kinds that change the class table: 01, 02 and 0e
unfoldable pub class_kind : ℕ → Bool
class_kind k = leb k 2 || eqb k 14

abbrev pub Headed : ℕ → List ℕ → Numbers → Type 0
Headed kind body n = head_refusal kind (length body) n.rank ≡ 0

-- what a step leaves that has nothing to do with answers
abbrev pub Rests : Stepped → Slices → Slices → Framed → Type 0
Rests step before after r = (answers : List ℕ) → Leaves step before after answers answers r
