-- A run over the slices: what the contracts cite, and the invariant of the loop.
use Rattle.std.specs.Prelude.{◌≡◌, List, [], map, ℕ, suc, ◌<◌, take, get_or}
use Rattle.lattice.specs.Lattice.{World}
use Rattle.queue.specs.Ring.{line, first_set, rested}
use Rattle.solving.specs.Solving.{Table, Links, turn, Finish, Stopped, Ended}
use Rattle.solving.proofs.Steps.{rest, after}
use Rattle.solving.specs.Tidy.{Tidy}
use Rattle.solving.specs.TableKeys.{bound_of, Holds}
use Rattle.inserting.specs.declared.State.{State}
use Rattle.inserting.specs.Store.{Store, Good}
use Rattle.running.specs.declared.Taken.{Taken}

-- a solve of so many bounds, all components queued
abbrev pub started : ℕ → ℕ → State
started count components = record { refusal = 0; count = count; queue = line 0 components (first_set components) }

-- the state without c, its front
abbrev pub without : State → ℕ → State
without s c = record { refusal = s.refusal; count = s.count; queue = rested s.queue c }

abbrev pub taken : List ℕ → State → Taken
taken ring s = record { root = get_or ring s.queue.head 0; state = without s (get_or ring s.queue.head 0) }

-- the table that the cells hold
abbrev pub table_in : Store → Table
table_in s = map bound_of (take s.state.count s.cells)

-- WHAT A TURN MAY COUNT ON: the store shows a table and a queue, both over the names and components of the problem
pub record Sound (w : World) (n : ℕ) (s : Store) : Type 0 where
  pub table : Table
  pub queue : List ℕ
  pub good : Good s table queue
  pub tidy : Tidy w.names n table queue

-- THE INVARIANT OF A RUN: what the whole run comes to is what is left from here, so many turns taken
pub record Running (w : World) (l : Links) (n : ℕ) (whole : Finish) (turns : ℕ) (s : Store) : Type 0 where
  pub sound : Sound w n s
  pub left : whole ≡ rest w l turns sound.table sound.queue

-- THE SAME WITH THE FRONT TAKEN: it is the turn of root, which is no longer queued
pub record Fronted (w : World) (l : Links) (n : ℕ) (whole : Finish) (turns root : ℕ) (s : Store) : Type 0 where
  pub sound : Sound w n s
  pub small : root < n
  pub left : whole ≡ after w l (suc turns) (turn w l root sound.table sound.queue)

-- WHAT A FINISHED RUN LEAVES: its refusal; or its turns, and the final table at the front of the cells
abbrev pub Leaves : Finish → ℕ → Store → Type 0
Leaves (Stopped k) turns s = (s.state.refusal ≡ k) × (k ≡ 0 → ⊥)
Leaves (Ended t q n) turns s = (s.state.refusal ≡ 0) × (turns ≡ n) × (q ≡ []) × Holds s.cells s.state.count t
