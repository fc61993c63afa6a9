-- The contract of propagate, as the check reads it, allows one outcome: the refusal; unrefused the turns, and the table at the front of the cells.
use mathlib.Core.Path.{◌≡◌, sym, ◌∙◌}
use mathlib.Core.List.{map}
use Prim.Native.Nat.{ℕ}
use lib.ListN.{take}
use borrow.Fn.Kinds.{Dens, res_t, ended_of}
use denote.Triple.Clauses.{AtExit}
use contract.Lifetimes.{Lfts}
use Rattle.lattice.specs.World.{world_of}
use Rattle.solving.specs.Solving.{Finish, Stopped, Ended, propagate}
use Rattle.solving.specs.TableKeys.{bound_of}
use Rattle.inserting.specs.Store.{Store, store}
use Rattle.rules.specs.Rules.{links_in}
use Rattle.running.specs.Running.{Leaves}
use Rattle.propagating.proofs.propagate.Reads as propagate-reads
use Rattle.propagating.proofs.propagate.Kinds as propagate-kinds

leaves-one : (f : Finish) (m n : ℕ) (s u : Store) → Leaves f m s → Leaves f n u
    → (s.state.refusal ≡ u.state.refusal) × (s.state.refusal ≡ 0 → (m ≡ n) × (take s.state.count s.cells ≡ take u.state.count u.cells))
leaves-one (Stopped k) m n s u h g = (h.0 ∙ sym g.0, λ e. absurd (h.1 (sym h.0 ∙ e)))
leaves-one (Ended t q k) m n s u h g = (h.0 ∙ sym g.0, λ e. (h.1 ∙ sym g.1, h.3.keys ∙ sym g.3.keys))

pub propagate-one : (κs : Lfts 11) (a : Dens κs propagate-kinds.ps) (r₁ r₂ : (res_t propagate-kinds.r κs).Denot) (x₁ x₂ : AtExit (ended_of 11 propagate-kinds.ps propagate-kinds.r) κs)
    → propagate-reads.Post κs a r₁ x₁ → propagate-reads.Post κs a r₂ x₂
    → (r₁.state.refusal ≡ r₂.state.refusal)
    × (r₁.state.refusal ≡ 0 → (r₁.turns ≡ r₂.turns) × (take r₁.state.count x₁.1.1.1.0.now ≡ take r₂.state.count x₂.1.1.1.0.now))
propagate-one κs a r₁ r₂ x₁ x₂ p q =
    leaves-one (propagate (world_of a.0.now a.1.0.now a.1.1.0) (links_in a.1.1.1.1.1.1.1.1.1.0.now a.1.1.1.1.1.1.1.1.1.1.0.now a.1.1.1.1.1.1.1.1.1.1.1.0.now a.1.1.1.1.1.1.1.1.1.1.1.1.0.now) a.1.1.1.1.1.1.1.1.1.1.1.1.1.0 (map bound_of (take a.1.1.1.1.0 a.1.1.1.0.now))) r₁.turns r₂.turns
    (store x₁.1.1.1.0.now x₁.1.1.1.1.1.0.now r₁.state) (store x₂.1.1.1.0.now x₂.1.1.1.1.1.0.now r₂.state) p q
