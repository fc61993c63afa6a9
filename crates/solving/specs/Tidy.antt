-- TIDY: what holds of the table and the queue at every insertion of a run, and so what code may count on: the table is strictly ascending,
-- within 4,096, and its bounds have a component of the problem, a kind and a legal type; the queue has components of the problem, none
-- twice. Over a good view, and links among the components.
use Rattle.std.specs.Prelude.{◌≡◌, ℕ, ◌≤◌, ◌<◌, length}
use Rattle.std.proofs.Math.Bool.{true}
use mathlib.Core.List.Memᴰ
use mathlib.Core.List.{List, Memᴰ}
use Rattle.ty.specs.Words.{legal_at_base, legal_type}
use Rattle.solving.specs.Ordered.{Ascending}
use Rattle.solving.specs.Queue.{Distinct, Below}
use Rattle.solving.specs.Solving.{Bound, Table, compare_bounds, Pair, Links, room}

-- a bound of one of n components, over so many names
pub record LegalBound (names n : ℕ) (b : Bound) : Type 0 where
  pub component : b.component < n
  pub kind : b.kind < 5
  pub type : legal_type names b.type ≡ true

-- what a rule may give: a legal bound but for its depth
pub record Given (names n : ℕ) (b : Bound) : Type 0 where
  pub component : b.component < n
  pub kind : b.kind < 5
  pub base : legal_at_base names b.type ≡ true

pub record Tidy (names n : ℕ) (t : Table) (q : List ℕ) : Type 0 where
  pub ascends : Ascending compare_bounds t
  pub fits : length t ≤ room
  pub legal : (b : Bound) → Memᴰ b t → LegalBound names n b
  pub distinct : Distinct q
  pub below : Below n q

-- links among n components
pub record Among (n : ℕ) (l : Links) : Type 0 where
  pub flows : (p : Pair) → Memᴰ p l.flows → p.1 < n
  pub incoming : (p : Pair) → Memᴰ p l.incoming → p.1 < n
  pub reads : (p : Pair) → Memᴰ p l.reads → (p.0 < n) × (p.1 < n)
  pub writes : (p : Pair) → Memᴰ p l.writes → (p.0 < n) × (p.1 < n)
