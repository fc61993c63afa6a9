-- Bounds, pairs and types are totally ordered, and the types of a kind in a table stand in their order.
use Rattle.std.specs.Prelude.{ℕ}
use Rattle.order.specs.Compare.{then, compare_numbers}
use Rattle.std.specs.declared.cmp.Ordering.{Ordering}
use Rattle.ty.specs.Types.{ArgType, compare}
use Rattle.solving.specs.Solving.{Bound}

abbrev pub both : {A B : Type 0} → (A → A → Ordering) → (B → B → Ordering) → A × B → A × B → Ordering
both ca cb p q = then (ca p.0 q.0) (cb p.1 q.1)

-- a bound by its parts
abbrev pub parts : Bound → ℕ × (ℕ × ArgType)
parts b = (b.component, (b.kind, b.type))

abbrev pub compare_parts : ℕ × (ℕ × ArgType) → ℕ × (ℕ × ArgType) → Ordering
compare_parts = both compare_numbers (both compare_numbers compare)
