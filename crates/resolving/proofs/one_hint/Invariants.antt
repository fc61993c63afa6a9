-- `one_hint` meets its contract: the hints of the types from `i` on are what was found alone.
use mathlib.Core.Path.{◌≡◌}
use Prim.Native.Nat.{◌≤◌}
use lib.ListN.{length}
use Rattle.candidates.specs.Maybe.{LegalMaybe, maybe_type}
use Rattle.candidates.specs.Steps.{types_from}
use Rattle.solving.specs.Solving.{list_of, hints_of}
use Rattle.resolving.proofs.one_hint.Given as goal

abbrev pub invariant-loop-i : goal.invariant-loop-i
invariant-loop-i l = (l.i ≤ length l.domain) × LegalMaybe l.found × (hints_of l.t.object (types_from l.i l.domain) ≡ list_of (maybe_type l.found))
