-- The loop meets its contract: whether the name is strict is whether what is left of it goes on strictly.
use Rattle.std.proofs.Common.{◌≡◌, not, eqb, ◌-◌, length, take, drop}
use Rattle.descriptor.specs.Read.{parts_from, strict_name}
use Rattle.methods.proofs.is_strict.Given as goal

abbrev pub invariant-loop-b : goal.invariant-loop-b
invariant-loop-b l = strict_name l.name ≡ parts_from (not (eqb l.last 47)) (take (length l.name - l.b-index) (drop l.b-index l.name))
