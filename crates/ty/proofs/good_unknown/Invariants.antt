-- `good_unknown` meets its contract. The invariant: the answer is that of the digits left.
use Rattle.std.proofs.Common.{◌≡◌, ◌-◌}
use Rattle.ty.specs.Words.{unpack, good_digits, good_unknown}
use Rattle.ty.proofs.good_unknown.Given as goal

abbrev pub invariant-loop-i : goal.invariant-loop-i
invariant-loop-i l = good_unknown l.load ≡ good_digits (l.n - l.i) (unpack (11 - l.i) l.load)
