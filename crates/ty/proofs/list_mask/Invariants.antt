-- `list_mask` meets its contract. The invariant: the set so far, with the digits left, is the whole.
use Rattle.std.proofs.Common.{◌≡◌, ◌/◌, ◌^◌}
use Rattle.ty.specs.Types.{mask_with}
use Rattle.ty.specs.Words.{list_of}
use Rattle.ty.specs.Steps.{rest_of}
use Rattle.ty.proofs.list_mask.Given as goal

abbrev pub invariant-loop-i : goal.invariant-loop-i
invariant-loop-i l = mask_with 0 (list_of l.load) ≡ mask_with l.m (rest_of l.load (l.load / 2 ^ 44) l.i)
