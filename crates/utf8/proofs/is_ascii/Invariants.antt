-- `is_ascii` meets its contract: the bytes passed are all below 80 where `plain` says so, and the rest is still to be tested.
use Rattle.std.proofs.Common.{◌≡◌, ◌&&◌, drop}
use Rattle.utf8.specs.Utf8.{ascii}
use Rattle.utf8.proofs.is_ascii.Given as goal

abbrev pub invariant-loop-byte : goal.invariant-loop-byte
invariant-loop-byte l = ascii l.byte-items ≡ (l.plain && ascii (drop l.byte-index l.byte-items))
