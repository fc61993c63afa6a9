-- `put_numbers` meets its contract: the numbers that are left are those of the bytes from the next pair on.
use Prim.Native.Nat.{◌*◌}
use lib.ListN.{drop}
use Rattle.hexline.specs.Hex.{numbers_in}
use Rattle.hexline.specs.Laws.{Filling}
use Rattle.hexline.proofs.put_numbers.Given as goal

abbrev pub invariant-loop-k : goal.invariant-loop-k
invariant-loop-k l = Filling (numbers_in l.bytes) (numbers_in (drop (2 * l.k) l.bytes)) l.initial.numbers l.numbers l.k
