-- `room` meets its contract, by the law of a list that repeats one number: the list itself is not written out.
use Rattle.std.proofs.Common.{ℕ, sym, refl}
use lib.ListN.{length-replicate}
use Rattle.replaying.proofs.cases.room.Goals as goal

pub returns : goal.returns
returns c = (sym (length-replicate {A = ℕ} 1048576 0), refl)
