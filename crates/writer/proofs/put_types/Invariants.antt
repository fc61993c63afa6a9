-- `put_types` meets its contract. Invariant: what is left to store gives what the whole gives.
use mathlib.Core.Path.{◌≡◌}
use Prim.Native.Nat.{◌+◌}
use mathlib.Core.Bool.{true}
use lib.ListN.{length, drop}
use lib.Seq.{sets}
use Rattle.ty.specs.Words.{all_legal}
use Rattle.writer.specs.Print.{print_words}
use Rattle.writer.proofs.put_types.Given as goal

abbrev pub invariant-loop-word : goal.invariant-loop-word
invariant-loop-word l = (length l.out ≡ length l.initial.out)
    × (all_legal (length l.name_at) (drop l.word-index l.words) ≡ true)
    × (l.at + length (print_words l.names l.name_at l.name_len l.words) ≡ l.next + length (print_words l.names l.name_at l.name_len (drop l.word-index l.words)))
    × (sets l.initial.out l.at (print_words l.names l.name_at l.name_len l.words) ≡ sets l.out l.next (print_words l.names l.name_at l.name_len (drop l.word-index l.words)))
