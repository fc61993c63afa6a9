-- `types_length` meets its contract. Invariant: the sum so far and what is left make the whole.
use mathlib.Core.Path.{◌≡◌}
use Prim.Native.Nat.{◌≤◌, ◌+◌, ◌*◌}
use mathlib.Core.Bool.{true}
use lib.ListN.{length, drop}
use Rattle.ty.specs.Words.{all_legal}
use Rattle.writer.specs.Steps.{words_size}
use Rattle.writer.proofs.types_length.Given as goal

abbrev pub invariant-loop-word : goal.invariant-loop-word
invariant-loop-word l = (l.n ≤ 512 * l.word-index)
    × (words_size l.name_len l.words ≡ l.n + words_size l.name_len (drop l.word-index l.words))
    × (all_legal (length l.name_len) (drop l.word-index l.words) ≡ true)
