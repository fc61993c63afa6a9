-- `put_letter` meets its contract: one byte after another.
use mathlib.Core.List.{[], ◌∷◌}
use native.Mathlib.Omega.{arith}
use Rattle.lineout.specs.Laws.{puts-then}
use Rattle.lineout.proofs.put_letter.Goals as goal

pub returns : goal.returns
returns c = let a = c.args in puts-then (a.letter ∷ []) (32 ∷ []) _ _ _ _ _ _ (omega arith) c.put_byte-a.ensures c.put_byte.ensures
