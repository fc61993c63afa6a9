-- `write_columns` meets its contract: after i steps the first i entries stand in each column.
use Rattle.std.proofs.Common.{◌≡◌, ◌≤◌, length}
use Rattle.keys.specs.Rank.{key_component, key_kind}
use Rattle.copying.specs.Copies.{word_in}
use Rattle.columnsout.specs.Columns.{front}
use Rattle.columnsout.proofs.write_columns.Given as goal

abbrev pub invariant-loop-i : goal.invariant-loop-i
invariant-loop-i l = (l.i ≤ length l.keys)
    × (l.out_comp ≡ front key_component l.keys l.initial.out_comp l.i) × (l.out_kind ≡ front key_kind l.keys l.initial.out_kind l.i) × (l.out_type ≡ front word_in l.keys l.initial.out_type l.i)
