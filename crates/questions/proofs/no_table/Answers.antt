-- `no_table` meets its contract.
use mathlib.Core.Path.{refl}
use Rattle.rows.specs.Rows.{no_tables}
use Rattle.questions.proofs.no_table.Goals as goal

pub returns : goal.returns
unfolding no_tables
returns c = refl
