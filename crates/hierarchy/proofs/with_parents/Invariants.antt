-- `with_parents` meets its contract: what is left to put in are the keys of the run from the index on.
use mathlib.Core.Path.{◌≡◌}
use lib.ListN.{drop}
use Rattle.view.specs.View.{insert_all}
use Rattle.tables.specs.Table.{parents_in, own_run}
use Rattle.hierarchy.proofs.with_parents.Given as goal

abbrev pub invariant-loop-key : goal.invariant-loop-key
invariant-loop-key l =
    insert_all l.initial.all.words (parents_in l.t.names (own_run l.c l.key-items))
    ≡ insert_all l.all.words (parents_in l.t.names (own_run l.c (drop l.key-index l.key-items)))
