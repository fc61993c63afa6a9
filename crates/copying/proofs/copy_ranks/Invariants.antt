-- `copy_ranks`: what is copied of a key is its rank.
use Rattle.copying.specs.Copies.{rank_in}
use Rattle.copying.proofs.copy_ranks.Given as goal

abbrev pub ghost-copy_run : goal.ghost-copy_run
ghost-copy_run a = rank_in
