-- `copy_words`: what is copied of a key is the word of its type.
use Rattle.copying.specs.Copies.{word_in}
use Rattle.copying.proofs.copy_words.Given as goal

abbrev pub ghost-copy_run : goal.ghost-copy_run
ghost-copy_run a = word_in
