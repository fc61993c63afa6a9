-- The whole type, judged.
use mathlib.Core.Path.{sym, ap, subst, ◌∙◌}
use mathlib.Core.Bool.{true}
use lib.ListN.{length}
use Rattle.descriptor.specs.Read.{read_whole, strictly, read_strict}
use Rattle.descriptor.specs.Steps.{Placed}
use Rattle.descriptor.specs.Laws.{finish-placed}
use Rattle.methods.proofs.read_strict.Goals as goal

pub judged-requires : goal.judged-requires
unfolding read_whole
judged-requires c =
    let s = c.args.s.now in
    subst (Placed (length s)) (sym c.read_whole-t.ensures) (finish-placed s 0 true)

pub returns : goal.returns
unfolding read_strict
returns c = c.judged.ensures ∙ ap (strictly c.args.s.now) c.read_whole-t.ensures
