-- `send_word` meets its contract: a word has at most 255 dimensions.
use mathlib.Core.Path.{sym, ap, ◌∙◌}
use native.Mathlib.Omega.{arith}
use Rattle.ty.specs.Words.{type_of}
use Rattle.inserting.specs.declared.Sent.TheVariants.{Rank}
use Rattle.sending.specs.Laws.{sent-flat, word-flat}
use Rattle.sending.proofs.send_word.Goals as goal

pub returns : goal.returns
returns c =
    let w = c.args.t.word in
    ap Rank c.rank_of.ensures ∙ sym (sent-flat (type_of w) (word-flat w (omega arith) c.requires))
