-- `send_array_of` meets its contract: by what `array` answers.
use mathlib.Core.Path.{sym, ap, ◌∙◌}
use native.Mathlib.Omega.{arith}
use Rattle.inserting.specs.declared.Sent.TheVariants.{Rank}
use Rattle.sending.specs.Laws.{array-of, array-none}
use Rattle.sending.proofs.send_array_of.Goals as goal

pub rank_of-requires : goal.rank_of-requires
rank_of-requires c =
    let w = c.args.t.word in
    (array-of w (omega arith) c.requires c.in-Some.w (sym c.array-a.ensures ∙ c.in-Some.is)).0

pub returns-in-Some : goal.returns-in-Some
returns-in-Some c =
    let w = c.args.t.word in
    ap Rank c.rank_of.ensures ∙ sym (array-of w (omega arith) c.requires c.in-Some.w (sym c.array-a.ensures ∙ c.in-Some.is)).1

pub returns-in-None : goal.returns-in-None
returns-in-None c =
    let w = c.args.t.word in
    sym (array-none w (omega arith) c.requires (sym c.array-a.ensures ∙ c.in-None.is))
