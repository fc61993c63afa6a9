-- `note_full` meets its contract.
use Rattle.std.proofs.Common.{Bool, cond, sym, ap, ◌∙◌}
use Rattle.replaying.specs.Replaying.{more}
use Rattle.replaying.proofs.report.note_full.Goals as goal

pub returns-then-is_full : goal.returns-then-is_full
returns-then-is_full c =
    let l = c.args.counts.now in
    c.one_more.ensures ∙ ap (λ (t : Bool). cond t (more 127 l) l) (sym c.if-is_full.true)
