-- `record` meets its contract, a way for each kind of line and each verdict.
use Rattle.std.proofs.Common.{ℕ, ◌+◌, ◌*◌, List, ap, ◌∙◌}
use Rattle.replaying.specs.Replaying.{more, tallied}
use Rattle.replaying.specs.declared.answers.Verdict.TheVariants.{Agrees, Differs, Unread}
use Rattle.replaying.proofs.Steps.{counted-comment, counted-past, counted-as}
use Rattle.replaying.proofs.report.record.Goals as goal

pub returns-then-place-eq-COMMENT : goal.returns-then-place-eq-COMMENT
returns-then-place-eq-COMMENT c = let a = c.args in counted-comment a.place a.v a.counts.now c.if-place-eq-COMMENT.true

pub returns-then-place-ge-UNREAD : goal.returns-then-place-ge-UNREAD
returns-then-place-ge-UNREAD c = let a = c.args in c.one_more.ensures ∙ counted-past a.place a.v a.counts.now c.if-place-eq-COMMENT.false c.if-place-ge-UNREAD.true

pub returns-in-Agrees : goal.returns-in-Agrees
unfolding tallied
returns-in-Agrees c =
    let a = c.args in
    c.one_more-in-Agrees-2.ensures ∙ ap (λ (l : List ℕ). more (2 * a.place + 1) l) c.one_more-in-Agrees.ensures
    ∙ counted-as a.place a.v Agrees a.counts.now c.if-place-eq-COMMENT.false c.if-place-ge-UNREAD.false c.in-Agrees.is

pub returns-in-Differs : goal.returns-in-Differs
unfolding tallied
returns-in-Differs c =
    let a = c.args in
    c.one_more-in-Differs.ensures ∙ counted-as a.place a.v Differs a.counts.now c.if-place-eq-COMMENT.false c.if-place-ge-UNREAD.false c.in-Differs.is

pub returns-in-Unread : goal.returns-in-Unread
unfolding tallied
returns-in-Unread c =
    let a = c.args in
    c.one_more-in-Unread.ensures ∙ counted-as a.place a.v Unread a.counts.now c.if-place-eq-COMMENT.false c.if-place-ge-UNREAD.false c.in-Unread.is
