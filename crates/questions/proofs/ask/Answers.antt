-- `ask` meets its contract: a work that is too short, or the answer, and the work cleared behind it.
use borrow.Author.Rules.{rules}
use mathlib.Core.Path.{◌≡◌, refl, sym, ap, ◌∙◌}
use mathlib.Core.Bool.{false≢true}
use Prim.Native.Nat.{ℕ}
use lib.ListN.{length, replicate}
use Rattle.columns.specs.Given.{Given, given_of}
use Rattle.layercolumns.specs.Laws.{room-plain}
use Rattle.questions.specs.Laws.{asked-short, asked-long}
use Rattle.questions.proofs.ask.Goals as goal

pub returns-then-work-lt-ROOM : goal.returns-then-work-lt-ROOM
returns-then-work-lt-ROOM c =
    let a = c.args in
    let g : Given = given_of a.columns.now in
    asked-short g a.q a.a a.b a.work.now c.if-work-lt-ROOM.true

pub ask_layers-told-requires : goal.ask_layers-told-requires
ask_layers-told-requires c = λ e. absurd (false≢true e)

pub returns-then-first_open-columns : goal.returns-then-first_open-columns
returns-then-first_open-columns c =
    let a = c.args in
    let g : Given = given_of a.columns.now in
    let d = c.clear in
    let e : length d.new.work ≡ length a.work.now = search rules in
    let told = c.ask_layers-told in
    asked-long g a.q a.a a.b a.work.now c.if-work-lt-ROOM.false _ (d.ensures ∙ ap (λ (n : ℕ). replicate n 0) (sym d.auto.work ∙ e)) told.result.answer (told.ensures.0 refl)

pub ask_over-answer-requires : goal.ask_over-answer-requires
ask_over-answer-requires c = (room-plain _ _ c.first_open.result c.first_open.ensures c.if-first_open-columns.false (search rules), search rules)

pub returns : goal.returns
returns c =
    let a = c.args in
    let g : Given = given_of a.columns.now in
    let d = c.clear-2 in
    let e : length d.new.work ≡ length a.work.now = search rules in
    asked-long g a.q a.a a.b a.work.now c.if-work-lt-ROOM.false _ (d.ensures ∙ ap (λ (n : ℕ). replicate n 0) (sym d.auto.work ∙ e)) c.ask_over-answer.result c.ask_over-answer.ensures
