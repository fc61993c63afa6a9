-- `relation_frame` meets its contract.
use mathlib.Core.Path.{ap, ap₂, ◌∙◌}
use Prim.Native.Nat.{ℕ}
use native.Mathlib.Omega.{arith}
use Rattle.view.specs.View.{relation, relation_number}
use Rattle.tables.specs.Table.{view_of}
use Rattle.framestate.specs.declared.Said.TheVariants.{Related}
use Rattle.askframes.specs.AskFrames.{asked-none, asked-some, same-refusal}
use Rattle.askframes.proofs.relation_frame.Goals as goal

pub returns-then-refusal-ne0 : goal.returns-then-refusal-ne0
returns-then-refusal-ne0 c =
    let a = c.args in
    asked-none _ _ a.n _ (c.check_ask-refusal.ensures ∙ same-refusal a.n.stack.tables _ _ _ _ c.number_at-a.ensures.0 c.number_at-b.ensures.0) _ c.refuse.ensures c.if-refusal-ne0.true

pub returns : goal.returns
returns c =
    let a = c.args in
    let x = c.number_at-a.ensures.0 in
    let y = c.number_at-b.ensures.0 in
    asked-some _ _ a.n _ (c.check_ask-refusal.ensures ∙ same-refusal a.n.stack.tables _ _ _ _ x y) _ _ c.say.ensures (omega arith)
    (ap Related (c.relation_number-r.ensures ∙ ap relation_number c.subtype_relation.ensures ∙ ap₂ (λ (p q : ℕ). relation_number (relation (view_of a.pairs.now a.marks.now a.n.stack.tables) p q)) x y))
