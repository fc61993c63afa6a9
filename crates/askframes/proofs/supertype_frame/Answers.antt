-- `supertype_frame` meets its contract: both numbers are classes, and Object is one.
use Rattle.prepared.specs.Prepared.{plain-prepared}
use mathlib.Core.Path.{◌≡◌, sym, ap, ap₂, ◌∙◌}
use Prim.Native.Nat.{ℕ}
use native.Mathlib.Omega.{arith}
use Rattle.view.specs.View.{supertype, number_of}
use Rattle.tables.specs.Table.{view_of}
use Rattle.framestate.specs.declared.Said.TheVariants.{Supertyped}
use Rattle.askframes.specs.AskFrames.{asked-none, asked-some, same-refusal, ask-passed}
use Rattle.askframes.proofs.supertype_frame.Goals as goal

pub returns-then-refusal-ne0 : goal.returns-then-refusal-ne0
returns-then-refusal-ne0 c =
    let a = c.args in
    asked-none _ _ a.n _ (c.check_ask-refusal.ensures ∙ same-refusal a.n.stack.tables _ _ _ _ c.number_at-a.ensures.0 c.number_at-b.ensures.0) _ c.refuse.ensures c.if-refusal-ne0.true

pub supertype-c-requires : goal.supertype-c-requires
supertype-c-requires c =
    let k = ask-passed c.args.n.stack.tables _ _ (sym c.check_ask-refusal.ensures ∙ (let z : c.check_ask-refusal.result ≡ 0 = omega arith in z)) in
    (c.requires.1, c.requires.2 k.2, k.0, k.1, plain-prepared c.args.pairs.now c.args.marks.now c.args.n.stack.tables c.requires.3 (λ e n. let r = c.requires.4 in omega arith))

pub returns : goal.returns
returns c =
    let a = c.args in
    let x = c.number_at-a.ensures.0 in
    let y = c.number_at-b.ensures.0 in
    asked-some _ _ a.n _ (c.check_ask-refusal.ensures ∙ same-refusal a.n.stack.tables _ _ _ _ x y) _ _ c.say.ensures (omega arith)
    (ap Supertyped (c.supertype-c.ensures ∙ ap₂ (λ (p q : ℕ). number_of (supertype (view_of a.pairs.now a.marks.now a.n.stack.tables) p q)) x y))
