-- `cast_frame` meets its contract.
use mathlib.Core.Path.{◌≡◌, refl, ap, ap₂, ◌∙◌}
use mathlib.Core.Bool.{Bool, true, false, cond}
use Rattle.std.specs.Int.{from_bool}
use Prim.Native.Nat.{ℕ}
use native.Mathlib.Omega.{arith}
use Rattle.view.specs.View.{cast}
use Rattle.tables.specs.Table.{view_of}
use Rattle.framestate.specs.declared.Said.TheVariants.{Castable}
use Rattle.askframes.specs.AskFrames.{asked-none, asked-some, same-refusal}
use Rattle.askframes.proofs.cast_frame.Goals as goal

bit : (b : Bool) → from_bool b ≡ cond b 1 0
bit true = refl
bit false = refl

pub returns-then-refusal-ne0 : goal.returns-then-refusal-ne0
returns-then-refusal-ne0 c =
    let a = c.args in
    asked-none _ _ a.n _ (c.check_ask-refusal.ensures ∙ same-refusal a.n.stack.tables _ _ _ _ c.number_at-a.ensures.0 c.number_at-b.ensures.0) _ c.refuse.ensures c.if-refusal-ne0.true

pub returns : goal.returns
returns c =
    let a = c.args in
    let x = c.number_at-a.ensures.0 in
    let y = c.number_at-b.ensures.0 in
    asked-some _ _ a.n _ (c.check_ask-refusal.ensures ∙ same-refusal a.n.stack.tables _ _ _ _ x y) _ _ c.say.ensures (omega arith)
    (ap Castable (c.from-r.ensures ∙ bit c.cast.result ∙ ap (λ (b : Bool). cond b 1 0) c.cast.ensures ∙ ap₂ (λ (p q : ℕ). cond (cast (view_of a.pairs.now a.marks.now a.n.stack.tables) p q) 1 0) x y))
