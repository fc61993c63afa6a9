-- `name_frame` meets its contract: a refused name changes nothing, another is kept as the last one.
use mathlib.Core.Path.{ap, ◌∙◌}
use mathlib.Core.List.{List}
use Prim.Native.Nat.{ℕ}
use native.Mathlib.Omega.{arith}
use Rattle.rows.specs.Rows.{name_row}
use Rattle.rowframes.specs.RowFrames.{name-none, name-all, part-front}
use Rattle.rowframes.proofs.name_frame.Goals as goal

pub returns-then-o-ne0 : goal.returns-then-o-ne0
returns-then-o-ne0 c =
    let a = c.args in
    name-none _ _ a.body.now a.last.now a.n (c.add_name-o.ensures ∙ ap (λ (l : List ℕ). name_row l a.body.now a.n.stack.tables) (part-front a.n.last a.last.now)) _ c.refuse.ensures c.if-o-ne0.true

pub returns : goal.returns
returns c =
    let a = c.args in
    name-all _ _ a.body.now a.last.now a.n (c.add_name-o.ensures ∙ ap (λ (l : List ℕ). name_row l a.body.now a.n.stack.tables) (part-front a.n.last a.last.now)) _ _ _ c.accept.ensures c.named.ensures (omega arith) c.copy.ensures
