-- `uncover` meets its contract: the keys of the class go where the layer does not record it yet.
use mathlib.Core.Path.{sym, ap, ◌∙◌}
use mathlib.Core.List.{List}
use Prim.Native.Nat.{ℕ}
use lib.ListN.{length, take}
use lib.Seq.{length-take-le}
use Rattle.rows.specs.Rows.{filled}
use Rattle.rows.specs.Keys.{filled-same}
use Rattle.layers.specs.Laws.{left-kept, left-taken}
use Rattle.layers.proofs.uncover.Goals as goal

pub returns-then-has : goal.returns-then-has
returns-then-has c =
    let a = c.args in
    let kept = left-kept a.own.words a.class (take a.n a.pairs.now) (sym c.has.ensures ∙ c.if-has.true) in (
      sym (ap length kept ∙ length-take-le a.n a.pairs.now c.requires.1),
      sym (ap (λ (l : List ℕ). filled l a.pairs.now) kept ∙ filled-same a.n a.pairs.now c.requires.1),
    )

pub returns : goal.returns
returns c =
    let a = c.args in
    let gone = sym (left-taken a.own.words a.class (take a.n a.pairs.now) (sym c.has.ensures ∙ c.if-has.false)) in
    let away = c.take_away in
    (away.ensures.0 ∙ ap length gone, away.ensures.1 ∙ ap (λ (l : List ℕ). filled l a.pairs.now) gone)
