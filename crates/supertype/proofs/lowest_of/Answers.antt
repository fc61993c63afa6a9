-- `lowest_of` meets its contract: Object is among the lowest exactly if it reaches all the others.
use mathlib.Core.Path.{◌≡◌, sym, ap, subst, ◌∙◌}
use mathlib.Core.Bool.{true}
use mathlib.Core.List.{List}
use Prim.Native.Nat.{ℕ}
use lib.ListN.{length}
use Rattle.sets.specs.Sets.{member}
use Rattle.sets.specs.Laws.{length-remove}
use Rattle.tables.specs.Table.{view_of, view-good}
use Rattle.supertype.specs.Sources.{Upward}
use Rattle.view.specs.Lows.{remove-only, object-lowest, object-not-lowest}
use Rattle.supertype.proofs.lowest_of.Goals as goal

pub lowest_others-low-requires : goal.lowest_others-low-requires
lowest_others-low-requires c =
    let a = c.args in
    let p = c.requires in
    let e = c.without-others.ensures in (
      p.0,
      p.1,
      p.2,
      ap length e ∙ length-remove a.all.words a.t.object ∙ p.2,
      λ d m. p.3 d (remove-only a.all.words a.t.object d (subst (λ (s : List ℕ). member s d ≡ true) e m)).1,
      subst (Upward (view_of a.pairs.now a.marks.now a.t) a.all.words) (sym e) p.5,
      p.6,
    )

pub reached_from-requires : goal.reached_from-requires
reached_from-requires c = c.requires.6

pub returns-then-lowest-eq1024 : goal.returns-then-lowest-eq1024
returns-then-lowest-eq1024 c =
    let a = c.args in
    let p = c.requires in
    object-lowest (view_of a.pairs.now a.marks.now a.t) (view-good a.pairs.now a.marks.now a.t p.0 p.1) a.all.words
    c.without-others.result.words c.lowest_others-low.result.words c.reached_from.result.words c.difference-unreached.result.words
    p.2 p.3 p.4 c.without-others.ensures c.lowest_others-low.ensures c.reached_from.ensures c.difference-unreached.ensures
    (sym c.lowest.ensures ∙ c.if-lowest-eq1024.true) c.with.result.words c.with.ensures

pub returns : goal.returns
returns c =
    let a = c.args in
    let p = c.requires in
    object-not-lowest (view_of a.pairs.now a.marks.now a.t) (view-good a.pairs.now a.marks.now a.t p.0 p.1) a.all.words
    c.without-others.result.words c.lowest_others-low.result.words c.reached_from.result.words c.difference-unreached.result.words
    p.2 p.3 p.4 c.without-others.ensures c.lowest_others-low.ensures c.reached_from.ensures c.difference-unreached.ensures
    (λ e. c.if-lowest-eq1024.false (c.lowest.ensures ∙ e))
