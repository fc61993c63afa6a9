-- `supertype` meets its contract.
use mathlib.Core.Path.{sym, ◌∙◌}
use Rattle.tables.specs.Table.{view_of, view-good}
use Rattle.supertype.specs.Sources.{common-upward}
use Rattle.view.specs.Lows.{remove-only}
use Rattle.view.specs.Pick.{found-right, found-left, found-nearest, all-fits, all-common}
use Rattle.supertype.proofs.supertype.Goals as goal

pub returns-then-has : goal.returns-then-has
returns-then-has c =
    let a = c.args in
    let p = c.requires in
    found-right (view_of a.pairs.now a.marks.now a.t) (view-good a.pairs.now a.marks.now a.t p.0 p.1) a.left a.right p.2 p.3 c.ancestors_of-a.result.words c.ancestors_of-a.ensures (sym c.has.ensures ∙ c.if-has.true)

pub returns-then-has-2 : goal.returns-then-has-2
returns-then-has-2 c =
    let a = c.args in
    let p = c.requires in
    found-left (view_of a.pairs.now a.marks.now a.t) (view-good a.pairs.now a.marks.now a.t p.0 p.1) a.left a.right p.2 p.3 c.ancestors_of-a.result.words c.ancestors_of-b.result.words c.ancestors_of-a.ensures c.ancestors_of-b.ensures
    (sym c.has.ensures ∙ c.if-has.false)
    (sym c.has-2.ensures ∙ c.if-has-2.true)

pub lowest_of-low-requires : goal.lowest_of-low-requires
lowest_of-low-requires c =
    let a = c.args in
    let p = c.requires in
    let x = c.ancestors_of-a in
    let y = c.ancestors_of-b in
    let z = c.intersection in
    let f =
    all-fits (view_of a.pairs.now a.marks.now a.t) (view-good a.pairs.now a.marks.now a.t p.0 p.1) a.left a.right p.2 p.3 x.result.words y.result.words x.ensures y.ensures
    (sym c.has.ensures ∙ c.if-has.false) z.result.words z.ensures in (
      p.0,
      p.1,
      f.0,
      f.1,
      f.2,
      λ d e m r.
          let w = remove-only z.result.words a.t.object d m in
          common-upward (view_of a.pairs.now a.marks.now a.t) (view-good a.pairs.now a.marks.now a.t p.0 p.1) a.left a.right p.2 p.3 x.result.words y.result.words z.result.words x.ensures y.ensures z.ensures d e w.0 w.1 r,
      p.4,
    )

pub nearest_of-requires : goal.nearest_of-requires
nearest_of-requires c =
    let a = c.args in
    let p = c.requires in
    let x = c.ancestors_of-a in
    let y = c.ancestors_of-b in
    let z = c.intersection in
    let q = c.lowest_of-low.ensures in (
      p.0,
      p.1,
      p.2,
      p.3,
      q.size,
      λ d m.
          all-common (view_of a.pairs.now a.marks.now a.t) (view-good a.pairs.now a.marks.now a.t p.0 p.1) a.left a.right p.2 p.3 x.result.words y.result.words x.ensures y.ensures
          (sym c.has.ensures ∙ c.if-has.false) z.result.words z.ensures d ((q.exactly d).0 m).0,
    )

pub returns : goal.returns
returns c =
    let a = c.args in
    let p = c.requires in
    found-nearest (view_of a.pairs.now a.marks.now a.t) (view-good a.pairs.now a.marks.now a.t p.0 p.1) a.left a.right p.2 p.3 c.ancestors_of-a.result.words c.ancestors_of-b.result.words c.ancestors_of-a.ensures c.ancestors_of-b.ensures
    (sym c.has.ensures ∙ c.if-has.false) c.intersection.result.words c.intersection.ensures
    c.lowest_of-low.result.words c.lowest_of-low.ensures c.nearest_of.result c.nearest_of.ensures
    (sym c.has-2.ensures ∙ c.if-has-2.false)
