-- `lowest_by_table` meets its contract: what is reached from a set has all above its classes.
use mathlib.Core.Path.{refl}
use Rattle.tables.specs.Table.{view_of, view-good}
use Rattle.supertype.specs.Stripped.{above-inside, above-closed, above-rows}
use Rattle.supertype.proofs.lowest_by_table.Goals as goal

pub fill-requires : goal.fill-requires
fill-requires c =
    let a = c.args in
    let p = c.requires in
    let w = c.spread-above in (
      p.0,
      p.1,
      above-inside (view_of a.pairs.now a.marks.now a.t) (view-good a.pairs.now a.marks.now a.t p.0 p.1) a.all.words w.result.words p.3 w.ensures,
      above-closed (view_of a.pairs.now a.marks.now a.t) (view-good a.pairs.now a.marks.now a.t p.0 p.1) a.all.words w.result.words p.3 w.ensures,
      refl,
    )

pub lowest_by_rows-requires : goal.lowest_by_rows-requires
lowest_by_rows-requires c =
    let a = c.args in
    let p = c.requires in
    let w = c.spread-above in
    let f = c.fill in
    (p.0, p.1, p.2, p.3, f.ensures.size, above-rows (view_of a.pairs.now a.marks.now a.t) (view-good a.pairs.now a.marks.now a.t p.0 p.1) a.all.words w.result.words p.3 w.ensures f.new.rows f.ensures)
