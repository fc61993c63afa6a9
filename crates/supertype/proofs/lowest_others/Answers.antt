-- `lowest_others` meets its contract.
use borrow.Author.Tests.{eqb-true}
use mathlib.Core.Path.{refl, sym, ◌∙◌}
use Rattle.sets.specs.Sets.{at, remove, first}
use Rattle.tables.specs.Table.{view_of}
use Rattle.supertype.specs.Sources.{lows-alone}
use Rattle.supertype.proofs.lowest_others.Goals as goal

pub returns-then-is_lone : goal.returns-then-is_lone
returns-then-is_lone c =
    let a = c.args in
    lows-alone (view_of a.pairs.now a.marks.now a.t) a.others.words (remove a.others.words (first (at a.others.words) 1024)) (first (at a.others.words) 1024) c.requires.3 refl
    (eqb-true (first (at (remove a.others.words (first (at a.others.words) 1024))) 1024) 1024 (sym c.is_lone.ensures ∙ c.if-is_lone.true))

pub lowest_prepared-requires : goal.lowest_prepared-requires
lowest_prepared-requires c = let p = c.requires in (p.0, p.1, p.3, p.4, p.6)
