-- `nearest_of` meets its contract: one class alone is the nearest; else, of what both sides meet first, the least that either reaches first.
use mathlib.Core.Path.{sym, subst, ◌∙◌}
use Rattle.tables.specs.Table.{view_of, view-good}
use Rattle.view.specs.Pick.{NearestOf}
use Rattle.supertype.specs.Near.{nearest-lone, two-of, met-some, nearest-met, nearest-near}
use Rattle.supertype.proofs.nearest_of.Goals as goal

pub returns-then-is_lone : goal.returns-then-is_lone
returns-then-is_lone c =
    let a = c.args in
    subst (NearestOf (view_of a.pairs.now a.marks.now a.t) a.left a.right a.s.words) (sym c.lowest.ensures) (nearest-lone (view_of a.pairs.now a.marks.now a.t) a.left a.right a.s.words c.requires.4 (sym c.is_lone.ensures ∙ c.if-is_lone.true))

pub first_near-met-requires : goal.first_near-met-requires
first_near-met-requires c = c.requires.4

pub returns-then-is_lone-2 : goal.returns-then-is_lone-2
returns-then-is_lone-2 c =
    let a = c.args in
    let p = c.requires in
    let f = c.first_near-met in
    let w = two-of a.s.words p.4 (sym c.is_lone.ensures ∙ c.if-is_lone.false) in
    let m = met-some (view_of a.pairs.now a.marks.now a.t) (view-good a.pairs.now a.marks.now a.t p.0 p.1) a.left a.right p.2 p.3 a.s.words f.result.words f.ensures p.5 w.0 w.1 w.2 w.3 w.4 in
    nearest-met (view_of a.pairs.now a.marks.now a.t) (view-good a.pairs.now a.marks.now a.t p.0 p.1) a.left a.right p.2 p.3 a.s.words f.result.words f.ensures p.5 m.0 m.1 c.lowest-then-is_lone-2.result
    (subst (NearestOf (view_of a.pairs.now a.marks.now a.t) a.left a.right f.result.words) (sym c.lowest-then-is_lone-2.ensures) (nearest-lone (view_of a.pairs.now a.marks.now a.t) a.left a.right f.result.words f.ensures.size (sym c.is_lone-2.ensures ∙ c.if-is_lone-2.true)))

pub first_near-near-requires : goal.first_near-near-requires
first_near-near-requires c = c.first_near-met.ensures.size

pub returns : goal.returns
returns c =
    let a = c.args in
    let p = c.requires in
    let f = c.first_near-met in
    let h = c.first_near-near in
    let w = two-of a.s.words p.4 (sym c.is_lone.ensures ∙ c.if-is_lone.false) in
    let m = met-some (view_of a.pairs.now a.marks.now a.t) (view-good a.pairs.now a.marks.now a.t p.0 p.1) a.left a.right p.2 p.3 a.s.words f.result.words f.ensures p.5 w.0 w.1 w.2 w.3 w.4 in
    nearest-met (view_of a.pairs.now a.marks.now a.t) (view-good a.pairs.now a.marks.now a.t p.0 p.1) a.left a.right p.2 p.3 a.s.words f.result.words f.ensures p.5 m.0 m.1 c.lowest-2.result
    (subst (NearestOf (view_of a.pairs.now a.marks.now a.t) a.left a.right f.result.words) (sym c.lowest-2.ensures) (nearest-near (view_of a.pairs.now a.marks.now a.t) (view-good a.pairs.now a.marks.now a.t p.0 p.1) a.left a.right p.2 p.3 a.s.words f.result.words f.ensures h.result.words h.ensures m.0 m.1))
