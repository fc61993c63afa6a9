-- `produced_of` meets its contract: the join of the evidence.
use mathlib.Core.Path.{◌∙◌}
use native.Mathlib.Omega.{arith}
use Rattle.copying.specs.Steps.{evidence-short}
use Rattle.turning.specs.Turning.{asks-sorted, part-legal, part-ascends, part-produces}
use Rattle.turning.proofs.produced_of.Goals as goal

pub copy_evidence-m-requires : goal.copy_evidence-m-requires
copy_evidence-m-requires c =
    let x = c.args in
    let p = c.requires in
    (asks-sorted x.pairs.now x.marks.now x.t x.keys.now p.0 x.root, p.1, p.2)

pub slice_bounds-join_all-end : goal.slice_bounds-join_all-end
slice_bounds-join_all-end c =
    let x = c.args in
    let p = c.requires in
    let o = c.copy_evidence-m in
    omega (arith, p.2, o.ensures.0, o.auto.out, evidence-short x.root x.keys.now (asks-sorted x.pairs.now x.marks.now x.t x.keys.now p.0 x.root))

pub join_all-requires : goal.join_all-requires
join_all-requires c =
    let x = c.args in
    let p = c.requires in
    let o = c.copy_evidence-m in
    (p.0.fits, part-legal x.pairs.now x.marks.now x.t x.keys.now p.0 x.root x.words.now o.new.out o.result o.ensures.0 o.ensures.1, part-ascends x.pairs.now x.marks.now x.t x.keys.now p.0 x.root x.words.now o.new.out o.result o.ensures.0 o.ensures.1, p.0.long)

pub returns : goal.returns
returns c =
    let x = c.args in
    let p = c.requires in
    let o = c.copy_evidence-m in
    c.join_all.ensures ∙ part-produces x.pairs.now x.marks.now x.t x.keys.now p.0 x.root x.words.now o.new.out o.result o.ensures.0 o.ensures.1
