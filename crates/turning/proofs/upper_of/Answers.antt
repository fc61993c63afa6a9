-- `upper_of` meets its contract: of the upper bounds.
use mathlib.Core.Path.{◌∙◌}
use native.Mathlib.Omega.{arith}
use Rattle.copying.specs.Steps.{run-short}
use Rattle.turning.specs.Turning.{asks-sorted, uppers-legal, part-upper}
use Rattle.turning.proofs.upper_of.Goals as goal

pub copy_words-m-requires : goal.copy_words-m-requires
copy_words-m-requires c =
    let x = c.args in
    let p = c.requires in
    (asks-sorted x.pairs.now x.marks.now x.t x.keys.now p.0 x.root, p.1, omega arith, omega (arith, p.2, run-short x.root 2 x.keys.now (asks-sorted x.pairs.now x.marks.now x.t x.keys.now p.0 x.root)))

pub slice_bounds-most_specific_upper-end : goal.slice_bounds-most_specific_upper-end
slice_bounds-most_specific_upper-end c =
    let x = c.args in
    let p = c.requires in
    let o = c.copy_words-m in
    omega (arith, p.2, o.ensures.0, o.auto.out, run-short x.root 2 x.keys.now (asks-sorted x.pairs.now x.marks.now x.t x.keys.now p.0 x.root))

pub most_specific_upper-requires : goal.most_specific_upper-requires
most_specific_upper-requires c =
    let x = c.args in
    let p = c.requires in
    let o = c.copy_words-m in
    (p.0.long, omega (arith, p.0.fits), uppers-legal x.pairs.now x.marks.now x.t x.keys.now p.0 x.root x.words.now o.new.out o.result o.ensures.0 o.ensures.1)

pub returns : goal.returns
returns c =
    let x = c.args in
    let p = c.requires in
    let o = c.copy_words-m in
    c.most_specific_upper.ensures ∙ part-upper x.pairs.now x.marks.now x.t x.keys.now p.0 x.root x.words.now o.new.out o.result o.ensures.0 o.ensures.1
