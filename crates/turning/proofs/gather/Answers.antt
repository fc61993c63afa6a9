-- `gather` meets its contract: everything from the keys, before the first insertion.
use borrow.Author.Rules.{rules}
use mathlib.Core.Path.{ap, ◌∙◌}
use mathlib.Core.Bool.{Bool}
use native.Mathlib.Nat.{zero-add}
use native.Mathlib.Omega.{arith}
use lib.ListN.{length}
use Rattle.copying.specs.Copies.{run_in}
use Rattle.copying.specs.Steps.{run-short}
use Rattle.sending.specs.Sending.{sent_maybe, sent_element, sent_array}
use Rattle.ty.specs.Answers.{maybe_word}
use Rattle.lattice.specs.World.{world_of}
use Rattle.solving.specs.Solving.{produced_type}
use Rattle.turning.specs.Turning.{state_in, only_if, asks-sorted, gather-produced, gather-shape}
use Rattle.turning.proofs.gather.Goals as goal

pub shape_if-shape-requires : goal.shape_if-shape-requires
shape_if-shape-requires c =
    let x = c.args in
    let p = c.requires in
    let o = c.produced_if-produced in
    (p.0, p.1, search rules, λ h. o.ensures ∙ ap (λ (a : Bool). only_if a (maybe_word (produced_type (world_of x.pairs.now x.marks.now x.t) (state_in x.keys.now x.root)))) (p.5 h))

pub copy_ranks-f-requires : goal.copy_ranks-f-requires
copy_ranks-f-requires c =
    let x = c.args in
    let p = c.requires in
    (asks-sorted x.pairs.now x.marks.now x.t x.keys.now p.0 x.root, p.1, omega arith, omega (arith, p.3, run-short x.root 1 x.keys.now (asks-sorted x.pairs.now x.marks.now x.t x.keys.now p.0 x.root)))

pub copy_uppers-u-requires : goal.copy_uppers-u-requires
copy_uppers-u-requires c =
    let x = c.args in
    let p = c.requires in
    (asks-sorted x.pairs.now x.marks.now x.t x.keys.now p.0 x.root, p.1, p.4)

pub send_type-requires : goal.send_type-requires
send_type-requires c =
    let x = c.args in
    let p = c.requires in
    let o = c.produced_if-produced in
    gather-produced x.pairs.now x.marks.now x.t x.keys.now p.0 x.root x.k.produced o.result o.ensures

pub send_element-requires : goal.send_element-requires
send_element-requires c =
    let x = c.args in
    let p = c.requires in
    let o = c.shape_if-shape in
    gather-shape x.pairs.now x.marks.now x.t x.keys.now p.0 x.root x.k.element o.result o.ensures

pub send_array-requires : goal.send_array-requires
send_array-requires c =
    let x = c.args in
    let p = c.requires in
    let o = c.produced_if-produced in
    gather-produced x.pairs.now x.marks.now x.t x.keys.now p.0 x.root x.k.produced o.result o.ensures

pub returns : goal.returns
returns c =
    let x = c.args in
    let o = c.produced_if-produced in
    let v = c.shape_if-shape in
    let f = c.copy_ranks-f in
    let u = c.copy_uppers-u in
    let e = c.send_type.ensures ∙ ap sent_maybe o.ensures in
    let g = c.send_element.ensures ∙ ap sent_element v.ensures in
    let h = c.send_array.ensures ∙ ap sent_array o.ensures in
    let n = f.ensures.0 ∙ zero-add (length (run_in x.root 1 x.keys.now)) in
    (λ i. record { produced = e i; element = g i; array = h i; fallbacks = n i; uppers = u.ensures.0 i }, f.ensures.1, u.ensures.1)
