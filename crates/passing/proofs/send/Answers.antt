-- `send` meets its contract: the root's partners are a run.
use Rattle.std.specs.Prelude.{List, ℕ}
use Rattle.std.proofs.Common.{ap, ◌∙◌, arith}
use Rattle.solving.specs.Solving.{to_each}
use Rattle.inserting.specs.Store.{store, put_all}
use Rattle.passing.specs.Steps.{run-inside, run-partners}
use Rattle.passing.proofs.send.Goals as goal

pub offset_bounds-links-of : goal.offset_bounds-links-of
offset_bounds-links-of g c =
    let x = c.args in
    let r = c.run-of in
    omega (arith, run-inside x.root x.links.now c.requires.3 r.result r.ensures)

pub slice_bounds-send_each-count : goal.slice_bounds-send_each-count
slice_bounds-send_each-count g c =
    let x = c.args in
    let r = c.run-of in
    omega (arith, run-inside x.root x.links.now c.requires.3 r.result r.ensures)

pub slice_bounds-send_each-start : goal.slice_bounds-send_each-start
slice_bounds-send_each-start g c =
    let x = c.args in
    let r = c.run-of in
    omega (arith, run-inside x.root x.links.now c.requires.3 r.result r.ensures)

pub slice_bounds-send_each-end : goal.slice_bounds-send_each-end
slice_bounds-send_each-end g c =
    let x = c.args in
    let r = c.run-of in
    omega (arith, run-inside x.root x.links.now c.requires.3 r.result r.ensures)

pub returns : goal.returns
returns g c =
    let x = c.args in
    let r = c.run-of in
    c.send_each.ensures
    ∙ ap (λ (l : List ℕ). put_all (to_each 0 x.kind (g.L.Load.types x.load) l) (store x.a.now x.ring.now x.s)) (run-partners x.root x.links.now c.requires.3 r.result r.ensures)
