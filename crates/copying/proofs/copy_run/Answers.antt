-- `copy_run` meets its contract: the run that `sorted::run` finds, copied entry by entry.
use Rattle.std.specs.Prelude.{◌≡◌, List, ℕ, length, map, get_or, set}
use Rattle.std.proofs.Common.{ap, ◌∙◌, arith}
use Rattle.std.proofs.Math.Seq.{paste, paste-zero}
use Rattle.copying.specs.Copies.{between}
use Rattle.copying.specs.Steps.{paste-more, run-is, run-bounds}
use Rattle.copying.proofs.copy_run.Goals as goal

pub offset_bounds-keys-own : goal.offset_bounds-keys-own
offset_bounds-keys-own g c =
    let x = c.args in
    let r = c.run-own in
    omega (arith, run-bounds x.component x.kind x.keys.now c.requires.1.0 r.result r.ensures)

pub slice_bounds-key-items-count : goal.slice_bounds-key-items-count
slice_bounds-key-items-count g c =
    let x = c.args in
    let r = c.run-own in
    omega (arith, run-bounds x.component x.kind x.keys.now c.requires.1.0 r.result r.ensures)

pub slice_bounds-key-items-start : goal.slice_bounds-key-items-start
slice_bounds-key-items-start g c =
    let x = c.args in
    let r = c.run-own in
    omega (arith, run-bounds x.component x.kind x.keys.now c.requires.1.0 r.result r.ensures)

pub slice_bounds-key-items-end : goal.slice_bounds-key-items-end
slice_bounds-key-items-end g c =
    let x = c.args in
    let r = c.run-own in
    omega (arith, run-bounds x.component x.kind x.keys.now c.requires.1.0 r.result r.ensures)

pub loop-key-init : goal.loop-key-init
loop-key-init g c =
    let x = c.args in
    (omega arith, omega arith, paste-zero x.out.now x.at (map g.of (between c.run-own.result x.keys.now)))

pub bounds-out-end : goal.bounds-out-end
bounds-out-end g c =
    let x = c.args in
    let r = c.run-own in
    let l = c.loop-key in
    omega (arith, c.requires.1.3, ap length (run-is x.component x.kind x.keys.now c.requires.1.0 r.result r.ensures), l.auto.out, l.invariant.1)

pub loop-key-preserved : goal.loop-key-preserved
loop-key-preserved g c =
    let x = c.args in
    let p = c.requires.1 in
    let r = c.run-own in
    let l = c.loop-key in
    let v = c.of_key.result in
    let run = between r.result x.keys.now in
    let some = paste x.out.now x.at (map g.of run) l.key-index in
    let same = run-is x.component x.kind x.keys.now p.0 r.result r.ensures in (
      omega arith,
      omega (arith, l.invariant.1),
      ap (λ (o : List ℕ). set o l.end v) l.invariant.2
          ∙ ap (λ (e : ℕ). set some e v) l.invariant.1
          ∙ paste-more g.of x.out.now x.at run l.key-index v ((p.4 (get_or run l.key-index 0)).1 v c.of_key.ensures) (omega arith) (omega (arith, p.3, ap length same)),
    )

pub returns : goal.returns
returns g c =
    let x = c.args in
    let r = c.run-own in
    let l = c.loop-key in
    let run = between r.result x.keys.now in
    let same = run-is x.component x.kind x.keys.now c.requires.1.0 r.result r.ensures in
    let full : l.key-index ≡ length run = omega arith in (
      omega (arith, l.invariant.1, full, ap length same),
      l.invariant.2 ∙ ap (paste x.out.now x.at (map g.of run)) full ∙ ap (λ (k : List ℕ). paste x.out.now x.at (map g.of k) (length k)) same,
    )
