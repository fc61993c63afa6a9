-- `begin` meets its contract: the rows of the classes that are left are empty.
use native.Mathlib.Omega.{arith}
use mathlib.Core.Path.{◌≡◌, sym, ap, ◌∙◌}
use mathlib.Core.List.{List}
use Prim.Native.Nat.{ℕ}
use lib.ListN.{length, length-replicate}
use Rattle.sets.specs.Sets.{at, insert, first}
use Rattle.sets.specs.Bits.{first-le}
use Rattle.sets.proofs.Good.{array-length}
use Rattle.view.specs.View.{insert_all}
use Rattle.view.specs.Frontier.{left-less}
use Rattle.tables.specs.Table.{view_of}
use Rattle.ancestry.specs.Rows.{rows_room, row, zero-row}
use Rattle.ancestry.specs.Closure.{based-start, based-next, based-end}
use Rattle.ancestry.proofs.begin.Goals as goal

pub loop-c-init : goal.loop-c-init
loop-c-init c =
    let n = array-length 16 c.args.s.words _ c.well_formed.1.1.1.0.1.1.0 in
    let z = ap length c.requires.0 ∙ length-replicate {A = ℕ} rows_room 0 in
    (c.lowest-c.ensures, z, n, based-start (view_of c.args.pairs.now c.args.marks.now c.args.t) c.args.s.words n c.args.rows.now z (λ x h. ap (λ (w : List ℕ). row w x) c.requires.0 ∙ zero-row rows_room x (omega arith)))

pub loop-c-smaller : goal.loop-c-smaller
loop-c-smaller c =
    let l = c.loop-c in
    left-less l.left.words l.c c.without-left.result.words l.invariant.0 (omega arith) c.without-left.ensures

pub loop-c-preserved : goal.loop-c-preserved
loop-c-preserved c =
    let a = c.args in
    let l = c.loop-c in
    let v = view_of a.pairs.now a.marks.now a.t in
    let j = c.join in
    let q =
    based-next v a.s.words l.invariant.2 l.left.words l.rows l.invariant.3 l.c l.invariant.0 (omega arith) c.with_parents-own.result.words
    (c.with_parents-own.ensures ∙ ap (λ (s : List ℕ). insert_all s (v.parents l.c)) (c.with.ensures ∙ ap (λ (s : List ℕ). insert s l.c) c.empty-none.ensures))
    j.new.rows c.without-left.result.words j.ensures c.without-left.ensures in
    (c.lowest-c-in-loop-c.ensures, q.size, l.invariant.2, q)

pub shape_of-rows : goal.shape_of-rows
shape_of-rows c = c.loop-c.invariant.1 ∙ sym (ap length c.requires.0 ∙ length-replicate {A = ℕ} rows_room 0)

pub returns : goal.returns
returns c =
    let a = c.args in
    let l = c.loop-c in
    let e = l.invariant.0 in
    let h = first-le (at l.left.words) 1024 in
    based-end (view_of a.pairs.now a.marks.now a.t) a.s.words l.invariant.2 l.left.words l.rows l.invariant.3 (let q : first (at l.left.words) 1024 ≡ 1024 = omega arith in q)
