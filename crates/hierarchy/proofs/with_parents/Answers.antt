-- `with_parents` meets its contract: what is left to put in are the keys of the run from the index on.
use native.Mathlib.Omega.{arith}
use mathlib.Core.Path.{◌≡◌, sym, ap, ◌∙◌}
use mathlib.Core.List.{List}
use Prim.Native.Nat.{ℕ, ◌+◌, ◌-◌, ◌*◌, ◌≤◌}
use lib.ListN.{length, take, drop, length-take}
use Rattle.std.proofs.Common.{rules}
use Rattle.sorted.specs.Sorted.{place}
use Rattle.sorted.specs.Places.{place-le}
use Rattle.view.specs.View.{insert_all}
use Rattle.tables.specs.Table.{parents_in, own_run, parents_of}
use Rattle.hierarchy.proofs.Steps.{parents-step, parents-stop, parents-end, run-part}
use Rattle.hierarchy.proofs.with_parents.Goals as goal

-- the run begins within the keys
within : (n first past c : ℕ) (a : List ℕ) → first ≡ place (c * 1024) (take n a) → past ≡ length (take n a) → (first ≤ past) × (past ≤ length a)
within n first past c a e q = let l = place-le (c * 1024) (take n a) in let t = length-take n a in (omega arith, omega arith)

-- the keys of the run are the part that is read
parts-run : (names n first past c : ℕ) (a s : List ℕ) → first ≡ place (c * 1024) (take n a) → past ≡ length (take n a)
    → insert_all s (parents_of names (take n a) c) ≡ insert_all s (parents_in names (own_run c (take (past - first) (drop first a))))
unfolding parents_of
parts-run names n first past c a s e q =
    ap (λ (i : ℕ). insert_all s (parents_in names (own_run c (drop i (take n a))))) (sym e)
    ∙ ap (λ (es : List ℕ). insert_all s (parents_in names (own_run c es))) (sym (run-part n first past a q (within n first past c a e q).0))

pub slice_bounds-key-items-count : goal.slice_bounds-key-items-count
slice_bounds-key-items-count c =
    let a = c.args in
    (within a.t.pairs c.position-first.result c.count-past.result a.c a.pairs.now c.position-first.ensures c.count-past.ensures).0

pub offset_bounds-pairs-first : goal.offset_bounds-pairs-first
offset_bounds-pairs-first c =
    let a = c.args in
    let w = within a.t.pairs c.position-first.result c.count-past.result a.c a.pairs.now c.position-first.ensures c.count-past.ensures in
    let k : c.position-first.result ≤ length a.pairs.now = omega (arith, w.0, w.1) in
    search rules

pub slice_bounds-key-items-start : goal.slice_bounds-key-items-start
slice_bounds-key-items-start c =
    let a = c.args in
    let w = within a.t.pairs c.position-first.result c.count-past.result a.c a.pairs.now c.position-first.ensures c.count-past.ensures in
    let k : c.position-first.result ≤ length a.pairs.now = omega (arith, w.0, w.1) in
    search rules

pub loop-key-preserved : goal.loop-key-preserved
loop-key-preserved c =
    let a = c.args in
    let l = c.loop-key in
    let es = take (c.count-past.result - c.position-first.result) (drop c.position-first.result a.pairs.now) in
    l.invariant ∙ parents-step a.t.names a.c es l.all.words l.key-index c.loop-key-test.true c.if-key-c.false
    ∙ ap (λ s. insert_all s (parents_in a.t.names (own_run a.c (drop (l.key-index + 1) es)))) (sym c.with_class-all.ensures)

pub returns-then-key-c : goal.returns-then-key-c
returns-then-key-c c =
    let a = c.args in
    let l = c.loop-key in
    let es = take (c.count-past.result - c.position-first.result) (drop c.position-first.result a.pairs.now) in
    sym (parts-run a.t.names a.t.pairs c.position-first.result c.count-past.result a.c a.pairs.now a.s.words c.position-first.ensures c.count-past.ensures
    ∙ l.invariant ∙ parents-stop a.t.names a.c es l.all.words l.key-index c.loop-key-test.true c.if-key-c.true)

pub returns : goal.returns
returns c =
    let a = c.args in
    let l = c.loop-key in
    let es = take (c.count-past.result - c.position-first.result) (drop c.position-first.result a.pairs.now) in
    sym (parts-run a.t.names a.t.pairs c.position-first.result c.count-past.result a.c a.pairs.now a.s.words c.position-first.ensures c.count-past.ensures
    ∙ l.invariant ∙ parents-end a.t.names a.c es l.all.words l.key-index (omega arith))
