-- `check_records` meets its contract: what is left are the records from i on, after the tables that the first i leave.
use mathlib.Core.Path.{◌≡◌, refl, ap, ◌∙◌}
use Prim.Native.Nat.{ℕ}
use lib.ListN.{length}
use native.Mathlib.Omega.{arith}
use Rattle.layers.specs.Stacks.{stack_of}
use Rattle.tablecheck.specs.Inside.{stop_in}
use Rattle.tablecheck.specs.Steps.{fresh-holds, gone-start, gone-end, gone-stop, gone-on}
use Rattle.tablecheck.proofs.check_records.Goals as goal

pub loop-i-init : goal.loop-i-init
loop-i-init c = ((fresh-holds _ c.args.t refl c.requires.1 c.lowest-u.result c.lowest-u.ensures).0, gone-start c.args.columns.now.parents.now c.args.columns.now.rec_flags.now c.args.columns.now.rec_class.now c.args.columns.now.rec_at.now c.args.columns.now.rec_len.now _ _ refl)

pub stack_row-row-requires : goal.stack_row-row-requires
stack_row-row-requires c = c.loop-i.invariant.0

pub returns-then-row-ne0 : goal.returns-then-row-ne0
returns-then-row-ne0 c =
    let a = c.args in
    let k = a.columns.now in
    let l = c.loop-i in
    let row = c.stack_row-row in
    let low = c.lowest-u in
    gone-stop k.parents.now k.rec_flags.now k.rec_class.now k.rec_at.now k.rec_len.now _ l.i (stack_of l.pairs l.marks l.u) l.invariant.1 c.requires.0 (omega arith) row.result.refusal row.ensures.refusal-is c.if-row-ne0.true
    ∙ ap (stop_in k) (fresh-holds _ a.t refl c.requires.1 low.result low.ensures).1

pub loop-i-preserved : goal.loop-i-preserved
loop-i-preserved c =
    let a = c.args in
    let k = a.columns.now in
    let l = c.loop-i in
    let row = c.stack_row-row in (
      row.ensures.holds,
      gone-on k.parents.now k.rec_flags.now k.rec_class.now k.rec_at.now k.rec_len.now _ l.i (stack_of l.pairs l.marks l.u) l.invariant.1 c.requires.0 (omega arith) row.result.refusal row.ensures.refusal-is c.if-row-ne0.false _ row.ensures.stack-is,
    )

pub returns : goal.returns
returns c =
    let a = c.args in
    let k = a.columns.now in
    let l = c.loop-i in
    let low = c.lowest-u in
    let e : length k.rec_flags.now ≡ l.i = omega arith in
    ap (λ (n : ℕ). record { refusal = 0; row = n }) e
    ∙ gone-end k.parents.now k.rec_flags.now k.rec_class.now k.rec_at.now k.rec_len.now _ l.i (stack_of l.pairs l.marks l.u) l.invariant.1 (omega arith)
    ∙ ap (stop_in k) (fresh-holds _ a.t refl c.requires.1 low.result low.ensures).1
