-- `expand` meets its contract: what is left to expand are the members of `left`, and c is the least of them.
use native.Mathlib.Omega.{arith}
use mathlib.Core.Path.{refl, sym, ap₂, ◌∙◌}
use mathlib.Core.List.{List}
use Prim.Native.Nat.{ℕ}
use Rattle.sets.specs.Sets.{at, members}
use Rattle.view.specs.View.{with_parents}
use Rattle.tables.specs.Table.{view_of}
use Rattle.hierarchy.proofs.Steps.{expand-step, expand-end}
use Rattle.view.specs.Frontier.{left-less}
use Rattle.hierarchy.proofs.expand.Goals as goal

pub loop-c-init : goal.loop-c-init
loop-c-init c = (c.lowest-c.ensures, refl)

pub loop-c-smaller : goal.loop-c-smaller
loop-c-smaller c =
    let l = c.loop-c in
    left-less l.left.words l.c c.without-left.result.words l.invariant.0 (omega arith) c.without-left.ensures

pub loop-c-preserved : goal.loop-c-preserved
loop-c-preserved c =
    let a = c.args in
    let l = c.loop-c in
    let v = view_of a.pairs.now a.marks.now a.t in (
      c.lowest-c-in-loop-c.ensures,
      l.invariant.1 ∙ expand-step v l.all.words l.left.words l.c l.invariant.0 (omega arith)
          ∙ ap₂ (λ (s f : List ℕ). with_parents v s (members (at f) 0 1024)) (sym c.with_parents-all.ensures) (sym c.without-left.ensures),
    )

pub returns : goal.returns
returns c =
    let a = c.args in
    let l = c.loop-c in
    sym (l.invariant.1 ∙ expand-end (view_of a.pairs.now a.marks.now a.t) l.all.words l.left.words l.c l.invariant.0 (omega arith))
