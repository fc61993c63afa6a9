-- `without_those` meets its contract: what is left to look at are the members of `left`, and c is the least of them.
use native.Mathlib.Omega.{arith}
use mathlib.Core.Path.{refl, sym, ap, ap₂, ◌∙◌}
use mathlib.Core.Bool.{Bool, cond}
use mathlib.Core.List.{List}
use Prim.Native.Nat.{ℕ}
use Rattle.sets.specs.Sets.{at, remove, members}
use Rattle.supertype.specs.Stripped.{strip_by, by-step, by-end}
use Rattle.view.specs.Frontier.{left-less}
use Rattle.supertype.proofs.without_those.Goals as goal

pub loop-c-init : goal.loop-c-init
loop-c-init g c = (c.lowest-c.ensures, λ p h. refl)

pub loop-c-smaller : goal.loop-c-smaller
loop-c-smaller g c =
    let l = c.loop-c in
    left-less l.left.words l.c c.without-left.result.words l.invariant.0 (omega arith) c.without-left.ensures

pub loop-c-preserved : goal.loop-c-preserved
loop-c-preserved g c =
    let l = c.loop-c in (
      c.lowest-c-in-loop-c.ensures,
      λ p h.
          l.invariant.1 p h ∙ by-step p l.kept.words l.left.words l.c l.invariant.0 (omega arith)
          ∙ ap₂ (λ (s f : List ℕ). strip_by p s (members (at f) 0 1024))
          (ap (λ (b : Bool). cond b (remove l.kept.words l.c) l.kept.words) (sym (h l.c c.is_out.result (omega arith) c.is_out.ensures)) ∙ sym c.without_if-kept.ensures)
          (sym c.without-left.ensures),
    )

pub returns : goal.returns
returns g c =
    let l = c.loop-c in
    λ p h. sym (l.invariant.1 p h ∙ by-end p l.kept.words l.left.words l.c l.invariant.0 (omega arith))
