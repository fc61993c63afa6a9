-- `keep_members` meets its contract. Invariant: what was found is what is kept of the members from i on.
use mathlib.Core.Path.{◌≡◌, ap, ◌∙◌}
use Prim.Native.Nat.{ℕ, ◌/◌, ◌%◌, ◌^◌}
use native.Mathlib.Omega.{arith}
use mathlib.Core.Bool.{cond}
use lib.Dec.{eqb}
use Rattle.ty.specs.Words.{list_of}
use Rattle.ty.specs.Round.{list_load}
use Rattle.lattice.specs.Unions.{kept}
use Rattle.joins.specs.Joins.{with_first}
use Rattle.joins.specs.Lists.{kept_from, kept-start, kept-step, kept-lt, kept-all, kept-fits}
use Rattle.joins.proofs.keep_members.Goals as goal

pub loop-i-init : goal.loop-i-init
loop-i-init c = (omega arith, kept-start c.args.load c.args.set)

pub overflow_shr-set : goal.overflow_shr-set
overflow_shr-set c = let e = c.digit-c.ensures in omega arith

pub keep-found-requires : goal.keep-found-requires
keep-found-requires c =
    let a = c.args in
    let l = c.loop-i in
    let e = c.digit-c.ensures in
    let k = kept-lt a.load a.set l.i in
    (omega arith, omega arith)

pub loop-i-preserved : goal.loop-i-preserved
loop-i-preserved c =
    let a = c.args in
    let l = c.loop-i in
    let k = c.keep-found.ensures in
    let d = c.digit-c in (
      omega arith,
      k
          ∙ ap (λ (x : ℕ). cond (eqb (a.set / 2 ^ d.result % 2) 1) (with_first d.result x) x) l.invariant.1
          ∙ kept-step a.load a.set l.i d.result (omega arith) (omega arith) (omega arith) d.ensures,
    )

pub returns : goal.returns
returns c =
    let a = c.args in
    let l = c.loop-i in
    let e : l.found ≡ list_load (kept a.set (list_of a.load)) = l.invariant.1 ∙ ap (kept_from a.load a.set) (let z : l.i ≡ 0 = omega arith in z) ∙ kept-all a.load a.set in
    (e, omega (arith, kept-fits a.load a.set c.requires))
