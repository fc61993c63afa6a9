-- `start_of` meets its contract.
use mathlib.Core.Path.{◌≡◌, sym, subst}
use mathlib.Core.Bool.{true}
use Prim.Native.Nat.{ℕ}
use native.Mathlib.Omega.{arith}
use Rattle.sets.specs.Sets.{member}
use Rattle.sets.specs.Laws.{lowest-member}
use Rattle.supertype.specs.Stripped.{starts-least, starts-with}
use Rattle.supertype.proofs.start_of.Goals as goal

pub returns-then-d-lt1024 : goal.returns-then-d-lt1024
returns-then-d-lt1024 c =
    let l = c.lowest-d in
    starts-with c.args.others.words l.result
    (c.requires.1 l.result (subst (λ (x : ℕ). member c.args.met.words x ≡ true) (sym l.ensures) (lowest-member c.args.met.words 1024 (let e = l.ensures in let h = c.if-d-lt1024.true in omega arith))))
    c.if-d-lt1024.true

pub returns : goal.returns
returns c = starts-least c.args.others.words c.lowest.result c.lowest.ensures
