-- `clean_ends` meets its contract: two numbers that add up to 0 are 0, and the tests of the last two bytes are as stated.
use borrow.Author.Tests.{ltb-true, le-ltb}
use mathlib.Core.Path.{sym, ◌∙◌}
use mathlib.Core.Bool.{false≢true}
use native.Mathlib.Omega.{arith}
use Prim.Native.Nat.{◌+◌}
use lib.ListN.{get_or}
use Rattle.utf8.specs.Seams.{fault-le}
use Rattle.utf8.proofs.clean_ends.Goals as goal

pub overflow_add-faults_of : goal.overflow_add-faults_of
overflow_add-faults_of c =
    let a = c.args in
    let first = get_or a.s.now a.from 0 in
    omega (arith, c.faults_of.ensures, fault-le 0 0 first, c.faults_of-2.ensures, fault-le 0 first (get_or a.s.now (a.from + 1) 0))

pub returns-then-s-to-lt224 : goal.returns-then-s-to-lt224
returns-then-s-to-lt224 c h =
    let z = c.if-faults_of-eq0.true in
    (omega (arith, c.faults_of.ensures, z), omega (arith, c.faults_of-2.ensures, z), omega arith, ltb-true _ _ h)

pub returns-else-s-to-lt224 : goal.returns-else-s-to-lt224
returns-else-s-to-lt224 c h = absurd (false≢true (sym (le-ltb _ _ c.if-s-to-lt224.false) ∙ h))

pub returns-else-faults_of-eq0 : goal.returns-else-faults_of-eq0
returns-else-faults_of-eq0 c h = absurd (false≢true h)
