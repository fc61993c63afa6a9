-- `is_full` meets its contract.
use mathlib.Core.Path.{◌≡◌, refl, sym}
use mathlib.Core.Bool.{Bool, true, false}
use Prim.Native.Nat.{ℕ, ◌+◌, ◌-◌, ◌≤◌}
use native.Mathlib.Omega.{arith}
use borrow.Author.Tests.{le-leb, lt-leb, lt-ltb, le-ltb, ltb-true, ltb-false}
use lib.Dec.{ltb}
use Rattle.names.proofs.is_full.Goals as goal

-- the sum is not made: it could overflow
moved : (total length : ℕ) → total ≤ 24576 → ltb (24576 - total) length ≡ ltb 24576 (total + length)
moved total length h = go (ltb (24576 - total) length) refl
  where
    go : (t : Bool) → ltb (24576 - total) length ≡ t → t ≡ ltb 24576 (total + length)
    go true e = sym (lt-ltb 24576 (total + length) (let l = ltb-true (24576 - total) length e in omega arith))
    go false e = sym (le-ltb 24576 (total + length) (let l = ltb-false (24576 - total) length e in omega arith))

pub returns-then-count-ge-NAMES : goal.returns-then-count-ge-NAMES
returns-then-count-ge-NAMES c = simp (le-leb 1024 c.args.count (omega arith))

pub returns-then-total-gt-ALL_BYTES : goal.returns-then-total-gt-ALL_BYTES
returns-then-total-gt-ALL_BYTES c =
    let a = c.args in
    simp (lt-leb 1024 a.count (omega arith), lt-ltb 24576 (a.total + a.length) (omega arith))

pub returns : goal.returns
returns c =
    let a = c.args in
    simp (lt-leb 1024 a.count (omega arith)) (moved a.total a.length (omega arith))
