-- `type_of_rank` meets its contract: the parts of the rank make the word.
use mathlib.Core.Path.{sym}
use Prim.Native.Nat.{◌-◌, ◌%◌, ◌^◌}
use native.Mathlib.Omega.{arith}
use Rattle.keys.specs.Parts.{known-word, unknown-word, members-lt}
use Rattle.keys.proofs.type_of_rank.Goals as goal

pub returns-then-r-lt-KNOWN : goal.returns-then-r-lt-KNOWN
returns-then-r-lt-KNOWN c = sym (known-word c.args.r (omega arith))

pub overflow_add-unknown-2 : goal.overflow_add-unknown-2
overflow_add-unknown-2 c =
    let r = c.args.r in
    let l = c.members_load-load.ensures in
    omega (arith, members-lt ((r - 2 ^ 19) % 2 ^ 44))

pub returns : goal.returns
returns c =
    let r = c.args.r in
    let l = c.members_load-load.ensures in
    omega (arith, unknown-word r (omega arith))
