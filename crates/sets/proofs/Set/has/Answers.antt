-- `Set::has` meets its contract: inside it is the digit that `member` reads, and a number past the end is no member.
use borrow.Author.Rules.{rules}
use mathlib.Core.Path.{sym}
use native.Mathlib.Omega.{arith}
use Rattle.sets.specs.Sets.{bit, at, member}
use Rattle.sets.specs.Laws.{member-past}
use Rattle.sets.proofs.Good.{array-length}
use Rattle.sets.proofs.Set.has.Goals as goal

pub returns-then-i-lt1024 : goal.returns-then-i-lt1024
unfolding member at bit
returns-then-i-lt1024 c = search rules

pub returns-else-i-lt1024 : goal.returns-else-i-lt1024
returns-else-i-lt1024 c =
    let l = array-length 16 c.args.self.words _ c.well_formed.0.1.1.0 in
    sym (member-past c.args.self.words c.args.i (omega arith))
