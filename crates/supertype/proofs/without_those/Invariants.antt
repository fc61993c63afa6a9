-- `without_those` meets its contract: what is left to look at are the members of `left`, and c is the least of them.
use Rattle.std.specs.Prelude.{◌≡◌, Bool, ℕ, ◌<◌, length}
use Rattle.sets.specs.Sets.{at, members, first}
use Rattle.supertype.specs.Stripped.{strip_by}
use Rattle.supertype.proofs.without_those.Given as goal

abbrev pub invariant-loop-c : goal.invariant-loop-c
invariant-loop-c g l = (l.c ≡ first (at l.left.words) 1024)
    × ((p : ℕ → Bool) → ((c : ℕ) (b : Bool) → c < 1024 → g.F.Fn.post l.is_out (c, tt) b → b ≡ p c)
    → strip_by p l.initial.kept.words (members (at l.initial.left.words) 0 1024) ≡ strip_by p l.kept.words (members (at l.left.words) 0 1024))

abbrev pub decreases-loop-c : goal.decreases-loop-c
decreases-loop-c g l = length (members (at l.left.words) 0 1024)
