-- What the contracts of this crate cite beside the view: the cast test on the marks, and what a walk tells.
use Rattle.std.specs.Prelude.{◌≡◌, Bool, false, cond, ◌&&◌, List, ℕ, Option, Some, None}
use Rattle.sets.specs.Sets.{member}
use Rattle.view.specs.View.{View, reached, reach, steps, cast_by_facts}
use Rattle.tables.specs.Table.{mark}

-- the cast test by the marks of two classes
unfoldable pub cast_marked : List ℕ → ℕ → ℕ → Bool
cast_marked marks source target =
    (member (mark marks 1) source && member (mark marks 1) target)
    && cast_by_facts (member (mark marks 2) source) (member (mark marks 3) source) (member (mark marks 2) target) (member (mark marks 3) target)

-- ---- what a walk from x towards y tells

-- the level of y, where it is reached
unfoldable pub level_of : View → ℕ → ℕ → Option ℕ
level_of v x y = cond (reach v x y) (Some (steps v x y)) None

pub record Walked (v : View) (x y : ℕ) (level : Option ℕ) (seen : List ℕ) : Type 0 where
  -- the level of y, or that it is not reached; then all that is reached
  pub at-level : level ≡ level_of v x y
  pub has-seen : reach v x y ≡ false → seen ≡ reached v x
