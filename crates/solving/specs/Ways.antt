-- WHAT AN ANSWER OF resolve_state IS, whatever the state: it is concrete, it is assignable to every upper bound or both are references,
-- and it comes from the first way that answers; a cause that a way names holds.
use Rattle.std.specs.Prelude.{◌≡◌, Bool, true, false, ◌⊎◌}
use mathlib.Core.List.Memᴰ
use mathlib.Core.List.{List, ◌∷◌, ◌++◌, Memᴰ}
use Rattle.ty.specs.Types.{ArgType, is_reference}
use Rattle.lattice.specs.Lattice.{World, is_assignable}
use Rattle.solving.specs.Solving.{Cause, Tried, Answer, Because}

-- assignable, or both are references: what a cast can mend
abbrev pub Fitting : World → ArgType → ArgType → Type 0
Fitting w t u = (is_assignable w t u ≡ true) ⊎ ((is_reference t ≡ true) × (is_reference u ≡ true))

-- THE FIRST THAT FAILS: what is named is of the kind asked, fails, and all before it pass
abbrev pub First : (ArgType → Bool) → List ArgType → ArgType → Type 0
First test ts t = (before : List ArgType) × (after : List ArgType) × (ts ≡ before ++ (t ∷ after)) × (test t ≡ false) × ((u : ArgType) → Memᴰ u before → test u ≡ true)

-- ---- the first way that answers

-- the ways before it give causes, and it answers
pub data FirstAnswer (t : ArgType) : List Tried → Type 0 where
  here : {rest : List Tried} → FirstAnswer t (Answer t ∷ rest)
  later : {c : Cause} {rest : List Tried} → FirstAnswer t rest → FirstAnswer t (Because c ∷ rest)
