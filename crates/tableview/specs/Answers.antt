-- What is answered about classes and types over a table, in the words of its rows: each answer, exactly when it is given. Assumes nothing of
-- cycles and of parents of Object.
use Rattle.std.specs.Prelude.{◌≡◌, ◌⊎◌, ℕ, ◌%◌, ◌<◌, length}
use Rattle.std.proofs.Math.Bool.{true, false}
use mathlib.Core.List.Memᴰ
use mathlib.Core.List.{List, ◌∷◌, ◌++◌, Memᴰ}
use Rattle.std.proofs.Math.Option.{Option, some, none}
use Rattle.tableview.specs.TableRows.{Record, Rows, interface_flag, final_flag}
use Rattle.tableview.specs.Paths.{Way, IsObject}

-- ---- words

-- y is Object, or a way leads from x to it; none of no steps leads to x itself
abbrev pub Ancestor : Rows → ℕ → ℕ → Type 0
Ancestor t x y = IsObject t y ⊎ ((n : ℕ) × Way t n x y)

-- some row is of class c
abbrev pub Recorded : Rows → ℕ → Type 0
Recorded t c = (r : Record) × Memᴰ r t.records × (r.class ≡ c)

-- every class that a way leads to, x itself among them, has a row
abbrev pub Whole : Rows → ℕ → Type 0
Whole t x = (c n : ℕ) → Way t n x c → Recorded t c

-- some class that a way leads to has none
abbrev pub Lacking : Rows → ℕ → Type 0
Lacking t x = (c : ℕ) × (n : ℕ) × Way t n x c × (Recorded t c → ⊥)

-- an ancestor one way and not the other
abbrev pub StrictlyBelow : Rows → ℕ → ℕ → Type 0
StrictlyBelow t d c = Ancestor t d c × (Ancestor t c d → ⊥)

-- r is the last row of class c with flag 1
pub record LastDeclared (c : ℕ) (rs : List Record) (r : Record) : Type 0 where
  pub before : List Record
  pub after : List Record
  pub stands : rs ≡ before ++ r ∷ after
  pub class-is : r.class ≡ c
  pub flagged : r.flags % 2 ≡ 1
  pub last : (s : Record) → Memᴰ s after → s.class ≡ c → s.flags % 2 ≡ 1 → ⊥

-- two declared classes may be cast to each other: both interfaces, or one of them and the other not final
abbrev pub Castable : ℕ → ℕ → Type 0
Castable f e =
    ((interface_flag f ≡ true) × (interface_flag e ≡ true))
    ⊎ (((interface_flag f ≡ true) × (final_flag e ≡ false)) ⊎ ((final_flag f ≡ false) × (interface_flag e ≡ true)))

-- ---- the last row with flag 1

-- none: no row of c has flag 1; else the flags of the last that has it
abbrev pub Told : ℕ → List Record → Option ℕ → Type 0
Told c rs none = (r : Record) → Memᴰ r rs → r.class ≡ c → r.flags % 2 ≡ 1 → ⊥
Told c rs (some f) = (r : Record) × LastDeclared c rs r × (r.flags ≡ f)

-- the last rows with flag 1 of both allow it; a class without one allows nothing
abbrev pub ByFacts : Rows → ℕ → ℕ → Type 0
ByFacts t s e = (p : Record) × (q : Record) × LastDeclared s t.records p × LastDeclared e t.records q × Castable p.flags q.flags

-- ---- the least common supertype

-- c is a common ancestor, and no common ancestor stands strictly below it
pub record LeastCommon (t : Rows) (left right c : ℕ) : Type 0 where
  pub class-in : c < length t.names
  pub left-up : Ancestor t left c
  pub right-up : Ancestor t right c
  pub none-below : (d : ℕ) → Ancestor t left d → Ancestor t right d → StrictlyBelow t d c → ⊥
