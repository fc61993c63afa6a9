-- Names as places in a slice of bytes: name i stands at the i-th of one column and is as long as the i-th of another says.
-- What a place must be, the order of names, their checks, and the number of a name.
use Rattle.std.specs.Prelude.{Bool, cond, not, ◌&&◌, ◌||◌, List, [], ◌∷◌, ℕ, zero, suc, ◌+◌, ◌-◌, eqb, leb, ltb, length, get_or, take, drop, Result, Ok, Err, ◌≡◌}
use Rattle.std.proofs.Common.{sym, ap}
use Rattle.std.proofs.Math.Option.{Option, some, none}
use Rattle.order.specs.Compare.{is_less, is_equal, compare_lists}
use Rattle.utf8.specs.Utf8.{well_formed}
use Rattle.refusals.specs.declared.Refusal.{Refusal}
use Rattle.refusals.specs.Numbers.{number, number-some, number-injective}
use Rattle.checks.specs.Checks.{Check, check, first_refusal, or_else}

-- ---- places

-- 1 to 255 bytes, all inside the slice; the difference does not overflow where the sum would
unfoldable pub place_good : ℕ → ℕ → ℕ → Bool
place_good size at len = leb 1 len && (leb len 255 && (leb at size && leb len (size - at)))

abbrev pub name_of : List ℕ → ℕ → ℕ → List ℕ
name_of bytes at len = take len (drop at bytes)

-- name i
abbrev pub name_at : List ℕ → List ℕ → List ℕ → ℕ → List ℕ
name_at bytes ats lens i = name_of bytes (get_or ats i 0) (get_or lens i 0)

-- ---- the checks of a name

-- what is refused of a name, in this order: LENGTH, UTF8, NAMEORDER, ROOM
-- `last`, `count`, `total`: the name before it, how many there were, and how many bytes they have
unfoldable pub name_checks : List ℕ → List ℕ → ℕ → ℕ → List Check
name_checks last name count total =
    check (eqb (length name) 0 || ltb 255 (length name)) 3
    ∷ check (not (well_formed name)) 10
    ∷ check (ltb 0 count && not (is_less (compare_lists last name))) 5
    ∷ check (leb 1024 count || ltb 24576 (total + length name)) 8
    ∷ []

unfoldable pub check_name : List ℕ → List ℕ → ℕ → ℕ → ℕ
check_name last name count total = first_refusal (name_checks last name count total)

-- ---- the checks of a table

-- one row: its place, then its name
unfoldable pub check_row : List ℕ → ℕ → ℕ → List ℕ → ℕ → ℕ → ℕ
check_row bytes at len last count total =
    first_refusal (check (not (place_good (length bytes) at len)) 3 ∷ name_checks last (name_of bytes at len) count total)

-- row by row
unfoldable pub check_rows : List ℕ → List ℕ → List ℕ → List ℕ → ℕ → ℕ → ℕ
check_rows bytes [] lens last count total = 0
check_rows bytes (at ∷ ats) [] last count total = 0
check_rows bytes (at ∷ ats) (len ∷ lens) last count total =
    or_else (check_row bytes at len last count total) (check_rows bytes ats lens (name_of bytes at len) (suc count) (total + len))

-- columns of unequal length first
unfoldable pub check_names : List ℕ → List ℕ → List ℕ → ℕ
check_names bytes ats lens = cond (eqb (length ats) (length lens)) (check_rows bytes ats lens [] 0 0) 3

-- ---- the number of a name

abbrev pub next : Option ℕ → Option ℕ
next none = none
next (some i) = some (suc i)

-- the first place whose name has the key's bytes
unfoldable pub lookup : List ℕ → List ℕ → List ℕ → List ℕ → Option ℕ
lookup bytes [] lens key = none
lookup bytes (at ∷ ats) [] key = none
lookup bytes (at ∷ ats) (len ∷ lens) key =
    cond (is_equal (compare_lists (name_of bytes at len) key)) (some 0) (next (lookup bytes ats lens key))

-- the class number of a name, or a refusal and 0
pub record LookedUp : Type 0 where
  pub refusal : ℕ
  pub class_no : ℕ

-- what comes back of a lookup, so written
abbrev pub looked : Result ℕ Refusal → LookedUp
looked (Ok i) = record { refusal = 0; class_no = i }
looked (Err r) = record { refusal = number r; class_no = 0 }

pub looked-injective : (x y : Result ℕ Refusal) → looked x ≡ looked y → x ≡ y
looked-injective (Ok i) (Ok j) e = ap (λ (l : LookedUp). Ok l.class_no) e
looked-injective (Ok i) (Err s) e = absurd (number-some s (sym (ap (λ (l : LookedUp). l.refusal) e)))
looked-injective (Err r) (Ok j) e = absurd (number-some r (ap (λ (l : LookedUp). l.refusal) e))
looked-injective (Err r) (Err s) e = ap Err (number-injective r s (ap (λ (l : LookedUp). l.refusal) e))

-- Absent (23), or the number
abbrev pub found : Option ℕ → LookedUp
found none = record { refusal = 23; class_no = 0 }
found (some i) = record { refusal = 0; class_no = i }

abbrev pub refused_or : ℕ → LookedUp → LookedUp
refused_or zero r = r
refused_or (suc k) r = record { refusal = suc k; class_no = 0 }

-- the table's refusal; else what the search says
unfoldable pub look_up : List ℕ → List ℕ → List ℕ → List ℕ → LookedUp
look_up bytes ats lens key = refused_or (check_names bytes ats lens) (found (lookup bytes ats lens key))
