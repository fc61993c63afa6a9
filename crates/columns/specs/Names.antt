-- The names of a table are refused as `names` refuses them, they are numbered in order, and the three that are wanted are found.
use Rattle.std.specs.Prelude.{◌≡◌, Bool, cond, ◌&&◌, leb, drop}
use Rattle.std.proofs.Math.Path.{refl, sym, ap}
use Rattle.std.proofs.Common.{ap₂, ◌∙◌, add-one, length-drop, length-take-le}
use Rattle.std.proofs.Math.Bool.{true, false}
use Rattle.std.proofs.lemmas.Bool.{false≢true}
use mathlib.Core.List.{List, [], ◌∷◌}
use Prim.Native.Nat.{ℕ, zero, suc, ◌+◌, ◌-◌, ◌^◌, ◌<◌}
use native.Mathlib.Omega.{arith}
use Rattle.std.proofs.Math.Dec.{eqb}
use Rattle.std.proofs.Math.ListN.{length}
use borrow.Author.Tests.{eq-eqb, ne_eqb, lt-ltb, le-leb, leb-true, leb-false, eqb-true, eqb-false}
use Rattle.checks.specs.Checks.{first_refusal, or_else, else-none, else-some}
use Rattle.names.specs.Names.{place_good, name_of, name_at, name_checks, check_name, check_row, check_rows, check_names}
use Rattle.names.specs.Table.{Inside, place-inside, row-misplaced, row-placed, Checked, checked, number-of-name}
use Rattle.tables.specs.declared.Tables.{Tables}
use Rattle.rows.specs.declared.Outcome.{Outcome}
use Rattle.rows.specs.Rows.{object_name, cloneable_name, serializable_name, no_tables, noted, with_name, name_row}
use Rattle.rows.specs.Laws.{noted-wanted, noted-other, name-taken}
use Rattle.columns.specs.Columns.{inside, placed_name, name_rows}
use Rattle.columns.specs.Laws.{inside-is, name-inside, name-outside, name-placed}

-- ---- one row

pub inside-length : (bytes : List ℕ) (at len : ℕ) → inside (length bytes) at len ≡ true → length (name_of bytes at len) ≡ len
inside-length bytes at len e = length-take-le len (drop at bytes) (simp length-drop (inside-is (length bytes) at len e).1)

inside-by : (size at len : ℕ) → Inside size at len → inside size at len ≡ true
unfolding inside
inside-by size at len i = rw (le-leb at size i.starts, le-leb len (size - at) i.ends)

name-refusal : (last name : List ℕ) (t : Tables) → (name_row last name t).refusal ≡ check_name last name t.names t.bytes
unfolding name_row
name-refusal last name t = refl

module _ (bytes last : List ℕ) (at len : ℕ) (t : Tables) where
  -- what is refused although it is inside has a bad length
  bad-length : inside (length bytes) at len ≡ true → place_good (length bytes) at len ≡ false → check_name last (name_of bytes at len) t.names t.bytes ≡ 3
  unfolding check_name name_checks first_refusal place_good inside
  bad-length i p = go (leb 1 len) refl (leb len 255) refl p
    where
      n : length (name_of bytes at len) ≡ len
      n = inside-length bytes at len i

      go : (x : Bool) → leb 1 len ≡ x → (y : Bool) → leb len 255 ≡ y → (x && (y && inside (length bytes) at len)) ≡ false
          → check_name last (name_of bytes at len) t.names t.bytes ≡ 3
      go false e y f q = let l = leb-false 1 len e in rw (n, eq-eqb len 0 (omega arith))
      go true e false f q = let l = leb-false len 255 f in rw (n, ne_eqb len 0 (λ z. let m = leb-true 1 len e in omega arith), lt-ltb 255 len l)
      go true e true f q = absurd (false≢true (sym q ∙ i))

  -- A ROW IS REFUSED AS `names` REFUSES IT
  pub row-agrees : (placed_name bytes last at len t).refusal ≡ check_row bytes at len last t.names t.bytes
  row-agrees = go (inside (length bytes) at len) refl (place_good (length bytes) at len) refl
    where
      refused : Outcome → ℕ
      refused o = o.refusal

      go : (x : Bool) → inside (length bytes) at len ≡ x → (y : Bool) → place_good (length bytes) at len ≡ y
          → (placed_name bytes last at len t).refusal ≡ check_row bytes at len last t.names t.bytes
      go false e true f = absurd (false≢true (sym e ∙ inside-by (length bytes) at len (place-inside (length bytes) at len f)))
      go false e false f = ap refused (name-outside bytes last at len t e) ∙ sym (row-misplaced bytes at len last t.names t.bytes f)
      go true e true f =
          ap refused (name-inside bytes last at len t e) ∙ name-refusal last (name_of bytes at len) t ∙ sym (row-placed bytes at len last t.names t.bytes f)
      go true e false f =
          ap refused (name-inside bytes last at len t e) ∙ name-refusal last (name_of bytes at len) t ∙ bad-length e f
          ∙ sym (row-misplaced bytes at len last t.names t.bytes f)

  -- a row that is taken adds its name
  pub row-adds : (placed_name bytes last at len t).refusal ≡ 0 → (placed_name bytes last at len t).tables ≡ with_name (name_of bytes at len) t
  row-adds z =
      let e = name-placed bytes last at len t z in
      let same = name-inside bytes last at len t e in
      ap (λ (o : Outcome). o.tables) (same ∙ name-taken last (name_of bytes at len) t (sym (name-refusal last (name_of bytes at len) t) ∙ sym (ap (λ (o : Outcome). o.refusal) same) ∙ z))

-- ---- all rows

module _ (bytes : List ℕ) (at len : ℕ) (ats lens last : List ℕ) (t : Tables) where
  one : Outcome
  one = placed_name bytes last at len t

  -- what holds of the names by what holds of the first and of the others
  names-go : (P : Outcome → Type 0) → ((one.refusal ≡ 0 → ⊥) → P one)
      → (one.refusal ≡ 0 → P (name_rows bytes ats lens (name_of bytes at len) (with_name (name_of bytes at len) t))) → P (name_rows bytes (at ∷ ats) (len ∷ lens) last t)
  unfolding name_rows one
  names-go P stop more = go (eqb one.refusal 0) refl
    where
      go : (b : Bool) → eqb one.refusal 0 ≡ b → P (cond b (name_rows bytes ats lens (name_of bytes at len) one.tables) one)
      go true e = let z = eqb-true one.refusal 0 e in rw (row-adds bytes last at len t z) (more z)
      go false e = stop (eqb-false one.refusal 0 e)

-- THE NAMES ARE REFUSED AS `names` REFUSES THEM
pub names-agree : (bytes ats lens last : List ℕ) (t : Tables) → (name_rows bytes ats lens last t).refusal ≡ check_rows bytes ats lens last t.names t.bytes
unfolding check_rows name_rows with_name one
names-agree bytes [] lens last t = refl
names-agree bytes (at ∷ ats) [] last t = refl
names-agree bytes (at ∷ ats) (len ∷ lens) last t =
    let name = name_of bytes at len in
    let agrees = row-agrees bytes last at len t in
    let rest = check_rows bytes ats lens name (suc t.names) (t.bytes + len) in
    names-go bytes at len ats lens last t (λ (o : Outcome). o.refusal ≡ or_else (check_row bytes at len last t.names t.bytes) rest)
    (λ n. agrees ∙ sym (else-some (check_row bytes at len last t.names t.bytes) rest (λ z. n (agrees ∙ z))))
    (λ z. names-agree bytes ats lens name (with_name name t)
    ∙ ap₂ (λ (n b : ℕ). check_rows bytes ats lens name n b) (add-one t.names) (ap (λ (b : ℕ). t.bytes + b) (inside-length bytes at len (name-placed bytes last at len t z)))
    ∙ sym (else-none (check_row bytes at len last t.names t.bytes) rest (sym agrees ∙ z)))

-- so the names of a table that is taken are checked
pub names-checked : (bytes ats lens : List ℕ) → length ats ≡ length lens → (name_rows bytes ats lens [] no_tables).refusal ≡ 0 → Checked bytes ats lens
unfolding no_tables check_names
names-checked bytes ats lens e z = checked bytes ats lens (rw (eq-eqb (length ats) (length lens) e) (sym (names-agree bytes ats lens [] no_tables) ∙ z))

-- NAMES ARE COUNTED
pub names-counted : (bytes ats lens last : List ℕ) (t : Tables) → length ats ≡ length lens → (name_rows bytes ats lens last t).refusal ≡ 0
    → (name_rows bytes ats lens last t).tables.names ≡ t.names + length ats
unfolding name_rows with_name one
names-counted bytes [] lens last t e = λ z. omega arith
names-counted bytes (at ∷ ats) [] last t e = absurd (omega arith)
names-counted bytes (at ∷ ats) (len ∷ lens) last t e =
    names-go bytes at len ats lens last t (λ (o : Outcome). o.refusal ≡ 0 → o.tables.names ≡ t.names + suc (length ats))
    (λ n z. absurd (n z))
    (λ _ z. let ih = names-counted bytes ats lens (name_of bytes at len) (with_name (name_of bytes at len) t) (omega arith) z in omega arith)

-- ---- the wanted names

-- the number of the last name that is the wanted one; else what was known
unfoldable pub noted_in : List ℕ → List ℕ → List ℕ → List ℕ → ℕ → ℕ → ℕ
noted_in wanted bytes [] lens number known = known
noted_in wanted bytes (at ∷ ats) [] number known = known
noted_in wanted bytes (at ∷ ats) (len ∷ lens) number known = noted_in wanted bytes ats lens (number + 1) (noted (name_of bytes at len) wanted number known)

pub names-noted : (bytes ats lens last : List ℕ) (t : Tables) → (name_rows bytes ats lens last t).refusal ≡ 0
    → ((name_rows bytes ats lens last t).tables.object ≡ noted_in object_name bytes ats lens t.names t.object)
    × ((name_rows bytes ats lens last t).tables.cloneable ≡ noted_in cloneable_name bytes ats lens t.names t.cloneable)
    × ((name_rows bytes ats lens last t).tables.serializable ≡ noted_in serializable_name bytes ats lens t.names t.serializable)
unfolding name_rows with_name noted_in one
names-noted bytes [] lens last t = λ z. (refl, refl, refl)
names-noted bytes (at ∷ ats) [] last t = λ z. (refl, refl, refl)
names-noted bytes (at ∷ ats) (len ∷ lens) last t =
    let name = name_of bytes at len in
    names-go bytes at len ats lens last t (λ (o : Outcome). o.refusal ≡ 0
    → (o.tables.object ≡ noted_in object_name bytes ats lens (t.names + 1) (noted name object_name t.names t.object))
    × (o.tables.cloneable ≡ noted_in cloneable_name bytes ats lens (t.names + 1) (noted name cloneable_name t.names t.cloneable))
    × (o.tables.serializable ≡ noted_in serializable_name bytes ats lens (t.names + 1) (noted name serializable_name t.names t.serializable)))
    (λ n z. absurd (n z))
    (λ _ z. names-noted bytes ats lens name (with_name name t) z)

module _ (wanted bytes : List ℕ) where
  -- where no name is the wanted one, nothing is noted
  pub noted-none : (ats lens : List ℕ) (number known : ℕ) → ((i : ℕ) → i < length ats → name_at bytes ats lens i ≡ wanted → ⊥)
      → noted_in wanted bytes ats lens number known ≡ known
  unfolding noted_in
  noted-none [] lens number known h = refl
  noted-none (at ∷ ats) [] number known h = refl
  noted-none (at ∷ ats) (len ∷ lens) number known h =
      noted-none ats lens (number + 1) (noted (name_of bytes at len) wanted number known) (λ i k. h (suc i) (omega arith))
      ∙ noted-other (name_of bytes at len) wanted number known (h 0 (omega arith))

  -- where name i is, and none after it, its number is
  pub noted-one : (ats lens : List ℕ) (number known i : ℕ) → length ats ≡ length lens → i < length ats → name_at bytes ats lens i ≡ wanted
      → ((j : ℕ) → i < j → j < length ats → name_at bytes ats lens j ≡ wanted → ⊥) → noted_in wanted bytes ats lens number known ≡ number + i
  unfolding noted_in
  noted-one [] lens number known i e h w n = absurd (omega arith)
  noted-one (at ∷ ats) [] number known i e h w n = absurd (omega arith)
  noted-one (at ∷ ats) (len ∷ lens) number known zero e h w n =
      noted-none ats lens (number + 1) (noted (name_of bytes at len) wanted number known) (λ j k. n (suc j) (omega arith) (omega arith))
      ∙ ap (λ (name : List ℕ). noted name wanted number known) w ∙ noted-wanted wanted number known ∙ (let z : number ≡ number + 0 = omega arith in z)
  noted-one (at ∷ ats) (len ∷ lens) number known (suc i) e h w n =
      noted-one ats lens (number + 1) (noted (name_of bytes at len) wanted number known) i (omega arith) (omega arith) w (λ j a b. n (suc j) (omega arith) (omega arith))
      ∙ (let z : number + 1 + i ≡ number + suc i = omega arith in z)

-- OBJECT IS FOUND BY NAME: its number is the place where its bytes stand, all ones where they stand nowhere
module _ (bytes ats lens : List ℕ) (e : length ats ≡ length lens) (z : (name_rows bytes ats lens [] no_tables).refusal ≡ 0) where
  pub object-found : (i : ℕ) → i < length ats → name_at bytes ats lens i ≡ object_name → (name_rows bytes ats lens [] no_tables).tables.object ≡ i
  unfolding no_tables
  object-found i h w =
      (names-noted bytes ats lens [] no_tables z).0
      ∙ noted-one object_name bytes ats lens 0 (2 ^ 64 - 1) i e h w
      (λ j a b v. let same = number-of-name bytes ats lens (names-checked bytes ats lens e z) i j h b (w ∙ sym v) in omega arith)
      ∙ (let s : 0 + i ≡ i = omega arith in s)

  pub object-absent : ((i : ℕ) → i < length ats → name_at bytes ats lens i ≡ object_name → ⊥) → (name_rows bytes ats lens [] no_tables).tables.object ≡ 2 ^ 64 - 1
  unfolding no_tables
  object-absent n = (names-noted bytes ats lens [] no_tables z).0 ∙ noted-none object_name bytes ats lens 0 (2 ^ 64 - 1) n
