-- Rows, sequences and the valid prefix at the bytes of a list from i up to `to`, as the code meets them.
use mathlib.Core.Path.{◌≡◌, refl, sym, ap, ◌∙◌}
use mathlib.Core.Bool.{Bool, true, false, cond, ◌&&◌, false≢true, true≢false, and-true}
use mathlib.Core.List.{List, [], ◌∷◌, Memᴰ}
use Prim.Native.Nat.{ℕ, zero, suc, ◌+◌, ◌-◌, ◌≤◌, ◌<◌}
use native.Mathlib.Nat.{suc-sub-suc, sub-zero}
use native.Mathlib.Numerals.{add-one}
use native.Mathlib.Omega.{arith}
use lib.Dec.{eqb, ltb}
use lib.ListN.{length, get_or, take, drop, length-drop, drop_of_length-le}
use lib.Seq.{slice, slice-cons, length-slice, drop-cons, drop-drop, take-nil, length-take-le}
use borrow.Author.Tests.{eq-eqb, ne_eqb, eqb-true, eqb-false}
use Rattle.utf8.specs.Utf8.{Range, table, matches, within, sequence, valid_prefix, ascii, well_formed}
use Rattle.utf8.specs.Rows.{matches-le, sequence-row, sequence-le}
use Rattle.utf8.specs.Laws.{prefix-step, prefix-stop, prefix-le, ascii-whole}

-- the part, taken either way
pub part-slice : (from to : ℕ) (s : List ℕ) → from ≤ to → take (to - from) (drop from s) ≡ slice from to s
part-slice zero to s h = ap (λ (n : ℕ). take n s) (sub-zero to)
part-slice (suc f) zero s h = absurd (omega arith)
part-slice (suc f) (suc t) [] h = take-nil (suc t - suc f)
part-slice (suc f) (suc t) (x ∷ s) h = ap (λ (n : ℕ). take n (drop f s)) (suc-sub-suc t f) ∙ part-slice f t s (omega arith)

pub part-cons : (i to : ℕ) (s : List ℕ) → i < to → to ≤ length s → slice i to s ≡ get_or s i 0 ∷ slice (i + 1) to s
part-cons i to s h fits = slice-cons i to s 0 h fits ∙ ap (λ (n : ℕ). get_or s i 0 ∷ slice n to s) (sym (add-one i))

module _ (r : Range) (s : List ℕ) (i to : ℕ) (fits : to ≤ length s) where
  pub match-past : to ≤ i → matches (r ∷ []) (slice i to s) ≡ false
  unfolding matches
  match-past h = rw (drop_of_length-le (take to s) {i = i} (omega (arith, length-take-le to s fits)))

  pub match-at : i < to → matches (r ∷ []) (slice i to s) ≡ within r (get_or s i 0)
  unfolding matches
  match-at h = rw (slice-cons i to s 0 h fits) (and-true (within r (get_or s i 0)))

  pub match-in : {t : Bool} → t ≡ matches (r ∷ []) (slice i to s) → t ≡ true → i < to
  match-in e h = omega (arith, matches-le (r ∷ []) (slice i to s) (sym e ∙ h), length-slice i to s fits)

-- where the first range is matched, the row is where its rest is, one byte on
match-rest : (r : Range) (row : List Range) (bs : List ℕ) → matches (r ∷ []) bs ≡ true → matches (r ∷ row) bs ≡ matches row (drop 1 bs)
unfolding matches
match-rest r row [] e = absurd (false≢true e)
match-rest r row (b ∷ bs) e = rw (← and-true (within r b), e)

pub match-then : (r : Range) (row : List Range) (i to : ℕ) (s : List ℕ) {t : Bool} → t ≡ matches (r ∷ []) (slice i to s) → t ≡ true
    → matches (r ∷ row) (slice i to s) ≡ matches row (slice (i + 1) to s)
match-then r row i to s e h = match-rest r row (slice i to s) (sym e ∙ h) ∙ ap (matches row) (drop-drop 1 i (take to s))

-- and where it is not, no row is that begins with it
none : (t u : Bool) → (t && true) ≡ false → (t && u) ≡ false
none true u e = absurd (true≢false e)
none false u e = refl

pub match-not : (r : Range) (row : List Range) (bs : List ℕ) {t : Bool} → t ≡ matches (r ∷ []) bs → t ≡ false → matches (r ∷ row) bs ≡ false
unfolding matches
match-not r row [] e h = refl
match-not r row (b ∷ bs) e h = none (within r b) (matches row bs) (sym e ∙ h)

-- ---- the length by the row, row k of the table, in whose first range the first byte lies

row-in : (rows : List (List Range)) (k : ℕ) {r : Range} {row : List Range} → get_or rows k [] ≡ r ∷ row → Memᴰ (r ∷ row) rows
row-in [] k e =
    let z : ◌≡◌ {A = ℕ} 0 1 = cc in
    absurd (omega arith)
row-in (x ∷ rows) zero e = Memᴰ.head (sym e)
row-in (x ∷ rows) (suc k) e = Memᴰ.tail (row-in rows k e)

pub by-row : (k : ℕ) {r : Range} {row : List Range} {a n : ℕ} (bs : List ℕ) {t : Bool} → get_or table k [] ≡ r ∷ row → r.lo ≤ a → a ≤ r.hi
    → t ≡ matches row bs → n ≡ cond t (suc (length row)) 0 → n ≡ sequence (a ∷ bs)
by-row k {r} {row} {a} bs e l h m q =
    q ∙ ap (λ (u : Bool). cond u (suc (length row)) 0) m ∙ sym (sequence-row r row a bs (row-in table k e) l h)

-- ---- the valid prefix from i on, after a sequence of n bytes

module _ (s : List ℕ) (i to : ℕ) (fits : to ≤ length s) where
  pub pass-in : i ≤ to → {n : ℕ} → n ≡ sequence (slice i to s) → i + n ≤ to
  pass-in h e = omega (arith, e, sequence-le (slice i to s), length-slice i to s fits)

  pub pass-step : {n : ℕ} → n ≡ sequence (slice i to s) → (n ≡ 0 → ⊥)
      → i + valid_prefix (slice i to s) ≡ i + n + valid_prefix (slice (i + n) to s)
  pass-step {n} e h = omega (arith, rw (drop-drop n i (take to s)) at (prefix-step (slice i to s) n (sym e) h))

  pub pass-stop : {n : ℕ} → n ≡ sequence (slice i to s) → n ≡ 0 → i + valid_prefix (slice i to s) ≡ i
  pass-stop e h = omega (arith, prefix-stop (slice i to s) (sym e ∙ h))

  pub pass-end : to ≤ i → i + valid_prefix (slice i to s) ≡ i
  pass-end h = omega (arith, prefix-le (slice i to s), length-slice i to s fits)

-- ---- bytes below 80 from i on

-- the test of the byte k, and of those after it
pub ascii-step : (bs : List ℕ) (k : ℕ) → k < length bs → ascii (drop k bs) ≡ (ltb (get_or bs k 0) 0x80 && ascii (drop (k + 1) bs))
unfolding ascii
ascii-step bs k h = rw (add-one k, drop-cons bs k 0 h) refl

pub ascii-end : (bs : List ℕ) (k : ℕ) → length bs ≤ k → ascii (drop k bs) ≡ true
unfolding ascii
ascii-end bs k h = rw (drop_of_length-le bs h) refl

pub ascii-part : (s : List ℕ) (from to : ℕ) → from ≤ to → to ≤ length s → ascii (slice from to s) ≡ true
    → from + valid_prefix (take (to - from) (drop from s)) ≡ to
ascii-part s from to h fits e =
    rw (part-slice from to s h) (omega (arith, ascii-whole (slice from to s) e, length-slice from to s fits))

-- ---- the part is well-formed where its valid prefix ends it

pub whole-part : (s : List ℕ) (from to : ℕ) → from ≤ to → to ≤ length s → {r : ℕ} → r ≡ from + valid_prefix (take (to - from) (drop from s))
    → eqb r to ≡ well_formed (take (to - from) (drop from s))
unfolding well_formed
whole-part s from to h fits {r} e = go (eqb (valid_prefix part) (length part)) refl
  where
    part : List ℕ
    part = take (to - from) (drop from s)

    size : length part ≡ to - from
    size = length-take-le (to - from) (drop from s) (omega (arith, length-drop from s))

    go : (t : Bool) → eqb (valid_prefix part) (length part) ≡ t → eqb r to ≡ t
    go true q = eq-eqb r to (omega (arith, e, size, eqb-true (valid_prefix part) (length part) q))
    go false q = ne_eqb r to (λ p. eqb-false (valid_prefix part) (length part) q (omega (arith, p, e, size)))
