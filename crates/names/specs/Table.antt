-- What the checks mean: a table is accepted exactly if its columns are of one length, its names few, short, inside the
-- slice, well-formed and rising. The order of numbers is then the order of names.
use Rattle.std.specs.Prelude.{◌≡◌, refl, Bool, true, false, cond, not, ◌&&◌, ◌||◌, List, [], ◌∷◌, ℕ, zero, suc, ◌+◌, ◌-◌, ◌≤◌, ◌<◌, eqb, leb, ltb, length, get_or, take, drop}
use Rattle.std.proofs.Common.{sym, ap, ◌∙◌, ⊎_elim, arith, eq-or-lt_of_le, length-drop, length-take-le, eq-eqb, ne_eqb, lt-ltb, le-ltb, le-leb, eqb-true, ltb-false, leb-true, leb-false}
use Rattle.std.proofs.lemmas.Bool.{false≢true, lt-leb, not-true, not-false}
use Rattle.order.specs.Truth.{both}
use Rattle.order.specs.Laws.{lists-same, lists-swap, lists-trans, numbers-by, equal-numbers}
use Rattle.order.specs.Compare.{compare_numbers, compare_lists, flip, is_less}
use Rattle.std.specs.declared.cmp.Ordering.{Ordering}
use Rattle.std.specs.declared.cmp.Ordering.TheVariants.{Less, Equal, Greater}
use Rattle.utf8.specs.Utf8.{well_formed}
use Rattle.checks.specs.Checks.{check, first_refusal, quiet, free, else-zero, first-none}
use Rattle.names.specs.Names.{place_good, name_of, name_at, name_checks, check_name, check_row, check_rows, check_names}

-- ---- a place

-- the bytes lie inside the slice, and are 1 to 255
pub record Inside (size at len : ℕ) : Type 0 where
  pub least : 1 ≤ len
  pub most : len ≤ 255
  pub starts : at ≤ size
  pub ends : len ≤ size - at

pub place-inside : (size at len : ℕ) → place_good size at len ≡ true → Inside size at len
unfolding place_good
place-inside size at len h =
    let a = both (leb 1 len) (leb len 255 && (leb at size && leb len (size - at))) h in
    let b = both (leb len 255) (leb at size && leb len (size - at)) a.1 in
    let d = both (leb at size) (leb len (size - at)) b.1 in
    record {
      least = leb-true 1 len a.0;
      most = leb-true len 255 b.0;
      starts = leb-true at size d.0;
      ends = leb-true len (size - at) d.1;
    }

pub inside-place : (size at len : ℕ) → Inside size at len → place_good size at len ≡ true
unfolding place_good
inside-place size at len i =
    rw (le-leb 1 len i.least, le-leb len 255 i.most, le-leb at size i.starts, le-leb len (size - at) i.ends)

pub name-length : (bytes : List ℕ) (at len : ℕ) → Inside (length bytes) at len → length (name_of bytes at len) ≡ len
name-length bytes at len i = length-take-le len (drop at bytes) (simp length-drop i.ends)

-- the bytes from `at` up to `at + len`
pub part-is : (bytes : List ℕ) (at len : ℕ) → take (at + len - at) (drop at bytes) ≡ name_of bytes at len
part-is bytes at len = ap (λ (n : ℕ). take n (drop at bytes)) (let e : at + len - at ≡ len = omega arith in e)

-- ---- a row

module _ (bytes : List ℕ) (at len : ℕ) (last : List ℕ) (count total : ℕ) where
  pub row-misplaced : place_good (length bytes) at len ≡ false → check_row bytes at len last count total ≡ 3
  unfolding check_row first_refusal
  row-misplaced h = rw h

  -- past the place, a row is refused as its name is
  pub row-placed : place_good (length bytes) at len ≡ true → check_row bytes at len last count total ≡ check_name last (name_of bytes at len) count total
  unfolding check_row check_name first_refusal
  row-placed h = rw h

is-less : (o : Ordering) → is_less o ≡ true → o ≡ Less
is-less Less h = refl
is-less Equal h = absurd (false≢true h)
is-less Greater h = absurd (false≢true h)

neither : (a b : Bool) → not (a || b) ≡ true → (a ≡ false) × (b ≡ false)
neither true b h = absurd (false≢true h)
neither false true h = absurd (false≢true h)
neither false false h = (refl, refl)

not-both : (a b : Bool) → not (a && not b) ≡ true → a ≡ true → b ≡ true
not-both true true h e = refl
not-both true false h e = absurd (false≢true h)
not-both false b h e = absurd (false≢true e)

-- what a row must be, after `count` names of `total` bytes
pub record GoodRow (bytes : List ℕ) (at len : ℕ) (last : List ℕ) (count total : ℕ) : Type 0 where
  pub inside : Inside (length bytes) at len
  pub formed : well_formed (name_of bytes at len) ≡ true
  pub above : 0 < count → compare_lists last (name_of bytes at len) ≡ Less
  pub few : count < 1024
  pub short : total + len ≤ 24576

pub row-checked : (bytes : List ℕ) (at len : ℕ) (last : List ℕ) (count total : ℕ)
    → check_row bytes at len last count total ≡ 0 → GoodRow bytes at len last count total
unfolding check_row name_checks quiet free
row-checked bytes at len last count total h =
    let place = place_good (length bytes) at len in
    let name = name_of bytes at len in
    let sized = eqb (length name) 0 || ltb 255 (length name) in
    let low = ltb 0 count && not (is_less (compare_lists last name)) in
    let full = leb 1024 count || ltb 24576 (total + length name) in
    let q =
    (first-none (check (not place) 3 ∷ check sized 3 ∷ check (not (well_formed name)) 10 ∷ check low 5 ∷ check full 8 ∷ []) refl).0 h in
    let a = both (not (not place)) (not sized && (not (not (well_formed name)) && (not low && (not full && true)))) q in
    let b = both (not sized) (not (not (well_formed name)) && (not low && (not full && true))) a.1 in
    let d = both (not (not (well_formed name))) (not low && (not full && true)) b.1 in
    let e = both (not low) (not full && true) d.1 in
    let f = neither (leb 1024 count) (ltb 24576 (total + length name)) (both (not full) true e.1).0 in
    let i = place-inside (length bytes) at len (not-false place (not-true (not place) a.0)) in
    let n = name-length bytes at len i in
    record {
      inside = i;
      formed = not-false (well_formed name) (not-true (not (well_formed name)) d.0);
      above = λ z. is-less (compare_lists last name) (not-both (ltb 0 count) (is_less (compare_lists last name)) e.0 (lt-ltb 0 count z));
      few = leb-false 1024 count f.0;
      short = let s = ltb-false 24576 (total + length name) f.1 in omega arith;
    }

not-low : (last name : List ℕ) (count : ℕ) → (0 < count → compare_lists last name ≡ Less)
    → (ltb 0 count && not (is_less (compare_lists last name))) ≡ false
not-low last name zero a = refl
not-low last name (suc n) a = rw (lt-ltb 0 (suc n) (omega arith), a (omega arith))

pub row-accepted : (bytes : List ℕ) (at len : ℕ) (last : List ℕ) (count total : ℕ)
    → GoodRow bytes at len last count total → check_row bytes at len last count total ≡ 0
unfolding check_row name_checks first_refusal
row-accepted bytes at len last count total g =
    let i = g.inside in
    let name = name_of bytes at len in
    let n = name-length bytes at len i in
    let least = i.least in
    let most = i.most in
    let short = g.short in
    rw (
      inside-place (length bytes) at len i,
      ne_eqb (length name) 0 (λ e. omega arith),
      le-ltb 255 (length name) (omega arith),
      g.formed,
      not-low last name count g.above,
      lt-leb 1024 count g.few,
      le-ltb 24576 (total + length name) (omega arith),
    )

-- ---- a table

-- the bytes of all names
unfoldable pub sum : List ℕ → ℕ
sum [] = 0
sum (x ∷ xs) = x + sum xs

-- what a table must be
pub record Checked (bytes ats lens : List ℕ) : Type 0 where
  pub columns : length ats ≡ length lens
  pub few : length ats ≤ 1024
  pub short : sum lens ≤ 24576
  pub inside : (i : ℕ) → i < length ats → Inside (length bytes) (get_or ats i 0) (get_or lens i 0)
  pub formed : (i : ℕ) → i < length ats → well_formed (name_at bytes ats lens i) ≡ true
  pub rising : (i : ℕ) → suc i < length ats → compare_lists (name_at bytes ats lens i) (name_at bytes ats lens (suc i)) ≡ Less

-- the same of the rows that are left, after `count` names of `total` bytes
record Rest (bytes ats lens last : List ℕ) (count total : ℕ) : Type 0 where
  pub few : count ≤ 1024 → count + length ats ≤ 1024
  pub short : total ≤ 24576 → total + sum lens ≤ 24576
  pub inside : (i : ℕ) → i < length ats → Inside (length bytes) (get_or ats i 0) (get_or lens i 0)
  pub formed : (i : ℕ) → i < length ats → well_formed (name_at bytes ats lens i) ≡ true
  pub above : 0 < count → 0 < length ats → compare_lists last (name_at bytes ats lens 0) ≡ Less
  pub rising : (i : ℕ) → suc i < length ats → compare_lists (name_at bytes ats lens i) (name_at bytes ats lens (suc i)) ≡ Less

rest-more : (bytes : List ℕ) (at len : ℕ) (ats lens last : List ℕ) (count total : ℕ)
    → GoodRow bytes at len last count total → Rest bytes ats lens (name_of bytes at len) (suc count) (total + len)
    → Rest bytes (at ∷ ats) (len ∷ lens) last count total
unfolding sum
rest-more bytes at len ats lens last count total g r =
    record {
      few = λ h. let k = r.few g.few in omega arith;
      short = λ h. let k = r.short g.short in omega arith;
      inside = inside;
      formed = formed;
      above = λ z h. g.above z;
      rising = rising;
    }
  where
    inside : (i : ℕ) → i < suc (length ats) → Inside (length bytes) (get_or (at ∷ ats) i 0) (get_or (len ∷ lens) i 0)
    inside zero h = g.inside
    inside (suc i) h = r.inside i (omega arith)

    formed : (i : ℕ) → i < suc (length ats) → well_formed (name_at bytes (at ∷ ats) (len ∷ lens) i) ≡ true
    formed zero h = g.formed
    formed (suc i) h = r.formed i (omega arith)

    rising : (i : ℕ) → suc i < suc (length ats)
        → compare_lists (name_at bytes (at ∷ ats) (len ∷ lens) i) (name_at bytes (at ∷ ats) (len ∷ lens) (suc i)) ≡ Less
    rising zero h = r.above (omega arith) (omega arith)
    rising (suc i) h = r.rising i (omega arith)

rest : (bytes ats lens last : List ℕ) (count total : ℕ) → length ats ≡ length lens
    → check_rows bytes ats lens last count total ≡ 0 → Rest bytes ats lens last count total
unfolding check_rows sum
rest bytes [] [] last count total e h =
    record {
      few = λ k. omega arith;
      short = λ k. omega arith;
      inside = λ i k. absurd (omega arith);
      formed = λ i k. absurd (omega arith);
      above = λ z k. absurd (omega arith);
      rising = λ i k. absurd (omega arith);
    }
rest bytes [] (len ∷ lens) last count total e h = absurd (omega arith)
rest bytes (at ∷ ats) [] last count total e h = absurd (omega arith)
rest bytes (at ∷ ats) (len ∷ lens) last count total e h =
    let k =
    (else-zero (check_row bytes at len last count total) (check_rows bytes ats lens (name_of bytes at len) (suc count) (total + len))).0 h in
    rest-more bytes at len ats lens last count total (row-checked bytes at len last count total k.0)
    (rest bytes ats lens (name_of bytes at len) (suc count) (total + len) (omega arith) k.1)

columns-equal : (bytes ats lens : List ℕ) → check_names bytes ats lens ≡ 0
    → (length ats ≡ length lens) × (check_rows bytes ats lens [] 0 0 ≡ 0)
unfolding check_names
columns-equal bytes ats lens = go (eqb (length ats) (length lens)) refl
  where
    go : (t : Bool) → eqb (length ats) (length lens) ≡ t → cond t (check_rows bytes ats lens [] 0 0) 3 ≡ 0
        → (length ats ≡ length lens) × (check_rows bytes ats lens [] 0 0 ≡ 0)
    go true e h = (eqb-true (length ats) (length lens) e, h)
    go false e h = absurd (omega arith)

rest-good : (bytes ats lens last : List ℕ) (count total : ℕ) → count ≤ 1024 → total ≤ 24576
    → Rest bytes ats lens last count total → check_rows bytes ats lens last count total ≡ 0
unfolding check_rows sum
rest-good bytes [] lens last count total k m r = refl
rest-good bytes (at ∷ ats) [] last count total k m r = refl
rest-good bytes (at ∷ ats) (len ∷ lens) last count total k m r =
    let few = r.few k in
    let short = r.short m in
    (else-zero (check_row bytes at len last count total) (check_rows bytes ats lens (name_of bytes at len) (suc count) (total + len))).1 (
      row-accepted bytes at len last count total (record {
        inside = r.inside 0 (omega arith);
        formed = r.formed 0 (omega arith);
        above = λ z. r.above z (omega arith);
        few = omega arith;
        short = omega arith;
      }),
      rest-good bytes ats lens (name_of bytes at len) (suc count) (total + len) (omega arith) (omega arith) (record {
        few = λ h. omega arith;
        short = λ h. omega arith;
        inside = λ i h. r.inside (suc i) (omega arith);
        formed = λ i h. r.formed (suc i) (omega arith);
        above = λ z h. r.rising 0 (omega arith);
        rising = λ i h. r.rising (suc i) (omega arith);
      }),
    )

pub checked : (bytes ats lens : List ℕ) → check_names bytes ats lens ≡ 0 → Checked bytes ats lens
checked bytes ats lens h =
    let k = columns-equal bytes ats lens h in
    let r = rest bytes ats lens [] 0 0 k.0 k.1 in
    record {
      columns = k.0;
      few = let few = r.few (omega arith) in omega arith;
      short = let short = r.short (omega arith) in omega arith;
      inside = r.inside;
      formed = r.formed;
      rising = r.rising;
    }

-- and every such table is accepted
pub accepted : (bytes ats lens : List ℕ) → Checked bytes ats lens → check_names bytes ats lens ≡ 0
unfolding check_names
accepted bytes ats lens c =
    let few = c.few in
    let short = c.short in
    rw (eq-eqb (length ats) (length lens) c.columns)
    (rest-good bytes ats lens [] 0 0 (omega arith) (omega arith) (record {
      few = λ h. omega arith;
      short = λ h. omega arith;
      inside = c.inside;
      formed = c.formed;
      above = λ z h. absurd (omega arith);
      rising = c.rising;
    }))

-- ---- checked names

module _ (bytes ats lens : List ℕ) (c : Checked bytes ats lens) where
  -- every name has 1 to 255 bytes
  pub name-sized : (i : ℕ) → i < length ats → (1 ≤ length (name_at bytes ats lens i)) × (length (name_at bytes ats lens i) ≤ 255)
  name-sized i h =
      let inside = c.inside i h in
      let n = name-length bytes (get_or ats i 0) (get_or lens i 0) inside in (omega arith, omega arith)

  pub below : (i j : ℕ) → i < j → j < length ats → compare_lists (name_at bytes ats lens i) (name_at bytes ats lens j) ≡ Less
  below i zero h k = absurd (omega arith)
  below i (suc j) h k =
      ⊎_elim
      (λ e. ap (λ (m : ℕ). compare_lists (name_at bytes ats lens m) (name_at bytes ats lens (suc j))) e ∙ c.rising j k)
      (λ l.
      lists-trans (name_at bytes ats lens i) (name_at bytes ats lens j) (name_at bytes ats lens (suc j)) (below i j l (omega arith))
      (c.rising j k))
      (eq-or-lt_of_le (let l : i ≤ j = omega arith in l))

  -- the order of numbers is the order of names
  pub order-of-numbers : (i j : ℕ) → i < length ats → j < length ats
      → compare_lists (name_at bytes ats lens i) (name_at bytes ats lens j) ≡ compare_numbers i j
  order-of-numbers i j h k =
      numbers-by (λ (o : Ordering). compare_lists (name_at bytes ats lens i) (name_at bytes ats lens j) ≡ o) i j
      (λ l. below i j l k)
      (λ e. ap (λ (m : ℕ). compare_lists (name_at bytes ats lens i) (name_at bytes ats lens m)) (sym e) ∙ lists-same (name_at bytes ats lens i))
      (λ l. lists-swap (name_at bytes ats lens j) (name_at bytes ats lens i) ∙ ap flip (below j i l h))

  -- two names with the same bytes have the same number
  pub number-of-name : (i j : ℕ) → i < length ats → j < length ats → name_at bytes ats lens i ≡ name_at bytes ats lens j → i ≡ j
  number-of-name i j h k e =
      equal-numbers i j
      (sym (order-of-numbers i j h k)
      ∙ ap (compare_lists (name_at bytes ats lens i)) (sym e) ∙ lists-same (name_at bytes ats lens i))
