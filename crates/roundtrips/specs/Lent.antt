-- Writing over a part of a table of names. Each call checks all names that it is lent; a caller may lend only those that its
-- words use, with their classes renumbered: what is refused and what is written is the same.
use Rattle.std.specs.Prelude.{◌≡◌, Bool, not, ◌||◌, ◌↔◌, leb, ltb, length, get_or, drop}
use Rattle.std.proofs.Math.Path.{refl, sym, ap, ap₂, subst}
use Rattle.std.proofs.Common.{◌∙◌, true≢false, arith, drop-cons}
use Rattle.std.proofs.Math.Bool.{true, false, cond, ◌&&◌}
use Rattle.std.proofs.lemmas.Bool.{false≢true}
use mathlib.Core.List.{List, [], ◌∷◌, ◌++◌, map}
use Prim.Native.Nat.{ℕ, zero, suc, ◌+◌, ◌-◌, ◌^◌, ◌≤◌, ◌<◌}
use Rattle.std.proofs.Math.Dec.{eqb}
use Rattle.std.proofs.Math.ListN.{replicate}
use Rattle.std.proofs.lemmas.List.{length-map}
use borrow.Author.Tests.{eqb-true, eqb-false, leb-true, ltb-true, ltb-false, eq-eqb, lt-ltb, le-ltb, le-leb}
use Rattle.order.specs.Truth.{both}
use Rattle.order.specs.Lists.{elem}
use Rattle.ty.specs.Types.{arrays}
use Rattle.ty.specs.Words.{dims_of, tag_of, load_of, base_of, type_of, legal_base, legal_word, all_legal}
use Rattle.ty.specs.Round.{legal-primitive, legal-object, legal-unknown, legal-none}
use Rattle.checks.specs.Checks.{Check, check, first_refusal}
use Rattle.names.specs.Names.{name_at, check_names}
use Rattle.names.specs.Table.{Checked, checked, accepted, sum, below}
use Rattle.writer.specs.Print.{Written, print, print_all, print_word, print_words, print_method_words, TypeWrote, MethodWrote, checked_type_refusal, type_refusal, checked_method_refusal, method_refusal, answer, output, Wrote}
use Rattle.writer.specs.Steps.{print_base, class_bytes, print-word, print-class, print-method, legal-inside, type-named, method-named}

-- ---- a part of a table, and words over it

-- rising numbers, from `least` on and below `names`: which names are lent
unfoldable pub ascending : ℕ → ℕ → List ℕ → Bool
ascending least names [] = true
ascending least names (k ∷ ks) = leb least k && (ltb k names && ascending (suc k) names ks)

-- a column's entries at these numbers; the bytes of the names are lent as they are
unfoldable pub picked : List ℕ → List ℕ → List ℕ
picked column ks = map (λ k. get_or column k 0) ks

-- where a number stands among them
unfoldable pub place_among : List ℕ → ℕ → ℕ
place_among [] c = 0
place_among (k ∷ ks) c = cond (eqb k c) 0 (suc (place_among ks c))

-- a word's class by its place among those lent; a word without class, or with one that is not lent, as it is
unfoldable pub renumbered : List ℕ → ℕ → ℕ
renumbered ks w = cond (eqb (tag_of w) 1 && elem (load_of w) ks) (w - load_of w + place_among ks (load_of w)) w

-- if a word's class has a name, the name is lent
abbrev pub Lent : ℕ → List ℕ → ℕ → Type 0
Lent names ks w = tag_of w ≡ 1 → load_of w < names → elem (load_of w) ks ≡ true

-- the same of each word
abbrev pub AllLent : ℕ → List ℕ → List ℕ → Type 0
AllLent names ks ws = (i : ℕ) → i < length ws → Lent names ks (get_or ws i 0)

-- rising or not; a class by its place; a primitive, and a class without a name, as they are
pub renumberings : (ascending 0 3 (0 ∷ 2 ∷ []) ≡ true)
    × (ascending 0 3 (2 ∷ 0 ∷ []) ≡ false)
    × (ascending 0 3 (0 ∷ 3 ∷ []) ≡ false)
    × (renumbered (2 ∷ []) 0x0201000000000002 ≡ 0x0201000000000000)
    × (renumbered (0 ∷ 2 ∷ []) 0x0201000000000002 ≡ 0x0201000000000001)
    × (renumbered (0 ∷ 2 ∷ []) 0x0200000000000002 ≡ 0x0200000000000002)
    × (renumbered (0 ∷ 2 ∷ []) 0x0001000000000003 ≡ 0x0001000000000003)
unfolding ascending renumbered place_among elem
renumberings = (refl, refl, refl, refl, refl, refl, refl)

-- `[[Lc;` over the names a, b, c, and over c alone
pub over-one-name : (print_word (97 ∷ 98 ∷ 99 ∷ []) (0 ∷ 1 ∷ 2 ∷ []) (1 ∷ 1 ∷ 1 ∷ []) 0x0201000000000002 ≡ 91 ∷ 91 ∷ 76 ∷ 99 ∷ 59 ∷ [])
    × (picked (0 ∷ 1 ∷ 2 ∷ []) (2 ∷ []) ≡ 2 ∷ [])
    × (picked (1 ∷ 1 ∷ 1 ∷ []) (2 ∷ []) ≡ 1 ∷ [])
    × (print_word (97 ∷ 98 ∷ 99 ∷ []) (2 ∷ []) (1 ∷ []) 0x0201000000000000 ≡ 91 ∷ 91 ∷ 76 ∷ 99 ∷ 59 ∷ [])
unfolding print_word print type_of arrays base_of picked
over-one-name = (refl, refl, refl, refl)

-- ---- the numbers

module _ (least names k : ℕ) (ks : List ℕ) (h : ascending least names (k ∷ ks) ≡ true) where
  asc-parts : (leb least k ≡ true) × (ltb k names ≡ true) × (ascending (suc k) names ks ≡ true)
  unfolding ascending
  asc-parts =
      let a = both (leb least k) (ltb k names && ascending (suc k) names ks) h in
      let b = both (ltb k names) (ascending (suc k) names ks) a.1 in
      (a.0, b.0, b.1)

  asc-least : least ≤ k
  asc-least = leb-true least k asc-parts.0

  asc-below : k < names
  asc-below = ltb-true k names asc-parts.1

  asc-rest : ascending (suc k) names ks ≡ true
  asc-rest = asc-parts.2

asc-at : (least names : ℕ) (ks : List ℕ) → ascending least names ks ≡ true → (i : ℕ) → i < length ks
    → (least ≤ get_or ks i 0) × (get_or ks i 0 < names)
asc-at least names [] h i l = absurd (omega arith)
asc-at least names (k ∷ ks) h zero l = (asc-least least names k ks h, asc-below least names k ks h)
asc-at least names (k ∷ ks) h (suc i) l =
    let r = asc-at (suc k) names ks (asc-rest least names k ks h) i (omega arith) in
    let a = asc-least least names k ks h in
    (omega arith, r.1)

asc-next : (least names : ℕ) (ks : List ℕ) → ascending least names ks ≡ true → (i : ℕ) → suc i < length ks
    → get_or ks i 0 < get_or ks (suc i) 0
asc-next least names [] h i l = absurd (omega arith)
asc-next least names (k ∷ ks) h zero l = (asc-at (suc k) names ks (asc-rest least names k ks h) 0 (omega arith)).0
asc-next least names (k ∷ ks) h (suc i) l = asc-next (suc k) names ks (asc-rest least names k ks h) i (omega arith)

-- no more numbers than names
asc-length : (least names : ℕ) (ks : List ℕ) → least ≤ names → ascending least names ks ≡ true → least + length ks ≤ names
asc-length least names [] m h = omega arith
asc-length least names (k ∷ ks) m h =
    let a = asc-least least names k ks h in
    let b = asc-below least names k ks h in
    let r = asc-length (suc k) names ks b (asc-rest least names k ks h) in
    omega arith

place-found : (ks : List ℕ) (c : ℕ) → elem c ks ≡ true → (place_among ks c < length ks) × (get_or ks (place_among ks c) 0 ≡ c)
unfolding place_among elem
place-found [] c h = absurd (false≢true h)
place-found (k ∷ ks) c h = go (eqb k c) refl h (place-found ks c)
  where
    go : (t : Bool) → eqb k c ≡ t → (t || elem c ks) ≡ true
        → (elem c ks ≡ true → (place_among ks c < length ks) × (get_or ks (place_among ks c) 0 ≡ c))
        → (cond t 0 (suc (place_among ks c)) < suc (length ks)) × (get_or (k ∷ ks) (cond t 0 (suc (place_among ks c))) 0 ≡ c)
    go true e g r = (omega arith, eqb-true k c e)
    go false e g r = let l = (r g).0 in (omega arith, (r g).1)

-- what is among the numbers is a name's
found-below : (names : ℕ) (ks : List ℕ) (c : ℕ) → ascending 0 names ks ≡ true → elem c ks ≡ true → c < names
found-below names ks c a h =
    let p = place-found ks c h in subst (λ (m : ℕ). m < names) p.1 (asc-at 0 names ks a (place_among ks c) p.0).1

-- ---- the columns

length-picked : (column ks : List ℕ) → length (picked column ks) ≡ length ks
unfolding picked
length-picked column ks = length-map ks (λ k. get_or column k 0)

picked-at : (column ks : List ℕ) (i : ℕ) → i < length ks → get_or (picked column ks) i 0 ≡ get_or column (get_or ks i 0) 0
unfolding picked
picked-at column [] i h = absurd (omega arith)
picked-at column (k ∷ ks) zero h = refl
picked-at column (k ∷ ks) (suc i) h = picked-at column ks i (omega arith)

sum-drop : (n m : ℕ) (xs : List ℕ) → m ≤ n → sum (drop n xs) ≤ sum (drop m xs)
unfolding sum
sum-drop zero zero xs h = omega arith
sum-drop zero (suc m) xs h = absurd (omega arith)
sum-drop (suc n) zero [] h = omega arith
sum-drop (suc n) zero (x ∷ xs) h = let r = sum-drop n 0 xs (omega arith) in omega arith
sum-drop (suc n) (suc m) [] h = omega arith
sum-drop (suc n) (suc m) (x ∷ xs) h = sum-drop n m xs (omega arith)

sum-picked : (xs : List ℕ) (least : ℕ) (ks : List ℕ) → ascending least (length xs) ks ≡ true → sum (picked xs ks) ≤ sum (drop least xs)
unfolding sum picked
sum-picked xs least [] h = omega arith
sum-picked xs least (k ∷ ks) h =
    let r = sum-picked xs (suc k) ks (asc-rest least (length xs) k ks h) in
    let s = ap sum (drop-cons xs k 0 (asc-below least (length xs) k ks h)) in
    let m = sum-drop k least xs (asc-least least (length xs) k ks h) in
    omega arith

-- name i of the part is the name at the i-th number
module _ (bytes ats lens ks : List ℕ) where
  pub name-picked : (i : ℕ) → i < length ks → name_at bytes (picked ats ks) (picked lens ks) i ≡ name_at bytes ats lens (get_or ks i 0)
  name-picked i h = rw (picked-at ats ks i h, picked-at lens ks i h)

-- a part of a checked table is a checked table
module _ (bytes ats lens ks : List ℕ) (c : Checked bytes ats lens) (a : ascending 0 (length ats) ks ≡ true) where
  few-lent : length ks ≤ length ats
  few-lent = let l = asc-length 0 (length ats) ks (omega arith) a in omega arith

  pub part-checked : Checked bytes (picked ats ks) (picked lens ks)
  part-checked =
      let n = length-picked ats ks in
      let f = c.few in
      let l = few-lent in
      record {
        columns = length-picked ats ks ∙ sym (length-picked lens ks);
        few = omega arith;
        short =
            let s = sum-picked lens 0 ks (subst (λ (m : ℕ). ascending 0 m ks ≡ true) c.columns a) in
            let t = c.short in
            omega arith;
        inside = λ i h.
            let k : i < length ks = omega arith in
            rw (picked-at ats ks i k, picked-at lens ks i k) (c.inside (get_or ks i 0) (asc-at 0 (length ats) ks a i k).1);
        formed = λ i h.
            let k : i < length ks = omega arith in
            rw (name-picked bytes ats lens ks i k) (c.formed (get_or ks i 0) (asc-at 0 (length ats) ks a i k).1);
        rising = λ i h.
            let k : suc i < length ks = omega arith in
            rw (name-picked bytes ats lens ks i (omega arith), name-picked bytes ats lens ks (suc i) k)
            (below bytes ats lens c (get_or ks i 0) (get_or ks (suc i) 0) (asc-next 0 (length ats) ks a i k) (asc-at 0 (length ats) ks a (suc i) k).1);
      }

-- ---- words

module _ (ks : List ℕ) (w : ℕ) where
  -- a word by whether its class is lent
  by-class : (P : ℕ → Type 0)
      → (tag_of w ≡ 1 → elem (load_of w) ks ≡ true → P (w - load_of w + place_among ks (load_of w)))
      → ((tag_of w ≡ 1 → elem (load_of w) ks ≡ false) → P w) → P (renumbered ks w)
  unfolding renumbered
  by-class P lent other = go (eqb (tag_of w) 1) (elem (load_of w) ks) refl refl
    where
      go : (t e : Bool) → eqb (tag_of w) 1 ≡ t → elem (load_of w) ks ≡ e → P (cond (t && e) (w - load_of w + place_among ks (load_of w)) w)
      go true true f g = lent (eqb-true (tag_of w) 1 f) g
      go true false f g = other (λ _. g)
      go false e f g = other (λ t. absurd (eqb-false (tag_of w) 1 f t))

-- the parts of a word with another class
module _ (w p : ℕ) (h : p < 2 ^ 48) where
  dims-kept : dims_of (w - load_of w + p) ≡ dims_of w
  dims-kept = omega arith

  tag-kept : tag_of (w - load_of w + p) ≡ tag_of w
  tag-kept = omega arith

  load-set : load_of (w - load_of w + p) ≡ p
  load-set = omega arith

  sum-fits : w < 2 ^ 64 → w - load_of w + p < 2 ^ 64
  sum-fits l = omega arith

class-legal : (names w : ℕ) → tag_of w ≡ 1 → load_of w < names → legal_word names w ≡ true
unfolding legal_word
class-legal names w t h = ap (λ (g : ℕ). legal_base names g (load_of w)) t ∙ legal-object names (load_of w) ∙ lt-ltb (load_of w) names h

-- which words are types does not hang on the number of names, but for a class that has a name
legal-others : (m n tag load : ℕ) → (tag ≡ 1 → (m ≤ load) × (n ≤ load)) → legal_base m tag load ≡ legal_base n tag load
legal-others m n zero load h = legal-primitive m load ∙ sym (legal-primitive n load)
legal-others m n (suc zero) load h =
    legal-object m load ∙ le-ltb load m (h refl).0 ∙ sym (le-ltb load n (h refl).1) ∙ sym (legal-object n load)
legal-others m n (suc (suc zero)) load h = legal-unknown m load ∙ sym (legal-unknown n load)
legal-others m n (suc (suc (suc t))) load h =
    legal-none m load (suc (suc (suc t))) (omega arith) ∙ sym (legal-none n load (suc (suc (suc t))) (omega arith))

legal-unlent : (m n w : ℕ) → (tag_of w ≡ 1 → (m ≤ load_of w) × (n ≤ load_of w)) → legal_word m w ≡ legal_word n w
unfolding legal_word
legal-unlent m n w h = legal-others m n (tag_of w) (load_of w) h

-- what is printed of a class, and of what is none
module _ (bytes ats lens : List ℕ) (w : ℕ) where
  print-object : tag_of w ≡ 1 → print_word bytes ats lens w ≡ replicate (dims_of w) 91 ++ class_bytes (name_at bytes ats lens (load_of w))
  print-object t = print-word bytes ats lens w ∙ ap (λ (l : List ℕ). replicate (dims_of w) 91 ++ l) (print-class bytes ats lens (tag_of w) (load_of w) t)

  print-plain : (ats' lens' : List ℕ) → (tag_of w ≡ 1 → ⊥) → print_word bytes ats' lens' w ≡ print_word bytes ats lens w
  unfolding print base_of
  print-plain ats' lens' z =
      print-word bytes ats' lens' w ∙ ap (λ (l : List ℕ). replicate (dims_of w) 91 ++ l) (go (tag_of w) z) ∙ sym (print-word bytes ats lens w)
    where
      go : (tag : ℕ) → (tag ≡ 1 → ⊥) → print_base bytes ats' lens' tag (load_of w) ≡ print_base bytes ats lens tag (load_of w)
      go zero n = refl
      go (suc zero) n = absurd (n refl)
      go (suc (suc t)) n = refl

module _ (bytes ats lens ks : List ℕ) (c : Checked bytes ats lens) (a : ascending 0 (length ats) ks ≡ true) where
  -- where a class is lent, its place is a class's number
  place-low : (k : ℕ) → elem k ks ≡ true → (place_among ks k < length ks) × (place_among ks k < 2 ^ 48)
  place-low k e = let p = (place-found ks k e).0 in let f = c.few in let l = few-lent bytes ats lens ks c a in (p, omega arith)

  -- a word of 64 bits stays one
  pub renumbered-fits : (w : ℕ) → w < 2 ^ 64 → renumbered ks w < 2 ^ 64
  renumbered-fits w l =
      by-class ks w (λ (v : ℕ). v < 2 ^ 64) (λ t e. sum-fits w (place_among ks (load_of w)) (place-low (load_of w) e).1 l) (λ f. l)

  -- A WORD IS A TYPE OVER THE PART EXACTLY IF IT IS ONE OVER THE TABLE
  pub legal-lent : (w : ℕ) → Lent (length ats) ks w → legal_word (length (picked ats ks)) (renumbered ks w) ≡ legal_word (length ats) w
  legal-lent w u =
      by-class ks w (λ (v : ℕ). legal_word (length (picked ats ks)) v ≡ legal_word (length ats) w)
      (λ t e.
      let p = place_among ks (load_of w) in
      let q = place-low (load_of w) e in
      let n = length-picked ats ks in
      let l = load-set w p q.1 in
      class-legal (length (picked ats ks)) (w - load_of w + p) (tag-kept w p q.1 ∙ t) (let k = q.0 in omega arith)
      ∙ sym (class-legal (length ats) w t (found-below (length ats) ks (load_of w) a e)))
      (λ f.
      legal-unlent (length (picked ats ks)) (length ats) w (λ t.
      let n = length-picked ats ks in
      let l = few-lent bytes ats lens ks c a in
      let g : length ats ≤ load_of w = outside (ltb (load_of w) (length ats)) refl t (f t) in
      (omega arith, g)))
    where
      outside : (s : Bool) → ltb (load_of w) (length ats) ≡ s → tag_of w ≡ 1 → elem (load_of w) ks ≡ false → length ats ≤ load_of w
      outside true e t f = absurd (true≢false (sym (u t (ltb-true (load_of w) (length ats) e)) ∙ f))
      outside false e t f = ltb-false (load_of w) (length ats) e

  -- AND PRINTS THE SAME BYTES
  pub print-lent : (w : ℕ) → Lent (length ats) ks w → legal_word (length ats) w ≡ true
      → print_word bytes (picked ats ks) (picked lens ks) (renumbered ks w) ≡ print_word bytes ats lens w
  print-lent w u h =
      by-class ks w (λ (v : ℕ). print_word bytes (picked ats ks) (picked lens ks) v ≡ print_word bytes ats lens w)
      (λ t e.
      let p = place_among ks (load_of w) in
      let q = place-low (load_of w) e in
      print-object bytes (picked ats ks) (picked lens ks) (w - load_of w + p) (tag-kept w p q.1 ∙ t)
      ∙ ap₂ (λ (d k : ℕ). replicate d 91 ++ class_bytes (name_at bytes (picked ats ks) (picked lens ks) k)) (dims-kept w p q.1) (load-set w p q.1)
      ∙ ap (λ (l : List ℕ). replicate (dims_of w) 91 ++ class_bytes l)
      (name-picked bytes ats lens ks p q.0 ∙ ap (name_at bytes ats lens) (place-found ks (load_of w) e).1)
      ∙ sym (print-object bytes ats lens w t))
      (λ f. print-plain bytes ats lens w (picked ats ks) (picked lens ks) (λ t. true≢false (sym (u t (legal-inside (length ats) w h t)) ∙ f t)))

  all-legal-lent : (ws : List ℕ) → AllLent (length ats) ks ws → all_legal (length (picked ats ks)) (map (renumbered ks) ws) ≡ all_legal (length ats) ws
  unfolding all_legal
  all-legal-lent [] u = refl
  all-legal-lent (w ∷ ws) u = ap₂ ◌&&◌ (legal-lent w (u 0 (omega arith))) (all-legal-lent ws (λ i h. u (suc i) (omega arith)))

  words-lent : (ws : List ℕ) → AllLent (length ats) ks ws → all_legal (length ats) ws ≡ true
      → print_words bytes (picked ats ks) (picked lens ks) (map (renumbered ks) ws) ≡ print_words bytes ats lens ws
  unfolding all_legal print_words print_word print_all
  words-lent [] u h = refl
  words-lent (w ∷ ws) u h =
      let b = both (legal_word (length ats) w) (all_legal (length ats) ws) h in
      ap₂ (λ (x y : List ℕ). x ++ y) (print-lent w (u 0 (omega arith)) b.0) (words-lent ws (λ i h. u (suc i) (omega arith)) b.1)

  method-printed : (ws : List ℕ) (w : ℕ) → AllLent (length ats) ks ws → Lent (length ats) ks w
      → (all_legal (length ats) ws && legal_word (length ats) w) ≡ true
      → print_method_words bytes (picked ats ks) (picked lens ks) (map (renumbered ks) ws) (renumbered ks w) ≡ print_method_words bytes ats lens ws w
  method-printed ws w u v h =
      let b = both (all_legal (length ats) ws) (legal_word (length ats) w) h in
      print-method bytes (picked ats ks) (picked lens ks) (map (renumbered ks) ws) (renumbered ks w)
      ∙ ap₂ (λ (x y : List ℕ). (40 ∷ []) ++ (x ++ ((41 ∷ []) ++ y))) (words-lent ws u b.0) (print-lent w v b.1)
      ∙ sym (print-method bytes ats lens ws w)

-- ---- refusals

-- 7 or 22, where what is printed of types is the same
legal-first : (legal : Bool) (room : ℕ) (p q : List ℕ) → (legal ≡ true → p ≡ q)
    → first_refusal (check (not legal) 7 ∷ check (ltb room (length p)) 22 ∷ []) ≡ first_refusal (check (not legal) 7 ∷ check (ltb room (length q)) 22 ∷ [])
unfolding first_refusal
legal-first true room p q h = rw (h refl)
legal-first false room p q h = refl

-- what was not refused
not-seven : (legal : Bool) (rest : List Check) → first_refusal (check (not legal) 7 ∷ rest) ≡ 0 → legal ≡ true
unfolding first_refusal
not-seven true rest h = refl
not-seven false rest h = absurd (omega arith)

not-eight : (many : Bool) (rest : List Check) → first_refusal (check many 8 ∷ rest) ≡ 0 → first_refusal rest ≡ 0
unfolding first_refusal
not-eight true rest h = absurd (omega arith)
not-eight false rest h = h

-- the same refusal, and the same bytes where nothing is refused: the same promise
module _ {k m : ℕ} {p q : List ℕ} where
  same-bytes : k ≡ m → (m ≡ 0 → p ≡ q) → (out out' : List ℕ) (r : Written) → Wrote k p out out' r → Wrote m q out out' r
  unfolding answer output
  same-bytes e f out out' r = rw e (go m f)
    where
      go : (n : ℕ) → (n ≡ 0 → p ≡ q) → Wrote n p out out' r → Wrote n q out out' r
      go zero f x = subst (λ (l : List ℕ). Wrote 0 l out out' r) (f refl) x
      go (suc n) f x = record { result = x.result; memory = x.memory }

same-wrote : {k m : ℕ} {p q : List ℕ} → k ≡ m → (m ≡ 0 → p ≡ q) → (out out' : List ℕ) (r : Written)
    → Wrote k p out out' r ↔ Wrote m q out out' r
same-wrote e f out out' r = (same-bytes e f out out' r, same-bytes (sym e) (λ z. sym (f (sym e ∙ z))) out out' r)

-- ---- the laws

module _ (bytes ats lens ks : List ℕ) (h : check_names bytes ats lens ≡ 0) (a : ascending 0 (length ats) ks ≡ true) where
  table : Checked bytes ats lens
  table = checked bytes ats lens h

  -- A PART OF A TABLE THAT IS ACCEPTED IS ACCEPTED
  pub part-accepted : check_names bytes (picked ats ks) (picked lens ks) ≡ 0
  part-accepted = accepted bytes (picked ats ks) (picked lens ks) (part-checked bytes ats lens ks table a)

  type-refusal : (w room : ℕ) → Lent (length ats) ks w
      → type_refusal bytes (picked ats ks) (picked lens ks) (renumbered ks w) room ≡ type_refusal bytes ats lens w room
  unfolding checked_type_refusal
  type-refusal w room u =
      type-named bytes (picked ats ks) (picked lens ks) 0 (sym part-accepted) (renumbered ks w) room refl
      ∙ rw (legal-lent bytes ats lens ks table a w u)
      (legal-first (legal_word (length ats) w) room (print_word bytes (picked ats ks) (picked lens ks) (renumbered ks w)) (print_word bytes ats lens w)
      (print-lent bytes ats lens ks table a w u))
      ∙ sym (type-named bytes ats lens 0 (sym h) w room refl)

  type-legal : (w room : ℕ) → type_refusal bytes ats lens w room ≡ 0 → legal_word (length ats) w ≡ true
  unfolding checked_type_refusal
  type-legal w room z =
      not-seven (legal_word (length ats) w) (check (ltb room (length (print_word bytes ats lens w))) 22 ∷ [])
      (sym (type-named bytes ats lens 0 (sym h) w room refl) ∙ z)

  -- A TYPE IS WRITTEN OVER THE PART AS OVER THE TABLE
  pub type-lent : (w : ℕ) → Lent (length ats) ks w → (out out' : List ℕ) (r : Written)
      → TypeWrote bytes (picked ats ks) (picked lens ks) (renumbered ks w) out out' r ↔ TypeWrote bytes ats lens w out out' r
  type-lent w u out out' r =
      same-wrote (type-refusal w (length out) u)
      (λ z. print-lent bytes ats lens ks table a w u (type-legal w (length out) z)) out out' r

  module _ (ws : List ℕ) (w : ℕ) (us : AllLent (length ats) ks ws) (u : Lent (length ats) ks w) where
    method-refusal : (room : ℕ)
        → method_refusal bytes (picked ats ks) (picked lens ks) (map (renumbered ks) ws) (renumbered ks w) room ≡ method_refusal bytes ats lens ws w room
    unfolding checked_method_refusal first_refusal
    method-refusal room =
        method-named bytes (picked ats ks) (picked lens ks) 0 (sym part-accepted) (map (renumbered ks) ws) (renumbered ks w) room refl
        ∙ rw (length-map ws (renumbered ks), all-legal-lent bytes ats lens ks table a ws us, legal-lent bytes ats lens ks table a w u)
        (ap (cond (ltb 255 (length ws)) 8)
        (legal-first (all_legal (length ats) ws && legal_word (length ats) w) room
        (print_method_words bytes (picked ats ks) (picked lens ks) (map (renumbered ks) ws) (renumbered ks w)) (print_method_words bytes ats lens ws w)
        (method-printed bytes ats lens ks table a ws w us u)))
        ∙ sym (method-named bytes ats lens 0 (sym h) ws w room refl)

    method-legal : (room : ℕ) → method_refusal bytes ats lens ws w room ≡ 0 → (all_legal (length ats) ws && legal_word (length ats) w) ≡ true
    unfolding checked_method_refusal
    method-legal room z =
        let legal = all_legal (length ats) ws && legal_word (length ats) w in
        let rest = check (ltb room (length (print_method_words bytes ats lens ws w))) 22 ∷ [] in
        not-seven legal rest
        (not-eight (ltb 255 (length ws)) (check (not legal) 7 ∷ rest) (sym (method-named bytes ats lens 0 (sym h) ws w room refl) ∙ z))

    -- AND SO IS A METHOD
    pub method-lent : (out out' : List ℕ) (r : Written)
        → MethodWrote bytes (picked ats ks) (picked lens ks) (map (renumbered ks) ws) (renumbered ks w) out out' r
        ↔ MethodWrote bytes ats lens ws w out out' r
    method-lent out out' r =
        same-wrote (method-refusal (length out))
        (λ z. method-printed bytes ats lens ks table a ws w us u (method-legal (length out) z)) out out' r

-- ---- a type alone: over the one name that it uses, or over none

module _ (bytes ats lens : List ℕ) (h : check_names bytes ats lens ≡ 0) (w : ℕ) (out out' : List ℕ) (r : Written) where
  one-ascends : load_of w < length ats → ascending 0 (length ats) (load_of w ∷ []) ≡ true
  unfolding ascending
  one-ascends l = rw (le-leb 0 (load_of w) (omega arith), lt-ltb (load_of w) (length ats) l)

  one-lent : elem (load_of w) (load_of w ∷ []) ≡ true
  unfolding elem
  one-lent = rw (eq-eqb (load_of w) (load_of w) refl)

  -- its class is then 0
  one-renumbered : tag_of w ≡ 1 → renumbered (load_of w ∷ []) w ≡ w - load_of w
  unfolding renumbered place_among
  one-renumbered t = rw (eq-eqb (tag_of w) 1 t, one-lent, eq-eqb (load_of w) (load_of w) refl) (omega arith)

  pub type-of-one : tag_of w ≡ 1 → load_of w < length ats
      → TypeWrote bytes (get_or ats (load_of w) 0 ∷ []) (get_or lens (load_of w) 0 ∷ []) (w - load_of w) out out' r
      ↔ TypeWrote bytes ats lens w out out' r
  unfolding picked
  type-of-one t l = rw (← one-renumbered t) (type-lent bytes ats lens (load_of w ∷ []) h (one-ascends l) w (λ _ _. one-lent) out out' r)

  none-renumbered : renumbered [] w ≡ w
  unfolding renumbered elem
  none-renumbered = go (eqb (tag_of w) 1)
    where
      go : (t : Bool) → cond (t && false) (w - load_of w + place_among [] (load_of w)) w ≡ w
      go true = refl
      go false = refl

  pub type-of-none : (tag_of w ≡ 1 → length ats ≤ load_of w) → TypeWrote bytes [] [] w out out' r ↔ TypeWrote bytes ats lens w out out' r
  unfolding picked ascending
  type-of-none o =
      subst (λ (v : ℕ). TypeWrote bytes [] [] v out out' r ↔ TypeWrote bytes ats lens w out out' r) none-renumbered
      (type-lent bytes ats lens [] h refl w (λ t l. let g = o t in absurd (omega arith)) out out' r)
