-- Laws of an Unknown's digits in a rank: they are in the order of the lists, and the list comes back.
use Rattle.std.specs.Prelude.{◌≡◌, refl, true, List, [], ◌∷◌, ◌++◌, map, ℕ, zero, suc, ◌-◌, ◌*◌, ◌^◌, ◌≤◌, ◌<◌, length, replicate}
use Rattle.std.proofs.Common.{sym, ap, ap₂, ◌∙◌, zero-add, suc-mul, arith, length-append, pow_pos}
use Rattle.std.proofs.lemmas.List.{length-map, length-replicate}
use Rattle.order.specs.Laws.{numbers-less, numbers-same, numbers-greater}
use Rattle.order.specs.Compare.{compare_numbers, compare_lists, then}
use Rattle.ty.specs.Words.{pack, unpack, distinct}
use Rattle.ty.specs.Digits.{Digits, pack-lt, unpack-pack, pack-zeros, digits-zeros}
use Rattle.ty.specs.Distinct.{distinct-first, distinct-rest, distinct-length}
use Rattle.keys.specs.Rank.{digits_of, trim, members_of}
use Rattle.keys.specs.Numbers.{numbers-suc, numbers-parts}

-- each member and one is a digit
raised-digits : (cs : List ℕ) → distinct cs ≡ true → Digits (map suc cs)
raised-digits [] h = tt
raised-digits (c ∷ cs) h = (let q = distinct-first c cs h in omega arith, raised-digits cs (distinct-rest c cs h))

-- the first of the digits is 11 at most
pub digits-small : (cs : List ℕ) → distinct cs ≡ true → digits_of cs < 12 * 2 ^ 40
unfolding digits_of pack
digits-small [] h = omega arith
digits-small (c ∷ cs) h = omega (arith, distinct-first c cs h, pack-lt 10 (map suc cs) (raised-digits cs (distinct-rest c cs h)))

-- ---- the order of lists is the order of their digits

raised-pos : (n d : ℕ) (ds : List ℕ) → 0 < pack (suc n) (suc d ∷ ds)
unfolding pack
raised-pos n d ds = omega (arith, pow_pos (4 * n), suc-mul d (2 ^ (4 * n)))

lists-order : (n : ℕ) (xs ys : List ℕ) → Digits (map suc xs) → Digits (map suc ys) → length xs ≤ n → length ys ≤ n
    → compare_numbers (pack n (map suc xs)) (pack n (map suc ys)) ≡ compare_lists xs ys
unfolding pack compare_lists
lists-order zero [] [] g h k l = numbers-same 0
lists-order zero [] (y ∷ ys) g h k l = absurd (omega arith)
lists-order zero (x ∷ xs) ys g h k l = absurd (omega arith)
lists-order (suc n) [] [] g h k l = numbers-same 0
lists-order (suc n) [] (y ∷ ys) g h k l = numbers-less 0 (pack (suc n) (map suc (y ∷ ys))) (raised-pos n y (map suc ys))
lists-order (suc n) (x ∷ xs) [] g h k l = numbers-greater (pack (suc n) (map suc (x ∷ xs))) 0 (raised-pos n x (map suc xs))
lists-order (suc n) (x ∷ xs) (y ∷ ys) g h k l =
    numbers-parts (2 ^ (4 * n)) (suc x) (suc y) (pack n (map suc xs)) (pack n (map suc ys)) (pack-lt n (map suc xs) g.1) (pack-lt n (map suc ys) h.1)
    ∙ ap₂ then (numbers-suc x y) (lists-order n xs ys g.1 h.1 (omega arith) (omega arith))

pub digits-order : (xs ys : List ℕ) → distinct xs ≡ true → distinct ys ≡ true → compare_numbers (digits_of xs) (digits_of ys) ≡ compare_lists xs ys
unfolding digits_of
digits-order xs ys g h = lists-order 11 xs ys (raised-digits xs g) (raised-digits ys h) (distinct-length xs g) (distinct-length ys h)

-- ---- the list comes back: unpacked digits are the list's, with zeros up to eleven

trim-zeros : (cs : List ℕ) (k : ℕ) → trim (map suc cs ++ replicate k 0) ≡ cs
unfolding trim
trim-zeros [] zero = refl
trim-zeros [] (suc k) = refl
trim-zeros (c ∷ cs) k = ap (λ (l : List ℕ). c ∷ l) (trim-zeros cs k)

pub members-digits : (cs : List ℕ) → distinct cs ≡ true → members_of (digits_of cs) ≡ cs
unfolding members_of digits_of
members-digits cs h =
    let k = 11 - length cs in
    let ds = map suc cs ++ replicate k 0 in
    let full : length ds ≡ 11 = simp (length-append, length-map, length-replicate) (omega (arith, distinct-length cs h)) in
    ap (λ (x : ℕ). trim (unpack 11 x)) (sym (pack-zeros 11 (map suc cs) k) ∙ sym (zero-add (pack 11 ds)))
    ∙ ap trim (unpack-pack 11 ds 0 (digits-zeros (map suc cs) k (raised-digits cs h)) full)
    ∙ trim-zeros cs k
