-- Lists of categories without repeats: their digits in a payload, and that there are at most eleven.
use Rattle.std.specs.Prelude.{◌≡◌, refl, Bool, true, false, not, ◌&&◌, ◌||◌, List, [], ◌∷◌, ◌++◌, ℕ, zero, suc, ◌+◌, ◌≤◌, ◌<◌, eqb, leb, length, take, drop, replicate}
use Rattle.std.proofs.Common.{sym, ap, ap₂, ◌∙◌, arith}
use Rattle.std.proofs.Math.Seq.{take-append_seam, drop-append_seam}
use borrow.Author.Tests.{eqb-true, eqb-false, leb-true, ne_eqb, not-true}
use Rattle.order.specs.Truth.{and-left, and-right, and-both, and-assoc}
use Rattle.order.specs.Lists.{elem}
use Rattle.ty.specs.Words.{good_digits, distinct}
use Rattle.ty.specs.Digits.{Digits}

-- ---- good digits are a list without repeats, and zeros

-- good_digits 0 asks for zeros alone
pub digits-split : (n : ℕ) (ds : List ℕ) → good_digits n ds ≡ (distinct (take n ds) && good_digits 0 (drop n ds))
unfolding good_digits distinct
digits-split zero [] = refl
digits-split zero (d ∷ ds) = refl
digits-split (suc n) [] = refl
digits-split (suc n) (d ∷ ds) =
    let fresh = not (elem d (take n ds)) in
    let rest = good_digits 0 (drop n ds) in
    ap (λ (t : Bool). leb d 10 && (fresh && t)) (digits-split n ds)
    ∙ ap (◌&&◌ (leb d 10)) (and-assoc fresh (distinct (take n ds)) rest)
    ∙ and-assoc (leb d 10) (fresh && distinct (take n ds)) rest

zeros-are : (ds : List ℕ) → good_digits 0 ds ≡ true → ds ≡ replicate (length ds) 0
unfolding good_digits
zeros-are [] h = refl
zeros-are (d ∷ ds) h =
    ap₂ (λ (x : ℕ) (xs : List ℕ). x ∷ xs)
    (eqb-true d 0 (and-left (eqb d 0) (good_digits 0 ds) h))
    (zeros-are ds (and-right (eqb d 0) (good_digits 0 ds) h))

zeros-good : (k : ℕ) → good_digits 0 (replicate k 0) ≡ true
unfolding good_digits
zeros-good zero = refl
zeros-good (suc k) = zeros-good k

pub good-distinct : (n : ℕ) (ds : List ℕ) → good_digits n ds ≡ true → distinct (take n ds) ≡ true
good-distinct n ds h = and-left (distinct (take n ds)) (good_digits 0 (drop n ds)) (sym (digits-split n ds) ∙ h)

pub good-zeros : (n : ℕ) (ds : List ℕ) → good_digits n ds ≡ true → drop n ds ≡ replicate (length (drop n ds)) 0
good-zeros n ds h =
    zeros-are (drop n ds) (and-right (distinct (take n ds)) (good_digits 0 (drop n ds)) (sym (digits-split n ds) ∙ h))

pub good-padded : (cs : List ℕ) (k : ℕ) → distinct cs ≡ true → good_digits (length cs) (cs ++ replicate k 0) ≡ true
good-padded cs k h =
    digits-split (length cs) (cs ++ replicate k 0)
    ∙ ap₂ (λ (xs ys : List ℕ). distinct xs && good_digits 0 ys) (take-append_seam cs (replicate k 0)) (drop-append_seam cs (replicate k 0))
    ∙ and-both (distinct cs) (good_digits 0 (replicate k 0)) h (zeros-good k)

-- ---- what a list without repeats is made of

module _ (c : ℕ) (cs : List ℕ) (h : distinct (c ∷ cs) ≡ true) where
  pub distinct-first : c ≤ 10
  unfolding distinct
  distinct-first = leb-true c 10 (and-left (leb c 10) (not (elem c cs) && distinct cs) h)

  pub distinct-fresh : elem c cs ≡ false
  unfolding distinct
  distinct-fresh =
      not-true (elem c cs) (and-left (not (elem c cs)) (distinct cs) (and-right (leb c 10) (not (elem c cs) && distinct cs) h))

  pub distinct-rest : distinct cs ≡ true
  unfolding distinct
  distinct-rest = and-right (not (elem c cs)) (distinct cs) (and-right (leb c 10) (not (elem c cs) && distinct cs) h)

pub distinct-digits : (cs : List ℕ) → distinct cs ≡ true → Digits cs
distinct-digits [] h = tt
distinct-digits (c ∷ cs) h = (let q = distinct-first c cs h in omega arith, distinct-digits cs (distinct-rest c cs h))

-- ---- there are at most eleven: count the numbers below 11 that the list has

abbrev one : Bool → ℕ
one true = 1
one false = 0

-- how many numbers below n the list has
held : ℕ → List ℕ → ℕ
held zero cs = 0
held (suc n) cs = one (elem n cs) + held n cs

held-le : (n : ℕ) (cs : List ℕ) → held n cs ≤ n
unfolding held
held-le zero cs = omega arith
held-le (suc n) cs = let r = held-le n cs in let q = one-le (elem n cs) in omega arith
  where
    one-le : (t : Bool) → one t ≤ 1
    one-le true = omega arith
    one-le false = omega arith

held-above : (n c : ℕ) (cs : List ℕ) → n ≤ c → held n (c ∷ cs) ≡ held n cs
unfolding held elem
held-above zero c cs h = refl
held-above (suc n) c cs h =
    ap₂ (λ (t : Bool) (k : ℕ). one (t || elem n cs) + k) (ne_eqb c n (omega arith)) (held-above n c cs (omega arith))

-- a number that it does not have is one more
held-more : (n c : ℕ) (cs : List ℕ) → c < n → elem c cs ≡ false → held n (c ∷ cs) ≡ suc (held n cs)
unfolding held elem
held-more zero c cs h e = absurd (omega arith)
held-more (suc n) c cs h e = go (eqb c n) refl (λ (g : c < n). held-more n c cs g e)
  where
    go : (t : Bool) → eqb c n ≡ t → (c < n → held n (c ∷ cs) ≡ suc (held n cs))
        → one (t || elem n cs) + held n (c ∷ cs) ≡ suc (one (elem n cs) + held n cs)
    go true q r =
        let same = eqb-true c n q in
        let below = held-above n c cs (let k : n ≤ c = omega arith in k) in
        let none : one (elem n cs) ≡ 0 = ap (λ (k : ℕ). one (elem k cs)) (sym same) ∙ ap one e in
        omega arith
    go false q r = let other = eqb-false c n q in let below = r (omega arith) in omega arith

distinct-held : (cs : List ℕ) → distinct cs ≡ true → length cs ≤ held 11 cs
distinct-held [] h = omega arith
distinct-held (c ∷ cs) h =
    let first = distinct-first c cs h in
    let more = held-more 11 c cs (let k : c < 11 = omega arith in k) (distinct-fresh c cs h) in
    let rest = distinct-held cs (distinct-rest c cs h) in
    omega arith

pub distinct-length : (cs : List ℕ) → distinct cs ≡ true → length cs ≤ 11
distinct-length cs h = let a = distinct-held cs h in let b = held-le 11 cs in omega arith
