-- Laws of the digits of a word, and of functions that are 0 or 1: how many of the first n values are 1 (`tally`), and where the first is (`first`).
use Rattle.std.specs.Prelude.{◌≡◌, refl, ℕ, zero, suc, ◌+◌, ◌-◌, ◌*◌, ◌/◌, ◌%◌, ◌^◌, ◌≤◌, ◌<◌, max, min}
use Rattle.std.proofs.Common.{sym, ap, ap₂, ◌∙◌, subst, mod-lt, mul-div_cancel, suc-add, add_assoc, zero-add, pow-suc, zero-lt-suc, not-suc-le-zero, arith, add-one, pow_pos, shr_lt}
use Rattle.std.proofs.Math.Nat.{div-eq_of_lt, div_self, mul-mod_left, div-div-eq-div-mul, pow-succ'}
use Rattle.std.proofs.Math.Arith.{digits_mod, lt-one}
use Rattle.std.specs.Int.Bits.{bit_or, bit_and, bit_xor, differ, or_add_and, or_step, and_step, xor_step, and_lt}
use Rattle.std.proofs.lemmas.Nat.{and_le_l, and_le_r, or_shr, and_shr, xor_shr, xor_lt}
use Rattle.std.specs.Int.Count.{ones, ones_step, count_trailing_zeros, under}
use Rattle.sets.specs.Sets.{bit, clear, tally, first}

-- ---- the digits of a word

pub bit-lt : (k w : ℕ) → bit k w < 2
unfolding bit
bit-lt k w = mod-lt (w / 2 ^ k) (zero-lt-suc 1)

pub bit-zero : (k : ℕ) → bit k 0 ≡ 0
unfolding bit
bit-zero k = ap (λ (x : ℕ). x % 2) (div-eq_of_lt (pow_pos k))

-- words of which nothing is left when they are taken together
pub or-none : (a b : ℕ) → bit_or a b ≡ 0 → (a ≡ 0) × (b ≡ 0)
or-none a b e = let s = or_add_and a b in let l = and_le_l a b in let r = and_le_r a b in (omega arith, omega arith)

-- the lowest digit, and the digits above it
pub bit-low : (w : ℕ) → bit 0 w ≡ w % 2
unfolding bit
bit-low w = omega arith

pub bit-suc : (k w : ℕ) → bit (suc k) w ≡ bit k (w / 2)
unfolding bit
bit-suc k w = ap (λ (x : ℕ). x % 2) (ap (λ (x : ℕ). w / x) (pow-succ' 2 k) ∙ sym (div-div-eq-div-mul w 2 (2 ^ k)))

half-lt : {a : ℕ} (k : ℕ) → a < 2 ^ suc k → a / 2 < 2 ^ k
half-lt {a} k h = shr_lt k 1 (subst (λ (x : ℕ). a < 2 ^ x) (sym (add-one k)) h)

ones-zero : ones 0 ≡ 0
unfolding ones
ones-zero = refl

pub bit-or : (k a b : ℕ) → bit k (bit_or a b) ≡ max (bit k a) (bit k b)
unfolding bit
bit-or k a b =
    ap (λ (x : ℕ). x % 2) (or_shr a b k ∙ or_step (a / 2 ^ k) (b / 2 ^ k))
    ∙ digits_mod (bit_or (a / 2 ^ k / 2) (b / 2 ^ k / 2)) (let p = bit-lt k a in let q = bit-lt k b in omega arith)

pub bit-and : (k a b : ℕ) → bit k (bit_and a b) ≡ min (bit k a) (bit k b)
unfolding bit
bit-and k a b =
    ap (λ (x : ℕ). x % 2) (and_shr a b k ∙ and_step (a / 2 ^ k) (b / 2 ^ k))
    ∙ digits_mod (bit_and (a / 2 ^ k / 2) (b / 2 ^ k / 2)) (let p = bit-lt k a in let q = bit-lt k b in omega arith)

-- what `a ^ (a & b)` keeps of a digit
differ-min : (x y : ℕ) → x < 2 → y < 2 → differ x (min x y) ≡ x - y
differ-min zero y p q = omega arith
differ-min (suc zero) zero p q = refl
differ-min (suc zero) (suc zero) p q = refl
differ-min (suc zero) (suc (suc y)) p q = absurd (omega arith)
differ-min (suc (suc x)) y p q = absurd (omega arith)

bit-xor : (k a b : ℕ) {d : ℕ} → differ (bit k a) (bit k b) ≡ d → d < 2 → bit k (bit_xor a b) ≡ d
unfolding bit
bit-xor k a b {d} e h =
    ap (λ (x : ℕ). x % 2) (xor_shr a b k ∙ xor_step (a / 2 ^ k) (b / 2 ^ k) ∙ ap (λ (x : ℕ). bit_xor (a / 2 ^ k / 2) (b / 2 ^ k / 2) * 2 + x) e)
    ∙ digits_mod (bit_xor (a / 2 ^ k / 2) (b / 2 ^ k / 2)) h

pub bit-clear : (k a b : ℕ) → bit k (clear a b) ≡ bit k a - bit k b
unfolding clear
bit-clear k a b =
    bit-xor k a (bit_and a b) (ap (differ (bit k a)) (bit-and k a b) ∙ differ-min (bit k a) (bit k b) (bit-lt k a) (bit-lt k b)) (let p = bit-lt k a in omega arith)

pub clear-lt : (k a b : ℕ) → a < 2 ^ k → b < 2 ^ k → clear a b < 2 ^ k
unfolding clear
clear-lt k a b ha hb = xor_lt k a (bit_and a b) ha (and_lt k a b ha hb)

pub bit-pow-same : (k : ℕ) → bit k (2 ^ k) ≡ 1
unfolding bit
bit-pow-same k = ap (λ (x : ℕ). x % 2) (div_self (pow_pos k))

-- the word 1 << k has the digit k alone
pub bit-pow-other : (j k : ℕ) → (j ≡ k → ⊥) → bit j (2 ^ k) ≡ 0
bit-pow-other zero zero h = absurd (h refl)
bit-pow-other zero (suc k) h = bit-low (2 ^ suc k) ∙ ap (λ (x : ℕ). x % 2) (pow-suc 2 k) ∙ mul-mod_left (2 ^ k) 2
bit-pow-other (suc j) zero h = bit-suc j 1 ∙ bit-zero j
bit-pow-other (suc j) (suc k) h =
    bit-suc j (2 ^ suc k) ∙ ap (bit j) (ap (λ (x : ℕ). x / 2) (pow-suc 2 k) ∙ mul-div_cancel (2 ^ k) (zero-lt-suc 1))
    ∙ bit-pow-other j k (λ e. h (ap suc e))

-- words of n digits with the same digits are equal
pub bit-ext : (n a b : ℕ) → a < 2 ^ n → b < 2 ^ n → ((k : ℕ) → k < n → bit k a ≡ bit k b) → a ≡ b
bit-ext zero a b ha hb h = lt-one ha ∙ sym (lt-one hb)
bit-ext (suc n) a b ha hb h =
    let low : a % 2 ≡ b % 2 = sym (bit-low a) ∙ h 0 (omega arith) ∙ bit-low b in
    let high : a / 2 ≡ b / 2 =
    bit-ext n (a / 2) (b / 2) (half-lt n ha) (half-lt n hb)
    (λ k l. sym (bit-suc k a) ∙ h (suc k) (omega arith) ∙ bit-suc k b) in
    omega arith

-- ---- how many of f's first n values are set

pub tally-ext : (f g : ℕ → ℕ) (n : ℕ) → ((k : ℕ) → k < n → f k ≡ g k) → tally f n ≡ tally g n
unfolding tally
tally-ext f g zero h = refl
tally-ext f g (suc n) h =
    ap₂ (λ (x y : ℕ). x + y) (h 0 (omega arith)) (tally-ext (λ k. f (suc k)) (λ k. g (suc k)) n (λ k l. h (suc k) (omega arith)))

pub tally-add : (f : ℕ → ℕ) (m n : ℕ) → tally f (m + n) ≡ tally f m + tally (λ k. f (m + k)) n
unfolding tally
tally-add f zero n = ap (tally f) (zero-add n) ∙ sym (zero-add _ ∙ tally-ext (λ k. f (0 + k)) f n (λ k l. ap f (zero-add k)))
tally-add f (suc m) n =
    ap (tally f) (suc-add m n) ∙ ap (λ (x : ℕ). f zero + x) (tally-add (λ k. f (suc k)) m n)
    ∙ sym (add_assoc (f zero) (tally (λ k. f (suc k)) m) (tally (λ k. f (suc (m + k))) n))
    ∙ ap (λ (x : ℕ). f zero + tally (λ k. f (suc k)) m + x) (tally-ext (λ k. f (suc (m + k))) (λ k. f (suc m + k)) n (λ k l. ap f (sym (suc-add m k))))

pub tally-le : (f g : ℕ → ℕ) (n : ℕ) → ((k : ℕ) → f k ≤ g k) → tally f n ≤ tally g n
unfolding tally
tally-le f g zero h = omega arith
tally-le f g (suc n) h =
    let a = h 0 in
    let b = tally-le (λ k. f (suc k)) (λ k. g (suc k)) n (λ k. h (suc k)) in
    omega arith

-- of two functions, one nowhere above the other, that have the same tally, each value is the same
pub tally-eq : (f g : ℕ → ℕ) (n : ℕ) → ((k : ℕ) → f k ≤ g k) → tally f n ≡ tally g n → (k : ℕ) → k < n → f k ≡ g k
unfolding tally
tally-eq f g zero h e k l = absurd (omega arith)
tally-eq f g (suc n) h e zero l =
    let a = h 0 in
    let b = tally-le (λ k. f (suc k)) (λ k. g (suc k)) n (λ k. h (suc k)) in
    omega arith
tally-eq f g (suc n) h e (suc k) l =
    let a = h 0 in
    let b = tally-le (λ k. f (suc k)) (λ k. g (suc k)) n (λ k. h (suc k)) in
    tally-eq (λ k. f (suc k)) (λ k. g (suc k)) n (λ k. h (suc k)) (omega arith) k (omega arith)

pub tally-bound : (f : ℕ → ℕ) (n : ℕ) → ((k : ℕ) → f k < 2) → tally f n ≤ n
unfolding tally
tally-bound f zero h = omega arith
tally-bound f (suc n) h = let a = h 0 in let b = tally-bound (λ k. f (suc k)) n (λ k. h (suc k)) in omega arith

-- the tally is 0 exactly if each value is
pub tally-none : (f : ℕ → ℕ) (n : ℕ) → ((k : ℕ) → k < n → f k ≡ 0) → tally f n ≡ 0
unfolding tally
tally-none f zero h = refl
tally-none f (suc n) h = let a = h 0 (omega arith) in let b = tally-none (λ k. f (suc k)) n (λ k l. h (suc k) (omega arith)) in omega arith

pub tally-zero : (f : ℕ → ℕ) (n : ℕ) → tally f n ≡ 0 → (k : ℕ) → k < n → f k ≡ 0
unfolding tally
tally-zero f zero e k l = absurd (omega arith)
tally-zero f (suc n) e zero l = omega arith
tally-zero f (suc n) e (suc k) l = tally-zero (λ k. f (suc k)) n (omega arith) k (omega arith)

-- one value more is set
pub tally-more : (f g : ℕ → ℕ) (n i : ℕ) → i < n → g i ≡ suc (f i) → ((k : ℕ) → (k ≡ i → ⊥) → g k ≡ f k) → tally g n ≡ suc (tally f n)
unfolding tally
tally-more f g zero i l e h = absurd (omega arith)
tally-more f g (suc n) zero l e h =
    let r = tally-ext (λ k. g (suc k)) (λ k. f (suc k)) n (λ k m. h (suc k) (λ q. omega arith)) in
    omega arith
tally-more f g (suc n) (suc i) l e h =
    let a = h 0 (λ q. omega arith) in
    let r = tally-more (λ k. f (suc k)) (λ k. g (suc k)) n i (omega arith) e (λ k q. h (suc k) (λ z. q (omega arith))) in
    omega arith

-- `count_ones` counts the digits of a word of n digits
pub ones-tally : (n w : ℕ) → w < 2 ^ n → ones w ≡ tally (λ k. bit k w) n
unfolding tally
ones-tally zero w h = ap ones (lt-one h) ∙ ones-zero
ones-tally (suc n) w h =
    ones_step w
    ∙ ap₂ (λ (x y : ℕ). x + y) (sym (bit-low w))
    (ones-tally n (w / 2) (half-lt n h) ∙ tally-ext (λ k. bit k (w / 2)) (λ k. bit (suc k) w) n (λ k l. sym (bit-suc k w)))

-- ---- the first number at which f is set

pub first-ext : (f g : ℕ → ℕ) (n : ℕ) → ((k : ℕ) → k < n → f k ≡ g k) → first f n ≡ first g n
unfolding first
first-ext f g zero h = refl
first-ext f g (suc n) h =
    ap₂ under (h 0 (omega arith)) (first-ext (λ k. f (suc k)) (λ k. g (suc k)) n (λ k l. h (suc k) (omega arith)))

pub first-none : (f : ℕ → ℕ) (m n : ℕ) → first f m ≡ m → first f (m + n) ≡ m + first (λ k. f (m + k)) n
unfolding first
first-none f zero n h = ap (first f) (zero-add n) ∙ sym (zero-add _ ∙ first-ext (λ k. f (0 + k)) f n (λ k l. ap f (zero-add k)))
first-none f (suc m) n h = ap (first f) (suc-add m n) ∙ go (f zero) h (first-none (λ k. f (suc k)) m n)
  where
    go : (d : ℕ) → under d (first (λ k. f (suc k)) m) ≡ suc m
        → (first (λ k. f (suc k)) m ≡ m → first (λ k. f (suc k)) (m + n) ≡ m + first (λ k. f (suc (m + k))) n) → under d (first (λ k. f (suc k)) (m + n)) ≡ suc m + first (λ k. f (suc m + k)) n
    go zero e ih =
        ap suc (ih (omega arith) ∙ ap (λ (x : ℕ). m + x) (first-ext (λ k. f (suc (m + k))) (λ k. f (suc m + k)) n (λ k l. ap f (sym (suc-add m k)))))
        ∙ sym (suc-add m _)
    go (suc d) e ih = absurd (omega arith)

pub first-some : (f : ℕ → ℕ) (m n : ℕ) → first f m < m → first f (m + n) ≡ first f m
unfolding first
first-some f zero n h = absurd (not-suc-le-zero h)
first-some f (suc m) n h = ap (first f) (suc-add m n) ∙ go (f zero) h (first-some (λ k. f (suc k)) m n)
  where
    go : (d : ℕ) → under d (first (λ k. f (suc k)) m) < suc m → (first (λ k. f (suc k)) m < m → first (λ k. f (suc k)) (m + n) ≡ first (λ k. f (suc k)) m)
        → under d (first (λ k. f (suc k)) (m + n)) ≡ under d (first (λ k. f (suc k)) m)
    go zero e ih = ap suc (ih (omega arith))
    go (suc d) e ih = refl

-- what `first` finds: nothing is set below it, and it is set where it is below n
pub first-below : (f : ℕ → ℕ) (n k : ℕ) → k < first f n → f k ≡ 0
unfolding first
first-below f zero k h = absurd (not-suc-le-zero h)
first-below f (suc n) k h = go (f zero) refl (first-below (λ i. f (suc i)) n) k h
  where
    go : (d : ℕ) → f zero ≡ d → ((j : ℕ) → j < first (λ i. f (suc i)) n → f (suc j) ≡ 0) → (j : ℕ) → j < under d (first (λ i. f (suc i)) n) → f j ≡ 0
    go zero e ih zero g = e
    go zero e ih (suc j) g = ih j (omega arith)
    go (suc d) e ih j g = absurd (not-suc-le-zero g)

pub first-found : (f : ℕ → ℕ) (n : ℕ) → first f n < n → f (first f n) ≡ 0 → ⊥
unfolding first
first-found f zero h = absurd (not-suc-le-zero h)
first-found f (suc n) h = go (f zero) refl h (first-found (λ i. f (suc i)) n)
  where
    go : (d : ℕ) → f zero ≡ d → under d (first (λ i. f (suc i)) n) < suc n
        → (first (λ i. f (suc i)) n < n → f (suc (first (λ i. f (suc i)) n)) ≡ 0 → ⊥) → f (under d (first (λ i. f (suc i)) n)) ≡ 0 → ⊥
    go zero e g ih z = ih (omega arith) z
    go (suc d) e g ih z = omega arith

pub first-le : (f : ℕ → ℕ) (n : ℕ) → first f n ≤ n
unfolding first
first-le f zero = omega arith
first-le f (suc n) = go (f zero) (first-le (λ k. f (suc k)) n)
  where
    go : (d : ℕ) → first (λ k. f (suc k)) n ≤ n → under d (first (λ k. f (suc k)) n) ≤ suc n
    go zero h = omega arith
    go (suc d) h = omega arith

-- `trailing_zeros` finds the first digit that is set
pub trailing-first : (n w : ℕ) → count_trailing_zeros n w ≡ first (λ k. bit k w) n
unfolding first count_trailing_zeros
trailing-first zero w = refl
trailing-first (suc n) w =
    ap₂ under (sym (bit-low w)) (trailing-first n (w / 2) ∙ first-ext (λ k. bit k (w / 2)) (λ k. bit (suc k) w) n (λ k l. sym (bit-suc k w)))

pub trailing-lt : (n w : ℕ) → w < 2 ^ n → 0 < w → count_trailing_zeros n w < n
unfolding count_trailing_zeros
trailing-lt zero w h p = absurd (let e = lt-one h in omega arith)
trailing-lt (suc n) w h p = go (w % 2) refl (λ q. trailing-lt n (w / 2) (half-lt n h) q)
  where
    go : (d : ℕ) → w % 2 ≡ d → (0 < w / 2 → count_trailing_zeros n (w / 2) < n) → under d (count_trailing_zeros n (w / 2)) < suc n
    go zero e ih = let l = ih (omega arith) in omega arith
    go (suc d) e ih = omega arith
