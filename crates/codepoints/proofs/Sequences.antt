-- One code point is one sequence of table 3-7: the bytes of a scalar value fit a row, and bytes that fit a row are those of a scalar value.
-- And the first code point can be read back from the bytes.
use Rattle.std.specs.Prelude.{◌≡◌, refl, Bool, true, false, cond, ◌&&◌, ◌||◌, ◌⊎◌, ℕ, zero, suc, ◌+◌, ◌-◌, ◌*◌, ◌/◌, ◌%◌, ◌≤◌, ◌<◌, leb, ltb, length, get_or}
use Rattle.std.proofs.Common.{sym, ap, subst, ◌∙◌, inl, inr, ⊎_elim, le_trans, lt_of_le_of_lt, arith, ltb-true, ltb-false, leb-true, lt-ltb, le-ltb, le-leb}
use Rattle.std.proofs.Math.Bool.{or-true}
use mathlib.Core.List.Memᴰ
use mathlib.Core.List.{List, [], ◌∷◌, ◌++◌, Memᴰ, append_cancel_left, cons≢nil}
use Rattle.order.specs.Truth.{both}
use Rattle.utf8.specs.Utf8.{Range, table, Fits, Fits.done, Fits.next}
use Rattle.codepoints.specs.CodePoints.{is_scalar, following, encode}
use Rattle.codepoints.specs.Sequences.{choice, of-two, of-three, of-four, Encoded}

-- by whether c is below n
on-either-side : {A : Type 0} (c n : ℕ) → (c < n → A) → (n ≤ c → A) → A
on-either-side {A} c n below above = go (ltb c n) refl
  where
    go : (t : Bool) → ltb c n ≡ t → A
    go true e = below (ltb-true c n e)
    go false e = above (ltb-false c n e)

-- ---- scalar values

-- two ranges with any bounds: what is asked of the bounds of `is_scalar` is then an inequality of numbers
in-first : (a b d c : ℕ) → c ≤ a → (leb c a || leb b c && leb c d) ≡ true
in-first a b d c h = rw (le-leb c a h)

in-second : (a b d c : ℕ) → b ≤ c → c ≤ d → (leb c a || leb b c && leb c d) ≡ true
in-second a b d c l h = rw (le-leb b c l, le-leb c d h, or-true (leb c a))

in-either : (a b d c : ℕ) → (leb c a || leb b c && leb c d) ≡ true → (c ≤ a) ⊎ ((b ≤ c) × (c ≤ d))
in-either a b d c e = go (leb c a) refl e
  where
    go : (t : Bool) → leb c a ≡ t → (t || leb b c && leb c d) ≡ true → (c ≤ a) ⊎ ((b ≤ c) × (c ≤ d))
    go true q e = inl (leb-true c a q)
    go false q e = let p = both (leb b c) (leb c d) e in inr (leb-true b c p.0, leb-true c d p.1)

scalar-low : (c : ℕ) → c < 0xD800 → is_scalar c ≡ true
unfolding is_scalar
scalar-low c h = in-first _ _ _ c (omega arith)

scalar-high : (c : ℕ) → 0xE000 ≤ c → c ≤ 0x10FFFF → is_scalar c ≡ true
unfolding is_scalar
scalar-high c l h = in-second _ _ _ c (omega arith) (omega arith)

scalar-last : (c : ℕ) → is_scalar c ≡ true → c ≤ 0x10FFFF
unfolding is_scalar
scalar-last c s =
    let r = in-either _ _ _ c s in
    ⊎_elim (λ h. omega arith) (λ b. omega (arith, b.1)) r

scalar-past : (c : ℕ) → is_scalar c ≡ true → 0xD800 ≤ c → 0xE000 ≤ c
unfolding is_scalar
scalar-past c s l =
    let r = in-either _ _ _ c s in
    ⊎_elim (λ h. omega arith) (λ b. omega (arith, b.0)) r

choice-one : (a b d c : ℕ) (w x y z : List ℕ) → c < a → choice a b d c w x y z ≡ w
choice-one a b d c w x y z h = rw (lt-ltb c a h)

choice-two : (a b d c : ℕ) (w x y z : List ℕ) → a ≤ c → c < b → choice a b d c w x y z ≡ x
choice-two a b d c w x y z l h = rw (le-ltb c a l, lt-ltb c b h)

choice-three : (a b d c : ℕ) (w x y z : List ℕ) → a ≤ c → b ≤ c → c < d → choice a b d c w x y z ≡ y
choice-three a b d c w x y z k l h = rw (le-ltb c a k, le-ltb c b l, lt-ltb c d h)

choice-four : (a b d c : ℕ) (w x y z : List ℕ) → a ≤ c → b ≤ c → d ≤ c → choice a b d c w x y z ≡ z
choice-four a b d c w x y z k l m = rw (le-ltb c a k, le-ltb c b l, le-ltb c d m)

encode-one : (c : ℕ) → c < 0x80 → encode c ≡ c ∷ []
unfolding encode
encode-one c h = choice-one _ _ _ c _ _ _ _ (omega arith)

encode-two : (c : ℕ) → 0x80 ≤ c → c < 0x800 → encode c ≡ (0xC0 + c / 0x40) ∷ (0x80 + c % 0x40) ∷ []
unfolding encode following
encode-two c l h = choice-two _ _ _ c _ _ _ _ (omega arith) (omega arith)

encode-three : (c : ℕ) → 0x800 ≤ c → c < 0x10000 → encode c ≡ (0xE0 + c / 0x1000) ∷ (0x80 + c / 0x40 % 0x40) ∷ (0x80 + c % 0x40) ∷ []
unfolding encode following
encode-three c l h = choice-three _ _ _ c _ _ _ _ (omega arith) (omega arith) (omega arith)

encode-four : (c : ℕ) → 0x10000 ≤ c → encode c ≡ (0xF0 + c / 0x40000) ∷ (0x80 + c / 0x1000 % 0x40) ∷ (0x80 + c / 0x40 % 0x40) ∷ (0x80 + c % 0x40) ∷ []
unfolding encode following
encode-four c l = choice-four _ _ _ c _ _ _ _ (omega arith) (omega arith) (omega arith)

-- ---- the bytes of a scalar value fit a row

-- a row of the table, by its number
listed : (rows : List (List Range)) (k : ℕ) → k < length rows → Memᴰ (get_or rows k []) rows
listed [] k h = absurd (omega arith)
listed (row ∷ rows) zero h = Memᴰ.head refl
listed (row ∷ rows) (suc k) h = Memᴰ.tail (listed rows k (omega arith))

-- the bytes are a sequence of the table
pub record Stands (xs : List ℕ) : Type 0 where
  pub row : List Range
  pub listed : Memᴰ row table
  pub fits : Fits row xs

-- a sequence of each length, for ranges that hold the bytes

one-stands : (c : ℕ) (r : Range) → Memᴰ (r ∷ []) table → c < 0x80 → r.lo ≤ c → c ≤ r.hi → Stands (encode c)
one-stands c r m h p₁ p₂ = subst Stands (sym (encode-one c h)) (record { row = _; listed = m; fits = next p₁ p₂ done })

two-stands : (c : ℕ) (r q : Range) → Memᴰ (r ∷ q ∷ []) table → 0x80 ≤ c → c < 0x800 → r.lo ≤ 0xC0 + c / 0x40 → 0xC0 + c / 0x40 ≤ r.hi
    → q.lo ≤ 0x80 → 0xBF ≤ q.hi → Stands (encode c)
two-stands c r q m l h p₁ p₂ p₃ p₄ = subst Stands (sym (encode-two c l h)) (record {
  row = r ∷ q ∷ [];
  listed = m;
  fits = next p₁ p₂ (next {b = 0x80 + c % 0x40} (omega arith) (omega arith) done);
})

three-stands : (c : ℕ) (r q p : Range) → Memᴰ (r ∷ q ∷ p ∷ []) table → 0x800 ≤ c → c < 0x10000 → r.lo ≤ 0xE0 + c / 0x1000 → 0xE0 + c / 0x1000 ≤ r.hi
    → q.lo ≤ 0x80 + c / 0x40 % 0x40 → 0x80 + c / 0x40 % 0x40 ≤ q.hi → p.lo ≤ 0x80 → 0xBF ≤ p.hi → Stands (encode c)
three-stands c r q p m l h p₁ p₂ p₃ p₄ p₅ p₆ = subst Stands (sym (encode-three c l h)) (record {
  row = r ∷ q ∷ p ∷ [];
  listed = m;
  fits = next p₁ p₂ (next p₃ p₄ (next {b = 0x80 + c % 0x40} (omega arith) (omega arith) done));
})

four-stands : (c : ℕ) (r q p o : Range) → Memᴰ (r ∷ q ∷ p ∷ o ∷ []) table → 0x10000 ≤ c → r.lo ≤ 0xF0 + c / 0x40000 → 0xF0 + c / 0x40000 ≤ r.hi
    → q.lo ≤ 0x80 + c / 0x1000 % 0x40 → 0x80 + c / 0x1000 % 0x40 ≤ q.hi → p.lo ≤ 0x80 → 0xBF ≤ p.hi → o.lo ≤ 0x80 → 0xBF ≤ o.hi → Stands (encode c)
four-stands c r q p o m l p₁ p₂ p₃ p₄ p₅ p₆ p₇ p₈ = subst Stands (sym (encode-four c l)) (record {
  row = r ∷ q ∷ p ∷ o ∷ [];
  listed = m;
  fits = next p₁ p₂ (next p₃ p₄ (next {b = 0x80 + c / 0x40 % 0x40} (omega arith) (omega arith) (next {b = 0x80 + c % 0x40} (omega arith) (omega arith) done)));
})

-- THE BYTES OF A SCALAR VALUE ARE A SEQUENCE OF THE TABLE
pub encode-stands : (c : ℕ) → is_scalar c ≡ true → Stands (encode c)
unfolding table
encode-stands c s =
    let n = scalar-last c s in
    on-either-side c 0x80 (λ h. one-stands c _ (listed table 0 (omega arith)) (omega arith) (omega arith) (omega arith)) (λ l.
    on-either-side c 0x800 (λ h. two-stands c _ _ (listed table 1 (omega arith)) (omega arith) (omega arith) (omega arith) (omega arith) (omega arith) (omega arith)) (λ l.
    on-either-side c 0x1000 (λ h. three-stands c _ _ _ (listed table 2 (omega arith)) (omega arith) (omega arith) (omega arith) (omega arith) (omega arith) (omega arith) (omega arith) (omega arith)) (λ l.
    on-either-side c 0xD000 (λ h. three-stands c _ _ _ (listed table 3 (omega arith)) (omega arith) (omega arith) (omega arith) (omega arith) (omega arith) (omega arith) (omega arith) (omega arith)) (λ l.
    on-either-side c 0xD800 (λ h. three-stands c _ _ _ (listed table 4 (omega arith)) (omega arith) (omega arith) (omega arith) (omega arith) (omega arith) (omega arith) (omega arith) (omega arith)) (λ l.
    let l = scalar-past c s l in
    on-either-side c 0x10000 (λ h. three-stands c _ _ _ (listed table 5 (omega arith)) (omega arith) (omega arith) (omega arith) (omega arith) (omega arith) (omega arith) (omega arith) (omega arith)) (λ l.
    on-either-side c 0x40000 (λ h. four-stands c _ _ _ _ (listed table 6 (omega arith)) (omega arith) (omega arith) (omega arith) (omega arith) (omega arith) (omega arith) (omega arith) (omega arith) (omega arith)) (λ l.
    on-either-side c 0x100000 (λ h. four-stands c _ _ _ _ (listed table 7 (omega arith)) (omega arith) (omega arith) (omega arith) (omega arith) (omega arith) (omega arith) (omega arith) (omega arith) (omega arith)) (λ l.
    four-stands c _ _ _ _ (listed table 8 (omega arith)) (omega arith) (omega arith) (omega arith) (omega arith) (omega arith) (omega arith) (omega arith) (omega arith) (omega arith)))))))))

-- larger bytes make larger code points

of-three-le : {a b c a' b' c' : ℕ} → a ≤ a' → b ≤ b' → c ≤ c' → of-three a b c ≤ of-three a' b' c'
of-three-le h₁ h₂ h₃ = omega arith

less : (a b k : ℕ) → a ≤ b → a - k ≤ b - k
less a b k h = omega arith

sums : {a b c d a' b' c' d' : ℕ} → a ≤ a' → b ≤ b' → c ≤ c' → d ≤ d' → a * 0x40000 + b * 0x1000 + c * 0x40 + d ≤ a' * 0x40000 + b' * 0x1000 + c' * 0x40 + d'
sums h₁ h₂ h₃ h₄ = omega arith

of-four-le : {a b c d a' b' c' d' : ℕ} → a ≤ a' → b ≤ b' → c ≤ c' → d ≤ d' → of-four a b c d ≤ of-four a' b' c' d'
of-four-le {a} {b} {c} {d} {a'} {b'} {c'} {d'} h₁ h₂ h₃ h₄ = sums (less a a' 0xF0 h₁) (less b b' 0x80 h₂) (less c c' 0x80 h₃) (less d d' 0x80 h₄)

two-encoded : (a b : ℕ) → 0xC2 ≤ a → a ≤ 0xDF → 0x80 ≤ b → b ≤ 0xBF → Encoded (a ∷ b ∷ [])
two-encoded a b l₁ h₁ l₂ h₂ =
    let n = of-two a b in
    let p : a ≡ 0xC0 + n / 0x40 = omega arith in
    let q : b ≡ 0x80 + n % 0x40 = omega arith in
    let e = encode-two n (omega arith) (omega arith) in
    record { code = n; scalar = scalar-low n (omega arith); bytes = cc }

three-encoded : (a b c : ℕ) → 0xE0 ≤ a → a ≤ 0xEF → 0x80 ≤ b → b ≤ 0xBF → 0x80 ≤ c → c ≤ 0xBF → 0x800 ≤ of-three a b c → is_scalar (of-three a b c) ≡ true
    → Encoded (a ∷ b ∷ c ∷ [])
three-encoded a b c l₁ h₁ l₂ h₂ l₃ h₃ l s =
    let n = of-three a b c in
    let p : a ≡ 0xE0 + n / 0x1000 = omega arith in
    let q : b ≡ 0x80 + n / 0x40 % 0x40 = omega arith in
    let r : c ≡ 0x80 + n % 0x40 = omega arith in
    let e = encode-three n l (omega arith) in
    record { code = n; scalar = s; bytes = cc }

four-encoded : (a b c d : ℕ) → 0xF0 ≤ a → 0x80 ≤ b → b ≤ 0xBF → 0x80 ≤ c → c ≤ 0xBF → 0x80 ≤ d → d ≤ 0xBF → 0x10000 ≤ of-four a b c d → of-four a b c d ≤ 0x10FFFF
    → Encoded (a ∷ b ∷ c ∷ d ∷ [])
four-encoded a b c d l₁ l₂ h₂ l₃ h₃ l₄ h₄ l h =
    let n = of-four a b c d in
    let p : a ≡ 0xF0 + n / 0x40000 = omega arith in
    let q : b ≡ 0x80 + n / 0x1000 % 0x40 = omega arith in
    let r : c ≡ 0x80 + n / 0x40 % 0x40 = omega arith in
    let t : d ≡ 0x80 + n % 0x40 = omega arith in
    let e = encode-four n l in
    record { code = n; scalar = scalar-high n (omega arith) h; bytes = cc }

-- a row of each length, by the first and the last code point of its bytes

row-one : {xs : List ℕ} (r : Range) → r.hi ≤ 0x7F → Fits (r ∷ []) xs → Encoded xs
row-one r k (next {b = a} l h done) = record { code = a; scalar = scalar-low a (omega arith); bytes = sym (encode-one a (omega arith)) }

row-two : {xs : List ℕ} (r q : Range) → 0xC2 ≤ r.lo → r.hi ≤ 0xDF → 0x80 ≤ q.lo → q.hi ≤ 0xBF → Fits (r ∷ q ∷ []) xs → Encoded xs
row-two r q k₁ k₂ k₃ k₄ (next {b = a} l₁ h₁ (next {b = b} l₂ h₂ done)) = two-encoded a b (omega arith) (omega arith) (omega arith) (omega arith)

-- before the surrogates
row-low : {xs : List ℕ} (r q p : Range) → 0xE0 ≤ r.lo → r.hi ≤ 0xEF → 0x80 ≤ q.lo → q.hi ≤ 0xBF → 0x80 ≤ p.lo → p.hi ≤ 0xBF
    → 0x800 ≤ of-three r.lo q.lo p.lo → of-three r.hi q.hi p.hi < 0xD800 → Fits (r ∷ q ∷ p ∷ []) xs → Encoded xs
row-low r q p k₁ k₂ k₃ k₄ k₅ k₆ k₇ k₈ (next {b = a} l₁ h₁ (next {b = b} l₂ h₂ (next {b = c} l₃ h₃ done))) =
    let s = scalar-low (of-three a b c) (lt_of_le_of_lt (of-three-le h₁ h₂ h₃) k₈) in
    three-encoded a b c (le_trans k₁ l₁) (le_trans h₁ k₂) (le_trans k₃ l₂) (le_trans h₂ k₄) (le_trans k₅ l₃) (le_trans h₃ k₆) (le_trans k₇ (of-three-le l₁ l₂ l₃)) s

-- after them
row-high : {xs : List ℕ} (r q p : Range) → 0xE0 ≤ r.lo → r.hi ≤ 0xEF → 0x80 ≤ q.lo → q.hi ≤ 0xBF → 0x80 ≤ p.lo → p.hi ≤ 0xBF
    → 0xE000 ≤ of-three r.lo q.lo p.lo → of-three r.hi q.hi p.hi ≤ 0xFFFF → Fits (r ∷ q ∷ p ∷ []) xs → Encoded xs
row-high r q p k₁ k₂ k₃ k₄ k₅ k₆ k₇ k₈ (next {b = a} l₁ h₁ (next {b = b} l₂ h₂ (next {b = c} l₃ h₃ done))) =
    let n = of-three a b c in
    let first : 0xE000 ≤ n = le_trans k₇ (of-three-le l₁ l₂ l₃) in
    let last : n ≤ 0xFFFF = le_trans (of-three-le h₁ h₂ h₃) k₈ in
    three-encoded a b c (le_trans k₁ l₁) (le_trans h₁ k₂) (le_trans k₃ l₂) (le_trans h₂ k₄) (le_trans k₅ l₃) (le_trans h₃ k₆) (omega arith) (scalar-high n first (omega arith))

row-four : {xs : List ℕ} (r q p o : Range) → 0xF0 ≤ r.lo → 0x80 ≤ q.lo → q.hi ≤ 0xBF → 0x80 ≤ p.lo → p.hi ≤ 0xBF → 0x80 ≤ o.lo → o.hi ≤ 0xBF
    → 0x10000 ≤ of-four r.lo q.lo p.lo o.lo → of-four r.hi q.hi p.hi o.hi ≤ 0x10FFFF → Fits (r ∷ q ∷ p ∷ o ∷ []) xs → Encoded xs
row-four r q p o k₁ k₂ k₃ k₄ k₅ k₆ k₇ k₈ k₉ (next {b = a} l₁ h₁ (next {b = b} l₂ h₂ (next {b = c} l₃ h₃ (next {b = d} l₄ h₄ done)))) =
    four-encoded a b c d (le_trans k₁ l₁) (le_trans k₂ l₂) (le_trans h₂ k₃) (le_trans k₄ l₃) (le_trans h₃ k₅) (le_trans k₆ l₄) (le_trans h₄ k₇) (le_trans k₈ (of-four-le l₁ l₂ l₃ l₄)) (le_trans (of-four-le h₁ h₂ h₃ h₄) k₉)

-- what holds of each row of a list
abbrev Each : (List Range → Type 0) → List (List Range) → Type 0
Each P [] = Unit {0}
Each P (row ∷ rows) = P row × Each P rows

each-at : (P : List Range → Type 0) (rows : List (List Range)) {row : List Range} → Each P rows → Memᴰ row rows → P row
each-at P [] t m = absurd (Memᴰ.not-nil m)
each-at P (row ∷ rows) t (Memᴰ.head e) = subst P (sym e) t.0
each-at P (row ∷ rows) t (Memᴰ.tail m) = each-at P rows t.1 m

-- BYTES THAT FIT A ROW OF THE TABLE ARE THOSE OF A SCALAR VALUE
pub fits-encoded : {row : List Range} {xs : List ℕ} → Memᴰ row table → Fits row xs → Encoded xs
unfolding table
fits-encoded {row} {xs} m f = each-at (λ (r : List Range). Fits r xs → Encoded xs) table (
  row-one _ (omega arith),
  (
    row-two _ _ (omega arith) (omega arith) (omega arith) (omega arith),
    (
      row-low _ _ _ (omega arith) (omega arith) (omega arith) (omega arith) (omega arith) (omega arith) (omega arith) (omega arith),
      (
        row-low _ _ _ (omega arith) (omega arith) (omega arith) (omega arith) (omega arith) (omega arith) (omega arith) (omega arith),
        (
          row-low _ _ _ (omega arith) (omega arith) (omega arith) (omega arith) (omega arith) (omega arith) (omega arith) (omega arith),
          (
            row-high _ _ _ (omega arith) (omega arith) (omega arith) (omega arith) (omega arith) (omega arith) (omega arith) (omega arith),
            (
              row-four _ _ _ _ (omega arith) (omega arith) (omega arith) (omega arith) (omega arith) (omega arith) (omega arith) (omega arith) (omega arith),
              (
                row-four _ _ _ _ (omega arith) (omega arith) (omega arith) (omega arith) (omega arith) (omega arith) (omega arith) (omega arith) (omega arith),
                (
                  row-four _ _ _ _ (omega arith) (omega arith) (omega arith) (omega arith) (omega arith) (omega arith) (omega arith) (omega arith) (omega arith),
                  tt,
                ),
              ),
            ),
          ),
        ),
      ),
    ),
  ),
) m f

-- ---- the first code point, read back

-- the code point at the front of bytes that begin with one
first_code : List ℕ → ℕ
first_code xs =
    let a = get_or xs 0 0 in
    let b = get_or xs 1 0 in
    let c = get_or xs 2 0 in
    cond (ltb a 0x80) a (cond (ltb a 0xE0) (of-two a b) (cond (ltb a 0xF0) (of-three a b c) (of-four a b c (get_or xs 3 0))))

one-read : (c : ℕ) (ys : List ℕ) → c < 0x80 → first_code (encode c ++ ys) ≡ c
unfolding first_code
one-read c ys h = rw (encode-one c h, lt-ltb c 0x80 h)

two-read : (c : ℕ) (ys : List ℕ) → 0x80 ≤ c → c < 0x800 → first_code (encode c ++ ys) ≡ c
unfolding first_code
two-read c ys l h =
    let a = 0xC0 + c / 0x40 in
    rw (encode-two c l h, le-ltb a 0x80 (omega arith), lt-ltb a 0xE0 (omega arith)) (omega arith)

three-read : (c : ℕ) (ys : List ℕ) → 0x800 ≤ c → c < 0x10000 → first_code (encode c ++ ys) ≡ c
unfolding first_code
three-read c ys l h =
    let a = 0xE0 + c / 0x1000 in
    rw (encode-three c l h, le-ltb a 0x80 (omega arith), le-ltb a 0xE0 (omega arith), lt-ltb a 0xF0 (omega arith)) (omega arith)

-- the groups of six bits make the number again
groups : (c : ℕ) → of-four (0xF0 + c / 0x40000) (0x80 + c / 0x1000 % 0x40) (0x80 + c / 0x40 % 0x40) (0x80 + c % 0x40) ≡ c
groups c =
    let p : c / 0x40 / 0x40 ≡ c / 0x1000 = omega arith in
    let q : c / 0x1000 / 0x40 ≡ c / 0x40000 = omega arith in
    omega arith

four-read : (c : ℕ) (ys : List ℕ) → 0x10000 ≤ c → first_code (encode c ++ ys) ≡ c
unfolding first_code
four-read c ys l =
    let a = 0xF0 + c / 0x40000 in
    rw (encode-four c l, le-ltb a 0x80 (omega arith), le-ltb a 0xE0 (omega arith), le-ltb a 0xF0 (omega arith)) (groups c)

first-read : (c : ℕ) (ys : List ℕ) → first_code (encode c ++ ys) ≡ c
first-read c ys =
    on-either-side c 0x80 (λ h. one-read c ys h) (λ l.
    on-either-side c 0x800 (λ h. two-read c ys l h) (λ l.
    on-either-side c 0x10000 (λ h. three-read c ys l h) (λ l. four-read c ys l)))

-- WHAT BEGINS WITH THE BYTES OF A CODE POINT BEGINS WITH THOSE OF NO OTHER
pub encode-first : (c d : ℕ) (ys zs : List ℕ) → encode c ++ ys ≡ encode d ++ zs → (c ≡ d) × (ys ≡ zs)
encode-first c d ys zs e =
    let p : c ≡ d = sym (first-read c ys) ∙ ap first_code e ∙ first-read d zs in
    (p, append_cancel_left (encode d) ys zs (subst (λ (x : ℕ). encode x ++ ys ≡ encode d ++ zs) p e))

-- no code point is without bytes
pub encode-some : (c : ℕ) (ys : List ℕ) → encode c ++ ys ≡ [] → ⊥
unfolding first_code encode
encode-some c ys e =
    let p : c ≡ 0 = sym (first-read c ys) ∙ ap first_code e in
    cons≢nil (subst (λ (x : ℕ). encode x ++ ys ≡ []) p e)
