-- The rows of Unicode's table: the test of a row is its relation, at most one row matches, and only the first row has bytes below 80.
use Rattle.std.specs.Prelude.{◌≡◌, refl, Bool, true, false, cond, ◌&&◌, ℕ, zero, suc, ◌≤◌, ◌<◌, T, leb, ltb, length, take, drop}
use Rattle.std.proofs.Common.{sym, ap, subst, ◌∙◌, arith, ltb→lt, leb→le, le-leb, leb-true}
use Rattle.std.proofs.lemmas.Bool.{false≢true, lt-leb}
use Rattle.std.proofs.Math.Bool.{and-false}
use mathlib.Core.List.Memᴰ
use mathlib.Core.List.{List, [], ◌∷◌, ◌++◌, Memᴰ}
use Rattle.order.specs.Truth.{both}
use Rattle.utf8.specs.Utf8.{Range, ◌‥◌, table, within, matches, first_match, sequence, Fits, Fits.done, Fits.next}

T-parts : (a b : Bool) → T (a && b) → T a × T b
T-parts true b h = (tt, h)
T-parts false b h = absurd h

-- ---- one row: the test `matches` and the relation `Fits`

within-yes : (r : Range) (b : ℕ) → r.lo ≤ b → b ≤ r.hi → within r b ≡ true
unfolding within
within-yes r b l h = rw (le-leb r.lo b l, le-leb b r.hi h)

within-above : (r : Range) (b : ℕ) → r.hi < b → within r b ≡ false
unfolding within
within-above r b h = rw (lt-leb b r.hi h) (and-false (leb r.lo b))

within-below : (r : Range) (b : ℕ) → b < r.lo → within r b ≡ false
unfolding within
within-below r b h = rw (lt-leb r.lo b h)

pub fits-matches : {row : List Range} {xs : List ℕ} → Fits row xs → (ys : List ℕ) → matches row (xs ++ ys) ≡ true
unfolding matches
fits-matches done ys = refl
fits-matches (next {r} {b = b} l h f) ys = rw (within-yes r b l h) (fits-matches f ys)

pub fits-length : {row : List Range} {xs : List ℕ} → Fits row xs → length xs ≡ length row
fits-length done = refl
fits-length (next l h f) = ap suc (fits-length f)

pub matches-fits : (row : List Range) (bs : List ℕ) → matches row bs ≡ true → Fits row (take (length row) bs)
unfolding matches within
matches-fits [] bs e = done
matches-fits (r ∷ row) [] e = absurd (false≢true e)
matches-fits (r ∷ row) (b ∷ bs) e =
    let p = both (within r b) (matches row bs) e in
    let q = both (leb r.lo b) (leb b r.hi) p.0 in
    next (leb-true r.lo b q.0) (leb-true b r.hi q.1) (matches-fits row bs p.1)

pub matches-le : (row : List Range) (bs : List ℕ) → matches row bs ≡ true → length row ≤ length bs
unfolding matches
matches-le [] bs e = omega arith
matches-le (r ∷ row) [] e = absurd (false≢true e)
matches-le (r ∷ row) (b ∷ bs) e =
    let ih = matches-le row bs (both (within r b) (matches row bs) e).1 in
    omega arith

-- ---- the rows of the table, by tests of the whole table

every {ℓ} : {A : Type ℓ} → (A → Bool) → List A → Bool
every p [] = true
every p (x ∷ xs) = p x && every p xs

every-at {ℓ} : {A : Type ℓ} (p : A → Bool) {x : A} {xs : List A} → T (every p xs) → Memᴰ x xs → T (p x)
unfolding every
every-at {A = A} p {xs = []} h x6 = elim x6 [ ]
every-at p {xs = y ∷ ys} h (Memᴰ.head e) = subst (λ z. T (p z)) (sym e) (T-parts (p y) (every p ys) h).0
every-at p {xs = y ∷ ys} h (Memᴰ.tail m) = every-at p (T-parts (p y) (every p ys) h).1 m

-- the row's first byte is above n
starts_above : ℕ → List Range → Bool
starts_above n [] = false
starts_above n (r ∷ row) = ltb n r.lo

-- each row's first bytes are below those of the rows after it
starts_apart : List Range → List (List Range) → Bool
starts_apart [] rows = false
starts_apart (r ∷ row) rows = every (starts_above r.hi) rows

apart : List (List Range) → Bool
apart [] = true
apart (row ∷ rows) = starts_apart row rows && apart rows

none-above : (n a : ℕ) (bs : List ℕ) (rows : List (List Range)) → a ≤ n → T (every (starts_above n) rows) → first_match rows (a ∷ bs) ≡ 0
unfolding first_match matches every starts_above
none-above n a bs [] h t = refl
none-above n a bs ([] ∷ rows) h t = absurd t
none-above n a bs ((r ∷ row) ∷ rows) h t =
    let p = T-parts (ltb n r.lo) (every (starts_above n) rows) t in
    let l = ltb→lt n r.lo p.0 in
    rw (within-below r a (omega arith)) (none-above n a bs rows h p.1)

-- where a row of the table has the first byte in its first range, no other row matches
only-row : (r : Range) (row : List Range) (a : ℕ) (bs : List ℕ) {rows : List (List Range)} → r.lo ≤ a → a ≤ r.hi → T (apart rows)
    → Memᴰ (r ∷ row) rows → first_match rows (a ∷ bs) ≡ cond (matches row bs) (suc (length row)) 0
unfolding apart starts_apart first_match matches starts_above
only-row r row a bs {rows = []} l h t x11 = elim x11 [ ]
only-row r row a bs {rows = x ∷ rows} l h t (Memᴰ.head e) =
    subst (λ (y : List Range). T (starts_apart y rows && apart rows) → first_match (y ∷ rows) (a ∷ bs) ≡ cond (matches row bs) (suc (length row)) 0) e
    (λ u. rw (within-yes r a l h, none-above r.hi a bs rows h (T-parts (every (starts_above r.hi) rows) (apart rows) u).0)) t
only-row r row a bs {rows = [] ∷ rows} l h t (Memᴰ.tail m) = absurd t
only-row r row a bs {rows = (q ∷ x) ∷ rows} l h t (Memᴰ.tail m) =
    let p = T-parts (every (starts_above q.hi) rows) (apart rows) t in
    let k = ltb→lt q.hi r.lo (every-at (starts_above q.hi) p.0 m) in
    rw (within-above q a (omega arith)) (only-row r row a bs l h p.1 m)

-- AT MOST ONE ROW MATCHES: the first byte says which
pub sequence-row : (r : Range) (row : List Range) (a : ℕ) (bs : List ℕ) → Memᴰ (r ∷ row) table → r.lo ≤ a → a ≤ r.hi
    → sequence (a ∷ bs) ≡ cond (matches row bs) (suc (length row)) 0
unfolding sequence table apart starts_apart every starts_above
sequence-row r row a bs m l h = only-row r row a bs l h tt m

-- no row begins with a byte between the first row's and the second's
pub sequence-gap : (a : ℕ) (bs : List ℕ) → 0x80 ≤ a → a < 0xC2 → sequence (a ∷ bs) ≡ 0
unfolding sequence table first_match matches every starts_above
sequence-gap a bs l h = rw (within-above (0x00 ‥ 0x7F) a l) (none-above 0xC1 a bs (drop 1 table) (omega arith) tt)

-- the row's first byte is below n
starts_below : ℕ → List Range → Bool
starts_below n [] = false
starts_below n (r ∷ row) = ltb r.hi n

none-below : (n a : ℕ) (bs : List ℕ) (rows : List (List Range)) → n ≤ a → T (every (starts_below n) rows) → first_match rows (a ∷ bs) ≡ 0
unfolding first_match matches every starts_below
none-below n a bs [] h t = refl
none-below n a bs ([] ∷ rows) h t = absurd t
none-below n a bs ((r ∷ row) ∷ rows) h t =
    let p = T-parts (ltb r.hi n) (every (starts_below n) rows) t in
    let l = ltb→lt r.hi n p.0 in
    rw (within-above r a (omega arith)) (none-below n a bs rows h p.1)

-- no row begins with a byte above the last row's
pub sequence-past : (a : ℕ) (bs : List ℕ) → 0xF5 ≤ a → sequence (a ∷ bs) ≡ 0
unfolding sequence table every starts_below
sequence-past a bs h = none-below 0xF5 a bs table h tt

-- ---- the sequence at the front

-- no row is empty
pub fits-some : {row : List Range} {xs : List ℕ} → Memᴰ row table → Fits row xs → length xs ≡ 0 → ⊥
unfolding table every starts_below
fits-some m done e = every-at (starts_below 0xF5) {xs = table} tt m
fits-some m (next l h f) e = omega (arith, e)

pub sequence-fits : {row : List Range} {xs : List ℕ} (ys : List ℕ) → Memᴰ row table → Fits row xs → sequence (xs ++ ys) ≡ length xs
sequence-fits ys m done = absurd (fits-some m done refl)
sequence-fits {row = r ∷ row} {xs = b ∷ xs} ys m (next l h f) =
    sequence-row r row b (xs ++ ys) m l h ∙ rw (fits-matches f ys) (ap suc (sym (fits-length f)))

first-found : (rows : List (List Range)) (bs : List ℕ) (n : ℕ) → first_match rows bs ≡ suc n
    → (row : List Range) × Memᴰ row rows × (matches row bs ≡ true) × (length row ≡ suc n)
unfolding first_match
first-found [] bs n e = absurd (omega (arith, e))
first-found (row ∷ rows) bs n e = go (matches row bs) refl e (first-found rows bs n)
  where
    go : (t : Bool) → matches row bs ≡ t → cond t (length row) (first_match rows bs) ≡ suc n
        → (first_match rows bs ≡ suc n → (x : List Range) × Memᴰ x rows × (matches x bs ≡ true) × (length x ≡ suc n))
        → (x : List Range) × Memᴰ x (row ∷ rows) × (matches x bs ≡ true) × (length x ≡ suc n)
    go true q p later = (row, Memᴰ.head refl, q, p)
    go false q p later = let w = later p in (w.0, Memᴰ.tail w.1, w.2, w.3)

-- a sequence found is a row's, and stands whole at the front
pub sequence-found : (bs : List ℕ) (n : ℕ) → sequence bs ≡ suc n → (row : List Range) × Memᴰ row table × Fits row (take (suc n) bs) × (suc n ≤ length bs)
unfolding sequence
sequence-found bs n e =
    let w = first-found table bs n e in
    (w.0, w.1, subst (λ (k : ℕ). Fits w.0 (take k bs)) w.3 (matches-fits w.0 bs w.2), subst (λ (k : ℕ). k ≤ length bs) w.3 (matches-le w.0 bs w.2))

pub sequence-le : (bs : List ℕ) → sequence bs ≤ length bs
sequence-le bs = go (sequence bs) refl
  where
    go : (n : ℕ) → sequence bs ≡ n → n ≤ length bs
    go zero e = omega arith
    go (suc n) e = (sequence-found bs n e).3

-- ---- the bytes of longer sequences: each range of a row of two or more bytes starts at 80 or above

is_high : Range → Bool
is_high r = leb 0x80 r.lo

high_if_long : List Range → Bool
high_if_long [] = true
high_if_long (r ∷ []) = true
high_if_long (r ∷ q ∷ row) = every is_high (r ∷ q ∷ row)

fits-high : {row : List Range} {xs : List ℕ} {b : ℕ} → T (every is_high row) → Fits row xs → Memᴰ b xs → 0x80 ≤ b
unfolding every is_high
fits-high t done k = absurd (Memᴰ.not-nil k)
fits-high t (next {r} {row} l h f) (Memᴰ.head e) =
    let k = leb→le 0x80 r.lo (T-parts (is_high r) (every is_high row) t).0 in
    omega arith
fits-high t (next {r} {row} l h f) (Memᴰ.tail m) = fits-high (T-parts (is_high r) (every is_high row) t).1 f m

-- NO BYTE OF A LONGER SEQUENCE IS BELOW 80
pub long-high : {row : List Range} {xs : List ℕ} {b : ℕ} → Memᴰ row table → Fits row xs → 2 ≤ length xs → Memᴰ b xs → 0x80 ≤ b
unfolding table high_if_long every is_high
long-high m done l k = absurd (omega arith)
long-high m (next p q done) l k = absurd (omega arith)
long-high m (next p q (next p' q' f)) l k = fits-high (every-at high_if_long {xs = table} tt m) (next p q (next p' q' f)) k
