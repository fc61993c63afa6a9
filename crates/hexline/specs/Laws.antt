-- Laws of hex lines, as the code meets them: digits, a pair of digits at a time, a slice filled from the front.
use Rattle.std.specs.Prelude.{◌≡◌, refl, Bool, ◌&&◌, List, [], ◌∷◌, ◌++◌, ℕ, suc, ◌+◌, ◌-◌, ◌*◌, ◌%◌, ◌≤◌, ◌<◌, take, drop, get_or, set}
use Rattle.std.proofs.Math.Path.{sym, ap, ap₂}
use Rattle.std.specs.List.{list_all}
use Rattle.std.specs.Int.{from_be_bytes, w64}
use Rattle.std.proofs.Common.{◌∙◌, true≢false, append_assoc, append-nil, add-one, length-set, take-append-drop, drop_of_length-le, drop-cons, drop-drop, take-suc-set, drop-set-lt, length-take-le}
use Rattle.std.proofs.Math.Bool.{true, false, cond}
use Rattle.std.proofs.Math.Option.{Option, some, none}
use native.Mathlib.Omega.{arith}
use Rattle.std.proofs.Math.Dec.{leb, ltb}
use Rattle.std.proofs.Math.ListN.{length}
use borrow.Author.Tests.{le-leb, lt-leb, leb-true, leb-false, le-ltb, lt-ltb}
use Rattle.hexline.specs.Hex.{digit, byte_then, hex_bytes, bad_hex, number_at, numbers_in, bytes_number, is_hex, bytes_of, in_front, Reads}

-- ---- digits

abbrev pub is_digit : Option ℕ → Bool
is_digit none = false
is_digit (some d) = true

abbrev pub value_of : Option ℕ → ℕ
value_of none = 0
value_of (some d) = d

module _ (b : ℕ) where
  pub digit-number : 48 ≤ b → b ≤ 57 → digit b ≡ some (b - 48)
  unfolding digit
  digit-number h k = ap₂ (λ (p q : Bool). cond (p && q) (some (b - 48)) (cond (leb 97 b && leb b 102) (some (b - 87)) none)) (le-leb 48 b h) (le-leb b 57 k)

  pub digit-letter : 97 ≤ b → b ≤ 102 → digit b ≡ some (b - 87)
  unfolding digit
  digit-letter h k = simp (lt-leb b 57 (let z : 57 < b = omega arith in z), le-leb 48 b (let z : 48 ≤ b = omega arith in z), le-leb 97 b h, le-leb b 102 k)

  pub digit-below : b < 48 → digit b ≡ none
  unfolding digit
  digit-below h = simp (lt-leb 48 b h, lt-leb 97 b (let z : b < 97 = omega arith in z))

  pub digit-between : 57 < b → b < 97 → digit b ≡ none
  unfolding digit
  digit-between h k = simp (le-leb 48 b (let z : 48 ≤ b = omega arith in z), lt-leb b 57 h, lt-leb 97 b k)

  pub digit-above : 102 < b → digit b ≡ none
  unfolding digit
  digit-above h = simp (le-leb 48 b (let z : 48 ≤ b = omega arith in z), lt-leb b 57 (let z : 57 < b = omega arith in z), le-leb 97 b (let z : 97 ≤ b = omega arith in z), lt-leb b 102 h)

  -- from a on, f decides
  pub digit-last : 97 ≤ b → is_digit (digit b) ≡ leb b 102
  digit-last h = go (leb b 102) refl
    where
      go : (t : Bool) → leb b 102 ≡ t → is_digit (digit b) ≡ t
      go true e = ap is_digit (digit-letter h (leb-true b 102 e))
      go false e = ap is_digit (digit-above (leb-false b 102 e))

-- ---- a pair at a time

-- two bytes from place 2 * k on
drop-pair : (l : List ℕ) (k : ℕ) → 2 * k + 1 < length l → drop (2 * k) l ≡ get_or l (2 * k) 0 ∷ get_or l (2 * k + 1) 0 ∷ drop (2 * (k + 1)) l
drop-pair l k h =
    drop-cons l (2 * k) 0 (omega arith)
    ∙ ap (λ (m : List ℕ). get_or l (2 * k) 0 ∷ m)
    (ap (λ (n : ℕ). drop n l) (let e : suc (2 * k) ≡ 2 * k + 1 = omega arith in e) ∙ drop-cons l (2 * k + 1) 0 h
    ∙ ap (λ (n : ℕ). get_or l (2 * k + 1) 0 ∷ drop n l) (let e : suc (2 * k + 1) ≡ 2 * (k + 1) = omega arith in e))

drop-none : (l : List ℕ) (k : ℕ) → length l ≤ 2 * k → drop (2 * k) l ≡ []
drop-none l k h = drop_of_length-le l h

module _ (line : List ℕ) (k : ℕ) where
  pub hex-step : 2 * k + 1 < length line → hex_bytes (drop (2 * k) line) ≡ byte_then (digit (get_or line (2 * k) 0)) (digit (get_or line (2 * k + 1) 0)) (hex_bytes (drop (2 * (k + 1)) line))
  unfolding hex_bytes
  hex-step h = ap hex_bytes (drop-pair line k h)

  pub hex-end : length line ≤ 2 * k → hex_bytes (drop (2 * k) line) ≡ some []
  unfolding hex_bytes
  hex-end h = ap hex_bytes (drop-none line k h)

  pub numbers-step : 2 * k + 1 < length line → numbers_in (drop (2 * k) line) ≡ number_at (2 * k) line ∷ numbers_in (drop (2 * (k + 1)) line)
  unfolding numbers_in number_at
  numbers-step h = ap numbers_in (drop-pair line k h)

  pub numbers-end : length line ≤ 2 * k → numbers_in (drop (2 * k) line) ≡ []
  unfolding numbers_in
  numbers-end h = ap numbers_in (drop-none line k h)

pub then-bad-high : (x y : Option ℕ) (r : Option (List ℕ)) → is_digit x ≡ false → is_hex (byte_then x y r) ≡ false
then-bad-high none y r h = refl
then-bad-high (some d) y r h = absurd (true≢false h)

pub then-bad-low : (x y : Option ℕ) (r : Option (List ℕ)) → is_digit y ≡ false → is_hex (byte_then x y r) ≡ false
then-bad-low none y r h = refl
then-bad-low (some d) none r h = refl
then-bad-low (some d) (some e) r h = absurd (true≢false h)

pub then-hex : (x y : Option ℕ) (r : Option (List ℕ)) → is_digit x ≡ true → is_digit y ≡ true → is_hex (byte_then x y r) ≡ is_hex r
then-hex none y r h k = absurd (true≢false (sym h))
then-hex (some d) none r h k = absurd (true≢false (sym k))
then-hex (some d) (some e) none h k = refl
then-hex (some d) (some e) (some bs) h k = refl

-- where all are digits, the first byte and the rest
pub then-bytes : (x y : Option ℕ) (r : Option (List ℕ)) → is_hex (byte_then x y r) ≡ true → (bytes_of (byte_then x y r) ≡ (value_of x * 16 + value_of y) ∷ bytes_of r) × (is_hex r ≡ true)
then-bytes none y r h = absurd (true≢false (sym h))
then-bytes (some d) none r h = absurd (true≢false (sym h))
then-bytes (some d) (some e) none h = absurd (true≢false (sym h))
then-bytes (some d) (some e) (some bs) h = (refl, refl)

-- each byte of whole pairs is a digit
pub all-hex : (line : List ℕ) → length line % 2 ≡ 0 → list_all (λ b. is_digit (digit b)) line ≡ is_hex (hex_bytes line)
unfolding hex_bytes
all-hex [] h = refl
all-hex (x ∷ []) h = absurd (omega arith)
all-hex (x ∷ y ∷ rest) h = go (digit x) (digit y) (hex_bytes rest) (list_all (λ b. is_digit (digit b)) rest) (all-hex rest (omega arith))
  where
    go : (d e : Option ℕ) (r : Option (List ℕ)) (b : Bool) → b ≡ is_hex r → (is_digit d && (is_digit e && b)) ≡ is_hex (byte_then d e r)
    go none e r b p = refl
    go (some d) none r b p = refl
    go (some d) (some e) none b p = p
    go (some d) (some e) (some bs) b p = p

-- ---- the same at place 2 * k of a line

module _ (line : List ℕ) (k : ℕ) (h : 2 * k + 1 < length line) where
  pub pair-bad-high : is_digit (digit (get_or line (2 * k) 0)) ≡ false → is_hex (hex_bytes (drop (2 * k) line)) ≡ false
  pair-bad-high e = ap is_hex (hex-step line k h) ∙ then-bad-high (digit (get_or line (2 * k) 0)) (digit (get_or line (2 * k + 1) 0)) (hex_bytes (drop (2 * (k + 1)) line)) e

  pub pair-bad-low : is_digit (digit (get_or line (2 * k + 1) 0)) ≡ false → is_hex (hex_bytes (drop (2 * k) line)) ≡ false
  pair-bad-low e = ap is_hex (hex-step line k h) ∙ then-bad-low (digit (get_or line (2 * k) 0)) (digit (get_or line (2 * k + 1) 0)) (hex_bytes (drop (2 * (k + 1)) line)) e

  pub pair-hex : is_digit (digit (get_or line (2 * k) 0)) ≡ true → is_digit (digit (get_or line (2 * k + 1) 0)) ≡ true
      → is_hex (hex_bytes (drop (2 * k) line)) ≡ is_hex (hex_bytes (drop (2 * (k + 1)) line))
  pair-hex e f = ap is_hex (hex-step line k h) ∙ then-hex (digit (get_or line (2 * k) 0)) (digit (get_or line (2 * k + 1) 0)) (hex_bytes (drop (2 * (k + 1)) line)) e f

  pub pair-bytes : is_hex (hex_bytes (drop (2 * k) line)) ≡ true
      → (bytes_of (hex_bytes (drop (2 * k) line)) ≡ (value_of (digit (get_or line (2 * k) 0)) * 16 + value_of (digit (get_or line (2 * k + 1) 0))) ∷ bytes_of (hex_bytes (drop (2 * (k + 1)) line)))
      × (is_hex (hex_bytes (drop (2 * (k + 1)) line)) ≡ true)
  pair-bytes e =
      let q = then-bytes (digit (get_or line (2 * k) 0)) (digit (get_or line (2 * k + 1) 0)) (hex_bytes (drop (2 * (k + 1)) line)) (sym (ap is_hex (hex-step line k h)) ∙ e) in
      (ap bytes_of (hex-step line k h) ∙ q.0, q.1)

-- ---- how many bytes there are

then-length : (x y : Option ℕ) (r : Option (List ℕ)) → is_hex (byte_then x y r) ≡ true → (is_hex r ≡ true) × (length (bytes_of (byte_then x y r)) ≡ suc (length (bytes_of r)))
then-length x y r h = let p = then-bytes x y r h in (p.1, ap length p.0)

pub hex-length : (line : List ℕ) → is_hex (hex_bytes line) ≡ true → 2 * length (bytes_of (hex_bytes line)) ≡ length line
unfolding hex_bytes
hex-length [] h = refl
hex-length (x ∷ []) h = absurd (true≢false (sym h))
hex-length (x ∷ y ∷ rest) h =
    let p = then-length (digit x) (digit y) (hex_bytes rest) h in
    let q = hex-length rest p.0 in
    let e = p.1 in
    omega arith

-- an odd line is no bytes
pub hex-odd : (line : List ℕ) → length line % 2 ≡ 1 → is_hex (hex_bytes line) ≡ false
hex-odd line h = go (is_hex (hex_bytes line)) refl
  where
    go : (b : Bool) → is_hex (hex_bytes line) ≡ b → b ≡ false
    go true e = let l = hex-length line e in absurd (omega arith)
    go false e = refl

-- ---- what HEX refuses

none-bad : (f : Option (List ℕ)) → is_hex f ≡ false → bad_hex f ≡ true
unfolding bad_hex
none-bad none h = refl
none-bad (some bs) h = absurd (true≢false h)

some-bad : (f : Option (List ℕ)) → is_hex f ≡ true → 512 < length (bytes_of f) → bad_hex f ≡ true
unfolding bad_hex
some-bad none h k = absurd (true≢false (sym h))
some-bad (some []) h k = refl
some-bad (some (b ∷ bs)) h k = lt-ltb 512 (suc (length bs)) k

pub bad-none : (line : List ℕ) → is_hex (hex_bytes line) ≡ false → bad_hex (hex_bytes line) ≡ true
bad-none line h = none-bad (hex_bytes line) h

pub bad-long : (line : List ℕ) → 1024 < length line → bad_hex (hex_bytes line) ≡ true
bad-long line h = go (is_hex (hex_bytes line)) refl
  where
    go : (b : Bool) → is_hex (hex_bytes line) ≡ b → bad_hex (hex_bytes line) ≡ true
    go true e = some-bad (hex_bytes line) e (let l = hex-length line e in omega arith)
    go false e = none-bad (hex_bytes line) e

module _ (f : Option (List ℕ)) (slice : List ℕ) where
  -- a refused line
  pub reads-none : bad_hex f ≡ true → Reads f slice slice 0
  reads-none e = record { count-is = ap (λ (b : Bool). cond b 0 (length (bytes_of f))) (sym e); slice-is = ap (λ (b : Bool). cond b slice (in_front (bytes_of f) slice)) (sym e) }

  -- a line of digits, of at most 512 bytes; of none where it is empty
  pub reads-some : (n : ℕ) (slice' : List ℕ) → is_hex f ≡ true → length (bytes_of f) ≡ n → n ≤ 512 → slice' ≡ in_front (bytes_of f) slice → Reads f slice slice' n
  unfolding bad_hex
  reads-some n slice' h l k e = go f h l e
    where
      go : (f' : Option (List ℕ)) → is_hex f' ≡ true → length (bytes_of f') ≡ n → slice' ≡ in_front (bytes_of f') slice → Reads f' slice slice' n
      go none h' l' e' = absurd (true≢false (sym h'))
      go (some []) h' l' e' = record { count-is = sym l'; slice-is = e' }
      go (some (b ∷ bs)) h' l' e' =
          let t : ltb 512 (suc (length bs)) ≡ false = le-ltb 512 (suc (length bs)) (omega arith) in
          record { count-is = sym l' ∙ ap (λ (c : Bool). cond c 0 (suc (length bs))) (sym t); slice-is = e' ∙ ap (λ (c : Bool). cond c slice (in_front (b ∷ bs) slice)) (sym t) }

-- ---- a slice filled from the front, k entries so far: what is still to come, and what stands behind

pub record Filling (whole left a₀ a : List ℕ) (k : ℕ) : Type 0 where
  pub so-far : whole ≡ take k a ++ left
  pub behind : drop k a ≡ drop k a₀
  pub same : length a ≡ length a₀

pub fill-start : (whole a : List ℕ) → Filling whole whole a a 0
fill-start whole a = record { so-far = refl; behind = refl; same = refl }

module _ (whole a₀ a : List ℕ) (k : ℕ) where
  pub fill-step : (v : ℕ) (left : List ℕ) → k < length a → Filling whole (v ∷ left) a₀ a k → Filling whole left a₀ (set a k v) (k + 1)
  fill-step v left h f = record {
    so-far =
        f.so-far ∙ sym (append_assoc (take k a) (v ∷ []) left)
        ∙ ap (λ (l : List ℕ). l ++ left) (sym (take-suc-set a k v h) ∙ ap (λ (n : ℕ). take n (set a k v)) (sym (add-one k)));
    behind = drop-set-lt (k + 1) a k v (omega arith) ∙ sym (drop-drop 1 k a) ∙ ap (drop 1) f.behind ∙ drop-drop 1 k a₀;
    same = length-set a k v ∙ f.same;
  }

  pub fill-end : k ≤ length a → Filling whole [] a₀ a k → a ≡ in_front whole a₀
  fill-end h f =
      let e : whole ≡ take k a = f.so-far ∙ append-nil (take k a) in
      let l : length whole ≡ k = ap length e ∙ length-take-le k a h in
      sym (take-append-drop k a)
      ∙ ap₂ (λ (x y : List ℕ). x ++ y) (sym e) (f.behind ∙ ap (λ (n : ℕ). drop n a₀) (sym l))

-- ---- numbers

pub numbers-length : (l : List ℕ) → length l % 2 ≡ 0 → 2 * length (numbers_in l) ≡ length l
unfolding numbers_in
numbers-length [] h = refl
numbers-length (x ∷ []) h = absurd (omega arith)
numbers-length (x ∷ y ∷ l) h = let q = numbers-length l (omega arith) in omega arith

pub word-is : (body : List ℕ) → length body ≡ 11
    → bytes_number 0 (drop 3 body) ≡ (number_at 3 body * 65536 + number_at (3 + 2) body) * 4294967296 + (number_at 7 body * 65536 + number_at (7 + 2) body)
unfolding bytes_number number_at
word-is (a ∷ b ∷ c ∷ d ∷ e ∷ f ∷ g ∷ h ∷ i ∷ j ∷ k ∷ []) l = omega arith
word-is (a ∷ b ∷ c ∷ d ∷ e ∷ f ∷ g ∷ h ∷ i ∷ j ∷ k ∷ m ∷ r) l = absurd (omega arith)
word-is [] l = absurd (omega arith)
word-is (a ∷ []) l = absurd (omega arith)
word-is (a ∷ b ∷ []) l = absurd (omega arith)
word-is (a ∷ b ∷ c ∷ []) l = absurd (omega arith)
word-is (a ∷ b ∷ c ∷ d ∷ []) l = absurd (omega arith)
word-is (a ∷ b ∷ c ∷ d ∷ e ∷ []) l = absurd (omega arith)
word-is (a ∷ b ∷ c ∷ d ∷ e ∷ f ∷ []) l = absurd (omega arith)
word-is (a ∷ b ∷ c ∷ d ∷ e ∷ f ∷ g ∷ []) l = absurd (omega arith)
word-is (a ∷ b ∷ c ∷ d ∷ e ∷ f ∷ g ∷ h ∷ []) l = absurd (omega arith)
word-is (a ∷ b ∷ c ∷ d ∷ e ∷ f ∷ g ∷ h ∷ i ∷ []) l = absurd (omega arith)
word-is (a ∷ b ∷ c ∷ d ∷ e ∷ f ∷ g ∷ h ∷ i ∷ j ∷ []) l = absurd (omega arith)

-- the same of the eight bytes
pub word-of-bytes : (body : List ℕ) → length body ≡ 11
    → from_be_bytes w64 (get_or body 3 0 ∷ get_or body 4 0 ∷ get_or body 5 0 ∷ get_or body 6 0 ∷ get_or body 7 0 ∷ get_or body 8 0 ∷ get_or body 9 0 ∷ get_or body 10 0 ∷ []) ≡ bytes_number 0 (drop 3 body)
unfolding number_at
word-of-bytes body l = let e = word-is body l in omega arith
