-- Laws of printed texts, as the code meets them: a number's digits one at a time, one text after another in a buffer.
use Rattle.std.specs.Prelude.{◌≡◌, refl, Bool, eqb, ltb, take, drop, get_or, set}
use Rattle.std.proofs.Common.{sym, ap₂, ◌∙◌, add-one, pow-suc, length-append, take-append-drop, drop_of_length-le, length-take-le, take_at, drop_at, drop-drop, drop-cons, ltb-true, ltb-false, lt-ltb, le-ltb, eq-eqb, ne_eqb}
use Rattle.std.proofs.Math.Path.{ap}
use Rattle.std.proofs.Math.Bool.{true, false, cond}
use mathlib.Core.List.{List, [], ◌∷◌, ◌++◌, map, append_assoc, append-nil}
use Prim.Native.Nat.{ℕ, zero, suc, ◌+◌, ◌-◌, ◌*◌, ◌/◌, ◌%◌, ◌^◌, ◌≤◌, ◌<◌}
use native.Mathlib.Omega.{arith}
use Rattle.std.proofs.Math.ListN.{length}
use Rattle.std.proofs.lemmas.List.{length-map, set_split}
use Rattle.ty.specs.Words.{unpack}
use Rattle.lineout.specs.Printed.{decimal_from, decimal, hex_digit, hex_digits, word_text, number_text, printed, variable_line, variable_lines, Puts}

-- ---- decimal

from-append : (fuel n : ℕ) (ds : List ℕ) → decimal_from fuel n ds ≡ decimal_from fuel n [] ++ ds
unfolding decimal_from
from-append zero n ds = refl
from-append (suc fuel) n ds = go (ltb n 10) (from-append fuel (n / 10) (d ∷ ds)) (from-append fuel (n / 10) (d ∷ []))
  where
    d : ℕ
    d = 48 + n % 10

    go : (b : Bool) → decimal_from fuel (n / 10) (d ∷ ds) ≡ decimal_from fuel (n / 10) [] ++ (d ∷ ds) → decimal_from fuel (n / 10) (d ∷ []) ≡ decimal_from fuel (n / 10) [] ++ (d ∷ [])
        → cond b ((48 + n) ∷ ds) (decimal_from fuel (n / 10) (d ∷ ds)) ≡ cond b ((48 + n) ∷ []) (decimal_from fuel (n / 10) (d ∷ [])) ++ ds
    go true x y = refl
    go false x y = x ∙ sym (append_assoc (decimal_from fuel (n / 10) []) (d ∷ []) ds) ∙ ap (λ (l : List ℕ). l ++ ds) (sym y)

-- enough fuel is enough
from-more : (f g n : ℕ) (ds : List ℕ) → n < f → n < g → decimal_from f n ds ≡ decimal_from g n ds
unfolding decimal_from
from-more zero g n ds h k = absurd (omega arith)
from-more (suc f) zero n ds h k = absurd (omega arith)
from-more (suc f) (suc g) n ds h k = go (ltb n 10) refl (λ a b. from-more f g (n / 10) ((48 + n % 10) ∷ ds) a b)
  where
    go : (b : Bool) → ltb n 10 ≡ b → (n / 10 < f → n / 10 < g → decimal_from f (n / 10) ((48 + n % 10) ∷ ds) ≡ decimal_from g (n / 10) ((48 + n % 10) ∷ ds))
        → cond b ((48 + n) ∷ ds) (decimal_from f (n / 10) ((48 + n % 10) ∷ ds)) ≡ cond b ((48 + n) ∷ ds) (decimal_from g (n / 10) ((48 + n % 10) ∷ ds))
    go true e ih = refl
    go false e ih = let l = ltb-false n 10 e in ih (omega arith) (omega arith)

module _ (n : ℕ) where
  pub decimal-small : n < 10 → decimal n ≡ (48 + n) ∷ []
  unfolding decimal decimal_from
  decimal-small h = ap (λ (b : Bool). cond b ((48 + n) ∷ []) (decimal_from n (n / 10) ((48 + n % 10) ∷ []))) (lt-ltb n 10 h)

  pub decimal-more : 10 ≤ n → decimal n ≡ decimal (n / 10) ++ ((48 + n % 10) ∷ [])
  unfolding decimal decimal_from
  decimal-more h =
      ap (λ (b : Bool). cond b ((48 + n) ∷ []) (decimal_from n (n / 10) ((48 + n % 10) ∷ []))) (le-ltb n 10 h)
      ∙ from-more n (suc (n / 10)) (n / 10) ((48 + n % 10) ∷ []) (omega arith) (omega arith)
      ∙ from-append (suc (n / 10)) (n / 10) ((48 + n % 10) ∷ [])

  pub decimal-longer : 10 ≤ n → length (decimal n) ≡ length (decimal (n / 10)) + 1
  decimal-longer h = ap length (decimal-more h) ∙ length-append (decimal (n / 10)) ((48 + n % 10) ∷ [])

short : (k n : ℕ) → n < 10 ^ suc k → length (decimal n) ≤ suc k
short zero n h = let e = ap length (decimal-small n h) in omega arith
short (suc k) n h = go (ltb n 10) refl (short k (n / 10))
  where
    go : (b : Bool) → ltb n 10 ≡ b → (n / 10 < 10 ^ suc k → length (decimal (n / 10)) ≤ suc k) → length (decimal n) ≤ suc (suc k)
    go true e ih = let l = ap length (decimal-small n (ltb-true n 10 e)) in omega arith
    go false e ih =
        let l = ltb-false n 10 e in
        let d = decimal-longer n l in
        let p = pow-suc 10 (suc k) in
        let i = ih (omega arith) in
        omega arith

-- a word has at most 20 digits
pub decimal-short : (n : ℕ) → n < 2 ^ 64 → length (decimal n) ≤ 20
decimal-short n h = short 19 n (omega arith)

-- ---- hex

module _ (w k : ℕ) where
  pub hex-step : k < 16 → hex_digits (16 - k) w ≡ hex_digit (w / 2 ^ (4 * (15 - k)) % 16) ∷ hex_digits (16 - (k + 1)) w
  unfolding hex_digits unpack
  hex-step h =
      ap (λ (m : ℕ). map hex_digit (unpack m w)) (let e : 16 - k ≡ suc (15 - k) = omega arith in e)
      ∙ ap (λ (m : ℕ). hex_digit (w / 2 ^ (4 * (15 - k)) % 16) ∷ map hex_digit (unpack m w)) (let e : 15 - k ≡ 16 - (k + 1) = omega arith in e)

  pub hex-end : 16 ≤ k → hex_digits (16 - k) w ≡ []
  unfolding hex_digits unpack
  hex-end h = ap (λ (m : ℕ). map hex_digit (unpack m w)) (let e : 16 - k ≡ 0 = omega arith in e)

length-unpack : (n x : ℕ) → length (unpack n x) ≡ n
unfolding unpack
length-unpack zero x = refl
length-unpack (suc n) x = ap suc (length-unpack n x)

pub hex-length : (n w : ℕ) → length (hex_digits n w) ≡ n
unfolding hex_digits
hex-length n w = length-map (unpack n w) hex_digit ∙ length-unpack n w

-- ---- a word or a dash, a number or a dash

module _ (w : ℕ) where
  pub word-none : w ≡ 2 ^ 64 - 1 → word_text w ≡ 45 ∷ []
  unfolding word_text
  word-none h = ap (λ (b : Bool). cond b (45 ∷ []) (hex_digits 16 w)) (eq-eqb w (2 ^ 64 - 1) h)

  pub word-some : (w ≡ 2 ^ 64 - 1 → ⊥) → word_text w ≡ hex_digits 16 w
  unfolding word_text
  word-some h = ap (λ (b : Bool). cond b (45 ∷ []) (hex_digits 16 w)) (ne_eqb w (2 ^ 64 - 1) h)

  pub number-none : w ≡ 2 ^ 64 - 1 → number_text w ≡ 45 ∷ []
  unfolding number_text
  number-none h = ap (λ (b : Bool). cond b (45 ∷ []) (decimal w)) (eq-eqb w (2 ^ 64 - 1) h)

  pub number-some : (w ≡ 2 ^ 64 - 1 → ⊥) → number_text w ≡ decimal w
  unfolding number_text
  number-some h = ap (λ (b : Bool). cond b (45 ∷ []) (decimal w)) (ne_eqb w (2 ^ 64 - 1) h)

  pub word-short : length (word_text w) ≤ 16
  unfolding word_text
  word-short = go (eqb w (2 ^ 64 - 1))
    where
      go : (b : Bool) → length (cond b (45 ∷ []) (hex_digits 16 w)) ≤ 16
      go true = omega arith
      go false = let e = hex-length 16 w in omega arith

  pub number-short : w < 2 ^ 64 → length (number_text w) ≤ 20
  unfolding number_text
  number-short h = go (eqb w (2 ^ 64 - 1))
    where
      go : (b : Bool) → length (cond b (45 ∷ []) (decimal w)) ≤ 20
      go true = omega arith
      go false = decimal-short w h

-- ---- one text after another

pub puts-none : (f : ℕ) (o : List ℕ) → Puts [] f o o f
puts-none f o = record { filled-is = omega arith; out-is = sym (ap (λ (n : ℕ). take f o ++ drop n o) (let e : f + 0 ≡ f = omega arith in e) ∙ take-append-drop f o) }

pub puts-one : (f : ℕ) (o : List ℕ) (b : ℕ) → f < length o → Puts (b ∷ []) f o (set o f b) (f + 1)
puts-one f o b h = record { filled-is = refl; out-is = set_split o f b h ∙ ap (λ (n : ℕ). take f o ++ (b ∷ drop n o)) (sym (add-one f)) }

module _ (s t : List ℕ) (f m r : ℕ) (o o₁ o₂ : List ℕ) where
  pub puts-then : f + length s ≤ length o → Puts s f o o₁ m → Puts t m o₁ o₂ r → Puts (s ++ t) f o o₂ r
  puts-then h p q =
      let n = length-append s t in
      let m-is = p.filled-is in
      let r-is = q.filled-is in
      let front : length (take f o ++ s) ≡ m = (let a = length-append (take f o) s in let b = length-take-le f o (omega arith) in omega arith) in
      let o_is : o₁ ≡ (take f o ++ s) ++ drop (f + length s) o = p.out-is ∙ sym (append_assoc (take f o) s (drop (f + length s) o)) in
      record {
        filled-is = omega arith;
        out-is =
            q.out-is
            ∙ ap₂ (λ (x y : List ℕ). x ++ (t ++ y))
            (ap (take m) o_is ∙ take_at (take f o ++ s) (drop (f + length s) o) m front)
            (sym (drop-drop (length t) m o₁)
            ∙ ap (λ (z : List ℕ). drop (length t) z) (ap (drop m) o_is ∙ drop_at (take f o ++ s) (drop (f + length s) o) m front)
            ∙ drop-drop (length t) (f + length s) o ∙ ap (λ (j : ℕ). drop j o) (let e : f + length s + length t ≡ f + length (s ++ t) = omega arith in e))
            ∙ append_assoc (take f o) s (t ++ drop (f + length (s ++ t)) o)
            ∙ ap (λ (z : List ℕ). take f o ++ z) (sym (append_assoc s t (drop (f + length (s ++ t)) o)));
      }

-- the same text by another name
pub puts-as : (s t : List ℕ) (f r : ℕ) (o o' : List ℕ) → s ≡ t → Puts s f o o' r → Puts t f o o' r
puts-as s t f r o o' e p = rw e at p

-- ---- a text written piece by piece: what stands so far, and what is left

pub record Writing (whole left : List ℕ) (f at : ℕ) (o o₁ : List ℕ) : Type 0 where
  pub so-far : List ℕ
  pub whole-is : whole ≡ so-far ++ left
  pub put : Puts so-far f o o₁ at

pub writing-start : (whole : List ℕ) (f : ℕ) (o : List ℕ) → Writing whole whole f f o o
writing-start whole f o = record { so-far = []; whole-is = refl; put = puts-none f o }

module _ (whole : List ℕ) where
  -- one more piece, where the whole fits
  pub writing-more : (piece left : List ℕ) (f at r : ℕ) (o o₁ o₂ : List ℕ) → f + length whole ≤ length o → Writing whole (piece ++ left) f at o o₁ → Puts piece at o₁ o₂ r → Writing whole left f r o o₂
  writing-more piece left f at r o o₁ o₂ h w p =
      let n = ap length w.whole-is ∙ length-append w.so-far (piece ++ left) in
      record {
        so-far = w.so-far ++ piece;
        whole-is = w.whole-is ∙ sym (append_assoc w.so-far piece left);
        put = puts-then w.so-far piece f at r o o₁ o₂ (omega arith) w.put p;
      }

  pub writing-end : (f at : ℕ) (o o₁ : List ℕ) → Writing whole [] f at o o₁ → Puts whole f o o₁ at
  writing-end f at o o₁ w = puts-as w.so-far whole f at o o₁ (sym (w.whole-is ∙ append-nil w.so-far)) w.put

  -- one more byte of a text of n bytes
  pub writing-step : (b : ℕ) (left : List ℕ) (f at r : ℕ) (o o₁ o₂ : List ℕ) {n : ℕ} → length whole ≡ n → f + n ≤ length o → Writing whole (b ∷ left) f at o o₁ → Puts (b ∷ []) at o₁ o₂ r → Writing whole left f r o o₂
  writing-step b left f at r o o₁ o₂ e h w p = writing-more (b ∷ []) left f at r o o₁ o₂ (omega arith) w p

-- ---- lines

module _ (letter : ℕ) (a : List ℕ) (f m₁ m₂ r : ℕ) (o o₁ o₂ o₃ : List ℕ) where
  pub line-one : f + (3 + length a) ≤ length o → Puts (letter ∷ 32 ∷ []) f o o₁ m₁ → Puts a m₁ o₁ o₂ m₂ → Puts (10 ∷ []) m₂ o₂ o₃ r → Puts (printed letter a) f o o₃ r
  line-one h p q t = puts-then (letter ∷ 32 ∷ a) (10 ∷ []) f m₂ r o o₂ o₃ (omega arith) (puts-then (letter ∷ 32 ∷ []) a f m₁ m₂ o o₁ o₂ (omega arith) p q) t

module _ (letter : ℕ) (a b : List ℕ) (f m₁ m₂ m₃ m₄ r : ℕ) (o o₁ o₂ o₃ o₄ o₅ : List ℕ) where
  pub line-two : f + (4 + length a + length b) ≤ length o → Puts (letter ∷ 32 ∷ []) f o o₁ m₁ → Puts a m₁ o₁ o₂ m₂ → Puts (32 ∷ []) m₂ o₂ o₃ m₃ → Puts b m₃ o₃ o₄ m₄ → Puts (10 ∷ []) m₄ o₄ o₅ r
      → Puts (printed letter (a ++ (32 ∷ b))) f o o₅ r
  line-two h p q s t u =
      let x = length-append a (32 ∷ []) in
      let y = length-append (a ++ (32 ∷ [])) b in
      puts-as (letter ∷ 32 ∷ (((a ++ (32 ∷ [])) ++ b) ++ (10 ∷ []))) (printed letter (a ++ (32 ∷ b))) f r o o₅
      (ap (λ (l : List ℕ). letter ∷ 32 ∷ (l ++ (10 ∷ []))) (append_assoc a (32 ∷ []) b))
      (puts-then (letter ∷ 32 ∷ ((a ++ (32 ∷ [])) ++ b)) (10 ∷ []) f m₄ r o o₄ o₅ (omega arith)
      (puts-then (letter ∷ 32 ∷ (a ++ (32 ∷ []))) b f m₃ m₄ o o₃ o₄ (omega arith)
      (puts-then (letter ∷ 32 ∷ a) (32 ∷ []) f m₂ m₃ o o₂ o₃ (omega arith)
      (puts-then (letter ∷ 32 ∷ []) a f m₁ m₂ o o₁ o₂ (omega arith) p q) s) t) u)

-- a letter and a number, a space behind each: the first part of a line of two parts
abbrev pub heading : ℕ → ℕ → List ℕ
heading letter n = letter ∷ 32 ∷ (decimal n ++ (32 ∷ []))

pub heading-short : (letter n : ℕ) → n < 2 ^ 64 → length (heading letter n) ≤ 23
heading-short letter n h = let d = decimal-short n h in let e = length-append (decimal n) (32 ∷ []) in omega arith

module _ (letter n f m₁ m₂ r : ℕ) (o o₁ o₂ o₃ : List ℕ) where
  pub heading-put : f + (3 + length (decimal n)) ≤ length o → Puts (letter ∷ 32 ∷ []) f o o₁ m₁ → Puts (decimal n) m₁ o₁ o₂ m₂ → Puts (32 ∷ []) m₂ o₂ o₃ r → Puts (heading letter n) f o o₃ r
  heading-put h p q s = puts-then (letter ∷ 32 ∷ decimal n) (32 ∷ []) f m₂ r o o₂ o₃ (omega arith) (puts-then (letter ∷ 32 ∷ []) (decimal n) f m₁ m₂ o o₁ o₂ (omega arith) p q) s

module _ (letter n : ℕ) (b : List ℕ) (f m₁ m₂ r : ℕ) (o o₁ o₂ o₃ : List ℕ) where
  pub line-headed : n < 2 ^ 64 → f + (24 + length b) ≤ length o → Puts (heading letter n) f o o₁ m₁ → Puts b m₁ o₁ o₂ m₂ → Puts (10 ∷ []) m₂ o₂ o₃ r → Puts (printed letter (decimal n ++ (32 ∷ b))) f o o₃ r
  line-headed l h p q t =
      let x = heading-short letter n l in
      let y = length-append (heading letter n) b in
      puts-as (letter ∷ 32 ∷ (((decimal n ++ (32 ∷ [])) ++ b) ++ (10 ∷ []))) (printed letter (decimal n ++ (32 ∷ b))) f r o o₃
      (ap (λ (m : List ℕ). letter ∷ 32 ∷ (m ++ (10 ∷ []))) (append_assoc (decimal n) (32 ∷ []) b))
      (puts-then (heading letter n ++ b) (10 ∷ []) f m₂ r o o₂ o₃ (omega arith) (puts-then (heading letter n) b f m₁ m₂ o o₁ o₂ (omega arith) p q) t)

-- the lines of what is left, where variable i is the next
pub lines-step : (i : ℕ) (ws : List ℕ) → i < length ws → variable_lines i (drop i ws) ≡ variable_line i (get_or ws i 0) ++ variable_lines (i + 1) (drop (i + 1) ws)
unfolding variable_lines
lines-step i ws h = ap (variable_lines i) (drop-cons ws i 0 h ∙ ap (λ (n : ℕ). get_or ws i 0 ∷ drop n ws) (sym (add-one i)))

pub lines-end : (i : ℕ) (ws : List ℕ) → length ws ≤ i → variable_lines i (drop i ws) ≡ []
unfolding variable_lines
lines-end i ws h = ap (variable_lines i) (drop_of_length-le ws h)

-- a line has at most 40 bytes
pub line-short : (i w : ℕ) → i < 2 ^ 64 → length (variable_line i w) ≤ 40
line-short i w h =
    let a = decimal-short i h in
    let b = word-short w in
    let c = length-append (decimal i) (32 ∷ word_text w) in
    let d = length-append (decimal i ++ (32 ∷ word_text w)) (10 ∷ []) in
    omega arith

pub lines-short : (i : ℕ) (ws : List ℕ) → i + length ws ≤ 2 ^ 64 → length (variable_lines i ws) ≤ 40 * length ws
unfolding variable_lines
lines-short i [] h = omega arith
lines-short i (w ∷ ws) h =
    let a = line-short i w (omega arith) in
    let b = lines-short (i + 1) ws (omega arith) in
    let c = length-append (variable_line i w) (variable_lines (i + 1) ws) in
    omega arith
