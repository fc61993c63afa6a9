-- Laws of the report, as the code meets them.
use Rattle.std.specs.Prelude.{◌≡◌, ℕ, suc, ◌+◌, ◌-◌, ◌*◌, ◌%◌, ◌^◌, ◌<◌, ◌≤◌, Bool, true, false, cond, ◌&&◌, List, [], ◌∷◌, ◌++◌, length, drop, ◌==◌, ◌≢◌, nat_le, slice_index, refl}
use Rattle.std.specs.List.{count_by}
use Rattle.std.proofs.lemmas.List.Recursion.{is_count_by}
use Rattle.std.proofs.Common.{sym, ap, ap₂, ◌∙◌, append_assoc, add-one, arith, length-append, drop_of_length-le, drop-cons, eq-eqb, ne_eqb, le-leb}
use Rattle.std.proofs.lemmas.Bool.{lt-leb}
use Rattle.lineout.specs.Printed.{decimal, Puts}
use Rattle.lineout.specs.Laws.{puts-then, puts-as, Writing}
use Rattle.replaying.specs.Report.{field, counts_text, counts_of, next_text, next_name, names_text, names_in, total, sums_of, unread_all, report_of, report_in}

-- ---- one text after another

-- a number behind a blank, two of them and the end of the line
pub field-put : (n f m r : ℕ) (o o₁ o₂ : List ℕ) → f + 1 ≤ length o → Puts (32 ∷ []) f o o₁ m → Puts (decimal n) m o₁ o₂ r → Puts (field n) f o o₂ r
field-put n f m r o o₁ o₂ h p q = puts-then (32 ∷ []) (decimal n) f m r o o₁ o₂ h p q

pub counts-put : (a b f m n r : ℕ) (o o₁ o₂ o₃ : List ℕ) → n ≤ length o → Puts (field a) f o o₁ m → Puts (field b) m o₁ o₂ n → Puts (10 ∷ []) n o₂ o₃ r → Puts (counts_text a b) f o o₃ r
counts-put a b f m n r o o₁ o₂ o₃ h p q t =
    let i = p.filled-is in
    let j = q.filled-is in
    let k = length-append (field a) (field b) in
    puts-as ((field a ++ field b) ++ (10 ∷ [])) (counts_text a b) f r o o₃ (append_assoc (field a) (field b) (10 ∷ []))
    (puts-then (field a ++ field b) (10 ∷ []) f n r o o₂ o₃ (omega arith) (puts-then (field a) (field b) f m n o o₁ o₂ (omega arith) p q) t)

-- the next piece of a text, where what stands so far is inside
pub writing-on : (whole piece left : List ℕ) (f at r : ℕ) (o o₁ o₂ : List ℕ) → at ≤ length o → Writing whole (piece ++ left) f at o o₁ → Puts piece at o₁ o₂ r → Writing whole left f r o o₂
writing-on whole piece left f at r o o₁ o₂ h w p =
    let e = w.put.filled-is in
    record {
      so-far = w.so-far ++ piece;
      whole-is = w.whole-is ∙ sym (append_assoc w.so-far piece left);
      put = puts-then w.so-far piece f at r o o₁ o₂ (omega arith) w.put p;
    }

-- and the last piece
pub writing-last : (whole piece : List ℕ) (f at r : ℕ) (o o₁ o₂ : List ℕ) → at ≤ length o → Writing whole piece f at o o₁ → Puts piece at o₁ o₂ r → Puts whole f o o₂ r
writing-last whole piece f at r o o₁ o₂ h w p =
    let e = w.put.filled-is in
    puts-as (w.so-far ++ piece) whole f r o o₂ (sym w.whole-is) (puts-then w.so-far piece f at r o o₁ o₂ (omega arith) w.put p)

-- ---- a byte of the names

pub next-blank : (counts : List ℕ) (k b : ℕ) → b ≡ 32 → counts_of counts k ≡ next_text counts k b
next-blank counts k b e = sym (ap (λ (t : Bool). cond t (counts_of counts k) (b ∷ [])) (eq-eqb b 32 e))

pub next-byte : (counts : List ℕ) (k b : ℕ) → (b ≢ 32) → b ∷ [] ≡ next_text counts k b
next-byte counts k b n = sym (ap (λ (t : Bool). cond t (counts_of counts k) (b ∷ [])) (ne_eqb b 32 n))

-- the number of a name grows by one at most
pub next-small : (k b : ℕ) → next_name k b ≤ k + 1
next-small k b = go (b == 32)
  where
    go : (t : Bool) → cond t (k + 1) k ≤ k + 1
    go true = omega arith
    go false = omega arith

-- ---- the names from byte i on

from-next : (i : ℕ) (names : List ℕ) → i < length names → drop i names ≡ slice_index names i ∷ drop (i + 1) names
from-next i names h = drop-cons names i 0 h ∙ ap (λ (n : ℕ). slice_index names i ∷ drop n names) (sym (add-one i))

pub names-step : (counts : List ℕ) (k n i : ℕ) (names : List ℕ) → n ≡ next_name k (slice_index names i) → i < length names
    → names_text counts k (drop i names) ≡ next_text counts k (slice_index names i) ++ names_text counts n (drop (i + 1) names)
unfolding names_text
names-step counts k n i names e h = rw e (ap (names_text counts k) (from-next i names h))

pub names-end : (counts : List ℕ) (k i : ℕ) (names : List ℕ) → length names ≤ i → names_text counts k (drop i names) ≡ counts_of counts k
unfolding names_text
names-end counts k i names h = ap (names_text counts k) (drop_of_length-le names h)

pub in-step : (k n i : ℕ) (names : List ℕ) → n ≡ next_name k (slice_index names i) → i < length names → k + names_in (drop i names) ≡ n + names_in (drop (i + 1) names)
unfolding names_in
in-step k n i names e h = ap (λ (l : List ℕ). k + names_in l) (from-next i names h) ∙ go (slice_index names i == 32) ∙ ap (λ (m : ℕ). m + rest) (sym e)
  where
    rest : ℕ
    rest = names_in (drop (i + 1) names)

    go : (t : Bool) → k + cond t (suc rest) rest ≡ cond t (k + 1) k + rest
    go true = omega arith
    go false = refl

pub in-end : (k i : ℕ) (names : List ℕ) → length names ≤ i → k + names_in (drop i names) ≡ k + 1
unfolding names_in
in-end k i names h = ap (λ (l : List ℕ). k + names_in l) (drop_of_length-le names h)

-- ---- sums

pub total-step : (counts : List ℕ) (first k : ℕ) → (total counts first k + slice_index counts (2 * k + first)) % 2 ^ 64 ≡ total counts first (k + 1)
unfolding total
total-step counts first k = sym (ap (total counts first) (add-one k))

-- ---- the whole

pub report-in : (names counts : List ℕ) (room : ℕ) → length names ≤ 128 → 8192 ≤ room → report_of names counts ≡ report_in names counts room
unfolding report_in
report-in names counts room h k = sym (rw (le-leb (length names) 128 h, le-leb 8192 room k))

pub report-long : (names counts : List ℕ) (room : ℕ) → 128 < length names → [] ≡ report_in names counts room
unfolding report_in
report-long names counts room h = sym (rw (lt-leb (length names) 128 h))

pub report-narrow : (names counts : List ℕ) (room : ℕ) → room < 8192 → [] ≡ report_in names counts room
unfolding report_in
report-narrow names counts room h = go (nat_le (length names) 128)
  where
    go : (t : Bool) → [] ≡ cond (t && nat_le 8192 room) (report_of names counts) []
    go true = sym (rw (lt-leb 8192 room h))
    go false = refl

pub sums-are : (counts : List ℕ) (n u a x t : ℕ) → u ≡ slice_index counts 127 → a ≡ total counts 0 n → x ≡ total counts 1 n → t ≡ (x + u) % 2 ^ 64 → 0 ∷ u ∷ a ∷ t ∷ [] ≡ sums_of counts n
sums-are counts n u a x t p q e f i = 0 ∷ p i ∷ q i ∷ (f ∙ ap₂ (λ (y v : ℕ). (y + v) % 2 ^ 64) e p) i ∷ []

-- THE LINES OF THE NAMES AND THE TWO AFTER THEM ARE THE REPORT
pub report-put : (names counts : List ℕ) (m n r : ℕ) (o o₁ o₂ : List ℕ) → length names ≤ 128 → 8192 ≤ length o → m ≤ length o → n ≡ names_in names
    → Puts (names_text counts 0 names) 0 o o₁ m → Puts (names_text (sums_of counts n) 0 unread_all) m o₁ o₂ r → Puts (report_in names counts (length o)) 0 o o₂ r
unfolding report_of
report-put names counts m n r o o₁ o₂ h k l e p q =
    let f = p.filled-is in
    puts-as (names_text counts 0 names ++ names_text (sums_of counts n) 0 unread_all) (report_in names counts (length o)) 0 r o o₂
    (ap (λ (j : ℕ). names_text counts 0 names ++ names_text (sums_of counts j) 0 unread_all) e ∙ report-in names counts (length o) h k)
    (puts-then (names_text counts 0 names) (names_text (sums_of counts n) 0 unread_all) 0 m r o o₁ o₂ (omega arith) p q)

some-names : (names : List ℕ) → 1 ≤ names_in names
unfolding names_in
some-names [] = omega arith
some-names (b ∷ names) = go (b == 32) (some-names names)
  where
    go : (t : Bool) → 1 ≤ names_in names → 1 ≤ cond t (suc (names_in names)) (names_in names)
    go true h = omega arith
    go false h = h

-- the names are one more than the blanks
pub names-counted : (names : List ℕ) → 1 + count_by (λ (b : ℕ). b == 32) names ≡ names_in names
unfolding names_in
names-counted names = let e = is_count_by (λ (l : List ℕ). names_in l - 1) (λ (b : ℕ). b == 32) refl step names in let s = some-names names in omega arith
  where
    step : (b : ℕ) (l : List ℕ) → names_in (b ∷ l) - 1 ≡ cond (b == 32) (1 + (names_in l - 1)) (names_in l - 1)
    step b l = go (b == 32) (some-names l)
      where
        go : (t : Bool) → 1 ≤ names_in l → cond t (suc (names_in l)) (names_in l) - 1 ≡ cond t (1 + (names_in l - 1)) (names_in l - 1)
        go true h = omega arith
        go false h = refl
