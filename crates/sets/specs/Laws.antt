-- Laws of sets, for this crate's proofs and for those of other crates. `at` is membership as a number, 0 or 1; `member` as a Bool.
use Rattle.std.specs.Prelude.{◌≡◌, Bool, true, false, not, ◌&&◌, ◌||◌, eqb, get_or, set, replicate}
use Rattle.std.proofs.Math.Path.{refl, sym, ap}
use Rattle.std.proofs.Common.{ap₂, ◌∙◌, subst, ⊎_elim, add-zero, zero-add, add-suc, suc-add, lit<, eq-eqb, ne_eqb, eqb-true, length-set, get_or-set_same, get_or-set_other, ext_get_or}
use Rattle.std.proofs.lemmas.Bool.{false≢true, eqb-false}
use mathlib.Core.List.Memᴰ
use mathlib.Core.List.{List, [], ◌∷◌, Memᴰ}
use Prim.Native.Nat.{ℕ, zero, suc, ◌+◌, ◌-◌, ◌*◌, ◌/◌, ◌%◌, ◌^◌, ◌≤◌, ◌<◌, max, min}
use Rattle.std.proofs.Math.Decide.{dec_lt, ℕ_discrete}
use native.Mathlib.Omega.{arith}
use Rattle.std.proofs.Math.Pow.{pow-lt}
use Rattle.std.specs.Int.Bits.{bit_or, bit_and, and_lt}
use Rattle.std.proofs.lemmas.Nat.{or_lt}
use Rattle.std.proofs.Math.ListN.{length, get_or-eq_default}
use Rattle.std.proofs.lemmas.List.{length-replicate}
use Rattle.std.proofs.Math.Seq.{set_out}
use Rattle.sets.specs.Sets.{bit, clear, Words, at, member, insert, remove, pairwise, unite, intersect, subtract, same_words, keep, members, tally, first}
use Rattle.sets.specs.Bits.{bit-lt, bit-zero, bit-or, bit-and, bit-clear, clear-lt, bit-pow-same, bit-pow-other, bit-ext, tally-ext, tally-eq, tally-none, tally-zero, tally-more, first-le, first-below, first-found}

-- ---- membership

pub at-lt : (ws : List ℕ) (i : ℕ) → at ws i < 2
unfolding at
at-lt ws i = bit-lt (i % 64) (get_or ws (i / 64) 0)

-- a number past the last word is no member
pub at-past : (ws : List ℕ) (i : ℕ) → 64 * length ws ≤ i → at ws i ≡ 0
unfolding at
at-past ws i h = ap (bit (i % 64)) (get_or-eq_default ws 0 (omega arith)) ∙ bit-zero (i % 64)

-- `at` and `member` say the same
pub at-member : (ws : List ℕ) (i : ℕ) → member ws i ≡ true → at ws i ≡ 1
unfolding member
at-member ws i h = eqb-true (at ws i) 1 h

pub at-none : (ws : List ℕ) (i : ℕ) → member ws i ≡ false → at ws i ≡ 0
unfolding member
at-none ws i h = let n = eqb-false (at ws i) 1 h in let l = at-lt ws i in omega arith

pub member-at : (ws : List ℕ) (i : ℕ) → at ws i ≡ 1 → member ws i ≡ true
unfolding member
member-at ws i h = eq-eqb (at ws i) 1 h

pub member-none : (ws : List ℕ) (i : ℕ) → at ws i ≡ 0 → member ws i ≡ false
unfolding member
member-none ws i h = ne_eqb (at ws i) 1 (λ e. omega arith)

pub member-set : (ws : List ℕ) (i : ℕ) → (at ws i ≡ 0 → ⊥) → member ws i ≡ true
member-set ws i h = member-at ws i (let l = at-lt ws i in omega arith)

pub member-past : (ws : List ℕ) (i : ℕ) → 64 * length ws ≤ i → member ws i ≡ false
member-past ws i h = member-none ws i (at-past ws i h)

-- where the digits are the same, the Bools are
pub member-cong : (a b : List ℕ) (i : ℕ) → at a i ≡ at b i → member a i ≡ member b i
unfolding member
member-cong a b i e = ap (λ (x : ℕ). eqb x 1) e

-- EXTENSIONALITY: sets of one length with the same members are the same words
pub at-ext : (a b : List ℕ) → length a ≡ length b → Words a → Words b → ((i : ℕ) → i < 64 * length a → at a i ≡ at b i) → a ≡ b
unfolding at
at-ext a b e wa wb h =
    ext_get_or 0 a b e
    (λ k l.
    bit-ext 64 (get_or a k 0) (get_or b k 0) (wa k) (wb k)
    (λ j m.
    let q : (k * 64 + j) / 64 ≡ k = omega arith in
    let r : (k * 64 + j) % 64 ≡ j = omega arith in
    let s : k * 64 + j < 64 * length a = omega arith in
    ap₂ (λ (x y : ℕ). bit x (get_or a y 0)) (sym r) (sym q) ∙ h (k * 64 + j) s ∙ ap₂ (λ (x y : ℕ). bit x (get_or b y 0)) r q))

-- the digit tells what the Bool tells
at-same : (a b : List ℕ) (i : ℕ) → member a i ≡ member b i → at a i ≡ at b i
at-same a b i e = go (member b i) refl
  where
    go : (t : Bool) → member b i ≡ t → at a i ≡ at b i
    go true q = at-member a i (e ∙ q) ∙ sym (at-member b i q)
    go false q = at-none a i (e ∙ q) ∙ sym (at-none b i q)

pub member-ext : (a b : List ℕ) → length a ≡ length b → Words a → Words b → ((i : ℕ) → i < 64 * length a → member a i ≡ member b i) → a ≡ b
member-ext a b e wa wb h = at-ext a b e wa wb (λ i l. at-same a b i (h i l))

-- ---- the empty set

zeros : (n k : ℕ) → ◌≡◌ {A = ℕ} (get_or (replicate n 0) k 0) 0
zeros zero k = refl
zeros (suc n) zero = refl
zeros (suc n) (suc k) = zeros n k

pub at-empty : (n i : ℕ) → at (replicate n 0) i ≡ 0
unfolding at
at-empty n i = ap (bit (i % 64)) (zeros n (i / 64)) ∙ bit-zero (i % 64)

pub member-empty : (n i : ℕ) → member (replicate n 0) i ≡ false
member-empty n i = member-none (replicate n 0) i (at-empty n i)

pub words-empty : (n : ℕ) → Words (replicate n 0)
words-empty n k = subst (λ (x : ℕ). x < 2 ^ 64) (sym (zeros n k)) (lit< tt)

-- a set without members is the empty set
pub empty-ext : (ws : List ℕ) → Words ws → ((i : ℕ) → i < 64 * length ws → at ws i ≡ 0) → ws ≡ replicate (length ws) 0
empty-ext ws w h =
    at-ext ws (replicate (length ws) 0) (sym (length-replicate (length ws) 0)) w (words-empty (length ws))
    (λ i l. h i l ∙ sym (at-empty (length ws) i))

-- ---- one word of the set changed at one digit: `f` is the word's change, `g` what it does to a digit

-- two numbers are one where their words and digits are
apart : (i j : ℕ) → i / 64 ≡ j / 64 → i % 64 ≡ j % 64 → i ≡ j
apart i j p q = omega arith

module _ (f g : ℕ → ℕ → ℕ) (digit : (k a b : ℕ) → bit k (f a b) ≡ g (bit k a) (bit k b)) (ws : List ℕ) (i : ℕ) where
  changed : ℕ
  changed = f (get_or ws (i / 64) 0) (2 ^ (i % 64))

  change-same : i < 64 * length ws → at (set ws (i / 64) changed) i ≡ g (at ws i) 1
  unfolding at changed
  change-same h =
      ap (bit (i % 64)) (get_or-set_same ws (i / 64) changed 0 (omega arith)) ∙ digit (i % 64) (get_or ws (i / 64) 0) (2 ^ (i % 64))
      ∙ ap (g (bit (i % 64) (get_or ws (i / 64) 0))) (bit-pow-same (i % 64))

  change-other : ((x : ℕ) → g x 0 ≡ x) → (j : ℕ) → (j ≡ i → ⊥) → at (set ws (i / 64) changed) j ≡ at ws j
  unfolding at changed
  change-other unit j h = go (ℕ_discrete (j / 64) (i / 64)) (dec_lt (i / 64) (length ws))
    where
      go : Dec (j / 64 ≡ i / 64) → Dec (i / 64 < length ws) → bit (j % 64) (get_or (set ws (i / 64) changed) (j / 64) 0) ≡ bit (j % 64) (get_or ws (j / 64) 0)
      go (no n) d = ap (bit (j % 64)) (get_or-set_other ws (i / 64) (j / 64) changed 0 n)
      go (yes e) (no d) = ap (λ (l : List ℕ). bit (j % 64) (get_or l (j / 64) 0)) (set_out ws (i / 64) changed (omega arith))
      go (yes e) (yes l) =
          ap (λ (k : ℕ). bit (j % 64) (get_or (set ws (i / 64) changed) k 0)) e
          ∙ ap (bit (j % 64)) (get_or-set_same ws (i / 64) changed 0 l)
          ∙ digit (j % 64) (get_or ws (i / 64) 0) (2 ^ (i % 64))
          ∙ ap (g (bit (j % 64) (get_or ws (i / 64) 0))) (bit-pow-other (j % 64) (i % 64) (λ q. h (apart j i e q)))
          ∙ unit (bit (j % 64) (get_or ws (i / 64) 0))
          ∙ ap (λ (k : ℕ). bit (j % 64) (get_or ws k 0)) (sym e)

  change-words : ((a b : ℕ) → a < 2 ^ 64 → b < 2 ^ 64 → f a b < 2 ^ 64) → Words ws → Words (set ws (i / 64) changed)
  unfolding changed
  change-words fits w k = go (ℕ_discrete k (i / 64)) (dec_lt (i / 64) (length ws))
    where
      changed-lt : changed < 2 ^ 64
      changed-lt = fits (get_or ws (i / 64) 0) (2 ^ (i % 64)) (w (i / 64)) (pow-lt (let h : i % 64 < 64 = omega arith in h))

      go : Dec (k ≡ i / 64) → Dec (i / 64 < length ws) → get_or (set ws (i / 64) changed) k 0 < 2 ^ 64
      go (no n) d = subst (λ (x : ℕ). x < 2 ^ 64) (sym (get_or-set_other ws (i / 64) k changed 0 n)) (w k)
      go (yes e) (yes l) = subst (λ (x : ℕ). x < 2 ^ 64) (sym (ap (λ (k : ℕ). get_or (set ws (i / 64) changed) k 0) e ∙ get_or-set_same ws (i / 64) changed 0 l)) changed-lt
      go (yes e) (no n) = subst (λ (x : ℕ). x < 2 ^ 64) (sym (ap (λ (m : List ℕ). get_or m k 0) (set_out ws (i / 64) changed (omega arith)))) (w k)

-- ---- `with`: i is in the set with i, and nothing else changes

pub at-insert-same : (ws : List ℕ) (i : ℕ) → i < 64 * length ws → at (insert ws i) i ≡ 1
unfolding insert changed
at-insert-same ws i h = change-same bit_or max bit-or ws i h ∙ (let l = at-lt ws i in omega arith)

pub at-insert-other : (ws : List ℕ) (i j : ℕ) → (j ≡ i → ⊥) → at (insert ws i) j ≡ at ws j
unfolding insert changed
at-insert-other ws i j n = change-other bit_or max bit-or ws i (λ x. omega arith) j n

-- a number past the last word is ignored
pub insert-past : (ws : List ℕ) (i : ℕ) → 64 * length ws ≤ i → insert ws i ≡ ws
unfolding insert
insert-past ws i h = set_out ws (i / 64) (bit_or (get_or ws (i / 64) 0) (2 ^ (i % 64))) (omega arith)

pub length-insert : (ws : List ℕ) (i : ℕ) → length (insert ws i) ≡ length ws
unfolding insert
length-insert ws i = length-set ws (i / 64) (bit_or (get_or ws (i / 64) 0) (2 ^ (i % 64)))

pub words-insert : (ws : List ℕ) (i : ℕ) → Words ws → Words (insert ws i)
unfolding insert changed
words-insert ws i w = change-words bit_or max bit-or ws i (or_lt 64) w

-- no member is lost
pub insert-ge : (ws : List ℕ) (i j : ℕ) → at ws j ≤ at (insert ws i) j
insert-ge ws i j = go (ℕ_discrete j i) (dec_lt i (64 * length ws))
  where
    go : Dec (j ≡ i) → Dec (i < 64 * length ws) → at ws j ≤ at (insert ws i) j
    go (no n) d = let e = at-insert-other ws i j n in omega arith
    go (yes e) (yes l) = subst (λ (x : ℕ). at ws x ≤ at (insert ws i) x) (sym e) (let a = at-lt ws i in let b = at-insert-same ws i l in omega arith)
    go (yes e) (no n) = subst (λ (x : ℕ). at ws x ≤ at (insert ws i) x) (sym e) (let a = at-past ws i (omega arith) in omega arith)

pub member-insert : (ws : List ℕ) (i j : ℕ) → i < 64 * length ws → member (insert ws i) j ≡ (eqb j i || member ws j)
member-insert ws i j h = go (ℕ_discrete j i)
  where
    go : Dec (j ≡ i) → member (insert ws i) j ≡ (eqb j i || member ws j)
    go (yes e) = ap (member (insert ws i)) e ∙ member-at (insert ws i) i (at-insert-same ws i h) ∙ ap (λ (t : Bool). t || member ws j) (sym (eq-eqb j i e))
    go (no n) = member-cong (insert ws i) ws j (at-insert-other ws i j n) ∙ ap (λ (t : Bool). t || member ws j) (sym (ne_eqb j i n))

-- ---- `without`: i is not in the set without i, and nothing else changes

pub length-remove : (ws : List ℕ) (i : ℕ) → length (remove ws i) ≡ length ws
unfolding remove
length-remove ws i = length-set ws (i / 64) (clear (get_or ws (i / 64) 0) (2 ^ (i % 64)))

-- a number past the last word is ignored
pub remove-past : (ws : List ℕ) (i : ℕ) → 64 * length ws ≤ i → remove ws i ≡ ws
unfolding remove
remove-past ws i h = set_out ws (i / 64) (clear (get_or ws (i / 64) 0) (2 ^ (i % 64))) (omega arith)

pub words-remove : (ws : List ℕ) (i : ℕ) → Words ws → Words (remove ws i)
unfolding remove changed
words-remove ws i w = change-words clear ◌-◌ bit-clear ws i (clear-lt 64) w

remove-inside : (ws : List ℕ) (i : ℕ) → i < 64 * length ws → at (remove ws i) i ≡ 0
unfolding remove changed
remove-inside ws i h = change-same clear ◌-◌ bit-clear ws i h ∙ (let l = at-lt ws i in omega arith)

pub at-remove-same : (ws : List ℕ) (i : ℕ) → at (remove ws i) i ≡ 0
at-remove-same ws i = go (dec_lt i (64 * length ws))
  where
    go : Dec (i < 64 * length ws) → at (remove ws i) i ≡ 0
    go (yes l) = remove-inside ws i l
    go (no n) = ap (λ (l : List ℕ). at l i) (remove-past ws i (omega arith)) ∙ at-past ws i (omega arith)

pub at-remove-other : (ws : List ℕ) (i j : ℕ) → (j ≡ i → ⊥) → at (remove ws i) j ≡ at ws j
unfolding remove changed
at-remove-other ws i j n = change-other clear ◌-◌ bit-clear ws i (λ x. omega arith) j n

pub member-remove : (ws : List ℕ) (i j : ℕ) → member (remove ws i) j ≡ (not (eqb j i) && member ws j)
member-remove ws i j = go (ℕ_discrete j i)
  where
    go : Dec (j ≡ i) → member (remove ws i) j ≡ (not (eqb j i) && member ws j)
    go (yes e) = ap (member (remove ws i)) e ∙ member-none (remove ws i) i (at-remove-same ws i) ∙ ap (λ (t : Bool). not t && member ws j) (sym (eq-eqb j i e))
    go (no n) = member-cong (remove ws i) ws j (at-remove-other ws i j n) ∙ ap (λ (t : Bool). not t && member ws j) (sym (ne_eqb j i n))

-- ---- two sets, word by word: `f` is what is done to the words, `g` what it does to the digits

module _ (f : ℕ → ℕ → ℕ) where
  pub length-pairwise : (a b : List ℕ) → length a ≡ length b → length (pairwise f a b) ≡ length a
  unfolding pairwise
  length-pairwise [] b h = refl
  length-pairwise (x ∷ a) [] h = sym h
  length-pairwise (x ∷ a) (y ∷ b) h = ap suc (length-pairwise a b (omega arith))

  pub get_d-pairwise : f 0 0 ≡ 0 → (a b : List ℕ) (k : ℕ) → length a ≡ length b → get_or (pairwise f a b) k 0 ≡ f (get_or a k 0) (get_or b k 0)
  unfolding pairwise
  get_d-pairwise z [] [] k h = sym z
  get_d-pairwise z [] (y ∷ b) k h = absurd (omega arith)
  get_d-pairwise z (x ∷ a) [] k h = absurd (omega arith)
  get_d-pairwise z (x ∷ a) (y ∷ b) zero h = refl
  get_d-pairwise z (x ∷ a) (y ∷ b) (suc k) h = get_d-pairwise z a b k (omega arith)

  words-pairwise : ((a b : ℕ) → a < 2 ^ 64 → b < 2 ^ 64 → f a b < 2 ^ 64) → f 0 0 ≡ 0 → (a b : List ℕ) → length a ≡ length b → Words a → Words b → Words (pairwise f a b)
  words-pairwise fits z a b h wa wb k = subst (λ (x : ℕ). x < 2 ^ 64) (sym (get_d-pairwise z a b k h)) (fits (get_or a k 0) (get_or b k 0) (wa k) (wb k))

  at-pairwise : (g : ℕ → ℕ → ℕ) → ((k a b : ℕ) → bit k (f a b) ≡ g (bit k a) (bit k b)) → f 0 0 ≡ 0 → (a b : List ℕ) (i : ℕ) → length a ≡ length b → at (pairwise f a b) i ≡ g (at a i) (at b i)
  unfolding at
  at-pairwise g digit z a b i h = ap (bit (i % 64)) (get_d-pairwise z a b (i / 64) h) ∙ digit (i % 64) (get_or a (i / 64) 0) (get_or b (i / 64) 0)

-- what holds of each two digits
digits : (P : ℕ → ℕ → Type 0) → P 0 0 → P 0 1 → P 1 0 → P 1 1 → (x y : ℕ) → x < 2 → y < 2 → P x y
digits P a b c d zero zero p q = a
digits P a b c d zero (suc zero) p q = b
digits P a b c d (suc zero) zero p q = c
digits P a b c d (suc zero) (suc zero) p q = d
digits P a b c d zero (suc (suc y)) p q = absurd (omega arith)
digits P a b c d (suc zero) (suc (suc y)) p q = absurd (omega arith)
digits P a b c d (suc (suc x)) y p q = absurd (omega arith)

pub clear-zero : clear 0 0 ≡ 0
unfolding clear
clear-zero = refl

-- the union
pub length-unite : (a b : List ℕ) → length a ≡ length b → length (unite a b) ≡ length a
unfolding unite
length-unite a b h = length-pairwise bit_or a b h

pub words-unite : (a b : List ℕ) → length a ≡ length b → Words a → Words b → Words (unite a b)
unfolding unite
words-unite a b h wa wb = words-pairwise bit_or (or_lt 64) refl a b h wa wb

pub at-unite : (a b : List ℕ) (i : ℕ) → length a ≡ length b → at (unite a b) i ≡ max (at a i) (at b i)
unfolding unite
at-unite a b i h = at-pairwise bit_or max bit-or refl a b i h

pub member-unite : (a b : List ℕ) (i : ℕ) → length a ≡ length b → member (unite a b) i ≡ (member a i || member b i)
unfolding member
member-unite a b i h =
    ap (λ (x : ℕ). eqb x 1) (at-unite a b i h)
    ∙ digits (λ x y. eqb (max x y) 1 ≡ (eqb x 1 || eqb y 1)) refl refl refl refl (at a i) (at b i) (at-lt a i) (at-lt b i)

-- the intersection
pub length-intersect : (a b : List ℕ) → length a ≡ length b → length (intersect a b) ≡ length a
unfolding intersect
length-intersect a b h = length-pairwise bit_and a b h

pub words-intersect : (a b : List ℕ) → length a ≡ length b → Words a → Words b → Words (intersect a b)
unfolding intersect
words-intersect a b h wa wb = words-pairwise bit_and (and_lt 64) refl a b h wa wb

pub at-intersect : (a b : List ℕ) (i : ℕ) → length a ≡ length b → at (intersect a b) i ≡ min (at a i) (at b i)
unfolding intersect
at-intersect a b i h = at-pairwise bit_and min bit-and refl a b i h

pub member-intersect : (a b : List ℕ) (i : ℕ) → length a ≡ length b → member (intersect a b) i ≡ (member a i && member b i)
unfolding member
member-intersect a b i h =
    ap (λ (x : ℕ). eqb x 1) (at-intersect a b i h)
    ∙ digits (λ x y. eqb (min x y) 1 ≡ (eqb x 1 && eqb y 1)) refl refl refl refl (at a i) (at b i) (at-lt a i) (at-lt b i)

-- the difference
pub length-subtract : (a b : List ℕ) → length a ≡ length b → length (subtract a b) ≡ length a
unfolding subtract
length-subtract a b h = length-pairwise clear a b h

pub words-subtract : (a b : List ℕ) → length a ≡ length b → Words a → Words b → Words (subtract a b)
unfolding subtract
words-subtract a b h wa wb = words-pairwise clear (clear-lt 64) clear-zero a b h wa wb

pub at-subtract : (a b : List ℕ) (i : ℕ) → length a ≡ length b → at (subtract a b) i ≡ at a i - at b i
unfolding subtract
at-subtract a b i h = at-pairwise clear ◌-◌ bit-clear clear-zero a b i h

pub member-subtract : (a b : List ℕ) (i : ℕ) → length a ≡ length b → member (subtract a b) i ≡ (member a i && not (member b i))
unfolding member
member-subtract a b i h =
    ap (λ (x : ℕ). eqb x 1) (at-subtract a b i h)
    ∙ digits (λ x y. eqb (x - y) 1 ≡ (eqb x 1 && not (eqb y 1))) refl refl refl refl (at a i) (at b i) (at-lt a i) (at-lt b i)

-- ---- `count`: the length of the list of members

pub length-members : (f : ℕ → ℕ) (i n : ℕ) → ((k : ℕ) → f k < 2) → length (members f i n) ≡ tally (λ k. f (i + k)) n
unfolding members tally
length-members f i zero h = refl
length-members f i (suc n) h =
    kept (f i) (h i) (members f (suc i) n)
    ∙ ap₂ (λ (x y : ℕ). x + y) (ap f (sym (add-zero i)))
    (length-members f (suc i) n h ∙ tally-ext (λ k. f (suc i + k)) (λ k. f (i + suc k)) n (λ k l. ap f (suc-add i k ∙ sym (add-suc i k))))
  where
    kept : (b : ℕ) → b < 2 → (r : List ℕ) → length (keep b i r) ≡ b + length r
    kept zero g r = sym (zero-add (length r))
    kept (suc zero) g r = omega arith
    kept (suc (suc b)) g r = absurd (omega arith)

-- the list has exactly the members
list-only : (f : ℕ → ℕ) (i n j : ℕ) → Memᴰ j (members f i n) → f j ≡ 0 → ⊥
unfolding members
list-only f i zero j m z = Memᴰ.not-nil m
list-only f i (suc n) j m z = go (f i) refl m (λ t. list-only f (suc i) n j t z)
  where
    go : (d : ℕ) → f i ≡ d → Memᴰ j (keep d i (members f (suc i) n)) → (Memᴰ j (members f (suc i) n) → ⊥) → ⊥
    go zero e k ih = ih k
    go (suc d) e k ih = ⊎_elim (λ q. let r = ap f q in omega arith) ih (Memᴰ.cases_cons k)

list-all : (f : ℕ → ℕ) (i n j : ℕ) → i ≤ j → j < i + n → (f j ≡ 0 → ⊥) → Memᴰ j (members f i n)
unfolding members
list-all f i zero j h l y = absurd (omega arith)
list-all f i (suc n) j h l y = go (f i) refl (ℕ_discrete j i) (λ q. list-all f (suc i) n j (omega arith) (omega arith) y)
  where
    go : (d : ℕ) → f i ≡ d → Dec (j ≡ i) → ((j ≡ i → ⊥) → Memᴰ j (members f (suc i) n)) → Memᴰ j (keep d i (members f (suc i) n))
    go zero e (yes q) ih = absurd (y (ap f q ∙ e))
    go zero e (no q) ih = ih q
    go (suc d) e (yes q) ih = Memᴰ.head q
    go (suc d) e (no q) ih = Memᴰ.tail (ih q)

pub members-only : (ws : List ℕ) (n j : ℕ) → Memᴰ j (members (at ws) 0 n) → member ws j ≡ true
members-only ws n j m = member-set ws j (list-only (at ws) 0 n j m)

pub members-all : (ws : List ℕ) (n j : ℕ) → j < n → member ws j ≡ true → Memᴰ j (members (at ws) 0 n)
members-all ws n j h m = list-all (at ws) 0 n j (omega arith) (omega arith) (λ z. let e = at-member ws j m in omega arith)

-- THE COUNT is the sum of the digits
pub count-tally : (ws : List ℕ) (n : ℕ) → length (members (at ws) 0 n) ≡ tally (at ws) n
count-tally ws n = length-members (at ws) 0 n (at-lt ws) ∙ tally-ext (λ k. at ws (0 + k)) (at ws) n (λ k l. ap (at ws) (zero-add k))

-- it is 0 exactly if the set is empty
pub count-empty : (m n : ℕ) → length (members (at (replicate m 0)) 0 n) ≡ 0
count-empty m n = count-tally (replicate m 0) n ∙ tally-none (at (replicate m 0)) n (λ k l. at-empty m k)

pub count-zero : (ws : List ℕ) → length ws ≡ 16 → Words ws → length (members (at ws) 0 1024) ≡ 0 → ws ≡ replicate 16 0
count-zero ws l w h =
    empty-ext ws w (λ i m. tally-zero (at ws) 1024 (sym (count-tally ws 1024) ∙ h) i (omega arith)) ∙ ap (λ (n : ℕ). replicate n 0) l

-- a new member adds 1, a member taken away takes 1
pub count-insert : (ws : List ℕ) (i n : ℕ) → i < n → i < 64 * length ws → member ws i ≡ false
    → length (members (at (insert ws i)) 0 n) ≡ suc (length (members (at ws) 0 n))
count-insert ws i n l h m =
    count-tally (insert ws i) n
    ∙ tally-more (at ws) (at (insert ws i)) n i l (at-insert-same ws i h ∙ ap suc (sym (at-none ws i m))) (at-insert-other ws i)
    ∙ ap suc (sym (count-tally ws n))

pub count-remove : (ws : List ℕ) (i n : ℕ) → i < n → member ws i ≡ true → length (members (at ws) 0 n) ≡ suc (length (members (at (remove ws i)) 0 n))
count-remove ws i n l m =
    count-tally ws n
    ∙ tally-more (at (remove ws i)) (at ws) n i l (at-member ws i m ∙ ap suc (sym (at-remove-same ws i))) (λ k q. sym (at-remove-other ws i k q))
    ∙ ap suc (sym (count-tally (remove ws i) n))

-- a set that has all of another's members, and as many, is the other
pub count-same : (a b : List ℕ) → length a ≡ 16 → length b ≡ 16 → Words a → Words b → ((i : ℕ) → at a i ≤ at b i)
    → length (members (at a) 0 1024) ≡ length (members (at b) 0 1024) → a ≡ b
count-same a b la lb wa wb h e =
    at-ext a b (la ∙ sym lb) wa wb (λ i l. tally-eq (at a) (at b) 1024 h (sym (count-tally a 1024) ∙ e ∙ count-tally b 1024) i (omega arith))

-- ---- `lowest`: the least member

-- it is a member where it is in range
pub lowest-member : (ws : List ℕ) (n : ℕ) → first (at ws) n < n → member ws (first (at ws) n) ≡ true
lowest-member ws n h = member-set ws (first (at ws) n) (first-found (at ws) n h)

-- nothing below it is a member
pub lowest-least : (ws : List ℕ) (n j : ℕ) → j < first (at ws) n → member ws j ≡ false
lowest-least ws n j h = member-none ws j (first-below (at ws) n j h)

-- it is 1,024 exactly if there is no member
pub lowest-none : (ws : List ℕ) → length ws ≡ 16 → first (at ws) 1024 ≡ 1024 → (j : ℕ) → member ws j ≡ false
lowest-none ws l h j = go (dec_lt j 1024)
  where
    go : Dec (j < 1024) → member ws j ≡ false
    go (yes b) = lowest-least ws 1024 j (omega arith)
    go (no n) = member-past ws j (omega arith)

pub lowest-empty : (ws : List ℕ) (n : ℕ) → ((j : ℕ) → j < n → member ws j ≡ false) → first (at ws) n ≡ n
lowest-empty ws n h = go (dec_lt (first (at ws) n) n)
  where
    go : Dec (first (at ws) n < n) → first (at ws) n ≡ n
    go (yes l) = absurd (first-found (at ws) n l (at-none ws (first (at ws) n) (h (first (at ws) n) l)))
    go (no m) = let b = first-le (at ws) n in omega arith

-- ---- `same`: true exactly if the words are equal

pub same-self : (a : List ℕ) → same_words a a ≡ true
unfolding same_words
same-self [] = refl
same-self (x ∷ a) = ap₂ (λ (s t : Bool). s && t) (eq-eqb x x refl) (same-self a)

pub same-true : (a b : List ℕ) → same_words a b ≡ true → a ≡ b
unfolding same_words
same-true [] [] h = refl
same-true [] (y ∷ b) h = absurd (false≢true h)
same-true (x ∷ a) [] h = absurd (false≢true h)
same-true (x ∷ a) (y ∷ b) h = go (eqb x y) refl h (same-true a b)
  where
    go : (t : Bool) → eqb x y ≡ t → (t && same_words a b) ≡ true → (same_words a b ≡ true → a ≡ b) → x ∷ a ≡ y ∷ b
    go true e q ih = ap₂ (λ (z : ℕ) (l : List ℕ). z ∷ l) (eqb-true x y e) (ih q)
    go false e q ih = absurd (false≢true q)
