-- What the loops over the sixteen words go by: for each loop what is still to do, or what is done, at word k.
use mathlib.Core.Path.{◌≡◌, refl, sym, ap, ap₂, ◌∙◌, subst}
use mathlib.Core.Bool.{◌&&◌}
use mathlib.Core.List.{List, [], ◌∷◌}
use Prim.Native.Nat.{ℕ, zero, suc, ◌+◌, ◌*◌, ◌/◌, ◌%◌, ◌^◌, ◌≤◌, ◌<◌}
use native.Mathlib.Decide.{ℕ_discrete}
use native.Mathlib.Numerals.{add-one}
use native.Mathlib.Omega.{arith}
use lib.Dec.{eqb}
use lib.Pointwise.{pointwise}
use denote.Param.Members.{Mut, Called}
use Rattle.std.specs.Array.{IsFromFnResultFrom}
use lib.Count.{ones, count_trailing_zeros, trailing_of_zero}
use lib.ListN.{length, get_or, drop, drop_of_length-le}
use lib.Seq.{drop-cons, ext_get_or}
use Rattle.sets.specs.Sets.{bit, Words, at, pairwise, same_words, members, tally, first}
use Rattle.sets.specs.Bits.{tally-ext, tally-add, ones-tally, first-ext, first-none, first-some, trailing-first, trailing-lt}
use Rattle.sets.specs.Laws.{length-pairwise, get_d-pairwise, count-tally}

-- ---- `union`, `intersection`, `difference`: f of the words, word by word

pub pairwise-all : (f : ℕ → ℕ → ℕ) (a b r : List ℕ) → f 0 0 ≡ 0 → length a ≡ 16 → length b ≡ 16 → length r ≡ 16
    → ((i : ℕ) → i < 16 → get_or r i 0 ≡ f (get_or a i 0) (get_or b i 0)) → r ≡ pairwise f a b
pairwise-all f a b r z la lb lr each =
    ext_get_or 0 r (pairwise f a b) (lr ∙ sym (length-pairwise f a b (la ∙ sym lb) ∙ la))
    (λ j l. each j (omega arith) ∙ sym (get_d-pairwise f z a b j (la ∙ sym lb)))

-- an array that a closure made that changes nothing
pub made-by : {F : Type 0} (g : Mut F (ℕ × Unit {0}) ℕ) (h : ℕ → ℕ) (f : F) → ((i y : ℕ) (q : F) → Called g f (i, tt) y q → (q ≡ f) × (y ≡ h i))
    → (ys : List ℕ) (i n : ℕ) → IsFromFnResultFrom g f ys i n → (k : ℕ) → i ≤ k → k < i + n → get_or ys k 0 ≡ h k
made-by g h f same ys i zero m k a b = absurd (omega arith)
made-by g h f same ys i (suc n) m k a b =
    let one = same i m.1 m.0 m.3 in
    elim (ℕ_discrete k i) [
      | yes e ↦ ap (λ j. get_or ys j 0) e ∙ m.2.1 0 ∙ one.1 ∙ ap h (sym e)
      | no d ↦ made-by g h f same ys (i + 1) n (subst (λ q. IsFromFnResultFrom g q ys (i + 1) n) one.0 m.4) k (omega arith) (omega arith)
    ]

-- ---- `count`: the ones of the words from k on are still to be counted

-- the ones of the words, added up
unfoldable pub sum_ones : List ℕ → ℕ
sum_ones [] = zero
sum_ones (w ∷ ws) = ones w + sum_ones ws

-- the digits of the first word, and of the words after it
at-here : (w : ℕ) (ws : List ℕ) (k : ℕ) → k < 64 → at (w ∷ ws) k ≡ bit k w
unfolding at
at-here w ws k h =
    let q : k / 64 ≡ 0 = omega arith in
    let r : k % 64 ≡ k = omega arith in
    ap₂ (λ (x y : ℕ). bit x (get_or (w ∷ ws) y 0)) r q

at-there : (w : ℕ) (ws : List ℕ) (k : ℕ) → at (w ∷ ws) (64 + k) ≡ at ws k
unfolding at
at-there w ws k =
    let q : (64 + k) / 64 ≡ suc (k / 64) = omega arith in
    let r : (64 + k) % 64 ≡ k % 64 = omega arith in
    ap₂ (λ (x y : ℕ). bit x (get_or (w ∷ ws) y 0)) r q

sum-tally : (ws : List ℕ) → Words ws → sum_ones ws ≡ tally (at ws) (64 * length ws)
unfolding sum_ones tally
sum-tally [] h = refl
sum-tally (w ∷ ws) h =
    ap₂ (λ (x y : ℕ). x + y)
    (ones-tally 64 w (h 0) ∙ tally-ext (λ k. bit k w) (at (w ∷ ws)) 64 (λ k l. sym (at-here w ws k l)))
    (sum-tally ws (λ i. h (suc i)) ∙ tally-ext (at ws) (λ k. at (w ∷ ws) (64 + k)) (64 * length ws) (λ k l. sym (at-there w ws k)))
    ∙ sym (tally-add (at (w ∷ ws)) 64 (64 * length ws))
    ∙ ap (tally (at (w ∷ ws))) (let e : 64 + 64 * length ws ≡ 64 * suc (length ws) = omega arith in e)

-- the sum of the words' counts of ones is the number of members
pub sum-members : (ws : List ℕ) → length ws ≡ 16 → Words ws → sum_ones ws ≡ length (members (at ws) 0 1024)
sum-members ws l w = sum-tally ws w ∙ ap (tally (at ws)) (let e : 64 * length ws ≡ 1024 = omega arith in e) ∙ sym (count-tally ws 1024)

pub sum-drop : (ws : List ℕ) (k : ℕ) → k < length ws → sum_ones (drop k ws) ≡ ones (get_or ws k 0) + sum_ones (drop (k + 1) ws)
unfolding sum_ones
sum-drop ws k h = rw (add-one, drop-cons ws k 0)

pub sum-end : (ws : List ℕ) (k : ℕ) → length ws ≤ k → sum_ones (drop k ws) ≡ 0
unfolding sum_ones
sum-end ws k h = ap sum_ones (drop_of_length-le ws h)

-- ---- `lowest`: the words below k are 0, and the lowest member of those from k on is still to be found

-- the lowest member of a word w with words after it whose lowest member is r
abbrev pub low_step : ℕ → ℕ → ℕ
low_step zero r = 64 + r
low_step (suc w) r = count_trailing_zeros 64 (suc w)

-- the lowest member, found word by word; the number of digits where all words are 0
unfoldable pub low_words : List ℕ → ℕ
low_words [] = zero
low_words (w ∷ ws) = low_step w (low_words ws)

low-first : (ws : List ℕ) → Words ws → low_words ws ≡ first (at ws) (64 * length ws)
unfolding low_words first
low-first [] h = refl
low-first (w ∷ ws) h =
    step w (h 0) (low-first ws (λ i. h (suc i)))
    ∙ ap (first (at (w ∷ ws))) (let e : 64 + 64 * length ws ≡ 64 * suc (length ws) = omega arith in e)
  where
    here : (v : ℕ) → count_trailing_zeros 64 v ≡ first (at (v ∷ ws)) 64
    here v = trailing-first 64 v ∙ first-ext (λ k. bit k v) (at (v ∷ ws)) 64 (λ k l. sym (at-here v ws k l))

    step : (v : ℕ) → v < 2 ^ 64 → low_words ws ≡ first (at ws) (64 * length ws) → low_step v (low_words ws) ≡ first (at (v ∷ ws)) (64 + 64 * length ws)
    step zero b ih =
        ap (λ (x : ℕ). 64 + x) (ih ∙ first-ext (at ws) (λ k. at (0 ∷ ws) (64 + k)) (64 * length ws) (λ k l. sym (at-there 0 ws k)))
        ∙ sym (first-none (at (0 ∷ ws)) 64 (64 * length ws) (sym (here 0) ∙ trailing_of_zero 64))
    step (suc v) b ih =
        here (suc v)
        ∙ sym (first-some (at (suc v ∷ ws)) 64 (64 * length ws) (subst (λ (x : ℕ). x < 64) (here (suc v)) (trailing-lt 64 (suc v) b (omega arith))))

-- the first word that is not 0 has the least member
pub low-members : (ws : List ℕ) → length ws ≡ 16 → Words ws → low_words ws ≡ first (at ws) 1024
low-members ws l w = low-first ws w ∙ ap (first (at ws)) (let e : 64 * length ws ≡ 1024 = omega arith in e)

pub low-drop : (ws : List ℕ) (k : ℕ) → k < length ws → low_words (drop k ws) ≡ low_step (get_or ws k 0) (low_words (drop (k + 1) ws))
unfolding low_words
low-drop ws k h = rw (add-one, drop-cons ws k 0)

pub low-end : (ws : List ℕ) (k : ℕ) → length ws ≤ k → low_words (drop k ws) ≡ 0
unfolding low_words
low-end ws k h = ap low_words (drop_of_length-le ws h)

pub low-pos : (w r : ℕ) → (w ≡ 0 → ⊥) → low_step w r ≡ count_trailing_zeros 64 w
low-pos zero r h = absurd (h refl)
low-pos (suc w) r h = refl

-- ---- `same`

-- the equality of two arrays, as `==` states it
pub pointwise-same : (a b : List ℕ) → pointwise eqb a b ≡ same_words a b
unfolding same_words
pointwise-same [] [] = refl
pointwise-same [] (y ∷ ys) = refl
pointwise-same (x ∷ xs) [] = refl
pointwise-same (x ∷ xs) (y ∷ ys) = ap (λ t. eqb x y && t) (pointwise-same xs ys)
