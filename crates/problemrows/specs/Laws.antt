-- Laws of the rows as the code meets them.
use Rattle.std.proofs.Math.Path.{◌≡◌, refl, ap}
use Rattle.std.proofs.Common.{sym, ap₂, ◌∙◌, subst, take-append-drop, length-take-le, take-take}
use Rattle.std.specs.Prelude.{Bool, cond, ℕ, suc, ◌+◌, ◌*◌, ◌≤◌, ◌<◌, take, drop, set}
use Rattle.std.proofs.Math.Bool.{true, false}
use Rattle.std.proofs.lemmas.Bool.{false≢true}
use mathlib.Core.List.{List, [], ◌∷◌, ◌++◌, append_assoc}
use native.Mathlib.Omega.{arith}
use Rattle.std.proofs.Math.Dec.{leb, ltb}
use Rattle.std.proofs.Math.ListN.{length, length-append}
use Rattle.std.proofs.lemmas.List.{set_split, drop-append-le}
use borrow.Author.Tests.{lt-ltb, le-ltb, le-leb, lt-leb, ne_eqb, ltb-true, ltb-false, leb-false}
use borrow.Rule.Slice.PartMut.{put_mid, put_same}
use Rattle.sorted.specs.declared.Put.{Put}
use Rattle.sorted.specs.declared.Put.TheVariants.{Old, New, Full}
use Rattle.sorted.specs.Sorted.{Sorted, has, insert_in, put, put_answer, put_list, grown}
use Rattle.ty.specs.Words.{legal_word, type_of}
use Rattle.keys.specs.Rank.{key}
use Rattle.rows.specs.Rows.{filled}
use Rattle.rows.specs.Keys.{filled-same, take-filled, put-filled}
use Rattle.problems.specs.Stored.{is_full}
use Rattle.problems.proofs.Stored.{put-full}
use Rattle.problemrows.specs.declared.Added.{Added}
use Rattle.problemrows.specs.ProblemRows.{Ran, refused, taken, count_refusal, variable_refusal, variable_row, entry_row, pair_row, bound_row, Adds}

abbrev pub added : ℕ → ℕ → Added
added k n = record { refusal = k; count = n }

-- ---- what a slice holds after a row

pub adds-by : {s s' : Ran} {a a' : List ℕ} {r : Added} → s ≡ s' → Adds s' a a' r → Adds s a a' r
adds-by {s} {s'} {a} {a'} {r} e h = subst (λ (x : Ran). Adds x a a' r) (sym e) h

-- a refused row leaves the slice
pub adds-refused : (k n : ℕ) (a : List ℕ) → n ≤ length a → Adds (refused k (take n a)) a a (added k n)
adds-refused k n a h = record {
  added-is = ap (added k) (sym (length-take-le n a h));
  entries-are = sym (filled-same n a h);
}

-- THE ENTRIES STAND IN FRONT
pub adds-entries : {s : Ran} {a a' : List ℕ} {r : Added} → Adds s a a' r → take r.count a' ≡ s.entries
adds-entries {s} {a} {a'} {r} h = ap (take r.count) h.entries-are ∙ take-filled s.entries a r.count (ap (λ (z : Added). z.count) h.added-is)

-- ---- the count and a variable

pub count-over : (n : ℕ) → 512 < n → 8 ≡ count_refusal n
unfolding count_refusal
count-over n h = rw (lt-ltb 512 n h)

pub count-fits : (n : ℕ) → n ≤ 512 → 0 ≡ count_refusal n
unfolding count_refusal
count-fits n h = rw (le-ltb 512 n h)

module _ (components n c : ℕ) where
  pub variable-outside : components ≤ c → 6 ≡ variable_refusal components n c
  unfolding variable_refusal
  variable-outside h = rw (le-ltb c components h)

  pub variable-over : c < components → 2048 ≤ n → 8 ≡ variable_refusal components n c
  unfolding variable_refusal
  variable-over h k = rw (lt-ltb c components h, le-leb 2048 n k)

  pub variable-fits : c < components → n < 2048 → 0 ≡ variable_refusal components n c
  unfolding variable_refusal
  variable-fits h k = rw (lt-ltb c components h, lt-leb 2048 n k)

  -- one that is taken has room
  pub variable-room : variable_refusal components n c ≡ 0 → (c < components) × (n < 2048)
  unfolding variable_refusal
  variable-room e = go (ltb c components) refl (leb 2048 n) refl e
    where
      go : (s : Bool) → ltb c components ≡ s → (t : Bool) → leb 2048 n ≡ t → ◌≡◌ {A = ℕ} (cond s (cond t 8 0) 6) 0 → (c < components) × (n < 2048)
      go true p true q z = absurd (omega arith)
      go true p false q z = (ltb-true c components p, leb-false 2048 n q)
      go false p t q z = absurd (omega arith)

module _ (components c n : ℕ) (a : List ℕ) (h : n ≤ length a) (k : ℕ) (e : k ≡ variable_refusal components n c) where
  many : length (take n a) ≡ n
  many = length-take-le n a h

  pub variable-refused : (k ≡ 0 → ⊥) → Adds (variable_row components c (take n a)) a a (added k n)
  unfolding variable_row
  variable-refused z = adds-by {s' = refused k (take n a)} (rw (many, ← e, ne_eqb k 0 z)) (adds-refused k n a h)

  set-front : n < length a → set a n c ≡ filled (take n a ++ (c ∷ [])) a
  set-front l =
      set_split a n c l ∙ sym (append_assoc (take n a) (c ∷ []) (drop (suc n) a))
      ∙ ap (λ (m : ℕ). (take n a ++ (c ∷ [])) ++ drop m a) (let m = many in let t = length-append (take n a) (c ∷ []) in let z : suc n ≡ length (take n a ++ (c ∷ [])) = omega arith in z)

  pub variable-taken : k ≡ 0 → n < length a → Adds (variable_row components c (take n a)) a (set a n c) (added 0 (n + 1))
  unfolding variable_row
  variable-taken z l =
      adds-by {s' = taken (take n a ++ (c ∷ []))} (rw (many, ← e, z)) (record {
        added-is = ap (added 0) (let m = many in let t = length-append (take n a) (c ∷ []) in let z : n + 1 ≡ length (take n a ++ (c ∷ [])) = omega arith in z);
        entries-are = set-front l;
      })

-- ---- sorted entries

-- what a put's answer comes to, n entries being there
abbrev pub by_answer : Put → ℕ → Added
by_answer Old n = added 0 n
by_answer New n = added 0 (n + 1)
by_answer Full n = added 8 n

-- a put without room leaves the slice
full-same : (a : List ℕ) (n x : ℕ) → is_full (put_answer a n x) ≡ true → put_list a n x ≡ a
unfolding put_answer put_list
full-same a n x = go (has x (take n a)) (leb (length a) n)
  where
    go : (s t : Bool) → is_full (cond s Old (cond t Full New)) ≡ true → cond s a (cond t a (insert_in x (take n a) ++ drop (n + 1) a)) ≡ a
    go true t e = refl
    go false true e = refl
    go false false e = absurd (false≢true e)

-- filled in a part, filled in the whole
filled-part : (k : ℕ) (l a : List ℕ) → length l ≤ length (take k a) → put_mid 0 k a (filled l (take k a)) ≡ filled l a
filled-part k l a h =
    append_assoc l (drop (length l) (take k a)) (drop k a)
    ∙ ap (λ (r : List ℕ). l ++ r) (sym (drop-append-le (length l) (take k a) (drop k a) h) ∙ ap (drop (length l)) (take-append-drop k a))

-- A PUT INTO THE PART THAT MAY BE FILLED, WHICH IS THE FIRST k ENTRIES
module _ (room x n k : ℕ) (a : List ℕ) (h : n ≤ room) (l : room ≤ length a) (g : Sorted (take n a)) (e : k ≡ room) where
  part-length : length (take k a) ≡ room
  part-length = length-take-le k a (omega arith) ∙ e

  part-take : take n (take k a) ≡ take n a
  part-take = take-take n k a (omega arith)

  part-sorted : Sorted (take n (take k a))
  part-sorted = subst Sorted (sym part-take) g

  part-full : ltb room (length (put x (take n a))) ≡ is_full (put_answer (take k a) n x)
  part-full =
      ap₂ (λ (m : ℕ) (z : List ℕ). ltb m (length (put x z))) (sym part-length) (sym part-take)
      ∙ put-full (take k a) n x part-sorted (let p = part-length in omega arith)

  entry-full : is_full (put_answer (take k a) n x) ≡ true → Adds (entry_row room x (take n a)) a (put_mid 0 k a (put_list (take k a) n x)) (added 8 n)
  unfolding entry_row
  entry-full f =
      adds-by {s' = refused 8 (take n a)} (rw (part-full, f))
      (subst (λ (b : List ℕ). Adds (refused 8 (take n a)) a b (added 8 n)) (sym (ap (put_mid 0 k a) (full-same (take k a) n x f) ∙ put_same 0 k a)) (adds-refused 8 n a (omega arith)))

  entry-put : is_full (put_answer (take k a) n x) ≡ false
      → Adds (entry_row room x (take n a)) a (put_mid 0 k a (put_list (take k a) n x)) (added 0 (grown (put_answer (take k a) n x) n))
  unfolding entry_row
  entry-put f =
      let p = part-length in
      let s = ltb-false room (length (put x (take n a))) (part-full ∙ f) in
      let t = ap (λ (z : List ℕ). length (put x z)) part-take in
      let q = put-filled (take k a) n x (omega arith) part-sorted (omega arith) in
      adds-by {s' = taken (put x (take n a))} (rw (part-full, f)) (record {
        added-is = ap (added 0) (q.0 ∙ t);
        entries-are = ap (put_mid 0 k a) q.1 ∙ filled-part k (put x (take n (take k a))) a (omega arith) ∙ ap (λ (z : List ℕ). filled (put x z) a) part-take;
      })

  pub entry-adds : (o : Put) → o ≡ put_answer (take k a) n x → (b : List ℕ) → b ≡ put_list (take k a) n x → Adds (entry_row room x (take n a)) a (put_mid 0 k a b) (by_answer o n)
  entry-adds o p b q =
      subst (λ (z : List ℕ). Adds (entry_row room x (take n a)) a (put_mid 0 k a z) (by_answer o n)) (sym q) (go o p)
    where
      go : (o : Put) → o ≡ put_answer (take k a) n x → Adds (entry_row room x (take n a)) a (put_mid 0 k a (put_list (take k a) n x)) (by_answer o n)
      go Old p = subst (λ (m : ℕ). Adds (entry_row room x (take n a)) a (put_mid 0 k a (put_list (take k a) n x)) (added 0 m)) (ap (λ (z : Put). grown z n) (sym p)) (entry-put (ap is_full (sym p)))
      go New p = subst (λ (m : ℕ). Adds (entry_row room x (take n a)) a (put_mid 0 k a (put_list (take k a) n x)) (added 0 m)) (ap (λ (z : Put). grown z n) (sym p)) (entry-put (ap is_full (sym p)))
      go Full p = entry-full (ap is_full (sym p))

-- ---- pairs

module _ (components room a b : ℕ) (l : List ℕ) where
  pub pair-first : components ≤ a → pair_row components room a b l ≡ refused 6 l
  unfolding pair_row
  pair-first h = rw (le-ltb a components h)

  pub pair-second : a < components → components ≤ b → pair_row components room a b l ≡ refused 6 l
  unfolding pair_row
  pair-second h k = rw (lt-ltb a components h, le-ltb b components k)

  pub pair-inside : a < components → b < components → pair_row components room a b l ≡ entry_row room (a * 512 + b) l
  unfolding pair_row
  pair-inside h k = rw (lt-ltb a components h, lt-ltb b components k)

-- ---- bounds

module _ (names components c k w : ℕ) (l : List ℕ) where
  pub bound-outside : components ≤ c → bound_row names components c k w l ≡ refused 6 l
  unfolding bound_row
  bound-outside h = rw (le-ltb c components h)

  pub bound-kind : c < components → 4 < k → bound_row names components c k w l ≡ refused 6 l
  unfolding bound_row
  bound-kind h i = rw (lt-ltb c components h, lt-leb k 4 i)

  pub bound-type : c < components → k ≤ 4 → legal_word names w ≡ false → bound_row names components c k w l ≡ refused 7 l
  unfolding bound_row
  bound-type h i e = rw (lt-ltb c components h, le-leb k 4 i, e)

  pub bound-inside : c < components → k ≤ 4 → legal_word names w ≡ true → bound_row names components c k w l ≡ entry_row 4096 (key c k (type_of w)) l
  unfolding bound_row
  bound-inside h i e = rw (lt-ltb c components h, le-leb k 4 i, e)
