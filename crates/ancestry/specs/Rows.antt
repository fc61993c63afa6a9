-- Rows: sixteen words for each of 1,024 classes in one slice, the set of row c from word 16 * c on; and what the functions on them
-- leave.
use Rattle.std.specs.Prelude.{◌≡◌, refl, Bool, true, false, cond, List, ◌⊎◌, ℕ, ◌+◌, ◌*◌, ◌≤◌, ◌<◌, drop, get_or, set, replicate}
use Rattle.std.proofs.Math.Path.{sym}
use Rattle.std.proofs.Common.{ap, ap₂, ◌∙◌, inl, inr, ⊎_elim, arith, length-take, length-drop, length-set, get_or-take, get_or-drop, get_or-set_same, get_or-set_other, ext_get_or}
use Rattle.std.proofs.Math.Decide.{dec_lt, ℕ_discrete}
use Rattle.std.specs.Int.Bits.{bit_or}
use Rattle.std.proofs.Math.ListN.{length}
use Rattle.std.proofs.lemmas.List.{length-replicate, get_or-replicate}
use Rattle.sets.specs.Sets.{member, pairwise, unite}
use Rattle.sets.specs.Laws.{length-pairwise, get_d-pairwise}
use Rattle.tables.specs.Table.{mark}

abbrev pub rows_room : ℕ
rows_room = 16384

-- row c
abbrev pub row : List ℕ → ℕ → List ℕ
row rows c = mark rows c

-- row c has what it had and s, the other rows are as they were
pub record Joined (rows : List ℕ) (c : ℕ) (s rows' : List ℕ) : Type 0 where
  pub size : length rows' ≡ rows_room
  pub same : row rows' c ≡ unite (row rows c) s
  pub other : (d : ℕ) → (d ≡ c → ⊥) → row rows' d ≡ row rows d

-- the same where `taken`
pub record JoinedIf (rows : List ℕ) (c : ℕ) (taken : Bool) (s rows' : List ℕ) : Type 0 where
  pub size : length rows' ≡ rows_room
  pub same : row rows' c ≡ cond taken (unite (row rows c) s) (row rows c)
  pub other : (d : ℕ) → (d ≡ c → ⊥) → row rows' d ≡ row rows d

-- each of the first n rows that has k has row k too
pub record Through (rows : List ℕ) (n k : ℕ) (rows' : List ℕ) : Type 0 where
  pub size : length rows' ≡ rows_room
  pub below : (i : ℕ) → i < n → row rows' i ≡ cond (member (row rows i) k) (unite (row rows i) (row rows k)) (row rows i)
  pub past : (i : ℕ) → n ≤ i → row rows' i ≡ row rows i

-- ---- a word of a row

pub row-length : (rows : List ℕ) (c : ℕ) → length rows ≡ rows_room → c < 1024 → length (row rows c) ≡ 16
unfolding mark
row-length rows c l h = simp (length-take, length-drop) (omega arith)

pub row-word : (rows : List ℕ) (c j : ℕ) → j < 16 → get_or (row rows c) j 0 ≡ get_or rows (16 * c + j) 0
unfolding mark
row-word rows c j h = get_or-take 16 (drop (16 * c) rows) j 0 h ∙ get_or-drop (16 * c) rows j 0

same-length : (a b : List ℕ) (d : ℕ) → length a ≡ length b → length (row a d) ≡ length (row b d)
unfolding mark
same-length a b d e =
    let p = length-take 16 (drop (16 * d) a) in
    let q = length-take 16 (drop (16 * d) b) in
    let x = length-drop (16 * d) a in
    let y = length-drop (16 * d) b in
    omega arith

short : (rows : List ℕ) (d : ℕ) → length (row rows d) ≤ 16
unfolding mark
short rows d = let p = length-take 16 (drop (16 * d) rows) in omega arith

-- the rows of a slice of zeros
pub zero-row : (n c : ℕ) → 16 * c + 16 ≤ n → row (replicate n 0) c ≡ replicate 16 0
unfolding mark
zero-row n c h =
    ext_get_or 0 (row (replicate n 0) c) (replicate 16 0)
    (let a = length-take 16 (drop (16 * c) (replicate {A = ℕ} n 0)) in
    let b = length-drop (16 * c) (replicate {A = ℕ} n 0) in
    let d = length-replicate {A = ℕ} n 0 in
    let e = length-replicate {A = ℕ} 16 0 in
    omega arith)
    (λ j l.
    let a = length-take 16 (drop (16 * c) (replicate {A = ℕ} n 0)) in
    row-word (replicate n 0) c j (omega arith) ∙ get_or-replicate n (16 * c + j) 0 0 (omega arith) ∙ sym (get_or-replicate 16 j 0 0 (omega arith)))

-- ---- a row, word by word: at word k those below k are joined

pub record Joining (rows₀ : List ℕ) (c : ℕ) (s rows : List ℕ) (k : ℕ) : Type 0 where
  pub within : k ≤ 16
  pub size : length rows ≡ rows_room
  pub done : (j : ℕ) → j < k → get_or rows (16 * c + j) 0 ≡ bit_or (get_or rows₀ (16 * c + j) 0) (get_or s j 0)
  pub rest : (i : ℕ) → (i < 16 * c) ⊎ (16 * c + k ≤ i) → get_or rows i 0 ≡ get_or rows₀ i 0

module _ (rows₀ : List ℕ) (c : ℕ) (s : List ℕ) where
  pub joining-start : length rows₀ ≡ rows_room → Joining rows₀ c s rows₀ 0
  joining-start l = record { within = omega arith; size = l; done = λ j h. absurd (omega arith); rest = λ i h. refl }

  pub joining-more : (rows : List ℕ) (k i : ℕ) → Joining rows₀ c s rows k → k < 16 → c < 1024 → i ≡ 16 * c + k
      → Joining rows₀ c s (set rows i (bit_or (get_or rows i 0) (get_or s k 0))) (k + 1)
  joining-more rows k i p h l e = record {
    within = omega arith;
    size = length-set rows i w ∙ p.size;
    done = λ j b. below j b (ℕ_discrete j k);
    rest = λ x b. get_or-set_other rows i x w 0 (λ q. ⊎_elim (λ u. omega arith) (λ u. omega arith) b) ∙ p.rest x (⊎_elim (λ u. inl u) (λ u. inr (omega arith)) b);
  }
    where
      w : ℕ
      w = bit_or (get_or rows i 0) (get_or s k 0)

      below : (j : ℕ) → j < k + 1 → Dec (j ≡ k) → get_or (set rows i w) (16 * c + j) 0 ≡ bit_or (get_or rows₀ (16 * c + j) 0) (get_or s j 0)
      below j b (yes q) =
          ap (λ (x : ℕ). get_or (set rows i w) x 0) (let u : 16 * c + j ≡ i = omega arith in u)
          ∙ get_or-set_same rows i w 0 (let u = p.size in omega arith)
          ∙ ap₂ (λ (x y : ℕ). bit_or x y)
          (p.rest i (inr (omega arith)) ∙ ap (λ (x : ℕ). get_or rows₀ x 0) (let u : i ≡ 16 * c + j = omega arith in u))
          (ap (λ (x : ℕ). get_or s x 0) (sym q))
      below j b (no n) = get_or-set_other rows i (16 * c + j) w 0 (λ u. n (omega arith)) ∙ p.done j (omega arith)

  pub joining-end : (rows : List ℕ) (k : ℕ) → Joining rows₀ c s rows k → 16 ≤ k → c < 1024 → length rows₀ ≡ rows_room → length s ≡ 16 → Joined rows₀ c s rows
  unfolding unite
  joining-end rows k p h l size₀ size-s = record { size = p.size; same = same-row; other = other-row }
    where
      long : length (row rows₀ c) ≡ length s
      long = row-length rows₀ c size₀ l ∙ sym size-s

      same-row : row rows c ≡ pairwise bit_or (row rows₀ c) s
      same-row =
          ext_get_or 0 (row rows c) (pairwise bit_or (row rows₀ c) s) (row-length rows c p.size l ∙ sym (length-pairwise bit_or (row rows₀ c) s long ∙ row-length rows₀ c size₀ l))
          (λ j b.
          let u = row-length rows c p.size l in
          row-word rows c j (omega arith) ∙ p.done j (let x = p.within in omega arith)
          ∙ ap (λ (x : ℕ). bit_or x (get_or s j 0)) (sym (row-word rows₀ c j (omega arith)))
          ∙ sym (get_d-pairwise bit_or refl (row rows₀ c) s j long))

      other-row : (d : ℕ) → (d ≡ c → ⊥) → row rows d ≡ row rows₀ d
      other-row d n =
          ext_get_or 0 (row rows d) (row rows₀ d) (same-length rows rows₀ d (p.size ∙ sym size₀))
          (λ j b.
          let u = short rows d in
          row-word rows d j (omega arith) ∙ p.rest (16 * d + j) (side (ℕ_discrete d c) j (omega arith)) ∙ sym (row-word rows₀ d j (omega arith)))
        where
          side : Dec (d ≡ c) → (j : ℕ) → j < 16 → (16 * d + j < 16 * c) ⊎ (16 * c + k ≤ 16 * d + j)
          side (yes q) j b = absurd (n q)
          side (no q) j b = go (dec_lt d c)
            where
              go : Dec (d < c) → (16 * d + j < 16 * c) ⊎ (16 * c + k ≤ 16 * d + j)
              go (yes x) = inl (omega arith)
              go (no x) = inr (let y = p.within in omega arith)

pub joined-if : (rows : List ℕ) (c : ℕ) (s rows' : List ℕ) → Joined rows c s rows' → (taken : Bool) → taken ≡ true → JoinedIf rows c taken s rows'
joined-if rows c s rows' p taken e = record { size = p.size; same = p.same ∙ ap (λ (b : Bool). cond b (unite (row rows c) s) (row rows c)) (sym e); other = p.other }

pub joined-not : (rows : List ℕ) (c : ℕ) (s : List ℕ) → length rows ≡ rows_room → (taken : Bool) → taken ≡ false → JoinedIf rows c taken s rows
joined-not rows c s l taken e = record { size = l; same = ap (λ (b : Bool). cond b (unite (row rows c) s) (row rows c)) (sym e); other = λ d n. refl }

-- ---- all rows that have k, one by one: those below i are done

pub record Passing (rows₀ : List ℕ) (k : ℕ) (rows : List ℕ) (i : ℕ) : Type 0 where
  pub size : length rows ≡ rows_room
  pub done : (j : ℕ) → j < i → row rows j ≡ cond (member (row rows₀ j) k) (unite (row rows₀ j) (row rows₀ k)) (row rows₀ j)
  pub rest : (j : ℕ) → i ≤ j → row rows j ≡ row rows₀ j

module _ (rows₀ : List ℕ) (k : ℕ) where
  pub passing-start : length rows₀ ≡ rows_room → Passing rows₀ k rows₀ 0
  passing-start l = record { size = l; done = λ j h. absurd (omega arith); rest = λ j h. refl }

  pub passing-more : (rows : List ℕ) (i : ℕ) → Passing rows₀ k rows i → (taken : Bool) → taken ≡ member (row rows i) k → (via rows' : List ℕ) → via ≡ row rows₀ k
      → JoinedIf rows i taken via rows' → Passing rows₀ k rows' (i + 1)
  passing-more rows i p taken e via rows' v q = record {
    size = q.size;
    done = λ j h. go j h (ℕ_discrete j i);
    rest = λ j h. q.other j (λ u. omega arith) ∙ p.rest j (omega arith);
  }
    where
      was : row rows i ≡ row rows₀ i
      was = p.rest i (omega arith)

      go : (j : ℕ) → j < i + 1 → Dec (j ≡ i) → row rows' j ≡ cond (member (row rows₀ j) k) (unite (row rows₀ j) (row rows₀ k)) (row rows₀ j)
      go j h (yes u) =
          ap (row rows') u ∙ q.same
          ∙ ap (λ (t : Bool). cond t (unite (row rows i) via) (row rows i)) (e ∙ ap (λ (w : List ℕ). member w k) was)
          ∙ ap₂ (λ (x y : List ℕ). cond (member (row rows₀ i) k) (unite x y) x) was v
          ∙ ap (λ (x : ℕ). cond (member (row rows₀ x) k) (unite (row rows₀ x) (row rows₀ k)) (row rows₀ x)) (sym u)
      go j h (no n) = q.other j n ∙ p.done j (omega arith)

  pub passing-end : (rows : List ℕ) (i n : ℕ) → Passing rows₀ k rows i → i ≡ n → Through rows₀ n k rows
  passing-end rows i n p e = record { size = p.size; below = λ j h. p.done j (omega arith); past = λ j h. p.rest j (omega arith) }
