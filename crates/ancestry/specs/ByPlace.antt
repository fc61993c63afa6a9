-- Laws place by place: what a loop over an index goes by.
use Rattle.std.specs.Prelude.{◌≡◌, List, ℕ, ◌+◌, ◌*◌, ◌≤◌, ◌<◌, get_or, set}
use Rattle.std.proofs.Math.Path.{sym}
use Rattle.std.proofs.Common.{ap, ◌∙◌, arith, length-set, get_or-set_same, get_or-set_other, ext_get_or}
use Rattle.std.proofs.Math.Decide.{ℕ_discrete}
use Rattle.std.proofs.Math.ListN.{length}
use Rattle.ancestry.specs.Rows.{rows_room, row, row-length, row-word}

-- ---- one row read

abbrev pub Copied : List ℕ → ℕ → List ℕ → ℕ → Type 0
Copied rows c words i = (i ≤ 16) × (length words ≡ 16) × ((j : ℕ) → j < i → get_or words j 0 ≡ get_or rows (16 * c + j) 0)

pub copied-more : (rows : List ℕ) (c : ℕ) (words : List ℕ) (i x : ℕ) → Copied rows c words i → i < 16 → x ≡ 16 * c + i → Copied rows c (set words i (get_or rows x 0)) (i + 1)
copied-more rows c words i x p h e = (omega arith, length-set words i (get_or rows x 0) ∙ p.1, λ j l. go j l (ℕ_discrete j i))
  where
    go : (j : ℕ) → j < i + 1 → Dec (j ≡ i) → get_or (set words i (get_or rows x 0)) j 0 ≡ get_or rows (16 * c + j) 0
    go j l (yes q) =
        ap (λ (k : ℕ). get_or (set words i (get_or rows x 0)) k 0) q ∙ get_or-set_same words i (get_or rows x 0) 0 (let n = p.1 in omega arith)
        ∙ ap (λ (k : ℕ). get_or rows k 0) (let u : x ≡ 16 * c + j = omega arith in u)
    go j l (no n) = get_or-set_other words i j (get_or rows x 0) 0 n ∙ p.2 j (omega arith)

pub copied-all : (rows : List ℕ) (c : ℕ) (words : List ℕ) (i : ℕ) → Copied rows c words i → 16 ≤ i → length rows ≡ rows_room → c < 1024 → words ≡ row rows c
copied-all rows c words i p h l b =
    ext_get_or 0 words (row rows c) (p.1 ∙ sym (row-length rows c l b)) (λ j k. let n = p.1 in p.2 j (omega arith) ∙ sym (row-word rows c j (omega arith)))
