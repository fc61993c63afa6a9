-- What the loops of this crate keep.
use Rattle.std.proofs.Common.{◌≡◌, ℕ, ◌+◌, ◌<◌, ◌≤◌, List, length, get_or, replicate, bit_or, sym, ◌∙◌, arith, below_more}
use Rattle.std.proofs.lemmas.List.{ext_get_or, get_or-replicate, length-replicate}
use Rattle.sets.specs.Bits.{or-none}

-- the first n words are zero where what was gathered of them is
abbrev pub Gathered : List ℕ → ℕ → ℕ → Type 0
Gathered w any n = any ≡ 0 → (j : ℕ) → j < n → get_or w j 0 ≡ 0

pub gathered-more : (w : List ℕ) (any n : ℕ) → Gathered w any n → Gathered w (bit_or any (get_or w n 0)) (n + 1)
gathered-more w any n g e =
    let both = or-none any (get_or w n 0) e in
    below_more (λ j. get_or w j 0 ≡ 0) n (g both.0) both.1

pub gathered-all : (w : List ℕ) (any n : ℕ) → length w ≤ n → Gathered w any n → any ≡ 0 → w ≡ replicate (length w) 0
gathered-all w any n h g e =
    ext_get_or 0 w (replicate (length w) 0) (sym (length-replicate (length w) 0))
    (λ j l. g e j (omega arith) ∙ sym (get_or-replicate (length w) j 0 0 l))
