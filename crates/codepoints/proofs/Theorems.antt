-- The well-formed lists of table 3-7 are exactly the encodings of lists of scalar values, and an encoding is that of one list alone.
-- A list may hold any numbers: one above F4 stands in no row of the table and in no encoding of scalar values.
use Rattle.std.specs.Prelude.{◌≡◌, refl, true, List, [], ◌∷◌, ◌++◌, ◌↔◌, ℕ}
use Rattle.std.proofs.Common.{sym, ap₂, subst}
use Rattle.order.specs.Truth.{both}
use Rattle.utf8.specs.Utf8.{well_formed, WellFormed, WellFormed.empty, WellFormed.more}
use Rattle.utf8.specs.Laws.{well_formed-decides}
use Rattle.codepoints.specs.CodePoints.{is_scalar, are_scalars, encode_all}
use Rattle.codepoints.proofs.Sequences.{encode-stands, fits-encoded, encode-first, encode-some}

encoded-sound : (cs : List ℕ) → are_scalars cs ≡ true → WellFormed (encode_all cs)
unfolding are_scalars encode_all
encoded-sound [] s = empty
encoded-sound (c ∷ cs) s =
    let p = both (is_scalar c) (are_scalars cs) s in
    let t = encode-stands c p.0 in
    more t.listed t.fits (encoded-sound cs p.1)

encoded-complete : {bs : List ℕ} → WellFormed bs → (cs : List ℕ) × (are_scalars cs ≡ true) × (bs ≡ encode_all cs)
unfolding are_scalars encode_all
encoded-complete empty = ([], refl, refl)
encoded-complete (more m f w) =
    let t = fits-encoded m f in
    let r = encoded-complete w in
    (t.code ∷ r.0, rw t.scalar r.1, ap₂ ◌++◌ t.bytes r.2)

-- BYTES ARE WELL-FORMED EXACTLY IF THEY ARE THE ENCODING OF A LIST OF SCALAR VALUES
pub encoded-exactly : (bs : List ℕ) → WellFormed bs ↔ ((cs : List ℕ) × (are_scalars cs ≡ true) × (bs ≡ encode_all cs))
encoded-exactly bs = (encoded-complete, λ r. subst WellFormed (sym r.2) (encoded-sound r.0 r.1))

-- THE TEST OF THE TABLE SAYS SO EXACTLY THEN
pub encoded-decides : (bs : List ℕ) → (well_formed bs ≡ true) ↔ ((cs : List ℕ) × (are_scalars cs ≡ true) × (bs ≡ encode_all cs))
encoded-decides bs = (λ e. (encoded-exactly bs).0 ((well_formed-decides bs).0 e), λ r. (well_formed-decides bs).1 ((encoded-exactly bs).1 r))

-- THE ENCODING IS UNIQUE: NO TWO LISTS OF NUMBERS HAVE THE SAME BYTES, SCALAR VALUES OR NOT
pub encoded-once : (cs ds : List ℕ) → encode_all cs ≡ encode_all ds → cs ≡ ds
unfolding encode_all
encoded-once [] [] e = refl
encoded-once [] (d ∷ ds) e = absurd (encode-some d (encode_all ds) (sym e))
encoded-once (c ∷ cs) [] e = absurd (encode-some c (encode_all cs) e)
encoded-once (c ∷ cs) (d ∷ ds) e =
    let p = encode-first c d (encode_all cs) (encode_all ds) e in
    ap₂ ◌∷◌ p.0 (encoded-once cs ds p.1)
