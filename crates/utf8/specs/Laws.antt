-- Laws of well-formed UTF-8: the computation decides the relation, the valid prefix is the longest, ASCII bytes stand alone.
use Rattle.std.specs.Prelude.{◌≡◌, refl, true, ◌↔◌, ℕ, zero, suc, ◌+◌, ◌≤◌, ◌<◌, length, take, drop, ltb}
use Rattle.std.proofs.Common.{sym, ap, subst, ◌∙◌, arith, length-append, take-append-drop, length-take-le, take_all, take-take, eqb-true, eq-eqb, ltb-true}
use mathlib.Core.List.{List, [], ◌∷◌, ◌++◌, Memᴰ, append_assoc, append-nil}
use Rattle.std.proofs.Math.Seq.{drop-append_seam}
use Rattle.order.specs.Truth.{both}
use Rattle.utf8.specs.Utf8.{◌‥◌, table, matches, sequence, passing, scan, valid_prefix, ascii, well_formed, Fits, Fits.done, Fits.next, WellFormed, WellFormed.empty, WellFormed.more}
use Rattle.utf8.specs.Rows.{fits-some, sequence-row, sequence-fits, sequence-found, sequence-le, long-high}

-- ---- the valid prefix

scan-skip : (bs : List ℕ) (k : ℕ) → k ≤ length bs → scan bs k ≡ k + scan (drop k bs) 0
unfolding scan
scan-skip bs zero h = omega arith
scan-skip [] (suc k) h = absurd (omega arith)
scan-skip (b ∷ bs) (suc k) h =
    let ih = scan-skip bs k (omega arith) in
    omega arith

-- A SEQUENCE IS PASSED WHOLE
pub prefix-step : (bs : List ℕ) (n : ℕ) → sequence bs ≡ n → (n ≡ 0 → ⊥) → valid_prefix bs ≡ n + valid_prefix (drop n bs)
unfolding valid_prefix scan
prefix-step bs zero e p = absurd (p refl)
prefix-step [] (suc n) e p = absurd (omega (arith, sequence-le []))
prefix-step (b ∷ bs) (suc n) e p =
    let l = sequence-le (b ∷ bs) in
    let k = scan-skip bs n (omega arith) in
    rw e (omega arith)

-- NOTHING IS PASSED WHERE NONE STANDS AT THE FRONT
pub prefix-stop : (bs : List ℕ) → sequence bs ≡ 0 → valid_prefix bs ≡ 0
unfolding valid_prefix scan
prefix-stop [] e = refl
prefix-stop (b ∷ bs) e = rw e

scan-le : (bs : List ℕ) (k : ℕ) → scan bs k ≤ length bs
unfolding scan
scan-le [] k = omega arith
scan-le (b ∷ bs) (suc k) = let ih = scan-le bs k in omega arith
scan-le (b ∷ bs) zero = go (sequence (b ∷ bs)) (scan-le bs)
  where
    go : (n : ℕ) → ((k : ℕ) → scan bs k ≤ length bs) → passing n (scan bs) ≤ suc (length bs)
    go zero ih = omega arith
    go (suc n) ih = omega (arith, ih n)

pub prefix-le : (bs : List ℕ) → valid_prefix bs ≤ length bs
unfolding valid_prefix
prefix-le bs = scan-le bs 0

-- A WELL-FORMED LIST IS PASSED WHOLE, WHATEVER FOLLOWS IT
pub prefix-append : {xs : List ℕ} → WellFormed xs → (ys : List ℕ) → valid_prefix (xs ++ ys) ≡ length xs + valid_prefix ys
prefix-append empty ys = omega arith
prefix-append (more {xs} {ys = zs} m f w) ys =
    let s = rw drop-append_seam at (prefix-step (xs ++ (zs ++ ys)) (length xs) (sequence-fits (zs ++ ys) m f) (fits-some m f)) in
    let ih = prefix-append w ys in
    rw (append_assoc, length-append) (omega arith)

-- past the first k bytes, what is passed is well-formed
prefix-whole-from : (bs : List ℕ) (k : ℕ) → k ≤ length bs → WellFormed (drop k (take (scan bs k) bs))
unfolding scan
prefix-whole-from [] zero h = empty
prefix-whole-from [] (suc k) h = absurd (omega arith)
prefix-whole-from (b ∷ bs) (suc k) h = prefix-whole-from bs k (omega arith)
prefix-whole-from (b ∷ bs) zero h = go (sequence (b ∷ bs)) refl (prefix-whole-from bs)
  where
    go : (n : ℕ) → sequence (b ∷ bs) ≡ n → ((k : ℕ) → k ≤ length bs → WellFormed (drop k (take (scan bs k) bs)))
        → WellFormed (take (passing n (scan bs)) (b ∷ bs))
    go zero e ih = empty
    go (suc n) e ih =
        let w = sequence-found (b ∷ bs) n e in
        let l : n ≤ length bs = omega (arith, w.3) in
        let s = scan bs n in
        let k : n ≤ s = omega (arith, scan-skip bs n l) in
        let joined : take n bs ++ drop n (take s bs) ≡ take s bs = rw (← take-take n s bs k) (take-append-drop n (take s bs)) in
        subst WellFormed (ap (λ (r : List ℕ). b ∷ r) joined) (more w.1 w.2 (ih n l))

-- THE VALID PREFIX IS WELL-FORMED
pub prefix-whole : (bs : List ℕ) → WellFormed (take (valid_prefix bs) bs)
unfolding valid_prefix
prefix-whole bs = prefix-whole-from bs 0 (omega arith)

-- NO WELL-FORMED PREFIX IS LONGER
pub prefix-longest : (bs : List ℕ) (n : ℕ) → n ≤ length bs → WellFormed (take n bs) → n ≤ valid_prefix bs
prefix-longest bs n h w =
    let e = rw take-append-drop at (prefix-append w (drop n bs)) in
    omega (arith, e, length-take-le n bs h)

-- ---- the computation decides the relation

well_formed-sound : (bs : List ℕ) → well_formed bs ≡ true → WellFormed bs
unfolding well_formed
well_formed-sound bs e =
    let q = eqb-true (valid_prefix bs) (length bs) e in
    subst WellFormed (take_all (valid_prefix bs) bs (omega arith)) (prefix-whole bs)

well_formed-complete : (bs : List ℕ) → WellFormed bs → well_formed bs ≡ true
unfolding well_formed
well_formed-complete bs w =
    let e = rw append-nil at (prefix-append w []) in
    eq-eqb (valid_prefix bs) (length bs) (omega (arith, e, prefix-le []))

-- WELL-FORMED EXACTLY WHERE THE TEST SAYS SO
pub well_formed-decides : (bs : List ℕ) → (well_formed bs ≡ true) ↔ WellFormed bs
well_formed-decides bs = (well_formed-sound bs, well_formed-complete bs)

-- ONE WELL-FORMED LIST AFTER ANOTHER IS WELL-FORMED
pub well_formed-append : {xs ys : List ℕ} → WellFormed xs → WellFormed ys → WellFormed (xs ++ ys)
well_formed-append empty v = v
well_formed-append {ys} (more {xs = us} {ys = vs} m f w) v = rw append_assoc (more m f (well_formed-append w v))

-- ---- ASCII stands alone

-- A BYTE BELOW 80 (HEX, AS ALL BYTES HERE) IS A WHOLE SEQUENCE
pub ascii-sequence : (b : ℕ) (bs : List ℕ) → b < 0x80 → sequence (b ∷ bs) ≡ 1
unfolding table matches
ascii-sequence b bs h = sequence-row (0x00 ‥ 0x7F) [] b bs (Memᴰ.head refl) (omega arith) (omega arith)

pub ascii-more : {b : ℕ} {bs : List ℕ} → b < 0x80 → WellFormed bs → WellFormed (b ∷ bs)
unfolding table
ascii-more {b} h w = more (Memᴰ.head refl) (next {r = 0x00 ‥ 0x7F} {b = b} (omega arith) (omega arith) done) w

pub ascii-prefix : (b : ℕ) (bs : List ℕ) → b < 0x80 → valid_prefix (b ∷ bs) ≡ suc (valid_prefix bs)
ascii-prefix b bs h = omega (arith, prefix-step (b ∷ bs) 1 (ascii-sequence b bs h) (λ e. omega (arith, e)))

-- WHERE ALL BYTES ARE BELOW 80, THE VALID PREFIX IS THE WHOLE LIST
pub ascii-whole : (bs : List ℕ) → ascii bs ≡ true → valid_prefix bs ≡ length bs
unfolding ascii
ascii-whole [] e = omega (arith, prefix-le [])
ascii-whole (b ∷ bs) e =
    let p = both (ltb b 0x80) (ascii bs) e in
    let h = ltb-true b 0x80 p.0 in
    ascii-prefix b bs h ∙ ap suc (ascii-whole bs p.1)

-- bytes of 80 and above at the front stand wholly before a byte below 80
cut-high : (us xs : List ℕ) {vs ys : List ℕ} {b : ℕ} → ((x : ℕ) → Memᴰ x us → 0x80 ≤ x) → b < 0x80 → us ++ vs ≡ xs ++ (b ∷ ys)
    → (zs : List ℕ) × (xs ≡ us ++ zs) × (vs ≡ zs ++ (b ∷ ys))
cut-high [] xs h l e = (xs, refl, e)
cut-high (u ∷ us) [] {b = b} h l e =
    let p : u ≡ b = cc in
    absurd (omega (arith, h u (Memᴰ.head refl)))
cut-high (u ∷ us) (x ∷ xs) {vs} {ys} {b} h l e =
    let p : us ++ vs ≡ xs ++ (b ∷ ys) = cc in
    let w = cut-high us xs (λ y m. h y (Memᴰ.tail m)) l p in
    let q = w.1 in
    let d : u ≡ x = cc in
    (w.0, (cc), w.2)

-- the cut, by the sequences of the whole list: a sequence is the byte itself, one byte before it, or longer and wholly before it
ascii-cut-from : {l : List ℕ} → WellFormed l → (xs ys : List ℕ) (b : ℕ) → b < 0x80 → l ≡ xs ++ (b ∷ ys) → WellFormed xs × WellFormed ys
ascii-cut-from empty xs ys b h e = absurd (omega (arith, simp length-append at (ap length e)))
ascii-cut-from (more {row} {xs = us} {ys = vs} m f w) xs ys b h e = go us xs f e (λ zs p. ascii-cut-from w zs ys b h p)
  where
    go : (us xs : List ℕ) → Fits row us → us ++ vs ≡ xs ++ (b ∷ ys) → ((zs : List ℕ) → vs ≡ zs ++ (b ∷ ys) → WellFormed zs × WellFormed ys)
        → WellFormed xs × WellFormed ys
    go [] xs f e ih = absurd (fits-some m f refl)
    go (u ∷ []) [] f e ih =
        let p : vs ≡ ys = cc in
        (empty, subst WellFormed p w)
    go (u ∷ []) (x ∷ xs) f e ih =
        let p : u ≡ x = cc in
        let q : vs ≡ xs ++ (b ∷ ys) = cc in
        let sides = ih xs q in
        (subst (λ (y : ℕ). WellFormed (y ∷ xs)) p (more m f sides.0), sides.1)
    go (u ∷ u' ∷ us) xs f e ih =
        let c = cut-high (u ∷ u' ∷ us) xs (λ x k. long-high m f (omega arith) k) h e in
        let sides = ih c.0 c.2 in
        (subst WellFormed (sym c.1) (more m f sides.0), sides.1)

-- CUT AT A BYTE BELOW 80, A WELL-FORMED LIST HAS WELL-FORMED SIDES
pub ascii-cut : (xs ys : List ℕ) (b : ℕ) → b < 0x80 → WellFormed (xs ++ (b ∷ ys)) → WellFormed xs × WellFormed ys
ascii-cut xs ys b h w = ascii-cut-from w xs ys b h refl
