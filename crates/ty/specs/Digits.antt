-- Laws of hex digits: a list of digits as a number, and back.
use Rattle.std.specs.Prelude.{◌≡◌, refl, List, [], ◌∷◌, ◌++◌, ℕ, zero, suc, ◌+◌, ◌*◌, ◌/◌, ◌%◌, ◌^◌, ◌≤◌, ◌<◌, length, replicate}
use Rattle.std.proofs.Common.{sym, ap, ap₂, ◌∙◌, add_assoc, mul_assoc, add-mul, mul-le-mul_right, arith, pow_pos, pow-add}
use Rattle.std.proofs.Math.Nat.{mod-one}
use Rattle.std.proofs.Math.Arith.{digits_mod}
use Rattle.std.proofs.Math.Pow.{high}
use Rattle.std.proofs.lemmas.Nat.{mod-pow-add}
use Rattle.ty.specs.Words.{unpack, pack}

four-suc : (n : ℕ) → 4 + 4 * n ≡ 4 * suc n
four-suc n = omega arith

pow-four : (n : ℕ) → 2 ^ (4 * suc n) ≡ 16 * 2 ^ (4 * n)
pow-four n = ap (λ (x : ℕ). 2 ^ x) (sym (four-suc n)) ∙ pow-add 2 4 (4 * n)

-- the digits of x put together are x
pub pack-unpack : (n x : ℕ) → pack n (unpack n x) ≡ x % 2 ^ (4 * n)
unfolding pack unpack
pack-unpack zero x = sym (mod-one x)
pack-unpack (suc n) x =
    ap (λ (y : ℕ). x / 2 ^ (4 * n) % 16 * 2 ^ (4 * n) + y) (pack-unpack n x)
    ∙ sym (mod-pow-add x 4 (4 * n)) ∙ ap (λ (m : ℕ). x % 2 ^ m) (four-suc n)

abbrev pub Digits : List ℕ → Type 0
Digits [] = Unit {0}
Digits (d ∷ ds) = (d < 16) × Digits ds

pub pack-lt : (n : ℕ) (ds : List ℕ) → Digits ds → pack n ds < 2 ^ (4 * n)
unfolding pack
pack-lt zero ds h = omega arith
pack-lt (suc n) [] h = pow_pos (4 * suc n)
pack-lt (suc n) (d ∷ ds) h =
    let p = pack-lt n ds h.1 in
    let q : d * 2 ^ (4 * n) ≤ 15 * 2 ^ (4 * n) = mul-le h.0 in
    let r = pow-four n in
    omega arith
  where
    mul-le : {a : ℕ} → a < 16 → a * 2 ^ (4 * n) ≤ 15 * 2 ^ (4 * n)
    mul-le {a} g = mul-le-mul_right (2 ^ (4 * n)) (let k : a ≤ 15 = omega arith in k)

-- a number h above d and q, in one: what is above the n digits of q, and those digits
regroup : (n h d q : ℕ) → h * 2 ^ (4 * suc n) + (d * 2 ^ (4 * n) + q) ≡ (h * 16 + d) * 2 ^ (4 * n) + q
regroup n h d q =
    ap (λ (y : ℕ). h * y + (d * 2 ^ (4 * n) + q)) (pow-four n)
    ∙ ap (λ (y : ℕ). y + (d * 2 ^ (4 * n) + q)) (sym (mul_assoc h 16 (2 ^ (4 * n))))
    ∙ sym (add_assoc (h * 16 * 2 ^ (4 * n)) (d * 2 ^ (4 * n)) q)
    ∙ ap (λ (y : ℕ). y + q) (sym (add-mul (h * 16) d (2 ^ (4 * n))))

-- the digits of n digits that were put together, under any h above, are those digits
pub unpack-pack : (n : ℕ) (ds : List ℕ) (h : ℕ) → Digits ds → length ds ≡ n → unpack n (h * 2 ^ (4 * n) + pack n ds) ≡ ds
unfolding pack unpack
unpack-pack zero [] h g l = refl
unpack-pack zero (d ∷ ds) h g l = absurd (omega arith)
unpack-pack (suc n) [] h g l = absurd (omega arith)
unpack-pack (suc n) (d ∷ ds) h g l =
    ap (unpack (suc n)) (regroup n h d (pack n ds))
    ∙ ap₂ (λ (x : ℕ) (y : List ℕ). x ∷ y)
    (ap (λ (x : ℕ). x % 16) (high (h * 16 + d) (4 * n) (pack-lt n ds g.1)) ∙ digits_mod h g.0)
    (unpack-pack n ds (h * 16 + d) g.1 (omega arith))

-- zeros at the end do not count
pub pack-zeros : (n : ℕ) (cs : List ℕ) (k : ℕ) → pack n (cs ++ replicate k 0) ≡ pack n cs
unfolding pack
pack-zeros zero cs k = refl
pack-zeros (suc n) [] zero = refl
pack-zeros (suc n) [] (suc k) = let r = pack-zeros n [] k in let z = pack-nil n in omega arith
  where
    pack-nil : (m : ℕ) → pack m [] ≡ 0
    pack-nil zero = refl
    pack-nil (suc m) = refl
pack-zeros (suc n) (c ∷ cs) k = ap (λ (y : ℕ). c * 2 ^ (4 * n) + y) (pack-zeros n cs k)

pub digits-zeros : (cs : List ℕ) (k : ℕ) → Digits cs → Digits (cs ++ replicate k 0)
digits-zeros [] zero h = tt
digits-zeros [] (suc k) h = (omega arith, digits-zeros [] k tt)
digits-zeros (c ∷ cs) k h = (h.0, digits-zeros cs k h.1)
