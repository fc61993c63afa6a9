-- One step of reading a type, as the code meets it: at an offset of a slice, with tests that were passed.
use Rattle.std.specs.Prelude.{◌≡◌, refl, Bool, true, eqb, leb, take}
use Rattle.std.proofs.Math.Path.{sym, ap}
use Rattle.std.proofs.Common.{ap₂, ◌∙◌, drop_of_length-le, drop-cons, drop-drop, get_or-drop}
use Rattle.std.proofs.Math.Bool.{false}
use mathlib.Core.List.{List, [], ◌∷◌}
use Prim.Native.Nat.{ℕ, zero, suc, ◌+◌, ◌-◌, ◌≤◌, ◌<◌}
use Rattle.std.proofs.Math.Numerals.{add-one}
use native.Mathlib.Omega.{arith}
use Rattle.std.proofs.Math.ListN.{length, drop, get_or, length-drop}
use borrow.Author.Tests.{eq-eqb, ne_eqb, le-leb, lt-leb, lt-ltb, le-ltb}
use Rattle.utf8.specs.Utf8.{valid_prefix}
use Rattle.descriptor.specs.declared.Base.TheVariants.{Simple, Class}
use Rattle.descriptor.specs.Read.{Read, Found, Refused, letter_of, index_of, name_read, read_name, choose, read_type}

-- ---- the first ';'

pub index-le : (x : ℕ) (bs : List ℕ) → index_of x bs ≤ length bs
unfolding index_of
index-le x [] = omega arith
index-le x (b ∷ bs) = go (eqb b x) refl (index-le x bs)
  where
    go : (t : Bool) → eqb b x ≡ t → index_of x bs ≤ length bs → index_of x (b ∷ bs) ≤ suc (length bs)
    go true e h = rw e (omega arith)
    go false e h = rw e (omega arith)

-- a search that passes n bytes goes on after them
pub index-skip : (x n : ℕ) (bs : List ℕ) → n ≤ index_of x bs → index_of x bs ≡ n + index_of x (drop n bs)
unfolding index_of
index-skip x zero bs h = omega arith
index-skip x (suc n) [] h = absurd (omega arith)
index-skip x (suc n) (b ∷ bs) h = go (eqb b x) refl h (index-skip x n bs)
  where
    go : (t : Bool) → eqb b x ≡ t → suc n ≤ index_of x (b ∷ bs) → (n ≤ index_of x bs → index_of x bs ≡ n + index_of x (drop n bs))
        → index_of x (b ∷ bs) ≡ suc n + index_of x (drop n bs)
    go true e h ih = absurd (omega (arith, rw e at h))
    go false e h ih = rw e (omega (arith, ih (omega (arith, rw e at h))))

module _ (x : ℕ) (s : List ℕ) (i : ℕ) where
  pub index-end : length s ≤ i → i + index_of x (drop i s) ≡ i
  unfolding index_of
  index-end h = rw (drop_of_length-le s) (let e : i + 0 ≡ i = omega arith in e)

  pub index-here : i < length s → get_or s i 0 ≡ x → i + index_of x (drop i s) ≡ i
  unfolding index_of
  index-here h e = rw (drop-cons s i 0, eq-eqb (get_or s i 0) x e) (let z : i + 0 ≡ i = omega arith in z)

  pub index-later : i < length s → (get_or s i 0 ≡ x → ⊥) → i + index_of x (drop i s) ≡ i + 1 + index_of x (drop (i + 1) s)
  unfolding index_of
  index-later h e =
      rw (drop-cons s i 0, ne_eqb (get_or s i 0) x e, add-one i)
      (let z : i + suc (index_of x (drop (suc i) s)) ≡ suc i + index_of x (drop (suc i) s) = omega arith in z)

  pub index-past : (k : ℕ) → k ≤ index_of x (drop i s) → i + index_of x (drop i s) ≡ i + k + index_of x (drop (i + k) s)
  index-past k h = omega (arith, rw (drop-drop k i s) at (index-skip x k (drop i s) h))

-- ---- a class name, whose ';' was sought from at + 1 on and found at e

module _ (s : List ℕ) (at dims e : ℕ) (h : at < length s) (f : e ≡ at + 1 + index_of 59 (drop (at + 1) s)) where
  pub name-inside : e ≤ length s
  name-inside = let l = length-drop (at + 1) s in let i = index-le 59 (drop (at + 1) s) in omega arith

  pub name-none : e ≡ length s → Refused 11 e 0 ≡ read_name (drop (at + 1) s) at dims
  unfolding read_name name_read
  name-none g =
      let l = length-drop (at + 1) s in
      rw (le-leb (length (drop (at + 1) s)) (index_of 59 (drop (at + 1) s)) (omega arith))
      (ap (λ (o : ℕ). Refused 11 o 0) (let z : e ≡ at + 1 + length (drop (at + 1) s) = omega arith in z))

  module _ (g : e ≡ length s → ⊥) where
    found : leb (length (drop (at + 1) s)) (index_of 59 (drop (at + 1) s)) ≡ false
    found =
        let l = length-drop (at + 1) s in
        let i = index-le 59 (drop (at + 1) s) in
        lt-leb (length (drop (at + 1) s)) (index_of 59 (drop (at + 1) s)) (omega arith)

    pub name-empty : e ≡ at + 1 → Refused 14 at 0 ≡ read_name (drop (at + 1) s) at dims
    unfolding read_name name_read
    name-empty z = rw (found, eq-eqb (index_of 59 (drop (at + 1) s)) 0 (omega arith))

    module _ (z : e ≡ at + 1 → ⊥) (v : ℕ) (w : v ≡ at + 1 + valid_prefix (take (e - (at + 1)) (drop (at + 1) s))) where
      some : eqb (index_of 59 (drop (at + 1) s)) 0 ≡ false
      some = ne_eqb (index_of 59 (drop (at + 1) s)) 0 (omega arith)

      size : e - (at + 1) ≡ index_of 59 (drop (at + 1) s)
      size = omega arith

      valid : v ≡ at + 1 + valid_prefix (take (index_of 59 (drop (at + 1) s)) (drop (at + 1) s))
      valid = w ∙ ap (λ (n : ℕ). at + 1 + valid_prefix (take n (drop (at + 1) s))) size

      pub name-bad : v < e → Refused 12 v (get_or s v 0) ≡ read_name (drop (at + 1) s) at dims
      unfolding read_name name_read
      name-bad b =
          let q = valid in
          rw (found, some, lt-ltb (valid_prefix (take (index_of 59 (drop (at + 1) s)) (drop (at + 1) s))) (index_of 59 (drop (at + 1) s)) (omega arith))
          (ap₂ (Refused 12) q (ap (λ (o : ℕ). get_or s o 0) q ∙ sym (get_or-drop (at + 1) s (valid_prefix (take (index_of 59 (drop (at + 1) s)) (drop (at + 1) s))) 0)))

      pub name-good : e ≤ v → Found dims (Class (at + 1) (e - (at + 1))) (e + 1) ≡ read_name (drop (at + 1) s) at dims
      unfolding read_name name_read
      name-good b =
          let q = valid in
          rw (found, some, le-ltb (valid_prefix (take (index_of 59 (drop (at + 1) s)) (drop (at + 1) s))) (index_of 59 (drop (at + 1) s)) (omega arith))
          (ap₂ (λ (x y : ℕ). Found dims (Class (at + 1) x) y) size (let y : e + 1 ≡ at + 1 + index_of 59 (drop (at + 1) s) + 1 = omega arith in y))

-- ---- a type

module _ (s : List ℕ) (at : ℕ) (void : Bool) (dims : ℕ) where
  pub read-end : length s ≤ at → read_type (drop at s) at void dims ≡ Refused 11 at 0
  unfolding read_type
  read-end h = rw (drop_of_length-le s)

  pub read-at : at < length s → (k : ℕ) → k ≡ letter_of (get_or s at 0)
      → read_type (drop at s) at void dims ≡ choose k (get_or s at 0) (drop (at + 1) s) at void dims (read_type (drop (at + 1) s) (at + 1) false (dims + 1))
  unfolding read_type
  read-at h k e =
      ap (λ (l : List ℕ). read_type l at void dims) (drop-cons s at 0 h ∙ ap (λ (n : ℕ). get_or s at 0 ∷ drop n s) (sym (add-one at)))
      ∙ ap (λ (j : ℕ). choose j (get_or s at 0) (drop (at + 1) s) at void dims (read_type (drop (at + 1) s) (at + 1) false (dims + 1))) (sym e)

-- ---- where a name stands

-- a class's name stands after its 'L', in a slice of n bytes
abbrev pub Placed : ℕ → Read → Type 0
Placed n (Found dims (Simple k) next) = Unit {0}
Placed n (Found dims (Class at k) next) = (1 ≤ at) × (at + k ≤ n)
Placed n (Refused code at byte) = Unit {0}
