-- What a type that was read tells: where it ends, how deep it is, where its name stands.
use Rattle.std.specs.Prelude.{◌≡◌, refl, Bool, true, false, List, [], ◌∷◌, ℕ, zero, suc, ◌+◌, ◌-◌, ◌≤◌, ◌<◌, eqb, leb, ltb, length, take, get_or}
use Rattle.std.proofs.Common.{sym, ap, subst, ◌∙◌, arith}
use Rattle.std.proofs.Math.ListN.{drop, length-take, length-drop}
use Rattle.std.proofs.Math.Seq.{get_or-drop}
use borrow.Author.Tests.{eqb-true, eqb-false, leb-true, leb-false, ltb-true, ltb-false, eq-eqb, ne_eqb}
use Rattle.utf8.specs.Utf8.{valid_prefix, well_formed}
use Rattle.utf8.specs.Laws.{prefix-le}
use Rattle.descriptor.specs.declared.Base.{Base}
use Rattle.descriptor.specs.declared.Base.TheVariants.{Simple, Class}
use Rattle.descriptor.specs.Read.{Read, Found, Refused, pick_r, letter_of, index_of, name_read, read_name, choose, read_type, finish, strict_name, strictly}
use Rattle.descriptor.specs.Steps.{read-end, read-at, Placed}

-- the class name of n bytes at p, in a type that begins at `at` and ends before `next`
pub record NameTells (s : List ℕ) (at p n next : ℕ) : Type 0 where
  pub after : at < p
  pub some : 1 ≤ n
  pub within : p + n < length s
  pub ends : next ≡ p + n + 1
  pub first : index_of 59 (drop p s) ≡ n
  pub valid : well_formed (take n (drop p s)) ≡ true

abbrev pub BaseTells : List ℕ → ℕ → Base → ℕ → Type 0
BaseTells s at (Simple k) next = k ≤ 8
BaseTells s at (Class p n) next = NameTells s at p n next

-- a name stands after the brackets and its 'L'
abbrev pub Behind : ℕ → ℕ → ℕ → Base → Type 0
Behind at dims d (Simple k) = Unit {0}
Behind at dims d (Class p n) = p + dims ≡ at + d + 1

abbrev pub byte_if : Bool → ℕ → ℕ
byte_if true b = b
byte_if false b = 0

-- a refusal of a type read from `at` on: for 12 it names the byte at its offset
pub record RefusedTells (s : List ℕ) (at code o byte : ℕ) : Type 0 where
  pub least : 11 ≤ code
  pub most : code ≤ 24
  pub onward : at ≤ o
  pub inside : code ≡ 12 → o < length s
  pub names : byte ≡ byte_if (eqb code 12) (get_or s o 0)

-- a type of d dimensions, read from `at` on after `dims` brackets
pub record FoundTells (s : List ℕ) (at dims d : ℕ) (base : Base) (next : ℕ) : Type 0 where
  pub forward : at < next
  pub within : next ≤ length s
  pub deeper : dims ≤ d
  pub shallow : d ≤ 255
  pub made : BaseTells s at base next
  pub behind : Behind at dims d base

abbrev pub Tells : List ℕ → ℕ → ℕ → Read → Type 0
Tells s at dims (Found d base next) = FoundTells s at dims d base next
Tells s at dims (Refused code o byte) = RefusedTells s at code o byte

module _ (s : List ℕ) where
  either : (at dims : ℕ) (t : Bool) (a b : Read) → (t ≡ true → Tells s at dims a) → (t ≡ false → Tells s at dims b) → Tells s at dims (pick_r t a b)
  either at dims true a b f g = f refl
  either at dims false a b f g = g refl

  plain : (at code o : ℕ) → 11 ≤ code → code ≤ 24 → (code ≡ 12 → ⊥) → at ≤ o → RefusedTells s at code o 0
  plain at code o l m n h = record { least = l; most = m; onward = h; inside = λ e. absurd (n e); names = rw (ne_eqb code 12 n) }

  -- one byte earlier, under one bracket less
  earlier : (at dims : ℕ) (r : Read) → Tells s (at + 1) (dims + 1) r → Tells s at dims r
  earlier at dims (Found d (Simple k) next) h =
      record { forward = omega arith; within = h.within; deeper = omega arith; shallow = h.shallow; made = h.made; behind = tt }
  earlier at dims (Found d (Class p n) next) h =
      record {
        forward = omega arith;
        within = h.within;
        deeper = omega arith;
        shallow = h.shallow;
        made = record { after = let q = h.made.after in omega arith; some = h.made.some; within = h.made.within; ends = h.made.ends; first = h.made.first; valid = h.made.valid };
        behind = let b = h.behind in omega arith;
      }
  earlier at dims (Refused code o byte) h = record { least = h.least; most = h.most; onward = omega arith; inside = h.inside; names = h.names }

  module _ (at dims : ℕ) (h : at < length s) (l : dims ≤ 255) where
    name-tells : Tells s at dims (read_name (drop (at + 1) s) at dims)
    unfolding read_name name_read well_formed
    name-tells =
        let bs = drop (at + 1) s in
        let n = index_of 59 bs in
        let v = valid_prefix (take n bs) in
        let m = length-drop (at + 1) s in
        either at dims (leb (length bs) n) _ _ (λ e. plain at 11 _ (omega arith) (omega arith) (λ z. omega arith) (omega arith)) λ e.
        let e' = leb-false (length bs) n e in
        either at dims (eqb n 0) _ _ (λ f. plain at 14 _ (omega arith) (omega arith) (λ z. omega arith) (omega arith)) λ f.
        either at dims (ltb v n) _ _
        (λ g.
        let g' = ltb-true v n g in
        record { least = omega arith; most = omega arith; onward = omega arith; inside = λ z. omega arith; names = get_or-drop (at + 1) s v 0 })
        λ g.
        let f' = eqb-false n 0 f in
        let g' = ltb-false v n g in
        let t = length-take n bs in
        let p = prefix-le (take n bs) in
        record {
          forward = omega arith;
          within = omega arith;
          deeper = omega arith;
          shallow = l;
          made = record { after = omega arith; some = omega arith; within = omega arith; ends = refl; first = refl; valid = eq-eqb v (length (take n bs)) (omega arith) };
          behind = omega arith;
        }

    choose-tells : (k : ℕ) (void : Bool) (inner : Read) → (dims < 255 → Tells s (at + 1) (dims + 1) inner)
        → Tells s at dims (choose k (get_or s at 0) (drop (at + 1) s) at void dims inner)
    choose-tells k void inner deeper =
        either at dims (eqb k 0) _ _
        (λ e. either at dims void _ _ (λ f. simple 0 (omega arith)) (λ f. plain at 13 at (omega arith) (omega arith) (λ z. omega arith) (omega arith)))
        λ e. either at dims (ltb k 9) _ _ (λ f. simple k (let g = ltb-true k 9 f in omega arith))
        λ f. either at dims (eqb k 9) _ _ (λ g. name-tells)
        λ g. either at dims (eqb k 10) _ _
        (λ i. either at dims (leb 255 dims) _ _ (λ j. plain at 18 at (omega arith) (omega arith) (λ z. omega arith) (omega arith)) (λ j. earlier at dims inner (deeper (leb-false 255 dims j))))
        λ i. record { least = omega arith; most = omega arith; onward = omega arith; inside = λ z. h; names = refl }
      where
        simple : (c : ℕ) → c ≤ 8 → Tells s at dims (Found dims (Simple c) (at + 1))
        simple c i = record { forward = omega arith; within = omega arith; deeper = omega arith; shallow = l; made = i; behind = tt }

  turns-tell : (turns at : ℕ) (void : Bool) (dims : ℕ) → length s ≤ turns + at → dims ≤ 255 → Tells s at dims (read_type (drop at s) at void dims)
  turns-tell zero at void dims m l = subst (Tells s at dims) (sym (read-end s at void dims (omega arith))) (plain at 11 at (omega arith) (omega arith) (λ z. omega arith) (omega arith))
  turns-tell (suc turns) at void dims m l = go (leb (length s) at) refl (λ i. turns-tell turns (at + 1) false (dims + 1) (omega arith) (omega arith))
    where
      inner : Read
      inner = read_type (drop (at + 1) s) (at + 1) false (dims + 1)

      go : (t : Bool) → leb (length s) at ≡ t → (dims < 255 → Tells s (at + 1) (dims + 1) inner) → Tells s at dims (read_type (drop at s) at void dims)
      go true e f = subst (Tells s at dims) (sym (read-end s at void dims (leb-true (length s) at e))) (plain at 11 at (omega arith) (omega arith) (λ z. omega arith) (omega arith))
      go false e f =
          let h = leb-false (length s) at e in
          subst (Tells s at dims) (sym (read-at s at void dims h (letter_of (get_or s at 0)) refl))
          (choose-tells at dims h l (letter_of (get_or s at 0)) void inner f)

  -- what is told of the type at an offset
  pub read-tells : (at : ℕ) (void : Bool) → Tells s at 0 (read_type (drop at s) at void 0)
  read-tells at void = turns-tell (length s) at void 0 (omega arith) (omega arith)

  -- what is refused after a type
  pub finish-tells : (at dims : ℕ) (r : Read) → Tells s at dims r → Tells s at dims (finish s r)
  unfolding finish
  finish-tells at dims (Found d base next) h = either at dims (eqb next (length s)) _ _ (λ e. h) (λ e. plain at 15 next (omega arith) (omega arith) (λ z. omega arith) (let f = h.forward in omega arith))
  finish-tells at dims (Refused code o byte) h = h

  -- what is told of a type holds of it judged strictly
  pub strictly-tells : (at dims : ℕ) (r : Read) → Tells s at dims r → Tells s at dims (strictly s r)
  unfolding strictly
  strictly-tells at dims (Found d (Simple k) next) h = h
  strictly-tells at dims (Found d (Class p n) next) h =
      either at dims (strict_name (take n (drop p s))) _ _ (λ e. h) (λ e. plain at 24 (p - 1) (omega arith) (omega arith) (λ z. omega arith) (let a = h.made.after in omega arith))
  strictly-tells at dims (Refused code o byte) h = h

  -- a class's name lies within the bytes
  pub tells-placed : (at dims : ℕ) (r : Read) → Tells s at dims r → Placed (length s) r
  tells-placed at dims (Found d (Simple k) next) h = tt
  tells-placed at dims (Found d (Class p n) next) h = (let a = h.made.after in omega arith, let w = h.made.within in omega arith)
  tells-placed at dims (Refused code o byte) h = tt

  pub read-placed : (at : ℕ) (void : Bool) → Placed (length s) (read_type (drop at s) at void 0)
  read-placed at void = tells-placed at 0 (read_type (drop at s) at void 0) (read-tells at void)

  pub finish-placed : (at : ℕ) (void : Bool) → Placed (length s) (finish s (read_type (drop at s) at void 0))
  finish-placed at void =
      let t = read_type (drop at s) at void 0 in tells-placed at 0 (finish s t) (finish-tells at 0 t (read-tells at void))

  -- what a type found tells, of an answer that is known to be the type at an offset
  pub found-tells : (at : ℕ) (void : Bool) (d : ℕ) (base : Base) (next : ℕ) → read_type (drop at s) at void 0 ≡ Found d base next → FoundTells s at 0 d base next
  found-tells at void d base next e = subst (Tells s at 0) e (read-tells at void)

-- ---- the first ';'

pub index-before : (x : ℕ) (bs : List ℕ) (i : ℕ) → i < index_of x bs → get_or bs i 0 ≡ x → ⊥
unfolding index_of
index-before x [] i h = absurd (omega arith)
index-before x (b ∷ bs) i h = go (eqb b x) refl i h (index-before x bs)
  where
    go : (t : Bool) → eqb b x ≡ t → (i : ℕ) → i < index_of x (b ∷ bs) → ((i : ℕ) → i < index_of x bs → get_or bs i 0 ≡ x → ⊥) → get_or (b ∷ bs) i 0 ≡ x → ⊥
    go true e i h r = let z = rw e at h in absurd (omega arith)
    go false e zero h r = eqb-false b x e
    go false e (suc i) h r = r i (let z = rw e at h in omega arith)

pub index-at : (x : ℕ) (bs : List ℕ) → index_of x bs < length bs → get_or bs (index_of x bs) 0 ≡ x
unfolding index_of
index-at x [] h = absurd (omega arith)
index-at x (b ∷ bs) h = go (eqb b x) refl h (index-at x bs)
  where
    go : (t : Bool) → eqb b x ≡ t → index_of x (b ∷ bs) < suc (length bs) → (index_of x bs < length bs → get_or bs (index_of x bs) 0 ≡ x) → get_or (b ∷ bs) (index_of x (b ∷ bs)) 0 ≡ x
    go true e h r = rw e (eqb-true b x e)
    go false e h r = rw e (r (let z = rw e at h in omega arith))

-- a name has no ';' and one after it
module _ (s : List ℕ) (at p n next : ℕ) (h : NameTells s at p n next) where
  pub name-plain : (i : ℕ) → i < n → get_or s (p + i) 0 ≡ 59 → ⊥
  name-plain i l e = index-before 59 (drop p s) i (let f = h.first in omega arith) (get_or-drop p s i 0 ∙ e)

  pub name-stop : get_or s (p + n) 0 ≡ 59
  name-stop =
      let f = h.first in
      let w = h.within in
      let d = length-drop p s in
      sym (get_or-drop p s n 0) ∙ ap (λ (k : ℕ). get_or (drop p s) k 0) (sym f) ∙ index-at 59 (drop p s) (omega arith)
