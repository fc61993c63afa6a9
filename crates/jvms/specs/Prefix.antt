-- The type reader on bytes that begin with a descriptor: it stops where the descriptor ends, and where it stops one has ended.
use Rattle.std.specs.Prelude.{◌≡◌, refl, Bool, true, false, ℕ, zero, suc, ◌+◌, ◌≤◌, ◌<◌, eqb, leb, ltb, length, take, get_or}
use Rattle.std.proofs.Common.{sym, ap, ◌∙◌, subst, add-zero, add_assoc, arith, length-append, eqb-true, eq-eqb, ne_eqb, leb-false, le-ltb, ltb-false}
use mathlib.Core.List.Memᴰ
use mathlib.Core.List.{List, [], ◌∷◌, ◌++◌, Memᴰ, append_assoc}
use Rattle.std.proofs.Math.Seq.{take-append_seam}
use Rattle.std.proofs.lemmas.Bool.{eqb-false, lt-leb}
use Rattle.utf8.specs.Utf8.{valid_prefix, well_formed, WellFormed}
use Rattle.utf8.specs.Laws.{well_formed-decides, prefix-le}
use Rattle.descriptor.specs.declared.Base.{Base}
use Rattle.descriptor.specs.declared.Base.TheVariants.{Simple, Class}
use Rattle.descriptor.specs.Read.{Read, Found, Refused, pick_r, letter_of, index_of, name_read, read_name, choose, read_type}
use Rattle.jvms.specs.Jvms.{JavaType, Primitive, Object, Array, dimensions, AnyName, BaseType, B, C, D, F, I, BaseType.J, S, Z, FieldType, FieldType.base, FieldType.object, FieldType.array, ReturnDescriptor, ReturnDescriptor.field, ReturnDescriptor.void}
use Rattle.jvms.specs.Names.{index-seam, Cut, index-cut}
use Rattle.jvms.specs.Meaning.{placed}

-- ---- the letters

-- the number of a base type's letter is its category
pub letter-base : {b k : ℕ} → BaseType b k → (letter_of b ≡ k) × (eqb k 0 ≡ false) × (ltb k 9 ≡ true)
unfolding letter_of
letter-base B = (refl, refl, refl)
letter-base C = (refl, refl, refl)
letter-base D = (refl, refl, refl)
letter-base F = (refl, refl, refl)
letter-base I = (refl, refl, refl)
letter-base J = (refl, refl, refl)
letter-base S = (refl, refl, refl)
letter-base Z = (refl, refl, refl)

-- ---- the reader stops where the descriptor ends

well-formed-length : (name : List ℕ) → WellFormed name → valid_prefix name ≡ length name
unfolding well_formed
well-formed-length name w = eqb-true (valid_prefix name) (length name) ((well_formed-decides name).1 w)

pub name-stops : (name rest : List ℕ) (at d : ℕ) → AnyName name → read_name (name ++ 59 ∷ rest) at d ≡ Found d (Class (at + 1) (length name)) (at + 1 + length name + 1)
unfolding read_name name_read
name-stops name rest at d a =
    let n = index-seam 59 name rest (a.without 59 (Memᴰ.head refl)) in
    let long : length name < length (name ++ 59 ∷ rest) = simp length-append (omega arith) in
    rw (
      n,
      take-append_seam,
      well-formed-length name a.well_formed,
      lt-leb (length (name ++ 59 ∷ rest)) (length name) long,
      ne_eqb (length name) 0 (λ e. let z : ⊥ = omega (arith, a.not_empty) in z),
      le-ltb (length name) (length name) (omega arith),
    )

-- READING A DESCRIPTOR WITH ANYTHING AFTER IT STOPS AT ITS END
pub prefix : {xs : List ℕ} {t : JavaType} → FieldType AnyName xs t → (rest : List ℕ) (at : ℕ) (v : Bool) (d : ℕ) → d + dimensions t ≤ 255
    → read_type (xs ++ rest) at v d ≡ Found (d + dimensions t) (placed at t) (at + length xs)
unfolding read_type dimensions placed letter_of
prefix (base l) rest at v d h = rw ((letter-base l).0, (letter-base l).1, (letter-base l).2, add-zero)
prefix (object {name} a) rest at v d h =
    let next : at + 1 + length name + 1 ≡ at + length (76 ∷ name ++ 59 ∷ []) = simp length-append (omega arith) in
    rw (append_assoc name (59 ∷ []) rest, name-stops name rest at d a, next, add-zero)
prefix (array {bs} {t} f) rest at v d h =
    let dims : d + 1 + dimensions t ≡ d + suc (dimensions t) = omega arith in
    let next : at + 1 + length bs ≡ at + suc (length bs) = omega arith in
    rw (lt-leb 255 d (omega arith), prefix f rest (at + 1) false (d + 1) (omega arith), dims, next)

-- THE SAME OF VOID
pub prefix-void : (rest : List ℕ) (at d : ℕ) → read_type (86 ∷ rest) at true d ≡ Found d (Simple 0) (at + 1)
unfolding read_type letter_of
prefix-void rest at d = refl

-- ---- where the reader stops a descriptor has ended

-- what the reader takes: with Void allowed a ReturnDescriptor, else a FieldType
abbrev pub Taken : Bool → List ℕ → JavaType → Type 0
Taken true = ReturnDescriptor AnyName
Taken false = FieldType AnyName

-- the reader stopped at `next`, after the descriptor of a type at the front of l
pub record Stop (v : Bool) (l : List ℕ) (at d dims : ℕ) (b : Base) (next : ℕ) : Type 0 where
  pub bytes : List ℕ
  pub rest : List ℕ
  pub type : JavaType
  pub whole : l ≡ bytes ++ rest
  pub taken : Taken v bytes type
  pub depth : dims ≡ d + dimensions type
  pub limit : dims ≤ 255
  pub place : b ≡ placed at type
  pub stop : next ≡ at + length bytes

-- what a byte is by the number of its letter
data Letter : ℕ → ℕ → Type 0 where
  is_void : Letter 86 0
  is_base : {b k : ℕ} → BaseType b k → Letter b k
  is_object : Letter 76 9
  is_array : Letter 91 10
  is_other : {b : ℕ} → Letter b 11

try : (b c : ℕ) → Letter c (letter_of c) → (eqb b c ≡ false → Letter b (letter_of b)) → Letter b (letter_of b)
try b c l other = go (eqb b c) refl
  where
    go : (t : Bool) → eqb b c ≡ t → Letter b (letter_of b)
    go true e = subst (λ (x : ℕ). Letter x (letter_of x)) (sym (eqb-true b c e)) l
    go false e = other e

letter : (b : ℕ) → Letter b (letter_of b)
unfolding letter_of
letter b =
    try b 86 is_void λ e₀. try b 90 (is_base Z) λ e₁. try b 66 (is_base B) λ e₂. try b 83 (is_base S) λ e₃. try b 67 (is_base C) λ e₄. try b 73 (is_base I) λ e₅.
    try b 74 (is_base J) λ e₆. try b 70 (is_base F) λ e₇. try b 68 (is_base D) λ e₈. try b 76 is_object λ e₉. try b 91 is_array λ e₁₀.
    rw (e₀, e₁, e₂, e₃, e₄, e₅, e₆, e₇, e₈, e₉, e₁₀) is_other

take-field : (v : Bool) {xs : List ℕ} {t : JavaType} → FieldType AnyName xs t → Taken v xs t
take-field true f = field f
take-field false f = f

-- a refusal is no type
pub refused : {code o byte dims next : ℕ} {b : Base} → Refused code o byte ≡ Found dims b next → ⊥
refused e = let z : ◌≡◌ {A = ℕ} 0 1 = cc in omega arith

sound-void : (v : Bool) (bs : List ℕ) (at d dims : ℕ) (b : Base) (next : ℕ) → d ≤ 255
    → pick_r v (Found d (Simple 0) (at + 1)) (Refused 13 at 0) ≡ Found dims b next → Stop v (86 ∷ bs) at d dims b next
unfolding dimensions placed
sound-void true bs at d dims b next h e =
    let same : dims ≡ d = cc in
    record { bytes = 86 ∷ []; rest = bs; type = Primitive 0; whole = refl; taken = void; depth = rw (add-zero, same); limit = omega arith; place = cc; stop = cc }
sound-void false bs at d dims b next h e = absurd (refused e)

-- what is found was not refused before
passed : (t : Bool) (code o byte : ℕ) (r : Read) {dims next : ℕ} {b : Base} → pick_r t (Refused code o byte) r ≡ Found dims b next
    → (t ≡ false) × (r ≡ Found dims b next)
passed true code o byte r e = absurd (refused e)
passed false code o byte r e = (refl, e)

-- the bytes before the first ';' are a name, if they are some and well-formed
name-of : (bs : List ℕ) (c : Cut 59 bs) → (index_of 59 bs ≡ 0 → ⊥) → index_of 59 bs ≤ valid_prefix (take (index_of 59 bs) bs) → AnyName c.front
unfolding well_formed
name-of bs c some good = record {
  not_empty = above (length c.front) (λ e. some (sym c.size ∙ e));
  well_formed = (well_formed-decides c.front).0 (eq-eqb (valid_prefix c.front) (length c.front) (omega (arith, prefix-le c.front, c.size, all)));
  without = λ x s m. c.without (subst (λ (y : ℕ). Memᴰ y c.front) (Memᴰ.eq_of_singleton s) m);
}
  where
    above : (n : ℕ) → (n ≡ 0 → ⊥) → 0 < n
    above zero h = absurd (h refl)
    above (suc n) h = omega arith

    front : take (index_of 59 bs) bs ≡ c.front
    front = ap (λ (n : ℕ). take n bs) (sym c.size) ∙ ap (λ (l : List ℕ). take (length c.front) l) c.whole ∙ take-append_seam c.front (59 ∷ c.rest)

    all : index_of 59 bs ≤ valid_prefix c.front
    all = rw front at good

sound-name : (v : Bool) (bs : List ℕ) (at d dims : ℕ) (b : Base) (next : ℕ) → d ≤ 255
    → read_name bs at d ≡ Found dims b next → Stop v (76 ∷ bs) at d dims b next
unfolding read_name name_read dimensions placed
sound-name v bs at d dims b next h e =
    let n = index_of 59 bs in
    let p = valid_prefix (take n bs) in
    let f = Found d (Class (at + 1) n) (at + 1 + n + 1) in
    let whole = pick_r (ltb p n) (Refused 12 (at + 1 + p) (get_or bs p 0)) f in
    let ended = passed (leb (length bs) n) 11 (at + 1 + length bs) 0 (pick_r (eqb n 0) (Refused 14 at 0) whole) e in
    let some = passed (eqb n 0) 14 at 0 whole ended.1 in
    let good = passed (ltb p n) 12 (at + 1 + p) (get_or bs p 0) f some.1 in
    named (index-cut 59 bs (leb-false (length bs) n ended.0)) (eqb-false n 0 some.0) (ltb-false p n good.0) good.1
  where
    named : (c : Cut 59 bs) → (index_of 59 bs ≡ 0 → ⊥) → index_of 59 bs ≤ valid_prefix (take (index_of 59 bs) bs)
        → Found d (Class (at + 1) (index_of 59 bs)) (at + 1 + index_of 59 bs + 1) ≡ Found dims b next → Stop v (76 ∷ bs) at d dims b next
    named c some good f =
        let same : dims ≡ d = cc in
        let after : next ≡ at + 1 + index_of 59 bs + 1 = cc in
        record {
          bytes = 76 ∷ c.front ++ 59 ∷ [];
          rest = c.rest;
          type = Object c.front;
          whole = ap (λ (l : List ℕ). 76 ∷ l) (c.whole ∙ sym (append_assoc c.front (59 ∷ []) c.rest));
          taken = take-field v (object (name-of bs c some good));
          depth = rw (add-zero, same);
          limit = omega arith;
          place = cc c.size;
          stop = simp length-append (omega (arith, c.size));
        }

-- a '[' before a descriptor
array-from : {v : Bool} {bs : List ℕ} {at d dims : ℕ} {b : Base} {next : ℕ} → Stop false bs (at + 1) (d + 1) dims b next → Stop v (91 ∷ bs) at d dims b next
unfolding dimensions placed
array-from {v} {at} {d} r = record {
  bytes = 91 ∷ r.bytes;
  rest = r.rest;
  type = Array r.type;
  whole = ap (λ (x : List ℕ). 91 ∷ x) r.whole;
  taken = take-field v (array r.taken);
  depth = omega (arith, r.depth);
  limit = r.limit;
  place = r.place;
  stop = omega (arith, r.stop);
}

-- WHERE THE READER STOPS, A DESCRIPTOR HAS ENDED
pub sound : (l : List ℕ) (at : ℕ) (v : Bool) (d dims : ℕ) (b : Base) (next : ℕ) → d ≤ 255 → read_type l at v d ≡ Found dims b next → Stop v l at d dims b next
unfolding read_type dimensions placed
sound [] at v d dims b next h e = absurd (refused e)
sound (x ∷ bs) at v d dims b next h e = go (letter x) e (sound bs (at + 1) false (d + 1) dims b next)
  where
    inner : Read
    inner = read_type bs (at + 1) false (d + 1)

    go : {y k : ℕ} → Letter y k → choose k y bs at v d inner ≡ Found dims b next
        → (d + 1 ≤ 255 → inner ≡ Found dims b next → Stop false bs (at + 1) (d + 1) dims b next) → Stop v (y ∷ bs) at d dims b next
    go is_void q ih = sound-void v bs at d dims b next h q
    go (is_base {b = y} {k} l) q ih =
        let f : Found d (Simple k) (at + 1) ≡ Found dims b next = rw ((letter-base l).1, (letter-base l).2) at q in
        let same : dims ≡ d = cc in
        record { bytes = y ∷ []; rest = bs; type = Primitive k; whole = refl; taken = take-field v (base l); depth = rw (add-zero, same); limit = omega arith; place = cc; stop = cc }
    go is_object q ih = sound-name v bs at d dims b next h q
    go is_array q ih = let p = passed (leb 255 d) 18 at 0 inner q in array-from (ih (let l = leb-false 255 d p.0 in omega arith) p.1)
    go is_other q ih = absurd (refused q)

-- ---- the offset

-- a reading of bytes that stand k further on
unfoldable pub moved : ℕ → Read → Read
moved k (Found dims (Simple c) next) = Found dims (Simple c) (k + next)
moved k (Found dims (Class at n) next) = Found dims (Class (k + at) n) (k + next)
moved k (Refused code at byte) = Refused code (k + at) byte

moved-pick : (k : ℕ) (t : Bool) (a b : Read) → moved k (pick_r t a b) ≡ pick_r t (moved k a) (moved k b)
moved-pick k true a b = refl
moved-pick k false a b = refl

shift-name : (bs : List ℕ) (k at d : ℕ) → read_name bs (k + at) d ≡ moved k (read_name bs at d)
unfolding read_name name_read moved
shift-name bs k at d = simp (moved-pick, ← add_assoc)

-- BYTES THAT STAND k FURTHER ON ARE READ THE SAME, WITH PLACES AND REFUSALS k FURTHER ON
pub shift : (l : List ℕ) (k at : ℕ) (v : Bool) (d : ℕ) → read_type l (k + at) v d ≡ moved k (read_type l at v d)
unfolding read_type moved
shift [] k at v d = refl
shift (b ∷ bs) k at v d = simp (moved-pick, ← shift-name, ← shift bs k (at + 1) false (d + 1), ← add_assoc)
