-- Reading one type up to the end of the bytes: it takes exactly the return descriptors, for the type that they derive.
use Rattle.std.specs.Prelude.{◌≡◌, refl, Bool, true, false, List, [], ◌∷◌, ◌++◌, ◌↔◌, ℕ, zero, suc, ◌+◌, ◌-◌, ◌≤◌, eqb, length, take, drop}
use Rattle.std.proofs.Common.{sym, ap, ◌∙◌, subst, append-nil, append_assoc, zero-add, arith, length-append, length-drop, drop-drop, eqb-true, eq-eqb}
use Rattle.std.proofs.lemmas.Bool.{false≢true}
use Rattle.std.proofs.Math.Option.{some, none}
use Rattle.std.proofs.Math.Seq.{take-append_seam}
use Rattle.descriptor.specs.declared.Base.{Base}
use Rattle.descriptor.specs.declared.Base.TheVariants.{Simple, Class}
use Rattle.descriptor.specs.Read.{Read, Found, Refused, pick_r, read_type, finish, strict_name, strictly}
use Rattle.jvms.specs.Jvms.{JavaType, Object, Array, dimensions, AnyName, FieldType, FieldType.base, FieldType.object, FieldType.array, ReturnDescriptor, ReturnDescriptor.field, ReturnDescriptor.void}
use Rattle.jvms.specs.Meaning.{type_at, type_read, placed}
use Rattle.jvms.specs.Prefix.{prefix, prefix-void, refused, Stop, sound}
use Rattle.jvms.specs.Derive.{strict_type}

-- ---- the place of a type stands for the type

-- A DESCRIPTOR'S TYPE, BY THE PLACE OF ITS NAME IN THE BYTES
pub stands : {Name : List ℕ → Type 0} {xs : List ℕ} {t : JavaType} → FieldType Name xs t → (s rest : List ℕ) (at : ℕ) → drop at s ≡ xs ++ rest
    → type_at s (dimensions t) (placed at t) ≡ t
unfolding type_at dimensions placed
stands (base l) s rest at e = refl
stands (object {name} a) s rest at e =
    ap Object (rw (← drop-drop 1 at s, e, append_assoc name (59 ∷ []) rest) (take-append_seam name (59 ∷ rest)))
stands (array {bs} f) s rest at e = ap Array (stands f s rest (at + 1) (rw (← drop-drop 1 at s, e)))

pub stands-return : {Name : List ℕ → Type 0} {xs : List ℕ} {t : JavaType} → ReturnDescriptor Name xs t → (s rest : List ℕ) (at : ℕ) → drop at s ≡ xs ++ rest
    → type_at s (dimensions t) (placed at t) ≡ t
unfolding type_at dimensions placed
stands-return (field f) s rest at e = stands f s rest at e
stands-return void s rest at e = refl

-- ---- to the end

finish-end : (s : List ℕ) (dims : ℕ) (b : Base) (next : ℕ) → next ≡ length s → finish s (Found dims b next) ≡ Found dims b (length s)
unfolding finish
finish-end s dims b next e = rw (eq-eqb next (length s) e, e)

-- where bytes up to the end end
to-end : (s xs : List ℕ) (at : ℕ) → drop at s ≡ xs → at ≤ length s → at + length xs ≡ length s
to-end s xs at e l = rw (← e, length-drop) (omega arith)

-- A RETURN DESCRIPTOR FROM AN OFFSET TO THE END IS READ, WITH ITS DIMENSIONS AND THE PLACE OF ITS NAME
pub end-found : {xs : List ℕ} {t : JavaType} → ReturnDescriptor AnyName xs t → (s : List ℕ) (at : ℕ) → drop at s ≡ xs → at ≤ length s → dimensions t ≤ 255
    → finish s (read_type (drop at s) at true 0) ≡ Found (dimensions t) (placed at t) (length s)
unfolding dimensions placed
end-found (field {bs} {t} f) s at e l h =
    let read : read_type bs at true 0 ≡ Found (dimensions t) (placed at t) (at + length bs) = rw (append-nil, zero-add) at (prefix f [] at true 0 (omega arith)) in
    rw (e, read) (finish-end s (dimensions t) (placed at t) (at + length bs) (to-end s bs at e l))
end-found void s at e l h = rw (e, prefix-void [] at 0) (finish-end s 0 (Simple 0) (at + 1) (to-end s (86 ∷ []) at e l))

-- a return descriptor stands from the offset `at` of s to the end, and this is what is read
pub record End (s : List ℕ) (at dims : ℕ) (b : Base) (next : ℕ) : Type 0 where
  pub type : JavaType
  pub derived : ReturnDescriptor AnyName (drop at s) type
  pub limit : dimensions type ≤ 255
  pub depth : dims ≡ dimensions type
  pub place : b ≡ placed at type
  pub end : next ≡ length s

end-of : (s : List ℕ) (at dims : ℕ) (b : Base) (next : ℕ) → at ≤ length s → next ≡ length s → Stop true (drop at s) at 0 dims b next → End s at dims b next
end-of s at dims b next l e r = record {
  type = r.type;
  derived = subst (λ (x : List ℕ). ReturnDescriptor AnyName x r.type) (sym all) r.taken;
  limit = omega (arith, r.depth, r.limit);
  depth = r.depth ∙ zero-add (dimensions r.type);
  place = r.place;
  end = e;
}
  where
    nil : (x : List ℕ) → length x ≡ 0 → x ≡ []
    nil [] z = refl
    nil (y ∷ ys) z = absurd (let f : ⊥ = omega arith in f)

    none-left : length r.rest ≡ 0
    none-left = omega (arith, sym (length-append r.bytes r.rest) ∙ sym (ap length r.whole) ∙ length-drop at s, r.stop)

    all : drop at s ≡ r.bytes
    all = r.whole ∙ ap (λ (x : List ℕ). r.bytes ++ x) (nil r.rest none-left) ∙ append-nil r.bytes

-- WHAT IS READ FROM AN OFFSET TO THE END IS A RETURN DESCRIPTOR
pub end-sound : (s : List ℕ) (at dims : ℕ) (b : Base) (next : ℕ) → at ≤ length s → finish s (read_type (drop at s) at true 0) ≡ Found dims b next → End s at dims b next
unfolding finish
end-sound s at dims b next l e = go (read_type (drop at s) at true 0) refl e
  where
    whole : (d n : ℕ) (c : Base) → read_type (drop at s) at true 0 ≡ Found d c n → (t : Bool) → eqb n (length s) ≡ t
        → pick_r t (Found d c n) (Refused 15 n 0) ≡ Found dims b next → End s at dims b next
    whole d n c read true same f =
        let r : read_type (drop at s) at true 0 ≡ Found dims b next = read ∙ f in
        let ends : next ≡ length s = cc (eqb-true n (length s) same) in
        end-of s at dims b next l ends (sound (drop at s) at true 0 dims b next (omega arith) r)
    whole d n c read false same f = absurd (refused f)

    go : (r : Read) → read_type (drop at s) at true 0 ≡ r → finish s r ≡ Found dims b next → End s at dims b next
    go (Found d c n) read f = whole d n c read (eqb n (length s)) refl f
    go (Refused code o byte) read f = absurd (refused f)

-- ---- what was read, as a type

pub nothing : {A : Type 0} {a : A} → none ≡ some a → ⊥
nothing e = let z : ◌≡◌ {A = ℕ} 0 1 = cc in omega arith

-- THE TYPE BY THE PLACE THAT WAS READ IS THE DERIVED ONE
pub end-type : {s : List ℕ} {at dims : ℕ} {b : Base} {next : ℕ} (r : End s at dims b next) → type_at s dims b ≡ r.type
end-type {s} {at} r = rw (r.depth, r.place) (stands-return r.derived s [] at (sym (append-nil (drop at s))))

-- READING FROM AN OFFSET TO THE END FINDS EXACTLY THE TYPES OF RETURN DESCRIPTORS
pub end-reads : (s : List ℕ) (at : ℕ) (t : JavaType) → at ≤ length s
    → (type_read s (finish s (read_type (drop at s) at true 0)) ≡ some t) ↔ (ReturnDescriptor AnyName (drop at s) t × (dimensions t ≤ 255))
unfolding type_read
end-reads s at t l = (λ e. found (finish s (read_type (drop at s) at true 0)) refl e, derived)
  where
    derived : ReturnDescriptor AnyName (drop at s) t × (dimensions t ≤ 255) → type_read s (finish s (read_type (drop at s) at true 0)) ≡ some t
    derived p = rw (end-found p.0 s at refl l p.1) (ap some (stands-return p.0 s [] at (sym (append-nil (drop at s)))))

    found : (r : Read) → finish s (read_type (drop at s) at true 0) ≡ r → type_read s r ≡ some t → ReturnDescriptor AnyName (drop at s) t × (dimensions t ≤ 255)
    found (Found dims b next) read e =
        let r = end-sound s at dims b next l read in
        let same : r.type ≡ t = sym (end-type r) ∙ let f : type_at s dims b ≡ t = cc in f in
        (subst (ReturnDescriptor AnyName (drop at s)) same r.derived, subst (λ (u : JavaType). dimensions u ≤ 255) same r.limit)
    found (Refused code o byte) read e = absurd (nothing e)

-- ---- strict reading

strict-place : (s : List ℕ) (dims : ℕ) (b : Base) → strict_type (type_at s dims b) ≡ strict_type (type_at s 0 b)
unfolding strict_type type_at
strict-place s zero b = refl
strict-place s (suc dims) b = strict-place s dims b

-- a strict name stays
pub strict-keeps : (s : List ℕ) (dims : ℕ) (b : Base) (next : ℕ) → strict_type (type_at s dims b) ≡ true → strictly s (Found dims b next) ≡ Found dims b next
unfolding strictly strict_type type_at
strict-keeps s dims (Simple k) next e = refl
strict-keeps s dims (Class at n) next e =
    let named : strict_name (take n (drop at s)) ≡ true = sym (strict-place s dims (Class at n)) ∙ e in
    rw named

-- any other is refused
pub strict-drops : (s : List ℕ) (dims : ℕ) (b : Base) (next : ℕ) → strict_type (type_at s dims b) ≡ false → (o : ℕ) × (strictly s (Found dims b next) ≡ Refused 24 o 0)
unfolding strictly strict_type type_at
strict-drops s dims (Simple k) next e = absurd (false≢true (sym e ∙ strict-place s dims (Simple k)))
strict-drops s dims (Class at n) next e =
    let named : strict_name (take n (drop at s)) ≡ false = sym (strict-place s dims (Class at n)) ∙ e in
    (at - 1, rw named)

-- A STRICT READING FINDS WHAT THE ORDINARY ONE DOES, IF THE TYPE'S NAME IS STRICT
pub strict-read : (s : List ℕ) (r : Read) (t : JavaType) → (type_read s (strictly s r) ≡ some t) ↔ ((type_read s r ≡ some t) × (strict_type t ≡ true))
unfolding type_read strictly
strict-read s (Found dims b next) t = by (strict_type (type_at s dims b)) refl
  where
    by : (test : Bool) → strict_type (type_at s dims b) ≡ test
        → (type_read s (strictly s (Found dims b next)) ≡ some t) ↔ ((some (type_at s dims b) ≡ some t) × (strict_type t ≡ true))
    by true e = rw (strict-keeps s dims b next e) (λ q. (q, ap strict_type (let f : t ≡ type_at s dims b = cc in f) ∙ e), λ q. q.0)
    by false e = rw (strict-drops s dims b next e).1
        (λ q. absurd (nothing q), λ q. absurd (false≢true (sym e ∙ ap strict_type (let f : type_at s dims b ≡ t = cc q.0 in f) ∙ q.1)))
strict-read s (Refused code o byte) t = (λ e. absurd (nothing e), λ e. e.0)
