-- What can be read back: its descriptor is derived by the grammar, and stands for it.
use Rattle.std.specs.Prelude.{◌≡◌, Bool, not, ◌&&◌, ◌||◌, ℕ, zero, suc, ◌≤◌, ◌<◌, eqb, ltb, length}
use Rattle.std.proofs.Math.Path.{refl, ap}
use Rattle.std.proofs.Common.{sym, subst, ◌∙◌, arith, ltb-true, eq-eqb}
use Rattle.std.proofs.Math.Bool.{true, false}
use Rattle.std.proofs.lemmas.Bool.{false≢true, not-true}
use mathlib.Core.List.Memᴰ
use mathlib.Core.List.{List, [], ◌∷◌, Memᴰ}
use Rattle.std.proofs.Math.Option.{some, none, map, bind}
use Rattle.text.specs.Text.{ascii}
use Rattle.order.specs.Truth.{both}
use Rattle.order.specs.Lists.{elem}
use Rattle.utf8.specs.Laws.{well_formed-decides}
use Rattle.ty.specs.Types.{ArgType, Primitive, Object, Array, Unknown, depth}
use Rattle.ty.specs.Words.{legal_at_base, legal_type}
use Rattle.names.specs.Names.{name_at, lookup}
use Rattle.names.specs.Table.{Checked, name-sized}
use Rattle.names.specs.Lookup.{lookup-is}
use Rattle.jvms.specs.Jvms as jvms
use Rattle.jvms.specs.Jvms.{JavaType, dimensions, AnyName, BaseType, B, C, D, F, I, BaseType.J, S, Z, FieldType, FieldType.base, FieldType.object, FieldType.array, ReturnDescriptor, ReturnDescriptor.field, ReturnDescriptor.void, Parameter, Parameters, Parameters.none, Parameters.more}
use Rattle.writer.specs.Print.{letter_byte, print, print_all}
use Rattle.roundtrips.specs.ToWord.{to_type, to_types}
use Rattle.roundtrips.specs.Derived.{limits-parts, legal_types}

-- no Unknown, no category 9 or 10, Void only without dimensions and where it may stand (`free`), no ';' in the name
unfoldable pub readable : (ℕ → List ℕ) → Bool → ArgType → Bool
readable name free (Primitive k) = ltb k 9 && (free || ltb 0 k)
readable name free (Object c) = not (elem 59 (name c))
readable name free (Array t) = readable name false t
readable name free (Unknown cs) = false

-- of parameters: Void may not stand there
unfoldable pub all_readable : (ℕ → List ℕ) → List ArgType → Bool
all_readable name [] = true
all_readable name (t ∷ ts) = readable name false t && all_readable name ts

-- a type with its classes by name; no descriptor stands for an Unknown
unfoldable pub named : (ℕ → List ℕ) → ArgType → JavaType
named name (Primitive k) = jvms.Primitive k
named name (Object c) = jvms.Object (name c)
named name (Array t) = jvms.Array (named name t)
named name (Unknown cs) = jvms.Primitive 11

unfoldable pub all_named : (ℕ → List ℕ) → List ArgType → List Parameter
all_named name [] = []
all_named name (t ∷ ts) = record { bytes = print name t; type = named name t } ∷ all_named name ts

pub named-depth : (name : ℕ → List ℕ) (t : ArgType) → dimensions (named name t) ≡ depth t
unfolding named dimensions depth
named-depth name (Primitive k) = refl
named-depth name (Object c) = refl
named-depth name (Array t) = ap suc (named-depth name t)
named-depth name (Unknown cs) = refl

-- ---- letters and names

letter-derived : (k : ℕ) → 0 < k → k < 9 → BaseType (letter_byte k) k
unfolding letter_byte ascii
letter-derived zero h l = absurd (omega arith)
letter-derived (suc zero) h l = Z
letter-derived (suc (suc zero)) h l = B
letter-derived (suc (suc (suc zero))) h l = S
letter-derived (suc (suc (suc (suc zero)))) h l = C
letter-derived (suc (suc (suc (suc (suc zero))))) h l = I
letter-derived (suc (suc (suc (suc (suc (suc zero)))))) h l = J
letter-derived (suc (suc (suc (suc (suc (suc (suc zero))))))) h l = F
letter-derived (suc (suc (suc (suc (suc (suc (suc (suc zero)))))))) h l = D
letter-derived (suc (suc (suc (suc (suc (suc (suc (suc (suc k))))))))) h l = absurd (omega arith)

member-elem : (x : ℕ) (l : List ℕ) → Memᴰ x l → elem x l ≡ true
unfolding elem
member-elem x (y ∷ ys) (Memᴰ.head e) = rw (eq-eqb y x (sym e))
member-elem x (y ∷ ys) (Memᴰ.tail m) = rw (member-elem x ys m) (or-true (eqb y x))
  where
    or-true : (b : Bool) → (b || true) ≡ true
    or-true true = refl
    or-true false = refl
member-elem x [] m = absurd (Memᴰ.not-nil m)

-- ---- over a table of names that was checked

module _ (bytes ats lens : List ℕ) (k : Checked bytes ats lens) where
  any-name : (c : ℕ) → c < length ats → elem 59 (name_at bytes ats lens c) ≡ false → AnyName (name_at bytes ats lens c)
  any-name c h e = record {
    not_empty = (name-sized bytes ats lens k c h).0;
    well_formed = (well_formed-decides (name_at bytes ats lens c)).0 (k.formed c h);
    without = λ x s m. false≢true (sym e ∙ ap (λ (y : ℕ). elem y (name_at bytes ats lens c)) (sym (Memᴰ.eq_of_singleton s)) ∙ member-elem x (name_at bytes ats lens c) m);
  }

  -- its descriptor is derived
  field-derived : (t : ArgType) → legal_at_base (length ats) t ≡ true → readable (name_at bytes ats lens) false t ≡ true
      → FieldType AnyName (print (name_at bytes ats lens) t) (named (name_at bytes ats lens) t)
  unfolding legal_at_base readable print named
  field-derived (Primitive c) h r =
      let b = both (ltb c 9) (ltb 0 c) r in
      base (letter-derived c (ltb-true 0 c b.1) (ltb-true c 9 b.0))
  field-derived (Object c) h r = object (any-name c (ltb-true c (length ats) h) (not-true (elem 59 (name_at bytes ats lens c)) r))
  field-derived (Array t) h r = array (field-derived t h r)
  field-derived (Unknown cs) h r = absurd (false≢true r)

  pub return-derived : (t : ArgType) → legal_at_base (length ats) t ≡ true → readable (name_at bytes ats lens) true t ≡ true
      → ReturnDescriptor AnyName (print (name_at bytes ats lens) t) (named (name_at bytes ats lens) t)
  unfolding legal_at_base readable print named letter_byte ascii
  return-derived (Primitive zero) h r = void
  return-derived (Primitive (suc c)) h r =
      let b = both (ltb (suc c) 9) true r in
      field (base (letter-derived (suc c) (omega arith) (ltb-true (suc c) 9 b.0)))
  return-derived (Object c) h r = field (field-derived (Object c) h r)
  return-derived (Array t) h r = field (field-derived (Array t) h r)
  return-derived (Unknown cs) h r = absurd (false≢true r)

  -- and stands for it
  pub named-back : (free : Bool) (t : ArgType) → legal_at_base (length ats) t ≡ true → readable (name_at bytes ats lens) free t ≡ true
      → to_type (lookup bytes ats lens) (named (name_at bytes ats lens) t) ≡ some t
  unfolding legal_at_base readable named to_type
  named-back free (Primitive c) h r = refl
  named-back free (Object c) h r =
      ap (map Object) ((lookup-is bytes ats lens (name_at bytes ats lens c) k c).1 (ltb-true c (length ats) h, refl))
  named-back free (Array t) h r = ap (map Array) (named-back false t h r)
  named-back free (Unknown cs) h r = absurd (false≢true r)

  -- the same of parameters
  pub parameters-derived : (ts : List ArgType) → legal_types (length ats) ts ≡ true → all_readable (name_at bytes ats lens) ts ≡ true
      → Parameters AnyName (print_all (name_at bytes ats lens) ts) (all_named (name_at bytes ats lens) ts)
  unfolding legal_types all_readable print_all all_named
  parameters-derived [] h r = none
  parameters-derived (t ∷ ts) h r =
      let a = both (legal_type (length ats) t) (legal_types (length ats) ts) h in
      let b = both (readable (name_at bytes ats lens) false t) (all_readable (name_at bytes ats lens) ts) r in
      more (field-derived t (limits-parts (length ats) t a.0).1 b.0) (parameters-derived ts a.1 b.1)

  pub all-back : (ts : List ArgType) → legal_types (length ats) ts ≡ true → all_readable (name_at bytes ats lens) ts ≡ true
      → to_types (lookup bytes ats lens) (all_named (name_at bytes ats lens) ts) ≡ some ts
  unfolding legal_types all_readable all_named to_types bind
  all-back [] h r = refl
  all-back (t ∷ ts) h r =
      let a = both (legal_type (length ats) t) (legal_types (length ats) ts) h in
      let b = both (readable (name_at bytes ats lens) false t) (all_readable (name_at bytes ats lens) ts) r in
      rw (named-back false t (limits-parts (length ats) t a.0).1 b.0, all-back ts a.1 b.1)

-- as many, and as deep
pub named-length : (name : ℕ → List ℕ) (ts : List ArgType) → length (all_named name ts) ≡ length ts
unfolding all_named
named-length name [] = refl
named-length name (t ∷ ts) = ap suc (named-length name ts)

pub named-low : (name : ℕ → List ℕ) (names : ℕ) (ts : List ArgType) → legal_types names ts ≡ true
    → (p : Parameter) → Memᴰ p (all_named name ts) → dimensions p.type ≤ 255
unfolding all_named legal_types
named-low name names [] h p m = absurd (Memᴰ.not-nil m)
named-low name names (t ∷ ts) h p (Memᴰ.head e) =
    let s = limits-parts names t (both (legal_type names t) (legal_types names ts) h).0 in
    let d = named-depth name t in
    subst (λ (q : Parameter). dimensions q.type ≤ 255) (sym e) (let l : dimensions (named name t) ≤ 255 = omega arith in l)
named-low name names (t ∷ ts) h p (Memᴰ.tail m) = named-low name names ts (both (legal_type names t) (legal_types names ts) h).1 p m
