-- What the grammar derives is printed of the type that it stands for, and that type is within the limits.
use Rattle.std.specs.Prelude.{◌≡◌, Bool, true, ◌&&◌, leb, length}
use Rattle.std.proofs.Math.Path.{refl, ap, ap₂, subst}
use Rattle.std.proofs.Common.{sym, ◌∙◌, arith, lt-ltb, le-leb, leb-true}
use mathlib.Core.List.{List, [], ◌∷◌, ◌++◌, Memᴰ}
use Rattle.std.proofs.Math.Option.{Option, some, none, map, bind-eq-some_iff, map-eq-some_iff, some-injective}
use Prim.Native.Nat.{ℕ, suc, ◌≤◌}
use Rattle.text.specs.Text.{ascii}
use Rattle.order.specs.Truth.{and-left, and-right}
use Rattle.ty.specs.Types.{ArgType, Primitive, Object, Array, depth}
use Rattle.ty.specs.Words.{legal_at_base, legal_type}
use Rattle.names.specs.Names.{lookup}
use Rattle.names.specs.Lookup.{lookup-told}
use Rattle.jvms.specs.Jvms as jvms
use Rattle.jvms.specs.Jvms.{JavaType, dimensions, AnyName, BaseType, B, C, D, F, I, BaseType.J, S, Z, FieldType, FieldType.base, FieldType.object, FieldType.array, ReturnDescriptor, ReturnDescriptor.field, ReturnDescriptor.void, Parameter, Parameters, Parameters.none, Parameters.more, Signature, MethodDescriptor, MethodDescriptor.method}
use Rattle.writer.specs.Print.{letter_byte, print, print_all, print_method}
use Rattle.roundtrips.specs.ToWord.{to_type, MethodType, method_type, to_types, to_method}

letter-printed : {b k : ℕ} → BaseType b k → letter_byte k ≡ b
unfolding letter_byte ascii
letter-printed B = refl
letter-printed C = refl
letter-printed D = refl
letter-printed F = refl
letter-printed I = refl
letter-printed J = refl
letter-printed S = refl
letter-printed Z = refl

-- `name` gives the name of each number that `find` finds
module _ (name : ℕ → List ℕ) (find : List ℕ → Option ℕ) (holds : (n : List ℕ) (c : ℕ) → find n ≡ some c → name c ≡ n) where
  -- what the grammar derives is printed of its type
  field-printed : {xs : List ℕ} {j : JavaType} → FieldType AnyName xs j → (t : ArgType) → to_type find j ≡ some t → print name t ≡ xs
  unfolding print to_type
  field-printed (base {k} l) t e =
      ap (print name) (sym (some-injective (Primitive k) t e)) ∙ ap (λ (b : ℕ). b ∷ []) (letter-printed l)
  field-printed (object {name = n} a) t e =
      let f = (map-eq-some_iff Object (find n)).0 e in
      ap (print name) (sym f.2) ∙ ap (λ (l : List ℕ). 76 ∷ l ++ (59 ∷ [])) (holds n f.0 f.1)
  field-printed (array {t = j} d) t e =
      let f = (map-eq-some_iff Array (to_type find j)).0 e in
      ap (print name) (sym f.2) ∙ ap (λ (l : List ℕ). 91 ∷ l) (field-printed d f.0 f.1)

  pub return-printed : {xs : List ℕ} {j : JavaType} → ReturnDescriptor AnyName xs j → (t : ArgType) → to_type find j ≡ some t → print name t ≡ xs
  unfolding print to_type letter_byte ascii
  return-printed (field d) t e = field-printed d t e
  return-printed void t e = ap (print name) (sym (some-injective (Primitive 0) t e))

  parameters-printed : {xs : List ℕ} {ps : List Parameter} → Parameters AnyName xs ps → (ts : List ArgType) → to_types find ps ≡ some ts → print_all name ts ≡ xs
  unfolding print_all to_types
  parameters-printed none ts e = ap (print_all name) (sym (some-injective [] ts e))
  parameters-printed (more {t = j} {ps} d l) ts e =
      let f = (bind-eq-some_iff (to_type find j) (λ a. map (λ as'. a ∷ as') (to_types find ps))).0 e in
      let g = (map-eq-some_iff (λ as'. f.0 ∷ as') (to_types find ps)).0 f.2 in
      ap (print_all name) (sym g.2) ∙ ap₂ (λ (x y : List ℕ). x ++ y) (field-printed d f.0 f.1) (parameters-printed l g.0 g.1)

  pub method-printed : {xs : List ℕ} {m : Signature} → MethodDescriptor AnyName xs m → (u : MethodType) → to_method find m ≡ some u
      → print_method name u.params u.result ≡ xs
  unfolding print_method to_method
  method-printed (method {ps} {t = j} l r) u e =
      let f = (bind-eq-some_iff (to_types find ps) (λ ts. map (method_type ts) (to_type find j))).0 e in
      let g = (map-eq-some_iff (method_type f.0) (to_type find j)).0 f.2 in
      ap (λ (m : MethodType). print_method name m.params m.result) (sym g.2)
      ∙ ap₂ (λ (x y : List ℕ). 40 ∷ x ++ (41 ∷ y)) (parameters-printed l f.0 f.1) (return-printed r g.0 g.1)

-- ---- over a table of names

-- the limits' two parts: dimensions, and the base
pub limits-parts : (names : ℕ) (t : ArgType) → legal_type names t ≡ true → (depth t ≤ 255) × (legal_at_base names t ≡ true)
unfolding legal_type
limits-parts names t h = (
  leb-true (depth t) 255 (and-left (leb (depth t) 255) (legal_at_base names t) h),
  and-right (leb (depth t) 255) (legal_at_base names t) h,
)

unfoldable pub legal_types : ℕ → List ArgType → Bool
legal_types names [] = true
legal_types names (t ∷ ts) = legal_type names t && legal_types names ts

module _ (bytes ats lens : List ℕ) where
  -- what is read is a type within the limits
  letter-low : {b c : ℕ} → BaseType b c → legal_at_base (length ats) (Primitive c) ≡ true
  unfolding legal_at_base
  letter-low B = refl
  letter-low C = refl
  letter-low D = refl
  letter-low F = refl
  letter-low I = refl
  letter-low J = refl
  letter-low S = refl
  letter-low Z = refl

  -- legal over the names, and as deep as it was
  abbrev Kept : JavaType → ArgType → Type 0
  Kept j t = (legal_at_base (length ats) t ≡ true) × (depth t ≡ dimensions j)

  field-kept : {xs : List ℕ} {j : JavaType} → FieldType AnyName xs j → (t : ArgType) → to_type (lookup bytes ats lens) j ≡ some t → Kept j t
  unfolding to_type legal_at_base depth dimensions
  field-kept (base {k = c} l) t e = subst (Kept (jvms.Primitive c)) (some-injective (Primitive c) t e) (letter-low l, refl)
  field-kept (object {name = n} a) t e =
      let f = (map-eq-some_iff Object (lookup bytes ats lens n)).0 e in
      subst (Kept (jvms.Object n)) f.2 (lt-ltb f.0 (length ats) (lookup-told bytes ats lens n f.0 f.1).0, refl)
  field-kept (array {t = j} d) t e =
      let f = (map-eq-some_iff Array (to_type (lookup bytes ats lens) j)).0 e in
      let r = field-kept d f.0 f.1 in
      subst (Kept (jvms.Array j)) f.2 (r.0, ap suc r.1)

  return-kept : {xs : List ℕ} {j : JavaType} → ReturnDescriptor AnyName xs j → (t : ArgType) → to_type (lookup bytes ats lens) j ≡ some t → Kept j t
  unfolding to_type legal_at_base depth dimensions
  return-kept (field d) t e = field-kept d t e
  return-kept void t e = subst (Kept (jvms.Primitive 0)) (some-injective (Primitive 0) t e) (refl, refl)

  kept-legal : (j : JavaType) (t : ArgType) → Kept j t → dimensions j ≤ 255 → legal_type (length ats) t ≡ true
  unfolding legal_type
  kept-legal j t h l = rw (le-leb (depth t) 255 (let e = h.1 in omega arith)) h.0

  pub return-legal : {xs : List ℕ} {j : JavaType} → ReturnDescriptor AnyName xs j → dimensions j ≤ 255 → (t : ArgType) → to_type (lookup bytes ats lens) j ≡ some t
      → legal_type (length ats) t ≡ true
  return-legal {j = j} d l t e = kept-legal j t (return-kept d t e) l

  -- and each of a method's parameters
  pub parameters-legal : {xs : List ℕ} {ps : List Parameter} → Parameters AnyName xs ps → ((p : Parameter) → Memᴰ p ps → dimensions p.type ≤ 255)
      → (ts : List ArgType) → to_types (lookup bytes ats lens) ps ≡ some ts → (legal_types (length ats) ts ≡ true) × (length ts ≡ length ps)
  unfolding to_types legal_types
  parameters-legal none low ts e = subst (λ (us : List ArgType). (legal_types (length ats) us ≡ true) × (length us ≡ 0)) (some-injective [] ts e) (refl, refl)
  parameters-legal (more {bs} {t = j} {ps} d l) low ts e =
      let f = (bind-eq-some_iff (to_type (lookup bytes ats lens) j) (λ a. map (λ as'. a ∷ as') (to_types (lookup bytes ats lens) ps))).0 e in
      let g = (map-eq-some_iff (λ as'. f.0 ∷ as') (to_types (lookup bytes ats lens) ps)).0 f.2 in
      let here = kept-legal j f.0 (field-kept d f.0 f.1) (low (record { bytes = bs; type = j }) (Memᴰ.head refl)) in
      let rest = parameters-legal l (λ p m. low p (Memᴰ.tail m)) g.0 g.1 in
      subst (λ (us : List ArgType). (legal_types (length ats) us ≡ true) × (length us ≡ suc (length ps))) g.2 (rw here rest.0, ap suc rest.1)
