-- Derivations are unique: two of the same bytes are equal as data. Two proofs that something is a name have to be equal for that, as they are
-- where a test decides the names.
use Rattle.std.specs.Prelude.{◌≡◌, refl, Bool, true, ℕ, length, drop}
use Rattle.std.proofs.Common.{sym, ap, ap₂, subst, ◌∙◌}
use Rattle.std.proofs.Math.Path.{subst_refl}
use Rattle.std.proofs.Math.Bool.{Bool-set}
use mathlib.Core.List.{List, [], ◌∷◌, ◌++◌, is_set}
use Rattle.std.proofs.Math.Nat.{ℕ_set}
use Rattle.std.proofs.Math.Seq.{drop-append_seam}
use Rattle.text.specs.Text.{byte}
use Rattle.jvms.specs.Jvms.{JavaType, Primitive, Object, Array, BaseType, B, C, D, F, I, BaseType.J, S, Z, FieldType, FieldType.base, FieldType.object, FieldType.array, ReturnDescriptor, ReturnDescriptor.field, ReturnDescriptor.void, Parameter, Parameters, Parameters.none, Parameters.more, Signature, MethodDescriptor, MethodDescriptor.method}
use Rattle.jvms.specs.Derive.{Ended}
use Rattle.jvms.specs.JvmsTheorem.{one-type, one-signature}

-- two proofs that something is a name are equal
abbrev pub OneName : (List ℕ → Type 0) → Type 0
OneName Name = (name : List ℕ) (a b : Name name) → a ≡ b

-- as where a test says what is one
pub decided : (test : List ℕ → Bool) → OneName (λ (name : List ℕ). test name ≡ true)
decided test name a b = Bool-set (test name) true a b

same-letter : {b k : ℕ} (l m : BaseType b k) → l ≡ m
same-letter B B = refl
same-letter C C = refl
same-letter D D = refl
same-letter F F = refl
same-letter I I = refl
same-letter J J = refl
same-letter S S = refl
same-letter Z Z = refl

-- what is moved along an equation of a list with itself stays
stays : (P : List ℕ → Type 0) {xs : List ℕ} (f : xs ≡ xs) (x : P xs) → subst P f x ≡ x
stays P {xs} f x = ap (λ (p : xs ≡ xs). subst P p x) (is_set ℕ_set xs xs f refl) ∙ subst_refl P x

head-of : {x y : ℕ} {xs ys : List ℕ} → x ∷ xs ≡ y ∷ ys → x ≡ y
head-of e = cc

tail-of : {x y : ℕ} {xs ys : List ℕ} → x ∷ xs ≡ y ∷ ys → xs ≡ ys
tail-of e = cc

rest-of : (bs : List ℕ) {xs ys : List ℕ} → bs ++ xs ≡ bs ++ ys → xs ≡ ys
rest-of bs {xs} {ys} e = sym (drop-append_seam bs xs) ∙ ap (drop (length bs)) e ∙ drop-append_seam bs ys

module _ {Name : List ℕ → Type 0} (one : OneName Name) where
  -- a derivation m of some bytes for a type, moved to the bytes of another one's, is that one; by the type's constructor
  abbrev At : JavaType → List ℕ → Type 0
  At t xs = FieldType Name xs t

  at-base : {xs : List ℕ} {b k : ℕ} (m : FieldType Name xs (Primitive k)) (l : BaseType b k) (f : xs ≡ b ∷ []) → subst (At (Primitive k)) f m ≡ base l
  at-base {k = k} (base {b = c} m) l f =
      subst (λ (x : ℕ). (l : BaseType x k) (f : c ∷ [] ≡ x ∷ []) → subst (At (Primitive k)) f (base m) ≡ base l) (head-of f)
      (λ l f. stays (At (Primitive k)) f (base m) ∙ ap base (same-letter m l)) l f

  at-object : {xs name : List ℕ} (m : FieldType Name xs (Object name)) (a : Name name) (f : xs ≡ byte "L" ∷ name ++ byte ";" ∷ []) → subst (At (Object name)) f m ≡ object a
  at-object {name = name} (object b) a f = stays (At (Object name)) f (object b) ∙ ap object (one name b a)

  at-array : {xs bs : List ℕ} {t : JavaType} (m : FieldType Name xs (Array t)) (l : FieldType Name bs t) → ((k : FieldType Name bs t) → l ≡ k)
      → (f : xs ≡ byte "[" ∷ bs) → subst (At (Array t)) f m ≡ array l
  at-array {t = t} (array {bs = cs} m) l ih f =
      subst (λ (ys : List ℕ). (l : FieldType Name ys t) → ((k : FieldType Name ys t) → l ≡ k) → (f : byte "[" ∷ cs ≡ byte "[" ∷ ys) → subst (At (Array t)) f (array m) ≡ array l) (tail-of f)
      (λ l ih f. stays (At (Array t)) f (array m) ∙ ap array (sym (ih m))) l ih f

  -- TWO DERIVATIONS OF A FIELD TYPE FROM THE SAME BYTES ARE EQUAL
  pub same-field : {xs : List ℕ} {t : JavaType} (l m : FieldType Name xs t) → l ≡ m
  same-field (base {k} l) m = sym (sym (subst_refl (At (Primitive k)) m) ∙ at-base m l refl)
  same-field (object {name} a) m = sym (sym (subst_refl (At (Object name)) m) ∙ at-object m a refl)
  same-field (array {t} l) m = sym (sym (subst_refl (At (Array t)) m) ∙ at-array m l (λ k. same-field l k) refl)

  -- OF A RETURN TYPE
  pub same-return : {xs : List ℕ} {t : JavaType} (l m : ReturnDescriptor Name xs t) → l ≡ m
  same-return (field l) (field m) = ap field (same-field l m)
  same-return (field (base l)) void = elim l [ ]
  same-return void (field (base m)) = elim m [ ]
  same-return void void = refl

  -- ---- parameters

  abbrev Ps : List Parameter → List ℕ → Type 0
  Ps ps xs = Parameters Name xs ps

  at-none : {xs : List ℕ} (m : Parameters Name xs []) (f : xs ≡ []) → subst (Ps []) f m ≡ none
  at-none none f = stays (Ps []) f none

  at-more : {xs bs rest : List ℕ} {t : JavaType} {ps : List Parameter} (m : Parameters Name xs (record { bytes = bs; type = t } ∷ ps)) (g : FieldType Name bs t)
      (r : Parameters Name rest ps) → ((k : Parameters Name rest ps) → r ≡ k) → (f : xs ≡ bs ++ rest)
      → subst (Ps (record { bytes = bs; type = t } ∷ ps)) f m ≡ more g r
  at-more {bs = bs} {t = t} {ps = ps} (more {rest = cs} h q) g r ih f =
      let P = Ps (record { bytes = bs; type = t } ∷ ps) in
      subst (λ (ys : List ℕ). (r : Parameters Name ys ps) → ((k : Parameters Name ys ps) → r ≡ k) → (f : bs ++ cs ≡ bs ++ ys) → subst P f (more h q) ≡ more g r) (rest-of bs f)
      (λ r ih f. stays P f (more h q) ∙ ap₂ more (same-field h g) (sym (ih q))) r ih f

  pub same-list : {xs : List ℕ} {ps : List Parameter} (l m : Parameters Name xs ps) → l ≡ m
  same-list none m = sym (sym (subst_refl (Ps []) m) ∙ at-none m refl)
  same-list (more {bs} {rest} {t} {ps} g r) m = sym (sym (subst_refl (Ps (record { bytes = bs; type = t } ∷ ps)) m) ∙ at-more m g r (λ k. same-list r k) refl)

  -- ---- methods

  abbrev Ms : Signature → List ℕ → Type 0
  Ms m s = MethodDescriptor Name s m

  abbrev bytes_of : List Parameter → List ℕ
  bytes_of [] = []
  bytes_of (p ∷ ps) = p.bytes ++ bytes_of ps

  -- the bytes of derived parameters are those in their list
  are-bytes : {xs : List ℕ} {ps : List Parameter} → Parameters Name xs ps → xs ≡ bytes_of ps
  are-bytes none = refl
  are-bytes (more {bs} f l) = ap (λ (ys : List ℕ). bs ++ ys) (are-bytes l)

  at-method : {s bs end : List ℕ} {ps : List Parameter} {t : JavaType} (m : MethodDescriptor Name s (record { parameters = ps; result = t }))
      (l : Parameters Name bs ps) (r : ReturnDescriptor Name end t) (f : s ≡ byte "(" ∷ bs ++ byte ")" ∷ end)
      → subst (Ms (record { parameters = ps; result = t })) f m ≡ method l r
  at-method {bs = bs} {end = end} {ps = ps} {t = t} (method {bs = cs} {end = stop} h q) l r f =
      let P = Ms (record { parameters = ps; result = t }) in
      subst (λ (ys : List ℕ). (l : Parameters Name ys ps) (f : byte "(" ∷ cs ++ byte ")" ∷ stop ≡ byte "(" ∷ ys ++ byte ")" ∷ end) → subst P f (method h q) ≡ method l r)
      (are-bytes h ∙ sym (are-bytes l))
      (λ l f.
      subst (λ (ys : List ℕ). (r : ReturnDescriptor Name ys t) (f : byte "(" ∷ cs ++ byte ")" ∷ stop ≡ byte "(" ∷ cs ++ byte ")" ∷ ys) → subst P f (method h q) ≡ method l r)
      (tail-of (rest-of cs (tail-of f)))
      (λ r f. stays P f (method h q) ∙ ap₂ method (same-list h l) (same-return q r)) r f)
      l f

  -- OF A METHOD
  pub same-method : {s : List ℕ} {m : Signature} (l r : MethodDescriptor Name s m) → l ≡ r
  same-method (method {ps} {t} l r) m = sym (sym (subst_refl (Ms (record { parameters = ps; result = t })) m) ∙ at-method m l r refl)

  -- ---- whatever they derive: no name has a ';', so the type is one, and then the derivation

  -- TWO DERIVATIONS OF THE SAME BYTES ARE OF ONE TYPE AND EQUAL
  pub unique-return : Ended Name → {s : List ℕ} {t u : JavaType} (l : ReturnDescriptor Name s t) (m : ReturnDescriptor Name s u)
      → (e : t ≡ u) × (subst (ReturnDescriptor Name s) e l ≡ m)
  unique-return ended {s} l m = let e = one-type ended l m in (e, same-return (subst (ReturnDescriptor Name s) e l) m)

  -- TWO OF A METHOD, OF ONE SIGNATURE AND EQUAL
  pub unique-method : Ended Name → {s : List ℕ} {m n : Signature} (l : MethodDescriptor Name s m) (r : MethodDescriptor Name s n)
      → (e : m ≡ n) × (subst (MethodDescriptor Name s) e l ≡ r)
  unique-method ended {s} l r = let e = one-signature ended l r in (e, same-method (subst (MethodDescriptor Name s) e l) r)
