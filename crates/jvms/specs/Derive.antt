-- Laws of derivations alone: what a descriptor begins with, that its bytes derive one type only, which names make it strict.
use Rattle.std.specs.Prelude.{◌≡◌, refl, Bool, true, ◌↔◌, ◌≢◌, ℕ, length, take, drop}
use Rattle.std.proofs.Common.{sym, ap, ◌∙◌, arith}
use mathlib.Core.List.Memᴰ
use mathlib.Core.List.{List, [], ◌∷◌, ◌++◌, Memᴰ, append_assoc}
use Rattle.std.proofs.Math.Seq.{take-append_seam, drop-append_seam}
use Rattle.text.specs.Text.{byte}
use Rattle.descriptor.specs.Read.{letter_of, index_of, strict_name}
use Rattle.jvms.specs.Jvms.{JavaType, Primitive, Object, Array, AnyName, ClassName, BaseType, B, C, D, F, I, BaseType.J, S, Z, FieldType, FieldType.base, FieldType.object, FieldType.array, ReturnDescriptor, ReturnDescriptor.field, ReturnDescriptor.void, Parameter, Signature, Parameters, Parameters.none, Parameters.more, MethodDescriptor, MethodDescriptor.method}
use Rattle.jvms.specs.Names.{index-seam, class-name}
use Rattle.jvms.specs.Prefix.{letter-base}

-- ---- the first byte

-- the letter of a base type is not one of  V L [ )
base-other : {b k : ℕ} → BaseType b k → (b ≢ 86) × (b ≢ 76) × (b ≢ 91) × (b ≢ 41)
base-other B = omega arith
base-other C = omega arith
base-other D = omega arith
base-other F = omega arith
base-other I = omega arith
base-other J = omega arith
base-other S = omega arith
base-other Z = omega arith

-- a descriptor begins with a byte that is no  V  and no  )
pub first-byte : {Name : List ℕ → Type 0} {xs : List ℕ} {t : JavaType} → FieldType Name xs t → (b : ℕ) × (bs : List ℕ) × (xs ≡ b ∷ bs) × (b ≢ 86) × (b ≢ 41)
first-byte (base {b} l) = (b, [], refl, (base-other l).0, (base-other l).3)
first-byte (object {name} n) = (76, name ++ 59 ∷ [], refl, omega arith, omega arith)
first-byte (array {bs} f) = (91, bs, refl, omega arith, omega arith)

-- ---- one type

-- no class name has a ';'
abbrev pub Ended : (List ℕ → Type 0) → Type 0
Ended Name = (name : List ℕ) → Name name → Memᴰ (byte ";") name → ⊥

same-name : (xs ys r q : List ℕ) → (Memᴰ 59 xs → ⊥) → (Memᴰ 59 ys → ⊥) → xs ++ 59 ∷ [] ++ r ≡ ys ++ 59 ∷ [] ++ q → xs ≡ ys
same-name xs ys r q u w e =
    let f : xs ++ 59 ∷ r ≡ ys ++ 59 ∷ q = sym (append_assoc xs (59 ∷ []) r) ∙ e ∙ append_assoc ys (59 ∷ []) q in
    let n : length xs ≡ length ys = sym (index-seam 59 xs r u) ∙ ap (index_of 59) f ∙ index-seam 59 ys q w in
    sym (take-append_seam xs (59 ∷ r)) ∙ ap (take (length xs)) f ∙ ap (λ (k : ℕ). take k (ys ++ 59 ∷ q)) n ∙ take-append_seam ys (59 ∷ q)

head-of : {x y : ℕ} {xs ys : List ℕ} → x ∷ xs ≡ y ∷ ys → x ≡ y
head-of e = cc

tail-of : {x y : ℕ} {xs ys : List ℕ} → x ∷ xs ≡ y ∷ ys → xs ≡ ys
tail-of e = cc

unlike {ℓ} : {A : Type ℓ} {x y : ℕ} {xs ys : List ℕ} → x ∷ xs ≡ y ∷ ys → (x ≡ y → ⊥) → A
unlike e h = absurd (h (head-of e))

-- TWO DESCRIPTORS AT THE FRONT OF THE SAME BYTES ARE ONE, OF ONE TYPE
pub one-prefix : {Name : List ℕ → Type 0} → Ended Name → {xs ys : List ℕ} {t u : JavaType} → FieldType Name xs t → FieldType Name ys u → (r q : List ℕ)
    → xs ++ r ≡ ys ++ q → (t ≡ u) × (xs ≡ ys)
one-prefix ended (base l) (base m) r q e =
    let same = head-of e in
    let kind = sym (letter-base l).0 ∙ ap letter_of same ∙ (letter-base m).0 in
    (ap Primitive kind, ap (λ (x : ℕ). x ∷ []) same)
one-prefix ended (base l) (object m) r q e = unlike e (base-other l).1
one-prefix ended (base l) (array m) r q e = unlike e (base-other l).2
one-prefix ended (object l) (base m) r q e = unlike (sym e) (base-other m).1
one-prefix ended (object {name = x} l) (object {name = y} m) r q e =
    let same = same-name x y r q (ended x l) (ended y m) (tail-of e) in
    (ap Object same, ap (λ (n : List ℕ). 76 ∷ n ++ 59 ∷ []) same)
one-prefix ended (object l) (array m) r q e = unlike e (omega arith)
one-prefix ended (array l) (base m) r q e = unlike (sym e) (base-other m).2
one-prefix ended (array l) (object m) r q e = unlike e (omega arith)
one-prefix ended (array l) (array m) r q e =
    let inner = one-prefix ended l m r q (tail-of e) in
    (ap Array inner.0, ap (λ (x : List ℕ). 91 ∷ x) inner.1)

-- EQUAL RETURN DESCRIPTORS ARE OF ONE TYPE
pub one-return : {Name : List ℕ → Type 0} → Ended Name → {xs ys : List ℕ} {t u : JavaType} → ReturnDescriptor Name xs t → ReturnDescriptor Name ys u → xs ≡ ys → t ≡ u
one-return ended (field l) (field m) e = (one-prefix ended l m [] [] (ap (λ (x : List ℕ). x ++ []) e)).0
one-return ended (field l) void e = let f = first-byte l in unlike (sym f.2 ∙ e) f.3
one-return ended void (field m) e = let f = first-byte m in unlike (sym f.2 ∙ sym e) f.3
one-return ended void void e = refl

-- what stands after the same front is the same
after : (xs ys r q : List ℕ) → xs ≡ ys → xs ++ r ≡ ys ++ q → r ≡ q
after xs ys r q same e = sym (drop-append_seam xs r) ∙ ap (drop (length xs)) e ∙ ap (λ (l : List ℕ). drop (length l) (ys ++ q)) same ∙ drop-append_seam ys q

-- a parameter does not begin with the ')'
not-close : {Name : List ℕ → Type 0} {xs : List ℕ} {t : JavaType} → FieldType Name xs t → (r q : List ℕ) → xs ++ r ≡ 41 ∷ q → ⊥
not-close l r q e = let f = first-byte l in unlike (ap (λ (x : List ℕ). x ++ r) (sym f.2) ∙ e) f.4

one-list : {Name : List ℕ → Type 0} → Ended Name → {xs ys : List ℕ} {ps qs : List Parameter} → Parameters Name xs ps → Parameters Name ys qs → (r q : List ℕ)
    → xs ++ 41 ∷ r ≡ ys ++ 41 ∷ q → (ps ≡ qs) × (r ≡ q)
one-list ended none none r q e = (refl, tail-of e)
one-list ended none (more {bs} {rest} f l) r q e = absurd (not-close f (rest ++ 41 ∷ q) r (sym (append_assoc bs rest (41 ∷ q)) ∙ sym e))
one-list ended (more {bs} {rest} f l) none r q e = absurd (not-close f (rest ++ 41 ∷ r) q (sym (append_assoc bs rest (41 ∷ r)) ∙ e))
one-list ended (more {bs = xs} {rest = x} f l) (more {bs = ys} {rest = y} g m) r q e =
    let whole : xs ++ (x ++ 41 ∷ r) ≡ ys ++ (y ++ 41 ∷ q) = sym (append_assoc xs x (41 ∷ r)) ∙ e ∙ append_assoc ys y (41 ∷ q) in
    let one = one-prefix ended f g (x ++ 41 ∷ r) (y ++ 41 ∷ q) whole in
    let others = one-list ended l m r q (after xs ys (x ++ 41 ∷ r) (y ++ 41 ∷ q) one.1 whole) in
    (λ i. record { bytes = one.1 i; type = one.0 i } ∷ others.0 i, others.1)

-- EQUAL METHOD DESCRIPTORS ARE OF ONE SIGNATURE
pub one-method : {Name : List ℕ → Type 0} → Ended Name → {xs ys : List ℕ} {m n : Signature} → MethodDescriptor Name xs m → MethodDescriptor Name ys n → xs ≡ ys → m ≡ n
one-method ended (method {end = r} l f) (method {end = q} m g) e =
    let list = one-list ended l m r q (tail-of e) in
    λ i. record { parameters = list.0 i; result = one-return ended f g list.1 i }

-- ---- strict names

-- whether the name of a type is strict
unfoldable pub strict_type : JavaType → Bool
strict_type (Primitive k) = true
strict_type (Object name) = strict_name name
strict_type (Array t) = strict_type t

field-any : {xs : List ℕ} {t : JavaType} → FieldType ClassName xs t → FieldType AnyName xs t × (strict_type t ≡ true)
unfolding strict_type
field-any (base l) = (base l, refl)
field-any (object {name} c) = let a = (class-name name).0 c in (object a.0, a.1)
field-any (array f) = let r = field-any f in (array r.0, r.1)

field-class : {xs : List ℕ} {t : JavaType} → FieldType AnyName xs t → strict_type t ≡ true → FieldType ClassName xs t
unfolding strict_type
field-class (base l) e = base l
field-class (object {name} a) e = object ((class-name name).1 (a, e))
field-class (array f) e = array (field-class f e)

return-any : {xs : List ℕ} {t : JavaType} → ReturnDescriptor ClassName xs t → ReturnDescriptor AnyName xs t × (strict_type t ≡ true)
unfolding strict_type
return-any (field f) = let r = field-any f in (field r.0, r.1)
return-any void = (void, refl)

return-class : {xs : List ℕ} {t : JavaType} → ReturnDescriptor AnyName xs t → strict_type t ≡ true → ReturnDescriptor ClassName xs t
return-class (field f) e = field (field-class f e)
return-class void e = void

-- THE GRAMMAR WITH CLASS NAMES IS THE ONE WITH ANY NAMES, WHERE THE TYPE'S NAME IS STRICT
pub return-strict : {xs : List ℕ} {t : JavaType} → ReturnDescriptor ClassName xs t ↔ (ReturnDescriptor AnyName xs t × (strict_type t ≡ true))
return-strict = (return-any, λ r. return-class r.0 r.1)

-- every parameter's name is strict
abbrev pub AllStrict : List Parameter → Type 0
AllStrict ps = (p : Parameter) → Memᴰ p ps → strict_type p.type ≡ true

list-any : {xs : List ℕ} {ps : List Parameter} → Parameters ClassName xs ps → Parameters AnyName xs ps × AllStrict ps
list-any none = (none, λ p m. absurd (Memᴰ.not-nil m))
list-any (more {bs} {t} {ps} f l) = let r = list-any l in (more (field-any f).0 r.0, all r.1)
  where
    all : AllStrict ps → AllStrict (record { bytes = bs; type = t } ∷ ps)
    all others p (Memᴰ.head e) = ap (λ (x : Parameter). strict_type x.type) e ∙ (field-any f).1
    all others p (Memᴰ.tail m) = others p m

list-class : {xs : List ℕ} {ps : List Parameter} → Parameters AnyName xs ps → AllStrict ps → Parameters ClassName xs ps
list-class none strict = none
list-class (more {bs} {t} f l) strict =
    more (field-class f (strict (record { bytes = bs; type = t }) (Memᴰ.head refl))) (list-class l (λ p m. strict p (Memᴰ.tail m)))

method-any : {s : List ℕ} {m : Signature} → MethodDescriptor ClassName s m → MethodDescriptor AnyName s m × AllStrict m.parameters × (strict_type m.result ≡ true)
method-any (method l r) =
    let list = list-any l in
    let result = return-any r in
    (method list.0 result.0, list.1, result.1)

method-class : {s : List ℕ} {m : Signature} → MethodDescriptor AnyName s m → AllStrict m.parameters → strict_type m.result ≡ true → MethodDescriptor ClassName s m
method-class (method l r) strict e = method (list-class l strict) (return-class r e)

-- THE SAME OF METHODS, WHERE ALL NAMES ARE STRICT
pub method-strict : {s : List ℕ} {m : Signature}
    → MethodDescriptor ClassName s m ↔ (MethodDescriptor AnyName s m × AllStrict m.parameters × (strict_type m.result ≡ true))
method-strict = (method-any, λ d. method-class d.0 d.1 d.2)
