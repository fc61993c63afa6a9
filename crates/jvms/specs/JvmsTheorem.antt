-- What is read is what the grammar of JVMS 4.3 derives: the same bytes for the same types, in at most 255 dimensions and 255 parameters.
-- Nothing is claimed of the rule of 4.3.3 that a long or a double counts for two of the 255 parameters and `this` for one: reading does not look at it.
use Rattle.std.specs.Prelude.{◌≡◌, refl, List, [], ◌∷◌, ◌++◌, ◌↔◌, ℕ, suc, ◌+◌, ◌≤◌, ◌<◌, length}
use Rattle.std.proofs.Common.{sym, ap, ◌∙◌, subst, append-nil, arith, length-append}
use mathlib.Core.List.Memᴰ
use Rattle.std.proofs.Math.Option.{some}
use Rattle.descriptor.specs.Read.{Found, read_whole, read_strict}
use Rattle.methods.specs.Method.{Method, Whole, Broken, returns, after_params, read_method, strict_method, read_method_strict}
use Rattle.jvms.specs.Jvms.{JavaType, dimensions, AnyName, ClassName, ReturnDescriptor, Signature, MethodDescriptor, MethodDescriptor.method}
use Rattle.jvms.specs.Names.{class-name}
use Rattle.jvms.specs.Meaning.{type_read, method_read, Limits, placed, ends, answer}
use Rattle.jvms.specs.Derive.{Ended, one-return, one-method, strict_type, return-strict, method-strict}
use Rattle.jvms.specs.Ends.{stands-return, end-found, end-reads, nothing, strict-keeps, strict-read}
use Rattle.jvms.specs.Listing.{ends-at, few, list-found}
use Rattle.jvms.specs.Signatures.{result-at, result-in, method-stands, Derived, method-sound, method-keeps, method-left}

-- ---- 4.3.2, with the ReturnDescriptor of 4.3.3: a type or void

-- ORDINARY READING FINDS A TYPE EXACTLY WHERE THE GRAMMAR DERIVES IT, WITH ANY NAMES, IN AT MOST 255 DIMENSIONS
pub ordinary-type : (s : List ℕ) (t : JavaType) → (type_read s (read_whole s) ≡ some t) ↔ (ReturnDescriptor AnyName s t × (dimensions t ≤ 255))
unfolding read_whole
ordinary-type s t = end-reads s 0 t (omega arith)

-- STRICT READING FINDS A TYPE EXACTLY WHERE THE GRAMMAR DERIVES IT, IN AT MOST 255 DIMENSIONS
pub strict-type : (s : List ℕ) (t : JavaType) → (type_read s (read_strict s) ≡ some t) ↔ (ReturnDescriptor ClassName s t × (dimensions t ≤ 255))
unfolding read_strict
strict-type s t = (found, derived)
  where
    found : type_read s (read_strict s) ≡ some t → ReturnDescriptor ClassName s t × (dimensions t ≤ 255)
    found e =
        let r = (strict-read s (read_whole s) t).0 e in
        let d = (ordinary-type s t).0 r.0 in
        (return-strict.1 (d.0, r.1), d.1)

    derived : ReturnDescriptor ClassName s t × (dimensions t ≤ 255) → type_read s (read_strict s) ≡ some t
    derived d =
        let r = return-strict.0 d.0 in
        (strict-read s (read_whole s) t).1 ((ordinary-type s t).1 (r.0, d.1), r.1)

-- BOTH HAND BACK ITS DIMENSIONS, THE PLACE OF ITS NAME, AND THE END OF THE BYTES
pub ordinary-type-place : {s : List ℕ} {t : JavaType} → ReturnDescriptor AnyName s t → dimensions t ≤ 255 → read_whole s ≡ Found (dimensions t) (placed 0 t) (length s)
unfolding read_whole
ordinary-type-place {s} r h = end-found r s 0 refl (omega arith) h

pub strict-type-place : {s : List ℕ} {t : JavaType} → ReturnDescriptor ClassName s t → dimensions t ≤ 255 → read_strict s ≡ Found (dimensions t) (placed 0 t) (length s)
unfolding read_strict
strict-type-place {s} {t} r h =
    let a = return-strict.0 r in
    let stands = stands-return a.0 s [] 0 (sym (append-nil s)) in
    rw (ordinary-type-place a.0 h) (strict-keeps s (dimensions t) (placed 0 t) (length s) (ap strict_type stands ∙ a.1))

-- ---- 4.3.3: a method

-- READING HANDS BACK WHERE THE PARAMETERS' FIRST BYTES STAND, AND THE RETURN TYPE
pub ordinary-method-place : {s : List ℕ} {m : Signature} → MethodDescriptor AnyName s m → Limits m → read_method s ≡ answer s m
unfolding answer read_method after_params returns
ordinary-method-place (method {bs} {end} {ps} {t} l r) limits =
    let s = 40 ∷ bs ++ 41 ∷ end in
    let turns : length ps < suc (length (bs ++ 41 ∷ end)) = rw length-append (omega (arith, few l)) in
    let list = list-found l (suc (length (bs ++ 41 ∷ end))) s end 1 0 refl turns (omega (arith, limits.parameters)) limits.each in
    let close : ends 1 ps ≡ 1 + length bs = ends-at l 1 in
    rw (list, close, end-found r s (1 + length bs + 1) (result-at bs end) (result-in bs end) limits.result)

pub strict-method-place : {s : List ℕ} {m : Signature} → MethodDescriptor ClassName s m → Limits m → read_method_strict s ≡ answer s m
unfolding read_method_strict
strict-method-place d limits =
    let a = method-strict.0 d in
    rw (ordinary-method-place a.0 limits) (method-keeps a.0 limits a.1 a.2)

-- ORDINARY READING FINDS A SIGNATURE EXACTLY WHERE THE GRAMMAR DERIVES IT, WITH ANY NAMES, IN AT MOST 255 PARAMETERS AND 255 DIMENSIONS EACH
pub ordinary-method : (s : List ℕ) (m : Signature) → (method_read s (read_method s) ≡ some m) ↔ (MethodDescriptor AnyName s m × Limits m)
unfolding method_read
ordinary-method s m = (λ e. found (read_method s) refl e, λ d. ap (method_read s) (ordinary-method-place d.0 d.1) ∙ method-stands d.0 d.1)
  where
    found : (x : Method) → read_method s ≡ x → method_read s (read_method s) ≡ some m → MethodDescriptor AnyName s m × Limits m
    found (Whole offsets at r) q e =
        let d = method-sound s offsets at r q in
        let seen = ap (method_read s) (ordinary-method-place d.derived d.limits) ∙ method-stands d.derived d.limits in
        let same : d.signature ≡ m = let f : some d.signature ≡ some m = sym seen ∙ e in cc in
        (subst (MethodDescriptor AnyName s) same d.derived, subst Limits same d.limits)
    found (Broken code o byte) q e = absurd (nothing (rw q at e))

-- STRICT READING FINDS A SIGNATURE EXACTLY WHERE THE GRAMMAR DERIVES IT, IN AT MOST 255 PARAMETERS AND 255 DIMENSIONS EACH
pub strict-method : (s : List ℕ) (m : Signature) → (method_read s (read_method_strict s) ≡ some m) ↔ (MethodDescriptor ClassName s m × Limits m)
unfolding method_read read_method_strict strict_method
strict-method s m = (λ e. found (read_method s) refl e, derived)
  where
    derived : MethodDescriptor ClassName s m × Limits m → method_read s (read_method_strict s) ≡ some m
    derived d = ap (method_read s) (strict-method-place d.0 d.1) ∙ method-stands (method-strict.0 d.0).0 d.1

    -- what strict reading leaves of a derived method
    left : (d : Derived s) (y : Method) → strict_method s (answer s d.signature) ≡ y → method_read s y ≡ some m → MethodDescriptor ClassName s m × Limits m
    left d (Whole offsets at r) q e =
        let strict = method-left d.derived d.limits offsets at r q in
        let stays = method-keeps d.derived d.limits strict.0 strict.1 in
        let seen = method-stands d.derived d.limits in
        let same : d.signature ≡ m = let f : some d.signature ≡ some m = sym seen ∙ ap (method_read s) (sym stays ∙ q) ∙ e in cc in
        (subst (MethodDescriptor ClassName s) same (method-strict.1 (d.derived, strict.0, strict.1)), subst Limits same d.limits)
    left d (Broken code o byte) q e = absurd (nothing e)

    found : (x : Method) → read_method s ≡ x → method_read s (read_method_strict s) ≡ some m → MethodDescriptor ClassName s m × Limits m
    found (Whole offsets at r) q e =
        let d = method-sound s offsets at r q in
        left d (strict_method s (answer s d.signature)) refl (rw (ordinary-method-place d.derived d.limits) at e)
    found (Broken code o byte) q e = absurd (nothing (rw q at e))

-- ---- derivations are unique

-- THE SAME BYTES DERIVE ONE TYPE ONLY, WHERE NO NAME HAS A ';'
pub one-type : {Name : List ℕ → Type 0} → Ended Name → {s : List ℕ} {t u : JavaType} → ReturnDescriptor Name s t → ReturnDescriptor Name s u → t ≡ u
one-type ended l r = one-return ended l r refl

-- THE SAME BYTES DERIVE ONE SIGNATURE ONLY
pub one-signature : {Name : List ℕ → Type 0} → Ended Name → {s : List ℕ} {m n : Signature} → MethodDescriptor Name s m → MethodDescriptor Name s n → m ≡ n
one-signature ended l r = one-method ended l r refl

-- NEITHER KIND OF NAMES HAS ONE
pub any-ended : Ended AnyName
any-ended name a = a.without 59 (Memᴰ.head refl)

pub class-ended : Ended ClassName
class-ended name c = any-ended name ((class-name name).0 c).0
