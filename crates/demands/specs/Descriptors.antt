-- Descriptors against JVMS 4.3, in what a caller sees: the fields of the answers, and the slice of offsets.
-- Nothing is claimed of the rule of 4.3.3 that a long or a double counts for two of the 255 parameters: reading does not look at it.
use Rattle.std.specs.Prelude.{◌≡◌, Bool, true, false, List, [], ◌∷◌, ◌++◌, ◌↔◌, ℕ, zero, suc, ◌+◌, ◌≤◌, ◌<◌, eqb, ltb, length, take, drop}
use Rattle.std.proofs.Math.Path.{refl, ap}
use Rattle.std.proofs.Common.{sym, subst, ◌∙◌, arith, le-ltb, lt-ltb, ne_eqb}
use Rattle.std.proofs.Math.Option.{some}
use Rattle.std.proofs.Math.Seq.{take-append_seam}
use Rattle.descriptor.specs.declared.Base.{Base}
use Rattle.descriptor.specs.declared.Base.TheVariants.{Simple, Class}
use Rattle.descriptor.specs.Read.{Read, Found, Refused, pick_r, read_whole, read_strict}
use Rattle.methods.specs.Method.{Method, Whole, Broken, pick_m, read_method, strict_method, read_method_strict}
use Rattle.methods.specs.Answers.{found_method, refused_method, method_answer, params_after, method_of}
use Rattle.jvms.specs.Jvms.{JavaType, dimensions, AnyName, ClassName, ReturnDescriptor, Parameter, Signature, MethodDescriptor}
use Rattle.jvms.specs.Meaning.{type_at, type_read, Limits, placed, starts, ends, answer}
use Rattle.jvms.specs.Derive.{method-strict}
use Rattle.jvms.specs.Signatures.{method-sound, method-left}
use Rattle.jvms.specs.JvmsTheorem.{ordinary-type, strict-type, ordinary-type-place, strict-type-place, ordinary-method-place, strict-method-place}
use Rattle.bracepuffin.specs.declared.BpType.{BpType}
use Rattle.bracepuffin.specs.declared.BpMethod.{BpMethod}
use Rattle.bracepuffin.specs.Boundary.{type_found, type_answer, bp_method_of, bp_method, method_result}
use Rattle.demands.specs.Refusals.{TypeCode, MethodCode, ordinary-type-code, strict-type-code, ordinary-method-code, strict-method-code}

-- ---- 4.3.2, with the ReturnDescriptor of 4.3.3: a type or void

-- the answer r to the bytes s is accepted exactly if the grammar derives a type from them, in at most 255 dimensions; and then it is that type
pub record ReadsType (Name : List ℕ → Type 0) (s : List ℕ) (r : BpType) : Type 0 where
  pub accepted : (r.refusal ≡ 0) ↔ ((t : JavaType) × ReturnDescriptor Name s t × (dimensions t ≤ 255))
  pub fields : (t : JavaType) → ReturnDescriptor Name s t → dimensions t ≤ 255 → r ≡ type_found (dimensions t) (placed 0 t)

pub type-accepted : (d : ℕ) (b : Base) → (type_found d b).refusal ≡ 0
type-accepted d (Simple k) = refl
type-accepted d (Class at n) = refl

module _ (Name : List ℕ → Type 0) (s : List ℕ) (x : Read) (code : TypeCode x)
    (exact : (t : JavaType) → (type_read s x ≡ some t) ↔ (ReturnDescriptor Name s t × (dimensions t ≤ 255)))
    (place : (t : JavaType) → ReturnDescriptor Name s t → dimensions t ≤ 255 → x ≡ Found (dimensions t) (placed 0 t) (length s)) where
  reads-type : ReadsType Name s (type_answer x)
  unfolding type_read
  reads-type = record {
    accepted = (λ e. found x refl code e, λ h. ap (λ (r : Read). (type_answer r).refusal) (place h.0 h.1 h.2) ∙ type-accepted (dimensions h.0) (placed 0 h.0));
    fields = λ t r h. ap type_answer (place t r h);
  }
    where
      found : (r : Read) → x ≡ r → TypeCode r → (type_answer r).refusal ≡ 0 → (t : JavaType) × ReturnDescriptor Name s t × (dimensions t ≤ 255)
      found (Found d b next) e c z = let q = (exact (type_at s d b)).0 (ap (type_read s) e) in (type_at s d b, q.0, q.1)
      found (Refused k o byte) e c z = absurd (omega arith)

-- ORDINARY READING OF A TYPE ACCEPTS EXACTLY WHAT THE GRAMMAR DERIVES WITH ANY NAMES, IN AT MOST 255 DIMENSIONS
pub ordinary-type-accepted : (s : List ℕ) → ReadsType AnyName s (type_answer (read_whole s))
ordinary-type-accepted s = reads-type AnyName s (read_whole s) (ordinary-type-code s) (ordinary-type s) (λ t r h. ordinary-type-place r h)

-- STRICT READING OF A TYPE ACCEPTS EXACTLY WHAT THE GRAMMAR DERIVES, IN AT MOST 255 DIMENSIONS
pub strict-type-accepted : (s : List ℕ) → ReadsType ClassName s (type_answer (read_strict s))
strict-type-accepted s = reads-type ClassName s (read_strict s) (strict-type-code s) (strict-type s) (λ t r h. strict-type-place r h)

-- ---- 4.3.3: a method

-- the fields for a signature: how many parameters, where the return type begins, and that type
abbrev pub method_found : Signature → BpMethod
method_found m =
    let at = ends 1 m.parameters + 1 in
    bp_method (found_method (length m.parameters) at (dimensions m.result) (placed at m.result))

-- the same of a method, within the limits: then `params` ends as the offsets of the parameters and what stood after them, else as it came
pub record ReadsMethod (Name : List ℕ → Type 0) (s params params' : List ℕ) (r : BpMethod) : Type 0 where
  pub accepted : (r.refusal ≡ 0) ↔ ((m : Signature) × MethodDescriptor Name s m × Limits m)
  pub fields : (m : Signature) → MethodDescriptor Name s m → Limits m → r ≡ method_found m
  pub offsets : (m : Signature) → MethodDescriptor Name s m → Limits m → params' ≡ starts 1 m.parameters ++ drop (length m.parameters) params
  pub otherwise : (r.refusal ≡ 0 → ⊥) → params' ≡ params

starts-length : (at : ℕ) (ps : List Parameter) → length (starts at ps) ≡ length ps
unfolding starts
starts-length at [] = refl
starts-length at (p ∷ ps) = ap suc (starts-length (at + length p.bytes) ps)

method-accepted : (m : Signature) → (method_found m).refusal ≡ 0
method-accepted m = go (placed (ends 1 m.parameters + 1) m.result)
  where
    go : (b : Base) → (bp_method_of (found_method (length m.parameters) (ends 1 m.parameters + 1) (dimensions m.result) b) b).refusal ≡ 0
    go (Simple k) = refl
    go (Class at n) = refl

answer-fields : (s : List ℕ) (m : Signature) → method_result (answer s m) ≡ method_found m
unfolding answer method_answer
answer-fields s m =
    ap (λ (n : ℕ). bp_method (found_method n (ends 1 m.parameters + 1) (dimensions m.result) (placed (ends 1 m.parameters + 1) m.result))) (starts-length 1 m.parameters)

answer-offsets : (s params : List ℕ) (m : Signature) → params_after params (answer s m) ≡ starts 1 m.parameters ++ drop (length m.parameters) params
unfolding answer params_after
answer-offsets s params m = ap (λ (n : ℕ). starts 1 m.parameters ++ drop n params) (starts-length 1 m.parameters)

broken-refused : (k o byte : ℕ) → (method_result (Broken k o byte)).refusal ≡ k
unfolding method_answer
broken-refused k o byte = refl

broken-params : (params : List ℕ) (k o byte : ℕ) → params_after params (Broken k o byte) ≡ params
unfolding params_after
broken-params params k o byte = refl

module _ (Name : List ℕ → Type 0) (s params : List ℕ) (x : Method) (code : MethodCode x)
    (sound : (offsets : List ℕ) (at : ℕ) (r : Read) → x ≡ Whole offsets at r → (m : Signature) × MethodDescriptor Name s m × Limits m)
    (place : (m : Signature) → MethodDescriptor Name s m → Limits m → x ≡ answer s m) where
  reads-method : ReadsMethod Name s params (params_after params x) (method_result x)
  reads-method = record {
    accepted = (λ e. found x refl code e, none-refused);
    fields = λ m d l. ap method_result (place m d l) ∙ answer-fields s m;
    offsets = λ m d l. ap (params_after params) (place m d l) ∙ answer-offsets s params m;
    otherwise = untouched x refl;
  }
    where
      none-refused : (m : Signature) × MethodDescriptor Name s m × Limits m → (method_result x).refusal ≡ 0
      none-refused h = ap (λ (r : BpMethod). r.refusal) (ap method_result (place h.0 h.1 h.2) ∙ answer-fields s h.0) ∙ method-accepted h.0

      found : (y : Method) → x ≡ y → MethodCode y → (method_result y).refusal ≡ 0 → (m : Signature) × MethodDescriptor Name s m × Limits m
      found (Whole offsets at r) e c z = sound offsets at r e
      found (Broken k o byte) e c z = absurd (let q = broken-refused k o byte in let f : ⊥ = omega arith in f)

      untouched : (y : Method) → x ≡ y → ((method_result y).refusal ≡ 0 → ⊥) → params_after params y ≡ params
      untouched (Whole offsets at r) e refused = absurd (refused (ap (λ (z : Method). (method_result z).refusal) (sym e) ∙ none-refused (sound offsets at r e)))
      untouched (Broken k o byte) e refused = broken-params params k o byte

ordinary-sound : (s : List ℕ) (offsets : List ℕ) (at : ℕ) (r : Read) → read_method s ≡ Whole offsets at r → (m : Signature) × MethodDescriptor AnyName s m × Limits m
ordinary-sound s offsets at r e = let d = method-sound s offsets at r e in (d.signature, d.derived, d.limits)

strict-sound : (s : List ℕ) (offsets : List ℕ) (at : ℕ) (r : Read) → read_method_strict s ≡ Whole offsets at r → (m : Signature) × MethodDescriptor ClassName s m × Limits m
unfolding read_method_strict strict_method
strict-sound s offsets at r e = go (read_method s) refl
  where
    go : (y : Method) → read_method s ≡ y → (m : Signature) × MethodDescriptor ClassName s m × Limits m
    go (Whole os o q) f =
        let d = method-sound s os o q f in
        let left = method-left d.derived d.limits offsets at r (rw (ordinary-method-place d.derived d.limits) at e) in
        (d.signature, method-strict.1 (d.derived, left.0, left.1), d.limits)
    go (Broken k o byte) f = absurd (let b : Broken k o byte ≡ Whole offsets at r = rw f at e in let z : ◌≡◌ {A = ℕ} 0 1 = cc in omega arith)

-- ORDINARY READING OF A METHOD ACCEPTS EXACTLY WHAT THE GRAMMAR DERIVES WITH ANY NAMES, WITHIN THE LIMITS, GIVEN ROOM FOR 255 OFFSETS
pub ordinary-method-accepted : (s params : List ℕ) → 255 ≤ length params
    → ReadsMethod AnyName s params (params_after params (method_of false s (length params))) (method_result (method_of false s (length params)))
unfolding method_of
ordinary-method-accepted s params room =
    rw (le-ltb (length params) 255 room) (reads-method AnyName s params (read_method s) (ordinary-method-code s) (ordinary-sound s) (λ m d l. ordinary-method-place d l))

-- STRICT READING OF A METHOD ACCEPTS EXACTLY WHAT THE GRAMMAR DERIVES, WITHIN THE LIMITS, GIVEN ROOM FOR 255 OFFSETS
pub strict-method-accepted : (s params : List ℕ) → 255 ≤ length params
    → ReadsMethod ClassName s params (params_after params (method_of true s (length params))) (method_result (method_of true s (length params)))
unfolding method_of
strict-method-accepted s params room =
    rw (le-ltb (length params) 255 room) (reads-method ClassName s params (read_method_strict s) (strict-method-code s) (strict-sound s) (λ m d l. strict-method-place d l))

-- WITH LESS ROOM BOTH REFUSE 22, AND NOTHING IS WRITTEN
pub method-short : (strict : Bool) (s params : List ℕ) → length params < 255
    → (method_result (method_of strict s (length params)) ≡ bp_method (refused_method 22 0 0)) × (params_after params (method_of strict s (length params)) ≡ params)
unfolding method_of method_answer params_after
method-short strict s params h = rw (lt-ltb (length params) 255 h) (refl, refl)

-- ---- nothing of what was read is lost in the fields

-- by the tag
abbrev pub base_back : ℕ → ℕ → ℕ → ℕ → Base
base_back zero category at len = Simple category
base_back (suc tag) category at len = Class at len

-- what was read of so many bytes, from the fields
abbrev pub type_back : ℕ → BpType → Read
type_back size r =
    pick_r (eqb r.refusal 0) (Found r.dims (base_back r.tag r.category r.name_at r.name_len) size) (Refused r.refusal r.offset r.byte)

abbrev pub method_back : ℕ → List ℕ → BpMethod → Method
method_back size params r =
    pick_m (eqb r.refusal 0)
    (Whole (take r.count params) r.return_at (Found r.dims (base_back r.tag r.category r.name_at r.name_len) size))
    (Broken r.refusal r.offset r.byte)

abbrev TypeTold : List ℕ → Read → Type 0
TypeTold s x = type_back (length s) (type_answer x) ≡ x

found-told : (s : List ℕ) (d : ℕ) (b : Base) → TypeTold s (Found d b (length s))
found-told s d (Simple k) = refl
found-told s d (Class at n) = refl

type-told : (Name : List ℕ → Type 0) (s : List ℕ) (x : Read) → TypeCode x → ReadsType Name s (type_answer x)
    → ((t : JavaType) → ReturnDescriptor Name s t → dimensions t ≤ 255 → x ≡ Found (dimensions t) (placed 0 t) (length s)) → TypeTold s x
type-told Name s (Found d b next) c reads place =
    let h = reads.accepted.0 (type-accepted d b) in
    subst (TypeTold s) (sym (place h.0 h.1 h.2)) (found-told s (dimensions h.0) (placed 0 h.0))
type-told Name s (Refused k o byte) c reads place = rw (ne_eqb k 0 (λ e. omega arith))

-- THE FIELDS OF A TYPE TELL ALL THAT WAS READ
pub ordinary-type-told : (s : List ℕ) → type_back (length s) (type_answer (read_whole s)) ≡ read_whole s
ordinary-type-told s = type-told AnyName s (read_whole s) (ordinary-type-code s) (ordinary-type-accepted s) (λ t r h. ordinary-type-place r h)

pub strict-type-told : (s : List ℕ) → type_back (length s) (type_answer (read_strict s)) ≡ read_strict s
strict-type-told s = type-told ClassName s (read_strict s) (strict-type-code s) (strict-type-accepted s) (λ t r h. strict-type-place r h)

abbrev MethodTold : List ℕ → List ℕ → Method → Type 0
MethodTold s params x = method_back (length s) (params_after params x) (method_result x) ≡ x

whole-told : (s params offsets : List ℕ) (at d : ℕ) (b : Base) → MethodTold s params (Whole offsets at (Found d b (length s)))
unfolding method_answer params_after
whole-told s params offsets at d (Simple k) = rw (take-append_seam offsets (drop (length offsets) params))
whole-told s params offsets at d (Class p n) = rw (take-append_seam offsets (drop (length offsets) params))

answer-told : (s params : List ℕ) (m : Signature) → MethodTold s params (answer s m)
unfolding answer
answer-told s params m =
    let at = ends 1 m.parameters + 1 in
    whole-told s params (starts 1 m.parameters) at (dimensions m.result) (placed at m.result)

broken-told : (s params : List ℕ) (k o byte : ℕ) → 11 ≤ k → MethodTold s params (Broken k o byte)
unfolding method_answer
broken-told s params k o byte h = rw (ne_eqb k 0 (λ e. omega arith))

told : (Name : List ℕ → Type 0) (s params : List ℕ) (x : Method) → MethodCode x
    → ((offsets : List ℕ) (at : ℕ) (r : Read) → x ≡ Whole offsets at r → (m : Signature) × MethodDescriptor Name s m × Limits m)
    → ((m : Signature) → MethodDescriptor Name s m → Limits m → x ≡ answer s m) → MethodTold s params x
told Name s params (Whole offsets at r) c sound place =
    let h = sound offsets at r refl in
    subst (MethodTold s params) (sym (place h.0 h.1 h.2)) (answer-told s params h.0)
told Name s params (Broken k o byte) c sound place = broken-told s params k o byte c

-- AND SO DO THOSE OF A METHOD, WITH THE OFFSETS
pub method-told : (strict : Bool) (s params : List ℕ)
    → method_back (length s) (params_after params (method_of strict s (length params))) (method_result (method_of strict s (length params))) ≡ method_of strict s (length params)
unfolding method_of
method-told strict s params = room (ltb (length params) 255) strict
  where
    room : (short strict : Bool) → MethodTold s params (pick_m short (Broken 22 0 0) (pick_m strict (read_method_strict s) (read_method s)))
    room true strict = broken-told s params 22 0 0 (omega arith)
    room false true = told ClassName s params (read_method_strict s) (strict-method-code s) (strict-sound s) (λ m d l. strict-method-place d l)
    room false false = told AnyName s params (read_method s) (ordinary-method-code s) (ordinary-sound s) (λ m d l. ordinary-method-place d l)
