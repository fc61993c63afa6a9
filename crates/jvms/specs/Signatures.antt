-- Reading a method's descriptor: it takes exactly the derived ones, for the signature that they derive.
use Rattle.std.specs.Prelude.{◌≡◌, refl, Bool, true, false, List, [], ◌∷◌, ◌++◌, ℕ, suc, ◌+◌, ◌-◌, ◌≤◌, eqb, length, drop}
use Rattle.std.proofs.Common.{sym, ap, ◌∙◌, subst, append-nil, arith, length-append, eqb-true}
use Rattle.std.proofs.Math.Option.{some}
use Rattle.descriptor.specs.declared.Base.{Base}
use Rattle.descriptor.specs.Read.{Read, Found, Refused, read_type, finish}
use Rattle.methods.specs.Method.{Params, Listed, Stopped, Method, Whole, Broken, pick_m, read_params, returns, after_params, read_method, strict_method}
use Rattle.jvms.specs.Jvms.{JavaType, dimensions, AnyName, ReturnDescriptor, Parameter, Parameters, Signature, MethodDescriptor, MethodDescriptor.method}
use Rattle.jvms.specs.Meaning.{type_at, type_read, method_read, Limits, placed, ends, answer}
use Rattle.jvms.specs.Derive.{strict_type, AllStrict}
use Rattle.jvms.specs.Ends.{stands-return, End, end-sound, strict-keeps, strict-drops}
use Rattle.jvms.specs.Listing.{step-on, ends-at, Listing, list-sound, list-stands, broken, strict-list-keeps, strict-list-left}

-- ---- the places

-- the return type after the ')'
pub result-at : (bs end : List ℕ) → drop (1 + length bs + 1) (40 ∷ bs ++ 41 ∷ end) ≡ end
result-at bs end =
    let s = 40 ∷ bs ++ 41 ∷ end in
    step-on s (41 ∷ []) end (1 + length bs) (step-on s bs (41 ∷ end) 1 refl)

-- the bytes have a place there, or end there
pub result-in : (bs end : List ℕ) → 1 + length bs + 1 ≤ length (40 ∷ bs ++ 41 ∷ end)
result-in bs end = simp length-append (omega arith)

-- ---- what is read of a derived method

-- the place of the return type stands for it
result-stands : {bs end : List ℕ} {ps : List Parameter} {t : JavaType} → Parameters AnyName bs ps → ReturnDescriptor AnyName end t
    → type_at (40 ∷ bs ++ 41 ∷ end) (dimensions t) (placed (ends 1 ps + 1) t) ≡ t
result-stands {bs} {end} {ps} l r =
    stands-return r (40 ∷ bs ++ 41 ∷ end) [] (ends 1 ps + 1) (rw (ends-at l 1) (result-at bs end ∙ sym (append-nil end)))

-- WHAT IS READ OF A DERIVED METHOD STANDS FOR ITS SIGNATURE
pub method-stands : {s : List ℕ} {m : Signature} → MethodDescriptor AnyName s m → Limits m → method_read s (answer s m) ≡ some m
unfolding answer method_read type_read
method-stands (method {bs} {end} {ps} {t} l r) limits =
    let s = 40 ∷ bs ++ 41 ∷ end in
    let back : ends 1 ps + 1 - 1 ≡ ends 1 ps = omega arith in
    rw (back, list-stands l s (41 ∷ end) 1 refl limits.each, result-stands l r)

-- ---- what is read was derived

-- s derives a signature within the limits
pub record Derived (s : List ℕ) : Type 0 where
  pub signature : Signature
  pub derived : MethodDescriptor AnyName s signature
  pub limits : Limits signature

-- a list of parameters and a return type after it
derived-from : (bs : List ℕ) (offsets : List ℕ) (close dims : ℕ) (b : Base) (next : ℕ) → Listing (40 ∷ bs) 1 0 offsets close → End (40 ∷ bs) (close + 1) dims b next → Derived (40 ∷ bs)
derived-from bs offsets close dims b next l r = record {
  signature = record { parameters = l.params; result = r.type };
  derived = subst (λ (x : List ℕ). MethodDescriptor AnyName x (record { parameters = l.params; result = r.type })) (sym all)
      (method l.derived (subst (λ (x : List ℕ). ReturnDescriptor AnyName x r.type) behind r.derived));
  limits = record { parameters = omega (arith, l.room); each = l.low; result = r.limit };
}
  where
    all : 40 ∷ bs ≡ 40 ∷ l.bytes ++ 41 ∷ l.rest
    all = ap (λ (x : List ℕ). 40 ∷ x) l.whole

    behind : drop (close + 1) (40 ∷ bs) ≡ l.rest
    behind =
        ap (λ (n : ℕ). drop (n + 1) (40 ∷ bs)) (l.ended ∙ ends-at l.derived 1) ∙ ap (drop (1 + length l.bytes + 1)) all ∙ result-at l.bytes l.rest

-- the return type stands inside the bytes
close-in : (bs : List ℕ) (offsets : List ℕ) (close : ℕ) → Listing (40 ∷ bs) 1 0 offsets close → close + 1 ≤ length (40 ∷ bs)
close-in bs offsets close l =
    let size : length bs ≡ length l.bytes + suc (length l.rest) = ap length l.whole ∙ length-append l.bytes (41 ∷ l.rest) in
    let here : close ≡ 1 + length l.bytes = l.ended ∙ ends-at l.derived 1 in
    omega arith

-- what is read after the '('
sound-after : (bs : List ℕ) (p : Params) → read_params (suc (length bs)) (40 ∷ bs) 1 0 ≡ p → (offsets : List ℕ) (at : ℕ) (r : Read)
    → after_params (40 ∷ bs) p ≡ Whole offsets at r → Derived (40 ∷ bs)
unfolding after_params returns
sound-after bs (Listed os close) e offsets at r q =
    let l = list-sound (suc (length bs)) (40 ∷ bs) 1 0 os close (omega arith) e in
    ended l (finish (40 ∷ bs) (read_type (drop (close + 1) (40 ∷ bs)) (close + 1) true 0)) refl q
  where
    ended : Listing (40 ∷ bs) 1 0 os close → (x : Read) → finish (40 ∷ bs) (read_type (drop (close + 1) (40 ∷ bs)) (close + 1) true 0) ≡ x
        → returns (40 ∷ bs) os close x ≡ Whole offsets at r → Derived (40 ∷ bs)
    ended l (Found dims b next) read f = derived-from bs os close dims b next l (end-sound (40 ∷ bs) (close + 1) dims b next (close-in bs os close l) read)
    ended l (Refused code o byte) read f = absurd (broken f)
sound-after bs (Stopped code o byte) e offsets at r q = absurd (broken q)

-- A METHOD THAT IS READ WAS DERIVED
pub method-sound : (s : List ℕ) (offsets : List ℕ) (at : ℕ) (r : Read) → read_method s ≡ Whole offsets at r → Derived s
unfolding read_method
method-sound [] offsets at r e = absurd (broken e)
method-sound (b ∷ bs) offsets at r e = go (eqb b 40) refl e
  where
    after : ℕ → Method
    after x = after_params (x ∷ bs) (read_params (suc (length bs)) (x ∷ bs) 1 0)

    go : (t : Bool) → eqb b 40 ≡ t → pick_m t (after b) (Broken 16 0 0) ≡ Whole offsets at r → Derived (b ∷ bs)
    go true q f =
        let opened = sound-after bs (read_params (suc (length bs)) (40 ∷ bs) 1 0) refl offsets at r in
        subst (λ (x : ℕ). after x ≡ Whole offsets at r → Derived (x ∷ bs)) (sym (eqb-true b 40 q)) opened f
    go false q f = absurd (broken f)

-- ---- strict reading

-- A METHOD WITH STRICT NAMES STAYS
pub method-keeps : {s : List ℕ} {m : Signature} → MethodDescriptor AnyName s m → Limits m → AllStrict m.parameters → strict_type m.result ≡ true
    → strict_method s (answer s m) ≡ answer s m
unfolding answer strict_method
method-keeps (method {bs} {end} {ps} {t} l r) limits strict e =
    let s = 40 ∷ bs ++ 41 ∷ end in
    let last = strict-keeps s (dimensions t) (placed (ends 1 ps + 1) t) (length s) (ap strict_type (result-stands l r) ∙ e) in
    rw last (strict-list-keeps l s (41 ∷ end) 1 (answer s (record { parameters = ps; result = t })) refl limits.each strict)

-- IF A METHOD IS LEFT, ITS NAMES ARE STRICT
pub method-left : {s : List ℕ} {m : Signature} → MethodDescriptor AnyName s m → Limits m → (offsets : List ℕ) (at : ℕ) (x : Read)
    → strict_method s (answer s m) ≡ Whole offsets at x → AllStrict m.parameters × (strict_type m.result ≡ true)
unfolding answer strict_method
method-left (method {bs} {end} {ps} {t} l r) limits offsets at x e = by (strict_type t) refl
  where
    s : List ℕ
    s = 40 ∷ bs ++ 41 ∷ end

    place : Base
    place = placed (ends 1 ps + 1) t

    same : strict_type (type_at s (dimensions t) place) ≡ strict_type t
    same = ap strict_type (result-stands l r)

    by : (test : Bool) → strict_type t ≡ test → AllStrict ps × (strict_type t ≡ true)
    by true q =
        let left = rw (strict-keeps s (dimensions t) place (length s) (same ∙ q)) at e in
        ((strict-list-left l s (41 ∷ end) 1 (answer s (record { parameters = ps; result = t })) refl limits.each offsets at x left).0, q)
    by false q =
        let drops = strict-drops s (dimensions t) place (length s) (same ∙ q) in
        absurd (broken (strict-list-left l s (41 ∷ end) 1 (Broken 24 drops.0 0) refl limits.each offsets at x (rw drops.1 at e)).1)
