-- A descriptor that is refused is refused with a number of 11 or more, and so never with 0.
use Rattle.std.specs.Prelude.{◌≡◌, refl, Bool, true, false, List, [], ◌∷◌, ℕ, zero, suc, ◌+◌, ◌-◌, ◌≤◌, eqb, leb, length, take, drop, get_or}
use Rattle.std.proofs.Common.{arith}
use Rattle.descriptor.specs.declared.Base.TheVariants.{Simple, Class}
use Rattle.descriptor.specs.Read.{Read, Found, Refused, pick_r, read_type, finish, read_whole, strict_name, strictly, read_strict}
use Rattle.methods.specs.Method.{Params, Listed, Stopped, Method, Whole, Broken, pick_p, pick_m, before, onward, read_params, returns, after_params, read_method, strict_params, strict_method, read_method_strict}
use Rattle.descriptor.specs.Laws.{Tells, read-tells, finish-tells}

-- ---- types

abbrev pub TypeCode : Read → Type 0
TypeCode (Found dims base next) = Unit {0}
TypeCode (Refused code at byte) = 11 ≤ code

tells-code : (s : List ℕ) (at dims : ℕ) (r : Read) → Tells s at dims r → TypeCode r
tells-code s at dims (Found d base next) h = tt
tells-code s at dims (Refused code o byte) h = h.least

end-code : (s : List ℕ) (at : ℕ) → TypeCode (finish s (read_type (drop at s) at true 0))
end-code s at =
    let r = read_type (drop at s) at true 0 in
    tells-code s at 0 (finish s r) (finish-tells s at 0 r (read-tells s at true))

strictly-code : (s : List ℕ) (r : Read) → TypeCode r → TypeCode (strictly s r)
unfolding strictly
strictly-code s (Found d (Simple k) next) h = tt
strictly-code s (Found d (Class at n) next) h = go (strict_name (take n (drop at s)))
  where
    go : (t : Bool) → TypeCode (pick_r t (Found d (Class at n) next) (Refused 24 (at - 1) 0))
    go true = tt
    go false = omega arith
strictly-code s (Refused code o byte) h = h

pub ordinary-type-code : (s : List ℕ) → TypeCode (read_whole s)
unfolding read_whole
ordinary-type-code s = end-code s 0

pub strict-type-code : (s : List ℕ) → TypeCode (read_strict s)
unfolding read_strict
strict-type-code s = strictly-code s (read_whole s) (ordinary-type-code s)

-- ---- methods

abbrev ListCode : Params → Type 0
ListCode (Listed offsets close) = Unit {0}
ListCode (Stopped code at byte) = 11 ≤ code

abbrev pub MethodCode : Method → Type 0
MethodCode (Whole offsets at result) = TypeCode result
MethodCode (Broken code at byte) = 11 ≤ code

either : (t : Bool) (a b : Params) → ListCode a → ListCode b → ListCode (pick_p t a b)
either true a b f g = f
either false a b f g = g

onward-code : (s : List ℕ) (at : ℕ) (rest : ℕ → Params) (r : Read) → TypeCode r → ((next : ℕ) → ListCode (rest next)) → ListCode (onward at rest r)
onward-code s at rest (Found d base next) h others = go (rest next) (others next)
  where
    go : (p : Params) → ListCode p → ListCode (before at p)
    go (Listed offsets close) c = tt
    go (Stopped code o byte) c = c
onward-code s at rest (Refused code o byte) h others = h

list-code : (turns : ℕ) (s : List ℕ) (at count : ℕ) → ListCode (read_params turns s at count)
unfolding read_params
list-code zero s at count = omega arith
list-code (suc turns) s at count =
    let r = read_type (drop at s) at false 0 in
    either (leb (length s) at) _ _ (omega arith)
    (either (eqb (get_or s at 0) 41) _ _ tt
    (either (leb 255 count) _ _ (omega arith)
    (onward-code s at (λ next. read_params turns s next (count + 1)) r (tells-code s at 0 r (read-tells s at false)) (λ next. list-code turns s next (count + 1)))))

after-code : (s : List ℕ) (p : Params) → ListCode p → MethodCode (after_params s p)
unfolding after_params returns
after-code s (Listed offsets close) h = go (finish s (read_type (drop (close + 1) s) (close + 1) true 0)) (end-code s (close + 1))
  where
    go : (r : Read) → TypeCode r → MethodCode (returns s offsets close r)
    go (Found d base next) c = tt
    go (Refused code o byte) c = c
after-code s (Stopped code o byte) h = h

pub ordinary-method-code : (s : List ℕ) → MethodCode (read_method s)
unfolding read_method
ordinary-method-code [] = omega arith
ordinary-method-code (b ∷ bs) = go (eqb b 40) _ (after-code (b ∷ bs) (read_params (suc (length bs)) (b ∷ bs) 1 0) (list-code (suc (length bs)) (b ∷ bs) 1 0))
  where
    go : (t : Bool) (m : Method) → MethodCode m → MethodCode (pick_m t m (Broken 16 0 0))
    go true m h = h
    go false m h = omega arith

names-code : (s offsets : List ℕ) (m : Method) → MethodCode m → MethodCode (strict_params s offsets m)
unfolding strict_params
names-code s [] m h = h
names-code s (at ∷ offsets) m h =
    let r = read_type (drop at s) at false 0 in
    go (strictly s r) refl (strictly-code s r (tells-code s at 0 r (read-tells s at false))) (names-code s offsets m h)
  where
    go : (r : Read) → strictly s (read_type (drop at s) at false 0) ≡ r → TypeCode r → MethodCode (strict_params s offsets m) → MethodCode (strict_params s (at ∷ offsets) m)
    go (Found d base next) e c others = rw e others
    go (Refused code o byte) e c others = rw e c

judged-code : (s : List ℕ) (m : Method) → MethodCode m → MethodCode (strict_method s m)
unfolding strict_method
judged-code s (Whole offsets at result) h = go (strictly s result) refl (strictly-code s result h)
  where
    go : (r : Read) → strictly s result ≡ r → TypeCode r → MethodCode (strict_method s (Whole offsets at result))
    go (Found d base next) e c = rw e (names-code s offsets (Whole offsets at (Found d base next)) tt)
    go (Refused code o byte) e c = rw e (names-code s offsets (Broken code o byte) c)
judged-code s (Broken code o byte) h = h

pub strict-method-code : (s : List ℕ) → MethodCode (read_method_strict s)
unfolding read_method_strict
strict-method-code s = judged-code s (read_method s) (ordinary-method-code s)
