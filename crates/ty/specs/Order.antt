-- The order of types is a total order: it says Equal of equal types alone, turns round when its arguments do, and Less is
-- transitive.
use Rattle.std.specs.Prelude.{◌≡◌, refl, List, [], ◌∷◌, ℕ, zero, suc, get_or}
use Rattle.std.proofs.Common.{sym, ap, ◌∙◌}
use Rattle.std.specs.declared.cmp.Ordering.TheVariants.{Less, Equal}
use Rattle.order.specs.Compare.{flip, compare_numbers, compare_lists}
use Rattle.order.specs.Laws.{then-equal, lists-same, lists-equal, lists-swap, lists-trans}
use Rattle.ty.specs.Types.{ArgType, Primitive, Object, Array, Unknown, Void, compare}

-- ---- types, compared as lists

-- a type as a list of numbers: the place of its case, then what it holds
code : ArgType → List ℕ
code (Primitive k) = 0 ∷ k ∷ []
code (Object c) = 1 ∷ c ∷ []
code (Array t) = 2 ∷ code t
code (Unknown cs) = 3 ∷ cs

-- and back
abbrev decode_as : ℕ → List ℕ → ArgType → ArgType
decode_as zero rest t = Primitive (get_or rest 0 0)
decode_as (suc zero) rest t = Object (get_or rest 0 0)
decode_as (suc (suc zero)) rest t = Array t
decode_as (suc (suc (suc n))) rest t = Unknown rest

decode : List ℕ → ArgType
decode [] = Primitive Void
decode (x ∷ rest) = decode_as x rest (decode rest)

decode-code : (t : ArgType) → decode (code t) ≡ t
unfolding code decode
decode-code (Primitive k) = refl
decode-code (Object c) = refl
decode-code (Array t) = ap Array (decode-code t)
decode-code (Unknown cs) = refl

compare-code : (t u : ArgType) → compare t u ≡ compare_lists (code t) (code u)
unfolding compare code compare_lists compare_numbers
compare-code (Primitive a) (Primitive b) = sym (then-equal (compare_numbers a b))
compare-code (Primitive a) (Object b) = refl
compare-code (Primitive a) (Array u) = refl
compare-code (Primitive a) (Unknown ys) = refl
compare-code (Object a) (Primitive b) = refl
compare-code (Object a) (Object b) = sym (then-equal (compare_numbers a b))
compare-code (Object a) (Array u) = refl
compare-code (Object a) (Unknown ys) = refl
compare-code (Array t) (Primitive b) = refl
compare-code (Array t) (Object b) = refl
compare-code (Array t) (Array u) = compare-code t u
compare-code (Array t) (Unknown ys) = refl
compare-code (Unknown xs) (Primitive b) = refl
compare-code (Unknown xs) (Object b) = refl
compare-code (Unknown xs) (Array u) = refl
compare-code (Unknown xs) (Unknown ys) = refl

pub compare-same : (t : ArgType) → compare t t ≡ Equal
compare-same t = compare-code t t ∙ lists-same (code t)

pub compare-equal : (t u : ArgType) → compare t u ≡ Equal → t ≡ u
compare-equal t u h =
    sym (decode-code t) ∙ ap decode (lists-equal (code t) (code u) (sym (compare-code t u) ∙ h)) ∙ decode-code u

pub compare-swap : (t u : ArgType) → compare u t ≡ flip (compare t u)
compare-swap t u = compare-code u t ∙ lists-swap (code t) (code u) ∙ ap flip (sym (compare-code t u))

pub compare-trans : (t u v : ArgType) → compare t u ≡ Less → compare u v ≡ Less → compare t v ≡ Less
compare-trans t u v p q =
    compare-code t v ∙ lists-trans (code t) (code u) (code v) (sym (compare-code t u) ∙ p) (sym (compare-code u v) ∙ q)
