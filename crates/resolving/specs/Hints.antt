-- THE ONE HINT OF THE DOMAIN: the hints are a set; there is exactly one if there is some and none differs from it. From the last observed
-- type to the first, as the code goes.
use Rattle.std.specs.Prelude.{◌≡◌, refl, Bool, true, false, not, eqb, length, get_or, Some, None}
use Rattle.std.proofs.Common.{sym, ◌∙◌, drop_of_length-le, drop-cons, eqb-true, eq-eqb, ne_eqb}
use Rattle.std.proofs.Math.Path.{ap}
use mathlib.Core.List.{List, [], ◌∷◌, map}
use Rattle.std.proofs.Math.Option.{Option, some, none}
use Prim.Native.Nat.{ℕ, zero, suc, ◌-◌, ◌≤◌, ◌<◌}
use native.Mathlib.Omega.{arith}
use Rattle.std.proofs.lemmas.Bool.{eqb-false}
use Rattle.std.specs.declared.cmp.Ordering.{Ordering}
use Rattle.std.specs.declared.cmp.Ordering.TheVariants.{Less, Equal, Greater}
use Rattle.ty.specs.declared.TypeWord.{TypeWord}
use Rattle.ty.specs.Answers.{MaybeType}
use Rattle.ty.specs.Types.{ArgType, compare, concrete_hint}
use Rattle.ty.specs.Words.{type_of, word_of}
use Rattle.ty.specs.Order.{compare-same, compare-equal}
use Rattle.ty.specs.Round.{word-of-type}
use Rattle.candidates.specs.Maybe.{LegalMaybe, maybe_type}
use Rattle.candidates.specs.Steps.{types_from}
use Rattle.solving.specs.Ordered.{by_order, insert}
use Rattle.solving.specs.Solving.{list_of, hint_of, hints_of}
use Rattle.solving.specs.Resolve.{single}
use Rattle.resolving.specs.Bounds.{differs, both_differ, either_of}

-- ---- two that may be missing, by cases

module _ (hint : TypeWord) (found : MaybeType) (u : TypeWord) (e : found ≡ Some u) where
  pub differs-not : hint.word ≡ u.word → false ≡ differs hint found
  differs-not q = ap (λ (b : Bool). not b) (sym (eq-eqb hint.word u.word q)) ∙ ap (differs hint) (sym e)

  pub differs-yes : (hint.word ≡ u.word → ⊥) → true ≡ differs hint found
  differs-yes q = ap (λ (b : Bool). not b) (sym (ne_eqb hint.word u.word q)) ∙ ap (differs hint) (sym e)

pub both-is : (m f : MaybeType) (u : TypeWord) → m ≡ Some u → differs u f ≡ both_differ m f
both-is m f u e = ap (λ (x : MaybeType). both_differ x f) (sym e)

pub either-is : (m f : MaybeType) (u : TypeWord) → m ≡ Some u → Some u ≡ either_of m f
either-is m f u e = ap (λ (x : MaybeType). either_of x f) (sym e)

-- ---- the hints from a place on

module _ (object : ℕ) (ws : List ℕ) (i : ℕ) where
  pub hints-end : length ws ≤ i → hints_of object (types_from i ws) ≡ []
  unfolding hints_of
  hints-end h = ap (λ (l : List ℕ). hints_of object (map type_of l)) (drop_of_length-le ws h)

  -- the type before the place i
  pub hints-step : 0 < i → i ≤ length ws → hints_of object (types_from (i - 1) ws) ≡ hint_of (concrete_hint object (type_of (get_or ws (i - 1) 0))) (hints_of object (types_from i ws))
  unfolding hints_of
  hints-step g h =
      ap (λ (l : List ℕ). hints_of object (map type_of l)) (drop-cons ws (i - 1) 0 (omega arith))
      ∙ ap (λ (k : ℕ). hint_of (concrete_hint object (type_of (get_or ws (i - 1) 0))) (hints_of object (types_from k ws))) (let q : suc (i - 1) ≡ i = omega arith in q)

-- ---- one hint more

same-in : (t : ArgType) → insert compare t (t ∷ []) ≡ t ∷ []
unfolding insert
same-in t = rw (compare-same t)

pub either-legal : (m f : MaybeType) → LegalMaybe m → LegalMaybe f → LegalMaybe (either_of m f)
either-legal (Some t) f h k = h
either-legal None f h k = k

-- no other hint
pub hint-same : (m f : MaybeType) → both_differ m f ≡ false → hint_of (maybe_type m) (list_of (maybe_type f)) ≡ list_of (maybe_type (either_of m f))
unfolding insert
hint-same None f e = refl
hint-same (Some t) None e = refl
hint-same (Some t) (Some u) e = go (eqb t.word u.word) refl e
  where
    go : (b : Bool) → eqb t.word u.word ≡ b → not b ≡ false → insert compare (type_of t.word) (type_of u.word ∷ []) ≡ type_of t.word ∷ []
    go true q k = ap (λ (x : ℕ). insert compare (type_of t.word) (type_of x ∷ [])) (sym (eqb-true t.word u.word q)) ∙ same-in (type_of t.word)
    go false q k = absurd (let z : ◌≡◌ {A = ℕ} 0 1 = cc in omega arith)

-- ---- two

abbrev pub Two : List ArgType → Type 0
Two [] = ⊥
Two (t ∷ []) = ⊥
Two (t ∷ u ∷ ts) = Unit {0}

abbrev One : List ArgType → Type 0
One [] = ⊥
One (t ∷ ts) = Unit {0}

insert-one : (t : ArgType) (ts : List ArgType) → One (insert compare t ts)
unfolding insert
insert-one t [] = tt
insert-one t (u ∷ us) = go (compare t u)
  where
    go : (o : Ordering) → One (by_order o (t ∷ u ∷ us) (u ∷ us) (u ∷ insert compare t us))
    go Less = tt
    go Equal = tt
    go Greater = tt

cons-two : (t : ArgType) (ts : List ArgType) → One ts → Two (t ∷ ts)
cons-two t [] h = absurd h
cons-two t (u ∷ us) h = tt

insert-two : (t : ArgType) (ts : List ArgType) → Two ts → Two (insert compare t ts)
unfolding insert
insert-two t [] h = absurd h
insert-two t (u ∷ []) h = absurd h
insert-two t (u ∷ x ∷ xs) h = go (compare t u)
  where
    go : (o : Ordering) → Two (by_order o (t ∷ u ∷ x ∷ xs) (u ∷ x ∷ xs) (u ∷ insert compare t (x ∷ xs)))
    go Less = tt
    go Equal = tt
    go Greater = cons-two u (insert compare t (x ∷ xs)) (insert-one t (x ∷ xs))

insert-other : (t u : ArgType) → (t ≡ u → ⊥) → Two (insert compare t (u ∷ []))
unfolding insert
insert-other t u n = go (compare t u) refl
  where
    go : (o : Ordering) → compare t u ≡ o → Two (by_order o (t ∷ u ∷ []) (u ∷ []) (u ∷ t ∷ []))
    go Less e = tt
    go Equal e = absurd (n (compare-equal t u e))
    go Greater e = tt

-- another hint makes two
pub hint-other : (m f : MaybeType) → LegalMaybe m → LegalMaybe f → both_differ m f ≡ true → Two (hint_of (maybe_type m) (list_of (maybe_type f)))
hint-other None f h k e = absurd (let z : ◌≡◌ {A = ℕ} 0 1 = cc in omega arith)
hint-other (Some t) None h k e = absurd (let z : ◌≡◌ {A = ℕ} 0 1 = cc in omega arith)
hint-other (Some t) (Some u) h k e = go (eqb t.word u.word) refl e
  where
    go : (b : Bool) → eqb t.word u.word ≡ b → not b ≡ true → Two (insert compare (type_of t.word) (type_of u.word ∷ []))
    go true q z = absurd (let y : ◌≡◌ {A = ℕ} 0 1 = cc in omega arith)
    go false q z =
        insert-other (type_of t.word) (type_of u.word)
        (λ s. eqb-false t.word u.word q (sym (word-of-type 1024 t.word h) ∙ ap word_of s ∙ word-of-type 1024 u.word k))

-- and two stay two
hint-two : (o : Option ArgType) (hs : List ArgType) → Two hs → Two (hint_of o hs)
hint-two none hs h = h
hint-two (some t) hs h = insert-two t hs h

pub hints-two : (object i : ℕ) (ws : List ℕ) → Two (hints_of object (types_from i ws)) → Two (hints_of object (map type_of ws))
unfolding hints_of
hints-two object zero ws h = h
hints-two object (suc i) [] h = h
hints-two object (suc i) (x ∷ ws) h = hint-two (concrete_hint object (type_of x)) (hints_of object (map type_of ws)) (hints-two object i ws h)

pub two-single : (hs : List ArgType) → Two hs → none ≡ single hs
two-single [] h = absurd h
two-single (t ∷ []) h = absurd h
two-single (t ∷ u ∷ ts) h = refl

pub one-single : (o : Option ArgType) → single (list_of o) ≡ o
one-single none = refl
one-single (some t) = refl
