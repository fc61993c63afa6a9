-- WHAT A DOMAIN ACCEPTS: an empty one everything, any other what one of its members accepts; so each of its own members, and with a
-- reference among them every reference.
use Rattle.std.specs.Prelude.{◌≡◌, refl, Bool, true, false, ◌&&◌, ◌||◌, ◌⊎◌, ◌↔◌, ℕ, eqb}
use Rattle.std.proofs.Common.{sym, ap, ◌∙◌, inl, inr, eq-eqb}
use Rattle.std.proofs.lemmas.Bool.{false≢true}
use Rattle.std.proofs.Math.Bool.{or-true}
use mathlib.Core.List.Memᴰ
use mathlib.Core.List.{List, [], ◌∷◌, Memᴰ}
use Rattle.order.specs.Lists.{elem}
use Rattle.ty.specs.Types.{ArgType, Primitive, Object, Array, Unknown, is_primitive, is_reference}
use Rattle.lattice.specs.Lattice.{same_type, has_all, unknown_accepts, same_register_category, observed_accepts, any_accepts, domain_accepts}
use Rattle.lattice.specs.Same.{same-refl}

-- ---- one of a list

-- a member that accepts it
abbrev pub Accepting : List ArgType → ArgType → Type 0
Accepting domain t = (o : ArgType) × Memᴰ o domain × (observed_accepts o t ≡ true)

any-has : (domain : List ArgType) (t : ArgType) → any_accepts domain t ≡ true → Accepting domain t
unfolding any_accepts
any-has [] t h = absurd (false≢true h)
any-has (o ∷ domain) t h = go (observed_accepts o t) refl h (any-has domain t)
  where
    go : (b : Bool) → observed_accepts o t ≡ b → (b || any_accepts domain t) ≡ true → (any_accepts domain t ≡ true → Accepting domain t) → Accepting (o ∷ domain) t
    go true e q ih = (o, Memᴰ.head refl, e)
    go false e q ih = let a = ih q in (a.0, Memᴰ.tail a.1, a.2)

has-any : (domain : List ArgType) (t o : ArgType) → Memᴰ o domain → observed_accepts o t ≡ true → any_accepts domain t ≡ true
unfolding any_accepts
has-any [] t o m h = absurd (Memᴰ.not-nil m)
has-any (p ∷ domain) t o m h = go (Memᴰ.cases_cons m) (λ r. has-any domain t o r h)
  where
    go : (o ≡ p) ⊎ Memᴰ o domain → (Memᴰ o domain → any_accepts domain t ≡ true) → (observed_accepts p t || any_accepts domain t) ≡ true
    go (inl e) ih = ap (λ (x : ArgType). observed_accepts x t || any_accepts domain t) (sym e) ∙ ap (λ (b : Bool). b || any_accepts domain t) h
    go (inr r) ih = ap (λ (b : Bool). observed_accepts p t || b) (ih r) ∙ or-true (observed_accepts p t)

-- AN EMPTY DOMAIN accepts everything, ANY OTHER what one of its members accepts
pub domain-empty : (t : ArgType) → domain_accepts [] t ≡ true
unfolding domain_accepts
domain-empty t = refl

pub domain-exactly : (p : ArgType) (domain : List ArgType) (t : ArgType) → (domain_accepts (p ∷ domain) t ≡ true) ↔ Accepting (p ∷ domain) t
unfolding domain_accepts
domain-exactly p domain t = (any-has (p ∷ domain) t, λ a. has-any (p ∷ domain) t a.0 a.1 a.2)

-- ---- what a member accepts

has_all-more : (c : ℕ) (cs ds : List ℕ) → has_all cs ds ≡ true → has_all (c ∷ cs) ds ≡ true
unfolding has_all elem
has_all-more c cs [] h = refl
has_all-more c cs (d ∷ ds) h = go (elem d cs) (eqb c d) h (has_all-more c cs ds)
  where
    go : (a b : Bool) → (a && has_all cs ds) ≡ true → (has_all cs ds ≡ true → has_all (c ∷ cs) ds ≡ true) → ((b || a) && has_all (c ∷ cs) ds) ≡ true
    go true true q ih = ih q
    go true false q ih = ih q
    go false b q ih = absurd (false≢true q)

has_all-self : (cs : List ℕ) → has_all cs cs ≡ true
unfolding has_all elem
has_all-self [] = refl
has_all-self (c ∷ cs) = rw (eq-eqb c c refl, has_all-more c cs cs (has_all-self cs))

-- every type accepts itself
pub observed-self : (t : ArgType) → observed_accepts t t ≡ true
unfolding observed_accepts unknown_accepts
observed-self (Primitive k) = rw (same-refl (Primitive k))
observed-self (Object c) = rw (same-refl (Object c))
observed-self (Array t) = rw (same-refl (Array t))
observed-self (Unknown cs) = has_all-self cs

-- a reference every reference
pub observed-references : (o t : ArgType) → is_reference o ≡ true → is_reference t ≡ true → observed_accepts o t ≡ true
unfolding is_primitive is_reference same_register_category observed_accepts
observed-references (Primitive j) t h i = absurd (false≢true h)
observed-references (Object c) (Primitive k) h i = absurd (false≢true i)
observed-references (Object c) (Object d) h i = or-true (same_type (Object c) (Object d))
observed-references (Object c) (Array u) h i = or-true (same_type (Object c) (Array u))
observed-references (Object c) (Unknown ds) h i = absurd (false≢true i)
observed-references (Array t) (Primitive k) h i = absurd (false≢true i)
observed-references (Array t) (Object d) h i = or-true (same_type (Array t) (Object d))
observed-references (Array t) (Array u) h i = or-true (same_type (Array t) (Array u))
observed-references (Array t) (Unknown ds) h i = absurd (false≢true i)
observed-references (Unknown cs) t h i = absurd (false≢true h)

-- SO each of its own members
pub domain-member : (domain : List ArgType) (t : ArgType) → Memᴰ t domain → domain_accepts domain t ≡ true
domain-member [] t m = absurd (Memᴰ.not-nil m)
domain-member (p ∷ domain) t m = (domain-exactly p domain t).1 (t, m, observed-self t)

-- and with a reference among them every reference
pub domain-references : (domain : List ArgType) (o t : ArgType) → Memᴰ o domain → is_reference o ≡ true → is_reference t ≡ true → domain_accepts domain t ≡ true
domain-references [] o t m h i = absurd (Memᴰ.not-nil m)
domain-references (p ∷ domain) o t m h i = (domain-exactly p domain t).1 (o, m, observed-references o t h i)
