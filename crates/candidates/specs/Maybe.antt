-- Lists of legal words, and a type that may be missing as a word: there and back.
use Rattle.std.specs.Prelude.{◌≡◌, refl, Bool, true, false, cond, List, [], ◌∷◌, ℕ, ◌^◌, ◌<◌, eqb, length, get_or, Some, None}
use Rattle.std.proofs.Common.{sym, ap, ◌∙◌, subst, arith, le-leb, lt-ltb}
use Rattle.std.proofs.Math.Option.{Option, some, none}
use Rattle.ty.specs.Answers.{MaybeType}
use Rattle.std.specs.declared.cmp.Ordering.TheVariants.{Less, Equal, Greater}
use Rattle.ty.specs.Types.{ArgType, Primitive, Object, Array, Unknown, depth, compare, is_concrete, concrete_hint, hint_of_list}
use Rattle.ty.specs.Words.{Legal, type_of, legal_type, legal_at_base}
use Rattle.ty.specs.Distinct.{distinct-first}
use Rattle.ty.specs.Round.{type-of-word, legal-of-type, legal-of-word, word-of-type}
use Rattle.ty.specs.Answers.{word, maybe_word}
use Rattle.lattice.specs.Lattice.{lesser}

-- a list of legal words
abbrev pub AllLegal : List ℕ → Type 0
AllLegal ws = (i : ℕ) → i < length ws → Legal (get_or ws i 0)

abbrev pub LegalMaybe : MaybeType → Type 0
LegalMaybe (Some t) = Legal t.word
LegalMaybe None = Unit {0}

-- the type that a word stands for, if there is one
abbrev pub maybe_type : MaybeType → Option ArgType
maybe_type (Some t) = some (type_of t.word)
maybe_type None = none

abbrev pub LegalOption : Option ArgType → Type 0
LegalOption none = Unit {0}
LegalOption (some t) = legal_type 1024 t ≡ true

-- ---- a legal type comes back from its word

maybe-type : (o : Option ArgType) → LegalOption o → maybe_type (maybe_word o) ≡ o
maybe-type none h = refl
maybe-type (some t) h = ap some (type-of-word 1024 t (omega arith) h)

maybe-legal : (o : Option ArgType) → LegalOption o → LegalMaybe (maybe_word o)
maybe-legal none h = tt
maybe-legal (some t) h = legal-of-type 1024 t (omega arith) h

-- a legal word, if there is one, from its type
pub maybe-word : (m : MaybeType) → LegalMaybe m → m ≡ maybe_word (maybe_type m)
maybe-word (Some t) h = ap (λ (w : ℕ). Some (word w)) (sym (word-of-type 1024 t.word h))
maybe-word None h = refl

-- ---- what is a hint of a legal type is legal

hint-if : (b : Bool) (t : ArgType) → legal_type 1024 t ≡ true → LegalOption (cond b (some t) none)
hint-if true t h = h
hint-if false t h = tt

list-hint : (object : ℕ) (cs : List ℕ) → object < 1024 → legal_type 1024 (Unknown cs) ≡ true → LegalOption (hint_of_list object cs)
unfolding hint_of_list legal_type legal_at_base depth
list-hint object [] o h = tt
list-hint object (c ∷ []) o h = go (eqb c 9) (eqb c 10)
  where
    go : (a b : Bool) → LegalOption (cond a (some (Object object)) (cond b none (some (Primitive c))))
    go true b = lt-ltb object 1024 o
    go false true = tt
    go false false = le-leb c 10 (distinct-first c [] h)
list-hint object (c ∷ d ∷ cs) o h = tt

hint-legal : (object : ℕ) (t : ArgType) → object < 1024 → legal_type 1024 t ≡ true → LegalOption (concrete_hint object t)
unfolding concrete_hint
hint-legal object (Primitive k) o h = hint-if (is_concrete (Primitive k)) (Primitive k) h
hint-legal object (Object c) o h = h
hint-legal object (Array t) o h = hint-if (is_concrete t) (Array t) h
hint-legal object (Unknown cs) o h = list-hint object cs o h

-- the hint of a legal word, as the word that `concrete_hint` hands back
module _ (object w : ℕ) (m : MaybeType) (o : object < 1024) (f : w < 2 ^ 64) (l : Legal w) (e : m ≡ maybe_word (concrete_hint object (type_of w))) where
  legal : LegalOption (concrete_hint object (type_of w))
  legal = hint-legal object (type_of w) o (legal-of-word 1024 w f l)

  pub hint-type : maybe_type m ≡ concrete_hint object (type_of w)
  hint-type = ap maybe_type e ∙ maybe-type (concrete_hint object (type_of w)) legal

  pub hint-word : LegalMaybe m
  hint-word = subst LegalMaybe (sym e) (maybe-legal (concrete_hint object (type_of w)) legal)

-- ---- the lesser of two, by the order

pub lesser-less : (t u : ArgType) → compare t u ≡ Less → lesser t (some u) ≡ some t
lesser-less t u e = rw e

pub lesser-equal : (t u : ArgType) → compare t u ≡ Equal → lesser t (some u) ≡ some t
lesser-equal t u e = rw e

pub lesser-greater : (t u : ArgType) → compare t u ≡ Greater → lesser t (some u) ≡ some u
lesser-greater t u e = rw e
