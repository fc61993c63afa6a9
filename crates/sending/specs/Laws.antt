-- WHAT IS SENT IS WHAT THE DEFINITION GIVES, of a type that may be missing and is legal where it is there; and all of it can be sent.
use Rattle.std.specs.Prelude.{◌≡◌, Bool, cond, [], ◌∷◌, ℕ, ◌^◌, ◌≤◌, ◌<◌, Some, None}
use Rattle.std.proofs.Math.Path.{refl, ap}
use Rattle.std.proofs.Common.{sym, ◌∙◌, subst, arith}
use Rattle.std.proofs.Math.Bool.{true, false}
use Rattle.std.proofs.Math.Option.{Option, some, none}
use Rattle.std.proofs.Math.Dec.{ltb}
use borrow.Author.Tests.{lt-ltb, le-ltb, ltb-true, ltb-false}
use Rattle.ty.specs.declared.TypeWord.{TypeWord}
use Rattle.ty.specs.Types.{ArgType, Primitive, Object, Array, Unknown, depth, element, is_concrete}
use Rattle.ty.specs.Words.{Legal, legal_word, type_of, word_of, legal_at_base}
use Rattle.ty.specs.Round.{depth-dims, legal-of-word, type-of-word, legal-of-type}
use Rattle.ty.specs.Answers.{word, element_word, array_word, maybe_word, element-type, array-type, array-deep}
use Rattle.keys.specs.Rank.{rank}
use Rattle.keys.specs.Laws.{LegalType}
use Rattle.lattice.specs.Legality.{legal-base, legal-depth, legal-both}
use Rattle.solving.specs.Solving.{list_of, element_of, only_concrete, array_of}
use Rattle.inserting.specs.declared.Sent.{Sent}
use Rattle.inserting.specs.declared.Sent.TheVariants.{Nothing as NoType, Rank, Deep}
use Rattle.inserting.specs.Store.{sent_types, sent_of, Sendable}
use Rattle.inserting.specs.Laws.{sent-sendable}
use Rattle.passing.specs.Alike.{Alike, sent-alike}
use Rattle.sending.specs.Sending.{LegalMaybe, sent_maybe, sent_element, sent_array}

-- ---- as the code meets it

pub sent-flat : (t : ArgType) → depth t ≤ 255 → sent_of t ≡ Rank (rank t)
unfolding sent_of
sent-flat t h = rw (le-ltb 255 (depth t) h)

pub sent-deep : (t : ArgType) → 255 < depth t → sent_of t ≡ Deep
unfolding sent_of
sent-deep t h = rw (lt-ltb 255 (depth t) h)

module _ (w : ℕ) (fits : w < 2 ^ 64) (legal : Legal w) where
  pub word-flat : depth (type_of w) ≤ 255
  word-flat = let d = depth-dims w in omega arith

  base : legal_at_base 1024 (type_of w) ≡ true
  base = legal-base 1024 (type_of w) (legal-of-word 1024 w fits legal)

  array-legal : depth (type_of w) < 255 → LegalType (Array (type_of w))
  unfolding depth legal_at_base
  array-legal h = legal-both 1024 (Array (type_of w)) (omega arith) base

  one : (x y : TypeWord) → Some x ≡ Some y → x.word ≡ y.word
  one x y f = ap (λ (t : TypeWord). t.word) (let z : x ≡ y = cc in z)

  apart : (x : TypeWord) → Some x ≡ None → ⊥
  apart x f = let z : ◌≡◌ {A = ℕ} 0 1 = cc in omega arith

  -- the array, where there is one
  pub array-of : (a : TypeWord) → array_word w ≡ Some a → Legal a.word × (sent_of (Array (type_of w)) ≡ Rank (rank (type_of a.word)))
  unfolding depth
  array-of a e = go (ltb (depth (type_of w)) 255) refl
    where
      go : (b : Bool) → ltb (depth (type_of w)) 255 ≡ b → Legal a.word × (sent_of (Array (type_of w)) ≡ Rank (rank (type_of a.word)))
      go true f =
          let h = ltb-true (depth (type_of w)) 255 f in
          let l = array-legal h in
          let q = one (word (word_of (Array (type_of w)))) a (sym (array-type 1024 w legal h) ∙ e) in (
            ap (legal_word 1024) (sym q) ∙ legal-of-type 1024 (Array (type_of w)) (omega arith) l,
            sent-flat (Array (type_of w)) (omega arith) ∙ ap (λ (t : ArgType). Rank (rank t)) (sym (type-of-word 1024 (Array (type_of w)) (omega arith) l) ∙ ap type_of q),
          )
      go false f = absurd (apart a (sym e ∙ array-deep 1024 w legal (ltb-false (depth (type_of w)) 255 f)))

  -- and where there is none
  pub array-none : array_word w ≡ None → sent_of (Array (type_of w)) ≡ Deep
  unfolding depth
  array-none e = go (ltb (depth (type_of w)) 255) refl
    where
      go : (b : Bool) → ltb (depth (type_of w)) 255 ≡ b → sent_of (Array (type_of w)) ≡ Deep
      go true f = absurd (apart (word (word_of (Array (type_of w)))) (sym (array-type 1024 w legal (ltb-true (depth (type_of w)) 255 f)) ∙ e))
      go false f = let h = ltb-false (depth (type_of w)) 255 f in sent-deep (Array (type_of w)) (omega arith)

-- ---- legal types that may be missing

abbrev pub LegalOption : Option ArgType → Type 0
LegalOption none = Unit {0}
LegalOption (some t) = LegalType t

pub maybe-legal : (o : Option ArgType) → LegalOption o → LegalMaybe (maybe_word o)
maybe-legal none h = tt
maybe-legal (some t) h = legal-of-type 1024 t (omega arith) h

element-option : (t : ArgType) → LegalType t → LegalOption (element t)
unfolding element depth legal_at_base
element-option (Primitive k) h = tt
element-option (Object c) h = tt
element-option (Array t) h = let d = legal-depth 1024 (Array t) h in legal-both 1024 t (omega arith) (legal-base 1024 (Array t) h)
element-option (Unknown cs) h = tt

-- an element is legal
pub element-legal : (w : ℕ) → w < 2 ^ 64 → Legal w → LegalMaybe (element_word w)
element-legal w fits legal =
    subst LegalMaybe (sym (element-type 1024 w legal)) (maybe-legal (element (type_of w)) (element-option (type_of w) (legal-of-word 1024 w fits legal)))

-- ---- WHAT IS SENT

back : (t : ArgType) → LegalType t → type_of (word_of t) ≡ t
back t h = type-of-word 1024 t (omega arith) h

-- the type
pub type-alike : (o : Option ArgType) → LegalOption o → Alike (sent_types (sent_maybe (maybe_word o))) (list_of o)
type-alike none h = tt
type-alike (some t) h = subst (λ (u : ArgType). Alike (sent_types (sent_of u)) (t ∷ [])) (sym (back t h)) (sent-alike t (legal-base 1024 t h))

pub type-sendable : (o : Option ArgType) → LegalOption o → Sendable (sent_maybe (maybe_word o))
type-sendable none h = tt
type-sendable (some t) h = subst (λ (u : ArgType). Sendable (sent_of u)) (sym (back t h)) (sent-sendable t (legal-base 1024 t h))

-- its element
element-sent : (o : Option ArgType) → LegalOption o → sent_element (maybe_word o) ≡ sent_maybe (maybe_word (element_of o))
element-sent none h = refl
element-sent (some t) h =
    ap sent_maybe (element-type 1024 (word_of t) (legal-of-type 1024 t (omega arith) h)) ∙ ap (λ (u : ArgType). sent_maybe (maybe_word (element u))) (back t h)

element-of-legal : (o : Option ArgType) → LegalOption o → LegalOption (element_of o)
element-of-legal none h = tt
element-of-legal (some t) h = element-option t h

pub element-alike : (o : Option ArgType) → LegalOption o → Alike (sent_types (sent_element (maybe_word o))) (list_of (element_of o))
element-alike o h = subst (λ (s : Sent). Alike (sent_types s) (list_of (element_of o))) (sym (element-sent o h)) (type-alike (element_of o) (element-of-legal o h))

pub element-sendable : (o : Option ArgType) → LegalOption o → Sendable (sent_element (maybe_word o))
element-sendable o h = subst Sendable (sym (element-sent o h)) (type-sendable (element_of o) (element-of-legal o h))

-- its array
array-base : (t : ArgType) → LegalType t → legal_at_base 1024 (Array t) ≡ true
unfolding legal_at_base
array-base t h = legal-base 1024 t h

pub array-alike : (o : Option ArgType) → LegalOption o → Alike (sent_types (sent_array (maybe_word o))) (array_of (only_concrete o))
array-alike none h = tt
array-alike (some t) h =
    subst (λ (u : ArgType). Alike (sent_types (cond (is_concrete u) (sent_of (Array u)) NoType)) (array_of (cond (is_concrete t) (some t) none))) (sym (back t h)) (go (is_concrete t))
  where
    go : (b : Bool) → Alike (sent_types (cond b (sent_of (Array t)) NoType)) (array_of (cond b (some t) none))
    go true = sent-alike (Array t) (array-base t h)
    go false = tt

pub array-sendable : (o : Option ArgType) → LegalOption o → Sendable (sent_array (maybe_word o))
array-sendable none h = tt
array-sendable (some t) h = subst (λ (u : ArgType). Sendable (cond (is_concrete u) (sent_of (Array u)) NoType)) (sym (back t h)) (go (is_concrete t))
  where
    go : (b : Bool) → Sendable (cond b (sent_of (Array t)) NoType)
    go true = sent-sendable (Array t) (array-base t h)
    go false = tt
