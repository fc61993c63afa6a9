-- The answers of the functions on words: each enum's cases, from the definitions on types.
use Rattle.std.specs.Prelude.{◌≡◌, Bool, [], ◌∷◌, leb, ltb, Option as Maybe, Some, None, Result, Ok, Err}
use Rattle.std.proofs.Math.Path.{refl, sym, ap}
use Rattle.std.proofs.Common.{◌∙◌, arith, leb-true, leb-false, lt-ltb, le-ltb}
use Rattle.std.proofs.Math.Bool.{true, false, cond}
use Rattle.std.proofs.Math.Option.{Option, some, none}
use Prim.Native.Nat.{ℕ, zero, suc, ◌+◌, ◌-◌, ◌*◌, ◌^◌, ◌≤◌, ◌<◌}
use Rattle.ty.specs.declared.TypeWord.{TypeWord}
use Rattle.refusals.specs.declared.Refusal.{Refusal}
use Rattle.refusals.specs.declared.Refusal.TheVariants.{NoType}
use Rattle.refusals.specs.Numbers.{number}
use Rattle.ty.specs.Types.{ArgType, Primitive, Array, Unknown, element, depth, Int, Long, Float, Double, Boolean, Short, Byte, Char, ObjectCategory, ArrayCategory}
use Rattle.ty.specs.Words.{dimension, no_type, tag_of, load_of, base_of, type_of, legal_word, word_of, pack}
use Rattle.ty.specs.Shape.{type-array, type-flat, word-deeper, legal-element}
use Rattle.ty.specs.Round.{word-of-type, depth-dims}

abbrev pub word : ℕ → TypeWord
word w = record { word = w }

-- a type that may be missing, as functions hand it back
abbrev pub MaybeType : Type 0
MaybeType = Maybe TypeWord

-- ---- the constants

abbrev pub int_word : ℕ
int_word = 5

abbrev pub long_word : ℕ
long_word = 6

abbrev pub float_word : ℕ
float_word = 7

abbrev pub double_word : ℕ
double_word = 8

abbrev pub unknown_word : ℕ
unknown_word = 0x0002a567813249a0

-- ArgType::unknown()
abbrev pub unknown_type : ArgType
unknown_type =
    Unknown (Int ∷ Long ∷ Float ∷ Double ∷ Boolean ∷ Short ∷ Byte ∷ Char ∷ ObjectCategory ∷ ArrayCategory ∷ [])

-- they are the words of the types that they are named after
pub constants : (word_of (Primitive Int) ≡ int_word)
    × (word_of (Primitive Long) ≡ long_word)
    × (word_of (Primitive Float) ≡ float_word)
    × (word_of (Primitive Double) ≡ double_word)
    × (word_of unknown_type ≡ unknown_word)
unfolding word_of pack
constants = (refl, refl, refl, refl, refl)

-- ---- the answers

unfoldable pub decode_word : ℕ → ℕ → Result TypeWord Refusal
decode_word names w = cond (legal_word names w) (Ok (word w)) (Err NoType)

-- a word's element: a dimension less, where it has one
unfoldable pub element_word : ℕ → MaybeType
element_word w = cond (leb dimension w) (Some (word (w - dimension))) None

-- a word's array: a dimension more, where it has fewer than 255
unfoldable pub array_word : ℕ → MaybeType
array_word w = cond (ltb w (255 * dimension)) (Some (word (w + dimension))) None

-- a type that may be missing, as a word
abbrev pub maybe_word : Option ArgType → MaybeType
maybe_word none = None
maybe_word (some t) = Some (word (word_of t))

module _ (names w : ℕ) where
  pub decode-good : legal_word names w ≡ true → Ok (word w) ≡ decode_word names w
  unfolding decode_word
  decode-good e = rw e

  pub decode-bad : legal_word names w ≡ false → Err NoType ≡ decode_word names w
  unfolding decode_word
  decode-bad e = rw e

-- the number of what `decode` refuses with
pub no-type : number NoType ≡ no_type
no-type = refl

-- ---- element and array of a legal word are those of its type

module _ (names w : ℕ) (legal : legal_word names w ≡ true) where
  pub element-type : element_word w ≡ maybe_word (element (type_of w))
  unfolding element_word element base_of
  element-type = go (leb (2 ^ 56) w) refl
    where
      none-flat : (tag load : ℕ) → element (base_of tag load) ≡ none
      none-flat zero load = refl
      none-flat (suc zero) load = refl
      none-flat (suc (suc t)) load = refl

      go : (b : Bool) → leb (2 ^ 56) w ≡ b → cond b (Some (word (w - 2 ^ 56))) None ≡ maybe_word (element (type_of w))
      go true e =
          let h = leb-true (2 ^ 56) w e in
          ap (λ (x : ℕ). Some (word x)) (sym (word-of-type names (w - 2 ^ 56) (legal-element names w h ∙ legal)))
          ∙ sym (ap (λ (t : ArgType). maybe_word (element t)) (type-array w h))
      go false e =
          sym (ap (λ (t : ArgType). maybe_word (element t)) (type-flat w (leb-false (2 ^ 56) w e)) ∙ ap maybe_word (none-flat (tag_of w) (load_of w)))

  pub array-type : depth (type_of w) < 255 → array_word w ≡ Some (word (word_of (Array (type_of w))))
  unfolding array_word
  array-type h =
      let d = depth-dims w in
      ap (λ (b : Bool). cond b (Some (word (w + 2 ^ 56))) None) (lt-ltb w (255 * 2 ^ 56) (omega arith))
      ∙ ap (λ (x : ℕ). Some (word x)) (ap (λ (x : ℕ). x + 2 ^ 56) (sym (word-of-type names w legal)) ∙ sym (word-deeper (type_of w)))

  pub array-deep : 255 ≤ depth (type_of w) → array_word w ≡ None
  unfolding array_word
  array-deep h =
      let d = depth-dims w in
      ap (λ (b : Bool). cond b (Some (word (w + 2 ^ 56))) None) (le-ltb w (255 * 2 ^ 56) (omega arith))

-- what the answer of `decode` tells

module _ (names w : ℕ) where
  pub good-legal : (t : TypeWord) → decode_word names w ≡ Ok t → legal_word names w ≡ true
  unfolding decode_word
  good-legal t h = go (legal_word names w) h
    where
      go : (b : Bool) → cond b (Ok (word w)) (Err NoType) ≡ Ok t → b ≡ true
      go true e = refl
      go false e = cc

  pub refused-legal : (e : Refusal) → decode_word names w ≡ Err e → legal_word names w ≡ false
  unfolding decode_word
  refused-legal e h = go (legal_word names w) h
    where
      go : (b : Bool) → cond b (Ok (word w)) (Err NoType) ≡ Err e → b ≡ false
      go true h = cc
      go false h = refl

  -- the type is the word itself
  pub good-type : (t : TypeWord) → decode_word names w ≡ Ok t → legal_word names t.word ≡ true
  good-type t h =
      let q : word w ≡ t = cc (decode-good names w (good-legal t h)) in
      ap (λ (u : TypeWord). legal_word names u.word) (sym q) ∙ good-legal t h
