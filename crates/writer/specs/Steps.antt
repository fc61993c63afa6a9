-- The laws that the code leans on: which words are types, what a word prints, how long that is, and what is refused.
use Rattle.std.specs.Prelude.{◌≡◌, Bool, true, false, not, ◌&&◌, length, get_or, drop, replicate}
use Rattle.std.proofs.Math.Path.{refl, ap, ap₂}
use Rattle.std.proofs.Common.{sym, ◌∙◌, zero-add, add-one, drop_of_length-le}
use mathlib.Core.List.{List, [], ◌∷◌, ◌++◌}
use Prim.Native.Nat.{ℕ, zero, suc, ◌+◌, ◌≤◌, ◌<◌}
use native.Mathlib.Omega.{arith}
use Rattle.std.proofs.Math.ListN.{length-append}
use Rattle.std.proofs.lemmas.List.{length-replicate}
use Rattle.std.proofs.Math.Seq.{drop-cons}
use borrow.Author.Tests.{ltb-true, leb-true, lt-ltb, le-ltb, not-true, not-false}
use Rattle.order.specs.Truth.{both}
use Rattle.ty.specs.Types.{ArgType, arrays}
use Rattle.ty.specs.Words.{dims_of, tag_of, load_of, base_of, type_of, legal_base, legal_word, all_legal}
use Rattle.ty.specs.Round.{legal-primitive, legal-object}
use Rattle.checks.specs.Checks.{first_refusal, else-none, else-some}
use Rattle.names.specs.Names.{name_at, check_names}
use Rattle.names.specs.Table.{Checked, name-length}
use Rattle.writer.specs.Print.{Written, letter_byte, print, print_all, print_method, print_word, print_words, print_method_words, checked_type_refusal, type_refusal, checked_method_refusal, method_refusal, answer, output, Wrote}
use Rattle.writer.specs.Store.{Put, put-whole}

-- ---- which words are types, word by word

-- what a test's answer b says, where `!b` was asked
pub holds : {b t : Bool} → b ≡ t → not b ≡ false → t ≡ true
holds {b} e n = sym e ∙ not-false b n

pub fails : {b t : Bool} → b ≡ t → not b ≡ true → t ≡ false
fails {b} e n = sym e ∙ not-true b n

module _ (names : ℕ) (ws : List ℕ) (i : ℕ) where
  pub legal-next : i < length ws → all_legal names (drop i ws) ≡ (legal_word names (get_or ws i 0) && all_legal names (drop (i + 1) ws))
  unfolding all_legal
  legal-next h = rw (add-one i, drop-cons ws i 0 h)

  pub legal-front : i < length ws → all_legal names (drop i ws) ≡ true
      → (legal_word names (get_or ws i 0) ≡ true) × (all_legal names (drop (i + 1) ws) ≡ true)
  legal-front h e = both (legal_word names (get_or ws i 0)) (all_legal names (drop (i + 1) ws)) (sym (legal-next h) ∙ e)

-- ---- what a word prints: a '[' for each dimension, then its base

pub print-arrays : (name : ℕ → List ℕ) (d : ℕ) (t : ArgType) → print name (arrays d t) ≡ replicate d 91 ++ print name t
unfolding print arrays
print-arrays name zero t = refl
print-arrays name (suc d) t = ap (λ (l : List ℕ). 91 ∷ l) (print-arrays name d t)

-- the base of a word, by its tag and payload
abbrev pub print_base : List ℕ → List ℕ → List ℕ → ℕ → ℕ → List ℕ
print_base bytes ats lens tag load = print (name_at bytes ats lens) (base_of tag load)

-- a class's name between 'L' and ';'
abbrev pub class_bytes : List ℕ → List ℕ
class_bytes name = 76 ∷ name ++ (59 ∷ [])

-- ---- how long that is

-- the bytes of a word without its dimensions
abbrev pub base_size : List ℕ → ℕ → ℕ → ℕ
base_size lens zero load = 1
base_size lens (suc zero) load = get_or lens load 0 + 2
base_size lens (suc (suc t)) load = 1

-- a word's: a byte for each dimension besides
unfoldable pub word_size : List ℕ → ℕ → ℕ
word_size lens w = dims_of w + base_size lens (tag_of w) (load_of w)

unfoldable pub words_size : List ℕ → List ℕ → ℕ
words_size lens [] = 0
words_size lens (w ∷ ws) = word_size lens w + words_size lens ws

-- a method's: with the brackets
abbrev pub method_size : List ℕ → List ℕ → ℕ → ℕ
method_size lens ws w = words_size lens ws + word_size lens w + 2

-- no name has more than 255 bytes
pub record Short (lens : List ℕ) : Type 0 where
  pub few : (i : ℕ) → i < length lens → get_or lens i 0 ≤ 255

pub checked-short : {bytes ats lens : List ℕ} → Checked bytes ats lens → Short lens
checked-short c = record { few = λ i h. (c.inside i (let e = c.columns in omega arith)).most }

module _ (lens ws : List ℕ) (i : ℕ) where
  pub size-next : i < length ws → words_size lens (drop i ws) ≡ word_size lens (get_or ws i 0) + words_size lens (drop (i + 1) ws)
  unfolding words_size
  size-next h = rw (add-one i, drop-cons ws i 0 h)

  pub size-none : length ws ≤ i → words_size lens (drop i ws) ≡ 0
  unfolding words_size
  size-none h = rw (drop_of_length-le ws h)

module _ (lens : List ℕ) (w : ℕ) where
  pub class-size : tag_of w ≡ 1 → dims_of w + (get_or lens (load_of w) 0 + 2) ≡ word_size lens w
  unfolding word_size
  class-size e = rw e

  pub plain-size : (tag_of w ≡ 1 → ⊥) → dims_of w + 1 ≡ word_size lens w
  unfolding word_size
  plain-size h = go (tag_of w) h
    where
      go : (tag : ℕ) → (tag ≡ 1 → ⊥) → dims_of w + 1 ≡ dims_of w + base_size lens tag (load_of w)
      go zero n = refl
      go (suc zero) n = absurd (n refl)
      go (suc (suc t)) n = refl

module _ (bytes ats lens : List ℕ) where
  pub print-word : (w : ℕ) → print_word bytes ats lens w ≡ replicate (dims_of w) 91 ++ print_base bytes ats lens (tag_of w) (load_of w)
  unfolding print_word type_of
  print-word w = print-arrays (name_at bytes ats lens) (dims_of w) (base_of (tag_of w) (load_of w))

  pub word-parts : (w : ℕ) → length (print_word bytes ats lens w) ≡ dims_of w + length (print_base bytes ats lens (tag_of w) (load_of w))
  word-parts w =
      ap length (print-word w)
      ∙ length-append (replicate (dims_of w) 91) (print_base bytes ats lens (tag_of w) (load_of w))
      ∙ ap (λ (n : ℕ). n + length (print_base bytes ats lens (tag_of w) (load_of w))) (length-replicate (dims_of w) 91)

  -- the three kinds of base
  pub print-category : (tag load : ℕ) → tag ≡ 0 → print_base bytes ats lens tag load ≡ letter_byte load ∷ []
  unfolding print base_of
  print-category tag load e = rw e

  pub print-class : (tag load : ℕ) → tag ≡ 1 → print_base bytes ats lens tag load ≡ class_bytes (name_at bytes ats lens load)
  unfolding print base_of
  print-class tag load e = rw e

  pub print-unknown : (tag load : ℕ) → (tag ≡ 0 → ⊥) → (tag ≡ 1 → ⊥) → print_base bytes ats lens tag load ≡ 63 ∷ []
  unfolding print base_of
  print-unknown zero load z o = absurd (z refl)
  print-unknown (suc zero) load z o = absurd (o refl)
  print-unknown (suc (suc t)) load z o = refl

module _ (bytes ats lens ws : List ℕ) (i : ℕ) where
  pub words-next : i < length ws → print_words bytes ats lens (drop i ws) ≡ print_word bytes ats lens (get_or ws i 0) ++ print_words bytes ats lens (drop (i + 1) ws)
  unfolding print_words print_word print_all
  words-next h = rw (add-one i, drop-cons ws i 0 h)

  pub words-none : length ws ≤ i → print_words bytes ats lens (drop i ws) ≡ []
  unfolding print_words print_all
  words-none h = rw (drop_of_length-le ws h)

module _ (bytes ats lens params : List ℕ) (result : ℕ) where
  pub print-method : print_method_words bytes ats lens params result
      ≡ (40 ∷ []) ++ (print_words bytes ats lens params ++ ((41 ∷ []) ++ print_word bytes ats lens result))
  unfolding print_method_words print_method print_words print_word
  print-method = refl

  pub method-parts : length (print_method_words bytes ats lens params result)
      ≡ length (print_words bytes ats lens params) + length (print_word bytes ats lens result) + 2
  method-parts =
      let e = ap length print-method in
      let a = length-append (print_words bytes ats lens params) (41 ∷ print_word bytes ats lens result) in
      omega arith

-- a legal category has a letter
pub category-low : (names tag load : ℕ) → legal_base names tag load ≡ true → tag ≡ 0 → load ≤ 10
category-low names tag load h e = leb-true load 10 (sym (legal-primitive names load) ∙ ap (λ (t : ℕ). legal_base names t load) (sym e) ∙ h)

-- a legal class has its place in the table
pub class-inside : (names tag load : ℕ) → legal_base names tag load ≡ true → tag ≡ 1 → load < names
class-inside names tag load h e = ltb-true load names (sym (legal-object names load) ∙ ap (λ (t : ℕ). legal_base names t load) (sym e) ∙ h)

pub legal-inside : (names w : ℕ) → legal_word names w ≡ true → tag_of w ≡ 1 → load_of w < names
unfolding legal_word
legal-inside names w h e = class-inside names (tag_of w) (load_of w) h e

module _ (bytes ats lens : List ℕ) (c : Checked bytes ats lens) where
  base-size : (tag load : ℕ) → legal_base (length ats) tag load ≡ true → length (print_base bytes ats lens tag load) ≡ base_size lens tag load
  unfolding print base_of
  base-size zero load h = refl
  base-size (suc zero) load h =
      let l = class-inside (length ats) 1 load h refl in
      let p = name-length bytes (get_or ats load 0) (get_or lens load 0) (c.inside load l) in
      let a = length-append (name_at bytes ats lens load) (59 ∷ []) in
      omega arith
  base-size (suc (suc t)) load h = refl

  pub class-length : (tag load : ℕ) → legal_base (length ats) tag load ≡ true → tag ≡ 1 → length (print_base bytes ats lens tag load) ≡ get_or lens load 0 + 2
  class-length tag load h e = base-size tag load h ∙ ap (λ (t : ℕ). base_size lens t load) e

  -- THE LENGTH OF A WORD'S DESCRIPTOR
  pub word-size : (w : ℕ) → legal_word (length ats) w ≡ true → length (print_word bytes ats lens w) ≡ word_size lens w
  unfolding legal_word word_size
  word-size w h = word-parts bytes ats lens w ∙ ap (λ (n : ℕ). dims_of w + n) (base-size (tag_of w) (load_of w) h)

  pub words-size : (ws : List ℕ) → all_legal (length ats) ws ≡ true → length (print_words bytes ats lens ws) ≡ words_size lens ws
  unfolding all_legal words_size print_words print_all print_word
  words-size [] h = refl
  words-size (w ∷ ws) h =
      let b = both (legal_word (length ats) w) (all_legal (length ats) ws) h in
      length-append (print_word bytes ats lens w) (print_words bytes ats lens ws)
      ∙ ap₂ (λ (m n : ℕ). m + n) (word-size w b.0) (words-size ws b.1)

  pub method-size : (ws : List ℕ) (w : ℕ) → all_legal (length ats) ws ≡ true → legal_word (length ats) w ≡ true
      → length (print_method_words bytes ats lens ws w) ≡ method_size lens ws w
  method-size ws w h g =
      let e = method-parts bytes ats lens ws w in
      let p = words-size ws h in
      let r = word-size w g in
      omega arith

-- ---- refusals, and what comes back with them

module _ {refusal : ℕ} {printed out : List ℕ} where
  pub wrote-none : (k : ℕ) {r : Written} → refusal ≡ k → (k ≡ 0 → ⊥) → r ≡ record { refusal = k; «length» = 0 } → Wrote refusal printed out out r
  unfolding answer output
  wrote-none zero e z q = absurd (z refl)
  wrote-none (suc k) e z q = record { result = rw e q; memory = rw e }

  pub wrote-all : {out' : List ℕ} {end : ℕ} → refusal ≡ 0 → Put printed out out' 0 end → length printed ≤ length out
      → Wrote refusal printed out out' (record { refusal = 0; «length» = end })
  unfolding answer output
  wrote-all e p h = record { result = rw (e, p.next, zero-add); memory = rw e (put-whole p h) }

module _ (bytes ats lens : List ℕ) (w room : ℕ) where
  pub type-illegal : legal_word (length ats) w ≡ false → checked_type_refusal bytes ats lens w room ≡ 7
  unfolding checked_type_refusal first_refusal
  type-illegal h = rw h

  pub type-long : legal_word (length ats) w ≡ true → room < length (print_word bytes ats lens w) → checked_type_refusal bytes ats lens w room ≡ 22
  unfolding checked_type_refusal first_refusal
  type-long h l = rw (h, lt-ltb room (length (print_word bytes ats lens w)) l)

  pub type-fits : legal_word (length ats) w ≡ true → length (print_word bytes ats lens w) ≤ room → checked_type_refusal bytes ats lens w room ≡ 0
  unfolding checked_type_refusal first_refusal
  type-fits h l = rw (h, le-ltb room (length (print_word bytes ats lens w)) l)

module _ (bytes ats lens params : List ℕ) (result room : ℕ) where
  pub method-many : 255 < length params → checked_method_refusal bytes ats lens params result room ≡ 8
  unfolding checked_method_refusal first_refusal
  method-many h = rw (lt-ltb 255 (length params) h)

  pub method-illegal : length params ≤ 255 → (all_legal (length ats) params && legal_word (length ats) result) ≡ false
      → checked_method_refusal bytes ats lens params result room ≡ 7
  unfolding checked_method_refusal first_refusal
  method-illegal h g = rw (le-ltb 255 (length params) h, g)

  pub method-long : length params ≤ 255 → all_legal (length ats) params ≡ true → legal_word (length ats) result ≡ true
      → room < length (print_method_words bytes ats lens params result) → checked_method_refusal bytes ats lens params result room ≡ 22
  unfolding checked_method_refusal first_refusal
  method-long h p g l = rw (le-ltb 255 (length params) h, p, g, lt-ltb room (length (print_method_words bytes ats lens params result)) l)

  pub method-fits : length params ≤ 255 → all_legal (length ats) params ≡ true → legal_word (length ats) result ≡ true
      → length (print_method_words bytes ats lens params result) ≤ room → checked_method_refusal bytes ats lens params result room ≡ 0
  unfolding checked_method_refusal first_refusal
  method-fits h p g l = rw (le-ltb 255 (length params) h, p, g, le-ltb room (length (print_method_words bytes ats lens params result)) l)

-- the names' refusal first
module _ (bytes ats lens : List ℕ) (k : ℕ) (e : k ≡ check_names bytes ats lens) where
  pub type-unnamed : (w room : ℕ) → (k ≡ 0 → ⊥) → type_refusal bytes ats lens w room ≡ k
  unfolding type_refusal
  type-unnamed w room z = rw (← e) (else-some k (checked_type_refusal bytes ats lens w room) z)

  pub type-named : (w room : ℕ) → k ≡ 0 → type_refusal bytes ats lens w room ≡ checked_type_refusal bytes ats lens w room
  unfolding type_refusal
  type-named w room z = rw (← e) (else-none k (checked_type_refusal bytes ats lens w room) z)

  pub method-unnamed : (params : List ℕ) (result room : ℕ) → (k ≡ 0 → ⊥) → method_refusal bytes ats lens params result room ≡ k
  unfolding method_refusal
  method-unnamed params result room z = rw (← e) (else-some k (checked_method_refusal bytes ats lens params result room) z)

  pub method-named : (params : List ℕ) (result room : ℕ) → k ≡ 0
      → method_refusal bytes ats lens params result room ≡ checked_method_refusal bytes ats lens params result room
  unfolding method_refusal
  method-named params result room z = rw (← e) (else-none k (checked_method_refusal bytes ats lens params result room) z)

-- the same refusal, put otherwise
pub wrote-as : {k m : ℕ} {printed out out' : List ℕ} {r : Written} → m ≡ k → Wrote k printed out out' r → Wrote m printed out out' r
wrote-as e p = record { result = rw e p.result; memory = rw e p.memory }
