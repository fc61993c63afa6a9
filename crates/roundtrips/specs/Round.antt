-- Reading then writing gives the same bytes back, and writing then reading the same type.
use Rattle.std.specs.Prelude.{◌≡◌, get_or, drop}
use Rattle.std.proofs.Math.Path.{refl, ap, ap₂, subst}
use Rattle.std.proofs.Common.{sym, ◌∙◌, length-append}
use Rattle.std.proofs.Math.Bool.{true}
use mathlib.Core.List.{List, [], ◌∷◌, ◌++◌}
use Rattle.std.proofs.Math.Option.{Option, some, map, bind, bind-eq-some_iff, map-eq-some_iff}
use Prim.Native.Nat.{ℕ, suc, ◌+◌, ◌^◌, ◌≤◌, ◌<◌}
use native.Mathlib.Omega.{arith}
use Rattle.std.proofs.Math.ListN.{length}
use Rattle.order.specs.Truth.{both}
use Rattle.ty.specs.Types.{ArgType, Primitive, Object, Array, Unknown, depth}
use Rattle.ty.specs.Words.{type_of, word_of, legal_word, legal_type, all_legal}
use Rattle.ty.specs.Round.{word-type, legal-of-word, word-of-type}
use Rattle.names.specs.Names.{name_at, check_names, lookup}
use Rattle.names.specs.Table.{Checked, checked}
use Rattle.names.specs.Lookup.{lookup-told}
use Rattle.descriptor.specs.Read.{Found, read_whole}
use Rattle.methods.specs.Method.{read_method}
use Rattle.jvms.specs.Jvms.{dimensions, AnyName, Signature, MethodDescriptor, MethodDescriptor.method}
use Rattle.jvms.specs.Meaning.{type_read, method_read, Limits, placed}
use Rattle.jvms.specs.JvmsTheorem.{ordinary-type, ordinary-type-place, ordinary-method}
use Rattle.writer.specs.Print.{Written, print, print_all, print_method, print_word, print_method_words, types_of, type_refusal, method_refusal, answer, output, Wrote}
use Rattle.roundtrips.specs.ToWord.{to_type, read_as, to_word, MethodType, method_type, MethodWords, method_words, to_types, to_method, read_method_as, words_of, to_words}
use Rattle.roundtrips.specs.Derived.{limits-parts, return-printed, method-printed, legal_types, return-legal, parameters-legal}
use Rattle.roundtrips.specs.Readable.{readable, all_readable, named, all_named, named-depth, named-length, named-low, return-derived, named-back, parameters-derived, all-back}
use Rattle.writer.specs.Steps.{type-named, type-fits, method-named, method-fits}

-- ---- the length of a descriptor

-- without its dimensions
unfoldable pub base_length : (ℕ → List ℕ) → ArgType → ℕ
base_length name (Primitive k) = 1
base_length name (Object c) = length (name c) + 2
base_length name (Array t) = base_length name t
base_length name (Unknown cs) = 1

-- A BYTE FOR EACH DIMENSION, ONE FOR A LETTER OR `?`, AND TWO BESIDE A NAME
pub print-length : (name : ℕ → List ℕ) (t : ArgType) → length (print name t) ≡ depth t + base_length name t
unfolding print depth base_length
print-length name (Primitive k) = refl
print-length name (Object c) = let a = length-append (name c) (59 ∷ []) in omega arith
print-length name (Array t) = let r = print-length name t in omega arith
print-length name (Unknown cs) = refl

-- AND TWO FOR A METHOD'S BRACKETS
pub method-length : (name : ℕ → List ℕ) (params : List ArgType) (result : ArgType)
    → length (print_method name params result) ≡ length (print_all name params) + length (print name result) + 2
unfolding print_method
method-length name params result =
    let a = length-append (print_all name params) (41 ∷ print name result) in omega arith

-- the lengths of types, summed
unfoldable pub sum_lengths : (ℕ → List ℕ) → List ArgType → ℕ
sum_lengths name [] = 0
sum_lengths name (t ∷ ts) = depth t + base_length name t + sum_lengths name ts

-- A METHOD IS AS LONG AS ITS PARAMETERS AND ITS RESULT TOGETHER, AND TWO MORE
pub method-sum : (name : ℕ → List ℕ) (params : List ArgType) (result : ArgType)
    → length (print_method name params result) ≡ sum_lengths name params + (depth result + base_length name result) + 2
unfolding print_all sum_lengths
method-sum name params result = rw (method-length name params result, all-sum params, print-length name result)
  where
    all-sum : (ts : List ArgType) → length (print_all name ts) ≡ sum_lengths name ts
    all-sum [] = refl
    all-sum (t ∷ ts) = rw (length-append (print name t) (print_all name ts), print-length name t, all-sum ts)

-- ---- reading then writing

-- `name` gives the name of each number that `find` finds
module _ (name : ℕ → List ℕ) (find : List ℕ → Option ℕ) (holds : (n : List ℕ) (c : ℕ) → find n ≡ some c → name c ≡ n) where
  -- WHAT A DESCRIPTOR IS READ AS IS WRITTEN AS THAT DESCRIPTOR
  pub read-write : (d : List ℕ) (t : ArgType) → read_as find d ≡ some t → print name t ≡ d
  unfolding read_as
  read-write d t e =
      let f = (bind-eq-some_iff (type_read d (read_whole d)) (to_type find)).0 e in
      return-printed name find holds ((ordinary-type d f.0).0 f.1).0 t f.2

  -- AND SO IT IS WITH METHODS
  pub read-write-method : (d : List ℕ) (m : MethodType) → read_method_as find d ≡ some m → print_method name m.params m.result ≡ d
  unfolding read_method_as
  read-write-method d m e =
      let f = (bind-eq-some_iff (method_read d (read_method d)) (to_method find)).0 e in
      method-printed name find holds ((ordinary-method d f.0).0 f.1).0 m f.2

-- ---- the same of words, over a table of names that was checked

-- what is promised of a method's words: they are written as d, and nothing of them is refused
pub record WritesBack (bytes ats lens d : List ℕ) (m : MethodWords) : Type 0 where
  pub same : print_method_words bytes ats lens m.params m.result ≡ d
  pub parameters : all_legal (length ats) m.params ≡ true
  pub returned : legal_word (length ats) m.result ≡ true
  pub count : length m.params ≤ 255

module _ (bytes ats lens : List ℕ) (k : Checked bytes ats lens) where
  held : (n : List ℕ) (c : ℕ) → lookup bytes ats lens n ≡ some c → name_at bytes ats lens c ≡ n
  held n c e = (lookup-told bytes ats lens n c e).1

  -- a type within the limits is that of its word
  there : (t : ArgType) → legal_type (length ats) t ≡ true → (type_of (word_of t) ≡ t) × (legal_word (length ats) (word_of t) ≡ true)
  there t h =
      let w = word-type (length ats) t (let n = k.few in omega arith) h in
      (w.0, w.1)

  read-legal : (d : List ℕ) (t : ArgType) → read_as (lookup bytes ats lens) d ≡ some t → legal_type (length ats) t ≡ true
  unfolding read_as
  read-legal d t e =
      let f = (bind-eq-some_iff (type_read d (read_whole d)) (to_type (lookup bytes ats lens))).0 e in
      let r = (ordinary-type d f.0).0 f.1 in
      return-legal bytes ats lens r.0 r.1 t f.2

  -- READING A DESCRIPTOR AND WRITING ITS WORD GIVES THE SAME BYTES
  pub read-write-word : (d : List ℕ) (w : ℕ) → to_word bytes ats lens d ≡ some w → (print_word bytes ats lens w ≡ d) × (legal_word (length ats) w ≡ true)
  unfolding to_word print_word
  read-write-word d w e =
      let f = (map-eq-some_iff word_of (read_as (lookup bytes ats lens) d)).0 e in
      let b = there f.0 (read-legal d f.0 f.1) in
      subst (λ (v : ℕ). (print (name_at bytes ats lens) (type_of v) ≡ d) × (legal_word (length ats) v ≡ true)) f.2
      (ap (print (name_at bytes ats lens)) b.0 ∙ read-write (name_at bytes ats lens) (lookup bytes ats lens) held d f.0 f.1, b.1)

  there-all : (ts : List ArgType) → legal_types (length ats) ts ≡ true
      → (types_of (words_of ts) ≡ ts) × (all_legal (length ats) (words_of ts) ≡ true) × (length (words_of ts) ≡ length ts)
  unfolding legal_types words_of all_legal
  there-all [] h = (refl, refl, refl)
  there-all (t ∷ ts) h =
      let b = both (legal_type (length ats) t) (legal_types (length ats) ts) h in
      let a = there t b.0 in
      let r = there-all ts b.1 in
      (ap₂ (λ (x : ArgType) (xs : List ArgType). x ∷ xs) a.0 r.0, rw a.1 r.1, ap suc r.2)

  -- what a method is read as is within the limits
  record Within (m : MethodType) : Type 0 where
    pub parameters : legal_types (length ats) m.params ≡ true
    pub count : length m.params ≤ 255
    pub returned : legal_type (length ats) m.result ≡ true

  method-within : {xs : List ℕ} {g : Signature} → MethodDescriptor AnyName xs g → Limits g → (m : MethodType) → to_method (lookup bytes ats lens) g ≡ some m → Within m
  unfolding to_method
  method-within (method {ps} {t = j} l r) limits m e =
      let f = (bind-eq-some_iff (to_types (lookup bytes ats lens) ps) (λ ts. map (method_type ts) (to_type (lookup bytes ats lens) j))).0 e in
      let g = (map-eq-some_iff (method_type f.0) (to_type (lookup bytes ats lens) j)).0 f.2 in
      let p = parameters-legal bytes ats lens l limits.each f.0 f.1 in
      subst Within g.2 (record {
        parameters = p.0;
        count = let n = p.1 in let most = limits.parameters in omega arith;
        returned = return-legal bytes ats lens r limits.result g.0 g.1;
      })

  read-within : (d : List ℕ) (m : MethodType) → read_method_as (lookup bytes ats lens) d ≡ some m → Within m
  unfolding read_method_as
  read-within d m e =
      let f = (bind-eq-some_iff (method_read d (read_method d)) (to_method (lookup bytes ats lens))).0 e in
      let r = (ordinary-method d f.0).0 f.1 in
      method-within r.0 r.1 m f.2

  -- THE SAME OF A METHOD
  pub read-write-words : (d : List ℕ) (m : MethodWords) → to_words bytes ats lens d ≡ some m → WritesBack bytes ats lens d m
  unfolding to_words print_method_words
  read-write-words d m e =
      let f = (map-eq-some_iff method_words (read_method_as (lookup bytes ats lens) d)).0 e in
      let w = read-within d f.0 f.1 in
      let ps = there-all f.0.params w.parameters in
      let r = there f.0.result w.returned in
      subst (WritesBack bytes ats lens d) f.2 (record {
        same = ap₂ (print_method (name_at bytes ats lens)) ps.0 r.0 ∙ read-write-method (name_at bytes ats lens) (lookup bytes ats lens) held d f.0 f.1;
        parameters = ps.1;
        returned = r.1;
        count = let n = ps.2 in let l = w.count in omega arith;
      })

-- ---- writing then reading

module _ (bytes ats lens : List ℕ) (k : Checked bytes ats lens) where
  -- A READABLE TYPE IS READ BACK FROM ITS DESCRIPTOR
  pub write-read : (t : ArgType) → legal_type (length ats) t ≡ true → readable (name_at bytes ats lens) true t ≡ true
      → read_as (lookup bytes ats lens) (print (name_at bytes ats lens) t) ≡ some t
  unfolding read_as bind
  write-read t h r =
      let s = limits-parts (length ats) t h in
      let j = named (name_at bytes ats lens) t in
      let e = named-depth (name_at bytes ats lens) t in
      let d = (ordinary-type (print (name_at bytes ats lens) t) j).1 (return-derived bytes ats lens k t s.1 r, (let q : dimensions j ≤ 255 = omega arith in q)) in
      rw d (named-back bytes ats lens k true t s.1 r)

  -- BY ITS DIMENSIONS AND THE PLACE OF ITS NAME
  pub write-read-place : (t : ArgType) → legal_type (length ats) t ≡ true → readable (name_at bytes ats lens) true t ≡ true
      → read_whole (print (name_at bytes ats lens) t) ≡ Found (depth t) (placed 0 (named (name_at bytes ats lens) t)) (length (print (name_at bytes ats lens) t))
  write-read-place t h r =
      let s = limits-parts (length ats) t h in
      let e = named-depth (name_at bytes ats lens) t in
      ordinary-type-place (return-derived bytes ats lens k t s.1 r) (omega arith)
      ∙ ap (λ (d : ℕ). Found d (placed 0 (named (name_at bytes ats lens) t)) (length (print (name_at bytes ats lens) t))) e

  -- AND SO IS A METHOD OF AT MOST 255 READABLE PARAMETERS
  pub write-read-method : (ts : List ArgType) (t : ArgType) → length ts ≤ 255
      → legal_types (length ats) ts ≡ true → all_readable (name_at bytes ats lens) ts ≡ true
      → legal_type (length ats) t ≡ true → readable (name_at bytes ats lens) true t ≡ true
      → read_method_as (lookup bytes ats lens) (print_method (name_at bytes ats lens) ts t) ≡ some (method_type ts t)
  unfolding read_method_as bind to_method print_method
  write-read-method ts t n hs rs h r =
      let name = name_at bytes ats lens in
      let s = limits-parts (length ats) t h in
      let e = named-depth name t in
      let c = named-length name ts in
      let g : Signature = record { parameters = all_named name ts; result = named name t } in
      let low : Limits g = record {
        parameters = let q : length (all_named name ts) ≤ 255 = omega arith in q;
        each = named-low name (length ats) ts hs;
        result = let q : dimensions (named name t) ≤ 255 = omega arith in q;
      } in
      let d = (ordinary-method (print_method name ts t) g).1 (method (parameters-derived bytes ats lens k ts hs rs) (return-derived bytes ats lens k t s.1 r), low) in
      rw (d, all-back bytes ats lens k ts hs rs, named-back bytes ats lens k true t s.1 r)

  -- THE SAME OF WORDS
  pub write-read-word : (w : ℕ) → w < 2 ^ 64 → legal_word (length ats) w ≡ true → readable (name_at bytes ats lens) true (type_of w) ≡ true
      → to_word bytes ats lens (print_word bytes ats lens w) ≡ some w
  unfolding to_word print_word
  write-read-word w l h r =
      ap (map word_of) (write-read (type_of w) (legal-of-word (length ats) w l h) r) ∙ ap some (word-of-type (length ats) w h)

  words-back : (ws : List ℕ) → ((i : ℕ) → get_or ws i 0 < 2 ^ 64) → all_legal (length ats) ws ≡ true
      → (words_of (types_of ws) ≡ ws) × (legal_types (length ats) (types_of ws) ≡ true) × (length (types_of ws) ≡ length ws)
  unfolding all_legal words_of legal_types
  words-back [] l h = (refl, refl, refl)
  words-back (w ∷ ws) l h =
      let b = both (legal_word (length ats) w) (all_legal (length ats) ws) h in
      let r = words-back ws (λ i. l (suc i)) b.1 in
      (ap₂ (λ (x : ℕ) (xs : List ℕ). x ∷ xs) (word-of-type (length ats) w b.0) r.0, rw (legal-of-word (length ats) w (l 0) b.0) r.1, ap suc r.2)

  -- AND OF A METHOD'S WORDS
  pub write-read-words : (params : List ℕ) (result : ℕ) → length params ≤ 255
      → ((i : ℕ) → get_or params i 0 < 2 ^ 64) → all_legal (length ats) params ≡ true → all_readable (name_at bytes ats lens) (types_of params) ≡ true
      → result < 2 ^ 64 → legal_word (length ats) result ≡ true → readable (name_at bytes ats lens) true (type_of result) ≡ true
      → to_words bytes ats lens (print_method_words bytes ats lens params result) ≡ some (record { params = params; result = result })
  unfolding to_words print_method_words
  write-read-words params result n ls hs rs l h r =
      let b = words-back params ls hs in
      let q = b.2 in
      ap (map method_words) (write-read-method (types_of params) (type_of result) (omega arith) b.1 rs (legal-of-word (length ats) result l h) r)
      ∙ ap₂ (λ (ws : List ℕ) (w : ℕ). some (record { params = ws; result = w })) b.0 (word-of-type (length ats) result h)

-- ---- what the writers leave of what was read: the same bytes, and their number

module _ (bytes ats lens d out : List ℕ) (named : check_names bytes ats lens ≡ 0) (room : length d ≤ length out) where
  whole : Written
  whole = record { refusal = 0; «length» = length d }

  left : {refusal : ℕ} {printed : List ℕ} → refusal ≡ 0 → printed ≡ d → Wrote refusal printed out (d ++ drop (length d) out) whole
  unfolding whole answer output
  left e p = record { result = rw (e, p); memory = rw (e, p) }

  -- A TYPE THAT WAS READ IS WRITTEN AS IT WAS
  pub type-again : (w : ℕ) → to_word bytes ats lens d ≡ some w
      → Wrote (type_refusal bytes ats lens w (length out)) (print_word bytes ats lens w) out (d ++ drop (length d) out) (record { refusal = 0; «length» = length d })
  unfolding whole
  type-again w e =
      let b = read-write-word bytes ats lens (checked bytes ats lens named) d w e in
      let n = ap length b.0 in
      left (type-named bytes ats lens 0 (sym named) w (length out) refl ∙ type-fits bytes ats lens w (length out) b.1 (omega arith)) b.0

  -- A METHOD THE SAME
  pub method-again : (m : MethodWords) → to_words bytes ats lens d ≡ some m
      → Wrote (method_refusal bytes ats lens m.params m.result (length out)) (print_method_words bytes ats lens m.params m.result) out
      (d ++ drop (length d) out) (record { refusal = 0; «length» = length d })
  unfolding whole
  method-again m e =
      let b = read-write-words bytes ats lens (checked bytes ats lens named) d m e in
      let n = ap length b.same in
      left (method-named bytes ats lens 0 (sym named) m.params m.result (length out) refl
      ∙ method-fits bytes ats lens m.params m.result (length out) b.count b.parameters b.returned (omega arith)) b.same
