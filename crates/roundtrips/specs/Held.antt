-- Which descriptors have a word over a table of names: those that are read, where the table holds each class's name.
use Rattle.std.specs.Prelude.{◌≡◌, refl, ◌↔◌, length}
use Rattle.std.proofs.Common.{sym}
use Rattle.std.proofs.Math.Path.{ap, subst}
use mathlib.Core.List.Memᴰ
use mathlib.Core.List.{List, [], ◌∷◌, Memᴰ}
use Rattle.std.proofs.Math.Option.{Option, some, map, bind, bind-eq-some_iff, map-eq-some_iff}
use Prim.Native.Nat.{ℕ, ◌<◌}
use Rattle.ty.specs.Types.{ArgType, Primitive, Object, Array}
use Rattle.ty.specs.Words.{word_of}
use Rattle.names.specs.Names.{name_at, lookup}
use Rattle.names.specs.Table.{Checked}
use Rattle.names.specs.Lookup.{lookup-is}
use Rattle.descriptor.specs.Read.{read_whole}
use Rattle.methods.specs.Method.{read_method}
use Rattle.jvms.specs.Jvms as jvms
use Rattle.jvms.specs.Jvms.{JavaType, Parameter, Signature}
use Rattle.jvms.specs.Meaning.{type_read, method_read}
use Rattle.writer.specs.Print.{print_word, print_method_words}
use Rattle.roundtrips.specs.ToWord.{to_type, read_as, to_word, method_type, MethodWords, method_words, to_types, to_method, read_method_as, to_words}
use Rattle.roundtrips.specs.Round.{read-write-word, read-write-words}

-- the table holds the type's class, if it has one
abbrev pub Holds : List ℕ → List ℕ → List ℕ → JavaType → Type 0
Holds bytes ats lens (jvms.Primitive k) = Unit {0}
Holds bytes ats lens (jvms.Object name) = (c : ℕ) × (c < length ats) × (name_at bytes ats lens c ≡ name)
Holds bytes ats lens (jvms.Array t) = Holds bytes ats lens t

-- and those of a method
pub record HoldsAll (bytes ats lens : List ℕ) (m : Signature) : Type 0 where
  pub parameters : (p : Parameter) → Memᴰ p m.parameters → Holds bytes ats lens p.type
  pub result : Holds bytes ats lens m.result

module _ (bytes ats lens : List ℕ) (k : Checked bytes ats lens) where
  -- ---- a type

  type-there : (j : JavaType) → Holds bytes ats lens j → (t : ArgType) × (to_type (lookup bytes ats lens) j ≡ some t)
  unfolding to_type
  type-there (jvms.Primitive c) h = (Primitive c, refl)
  type-there (jvms.Object name) h = (Object h.0, ap (map Object) ((lookup-is bytes ats lens name k h.0).1 (h.1, h.2)))
  type-there (jvms.Array j) h = let r = type-there j h in (Array r.0, ap (map Array) r.1)

  type-held : (j : JavaType) (t : ArgType) → to_type (lookup bytes ats lens) j ≡ some t → Holds bytes ats lens j
  unfolding to_type
  type-held (jvms.Primitive c) t e = tt
  type-held (jvms.Object name) t e =
      let f = (map-eq-some_iff Object (lookup bytes ats lens name)).0 e in
      let l = (lookup-is bytes ats lens name k f.0).0 f.1 in
      (f.0, l.0, l.1)
  type-held (jvms.Array j) t e = let f = (map-eq-some_iff Array (to_type (lookup bytes ats lens) j)).0 e in type-held j f.0 f.1

  -- A DESCRIPTOR HAS A WORD EXACTLY IF IT IS READ AND THE TABLE HOLDS ITS CLASS
  pub word-there : (d : List ℕ)
      → ((w : ℕ) × (to_word bytes ats lens d ≡ some w)) ↔ ((j : JavaType) × (type_read d (read_whole d) ≡ some j) × Holds bytes ats lens j)
  unfolding to_word read_as bind
  word-there d = (held, there)
    where
      held : (w : ℕ) × (to_word bytes ats lens d ≡ some w) → (j : JavaType) × (type_read d (read_whole d) ≡ some j) × Holds bytes ats lens j
      held h =
          let f = (map-eq-some_iff word_of (read_as (lookup bytes ats lens) d)).0 h.1 in
          let g = (bind-eq-some_iff (type_read d (read_whole d)) (to_type (lookup bytes ats lens))).0 f.1 in
          (g.0, g.1, type-held g.0 f.0 g.2)

      there : (j : JavaType) × (type_read d (read_whole d) ≡ some j) × Holds bytes ats lens j → (w : ℕ) × (to_word bytes ats lens d ≡ some w)
      there h = let t = type-there h.0 h.2 in (word_of t.0, rw (h.1, t.1))

  -- SO A TYPE THAT IS READ, WHOSE CLASS THE TABLE HOLDS, IS WRITTEN BACK
  pub held-again : (d : List ℕ) (j : JavaType) → type_read d (read_whole d) ≡ some j → Holds bytes ats lens j
      → (w : ℕ) × (to_word bytes ats lens d ≡ some w) × (print_word bytes ats lens w ≡ d)
  held-again d j e h =
      let w = (word-there d).1 (j, e, h) in
      (w.0, w.1, (read-write-word bytes ats lens k d w.0 w.1).0)

  -- ---- a method

  types-there : (ps : List Parameter) → ((p : Parameter) → Memᴰ p ps → Holds bytes ats lens p.type)
      → (ts : List ArgType) × (to_types (lookup bytes ats lens) ps ≡ some ts)
  unfolding to_types bind
  types-there [] h = ([], refl)
  types-there (p ∷ ps) h =
      let t = type-there p.type (h p (Memᴰ.head refl)) in
      let r = types-there ps (λ q m. h q (Memᴰ.tail m)) in
      (t.0 ∷ r.0, rw (t.1, r.1))

  types-held : (ps : List Parameter) (ts : List ArgType) → to_types (lookup bytes ats lens) ps ≡ some ts
      → (p : Parameter) → Memᴰ p ps → Holds bytes ats lens p.type
  unfolding to_types
  types-held [] ts e p m = absurd (Memᴰ.not-nil m)
  types-held (q ∷ ps) ts e p m =
      let f = (bind-eq-some_iff (to_type (lookup bytes ats lens) q.type) (λ a. map (λ as'. a ∷ as') (to_types (lookup bytes ats lens) ps))).0 e in
      let g = (map-eq-some_iff (λ as'. f.0 ∷ as') (to_types (lookup bytes ats lens) ps)).0 f.2 in
      go (type-held q.type f.0 f.1) (types-held ps g.0 g.1) m
    where
      go : Holds bytes ats lens q.type → ((p : Parameter) → Memᴰ p ps → Holds bytes ats lens p.type) → Memᴰ p (q ∷ ps) → Holds bytes ats lens p.type
      go here others (Memᴰ.head e) = subst (λ (x : Parameter). Holds bytes ats lens x.type) (sym e) here
      go here others (Memᴰ.tail n) = others p n

  -- A METHOD HAS WORDS EXACTLY IF IT IS READ AND THE TABLE HOLDS EACH OF ITS CLASSES
  pub words-there : (d : List ℕ)
      → ((u : MethodWords) × (to_words bytes ats lens d ≡ some u)) ↔ ((m : Signature) × (method_read d (read_method d) ≡ some m) × HoldsAll bytes ats lens m)
  unfolding to_words read_method_as to_method bind
  words-there d = (held, there)
    where
      find : List ℕ → Option ℕ
      find = lookup bytes ats lens

      held : (u : MethodWords) × (to_words bytes ats lens d ≡ some u) → (m : Signature) × (method_read d (read_method d) ≡ some m) × HoldsAll bytes ats lens m
      held h =
          let f = (map-eq-some_iff method_words (read_method_as find d)).0 h.1 in
          let g = (bind-eq-some_iff (method_read d (read_method d)) (to_method find)).0 f.1 in
          let p = (bind-eq-some_iff (to_types find g.0.parameters) (λ ts. map (method_type ts) (to_type find g.0.result))).0 g.2 in
          let r = (map-eq-some_iff (method_type p.0) (to_type find g.0.result)).0 p.2 in
          (g.0, g.1, record { parameters = types-held g.0.parameters p.0 p.1; result = type-held g.0.result r.0 r.1 })

      there : (m : Signature) × (method_read d (read_method d) ≡ some m) × HoldsAll bytes ats lens m → (u : MethodWords) × (to_words bytes ats lens d ≡ some u)
      there h =
          let ts = types-there h.0.parameters h.2.parameters in
          let t = type-there h.0.result h.2.result in
          (method_words (method_type ts.0 t.0), rw (h.1, ts.1, t.1))

  -- SO A METHOD THAT IS READ, WHOSE CLASSES THE TABLE HOLDS, IS WRITTEN BACK
  pub held-method-again : (d : List ℕ) (m : Signature) → method_read d (read_method d) ≡ some m → HoldsAll bytes ats lens m
      → (u : MethodWords) × (to_words bytes ats lens d ≡ some u) × (print_method_words bytes ats lens u.params u.result ≡ d)
  held-method-again d m e h =
      let u = (words-there d).1 (m, e, h) in
      (u.0, u.1, (read-write-words bytes ats lens k d u.0 u.1).same)
