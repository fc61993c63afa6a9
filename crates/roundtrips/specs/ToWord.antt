-- A descriptor as a type: what is read, with a class's number for its name; and as the word of that type.
use Rattle.std.specs.Prelude.{List, [], ◌∷◌, ℕ}
use Rattle.std.proofs.Math.Option.{Option, some, map, bind}
use Rattle.ty.specs.Types.{ArgType, Primitive, Object, Array}
use Rattle.ty.specs.Words.{word_of}
use Rattle.names.specs.Names.{lookup}
use Rattle.descriptor.specs.Read.{read_whole}
use Rattle.methods.specs.Method.{read_method}
use Rattle.jvms.specs.Jvms as jvms
use Rattle.jvms.specs.Jvms.{JavaType, Parameter, Signature}
use Rattle.jvms.specs.Meaning.{type_read, method_read}

-- ---- a type

-- `find` gives the number of a class's name
unfoldable pub to_type : (List ℕ → Option ℕ) → JavaType → Option ArgType
to_type find (jvms.Primitive k) = some (Primitive k)
to_type find (jvms.Object name) = map Object (find name)
to_type find (jvms.Array t) = map Array (to_type find t)

-- the type that a descriptor is read as
unfoldable pub read_as : (List ℕ → Option ℕ) → List ℕ → Option ArgType
read_as find d = bind (type_read d (read_whole d)) (to_type find)

-- its word over a table of names
unfoldable pub to_word : List ℕ → List ℕ → List ℕ → List ℕ → Option ℕ
to_word bytes ats lens d = map word_of (read_as (lookup bytes ats lens) d)

-- ---- a method

pub record MethodType : Type 0 where
  pub params : List ArgType
  pub result : ArgType

abbrev pub method_type : List ArgType → ArgType → MethodType
method_type ts t = record { params = ts; result = t }

pub record MethodWords : Type 0 where
  pub params : List ℕ
  pub result : ℕ

-- one more, where it and the others are there
abbrev pub also : {A : Type 0} → Option A → Option (List A) → Option (List A)
also x xs = bind x (λ a. map (λ as'. a ∷ as') xs)

-- of parameters
unfoldable pub to_types : (List ℕ → Option ℕ) → List Parameter → Option (List ArgType)
to_types find [] = some []
to_types find (p ∷ ps) = also (to_type find p.type) (to_types find ps)

-- of a method's parameters and result
unfoldable pub to_method : (List ℕ → Option ℕ) → Signature → Option MethodType
to_method find m =
    bind (to_types find m.parameters) (λ ts. map (method_type ts) (to_type find m.result))

-- the types that a method's descriptor is read as
unfoldable pub read_method_as : (List ℕ → Option ℕ) → List ℕ → Option MethodType
read_method_as find d = bind (method_read d (read_method d)) (to_method find)

unfoldable pub words_of : List ArgType → List ℕ
words_of [] = []
words_of (t ∷ ts) = word_of t ∷ words_of ts

abbrev pub method_words : MethodType → MethodWords
method_words m = record { params = words_of m.params; result = word_of m.result }

-- their words over a table of names
unfoldable pub to_words : List ℕ → List ℕ → List ℕ → List ℕ → Option MethodWords
to_words bytes ats lens d = map method_words (read_method_as (lookup bytes ats lens) d)
