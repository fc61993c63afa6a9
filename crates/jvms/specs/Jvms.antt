-- The grammar of JVMS 4.3.2 and 4.3.3 as relations between the bytes of a descriptor and what it stands for: a constructor for each production,
-- which stands in the comment over it. A terminal is its ASCII byte. Names are in UTF-8, not in the modified form of 4.4.7.
use mathlib.Core.List.{List, [], ◌∷◌, ◌++◌, Memᴰ}
use Rattle.std.specs.Prelude.{ℕ, suc, ◌<◌, length}
use Rattle.text.specs.Text.{byte}
use Rattle.ty.specs.Types.{Void, Boolean, Byte, Short, Char, Int, Long, Float, Double}
use Rattle.utf8.specs.Utf8.{WellFormed}

-- ---- what a descriptor stands for

-- a primitive type or void, by its category; the class of that name; the arrays of a type
pub data JavaType : Type 0 where
  Primitive : ℕ → JavaType
  Object : List ℕ → JavaType
  Array : JavaType → JavaType

unfoldable pub dimensions : JavaType → ℕ
dimensions (Primitive k) = 0
dimensions (Object name) = 0
dimensions (Array t) = suc (dimensions t)

-- ---- 4.2: names

-- one code point or more, none of them among these ASCII characters; in UTF-8 a character's byte is no part of another one
pub record NameWithout (characters name : List ℕ) : Type 0 where
  pub not_empty : 0 < length name
  pub well_formed : WellFormed name
  pub without : (c : ℕ) → Memᴰ c characters → Memᴰ c name → ⊥

-- 4.2.2: an unqualified name has at least one code point and none of  . ; [ /
abbrev pub UnqualifiedName : List ℕ → Type 0
UnqualifiedName = NameWithout (byte "." ∷ byte ";" ∷ byte "[" ∷ byte "/" ∷ [])

-- 4.2.1: identifiers with a / between them, each an unqualified name
pub data ClassName : List ℕ → Type 0 where
  -- Identifier
  last : {name : List ℕ} → UnqualifiedName name → ClassName name
  -- Identifier / ClassName
  qualified : {name rest : List ℕ} → UnqualifiedName name → ClassName rest → ClassName (name ++ byte "/" ∷ rest)

-- what ordinary reading takes in place of a ClassName: any name without  ;
abbrev pub AnyName : List ℕ → Type 0
AnyName = NameWithout (byte ";" ∷ [])

-- ---- 4.3.2: field descriptors

-- BaseType: (one of) B C D F I J S Z, with the types of table 4.3-A
pub data BaseType : ℕ → ℕ → Type 0 where
  B : BaseType (byte "B") Byte
  C : BaseType (byte "C") Char
  D : BaseType (byte "D") Double
  F : BaseType (byte "F") Float
  I : BaseType (byte "I") Int
  J : BaseType (byte "J") Long
  S : BaseType (byte "S") Short
  Z : BaseType (byte "Z") Boolean

-- FieldDescriptor: FieldType. What a ClassName is stays open: `Name` is ClassName for the JVMS, AnyName for ordinary reading
pub data FieldType (Name : List ℕ → Type 0) : List ℕ → JavaType → Type 0 where
  -- FieldType: BaseType
  base : {b k : ℕ} → BaseType b k → FieldType Name (b ∷ []) (Primitive k)
  -- FieldType: ObjectType (since Java 9: ClassType); ObjectType: L ClassName ;
  object : {name : List ℕ} → Name name → FieldType Name (byte "L" ∷ name ++ byte ";" ∷ []) (Object name)
  -- FieldType: ArrayType; ArrayType: [ ComponentType; ComponentType: FieldType
  array : {bs : List ℕ} {t : JavaType} → FieldType Name bs t → FieldType Name (byte "[" ∷ bs) (Array t)

-- ---- 4.3.3: method descriptors

pub data ReturnDescriptor (Name : List ℕ → Type 0) : List ℕ → JavaType → Type 0 where
  -- ReturnDescriptor: FieldType
  field : {bs : List ℕ} {t : JavaType} → FieldType Name bs t → ReturnDescriptor Name bs t
  -- ReturnDescriptor: VoidDescriptor; VoidDescriptor: V
  void : ReturnDescriptor Name (byte "V" ∷ []) (Primitive Void)

-- a parameter: its descriptor and the type that this stands for
pub record Parameter : Type 0 where
  pub bytes : List ℕ
  pub type : JavaType

-- {ParameterDescriptor}: any number of them, in order
pub data Parameters (Name : List ℕ → Type 0) : List ℕ → List Parameter → Type 0 where
  -- no further one
  none : Parameters Name [] []
  -- ParameterDescriptor: FieldType
  more : {bs rest : List ℕ} {t : JavaType} {ps : List Parameter} → FieldType Name bs t → Parameters Name rest ps
      → Parameters Name (bs ++ rest) (record { bytes = bs; type = t } ∷ ps)

-- what a method descriptor stands for
pub record Signature : Type 0 where
  pub parameters : List Parameter
  pub result : JavaType

pub data MethodDescriptor (Name : List ℕ → Type 0) : List ℕ → Signature → Type 0 where
  -- MethodDescriptor: ( {ParameterDescriptor} ) ReturnDescriptor
  method : {bs end : List ℕ} {ps : List Parameter} {t : JavaType} → Parameters Name bs ps → ReturnDescriptor Name end t
      → MethodDescriptor Name (byte "(" ∷ bs ++ byte ")" ∷ end) (record { parameters = ps; result = t })
