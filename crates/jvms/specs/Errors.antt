-- The errors of ty.rs by their names, and the refusals that they are: DescriptorParseError's variants in source order are 11 to 17.
-- Laws and examples of what is refused speak in these words.
use Rattle.std.specs.Prelude.{ℕ}
use Rattle.descriptor.specs.Read.{Read, Refused}
use Rattle.methods.specs.Method.{Method, Broken}

-- with an offset, and a byte where there is one
pub data ParseError : Type 0 where
  UnexpectedEnd : ℕ → ParseError
  UnexpectedByte : ℕ → ℕ → ParseError
  VoidNotAllowed : ℕ → ParseError
  EmptyObject : ℕ → ParseError
  TrailingInput : ℕ → ParseError
  MissingMethodStart : ParseError
  MissingMethodEnd : ℕ → ParseError
  -- added by the scope paper: the 256th '[', the 256th parameter, a name that is not strict
  TooDeep : ℕ → ParseError
  TooMany : ℕ → ParseError
  NotStrict : ℕ → ParseError

abbrev pub number : ParseError → ℕ
number (UnexpectedEnd at) = 11
number (UnexpectedByte at b) = 12
number (VoidNotAllowed at) = 13
number (EmptyObject at) = 14
number (TrailingInput at) = 15
number MissingMethodStart = 16
number (MissingMethodEnd at) = 17
number (TooDeep at) = 18
number (TooMany at) = 19
number (NotStrict at) = 24

-- 0 where the error has none
abbrev pub offset : ParseError → ℕ
offset (UnexpectedEnd at) = at
offset (UnexpectedByte at b) = at
offset (VoidNotAllowed at) = at
offset (EmptyObject at) = at
offset (TrailingInput at) = at
offset MissingMethodStart = 0
offset (MissingMethodEnd at) = at
offset (TooDeep at) = at
offset (TooMany at) = at
offset (NotStrict at) = at

-- 0 where the error has none
abbrev pub told : ParseError → ℕ
told (UnexpectedEnd at) = 0
told (UnexpectedByte at b) = b
told (VoidNotAllowed at) = 0
told (EmptyObject at) = 0
told (TrailingInput at) = 0
told MissingMethodStart = 0
told (MissingMethodEnd at) = 0
told (TooDeep at) = 0
told (TooMany at) = 0
told (NotStrict at) = 0

abbrev pub type_error : ParseError → Read
type_error e = Refused (number e) (offset e) (told e)

abbrev pub method_error : ParseError → Method
method_error e = Broken (number e) (offset e) (told e)
