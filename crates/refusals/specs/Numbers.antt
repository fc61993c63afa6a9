-- The number of each refusal; and what comes back of a call, as a number: 0 where nothing is refused.
use Rattle.std.specs.Prelude.{◌≡◌, refl, ℕ, ◌-◌, List, [], ◌∷◌, get_or, Result, Ok, Err}
use Rattle.std.proofs.Common.{sym, ap, ◌∙◌, arith}
use Rattle.refusals.specs.declared.Refusal.{Refusal}
use Rattle.refusals.specs.declared.Refusal.TheVariants.{Line, Kind, Length, KindOrder, NameOrder, Number, NoType, Room, NoObject, Utf8, UnexpectedEnd, UnexpectedByte, VoidNotAllowed, EmptyObject, TrailingInput, MissingMethodStart, MissingMethodEnd, TooManyDimensions, TooManyParameters, Deep, Bounds, Short, Absent, Strict}

abbrev pub number : Refusal → ℕ
number Line = 1
number Kind = 2
number Length = 3
number KindOrder = 4
number NameOrder = 5
number Number = 6
number NoType = 7
number Room = 8
number NoObject = 9
number Utf8 = 10
number UnexpectedEnd = 11
number UnexpectedByte = 12
number VoidNotAllowed = 13
number EmptyObject = 14
number TrailingInput = 15
number MissingMethodStart = 16
number MissingMethodEnd = 17
number TooManyDimensions = 18
number TooManyParameters = 19
number Deep = 20
number Bounds = 21
number Short = 22
number Absent = 23
number Strict = 24

-- the refusals in the order of their numbers, from 1 on
all : List Refusal
all = Line ∷ Kind ∷ Length ∷ KindOrder ∷ NameOrder ∷ Number ∷ NoType ∷ Room ∷ NoObject ∷ Utf8 ∷ UnexpectedEnd ∷ UnexpectedByte ∷ VoidNotAllowed ∷ EmptyObject ∷ TrailingInput ∷ MissingMethodStart ∷ MissingMethodEnd ∷ TooManyDimensions ∷ TooManyParameters ∷ Deep ∷ Bounds ∷ Short ∷ Absent ∷ Strict ∷ []

of_number : ℕ → Refusal
of_number n = get_or all (n - 1) Line

of-number : (r : Refusal) → of_number (number r) ≡ r
unfolding of_number all
of-number Line = refl
of-number Kind = refl
of-number Length = refl
of-number KindOrder = refl
of-number NameOrder = refl
of-number Number = refl
of-number NoType = refl
of-number Room = refl
of-number NoObject = refl
of-number Utf8 = refl
of-number UnexpectedEnd = refl
of-number UnexpectedByte = refl
of-number VoidNotAllowed = refl
of-number EmptyObject = refl
of-number TrailingInput = refl
of-number MissingMethodStart = refl
of-number MissingMethodEnd = refl
of-number TooManyDimensions = refl
of-number TooManyParameters = refl
of-number Deep = refl
of-number Bounds = refl
of-number Short = refl
of-number Absent = refl
of-number Strict = refl

-- no two refusals have one number, and none has 0
pub number-injective : (r s : Refusal) → number r ≡ number s → r ≡ s
number-injective r s e = sym (of-number r) ∙ ap of_number e ∙ of-number s

pub number-some : (r : Refusal) → number r ≡ 0 → ⊥
number-some Line h = omega arith
number-some Kind h = omega arith
number-some Length h = omega arith
number-some KindOrder h = omega arith
number-some NameOrder h = omega arith
number-some Number h = omega arith
number-some NoType h = omega arith
number-some Room h = omega arith
number-some NoObject h = omega arith
number-some Utf8 h = omega arith
number-some UnexpectedEnd h = omega arith
number-some UnexpectedByte h = omega arith
number-some VoidNotAllowed h = omega arith
number-some EmptyObject h = omega arith
number-some TrailingInput h = omega arith
number-some MissingMethodStart h = omega arith
number-some MissingMethodEnd h = omega arith
number-some TooManyDimensions h = omega arith
number-some TooManyParameters h = omega arith
number-some Deep h = omega arith
number-some Bounds h = omega arith
number-some Short h = omega arith
number-some Absent h = omega arith
number-some Strict h = omega arith

-- the number of what comes back: 0 where nothing is refused
abbrev pub code : Result (Unit {0}) Refusal → ℕ
code (Ok u) = 0
code (Err r) = number r

pub code-injective : (x y : Result (Unit {0}) Refusal) → code x ≡ code y → x ≡ y
code-injective (Ok u) (Ok v) e = refl
code-injective (Ok u) (Err s) e = absurd (number-some s (sym e))
code-injective (Err r) (Ok v) e = absurd (number-some r e)
code-injective (Err r) (Err s) e = ap Err (number-injective r s e)

-- of a result that was looked at
pub code-taken : (x : Result (Unit {0}) Refusal) (u : Unit {0}) → x ≡ Ok u → code x ≡ 0
code-taken x u e = rw e

pub code-refused : (x : Result (Unit {0}) Refusal) (r : Refusal) → x ≡ Err r → code x ≡ 0 → ⊥
code-refused x r e z = number-some r (sym (ap code e) ∙ z)
