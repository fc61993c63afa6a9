-- ArgType::to_descriptor and Display of MethodDescriptor of ty.rs: the bytes of a type and of a method.
-- Added to the Rust: a word for a type, refusals, an output that is lent.
use Rattle.std.specs.Prelude.{◌≡◌, not, ◌&&◌, List, [], ◌∷◌, ◌++◌, ℕ, zero, suc, ltb, length, get_or, drop, Result, Ok, Err}
use Rattle.std.proofs.Common.{sym, ap}
use Rattle.text.specs.Text.{ascii, byte}
use Rattle.ty.specs.Types.{ArgType, Primitive, Object, Array, Unknown}
use Rattle.ty.specs.Words.{type_of, legal_word, all_legal}
use Rattle.checks.specs.Checks.{check, first_refusal, or_else}
use Rattle.names.specs.Names.{name_at, check_names}
use Rattle.refusals.specs.declared.Refusal.{Refusal}
use Rattle.refusals.specs.Numbers.{number, number-some, number-injective}

-- ---- a type

-- PrimitiveType::descriptor, by category
unfoldable pub letter_byte : ℕ → ℕ
letter_byte k = get_or (ascii "VZBSCIJFDL[") k 0

-- to_descriptor; `name` gives the bytes of a class's name
unfoldable pub print : (ℕ → List ℕ) → ArgType → List ℕ
print name (Primitive k) = letter_byte k ∷ []
print name (Object c) = byte "L" ∷ name c ++ (byte ";" ∷ [])
print name (Array t) = byte "[" ∷ print name t
print name (Unknown cs) = byte "?" ∷ []

-- ---- a method

-- the types one after the other
unfoldable pub print_all : (ℕ → List ℕ) → List ArgType → List ℕ
print_all name [] = []
print_all name (t ∷ ts) = print name t ++ print_all name ts

-- Display of MethodDescriptor
unfoldable pub print_method : (ℕ → List ℕ) → List ArgType → ArgType → List ℕ
print_method name params result = byte "(" ∷ print_all name params ++ (byte ")" ∷ print name result)

-- ---- the same of words, over names as places in a slice

unfoldable pub print_word : List ℕ → List ℕ → List ℕ → ℕ → List ℕ
print_word bytes ats lens w = print (name_at bytes ats lens) (type_of w)

abbrev pub types_of : List ℕ → List ArgType
types_of [] = []
types_of (w ∷ ws) = type_of w ∷ types_of ws

unfoldable pub print_words : List ℕ → List ℕ → List ℕ → List ℕ → List ℕ
print_words bytes ats lens ws = print_all (name_at bytes ats lens) (types_of ws)

unfoldable pub print_method_words : List ℕ → List ℕ → List ℕ → List ℕ → ℕ → List ℕ
print_method_words bytes ats lens params result = print_method (name_at bytes ats lens) (types_of params) (type_of result)

-- ---- refusals, in their order: those of the names, 8 ROOM (a method's parameters), 7 TYPE, 22 SHORT

-- of a type, once the names are checked; `room` is the length of the output
unfoldable pub checked_type_refusal : List ℕ → List ℕ → List ℕ → ℕ → ℕ → ℕ
checked_type_refusal bytes ats lens w room =
    first_refusal (check (not (legal_word (length ats) w)) 7 ∷ check (ltb room (length (print_word bytes ats lens w))) 22 ∷ [])

-- the names' refusal before them
unfoldable pub type_refusal : List ℕ → List ℕ → List ℕ → ℕ → ℕ → ℕ
type_refusal bytes ats lens w room = or_else (check_names bytes ats lens) (checked_type_refusal bytes ats lens w room)

-- the same of a method
unfoldable pub checked_method_refusal : List ℕ → List ℕ → List ℕ → List ℕ → ℕ → ℕ → ℕ
checked_method_refusal bytes ats lens params result room =
    first_refusal (
    check (ltb 255 (length params)) 8
    ∷ check (not (all_legal (length ats) params && legal_word (length ats) result)) 7
    ∷ check (ltb room (length (print_method_words bytes ats lens params result))) 22
    ∷ []
    )

unfoldable pub method_refusal : List ℕ → List ℕ → List ℕ → List ℕ → ℕ → ℕ → ℕ
method_refusal bytes ats lens params result room =
    or_else (check_names bytes ats lens) (checked_method_refusal bytes ats lens params result room)

-- ---- what comes back, and the output; where something is refused, its number alone and the output as it came

-- how much was written; or a refusal and 0
pub record Written : Type 0 where
  pub refusal : ℕ
  pub «length» : ℕ

-- what comes back of a writer, so written
abbrev pub written : Result ℕ Refusal → Written
written (Ok n) = record { refusal = 0; «length» = n }
written (Err r) = record { refusal = number r; «length» = 0 }

pub written-injective : (x y : Result ℕ Refusal) → written x ≡ written y → x ≡ y
written-injective (Ok m) (Ok n) e = ap (λ (w : Written). Ok w.«length») e
written-injective (Ok m) (Err s) e = absurd (number-some s (sym (ap (λ (w : Written). w.refusal) e)))
written-injective (Err r) (Ok n) e = absurd (number-some r (ap (λ (w : Written). w.refusal) e))
written-injective (Err r) (Err s) e = ap Err (number-injective r s (ap (λ (w : Written). w.refusal) e))

-- the refusal, or how many bytes were written
unfoldable pub answer : ℕ → List ℕ → Written
answer zero printed = record { refusal = 0; «length» = length printed }
answer (suc k) printed = record { refusal = suc k; «length» = 0 }

-- the bytes, and the output past them
unfoldable pub output : ℕ → List ℕ → List ℕ → List ℕ
output zero printed out = printed ++ drop (length printed) out
output (suc k) printed out = out

-- the two together: what a writer promises of its result and of the output at its end
pub record Wrote (refusal : ℕ) (printed out out' : List ℕ) (r : Written) : Type 0 where
  pub result : r ≡ answer refusal printed
  pub memory : out' ≡ output refusal printed out

-- what `write_type` and `write_method` promise of their result and of the output
abbrev pub TypeWrote : List ℕ → List ℕ → List ℕ → ℕ → List ℕ → List ℕ → Written → Type 0
TypeWrote bytes ats lens w out out' r = Wrote (type_refusal bytes ats lens w (length out)) (print_word bytes ats lens w) out out' r

abbrev pub MethodWrote : List ℕ → List ℕ → List ℕ → List ℕ → ℕ → List ℕ → List ℕ → Written → Type 0
MethodWrote bytes ats lens params result out out' r =
    Wrote (method_refusal bytes ats lens params result (length out)) (print_method_words bytes ats lens params result) out out' r

-- and `write_method` once its names are checked
abbrev pub CheckedMethodWrote : List ℕ → List ℕ → List ℕ → List ℕ → ℕ → List ℕ → List ℕ → Written → Type 0
CheckedMethodWrote bytes ats lens params result out out' r =
    Wrote (checked_method_refusal bytes ats lens params result (length out)) (print_method_words bytes ats lens params result) out out' r
