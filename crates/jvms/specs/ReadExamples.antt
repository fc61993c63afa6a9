-- Worked examples of reading, by computation.
use Rattle.std.specs.Prelude.{◌≡◌, refl, true, false, [], ◌∷◌, ◌++◌, replicate}
use Rattle.text.specs.Text.{ascii, byte}
use Rattle.ty.specs.Types.{Void, Boolean, Byte, Short, Char, Int, Long, Float, Double}
use Rattle.utf8.specs.Utf8.{table, within, matches, first_match, sequence, scan, valid_prefix}
use Rattle.descriptor.specs.declared.Base.TheVariants.{Simple, Class}
use Rattle.descriptor.specs.Read.{Found, Refused, letter_of, index_of, name_read, read_name, read_type, finish, read_whole, parts_from, strict_name, strictly, read_strict}
use Rattle.methods.specs.Method.{Whole, Broken, read_params, returns, after_params, read_method, strict_params, strict_method, read_method_strict}
use Rattle.methods.specs.Answers.{method_of, method_answer, params_after}
use Rattle.jvms.specs.Errors.{UnexpectedEnd, UnexpectedByte, VoidNotAllowed, EmptyObject, TrailingInput, MissingMethodStart, MissingMethodEnd, TooDeep, TooMany, NotStrict, type_error, method_error}

-- the scope paper's, then names in strict reading
pub types : (read_whole (ascii "[V") ≡ Refused 13 1 0)
    × (read_whole (ascii "L;") ≡ Refused 14 0 0)
    × (read_whole (ascii "[[I") ≡ Found 2 (Simple Int) 3)
    × (read_strict (ascii "La/b;") ≡ Found 0 (Class 1 3) 5)
    × (read_strict (ascii "[L/a;") ≡ Refused 24 1 0)
unfolding letter_of index_of name_read read_name read_type finish read_whole parts_from strict_name strictly read_strict table within matches first_match sequence scan valid_prefix ascii
types = (refl, refl, refl, refl, refl)

pub methods : (read_method (ascii "()") ≡ Broken 11 2 0)
    × (read_method (ascii "(ILa;)V") ≡ Whole (1 ∷ 2 ∷ []) 6 (Found 0 (Simple Void) 7))
    × (read_method_strict (ascii "(La.b;)V") ≡ Broken 24 1 0)
unfolding letter_of index_of name_read read_name read_type finish parts_from strict_name strictly read_params returns after_params read_method strict_params strict_method read_method_strict table within matches first_match sequence scan valid_prefix ascii
methods = (refl, refl, refl)

-- each letter of ty.rs, with the category of its type
pub letters : (read_whole (ascii "V") ≡ Found 0 (Simple Void) 1)
    × (read_whole (ascii "Z") ≡ Found 0 (Simple Boolean) 1)
    × (read_whole (ascii "B") ≡ Found 0 (Simple Byte) 1)
    × (read_whole (ascii "S") ≡ Found 0 (Simple Short) 1)
    × (read_whole (ascii "C") ≡ Found 0 (Simple Char) 1)
    × (read_whole (ascii "I") ≡ Found 0 (Simple Int) 1)
    × (read_whole (ascii "J") ≡ Found 0 (Simple Long) 1)
    × (read_whole (ascii "F") ≡ Found 0 (Simple Float) 1)
    × (read_whole (ascii "D") ≡ Found 0 (Simple Double) 1)
unfolding letter_of read_type finish read_whole ascii
letters = (refl, refl, refl, refl, refl, refl, refl, refl, refl)

-- each error of a type, at the place where ty.rs has it: a name without its ';' ends at the end of the bytes
pub type-errors : (read_whole (ascii "") ≡ type_error (UnexpectedEnd 0))
    × (read_whole (ascii "[[") ≡ type_error (UnexpectedEnd 2))
    × (read_whole (ascii "[Labc") ≡ type_error (UnexpectedEnd 5))
    × (read_whole (ascii "[Q;") ≡ type_error (UnexpectedByte 1 (byte "Q")))
    × (read_whole (ascii "La" ++ 0xFF ∷ ascii ";") ≡ type_error (UnexpectedByte 2 0xFF))
    × (read_whole (ascii "[[V") ≡ type_error (VoidNotAllowed 2))
    × (read_whole (ascii "[L;") ≡ type_error (EmptyObject 1))
    × (read_whole (ascii "[IJ") ≡ type_error (TrailingInput 2))
    × (read_whole (ascii "La;;") ≡ type_error (TrailingInput 3))
    × (read_strict (ascii "[La.b;") ≡ type_error (NotStrict 1))
    × (read_strict (ascii "La[b;") ≡ type_error (NotStrict 0))
    × (read_strict (ascii "La//b;") ≡ type_error (NotStrict 0))
    × (read_strict (ascii "La/;") ≡ type_error (NotStrict 0))
    × (read_strict (ascii "La.b;I") ≡ type_error (TrailingInput 5))
unfolding letter_of index_of name_read read_name read_type finish read_whole parts_from strict_name strictly read_strict table within matches first_match sequence scan valid_prefix ascii
type-errors = (refl, refl, refl, refl, refl, refl, refl, refl, refl, refl, refl, refl, refl, refl)

-- and of a method
pub method-errors : (read_method (ascii "") ≡ method_error MissingMethodStart)
    × (read_method (ascii "I)V") ≡ method_error MissingMethodStart)
    × (read_method (ascii "(") ≡ method_error (MissingMethodEnd 1))
    × (read_method (ascii "(ILa;") ≡ method_error (MissingMethodEnd 5))
    × (read_method (ascii "(ILa") ≡ method_error (UnexpectedEnd 4))
    × (read_method (ascii "(I)") ≡ method_error (UnexpectedEnd 3))
    × (read_method (ascii "(V)V") ≡ method_error (VoidNotAllowed 1))
    × (read_method (ascii "(I)[V") ≡ method_error (VoidNotAllowed 4))
    × (read_method (ascii "(L;)V") ≡ method_error (EmptyObject 1))
    × (read_method (ascii "(I?)V") ≡ method_error (UnexpectedByte 2 (byte "?")))
    × (read_method (ascii "()VI") ≡ method_error (TrailingInput 3))
    × (read_method_strict (ascii "(ILa/;)Lb.c;") ≡ method_error (NotStrict 2))
    × (read_method_strict (ascii "(I)Lb.c;") ≡ method_error (NotStrict 3))
    × (read_method_strict (ascii "(La.b;)") ≡ method_error (UnexpectedEnd 7))
unfolding letter_of index_of name_read read_name read_type finish parts_from strict_name strictly read_params returns after_params read_method strict_params strict_method read_method_strict table within matches first_match sequence scan valid_prefix ascii
method-errors = (refl, refl, refl, refl, refl, refl, refl, refl, refl, refl, refl, refl, refl, refl)

-- the fields that are handed back: of a class that is returned, of a refusal, and where there is no room for 255 offsets
pub answers : (method_answer (read_method (ascii "(IJ)[La;")) ≡ record { refusal = 0; offset = 0; byte = 0; count = 2; return_at = 4; dims = 1; base = Class 6 1 })
    × (method_answer (read_method (ascii "(I?)V")) ≡ record { refusal = 12; offset = 2; byte = 63; count = 0; return_at = 0; dims = 0; base = Simple 0 })
    × (method_answer (method_of true (ascii "()V") 254) ≡ record { refusal = 22; offset = 0; byte = 0; count = 0; return_at = 0; dims = 0; base = Simple 0 })
    × (method_answer (method_of false (ascii "()V") 255) ≡ record { refusal = 0; offset = 0; byte = 0; count = 0; return_at = 2; dims = 0; base = Simple Void })
    × (params_after (7 ∷ 8 ∷ 9 ∷ []) (read_method (ascii "(IJ)V")) ≡ 1 ∷ 2 ∷ 9 ∷ [])
    × (params_after (7 ∷ 8 ∷ 9 ∷ []) (read_method (ascii "(IJ)")) ≡ 7 ∷ 8 ∷ 9 ∷ [])
unfolding method_answer method_of params_after letter_of index_of name_read read_name read_type finish read_params returns after_params read_method table within matches first_match sequence scan valid_prefix strict_params strict_method read_method_strict ascii
answers = (refl, refl, refl, refl, refl, refl)

-- both sides of the limits: dimensions and parameters
pub limits : (read_whole (replicate 255 (byte "[") ++ ascii "I") ≡ Found 255 (Simple Int) 256)
    × (read_whole (replicate 256 (byte "[") ++ ascii "V") ≡ type_error (TooDeep 255))
    × (method_answer (read_method (ascii "(" ++ replicate 255 (byte "I") ++ ascii ")V")) ≡ record { refusal = 0; offset = 0; byte = 0; count = 255; return_at = 257; dims = 0; base = Simple Void })
    × (read_method (ascii "(" ++ replicate 256 (byte "I") ++ ascii ")V") ≡ method_error (TooMany 256))
unfolding method_answer letter_of read_type finish read_whole read_params returns after_params read_method ascii
limits = (refl, refl, refl, refl)
