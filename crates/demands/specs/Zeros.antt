-- A refusal has its number and, where said, offset and byte; every other field is zero. And the fields of what is accepted that say
-- nothing of it are zero too: offset and byte, the name's place of a primitive type, the category of a class.
use Rattle.std.specs.Prelude.{◌≡◌, refl, Bool, true, false, List, ℕ, zero, suc, ltb, length, replicate}
use Rattle.std.proofs.Math.Option.{Option, some, none}
use Rattle.std.proofs.Common.{arith, ne_eqb}
use Rattle.text.specs.Text.{ascii}
use Rattle.utf8.specs.Utf8.{table, within, matches, first_match, sequence, scan, valid_prefix}
use Rattle.names.specs.Names.{refused_or, found, check_names, lookup, look_up}
use Rattle.descriptor.specs.declared.Base.TheVariants.{Simple, Class}
use Rattle.descriptor.specs.Read.{Read, Found, Refused, letter_of, index_of, name_read, read_name, read_type, finish, read_whole, read_strict}
use Rattle.methods.specs.Method.{Method, Whole, Broken, pick_m, read_params, returns, after_params, read_method, read_method_strict}
use Rattle.methods.specs.Answers.{method_answer, method_of}
use Rattle.writer.specs.Print.{answer}
use Rattle.bracepuffin.specs.declared.BpType.{BpType}
use Rattle.bracepuffin.specs.declared.BpMethod.{BpMethod}
use Rattle.questions.specs.Questions.{answered, gathered}
use Rattle.bracepuffin.specs.Boundary.{type_answer, method_result, written_answer, found_answer, relation_answer, number_answer, set_answer}
use Rattle.demands.specs.Refusals.{TypeCode, MethodCode, ordinary-type-code, strict-type-code, ordinary-method-code, strict-method-code}

-- ---- types

pub record TypeZeros (r : BpType) : Type 0 where
  pub refused : (r.refusal ≡ 0 → ⊥) → (r.dims ≡ 0) × (r.tag ≡ 0) × (r.category ≡ 0) × (r.name_at ≡ 0) × (r.name_len ≡ 0)
  pub accepted : r.refusal ≡ 0 → (r.offset ≡ 0) × (r.byte ≡ 0)
  pub primitive : r.tag ≡ 0 → (r.name_at ≡ 0) × (r.name_len ≡ 0)
  pub class : r.tag ≡ 1 → r.category ≡ 0

zeros : (x : Read) → TypeCode x → TypeZeros (type_answer x)
zeros (Found d (Simple k) next) c =
    record { refused = λ r. absurd (r refl); accepted = λ e. (refl, refl); primitive = λ e. (refl, refl); class = λ e. absurd (let z : ⊥ = omega arith in z) }
zeros (Found d (Class at n) next) c =
    record { refused = λ r. absurd (r refl); accepted = λ e. (refl, refl); primitive = λ e. absurd (let z : ⊥ = omega arith in z); class = λ e. refl }
zeros (Refused code at b) c =
    record { refused = λ r. (refl, refl, refl, refl, refl); accepted = λ e. absurd (let z : ⊥ = omega arith in z); primitive = λ e. (refl, refl); class = λ e. refl }

-- IN EVERY ANSWER OF BP_READ_TYPE
pub ordinary-type-zeros : (s : List ℕ) → TypeZeros (type_answer (read_whole s))
ordinary-type-zeros s = zeros (read_whole s) (ordinary-type-code s)

-- OF BP_READ_TYPE_STRICT
pub strict-type-zeros : (s : List ℕ) → TypeZeros (type_answer (read_strict s))
strict-type-zeros s = zeros (read_strict s) (strict-type-code s)

-- ---- methods

pub record MethodZeros (r : BpMethod) : Type 0 where
  pub refused : (r.refusal ≡ 0 → ⊥)
      → (r.count ≡ 0) × (r.return_at ≡ 0) × (r.dims ≡ 0) × (r.tag ≡ 0) × (r.category ≡ 0) × (r.name_at ≡ 0) × (r.name_len ≡ 0)
  pub accepted : r.refusal ≡ 0 → (r.offset ≡ 0) × (r.byte ≡ 0)
  pub primitive : r.tag ≡ 0 → (r.name_at ≡ 0) × (r.name_len ≡ 0)
  pub class : r.tag ≡ 1 → r.category ≡ 0

method-zeros : (x : Method) → MethodCode x → MethodZeros (method_result x)
unfolding method_answer
method-zeros (Whole offsets at (Found d (Simple k) next)) c =
    record { refused = λ r. absurd (r refl); accepted = λ e. (refl, refl); primitive = λ e. (refl, refl); class = λ e. absurd (let z : ⊥ = omega arith in z) }
method-zeros (Whole offsets at (Found d (Class p n) next)) c =
    record { refused = λ r. absurd (r refl); accepted = λ e. (refl, refl); primitive = λ e. absurd (let z : ⊥ = omega arith in z); class = λ e. refl }
method-zeros (Whole offsets at (Refused code o b)) c =
    record { refused = λ r. (refl, refl, refl, refl, refl, refl, refl); accepted = λ e. absurd (let z : ⊥ = omega arith in z); primitive = λ e. (refl, refl); class = λ e. refl }
method-zeros (Broken code o b) c =
    record { refused = λ r. (refl, refl, refl, refl, refl, refl, refl); accepted = λ e. absurd (let z : ⊥ = omega arith in z); primitive = λ e. (refl, refl); class = λ e. refl }

-- IN EVERY ANSWER OF BP_READ_METHOD AND BP_READ_METHOD_STRICT
pub every-method-zeros : (strict : Bool) (s params : List ℕ) → MethodZeros (method_result (method_of strict s (length params)))
unfolding method_of
every-method-zeros strict s params = room (ltb (length params) 255) strict
  where
    room : (short strict : Bool) → MethodZeros (method_result (pick_m short (Broken 22 0 0) (pick_m strict (read_method_strict s) (read_method s))))
    room true strict = method-zeros (Broken 22 0 0) (omega arith)
    room false true = method-zeros (read_method_strict s) (strict-method-code s)
    room false false = method-zeros (read_method s) (ordinary-method-code s)

-- ---- what is written, and what is looked up

-- A REFUSED WRITER HAS WRITTEN NO BYTE
pub written-zeros : (refusal : ℕ) (printed : List ℕ) → ((written_answer (answer refusal printed)).refusal ≡ 0 → ⊥) → (written_answer (answer refusal printed)).«length» ≡ 0
unfolding answer
written-zeros zero printed r = absurd (r refl)
written-zeros (suc k) printed r = refl

-- A NAME THAT IS NOT FOUND HAS NO NUMBER
pub lookup-zeros : (bytes ats lens key : List ℕ) → ((found_answer (look_up bytes ats lens key)).refusal ≡ 0 → ⊥) → (found_answer (look_up bytes ats lens key)).class_no ≡ 0
unfolding look_up
lookup-zeros bytes ats lens key r = go (check_names bytes ats lens) (lookup bytes ats lens key) r
  where
    go : (k : ℕ) (o : Option ℕ) → ((found_answer (refused_or k (found o))).refusal ≡ 0 → ⊥) → (found_answer (refused_or k (found o))).class_no ≡ 0
    go zero none r = refl
    go zero (some i) r = absurd (r refl)
    go (suc k) o r = refl

-- ---- all fields, of a class, of an array of a primitive type, of a refusal

pub fields : (type_answer (read_whole (ascii "[La/b;")) ≡ record { refusal = 0; offset = 0; byte = 0; dims = 1; tag = 1; category = 0; name_at = 2; name_len = 3 })
    × (type_answer (read_whole (ascii "[[I")) ≡ record { refusal = 0; offset = 0; byte = 0; dims = 2; tag = 0; category = 5; name_at = 0; name_len = 0 })
    × (type_answer (read_whole (ascii "[?")) ≡ record { refusal = 12; offset = 1; byte = 63; dims = 0; tag = 0; category = 0; name_at = 0; name_len = 0 })
    × (method_result (read_method (ascii "(IJ)[La;")) ≡ record { refusal = 0; offset = 0; byte = 0; count = 2; return_at = 4; dims = 1; tag = 1; category = 0; name_at = 6; name_len = 1 })
    × (method_result (read_method (ascii "(I)[Z")) ≡ record { refusal = 0; offset = 0; byte = 0; count = 1; return_at = 3; dims = 1; tag = 0; category = 1; name_at = 0; name_len = 0 })
    × (method_result (read_method (ascii "(I?)V")) ≡ record { refusal = 12; offset = 2; byte = 63; count = 0; return_at = 0; dims = 0; tag = 0; category = 0; name_at = 0; name_len = 0 })
unfolding ascii letter_of index_of name_read read_name read_type finish read_whole read_params returns after_params read_method method_answer table within matches first_match sequence scan valid_prefix
fields = (refl, refl, refl, refl, refl, refl)

-- ---- what is asked

-- A REFUSED QUESTION HAS THE VALUE 0: relation, distance, supertype, cast, join, assignability, whatever the value would have been
pub answered-zeros : (refusal value : ℕ) → (refusal ≡ 0 → ⊥)
    → (relation_answer (answered refusal value) ≡ record { refusal = refusal; relation = 0 }) × (number_answer (answered refusal value) ≡ record { refusal = refusal; value = 0 })
unfolding answered
answered-zeros refusal value r = (rw (ne_eqb refusal 0 r), rw (ne_eqb refusal 0 r))

-- A REFUSED SET HAS NO MEMBER, COUNT 0 AND LEAST 0
pub gathered-zeros : (refusal : ℕ) (words : List ℕ) → (refusal ≡ 0 → ⊥)
    → set_answer (gathered refusal words) ≡ record { refusal = refusal; count = 0; lowest = 0; words = replicate 16 0 }
unfolding gathered
gathered-zeros refusal words r = rw (ne_eqb refusal 0 r)
