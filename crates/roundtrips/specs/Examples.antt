-- Worked examples of the definitions, by computation, over the table of the names `a/B` and `c`.
use Rattle.std.specs.Prelude.{◌≡◌, refl, List, [], ◌∷◌, ℕ}
use Rattle.std.proofs.Math.Option.{some, none, bind}
use Rattle.text.specs.Text.{ascii}
use Rattle.order.specs.Compare.{compare_numbers, compare_lists}
use Rattle.order.specs.Lists.{elem}
use Rattle.utf8.specs.Utf8.{table, within, matches, first_match, sequence, scan, valid_prefix, well_formed}
use Rattle.ty.specs.Types.{arrays}
use Rattle.ty.specs.Words.{unpack, pack, list_of, good_digits, good_unknown, base_of, type_of, word_of, legal_base, legal_word, all_legal}
use Rattle.checks.specs.Checks.{first_refusal}
use Rattle.names.specs.Names.{place_good, name_checks, check_row, check_rows, check_names, lookup}
use Rattle.descriptor.specs.Read.{letter_of, index_of, name_read, read_name, read_type, finish}
use Rattle.methods.specs.Method.{read_params, returns, after_params, read_method}
use Rattle.jvms.specs.Meaning.{type_at, type_read, parameters_at, method_read}
use Rattle.writer.specs.Print.{letter_byte, print, print_all, print_method, print_word, print_method_words, checked_type_refusal, type_refusal, checked_method_refusal, method_refusal, answer, output}
use Rattle.roundtrips.specs.ToWord.{to_type, to_types, to_method, read_method_as, words_of, to_words}

abbrev bytes : List ℕ
bytes = ascii "a/Bc"

abbrev ats : List ℕ
ats = 0 ∷ 3 ∷ []

abbrev lens : List ℕ
lens = 3 ∷ 1 ∷ []

-- Unknown under an array is `?`; then the categories 9 and 10
pub printed : (print_word bytes ats lens 0x0200000000000005 ≡ ascii "[[I")
    × (print_word bytes ats lens 0x0101000000000000 ≡ ascii "[La/B;")
    × (print_word bytes ats lens 0x0102000000000000 ≡ ascii "[?")
    × (print_word bytes ats lens 9 ≡ ascii "L")
    × (print_word bytes ats lens 10 ≡ ascii "[")
unfolding ascii print_word print letter_byte type_of arrays base_of list_of unpack
printed = (refl, refl, refl, refl, refl)

-- and what a method is read as: words, where each class is a name
pub methods : (print_method_words bytes ats lens (5 ∷ 0x0001000000000001 ∷ []) 0 ≡ ascii "(ILc;)V")
    × (to_words bytes ats lens (ascii "(ILc;)V") ≡ some (record { params = 5 ∷ 0x0001000000000001 ∷ []; result = 0 }))
    × (to_words bytes ats lens (ascii "(Ld;)V") ≡ none)
unfolding ascii print_method_words print_method print_all print letter_byte type_of arrays base_of list_of unpack to_words words_of read_method_as to_method to_types to_type method_read parameters_at type_read type_at bind read_method read_params returns after_params finish read_type read_name name_read index_of letter_of valid_prefix scan sequence first_match table matches within lookup compare_lists compare_numbers word_of pack
methods = (refl, refl, refl)

-- columns of unequal length, a class that is no name, an output that is short by one, one that is just long enough
pub refusals : (type_refusal bytes ats [] 5 9 ≡ 3)
    × (type_refusal bytes ats lens 0x0001000000000002 0 ≡ 7)
    × (type_refusal bytes ats lens 0x0001000000000001 2 ≡ 22)
    × (type_refusal bytes ats lens 0x0001000000000001 3 ≡ 0)
    × (method_refusal bytes ats lens (11 ∷ []) 0 0 ≡ 7)
    × (method_refusal bytes ats lens (5 ∷ []) 0 3 ≡ 22)
    × (method_refusal bytes ats lens (5 ∷ []) 0 4 ≡ 0)
unfolding ascii type_refusal checked_type_refusal method_refusal checked_method_refusal check_names check_rows check_row name_checks place_good first_refusal well_formed valid_prefix scan sequence first_match table matches within compare_lists compare_numbers legal_word legal_base good_unknown good_digits unpack elem all_legal print_method_words print_method print_all print_word print letter_byte type_of arrays base_of list_of
refusals = (refl, refl, refl, refl, refl, refl, refl)

-- what is left of an output of five bytes
pub outputs : (output 0 (ascii "[I") (1 ∷ 2 ∷ 3 ∷ 4 ∷ 5 ∷ []) ≡ 91 ∷ 73 ∷ 3 ∷ 4 ∷ 5 ∷ [])
    × (output 22 (ascii "[I") (1 ∷ []) ≡ 1 ∷ [])
    × (answer 0 (ascii "[I") ≡ record { refusal = 0; «length» = 2 })
    × (answer 22 (ascii "[I") ≡ record { refusal = 22; «length» = 0 })
unfolding ascii output answer
outputs = (refl, refl, refl, refl)
