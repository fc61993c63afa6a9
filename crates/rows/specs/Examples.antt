-- Worked examples of rows, by computation.
use Rattle.std.specs.Prelude.{◌≡◌, refl, true, false, List, [], ◌∷◌, ℕ, ◌-◌, ◌^◌, replicate}
use Rattle.text.specs.Text.{ascii}
use Rattle.order.specs.Lists.{elem}
use Rattle.order.specs.Compare.{compare_numbers, compare_lists}
use Rattle.utf8.specs.Utf8.{table, within, matches, first_match, sequence, scan, valid_prefix, well_formed}
use Rattle.sets.specs.Sets.{bit, clear, at, member, insert, remove}
use Rattle.sorted.specs.Sorted.{insert_sorted, put}
use Rattle.checks.specs.Checks.{first_refusal}
use Rattle.names.specs.Names.{name_checks, check_name}
use Rattle.tables.specs.declared.Tables.{Tables}
use Rattle.rows.specs.Rows.{object_name, cloneable_name, serializable_name, noted, with_name, name_row, is_marked, good_flags, all_below, put_all, marked, record_marks, record_checks, record_refusal}

-- the three names byte by byte
pub spelled :
    (object_name ≡ 106 ∷ 97 ∷ 118 ∷ 97 ∷ 47 ∷ 108 ∷ 97 ∷ 110 ∷ 103 ∷ 47 ∷ 79 ∷ 98 ∷ 106 ∷ 101 ∷ 99 ∷ 116 ∷ [])
    × (cloneable_name ≡ 106 ∷ 97 ∷ 118 ∷ 97 ∷ 47 ∷ 108 ∷ 97 ∷ 110 ∷ 103 ∷ 47 ∷ 67 ∷ 108 ∷ 111 ∷ 110 ∷ 101 ∷ 97 ∷ 98 ∷ 108 ∷ 101 ∷ [])
    × (serializable_name ≡ 106 ∷ 97 ∷ 118 ∷ 97 ∷ 47 ∷ 105 ∷ 111 ∷ 47 ∷ 83 ∷ 101 ∷ 114 ∷ 105 ∷ 97 ∷ 108 ∷ 105 ∷ 122 ∷ 97 ∷ 98 ∷ 108 ∷ 101 ∷ [])
unfolding ascii object_name cloneable_name serializable_name
spelled = (refl, refl, refl)

-- with three names before, of 24 bytes
abbrev pub three : Tables
three = record { names = 3; bytes = 24; object = 2 ^ 64 - 1; cloneable = 1; serializable = 2 ^ 64 - 1; pairs = 0 }

-- java/lang/Object after a/TrussB is number 3; b is none of the three; a name that is not above the last is refused 5
pub names :
    (name_row (ascii "a") (ascii "java/lang/Object") three ≡ record { refusal = 0; tables = record { names = 4; bytes = 40; object = 3; cloneable = 1; serializable = 2 ^ 64 - 1; pairs = 0 } })
    × (name_row (ascii "a") (ascii "b") three ≡ record { refusal = 0; tables = record { names = 4; bytes = 25; object = 2 ^ 64 - 1; cloneable = 1; serializable = 2 ^ 64 - 1; pairs = 0 } })
    × (name_row (ascii "b") (ascii "a") three ≡ record { refusal = 5; tables = three })
    × (name_row (ascii "a") (ascii "java/lang/Cloneable") three ≡ record { refusal = 0; tables = record { names = 4; bytes = 43; object = 2 ^ 64 - 1; cloneable = 3; serializable = 2 ^ 64 - 1; pairs = 0 } })
    × (name_row (ascii "a") (ascii "java/io/Serializable") three ≡ record { refusal = 0; tables = record { names = 4; bytes = 44; object = 2 ^ 64 - 1; cloneable = 1; serializable = 3; pairs = 0 } })
unfolding ascii object_name cloneable_name serializable_name noted with_name name_row name_checks check_name first_refusal compare_lists compare_numbers table within matches first_match sequence scan valid_prefix well_formed
names = (refl, refl, refl, refl, refl)

-- of four names, with the pair (1, 0): refused are 255 parents 3; flags 8, 2, 4 and 6, class 4 and parent 4 with 6; repeats count once
pub refusals :
    (record_refusal 4 (1024 ∷ []) 0 0 (replicate 255 3) ≡ 3)
    × (record_refusal 4 (1024 ∷ []) 8 0 [] ≡ 6)
    × (record_refusal 4 (1024 ∷ []) 2 0 [] ≡ 6)
    × (record_refusal 4 (1024 ∷ []) 4 0 [] ≡ 6)
    × (record_refusal 4 (1024 ∷ []) 6 0 [] ≡ 6)
    × (record_refusal 4 (1024 ∷ []) 0 4 [] ≡ 6)
    × (record_refusal 4 (1024 ∷ []) 0 0 (3 ∷ 4 ∷ []) ≡ 6)
    × (record_refusal 4 (1024 ∷ []) 7 0 (replicate 254 3) ≡ 0)
    × (put_all 1 (3 ∷ 0 ∷ 3 ∷ []) (1024 ∷ 2048 ∷ []) ≡ 1024 ∷ 1027 ∷ 2048 ∷ [])
unfolding record_refusal record_checks first_refusal good_flags all_below put_all put elem insert_sorted
refusals = (refl, refl, refl, refl, refl, refl, refl, refl, refl)

-- the marks of class 65 after a record
abbrev pub facts : ℕ → List ℕ → List ℕ
facts flags marks = record_marks flags 65 marks

-- declared as an interface, then not declared: still an interface; then declared as final: final, and no interface
pub facts-of-the-last :
    (facts 0 (facts 3 (replicate 64 0)) ≡ facts 3 (replicate 64 0))
    × (is_marked 2 65 (facts 3 (replicate 64 0)) ≡ true)
    × (is_marked 2 65 (facts 5 (facts 0 (facts 3 (replicate 64 0)))) ≡ false)
    × (is_marked 3 65 (facts 5 (facts 0 (facts 3 (replicate 64 0)))) ≡ true)
    × (is_marked 1 65 (facts 0 (replicate 64 0)) ≡ false)
unfolding record_marks marked member at bit insert remove clear
facts-of-the-last = (refl, refl, refl, refl, refl)
