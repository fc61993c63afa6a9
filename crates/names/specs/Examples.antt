-- Worked examples of the checks and of the lookup, by computation.
use Rattle.std.specs.Prelude.{◌≡◌, refl, [], ◌∷◌, ◌-◌, ◌^◌}
use Rattle.text.specs.Text.{ascii}
use Rattle.order.specs.Compare.{compare_numbers, compare_lists}
use Rattle.utf8.specs.Utf8.{table, within, matches, first_match, sequence, scan, valid_prefix, well_formed}
use Rattle.checks.specs.Checks.{first_refusal}
use Rattle.names.specs.Names.{place_good, name_checks, check_name, check_row, check_rows, check_names, lookup, look_up}

-- tables: "a", "ab" is accepted, also where the two overlap; "a", "a" and "b", "a" are refused 5; an empty name 3;
-- a lone 80 after "é", below it too, is 10 and not 5; a place whose end overflows 3; columns of unequal length 3
pub tables :
    (check_names (ascii "aab") (0 ∷ 1 ∷ []) (1 ∷ 2 ∷ []) ≡ 0)
    × (check_names (ascii "ab") (0 ∷ 0 ∷ []) (1 ∷ 2 ∷ []) ≡ 0)
    × (check_names (ascii "aa") (0 ∷ 1 ∷ []) (1 ∷ 1 ∷ []) ≡ 5)
    × (check_names (ascii "ba") (0 ∷ 1 ∷ []) (1 ∷ 1 ∷ []) ≡ 5)
    × (check_names (ascii "a") (0 ∷ []) (0 ∷ []) ≡ 3)
    × (check_names (0xC3 ∷ 0xA9 ∷ 0x80 ∷ []) (0 ∷ 2 ∷ []) (2 ∷ 1 ∷ []) ≡ 10)
    × (check_names (ascii "ab") ((2 ^ 64 - 1) ∷ []) (2 ∷ []) ≡ 3)
    × (check_names (ascii "aa") (0 ∷ 1 ∷ []) (1 ∷ []) ≡ 3)
unfolding ascii place_good name_checks check_row check_rows check_names first_refusal compare_lists compare_numbers table within matches first_match sequence scan valid_prefix well_formed
tables = (refl, refl, refl, refl, refl, refl, refl, refl)

-- the limits: the 1,024th name and the 24,576th byte are accepted, the next ones 8; a name not above the last is 5 before
pub limits :
    (check_name (ascii "a") (ascii "b") 1023 24575 ≡ 0)
    × (check_name (ascii "a") (ascii "b") 1024 24575 ≡ 8)
    × (check_name (ascii "a") (ascii "b") 1023 24576 ≡ 8)
    × (check_name (ascii "b") (ascii "b") 1024 24576 ≡ 5)
unfolding ascii name_checks check_name first_refusal compare_lists compare_numbers table within matches first_match sequence scan valid_prefix well_formed
limits = (refl, refl, refl, refl)

-- in "a", "ab": the number of "ab" is 1, and "b" is not there; in "a", "a" nothing is looked up
pub numbers :
    (look_up (ascii "ab") (0 ∷ 0 ∷ []) (1 ∷ 2 ∷ []) (ascii "ab") ≡ record { refusal = 0; class_no = 1 })
    × (look_up (ascii "ab") (0 ∷ 0 ∷ []) (1 ∷ 2 ∷ []) (ascii "b") ≡ record { refusal = 23; class_no = 0 })
    × (look_up (ascii "aa") (0 ∷ 1 ∷ []) (1 ∷ 1 ∷ []) (ascii "a") ≡ record { refusal = 5; class_no = 0 })
unfolding ascii place_good name_checks check_row check_rows check_names lookup look_up first_refusal compare_lists compare_numbers table within matches first_match sequence scan valid_prefix well_formed
numbers = (refl, refl, refl)
