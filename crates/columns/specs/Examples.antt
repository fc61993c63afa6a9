-- A worked example of a table, by computation.
use Rattle.std.specs.Prelude.{◌≡◌, refl, List, [], ◌∷◌, ℕ, ◌-◌, ◌^◌, replicate}
use Rattle.text.specs.Text.{ascii}
use Rattle.order.specs.Lists.{elem}
use Rattle.order.specs.Compare.{compare_numbers, compare_lists}
use Rattle.utf8.specs.Utf8.{table, within, matches, first_match, sequence, scan, valid_prefix, well_formed}
use Rattle.sets.specs.Sets.{insert, remove, clear}
use Rattle.sorted.specs.Sorted.{insert_sorted, put}
use Rattle.checks.specs.Checks.{first_refusal}
use Rattle.names.specs.Names.{name_checks, check_name}
use Rattle.rows.specs.Rows.{object_name, cloneable_name, serializable_name, no_tables, noted, with_name, name_row, good_flags, all_below, put_all, marked, record_marks, record_checks, record_refusal, with_record, record_row, Ran}
use Rattle.columns.specs.Columns.{inside, placed_name, name_rows, placed_record, record_rows, table_of}

-- a/Probe, a/TrussA, a/TrussB, java/lang/Object
abbrev pub bytes : List ℕ
bytes = 97 ∷ 47 ∷ 80 ∷ 114 ∷ 111 ∷ 98 ∷ 101 ∷ 97 ∷ 47 ∷ 84 ∷ 114 ∷ 117 ∷ 115 ∷ 115 ∷ 65 ∷ 97 ∷ 47 ∷ 84 ∷ 114 ∷ 117 ∷ 115 ∷ 115 ∷ 66 ∷ 106 ∷ 97 ∷ 118 ∷ 97 ∷ 47 ∷ 108 ∷ 97 ∷ 110 ∷ 103 ∷ 47 ∷ 79 ∷ 98 ∷ 106 ∷ 101 ∷ 99 ∷ 116 ∷ []

-- the records of a/Probe with parent 3, of both others with parent 0, of Object, from the parents 3, 0
abbrev pub table_with : List ℕ → Ran
table_with sizes = table_of (name_rows bytes (0 ∷ 7 ∷ 15 ∷ 23 ∷ []) (7 ∷ 8 ∷ 8 ∷ 16 ∷ []) [] no_tables) (3 ∷ 0 ∷ []) (0 ∷ 0 ∷ 0 ∷ 0 ∷ []) (0 ∷ 1 ∷ 2 ∷ 3 ∷ []) (0 ∷ 1 ∷ 1 ∷ 2 ∷ []) sizes (replicate 64 0)

-- Object is number 3, all four are recorded; one parent more for the last record is none of the slice: 3, and the others stay
pub probe :
    (table_with (1 ∷ 1 ∷ 1 ∷ 0 ∷ []) ≡ record {
      refusal = 0;
      state = record {
        tables = record { names = 4; bytes = 39; object = 3; cloneable = 2 ^ 64 - 1; serializable = 2 ^ 64 - 1; pairs = 3 };
        keys = 3 ∷ 1024 ∷ 2048 ∷ [];
        marks = 15 ∷ replicate 63 0;
      };
    })
    × (table_with (1 ∷ 1 ∷ 1 ∷ 1 ∷ []) ≡ record {
      refusal = 3;
      state = record {
        tables = record { names = 4; bytes = 39; object = 3; cloneable = 2 ^ 64 - 1; serializable = 2 ^ 64 - 1; pairs = 3 };
        keys = 3 ∷ 1024 ∷ 2048 ∷ [];
        marks = 7 ∷ replicate 63 0;
      };
    })
unfolding inside placed_name name_rows placed_record record_rows table_of ascii object_name cloneable_name serializable_name no_tables noted with_name name_row good_flags all_below put_all marked record_marks record_checks record_refusal with_record record_row name_checks check_name first_refusal compare_lists compare_numbers table within matches first_match sequence scan valid_prefix well_formed insert remove clear elem insert_sorted put
probe = (refl, refl)
