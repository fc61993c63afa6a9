-- Where the tables of `Examples` are refused, by computation: a case for each part. a/Probe 0, a/TrussA 1, a/TrussB 2, java/lang/Object 3.
use Rattle.std.specs.Prelude.{◌≡◌, refl, [], ◌∷◌}
use Rattle.text.specs.Text.{ascii}
use Rattle.order.specs.Compare.{compare_numbers, compare_lists}
use Rattle.utf8.specs.Utf8.{table, within, matches, first_match, sequence, scan, valid_prefix, well_formed}
use Rattle.checks.specs.Checks.{first_refusal}
use Rattle.names.specs.Names.{place_good, name_checks, check_row, check_rows}
use Rattle.view.specs.View.{number_of}
use Rattle.rows.specs.Rows.{object_name, good_flags, all_below}
use Rattle.columns.specs.Columns.{inside}
use Rattle.columns.specs.Examples.{bytes}
use Rattle.columns.specs.Given.{Given, given, even_lengths, even}
use Rattle.tableview.specs.TableRows.{place_of, rows_view, names_of, rows_in}
use Rattle.tableview.specs.RowRefusals.{listed, has_pair, different, row_checks}
use Rattle.stackview.specs.LayerRows.{shown_in}
use Rattle.stackview.specs.LayerRefusals.{open_checks, layer_row_refusal, layers_refusal}
use Rattle.tablecheck.specs.TableCheck.{names_taken, records_taken, told, rows_check, table_check}
use Rattle.questionlaws.specs.Examples.{whole, uneven, declaring, single, objectless, layered, opening, towering}

-- a/TrussB before a/TrussA
abbrev pub exchanged : Given
exchanged = given bytes (0 ∷ 15 ∷ 7 ∷ 23 ∷ []) (7 ∷ 8 ∷ 8 ∷ 16 ∷ []) (8 ∷ []) (0 ∷ []) (0 ∷ []) (0 ∷ []) []

-- nothing; a column too short; name 2 out of order, though a record has bad flags; parents outside; flags that are none, in record 0 and in
-- record 2; no java/lang/Object. Of layers: nothing; a row that opens one with a class, with a parent; a fourth row that does
pub checks-hold : (table_check whole ≡ told 0 0 0)
    × (table_check uneven ≡ told 3 0 0)
    × (table_check exchanged ≡ told 5 1 2)
    × (table_check (single 2 1 2) ≡ told 3 2 0)
    × (table_check (single 2 1 1) ≡ told 6 2 0)
    × (table_check (declaring 8) ≡ told 6 2 2)
    × (table_check objectless ≡ told 9 3 0)
    × (table_check layered ≡ told 0 0 0)
    × (table_check (opening 1 0) ≡ told 3 2 0)
    × (table_check (opening 0 1) ≡ told 3 2 0)
    × (table_check (towering 4) ≡ told 8 2 3)
unfolding table_check rows_check names_taken records_taken even_lengths even layers_refusal layer_row_refusal open_checks row_checks different has_pair listed rows_view shown_in rows_in names_of place_of first_refusal inside ascii object_name good_flags all_below check_rows check_row place_good name_checks compare_lists compare_numbers table within matches first_match sequence scan valid_prefix well_formed number_of
checks-hold = (refl, refl, refl, refl, refl, refl, refl, refl, refl, refl, refl)
