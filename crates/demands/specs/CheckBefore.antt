-- ONE LAYER IS AS BEFORE, OF THE CHECK OF A TABLE: where no row opens a layer, refusal, part and row are those of a plain table's rows.
use Rattle.std.specs.Prelude.{◌≡◌, Bool, not, ℕ, suc, ◌+◌, ◌-◌, ◌^◌, eqb, length, take, drop}
use Rattle.std.proofs.Math.Path.{refl, ap}
use Rattle.std.proofs.Common.{ap₂, ◌∙◌, true≢false}
use Rattle.std.proofs.Math.Bool.{true, false, cond}
use mathlib.Core.List.{List, [], ◌∷◌, ◌++◌}
use Rattle.checks.specs.Checks.{first_refusal, or_else}
use Rattle.columns.specs.Columns.{inside}
use Rattle.columns.specs.Given.{Given, even}
use Rattle.layercolumns.specs.LayerColumns.{open_flags, first_open}
use Rattle.tableview.specs.TableRows.{Rows, rows_in, rows_view}
use Rattle.tableview.specs.RowRefusals.{Pair, listed, row_checks, records_refusal}
use Rattle.stackview.specs.LayerRows.{shown_in}
use Rattle.stackview.specs.LayerRefusals.{open_checks, layer_row_refusal, layers_refusal}
use Rattle.stackview.proofs.OneLayer.{rest-opens, plain-rows}
use Rattle.tablecheck.specs.declared.TableCheck.{TableCheck}
use Rattle.tablecheck.specs.TableCheck.{records_taken, names_refused, name_stopped, names_many, told, rows_check, table_check}
use Rattle.questionlaws.specs.OneLayer.{Plain}
use Rattle.bracepuffin.specs.Boundary.{check_answer, check_told}

-- how many rows of a plain table are taken before the first that is refused
unfoldable pub plain_taken : ℕ → List ℕ → List ℕ → List ℕ → List ℕ → List ℕ → List Pair → ℕ
plain_taken names parents [] cs ats ls before = 0
plain_taken names parents (f ∷ fs) [] ats ls before = 0
plain_taken names parents (f ∷ fs) (c ∷ cs) [] ls before = 0
plain_taken names parents (f ∷ fs) (c ∷ cs) (a ∷ ats) [] before = 0
plain_taken names parents (f ∷ fs) (c ∷ cs) (a ∷ ats) (l ∷ ls) before =
    cond (eqb (first_refusal (row_checks names (inside (length parents) a l) f c (take l (drop a parents)) before)) 0)
    (suc (plain_taken names parents fs cs ats ls (listed c (take l (drop a parents)) ++ before)))
    0

-- the check, from the records' refusal, the row that it stopped at, and the rows whose Object is asked for
abbrev check_from : Given → ℕ → ℕ → Rows → TableCheck
check_from g refused stopped rows =
    cond (even g)
    (cond (not (eqb (names_refused g) 0)) (told (names_refused g) 1 (name_stopped g))
    (cond (not (eqb refused 0)) (told refused 2 stopped)
    (cond (eqb (rows_view rows).object (2 ^ 64 - 1)) (told 9 3 0) (told 0 0 0))))
    (told 3 0 0)

abbrev pub plain_check : Given → TableCheck
plain_check g =
    check_from g
    (records_refusal (names_many g) g.parents g.rec_flags g.rec_class g.rec_at g.rec_len [])
    (plain_taken (names_many g) g.parents g.rec_flags g.rec_class g.rec_at g.rec_len [])
    (rows_in g)

module _ (names : ℕ) (parents : List ℕ) where
  taken-same : (fs cs ats ls : List ℕ) (under : ℕ) (before : List Pair) → first_open fs ≡ length fs
      → records_taken names parents fs cs ats ls under before ≡ plain_taken names parents fs cs ats ls before
  unfolding records_taken plain_taken layer_row_refusal
  taken-same [] cs ats ls under before e = refl
  taken-same (f ∷ fs) [] ats ls under before e = refl
  taken-same (f ∷ fs) (c ∷ cs) [] ls under before e = refl
  taken-same (f ∷ fs) (c ∷ cs) (a ∷ ats) [] under before e = refl
  taken-same (f ∷ fs) (c ∷ cs) (a ∷ ats) (l ∷ ls) under before e = go (eqb f open_flags) (rest-opens f fs e).0 (taken-same fs cs ats ls under (listed c (take l (drop a parents)) ++ before) (rest-opens f fs e).1)
    where
      go : (b : Bool) → b ≡ false → records_taken names parents fs cs ats ls under (listed c (take l (drop a parents)) ++ before) ≡ plain_taken names parents fs cs ats ls (listed c (take l (drop a parents)) ++ before)
          → cond (eqb (cond b (first_refusal (open_checks under (inside (length parents) a l) c l)) (first_refusal (row_checks names (inside (length parents) a l) f c (take l (drop a parents)) before))) 0)
          (suc (records_taken names parents fs cs ats ls (cond b (under + 1) under) (cond b [] (listed c (take l (drop a parents)) ++ before)))) 0
          ≡ cond (eqb (first_refusal (row_checks names (inside (length parents) a l) f c (take l (drop a parents)) before)) 0)
          (suc (plain_taken names parents fs cs ats ls (listed c (take l (drop a parents)) ++ before))) 0
      go true k same = absurd (true≢false k)
      go false k same =
          ap (λ (n : ℕ). cond (eqb (first_refusal (row_checks names (inside (length parents) a l) f c (take l (drop a parents)) before)) 0) (suc n) 0)
          same

  refused-same : (fs cs ats ls : List ℕ) (under : ℕ) (before : List Pair) → first_open fs ≡ length fs
      → layers_refusal names parents fs cs ats ls under before ≡ records_refusal names parents fs cs ats ls before
  unfolding layers_refusal records_refusal layer_row_refusal
  refused-same [] cs ats ls under before e = refl
  refused-same (f ∷ fs) [] ats ls under before e = refl
  refused-same (f ∷ fs) (c ∷ cs) [] ls under before e = refl
  refused-same (f ∷ fs) (c ∷ cs) (a ∷ ats) [] under before e = refl
  refused-same (f ∷ fs) (c ∷ cs) (a ∷ ats) (l ∷ ls) under before e = go (eqb f open_flags) (rest-opens f fs e).0 (refused-same fs cs ats ls under (listed c (take l (drop a parents)) ++ before) (rest-opens f fs e).1)
    where
      go : (b : Bool) → b ≡ false → layers_refusal names parents fs cs ats ls under (listed c (take l (drop a parents)) ++ before) ≡ records_refusal names parents fs cs ats ls (listed c (take l (drop a parents)) ++ before)
          → or_else (cond b (first_refusal (open_checks under (inside (length parents) a l) c l)) (first_refusal (row_checks names (inside (length parents) a l) f c (take l (drop a parents)) before)))
          (layers_refusal names parents fs cs ats ls (cond b (under + 1) under) (cond b [] (listed c (take l (drop a parents)) ++ before)))
          ≡ or_else (first_refusal (row_checks names (inside (length parents) a l) f c (take l (drop a parents)) before))
          (records_refusal names parents fs cs ats ls (listed c (take l (drop a parents)) ++ before))
      go true k same = absurd (true≢false k)
      go false k same =
          ap (or_else (first_refusal (row_checks names (inside (length parents) a l) f c (take l (drop a parents)) before)))
          same

pub check-before : (g : Given) → Plain g → check_told g ≡ check_answer (plain_check g)
unfolding table_check rows_check
check-before g none =
    ap₂ (λ (refused stopped : ℕ). check_answer (check_from g refused stopped (shown_in g)))
    (refused-same (names_many g) g.parents g.rec_flags g.rec_class g.rec_at g.rec_len 0 [] none)
    (taken-same (names_many g) g.parents g.rec_flags g.rec_class g.rec_at g.rec_len 0 [] none)
    ∙ ap (λ (rows : Rows). check_answer (check_from g (records_refusal (names_many g) g.parents g.rec_flags g.rec_class g.rec_at g.rec_len []) (plain_taken (names_many g) g.parents g.rec_flags g.rec_class g.rec_at g.rec_len []) rows))
    (plain-rows g none)
