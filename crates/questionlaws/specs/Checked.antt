-- THE CHECK OF A TABLE REFUSES WHAT EVERY QUESTION OVER IT REFUSES: with the same number, where the work is long enough and the numbers are those of
-- classes, or types.
use Rattle.std.specs.Prelude.{◌≡◌, refl, Bool, true, false, cond, not, List, [], ◌∷◌, ◌↔◌, ℕ, zero, suc, ◌-◌, ◌^◌, ◌≤◌, eqb}
use Rattle.std.proofs.Common.{sym, ◌∙◌, arith, ne_eqb, le-ltb, eqb-true}
use Rattle.std.proofs.lemmas.Bool.{eqb-false}
use Rattle.checks.specs.Checks.{first_refusal, or_else}
use Rattle.columns.specs.Given.{Given, even}
use Rattle.tableview.specs.TableRows.{rows_view}
use Rattle.stackview.specs.LayerRows.{shown_in}
use Rattle.stackview.specs.LayerRefusals.{stack_refusal_of}
use Rattle.questions.specs.declared.Question.{Question}
use Rattle.questions.specs.Questions.{of_types, good_numbers, table_checks, refusal_of, question_refusal, ancestors_refusal}
use Rattle.tablecheck.specs.declared.TableCheck.{TableCheck}
use Rattle.tablecheck.specs.TableCheck.{names_refused, name_stopped, records_refused, record_stopped, told, rows_check, table_check}

-- the check, by what its parts say
abbrev parts : Bool → ℕ → ℕ → Bool → ℕ → ℕ → TableCheck
parts e n r o x y = cond e (cond (not (eqb n 0)) (told n 1 x) (cond (not (eqb r 0)) (told r 2 y) (cond o (told 9 3 0) (told 0 0 0)))) (told 3 0 0)

same-refusal : (e : Bool) (n r : ℕ) (o : Bool) (x y : ℕ) → cond {A = ℕ} (not e) 3 (cond (not (eqb (or_else n r) 0)) (or_else n r) (cond o 9 0)) ≡ (parts e n r o x y).refusal
same-refusal false n r o x y = refl
same-refusal true zero zero true x y = refl
same-refusal true zero zero false x y = refl
same-refusal true zero (suc r) o x y = rw (ne_eqb (suc r) 0 (λ z. omega arith))
same-refusal true (suc n) r o x y = rw (ne_eqb (suc n) 0 (λ z. omega arith))

module _ (g : Given) (types : Bool) (numbers : List ℕ) (room : ℕ) (h : 8192 ≤ room) where
  -- good numbers
  asked-alike : good_numbers types (rows_view (shown_in g)).names numbers ≡ true → refusal_of g types numbers room ≡ (table_check g).refusal
  unfolding refusal_of table_checks first_refusal table_check rows_check stack_refusal_of
  asked-alike good =
      rw (le-ltb room 8192 h, good)
      (same-refusal (even g) (names_refused g) (records_refused g) (eqb (rows_view (shown_in g)).object (2 ^ 64 - 1)) (name_stopped g) (record_stopped g))

-- OF EVERY QUESTION ABOUT TWO CLASSES, OR TWO TYPES
pub question-alike : (g : Given) (q : Question) (a b room : ℕ) → 8192 ≤ room → good_numbers (of_types q) (rows_view (shown_in g)).names (a ∷ b ∷ []) ≡ true
    → question_refusal g q a b room ≡ (table_check g).refusal
question-alike g q a b room h good = asked-alike g (of_types q) (a ∷ b ∷ []) room h good

-- OF THE ANCESTORS OF A CLASS
pub ancestors-alike : (g : Given) (class room : ℕ) → 8192 ≤ room → good_numbers false (rows_view (shown_in g)).names (class ∷ []) ≡ true → ancestors_refusal g class room ≡ (table_check g).refusal
ancestors-alike g class room h good = asked-alike g false (class ∷ []) room h good

-- ---- and where its columns or a row are refused, whatever the numbers are

same-rows : (e : Bool) (n r : ℕ) (o : Bool) (x y : ℕ) (after : ℕ) → ((parts e n r o x y).refusal ≡ 0 → ⊥) → ((parts e n r o x y).part ≡ 3 → ⊥)
    → cond {A = ℕ} (not e) 3 (cond (not (eqb (or_else n r) 0)) (or_else n r) after) ≡ (parts e n r o x y).refusal
same-rows false n r o x y after k p = refl
same-rows true zero zero true x y after k p = absurd (p refl)
same-rows true zero zero false x y after k p = absurd (k refl)
same-rows true zero (suc r) o x y after k p = rw (ne_eqb (suc r) 0 (λ z. omega arith))
same-rows true (suc n) r o x y after k p = rw (ne_eqb (suc n) 0 (λ z. omega arith))

-- A TABLE THAT IS REFUSED FOR ITS ROWS IS REFUSED ALIKE WHATEVER IS ASKED
pub rows-alike : (g : Given) (types : Bool) (numbers : List ℕ) (room : ℕ) → 8192 ≤ room → ((table_check g).refusal ≡ 0 → ⊥) → ((table_check g).part ≡ 3 → ⊥)
    → refusal_of g types numbers room ≡ (table_check g).refusal
unfolding refusal_of table_checks first_refusal table_check rows_check stack_refusal_of
rows-alike g types numbers room h k p =
    rw (le-ltb room 8192 h)
    (same-rows (even g) (names_refused g) (records_refused g) (eqb (rows_view (shown_in g)).object (2 ^ 64 - 1)) (name_stopped g) (record_stopped g) _ k p)

-- ---- NOTHING IS REFUSED exactly if the columns are even, the rows are taken and a name is java/lang/Object
pub zero-exactly : (g : Given) → ((table_check g).refusal ≡ 0) ↔ ((even g ≡ true) × (stack_refusal_of g ≡ 0) × ((rows_view (shown_in g)).object ≡ 2 ^ 64 - 1 → ⊥))
unfolding table_check rows_check stack_refusal_of
zero-exactly g = (
  λ z. to (even g) refl (eqb (stack_refusal_of g) 0) refl (eqb (rows_view (shown_in g)).object (2 ^ 64 - 1)) refl (same ∙ z),
  λ w. sym same ∙ rw (w.0, w.1, ne_eqb (rows_view (shown_in g)).object (2 ^ 64 - 1) w.2) refl,
)
  where
    same : cond {A = ℕ} (not (even g)) 3 (cond (not (eqb (stack_refusal_of g) 0)) (stack_refusal_of g) (cond (eqb (rows_view (shown_in g)).object (2 ^ 64 - 1)) 9 0)) ≡ (table_check g).refusal
    same = same-refusal (even g) (names_refused g) (records_refused g) (eqb (rows_view (shown_in g)).object (2 ^ 64 - 1)) (name_stopped g) (record_stopped g)

    to : (e : Bool) → even g ≡ e → (c : Bool) → eqb (stack_refusal_of g) 0 ≡ c → (o : Bool) → eqb (rows_view (shown_in g)).object (2 ^ 64 - 1) ≡ o
        → cond {A = ℕ} (not e) 3 (cond (not c) (stack_refusal_of g) (cond o 9 0)) ≡ 0 → (even g ≡ true) × (stack_refusal_of g ≡ 0) × ((rows_view (shown_in g)).object ≡ 2 ^ 64 - 1 → ⊥)
    to false ee c ec o eo q = absurd (omega arith)
    to true ee false ec o eo q = absurd (eqb-false (stack_refusal_of g) 0 ec q)
    to true ee true ec true eo q = absurd (omega arith)
    to true ee true ec false eo q = (ee, eqb-true (stack_refusal_of g) 0 ec, eqb-false (rows_view (shown_in g)).object (2 ^ 64 - 1) eo)
