-- 22 comes back exactly if the work is too short: no row is refused with that number.
use Rattle.std.specs.Prelude.{◌≡◌, Bool, not, ◌&&◌, ◌||◌, ◌↔◌, ℕ, zero, suc, ◌+◌, ◌<◌, eqb, leb, length, take, drop}
use Rattle.std.proofs.Math.Path.{refl}
use Rattle.std.proofs.Math.Bool.{true, false, cond}
use mathlib.Core.List.{List, [], ◌∷◌, ◌++◌}
use Rattle.std.proofs.Common.{arith}
use Rattle.std.proofs.Math.Dec.{ltb}
use Rattle.std.proofs.Math.ListN.{replicate}
use borrow.Author.Tests.{lt-ltb, ltb-true, ne_eqb}
use Rattle.order.specs.Compare.{compare_lists, is_less}
use Rattle.utf8.specs.Utf8.{well_formed}
use Rattle.checks.specs.Checks as checks
use Rattle.checks.specs.Checks.{or_else, quiet, free, first-is}
use Rattle.names.specs.Names.{place_good, name_of, name_checks, check_row, check_rows}
use Rattle.rows.specs.Rows.{good_flags, all_below}
use Rattle.columns.specs.Columns.{inside}
use Rattle.columns.specs.Given.{Given}
use Rattle.tableview.specs.TableRows.{names_of}
use Rattle.tableview.specs.RowRefusals.{Pair, listed, different, row_checks}
use Rattle.layercolumns.specs.LayerColumns.{open_flags}
use Rattle.stackview.specs.LayerRefusals.{open_checks, layer_row_refusal, under_after, pairs_after, layers_refusal, stack_refusal_of}
use Rattle.questions.specs.Questions.{table_checks, refusal_of, work_after}

-- ---- one row

name-22 : (bytes : List ℕ) (at len : ℕ) (last : List ℕ) (count total : ℕ) → check_row bytes at len last count total ≡ 22 → ⊥
unfolding check_row name_checks checks.first_refusal
name-22 bytes at len last count total =
    let name = name_of bytes at len in
    go (not (place_good (length bytes) at len)) (eqb (length name) 0 || ltb 255 (length name)) (not (well_formed name)) (ltb 0 count && not (is_less (compare_lists last name)))
    (leb 1024 count || ltb 24576 (total + length name))
  where
    go : (p a b c d : Bool) → cond {A = ℕ} p 3 (cond a 3 (cond b 10 (cond c 5 (cond d 8 0)))) ≡ 22 → ⊥
    go true a b c d e = omega arith
    go false true b c d e = omega arith
    go false false true c d e = omega arith
    go false false false true d e = omega arith
    go false false false false true e = omega arith
    go false false false false false e = omega arith

record-22 : (names : ℕ) (is-inside : Bool) (flags class : ℕ) (parents : List ℕ) (before : List Pair) → checks.first_refusal (row_checks names is-inside flags class parents before) ≡ 22 → ⊥
unfolding row_checks checks.first_refusal
record-22 names is-inside flags class parents before =
    go (not is-inside) (ltb 254 (length parents)) (not (good_flags flags && (ltb class names && all_below names parents))) (ltb 4096 (different (listed class parents ++ before)))
  where
    go : (p a b c : Bool) → cond {A = ℕ} p 3 (cond a 3 (cond b 6 (cond c 8 0))) ≡ 22 → ⊥
    go true a b c e = omega arith
    go false true b c e = omega arith
    go false false true c e = omega arith
    go false false false true e = omega arith
    go false false false false e = omega arith

open-22 : (under : ℕ) (is-inside : Bool) (class len : ℕ) → checks.first_refusal (open_checks under is-inside class len) ≡ 22 → ⊥
unfolding open_checks checks.first_refusal
open-22 under is-inside class len = go (not is-inside) (not (eqb class 0 && eqb len 0)) (leb 3 under)
  where
    go : (p a b : Bool) → cond {A = ℕ} p 3 (cond a 3 (cond b 8 0)) ≡ 22 → ⊥
    go true a b e = omega arith
    go false true b e = omega arith
    go false false true e = omega arith
    go false false false e = omega arith

row-22 : (names : ℕ) (parents : List ℕ) (under : ℕ) (before : List Pair) (f c a l : ℕ) → layer_row_refusal names parents under before f c a l ≡ 22 → ⊥
unfolding layer_row_refusal
row-22 names parents under before f c a l = go (eqb f open_flags)
  where
    go : (o : Bool) → cond o (checks.first_refusal (open_checks under (inside (length parents) a l) c l)) (checks.first_refusal (row_checks names (inside (length parents) a l) f c (take l (drop a parents)) before)) ≡ 22 → ⊥
    go true = open-22 under (inside (length parents) a l) c l
    go false = record-22 names (inside (length parents) a l) f c (take l (drop a parents)) before

-- ---- all rows

either-22 : (k r : ℕ) → (k ≡ 22 → ⊥) → (r ≡ 22 → ⊥) → or_else k r ≡ 22 → ⊥
either-22 zero r a b e = b e
either-22 (suc k) r a b e = a e

names-22 : (bytes ats lens last : List ℕ) (count total : ℕ) → check_rows bytes ats lens last count total ≡ 22 → ⊥
unfolding check_rows
names-22 bytes [] lens last count total e = omega arith
names-22 bytes (at ∷ ats) [] last count total e = omega arith
names-22 bytes (at ∷ ats) (len ∷ lens) last count total e =
    either-22 (check_row bytes at len last count total) (check_rows bytes ats lens (name_of bytes at len) (suc count) (total + len)) (name-22 bytes at len last count total)
    (names-22 bytes ats lens (name_of bytes at len) (suc count) (total + len)) e

records-22 : (names : ℕ) (parents fs cs ats ls : List ℕ) (under : ℕ) (before : List Pair) → layers_refusal names parents fs cs ats ls under before ≡ 22 → ⊥
unfolding layers_refusal
records-22 names parents [] cs ats ls under before e = omega arith
records-22 names parents (f ∷ fs) [] ats ls under before e = omega arith
records-22 names parents (f ∷ fs) (c ∷ cs) [] ls under before e = omega arith
records-22 names parents (f ∷ fs) (c ∷ cs) (a ∷ ats) [] under before e = omega arith
records-22 names parents (f ∷ fs) (c ∷ cs) (a ∷ ats) (l ∷ ls) under before e =
    let more = pairs_after f c (take l (drop a parents)) before in
    either-22 (layer_row_refusal names parents under before f c a l) (layers_refusal names parents fs cs ats ls (under_after f under) more) (row-22 names parents under before f c a l)
    (records-22 names parents fs cs ats ls (under_after f under) more) e

table-22 : (g : Given) → stack_refusal_of g ≡ 22 → ⊥
unfolding stack_refusal_of
table-22 g =
    let names = length (names_of g.names g.name_at g.name_len) in
    either-22 (check_rows g.names g.name_at g.name_len [] 0 0)
    (layers_refusal names g.parents g.rec_flags g.rec_class g.rec_at g.rec_len 0 [])
    (names-22 g.names g.name_at g.name_len [] 0 0)
    (records-22 names g.parents g.rec_flags g.rec_class g.rec_at g.rec_len 0 [])

-- ---- the work, of every question

module _ (g : Given) (types : Bool) (numbers work : List ℕ) where
  others : free 22 (table_checks g types numbers) ≡ true
  unfolding free table_checks
  others = go types
    where
      go : (t : Bool) → (not (eqb 3 22) && (not (eqb (stack_refusal_of g) 22) && (not (eqb (cond t 7 6) 22) && (not (eqb 9 22) && true)))) ≡ true
      go true = rw (ne_eqb (stack_refusal_of g) 22 (table-22 g))
      go false = rw (ne_eqb (stack_refusal_of g) 22 (table-22 g))

  -- 22 EXACTLY IF THE WORK IS TOO SHORT
  pub short-exactly : (refusal_of g types numbers (length work) ≡ 22) ↔ (length work < 8192)
  unfolding refusal_of quiet free
  short-exactly =
      let is = first-is [] (ltb (length work) 8192) 22 (table_checks g types numbers) (λ z. omega arith) refl others in
      (λ e. ltb-true (length work) 8192 (is.0 e).0, λ h. is.1 (lt-ltb (length work) 8192 h, refl))

  -- WHERE 22 COMES BACK THE WORK IS AS IT CAME, ELSE ALL OF IT IS ZERO
  pub work-kept : refusal_of g types numbers (length work) ≡ 22 → work_after work ≡ work
  unfolding work_after
  work-kept e = rw (lt-ltb (length work) 8192 (short-exactly.0 e))

  pub work-zero : (refusal_of g types numbers (length work) ≡ 22 → ⊥) → work_after work ≡ replicate (length work) 0
  unfolding work_after
  work-zero n = go (ltb (length work) 8192) refl
    where
      go : (b : Bool) → ltb (length work) 8192 ≡ b → cond b work (replicate (length work) 0) ≡ replicate (length work) 0
      go true e = absurd (n (short-exactly.1 (ltb-true (length work) 8192 e)))
      go false e = refl
