-- Plain rows as columns, one after the other: the columns hold these rows and no others, so a table of plain rows is a table of columns.
use Rattle.std.specs.Prelude.{◌≡◌, refl, Bool, true, cond, ◌&&◌, ℕ, suc, ◌+◌, ◌-◌, take, drop}
use Rattle.std.proofs.Math.Path.{sym, ap, ap₂}
use Rattle.std.proofs.Common.{◌∙◌, arith}
use mathlib.Core.List.{List, [], ◌∷◌, ◌++◌}
use Rattle.std.proofs.Math.ListN.{length, length-append}
use borrow.Author.Tests.{eq-eqb, le-leb}
use Rattle.columns.specs.Columns.{inside}
use Rattle.columns.specs.Fold.{Row, misplaced, named, recorded, run, names_in, records_in, ran, start, table-fold}
use Rattle.columns.specs.Given.{even_lengths, even, no_marks, table}
use Rattle.tableview.specs.TableRows.{Record, Rows, names_of, records_of, rows_in}
use Rattle.tableview.specs.Canonical.{joined, places_from, sizes_of, parent_lists, flags_of, class_numbers, columns_of, named_rows, recorded_rows, table_rows}

-- ---- a part is found where it stands

drop-before : (pre l : List ℕ) → drop (length pre) (pre ++ l) ≡ l
drop-before [] l = refl
drop-before (x ∷ pre) l = drop-before pre l

take-part : (x l : List ℕ) → take (length x) (x ++ l) ≡ x
take-part [] l = refl
take-part (y ∷ x) l = ap (λ (z : List ℕ). y ∷ z) (take-part x l)

append-assoc : (a b c : List ℕ) → (a ++ b) ++ c ≡ a ++ (b ++ c)
append-assoc [] b c = refl
append-assoc (x ∷ a) b c = ap (λ (l : List ℕ). x ∷ l) (append-assoc a b c)

module _ (pre x rest : List ℕ) where
  part-found : take (length x) (drop (length pre) (pre ++ (x ++ rest))) ≡ x
  part-found = ap (take (length x)) (drop-before pre (x ++ rest)) ∙ take-part x rest

  part-inside : inside (length (pre ++ (x ++ rest))) (length pre) (length x) ≡ true
  unfolding inside
  part-inside =
      let a = length-append pre (x ++ rest) in
      let b = length-append x rest in
      ap₂ (λ (s t : Bool). s && t) (le-leb (length pre) (length (pre ++ (x ++ rest))) (omega arith)) (le-leb (length x) (length (pre ++ (x ++ rest)) - length pre) (omega arith))

-- ---- names

names-from : (pre : List ℕ) (ns : List (List ℕ)) → names_in (pre ++ joined ns) (places_from (length pre) ns) (sizes_of ns) ≡ named_rows ns
unfolding joined places_from sizes_of names_in named_rows
names-from pre [] = refl
names-from pre (n ∷ ns) =
    ap₂ (λ (r : Row) (rs : List Row). r ∷ rs)
    (ap₂ (λ (b : Bool) (m : List ℕ). cond b (named m) misplaced) (part-inside pre n (joined ns)) (part-found pre n (joined ns)))
    (ap₂ (λ (l : List ℕ) (k : ℕ). names_in l (places_from k ns) (sizes_of ns)) (sym (append-assoc pre n (joined ns))) (sym (length-append pre n)) ∙ names-from (pre ++ n) ns)

plain-names-from : (pre : List ℕ) (ns : List (List ℕ)) → names_of (pre ++ joined ns) (places_from (length pre) ns) (sizes_of ns) ≡ ns
unfolding joined places_from sizes_of names_of
plain-names-from pre [] = refl
plain-names-from pre (n ∷ ns) =
    ap₂ (λ (m : List ℕ) (ms : List (List ℕ)). m ∷ ms) (part-found pre n (joined ns))
    (ap₂ (λ (l : List ℕ) (k : ℕ). names_of l (places_from k ns) (sizes_of ns)) (sym (append-assoc pre n (joined ns))) (sym (length-append pre n)) ∙ plain-names-from (pre ++ n) ns)

-- ---- records

records-from : (pre : List ℕ) (rs : List Record)
    → records_in (pre ++ joined (parent_lists rs)) (flags_of rs) (class_numbers rs) (places_from (length pre) (parent_lists rs)) (sizes_of (parent_lists rs)) ≡ recorded_rows rs
unfolding joined places_from sizes_of records_in recorded_rows flags_of class_numbers parent_lists
records-from pre [] = refl
records-from pre (r ∷ rs) =
    ap₂ (λ (x : Row) (xs : List Row). x ∷ xs)
    (ap₂ (λ (b : Bool) (m : List ℕ). cond b (recorded r.flags r.class m) misplaced) (part-inside pre r.parents (joined (parent_lists rs))) (part-found pre r.parents (joined (parent_lists rs))))
    (ap₂ (λ (l : List ℕ) (k : ℕ). records_in l (flags_of rs) (class_numbers rs) (places_from k (parent_lists rs)) (sizes_of (parent_lists rs))) (sym (append-assoc pre r.parents (joined (parent_lists rs)))) (sym (length-append pre r.parents))
    ∙ records-from (pre ++ r.parents) rs)

plain-records-from : (pre : List ℕ) (rs : List Record)
    → records_of (pre ++ joined (parent_lists rs)) (flags_of rs) (class_numbers rs) (places_from (length pre) (parent_lists rs)) (sizes_of (parent_lists rs)) ≡ rs
unfolding joined places_from sizes_of records_of flags_of class_numbers parent_lists
plain-records-from pre [] = refl
plain-records-from pre (r ∷ rs) =
    ap₂ (λ (x : Record) (xs : List Record). x ∷ xs)
    (ap (λ (m : List ℕ). record { flags = r.flags; class = r.class; parents = m }) (part-found pre r.parents (joined (parent_lists rs))))
    (ap₂ (λ (l : List ℕ) (k : ℕ). records_of l (flags_of rs) (class_numbers rs) (places_from k (parent_lists rs)) (sizes_of (parent_lists rs))) (sym (append-assoc pre r.parents (joined (parent_lists rs)))) (sym (length-append pre r.parents))
    ∙ plain-records-from (pre ++ r.parents) rs)

-- ---- lengths

places-length : (n : ℕ) (xs : List (List ℕ)) → length (places_from n xs) ≡ length (sizes_of xs)
unfolding places_from sizes_of
places-length n [] = refl
places-length n (x ∷ xs) = ap suc (places-length (n + length x) xs)

flags-length : (rs : List Record) → (length (flags_of rs) ≡ length (class_numbers rs)) × (length (flags_of rs) ≡ length (sizes_of (parent_lists rs)))
unfolding flags_of class_numbers sizes_of parent_lists
flags-length [] = (refl, refl)
flags-length (r ∷ rs) = let k = flags-length rs in (ap suc k.0, ap suc k.1)

-- ---- THE COLUMNS HOLD THE ROWS

module _ (t : Rows) where
  pub columns-even : even (columns_of t) ≡ true
  unfolding even even_lengths columns_of
  columns-even =
      let k = flags-length t.records in
      let p = places-length 0 (parent_lists t.records) in
      rw (
        eq-eqb (length (places_from 0 t.names)) (length (sizes_of t.names)) (places-length 0 t.names),
        eq-eqb (length (flags_of t.records)) (length (class_numbers t.records)) k.0,
        eq-eqb (length (flags_of t.records)) (length (places_from 0 (parent_lists t.records))) (k.1 ∙ sym p),
        eq-eqb (length (flags_of t.records)) (length (sizes_of (parent_lists t.records))) k.1,
      )

  -- read off they are the rows
  pub rows-back : rows_in (columns_of t) ≡ t
  unfolding rows_in columns_of
  rows-back i = record { names = plain-names-from [] t.names i; records = plain-records-from [] t.records i }

  -- row by row
  pub rows-held : names_in (columns_of t).names (columns_of t).name_at (columns_of t).name_len
      ++ records_in (columns_of t).parents (columns_of t).rec_flags (columns_of t).rec_class (columns_of t).rec_at (columns_of t).rec_len
      ≡ table_rows t
  unfolding columns_of
  rows-held = ap₂ (λ (a b : List Row). a ++ b) (names-from [] t.names) (records-from [] t.records)

  -- and their table is the fold of the rows
  pub table-rows : table (columns_of t) ≡ ran (run (table_rows t) (start no_marks))
  unfolding table
  table-rows =
      table-fold (columns_of t).names (columns_of t).name_at (columns_of t).name_len (columns_of t).parents (columns_of t).rec_flags (columns_of t).rec_class (columns_of t).rec_at (columns_of t).rec_len no_marks
      ∙ ap (λ (rows : List Row). ran (run rows (start no_marks))) rows-held
