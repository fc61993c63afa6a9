-- THE ROW THAT THE CHECK OF A TABLE TELLS is refused with the number that it tells, and every row before it is taken. Each row is judged here by
-- itself and by the rows before it, by their numbers, not by going through them.
use Rattle.std.specs.Prelude.{◌≡◌, Bool, cond, not, ◌↔◌, ℕ, zero, suc, ◌+◌, ◌-◌, ◌^◌, ◌<◌, length, take, drop, get_or}
use Rattle.std.proofs.Math.Path.{refl, ap₂}
use Rattle.std.proofs.Common.{sym, ap, ◌∙◌, arith, ne_eqb, eqb-true}
use Rattle.std.proofs.Math.Bool.{true, false}
use Rattle.std.proofs.lemmas.Bool.{false≢true, eqb-false}
use mathlib.Core.List.{List, [], ◌∷◌}
use Rattle.std.proofs.Math.Decide.{dec_lt}
use Rattle.std.proofs.Math.Dec.{eqb}
use Rattle.checks.specs.Checks.{or_else}
use Rattle.names.specs.Names.{name_of, name_at, check_row, check_rows}
use Rattle.columns.specs.Given.{Given, even}
use Rattle.columns.specs.GivenLaws.{even-is}
use Rattle.tableview.specs.TableRows.{rows_view}
use Rattle.tableview.specs.RowRefusals.{Pair}
use Rattle.stackview.specs.LayerRows.{shown_in}
use Rattle.stackview.specs.LayerRefusals.{layer_row_refusal, under_after, pairs_after, layers_refusal}
use Rattle.tablecheck.specs.declared.TableCheck.{TableCheck}
use Rattle.tablecheck.specs.TableCheck.{names_taken, records_taken, names_refused, name_stopped, names_many, records_refused, record_stopped, told, rows_check, table_check}

-- ---- one row

unfoldable pub total : List ℕ → ℕ
total [] = 0
total (n ∷ ns) = n + total ns

-- the name before name i
abbrev pub name_before : List ℕ → List ℕ → List ℕ → List ℕ → ℕ → List ℕ
name_before bytes ats lens first zero = first
name_before bytes ats lens first (suc i) = name_at bytes ats lens i

-- WHAT NAME i IS REFUSED WITH: by its place, its bytes, the name before it, how many there are before it and how many bytes they have
abbrev pub name_refusal : Given → ℕ → ℕ
name_refusal g i =
    check_row g.names (get_or g.name_at i 0) (get_or g.name_len i 0) (name_before g.names g.name_at g.name_len [] i) i (total (take i g.name_len))

-- the parents of record j
abbrev pub parents_at : List ℕ → List ℕ → List ℕ → ℕ → List ℕ
parents_at parents ats ls j = take (get_or ls j 0) (drop (get_or ats j 0) parents)

-- how many layers lie below the topmost where record j comes
unfoldable pub under_before : List ℕ → ℕ → ℕ → ℕ
under_before fs first zero = first
under_before fs first (suc j) = under_after (get_or fs j 0) (under_before fs first j)

-- the pairs of the records before record j in its layer
unfoldable pub pairs_before : List ℕ → List ℕ → List ℕ → List ℕ → List ℕ → List Pair → ℕ → List Pair
pairs_before parents fs cs ats ls first zero = first
pairs_before parents fs cs ats ls first (suc j) = pairs_after (get_or fs j 0) (get_or cs j 0) (parents_at parents ats ls j) (pairs_before parents fs cs ats ls first j)

-- WHAT RECORD j IS REFUSED WITH: by its place, its flags, its classes, the pairs of the records before it in its layer, and the layers below
abbrev pub record_refusal : Given → ℕ → ℕ
record_refusal g j =
    layer_row_refusal (names_many g) g.parents (under_before g.rec_flags 0 j) (pairs_before g.parents g.rec_flags g.rec_class g.rec_at g.rec_len [] j)
    (get_or g.rec_flags j 0) (get_or g.rec_class j 0) (get_or g.rec_at j 0) (get_or g.rec_len j 0)

-- ---- the first row, of n rows with these refusals

abbrev pub AllTaken : (ℕ → ℕ) → ℕ → Type 0
AllTaken r n = (i : ℕ) → i < n → r i ≡ 0

pub record FirstRow (r : ℕ → ℕ) (n row k : ℕ) : Type 0 where
  pub is-row : row < n
  pub refused : r row ≡ k
  pub number : k ≡ 0 → ⊥
  pub before : AllTaken r row

-- THERE IS ONE FIRST ROW, WITH ONE NUMBER
pub first-one : (r : ℕ → ℕ) (n a b k m : ℕ) → FirstRow r n a k → FirstRow r n b m → (a ≡ b) × (k ≡ m)
first-one r n a b k m p q = go (dec_lt a b) (dec_lt b a)
  where
    go : Dec (a < b) → Dec (b < a) → (a ≡ b) × (k ≡ m)
    go (yes h) d = absurd (p.number (sym p.refused ∙ q.before a h))
    go (no h) (yes d) = absurd (q.number (sym q.refused ∙ p.before b d))
    go (no h) (no d) = let e : a ≡ b = omega arith in (e, sym p.refused ∙ ap r e ∙ q.refused)

-- what a refusal k and a row say of all rows
record Says (r : ℕ → ℕ) (n k row : ℕ) : Type 0 where
  taken : k ≡ 0 → AllTaken r n
  first : (k ≡ 0 → ⊥) → FirstRow r n row k

says-same : (r s : ℕ → ℕ) (n k row : ℕ) → ((i : ℕ) → s i ≡ r i) → Says r n k row → Says s n k row
says-same r s n k row e w = record {
  taken = λ z i h. e i ∙ w.taken z i h;
  first = λ q. let f = w.first q in record { is-row = f.is-row; refused = e row ∙ f.refused; number = q; before = λ i h. e i ∙ f.before i h };
}

says-none : (r : ℕ → ℕ) → Says r 0 0 0
says-none r = record { taken = λ z i h. absurd (omega arith); first = λ q. absurd (q refl) }

-- the first row and those after it
says-more : (r : ℕ → ℕ) (n f k row : ℕ) → r 0 ≡ f → Says (λ i. r (suc i)) n k row → Says r (suc n) (or_else f k) (cond (eqb f 0) (suc row) 0)
says-more r n zero k row e w = record {
  taken = λ z. later (suc n) (λ i h. w.taken z i (omega arith));
  first = λ q. let f = w.first q in record { is-row = let h = f.is-row in omega arith; refused = f.refused; number = q; before = later (suc row) (λ i h. f.before i (omega arith)) };
}
  where
    later : (m : ℕ) → ((i : ℕ) → suc i < m → r (suc i) ≡ 0) → AllTaken r m
    later m h zero l = e
    later m h (suc i) l = h i l
says-more r n (suc f) k row e w = record {
  taken = λ z. absurd (omega arith);
  first = λ q. rw (ne_eqb (suc f) 0 (λ z. omega arith)) (record { is-row = omega arith; refused = e; number = q; before = λ i h. absurd (omega arith) });
}

-- ---- names

plus-none : (n : ℕ) → n + 0 ≡ n
plus-none n = omega arith

none-plus : (n : ℕ) → n ≡ 0 + n
none-plus n = omega arith

plus-next : (n i : ℕ) → n + suc i ≡ suc n + i
plus-next n i = omega arith

plus-both : (n m k : ℕ) → n + (m + k) ≡ n + m + k
plus-both n m k = omega arith

names_from : List ℕ → List ℕ → List ℕ → List ℕ → ℕ → ℕ → ℕ → ℕ
names_from bytes ats lens last count bytes_before i = check_row bytes (get_or ats i 0) (get_or lens i 0) (name_before bytes ats lens last i) (count + i) (bytes_before + total (take i lens))

names-say : (bytes ats lens last : List ℕ) (count sum : ℕ) → length ats ≡ length lens
    → Says (names_from bytes ats lens last count sum) (length ats) (check_rows bytes ats lens last count sum) (names_taken bytes ats lens last count sum)
unfolding check_rows names_taken names_from total
names-say bytes [] lens last count sum e = says-none (names_from bytes [] lens last count sum)
names-say bytes (at ∷ ats) [] last count sum e = absurd (omega arith)
names-say bytes (at ∷ ats) (len ∷ lens) last count sum e =
    says-more (names_from bytes (at ∷ ats) (len ∷ lens) last count sum) (length ats) (check_row bytes at len last count sum) (check_rows bytes ats lens name (suc count) (sum + len))
    (names_taken bytes ats lens name (suc count) (sum + len)) first-is
    (says-same (names_from bytes ats lens name (suc count) (sum + len)) (λ i. names_from bytes (at ∷ ats) (len ∷ lens) last count sum (suc i)) (length ats)
    (check_rows bytes ats lens name (suc count) (sum + len)) (names_taken bytes ats lens name (suc count) (sum + len)) later (names-say bytes ats lens name (suc count) (sum + len) (omega arith)))
  where
    name : List ℕ
    name = name_of bytes at len

    first-is : names_from bytes (at ∷ ats) (len ∷ lens) last count sum 0 ≡ check_row bytes at len last count sum
    first-is = ap₂ (λ (c t : ℕ). check_row bytes at len last c t) (plus-none count) (plus-none sum)

    later : (i : ℕ) → names_from bytes (at ∷ ats) (len ∷ lens) last count sum (suc i) ≡ names_from bytes ats lens name (suc count) (sum + len) i
    later zero = ap₂ (λ (c t : ℕ). check_row bytes (get_or ats 0 0) (get_or lens 0 0) name c t) (plus-next count 0) (plus-both sum len (total (take 0 lens)))
    later (suc i) = ap₂ (λ (c t : ℕ). check_row bytes (get_or ats (suc i) 0) (get_or lens (suc i) 0) (name_at bytes ats lens i) c t) (plus-next count (suc i)) (plus-both sum len (total (take (suc i) lens)))

-- ---- records

records_from : ℕ → List ℕ → List ℕ → List ℕ → List ℕ → List ℕ → ℕ → List Pair → ℕ → ℕ
records_from names parents fs cs ats ls under before j =
    layer_row_refusal names parents (under_before fs under j) (pairs_before parents fs cs ats ls before j) (get_or fs j 0) (get_or cs j 0) (get_or ats j 0) (get_or ls j 0)

under-later : (f : ℕ) (fs : List ℕ) (under j : ℕ) → under_before (f ∷ fs) under (suc j) ≡ under_before fs (under_after f under) j
unfolding under_before
under-later f fs under zero = refl
under-later f fs under (suc j) = ap (under_after (get_or fs j 0)) (under-later f fs under j)

pairs-later : (parents : List ℕ) (f : ℕ) (fs : List ℕ) (c : ℕ) (cs : List ℕ) (a : ℕ) (ats : List ℕ) (l : ℕ) (ls : List ℕ) (before : List Pair) (j : ℕ)
    → pairs_before parents (f ∷ fs) (c ∷ cs) (a ∷ ats) (l ∷ ls) before (suc j) ≡ pairs_before parents fs cs ats ls (pairs_after f c (take l (drop a parents)) before) j
unfolding pairs_before
pairs-later parents f fs c cs a ats l ls before zero = refl
pairs-later parents f fs c cs a ats l ls before (suc j) = ap (pairs_after (get_or fs j 0) (get_or cs j 0) (parents_at parents ats ls j)) (pairs-later parents f fs c cs a ats l ls before j)

records-say : (names : ℕ) (parents fs cs ats ls : List ℕ) (under : ℕ) (before : List Pair) → length fs ≡ length cs → length fs ≡ length ats → length fs ≡ length ls
    → Says (records_from names parents fs cs ats ls under before) (length fs) (layers_refusal names parents fs cs ats ls under before) (records_taken names parents fs cs ats ls under before)
unfolding layers_refusal records_taken records_from pairs_before under_before
records-say names parents [] cs ats ls under before p q r = says-none (records_from names parents [] cs ats ls under before)
records-say names parents (f ∷ fs) [] ats ls under before p q r = absurd (omega arith)
records-say names parents (f ∷ fs) (c ∷ cs) [] ls under before p q r = absurd (omega arith)
records-say names parents (f ∷ fs) (c ∷ cs) (a ∷ ats) [] under before p q r = absurd (omega arith)
records-say names parents (f ∷ fs) (c ∷ cs) (a ∷ ats) (l ∷ ls) under before p q r =
    says-more (records_from names parents (f ∷ fs) (c ∷ cs) (a ∷ ats) (l ∷ ls) under before) (length fs) (records_from names parents (f ∷ fs) (c ∷ cs) (a ∷ ats) (l ∷ ls) under before 0)
    (layers_refusal names parents fs cs ats ls below more) (records_taken names parents fs cs ats ls below more) refl
    (says-same (records_from names parents fs cs ats ls below more) (λ j. records_from names parents (f ∷ fs) (c ∷ cs) (a ∷ ats) (l ∷ ls) under before (suc j)) (length fs)
    (layers_refusal names parents fs cs ats ls below more) (records_taken names parents fs cs ats ls below more) later (records-say names parents fs cs ats ls below more (omega arith) (omega arith) (omega arith)))
  where
    below : ℕ
    below = under_after f under

    more : List Pair
    more = pairs_after f c (take l (drop a parents)) before

    later : (j : ℕ) → records_from names parents (f ∷ fs) (c ∷ cs) (a ∷ ats) (l ∷ ls) under before (suc j) ≡ records_from names parents fs cs ats ls below more j
    later j =
        ap₂ (λ (u : ℕ) (ps : List Pair). layer_row_refusal names parents u ps (get_or fs j 0) (get_or cs j 0) (get_or ats j 0) (get_or ls j 0))
        (under-later f fs under j) (pairs-later parents f fs c cs a ats l ls before j)

-- ---- THE TABLE

-- all that a check may tell of a table
pub data Finds (g : Given) : TableCheck → Type 0 where
  -- columns of unequal length
  unequal : even g ≡ false → Finds g (told 3 0 0)
  -- a name
  in-names : even g ≡ true → (row k : ℕ) → FirstRow (name_refusal g) (length g.name_at) row k → Finds g (told k 1 row)
  -- a record, after names that are all taken
  in-records : even g ≡ true → AllTaken (name_refusal g) (length g.name_at) → (row k : ℕ) → FirstRow (record_refusal g) (length g.rec_flags) row k → Finds g (told k 2 row)
  -- no name is java/lang/Object, and every row is taken
  no-object : even g ≡ true → AllTaken (name_refusal g) (length g.name_at) → AllTaken (record_refusal g) (length g.rec_flags) → (rows_view (shown_in g)).object ≡ 2 ^ 64 - 1
      → Finds g (told 9 3 0)
  -- nothing
  nothing : even g ≡ true → AllTaken (name_refusal g) (length g.name_at) → AllTaken (record_refusal g) (length g.rec_flags) → ((rows_view (shown_in g)).object ≡ 2 ^ 64 - 1 → ⊥)
      → Finds g (told 0 0 0)

module _ (g : Given) (e : even g ≡ true) where
  equal : (length g.name_at ≡ length g.name_len) × (length g.rec_flags ≡ length g.rec_class) × (length g.rec_flags ≡ length g.rec_at) × (length g.rec_flags ≡ length g.rec_len)
  unfolding even
  equal = even-is (length g.name_at) (length g.name_len) (length g.rec_flags) (length g.rec_class) (length g.rec_at) (length g.rec_len) e

  names-told : Says (name_refusal g) (length g.name_at) (names_refused g) (name_stopped g)
  unfolding names_from
  names-told =
      says-same (names_from g.names g.name_at g.name_len [] 0 0) (name_refusal g) (length g.name_at) (names_refused g) (name_stopped g)
      (λ i. ap₂ (λ (c t : ℕ). check_row g.names (get_or g.name_at i 0) (get_or g.name_len i 0) (name_before g.names g.name_at g.name_len [] i) c t) (none-plus i) (none-plus (total (take i g.name_len))))
      (names-say g.names g.name_at g.name_len [] 0 0 equal.0)

  records-told : Says (record_refusal g) (length g.rec_flags) (records_refused g) (record_stopped g)
  unfolding records_from
  records-told = records-say (names_many g) g.parents g.rec_flags g.rec_class g.rec_at g.rec_len 0 [] equal.1 equal.2 equal.3

  rows-find : Finds g (rows_check g)
  unfolding rows_check
  rows-find = go (eqb (names_refused g) 0) refl (eqb (records_refused g) 0) refl (eqb (rows_view (shown_in g)).object (2 ^ 64 - 1)) refl
    where
      go : (n : Bool) → eqb (names_refused g) 0 ≡ n → (r : Bool) → eqb (records_refused g) 0 ≡ r → (o : Bool) → eqb (rows_view (shown_in g)).object (2 ^ 64 - 1) ≡ o
          → Finds g (cond (not n) (told (names_refused g) 1 (name_stopped g)) (cond (not r) (told (records_refused g) 2 (record_stopped g)) (cond o (told 9 3 0) (told 0 0 0))))
      go false en r er o eo = in-names e (name_stopped g) (names_refused g) (names-told.first (eqb-false (names_refused g) 0 en))
      go true en false er o eo = in-records e (names-told.taken (eqb-true (names_refused g) 0 en)) (record_stopped g) (records_refused g) (records-told.first (eqb-false (records_refused g) 0 er))
      go true en true er true eo =
          no-object e (names-told.taken (eqb-true (names_refused g) 0 en)) (records-told.taken (eqb-true (records_refused g) 0 er)) (eqb-true (rows_view (shown_in g)).object (2 ^ 64 - 1) eo)
      go true en true er false eo =
          nothing e (names-told.taken (eqb-true (names_refused g) 0 en)) (records-told.taken (eqb-true (records_refused g) 0 er)) (eqb-false (rows_view (shown_in g)).object (2 ^ 64 - 1) eo)

-- WHAT THE CHECK TELLS OF ANY TABLE IS SO
pub check-finds : (g : Given) → Finds g (table_check g)
unfolding table_check
check-finds g = go (even g) refl
  where
    go : (b : Bool) → even g ≡ b → Finds g (cond b (rows_check g) (told 3 0 0))
    go true e = rows-find g e
    go false e = unequal e

-- AND NOTHING ELSE IS: of a table there is one thing to tell
pub finds-one : (g : Given) (a b : TableCheck) → Finds g a → Finds g b → a ≡ b
finds-one g a b (unequal e₁) (unequal e₂) = refl
finds-one g a b (unequal e₁) (in-names e₂ row₂ k₂ f₂) = absurd (false≢true (sym e₁ ∙ e₂))
finds-one g a b (unequal e₁) (in-records e₂ n₂ row₂ k₂ f₂) = absurd (false≢true (sym e₁ ∙ e₂))
finds-one g a b (unequal e₁) (no-object e₂ n₂ r₂ o₂) = absurd (false≢true (sym e₁ ∙ e₂))
finds-one g a b (unequal e₁) (nothing e₂ n₂ r₂ o₂) = absurd (false≢true (sym e₁ ∙ e₂))
finds-one g a b (in-names e₁ row₁ k₁ f₁) (unequal e₂) = absurd (false≢true (sym e₂ ∙ e₁))
finds-one g a b (in-names e₁ row₁ k₁ f₁) (in-names e₂ row₂ k₂ f₂) = let w = first-one (name_refusal g) (length g.name_at) row₁ row₂ k₁ k₂ f₁ f₂ in ap₂ (λ (m i : ℕ). told m 1 i) w.1 w.0
finds-one g a b (in-names e₁ row₁ k₁ f₁) (in-records e₂ n₂ row₂ k₂ f₂) = absurd (f₁.number (sym f₁.refused ∙ n₂ row₁ f₁.is-row))
finds-one g a b (in-names e₁ row₁ k₁ f₁) (no-object e₂ n₂ r₂ o₂) = absurd (f₁.number (sym f₁.refused ∙ n₂ row₁ f₁.is-row))
finds-one g a b (in-names e₁ row₁ k₁ f₁) (nothing e₂ n₂ r₂ o₂) = absurd (f₁.number (sym f₁.refused ∙ n₂ row₁ f₁.is-row))
finds-one g a b (in-records e₁ n₁ row₁ k₁ f₁) (unequal e₂) = absurd (false≢true (sym e₂ ∙ e₁))
finds-one g a b (in-records e₁ n₁ row₁ k₁ f₁) (in-names e₂ row₂ k₂ f₂) = absurd (f₂.number (sym f₂.refused ∙ n₁ row₂ f₂.is-row))
finds-one g a b (in-records e₁ n₁ row₁ k₁ f₁) (in-records e₂ n₂ row₂ k₂ f₂) = let w = first-one (record_refusal g) (length g.rec_flags) row₁ row₂ k₁ k₂ f₁ f₂ in ap₂ (λ (m i : ℕ). told m 2 i) w.1 w.0
finds-one g a b (in-records e₁ n₁ row₁ k₁ f₁) (no-object e₂ n₂ r₂ o₂) = absurd (f₁.number (sym f₁.refused ∙ r₂ row₁ f₁.is-row))
finds-one g a b (in-records e₁ n₁ row₁ k₁ f₁) (nothing e₂ n₂ r₂ o₂) = absurd (f₁.number (sym f₁.refused ∙ r₂ row₁ f₁.is-row))
finds-one g a b (no-object e₁ n₁ r₁ o₁) (unequal e₂) = absurd (false≢true (sym e₂ ∙ e₁))
finds-one g a b (no-object e₁ n₁ r₁ o₁) (in-names e₂ row₂ k₂ f₂) = absurd (f₂.number (sym f₂.refused ∙ n₁ row₂ f₂.is-row))
finds-one g a b (no-object e₁ n₁ r₁ o₁) (in-records e₂ n₂ row₂ k₂ f₂) = absurd (f₂.number (sym f₂.refused ∙ r₁ row₂ f₂.is-row))
finds-one g a b (no-object e₁ n₁ r₁ o₁) (no-object e₂ n₂ r₂ o₂) = refl
finds-one g a b (no-object e₁ n₁ r₁ o₁) (nothing e₂ n₂ r₂ o₂) = absurd (o₂ o₁)
finds-one g a b (nothing e₁ n₁ r₁ o₁) (unequal e₂) = absurd (false≢true (sym e₂ ∙ e₁))
finds-one g a b (nothing e₁ n₁ r₁ o₁) (in-names e₂ row₂ k₂ f₂) = absurd (f₂.number (sym f₂.refused ∙ n₁ row₂ f₂.is-row))
finds-one g a b (nothing e₁ n₁ r₁ o₁) (in-records e₂ n₂ row₂ k₂ f₂) = absurd (f₂.number (sym f₂.refused ∙ r₁ row₂ f₂.is-row))
finds-one g a b (nothing e₁ n₁ r₁ o₁) (no-object e₂ n₂ r₂ o₂) = absurd (o₁ o₂)
finds-one g a b (nothing e₁ n₁ r₁ o₁) (nothing e₂ n₂ r₂ o₂) = refl

-- so 0 is told exactly of a table of which nothing is refused, and then part and row are 0
pub record Clean (g : Given) : Type 0 where
  pub columns : even g ≡ true
  pub names : AllTaken (name_refusal g) (length g.name_at)
  pub records : AllTaken (record_refusal g) (length g.rec_flags)
  pub object-there : (rows_view (shown_in g)).object ≡ 2 ^ 64 - 1 → ⊥

pub clean-exactly : (g : Given) → (((table_check g).refusal ≡ 0) ↔ Clean g) × (Clean g → table_check g ≡ told 0 0 0)
clean-exactly g = ((λ z. go (table_check g) (check-finds g) z, λ c. ap (λ (t : TableCheck). t.refusal) (all-zero c)), all-zero)
  where
    go : (c : TableCheck) → Finds g c → c.refusal ≡ 0 → Clean g
    go c (unequal e) q = absurd (omega arith)
    go c (in-names e row k f) q = absurd (f.number q)
    go c (in-records e n row k f) q = absurd (f.number q)
    go c (no-object e n r o) q = absurd (omega arith)
    go c (nothing e n r o) q = record { columns = e; names = n; records = r; object-there = o }

    all-zero : Clean g → table_check g ≡ told 0 0 0
    all-zero c = finds-one g (table_check g) (told 0 0 0) (check-finds g) (nothing c.columns c.names c.records c.object-there)
