-- A TABLE IS REFUSED AS ITS ROWS ARE: the state of keys and marks refuses the same row with the same number, whether the columns are even or not.
use Rattle.std.specs.Prelude.{◌≡◌, Bool, not, ◌&&◌, ◌||◌, ℕ, suc, ◌+◌, ◌≤◌, ◌<◌, eqb, ltb, length, take, drop}
use Rattle.std.proofs.Math.Path.{refl, ap}
use Rattle.std.proofs.Common.{sym, ◌∙◌, subst, arith, eqb-true}
use Rattle.std.proofs.Math.Bool.{true, false, cond}
use mathlib.Core.List.Memᴰ
use mathlib.Core.List.{List, [], ◌∷◌, ◌++◌, map, Memᴰ}
use Rattle.std.proofs.lemmas.Bool.{eqb-false}
use Rattle.order.specs.Truth.{both}
use Rattle.order.specs.Lists.{elem}
use Rattle.sorted.specs.Laws.{same-members}
use Rattle.checks.specs.Checks.{first_refusal, or_else, else-none, else-some}
use Rattle.names.specs.Names.{name_of, check_rows}
use Rattle.tables.specs.declared.Tables.{Tables}
use Rattle.rows.specs.declared.Outcome.{Outcome}
use Rattle.rows.specs.Rows.{no_tables, with_name, good_flags, all_below, key, put_all, State, record_checks, record_refusal, with_record, Ran}
use Rattle.rows.specs.Keys.{all-sorted, all-has}
use Rattle.rows.specs.Laws.{Sound, record-good, record-taken, good-record}
use Rattle.columns.specs.Columns.{inside, placed_name, name_rows, placed_record, record_rows, table_of}
use Rattle.columns.specs.Laws.{record-inside, record-outside, names-good}
use Rattle.columns.specs.Names.{row-adds, names-agree}
use Rattle.columns.specs.Given.{Given, no_marks, table}
use Rattle.tableview.specs.TableRows.{set_of, names_of}
use Rattle.tableview.specs.RowRefusals.{Pair, listed, different, row_checks, records_refusal, table_refusal}
use Rattle.tableview.proofs.Taken.{elem-below, placed-taken}
use Rattle.tableview.proofs.Agrees.{elem-set, set-sorted, member-elem}
use Rattle.tableview.proofs.Domain.{keys_of, Small, elem-listed, set-counted, listed-small, below-members}

-- ---- names

-- as many names as rows that have both columns
pub names-many : (bytes ats lens last : List ℕ) (t : Tables) → (name_rows bytes ats lens last t).refusal ≡ 0
    → (name_rows bytes ats lens last t).tables.names ≡ t.names + length (names_of bytes ats lens)
unfolding name_rows names_of with_name
names-many bytes [] lens last t z = omega arith
names-many bytes (at ∷ ats) [] last t z = omega arith
names-many bytes (at ∷ ats) (len ∷ lens) last t z = go (eqb one.refusal 0) refl z (names-many bytes ats lens (name_of bytes at len) one.tables)
  where
    one : Outcome
    one = placed_name bytes last at len t

    rest : Outcome
    rest = name_rows bytes ats lens (name_of bytes at len) one.tables

    go : (b : Bool) → eqb one.refusal 0 ≡ b → (cond b rest one).refusal ≡ 0
        → (rest.refusal ≡ 0 → rest.tables.names ≡ one.tables.names + length (names_of bytes ats lens))
        → (cond b rest one).tables.names ≡ t.names + suc (length (names_of bytes ats lens))
    go true e q ih = let k = ih q in let m = ap (λ (u : Tables). u.names) (row-adds bytes last at len t (eqb-true one.refusal 0 e)) in omega arith
    go false e q ih = absurd (eqb-false one.refusal 0 e q)

-- ---- a record

-- the keys are those of the pairs before, as a set
pub record Holds (keys : List ℕ) (before : List Pair) : Type 0 where
  pub keys-are : keys ≡ set_of (keys_of before)
  pub small : Small before

module _ (names : ℕ) (keys : List ℕ) (before : List Pair) (few : names ≤ 1024) (h : Holds keys before) (c : ℕ) (ps : List ℕ) where
  -- the pairs of a row of the table's classes come to them
  pub row-holds : ((p : ℕ) → Memᴰ p ps → p < names) → Holds (put_all c ps keys) (listed c ps ++ before)
  row-holds below = record {
    keys-are =
        ap (put_all c ps) h.keys-are
        ∙ same-members (put_all c ps old) (set_of (keys_of (listed c ps ++ before))) (all-sorted c ps old (set-sorted (keys_of before))) (set-sorted (keys_of (listed c ps ++ before)))
        (λ z. all-has c z ps old ∙ ap (λ (b : Bool). elem z (map (key c) ps) || b) (elem-set z (keys_of before)) ∙ sym (elem-listed z c ps before)
        ∙ sym (elem-set z (keys_of (listed c ps ++ before))));
    small = listed-small c ps before (λ p m. let k = below p m in omega arith) h.small;
  }
    where
      old : List ℕ
      old = set_of (keys_of before)

  row-counted : ((p : ℕ) → Memᴰ p ps → p < names) → length (put_all c ps keys) ≡ different (listed c ps ++ before)
  row-counted below = let n = row-holds below in ap length n.keys-are ∙ set-counted (listed c ps ++ before) n.small

  -- A ROW INSIDE IS REFUSED BY ITS PAIRS AS BY ITS KEYS
  pub row-refused : (f : ℕ) → record_refusal names keys f c ps ≡ first_refusal (row_checks names true f c ps before)
  unfolding record_refusal record_checks row_checks first_refusal
  row-refused f = go (good_flags f && (ltb c names && all_below names ps)) refl
    where
      go : (b : Bool) → (good_flags f && (ltb c names && all_below names ps)) ≡ b
          → cond {A = ℕ} (ltb 254 (length ps)) 3 (cond (not b) 6 (cond (ltb 4096 (length (put_all c ps keys))) 8 0))
          ≡ cond (ltb 254 (length ps)) 3 (cond (not b) 6 (cond (ltb 4096 (different (listed c ps ++ before))) 8 0))
      go false e = refl
      go true e =
          let in-names = (both (ltb c names) (all_below names ps) (both (good_flags f) (ltb c names && all_below names ps) e).1).1 in
          ap (λ (n : ℕ). cond {A = ℕ} (ltb 254 (length ps)) 3 (cond (ltb 4096 n) 8 0)) (row-counted ((below-members names ps).0 in-names))

row-outside : (names f c : ℕ) (ps : List ℕ) (before : List Pair) → first_refusal (row_checks names false f c ps before) ≡ 3
unfolding row_checks first_refusal
row-outside names f c ps before = refl

-- and one outside with 3
pub placed-refused : (parents : List ℕ) (f c a l : ℕ) (s : State) (before : List Pair) → s.tables.names ≤ 1024 → Holds s.keys before
    → (placed_record parents f c a l s).refusal ≡ first_refusal (row_checks s.tables.names (inside (length parents) a l) f c (take l (drop a parents)) before)
placed-refused parents f c a l s before few h = go (inside (length parents) a l) refl
  where
    go : (b : Bool) → inside (length parents) a l ≡ b → (placed_record parents f c a l s).refusal ≡ first_refusal (row_checks s.tables.names b f c (take l (drop a parents)) before)
    go true e = ap (λ (u : Ran). u.refusal) (record-inside parents f c a l s e) ∙ row-refused s.tables.names s.keys before few h c (take l (drop a parents)) f
    go false e = ap (λ (u : Ran). u.refusal) (record-outside parents f c a l s e) ∙ sym (row-outside s.tables.names f c (take l (drop a parents)) before)

-- what a record that is taken leaves: as many names, and keys that are those of the pairs before and its own
pub record Kept (s u : State) (pairs : List Pair) : Type 0 where
  pub sound : Sound u
  pub holds : Holds u.keys pairs
  pub as-many : u.tables.names ≡ s.tables.names

pub placed-holds : (parents : List ℕ) (f c a l : ℕ) (s : State) (before : List Pair) → Sound s → Holds s.keys before → (placed_record parents f c a l s).refusal ≡ 0
    → Kept s (placed_record parents f c a l s).state (listed c (take l (drop a parents)) ++ before)
unfolding with_record
placed-holds parents f c a l s before g h z =
    let part = take l (drop a parents) in
    let t = placed-taken parents f c a l s z in
    let good = record-good s.tables.names s.keys f c part t.0 in
    let held = row-holds s.tables.names s.keys before g.few h c part (λ p m. elem-below s.tables.names p part good.parents-in (member-elem p part m)) in
    record {
      sound = subst Sound (sym t.1) (subst Sound (record-taken s f c part t.0) (good-record s f c part g));
      holds = subst (λ (u : State). Holds u.keys (listed c part ++ before)) (sym t.1) held;
      as-many = ap (λ (u : State). u.tables.names) t.1;
    }

-- ---- all records

records-refused : (parents fs cs ats ls : List ℕ) (s : State) (before : List Pair) → Sound s → Holds s.keys before
    → (record_rows parents fs cs ats ls s).refusal ≡ records_refusal s.tables.names parents fs cs ats ls before
unfolding record_rows records_refusal
records-refused parents [] cs ats ls s before g h = refl
records-refused parents (f ∷ fs) [] ats ls s before g h = refl
records-refused parents (f ∷ fs) (c ∷ cs) [] ls s before g h = refl
records-refused parents (f ∷ fs) (c ∷ cs) (a ∷ ats) [] s before g h = refl
records-refused parents (f ∷ fs) (c ∷ cs) (a ∷ ats) (l ∷ ls) s before g h =
    go (eqb one.refusal 0) refl (records-refused parents fs cs ats ls one.state (listed c part ++ before))
  where
    one : Ran
    one = placed_record parents f c a l s

    rest : Ran
    rest = record_rows parents fs cs ats ls one.state

    part : List ℕ
    part = take l (drop a parents)

    first : ℕ
    first = first_refusal (row_checks s.tables.names (inside (length parents) a l) f c part before)

    more : ℕ → ℕ
    more n = records_refusal n parents fs cs ats ls (listed c part ++ before)

    same : one.refusal ≡ first
    same = placed-refused parents f c a l s before g.few h

    go : (b : Bool) → eqb one.refusal 0 ≡ b
        → (Sound one.state → Holds one.state.keys (listed c part ++ before) → rest.refusal ≡ more one.state.tables.names)
        → (cond b rest one).refusal ≡ or_else first (more s.tables.names)
    go true e ih =
        let z = eqb-true one.refusal 0 e in
        let n = placed-holds parents f c a l s before g h z in
        ih n.sound n.holds ∙ ap more n.as-many ∙ sym (else-none first (more s.tables.names) (sym same ∙ z))
    go false e ih = same ∙ sym (else-some first (more s.tables.names) (λ z. eqb-false one.refusal 0 e (same ∙ z)))

-- ---- the table

pub none-held : Holds [] []
unfolding set_of keys_of Small
none-held = record { keys-are = refl; small = λ q m. absurd (Memᴰ.not-nil m) }

-- THE REFUSAL OF A TABLE IS THAT OF ITS ROWS
pub table-refusal : (g : Given) → (table g).refusal ≡ table_refusal g
unfolding table table_of table_refusal no_tables
table-refusal g = go (eqb named.refusal 0) refl
  where
    named : Outcome
    named = name_rows g.names g.name_at g.name_len [] no_tables

    start : State
    start = record { tables = named.tables; keys = []; marks = no_marks }

    records : Ran
    records = record_rows g.parents g.rec_flags g.rec_class g.rec_at g.rec_len start

    first : ℕ
    first = check_rows g.names g.name_at g.name_len [] 0 0

    more : ℕ → ℕ
    more n = records_refusal n g.parents g.rec_flags g.rec_class g.rec_at g.rec_len []

    many : ℕ
    many = length (names_of g.names g.name_at g.name_len)

    same : named.refusal ≡ first
    same = names-agree g.names g.name_at g.name_len [] no_tables

    go : (b : Bool) → eqb named.refusal 0 ≡ b → (cond {A = Ran} b records (record { refusal = named.refusal; state = start })).refusal ≡ or_else first (more many)
    go true e =
        let z = eqb-true named.refusal 0 e in
        let n : named.tables.names ≡ many = let k = names-many g.names g.name_at g.name_len [] no_tables z in omega arith in
        records-refused g.parents g.rec_flags g.rec_class g.rec_at g.rec_len start [] (names-good g.names g.name_at g.name_len no_marks refl) none-held
        ∙ ap more n ∙ sym (else-none first (more many) (sym same ∙ z))
    go false e = same ∙ sym (else-some first (more many) (λ z. eqb-false named.refusal 0 e (same ∙ z)))
