-- Laws of the rows in columns: what is left to do after each, and that the tables stay good.
use Rattle.std.specs.Prelude.{◌≡◌, Bool, cond, List, [], ◌∷◌, ℕ, ◌+◌, ◌-◌, ◌≤◌, ◌<◌, eqb, leb, length, take, drop, get_or}
use Rattle.std.proofs.Math.Path.{refl}
use Rattle.std.proofs.Common.{sym, ap, ◌∙◌, subst, add-one, arith, drop_of_length-le}
use Rattle.std.proofs.Math.Bool.{true, false}
use Rattle.std.proofs.Math.Seq.{drop-cons}
use borrow.Author.Tests.{ne_eqb, leb-true}
use Rattle.order.specs.Truth.{both}
use Rattle.names.specs.Names.{name_of, check_name}
use Rattle.tables.specs.declared.Tables.{Tables}
use Rattle.tables.specs.Table.{pairs_room, marks_room}
use Rattle.rows.specs.declared.Outcome.{Outcome}
use Rattle.rows.specs.Rows.{no_tables, with_name, name_row, State, state_of, record_refusal, with_record, record_row, Ran, record_ran, filled, Fills}
use Rattle.rows.specs.Keys.{all-longer, filled-same, filled-again, length-filled}
use Rattle.rows.specs.Laws.{Sound, good-start, good-name, good-record, fills-state}
use Rattle.columns.specs.Columns.{inside, placed_name, name_rows, placed_record, record_rows, table_of}

pub inside-is : (size at len : ℕ) → inside size at len ≡ true → (at ≤ size) × (len ≤ size - at)
unfolding inside
inside-is size at len h = let a = both (leb at size) (leb len (size - at)) h in (leb-true at size a.0, leb-true len (size - at) a.1)

-- ---- names

module _ (bytes last : List ℕ) (at len : ℕ) (t : Tables) where
  pub name-inside : inside (length bytes) at len ≡ true → placed_name bytes last at len t ≡ name_row last (name_of bytes at len) t
  unfolding placed_name
  name-inside e = rw e

  pub name-outside : inside (length bytes) at len ≡ false → placed_name bytes last at len t ≡ record { refusal = 3; tables = t }
  unfolding placed_name
  name-outside e = rw e

  -- A ROW THAT IS TAKEN LIES INSIDE
  pub name-placed : (placed_name bytes last at len t).refusal ≡ 0 → inside (length bytes) at len ≡ true
  name-placed h = go (inside (length bytes) at len) refl
    where
      go : (b : Bool) → inside (length bytes) at len ≡ b → inside (length bytes) at len ≡ true
      go true e = e
      go false e = absurd (let z = ap (λ (o : Outcome). o.refusal) (name-outside e) in omega arith)

  -- what holds of the tables before and of those with the name holds after the row
  pub name-either : (P : Tables → Type 0) → P t → P (name_row last (name_of bytes at len) t).tables → P (placed_name bytes last at len t).tables
  unfolding placed_name
  name-either P old new = go (inside (length bytes) at len)
    where
      go : (b : Bool) → P (cond b (name_row last (name_of bytes at len) t) (record { refusal = 3; tables = t })).tables
      go true = new
      go false = old

module _ (bytes ats lens last : List ℕ) (t : Tables) (i : ℕ) where
  pub names-end : length ats ≤ i → name_rows bytes (drop i ats) (drop i lens) last t ≡ record { refusal = 0; tables = t }
  unfolding name_rows
  names-end h = rw (drop_of_length-le ats {i = i} h)

  module _ (h : i < length ats) (k : i < length lens) (o : Outcome) (e : o ≡ placed_name bytes last (get_or ats i 0) (get_or lens i 0) t) where
    pub names-step : o.refusal ≡ 0 → name_rows bytes (drop i ats) (drop i lens) last t
        ≡ name_rows bytes (drop (i + 1) ats) (drop (i + 1) lens) (name_of bytes (get_or ats i 0) (get_or lens i 0)) o.tables
    unfolding name_rows
    names-step z = rw (add-one, drop-cons ats i 0 h, drop-cons lens i 0 k, ← e, z)

    pub names-stop : (o.refusal ≡ 0 → ⊥) → name_rows bytes (drop i ats) (drop i lens) last t ≡ o
    unfolding name_rows
    names-stop n = rw (drop-cons ats i 0 h, drop-cons lens i 0 k, ← e, ne_eqb o.refusal 0 n)

-- WHAT EACH NAME KEEPS, ALL NAMES KEEP
pub names-keep : (P : Tables → Type 0) → ((last name : List ℕ) (t : Tables) → P t → P (name_row last name t).tables)
    → (bytes ats lens last : List ℕ) (t : Tables) → P t → P (name_rows bytes ats lens last t).tables
unfolding name_rows
names-keep P each bytes [] lens last t p = p
names-keep P each bytes (at ∷ ats) [] last t p = p
names-keep P each bytes (at ∷ ats) (len ∷ lens) last t p =
    let one = name-either bytes last at len t P p (each last (name_of bytes at len) t p) in
    go (eqb (placed_name bytes last at len t).refusal 0) one (names-keep P each bytes ats lens (name_of bytes at len) (placed_name bytes last at len t).tables one)
  where
    rest : Outcome
    rest = name_rows bytes ats lens (name_of bytes at len) (placed_name bytes last at len t).tables

    go : (b : Bool) → P (placed_name bytes last at len t).tables → P rest.tables → P (cond b rest (placed_name bytes last at len t)).tables
    go true one all = all
    go false one all = one

pub name-pairs : (last name : List ℕ) (t : Tables) → (name_row last name t).tables.pairs ≡ t.pairs
unfolding name_row with_name
name-pairs last name t = go (eqb (check_name last name t.names t.bytes) 0)
  where
    go : (b : Bool) → (cond b (with_name name t) t).pairs ≡ t.pairs
    go true = refl
    go false = refl

-- names bring no pair
pub names-pairs : (bytes ats lens last : List ℕ) (t : Tables) → (name_rows bytes ats lens last t).tables.pairs ≡ t.pairs
names-pairs bytes ats lens last t =
    names-keep (λ (u : Tables). u.pairs ≡ t.pairs) (λ l n u e. name-pairs l n u ∙ e) bytes ats lens last t refl

-- THE NAMES LEAVE A GOOD STATE
pub names-good : (bytes ats lens marks : List ℕ) → length marks ≡ marks_room → Sound (record { tables = (name_rows bytes ats lens [] no_tables).tables; keys = []; marks = marks })
names-good bytes ats lens marks w =
    names-keep (λ (t : Tables). Sound (record { tables = t; keys = []; marks = marks }))
    (λ l n t g. good-name l n (record { tables = t; keys = []; marks = marks }) g) bytes ats lens [] no_tables (good-start marks w)

-- whatever stands in the slice of pairs
pub names-leave : (bytes ats lens pairs marks : List ℕ) → length marks ≡ marks_room → Sound (state_of pairs marks (name_rows bytes ats lens [] no_tables).tables)
unfolding no_tables
names-leave bytes ats lens pairs marks w = rw (names-pairs bytes ats lens [] no_tables) (names-good bytes ats lens marks w)

-- ---- records

module _ (parents : List ℕ) (flags class at len : ℕ) (s : State) where
  pub record-inside : inside (length parents) at len ≡ true → placed_record parents flags class at len s
      ≡ record_ran s flags class (take len (drop at parents))
  unfolding placed_record
  record-inside e = rw e

  pub record-outside : inside (length parents) at len ≡ false → placed_record parents flags class at len s ≡ record { refusal = 3; state = s }
  unfolding placed_record
  record-outside e = rw e

  -- what holds of the state before and of that with the record holds after the row
  pub record-either : (P : State → Type 0) → P s → P (record_row s flags class (take len (drop at parents))) → P (placed_record parents flags class at len s).state
  unfolding placed_record
  record-either P old new = go (inside (length parents) at len)
    where
      go : (b : Bool)
          → P (cond {A = Ran} b (record_ran s flags class (take len (drop at parents))) (record { refusal = 3; state = s })).state
      go true = new
      go false = old

  pub placed-good : Sound s → Sound (placed_record parents flags class at len s).state
  placed-good g = record-either Sound g (good-record s flags class (take len (drop at parents)) g)

-- no key goes
row-longer : (s : State) (flags class : ℕ) (parents : List ℕ) → length s.keys ≤ length (record_row s flags class parents).keys
unfolding record_row with_record
row-longer s flags class parents = go (eqb (record_refusal s.tables.names s.keys flags class parents) 0)
  where
    go : (b : Bool) → length s.keys ≤ length (cond b (with_record s flags class parents) s).keys
    go true = all-longer class parents s.keys
    go false = omega arith

pub placed-longer : (parents : List ℕ) (flags class at len : ℕ) (s : State) → length s.keys ≤ length (placed_record parents flags class at len s).state.keys
placed-longer parents flags class at len s =
    record-either parents flags class at len s (λ (u : State). length s.keys ≤ length u.keys) (omega arith) (row-longer s flags class (take len (drop at parents)))

module _ (parents fs cs ats ls : List ℕ) (s : State) (i : ℕ) where
  pub records-end : length fs ≤ i → record_rows parents (drop i fs) (drop i cs) (drop i ats) (drop i ls) s ≡ record { refusal = 0; state = s }
  unfolding record_rows
  records-end h = rw (drop_of_length-le fs {i = i} h)

  module _ (hf : i < length fs) (hc : i < length cs) (ha : i < length ats) (hl : i < length ls) (k : ℕ)
      (e : k ≡ (placed_record parents (get_or fs i 0) (get_or cs i 0) (get_or ats i 0) (get_or ls i 0) s).refusal) where
    pub records-step : k ≡ 0 → record_rows parents (drop i fs) (drop i cs) (drop i ats) (drop i ls) s
        ≡ record_rows parents (drop (i + 1) fs) (drop (i + 1) cs) (drop (i + 1) ats) (drop (i + 1) ls) (placed_record parents (get_or fs i 0) (get_or cs i 0) (get_or ats i 0) (get_or ls i 0) s).state
    unfolding record_rows
    records-step z = rw (add-one, drop-cons fs i 0 hf, drop-cons cs i 0 hc, drop-cons ats i 0 ha, drop-cons ls i 0 hl, ← e, z)

    pub records-stop : (k ≡ 0 → ⊥) → record_rows parents (drop i fs) (drop i cs) (drop i ats) (drop i ls) s ≡ placed_record parents (get_or fs i 0) (get_or cs i 0) (get_or ats i 0) (get_or ls i 0) s
    unfolding record_rows
    records-stop n = rw (drop-cons fs i 0 hf, drop-cons cs i 0 hc, drop-cons ats i 0 ha, drop-cons ls i 0 hl, ← e, ne_eqb k 0 n)

pub records-good : (parents fs cs ats ls : List ℕ) (s : State) → Sound s → Sound (record_rows parents fs cs ats ls s).state
unfolding record_rows
records-good parents [] cs ats ls s g = g
records-good parents (f ∷ fs) [] ats ls s g = g
records-good parents (f ∷ fs) (c ∷ cs) [] ls s g = g
records-good parents (f ∷ fs) (c ∷ cs) (a ∷ ats) [] s g = g
records-good parents (f ∷ fs) (c ∷ cs) (a ∷ ats) (l ∷ ls) s g =
    let one = placed-good parents f c a l s g in
    go (eqb (placed_record parents f c a l s).refusal 0) one (records-good parents fs cs ats ls (placed_record parents f c a l s).state one)
  where
    rest : Ran
    rest = record_rows parents fs cs ats ls (placed_record parents f c a l s).state

    go : (b : Bool) → Sound (placed_record parents f c a l s).state → Sound rest.state → Sound (cond b rest (placed_record parents f c a l s)).state
    go true one all = all
    go false one all = one

-- EVERY TABLE IS GOOD, refused or not: its keys are sorted and at most 4,096, of classes that it names
pub table-good : (bytes ats lens parents fs cs starts sizes marks : List ℕ) → length marks ≡ marks_room
    → Sound (table_of (name_rows bytes ats lens [] no_tables) parents fs cs starts sizes marks).state
unfolding table_of
table-good bytes ats lens parents fs cs starts sizes marks w =
    go (eqb (name_rows bytes ats lens [] no_tables).refusal 0)
  where
    s : State
    s = record { tables = (name_rows bytes ats lens [] no_tables).tables; keys = []; marks = marks }

    go : (b : Bool)
        → Sound (cond {A = Ran} b (record_rows parents fs cs starts sizes s) (record { refusal = (name_rows bytes ats lens [] no_tables).refusal; state = s })).state
    go true = records-good parents fs cs starts sizes s (names-good bytes ats lens marks w)
    go false = names-good bytes ats lens marks w

-- ---- what stands in the slices

pub fills-by : {after after' : Ran} {pairs pairs' marks' : List ℕ} {r : Outcome} → after ≡ after' → Fills after' pairs pairs' marks' r → Fills after pairs pairs' marks' r
fills-by e f = rw e f

-- and so they do if they are filled from a slice with fewer entries
pub fills-again : (after : Ran) (keys pairs₀ pairs pairs' marks' : List ℕ) (r : Outcome) → pairs ≡ filled keys pairs₀ → length keys ≤ length after.state.keys
    → Fills after pairs pairs' marks' r → Fills after pairs₀ pairs' marks' r
fills-again after keys pairs₀ pairs pairs' marks' r e h f = record {
  outcome-is = f.outcome-is;
  pairs-are = f.pairs-are ∙ ap (filled after.state.keys) e ∙ filled-again keys after.state.keys pairs₀ h;
  marks-are = f.marks-are;
}

-- a record in the slices, after others that stand in front of pairs₀
pub record Turned (after : Ran) (pairs₀ pairs pairs' marks' : List ℕ) (r : Outcome) : Type 0 where
  pub state-is : state_of pairs' marks' r.tables ≡ after.state
  pub good : Sound (state_of pairs' marks' r.tables)
  pub as-long : length pairs' ≡ length pairs
  pub front : pairs' ≡ filled (take r.tables.pairs pairs') pairs₀
  pub fills : Fills after pairs₀ pairs' marks' r

pub turned : (parents : List ℕ) (flags class at len : ℕ) (pairs₀ pairs marks : List ℕ) (t : Tables) (pairs' marks' : List ℕ) (r : Outcome)
    → Sound (state_of pairs marks t) → length pairs ≡ pairs_room → pairs ≡ filled (take t.pairs pairs) pairs₀
    → Fills (placed_record parents flags class at len (state_of pairs marks t)) pairs pairs' marks' r
    → Turned (placed_record parents flags class at len (state_of pairs marks t)) pairs₀ pairs pairs' marks' r
turned parents flags class at len pairs₀ pairs marks t pairs' marks' r g l e f =
    let after = placed_record parents flags class at len (state_of pairs marks t) in
    let ok = placed-good parents flags class at len (state_of pairs marks t) g in
    let again = fills-again after (take t.pairs pairs) pairs₀ pairs pairs' marks' r e (placed-longer parents flags class at len (state_of pairs marks t)) f in
    let is = fills-state after pairs pairs' marks' r f ok.counted in
    record {
      state-is = is;
      good = subst Sound (sym is) ok;
      as-long = ap length f.pairs-are ∙ length-filled after.state.keys pairs (omega (arith, ok.room));
      front = again.pairs-are ∙ ap (λ (s : State). filled s.keys pairs₀) (sym is);
      fills = again;
    }

-- a record of add_record, placed; and one that is not inside
pub inside-fills : (parents : List ℕ) (flags class at len : ℕ) (s : State) (pairs pairs' marks' : List ℕ) (r : Outcome) (part : List ℕ)
    → part ≡ take len (drop at parents) → inside (length parents) at len ≡ true
    → Fills (record_ran s flags class part) pairs pairs' marks' r → Fills (placed_record parents flags class at len s) pairs pairs' marks' r
inside-fills parents flags class at len s pairs pairs' marks' r part p e l =
    rw (record-inside parents flags class at len s e, ← p) l

pub outside-fills : (parents : List ℕ) (flags class at len : ℕ) (pairs marks : List ℕ) (t : Tables) → inside (length parents) at len ≡ false → t.pairs ≤ length pairs
    → Fills (placed_record parents flags class at len (state_of pairs marks t)) pairs pairs marks (record { refusal = 3; tables = t })
outside-fills parents flags class at len pairs marks t e h =
    rw (record-outside parents flags class at len (state_of pairs marks t) e) (record { outcome-is = refl; pairs-are = sym (filled-same t.pairs pairs h); marks-are = refl })

-- ---- the table

module _ (named : Outcome) (parents fs cs ats ls pairs marks : List ℕ) where
  pub table-refused : (named.refusal ≡ 0 → ⊥) → Fills (table_of named parents fs cs ats ls marks) pairs pairs marks named
  unfolding table_of
  table-refused n = rw (ne_eqb named.refusal 0 n) (record { outcome-is = refl; pairs-are = refl; marks-are = refl })

  pub table-named : named.refusal ≡ 0 → named.tables.pairs ≡ 0
      → record_rows parents fs cs ats ls (state_of pairs marks named.tables) ≡ table_of named parents fs cs ats ls marks
  unfolding table_of
  table-named z p = rw (z, p)
