-- Laws of the table of columns: what even columns say, that what the rows come to is sound, and that Object's number is a class's or all
-- ones.
use Rattle.std.specs.Prelude.{◌≡◌, Bool, true, false, cond, ◌&&◌, List, [], ◌∷◌, ℕ, ◌+◌, ◌-◌, ◌^◌, ◌<◌, eqb, length, take, drop}
use Rattle.std.proofs.Math.Path.{refl}
use Rattle.std.proofs.Common.{arith, eq-eqb, eqb-true}
use Rattle.order.specs.Truth.{both}
use Rattle.order.specs.Compare.{compare_lists, is_equal}
use Rattle.names.specs.Names.{check_name}
use Rattle.tables.specs.declared.Tables.{Tables}
use Rattle.rows.specs.declared.Outcome.{Outcome}
use Rattle.rows.specs.Rows.{object_name, no_tables, noted, with_name, name_row, State, record_refusal, with_record, record_row, Ran}
use Rattle.rows.specs.Laws.{Sound}
use Rattle.columns.specs.declared.TableColumns.{TableColumns}
use Rattle.columns.specs.Columns.{name_rows, placed_record, record_rows, table_of, EvenColumns}
use Rattle.columns.specs.Laws.{names-keep, record-either, table-good}
use Rattle.columns.specs.Given.{Given, given_of, even_lengths, even, no_marks, table, uneven_table, checked_table}

-- ---- even columns

pub even-is : (a l f c s z : ℕ) → even_lengths a l f c s z ≡ true → (a ≡ l) × (f ≡ c) × (f ≡ s) × (f ≡ z)
unfolding even_lengths
even-is a l f c s z h =
    let p = both (eqb a l) (eqb f c && (eqb f s && eqb f z)) h in
    let q = both (eqb f c) (eqb f s && eqb f z) p.1 in
    let r = both (eqb f s) (eqb f z) q.1 in
    (eqb-true a l p.0, eqb-true f c q.0, eqb-true f s r.0, eqb-true f z r.1)

pub even-columns : (c : TableColumns) → even (given_of c) ≡ true → EvenColumns c
unfolding even
even-columns c h =
    let e = even-is (length c.name_at.now) (length c.name_len.now) (length c.rec_flags.now) (length c.rec_class.now) (length c.rec_at.now) (length c.rec_len.now) h in
    (e.0, (e.1, e.2, e.3))

-- where the others are equal, the last two decide
pub even-last : (a l f c s z : ℕ) → a ≡ l → f ≡ c → f ≡ s → eqb f z ≡ even_lengths a l f c s z
unfolding even_lengths
even-last a l f c s z p q r = simp (eq-eqb a l p, eq-eqb f c q, eq-eqb f s r)

module _ (g : Given) where
  pub checked-even : even g ≡ true → checked_table g ≡ table g
  unfolding checked_table
  checked-even e = rw e

  pub checked-uneven : even g ≡ false → checked_table g ≡ uneven_table
  unfolding checked_table
  checked-uneven e = rw e

  -- WHAT ROWS COME TO IS SOUND, refused or not
  pub good-in : Sound (table g).state
  unfolding table
  good-in = table-good g.names g.name_at g.name_len g.parents g.rec_flags g.rec_class g.rec_at g.rec_len no_marks refl

-- ---- Object is a class, or absent

Known : Tables → Type 0
Known t = (t.object ≡ 2 ^ 64 - 1 → ⊥) → t.object < t.names

name-known : (last name : List ℕ) (t : Tables) → Known t → Known (name_row last name t).tables
unfolding Known name_row with_name noted
name-known last name t k = go (eqb (check_name last name t.names t.bytes) 0) (is_equal (compare_lists name object_name))
  where
    go : (b d : Bool) → ((cond b (record { names = t.names + 1; bytes = t.bytes + length name; object = cond d t.names t.object; cloneable = (with_name name t).cloneable; serializable = (with_name name t).serializable; pairs = t.pairs }) t).object ≡ 2 ^ 64 - 1 → ⊥)
        → (cond b (record { names = t.names + 1; bytes = t.bytes + length name; object = cond d t.names t.object; cloneable = (with_name name t).cloneable; serializable = (with_name name t).serializable; pairs = t.pairs }) t).object
        < (cond b (record { names = t.names + 1; bytes = t.bytes + length name; object = cond d t.names t.object; cloneable = (with_name name t).cloneable; serializable = (with_name name t).serializable; pairs = t.pairs }) t).names
    go true true n = omega arith
    go true false n = let l = k n in omega arith
    go false d n = k n

record-known : (s : State) (flags class : ℕ) (parents : List ℕ) → Known s.tables → Known (record_row s flags class parents).tables
unfolding record_row with_record Known
record-known s flags class parents k = go (eqb (record_refusal s.tables.names s.keys flags class parents) 0)
  where
    go : (b : Bool) → Known (cond b (with_record s flags class parents) s).tables
    go true = k
    go false = k

records-known : (parents fs cs ats ls : List ℕ) (s : State) → Known s.tables → Known (record_rows parents fs cs ats ls s).state.tables
unfolding record_rows
records-known parents [] cs ats ls s k = k
records-known parents (f ∷ fs) [] ats ls s k = k
records-known parents (f ∷ fs) (c ∷ cs) [] ls s k = k
records-known parents (f ∷ fs) (c ∷ cs) (a ∷ ats) [] s k = k
records-known parents (f ∷ fs) (c ∷ cs) (a ∷ ats) (l ∷ ls) s k =
    let one = record-either parents f c a l s (λ (u : State). Known u.tables) k (record-known s f c (take l (drop a parents)) k) in
    go (eqb (placed_record parents f c a l s).refusal 0) one (records-known parents fs cs ats ls (placed_record parents f c a l s).state one)
  where
    rest : Ran
    rest = record_rows parents fs cs ats ls (placed_record parents f c a l s).state

    go : (b : Bool) → Known (placed_record parents f c a l s).state.tables → Known rest.state.tables → Known (cond b rest (placed_record parents f c a l s)).state.tables
    go true one all = all
    go false one all = one

-- WHERE OBJECT'S NUMBER IS NOT ALL ONES IT IS A CLASS
pub object-known : (g : Given) → ((table g).state.tables.object ≡ 2 ^ 64 - 1 → ⊥) → (table g).state.tables.object < (table g).state.tables.names
unfolding table table_of Known no_tables
object-known g = go (eqb named.refusal 0)
  where
    named : Outcome
    named = name_rows g.names g.name_at g.name_len [] no_tables

    s : State
    s = record { tables = named.tables; keys = []; marks = no_marks }

    start : Known named.tables
    start = names-keep Known name-known g.names g.name_at g.name_len [] no_tables (λ n. absurd (n refl))

    go : (b : Bool) → Known (cond {A = Ran} b (record_rows g.parents g.rec_flags g.rec_class g.rec_at g.rec_len s) (record { refusal = named.refusal; state = s })).state.tables
    go true = records-known g.parents g.rec_flags g.rec_class g.rec_at g.rec_len s start
    go false = start
