-- Laws of the records gone through, as the loop meets them; that the tables stop where the rows do; and what a table says that is not refused.
use Rattle.std.specs.Prelude.{◌≡◌, refl, Bool, true, false, cond, eqb, length, take, drop, get_or}
use Rattle.std.proofs.Math.Path.{sym, ap}
use Rattle.std.proofs.Common.{ap₂, ◌∙◌, subst, add-one, arith, drop_of_length-le}
use mathlib.Core.List.{List, [], ◌∷◌}
use Prim.Native.Nat.{ℕ, suc, ◌+◌, ◌-◌, ◌^◌, ◌≤◌, ◌<◌}
use Rattle.std.proofs.Math.Seq.{drop-cons}
use borrow.Author.Tests.{eq-eqb, ne_eqb, eqb-true, eqb-false}
use Rattle.checks.specs.Checks.{else-zero, else-none}
use Rattle.names.specs.Names.{name_of, check_name, check_row, check_rows}
use Rattle.view.specs.View.{View}
use Rattle.tables.specs.declared.Tables.{Tables}
use Rattle.rows.specs.declared.Outcome.{Outcome}
use Rattle.rows.specs.Rows.{no_tables, with_name, name_row, state_of}
use Rattle.rows.specs.Laws.{Sound, name-refused}
use Rattle.columns.specs.Columns.{inside, placed_name, name_rows}
use Rattle.columns.specs.Laws.{name-inside, name-outside, name-placed, names-good, names-pairs}
use Rattle.columns.specs.Names.{inside-length, row-agrees, row-adds, names-agree}
use Rattle.columns.specs.Given.{Given, even_lengths, even, no_marks}
use Rattle.layers.specs.declared.StackTables.{StackTables}
use Rattle.layers.specs.Layers.{layers_room}
use Rattle.layers.specs.Stacks as layers
use Rattle.layers.specs.Stacks.{Stack, StackRan, ground, top_keys, Upright, stack_of}
use Rattle.layers.specs.StackLaws.{upright-ground}
use Rattle.layercolumns.specs.LayerColumns.{placed_row, stack_rows, stack_table, lowest_tables, Shows}
use Rattle.layercolumns.specs.Laws.{stack-end, stack-step, stack-stop, holds-lowest}
use Rattle.tableview.specs.TableRows.{rows_view, names_of}
use Rattle.tableview.specs.RowRefusals.{Pair}
use Rattle.tableview.proofs.Refused.{Holds, none-held}
use Rattle.stackview.specs.LayerRows.{shown_in}
use Rattle.stackview.specs.LayerRefusals.{under_after, pairs_after, stack_refusal_of}
use Rattle.stackview.proofs.Refused.{placed-refused, goes-on}
use Rattle.stackview.specs.Agrees.{stack_in}
use Rattle.stackview.proofs.Agrees.{stack-view}
use Rattle.stackview.proofs.Shown.{stack-refused}
use Rattle.tablecheck.specs.declared.Stop.{Stop}
use Rattle.tablecheck.specs.TableCheck.{names_taken, records_taken, names_refused, name_stopped, names_many, records_refused, record_stopped, told, rows_check, table_check}
use Rattle.tablecheck.specs.Inside.{placed_taken, stop_of, unrecorded, came_to, Equal, Fresh, Gone}

zero-plus : (n : ℕ) → 0 + n ≡ n
zero-plus n = omega arith

-- ---- the loop

module _ (parents fs cs ats ls : List ℕ) (start : Stack) where
  pub gone-start : (s : Stack) → s ≡ start → Gone parents fs cs ats ls start 0 s
  gone-start s e = rw e (record { refusal-is = refl; taken-is = sym (zero-plus (placed_taken parents fs cs ats ls start)) })

  -- the result and the row, each by itself
  stop-is : (k i : ℕ) → k ≡ (stack_rows parents fs cs ats ls start).refusal → i ≡ placed_taken parents fs cs ats ls start → record { refusal = k; row = i } ≡ stop_of parents fs cs ats ls start
  stop-is k i p q j = record { refusal = p j; row = q j }

  module _ (i : ℕ) (s : Stack) (g : Gone parents fs cs ats ls start i s) where
    pub gone-end : length fs ≤ i → record { refusal = 0; row = i } ≡ stop_of parents fs cs ats ls start
    unfolding placed_taken
    gone-end h = stop-is 0 i (sym (g.refusal-is ∙ ap (λ (u : StackRan). u.refusal) (stack-end parents fs cs ats ls s i h))) (let n = g.taken-is in let z = taken-end in omega arith)
      where
        taken-end : placed_taken parents (drop i fs) (drop i cs) (drop i ats) (drop i ls) s ≡ 0
        taken-end = rw (drop_of_length-le fs {i = i} h)

    module _ (even : Equal fs cs ats ls) (h : i < length fs) (k : ℕ) (e : k ≡ (placed_row parents (get_or fs i 0) (get_or cs i 0) (get_or ats i 0) (get_or ls i 0) s).refusal) where
      hc : i < length cs
      hc = omega (arith, h, even.0)

      ha : i < length ats
      ha = omega (arith, h, even.1)

      hl : i < length ls
      hl = omega (arith, h, even.2)

      pub gone-stop : (k ≡ 0 → ⊥) → record { refusal = k; row = i } ≡ stop_of parents fs cs ats ls start
      unfolding placed_taken
      gone-stop n =
          stop-is k i (e ∙ sym (g.refusal-is ∙ ap (λ (u : StackRan). u.refusal) (stack-stop parents fs cs ats ls s i h hc ha hl (λ z. n (e ∙ z))))) (let m = g.taken-is in let z = taken-stop in omega arith)
        where
          taken-stop : placed_taken parents (drop i fs) (drop i cs) (drop i ats) (drop i ls) s ≡ 0
          taken-stop = rw (drop-cons fs i 0 h, drop-cons cs i 0 hc, drop-cons ats i 0 ha, drop-cons ls i 0 hl, ← e, ne_eqb k 0 n)

      pub gone-on : k ≡ 0 → (s' : Stack) → s' ≡ (placed_row parents (get_or fs i 0) (get_or cs i 0) (get_or ats i 0) (get_or ls i 0) s).state → Gone parents fs cs ats ls start (i + 1) s'
      unfolding placed_taken
      gone-on z s' q =
          rw q (record {
            refusal-is = g.refusal-is ∙ ap (λ (u : StackRan). u.refusal) (stack-step parents fs cs ats ls s i h hc ha hl (sym e ∙ z));
            taken-is = let m = g.taken-is in let y = taken-step in omega arith;
          })
        where
          taken-step : placed_taken parents (drop i fs) (drop i cs) (drop i ats) (drop i ls) s
              ≡ suc (placed_taken parents (drop (i + 1) fs) (drop (i + 1) cs) (drop (i + 1) ats) (drop (i + 1) ls) (placed_row parents (get_or fs i 0) (get_or cs i 0) (get_or ats i 0) (get_or ls i 0) s).state)
          taken-step = rw (add-one, drop-cons fs i 0 h, drop-cons cs i 0 hc, drop-cons ats i 0 ha, drop-cons ls i 0 hl, ← e, z)

-- before it: slices without a key
pub fresh-holds : (pairs : List ℕ) (t : Tables) → length pairs ≡ layers_room → Fresh t → (n : StackTables) → n ≡ lowest_tables t
    → layers.Holds pairs no_marks n × (stack_of pairs no_marks n ≡ ground (unrecorded t))
fresh-holds pairs t l f n e =
    let same : state_of pairs no_marks t ≡ unrecorded t = ap (λ (k : ℕ). record { tables = t; keys = take k pairs; marks = no_marks }) f.none in (
      subst (layers.Holds pairs no_marks) (sym e) (holds-lowest pairs no_marks t l (subst Sound (sym same) f.sound)),
      ap (λ (m : StackTables). stack_of pairs no_marks m) e ∙ ap ground same,
    )

-- ---- THE RECORDS STOP WHERE THE ROWS DO

records-agree : (parents fs cs ats ls : List ℕ) (s : Stack) (before : List Pair) → Upright s → Holds (top_keys s) before
    → placed_taken parents fs cs ats ls s ≡ records_taken s.top.shown.tables.names parents fs cs ats ls s.under before
unfolding placed_taken records_taken
records-agree parents [] cs ats ls s before g h = refl
records-agree parents (f ∷ fs) [] ats ls s before g h = refl
records-agree parents (f ∷ fs) (c ∷ cs) [] ls s before g h = refl
records-agree parents (f ∷ fs) (c ∷ cs) (a ∷ ats) [] s before g h = refl
records-agree parents (f ∷ fs) (c ∷ cs) (a ∷ ats) (l ∷ ls) s before g h =
    go (eqb one.refusal 0) refl (records-agree parents fs cs ats ls one.state after)
    ∙ ap (λ (k : ℕ). cond (eqb k 0) (suc (more s.top.shown.tables.names (under_after f s.under))) 0) (placed-refused parents f c a l s before g h)
  where
    one : StackRan
    one = placed_row parents f c a l s

    after : List Pair
    after = pairs_after f c (take l (drop a parents)) before

    more : ℕ → ℕ → ℕ
    more n u = records_taken n parents fs cs ats ls u after

    go : (b : Bool) → eqb one.refusal 0 ≡ b
        → (Upright one.state → Holds (top_keys one.state) after → placed_taken parents fs cs ats ls one.state ≡ more one.state.top.shown.tables.names one.state.under)
        → cond b (suc (placed_taken parents fs cs ats ls one.state)) 0 ≡ cond b (suc (more s.top.shown.tables.names (under_after f s.under))) 0
    go true e ih =
        let n = goes-on parents f c a l s before g h (eqb-true one.refusal 0 e) in
        ap suc (ih n.upright n.holds ∙ ap₂ more n.as-many n.under-is)
    go false e ih = refl

-- ---- THE NAMES STOP WHERE THE ROWS DO

name-refusal : (last name : List ℕ) (t : Tables) → (name_row last name t).refusal ≡ check_name last name t.names t.bytes
unfolding name_row
name-refusal last name t = refl

-- a refused name leaves the tables
name-leaves : (bytes last : List ℕ) (at len : ℕ) (t : Tables) → ((placed_name bytes last at len t).refusal ≡ 0 → ⊥) → (placed_name bytes last at len t).tables ≡ t
name-leaves bytes last at len t n = go (inside (length bytes) at len) refl
  where
    go : (b : Bool) → inside (length bytes) at len ≡ b → (placed_name bytes last at len t).tables ≡ t
    go true e =
        let is = name-inside bytes last at len t e in
        let r = (name_row last (name_of bytes at len) t).refusal in
        ap (λ (o : Outcome). o.tables) (is ∙ name-refused last (name_of bytes at len) t r (name-refusal last (name_of bytes at len) t) (λ z. n (ap (λ (o : Outcome). o.refusal) is ∙ z)))
    go false e = ap (λ (o : Outcome). o.tables) (name-outside bytes last at len t e)

names-stop : (bytes ats lens last : List ℕ) (t : Tables) → (name_rows bytes ats lens last t).tables.names ≡ t.names + names_taken bytes ats lens last t.names t.bytes
unfolding name_rows names_taken with_name
names-stop bytes [] lens last t = omega arith
names-stop bytes (at ∷ ats) [] last t = omega arith
names-stop bytes (at ∷ ats) (len ∷ lens) last t = go (eqb one.refusal 0) refl (names-stop bytes ats lens name one.tables)
  where
    name : List ℕ
    name = name_of bytes at len

    one : Outcome
    one = placed_name bytes last at len t

    rest : Outcome
    rest = name_rows bytes ats lens name one.tables

    agrees : one.refusal ≡ check_row bytes at len last t.names t.bytes
    agrees = row-agrees bytes last at len t

    go : (b : Bool) → eqb one.refusal 0 ≡ b
        → rest.tables.names ≡ one.tables.names + names_taken bytes ats lens name one.tables.names one.tables.bytes
        → (cond b rest one).tables.names ≡ t.names + cond (eqb (check_row bytes at len last t.names t.bytes) 0) (suc (names_taken bytes ats lens name (suc t.names) (t.bytes + len))) 0
    go true e ih =
        let z = eqb-true one.refusal 0 e in
        let adds = row-adds bytes last at len t z in
        let more : one.tables.names ≡ t.names + 1 = ap (λ (u : Tables). u.names) adds in
        let same : names_taken bytes ats lens name one.tables.names one.tables.bytes ≡ names_taken bytes ats lens name (suc t.names) (t.bytes + len) =
        ap (λ (u : Tables). names_taken bytes ats lens name u.names u.bytes) adds
        ∙ ap₂ (λ (n b : ℕ). names_taken bytes ats lens name n b) (add-one t.names) (ap (λ (b : ℕ). t.bytes + b) (inside-length bytes at len (name-placed bytes last at len t z))) in
        rw (sym agrees ∙ z) (omega arith)
    go false e ih =
        let n = eqb-false one.refusal 0 e in
        let same : one.tables.names ≡ t.names = ap (λ (u : Tables). u.names) (name-leaves bytes last at len t n) in
        rw (ne_eqb (check_row bytes at len last t.names t.bytes) 0 (λ q. n (agrees ∙ q))) (omega arith)

-- where none is refused all are taken
pub names-all : (bytes ats lens last : List ℕ) (count total : ℕ) → check_rows bytes ats lens last count total ≡ 0 → names_taken bytes ats lens last count total ≡ length (names_of bytes ats lens)
unfolding check_rows names_taken names_of
names-all bytes [] lens last count total z = refl
names-all bytes (at ∷ ats) [] last count total z = refl
names-all bytes (at ∷ ats) (len ∷ lens) last count total z =
    let k = (else-zero (check_row bytes at len last count total) (check_rows bytes ats lens (name_of bytes at len) (suc count) (total + len))).0 z in
    rw k.0 (ap suc (names-all bytes ats lens (name_of bytes at len) (suc count) (total + len) k.1))

-- ---- the check by what the tables say

module _ (g : Given) where
  named : Outcome
  named = name_rows g.names g.name_at g.name_len [] no_tables

  names-same : named.refusal ≡ names_refused g
  unfolding named no_tables
  names-same = names-agree g.names g.name_at g.name_len [] no_tables

  pub names-fresh : Fresh (name_rows g.names g.name_at g.name_len [] no_tables).tables
  unfolding no_tables
  names-fresh = record { sound = names-good g.names g.name_at g.name_len no_marks refl; none = names-pairs g.names g.name_at g.name_len [] no_tables }

  -- a name is refused
  pub check-name : (o : Outcome) → o ≡ name_rows g.names g.name_at g.name_len [] no_tables → (o.refusal ≡ 0 → ⊥) → told o.refusal 1 o.tables.names ≡ rows_check g
  unfolding rows_check named no_tables
  check-name o e n =
      let k : o.refusal ≡ names_refused g = ap (λ (u : Outcome). u.refusal) e ∙ names-same in
      let r : o.tables.names ≡ name_stopped g = ap (λ (u : Outcome). u.tables.names) e ∙ names-stop g.names g.name_at g.name_len [] no_tables ∙ zero-plus (name_stopped g) in
      rw (← k, ← r, ne_eqb o.refusal 0 n)

  module _ (o : Outcome) (e : o ≡ name_rows g.names g.name_at g.name_len [] no_tables) (z : o.refusal ≡ 0) (stop : Stop)
      (w : stop ≡ stop_of g.parents g.rec_flags g.rec_class g.rec_at g.rec_len (ground (unrecorded o.tables))) where
    names-none : names_refused g ≡ 0
    unfolding named
    names-none = sym names-same ∙ ap (λ (u : Outcome). u.refusal) (sym e) ∙ z

    many : o.tables.names ≡ names_many g
    unfolding no_tables
    many =
        ap (λ (u : Outcome). u.tables.names) e ∙ names-stop g.names g.name_at g.name_len [] no_tables ∙ zero-plus (name_stopped g)
        ∙ names-all g.names g.name_at g.name_len [] 0 0 names-none

    table-is : stack_in g ≡ stack_rows g.parents g.rec_flags g.rec_class g.rec_at g.rec_len (ground (unrecorded o.tables))
    unfolding stack_in stack_table
    table-is = rw (← e, z)

    refusal-same : stop.refusal ≡ records_refused g
    unfolding stack_refusal_of
    refusal-same =
        ap (λ (u : Stop). u.refusal) w ∙ ap (λ (u : StackRan). u.refusal) (sym table-is) ∙ stack-refused g ∙ else-none (names_refused g) (records_refused g) names-none

    row-same : stop.row ≡ record_stopped g
    unfolding top_keys
    row-same =
        ap (λ (u : Stop). u.row) w
        ∙ records-agree g.parents g.rec_flags g.rec_class g.rec_at g.rec_len (ground (unrecorded o.tables)) []
        (upright-ground (unrecorded o.tables) (subst (λ (u : Outcome). Sound (unrecorded u.tables)) (sym e) names-fresh.sound)) none-held
        ∙ ap (λ (n : ℕ). records_taken n g.parents g.rec_flags g.rec_class g.rec_at g.rec_len 0 []) many

    -- a record is refused
    pub check-record : ((stack_in g).refusal ≡ 0 → ⊥) → told stop.refusal 2 stop.row ≡ rows_check g
    unfolding rows_check
    check-record n =
        rw (names-none, ← refusal-same, ← row-same, ne_eqb stop.refusal 0 (λ y. n (ap (λ (u : StackRan). u.refusal) table-is ∙ ap (λ (u : Stop). u.refusal) (sym w) ∙ y)))

  -- every row is taken
  module _ (o : Outcome) (w : o ≡ came_to (stack_in g)) (z : o.refusal ≡ 0) where
    taken : (stack_in g).refusal ≡ 0
    taken = ap (λ (u : Outcome). u.refusal) (sym w) ∙ z

    none-refused : (names_refused g ≡ 0) × (records_refused g ≡ 0)
    unfolding stack_refusal_of
    none-refused = (else-zero (names_refused g) (records_refused g)).0 (sym (stack-refused g) ∙ taken)

    module _ (e : even g ≡ true) where
      object-same : o.tables.object ≡ (rows_view (shown_in g)).object
      object-same = ap (λ (u : Outcome). u.tables.object) w ∙ ap (λ (v : View). v.object) (stack-view g e taken)

      -- but Object is not there
      pub check-object : o.tables.object ≡ 2 ^ 64 - 1 → told 9 3 0 ≡ rows_check g
      unfolding rows_check
      check-object q = rw (none-refused.0, none-refused.1, ← object-same, q)

      pub check-none : (o.tables.object ≡ 2 ^ 64 - 1 → ⊥) → told 0 0 0 ≡ rows_check g
      unfolding rows_check
      check-none q = rw (none-refused.0, none-refused.1, ← object-same, ne_eqb o.tables.object (2 ^ 64 - 1) q)

  -- what is built from no mark
  pub built-is : (o : Outcome) (pairs' marks' : List ℕ)
      → Shows (stack_table (name_rows g.names g.name_at g.name_len [] no_tables) g.parents g.rec_flags g.rec_class g.rec_at g.rec_len no_marks) pairs' marks' o → o ≡ came_to (stack_in g)
  unfolding stack_in
  built-is o pairs' marks' f i = record { refusal = f.refusal-is i; tables = (f.shown-is i).tables }

  pub equal-even : length g.name_at ≡ length g.name_len → Equal g.rec_flags g.rec_class g.rec_at g.rec_len → even g ≡ true
  unfolding even even_lengths
  equal-even p q = rw (eq-eqb _ _ p, eq-eqb _ _ q.0, eq-eqb _ _ q.1, eq-eqb _ _ q.2)

  pub check-even : even_lengths (length g.name_at) (length g.name_len) (length g.rec_flags) (length g.rec_class) (length g.rec_at) (length g.rec_len) ≡ true → rows_check g ≡ table_check g
  unfolding table_check even
  check-even e = rw e

  pub check-uneven : even_lengths (length g.name_at) (length g.name_len) (length g.rec_flags) (length g.rec_class) (length g.rec_at) (length g.rec_len) ≡ false → told 3 0 0 ≡ table_check g
  unfolding table_check even
  check-uneven e = rw e
