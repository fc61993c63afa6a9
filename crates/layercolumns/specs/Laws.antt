-- Laws of rows that may open layers: what is left to do after each, and that slices keep what they come to.
use Rattle.std.specs.Prelude.{◌≡◌, Bool, ◌&&◌, ℕ, suc, ◌+◌, ◌≤◌, ◌<◌, eqb, take, drop, get_or}
use Rattle.std.proofs.Math.Path.{refl, ap, subst}
use Rattle.std.proofs.Common.{sym, ap₂, ◌∙◌, add-one, arith, length-append, length-drop, length-take-le}
use Rattle.std.proofs.Math.Bool.{true, false, cond}
use mathlib.Core.List.{List, [], ◌∷◌, ◌++◌}
use Rattle.std.proofs.Math.ListN.{length, drop_of_length-le}
use Rattle.std.proofs.Math.Seq.{drop-cons, take_all}
use Rattle.std.proofs.lemmas.List.{take-append-le}
use borrow.Author.Tests.{eq-eqb, ne_eqb, eqb-true}
use Rattle.tables.specs.declared.Tables.{Tables}
use Rattle.tables.specs.Table.{marks_room}
use Rattle.rows.specs.declared.Outcome.{Outcome}
use Rattle.rows.specs.Rows.{no_tables, State, state_of, Ran, Fills, record_ran}
use Rattle.rows.specs.Keys.{length-filled}
use Rattle.rows.specs.Laws.{Sound, fills-state}
use Rattle.columns.specs.declared.TableColumns.{TableColumns}
use Rattle.columns.specs.Columns.{inside, name_rows, placed_record, record_rows, table_of, built, EvenRecords}
use Rattle.columns.specs.Laws.{names-pairs, names-leave, records-good, table-good}
use Rattle.layers.specs.declared.StackTables.{StackTables}
use Rattle.layers.specs.declared.StackOutcome.{StackOutcome}
use Rattle.layers.specs.Layers.{layers_room, layer_keys}
use Rattle.layers.specs.Laws.{inside-none}
use Rattle.layers.specs.Stacks.{Stack, StackRan, ground, stack_refusal, stack_row, stack_ran, open_ran, stack_of, Holds, FillsStack, opened_tables}
use Rattle.layers.specs.StackLaws.{upright-ground, upright-row, holds-after, opened-is, holds-open}
use Rattle.layercolumns.specs.LayerColumns.{open_flags, opening_row, placed_row, stack_rows, first_open, grounded, lowest_then, lowest_tables, Lowest, stack_table, Keeps, RoomFor, Shows}

-- ---- one row

module _ (parents : List ℕ) (flags class at len : ℕ) (s : Stack) where
  pub row-outside : inside (length parents) at len ≡ false → placed_row parents flags class at len s ≡ record { refusal = 3; state = s }
  unfolding placed_row
  row-outside e = rw e

  pub row-opens : inside (length parents) at len ≡ true → flags ≡ open_flags → placed_row parents flags class at len s ≡ opening_row class len s
  unfolding placed_row
  row-opens e f = rw (e, eq-eqb flags open_flags f)

  pub row-records : inside (length parents) at len ≡ true → (flags ≡ open_flags → ⊥) → placed_row parents flags class at len s ≡ stack_ran s flags class (take len (drop at parents))
  unfolding placed_row
  row-records e n = rw (e, ne_eqb flags open_flags n)

module _ (class len : ℕ) (s : Stack) where
  pub opening-yes : (eqb class 0 && eqb len 0) ≡ true → opening_row class len s ≡ open_ran s
  unfolding opening_row
  opening-yes e = rw e

  pub opening-no : (eqb class 0 && eqb len 0) ≡ false → opening_row class len s ≡ record { refusal = 3; state = s }
  unfolding opening_row
  opening-no e = rw e

  pub opening-classed : (class ≡ 0 → ⊥) → opening_row class len s ≡ record { refusal = 3; state = s }
  unfolding opening_row
  opening-classed n = rw (ne_eqb class 0 n)

  pub opening-listed : class ≡ 0 → (len ≡ 0 → ⊥) → opening_row class len s ≡ record { refusal = 3; state = s }
  unfolding opening_row
  opening-listed e n = rw (e, ne_eqb len 0 n)

  pub opening-good : class ≡ 0 → len ≡ 0 → opening_row class len s ≡ open_ran s
  unfolding opening_row
  opening-good e f = rw (e, f)

-- ---- what slices keep

module _ (pairs marks : List ℕ) (n : StackTables) (g : Holds pairs marks n) where
  pub keeps-refused : (k : ℕ) (after : StackRan) → after ≡ record { refusal = k; state = stack_of pairs marks n } → Keeps after pairs marks (record { refusal = k; stack = n })
  keeps-refused k after e = record { refusal-is = sym (ap (λ (x : StackRan). x.refusal) e); stack-is = sym (ap (λ (x : StackRan). x.state) e); holds = g }

  pub keeps-opened : (after : StackRan) (r : StackOutcome) → after ≡ open_ran (stack_of pairs marks n) → r ≡ opened_tables n → Keeps after pairs marks r
  keeps-opened after r e q =
      let is = opened-is pairs marks n g in
      let next = holds-open pairs marks n g in
      record {
        refusal-is = ap (λ (o : StackOutcome). o.refusal) (q ∙ is) ∙ sym (ap (λ (x : StackRan). x.refusal) e);
        stack-is = ap (λ (o : StackOutcome). stack_of pairs marks o.stack) q ∙ next.1 ∙ sym (ap (λ (x : StackRan). x.state) e);
        holds = subst (λ (o : StackOutcome). Holds pairs marks o.stack) (sym q) next.0;
      }

  pub keeps-recorded : (flags class : ℕ) (part : List ℕ) (after : StackRan) (pairs' marks' : List ℕ) (r : StackOutcome) → after ≡ stack_ran (stack_of pairs marks n) flags class part
      → FillsStack (stack_ran (stack_of pairs marks n) flags class part) pairs pairs' marks' r → Keeps after pairs' marks' r
  keeps-recorded flags class part after pairs' marks' r e f =
      let next = holds-after (stack_ran (stack_of pairs marks n) flags class part) pairs pairs' marks' r f (upright-row (stack_of pairs marks n) flags class part g.upright) g.long in
      record {
        refusal-is = ap (λ (o : StackOutcome). o.refusal) f.outcome-is ∙ sym (ap (λ (x : StackRan). x.refusal) e);
        stack-is = next.1 ∙ sym (ap (λ (x : StackRan). x.state) e);
        holds = next.0;
      }

pub keeps-same : (after after' : StackRan) (pairs' marks' : List ℕ) (r : StackOutcome) → after ≡ after' → Keeps after' pairs' marks' r → Keeps after pairs' marks' r
keeps-same after after' pairs' marks' r e k = subst (λ (x : StackRan). Keeps x pairs' marks' r) (sym e) k

-- ---- row by row

module _ (parents fs cs ats ls : List ℕ) (s : Stack) (i : ℕ) where
  pub stack-end : length fs ≤ i → stack_rows parents (drop i fs) (drop i cs) (drop i ats) (drop i ls) s ≡ record { refusal = 0; state = s }
  unfolding stack_rows
  stack-end h = rw (drop_of_length-le fs {i = i} h)

  module _ (hf : i < length fs) (hc : i < length cs) (ha : i < length ats) (hl : i < length ls) where
    abbrev one : StackRan
    one = placed_row parents (get_or fs i 0) (get_or cs i 0) (get_or ats i 0) (get_or ls i 0) s

    pub stack-step : one.refusal ≡ 0
        → stack_rows parents (drop i fs) (drop i cs) (drop i ats) (drop i ls) s ≡ stack_rows parents (drop (i + 1) fs) (drop (i + 1) cs) (drop (i + 1) ats) (drop (i + 1) ls) one.state
    unfolding stack_rows
    stack-step z = rw (add-one, drop-cons fs i 0 hf, drop-cons cs i 0 hc, drop-cons ats i 0 ha, drop-cons ls i 0 hl, z)

    pub stack-stop : (one.refusal ≡ 0 → ⊥) → stack_rows parents (drop i fs) (drop i cs) (drop i ats) (drop i ls) s ≡ one
    unfolding stack_rows
    stack-stop n = rw (drop-cons fs i 0 hf, drop-cons cs i 0 hc, drop-cons ats i 0 ha, drop-cons ls i 0 hl, ne_eqb one.refusal 0 n)

-- ---- the rows before the first layer is opened

module _ (parents : List ℕ) where
  placed-lowest : (f c a l : ℕ) (s : State) → eqb f open_flags ≡ false → placed_row parents f c a l (ground s) ≡ grounded (placed_record parents f c a l s)
  unfolding placed_row placed_record stack_refusal stack_row
  placed-lowest f c a l s n = rw n (go (inside (length parents) a l))
    where
      go : (b : Bool) → cond b (stack_ran (ground s) f c (take l (drop a parents))) (record { refusal = 3; state = ground s }) ≡ grounded (cond b (record_ran s f c (take l (drop a parents))) (record { refusal = 3; state = s }))
      go true = refl
      go false = refl

  -- THE ROWS BEFORE THE FIRST LAYER IS OPENED ARE THOSE OF A PLAIN TABLE
  pub lowest-rows : (fs cs ats ls : List ℕ) (s : State) → length fs ≡ length cs → length fs ≡ length ats → length fs ≡ length ls
      → stack_rows parents fs cs ats ls (ground s) ≡ lowest_then (first_open fs) parents fs cs ats ls s
  unfolding stack_rows record_rows first_open
  lowest-rows [] cs ats ls s hc ha hl = refl
  lowest-rows (f ∷ fs) [] ats ls s hc ha hl = absurd (omega arith)
  lowest-rows (f ∷ fs) (c ∷ cs) [] ls s hc ha hl = absurd (omega arith)
  lowest-rows (f ∷ fs) (c ∷ cs) (a ∷ ats) [] s hc ha hl = absurd (omega arith)
  lowest-rows (f ∷ fs) (c ∷ cs) (a ∷ ats) (l ∷ ls) s hc ha hl =
      go (eqb f open_flags) refl (lowest-rows fs cs ats ls (placed_record parents f c a l s).state (omega arith) (omega arith) (omega arith))
    where
      one : Ran
      one = placed_record parents f c a l s

      step : stack_rows parents fs cs ats ls (ground one.state) ≡ lowest_then (first_open fs) parents fs cs ats ls one.state
          → (b : Bool) → eqb one.refusal 0 ≡ b
          → cond (eqb one.refusal 0) (stack_rows parents fs cs ats ls (ground one.state)) (grounded one) ≡ lowest_then (suc (first_open fs)) parents (f ∷ fs) (c ∷ cs) (a ∷ ats) (l ∷ ls) s
      step ih true q = rw q ih
      step ih false q = rw (q, q)

      go : (b : Bool) → eqb f open_flags ≡ b → stack_rows parents fs cs ats ls (ground one.state) ≡ lowest_then (first_open fs) parents fs cs ats ls one.state
          → stack_rows parents (f ∷ fs) (c ∷ cs) (a ∷ ats) (l ∷ ls) (ground s) ≡ lowest_then (cond b 0 (suc (first_open fs))) parents (f ∷ fs) (c ∷ cs) (a ∷ ats) (l ∷ ls) s
      go true e ih = refl
      go false e ih = rw (placed-lowest f c a l s e) (step ih (eqb one.refusal 0) refl)

  module _ (fs cs ats ls : List ℕ) (s : State) (hc : length fs ≡ length cs) (ha : length fs ≡ length ats) (hl : length fs ≡ length ls) (e : first_open fs ≡ length fs) where
    -- where no layer is opened they are all rows
    pub all-lowest : stack_rows parents fs cs ats ls (ground s) ≡ grounded (record_rows parents fs cs ats ls s)
    unfolding stack_rows
    all-lowest =
        lowest-rows fs cs ats ls s hc ha hl ∙ ap (λ (k : ℕ). lowest_then k parents fs cs ats ls s) e
        ∙ rw (take_all (length fs) fs (omega arith), take_all (length fs) cs (omega arith), take_all (length fs) ats (omega arith), take_all (length fs) ls (omega arith), drop_of_length-le fs {i = length fs} (omega arith))
        (go (eqb ran.refusal 0) refl)
      where
        ran : Ran
        ran = record_rows parents fs cs ats ls s

        go : (b : Bool) → eqb ran.refusal 0 ≡ b → cond {A = StackRan} b (record { refusal = 0; state = ground ran.state }) (grounded ran) ≡ grounded ran
        go true q = λ i. record { refusal = sym (eqb-true ran.refusal 0 q) i; state = ground ran.state }
        go false q = refl

-- A TABLE WITHOUT LAYERS IS THE PLAIN ONE
pub table-lowest : (named : Outcome) (parents fs cs ats ls marks : List ℕ) → length fs ≡ length cs → length fs ≡ length ats → length fs ≡ length ls → first_open fs ≡ length fs
    → stack_table named parents fs cs ats ls marks ≡ grounded (table_of named parents fs cs ats ls marks)
unfolding stack_table table_of
table-lowest named parents fs cs ats ls marks hc ha hl e = go (eqb named.refusal 0)
  where
    first : State
    first = record { tables = named.tables; keys = []; marks = marks }

    go : (b : Bool) → cond {A = StackRan} b (stack_rows parents fs cs ats ls (ground first)) (record { refusal = named.refusal; state = ground first })
        ≡ grounded (cond {A = Ran} b (record_rows parents fs cs ats ls first) (record { refusal = named.refusal; state = first }))
    go true = all-lowest parents fs cs ats ls first hc ha hl e
    go false = refl

-- ---- counting the rows before it

module _ (fs : List ℕ) (i : ℕ) where
  pub open-here : i < length fs → get_or fs i 0 ≡ open_flags → first_open (drop i fs) ≡ 0
  unfolding first_open
  open-here h e = rw (drop-cons fs i 0 h, eq-eqb (get_or fs i 0) open_flags e)

  pub open-later : i < length fs → (get_or fs i 0 ≡ open_flags → ⊥) → first_open (drop i fs) ≡ suc (first_open (drop (i + 1) fs))
  unfolding first_open
  open-later h n = rw (add-one, drop-cons fs i 0 h, ne_eqb (get_or fs i 0) open_flags n)

  pub open-none : length fs ≤ i → first_open (drop i fs) ≡ 0
  unfolding first_open
  open-none h = rw (drop_of_length-le fs {i = i} h)

pub open-within : (fs : List ℕ) → first_open fs ≤ length fs
unfolding first_open
open-within [] = omega arith
open-within (f ∷ fs) = go (eqb f open_flags) (open-within fs)
  where
    go : (b : Bool) → first_open fs ≤ length fs → cond b 0 (suc (first_open fs)) ≤ suc (length fs)
    go true h = omega arith
    go false h = omega arith

-- slices that hold a plain table hold it as the lowest layer
pub holds-lowest : (pairs marks : List ℕ) (t : Tables) → length pairs ≡ layers_room → Sound (state_of pairs marks t) → Holds pairs marks (lowest_tables t)
holds-lowest pairs marks t l g = record {
  long = l;
  upright = upright-ground (state_of pairs marks t) g;
  layer-counted = sym (ap length (inside-none (take t.pairs pairs)));
}

-- ---- the lowest layer in the front of the pairs

-- without pairs the front holds what the whole holds
pub front-none : (pairs marks : List ℕ) (t : Tables) → t.pairs ≡ 0 → state_of (take 4096 pairs) marks t ≡ state_of pairs marks t
front-none pairs marks t z = ap (λ (k : ℕ). record { tables = t; keys = take k (take 4096 pairs); marks = marks }) z ∙ ap (λ (k : ℕ). record { tables = t; keys = take k pairs; marks = marks }) (sym z)

pub lowest-keeps : (parents fs cs ats ls pairs marks : List ℕ) (t : Tables) → length pairs ≡ layers_room → Sound (state_of pairs marks t) → t.pairs ≡ 0 → (part' marks' : List ℕ) (o : Outcome)
    → Fills (record_rows parents fs cs ats ls (state_of (take 4096 pairs) marks t)) (take 4096 pairs) part' marks' o
    → Keeps (grounded (record_rows parents fs cs ats ls (state_of pairs marks t))) (part' ++ drop 4096 pairs) marks' (record { refusal = o.refusal; stack = lowest_tables o.tables })
lowest-keeps parents fs cs ats ls pairs marks t w g z part' marks' o f =
    let fills = subst (λ (x : State). Fills (record_rows parents fs cs ats ls x) (take 4096 pairs) part' marks' o) (front-none pairs marks t z) f in
    let ran : Ran = record_rows parents fs cs ats ls (state_of pairs marks t) in
    let sound = records-good parents fs cs ats ls (state_of pairs marks t) g in
    let state = fills-state ran (take 4096 pairs) part' marks' o fills sound.counted in
    let few : length (take 4096 pairs) ≡ 4096 = length-take-le 4096 pairs (omega arith) in
    let long : length part' ≡ 4096 = ap length fills.pairs-are ∙ length-filled ran.state.keys (take 4096 pairs) (omega (arith, sound.room)) ∙ few in
    let count : o.tables.pairs ≡ length ran.state.keys = ap (λ (x : Outcome). x.tables.pairs) fills.outcome-is ∙ sound.counted in
    let front : take o.tables.pairs (part' ++ drop 4096 pairs) ≡ take o.tables.pairs part' = take-append-le o.tables.pairs part' (drop 4096 pairs) (omega (arith, sound.room)) in
    let is : state_of (part' ++ drop 4096 pairs) marks' o.tables ≡ ran.state = ap (λ (k : List ℕ). record { tables = o.tables; keys = k; marks = marks' }) front ∙ state in
    record {
      refusal-is = ap (λ (x : Outcome). x.refusal) fills.outcome-is;
      stack-is = ap ground is;
      holds = holds-lowest (part' ++ drop 4096 pairs) marks' o.tables (length-append part' (drop 4096 pairs) ∙ (let d = length-drop 4096 pairs in omega arith)) (subst Sound (sym is) sound);
    }

-- ---- all rows: those of the lowest layer, then the others

module _ (parents fs cs ats ls : List ℕ) (s : State) (hc : length fs ≡ length cs) (ha : length fs ≡ length ats) (hl : length fs ≡ length ls) (k : ℕ) (e : k ≡ first_open fs) where
  abbrev lowest_ran : Ran
  lowest_ran = record_rows parents (take k fs) (take k cs) (take k ats) (take k ls) s

  split : stack_rows parents fs cs ats ls (ground s) ≡ lowest_then k parents fs cs ats ls s
  split = lowest-rows parents fs cs ats ls s hc ha hl ∙ ap (λ (n : ℕ). lowest_then n parents fs cs ats ls s) (sym e)

  module _ (pairs₁ marks₁ : List ℕ) (refusal : ℕ) (t : Tables) (n : StackTables) (is : n ≡ lowest_tables t) (kept : Keeps (grounded lowest_ran) pairs₁ marks₁ (record { refusal = refusal; stack = lowest_tables t })) where
    pub layers-refused : (refusal ≡ 0 → ⊥) → Keeps (stack_rows parents fs cs ats ls (ground s)) pairs₁ marks₁ (record { refusal = refusal; stack = n })
    layers-refused not-zero =
        subst (λ (m : StackTables). Keeps (stack_rows parents fs cs ats ls (ground s)) pairs₁ marks₁ (record { refusal = refusal; stack = m })) (sym is)
        (keeps-same _ _ _ _ _ (split ∙ rw (ne_eqb lowest_ran.refusal 0 (λ z. not-zero (kept.refusal-is ∙ z)))) kept)

    pub layers-hold : Holds pairs₁ marks₁ n
    layers-hold = subst (Holds pairs₁ marks₁) (sym is) kept.holds

    pub layers-rest : refusal ≡ 0 → (pairs' marks' : List ℕ) (r : StackOutcome) → Keeps (stack_rows parents (drop k fs) (drop k cs) (drop k ats) (drop k ls) (stack_of pairs₁ marks₁ n)) pairs' marks' r
        → Keeps (stack_rows parents fs cs ats ls (ground s)) pairs' marks' r
    layers-rest z pairs' marks' r rest =
        keeps-same _ _ _ _ _
        (split ∙ rw (sym kept.refusal-is ∙ z)
        (ap (stack_rows parents (drop k fs) (drop k cs) (drop k ats) (drop k ls)) (sym (ap (λ (m : StackTables). stack_of pairs₁ marks₁ m) is ∙ kept.stack-is))))
        rest

-- where the first row opens a layer they are all rows
pub rows-all : (parents fs cs ats ls pairs marks : List ℕ) (t : Tables) (k : ℕ) → k ≡ 0 → (n : StackTables) → n ≡ lowest_tables t → (pairs' marks' : List ℕ) (r : StackOutcome)
    → Keeps (stack_rows parents (drop k fs) (drop k cs) (drop k ats) (drop k ls) (stack_of pairs marks n)) pairs' marks' r
    → Keeps (stack_rows parents fs cs ats ls (ground (state_of pairs marks t))) pairs' marks' r
rows-all parents fs cs ats ls pairs marks t k z n e pairs' marks' r =
    keeps-same _ _ pairs' marks' r
    (sym (ap₂ (λ (i : ℕ) (m : StackTables). stack_rows parents (drop i fs) (drop i cs) (drop i ats) (drop i ls) (stack_of pairs marks m)) z e))

-- ---- the table

module _ (bytes name_at name_len parents fs cs ats ls pairs marks : List ℕ) (named : Outcome) (e : named ≡ name_rows bytes name_at name_len [] no_tables) (w : length pairs ≡ layers_room) (m : length marks ≡ marks_room) where
  named-sound : Sound (state_of pairs marks named.tables)
  named-sound = subst (λ (o : Outcome). Sound (state_of pairs marks o.tables)) (sym e) (names-leave bytes name_at name_len pairs marks m)

  no-pair : named.tables.pairs ≡ 0
  unfolding no_tables
  no-pair = ap (λ (o : Outcome). o.tables.pairs) e ∙ names-pairs bytes name_at name_len [] no_tables

  no-key : state_of pairs marks named.tables ≡ record { tables = named.tables; keys = []; marks = marks }
  no-key = ap (λ (k : ℕ). record { tables = named.tables; keys = take k pairs; marks = marks }) no-pair

  pub named-ready : (c : TableColumns) → EvenRecords c → Lowest c pairs marks named.tables
  named-ready c h = (h, w, named-sound, no-pair)

  pub named-refused : (named.refusal ≡ 0 → ⊥) → (n : StackTables) → n ≡ lowest_tables named.tables
      → Keeps (stack_table (name_rows bytes name_at name_len [] no_tables) parents fs cs ats ls marks) pairs marks (record { refusal = named.refusal; stack = n })
  unfolding stack_table
  named-refused not-zero n is =
      let sound = subst Sound no-key named-sound in
      subst (λ (o : Outcome). Keeps (stack_table o parents fs cs ats ls marks) pairs marks (record { refusal = named.refusal; stack = n })) e
      (rw (ne_eqb named.refusal 0 not-zero)
      (record {
        refusal-is = refl;
        stack-is = ap (λ (k : StackTables). stack_of pairs marks k) is ∙ ap ground no-key;
        holds = subst (Holds pairs marks) (sym is) (holds-lowest pairs marks named.tables w named-sound);
      }))

  pub named-rows : named.refusal ≡ 0 → (pairs' marks' : List ℕ) (r : StackOutcome) → Keeps (stack_rows parents fs cs ats ls (ground (state_of pairs marks named.tables))) pairs' marks' r
      → Keeps (stack_table (name_rows bytes name_at name_len [] no_tables) parents fs cs ats ls marks) pairs' marks' r
  unfolding stack_table
  named-rows z pairs' marks' r k =
      subst (λ (o : Outcome). Keeps (stack_table o parents fs cs ats ls marks) pairs' marks' r) e
      (rw z (subst (λ (x : State). Keeps (stack_rows parents fs cs ats ls (ground x)) pairs' marks' r) no-key k))

-- ---- room for the layers that there are

module _ (fs pairs : List ℕ) where
  pub room-none : first_open fs ≡ length fs → length pairs ≡ 4096 → RoomFor fs pairs
  room-none e l = record { plain = λ p. e; layered = λ n. absurd (n l) }

  -- no row opens one: none was found before the end
  pub none-found : (k : ℕ) → k ≡ first_open fs → length fs ≤ k → first_open fs ≡ length fs
  none-found k e h = let w = open-within fs in omega arith

  pub room-plain : (k : ℕ) → k ≡ first_open fs → length fs ≤ k → length pairs ≡ 4096 → RoomFor fs pairs
  room-plain k e h l = room-none (none-found k e h) l

  pub room-layers : length pairs ≡ layers_room → RoomFor fs pairs
  room-layers l = record {
    plain = λ p. absurd (omega arith);
    layered = λ n. l;
  }

-- ---- what the layers together show

module _ (bytes name_at name_len parents fs cs ats ls pairs marks pairs' marks' : List ℕ) where
  abbrev table : StackRan
  table = stack_table (name_rows bytes name_at name_len [] no_tables) parents fs cs ats ls marks

  -- of a plain table
  pub plain-shows : length fs ≡ length cs → length fs ≡ length ats → length fs ≡ length ls → first_open fs ≡ length fs → length marks ≡ marks_room
      → (o : Outcome) → Fills (built bytes name_at name_len fs cs ats ls parents marks) pairs pairs' marks' o → Shows table pairs' marks' o
  plain-shows hc ha hl e m o f =
      let same = sym (table-lowest (name_rows bytes name_at name_len [] no_tables) parents fs cs ats ls marks hc ha hl e) in
      let ran : Ran = built bytes name_at name_len fs cs ats ls parents marks in
      record {
        refusal-is = ap (λ (x : Outcome). x.refusal) f.outcome-is ∙ ap (λ (x : StackRan). x.refusal) same;
        shown-is = fills-state ran pairs pairs' marks' o f (table-good bytes name_at name_len parents fs cs ats ls marks m).counted ∙ ap (λ (x : StackRan). x.state.top.shown) same;
      }

  -- of a stack
  pub kept-shows : (r : StackOutcome) (o : Outcome) → o ≡ record { refusal = r.refusal; tables = r.stack.tables } → Keeps table pairs' marks' r → Shows table pairs' marks' o
  kept-shows r o e k = record {
    refusal-is = ap (λ (x : Outcome). x.refusal) e ∙ k.refusal-is;
    shown-is = ap (λ (x : Outcome). state_of pairs' marks' x.tables) e ∙ ap (λ (x : Stack). x.top.shown) k.stack-is;
  }

-- ---- one outcome

-- WHAT IS KEPT IS ONE: the result, the marks, and the pairs as far as there are keys
pub keeps-one : (after : StackRan) (p₁ m₁ p₂ m₂ : List ℕ) (r₁ r₂ : StackOutcome) → Keeps after p₁ m₁ r₁ → Keeps after p₂ m₂ r₂
    → (r₁ ≡ r₂) × (m₁ ≡ m₂) × (take r₁.stack.tables.pairs p₁ ≡ take r₂.stack.tables.pairs p₂)
keeps-one after p₁ m₁ p₂ m₂ r₁ r₂ k q =
    let same = k.stack-is ∙ sym q.stack-is in (
      λ i. record {
        refusal = (k.refusal-is ∙ sym q.refusal-is) i;
        stack = record {
          tables = (same i).top.shown.tables;
          layer = record { own = record { words = (same i).top.own }; keys = (k.holds.layer-counted ∙ ap (λ (s : Stack). length (layer_keys s.top)) same ∙ sym q.holds.layer-counted) i };
          under = (same i).under;
        };
      },
      ap (λ (s : Stack). s.top.shown.marks) same,
      ap (λ (s : Stack). s.top.shown.keys) same,
    )

-- and what is shown: of the pairs as far as there are keys
pub shows-one : (after : StackRan) (p₁ m₁ p₂ m₂ : List ℕ) (r₁ r₂ : Outcome) → Shows after p₁ m₁ r₁ → Shows after p₂ m₂ r₂
    → (r₁ ≡ r₂) × (m₁ ≡ m₂) × (take r₁.tables.pairs p₁ ≡ take r₂.tables.pairs p₂)
shows-one after p₁ m₁ p₂ m₂ r₁ r₂ k q =
    let same = k.shown-is ∙ sym q.shown-is in (
      λ i. record { refusal = (k.refusal-is ∙ sym q.refusal-is) i; tables = (same i).tables },
      ap (λ (s : State). s.marks) same,
      ap (λ (s : State). s.keys) same,
    )
