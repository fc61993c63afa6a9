-- A TABLE OF LAYERS IS REFUSED AS ITS ROWS ARE.
use Rattle.std.specs.Prelude.{◌≡◌, Bool, not, ◌&&◌, List, [], ◌∷◌, ◌++◌, ℕ, ◌+◌, ◌≤◌, leb, length, take, drop}
use Rattle.std.proofs.Math.Path.{refl, ap}
use Rattle.std.proofs.Common.{sym, ap₂, ◌∙◌, subst, arith}
use Rattle.std.proofs.Math.Bool.{true, false, cond}
use Rattle.std.proofs.Math.Decide.{ℕ_discrete}
use Rattle.std.proofs.Math.Dec.{eqb}
use borrow.Author.Tests.{eq-eqb, ne_eqb, eqb-true, eqb-false}
use Rattle.checks.specs.Checks.{first_refusal, or_else, else-none, else-some}
use Rattle.names.specs.Names.{check_rows}
use Rattle.rows.specs.declared.Outcome.{Outcome}
use Rattle.rows.specs.Rows.{no_tables, put_all, State, with_record}
use Rattle.rows.specs.Laws.{record-good, record-taken}
use Rattle.columns.specs.Columns.{inside, name_rows}
use Rattle.columns.specs.Laws.{names-good}
use Rattle.columns.specs.Names.{names-agree}
use Rattle.columns.specs.Given.{Given, no_marks}
use Rattle.layers.specs.Layers.{Layered, layer_keys, with_layer_record, opened}
use Rattle.layers.specs.Laws.{inside-none, layer-taken, layer-keys-now}
use Rattle.layers.specs.Stacks.{Stack, StackRan, ground, top_keys, stack_refusal, stack_row, open_refusal, Upright}
use Rattle.layers.specs.StackLaws.{top-lowest, top-layer, upright-stands, upright-ground, row-lowest, row-layer, refusal-lowest, refusal-layer, refusal-top}
use Rattle.layercolumns.specs.LayerColumns.{open_flags, placed_row, stack_rows, stack_table}
use Rattle.layercolumns.specs.Laws.{row-outside, row-opens, row-records, opening-classed, opening-listed, opening-good}
use Rattle.tableview.specs.TableRows.{names_of}
use Rattle.tableview.specs.RowRefusals.{Pair, listed, row_checks}
use Rattle.tableview.proofs.Taken.{elem-below}
use Rattle.tableview.proofs.Agrees.{member-elem}
use Rattle.tableview.proofs.Refused.{Holds, row-holds, row-refused, none-held, names-many}
use Rattle.stackview.specs.LayerRefusals.{open_checks, layer_row_refusal, under_after, pairs_after, layers_refusal, stack_refusal_of}
use Rattle.stackview.proofs.Taken.{opened-taken, recording, taken-upright}

-- the keys of the topmost layer after a record
pub top-now : (s : Stack) → Upright s → (flags class : ℕ) (parents : List ℕ) → stack_refusal s flags class parents ≡ 0 → top_keys (stack_row s flags class parents) ≡ put_all class parents (top_keys s)
unfolding with_record
top-now s g flags class parents z = go (eqb s.under 0) refl
  where
    go : (t : Bool) → eqb s.under 0 ≡ t → top_keys (stack_row s flags class parents) ≡ put_all class parents (top_keys s)
    go true e =
        let u = eqb-true s.under 0 e in
        let row = row-lowest s flags class parents u in
        top-lowest (stack_row s flags class parents) (ap (λ (x : Stack). x.under) row)
        ∙ ap (λ (x : Stack). x.top.shown.keys) row
        ∙ ap (λ (x : State). x.keys) (record-taken s.top.shown flags class parents (sym (refusal-lowest s flags class parents u) ∙ z))
        ∙ ap (put_all class parents) (sym (top-lowest s u))
    go false e =
        let n = eqb-false s.under 0 e in
        let row = row-layer s flags class parents n in
        let taken = sym (refusal-layer s flags class parents n) ∙ z in
        top-layer (stack_row s flags class parents) (λ k. n (sym (ap (λ (x : Stack). x.under) row) ∙ k))
        ∙ ap (λ (x : Stack). layer_keys x.top) row ∙ ap layer_keys (layer-taken s.top flags class parents taken)
        ∙ layer-keys-now s.under s.top (upright-stands s n g) flags class parents taken
        ∙ ap (put_all class parents) (sym (top-layer s n))

-- a record changes neither the names nor the layers
pub numbers-kept : (s : Stack) (flags class : ℕ) (parents : List ℕ) → stack_refusal s flags class parents ≡ 0 → Upright s → (f : ℕ → ℕ → ℕ)
    → f (stack_row s flags class parents).top.shown.tables.names (stack_row s flags class parents).under ≡ f s.top.shown.tables.names s.under
unfolding with_record with_layer_record
numbers-kept s flags class parents z g f = go (eqb s.under 0) refl
  where
    go : (t : Bool) → eqb s.under 0 ≡ t → f (stack_row s flags class parents).top.shown.tables.names (stack_row s flags class parents).under ≡ f s.top.shown.tables.names s.under
    go true e =
        let u = eqb-true s.under 0 e in
        ap (λ (x : Stack). f x.top.shown.tables.names x.under) (row-lowest s flags class parents u)
        ∙ ap (λ (x : State). f x.tables.names 0) (record-taken s.top.shown flags class parents (sym (refusal-lowest s flags class parents u) ∙ z))
        ∙ ap (f s.top.shown.tables.names) (sym u)
    go false e =
        let n = eqb-false s.under 0 e in
        ap (λ (x : Stack). f x.top.shown.tables.names x.under) (row-layer s flags class parents n)
        ∙ ap (λ (x : Layered). f x.shown.tables.names s.under) (layer-taken s.top flags class parents (sym (refusal-layer s flags class parents n) ∙ z))

-- and of a layer just opened
pub top-none : (s : Stack) → top_keys (record { top = opened s.top.shown; under = s.under + 1 }) ≡ []
top-none s = top-layer (record { top = opened s.top.shown; under = s.under + 1 }) (λ e. omega arith) ∙ inside-none s.top.shown.keys

is-three : (names f c : ℕ) (ps : List ℕ) (before : List Pair) → first_refusal (row_checks names false f c ps before) ≡ 3
unfolding row_checks first_refusal
is-three names f c ps before = refl

module _ (parents : List ℕ) (f c a l : ℕ) (s : Stack) where
  -- A ROW THAT OPENS A LAYER
  open-refused : eqb f open_flags ≡ true → (placed_row parents f c a l s).refusal ≡ first_refusal (open_checks s.under (inside (length parents) a l) c l)
  unfolding open_checks first_refusal open_refusal
  open-refused o = go (inside (length parents) a l) refl (ℕ_discrete c 0) (ℕ_discrete l 0)
    where
      go : (b : Bool) → inside (length parents) a l ≡ b → Dec (c ≡ 0) → Dec (l ≡ 0)
          → (placed_row parents f c a l s).refusal ≡ cond (not b) 3 (cond (not (eqb c 0 && eqb l 0)) 3 (cond (leb 3 s.under) 8 0))
      go false e p q = ap (λ (x : StackRan). x.refusal) (row-outside parents f c a l s e)
      go true e (yes p) (yes q) = ap (λ (x : StackRan). x.refusal) (row-opens parents f c a l s e (eqb-true f open_flags o) ∙ opening-good c l s p q) ∙ rw (eq-eqb c 0 p, eq-eqb l 0 q)
      go true e (yes p) (no q) = ap (λ (x : StackRan). x.refusal) (row-opens parents f c a l s e (eqb-true f open_flags o) ∙ opening-listed c l s p q) ∙ rw (eq-eqb c 0 p, ne_eqb l 0 q)
      go true e (no p) q = ap (λ (x : StackRan). x.refusal) (row-opens parents f c a l s e (eqb-true f open_flags o) ∙ opening-classed c l s p) ∙ rw (ne_eqb c 0 p)

  -- A RECORD
  record-refused : eqb f open_flags ≡ false → (before : List Pair) → s.top.shown.tables.names ≤ 1024 → Holds (top_keys s) before
      → (placed_row parents f c a l s).refusal ≡ first_refusal (row_checks s.top.shown.tables.names (inside (length parents) a l) f c (take l (drop a parents)) before)
  record-refused o before few h = go (inside (length parents) a l) refl
    where
      outside : first_refusal (row_checks s.top.shown.tables.names false f c (take l (drop a parents)) before) ≡ 3
      outside = is-three s.top.shown.tables.names f c (take l (drop a parents)) before

      go : (b : Bool) → inside (length parents) a l ≡ b → (placed_row parents f c a l s).refusal ≡ first_refusal (row_checks s.top.shown.tables.names b f c (take l (drop a parents)) before)
      go true e =
          ap (λ (x : StackRan). x.refusal) (row-records parents f c a l s e (eqb-false f open_flags o)) ∙ refusal-top s f c (take l (drop a parents))
          ∙ row-refused s.top.shown.tables.names (top_keys s) before few h c (take l (drop a parents)) f
      go false e = ap (λ (x : StackRan). x.refusal) (row-outside parents f c a l s e) ∙ sym outside

-- ---- one row and the next

module _ (parents : List ℕ) (f c a l : ℕ) (s : Stack) (before : List Pair) (g : Upright s) (h : Holds (top_keys s) before) where
  abbrev one : StackRan
  one = placed_row parents f c a l s

  abbrev part : List ℕ
  part = take l (drop a parents)

  -- A ROW IS REFUSED AS IN THE WORDS OF ROWS
  pub placed-refused : one.refusal ≡ layer_row_refusal s.top.shown.tables.names parents s.under before f c a l
  unfolding layer_row_refusal
  placed-refused = go (eqb f open_flags) refl
    where
      go : (o : Bool) → eqb f open_flags ≡ o
          → one.refusal ≡ cond o (first_refusal (open_checks s.under (inside (length parents) a l) c l)) (first_refusal (row_checks s.top.shown.tables.names (inside (length parents) a l) f c part before))
      go true o = open-refused parents f c a l s o
      go false o = record-refused parents f c a l s o before g.few h

  -- what the next row finds
  pub record GoesOn : Type 0 where
    pub upright : Upright one.state
    pub holds : Holds (top_keys one.state) (pairs_after f c part before)
    pub as-many : one.state.top.shown.tables.names ≡ s.top.shown.tables.names
    pub under-is : one.state.under ≡ under_after f s.under

  pub goes-on : one.refusal ≡ 0 → GoesOn
  goes-on z = go (eqb f open_flags) refl
    where
      go : (o : Bool) → eqb f open_flags ≡ o → GoesOn
      go true o =
          let is = (opened-taken parents f c a l s z o).1 in
          record {
            upright = taken-upright parents f c a l s z g;
            holds = rw o (subst (λ (x : Stack). Holds (top_keys x) []) (sym is) (subst (λ (k : List ℕ). Holds k []) (sym (top-none s)) none-held));
            as-many = ap (λ (x : Stack). x.top.shown.tables.names) is;
            under-is = rw o (ap (λ (x : Stack). x.under) is);
          }
      go false o =
          let is = recording parents f c a l s z o in
          let names = s.top.shown.tables.names in
          let good = record-good names (top_keys s) f c part (sym (refusal-top s f c part) ∙ is.0) in
          let held = row-holds names (top_keys s) before g.few h c part (λ p m. elem-below names p part good.parents-in (member-elem p part m)) in
          record {
            upright = taken-upright parents f c a l s z g;
            holds = rw o (subst (λ (x : Stack). Holds (top_keys x) (listed c part ++ before)) (sym is.1) (subst (λ (k : List ℕ). Holds k (listed c part ++ before)) (sym (top-now s g f c part is.0)) held));
            as-many = ap (λ (x : Stack). x.top.shown.tables.names) is.1 ∙ numbers-kept s f c part is.0 g (λ (n u : ℕ). n);
            under-is = rw o (ap (λ (x : Stack). x.under) is.1 ∙ numbers-kept s f c part is.0 g (λ (n u : ℕ). u));
          }

-- ---- all rows

pub rows-refused : (parents fs cs ats ls : List ℕ) (s : Stack) (before : List Pair) → Upright s → Holds (top_keys s) before
    → (stack_rows parents fs cs ats ls s).refusal ≡ layers_refusal s.top.shown.tables.names parents fs cs ats ls s.under before
unfolding stack_rows layers_refusal
rows-refused parents [] cs ats ls s before g h = refl
rows-refused parents (f ∷ fs) [] ats ls s before g h = refl
rows-refused parents (f ∷ fs) (c ∷ cs) [] ls s before g h = refl
rows-refused parents (f ∷ fs) (c ∷ cs) (a ∷ ats) [] s before g h = refl
rows-refused parents (f ∷ fs) (c ∷ cs) (a ∷ ats) (l ∷ ls) s before g h =
    go (eqb (placed_row parents f c a l s).refusal 0) refl (rows-refused parents fs cs ats ls (placed_row parents f c a l s).state after)
  where
    row : StackRan
    row = placed_row parents f c a l s

    after : List Pair
    after = pairs_after f c (take l (drop a parents)) before

    rest : StackRan
    rest = stack_rows parents fs cs ats ls row.state

    first : ℕ
    first = layer_row_refusal s.top.shown.tables.names parents s.under before f c a l

    more : ℕ → ℕ → ℕ
    more n u = layers_refusal n parents fs cs ats ls u after

    is : row.refusal ≡ first
    is = placed-refused parents f c a l s before g h

    go : (b : Bool) → eqb row.refusal 0 ≡ b
        → (Upright row.state → Holds (top_keys row.state) after → rest.refusal ≡ more row.state.top.shown.tables.names row.state.under)
        → (cond b rest row).refusal ≡ or_else first (more s.top.shown.tables.names (under_after f s.under))
    go true q ih =
        let z = eqb-true row.refusal 0 q in
        let n = goes-on parents f c a l s before g h z in
        ih n.upright n.holds ∙ ap₂ more n.as-many n.under-is ∙ sym (else-none first (more s.top.shown.tables.names (under_after f s.under)) (sym is ∙ z))
    go false q ih = is ∙ sym (else-some first (more s.top.shown.tables.names (under_after f s.under)) (λ z. eqb-false row.refusal 0 q (is ∙ z)))

-- ---- the table

-- THE REFUSAL OF A TABLE OF LAYERS IS THAT OF ITS ROWS
pub stack-refusal : (g : Given)
    → (stack_table (name_rows g.names g.name_at g.name_len [] no_tables) g.parents g.rec_flags g.rec_class g.rec_at g.rec_len no_marks).refusal ≡ stack_refusal_of g
unfolding stack_table stack_refusal_of no_tables top_keys
stack-refusal g = go (eqb named.refusal 0) refl
  where
    named : Outcome
    named = name_rows g.names g.name_at g.name_len [] no_tables

    start : State
    start = record { tables = named.tables; keys = []; marks = no_marks }

    records : StackRan
    records = stack_rows g.parents g.rec_flags g.rec_class g.rec_at g.rec_len (ground start)

    first : ℕ
    first = check_rows g.names g.name_at g.name_len [] 0 0

    more : ℕ → ℕ
    more n = layers_refusal n g.parents g.rec_flags g.rec_class g.rec_at g.rec_len 0 []

    many : ℕ
    many = length (names_of g.names g.name_at g.name_len)

    same : named.refusal ≡ first
    same = names-agree g.names g.name_at g.name_len [] no_tables

    go : (b : Bool) → eqb named.refusal 0 ≡ b → (cond {A = StackRan} b records (record { refusal = named.refusal; state = ground start })).refusal ≡ or_else first (more many)
    go true e =
        let z = eqb-true named.refusal 0 e in
        let n : named.tables.names ≡ many = let k = names-many g.names g.name_at g.name_len [] no_tables z in omega arith in
        rows-refused g.parents g.rec_flags g.rec_class g.rec_at g.rec_len (ground start) [] (upright-ground start (names-good g.names g.name_at g.name_len no_marks refl)) none-held
        ∙ ap more n ∙ sym (else-none first (more many) (sym same ∙ z))
    go false e = same ∙ sym (else-some first (more many) (λ z. eqb-false named.refusal 0 e (same ∙ z)))
