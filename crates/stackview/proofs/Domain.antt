-- The domain of a table of layers in the words of its rows, and that columns are taken exactly if each row lies inside its slice and the rows are
-- in it.
use Rattle.std.specs.Prelude.{◌≡◌, Bool, cond, ◌↔◌, take, drop}
use Rattle.std.proofs.Math.Path.{refl, sym, ap, subst}
use Rattle.std.proofs.Common.{◌∙◌, true≢false, length-take, length-drop, eqb-true}
use Rattle.std.proofs.Math.Bool.{true, false}
use mathlib.Core.List.Memᴰ
use mathlib.Core.List.{List, [], ◌∷◌, Memᴰ}
use Rattle.std.proofs.Math.Logic.{⊎_elim}
use Prim.Native.Nat.{ℕ, zero, suc, ◌+◌, ◌-◌, ◌^◌, ◌≤◌, ◌<◌}
use native.Mathlib.Omega.{arith}
use Rattle.std.proofs.Math.Dec.{eqb}
use Rattle.std.proofs.Math.ListN.{length}
use Rattle.std.proofs.lemmas.Bool.{eqb-false, lt-leb}
use Rattle.rows.specs.declared.Outcome.{Outcome}
use Rattle.rows.specs.Rows.{object_name, no_tables, State, record_refusal, put_all}
use Rattle.columns.specs.Columns.{name_rows}
use Rattle.columns.specs.Laws.{names-good}
use Rattle.columns.specs.Names.{names-counted}
use Rattle.columns.specs.Given.{Given, no_marks}
use Rattle.layers.specs.Stacks.{Stack, StackRan, ground, top_keys, stack_refusal, stack_row, open_refusal, Upright}
use Rattle.layers.specs.StackLaws.{upright-ground, refusal-top}
use Rattle.layercolumns.specs.LayerColumns.{open_flags, placed_row, stack_rows, stack_table}
use Rattle.layercolumns.specs.Laws.{row-opens, row-records, opening-good}
use Rattle.tableview.specs.TableRows.{Record, rows_view, records_of, rows_in}
use Rattle.tableview.proofs.Agrees.{names-length}
use Rattle.tableview.specs.Domain.{Aligned, keys_from}
use Rattle.tableview.specs.Domain.{GoodRow, Placed}
use Rattle.tableview.proofs.Domain.{inside-plain, row, record-exactly, from-longer, pairs-counted, names-exactly, object-there}
use Rattle.stackview.specs.LayerRows.{opens_layer, shown_table, shown_in}
use Rattle.stackview.specs.LayerViews.{lowest_layer, layers_above}
use Rattle.stackview.proofs.LayerViews.{open-lowest, open-layers, record-lowest, record-layers}
use Rattle.stackview.proofs.Taken.{taken-inside, opened-plain, opened-taken, recording, taken-upright}
use Rattle.stackview.proofs.Refused.{top-now, top-none, numbers-kept}
use Rattle.stackview.specs.Agrees.{stack_in}
use Rattle.stackview.specs.Domain.{StackFit}
use Rattle.stackview.specs.Domain.{LayersInLimits, given_rows}

-- no parent is listed exactly if the length says so
none-listed : (parents : List ℕ) (a l : ℕ) → a + l ≤ length parents → (l ≡ 0) ↔ (take l (drop a parents) ≡ [])
none-listed parents a l h = (
  λ e. ap (λ (k : ℕ). take k (drop a parents)) e,
  λ e. let t = length-take l (drop a parents) in let d = length-drop a parents in let n = ap length e in omega arith,
)

fit-end : (n under : ℕ) (keys parents : List ℕ) (rs : List Record) → rs ≡ [] → (fs cs ats ls : List ℕ) → records_of parents fs cs ats ls ≡ rs → length fs ≡ 0 → under ≤ 3 → length keys ≤ 4096
    → StackFit n under keys parents fs cs ats ls
unfolding lowest_layer layers_above keys_from
fit-end n under keys parents rs e fs cs ats ls q z low room =
    let none = q ∙ e in
    record {
      placed = λ i h. absurd (omega arith);
      good = λ r m. absurd (Memᴰ.not-nil (subst (Memᴰ r) none m));
      bare = λ r m. absurd (Memᴰ.not-nil (subst (Memᴰ r) none m));
      low = let k = ap (λ (x : List Record). length (layers_above x)) none in omega arith;
      room = let k = ap (λ (x : List Record). length (keys_from (lowest_layer x) keys)) none in omega arith;
      rooms = λ layer m. absurd (Memᴰ.not-nil (subst (λ (x : List Record). Memᴰ layer (layers_above x)) none m));
    }

module _ (parents : List ℕ) (f c a l : ℕ) (fs cs ats ls : List ℕ) where
  abbrev ps : List ℕ
  ps = take l (drop a parents)

  abbrev rs : List Record
  rs = records_of parents fs cs ats ls

  -- a layer opened
  module _ (o : eqb f open_flags ≡ true) where
    open-fit : (n under : ℕ) (keys : List ℕ) → a + l ≤ length parents → c ≡ 0 → l ≡ 0 → length keys ≤ 4096 → StackFit n (under + 1) [] parents fs cs ats ls
        → StackFit n under keys parents (f ∷ fs) (c ∷ cs) (a ∷ ats) (l ∷ ls)
    unfolding records_of keys_from
    open-fit n under keys h ec el few w =
        let lowest = open-lowest (row f c ps) rs o in
        let above = open-layers (row f c ps) rs o in
        record {
          placed = elim [ zero ↦ λ k. h | suc i ↦ λ k. w.placed i (omega arith) ];
          good = λ r m q. ⊎_elim (λ e. absurd (true≢false (sym o ∙ ap opens_layer (sym e) ∙ q))) (λ k. w.good r k q) (Memᴰ.cases_cons m);
          bare = λ r m q. ⊎_elim (λ e. (ap (λ (x : Record). x.class) e ∙ ec, ap (λ (x : Record). x.parents) e ∙ (none-listed parents a l h).0 el)) (λ k. w.bare r k q) (Memᴰ.cases_cons m);
          low = let k = ap length above in omega (arith, w.low);
          room = let k = ap (λ (x : List Record). length (keys_from x keys)) lowest in omega arith;
          rooms = λ layer m. ⊎_elim (λ e. subst (λ (x : List Record). length (keys_from x []) ≤ 4096) (sym e) w.room) (λ k. w.rooms layer k) (Memᴰ.cases_cons (subst (Memᴰ layer) above m));
        }

    fit-open : (n under : ℕ) (keys : List ℕ) → StackFit n under keys parents (f ∷ fs) (c ∷ cs) (a ∷ ats) (l ∷ ls)
        → (a + l ≤ length parents) × (c ≡ 0) × (l ≡ 0) × (under < 3) × StackFit n (under + 1) [] parents fs cs ats ls
    unfolding records_of
    fit-open n under keys w =
        let above = open-layers (row f c ps) rs o in
        let h = w.placed 0 (omega arith) in
        let b = w.bare (row f c ps) (Memᴰ.head refl) o in
        let k = ap length above in (
          h,
          b.0,
          (none-listed parents a l h).1 b.1,
          omega (arith, w.low),
          record {
            placed = λ i q. w.placed (suc i) (omega arith);
            good = λ r m q. w.good r (Memᴰ.tail m) q;
            bare = λ r m q. w.bare r (Memᴰ.tail m) q;
            low = omega (arith, w.low);
            room = w.rooms (lowest_layer rs) (subst (Memᴰ (lowest_layer rs)) (sym above) (Memᴰ.head refl));
            rooms = λ layer m. w.rooms layer (subst (Memᴰ layer) (sym above) (Memᴰ.tail m));
          },
        )

  -- a record
  module _ (o : eqb f open_flags ≡ false) where
    record-fit : (n under : ℕ) (keys : List ℕ) → a + l ≤ length parents → record_refusal n keys f c ps ≡ 0 → StackFit n under (put_all c ps keys) parents fs cs ats ls
        → StackFit n under keys parents (f ∷ fs) (c ∷ cs) (a ∷ ats) (l ∷ ls)
    unfolding records_of keys_from
    record-fit n under keys h z w =
        let lowest = record-lowest (row f c ps) rs o in
        let above = record-layers (row f c ps) rs o in
        record {
          placed = elim [ zero ↦ λ k. h | suc i ↦ λ k. w.placed i (omega arith) ];
          good = λ r m q. ⊎_elim (λ e. subst (GoodRow n) (sym e) ((record-exactly n keys f c ps).0 z).0) (λ k. w.good r k q) (Memᴰ.cases_cons m);
          bare = λ r m q. ⊎_elim (λ e. absurd (true≢false (sym q ∙ ap opens_layer e ∙ o))) (λ k. w.bare r k q) (Memᴰ.cases_cons m);
          low = let k = ap length above in omega (arith, w.low);
          room = let k = ap (λ (x : List Record). length (keys_from x keys)) lowest in omega (arith, w.room);
          rooms = λ layer m. w.rooms layer (subst (Memᴰ layer) above m);
        }

    fit-record : (n under : ℕ) (keys : List ℕ) → StackFit n under keys parents (f ∷ fs) (c ∷ cs) (a ∷ ats) (l ∷ ls)
        → (a + l ≤ length parents) × (record_refusal n keys f c ps ≡ 0) × StackFit n under (put_all c ps keys) parents fs cs ats ls
    unfolding records_of keys_from
    fit-record n under keys w =
        let lowest = record-lowest (row f c ps) rs o in
        let above = record-layers (row f c ps) rs o in
        let k = ap (λ (x : List Record). length (keys_from x keys)) lowest in (
          w.placed 0 (omega arith),
          (record-exactly n keys f c ps).1 (w.good (row f c ps) (Memᴰ.head refl) o, omega (arith, w.room, from-longer (lowest_layer rs) (put_all c ps keys))),
          record {
            placed = λ i q. w.placed (suc i) (omega arith);
            good = λ r m q. w.good r (Memᴰ.tail m) q;
            bare = λ r m q. w.bare r (Memᴰ.tail m) q;
            low = let j = ap length above in omega (arith, w.low);
            room = omega (arith, w.room);
            rooms = λ layer m. w.rooms layer (subst (Memᴰ layer) (sym above) m);
          },
        )

-- ---- rows are taken exactly if they fit

-- a record leaves names and layers as they are
same-names : (s : Stack) (f c : ℕ) (ps : List ℕ) → stack_refusal s f c ps ≡ 0 → Upright s → (stack_row s f c ps).top.shown.tables.names ≡ s.top.shown.tables.names
same-names s f c ps z g = numbers-kept s f c ps z g (λ (n u : ℕ). n)

same-under : (s : Stack) (f c : ℕ) (ps : List ℕ) → stack_refusal s f c ps ≡ 0 → Upright s → (stack_row s f c ps).under ≡ s.under
same-under s f c ps z g = numbers-kept s f c ps z g (λ (n u : ℕ). u)

module _ (s : Stack) (f c : ℕ) (ps : List ℕ) (z : stack_refusal s f c ps ≡ 0) (g : Upright s) (parents fs cs ats ls : List ℕ) {keys : List ℕ} where
  kept-fit : StackFit (stack_row s f c ps).top.shown.tables.names (stack_row s f c ps).under keys parents fs cs ats ls → StackFit s.top.shown.tables.names s.under keys parents fs cs ats ls
  kept-fit w =
      subst (λ (u : ℕ). StackFit s.top.shown.tables.names u keys parents fs cs ats ls) (same-under s f c ps z g)
      (subst (λ (n : ℕ). StackFit n (stack_row s f c ps).under keys parents fs cs ats ls) (same-names s f c ps z g) w)

  fit-kept : StackFit s.top.shown.tables.names s.under keys parents fs cs ats ls → StackFit (stack_row s f c ps).top.shown.tables.names (stack_row s f c ps).under keys parents fs cs ats ls
  fit-kept w =
      subst (λ (u : ℕ). StackFit (stack_row s f c ps).top.shown.tables.names u keys parents fs cs ats ls) (sym (same-under s f c ps z g))
      (subst (λ (n : ℕ). StackFit n s.under keys parents fs cs ats ls) (sym (same-names s f c ps z g)) w)

-- a bare row that opens a layer, where there is room for one
open-taken : (parents : List ℕ) (f c a l : ℕ) (s : Stack) → eqb f open_flags ≡ true → a + l ≤ length parents → c ≡ 0 → l ≡ 0 → s.under < 3 → (placed_row parents f c a l s).refusal ≡ 0
unfolding open_refusal
open-taken parents f c a l s o h ec el low =
    ap (λ (y : StackRan). y.refusal) (row-opens parents f c a l s ((inside-plain (length parents) a l).1 h) (eqb-true f open_flags o) ∙ opening-good c l s ec el)
    ∙ rw (lt-leb 3 s.under low)

stack-fit : (parents fs cs ats ls : List ℕ) (s : Stack) → Upright s → length cs ≡ length fs → length ats ≡ length fs → length ls ≡ length fs
    → (stack_rows parents fs cs ats ls s).refusal ≡ 0 → StackFit s.top.shown.tables.names s.under (top_keys s) parents fs cs ats ls
unfolding stack_rows records_of
stack-fit parents [] cs ats ls s g p q r z = fit-end s.top.shown.tables.names s.under (top_keys s) parents [] refl [] cs ats ls refl refl g.low g.top-room
stack-fit parents (f ∷ fs) [] ats ls s g p q r z = absurd (omega arith)
stack-fit parents (f ∷ fs) (c ∷ cs) [] ls s g p q r z = absurd (omega arith)
stack-fit parents (f ∷ fs) (c ∷ cs) (a ∷ ats) [] s g p q r z = absurd (omega arith)
stack-fit parents (f ∷ fs) (c ∷ cs) (a ∷ ats) (l ∷ ls) s g p q r z = go (eqb one.refusal 0) refl z (eqb f open_flags) refl (stack-fit parents fs cs ats ls one.state)
  where
    one : StackRan
    one = placed_row parents f c a l s

    rest : StackRan
    rest = stack_rows parents fs cs ats ls one.state

    part : List ℕ
    part = take l (drop a parents)

    go : (b : Bool) → eqb one.refusal 0 ≡ b → (cond b rest one).refusal ≡ 0 → (o : Bool) → eqb f open_flags ≡ o
        → (Upright one.state → length cs ≡ length fs → length ats ≡ length fs → length ls ≡ length fs → rest.refusal ≡ 0
        → StackFit one.state.top.shown.tables.names one.state.under (top_keys one.state) parents fs cs ats ls)
        → StackFit s.top.shown.tables.names s.under (top_keys s) parents (f ∷ fs) (c ∷ cs) (a ∷ ats) (l ∷ ls)
    go false e k o d ih = absurd (eqb-false one.refusal 0 e k)
    go true e k true d ih =
        let t = eqb-true one.refusal 0 e in
        let is = (opened-taken parents f c a l s t d).1 in
        let bare = opened-plain parents f c a l s t d in
        let w = ih (taken-upright parents f c a l s t g) (omega arith) (omega arith) (omega arith) k in
        let v = subst (λ (x : Stack). StackFit x.top.shown.tables.names x.under (top_keys x) parents fs cs ats ls) is w in
        open-fit parents f c a l fs cs ats ls d s.top.shown.tables.names s.under (top_keys s) ((inside-plain (length parents) a l).0 (taken-inside parents f c a l s t)) bare.0 bare.1 g.top-room
        (subst (λ (x : List ℕ). StackFit s.top.shown.tables.names (s.under + 1) x parents fs cs ats ls) (top-none s) v)
    go true e k false d ih =
        let t = eqb-true one.refusal 0 e in
        let is = recording parents f c a l s t d in
        let w = ih (taken-upright parents f c a l s t g) (omega arith) (omega arith) (omega arith) k in
        let v = subst (λ (x : Stack). StackFit x.top.shown.tables.names x.under (top_keys x) parents fs cs ats ls) is.1 w in
        record-fit parents f c a l fs cs ats ls d s.top.shown.tables.names s.under (top_keys s) ((inside-plain (length parents) a l).0 (taken-inside parents f c a l s t)) (sym (refusal-top s f c part) ∙ is.0)
        (kept-fit s f c part is.0 g parents fs cs ats ls (subst (λ (x : List ℕ). StackFit (stack_row s f c part).top.shown.tables.names (stack_row s f c part).under x parents fs cs ats ls) (top-now s g f c part is.0) v))

fit-taken : (parents fs cs ats ls : List ℕ) (s : Stack) → Upright s → StackFit s.top.shown.tables.names s.under (top_keys s) parents fs cs ats ls → (stack_rows parents fs cs ats ls s).refusal ≡ 0
unfolding stack_rows
fit-taken parents [] cs ats ls s g w = refl
fit-taken parents (f ∷ fs) [] ats ls s g w = refl
fit-taken parents (f ∷ fs) (c ∷ cs) [] ls s g w = refl
fit-taken parents (f ∷ fs) (c ∷ cs) (a ∷ ats) [] s g w = refl
fit-taken parents (f ∷ fs) (c ∷ cs) (a ∷ ats) (l ∷ ls) s g w = go (eqb f open_flags) refl (fit-taken parents fs cs ats ls (placed_row parents f c a l s).state)
  where
    one : StackRan
    one = placed_row parents f c a l s

    part : List ℕ
    part = take l (drop a parents)

    first : one.refusal ≡ 0 → (stack_rows parents fs cs ats ls one.state).refusal ≡ 0 → (cond (eqb one.refusal 0) (stack_rows parents fs cs ats ls one.state) one).refusal ≡ 0
    first z k = rw z k

    go : (o : Bool) → eqb f open_flags ≡ o
        → (Upright one.state → StackFit one.state.top.shown.tables.names one.state.under (top_keys one.state) parents fs cs ats ls → (stack_rows parents fs cs ats ls one.state).refusal ≡ 0)
        → (cond (eqb one.refusal 0) (stack_rows parents fs cs ats ls one.state) one).refusal ≡ 0
    go true d ih =
        let x = fit-open parents f c a l fs cs ats ls d s.top.shown.tables.names s.under (top_keys s) w in
        let z = open-taken parents f c a l s d x.0 x.1 x.2 x.3 in
        let is = (opened-taken parents f c a l s z d).1 in
        first z (ih (taken-upright parents f c a l s z g)
        (subst (λ (y : Stack). StackFit y.top.shown.tables.names y.under (top_keys y) parents fs cs ats ls) (sym is)
        (subst (λ (k : List ℕ). StackFit s.top.shown.tables.names (s.under + 1) k parents fs cs ats ls) (sym (top-none s)) x.4)))
    go false d ih =
        let x = fit-record parents f c a l fs cs ats ls d s.top.shown.tables.names s.under (top_keys s) w in
        let refused = refusal-top s f c part ∙ x.1 in
        let z = ap (λ (y : StackRan). y.refusal) (row-records parents f c a l s ((inside-plain (length parents) a l).1 x.0) (eqb-false f open_flags d)) ∙ refused in
        let is = recording parents f c a l s z d in
        first z (ih (taken-upright parents f c a l s z g)
        (subst (λ (y : Stack). StackFit y.top.shown.tables.names y.under (top_keys y) parents fs cs ats ls) (sym is.1)
        (fit-kept s f c part is.0 g parents fs cs ats ls (subst (λ (k : List ℕ). StackFit s.top.shown.tables.names s.under k parents fs cs ats ls) (sym (top-now s g f c part is.0)) x.2))))

-- ---- the rows of a layer are rows of the table, and open none

lowest-rows-in : (rs : List Record) (r : Record) → Memᴰ r (lowest_layer rs) → Memᴰ r rs × (opens_layer r ≡ false)
unfolding lowest_layer
lowest-rows-in [] r m = absurd (Memᴰ.not-nil m)
lowest-rows-in (x ∷ rs) r m = go (opens_layer x) refl m (lowest-rows-in rs r)
  where
    go : (o : Bool) → opens_layer x ≡ o → Memᴰ r (cond o [] (x ∷ lowest_layer rs)) → (Memᴰ r (lowest_layer rs) → Memᴰ r rs × (opens_layer r ≡ false)) → Memᴰ r (x ∷ rs) × (opens_layer r ≡ false)
    go true e k ih = absurd (Memᴰ.not-nil k)
    go false e k ih = ⊎_elim (λ q. (Memᴰ.head q, ap opens_layer q ∙ e)) (λ t. let w = ih t in (Memᴰ.tail w.0, w.1)) (Memᴰ.cases_cons k)

above-rows-in : (rs : List Record) (layer : List Record) → Memᴰ layer (layers_above rs) → (r : Record) → Memᴰ r layer → Memᴰ r rs × (opens_layer r ≡ false)
unfolding layers_above
above-rows-in [] layer m r k = absurd (Memᴰ.not-nil m)
above-rows-in (x ∷ rs) layer m r k = go (opens_layer x) m (λ t. above-rows-in rs layer t r k)
  where
    later : Memᴰ r rs × (opens_layer r ≡ false) → Memᴰ r (x ∷ rs) × (opens_layer r ≡ false)
    later w = (Memᴰ.tail w.0, w.1)

    go : (o : Bool) → Memᴰ layer (cond o (lowest_layer rs ∷ layers_above rs) (layers_above rs)) → (Memᴰ layer (layers_above rs) → Memᴰ r rs × (opens_layer r ≡ false))
        → Memᴰ r (x ∷ rs) × (opens_layer r ≡ false)
    go true t ih = ⊎_elim (λ q. later (lowest-rows-in rs r (subst (Memᴰ r) q k))) (λ u. later (ih u)) (Memᴰ.cases_cons t)
    go false t ih = later (ih t)

layer-rows-in : (rs : List Record) (layer : List Record) → Memᴰ layer (lowest_layer rs ∷ layers_above rs) → (r : Record) → Memᴰ r layer → Memᴰ r rs × (opens_layer r ≡ false)
layer-rows-in rs layer m r k = ⊎_elim (λ q. lowest-rows-in rs r (subst (Memᴰ r) q k)) (λ u. above-rows-in rs layer u r k) (Memᴰ.cases_cons m)

-- ---- the table

module _ (g : Given) (aligned : Aligned g) where
  abbrev named : Outcome
  named = name_rows g.names g.name_at g.name_len [] no_tables

  abbrev start : State
  start = record { tables = named.tables; keys = []; marks = no_marks }

  abbrev records : StackRan
  records = stack_rows g.parents g.rec_flags g.rec_class g.rec_at g.rec_len (ground start)

  both-taken : ((stack_in g).refusal ≡ 0) ↔ ((named.refusal ≡ 0) × (records.refusal ≡ 0))
  unfolding stack_in stack_table
  both-taken = (λ z. to (eqb named.refusal 0) refl z, λ w. rw w.0 w.1)
    where
      to : (b : Bool) → eqb named.refusal 0 ≡ b → (cond {A = StackRan} b records (record { refusal = named.refusal; state = ground start })).refusal ≡ 0 → (named.refusal ≡ 0) × (records.refusal ≡ 0)
      to true q r = (eqb-true named.refusal 0 q, r)
      to false q r = absurd (eqb-false named.refusal 0 q r)

  upright : Upright (ground start)
  upright = upright-ground start (names-good g.names g.name_at g.name_len no_marks refl)

  no-keys : top_keys (ground start) ≡ []
  unfolding top_keys
  no-keys = refl

  many-names : named.refusal ≡ 0 → start.tables.names ≡ length (given_rows g).names
  unfolding no_tables
  many-names z =
      names-counted g.names g.name_at g.name_len [] no_tables (sym aligned.lengths-as) z
      ∙ (let k : 0 + length g.name_at ≡ length g.name_at = omega arith in k) ∙ sym (names-length g.names g.name_at g.name_len (sym aligned.lengths-as))

  all-fit : (stack_in g).refusal ≡ 0 → StackFit start.tables.names 0 [] g.parents g.rec_flags g.rec_class g.rec_at g.rec_len
  all-fit z =
      subst (λ (k : List ℕ). StackFit start.tables.names 0 k g.parents g.rec_flags g.rec_class g.rec_at g.rec_len) no-keys
      (stack-fit g.parents g.rec_flags g.rec_class g.rec_at g.rec_len (ground start) upright aligned.classes-as aligned.starts-as aligned.sizes-as (both-taken.0 z).1)

  given-exactly : ((stack_in g).refusal ≡ 0) ↔ (Placed g × LayersInLimits (given_rows g))
  given-exactly = (to, from)
    where
      good-rows : (z : (stack_in g).refusal ≡ 0) (r : Record) → Memᴰ r (given_rows g).records → opens_layer r ≡ false → GoodRow (length (given_rows g).names) r
      good-rows z r m o = subst (λ (k : ℕ). GoodRow k r) (many-names (both-taken.0 z).0) ((all-fit z).good r m o)

      layer-room : (z : (stack_in g).refusal ≡ 0) (layer : List Record) → Memᴰ layer (lowest_layer (given_rows g).records ∷ layers_above (given_rows g).records) → length (keys_from layer []) ≤ 4096
      layer-room z layer m =
          ⊎_elim (λ q. subst (λ (x : List Record). length (keys_from x []) ≤ 4096) (sym q) (all-fit z).room) (λ u. (all-fit z).rooms layer u) (Memᴰ.cases_cons m)

      to : (stack_in g).refusal ≡ 0 → Placed g × LayersInLimits (given_rows g)
      to z =
          let n = (names-exactly g.names g.name_at g.name_len aligned.lengths-as).0 (both-taken.0 z).0 in
          let f = all-fit z in (
            record { names-in = n.placed; parents-in = f.placed },
            record {
              few-names = n.few;
              few-bytes = n.short;
              names-good = n.good;
              rising = n.rising;
              rows-good = good-rows z;
              opens-bare = f.bare;
              few-layers = omega (arith, f.low);
              few-pairs = λ layer m.
                  let c = pairs-counted (length (given_rows g).names) layer n.few (λ r k. let w = layer-rows-in (given_rows g).records layer m r k in good-rows z r w.0 w.1) in
                  let k = layer-room z layer m in
                  omega arith;
            },
          )

      from : Placed g × LayersInLimits (given_rows g) → (stack_in g).refusal ≡ 0
      from w =
          let l = w.1 in
          let z = (names-exactly g.names g.name_at g.name_len aligned.lengths-as).1
          (record { placed = w.0.names-in; few = l.few-names; short = l.few-bytes; good = l.names-good; rising = l.rising }) in
          let room : (layer : List Record) → Memᴰ layer (lowest_layer (given_rows g).records ∷ layers_above (given_rows g).records) → length (keys_from layer []) ≤ 4096 =
          λ layer m. let c = pairs-counted (length (given_rows g).names) layer l.few-names (λ r k. let v = layer-rows-in (given_rows g).records layer m r k in l.rows-good r v.0 v.1) in
          let k = l.few-pairs layer m in
          omega arith in
          both-taken.1 (
            z,
            fit-taken g.parents g.rec_flags g.rec_class g.rec_at g.rec_len (ground start) upright
                (subst (λ (k : List ℕ). StackFit start.tables.names 0 k g.parents g.rec_flags g.rec_class g.rec_at g.rec_len) (sym no-keys) (record {
                  placed = w.0.parents-in;
                  good = λ r m o. subst (λ (k : ℕ). GoodRow k r) (sym (many-names z)) (l.rows-good r m o);
                  bare = l.opens-bare;
                  low = omega (arith, l.few-layers);
                  room = room (lowest_layer (given_rows g).records) (Memᴰ.head refl);
                  rooms = λ layer m. room layer (Memᴰ.tail m);
                })),
          )

  -- A TABLE OF LAYERS IS TAKEN EXACTLY IF EACH ROW LIES INSIDE ITS SLICE AND THE ROWS ARE WITHIN THE LIMITS
  pub stack-exactly : ((stack_in g).refusal ≡ 0) ↔ (Placed g × LayersInLimits (rows_in g))
  unfolding rows_in
  stack-exactly = given-exactly

-- OBJECT'S NUMBER IS NOT ALL ONES EXACTLY IF ITS NAME IS THERE
pub shown-object : (g : Given) → length (rows_in g).names ≤ 1024 → ((rows_view (shown_in g)).object ≡ 2 ^ 64 - 1 → ⊥) ↔ Memᴰ object_name (rows_in g).names
unfolding shown_in
shown-object g few = object-there (shown_table (rows_in g)) few
