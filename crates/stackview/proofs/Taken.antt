-- What rows that are taken leave, in the words of the rows that their layers show: the pairs are those that shown rows list, the marks those that
-- rows tell.
use Rattle.std.specs.Prelude.{◌≡◌, Bool, not, ◌&&◌, ◌||◌, ℕ, ◌+◌, ◌/◌, ◌%◌, ◌≤◌, ◌<◌, leb, length, drop}
use Rattle.std.proofs.Math.Path.{refl, sym, ap, subst}
use Rattle.std.proofs.Common.{ap₂, ◌∙◌}
use Rattle.std.proofs.Math.Bool.{true, false, cond}
use Rattle.std.proofs.lemmas.Bool.{false≢true}
use mathlib.Core.List.{List, [], ◌∷◌, ◌++◌}
use Rattle.std.proofs.Math.Option.{Option}
use native.Mathlib.Omega.{arith}
use Rattle.std.proofs.Math.Decide.{ℕ_discrete}
use Rattle.std.proofs.Math.Dec.{eqb}
use Rattle.std.proofs.Math.ListN.{take}
use borrow.Author.Tests.{eq-eqb, ne_eqb, eqb-true, eqb-false, lt-leb, leb-false}
use Rattle.order.specs.Lists.{elem}
use Rattle.sets.specs.Sets.{member}
use Rattle.sets.specs.Laws.{member-empty, member-insert}
use Rattle.tables.specs.Table.{names_room}
use Rattle.rows.specs.Rows.{State, key, put_all, is_marked, record_marks, with_record}
use Rattle.rows.specs.Keys.{all-has}
use Rattle.rows.specs.Laws.{Sound, GoodRecord, record-good, record-taken}
use Rattle.columns.specs.Columns.{inside}
use Rattle.layers.specs.Layers.{Layered, keys_without, keys_left, with_layer_record, opened}
use Rattle.layers.specs.Laws.{elem-without, layer-taken}
use Rattle.layers.specs.Stacks.{Stack, StackRan, ground, top_keys, stack_refusal, stack_row, open_refusal, open_row, Upright}
use Rattle.layers.specs.StackLaws.{upright-ground, upright-row, upright-open, row-lowest, row-layer, refusal-lowest, refusal-layer, refusal-top}
use Rattle.layercolumns.specs.LayerColumns.{open_flags, opening_row, placed_row, stack_rows}
use Rattle.layercolumns.specs.Laws.{row-outside, row-opens, row-records, opening-classed, opening-listed, opening-good}
use Rattle.tableview.specs.TableRows.{Record, is_recorded, listed_parents, declares, later, last_declared, fact_from, any_flags, interface_flag, final_flag, records_of}
use Rattle.rows.specs.Marks.{declared-gives}
use Rattle.tableview.specs.Taken.{After}
use Rattle.tableview.proofs.Taken.{or-assoc, elem-append, elem-below, keys-of, recorded-step, fact-step, fact-later}
use Rattle.stackview.specs.LayerRows.{opens_layer, has_record, recorded_above, hidden, shown_rows}
use Rattle.stackview.specs.Taken.{stays, keys_beside, covered, Leaves, StackAfter}

module _ (s : Stack) (g : Upright s) (flags class : ℕ) (parents : List ℕ) (z : stack_refusal s flags class parents ≡ 0) where
  good : GoodRecord s.top.shown.tables.names (top_keys s) flags class parents
  good = record-good s.top.shown.tables.names (top_keys s) flags class parents (sym (refusal-top s flags class parents) ∙ z)

  small : class < 1024
  small = omega (arith, good.class-in, g.few)

  beside : State
  beside = record { tables = s.top.shown.tables; keys = keys_beside s class; marks = s.top.shown.marks }

  taken-shown : (stack_row s flags class parents).top.shown ≡ with_record beside flags class parents
  unfolding stays beside with_layer_record keys_left
  taken-shown = go (eqb s.under 0) refl
    where
      go : (t : Bool) → eqb s.under 0 ≡ t
          → (stack_row s flags class parents).top.shown
          ≡ with_record (record { tables = s.top.shown.tables; keys = cond (t || member s.top.own class) s.top.shown.keys (keys_without class s.top.shown.keys); marks = s.top.shown.marks }) flags class parents
      go true e =
          let u = eqb-true s.under 0 e in
          ap (λ (x : Stack). x.top.shown) (row-lowest s flags class parents u) ∙ record-taken s.top.shown flags class parents (sym (refusal-lowest s flags class parents u) ∙ z)
      go false e =
          let n = eqb-false s.under 0 e in
          ap (λ (x : Stack). x.top.shown) (row-layer s flags class parents n)
          ∙ ap (λ (x : Layered). x.shown) (layer-taken s.top flags class parents (sym (refusal-layer s flags class parents n) ∙ z))

  -- afterwards what is there of the class stays, and of another as before
  stays-now : stays (stack_row s flags class parents) class ≡ true
  unfolding stays with_layer_record
  stays-now = go (eqb s.under 0) refl
    where
      go : (t : Bool) → eqb s.under 0 ≡ t → (eqb (stack_row s flags class parents).under 0 || member (stack_row s flags class parents).top.own class) ≡ true
      go true e = ap (λ (x : Stack). eqb x.under 0 || member x.top.own class) (row-lowest s flags class parents (eqb-true s.under 0 e))
      go false e =
          let n = eqb-false s.under 0 e in
          ap (λ (x : Stack). eqb x.under 0 || member x.top.own class) (row-layer s flags class parents n)
          ∙ ap (λ (x : Layered). eqb s.under 0 || member x.own class) (layer-taken s.top flags class parents (sym (refusal-layer s flags class parents n) ∙ z))
          ∙ rw (e, member-insert s.top.own class class (let w = g.own-wide in let k = small in omega arith), eq-eqb class class refl)

  stays-else : (c : ℕ) → (class ≡ c → ⊥) → stays (stack_row s flags class parents) c ≡ stays s c
  unfolding stays with_layer_record
  stays-else c d = go (eqb s.under 0) refl
    where
      go : (t : Bool) → eqb s.under 0 ≡ t → (eqb (stack_row s flags class parents).under 0 || member (stack_row s flags class parents).top.own c) ≡ (eqb s.under 0 || member s.top.own c)
      go true e = ap (λ (x : Stack). eqb x.under 0 || member x.top.own c) (row-lowest s flags class parents (eqb-true s.under 0 e)) ∙ rw e
      go false e =
          let n = eqb-false s.under 0 e in
          ap (λ (x : Stack). eqb x.under 0 || member x.top.own c) (row-layer s flags class parents n)
          ∙ ap (λ (x : Layered). eqb s.under 0 || member x.own c) (layer-taken s.top flags class parents (sym (refusal-layer s flags class parents n) ∙ z))
          ∙ rw (member-insert s.top.own class c (let w = g.own-wide in let k = small in omega arith), ne_eqb c class (λ k. d (sym k)))

-- the rows that are shown record what some row records
pub shown-recorded : (c : ℕ) (rs : List Record) → is_recorded c (shown_rows rs) ≡ has_record c rs
unfolding is_recorded shown_rows has_record
shown-recorded c [] = refl
shown-recorded c (r ∷ rs) = go (opens_layer r) (recorded_above r.class rs) (shown-recorded c rs)
  where
    go : (o h : Bool) → is_recorded c (shown_rows rs) ≡ has_record c rs
        → is_recorded c (cond o (shown_rows rs) (hidden h r ∷ shown_rows rs)) ≡ cond o (has_record c rs) (eqb r.class c || has_record c rs)
    go true h e = e
    go false true e = ap (λ (t : Bool). eqb r.class c || t) e
    go false false e = ap (λ (t : Bool). eqb r.class c || t) e

-- ---- no row

after-none : (s : Stack) → StackAfter s [] s
unfolding shown_rows listed_parents is_recorded last_declared elem has_record recorded_above
after-none s = record {
  numbers = record { names = refl; bytes = refl; object = refl; cloneable = refl; serializable = refl };
  pairs = λ c p h. sym (stay (elem (key c p) s.top.shown.keys) (stays s c));
  recorded = λ c h. refl;
  declared = λ c h. refl;
  interface = λ c h. refl;
  final = λ c h. refl;
  class-in = λ c h. absurd (false≢true h);
  parent-in = λ c p h. absurd (false≢true h);
}
  where
    stay : (e k : Bool) → (e && not (cond k false false)) ≡ e
    stay true true = refl
    stay true false = refl
    stay false k = refl

-- ---- a layer opened

module _ (r : Record) (rs : List Record) (o : opens_layer r ≡ true) where
  pub open-shown : shown_rows (r ∷ rs) ≡ shown_rows rs
  unfolding shown_rows
  open-shown = rw o

  pub open-has : (c : ℕ) → has_record c (r ∷ rs) ≡ has_record c rs
  unfolding has_record
  open-has c = rw o

  pub open-above : (c : ℕ) → recorded_above c (r ∷ rs) ≡ has_record c rs
  unfolding recorded_above
  open-above c = rw o

  -- what was there is below now, and goes by any record
  open-covered : (s : Stack) (c : ℕ) → covered (record { top = opened s.top.shown; under = s.under + 1 }) c rs ≡ covered s c (r ∷ rs)
  unfolding stays
  open-covered s c =
      rw (ne_eqb (s.under + 1) 0 (λ e. omega arith), member-empty 16 c)
      (sym (ap₂ (λ (x y : Bool). cond (eqb s.under 0 || member s.top.own c) x y) (open-above c) (open-has c) ∙ either (eqb s.under 0 || member s.top.own c)))
    where
      either : (t : Bool) → cond t (has_record c rs) (has_record c rs) ≡ has_record c rs
      either true = refl
      either false = refl

  after-open : (s u : Stack) → StackAfter (record { top = opened s.top.shown; under = s.under + 1 }) rs u → StackAfter s (r ∷ rs) u
  after-open s u a =
      subst (λ (rows : List Record). Leaves s rows (λ c. covered s c (r ∷ rs)) u) (sym open-shown) (record {
        numbers = a.numbers;
        pairs = λ c p h. a.pairs c p h ∙ ap (λ (t : Bool). elem p (listed_parents c (shown_rows rs)) || (elem (key c p) s.top.shown.keys && not t)) (open-covered s c);
        recorded = a.recorded;
        declared = a.declared;
        interface = a.interface;
        final = a.final;
        class-in = a.class-in;
        parent-in = a.parent-in;
      })

-- ---- a record taken

module _ (r : Record) (rs : List Record) (o : opens_layer r ≡ false) where
  pub record-shown : shown_rows (r ∷ rs) ≡ hidden (recorded_above r.class rs) r ∷ shown_rows rs
  unfolding shown_rows
  record-shown = rw o

  pub record-has : (c : ℕ) → has_record c (r ∷ rs) ≡ (eqb r.class c || has_record c rs)
  unfolding has_record
  record-has c = rw o

  pub record-above : (c : ℕ) → recorded_above c (r ∷ rs) ≡ recorded_above c rs
  unfolding recorded_above
  record-above c = rw o

  -- what the row lists where it is not hidden
  hidden-parents : (c p : ℕ) (h : Bool) → elem p (listed_parents c (hidden h r ∷ shown_rows rs)) ≡ ((eqb r.class c && (not h && elem p r.parents)) || elem p (listed_parents c (shown_rows rs)))
  unfolding listed_parents elem
  hidden-parents c p true = go (eqb r.class c)
    where
      go : (t : Bool) → elem p (cond t (listed_parents c (shown_rows rs)) (listed_parents c (shown_rows rs))) ≡ ((t && false) || elem p (listed_parents c (shown_rows rs)))
      go true = refl
      go false = refl
  hidden-parents c p false = go (eqb r.class c)
    where
      go : (t : Bool) → elem p (cond t (r.parents ++ listed_parents c (shown_rows rs)) (listed_parents c (shown_rows rs))) ≡ ((t && elem p r.parents) || elem p (listed_parents c (shown_rows rs)))
      go true = elem-append p r.parents (listed_parents c (shown_rows rs))
      go false = refl

  pub hidden-recorded : (c : ℕ) (h : Bool) → is_recorded c (hidden h r ∷ shown_rows rs) ≡ (eqb r.class c || is_recorded c (shown_rows rs))
  unfolding is_recorded
  hidden-recorded c true = refl
  hidden-recorded c false = refl

  pub hidden-declared : (c : ℕ) (h : Bool) → last_declared c (hidden h r ∷ shown_rows rs) ≡ later (last_declared c (shown_rows rs)) (declares c r.flags r.class)
  unfolding last_declared
  hidden-declared c true = refl
  hidden-declared c false = refl

-- the keys of a class beside a record of it, and beside one of another class
module _ (s : Stack) (c p : ℕ) (h : p < 1024) where
  beside-own : elem (key c p) (keys_beside s c) ≡ (stays s c && elem (key c p) s.top.shown.keys)
  beside-own = go (stays s c)
    where
      go : (t : Bool) → elem (key c p) (cond t s.top.shown.keys (keys_without c s.top.shown.keys)) ≡ (t && elem (key c p) s.top.shown.keys)
      go true = refl
      go false = elem-without (key c p) c s.top.shown.keys ∙ rw (eq-eqb (key c p / names_room) c (omega arith))

  beside-other : (d : ℕ) → (d ≡ c → ⊥) → elem (key c p) (keys_beside s d) ≡ elem (key c p) s.top.shown.keys
  beside-other d n = go (stays s d)
    where
      go : (t : Bool) → elem (key c p) (cond t s.top.shown.keys (keys_without d s.top.shown.keys)) ≡ elem (key c p) s.top.shown.keys
      go true = refl
      go false = elem-without (key c p) d s.top.shown.keys ∙ rw (ne_eqb (key c p / names_room) d (λ e. n (omega arith)))

own-pairs : (l p st e a : Bool) → (l || ((p || (st && e)) && not a)) ≡ (((not a && p) || l) || (e && not (cond st a true)))
own-pairs true true true true true = refl
own-pairs true true true true false = refl
own-pairs true true true false true = refl
own-pairs true true true false false = refl
own-pairs true true false true true = refl
own-pairs true true false true false = refl
own-pairs true true false false true = refl
own-pairs true true false false false = refl
own-pairs true false true true true = refl
own-pairs true false true true false = refl
own-pairs true false true false true = refl
own-pairs true false true false false = refl
own-pairs true false false true true = refl
own-pairs true false false true false = refl
own-pairs true false false false true = refl
own-pairs true false false false false = refl
own-pairs false true true true true = refl
own-pairs false true true true false = refl
own-pairs false true true false true = refl
own-pairs false true true false false = refl
own-pairs false true false true true = refl
own-pairs false true false true false = refl
own-pairs false true false false true = refl
own-pairs false true false false false = refl
own-pairs false false true true true = refl
own-pairs false false true true false = refl
own-pairs false false true false true = refl
own-pairs false false true false false = refl
own-pairs false false false true true = refl
own-pairs false false false true false = refl
own-pairs false false false false true = refl
own-pairs false false false false false = refl

module _ (s : Stack) (g : Upright s) (flags class : ℕ) (parents : List ℕ) (z : stack_refusal s flags class parents ≡ 0) (rs : List Record) (u : Stack)
    (n : eqb flags open_flags ≡ false) (a : StackAfter (stack_row s flags class parents) rs u) where
  row : Record
  row = record { flags = flags; class = class; parents = parents }

  shown-is : (stack_row s flags class parents).top.shown ≡ with_record (record { tables = s.top.shown.tables; keys = keys_beside s class; marks = s.top.shown.marks }) flags class parents
  unfolding beside
  shown-is = taken-shown s g flags class parents z

  keys-are : (stack_row s flags class parents).top.shown.keys ≡ put_all class parents (keys_beside s class)
  unfolding with_record
  keys-are = ap (λ (x : State). x.keys) shown-is

  marks-are : (stack_row s flags class parents).top.shown.marks ≡ record_marks flags class s.top.shown.marks
  unfolding with_record
  marks-are = ap (λ (x : State). x.marks) shown-is

  names-are : (stack_row s flags class parents).top.shown.tables.names ≡ s.top.shown.tables.names
  unfolding with_record
  names-are = ap (λ (x : State). x.tables.names) shown-is

  is-good : GoodRecord s.top.shown.tables.names (top_keys s) flags class parents
  is-good = good s g flags class parents z

  is-small : class < 1024
  is-small = small s g flags class parents z

  -- of the keys after the record
  key-now : (c p : ℕ) → p < 1024 → elem (key c p) (stack_row s flags class parents).top.shown.keys ≡ ((eqb class c && elem p parents) || elem (key c p) (keys_beside s class))
  key-now c p h =
      ap (elem (key c p)) keys-are ∙ all-has class (key c p) parents (keys_beside s class)
      ∙ ap (λ (t : Bool). t || elem (key c p) (keys_beside s class)) (keys-of class c p parents h (λ i k. let x = is-good.parents-in i k in let y = g.few in omega arith))

  pairs-step : (c p : ℕ) → p < 1024
      → (elem p (listed_parents c (shown_rows rs)) || (elem (key c p) (stack_row s flags class parents).top.shown.keys && not (covered (stack_row s flags class parents) c rs)))
      ≡ (elem p (listed_parents c (hidden (recorded_above class rs) row ∷ shown_rows rs)) || (elem (key c p) s.top.shown.keys && not (covered s c (row ∷ rs))))
  unfolding row
  pairs-step c p h = go (ℕ_discrete class c)
    where
      listed : elem p (listed_parents c (hidden (recorded_above class rs) row ∷ shown_rows rs)) ≡ ((eqb class c && (not (recorded_above class rs) && elem p parents)) || elem p (listed_parents c (shown_rows rs)))
      listed = hidden-parents row rs n c p (recorded_above class rs)

      go : Dec (class ≡ c)
          → (elem p (listed_parents c (shown_rows rs)) || (elem (key c p) (stack_row s flags class parents).top.shown.keys && not (covered (stack_row s flags class parents) c rs)))
          ≡ (elem p (listed_parents c (hidden (recorded_above class rs) row ∷ shown_rows rs)) || (elem (key c p) s.top.shown.keys && not (covered s c (row ∷ rs))))
      go (yes e) =
          let lp = elem p (listed_parents c (shown_rows rs)) in
          let now : elem (key c p) (stack_row s flags class parents).top.shown.keys ≡ (elem p parents || (stays s c && elem (key c p) s.top.shown.keys)) =
          key-now c p h ∙ ap₂ (λ (x y : Bool). (x && elem p parents) || y) (eq-eqb class c e) (ap (λ (d : ℕ). elem (key c p) (keys_beside s d)) e ∙ beside-own s c p h) in
          let cov : covered (stack_row s flags class parents) c rs ≡ recorded_above c rs =
          ap (λ (t : Bool). cond t (recorded_above c rs) (has_record c rs)) (subst (λ (d : ℕ). stays (stack_row s flags class parents) d ≡ true) e (stays-now s g flags class parents z)) in
          let right : covered s c (row ∷ rs) ≡ cond (stays s c) (recorded_above c rs) true =
          ap₂ (λ (x y : Bool). cond (stays s c) x y) (record-above row rs n c) (record-has row rs n c ∙ ap (λ (t : Bool). t || has_record c rs) (eq-eqb class c e)) in
          ap₂ (λ (x y : Bool). lp || (x && not y)) now cov
          ∙ own-pairs lp (elem p parents) (stays s c) (elem (key c p) s.top.shown.keys) (recorded_above c rs)
          ∙ sym (ap₂ (λ (x y : Bool). x || (elem (key c p) s.top.shown.keys && not y)) (listed ∙ ap₂ (λ (x y : Bool). (x && (not y && elem p parents)) || lp) (eq-eqb class c e) (ap (λ (d : ℕ). recorded_above d rs) e)) right)
      go (no d) =
          let lp = elem p (listed_parents c (shown_rows rs)) in
          let now : elem (key c p) (stack_row s flags class parents).top.shown.keys ≡ elem (key c p) s.top.shown.keys =
          key-now c p h ∙ ap₂ (λ (x y : Bool). (x && elem p parents) || y) (ne_eqb class c d) (beside-other s c p h class d) in
          let cov : covered (stack_row s flags class parents) c rs ≡ covered s c rs = ap (λ (t : Bool). cond t (recorded_above c rs) (has_record c rs)) (stays-else s g flags class parents z c d) in
          let right : covered s c (row ∷ rs) ≡ covered s c rs =
          ap₂ (λ (x y : Bool). cond (stays s c) x y) (record-above row rs n c) (record-has row rs n c ∙ ap (λ (t : Bool). t || has_record c rs) (ne_eqb class c d)) in
          ap₂ (λ (x y : Bool). lp || (x && not y)) now cov
          ∙ sym (ap₂ (λ (x y : Bool). x || (elem (key c p) s.top.shown.keys && not y)) (listed ∙ ap (λ (x : Bool). (x && (not (recorded_above class rs) && elem p parents)) || lp) (ne_eqb class c d)) right)

  marked-step : (k : ℕ) (f : ℕ → Bool) → 1 ≤ k → (c : ℕ) → c < 1024 → (flags % 2 ≡ 1 → is_marked k class (record_marks flags class s.top.shown.marks) ≡ f flags)
      → is_marked k c u.top.shown.marks ≡ fact_from f (last_declared c (shown_rows rs)) (is_marked k c (stack_row s flags class parents).top.shown.marks)
      → is_marked k c u.top.shown.marks ≡ fact_from f (last_declared c (hidden (recorded_above class rs) row ∷ shown_rows rs)) (is_marked k c s.top.shown.marks)
  unfolding row
  marked-step k f b c h law e =
      e ∙ ap (λ (m : List ℕ). fact_from f (last_declared c (shown_rows rs)) (is_marked k c m)) marks-are
      ∙ ap (fact_from f (last_declared c (shown_rows rs))) (fact-step flags class s.top.shown.marks is-small g.wide c h k f b law)
      ∙ fact-later f (last_declared c (shown_rows rs)) (declares c flags class) (is_marked k c s.top.shown.marks)
      ∙ ap (λ (o : Option ℕ). fact_from f o (is_marked k c s.top.shown.marks)) (sym (hidden-declared row rs n c (recorded_above class rs)))

  after-record : StackAfter s (row ∷ rs) u
  unfolding row with_record
  after-record =
      subst (λ (rows : List Record). Leaves s rows (λ c. covered s c (row ∷ rs)) u) (sym (record-shown row rs n)) (record {
        numbers = record {
          names = a.numbers.names ∙ ap (λ (x : State). x.tables.names) shown-is;
          bytes = a.numbers.bytes ∙ ap (λ (x : State). x.tables.bytes) shown-is;
          object = a.numbers.object ∙ ap (λ (x : State). x.tables.object) shown-is;
          cloneable = a.numbers.cloneable ∙ ap (λ (x : State). x.tables.cloneable) shown-is;
          serializable = a.numbers.serializable ∙ ap (λ (x : State). x.tables.serializable) shown-is;
        };
        pairs = λ c p h. a.pairs c p h ∙ pairs-step c p h;
        recorded = λ c h.
            a.recorded c h ∙ ap (λ (m : List ℕ). is_recorded c (shown_rows rs) || is_marked 0 c m) marks-are
            ∙ ap (λ (t : Bool). is_recorded c (shown_rows rs) || t) (recorded-step flags class s.top.shown.marks is-small g.wide c h)
            ∙ or-assoc (is_recorded c (shown_rows rs)) (eqb class c) (is_marked 0 c s.top.shown.marks)
            ∙ ap (λ (t : Bool). t || is_marked 0 c s.top.shown.marks) (sym (hidden-recorded row rs n c (recorded_above class rs)));
        declared = λ c h. marked-step 1 any_flags (omega arith) c h (λ d. (declared-gives flags class s.top.shown.marks is-small g.wide d).0) (a.declared c h);
        interface = λ c h. marked-step 2 interface_flag (omega arith) c h (λ d. (declared-gives flags class s.top.shown.marks is-small g.wide d).1) (a.interface c h);
        final = λ c h. marked-step 3 final_flag (omega arith) c h (λ d. (declared-gives flags class s.top.shown.marks is-small g.wide d).2) (a.final c h);
        class-in = λ c h. class-go c (eqb class c) refl (sym (hidden-recorded row rs n c (recorded_above class rs)) ∙ h);
        parent-in = λ c p h. parent-go c p (eqb class c) refl (recorded_above class rs) (elem p parents) refl (sym (hidden-parents row rs n c p (recorded_above class rs)) ∙ h);
      })
    where
      class-go : (c : ℕ) (t : Bool) → eqb class c ≡ t → (t || is_recorded c (shown_rows rs)) ≡ true → c < s.top.shown.tables.names
      class-go c true e h = let x = eqb-true class c e in let y = is-good.class-in in omega arith
      class-go c false e h = let x = a.class-in c h in let y = names-are in omega arith

      parent-go : (c p : ℕ) (t : Bool) → eqb class c ≡ t → (k b : Bool) → elem p parents ≡ b → ((t && (not k && b)) || elem p (listed_parents c (shown_rows rs))) ≡ true
          → (c < s.top.shown.tables.names) × (p < s.top.shown.tables.names)
      parent-go c p true e false true m h = (let x = eqb-true class c e in let y = is-good.class-in in omega arith, elem-below s.top.shown.tables.names p parents is-good.parents-in m)
      parent-go c p true e true b m h = let x = a.parent-in c p h in let y = names-are in (omega arith, omega arith)
      parent-go c p true e false false m h = let x = a.parent-in c p h in let y = names-are in (omega arith, omega arith)
      parent-go c p false e k b m h = let x = a.parent-in c p h in let y = names-are in (omega arith, omega arith)

-- ---- all rows

-- a row that is taken opens a layer, or is a record that is not refused
module _ (parents : List ℕ) (f c a l : ℕ) (s : Stack) (z : (placed_row parents f c a l s).refusal ≡ 0) where
  pub taken-inside : inside (length parents) a l ≡ true
  taken-inside = go (inside (length parents) a l) refl
    where
      go : (b : Bool) → inside (length parents) a l ≡ b → b ≡ true
      go true e = refl
      go false e = absurd (let k = sym (ap (λ (x : StackRan). x.refusal) (row-outside parents f c a l s e)) ∙ z in omega arith)

  module _ (e : eqb f open_flags ≡ true) where
    opening : placed_row parents f c a l s ≡ opening_row c l s
    opening = row-opens parents f c a l s taken-inside (eqb-true f open_flags e)

    -- it is of class 0 and lists no parent
    pub opened-plain : (c ≡ 0) × (l ≡ 0)
    opened-plain = go (ℕ_discrete c 0) (ℕ_discrete l 0)
      where
        told : (opening_row c l s).refusal ≡ 0
        told = sym (ap (λ (x : StackRan). x.refusal) opening) ∙ z

        go : Dec (c ≡ 0) → Dec (l ≡ 0) → (c ≡ 0) × (l ≡ 0)
        go (yes p) (yes q) = (p, q)
        go (yes p) (no q) = absurd (let k = sym (ap (λ (x : StackRan). x.refusal) (opening-listed c l s p q)) ∙ told in omega arith)
        go (no p) q = absurd (let k = sym (ap (λ (x : StackRan). x.refusal) (opening-classed c l s p)) ∙ told in omega arith)

    pub opened-taken : (s.under < 3) × ((placed_row parents f c a l s).state ≡ record { top = opened s.top.shown; under = s.under + 1 })
    unfolding open_refusal open_row
    opened-taken = go (ℕ_discrete c 0) (ℕ_discrete l 0)
      where
        told : (opening_row c l s).refusal ≡ 0
        told = sym (ap (λ (x : StackRan). x.refusal) opening) ∙ z

        next : (b : Bool) → leb 3 s.under ≡ b → cond {A = ℕ} b 8 0 ≡ 0
            → (s.under < 3) × (cond b s (record { top = opened s.top.shown; under = s.under + 1 }) ≡ record { top = opened s.top.shown; under = s.under + 1 })
        next true q k = absurd (omega arith)
        next false q k = (leb-false 3 s.under q, refl)

        go : Dec (c ≡ 0) → Dec (l ≡ 0) → (s.under < 3) × ((placed_row parents f c a l s).state ≡ record { top = opened s.top.shown; under = s.under + 1 })
        go (yes p) (yes q) =
            let is = opening-good c l s p q in
            let w = next (leb 3 s.under) refl (sym (ap (λ (x : StackRan). x.refusal) is) ∙ told) in
            (w.0, ap (λ (x : StackRan). x.state) (opening ∙ is) ∙ w.1)
        go (yes p) (no q) = absurd (let k = sym (ap (λ (x : StackRan). x.refusal) (opening-listed c l s p q)) ∙ told in omega arith)
        go (no p) q = absurd (let k = sym (ap (λ (x : StackRan). x.refusal) (opening-classed c l s p)) ∙ told in omega arith)

  module _ (e : eqb f open_flags ≡ false) where
    pub recording : (stack_refusal s f c (take l (drop a parents)) ≡ 0) × ((placed_row parents f c a l s).state ≡ stack_row s f c (take l (drop a parents)))
    recording =
        let is = row-records parents f c a l s taken-inside (eqb-false f open_flags e) in
        (sym (ap (λ (x : StackRan). x.refusal) is) ∙ z, ap (λ (x : StackRan). x.state) is)

  -- the stack stays upright
  pub taken-upright : Upright s → Upright (placed_row parents f c a l s).state
  unfolding open_row
  taken-upright g = go (eqb f open_flags) refl
    where
      go : (b : Bool) → eqb f open_flags ≡ b → Upright (placed_row parents f c a l s).state
      go true e = let w = opened-taken e in subst Upright (sym w.1) (rw (lt-leb 3 s.under w.0) at (upright-open s g))
      go false e = subst Upright (sym (recording e).1) (upright-row s f c (take l (drop a parents)) g)

  -- and comes to what the rows say, if the rest does
  taken-after : Upright s → (rs : List Record) (u : Stack) → StackAfter (placed_row parents f c a l s).state rs u
      → StackAfter s (record { flags = f; class = c; parents = take l (drop a parents) } ∷ rs) u
  unfolding row
  taken-after g rs u after = go (eqb f open_flags) refl
    where
      r : Record
      r = record { flags = f; class = c; parents = take l (drop a parents) }

      go : (b : Bool) → eqb f open_flags ≡ b → StackAfter s (r ∷ rs) u
      go true e = after-open r rs e s u (subst (λ (x : Stack). StackAfter x rs u) (opened-taken e).1 after)
      go false e = after-record s g f c (take l (drop a parents)) (recording e).0 rs u e (subst (λ (x : Stack). StackAfter x rs u) (recording e).1 after)

stack-after : (parents fs cs ats ls : List ℕ) (s : Stack) → Upright s → (stack_rows parents fs cs ats ls s).refusal ≡ 0
    → StackAfter s (records_of parents fs cs ats ls) (stack_rows parents fs cs ats ls s).state
unfolding stack_rows records_of
stack-after parents [] cs ats ls s g z = after-none s
stack-after parents (f ∷ fs) [] ats ls s g z = after-none s
stack-after parents (f ∷ fs) (c ∷ cs) [] ls s g z = after-none s
stack-after parents (f ∷ fs) (c ∷ cs) (a ∷ ats) [] s g z = after-none s
stack-after parents (f ∷ fs) (c ∷ cs) (a ∷ ats) (l ∷ ls) s g z = go (eqb one.refusal 0) refl z (stack-after parents fs cs ats ls one.state)
  where
    one : StackRan
    one = placed_row parents f c a l s

    rest : StackRan
    rest = stack_rows parents fs cs ats ls one.state

    go : (b : Bool) → eqb one.refusal 0 ≡ b → (cond b rest one).refusal ≡ 0
        → (Upright one.state → rest.refusal ≡ 0 → StackAfter one.state (records_of parents fs cs ats ls) rest.state)
        → StackAfter s (record { flags = f; class = c; parents = take l (drop a parents) } ∷ records_of parents fs cs ats ls) (cond b rest one).state
    go true e q ih =
        let t = eqb-true one.refusal 0 e in
        taken-after parents f c a l s t g (records_of parents fs cs ats ls) rest.state (ih (taken-upright parents f c a l s t g) q)
    go false e q ih = absurd (eqb-false one.refusal 0 e q)

-- WHAT ROWS THAT ARE TAKEN LEAVE of a table without pairs: what the rows that its layers show would leave as one plain table
pub rows-after : (parents fs cs ats ls : List ℕ) (s : State) → Sound s → s.keys ≡ [] → (stack_rows parents fs cs ats ls (ground s)).refusal ≡ 0
    → After s (shown_rows (records_of parents fs cs ats ls)) (stack_rows parents fs cs ats ls (ground s)).state.top.shown
unfolding elem
rows-after parents fs cs ats ls s g e z =
    let a = stack-after parents fs cs ats ls (ground s) (upright-ground s g) z in
    record {
      numbers = a.numbers;
      pairs = λ c p h.
          a.pairs c p h
          ∙ ap (λ (k : List ℕ). elem p (listed_parents c (shown_rows (records_of parents fs cs ats ls))) || (elem (key c p) k && not (covered (ground s) c (records_of parents fs cs ats ls)))) e
          ∙ ap (λ (k : List ℕ). elem p (listed_parents c (shown_rows (records_of parents fs cs ats ls))) || elem (key c p) k) (sym e);
      recorded = a.recorded;
      declared = a.declared;
      interface = a.interface;
      final = a.final;
      class-in = a.class-in;
      parent-in = a.parent-in;
    }

-- and the tables stay upright
pub rows-upright : (parents fs cs ats ls : List ℕ) (s : Stack) → Upright s → (stack_rows parents fs cs ats ls s).refusal ≡ 0 → Upright (stack_rows parents fs cs ats ls s).state
unfolding stack_rows
rows-upright parents [] cs ats ls s g z = g
rows-upright parents (f ∷ fs) [] ats ls s g z = g
rows-upright parents (f ∷ fs) (c ∷ cs) [] ls s g z = g
rows-upright parents (f ∷ fs) (c ∷ cs) (a ∷ ats) [] s g z = g
rows-upright parents (f ∷ fs) (c ∷ cs) (a ∷ ats) (l ∷ ls) s g z = go (eqb one.refusal 0) refl z (rows-upright parents fs cs ats ls one.state)
  where
    one : StackRan
    one = placed_row parents f c a l s

    rest : StackRan
    rest = stack_rows parents fs cs ats ls one.state

    go : (b : Bool) → eqb one.refusal 0 ≡ b → (cond b rest one).refusal ≡ 0 → (Upright one.state → rest.refusal ≡ 0 → Upright rest.state) → Upright (cond b rest one).state
    go true e q ih = ih (taken-upright parents f c a l s (eqb-true one.refusal 0 e) g) q
    go false e q ih = absurd (eqb-false one.refusal 0 e q)
