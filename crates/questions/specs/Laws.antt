-- Laws of the questions over slices, as the code meets them: what the checks say, that the slices hold what the rows say, and what an answer
-- is.
use Rattle.std.specs.Prelude.{◌≡◌, Bool, not, ◌&&◌, ℕ, ◌-◌, ◌^◌, ◌≤◌, ◌<◌, ltb, length, replicate}
use Rattle.std.proofs.Math.Path.{refl, sym, ap, ap₂}
use Rattle.std.proofs.Common.{◌∙◌, subst, arith}
use Rattle.std.proofs.Math.Bool.{true, false, cond}
use Rattle.std.proofs.lemmas.Bool.{false≢true}
use mathlib.Core.List.{List, [], ◌∷◌}
use Rattle.std.proofs.Math.Dec.{eqb}
use borrow.Author.Tests.{eq-eqb, ne_eqb, lt-ltb, le-ltb, eqb-true, eqb-false, ltb-true}
use Rattle.order.specs.Truth.{both}
use Rattle.checks.specs.Checks.{check, first_refusal, first-hit, first-miss}
use Rattle.ty.specs.Words.{legal_word, type_of, word_of, Legal, all_legal}
use Rattle.ty.specs.Round.{legal-more}
use Rattle.view.specs.declared.Relation as declared
use Rattle.view.specs.View.{View, relation, relation_number, distance, number_of, ancestors, supertype, cast}
use Rattle.tables.specs.declared.Tables.{Tables}
use Rattle.tables.specs.Table.{marks_room, view_of}
use Rattle.lattice.specs.Lattice.{World, join, is_assignable}
use Rattle.lattice.specs.World.{world_of}
use Rattle.rows.specs.declared.Outcome.{Outcome}
use Rattle.rows.specs.Rows.{no_tables, all_below, State, state_of}
use Rattle.columns.specs.Columns.{name_rows}
use Rattle.columns.specs.Given.{Given, even_lengths, even, no_marks}
use Rattle.layers.specs.Layers.{layers_room}
use Rattle.layers.specs.Stacks.{StackRan}
use Rattle.layercolumns.specs.LayerColumns.{stack_table, RoomFor, Shows}
use Rattle.tableview.specs.TableRows.{rows_view, rows_world}
use Rattle.stackview.specs.LayerRows.{shown_in}
use Rattle.stackview.specs.LayerRefusals.{stack_refusal_of}
use Rattle.stackview.specs.Agrees.{stack_in}
use Rattle.stackview.proofs.Agrees.{stack-view}
use Rattle.stackview.specs.Shown.{checked_stack}
use Rattle.stackview.proofs.Shown.{checked-even, checked-uneven, stack-refused, shows-view, shows-world, shows-wide, shows-few, shows-object}
use Rattle.questions.specs.declared.Question.{Question}
use Rattle.questions.specs.declared.Question.TheVariants.{Relation, Distance, Supertype, Cast, Join, Assignable}
use Rattle.questions.specs.declared.Answer.{Answer}
use Rattle.questions.specs.declared.Ancestors.{Ancestors}
use Rattle.questions.specs.Questions.{of_types, good_numbers, table_checks, refusal_of, value_of, answered, gathered, answer_of, ancestors_of, work_after, Asked, Gathers}
use Rattle.questions.specs.Inside.{ran_checks, table_answer, table_ancestors, no_ancestors, Ready, Opens, NoRows, Single, Askable, TellsOver, Tells}

-- ---- the table: what the rows leave; of unequal columns no entry is made

module _ (g : Given) (pairs marks pairs' marks' : List ℕ) (m : marks ≡ no_marks) (r : Outcome) where
  pub even-shows : even_lengths (length g.name_at) (length g.name_len) (length g.rec_flags) (length g.rec_class) (length g.rec_at) (length g.rec_len) ≡ true
      → Shows (stack_table (name_rows g.names g.name_at g.name_len [] no_tables) g.parents g.rec_flags g.rec_class g.rec_at g.rec_len marks) pairs' marks' r
      → Shows (checked_stack g) pairs' marks' r
  unfolding stack_in even
  even-shows e f = rw (checked-even g e, ← m) f

  pub uneven-shows : even_lengths (length g.name_at) (length g.name_len) (length g.rec_flags) (length g.rec_class) (length g.rec_at) (length g.rec_len) ≡ false
      → r ≡ record { refusal = 3; tables = no_tables } → Shows (checked_stack g) pairs marks r
  unfolding even no_tables
  uneven-shows e o =
      rw (checked-uneven g e)
      (record {
        refusal-is = ap (λ (u : Outcome). u.refusal) o;
        shown-is = ap (λ (u : Outcome). state_of pairs marks u.tables) o ∙ ap (λ (l : List ℕ). record { tables = no_tables; keys = []; marks = l }) m;
      })

-- ---- two numbers

and-true : (b : Bool) → (b && true) ≡ b
and-true true = refl
and-true false = refl

module _ (names a b : ℕ) where
  pub types-right : legal_word names a ≡ true → legal_word names b ≡ all_legal names (a ∷ b ∷ [])
  unfolding all_legal
  types-right h = sym (ap (λ (t : Bool). t && (legal_word names b && true)) h ∙ and-true (legal_word names b))

  pub types-left : legal_word names a ≡ false → false ≡ all_legal names (a ∷ b ∷ [])
  unfolding all_legal
  types-left h = sym (ap (λ (t : Bool). t && (legal_word names b && true)) h)

  pub classes-right : a < names → ltb b names ≡ all_below names (a ∷ b ∷ [])
  unfolding all_below
  classes-right h = sym (ap (λ (t : Bool). t && (ltb b names && true)) (lt-ltb a names h) ∙ and-true (ltb b names))

  pub classes-left : names ≤ a → false ≡ all_below names (a ∷ b ∷ [])
  unfolding all_below
  classes-left h = sym (ap (λ (t : Bool). t && (ltb b names && true)) (le-ltb a names h))

  pub good-types : (types : Bool) → types ≡ true → all_legal names (a ∷ b ∷ []) ≡ good_numbers types names (a ∷ b ∷ [])
  unfolding good_numbers
  good-types types e = rw e

  pub good-classes : (types : Bool) → types ≡ false → all_below names (a ∷ b ∷ []) ≡ good_numbers types names (a ∷ b ∷ [])
  unfolding good_numbers
  good-classes types e = rw e

  -- WHAT GOOD NUMBERS ARE
  pub are-classes : (types : Bool) → types ≡ false → good_numbers types names (a ∷ b ∷ []) ≡ true → (a < names) × (b < names)
  unfolding all_below
  are-classes types e h =
      let p = both (ltb a names) (ltb b names && true) (good-classes types e ∙ h) in
      (ltb-true a names p.0, ltb-true b names (both (ltb b names) true p.1).0)

  pub are-types : (types : Bool) → types ≡ true → good_numbers types names (a ∷ b ∷ []) ≡ true → (legal_word names a ≡ true) × (legal_word names b ≡ true)
  unfolding all_legal
  are-types types e h =
      let p = both (legal_word names a) (legal_word names b && true) (good-types types e ∙ h) in
      (p.0, (both (legal_word names b) true p.1).0)

-- ---- the checks

module _ (refusal : ℕ) (t : Tables) (types : Bool) (numbers : List ℕ) where
  pub ran-refused : (refusal ≡ 0 → ⊥) → refusal ≡ first_refusal (ran_checks refusal t types numbers)
  unfolding ran_checks first_refusal
  ran-refused n = rw (ne_eqb refusal 0 n)

  module _ (z : refusal ≡ 0) where
    pub ran-word : good_numbers types t.names numbers ≡ false → types ≡ true → 7 ≡ first_refusal (ran_checks refusal t types numbers)
    unfolding ran_checks first_refusal
    ran-word h e = rw (z, h, e)

    pub ran-class : good_numbers types t.names numbers ≡ false → types ≡ false → 6 ≡ first_refusal (ran_checks refusal t types numbers)
    unfolding ran_checks first_refusal
    ran-class h e = rw (z, h, e)

    module _ (h : good_numbers types t.names numbers ≡ true) where
      pub ran-object : t.object ≡ 2 ^ 64 - 1 → 9 ≡ first_refusal (ran_checks refusal t types numbers)
      unfolding ran_checks first_refusal
      ran-object e = rw (z, h, eq-eqb t.object (2 ^ 64 - 1) e)

      pub ran-none : (t.object ≡ 2 ^ 64 - 1 → ⊥) → 0 ≡ first_refusal (ran_checks refusal t types numbers)
      unfolding ran_checks first_refusal
      ran-none n = rw (z, h, ne_eqb t.object (2 ^ 64 - 1) n)

  -- what nothing refused says
  pub record Passed : Type 0 where
    pub taken : refusal ≡ 0
    pub numbers-in : good_numbers types t.names numbers ≡ true
    pub object-there : t.object ≡ 2 ^ 64 - 1 → ⊥

  pub passed : first_refusal (ran_checks refusal t types numbers) ≡ 0 → Passed
  unfolding ran_checks first_refusal
  passed h = go (eqb refusal 0) refl (good_numbers types t.names numbers) refl (eqb t.object (2 ^ 64 - 1)) refl types h
    where
      go : (w : Bool) → eqb refusal 0 ≡ w → (x : Bool) → good_numbers types t.names numbers ≡ x → (v : Bool) → eqb t.object (2 ^ 64 - 1) ≡ v
          → (k : Bool) → cond (not w) refusal (cond (not x) (cond k 7 6) (cond v 9 0)) ≡ 0 → Passed
      go false d x e v i k q = absurd (eqb-false refusal 0 d q)
      go true d false e v i true q = absurd (omega arith)
      go true d false e v i false q = absurd (omega arith)
      go true d true e true i k q = absurd (omega arith)
      go true d true e false i k q =
          record { taken = eqb-true refusal 0 d; numbers-in = e; object-there = eqb-false t.object (2 ^ 64 - 1) i }

-- one class is checked as twice the same
pub once : (names x : ℕ) → good_numbers false names (x ∷ x ∷ []) ≡ good_numbers false names (x ∷ [])
unfolding good_numbers all_below
once names x = go (ltb x names)
  where
    go : (b : Bool) → (b && (b && true)) ≡ (b && true)
    go true = refl
    go false = refl

pub checks-once : (g : Given) (x : ℕ) → first_refusal (table_checks g false (x ∷ x ∷ [])) ≡ first_refusal (table_checks g false (x ∷ []))
unfolding table_checks
checks-once g x = rw (once (rows_view (shown_in g)).names x)

-- ---- the table in the words of the rows that its layers show

module _ (g : Given) (e : even g ≡ true) (z : (stack_in g).refusal ≡ 0) where
  names-rows : (stack_in g).state.top.shown.tables.names ≡ (rows_view (shown_in g)).names
  names-rows = ap (λ (v : View). v.names) (stack-view g e z)

  object-rows : (stack_in g).state.top.shown.tables.object ≡ (rows_view (shown_in g)).object
  object-rows = ap (λ (v : View). v.object) (stack-view g e z)

-- THE CHECKS AFTER THE ROWS, with the test of the columns among them and in the words of the rows
pub checks-ran : (g : Given) (types : Bool) (numbers : List ℕ)
    → first_refusal (ran_checks (checked_stack g).refusal (checked_stack g).state.top.shown.tables types numbers) ≡ first_refusal (table_checks g types numbers)
unfolding table_checks ran_checks first_refusal
checks-ran g types numbers = go (even g) refl (eqb (stack_refusal_of g) 0) refl
  where
    go : (b : Bool) → even g ≡ b → (c : Bool) → eqb (stack_refusal_of g) 0 ≡ c
        → first_refusal (ran_checks (checked_stack g).refusal (checked_stack g).state.top.shown.tables types numbers) ≡ first_refusal (table_checks g types numbers)
    go false e c d = rw (checked-uneven g e, e)
    go true e false d = rw (checked-even g e, e, stack-refused g, d)
    go true e true d =
        let z = stack-refused g ∙ eqb-true (stack_refusal_of g) 0 d in
        rw (checked-even g e, e, stack-refused g, d, names-rows g e z, object-rows g e z)

-- A BUILT TABLE that is not refused: even columns, rows that are taken, and slices that hold what these say
pub record Stands (g : Given) (pairs marks : List ℕ) (t : Tables) : Type 0 where
  pub even-is : even g ≡ true
  pub rows-taken : stack_refusal_of g ≡ 0
  pub view-is : view_of pairs marks t ≡ rows_view (shown_in g)
  pub world-is : world_of pairs marks t ≡ rows_world (shown_in g)
  pub wide : length marks ≡ marks_room
  pub few : t.names ≤ 1024
  pub object-in : (t.object ≡ 2 ^ 64 - 1 → ⊥) → t.object < t.names

module _ (g : Given) (pairs' marks' : List ℕ) (o : Outcome) (f : Shows (checked_stack g) pairs' marks' o) where
  is-even : o.refusal ≡ 0 → even g ≡ true
  is-even z = go (even g) refl
    where
      go : (t : Bool) → even g ≡ t → t ≡ true
      go true q = refl
      go false q = absurd (let w = sym (ap (λ (u : StackRan). u.refusal) (checked-uneven g q)) ∙ sym f.refusal-is ∙ z in omega arith)

  pub stands : o.refusal ≡ 0 → Stands g pairs' marks' o.tables
  stands z =
      let ev = is-even z in
      let t : Shows (stack_in g) pairs' marks' o = subst (λ (u : StackRan). Shows u pairs' marks' o) (checked-even g ev) f in
      let taken : (stack_in g).refusal ≡ 0 = sym t.refusal-is ∙ z in
      record {
        even-is = ev;
        rows-taken = sym (stack-refused g) ∙ taken;
        view-is = shows-view g ev taken pairs' marks' o t;
        world-is = shows-world g ev taken pairs' marks' o t;
        wide = shows-wide g ev taken pairs' marks' o t;
        few = shows-few g ev taken pairs' marks' o t;
        object-in = shows-object g ev taken pairs' marks' o t;
      }

  -- its refusal: of the columns, then of the rows
  pub built-refusal : o.refusal ≡ first_refusal (check (not (even g)) 3 ∷ check (not (eqb (stack_refusal_of g) 0)) (stack_refusal_of g) ∷ [])
  unfolding first_refusal
  built-refusal = go (even g) refl (eqb (stack_refusal_of g) 0) refl
    where
      go : (b : Bool) → even g ≡ b → (c : Bool) → eqb (stack_refusal_of g) 0 ≡ c → o.refusal ≡ cond (not b) 3 (cond (not c) (stack_refusal_of g) 0)
      go false e c d = f.refusal-is ∙ ap (λ (u : StackRan). u.refusal) (checked-uneven g e)
      go true e false d = f.refusal-is ∙ ap (λ (u : StackRan). u.refusal) (checked-even g e) ∙ stack-refused g
      go true e true d = f.refusal-is ∙ ap (λ (u : StackRan). u.refusal) (checked-even g e) ∙ stack-refused g ∙ eqb-true (stack_refusal_of g) 0 d

  shown-tables : o.tables ≡ (checked_stack g).state.top.shown.tables
  shown-tables = ap (λ (s : State). s.tables) f.shown-is

-- AN OPENED TABLE IS READY where nothing is refused
module _ (g : Given) (types : Bool) (a b : ℕ) (pairs' marks' : List ℕ) (o : Outcome) (f : Shows (checked_stack g) pairs' marks' o) (r : Outcome)
    (e : r.refusal ≡ first_refusal (ran_checks o.refusal o.tables types (a ∷ b ∷ []))) (k : r.tables ≡ o.tables) where
  ready : r.refusal ≡ 0 → Ready g types a b pairs' marks' r.tables
  ready z =
      let p = passed o.refusal o.tables types (a ∷ b ∷ []) (sym e ∙ z) in
      let s = stands g pairs' marks' o f p.taken in
      rw k (record {
        view-is = s.view-is;
        world-is = s.world-is;
        wide = s.wide;
        fits = (s.few, s.object-in p.object-there);
        numbers-in = p.numbers-in;
      })

  pub opens : Opens g types a b pairs' marks' r
  opens = record {
    refusal-is = e ∙ ap₂ (λ (n : ℕ) (u : Tables). first_refusal (ran_checks n u types (a ∷ b ∷ []))) f.refusal-is (shown-tables g pairs' marks' o f) ∙ checks-ran g types (a ∷ b ∷ []);
    ready = ready;
  }

-- a slice with room for a table has keys alone
pub no-rows : (fs pairs pairs' : List ℕ) → RoomFor fs pairs → length pairs' ≡ length pairs → NoRows pairs'
no-rows fs pairs pairs' r e h = let l = r.layered (λ k. omega arith) in omega arith

pub layers-no-rows : (pairs : List ℕ) → length pairs ≡ layers_room → NoRows pairs
layers-no-rows pairs l h = omega arith

-- ---- what is asked, by what the crates below answer over the slices

module _ (pairs marks : List ℕ) (t : Tables) (q : Question) (a b x : ℕ) where
  pub value-relation : q ≡ Relation → (r : declared.Relation) → x ≡ relation_number r → r ≡ relation (view_of pairs marks t) a b
      → x ≡ value_of (view_of pairs marks t) (world_of pairs marks t) q a b
  unfolding value_of
  value-relation k r e d = rw k (e ∙ ap relation_number d)

  pub value-distance : q ≡ Distance → x ≡ number_of (distance (view_of pairs marks t) a b)
      → x ≡ value_of (view_of pairs marks t) (world_of pairs marks t) q a b
  unfolding value_of
  value-distance k e = rw k e

  pub value-supertype : q ≡ Supertype → x ≡ number_of (supertype (view_of pairs marks t) a b)
      → x ≡ value_of (view_of pairs marks t) (world_of pairs marks t) q a b
  unfolding value_of
  value-supertype k e = rw k e

  pub value-cast : q ≡ Cast → (r : Bool) → x ≡ cond r 1 0 → r ≡ cast (view_of pairs marks t) a b
      → x ≡ value_of (view_of pairs marks t) (world_of pairs marks t) q a b
  unfolding value_of
  value-cast k r e d = rw k (e ∙ ap (λ (c : Bool). cond c 1 0) d)

  pub value-join : q ≡ Join → x ≡ word_of (join (world_of pairs marks t) (type_of a) (type_of b))
      → x ≡ value_of (view_of pairs marks t) (world_of pairs marks t) q a b
  unfolding value_of
  value-join k e = rw k e

  pub value-assignable : q ≡ Assignable → (r : Bool) → x ≡ cond r 1 0 → r ≡ is_assignable (world_of pairs marks t) (type_of a) (type_of b)
      → x ≡ value_of (view_of pairs marks t) (world_of pairs marks t) q a b
  unfolding value_of
  value-assignable k r e d = rw k (e ∙ ap (λ (c : Bool). cond c 1 0) d)

-- words over the names of a table are types
pub legal-words : (names a b : ℕ) → names ≤ 1024 → (legal_word names a ≡ true) × (legal_word names b ≡ true) → Legal a × Legal b
legal-words names a b few l = (legal-more names 1024 a few l.0, legal-more names 1024 b few l.1)

-- ---- answers

-- a refused answer, and one that is not
module _ (k c : ℕ) (e : k ≡ c) where
  pub answered-none : (value : ℕ) → (k ≡ 0 → ⊥) → record { refusal = k; value = 0 } ≡ answered c value
  unfolding answered
  answered-none value n = rw (← e, ne_eqb k 0 n)

  pub answered-value : (x value : ℕ) → k ≡ 0 → x ≡ value → record { refusal = 0; value = x } ≡ answered c value
  unfolding answered
  answered-value x value z v = rw (← e, z, v)

  pub gathered-none : (words : List ℕ) → (k ≡ 0 → ⊥) → no_ancestors k ≡ gathered c words
  unfolding gathered
  gathered-none words n = rw (← e, ne_eqb k 0 n)

  pub gathered-all : (x words : List ℕ) → k ≡ 0 → x ≡ words → gathered 0 x ≡ gathered c words
  gathered-all x words z w = rw (← e, z, w)

module _ (g : Given) (q : Question) (types : Bool) (t : types ≡ of_types q) (a b : ℕ) (pairs marks : List ℕ) (o : Outcome) (p : Opens g types a b pairs marks o) where
  refusal-asked : o.refusal ≡ first_refusal (table_checks g (of_types q) (a ∷ b ∷ []))
  refusal-asked = p.refusal-is ∙ ap (λ (y : Bool). first_refusal (table_checks g y (a ∷ b ∷ []))) t

  pub asked-none : (o.refusal ≡ 0 → ⊥) → record { refusal = o.refusal; value = 0 } ≡ table_answer g q a b
  unfolding table_answer
  asked-none n = answered-none o.refusal _ refusal-asked (value_of (rows_view (shown_in g)) (rows_world (shown_in g)) q a b) n

  module _ (z : o.refusal ≡ 0) where
    pub numbers-asked : good_numbers (of_types q) o.tables.names (a ∷ b ∷ []) ≡ true
    numbers-asked = subst (λ (y : Bool). good_numbers y o.tables.names (a ∷ b ∷ []) ≡ true) t (p.ready z).numbers-in

    pub asked-value : (x : ℕ) → x ≡ value_of (view_of pairs marks o.tables) (world_of pairs marks o.tables) q a b
        → record { refusal = 0; value = x } ≡ table_answer g q a b
    unfolding table_answer
    asked-value x e =
        let r = p.ready z in
        answered-value o.refusal _ refusal-asked x (value_of (rows_view (shown_in g)) (rows_world (shown_in g)) q a b) z
        (e ∙ ap₂ (λ (y : View) (u : World). value_of y u q a b) r.view-is r.world-is)

module _ (g : Given) (class : ℕ) (pairs marks : List ℕ) (o : Outcome) (p : Opens g false class class pairs marks o) where
  pub ancestors-none : (r : Ancestors) → r ≡ no_ancestors o.refusal → (o.refusal ≡ 0 → ⊥) → r ≡ table_ancestors g class
  unfolding table_ancestors
  ancestors-none r e n = e ∙ gathered-none o.refusal _ (p.refusal-is ∙ checks-once g class) (ancestors (rows_view (shown_in g)) class) n

  pub ancestors-all : (words : List ℕ) (r : Ancestors) → r ≡ gathered 0 words → o.refusal ≡ 0
      → words ≡ ancestors (view_of pairs marks o.tables) class → r ≡ table_ancestors g class
  unfolding table_ancestors
  ancestors-all words r e z w =
      e ∙ gathered-all o.refusal _ (p.refusal-is ∙ checks-once g class) words (ancestors (rows_view (shown_in g)) class) z
      (w ∙ ap (λ (y : View). ancestors y class) (p.ready z).view-is)

-- ---- of a table with layers

module _ (o : Outcome) (v : View) (w : World) (set : Bool) (q : Question) (a b : ℕ) (answer : Answer) (found : Ancestors) where
  pub tells-refused : (o.refusal ≡ 0 → ⊥) → answer ≡ record { refusal = o.refusal; value = 0 } → found ≡ no_ancestors o.refusal → TellsOver o v w set q a b answer found
  tells-refused n e f = (
    λ s. e ∙ answered-none o.refusal o.refusal refl (value_of v w q a b) n,
    λ s. f ∙ gathered-none o.refusal o.refusal refl (ancestors v a) n,
  )

  module _ (z : o.refusal ≡ 0) where
    pub tells-answer : set ≡ false → (x : ℕ) → answer ≡ record { refusal = 0; value = x } → x ≡ value_of v w q a b → TellsOver o v w set q a b answer found
    tells-answer s x e d = (λ f. e ∙ answered-value o.refusal o.refusal refl x (value_of v w q a b) z d, λ f. absurd (false≢true (sym s ∙ f)))

    pub tells-ancestors : set ≡ true → (words : List ℕ) → found ≡ gathered 0 words → words ≡ ancestors v a → TellsOver o v w set q a b answer found
    tells-ancestors s words e d = (λ f. absurd (false≢true (sym f ∙ s)), λ f. e ∙ gathered-all o.refusal o.refusal refl words (ancestors v a) z d)

-- what an opened table tells is what the rows say
module _ (g : Given) (set : Bool) (q : Question) (types : Bool) (t : types ≡ of_types q) (a b : ℕ) (both : Single set q a b) (pairs marks : List ℕ) (o : Outcome)
    (p : Opens g types a b pairs marks o) where
  pub opened-askable : NoRows pairs → Askable o q a b pairs marks
  opened-askable n = record {
    keys-alone = n;
    wide = λ z. (p.ready z).wide;
    fits = λ z. (p.ready z).fits;
    numbers-in = λ z. numbers-asked g q types t a b pairs marks o p z;
  }

  -- for the ancestors both numbers are the class
  one-class : set ≡ true → Opens g false a a pairs marks o
  one-class s = subst (λ (y : Bool). Opens g y a a pairs marks o) (t ∙ (both s).0) (subst (λ (y : ℕ). Opens g types a y pairs marks o) (both s).1 p)

  pub opened-tells : (answer : Answer) (found : Ancestors) → TellsOver o (view_of pairs marks o.tables) (world_of pairs marks o.tables) set q a b answer found → Tells g set q a b answer found
  opened-tells answer found k = (λ s. k.0 s ∙ asked (eqb o.refusal 0) refl, λ s. k.1 s ∙ all (one-class s) (eqb o.refusal 0) refl)
    where
      x : ℕ
      x = value_of (view_of pairs marks o.tables) (world_of pairs marks o.tables) q a b

      words : List ℕ
      words = ancestors (view_of pairs marks o.tables) a

      asked : (c : Bool) → eqb o.refusal 0 ≡ c → answered o.refusal x ≡ table_answer g q a b
      asked true e = let z = eqb-true o.refusal 0 e in sym (answered-value o.refusal o.refusal refl x x z refl) ∙ asked-value g q types t a b pairs marks o p z x refl
      asked false e = let n = eqb-false o.refusal 0 e in sym (answered-none o.refusal o.refusal refl x n) ∙ asked-none g q types t a b pairs marks o p n

      all : Opens g false a a pairs marks o → (c : Bool) → eqb o.refusal 0 ≡ c → gathered o.refusal words ≡ table_ancestors g a
      all w true e = let z = eqb-true o.refusal 0 e in ancestors-all g a pairs marks o w words (gathered o.refusal words) (ap (λ (k : ℕ). gathered k words) z) z refl
      all w false e = let n = eqb-false o.refusal 0 e in ancestors-none g a pairs marks o w (gathered o.refusal words) (sym (gathered-none o.refusal o.refusal refl words n)) n

-- ---- the work

module _ (g : Given) (types : Bool) (numbers work : List ℕ) where
  module _ (h : length work < 8192) where
    short-refusal : 22 ≡ refusal_of g types numbers (length work)
    unfolding refusal_of
    short-refusal = sym (first-hit (ltb (length work) 8192) 22 (table_checks g types numbers) (lt-ltb (length work) 8192 h))

    short-work : work ≡ work_after work
    unfolding work_after
    short-work = rw (lt-ltb (length work) 8192 h)

  module _ (h : 8192 ≤ length work) where
    long-refusal : first_refusal (table_checks g types numbers) ≡ refusal_of g types numbers (length work)
    unfolding refusal_of
    long-refusal = sym (first-miss (ltb (length work) 8192) 22 (table_checks g types numbers) (le-ltb (length work) 8192 h))

    long-work : (work' : List ℕ) → work' ≡ replicate (length work) 0 → work' ≡ work_after work
    unfolding work_after
    long-work work' z = rw (le-ltb (length work) 8192 h) z

-- A WORK THAT IS TOO SHORT IS REFUSED FIRST, and left alone; ANOTHER IS ZERO AT EXIT, whatever is answered
module _ (g : Given) (q : Question) (a b : ℕ) (work : List ℕ) where
  pub asked-short : length work < 8192 → Asked g q a b work work (record { refusal = 22; value = 0 })
  unfolding answer_of
  asked-short h = record {
    result = answered-none 22 _ (short-refusal g (of_types q) (a ∷ b ∷ []) work h) (value_of (rows_view (shown_in g)) (rows_world (shown_in g)) q a b) (λ z. omega arith);
    memory = short-work g (of_types q) (a ∷ b ∷ []) work h;
  }

  pub asked-long : 8192 ≤ length work → (work' : List ℕ) → work' ≡ replicate (length work) 0 → (r : Answer) → r ≡ table_answer g q a b → Asked g q a b work work' r
  unfolding answer_of table_answer
  asked-long h work' z r e = record {
    result = e ∙ ap (λ (k : ℕ). answered k (value_of (rows_view (shown_in g)) (rows_world (shown_in g)) q a b)) (long-refusal g (of_types q) (a ∷ b ∷ []) work h);
    memory = long-work g (of_types q) (a ∷ b ∷ []) work h work' z;
  }

module _ (g : Given) (class : ℕ) (work : List ℕ) where
  pub gathers-short : length work < 8192 → (r : Ancestors) → r ≡ no_ancestors 22 → Gathers g class work work r
  unfolding ancestors_of
  gathers-short h r e = record {
    result = e ∙ gathered-none 22 _ (short-refusal g false (class ∷ []) work h) (ancestors (rows_view (shown_in g)) class) (λ z. omega arith);
    memory = short-work g false (class ∷ []) work h;
  }

  pub gathers-long : 8192 ≤ length work → (work' : List ℕ) → work' ≡ replicate (length work) 0 → (r : Ancestors) → r ≡ table_ancestors g class → Gathers g class work work' r
  unfolding ancestors_of table_ancestors
  gathers-long h work' z r e = record {
    result = e ∙ ap (λ (k : ℕ). gathered k (ancestors (rows_view (shown_in g)) class)) (long-refusal g false (class ∷ []) work h);
    memory = long-work g false (class ∷ []) work h work' z;
  }
