-- THE TABLE OF COLUMNS HAS THE VIEW AND THE WORLD OF THE ROWS THAT ITS LAYERS SHOW, wherever it is taken.
use Rattle.std.specs.Prelude.{◌≡◌, Bool, true, false, cond, eqb, length}
use Rattle.std.proofs.Math.Path.{refl}
use mathlib.Core.List.{[]}
use Rattle.std.proofs.Common.{eqb-true}
use Rattle.std.proofs.lemmas.Bool.{eqb-false}
use Rattle.rows.specs.declared.Outcome.{Outcome}
use Rattle.rows.specs.Rows.{no_tables, State}
use Rattle.columns.specs.Columns.{name_rows}
use Rattle.columns.specs.Laws.{names-good}
use Rattle.columns.specs.Given.{Given, even, no_marks}
use Rattle.columns.specs.GivenLaws.{even-is}
use Rattle.layers.specs.Stacks.{Stack, StackRan, ground, Upright}
use Rattle.layers.specs.StackLaws.{upright-ground}
use Rattle.layercolumns.specs.LayerColumns.{stack_rows, stack_table}
use Rattle.tableview.specs.TableRows.{rows_view, rows_world, rows_in, records_of}
use Rattle.tableview.specs.Taken.{After}
use Rattle.tableview.specs.Inner.{state_view, state_world}
use Rattle.tableview.proofs.Agrees.{named_table, Made, made-view, made-world}
use Rattle.stackview.specs.LayerRows.{shown_rows, shown_in}
use Rattle.stackview.proofs.Taken.{rows-after, rows-upright}
use Rattle.stackview.specs.Agrees.{stack_in}

upright-made : (s : Stack) → Upright s → Made s.top.shown
upright-made s g = record { ordered = g.ordered; counted = g.counted; classes = g.classes; wide = g.wide }

module _ (g : Given) (e : even g ≡ true) (z : (stack_in g).refusal ≡ 0) where
  columns-even : length g.name_at ≡ length g.name_len
  unfolding even
  columns-even = (even-is (length g.name_at) (length g.name_len) (length g.rec_flags) (length g.rec_class) (length g.rec_at) (length g.rec_len) e).0

  -- the names are taken, and then the rows
  both-taken : ((name_rows g.names g.name_at g.name_len [] no_tables).refusal ≡ 0)
      × After (named_table g.names g.name_at g.name_len) (shown_rows (records_of g.parents g.rec_flags g.rec_class g.rec_at g.rec_len)) (stack_in g).state.top.shown
      × Upright (stack_in g).state
  unfolding stack_in stack_table
  both-taken = go (eqb named.refusal 0) refl z
    where
      named : Outcome
      named = name_rows g.names g.name_at g.name_len [] no_tables

      first : State
      first = named_table g.names g.name_at g.name_len

      rows : StackRan
      rows = stack_rows g.parents g.rec_flags g.rec_class g.rec_at g.rec_len (ground first)

      go : (b : Bool) → eqb named.refusal 0 ≡ b → (cond {A = StackRan} b rows (record { refusal = named.refusal; state = ground first })).refusal ≡ 0
          → (named.refusal ≡ 0)
          × After first (shown_rows (records_of g.parents g.rec_flags g.rec_class g.rec_at g.rec_len)) (cond {A = StackRan} b rows (record { refusal = named.refusal; state = ground first })).state.top.shown
          × Upright (cond {A = StackRan} b rows (record { refusal = named.refusal; state = ground first })).state
      go true q r =
          let sound = names-good g.names g.name_at g.name_len no_marks refl in (
            eqb-true named.refusal 0 q,
            rows-after g.parents g.rec_flags g.rec_class g.rec_at g.rec_len first sound refl r,
            rows-upright g.parents g.rec_flags g.rec_class g.rec_at g.rec_len (ground first) (upright-ground first sound) r,
          )
      go false q r = absurd (eqb-false named.refusal 0 q r)

  pub stack-upright : Upright (stack_in g).state
  stack-upright = both-taken.2

  pub stack-view : state_view (stack_in g).state.top.shown ≡ rows_view (shown_in g)
  unfolding shown_in rows_in
  stack-view = made-view g.names g.name_at g.name_len columns-even both-taken.0 _ (stack_in g).state.top.shown both-taken.1 (upright-made (stack_in g).state both-taken.2)

  pub stack-world : state_world (stack_in g).state.top.shown ≡ rows_world (shown_in g)
  unfolding shown_in rows_in
  stack-world = made-world g.names g.name_at g.name_len columns-even both-taken.0 _ (stack_in g).state.top.shown both-taken.1 (upright-made (stack_in g).state both-taken.2)
