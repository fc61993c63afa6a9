-- WHAT A TABLE OF COLUMNS LEAVES IN SLICES, wherever it is taken: the view and the world of the rows that its layers show. Columns of unequal
-- length are told apart before.
use Rattle.std.specs.Prelude.{◌≡◌, refl, Bool, true, false, cond, List, [], ◌∷◌, ℕ, suc, ◌-◌, ◌^◌, ◌≤◌, ◌<◌, length, take}
use Rattle.std.proofs.Common.{sym, ◌∙◌, subst, arith, take-take}
use Rattle.std.proofs.Math.Path.{ap}
use Rattle.std.proofs.Math.Option.{Option, some, none}
use Rattle.order.specs.Compare.{compare_lists, is_equal}
use Rattle.names.specs.Names.{next}
use Rattle.view.specs.View.{View, number_of}
use Rattle.tables.specs.declared.Tables.{Tables}
use Rattle.tables.specs.Table.{marks_room, parents_of, view_of}
use Rattle.lattice.specs.World.{present, world_with, world_of}
use Rattle.rows.specs.declared.Outcome.{Outcome}
use Rattle.rows.specs.Rows.{object_name, State, state_of}
use Rattle.columns.specs.Given.{Given, even, uneven_table}
use Rattle.layercolumns.specs.LayerColumns.{grounded, Shows}
use Rattle.tableview.specs.TableRows.{Rows, place_of, rows_view, rows_world}
use Rattle.tableview.specs.Inner.{state_view, state_world}
use Rattle.stackview.specs.LayerRows.{shown_in}
use Rattle.stackview.specs.LayerRefusals.{stack_refusal_of}
use Rattle.stackview.proofs.Refused.{stack-refusal}
use Rattle.stackview.specs.Agrees.{stack_in}
use Rattle.stackview.proofs.Agrees.{stack-view, stack-world, stack-upright}
use Rattle.stackview.specs.Shown.{checked_stack, Within}

module _ (g : Given) where
  pub checked-even : even g ≡ true → checked_stack g ≡ stack_in g
  unfolding checked_stack
  checked-even e = rw e

  pub checked-uneven : even g ≡ false → checked_stack g ≡ grounded uneven_table
  unfolding checked_stack
  checked-uneven e = rw e

  pub stack-refused : (stack_in g).refusal ≡ stack_refusal_of g
  unfolding stack_in
  stack-refused = stack-refusal g

next-within : (n : ℕ) (o : Option ℕ) → Within n o → Within (suc n) (next o)
next-within n none h = tt
next-within n (some i) h = omega (arith, h)

place-within : (wanted : List ℕ) (ns : List (List ℕ)) → Within (length ns) (place_of wanted ns)
unfolding place_of
place-within wanted [] = tt
place-within wanted (n ∷ ns) = go (is_equal (compare_lists n wanted)) (place-within wanted ns)
  where
    go : (b : Bool) → Within (length ns) (place_of wanted ns) → Within (suc (length ns)) (cond b (some 0) (next (place_of wanted ns)))
    go true h = omega arith
    go false h = next-within (length ns) (place_of wanted ns) h

number-within : (n : ℕ) (o : Option ℕ) → Within n o → (number_of o ≡ 2 ^ 64 - 1 → ⊥) → number_of o < n
unfolding number_of
number-within n none h k = absurd (k refl)
number-within n (some i) h k = h

pub object-within : (t : Rows) → ((rows_view t).object ≡ 2 ^ 64 - 1 → ⊥) → (rows_view t).object < (rows_view t).names
unfolding rows_view
object-within t k = number-within (length t.names) (place_of object_name t.names) (place-within object_name t.names) k

-- ---- slices

module _ (pairs marks : List ℕ) (t : Tables) where
  view_with : List ℕ → View
  view_with keys = record {
    names = t.names;
    object = t.object;
    recorded = (view_of pairs marks t).recorded;
    parents = parents_of t.names keys;
    declared = (view_of pairs marks t).declared;
    interface = (view_of pairs marks t).interface;
    final = (view_of pairs marks t).final;
  }

  same-keys : take t.pairs pairs ≡ take t.pairs (take t.pairs pairs)
  same-keys = sym (take-take t.pairs t.pairs pairs (omega arith))

  -- slices have the view of the state that they hold
  pub held-view : view_of pairs marks t ≡ state_view (state_of pairs marks t)
  unfolding view_with
  held-view = ap view_with same-keys

  pub held-world : world_of pairs marks t ≡ state_world (state_of pairs marks t)
  held-world = ap (λ (v : View). world_with v (present t.cloneable) (present t.serializable)) held-view

module _ (g : Given) (e : even g ≡ true) (z : (stack_in g).refusal ≡ 0) (pairs marks : List ℕ) (o : Outcome) (f : Shows (stack_in g) pairs marks o) where
  tables-are : o.tables ≡ (stack_in g).state.top.shown.tables
  tables-are = ap (λ (s : State). s.tables) f.shown-is

  -- THE VIEW AND THE WORLD OF THE ROWS THAT THE LAYERS SHOW
  pub shows-view : view_of pairs marks o.tables ≡ rows_view (shown_in g)
  shows-view = held-view pairs marks o.tables ∙ ap state_view f.shown-is ∙ stack-view g e z

  pub shows-world : world_of pairs marks o.tables ≡ rows_world (shown_in g)
  shows-world = held-world pairs marks o.tables ∙ ap state_world f.shown-is ∙ stack-world g e z

  pub shows-wide : length marks ≡ marks_room
  shows-wide = ap (λ (s : State). length s.marks) f.shown-is ∙ (stack-upright g e z).wide

  pub shows-few : o.tables.names ≤ 1024
  shows-few = subst (λ (t : Tables). t.names ≤ 1024) (sym tables-are) (stack-upright g e z).few

  pub shows-object : (o.tables.object ≡ 2 ^ 64 - 1 → ⊥) → o.tables.object < o.tables.names
  shows-object = subst (λ (v : View). (v.object ≡ 2 ^ 64 - 1 → ⊥) → v.object < v.names) (sym shows-view) (object-within (shown_in g))
