-- The world that the class tables give: their view, and the numbers of Cloneable and Serializable.
use Rattle.std.specs.Prelude.{cond, List, ℕ, ◌-◌, ◌^◌, eqb}
use Rattle.std.proofs.Math.Option.{Option, some, none}
use Rattle.tables.specs.declared.Tables.{Tables}
use Rattle.tables.specs.Table.{view_of}
use Rattle.view.specs.View.{View, relation, supertype}
use Rattle.view.specs.Reach.{Good}
use Rattle.view.specs.Ancestors.{ancestor-self, ancestor-object, ancestor-below}
use Rattle.view.specs.Relations.{relation-yes}
use Rattle.view.specs.Supertype.{supertype-least}
use Rattle.lattice.specs.Lattice.{World, Lawful}

-- a number, where it is not all ones
unfoldable pub present : ℕ → Option ℕ
present n = cond (eqb n (2 ^ 64 - 1)) none (some n)

-- of a view
abbrev pub world_with : View → Option ℕ → Option ℕ → World
world_with v cloneable serializable =
    record { names = v.names; object = v.object; relation = relation v; supertype = supertype v; cloneable = cloneable; serializable = serializable }

-- and it is lawful
pub with-lawful : (v : View) (cloneable serializable : Option ℕ) → Good v → Lawful (world_with v cloneable serializable)
with-lawful v cloneable serializable g = record {
  object-in = g.object-in;
  self = λ c. (relation-yes v c c).1 (ancestor-self v c);
  top = λ c. (relation-yes v c v.object).1 (ancestor-object v c);
  above = λ c d e l r q.
      let w = (supertype-least v g c d l r e q).0 in
      (ancestor-below v g c e l w.0, (relation-yes v c e).1 w.0, (relation-yes v d e).1 w.1);
}

-- THE WORLD of the tables
abbrev pub world_of : List ℕ → List ℕ → Tables → World
world_of pairs marks t = world_with (view_of pairs marks t) (present t.cloneable) (present t.serializable)
