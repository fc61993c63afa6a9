-- A CLASS WITHOUT A ROW HAS NO PARENTS. So over the rows of any table the loop of `subtype_relation`, as hierarchy.rs has it, ends with
-- what `relation` defines, and nothing is left to assume of the table.
use Rattle.std.specs.Prelude.{◌≡◌, refl, Bool, true, false, cond, ◌||◌, List, [], ◌∷◌, ◌++◌, ℕ, ◌<◌, eqb}
use Rattle.std.proofs.Common.{ap, true≢false}
use Rattle.std.proofs.Math.Option.{some}
use Rattle.view.specs.View.{relation}
use Rattle.view.specs.Reach.{Good}
use Rattle.view.specs.Loops.{subtype_relation}
use Rattle.view.specs.Search.{computed-relation, computed-relation-ends}
use Rattle.view.specs.declared.Relation.{Relation}
use Rattle.tableview.specs.TableRows.{Record, Rows, is_recorded, listed_parents, set_of, rows_view}

-- no row of it lists a parent where none is of it
parents-none : (c : ℕ) (rs : List Record) → is_recorded c rs ≡ false → listed_parents c rs ≡ []
unfolding is_recorded listed_parents
parents-none c [] h = refl
parents-none c (r ∷ rs) h = go (eqb r.class c) h (parents-none c rs)
  where
    go : (b : Bool) → (b || is_recorded c rs) ≡ false → (is_recorded c rs ≡ false → listed_parents c rs ≡ [])
        → cond b (r.parents ++ listed_parents c rs) (listed_parents c rs) ≡ []
    go true e ih = absurd (true≢false e)
    go false e ih = ih e

pub rows-bare : (t : Rows) (c : ℕ) → (rows_view t).recorded c ≡ false → (rows_view t).parents c ≡ []
unfolding rows_view set_of
rows-bare t c h = ap set_of (parents-none c t.records h)

-- ---- the loop over the rows of a table

module _ (t : Rows) (g : Good (rows_view t)) (x y : ℕ) (h : x < (rows_view t).names) where
  -- what comes out is `relation`
  pub rows-relation : (n : ℕ) (r : Relation) → subtype_relation (rows_view t) x y n ≡ some r → r ≡ relation (rows_view t) x y
  rows-relation = computed-relation (rows_view t) g (rows-bare t) x y h

  -- and some number of turns is enough
  pub rows-relation-ends : (n : ℕ) × (subtype_relation (rows_view t) x y n ≡ some (relation (rows_view t) x y))
  rows-relation-ends = computed-relation-ends (rows_view t) g (rows-bare t) x y h
