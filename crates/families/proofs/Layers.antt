-- THE FAMILY OF LAYERS, none of them frozen: every search looks up parents and facts through all layers, from the topmost down. What it answers is what
-- the rows that the layers show answer as one plain table.
use Rattle.std.specs.Prelude.{◌≡◌, Bool, List, ℕ}
use Rattle.std.proofs.Common.{sym, ap, ◌∙◌}
use Rattle.std.proofs.Math.Option.{Option}
use Rattle.view.specs.declared.Relation.{Relation}
use Rattle.view.specs.View.{View, distance, ancestors, relation, cast, supertype}
use Rattle.tableview.specs.TableRows.{Record, rows_view}
use Rattle.stackview.specs.LayerRows.{shown_rows}
use Rattle.stackview.specs.LayerViews.{lowest_layer, layers_above, through}
use Rattle.stackview.proofs.LayerViews.{shown-through}
use Rattle.families.specs.Families.{Family, plain, distance_from, ancestors_from, relation_of, cast_of, supertype_of}
use Rattle.families.proofs.Families.{plain-distance, plain-ancestors, plain-relation, plain-cast, plain-supertype}

module _ (names : List (List ℕ)) (records : List Record) where
  -- a lookup through the layers, by hierarchy.rs
  abbrev layered : View
  layered = through (rows_view (record { names = names; records = lowest_layer records })) (layers_above records)

  abbrev shown : View
  shown = rows_view (record { names = names; records = shown_rows records })

  abbrev pub family_of : Family
  family_of = plain layered

  same : (A : Type 0) (ask : View → A) → ask layered ≡ ask shown
  same A ask = ap ask (sym (shown-through names records))

  pub layers-distance : (x y : ℕ) → distance_from family_of x y ≡ distance shown x y
  layers-distance x y = plain-distance layered x y ∙ same (Option ℕ) (λ (v : View). distance v x y)

  pub layers-ancestors : (x : ℕ) → ancestors_from family_of x ≡ ancestors shown x
  layers-ancestors x = plain-ancestors layered x ∙ same (List ℕ) (λ (v : View). ancestors v x)

  pub layers-relation : (x y : ℕ) → relation_of family_of x y ≡ relation shown x y
  layers-relation x y = plain-relation layered x y ∙ same Relation (λ (v : View). relation v x y)

  pub layers-cast : (x y : ℕ) → cast_of family_of x y ≡ cast shown x y
  layers-cast x y = plain-cast layered x y ∙ same Bool (λ (v : View). cast v x y)

  pub layers-supertype : (x y : ℕ) → supertype_of family_of x y ≡ supertype shown x y
  layers-supertype x y = plain-supertype layered x y ∙ same (Option ℕ) (λ (v : View). supertype v x y)
