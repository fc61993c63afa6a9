-- What the questions of hierarchy.rs ask of a table whose searches need not all read the same view: the whole view, and for each class the one that
-- the search from it reads. With layers as they are every search reads what all of them show, so one view serves all (`plain`) and each answer is
-- that of the view by itself. A frozen layer will leave searches to what is below it, and give another family.
use Rattle.std.specs.Prelude.{Bool, not, ◌&&◌, ◌||◌, ℕ, ◌+◌, max, eqb, ltb}
use Rattle.std.proofs.Math.Bool.{true, false, cond}
use mathlib.Core.List.{List, [], ◌∷◌}
use Rattle.std.proofs.Math.Option.{Option, some, none}
use Rattle.view.specs.declared.Relation.{Relation}
use Rattle.view.specs.declared.Relation.TheVariants.{Yes, No, Unknown}
use Rattle.view.specs.View.{View, distance, distance_or, ancestor, ancestors, relation, cast_by_facts, numbers}

-- ---- what the questions need of a table: the whole view, and for each start the view that its search reads

pub record Family : Type 0 where
  pub whole : View
  pub from : ℕ → View

-- one view for all
abbrev pub plain : View → Family
plain v = record { whole = v; from = λ x. v }

-- ---- the answers. A distance, the ancestors and recorded_ancestor ask one start alone

unfoldable pub distance_from : Family → ℕ → ℕ → Option ℕ
distance_from f x y = distance (f.from x) x y

unfoldable pub ancestor_from : Family → ℕ → ℕ → Bool
ancestor_from f x y = ancestor (f.from x) x y

unfoldable pub ancestors_from : Family → ℕ → List ℕ
ancestors_from f x = ancestors (f.from x) x

-- subtype_relation: the search first, then the walk through all layers, which may still come to a Yes
unfoldable pub relation_of : Family → ℕ → ℕ → Relation
relation_of f value expected = cond (ancestor_from f value expected) Yes (relation f.whole value expected)

-- is_subtype
abbrev pub is_yes : Relation → Bool
is_yes Yes = true
is_yes No = false
is_yes Unknown = false

-- is_cast_convertible asks the relation, the late Yes included, and the facts of all layers
unfoldable pub cast_of : Family → ℕ → ℕ → Bool
cast_of f source target =
    (is_yes (relation_of f source target) || is_yes (relation_of f target source))
    || ((f.whole.declared source && f.whole.declared target)
    && cast_by_facts (f.whole.interface source) (f.whole.final source) (f.whole.interface target) (f.whole.final target))

-- ---- least_common_supertype, by recorded_ancestor and the distances of any table: the names, `anc` and `dist` are all it asks

unfoldable pub common_by : (ℕ → ℕ → Bool) → ℕ → ℕ → List ℕ → List ℕ
common_by anc left right [] = []
common_by anc left right (c ∷ cs) = cond (anc left c && anc right c) (c ∷ common_by anc left right cs) (common_by anc left right cs)

unfoldable pub below_by : (ℕ → ℕ → Bool) → ℕ → ℕ → Bool
below_by anc d c = not (eqb d c) && (anc d c && not (anc c d))

unfoldable pub any_below_by : (ℕ → ℕ → Bool) → List ℕ → ℕ → Bool
any_below_by anc [] c = false
any_below_by anc (d ∷ ds) c = below_by anc d c || any_below_by anc ds c

unfoldable pub lowest_by : (ℕ → ℕ → Bool) → List ℕ → List ℕ → List ℕ
lowest_by anc all [] = []
lowest_by anc all (c ∷ cs) = cond (any_below_by anc all c) (lowest_by anc all cs) (c ∷ lowest_by anc all cs)

unfoldable pub nearer_by : (ℕ → ℕ → Option ℕ) → ℕ → ℕ → ℕ → ℕ → Bool
nearer_by dist left right c d = by (distance_or (dist left c)) (distance_or (dist right c)) (distance_or (dist left d)) (distance_or (dist right d))
  where
    by : ℕ → ℕ → ℕ → ℕ → Bool
    by lc rc ld rd =
        ltb (max lc rc) (max ld rd) || (eqb (max lc rc) (max ld rd) && (ltb (lc + rc) (ld + rd) || (eqb (lc + rc) (ld + rd) && ltb c d)))

unfoldable pub nearest_by : (ℕ → ℕ → Option ℕ) → ℕ → ℕ → List ℕ → Option ℕ
nearest_by dist left right [] = none
nearest_by dist left right (c ∷ cs) = keep (nearest_by dist left right cs)
  where
    keep : Option ℕ → Option ℕ
    keep none = some c
    keep (some d) = cond (nearer_by dist left right c d) (some c) (some d)

unfoldable pub candidates_by : ℕ → (ℕ → ℕ → Bool) → ℕ → ℕ → List ℕ
candidates_by names anc left right = common_by anc left right (numbers 0 names)

unfoldable pub supertype_by : ℕ → (ℕ → ℕ → Bool) → (ℕ → ℕ → Option ℕ) → ℕ → ℕ → Option ℕ
supertype_by names anc dist left right =
    cond (anc left right) (some right)
    (cond (anc right left) (some left) (nearest_by dist left right (lowest_by anc (candidates_by names anc left right) (candidates_by names anc left right))))

-- each class by its own search
unfoldable pub supertype_of : Family → ℕ → ℕ → Option ℕ
supertype_of f = supertype_by f.whole.names (ancestor_from f) (distance_from f)
