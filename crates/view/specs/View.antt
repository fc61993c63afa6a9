-- What is asked of a class table, from hierarchy.rs, over a view of the table: how many names there are, which is
-- java/lang/Object, which classes have a record, their parents, and what was declared of them. A class is its number.
use Rattle.std.specs.Prelude.{Bool, true, false, cond, not, ◌&&◌, ◌||◌, List, [], ◌∷◌, ℕ, zero, suc, ◌+◌, max, eqb, ltb, replicate}
use Rattle.std.proofs.Math.Option.{Option, some, none}
use Rattle.sets.specs.Sets.{at, member, insert, members, first}
use Rattle.view.specs.declared.Relation.{Relation}
use Rattle.view.specs.declared.Relation.TheVariants.{Yes, No, Unknown}

pub record View : Type 0 where
  pub names : ℕ
  pub object : ℕ
  pub recorded : ℕ → Bool
  pub parents : ℕ → List ℕ
  pub declared : ℕ → Bool
  pub interface : ℕ → Bool
  pub final : ℕ → Bool

-- ---- compute_distances: breadth first from the start at 0, level by level

-- a set with the members of a list
unfoldable pub insert_all : List ℕ → List ℕ → List ℕ
insert_all s [] = s
insert_all s (p ∷ ps) = insert_all (insert s p) ps

-- a set with the parents of each class of a list
unfoldable pub with_parents : View → List ℕ → List ℕ → List ℕ
with_parents v s [] = s
with_parents v s (c ∷ cs) = with_parents v (insert_all s (v.parents c)) cs

-- a set with the parents of its members
unfoldable pub grow : View → List ℕ → List ℕ
grow v s = with_parents v s (members (at s) 0 1024)

-- what is reached from a class in at most n steps to a parent
unfoldable pub level : View → ℕ → ℕ → List ℕ
level v zero x = insert (replicate 16 0) x
level v (suc n) x = grow v (level v n x)

-- what is reached at all: a shortest way passes no class twice
unfoldable pub reached : View → ℕ → List ℕ
reached v x = level v v.names x

unfoldable pub reach : View → ℕ → ℕ → Bool
reach v x y = member (reached v x) y

-- the least number of steps, where it is reached
unfoldable pub steps : View → ℕ → ℕ → ℕ
steps v x y = first (λ n. at (level v n x) y) (suc v.names)

-- usize::MAX / 4, for an Object that is not reached
abbrev pub far : ℕ
far = 4611686018427387903

unfoldable pub distance : View → ℕ → ℕ → Option ℕ
distance v x y = cond (reach v x y) (some (steps v x y)) (cond (eqb y v.object) (some far) none)

-- a distance as a number: all ones for none
unfoldable pub number_of : Option ℕ → ℕ
number_of none = 18446744073709551615
number_of (some n) = n

-- ---- recorded_ancestor

unfoldable pub ancestor : View → ℕ → ℕ → Bool
ancestor v value expected = eqb value expected || (eqb expected v.object || reach v value expected)

-- ---- subtype_relation

-- whether each of a list of classes has a record
unfoldable pub all_recorded : View → List ℕ → Bool
all_recorded v [] = true
all_recorded v (c ∷ cs) = v.recorded c && all_recorded v cs

unfoldable pub complete : View → ℕ → Bool
complete v x = all_recorded v (members (at (reached v x)) 0 1024)

unfoldable pub relation : View → ℕ → ℕ → Relation
relation v value expected = cond (ancestor v value expected) Yes (cond (complete v value) No Unknown)

unfoldable pub relation_number : Relation → ℕ
relation_number Yes = 0
relation_number No = 1
relation_number Unknown = 2

-- ---- is_cast_convertible

-- by the declared facts: interface and final of the source, then of the target
unfoldable pub cast_by_facts : Bool → Bool → Bool → Bool → Bool
cast_by_facts true source_final true target_final = true
cast_by_facts true source_final false target_final = not target_final
cast_by_facts false source_final true target_final = not source_final
cast_by_facts false source_final false target_final = false

unfoldable pub cast : View → ℕ → ℕ → Bool
cast v source target =
    (ancestor v source target || ancestor v target source)
    || ((v.declared source && v.declared target) && cast_by_facts (v.interface source) (v.final source) (v.interface target) (v.final target))

-- ---- least_common_supertype

-- the ancestors, as a set: what is reached, and Object
unfoldable pub ancestors : View → ℕ → List ℕ
ancestors v x = insert (reached v x) v.object

-- the classes of a list that are ancestors of both
unfoldable pub common : View → ℕ → ℕ → List ℕ → List ℕ
common v left right [] = []
common v left right (c ∷ cs) = cond (ancestor v left c && ancestor v right c) (c ∷ common v left right cs) (common v left right cs)

-- whether d stands strictly below c: an ancestor one way and not the other
unfoldable pub below : View → ℕ → ℕ → Bool
below v d c = not (eqb d c) && (ancestor v d c && not (ancestor v c d))

unfoldable pub any_below : View → List ℕ → ℕ → Bool
any_below v [] c = false
any_below v (d ∷ ds) c = below v d c || any_below v ds c

-- the candidates of a list with none of `all` strictly below
unfoldable pub lowest : View → List ℕ → List ℕ → List ℕ
lowest v all [] = []
lowest v all (c ∷ cs) = cond (any_below v all c) (lowest v all cs) (c ∷ lowest v all cs)

-- a candidate's distance; of an ancestor it is there
abbrev pub distance_or : Option ℕ → ℕ
distance_or none = far
distance_or (some n) = n

-- whether c comes before d: greater distance, sum of the distances, number
unfoldable pub nearer : View → ℕ → ℕ → ℕ → ℕ → Bool
nearer v left right c d = by (distance_or (distance v left c)) (distance_or (distance v right c)) (distance_or (distance v left d)) (distance_or (distance v right d))
  where
    by : ℕ → ℕ → ℕ → ℕ → Bool
    by lc rc ld rd =
        ltb (max lc rc) (max ld rd) || (eqb (max lc rc) (max ld rd) && (ltb (lc + rc) (ld + rd) || (eqb (lc + rc) (ld + rd) && ltb c d)))

unfoldable pub nearest : View → ℕ → ℕ → List ℕ → Option ℕ
nearest v left right [] = none
nearest v left right (c ∷ cs) = keep (nearest v left right cs)
  where
    keep : Option ℕ → Option ℕ
    keep none = some c
    keep (some d) = cond (nearer v left right c d) (some c) (some d)

-- the numbers below n, ascending, from i on
unfoldable pub numbers : ℕ → ℕ → List ℕ
numbers i zero = []
numbers i (suc n) = i ∷ numbers (suc i) n

unfoldable pub candidates : View → ℕ → ℕ → List ℕ
candidates v left right = common v left right (numbers 0 v.names)

unfoldable pub supertype : View → ℕ → ℕ → Option ℕ
supertype v left right =
    cond (ancestor v left right) (some right)
    (cond (ancestor v right left) (some left) (nearest v left right (lowest v (candidates v left right) (candidates v left right))))
