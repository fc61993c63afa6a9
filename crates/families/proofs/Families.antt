-- What the questions of hierarchy.rs ask of a table whose searches need not all read the same view: the whole view, and for each class the one that
-- the search from it reads. With layers as they are every search reads what all of them show, so one view serves all (`plain`) and each answer is
-- that of the view by itself. A frozen layer will leave searches to what is below it, and give another family.
use Rattle.std.specs.Prelude.{◌≡◌, Bool, ◌&&◌, ◌||◌, ℕ}
use Rattle.std.proofs.Math.Path.{refl, sym, ap, ap₂}
use Rattle.std.proofs.Common.{◌∙◌}
use Rattle.std.proofs.Math.Bool.{true, false, cond}
use mathlib.Core.List.{List, [], ◌∷◌}
use Rattle.std.proofs.Math.Option.{Option, some, none}
use Rattle.view.specs.declared.Relation.TheVariants.{Yes, No, Unknown}
use Rattle.view.specs.View.{View, distance, ancestor, ancestors, complete, relation, cast_by_facts, cast, common, below, any_below, lowest, nearer, nearest, numbers, candidates, supertype}
use Rattle.families.specs.Families.{plain, distance_from, ancestor_from, ancestors_from, relation_of, is_yes, cast_of, common_by, below_by, any_below_by, lowest_by, nearer_by, nearest_by, candidates_by, supertype_by, supertype_of}

-- ---- ONE VIEW FOR ALL: every answer is that of the view

nearest-first : (v : View) (left right c : ℕ) (cs : List ℕ) → nearest v left right cs ≡ none → nearest v left right (c ∷ cs) ≡ some c
unfolding nearest
nearest-first v left right c cs e = rw e

nearest-next : (v : View) (left right c : ℕ) (cs : List ℕ) (e : ℕ) → nearest v left right cs ≡ some e → nearest v left right (c ∷ cs) ≡ cond (nearer v left right c e) (some c) (some e)
unfolding nearest
nearest-next v left right c cs e q = rw q

pub nearest_by-first : (dist : ℕ → ℕ → Option ℕ) (left right c : ℕ) (cs : List ℕ) → nearest_by dist left right cs ≡ none → nearest_by dist left right (c ∷ cs) ≡ some c
unfolding nearest_by
nearest_by-first dist left right c cs e = rw e

pub nearest_by-next : (dist : ℕ → ℕ → Option ℕ) (left right c : ℕ) (cs : List ℕ) (e : ℕ) → nearest_by dist left right cs ≡ some e
    → nearest_by dist left right (c ∷ cs) ≡ cond (nearer_by dist left right c e) (some c) (some e)
unfolding nearest_by
nearest_by-next dist left right c cs e q = rw q

module _ (v : View) where
  pub plain-distance : (x y : ℕ) → distance_from (plain v) x y ≡ distance v x y
  unfolding distance_from
  plain-distance x y = refl

  pub plain-ancestor : (x y : ℕ) → ancestor_from (plain v) x y ≡ ancestor v x y
  unfolding ancestor_from
  plain-ancestor x y = refl

  pub plain-ancestors : (x : ℕ) → ancestors_from (plain v) x ≡ ancestors v x
  unfolding ancestors_from
  plain-ancestors x = refl

  pub plain-relation : (x y : ℕ) → relation_of (plain v) x y ≡ relation v x y
  unfolding relation_of ancestor_from relation
  plain-relation x y = go (ancestor v x y)
    where
      go : (a : Bool) → cond a Yes (cond a Yes (cond (complete v x) No Unknown)) ≡ cond a Yes (cond (complete v x) No Unknown)
      go true = refl
      go false = refl

  yes-ancestor : (x y : ℕ) → is_yes (relation v x y) ≡ ancestor v x y
  unfolding relation
  yes-ancestor x y = go (ancestor v x y) (complete v x)
    where
      go : (a c : Bool) → is_yes (cond a Yes (cond c No Unknown)) ≡ a
      go true c = refl
      go false true = refl
      go false false = refl

  pub plain-cast : (s t : ℕ) → cast_of (plain v) s t ≡ cast v s t
  unfolding cast_of cast
  plain-cast s t =
      ap₂ (λ (a b : Bool). (a || b) || ((v.declared s && v.declared t) && cast_by_facts (v.interface s) (v.final s) (v.interface t) (v.final t)))
      (ap is_yes (plain-relation s t) ∙ yes-ancestor s t) (ap is_yes (plain-relation t s) ∙ yes-ancestor t s)

  plain-common : (left right : ℕ) (cs : List ℕ) → common_by (ancestor v) left right cs ≡ common v left right cs
  unfolding common_by common
  plain-common left right [] = refl
  plain-common left right (c ∷ cs) = ap (λ (l : List ℕ). cond (ancestor v left c && ancestor v right c) (c ∷ l) l) (plain-common left right cs)

  pub plain-below : (d c : ℕ) → below_by (ancestor v) d c ≡ below v d c
  unfolding below_by below
  plain-below d c = refl

  plain-any : (ds : List ℕ) (c : ℕ) → any_below_by (ancestor v) ds c ≡ any_below v ds c
  unfolding any_below_by any_below
  plain-any [] c = refl
  plain-any (d ∷ ds) c = ap₂ (λ (a b : Bool). a || b) (plain-below d c) (plain-any ds c)

  plain-lowest : (all cs : List ℕ) → lowest_by (ancestor v) all cs ≡ lowest v all cs
  unfolding lowest_by lowest
  plain-lowest all [] = refl
  plain-lowest all (c ∷ cs) = ap₂ (λ (t : Bool) (l : List ℕ). cond t l (c ∷ l)) (plain-any all c) (plain-lowest all cs)

  plain-nearer : (left right c d : ℕ) → nearer_by (distance v) left right c d ≡ nearer v left right c d
  unfolding nearer_by nearer
  plain-nearer left right c d = refl

  plain-nearest : (left right : ℕ) (cs : List ℕ) → nearest_by (distance v) left right cs ≡ nearest v left right cs
  unfolding nearest_by nearest
  plain-nearest left right [] = refl
  plain-nearest left right (c ∷ cs) = go (nearest v left right cs) refl (plain-nearest left right cs)
    where
      go : (b : Option ℕ) → nearest v left right cs ≡ b → nearest_by (distance v) left right cs ≡ nearest v left right cs
          → nearest_by (distance v) left right (c ∷ cs) ≡ nearest v left right (c ∷ cs)
      go none q e = nearest_by-first (distance v) left right c cs (e ∙ q) ∙ sym (nearest-first v left right c cs q)
      go (some d) q e =
          nearest_by-next (distance v) left right c cs d (e ∙ q)
          ∙ ap (λ (t : Bool). cond t (some c) (some d)) (plain-nearer left right c d)
          ∙ sym (nearest-next v left right c cs d q)

  -- the supertype of a view is that of its ancestors and distances
  pub supertype-by : (left right : ℕ) → supertype_by v.names (ancestor v) (distance v) left right ≡ supertype v left right
  unfolding supertype_by supertype candidates_by candidates
  supertype-by left right =
      ap (λ (o : Option ℕ). cond (ancestor v left right) (some right) (cond (ancestor v right left) (some left) o))
      (ap (λ (l : List ℕ). nearest_by (distance v) left right (lowest_by (ancestor v) l l)) (plain-common left right (numbers 0 v.names))
      ∙ ap (nearest_by (distance v) left right) (plain-lowest (common v left right (numbers 0 v.names)) (common v left right (numbers 0 v.names)))
      ∙ plain-nearest left right (lowest v (common v left right (numbers 0 v.names)) (common v left right (numbers 0 v.names))))

  pub plain-supertype : (left right : ℕ) → supertype_of (plain v) left right ≡ supertype v left right
  unfolding supertype_of ancestor_from distance_from
  plain-supertype left right = supertype-by left right
