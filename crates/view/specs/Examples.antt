-- The example of the scope paper, by computation: a/Probe 0, a/TrussA 1, a/TrussB 2, java/lang/Object 3; and the cases in which a
-- reader of that paper could take another answer.
use Rattle.std.specs.Prelude.{◌≡◌, refl, Bool, false, List, [], ◌∷◌, ℕ, zero, suc, ltb, eqb}
use Rattle.std.proofs.Math.Option.{some}
use Rattle.sets.specs.Sets.{bit, at, member, insert, members, first}
use Rattle.view.specs.declared.Relation.TheVariants.{Yes, No, Unknown}
use Rattle.view.specs.View.{View, insert_all, with_parents, grow, level, reached, reach, steps, far, distance, ancestor, all_recorded, complete, relation, common, below, any_below, lowest, nearer, nearest, numbers, candidates, supertype}

abbrev up : ℕ → List ℕ
up zero = 3 ∷ []
up (suc zero) = 0 ∷ []
up (suc (suc zero)) = 0 ∷ []
up (suc (suc (suc c))) = []

-- all four classes recorded, or all but java/lang/Object
abbrev pub whole : View
whole = record { names = 4; object = 3; recorded = λ c. ltb c 4; parents = up; declared = λ c. false; interface = λ c. false; final = λ c. false }

abbrev pub lacking : View
lacking = record { names = 4; object = 3; recorded = λ c. ltb c 3; parents = up; declared = λ c. false; interface = λ c. false; final = λ c. false }

pub examples : (relation whole 0 1 ≡ No) × (supertype whole 1 2 ≡ some 0) × (relation lacking 0 1 ≡ Unknown) × (distance whole 1 3 ≡ some 2)
unfolding bit at member insert members first insert_all with_parents grow level reached reach steps distance ancestor all_recorded complete relation common below any_below lowest nearer nearest numbers candidates supertype
examples = (refl, refl, refl, refl)

-- ---- cases that could be read otherwise

-- a table of at most four classes by the parents of each, and which are recorded
abbrev table : ℕ → ℕ → (ℕ → Bool) → List ℕ → List ℕ → List ℕ → List ℕ → View
table names object recorded a b c d =
    record { names = names; object = object; recorded = recorded; parents = pick; declared = λ c. false; interface = λ c. false; final = λ c. false }
  where
    pick : ℕ → List ℕ
    pick zero = a
    pick (suc zero) = b
    pick (suc (suc zero)) = c
    pick (suc (suc (suc n))) = d

-- 0 recorded without parents, 1 and Object (2) not recorded: an Object that is not reached is far, and makes nothing Unknown;
-- a class without a record is Yes for itself and Object, else Unknown
abbrev single : View
single = table 3 2 (λ c. eqb c 0) [] [] [] []

pub unreached-object : (distance single 0 2 ≡ some far) × (distance single 2 2 ≡ some 0) × (relation single 0 1 ≡ No)
    × (relation single 1 0 ≡ Unknown) × (relation single 1 1 ≡ Yes) × (relation single 1 2 ≡ Yes)
unfolding bit at member insert members first insert_all with_parents grow level reached reach steps distance ancestor all_recorded complete relation
unreached-object = (refl, refl, refl, refl, refl, refl)

-- Object (2) has the parent 1: who has Object by the rule alone has not 1
pub parents-of-object : relation (table 3 2 (λ c. ltb c 3) [] [] (1 ∷ []) []) 0 1 ≡ No
unfolding bit at member insert members first insert_all with_parents grow level reached reach ancestor all_recorded complete relation
parents-of-object = refl

-- 0 and 1 are each other's parent: the one named second is given
abbrev circle : View
circle = table 3 2 (λ c. ltb c 3) (1 ∷ []) (0 ∷ []) [] []

pub mutual-ancestors : (supertype circle 0 1 ≡ some 1) × (supertype circle 1 0 ≡ some 0)
unfolding bit at member insert members first insert_all with_parents grow level reached reach ancestor supertype
mutual-ancestors = (refl, refl)

-- 0, 2 and Object (3) have the parent 1: Object stands above 1 by the rule and below it by reach, so neither is strictly below, and 1 is nearer
pub below-by-the-rule : supertype (table 4 3 (λ c. ltb c 4) (1 ∷ []) [] (1 ∷ []) (1 ∷ [])) 0 2 ≡ some 1
unfolding bit at member insert members first insert_all with_parents grow level reached reach steps distance ancestor common below any_below lowest nearer nearest numbers candidates supertype
below-by-the-rule = refl
