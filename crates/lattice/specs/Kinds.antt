-- WHAT IS ASKED OF ONE TYPE ALONE, of two as bounds, and of a list, a second time: the answers of ty.rs and lattice.rs by kind of type and by
-- example.
use Rattle.std.specs.Prelude.{◌≡◌, true, false, List, [], ◌∷◌, map, ℕ}
use Rattle.std.proofs.Math.Path.{refl}
use Rattle.std.proofs.Math.Option.{some, none}
use Rattle.order.specs.Compare.{compare_numbers, compare_lists}
use Rattle.order.specs.Lists.{elem}
use Rattle.sets.specs.Sets.{bit, at, member, insert, members}
use Rattle.ty.specs.Types.{ArgType, Primitive, Object, Array, Unknown, compare, is_known, is_primitive, is_object, is_array, is_reference, is_wide, is_concrete, element, categories, hint_of_list, concrete_hint, Void, Boolean, Byte, Short, Char, Int, Long, Float, Double, ObjectCategory, ArrayCategory}
use Rattle.view.specs.View.{insert_all, with_parents, grow, level, reached, reach, ancestor, all_recorded, complete, relation, supertype}
use Rattle.view.specs.Examples.{lacking}
use Rattle.lattice.specs.Lattice.{World, same_type, has_all, unknown_accepts, in_either, unknown_union, join_known, primitive_assignable, assignable_apart, is_assignable, producer_bound_compatible, narrow, under_double, join_primitive, join_apart, join, join_from, join_all, assignable_to_all, least_hint, most_specific_upper}
use Rattle.lattice.specs.Examples.{world}

-- ---- by kind

module _ (k c : ℕ) (t : ArgType) (cs : List ℕ) where
  -- Primitive, Object, Array, Unknown
  abbrev kinds : List ArgType
  kinds = Primitive k ∷ Object c ∷ Array t ∷ Unknown cs ∷ []

  pub kinds-table :
      (map is_known kinds ≡ true ∷ true ∷ true ∷ false ∷ [])
      × (map is_primitive kinds ≡ true ∷ false ∷ false ∷ false ∷ [])
      × (map is_object kinds ≡ false ∷ true ∷ false ∷ false ∷ [])
      × (map is_array kinds ≡ false ∷ false ∷ true ∷ false ∷ [])
      × (map is_reference kinds ≡ false ∷ true ∷ true ∷ false ∷ [])
      × (map element kinds ≡ none ∷ none ∷ some t ∷ none ∷ [])
      × (map categories kinds ≡ (k ∷ []) ∷ (ObjectCategory ∷ []) ∷ (ArrayCategory ∷ []) ∷ cs ∷ [])
      × (map is_wide (Object c ∷ Array t ∷ []) ≡ false ∷ false ∷ [])
  unfolding is_known is_primitive is_object is_array is_reference is_wide element categories
  kinds-table = (refl, refl, refl, refl, refl, refl, refl, refl)

-- ---- concrete types, and what a type hints at

abbrev primitives : List ArgType
primitives =
    map Primitive (Void ∷ Boolean ∷ Byte ∷ Short ∷ Char ∷ Int ∷ Long ∷ Float ∷ Double ∷ ObjectCategory ∷ ArrayCategory ∷ [])

-- all primitives but the categories Object and Array; all classes; the arrays of these; no Unknown
pub concrete-examples :
    (map is_concrete primitives ≡ true ∷ true ∷ true ∷ true ∷ true ∷ true ∷ true ∷ true ∷ true ∷ false ∷ false ∷ [])
    × (is_concrete (Object 0) ≡ true)
    × (is_concrete (Array (Array (Object 0))) ≡ true)
    × (is_concrete (Array (Primitive ObjectCategory)) ≡ false)
    × (is_concrete (Unknown (Int ∷ [])) ≡ false)
    × (is_concrete (Array (Unknown (Int ∷ []))) ≡ false)
unfolding is_concrete
concrete-examples = (refl, refl, refl, refl, refl, refl)

-- a concrete type at itself; an Unknown of one category at that primitive, of Object at java/lang/Object (3), of Array at none; all others at none
pub hint-examples :
    (concrete_hint 3 (Primitive Int) ≡ some (Primitive Int))
    × (concrete_hint 3 (Primitive ObjectCategory) ≡ none)
    × (concrete_hint 3 (Object 1) ≡ some (Object 1))
    × (concrete_hint 3 (Array (Object 1)) ≡ some (Array (Object 1)))
    × (concrete_hint 3 (Array (Unknown (Int ∷ []))) ≡ none)
    × (concrete_hint 3 (Unknown []) ≡ none)
    × (concrete_hint 3 (Unknown (Int ∷ [])) ≡ some (Primitive Int))
    × (concrete_hint 3 (Unknown (Void ∷ [])) ≡ some (Primitive Void))
    × (concrete_hint 3 (Unknown (ObjectCategory ∷ [])) ≡ some (Object 3))
    × (concrete_hint 3 (Unknown (ArrayCategory ∷ [])) ≡ none)
    × (concrete_hint 3 (Unknown (Int ∷ Long ∷ [])) ≡ none)
unfolding is_concrete hint_of_list concrete_hint
hint-examples = (refl, refl, refl, refl, refl, refl, refl, refl, refl, refl, refl)

-- ---- compatible bounds: two references always, else what is assignable

pub compatible-examples :
    (producer_bound_compatible world (Object 1) (Object 2) ≡ true)
    × (producer_bound_compatible world (Object 1) (Array (Primitive Int)) ≡ true)
    × (producer_bound_compatible world (Object 1) (Primitive Int) ≡ false)
    × (producer_bound_compatible world (Primitive Int) (Object 1) ≡ false)
    × (producer_bound_compatible world (Primitive Int) (Primitive Long) ≡ true)
    × (producer_bound_compatible world (Primitive Long) (Primitive Int) ≡ false)
    × (producer_bound_compatible world (Unknown (Int ∷ [])) (Object 1) ≡ false)
    × (producer_bound_compatible world (Unknown (ObjectCategory ∷ [])) (Object 1) ≡ true)
unfolding elem compare_numbers compare is_reference same_type unknown_accepts primitive_assignable assignable_apart is_assignable producer_bound_compatible
compatible-examples = (refl, refl, refl, refl, refl, refl, refl, refl)

-- ---- of a list

-- the fold from the first on, each time what was gathered on the left
pub join_all-examples :
    (join_all world [] ≡ none)
    × (join_all world (Object 1 ∷ []) ≡ some (Object 1))
    × (join_all world (Primitive Void ∷ Primitive Boolean ∷ []) ≡ some (Unknown (Void ∷ Boolean ∷ [])))
    × (join_all world (Primitive Void ∷ Primitive Boolean ∷ Primitive Int ∷ []) ≡ some (Unknown (Void ∷ Boolean ∷ Int ∷ [])))
    × (join_all world (Primitive Byte ∷ Primitive Int ∷ Primitive Double ∷ []) ≡ some (Primitive Double))
unfolding elem compare_numbers compare categories same_type unknown_accepts in_either unknown_union narrow under_double join_primitive join_known join_apart join join_from join_all
join_all-examples = (refl, refl, refl, refl, refl)

-- a/Probe 0 is above a/TrussA 1 and a/TrussB 2; where java/lang/Object has no record, every class is assignable to each
abbrev lacking-world : World
lacking-world = record { names = 4; object = 3; relation = relation lacking; supertype = supertype lacking; cloneable = none; serializable = none }

-- the least of the hints that are assignable to every bound
pub specific-examples :
    (most_specific_upper world [] ≡ none)
    × (most_specific_upper world (Object 0 ∷ Object 1 ∷ []) ≡ some (Object 1))
    × (most_specific_upper world (Object 1 ∷ Object 2 ∷ []) ≡ none)
    × (most_specific_upper lacking-world (Object 0 ∷ Object 1 ∷ []) ≡ some (Object 0))
    × (most_specific_upper lacking-world (Object 1 ∷ Object 0 ∷ []) ≡ some (Object 0))
    × (most_specific_upper world (Primitive Int ∷ Primitive Long ∷ []) ≡ some (Primitive Int))
    × (most_specific_upper world (Unknown (ObjectCategory ∷ []) ∷ []) ≡ some (Object 3))
unfolding bit at member insert members insert_all with_parents grow level reached reach ancestor all_recorded complete relation elem compare_numbers compare_lists compare is_concrete hint_of_list concrete_hint same_type has_all unknown_accepts primitive_assignable assignable_apart is_assignable assignable_to_all least_hint most_specific_upper
specific-examples = (refl, refl, refl, refl, refl, refl, refl)
