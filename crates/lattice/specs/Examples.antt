-- The examples of the scope paper about types, by computation.
use Rattle.std.specs.Prelude.{◌≡◌, refl, true, false, [], ◌∷◌}
use Rattle.std.proofs.Math.Option.{some, none}
use Rattle.order.specs.Compare.{compare_numbers, compare_lists}
use Rattle.order.specs.Lists.{elem}
use Rattle.sets.specs.Sets.{bit, at, member, insert, members, first}
use Rattle.ty.specs.Types.{Primitive, Object, Array, Unknown, compare, categories, is_primitive, Void, Boolean, Short, Byte, Char, Int, Long, Float, Double, ObjectCategory, ArrayCategory}
use Rattle.view.specs.View.{insert_all, with_parents, grow, level, reached, reach, steps, distance, ancestor, all_recorded, complete, relation, common, below, any_below, lowest, nearer, nearest, numbers, candidates, supertype}
use Rattle.view.specs.Examples.{whole}
use Rattle.lattice.specs.Lattice.{World, same_type, has_all, unknown_accepts, in_either, unknown_union, primitive_assignable, assignable_apart, is_assignable, narrow, under_double, join_primitive, join_known, join_apart, join, join_from, join_all, array_parent, join_array_class, elements_assignable, join_elements, in_both}

abbrev pub world : World
world = record { names = 4; object = 3; relation = relation whole; supertype = supertype whole; cloneable = none; serializable = none }

-- Boolean with Int; Boolean, a/TrussA, a/TrussB in order; Char to Short; an array with a class that is not Object
pub examples : (join world (Primitive Boolean) (Primitive Int) ≡ Unknown (Boolean ∷ Int ∷ []))
    × (join_all world (Primitive Boolean ∷ Object 1 ∷ Object 2 ∷ []) ≡ some (Object 2))
    × (is_assignable world (Primitive Char) (Primitive Short) ≡ false)
    × (join world (Array (Primitive Int)) (Object 1) ≡ Unknown (ObjectCategory ∷ ArrayCategory ∷ []))
unfolding elem compare_numbers compare_lists compare categories same_type has_all unknown_accepts in_either unknown_union primitive_assignable assignable_apart is_assignable narrow under_double join_primitive join_known join_apart join join_from join_all array_parent join_array_class
examples = (refl, refl, refl, refl)

-- with a/TrussA in the place of java/lang/Cloneable: an array is assignable to it, and their join is Unknown[Object, Array] all the same
abbrev clones : World
clones = record { names = 4; object = 3; relation = relation whole; supertype = supertype whole; cloneable = some 1; serializable = none }

pub array-cloneable : (is_assignable clones (Array (Primitive Int)) (Object 1) ≡ true)
    × (join clones (Array (Primitive Int)) (Object 1) ≡ Unknown (ObjectCategory ∷ ArrayCategory ∷ []))
    × (join clones (Object 1) (Array (Primitive Int)) ≡ Unknown (ObjectCategory ∷ ArrayCategory ∷ []))
unfolding elem compare categories same_type in_either unknown_union assignable_apart is_assignable join_apart join array_parent join_array_class
array-cloneable = (refl, refl, refl)

-- ---- an Unknown

-- TWO UNKNOWNS give what the left list has and the right one too, in the left one's order; with nothing in common, all that
-- `ArgType::unknown()` lists, in its order
pub unknowns-in-order :
    (join world (Unknown (Long ∷ Int ∷ Boolean ∷ [])) (Unknown (Boolean ∷ Byte ∷ Long ∷ [])) ≡ Unknown (Long ∷ Boolean ∷ []))
    × (join world (Unknown (Boolean ∷ Byte ∷ Long ∷ [])) (Unknown (Long ∷ Int ∷ Boolean ∷ [])) ≡ Unknown (Boolean ∷ Long ∷ []))
    × (join world (Unknown (Int ∷ [])) (Unknown (Long ∷ []))
    ≡ Unknown (Int ∷ Long ∷ Float ∷ Double ∷ Boolean ∷ Short ∷ Byte ∷ Char ∷ ObjectCategory ∷ ArrayCategory ∷ []))
unfolding elem compare_numbers compare_lists compare same_type in_both join_apart join
unknowns-in-order = (refl, refl, refl)

-- A KNOWN TYPE with an Unknown that has its category is that type, else both lists as a set: ascending, and none twice
pub known-with-unknown :
    (join world (Primitive Int) (Unknown (Long ∷ Int ∷ [])) ≡ Primitive Int)
    × (join world (Unknown (Long ∷ Int ∷ [])) (Primitive Int) ≡ Primitive Int)
    × (join world (Object 1) (Unknown (ObjectCategory ∷ [])) ≡ Object 1)
    × (join world (Array (Object 1)) (Unknown (Int ∷ ArrayCategory ∷ [])) ≡ Array (Object 1))
    × (join world (Primitive Int) (Unknown (Long ∷ Boolean ∷ [])) ≡ Unknown (Boolean ∷ Int ∷ Long ∷ []))
    × (join world (Unknown (Long ∷ Boolean ∷ [])) (Object 1) ≡ Unknown (Boolean ∷ Long ∷ ObjectCategory ∷ []))
    × (join world (Primitive Double) (Object 1) ≡ Unknown (Double ∷ ObjectCategory ∷ []))
    × (join world (Array (Object 1)) (Primitive Void) ≡ Unknown (Void ∷ ArrayCategory ∷ []))
unfolding elem compare_numbers compare categories same_type unknown_accepts in_either unknown_union join_known join_apart join
known-with-unknown = (refl, refl, refl, refl, refl, refl, refl, refl)

-- an Unknown and a known type are assignable, either way, exactly if the list has the category; one Unknown to another if that has all
pub unknowns-assignable :
    (is_assignable world (Primitive Int) (Unknown (Long ∷ Int ∷ [])) ≡ true)
    × (is_assignable world (Primitive Int) (Unknown (Long ∷ [])) ≡ false)
    × (is_assignable world (Unknown (Long ∷ Int ∷ [])) (Primitive Int) ≡ true)
    × (is_assignable world (Unknown (Long ∷ [])) (Primitive Int) ≡ false)
    × (is_assignable world (Object 1) (Unknown (ObjectCategory ∷ [])) ≡ true)
    × (is_assignable world (Object 1) (Unknown (ArrayCategory ∷ [])) ≡ false)
    × (is_assignable world (Unknown (ArrayCategory ∷ [])) (Array (Object 1)) ≡ true)
    × (is_assignable world (Unknown (ObjectCategory ∷ [])) (Array (Object 1)) ≡ false)
    × (is_assignable world (Unknown (Int ∷ [])) (Unknown (Long ∷ Int ∷ [])) ≡ true)
    × (is_assignable world (Unknown (Long ∷ Int ∷ [])) (Unknown (Int ∷ [])) ≡ false)
    × (is_assignable world (Unknown []) (Unknown (Int ∷ [])) ≡ true)
unfolding elem compare_numbers compare_lists compare same_type has_all unknown_accepts assignable_apart is_assignable
unknowns-assignable = (refl, refl, refl, refl, refl, refl, refl, refl, refl, refl, refl)

-- ---- arrays

-- two arrays join one dimension lower, but to Object where an element is a primitive; an array of primitives takes no other
pub arrays-by-elements :
    (join world (Array (Object 1)) (Array (Object 2)) ≡ Array (Object 0))
    × (join world (Array (Primitive Int)) (Array (Primitive Byte)) ≡ Object 3)
    × (join world (Array (Primitive Int)) (Array (Object 1)) ≡ Object 3)
    × (join world (Array (Object 1)) (Array (Primitive Int)) ≡ Object 3)
    × (join world (Array (Unknown (Int ∷ []))) (Array (Primitive Int)) ≡ Object 3)
    × (join world (Array (Primitive Int)) (Array (Primitive Int)) ≡ Array (Primitive Int))
    × (is_assignable world (Array (Primitive Byte)) (Array (Primitive Int)) ≡ false)
    × (is_assignable world (Array (Primitive Int)) (Array (Primitive Int)) ≡ true)
    × (is_assignable world (Array (Primitive Int)) (Array (Unknown (Int ∷ []))) ≡ false)
    × (is_assignable world (Array (Object 1)) (Array (Object 0)) ≡ true)
    × (is_assignable world (Array (Object 0)) (Array (Object 1)) ≡ false)
    × (is_assignable world (Array (Object 1)) (Array (Primitive Int)) ≡ false)
    × (is_assignable world (Array (Object 1)) (Object 3) ≡ true)
    × (is_assignable world (Array (Object 1)) (Object 0) ≡ false)
unfolding bit at member insert members first insert_all with_parents grow level reached reach steps distance ancestor all_recorded complete relation common below any_below lowest nearer nearest numbers candidates supertype elem compare_numbers compare_lists compare is_primitive same_type primitive_assignable elements_assignable array_parent assignable_apart is_assignable join_primitive join_elements join_apart join
arrays-by-elements = (refl, refl, refl, refl, refl, refl, refl, refl, refl, refl, refl, refl, refl, refl)

-- ---- classes

-- two classes by the relation, either way; where a world knows no common supertype, Object
abbrev bare : World
bare = record { names = 4; object = 3; relation = relation whole; supertype = λ c d. none; cloneable = none; serializable = none }

pub classes-related :
    (is_assignable world (Object 1) (Object 0) ≡ true)
    × (is_assignable world (Object 0) (Object 1) ≡ false)
    × (join world (Object 1) (Object 0) ≡ Object 0)
    × (join world (Object 1) (Object 2) ≡ Object 0)
    × (join bare (Object 1) (Object 2) ≡ Object 3)
unfolding bit at member insert members first insert_all with_parents grow level reached reach steps distance ancestor all_recorded complete relation common below any_below lowest nearer nearest numbers candidates supertype compare_numbers compare same_type assignable_apart is_assignable join_apart join
classes-related = (refl, refl, refl, refl, refl)
