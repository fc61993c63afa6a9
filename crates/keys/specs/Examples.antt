-- Worked examples of ranks and keys, by computation.
use Rattle.std.specs.Prelude.{◌≡◌, refl, List, [], ◌∷◌, map, ℕ, replicate}
use Rattle.order.specs.Compare.{compare_numbers, compare_lists}
use Rattle.std.specs.declared.cmp.Ordering.{Ordering}
use Rattle.std.specs.declared.cmp.Ordering.TheVariants.{Less}
use Rattle.ty.specs.Types.{ArgType, Primitive, Object, Array, Unknown, Void, Boolean, Int, arrays, compare}
use Rattle.ty.specs.Words.{pack, unpack}
use Rattle.keys.specs.Rank.{deeper, digits_of, rank, trim, members_of, known_base, unrank, key, key_component, key_kind, key_type}

-- ascending: Boolean, class 0, [Int, [[Int, and Unknown with no member in an array, with none, Void, Boolean and Int, Int
abbrev pub types : List ArgType
types =
    Primitive Boolean
    ∷ Object 0
    ∷ Array (Primitive Int)
    ∷ Array (Array (Primitive Int))
    ∷ Array (Unknown [])
    ∷ Unknown []
    ∷ Unknown (Void ∷ [])
    ∷ Unknown (Boolean ∷ Int ∷ [])
    ∷ Unknown (Int ∷ [])
    ∷ []

abbrev pub ranks : List ℕ
ranks =
    1
    ∷ 1024
    ∷ 2053
    ∷ 4101
    ∷ 0xfe00000080000
    ∷ 0xff00000080000
    ∷ 0xff10000080000
    ∷ 0xff26000080000
    ∷ 0xff60000080000
    ∷ []

pub rank-examples : (map rank types ≡ ranks) × (map unrank ranks ≡ types)
unfolding rank deeper digits_of pack unrank known_base members_of trim unpack arrays
rank-examples = (refl, refl)

-- each compared with the next
abbrev pub neighbours : {A : Type 0} → (A → A → Ordering) → List A → List Ordering
neighbours f [] = []
neighbours f (x ∷ []) = []
neighbours f (x ∷ y ∷ ys) = f x y ∷ neighbours f (y ∷ ys)

pub order-examples : (neighbours compare types ≡ replicate 8 Less) × (neighbours compare_numbers ranks ≡ replicate 8 Less)
unfolding compare compare_numbers compare_lists
order-examples = (refl, refl)

-- [Int of kind 2 on component 3
pub key-example :
    (key 3 2 (Array (Primitive Int)) ≡ 0x01a0000000000805)
    × (key_component 0x01a0000000000805 ≡ 3)
    × (key_kind 0x01a0000000000805 ≡ 2)
    × (key_type 0x01a0000000000805 ≡ Array (Primitive Int))
unfolding key key_type rank deeper unrank known_base arrays
key-example = (refl, refl, refl, refl)
