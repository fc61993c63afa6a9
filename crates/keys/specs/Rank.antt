-- A type as a number in the order of types, its rank, and back; and the key of a bound: its component, its kind and its
-- type's rank in one word.
--   rank of k or of class c, in d arrays:    d * 2 ^ 11 + k   or   d * 2 ^ 11 + 2 ^ 10 + c             below 2 ^ 19
--   rank of Unknown cs, in d arrays:         2 ^ 19 + (255 - d) * 2 ^ 44 + digits of cs                below 2 ^ 52
-- Unknown comes after all that is known, so the deeper of two arrays of Unknown comes first: its depth counts down.
use Rattle.std.specs.Prelude.{cond, List, [], ◌∷◌, map, ℕ, zero, suc, ◌+◌, ◌-◌, ◌*◌, ◌/◌, ◌%◌, ◌^◌, ltb}
use Rattle.ty.specs.Types.{ArgType, Primitive, Object, Array, Unknown, arrays}
use Rattle.ty.specs.Words.{pack, unpack}

-- ---- the rank of a type

-- the rank of the array, from the rank of its element
unfoldable pub deeper : ℕ → ℕ
deeper r = cond (ltb r (2 ^ 19)) (r + 2 ^ 11) (r - 2 ^ 44)

-- eleven hex digits: category + 1 for each member and 0 after the last, so that a prefix comes first
unfoldable pub digits_of : List ℕ → ℕ
digits_of cs = pack 11 (map suc cs)

-- the number of a type: of two types the lower one comes first
unfoldable pub rank : ArgType → ℕ
rank (Primitive k) = k
rank (Object c) = 2 ^ 10 + c
rank (Array t) = deeper (rank t)
rank (Unknown cs) = 2 ^ 19 + (255 * 2 ^ 44 + digits_of cs)

-- ---- the type of a rank

-- digits up to the first 0, each less one
unfoldable pub trim : List ℕ → List ℕ
trim [] = []
trim (zero ∷ ds) = []
trim (suc d ∷ ds) = d ∷ trim ds

-- an Unknown's list from its eleven digits
unfoldable pub members_of : ℕ → List ℕ
members_of digits = trim (unpack 11 digits)

-- what is no array, from its number below 2 ^ 11
unfoldable pub known_base : ℕ → ArgType
known_base b = cond (ltb b (2 ^ 10)) (Primitive b) (Object (b - 2 ^ 10))

-- a rank's type; of a number that is no rank, some type
unfoldable pub unrank : ℕ → ArgType
unrank r =
    cond (ltb r (2 ^ 19)) (arrays (r / 2 ^ 11) (known_base (r % 2 ^ 11)))
    (arrays (255 - (r - 2 ^ 19) / 2 ^ 44) (Unknown (members_of ((r - 2 ^ 19) % 2 ^ 44))))

-- ---- the key of a bound: component (9 bits), kind (3), rank of the type (52)

-- the order of keys is by component, then by kind, then by type
unfoldable pub key : ℕ → ℕ → ArgType → ℕ
key component kind t = component * 2 ^ 55 + (kind * 2 ^ 52 + rank t)

-- its parts
abbrev pub key_component : ℕ → ℕ
key_component k = k / 2 ^ 55

abbrev pub key_kind : ℕ → ℕ
key_kind k = k / 2 ^ 52 % 8

unfoldable pub key_type : ℕ → ArgType
key_type k = unrank (k % 2 ^ 52)
