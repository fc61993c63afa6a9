-- THE TABLE AS SORTED NUMBERS: a bound as its key, component (9 bits), kind (3), rank of its type (52). Of legal bounds the keys stand in
-- the order of the bounds; one put of the crate sorted is one insertion; and the types of a component's kind are a run of neighbours.
use Rattle.std.proofs.Math.Path.{◌≡◌}
use Rattle.std.specs.Prelude.{ℕ, ◌+◌, ◌*◌, ◌<◌, ltb, length}
use Rattle.std.proofs.Math.Bool.{cond}
use mathlib.Core.List.{List, [], ◌∷◌, map, Memᴰ}
use Rattle.std.proofs.Math.ListN.{take}
use Rattle.sorted.specs.declared.Put.{Put}
use Rattle.sorted.specs.declared.Put.TheVariants.{Old, New as Added, Full}
use Rattle.keys.specs.Rank.{key, key_component, key_kind, key_type}
use Rattle.keys.specs.Laws.{LegalType}
use Rattle.solving.specs.Ordered.{insert}
use Rattle.solving.specs.Solving.{Bound, bound, Table, compare_bounds, Outcome, Refused, Going, room, enqueue}

abbrev pub key_of : Bound → ℕ
key_of b = key b.component b.kind b.type

abbrev pub bound_of : ℕ → Bound
bound_of x = bound (key_component x) (key_kind x) (key_type x)

abbrev pub keys_of : Table → List ℕ
keys_of t = map key_of t

-- a bound that has a key
pub record Keyed (b : Bound) : Type 0 where
  pub kind : b.kind < 8
  pub type : LegalType b.type

abbrev pub AllKeyed : Table → Type 0
AllKeyed t = (b : Bound) → Memᴰ b t → Keyed b

-- ---- ONE PUT IS ONE INSERTION: the keys are the first n of a slice of 4,096

pub record Holds (a : List ℕ) (n : ℕ) (t : Table) : Type 0 where
  pub keys : take n a ≡ keys_of t
  pub count : n ≡ length t
  pub size : length a ≡ room

-- by a put's answer
abbrev pub by_put : Put → Bound → Table → List ℕ → Outcome
by_put Old b t q = Going t q
by_put Added b t q = Going (insert compare_bounds b t) (enqueue b.component q)
by_put Full b t q = Refused 21

abbrev pub table_by : Put → Bound → Table → Table
table_by Old b t = t
table_by Added b t = insert compare_bounds b t
table_by Full b t = t

-- ---- A COMPONENT'S TYPES OF A KIND ARE A RUN OF NEIGHBOURS

-- the entries from lo on, up to hi
unfoldable pub between : ℕ → ℕ → List ℕ → List ℕ
between lo hi [] = []
between lo hi (y ∷ ys) = cond (ltb y lo) (between lo hi ys) (cond (ltb y hi) (y ∷ between lo hi ys) (between lo hi ys))

-- the keys of a component and kind
abbrev pub prefix : ℕ → ℕ → ℕ
prefix c k = c * 8 + k
