-- The domain of a class table in the words of its rows, and that a table of columns is taken exactly if each row lies inside its slice and the
-- rows are in the domain.
use Rattle.std.specs.Prelude.{◌≡◌, Bool, cond, ◌⊎◌, ◌<◌, suc, get_or}
use Rattle.std.proofs.Math.Bool.{true}
use mathlib.Core.List.Memᴰ
use mathlib.Core.List.{List, [], ◌∷◌, ◌++◌, Memᴰ}
use Prim.Native.Nat.{ℕ, ◌+◌, ◌≤◌}
use Rattle.std.proofs.Math.ListN.{length}
use Rattle.utf8.specs.Utf8.{well_formed}
use Rattle.names.specs.Names.{name_at}
use Rattle.rows.specs.Rows.{key, put_all}
use Rattle.columns.specs.Given.{Given}
use Rattle.tableview.specs.TableRows.{Record}
use Rattle.tableview.specs.RowRefusals.{Pair, listed}
use Rattle.std.specs.declared.cmp.Ordering.TheVariants.{Less}
use Rattle.order.specs.Compare.{compare_lists}
use Rattle.rows.specs.Rows.{object_name}
use Rattle.tableview.specs.TableRows.{Rows}
use Rattle.tableview.specs.RowRefusals.{different}
use Rattle.tableview.specs.Canonical.{joined}

-- ---- THE DOMAIN

-- 1 to 255 bytes, well-formed
pub record GoodName (name : List ℕ) : Type 0 where
  pub least : 1 ≤ length name
  pub most : length name ≤ 255
  pub formed : well_formed name ≡ true

-- none; or declared, 1, with interface, 2, and final, 4
abbrev pub Flags : ℕ → Type 0
Flags f = (f ≡ 0) ⊎ ((interface : Bool) × (final : Bool) × (f ≡ 1 + cond interface 2 0 + cond final 4 0))

-- the pairs of all rows, one after the other
unfoldable pub pairs_of : List Record → List Pair
pairs_of [] = []
pairs_of (r ∷ rs) = listed r.class r.parents ++ pairs_of rs

-- two columns for the names and four for the rows, of equal length each
pub record Aligned (g : Given) : Type 0 where
  pub lengths-as : length g.name_len ≡ length g.name_at
  pub classes-as : length g.rec_class ≡ length g.rec_flags
  pub starts-as : length g.rec_at ≡ length g.rec_flags
  pub sizes-as : length g.rec_len ≡ length g.rec_flags

-- ---- pairs and keys

unfoldable pub key_of : Pair → ℕ
key_of p = key p.class p.parent

-- the keys after rows
unfoldable pub keys_from : List Record → List ℕ → List ℕ
keys_from [] l = l
keys_from (r ∷ rs) l = keys_from rs (put_all r.class r.parents l)

-- flags, and a class and at most 254 parents that are numbers of names
pub record GoodRow (names : ℕ) (r : Record) : Type 0 where
  pub flags-good : Flags r.flags
  pub class-in : r.class < names
  pub parents-in : (p : ℕ) → Memᴰ p r.parents → p < names
  pub few : length r.parents ≤ 254

-- THE LIMITS: at most 1,024 names of 24,576 bytes, each good and above the one before it; rows of them; at most 4,096 different pairs
pub record InLimits (t : Rows) : Type 0 where
  pub few-names : length t.names ≤ 1024
  pub few-bytes : length (joined t.names) ≤ 24576
  pub names-good : (i : ℕ) → i < length t.names → GoodName (get_or t.names i [])
  pub rising : (i : ℕ) → suc i < length t.names → compare_lists (get_or t.names i []) (get_or t.names (suc i) []) ≡ Less
  pub rows-good : (r : Record) → Memᴰ r t.records → GoodRow (length t.names) r
  pub few-pairs : different (pairs_of t.records) ≤ 4096

-- and java/lang/Object among the names
pub record InDomain (t : Rows) : Type 0 where
  pub limits : InLimits t
  pub object-named : Memᴰ object_name t.names

-- each name inside the bytes, each list of parents inside the parents
pub record Placed (g : Given) : Type 0 where
  pub names-in : (i : ℕ) → i < length g.name_at → get_or g.name_at i 0 + get_or g.name_len i 0 ≤ length g.names
  pub parents-in : (i : ℕ) → i < length g.rec_flags → get_or g.rec_at i 0 + get_or g.rec_len i 0 ≤ length g.parents
