-- The example of the scope paper from its table, by computation: a/Probe 0, a/TrussA 1, a/TrussB 2, java/lang/Object 3.
use Rattle.std.specs.Prelude.{◌≡◌, refl, List, [], ◌∷◌, ℕ, ◌-◌, ◌^◌, replicate}
use Rattle.std.proofs.Math.Option.{some}
use Rattle.sets.specs.Sets.{bit, at, member, insert, members, first}
use Rattle.sorted.specs.Sorted.{bisect, place}
use Rattle.tables.specs.declared.Tables.{Tables}
use Rattle.view.specs.declared.Relation.TheVariants.{No, Unknown}
use Rattle.view.specs.View.{View, insert_all, with_parents, grow, level, reached, reach, steps, distance, ancestor, all_recorded, complete, relation, common, below, any_below, lowest, nearer, nearest, numbers, candidates, supertype}
use Rattle.tables.specs.Table.{own_run, parents_in, parents_of, mark, view_of}

-- a/Probe has the parent Object, the other two have a/Probe
abbrev keys : List ℕ
keys = 3 ∷ 1024 ∷ 2048 ∷ []

abbrev classes : Tables
classes = record { names = 4; bytes = 39; object = 3; cloneable = 2 ^ 64 - 1; serializable = 2 ^ 64 - 1; pairs = 3 }

-- the classes of which the digits of a word tell that they are recorded
abbrev recording : ℕ → View
recording word = view_of keys (word ∷ replicate 63 0) classes

pub table-examples : (relation (recording 15) 0 1 ≡ No) × (supertype (recording 15) 1 2 ≡ some 0) × (relation (recording 7) 0 1 ≡ Unknown) × (distance (recording 15) 1 3 ≡ some 2)
unfolding bit at member insert members first bisect place own_run parents_in parents_of mark insert_all with_parents grow level reached reach steps distance ancestor all_recorded complete relation common below any_below lowest nearer nearest numbers candidates supertype
table-examples = (refl, refl, refl, refl)
