-- Worked examples of layers, by computation.
use Rattle.std.specs.Prelude.{◌≡◌, refl, [], ◌∷◌, ◌-◌, ◌^◌, replicate}
use Rattle.order.specs.Lists.{elem}
use Rattle.sets.specs.Sets.{bit, clear, at, member, insert, remove}
use Rattle.sorted.specs.Sorted.{insert_sorted, put}
use Rattle.checks.specs.Checks.{first_refusal}
use Rattle.rows.specs.Rows.{State, good_flags, all_below, put_all, marked, record_marks, record_checks, record_refusal, with_record}
use Rattle.layers.specs.Layers.{Layered, keys_inside, keys_without, keys_left, layer_keys, layer_refusal, with_layer_record, layer_row, opened}

-- of four names: class 1 has the parents 0 and 2, class 2 the parent 3; class 1 is declared as an interface
abbrev pub base : State
base = record {
  tables = record { names = 4; bytes = 20; object = 0; cloneable = 2 ^ 64 - 1; serializable = 2 ^ 64 - 1; pairs = 3 };
  keys = 1024 ∷ 1026 ∷ 2051 ∷ [];
  marks = record_marks 0 2 (record_marks 3 1 (replicate 64 0));
}

-- over it class 1 with the parent 3, then with 2
abbrev pub once : Layered
once = layer_row (opened base) 0 1 (3 ∷ [])

abbrev pub twice : Layered
twice = layer_row once 0 1 (2 ∷ [])

-- THE FIRST RECORD OF A CLASS IN A LAYER TAKES THE PLACE OF THOSE BELOW, a second one unites; other classes stay; facts that it does not
-- declare stay too; the layer's own keys are counted apart
pub layer-takes-the-place :
    (once.shown.keys ≡ 1027 ∷ 2051 ∷ [])
    × (twice.shown.keys ≡ 1026 ∷ 1027 ∷ 2051 ∷ [])
    × (twice.shown.marks ≡ base.marks)
    × (layer_keys once ≡ 1027 ∷ [])
    × (layer_keys twice ≡ 1026 ∷ 1027 ∷ [])
    × (twice.shown.tables.pairs ≡ 3)
unfolding layer_row layer_refusal with_layer_record with_record keys_left keys_inside keys_without record_refusal record_checks first_refusal good_flags all_below put_all put elem insert_sorted marked record_marks bit clear at member insert remove
layer-takes-the-place = (refl, refl, refl, refl, refl, refl)
