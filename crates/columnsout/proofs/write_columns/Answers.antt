-- `write_columns` meets its contract: after i steps the first i entries stand in each column.
use Rattle.std.specs.Prelude.{◌≡◌, List, ℕ, length, set}
use Rattle.std.proofs.Common.{refl, ap, ◌∙◌, arith}
use Rattle.keys.specs.Rank.{key_component, key_kind}
use Rattle.copying.specs.Copies.{word_in}
use Rattle.columnsout.specs.Columns.{front, front-more}
use Rattle.columnsout.proofs.write_columns.Goals as goal

pub loop-i-init : goal.loop-i-init
loop-i-init c = (omega arith, refl, refl, refl)

pub loop-i-preserved : goal.loop-i-preserved
loop-i-preserved c =
    let a = c.args in
    let l = c.loop-i in
    let k = a.keys.now in (
      omega arith,
      ap (λ (o : List ℕ). set o l.i c.key_component-component.result) l.invariant.1
          ∙ front-more key_component k a.out_comp.now l.i c.key_component-component.result c.key_component-component.ensures (omega arith) c.requires.0,
      ap (λ (o : List ℕ). set o l.i c.key_kind-kind.result) l.invariant.2
          ∙ front-more key_kind k a.out_kind.now l.i c.key_kind-kind.result c.key_kind-kind.ensures (omega arith) c.requires.1,
      ap (λ (o : List ℕ). set o l.i c.key_type-t.result.word) l.invariant.3
          ∙ front-more word_in k a.out_type.now l.i c.key_type-t.result.word c.key_type-t.ensures (omega arith) c.requires.2,
    )

pub returns : goal.returns
returns c =
    let a = c.args in
    let l = c.loop-i in
    let e : l.i ≡ length a.keys.now = omega arith in
    record {
      components-are = l.invariant.1 ∙ ap (front key_component a.keys.now a.out_comp.now) e;
      kinds-are = l.invariant.2 ∙ ap (front key_kind a.keys.now a.out_kind.now) e;
      types-are = l.invariant.3 ∙ ap (front word_in a.keys.now a.out_type.now) e;
    }
