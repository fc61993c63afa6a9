-- `with_class_hint` meets its contract: the group of the hint's head tells whether it counts.
use mathlib.Core.Path.{sym, ap, ◌∙◌}
use mathlib.Core.Bool.{Bool, cond}
use mathlib.Core.List.{map}
use Rattle.ty.specs.Words.{type_of}
use Rattle.lattice.specs.Lattice.{lesser}
use Rattle.candidates.specs.Maybe.{maybe_type}
use Rattle.candidates.proofs.with_class_hint.Goals as goal

pub takes-taken-requires : goal.takes-taken-requires
takes-taken-requires c =
    let p = c.requires in
    (p.0, (p.2, p.3, sym c.group_for-group.ensures.0))

pub returns : goal.returns
returns c =
    let a = c.args in
    let r = c.lesser_if.ensures in
    let g = c.group_for-group.ensures.1 in
    record {
      legal = r.0;
      type = r.1 ∙ ap (λ (b : Bool). cond b (lesser (type_of a.hint.word) (maybe_type a.b.best)) (maybe_type a.b.best)) (c.takes-taken.ensures (map type_of a.upper.now) g);
      group = g;
    }
