-- `array_element` meets its contract: what is produced is legal, and its element the one of the bounds.
use mathlib.Core.Path.{ap, ◌∙◌}
use mathlib.Core.List.{[], map}
use mathlib.Core.Option.{Option}
use native.Mathlib.Omega.{arith}
use Rattle.ty.specs.Types.{ArgType}
use Rattle.ty.specs.Words.{type_of}
use Rattle.ty.specs.Answers.{maybe_word}
use Rattle.lattice.specs.Lattice.{most_specific_upper}
use Rattle.lattice.specs.World.{world_of}
use Rattle.solving.specs.Solving.{produced_type, or_else, element_of}
use Rattle.resolving.specs.Bounds.{state_in}
use Rattle.resolving.specs.Laws.{word-types, word-legal, element-whole, produced-option}
use Rattle.resolving.proofs.array_element.Goals as goal

pub element_of-requires : goal.element_of-requires
element_of-requires c =
    let a = c.args in
    let p = c.requires in
    let fits = p.0.1 in
    (p.0, word-legal a.t fits (produced_type (world_of a.pairs.now a.marks.now a.t) (state_in a.exact.now a.lower.now [] [] [])) (produced-option a.pairs.now a.marks.now a.t fits a.exact.now a.lower.now p.1.0 (λ i. omega (arith, (c.type_inv.exact i).fits)) p.2.0 (λ i. omega (arith, (c.type_inv.lower i).fits))) c.produced_type-produced.result c.produced_type-produced.ensures, p.3)

pub returns : goal.returns
returns c =
    let a = c.args in
    let p = c.requires in
    let fits = p.0.1 in
    let w = world_of a.pairs.now a.marks.now a.t in
    c.element_of.ensures
    ∙ ap (λ (o : Option ArgType). maybe_word (element_of (or_else o (most_specific_upper w (map type_of a.upper.now))))) (word-types a.t fits (produced_type (world_of a.pairs.now a.marks.now a.t) (state_in a.exact.now a.lower.now [] [] [])) (produced-option a.pairs.now a.marks.now a.t fits a.exact.now a.lower.now p.1.0 (λ i. omega (arith, (c.type_inv.exact i).fits)) p.2.0 (λ i. omega (arith, (c.type_inv.lower i).fits))) c.produced_type-produced.result c.produced_type-produced.ensures)
    ∙ ap maybe_word (element-whole w a.exact.now a.lower.now a.upper.now [] [])
