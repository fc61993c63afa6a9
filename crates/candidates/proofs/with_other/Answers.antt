-- `with_other` meets its contract.
use mathlib.Core.Path.{refl, ap, ◌∙◌}
use Prim.Native.Nat.{ℕ}
use Rattle.sets.specs.Sets.{insert}
use Rattle.view.specs.Ancestors.{ancestor-self}
use Rattle.view.specs.Relations.{relation-yes}
use Rattle.tables.specs.Table.{view_of}
use Rattle.lattice.specs.World.{world_of}
use Rattle.candidates.specs.Groups.{grouped-class, grouped-other}
use Rattle.candidates.proofs.with_other.Goals as goal

pub returns-then-other-g : goal.returns-then-other-g
returns-then-other-g c =
    let a = c.args in
    let v = view_of a.pairs.now a.marks.now a.t in (
      refl,
      λ ts old.
          grouped-class (world_of a.pairs.now a.marks.now a.t) a.g.head ts a.g.classes.words old a.other.word (λ x. (relation-yes v x x).1 (ancestor-self v x))
          c.requires.2 c.if-other-g.true a.candidate.word c.requires.1 c.with.result.words
          (c.with.ensures ∙ ap (λ (k : ℕ). insert a.g.classes.words k) c.load.ensures),
    )

pub returns : goal.returns
returns c = let a = c.args in (
  refl,
  λ ts old.
      grouped-other (world_of a.pairs.now a.marks.now a.t) a.g.head ts a.g.classes.words old a.other.word c.if-other-g.false a.candidate.word c.requires.1
      c.is_assignable-rest.result c.is_assignable-rest.ensures,
)
