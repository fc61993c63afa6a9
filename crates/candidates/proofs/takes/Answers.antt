-- `takes` meets its contract.
use mathlib.Core.Path.{subst}
use Prim.Native.Nat.{ℕ}
use Rattle.lattice.specs.World.{world_of}
use Rattle.candidates.specs.Groups.{Stands, taken-by, taken-not}
use Rattle.candidates.proofs.takes.Goals as goal

pub returns-then-g : goal.returns-then-g
returns-then-g c =
    let a = c.args in
    let w = world_of a.pairs.now a.marks.now a.t in
    λ ts g.
    taken-by w ts a.g.head a.g.rest a.g.classes.words a.candidate.word c.requires.1 g c.if-g.true c.stands_for_all.result
    (subst (λ (x : ℕ). Stands w x a.g.classes.words c.stands_for_all.result) c.load.ensures c.stands_for_all.ensures)

pub returns : goal.returns
returns c =
    let a = c.args in
    λ ts g. taken-not (world_of a.pairs.now a.marks.now a.t) ts a.g.head a.g.rest a.g.classes.words a.candidate.word c.requires.1 g c.if-g.false
