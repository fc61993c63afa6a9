-- `unknown_accepts` meets its contract: the union of the two sets.
use native.Mathlib.Omega.{arith}
use Rattle.lattice.specs.Masks.{accepts-mask}
use Rattle.assignable.proofs.unknown_accepts.Goals as goal

pub returns : goal.returns
returns c =
    let a = c.args in
    accepts-mask a.listed.word a.t.word _ _ (omega arith) (omega arith) c.requires.0 c.requires.1 c.categories-list.ensures c.categories-given.ensures
