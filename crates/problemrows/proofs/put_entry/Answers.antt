-- `put_entry` meets its contract: by what `insert` answers for the part that may be filled.
use mathlib.Core.Path.{sym, ◌∙◌}
use Prim.Native.Nat.{◌-◌}
use native.Mathlib.Omega.{arith}
use Rattle.sorted.specs.declared.Put.TheVariants.{Old, New, Full}
use Rattle.problemrows.specs.Laws.{entry-adds}
use Rattle.problemrows.proofs.put_entry.Goals as goal

pub returns-in-Old : goal.returns-in-Old
returns-in-Old c =
    let a = c.args in
    let put = c.insert-p in
    entry-adds a.room a.x a.n (a.room - 0) a.entries.now c.requires.0 c.requires.1 c.requires.2 (omega arith) Old (sym c.in-Old.is ∙ put.ensures.0) _ put.ensures.1

pub returns-in-New : goal.returns-in-New
returns-in-New c =
    let a = c.args in
    let put = c.insert-p in
    entry-adds a.room a.x a.n (a.room - 0) a.entries.now c.requires.0 c.requires.1 c.requires.2 (omega arith) New (sym c.in-New.is ∙ put.ensures.0) _ put.ensures.1

pub returns-in-Full : goal.returns-in-Full
returns-in-Full c =
    let a = c.args in
    let put = c.insert-p in
    entry-adds a.room a.x a.n (a.room - 0) a.entries.now c.requires.0 c.requires.1 c.requires.2 (omega arith) Full (sym c.in-Full.is ∙ put.ensures.0) _ put.ensures.1
