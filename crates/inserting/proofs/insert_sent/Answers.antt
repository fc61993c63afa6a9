-- `insert_sent` meets its contract: nothing, one bound, or 20.
use mathlib.Core.Path.{◌∙◌}
use Rattle.inserting.specs.Steps.{sent-none, sent-rank, sent-deep, sent-ranked}
use Rattle.inserting.proofs.insert_sent.Goals as goal

pub insert_bound-requires : goal.insert_bound-requires
insert_bound-requires c =
    let x = c.args in
    let p = c.requires in
    (p.0, p.1, p.2, sent-ranked x.a.now x.ring.now x.s x.component x.kind x.t c.in-Rank.rank c.in-Rank.is p.3)

pub returns-in-Nothing : goal.returns-in-Nothing
returns-in-Nothing c =
    let x = c.args in
    sent-none x.a.now x.ring.now x.s x.component x.kind x.t c.in-Nothing.is

pub returns-in-Rank : goal.returns-in-Rank
returns-in-Rank c =
    let x = c.args in
    c.insert_bound.ensures
    ∙ sent-rank x.a.now x.ring.now x.s x.component x.kind x.t c.in-Rank.rank c.in-Rank.is c.requires.0.good.going

pub returns-in-Deep : goal.returns-in-Deep
returns-in-Deep c =
    let x = c.args in
    sent-deep x.a.now x.ring.now x.s x.component x.kind x.t c.refused.result c.in-Deep.is c.requires.0.good.going c.refused.ensures
