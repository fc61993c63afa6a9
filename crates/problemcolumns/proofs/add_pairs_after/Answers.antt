-- `add_pairs_after` meets its contract: nothing after a refusal, else the pairs.
use mathlib.Core.List.{[]}
use Rattle.problemcolumns.specs.Runs.{pair_run}
use Rattle.problemcolumns.specs.Steps.{after-refused, after-taken}
use Rattle.problemcolumns.proofs.add_pairs_after.Goals as goal

pub returns-then-refusal-ne0 : goal.returns-then-refusal-ne0
returns-then-refusal-ne0 c =
    let a = c.args in
    after-refused a.refusal (pair_run a.components a.room a.firsts.now a.seconds.now []) a.pairs.now a.pairs.now c.if-refusal-ne0.true

pub returns : goal.returns
returns c =
    let a = c.args in
    let pairs = c.add_pairs in
    after-taken a.refusal (pair_run a.components a.room a.firsts.now a.seconds.now []) a.pairs.now pairs.new.pairs pairs.result c.if-refusal-ne0.false pairs.ensures
