-- `piece` meets its contract: a whole line is answered, another waits.
use Rattle.std.proofs.lemmas.Result.{IfOk-weaker}
use Rattle.typeline.specs.Held.{holds-same, none-used, appended}
use Rattle.typeline.proofs.piece.Goals as goal

pub returns-then-is_whole-clause-ok : goal.returns-then-is_whole-clause-ok
returns-then-is_whole-clause-ok g c = IfOk-weaker c.whole.result _ _ (λ t h. (h.0, none-used t.used h.1)) c.whole.ensures.ok

pub returns-clause-ok : goal.returns-clause-ok
returns-clause-ok g c = let a = c.append-used in let u = c.with_used.ensures in (holds-same c.args.last.now c.args.pairs.now c.args.marks.now c.args.rows.now c.args.answers.now c.args.out.now c.args.s.numbers _ c.args.s.filled _ c.requires.0 u.0 u.2, appended a.result _ c.args.line.now a.new.line a.ensures a.auto.line c.requires.1 u.1)
