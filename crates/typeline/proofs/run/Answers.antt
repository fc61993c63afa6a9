-- `run` meets its contract: what is held is held after each read.
use Rattle.std.proofs.Common.{refl, ◌∙◌}
use Rattle.typeline.specs.Held.{holds-same, none-used}
use Rattle.typeline.proofs.run.Goals as goal

pub reads-init : goal.reads-init
reads-init g c = (holds-same c.args.last.now c.args.pairs.now c.args.marks.now c.args.rows.now c.args.answers.now c.args.out.now _ _ 0 0 c.requires.0 c.no_numbers-numbers.ensures refl, c.requires.1, none-used 0 refl)

pub reads-preserved : goal.reads-preserved
reads-preserved g c = let h = c.in_ok-s.ensures.ok in (h.0, c.some.auto.line ∙ c.reads.invariant.1, h.1)
