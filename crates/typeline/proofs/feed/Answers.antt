-- `feed` meets its contract: a part ends inside the chunk, and what is held is held after each piece.
use Rattle.std.proofs.Common.{◌∙◌, arith, length, zero-le}
use Rattle.typeline.specs.Held.{feed-less, feed-more, next-fits}
use Rattle.typeline.proofs.feed.Goals as goal

pub overflow_add-i : goal.overflow_add-i
overflow_add-i g c = next-fits (length c.args.chunk.now) c.line_end-e.result c.line_end-e.ensures.1 c.loop-i.invariant.short

pub loop-i-smaller : goal.loop-i-smaller
loop-i-smaller g c = feed-less (length c.args.chunk.now) c.loop-i.i c.line_end-e.result c.loop-i-test.true c.line_end-e.ensures.0 c.line_end-e.ensures.1

pub loop-i-preserved : goal.loop-i-preserved
loop-i-preserved g c = let v = c.loop-i.invariant in let h = c.in_ok-t.ensures.ok in record {
  within = feed-more (length c.args.chunk.now) c.line_end-e.result c.line_end-e.ensures.1;
  short = v.short;
  holds = h.0;
  line = c.piece.auto.line ∙ v.line;
  used = h.1;
}

pub loop-i-init : goal.loop-i-init
loop-i-init g c = record { within = zero-le; short = omega arith; holds = c.requires.0; line = c.requires.1; used = c.requires.2 }
