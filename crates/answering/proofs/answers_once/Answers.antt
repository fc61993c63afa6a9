-- `answers_once` meets its contract: after i steps the first i answers stand at the front, and the places tell which components they are of.
use Rattle.std.specs.Prelude.{◌≡◌, List, ℕ, length, get_or, set}
use Rattle.std.proofs.Common.{refl, ap, ◌∙◌, arith}
use Rattle.std.proofs.Math.Seq.{paste, paste-zero}
use Rattle.lattice.specs.World.{world_of}
use Rattle.passing.specs.Steps.{below-at}
use Rattle.answering.specs.Answering.{table_in, answer_words}
use Rattle.answering.specs.FromFinal.{answer-more}
use Rattle.answering.specs.Once.{places-none, places-next, stands}
use Rattle.answering.proofs.answers_once.Goals as goal

pub loop-i-init : goal.loop-i-init
loop-i-init c =
    let x = c.args in
    (omega arith, paste-zero x.into.now 0 (answer_words (world_of x.pairs.now x.marks.now x.t) (table_in x.keys.now) x.variables.now), places-none x.variables.now x.places.now c.requires.5)

pub offset_bounds-places-k : goal.offset_bounds-places-k
offset_bounds-places-k c = omega (arith, below-at 512 c.args.variables.now c.loop-i.i c.requires.2 (omega arith))

pub bounds-places-k : goal.bounds-places-k
bounds-places-k c = omega (arith, below-at 512 c.args.variables.now c.loop-i.i c.requires.2 (omega arith), c.loop-i.invariant.2.size)

pub word_of-requires : goal.word_of-requires
word_of-requires c =
    let x = c.args in
    let p = c.requires in
    let l = c.loop-i in (
      p.0,
      p.1,
      below-at 512 x.variables.now l.i p.2 (omega arith),
      omega (arith, p.3, l.auto.out),
      stands (world_of x.pairs.now x.marks.now x.t) (table_in x.keys.now) x.variables.now l.places x.into.now l.into l.i l.invariant.2 l.invariant.0 p.4 l.invariant.1 (get_or x.variables.now l.i 0),
    )

pub offset_bounds-places-k-in-loop-i : goal.offset_bounds-places-k-in-loop-i
offset_bounds-places-k-in-loop-i c = omega (arith, below-at 512 c.args.variables.now c.loop-i.i c.requires.2 (omega arith))

pub bounds-places-k-in-loop-i : goal.bounds-places-k-in-loop-i
bounds-places-k-in-loop-i c = omega (arith, below-at 512 c.args.variables.now c.loop-i.i c.requires.2 (omega arith), c.loop-i.invariant.2.size)

pub loop-i-preserved : goal.loop-i-preserved
loop-i-preserved c =
    let x = c.args in
    let p = c.requires in
    let l = c.loop-i in
    let o = c.word_of in
    let v = get_or x.variables.now l.i 0 in (
      omega arith,
      ap (λ (d : List ℕ). set d l.i o.result) l.invariant.1
          ∙ answer-more (world_of x.pairs.now x.marks.now x.t) (table_in x.keys.now) x.variables.now x.into.now l.i o.result o.ensures (omega arith) p.4,
      places-next x.variables.now l.places l.i v l.invariant.2 refl (below-at 512 x.variables.now l.i p.2 (omega arith)),
    )

pub returns : goal.returns
returns c =
    let x = c.args in
    let l = c.loop-i in
    l.invariant.1 ∙ ap (paste x.into.now 0 (answer_words (world_of x.pairs.now x.marks.now x.t) (table_in x.keys.now) x.variables.now)) (let e : l.i ≡ length x.variables.now = omega arith in e)
