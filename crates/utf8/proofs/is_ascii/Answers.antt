-- `is_ascii` meets its contract: the bytes passed are all below 80 where `plain` says so, and the rest is still to be tested.
use Rattle.std.proofs.Common.{◌+◌, ◌-◌, take, ◌&&◌, sym, ap, ◌∙◌, ltb, get_or, drop, arith}
use mathlib.Core.Bool.{and_assoc, and-true}
use Rattle.utf8.specs.Utf8.{ascii}
use Rattle.utf8.proofs.Part.{part-slice, ascii-step, ascii-end}
use Rattle.utf8.proofs.is_ascii.Goals as goal

pub loop-byte-preserved : goal.loop-byte-preserved
loop-byte-preserved c =
    let l = c.loop-byte in
    let bs = take (c.args.to - c.args.from) (drop c.args.from c.args.s.now) in
    let k = l.byte-index in
    l.invariant ∙ ap (λ t. l.plain && t) (ascii-step bs k (omega arith)) ∙ sym (and_assoc l.plain (ltb (get_or bs k 0) 0x80) (ascii (drop (k + 1) bs)))

pub returns : goal.returns
returns c =
    let a = c.args in
    let l = c.loop-byte in
    let bs = take (a.to - a.from) (drop a.from a.s.now) in
    sym (sym (ap ascii (part-slice a.from a.to a.s.now c.requires.0)) ∙ l.invariant ∙ ap (λ t. l.plain && t) (ascii-end bs l.byte-index (omega arith)) ∙ and-true l.plain)
