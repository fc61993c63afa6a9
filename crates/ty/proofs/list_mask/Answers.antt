-- `list_mask` meets its contract. The invariant: the set so far, with the digits left, is the whole.
use Rattle.std.proofs.Common.{◌+◌, ◌/◌, ◌^◌, bit_or, sym, ap, ◌∙◌, arith}
use Rattle.ty.specs.Types.{mask_with}
use Rattle.ty.specs.Steps.{rest_of, rest-all, mask-step, one-shifted}
use Rattle.ty.proofs.Ranges.{rest-past}
use Rattle.ty.proofs.list_mask.Goals as goal

pub loop-i-init : goal.loop-i-init
loop-i-init c = ap (mask_with 0) (rest-all c.args.load)

pub loop-i-preserved : goal.loop-i-preserved
loop-i-preserved c =
    let x = c.args.load in
    let l = c.loop-i in
    let e = c.digit.ensures in
    let n = c.min-n.ensures in
    l.invariant ∙ mask-step x (x / 2 ^ 44) l.i l.m (omega arith) (omega arith)
    ∙ ap (λ b. mask_with (bit_or l.m b) (rest_of x (x / 2 ^ 44) (l.i + 1))) (ap (λ d. 2 ^ d) (sym e) ∙ sym (one-shifted c.digit.result (omega arith)))

pub returns : goal.returns
unfolding mask_with
returns c =
    let x = c.args.load in
    let l = c.loop-i in
    let n = c.min-n.ensures in
    sym (l.invariant ∙ ap (mask_with l.m) (rest-past x (x / 2 ^ 44) l.i (omega arith)))
