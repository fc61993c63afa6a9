-- `good_unknown` meets its contract. The invariant: the answer is that of the digits left.
use Rattle.std.proofs.Common.{◌≡◌, ◌-◌, ◌/◌, ◌+◌, ◌^◌, ◌∙◌, sym, ap, Bool, ◌&&◌, ℕ, arith}
use Rattle.ty.specs.Words.{unpack, good_digits}
use Rattle.ty.specs.Steps.{good-step, good-end, unknown-long, unknown-short}
use Rattle.ty.proofs.good_unknown.Goals as goal

pub returns-then-n-gt11 : goal.returns-then-n-gt11
returns-then-n-gt11 c = sym (unknown-long c.args.load c.if-n-gt11.true)

pub loop-i-init : goal.loop-i-init
loop-i-init c =
    let x = c.args.load in
    unknown-short x c.if-n-gt11.false ∙ ap (λ (m : ℕ). good_digits m (unpack 11 x)) (let e : x / 2 ^ 44 ≡ x / 2 ^ 44 - 0 = omega arith in e)

pub returns-then-not-good_digit : goal.returns-then-not-good_digit
returns-then-not-good_digit c =
    let x = c.args.load in
    let l = c.loop-i in
    let n = x / 2 ^ 44 in
    sym (l.invariant ∙ good-step x n l.i (omega arith) c.if-n-gt11.false
    ∙ ap (λ (t : Bool). t && good_digits (n - (l.i + 1)) (unpack (11 - (l.i + 1)) x)) (sym c.good_digit.ensures ∙ c.if-not-good_digit.true))

pub loop-i-preserved : goal.loop-i-preserved
loop-i-preserved c =
    let x = c.args.load in
    let l = c.loop-i in
    let n = x / 2 ^ 44 in
    l.invariant ∙ good-step x n l.i (omega arith) c.if-n-gt11.false
    ∙ ap (λ (t : Bool). t && good_digits (n - (l.i + 1)) (unpack (11 - (l.i + 1)) x)) (sym c.good_digit.ensures ∙ c.if-not-good_digit.false)

pub returns : goal.returns
returns c =
    let x = c.args.load in
    let l = c.loop-i in
    sym (l.invariant ∙ good-end x (x / 2 ^ 44) l.i c.if-n-gt11.false (omega arith))
