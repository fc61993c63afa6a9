-- `put_brackets` meets its contract.
use Rattle.std.proofs.Common.{ℕ, ap, ◌∙◌, replicate}
use Rattle.std.proofs.Math.Seq.{sets}
use Rattle.writer.specs.Store.{lent-length, lent-back}
use Rattle.writer.proofs.put_brackets.Goals as goal

pub returns : goal.returns
returns c =
    let a = c.args in
    let e = c.fill.ensures.after (λ y h. h) in
    lent-back a.at a.dims a.out.now c.fill.new.self (c.fill.ensures.len ∙ lent-length a.at a.dims a.out.now c.requires) c.requires
    ∙ ap (sets a.out.now a.at) (e ∙ ap (λ (n : ℕ). replicate n 91) (lent-length a.at a.dims a.out.now c.requires))
