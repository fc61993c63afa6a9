-- `put_bytes` meets its contract.
use Rattle.std.proofs.Common.{◌≡◌, ◌+◌, ◌-◌, ℕ, take, drop, ap, ◌∙◌, arith}
use Rattle.std.proofs.Math.Seq.{sets}
use Rattle.writer.specs.Store.{lent-length, lent-back}
use Rattle.writer.proofs.put_bytes.Goals as goal

pub returns : goal.returns
returns c =
    let a = c.args in
    let e = c.copy_from_slice.ensures in
    let k : a.from + a.n - a.from ≡ a.n = omega arith in
    lent-back a.at a.n a.out.now c.copy_from_slice.new.self (e.len ∙ lent-length a.at a.n a.out.now c.requires.1) c.requires.1
    ∙ ap (sets a.out.now a.at) (e.after ∙ ap (λ (n : ℕ). take n (drop a.from a.bytes.now)) k)
