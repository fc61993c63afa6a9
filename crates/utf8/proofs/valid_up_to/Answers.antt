-- `valid_up_to` meets its contract: a part that is ASCII or clean is well-formed, and of any other the sequences tell.
use mathlib.Core.Path.{sym, ap, ◌∙◌}
use mathlib.Core.List.{List}
use Prim.Native.Nat.{ℕ, ◌+◌}
use Rattle.utf8.specs.Utf8.{valid_prefix}
use Rattle.utf8.proofs.Part.{part-slice, ascii-part}
use Rattle.utf8.proofs.valid_up_to.Goals as goal

pub returns-then-is_ascii : goal.returns-then-is_ascii
returns-then-is_ascii c =
    let a = c.args in
    sym (ascii-part a.s.now a.from a.to c.requires.0 c.requires.1 (sym c.is_ascii.ensures ∙ c.if-is_ascii.true))

pub returns-then-is_clean : goal.returns-then-is_clean
returns-then-is_clean c =
    let a = c.args in
    sym (ap (λ (l : List ℕ). a.from + valid_prefix l) (part-slice a.from a.to a.s.now c.requires.0) ∙ c.is_clean.ensures c.if-is_clean.true)

pub returns-else-is_clean : goal.returns-else-is_clean
returns-else-is_clean c =
    let a = c.args in
    c.by_sequences.ensures ∙ sym (ap (λ (l : List ℕ). a.from + valid_prefix l) (part-slice a.from a.to a.s.now c.requires.0))
