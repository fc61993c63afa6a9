-- `TypeWord::concrete_hint` meets its contract.
use mathlib.Core.Path.{sym, ap, ◌∙◌}
use Prim.Native.Nat.{ℕ}
use Rattle.ty.specs.Answers.{word, maybe_word}
use Rattle.ty.specs.Types.{hint_of_list}
use Rattle.ty.specs.Words.{list_of, type_of}
use Rattle.std.specs.Prelude.{Some}
use Rattle.ty.specs.Steps.{hint-known, hint-vague, hint-unknown, concrete-word}
use Rattle.ty.proofs.TypeWord.concrete_hint.Goals as goal

pub returns-then-is_concrete : goal.returns-then-is_concrete
returns-then-is_concrete c =
    let a = c.args in
    let t = sym c.is_concrete.ensures ∙ c.if-is_concrete.true in
    sym (ap maybe_word (hint-known a.object (type_of a.self.word) (sym c.is_known.ensures ∙ c.if-is_known.true) t)
    ∙ ap (λ (w : ℕ). Some (word w)) (concrete-word a.self.word t))

pub returns-then-is_known : goal.returns-then-is_known
returns-then-is_known c =
    let a = c.args in
    sym (ap maybe_word (hint-vague a.object (type_of a.self.word) (sym c.is_known.ensures ∙ c.if-is_known.true) (sym c.is_concrete.ensures ∙ c.if-is_concrete.false)))

pub returns : goal.returns
returns c =
    let a = c.args in
    c.single_hint.ensures
    ∙ ap (λ (l : ℕ). maybe_word (hint_of_list a.object (list_of l))) c.load.ensures
    ∙ sym (ap maybe_word (hint-unknown a.object a.self.word (sym c.is_known.ensures ∙ c.if-is_known.false)))
