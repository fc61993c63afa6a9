-- `check_numbers` meets its contract, one law for each refusal.
use mathlib.Core.Path.{sym, ◌∙◌}
use mathlib.Core.List.{[], ◌∷◌}
use Rattle.questions.specs.Laws.{ran-refused, ran-word, ran-class, ran-object, ran-none}
use Rattle.questions.proofs.check_numbers.Goals as goal

pub returns-then-o-ne0 : goal.returns-then-o-ne0
returns-then-o-ne0 c =
    let a = c.args in
    ran-refused a.o.refusal a.o.tables a.types (a.a ∷ a.b ∷ []) c.if-o-ne0.true

pub returns-then-t : goal.returns-then-t
returns-then-t c =
    let a = c.args in
    ran-object a.o.refusal a.o.tables a.types (a.a ∷ a.b ∷ []) c.if-o-ne0.false (sym c.are_good.ensures ∙ c.if-are_good.true) c.if-t.true

pub returns-then-are_good : goal.returns-then-are_good
returns-then-are_good c =
    let a = c.args in
    ran-none a.o.refusal a.o.tables a.types (a.a ∷ a.b ∷ []) c.if-o-ne0.false (sym c.are_good.ensures ∙ c.if-are_good.true) c.if-t.false

pub returns-then-types : goal.returns-then-types
returns-then-types c =
    let a = c.args in
    ran-word a.o.refusal a.o.tables a.types (a.a ∷ a.b ∷ []) c.if-o-ne0.false (sym c.are_good.ensures ∙ c.if-are_good.false) c.if-types.true

pub returns : goal.returns
returns c =
    let a = c.args in
    ran-class a.o.refusal a.o.tables a.types (a.a ∷ a.b ∷ []) c.if-o-ne0.false (sym c.are_good.ensures ∙ c.if-are_good.false) c.if-types.false
