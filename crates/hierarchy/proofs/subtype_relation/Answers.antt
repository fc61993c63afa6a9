-- `subtype_relation` meets its contract, one law for each answer.
use mathlib.Core.Path.{◌≡◌, sym, ap₂, ◌∙◌}
use mathlib.Core.Bool.{Bool, true, false}
use mathlib.Core.List.{List}
use Rattle.std.specs.Prelude.{Option, is_some}
use Prim.Native.Nat.{ℕ}
use Rattle.sets.specs.Sets.{subtract}
use Rattle.tables.specs.Table.{view_of}
use Rattle.view.specs.View.{View, reach}
use Rattle.hierarchy.specs.Walked.{level_of}
use Rattle.hierarchy.proofs.Walks.{tells}
use Rattle.hierarchy.proofs.Answers.{relation-equal, relation-object, relation-reached, relation-no, relation-unknown}
use Rattle.hierarchy.proofs.subtype_relation.Goals as goal

pub returns-then-value-expected : goal.returns-then-value-expected
returns-then-value-expected c =
    let a = c.args in
    relation-equal a.pairs.now a.marks.now a.t a.value a.expected c.if-value-expected.true

pub returns-then-expected-t : goal.returns-then-expected-t
returns-then-expected-t c =
    let a = c.args in
    relation-object a.pairs.now a.marks.now a.t a.value a.expected c.if-value-expected.false c.if-expected-t.true

-- whether y is reached, by what the walk and the test tell
told : (v : View) (x y : ℕ) (level : Option ℕ) (b : Bool) → level ≡ level_of v x y → b ≡ is_some level → (r : Bool) → b ≡ r → reach v x y ≡ r
told v x y level b e q r t = sym (tells v x y level e) ∙ sym q ∙ t

pub returns-then-is_some : goal.returns-then-is_some
returns-then-is_some c =
    let a = c.args in
    relation-reached a.pairs.now a.marks.now a.t a.value a.expected c.if-value-expected.false c.if-expected-t.false (told (view_of a.pairs.now a.marks.now a.t) a.value a.expected c.walk_to-w.result.level c.is_some.result c.walk_to-w.ensures.at-level c.is_some.ensures true c.if-is_some.true)

pub returns-then-lowest-eq-NAMES : goal.returns-then-lowest-eq-NAMES
returns-then-lowest-eq-NAMES c =
    let a = c.args in
    let w = c.walk_to-w.ensures in
    let r = told (view_of a.pairs.now a.marks.now a.t) a.value a.expected c.walk_to-w.result.level c.is_some.result w.at-level c.is_some.ensures false c.if-is_some.false in
    relation-no a.pairs.now a.marks.now a.t a.value a.expected c.if-value-expected.false c.if-expected-t.false c.requires r c.difference-unrecorded.result.words
    (c.difference-unrecorded.ensures ∙ ap₂ (λ (s k : List ℕ). subtract s k) (w.has-seen r) c.recorded.ensures) (sym c.lowest.ensures ∙ c.if-lowest-eq-NAMES.true)

pub returns : goal.returns
returns c =
    let a = c.args in
    let w = c.walk_to-w.ensures in
    let r = told (view_of a.pairs.now a.marks.now a.t) a.value a.expected c.walk_to-w.result.level c.is_some.result w.at-level c.is_some.ensures false c.if-is_some.false in
    relation-unknown a.pairs.now a.marks.now a.t a.value a.expected c.if-value-expected.false c.if-expected-t.false c.requires r c.difference-unrecorded.result.words
    (c.difference-unrecorded.ensures ∙ ap₂ (λ (s k : List ℕ). subtract s k) (w.has-seen r) c.recorded.ensures) (λ e. c.if-lowest-eq-NAMES.false (c.lowest.ensures ∙ e))
