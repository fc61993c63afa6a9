-- `value_of` meets its contract: each question by the function of the crate that answers it.
use mathlib.Core.Path.{ap, ◌∙◌}
use Rattle.prepared.specs.Prepared.{plain-prepared}
use Rattle.questions.specs.Questions.{of_types}
use Rattle.questions.specs.Laws.{are-classes, are-types, legal-words, value-relation, value-distance, value-supertype, value-cast, value-join, value-assignable}
use Rattle.questions.proofs.value_of.Goals as goal

pub supertype-requires : goal.supertype-requires
supertype-requires c =
    let a = c.args in
    let p = are-classes a.t.names a.a a.b (of_types a.q) (ap of_types c.in-Supertype.is) c.requires.2 in
    (c.requires.1.0, c.requires.1.1, p.0, p.1, plain-prepared a.pairs.now a.marks.now a.t c.requires.0 (λ e n. c.requires.3 e))

pub join-requires : goal.join-requires
join-requires c =
    let a = c.args in
    let p = are-types a.t.names a.a a.b (of_types a.q) (ap of_types c.in-Join.is) c.requires.2 in
    (c.requires.1, p.0, p.1, plain-prepared a.pairs.now a.marks.now a.t c.requires.0 (λ e n. c.requires.3 e))

pub is_assignable-requires : goal.is_assignable-requires
is_assignable-requires c =
    let a = c.args in
    let p = are-types a.t.names a.a a.b (of_types a.q) (ap of_types c.in-Assignable.is) c.requires.2 in
    let l = legal-words a.t.names a.a a.b c.requires.1.0 p in
    (plain-prepared a.pairs.now a.marks.now a.t c.requires.0 (λ e n. c.requires.3 e), l.0, l.1)

pub returns-in-Relation : goal.returns-in-Relation
returns-in-Relation c =
    let a = c.args in
    value-relation a.pairs.now a.marks.now a.t a.q a.a a.b c.relation_number.result c.in-Relation.is c.subtype_relation.result c.relation_number.ensures c.subtype_relation.ensures

pub returns-in-Distance : goal.returns-in-Distance
returns-in-Distance c =
    let a = c.args in
    value-distance a.pairs.now a.marks.now a.t a.q a.a a.b c.distance.result c.in-Distance.is c.distance.ensures

pub returns-in-Supertype : goal.returns-in-Supertype
returns-in-Supertype c =
    let a = c.args in
    value-supertype a.pairs.now a.marks.now a.t a.q a.a a.b c.supertype.result c.in-Supertype.is c.supertype.ensures

pub returns-in-Cast : goal.returns-in-Cast
returns-in-Cast c =
    let a = c.args in
    value-cast a.pairs.now a.marks.now a.t a.q a.a a.b c.flag.result c.in-Cast.is c.cast.result c.flag.ensures c.cast.ensures

pub returns-in-Join : goal.returns-in-Join
returns-in-Join c =
    let a = c.args in
    value-join a.pairs.now a.marks.now a.t a.q a.a a.b c.number.result c.in-Join.is (c.number.ensures ∙ c.join.ensures)

pub returns-in-Assignable : goal.returns-in-Assignable
returns-in-Assignable c =
    let a = c.args in
    value-assignable a.pairs.now a.marks.now a.t a.q a.a a.b c.flag-in-Assignable.result c.in-Assignable.is c.is_assignable.result c.flag-in-Assignable.ensures c.is_assignable.ensures
