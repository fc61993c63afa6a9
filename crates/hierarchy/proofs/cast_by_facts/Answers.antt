-- `cast_by_facts` meets its contract, one law for each answer.
use borrow.Author.Tests.{not-true, not-false}
use mathlib.Core.Path.{sym, ap, ◌∙◌}
use mathlib.Core.Bool.{not}
use Rattle.hierarchy.proofs.Answers.{undeclared-source, undeclared-target, both-interfaces, source-interface, target-interface, no-interface}
use Rattle.hierarchy.proofs.cast_by_facts.Goals as goal

pub returns-then-not-is_marked : goal.returns-then-not-is_marked
returns-then-not-is_marked c =
    let a = c.args in
    undeclared-source a.marks.now a.source a.target (sym c.is_marked.ensures ∙ not-true _ c.if-not-is_marked.true-raw)

pub returns-then-not-is_marked-2 : goal.returns-then-not-is_marked-2
returns-then-not-is_marked-2 c =
    let a = c.args in
    undeclared-target a.marks.now a.source a.target (sym c.is_marked.ensures ∙ not-false _ c.if-not-is_marked.false-raw) (sym c.is_marked-2.ensures ∙ not-true _ c.if-not-is_marked-2.true-raw)

pub returns-then-interface : goal.returns-then-interface
returns-then-interface c =
    let a = c.args in
    both-interfaces a.marks.now a.source a.target (sym c.is_marked.ensures ∙ not-false _ c.if-not-is_marked.false-raw) (sym c.is_marked-2.ensures ∙ not-false _ c.if-not-is_marked-2.false-raw)
    (sym c.is_marked-3.ensures ∙ c.if-is_marked.true) (sym c.is_marked-interface.ensures ∙ c.if-interface.true)

pub returns-then-is_marked : goal.returns-then-is_marked
returns-then-is_marked c =
    let a = c.args in
    ap not c.is_marked-then-is_marked.ensures
    ∙ source-interface a.marks.now a.source a.target (sym c.is_marked.ensures ∙ not-false _ c.if-not-is_marked.false-raw) (sym c.is_marked-2.ensures ∙ not-false _ c.if-not-is_marked-2.false-raw)
    (sym c.is_marked-3.ensures ∙ c.if-is_marked.true) (sym c.is_marked-interface.ensures ∙ c.if-interface.false)

pub returns-then-interface-2 : goal.returns-then-interface-2
returns-then-interface-2 c =
    let a = c.args in
    ap not c.is_marked-then-interface-2.ensures
    ∙ target-interface a.marks.now a.source a.target (sym c.is_marked.ensures ∙ not-false _ c.if-not-is_marked.false-raw) (sym c.is_marked-2.ensures ∙ not-false _ c.if-not-is_marked-2.false-raw)
    (sym c.is_marked-3.ensures ∙ c.if-is_marked.false) (sym c.is_marked-interface.ensures ∙ c.if-interface-2.true)

pub returns : goal.returns
returns c =
    let a = c.args in
    no-interface a.marks.now a.source a.target (sym c.is_marked.ensures ∙ not-false _ c.if-not-is_marked.false-raw) (sym c.is_marked-2.ensures ∙ not-false _ c.if-not-is_marked-2.false-raw)
    (sym c.is_marked-3.ensures ∙ c.if-is_marked.false) (sym c.is_marked-interface.ensures ∙ c.if-interface-2.false)
