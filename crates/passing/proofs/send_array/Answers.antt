-- `send_array` meets its contract: the array's side first, then the other.
use mathlib.Core.Path.{sym, ap, ◌∙◌}
use mathlib.Core.List.{List}
use Rattle.solving.specs.Solving.{Addition}
use Rattle.inserting.specs.Store.{store, put_all, sent_types}
use Rattle.passing.specs.Steps.{array-near, array-far, array-none}
use Rattle.passing.proofs.send_array.Goals as goal

pub returns-then-link-root : goal.returns-then-link-root
returns-then-link-root c =
    let x = c.args in
    c.insert_sent.ensures
    ∙ sym (ap (λ (l : List Addition). put_all l (store x.a.now x.ring.now x.s)) (array-near x.kind (sent_types x.element) (sent_types x.array) x.root x.link c.if-link-root.true))

pub returns-then-link-root-2 : goal.returns-then-link-root-2
returns-then-link-root-2 c =
    let x = c.args in
    c.insert_sent-then-link-root-2.ensures
    ∙ sym (ap (λ (l : List Addition). put_all l (store x.a.now x.ring.now x.s)) (array-far x.kind (sent_types x.element) (sent_types x.array) x.root x.link c.if-link-root.false c.if-link-root-2.true))

pub returns : goal.returns
returns c =
    let x = c.args in
    sym (array-none x.kind (sent_types x.element) (sent_types x.array) x.root x.link c.if-link-root.false c.if-link-root-2.false (store x.a.now x.ring.now x.s))
