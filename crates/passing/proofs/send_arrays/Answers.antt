-- `send_arrays` meets its contract: what is left are the links from the index on.
use Rattle.std.specs.Prelude.{map, ◌+◌, drop, get_or}
use Rattle.std.proofs.Common.{refl, sym, ap, ◌∙◌, arith}
use Rattle.solving.specs.LinkKeys.{pair_of}
use Rattle.solving.specs.Solving.{array_rules}
use Rattle.solving.specs.Steps.{array_rule}
use Rattle.inserting.specs.Store.{store, put_all, sent_types}
use Rattle.inserting.specs.Laws.{all-stopped, sent-base}
use Rattle.passing.specs.Steps.{next-ready, below-at, array-given, arrays-put, arrays-done}
use Rattle.passing.proofs.send_arrays.Goals as goal

pub loop-link-init : goal.loop-link-init
loop-link-init c = (omega arith, c.requires.0, refl)

pub send_array-state-requires : goal.send_array-state-requires
send_array-state-requires c =
    let p = c.requires in
    let l = c.loop-link in
    (l.invariant.1, below-at 262144 c.args.links.now l.link-index p.1 (omega arith), p.2, p.3, p.4)

pub returns-then-state-ne0 : goal.returns-then-state-ne0
returns-then-state-ne0 c =
    let x = c.args in
    let l = c.loop-link in
    let o = c.send_array-state in
    let rest = array_rules 0 x.kind (sent_types x.element) 0 (sent_types x.array) x.root (drop (l.link-index + 1) (map pair_of x.links.now)) in
    sym
    (l.invariant.2 ∙ arrays-put x.kind (sent_types x.element) (sent_types x.array) x.root x.links.now l.link-index (store l.a l.ring l.state) (omega arith)
    ∙ ap (put_all rest) (sym o.ensures)
    ∙ all-stopped rest (store o.new.a o.new.ring o.result) c.if-state-ne0.true)

pub loop-link-preserved : goal.loop-link-preserved
loop-link-preserved c =
    let x = c.args in
    let l = c.loop-link in
    let o = c.send_array-state in
    let p = c.requires in
    let link = get_or x.links.now l.link-index 0 in
    let es = sent_types x.element in
    let xs = sent_types x.array in
    let before = store l.a l.ring l.state in (
      omega arith,
      next-ready (array_rule 0 x.kind es 0 xs x.root (pair_of link)) before (store o.new.a o.new.ring o.result) (array-given x.kind es xs x.root link (below-at 262144 x.links.now l.link-index p.1 (omega arith)) p.2 (sent-base x.element p.3) (sent-base x.array p.4)) l.invariant.1 o.ensures c.if-state-ne0.false,
      l.invariant.2 ∙ arrays-put x.kind es xs x.root x.links.now l.link-index before (omega arith)
          ∙ ap (put_all (array_rules 0 x.kind es 0 xs x.root (drop (l.link-index + 1) (map pair_of x.links.now)))) (sym o.ensures),
    )

pub returns : goal.returns
returns c =
    let x = c.args in
    let l = c.loop-link in
    sym (l.invariant.2 ∙ arrays-done x.kind (sent_types x.element) (sent_types x.array) x.root x.links.now l.link-index (store l.a l.ring l.state) (omega arith))
