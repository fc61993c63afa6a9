-- `put` of ranks meets its contract: what is left are the ranks from the index on.
use Rattle.std.specs.Prelude.{[], ◌∷◌, map, ◌+◌, drop, get_or}
use Rattle.std.proofs.Common.{refl, sym, ap, ◌∙◌, arith}
use Rattle.keys.specs.Rank.{unrank}
use Rattle.solving.specs.Solving.{to_one}
use Rattle.inserting.specs.Store.{store, put_all}
use Rattle.inserting.specs.Laws.{all-stopped}
use Rattle.passing.specs.Steps.{one-given, next-ready, ranked-at, ranked-one, one-bound, ranks-put, ranks-done}
use Rattle.passing.proofs.RefSliceU64Load.put.Goals as goal

pub loop-rank-init : goal.loop-rank-init
loop-rank-init c = (omega arith, c.requires.0, refl)

pub insert_bound-state-requires : goal.insert_bound-state-requires
insert_bound-state-requires c =
    let p = c.requires in
    let l = c.loop-rank in
    (l.invariant.1, p.1, p.2, ranked-at c.args.self.now l.rank-index p.3 (omega arith))

pub returns-then-state-ne0 : goal.returns-then-state-ne0
returns-then-state-ne0 c =
    let x = c.args in
    let l = c.loop-rank in
    let o = c.insert_bound-state in
    let rest = to_one 0 x.kind (drop (l.rank-index + 1) (map unrank x.self.now)) x.component in
    sym
    (l.invariant.2 ∙ ranks-put x.kind x.component x.self.now l.rank-index (store l.a l.ring l.state) (omega arith) l.invariant.1.good.going
    ∙ ap (put_all rest) (sym o.ensures)
    ∙ all-stopped rest (store o.new.a o.new.ring o.result) c.if-state-ne0.true)

pub loop-rank-preserved : goal.loop-rank-preserved
loop-rank-preserved c =
    let x = c.args in
    let l = c.loop-rank in
    let o = c.insert_bound-state in
    let p = c.requires in
    let rank = get_or x.self.now l.rank-index 0 in
    let before = store l.a l.ring l.state in
    let going = l.invariant.1.good.going in (
      omega arith,
      next-ready (to_one 0 x.kind (unrank rank ∷ []) x.component) before (store o.new.a o.new.ring o.result) (one-given x.kind x.component (unrank rank ∷ []) p.2 p.1 (ranked-one rank (ranked-at x.self.now l.rank-index p.3 (omega arith)))) l.invariant.1 (o.ensures ∙ one-bound x.kind x.component (unrank rank) before going) c.if-state-ne0.false,
      l.invariant.2 ∙ ranks-put x.kind x.component x.self.now l.rank-index before (omega arith) going
          ∙ ap (put_all (to_one 0 x.kind (drop (l.rank-index + 1) (map unrank x.self.now)) x.component)) (sym o.ensures),
    )

pub returns : goal.returns
returns c =
    let x = c.args in
    let l = c.loop-rank in
    sym (l.invariant.2 ∙ ranks-done x.kind x.component x.self.now l.rank-index (store l.a l.ring l.state) (omega arith))
