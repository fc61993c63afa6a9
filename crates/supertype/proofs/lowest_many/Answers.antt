-- `lowest_many` meets its contract: the sources are the lowest of what they reach, and the rest is looked at by itself.
use mathlib.Core.Path.{sym, ap, ◌∙◌}
use mathlib.Core.List.{List}
use Rattle.sets.specs.Sets.{at, members}
use Rattle.tables.specs.Table.{view_of, view-good}
use Rattle.view.specs.View.{with_parents}
use Rattle.supertype.specs.Sources.{sources-inside, rest-fits, lows-sources, lows-joined}
use Rattle.supertype.proofs.lowest_many.Goals as goal

pub spread-covered-requires : goal.spread-covered-requires
spread-covered-requires c =
    let a = c.args in
    let p = c.requires in
    let v = view_of a.pairs.now a.marks.now a.t in (
      p.0,
      p.1,
      sources-inside v a.all.words a.others.words c.expand-direct.result.words c.difference-sources.result.words p.3 p.4
          (c.expand-direct.ensures ∙ ap (λ (s : List _). with_parents v s (members (at a.all.words) 0 1024)) c.empty.ensures)
          c.difference-sources.ensures,
    )

pub returns-then-lowest-eq1024 : goal.returns-then-lowest-eq1024
returns-then-lowest-eq1024 c =
    let a = c.args in
    let p = c.requires in
    let v = view_of a.pairs.now a.marks.now a.t in
    lows-sources v (view-good a.pairs.now a.marks.now a.t p.0 p.1) a.all.words a.others.words c.expand-direct.result.words c.difference-sources.result.words c.spread-covered.result.words c.difference-rest.result.words
    p.2 p.3 p.4 p.5
    (c.expand-direct.ensures ∙ ap (λ (s : List _). with_parents v s (members (at a.all.words) 0 1024)) c.empty.ensures)
    c.difference-sources.ensures c.spread-covered.ensures c.difference-rest.ensures
    (sym c.lowest.ensures ∙ c.if-lowest-eq1024.true)

pub lowest_left-low-requires : goal.lowest_left-low-requires
lowest_left-low-requires c =
    let a = c.args in
    let p = c.requires in
    let v = view_of a.pairs.now a.marks.now a.t in
    let f =
    rest-fits v (view-good a.pairs.now a.marks.now a.t p.0 p.1) a.all.words a.others.words c.expand-direct.result.words c.difference-sources.result.words c.spread-covered.result.words c.difference-rest.result.words
    p.2 p.3 p.4 p.5
    (c.expand-direct.ensures ∙ ap (λ (s : List _). with_parents v s (members (at a.all.words) 0 1024)) c.empty.ensures)
    c.difference-sources.ensures c.spread-covered.ensures c.difference-rest.ensures in
    (p.0, p.1, f.0, f.1, p.6)

pub returns : goal.returns
returns c =
    let a = c.args in
    let p = c.requires in
    let v = view_of a.pairs.now a.marks.now a.t in
    lows-joined v (view-good a.pairs.now a.marks.now a.t p.0 p.1) a.all.words a.others.words c.expand-direct.result.words c.difference-sources.result.words c.spread-covered.result.words c.difference-rest.result.words
    p.2 p.3 p.4 p.5
    (c.expand-direct.ensures ∙ ap (λ (s : List _). with_parents v s (members (at a.all.words) 0 1024)) c.empty.ensures)
    c.difference-sources.ensures c.spread-covered.ensures c.difference-rest.ensures
    c.lowest_left-low.result.words c.union.result.words c.lowest_left-low.ensures c.union.ensures
