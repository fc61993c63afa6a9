-- `stands_for_all` meets its contract: what is left besides the class, Object and what is reached answers for all.
use mathlib.Core.Path.{sym, ap, ◌∙◌}
use mathlib.Core.List.{List}
use Prim.Native.Nat.{ℕ}
use Rattle.sets.specs.Sets.{remove, subtract}
use Rattle.sets.proofs.Good.{array-length}
use Rattle.tables.specs.Table.{view_of}
use Rattle.lattice.specs.Lattice.{not_no}
use Rattle.lattice.specs.World.{present}
use Rattle.candidates.specs.Groups.{stands-alone, stands-reached, stands-by-one}
use Rattle.candidates.proofs.stands_for_all.Goals as goal

pub returns-then-lowest-eq-NAMES : goal.returns-then-lowest-eq-NAMES
returns-then-lowest-eq-NAMES c =
    let a = c.args in
    stands-alone (view_of a.pairs.now a.marks.now a.t) (present a.t.cloneable) (present a.t.serializable) a.class a.s.words c.without-left.result.words
    (array-length 16 a.s.words _ c.well_formed.1.1.1.1.0.1.1.0)
    (c.without-left.ensures ∙ ap (λ (x : List ℕ). remove x a.t.object) c.without-others.ensures)
    (sym c.lowest.ensures ∙ c.if-lowest-eq-NAMES.true)

pub returns-then-first-eq-NAMES : goal.returns-then-first-eq-NAMES
returns-then-first-eq-NAMES c =
    let a = c.args in
    stands-reached (view_of a.pairs.now a.marks.now a.t) (present a.t.cloneable) (present a.t.serializable) a.class a.s.words c.without-left.result.words
    (array-length 16 a.s.words _ c.well_formed.1.1.1.1.0.1.1.0)
    (c.without-left.ensures ∙ ap (λ (x : List ℕ). remove x a.t.object) c.without-others.ensures)
    c.difference-missing.result.words (c.difference-missing.ensures ∙ ap (λ (x : List ℕ). subtract c.without-left.result.words x) c.reached_from.ensures)
    (sym c.lowest-first.ensures ∙ c.if-first-eq-NAMES.true)

pub returns : goal.returns
returns c =
    let a = c.args in
    stands-by-one (view_of a.pairs.now a.marks.now a.t) (present a.t.cloneable) (present a.t.serializable) a.class a.s.words c.without-left.result.words
    (array-length 16 a.s.words _ c.well_formed.1.1.1.1.0.1.1.0)
    (c.without-left.ensures ∙ ap (λ (x : List ℕ). remove x a.t.object) c.without-others.ensures)
    c.difference-missing.result.words (c.difference-missing.ensures ∙ ap (λ (x : List ℕ). subtract c.without-left.result.words x) c.reached_from.ensures)
    c.lowest-first.result c.lowest-first.ensures c.if-first-eq-NAMES.false c.not_no.result
    (c.not_no.ensures ∙ ap not_no c.relation_of.ensures)
