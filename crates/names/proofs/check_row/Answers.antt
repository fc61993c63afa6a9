-- `check_row` meets its contract: the place, then the name there. Past its test the place is good, and so inside the slice.
use borrow.Author.Rules.{rules}
use mathlib.Core.Path.{sym, ap₂, ◌∙◌}
use mathlib.Core.List.{List}
use Prim.Native.Nat.{ℕ}
use native.Mathlib.Omega.{arith}
use Rattle.names.specs.Names.{name_of, check_name}
use Rattle.names.specs.Table.{place-inside, part-is, row-misplaced, row-placed}
use Rattle.names.proofs.check_row.Goals as goal

pub returns-then-not-is_place : goal.returns-then-not-is_place
returns-then-not-is_place c =
    let a = c.args in
    let s = a.names.now in
    sym
    (row-misplaced s a.at a.len (name_of s a.last a.span) a.count a.total
    (sym c.is_place.ensures ∙ c.if-not-is_place.true))

pub overflow_add-end : goal.overflow_add-end
overflow_add-end c = let i = place-inside _ _ _ (sym c.is_place.ensures ∙ c.if-not-is_place.false) in omega arith

pub slice_bounds-check_name-end-2 : goal.slice_bounds-check_name-end-2
slice_bounds-check_name-end-2 c = let i = place-inside _ _ _ (sym c.is_place.ensures ∙ c.if-not-is_place.false) in search rules

pub returns : goal.returns
returns c =
    let a = c.args in
    let s = a.names.now in
    c.check_name.ensures
    ∙ ap₂ (λ (l m : List ℕ). check_name l m a.count a.total) (part-is s a.last a.span) (part-is s a.at a.len)
    ∙ sym (row-placed s a.at a.len (name_of s a.last a.span) a.count a.total (sym c.is_place.ensures ∙ c.if-not-is_place.false))
