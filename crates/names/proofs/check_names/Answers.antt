-- `check_names` meets its contract. The invariant: what is refused is what the rows from i on are refused, after the i names passed.
use mathlib.Core.Path.{◌≡◌, sym, ◌∙◌}
use mathlib.Core.List.{List}
use Prim.Native.Nat.{ℕ, ◌+◌, ◌≤◌, ◌<◌}
use native.Mathlib.Omega.{arith}
use native.Mathlib.Numerals.{add-one}
use lib.ListN.{length, get_or, drop, drop_of_length-le}
use lib.Seq.{drop-cons}
use borrow.Author.Tests.{eq-eqb, ne_eqb}
use Rattle.checks.specs.Checks.{or_else, else-none, else-some}
use Rattle.names.specs.Names.{name_of, check_row, check_rows, check_names}
use Rattle.names.specs.Table.{row-checked}
use Rattle.std.proofs.Common.{ap, rules}
use Rattle.refusals.specs.Numbers.{code, code-taken, code-refused}
use Rattle.names.proofs.check_names.Goals as goal

-- ---- the rows from i on
module _ (bytes ats lens last : List ℕ) (i total : ℕ) where
  -- row i, then the others
  rows-at : i < length ats → i < length lens
      → check_rows bytes (drop i ats) (drop i lens) last i total
      ≡ or_else (check_row bytes (get_or ats i 0) (get_or lens i 0) last i total)
      (check_rows bytes (drop (i + 1) ats) (drop (i + 1) lens) (name_of bytes (get_or ats i 0) (get_or lens i 0)) (i + 1) (total + get_or lens i 0))
  unfolding check_rows
  rows-at h k = rw (add-one, drop-cons ats i 0, drop-cons lens i 0)

  row-refused : (r : ℕ) → i < length ats → i < length lens → r ≡ check_row bytes (get_or ats i 0) (get_or lens i 0) last i total → (r ≡ 0 → ⊥)
      → check_rows bytes (drop i ats) (drop i lens) last i total ≡ r
  row-refused r h k e z = rw (rows-at h k, ← e) (else-some r _ z)

  row-passed : (r : ℕ) → i < length ats → i < length lens → r ≡ check_row bytes (get_or ats i 0) (get_or lens i 0) last i total → r ≡ 0
      → check_rows bytes (drop i ats) (drop i lens) last i total
      ≡ check_rows bytes (drop (i + 1) ats) (drop (i + 1) lens) (name_of bytes (get_or ats i 0) (get_or lens i 0)) (i + 1) (total + get_or lens i 0)
  row-passed r h k e z = rw (rows-at h k, ← e) (else-none r _ z)

  rows-end : length ats ≤ i → check_rows bytes (drop i ats) (drop i lens) last i total ≡ 0
  unfolding check_rows
  rows-end h = rw (drop_of_length-le ats {i = i} h)

pub returns-then-name_at-name_len : goal.returns-then-name_at-name_len
unfolding check_names
returns-then-name_at-name_len c = rw (ne_eqb _ _ c.if-name_at-name_len.true)

pub loop-i-init : goal.loop-i-init
unfolding check_names
loop-i-init c = (c.if-name_at-name_len.false, omega arith, omega arith, omega arith, rw (eq-eqb _ _ c.if-name_at-name_len.false))

pub returns-in_err-check_row : goal.returns-in_err-check_row
returns-in_err-check_row c =
    let a = c.args in
    let l = c.loop-i in
    let s = a.names.now in
    let r = c.check_row in
    let f : r.result ≡ c.from_residual.result = search rules in
    sym (l.invariant.4
    ∙ row-refused s a.name_at.now a.name_len.now (name_of s l.last l.span) l.i l.total (code r.result) (omega arith) (omega arith) r.ensures (code-refused r.result _ c.in_err-check_row.was)
    ∙ ap code f)

pub overflow_add-total : goal.overflow_add-total
overflow_add-total c =
    let g = row-checked _ _ _ _ _ _ (sym c.check_row.ensures ∙ code-taken c.check_row.result _ c.in_ok-check_row.was) in omega arith

pub loop-i-preserved : goal.loop-i-preserved
loop-i-preserved c =
    let a = c.args in
    let l = c.loop-i in
    let s = a.names.now in
    let r = c.check_row in
    let z = code-taken r.result _ c.in_ok-check_row.was in
    let g = row-checked _ _ _ _ _ _ (sym r.ensures ∙ z) in (
      l.invariant.0,
      g.inside.starts,
      g.inside.ends,
      g.short,
      l.invariant.4 ∙ row-passed s a.name_at.now a.name_len.now (name_of s l.last l.span) l.i l.total (code r.result) (omega arith) (omega arith) r.ensures z,
    )

pub returns : goal.returns
returns c =
    let a = c.args in
    let l = c.loop-i in
    let s = a.names.now in
    sym (l.invariant.4 ∙ rows-end s a.name_at.now a.name_len.now (name_of s l.last l.span) l.i l.total (omega arith))
