-- `check_name` meets its contract: its tests in the order of the chain.
use mathlib.Core.Path.{◌≡◌, refl, sym, ap, ◌∙◌}
use mathlib.Core.Bool.{Bool, true, false, cond, not, ◌&&◌, ◌||◌}
use mathlib.Core.List.{List}
use Prim.Native.Nat.{ℕ, ◌+◌, ◌-◌, ◌≤◌, ◌<◌}
use native.Mathlib.Omega.{arith}
use lib.Dec.{leb, ltb}
use lib.ListN.{length, take, drop}
use lib.Seq.{take_all}
use borrow.Author.Tests.{eq-eqb, ne_eqb, lt-ltb, le-ltb}
use Rattle.order.specs.Compare.{compare_lists, is_less}
use Rattle.utf8.specs.Utf8.{well_formed}
use Rattle.checks.specs.Checks.{first_refusal}
use Rattle.names.specs.Names.{name_checks, check_name}
use Rattle.names.proofs.check_name.Goals as goal

-- ---- the chain, by what the code has found
module _ (last name : List ℕ) (count total : ℕ) where
  empty : length name ≡ 0 → check_name last name count total ≡ 3
  unfolding check_name name_checks first_refusal
  empty h = rw (eq-eqb (length name) 0 h)

  long : 255 < length name → check_name last name count total ≡ 3
  unfolding check_name name_checks first_refusal
  long h = rw (ne_eqb (length name) 0 (λ e. omega arith), lt-ltb 255 (length name) h)

  -- of 1 to 255 bytes: whether they are well-formed, not above the last, and without room
  sized : (formed low full : Bool) → (length name ≡ 0 → ⊥) → length name ≤ 255
      → formed ≡ well_formed (take (length name - 0) (drop 0 name))
      → low ≡ (ltb 0 count && not (is_less (compare_lists last name)))
      → full ≡ (leb 1024 count || ltb 24576 (total + length name))
      → cond (not formed) 10 (cond low 5 (cond full 8 0)) ≡ check_name last name count total
  unfolding check_name name_checks first_refusal
  sized formed low full z h f l u =
      rw (ne_eqb (length name) 0 z, le-ltb 255 (length name) h, ← l, ← u, ← (f ∙ ap well_formed (take_all (length name - 0) name (omega arith))))

pub returns-then-n-eq0 : goal.returns-then-n-eq0
returns-then-n-eq0 c = let a = c.args in sym (empty a.last.now a.name.now a.count a.total c.if-n-eq0.true)

pub returns-then-n-gt-NAME_BYTES : goal.returns-then-n-gt-NAME_BYTES
returns-then-n-gt-NAME_BYTES c = let a = c.args in sym (long a.last.now a.name.now a.count a.total c.if-n-gt-NAME_BYTES.true)

pub returns-then-not-is_well_formed : goal.returns-then-not-is_well_formed
returns-then-not-is_well_formed c =
    let a = c.args in
    sized a.last.now a.name.now a.count a.total false _ _ c.if-n-eq0.false (omega arith) (sym c.if-not-is_well_formed.true ∙ c.is_well_formed.ensures) refl refl

pub returns-then-is_not_above : goal.returns-then-is_not_above
returns-then-is_not_above c =
    let a = c.args in
    sized a.last.now a.name.now a.count a.total true true _ c.if-n-eq0.false (omega arith) (sym c.if-not-is_well_formed.false ∙ c.is_well_formed.ensures) (sym c.if-is_not_above.true ∙ c.is_not_above.ensures) refl

pub returns-then-is_full : goal.returns-then-is_full
returns-then-is_full c =
    let a = c.args in
    sized a.last.now a.name.now a.count a.total true false true c.if-n-eq0.false (omega arith) (sym c.if-not-is_well_formed.false ∙ c.is_well_formed.ensures) (sym c.if-is_not_above.false ∙ c.is_not_above.ensures) (sym c.if-is_full.true ∙ c.is_full.ensures)

pub returns : goal.returns
returns c =
    let a = c.args in
    sized a.last.now a.name.now a.count a.total true false false c.if-n-eq0.false (omega arith) (sym c.if-not-is_well_formed.false ∙ c.is_well_formed.ensures) (sym c.if-is_not_above.false ∙ c.is_not_above.ensures) (sym c.if-is_full.false ∙ c.is_full.ensures)
