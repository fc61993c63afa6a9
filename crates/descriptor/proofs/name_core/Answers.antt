-- Each way out is the core of a case of `read_name`.
use mathlib.Core.Path.{ap, ◌∙◌}
use mathlib.Core.List.{List}
use Prim.Native.Nat.{ℕ, ◌+◌, ◌-◌}
use lib.ListN.{length, take, drop}
use Rattle.utf8.specs.Utf8.{valid_prefix}
use native.Mathlib.Omega.{arith}
use Rattle.descriptor.specs.Core.{core_of, lent-anew}
use Rattle.descriptor.specs.Steps.{name-inside, name-none, name-empty, name-bad, name-good}
use Rattle.descriptor.proofs.name_core.Goals as goal

pub returns-then-end-s : goal.returns-then-end-s
returns-then-end-s c =
    let a = c.args in
    let e = c.find_end-end in
    ap core_of (name-none a.s.now a.at a.dims e.result c.requires.0 e.ensures c.if-end-s.true)

pub returns-then-end-from : goal.returns-then-end-from
returns-then-end-from c =
    let a = c.args in
    let e = c.find_end-end in
    ap core_of (name-empty a.s.now a.at a.dims e.result c.requires.0 e.ensures c.if-end-s.false c.if-end-from.true)

pub valid_up_to-valid-requires : goal.valid_up_to-valid-requires
valid_up_to-valid-requires c =
    let a = c.args in
    let e = c.find_end-end in
    let i = name-inside a.s.now a.at a.dims e.result c.requires.0 e.ensures in
    let l = ap length (lent-anew a.s.now) in
    (omega arith, omega arith)

pub returns-then-valid-end : goal.returns-then-valid-end
returns-then-valid-end c =
    let a = c.args in
    let e = c.find_end-end in
    let v = c.valid_up_to-valid in
    ap core_of (name-bad a.s.now a.at a.dims e.result c.requires.0 e.ensures c.if-end-s.false c.if-end-from.false v.result (v.ensures ∙ ap (λ (l : List ℕ). a.at + 1 + valid_prefix (take (e.result - (a.at + 1)) (drop (a.at + 1) l))) (lent-anew a.s.now)) c.if-valid-end.true)

pub overflow_add-result-else-valid-end : goal.overflow_add-result-else-valid-end
overflow_add-result-else-valid-end c =
    let a = c.args in
    let e = c.find_end-end in
    let i = name-inside a.s.now a.at a.dims e.result c.requires.0 e.ensures in omega arith

pub returns-else-valid-end : goal.returns-else-valid-end
returns-else-valid-end c =
    let a = c.args in
    let e = c.find_end-end in
    let v = c.valid_up_to-valid in
    ap core_of (name-good a.s.now a.at a.dims e.result c.requires.0 e.ensures c.if-end-s.false c.if-end-from.false v.result (v.ensures ∙ ap (λ (l : List ℕ). a.at + 1 + valid_prefix (take (e.result - (a.at + 1)) (drop (a.at + 1) l))) (lent-anew a.s.now)) c.if-valid-end.false)
