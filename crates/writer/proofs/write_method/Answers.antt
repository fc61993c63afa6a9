-- `write_method` meets its contract: the names' refusal first.
use Rattle.std.proofs.Common.{◌≡◌, sym, ap, ◌∙◌, length, rules, Result, Err}
use Rattle.refusals.specs.declared.Refusal.{Refusal}
use Rattle.refusals.specs.Numbers.{code, code-taken, code-refused}
use Rattle.names.specs.Table.{checked}
use Rattle.writer.specs.Print.{Written, written}
use Rattle.writer.specs.Steps.{method-unnamed, method-named, wrote-none, wrote-as}
use Rattle.writer.proofs.write_method.Goals as goal

pub returns-in_err-check_names : goal.returns-in_err-check_names
returns-in_err-check_names c =
    let a = c.args in
    let k = c.check_names in
    let w = c.in_err-check_names.was in
    let z = code-refused k.result _ w in
    let f : Err c.in_err-check_names.field-0.0 ≡ c.from_residual.result = search rules in
    wrote-none (code k.result) (method-unnamed a.names.now a.name_at.now a.name_len.now (code k.result) k.ensures a.params.now a.res (length a.out.now) z) z
    (ap written (sym f) ∙ ap {B = Written} (λ (x : Result (Unit {0}) Refusal). record { refusal = code x; «length» = 0 }) (sym w))

pub write_checked_method-requires : goal.write_checked_method-requires
write_checked_method-requires c =
    let a = c.args in
    let k = c.check_names in
    checked a.names.now a.name_at.now a.name_len.now (sym k.ensures ∙ code-taken k.result _ c.in_ok-check_names.was)

pub returns : goal.returns
returns c =
    let a = c.args in
    let k = c.check_names in
    wrote-as (method-named a.names.now a.name_at.now a.name_len.now (code k.result) k.ensures a.params.now a.res (length a.out.now) (code-taken k.result _ c.in_ok-check_names.was))
    c.write_checked_method.ensures
