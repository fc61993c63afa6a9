-- `look_up` meets its contract: the check, then the search.
use Rattle.std.proofs.Common.{◌≡◌, sym, ap, ◌∙◌, rules, Result, Err}
use Rattle.refusals.specs.declared.Refusal.{Refusal}
use Rattle.refusals.specs.Numbers.{code, code-taken, code-refused}
use Rattle.names.specs.Names.{LookedUp, looked}
use Rattle.names.specs.Lookup.{look-refused, look-searched}
use Rattle.names.proofs.look_up.Goals as goal

pub returns-in_err-check_names : goal.returns-in_err-check_names
returns-in_err-check_names c =
    let a = c.args in
    let r = c.check_names in
    let w = c.in_err-check_names.was in
    let f : Err c.in_err-check_names.field-0.0 ≡ c.from_residual.result = search rules in
    sym (look-refused a.names.now a.name_at.now a.name_len.now a.key.now (code r.result) r.ensures (code-refused r.result _ w)
    ∙ ap {B = LookedUp} (λ (x : Result (Unit {0}) Refusal). record { refusal = code x; class_no = 0 }) w
    ∙ ap looked f)

pub returns : goal.returns
returns c =
    let a = c.args in
    let r = c.check_names in
    look-searched a.names.now a.name_at.now a.name_len.now a.key.now (code r.result) _ r.ensures (code-taken r.result _ c.in_ok-check_names.was) c.search.ensures
