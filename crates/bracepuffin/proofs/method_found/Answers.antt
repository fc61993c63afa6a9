-- A method's return type is told as a type is: by its base.
use Rattle.std.proofs.Common.{◌≡◌, ℕ, refl, ap, ◌∙◌}
use Rattle.descriptor.specs.declared.Base.{Base}
use Rattle.descriptor.specs.declared.Base.TheVariants.{Simple, Class}
use Rattle.methods.specs.Answers.{found_method}
use Rattle.bracepuffin.specs.declared.BpType.{BpType}
use Rattle.bracepuffin.specs.declared.BpMethod.{BpMethod}
use Rattle.bracepuffin.specs.Boundary.{type_found, bp_method}
use Rattle.bracepuffin.proofs.method_found.Goals as goal

with_type : ℕ → ℕ → BpType → BpMethod
with_type n at t =
    record { refusal = 0; offset = 0; byte = 0; count = n; return_at = at; dims = t.dims; tag = t.tag; category = t.category; name_at = t.name_at; name_len = t.name_len }

by-base : (n at d : ℕ) (b : Base) → with_type n at (type_found d b) ≡ bp_method (found_method n at d b)
unfolding with_type
by-base n at d (Simple k) = refl
by-base n at d (Class o l) = refl

pub returns : goal.returns
unfolding with_type
returns c = let m = c.args.m in ap (with_type m.count m.return_at) c.type_found-t.ensures ∙ by-base m.count m.return_at m.dims m.base
