-- Laws place by place: what a loop over an index goes by.
use Rattle.std.specs.Prelude.{◌≡◌, Bool, true, false, ◌&&◌, ℕ, ◌+◌, ◌-◌, ◌≤◌, ◌<◌, length, drop, get_or}
use Rattle.std.proofs.Math.Path.{sym, ap}
use Rattle.std.proofs.Common.{◌∙◌, add-one, drop-cons}
use mathlib.Core.List.{List, ◌∷◌, map}
use native.Mathlib.Omega.{arith}
use Rattle.ty.specs.Types.{ArgType, concrete_hint}
use Rattle.ty.specs.Words.{type_of}
use Rattle.lattice.specs.Lattice.{World, is_assignable, assignable_to_all, candidate, least_hint}
use Rattle.candidates.specs.Steps.{types_from}

module _ (ws : List ℕ) (i : ℕ) where
  types-step : i < length ws → types_from i ws ≡ type_of (get_or ws i 0) ∷ types_from (i + 1) ws
  types-step h =
      ap (map type_of) (drop-cons ws i 0 h) ∙ ap (λ (k : ℕ). type_of (get_or ws i 0) ∷ map type_of (drop k ws)) (sym (add-one i))

  pub all-later : (w : World) (t : ArgType) → i < length ws → is_assignable w t (type_of (get_or ws i 0)) ≡ true → assignable_to_all w t (types_from i ws) ≡ assignable_to_all w t (types_from (i + 1) ws)
  unfolding assignable_to_all
  all-later w t h e = ap (assignable_to_all w t) (types-step h) ∙ ap (λ (b : Bool). b && assignable_to_all w t (types_from (i + 1) ws)) e

  pub all-not : (w : World) (t : ArgType) → i < length ws → is_assignable w t (type_of (get_or ws i 0)) ≡ false → assignable_to_all w t (types_from i ws) ≡ false
  unfolding assignable_to_all
  all-not w t h e = ap (assignable_to_all w t) (types-step h) ∙ ap (λ (b : Bool). b && assignable_to_all w t (types_from (i + 1) ws)) e

-- ---- most_specific_upper

module _ (w : World) (upper : List ArgType) (ws : List ℕ) (i : ℕ) where
  -- the bound before the place i
  pub least-step : 0 < i → i ≤ length ws
      → least_hint w upper (types_from (i - 1) ws) ≡ candidate w upper (concrete_hint w.object (type_of (get_or ws (i - 1) 0))) (least_hint w upper (types_from i ws))
  unfolding least_hint
  least-step g h =
      ap (least_hint w upper) (types-step ws (i - 1) (omega arith))
      ∙ ap (λ (k : ℕ). candidate w upper (concrete_hint w.object (type_of (get_or ws (i - 1) 0))) (least_hint w upper (types_from k ws))) (let q : i - 1 + 1 ≡ i = omega arith in q)
