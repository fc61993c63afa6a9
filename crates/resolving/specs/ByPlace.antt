-- Laws place by place: what a loop over an index goes by.
use Rattle.std.specs.Prelude.{◌≡◌, Bool, true, false, ◌&&◌, ℕ, ◌+◌, ◌≤◌, ◌<◌, drop, get_or}
use Rattle.std.proofs.Math.Path.{ap}
use Rattle.std.proofs.Common.{sym, ◌∙◌, add-one, drop_of_length-le, drop-cons}
use mathlib.Core.List.{List, [], ◌∷◌, map}
use Rattle.std.proofs.Math.ListN.{length}
use Rattle.ty.specs.Types.{ArgType}
use Rattle.ty.specs.Words.{type_of}
use Rattle.lattice.specs.Lattice.{World, producer_bound_compatible}
use Rattle.candidates.specs.Steps.{types_from}
use Rattle.solving.specs.Resolve.{all_produce, produces_all}

-- ---- every bound of a list, by the place

module _ (v : World) (ws : List ℕ) (i : ℕ) where
  types-step : i < length ws → types_from i ws ≡ type_of (get_or ws i 0) ∷ types_from (i + 1) ws
  types-step h = ap (map type_of) (drop-cons ws i 0 h) ∙ ap (λ (k : ℕ). type_of (get_or ws i 0) ∷ map type_of (drop k ws)) (sym (add-one i))

  types-end : length ws ≤ i → types_from i ws ≡ []
  types-end h = ap (map type_of) (drop_of_length-le ws h)

  module _ (t : ArgType) where
    pub each-later : i < length ws → producer_bound_compatible v (type_of (get_or ws i 0)) t ≡ true → all_produce v (types_from i ws) t ≡ all_produce v (types_from (i + 1) ws) t
    unfolding all_produce
    each-later h e = ap (λ (ts : List ArgType). all_produce v ts t) (types-step h) ∙ ap (λ (b : Bool). b && all_produce v (types_from (i + 1) ws) t) e

    pub each-not : i < length ws → producer_bound_compatible v (type_of (get_or ws i 0)) t ≡ false → all_produce v (types_from i ws) t ≡ false
    unfolding all_produce
    each-not h e = ap (λ (ts : List ArgType). all_produce v ts t) (types-step h) ∙ ap (λ (b : Bool). b && all_produce v (types_from (i + 1) ws) t) e

    pub each-end : length ws ≤ i → all_produce v (types_from i ws) t ≡ true
    unfolding all_produce
    each-end h = ap (λ (ts : List ArgType). all_produce v ts t) (types-end h)

    pub all-later : i < length ws → producer_bound_compatible v t (type_of (get_or ws i 0)) ≡ true → produces_all v t (types_from i ws) ≡ produces_all v t (types_from (i + 1) ws)
    unfolding produces_all
    all-later h e = ap (produces_all v t) (types-step h) ∙ ap (λ (b : Bool). b && produces_all v t (types_from (i + 1) ws)) e

    pub all-not : i < length ws → producer_bound_compatible v t (type_of (get_or ws i 0)) ≡ false → produces_all v t (types_from i ws) ≡ false
    unfolding produces_all
    all-not h e = ap (produces_all v t) (types-step h) ∙ ap (λ (b : Bool). b && produces_all v t (types_from (i + 1) ws)) e

    pub all-end : length ws ≤ i → produces_all v t (types_from i ws) ≡ true
    unfolding produces_all
    all-end h = ap (produces_all v t) (types-end h)
