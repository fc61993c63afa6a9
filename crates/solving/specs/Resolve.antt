-- resolve_state in the words of the Rust, with its tests as conjunctions: what the five ways come to.
use Rattle.std.specs.Prelude.{Bool, true, false, cond, ◌&&◌}
use mathlib.Core.List.{List, [], ◌∷◌}
use Rattle.std.proofs.Math.Option.{Option, some, none}
use Rattle.ty.specs.Types.{ArgType}
use Rattle.lattice.specs.Lattice.{World, producer_bound_compatible, domain_accepts, join_all, assignable_to_all, most_specific_upper}
use Rattle.solving.specs.Solving.{TypeState, produced_type, or_else, only_concrete, Cause, hints_of}

-- a candidate, if it passes
abbrev pub passing : Option ArgType → (ArgType → Bool) → Option ArgType
passing none test = none
passing (some t) test = cond (test t) (some t) none

-- every bound of a list can be produced where the candidate is expected
unfoldable pub all_produce : World → List ArgType → ArgType → Bool
all_produce w [] candidate = true
all_produce w (b ∷ bs) candidate = producer_bound_compatible w b candidate && all_produce w bs candidate

-- the type can be produced where each upper bound is expected
unfoldable pub produces_all : World → ArgType → List ArgType → Bool
produces_all w ty [] = true
produces_all w ty (u ∷ us) = producer_bound_compatible w ty u && produces_all w ty us

-- the one member of a list
abbrev pub single : List ArgType → Option ArgType
single [] = none
single (t ∷ []) = some t
single (t ∷ u ∷ ts) = none

-- resolve_state
unfoldable pub resolve : World → TypeState → Option ArgType
resolve w s =
    or_else (passing (only_concrete (produced_type w s)) (λ ty. assignable_to_all w ty s.upper))
    (or_else (passing (most_specific_upper w s.upper) (λ candidate. (all_produce w s.exact candidate && all_produce w s.lower candidate) && domain_accepts s.domain candidate))
    (or_else (passing (only_concrete (produced_type w s)) (λ ty. produces_all w ty s.upper && domain_accepts s.domain ty))
    (or_else (passing (only_concrete (join_all w s.fallback)) (λ candidate. assignable_to_all w candidate s.upper && domain_accepts s.domain candidate))
    (passing (single (hints_of w.object s.domain)) (λ candidate. assignable_to_all w candidate s.upper)))))

-- ---- it is what the ways come to

-- whether nothing is named
abbrev pub clear : Option Cause → Bool
clear none = true
clear (some c) = false
