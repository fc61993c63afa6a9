-- What the contracts cite: a component's state from words, which words are asked for, and the ways as the code has them.
use Rattle.std.specs.Prelude.{◌≡◌, Bool, false, cond, not, ◌&&◌, List, map, ℕ, eqb, length, Some, None}
use Rattle.std.proofs.Math.Option.{Option}
use Rattle.ty.specs.declared.TypeWord.{TypeWord}
use Rattle.ty.specs.Answers.{MaybeType}
use Rattle.ty.specs.Types.{ArgType}
use Rattle.ty.specs.Words.{type_of}
use Rattle.tables.specs.declared.Tables.{Tables}
use Rattle.tables.specs.Table.{marks_room}
use Rattle.lattice.specs.Lattice.{World, domain_accepts, join_all, assignable_to_all, most_specific_upper}
use Rattle.lattice.specs.JoinAll.{Ascend}
use Rattle.prepared.specs.Prepared.{Prepared}
use Rattle.joins.specs.Joins.{Fits, AllLegal}
use Rattle.solving.specs.Solving.{TypeState, or_else, only_concrete, hints_of}
use Rattle.solving.specs.Resolve.{passing, all_produce, produces_all, single}

-- THE STATE of a component whose bounds are these words
abbrev pub state_in : List ℕ → List ℕ → List ℕ → List ℕ → List ℕ → TypeState
state_in exact lower upper domain fallback = record {
  exact = map type_of exact;
  lower = map type_of lower;
  upper = map type_of upper;
  domain = map type_of domain;
  fallback = map type_of fallback;
}

-- ---- what is asked for

-- the class tables are within the limits, and Object is a name
abbrev pub Classes : List ℕ → Tables → Type 0
Classes marks t = (length marks ≡ marks_room) × Fits t

-- and, where rows stand behind the keys, they are what the classes reach
abbrev pub Classed : List ℕ → List ℕ → Tables → Type 0
Classed pairs marks t = Prepared pairs marks t × Fits t

-- types over the names, in their order, none twice
abbrev pub Bounds : Tables → List ℕ → Type 0
Bounds t words = AllLegal t words × Ascend (map type_of words)

-- ---- on types that may be missing, as words

-- a candidate, if it passes
abbrev pub kept_if : Bool → TypeWord → MaybeType
kept_if passes t = cond passes (Some t) None

abbrev pub differs : TypeWord → MaybeType → Bool
differs hint (Some u) = not (eqb hint.word u.word)
differs hint None = false

abbrev pub both_differ : MaybeType → MaybeType → Bool
both_differ (Some t) found = differs t found
both_differ None found = false

abbrev pub either_of : MaybeType → MaybeType → MaybeType
either_of (Some t) second = Some t
either_of None second = second

-- ---- the ways of `resolve`, each by itself, and from each on

module _ (w : World) where
  unfoldable pub fitting : Option ArgType → List ArgType → Option ArgType
  fitting o upper = passing o (λ ty. assignable_to_all w ty upper)

  abbrev pub upper_passes : List ArgType → List ArgType → List ArgType → ArgType → Bool
  upper_passes exact lower domain candidate = (all_produce w exact candidate && all_produce w lower candidate) && domain_accepts domain candidate

  abbrev pub cast_passes : List ArgType → List ArgType → ArgType → Bool
  cast_passes upper domain ty = produces_all w ty upper && domain_accepts domain ty

  abbrev pub fallback_passes : List ArgType → List ArgType → ArgType → Bool
  fallback_passes upper domain candidate = assignable_to_all w candidate upper && domain_accepts domain candidate

  unfoldable pub by_upper : List ArgType → List ArgType → List ArgType → List ArgType → Option ArgType
  by_upper exact lower upper domain = passing (most_specific_upper w upper) (upper_passes exact lower domain)

  unfoldable pub by_cast : Option ArgType → List ArgType → List ArgType → Option ArgType
  by_cast o upper domain = passing o (cast_passes upper domain)

  unfoldable pub by_fallback : List ArgType → List ArgType → List ArgType → Option ArgType
  by_fallback upper domain fallback = passing (only_concrete (join_all w fallback)) (fallback_passes upper domain)

  unfoldable pub by_hint : List ArgType → List ArgType → Option ArgType
  by_hint upper domain = fitting (single (hints_of w.object domain)) upper

  unfoldable pub from_fallback : List ArgType → List ArgType → List ArgType → Option ArgType
  from_fallback upper domain fallback = or_else (by_fallback upper domain fallback) (by_hint upper domain)

  unfoldable pub from_cast : Option ArgType → List ArgType → List ArgType → List ArgType → Option ArgType
  from_cast o upper domain fallback = or_else (by_cast o upper domain) (from_fallback upper domain fallback)

  unfoldable pub from_upper : Option ArgType → TypeState → Option ArgType
  from_upper o s = or_else (by_upper s.exact s.lower s.upper s.domain) (from_cast o s.upper s.domain s.fallback)
