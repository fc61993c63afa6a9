-- The solving half of lattice.rs over types and a world, in the names and the order of cases of the Rust: a table of bounds, the
-- rules of propagate, turns, and the five ways of resolve_state. A component is its number.
use Rattle.std.specs.Prelude.{Bool, true, false, cond, List, [], ◌∷◌, ◌++◌, ℕ, zero, suc, ◌+◌, eqb, leb, ltb, length}
use Rattle.std.proofs.Math.Option.{Option, some, none}
use Rattle.order.specs.Compare.{then, compare_numbers}
use Rattle.order.specs.Lists.{elem}
use Rattle.std.specs.declared.cmp.Ordering.{Ordering}
use Rattle.ty.specs.Types.{ArgType, Array, depth, element, is_concrete, concrete_hint, compare}
use Rattle.view.specs.View.{numbers}
use Rattle.lattice.specs.Lattice.{World, is_assignable, producer_bound_compatible, domain_accepts, join_all, most_specific_upper}
use Rattle.solving.specs.Ordered.{present, insert, set_of}

-- ---- bounds and the table

-- BoundKind, in the order of the final columns
abbrev pub Domain : ℕ
Domain = 0

abbrev pub Fallback : ℕ
Fallback = 1

abbrev pub Upper : ℕ
Upper = 2

abbrev pub Lower : ℕ
Lower = 3

abbrev pub Exact : ℕ
Exact = 4

pub record Bound : Type 0 where
  pub component : ℕ
  pub kind : ℕ
  pub type : ArgType

abbrev pub bound : ℕ → ℕ → ArgType → Bound
bound c k t = record { component = c; kind = k; type = t }

-- by component, then by kind, then by type
unfoldable pub compare_bounds : Bound → Bound → Ordering
compare_bounds a b = then (compare_numbers a.component b.component) (then (compare_numbers a.kind b.kind) (compare a.type b.type))

-- a table of bounds is strictly ascending
abbrev pub Table : Type 0
Table = List Bound

-- the types of a component's bounds of one kind, ascending
unfoldable pub types_of : ℕ → ℕ → Table → List ArgType
types_of c k [] = []
types_of c k (b ∷ bs) = cond (eqb b.component c) (cond (eqb b.kind k) (b.type ∷ types_of c k bs) (types_of c k bs)) (types_of c k bs)

-- ---- TypeState

pub record TypeState : Type 0 where
  pub exact : List ArgType
  pub lower : List ArgType
  pub upper : List ArgType
  pub domain : List ArgType
  pub fallback : List ArgType

-- a component's state: what a turn copies
unfoldable pub state_of : Table → ℕ → TypeState
state_of table c = record {
  exact = types_of c Exact table;
  lower = types_of c Lower table;
  upper = types_of c Upper table;
  domain = types_of c Domain table;
  fallback = types_of c Fallback table;
}

abbrev pub evidence : List ArgType → List ArgType → List ArgType
evidence [] lower = lower
evidence (t ∷ ts) lower = t ∷ ts

unfoldable pub produced_type : World → TypeState → Option ArgType
produced_type w s = join_all w (evidence s.exact s.lower)

-- ---- small helpers on what may be missing

abbrev pub or_else : {A : Type 0} → Option A → Option A → Option A
or_else none other = other
or_else (some t) other = some t

-- .filter(is_concrete)
abbrev pub only_concrete : Option ArgType → Option ArgType
only_concrete none = none
only_concrete (some t) = cond (is_concrete t) (some t) none

abbrev pub element_of : Option ArgType → Option ArgType
element_of none = none
element_of (some t) = element t

-- into_iter
abbrev pub list_of : Option ArgType → List ArgType
list_of none = []
list_of (some t) = t ∷ []

-- array_element: of the produced type, or of the most specific upper bound if nothing is produced
unfoldable pub array_element : World → TypeState → Option ArgType
array_element w s = element_of (or_else (produced_type w s) (most_specific_upper w s.upper))

-- the array of a concrete produced type
abbrev pub array_of : Option ArgType → List ArgType
array_of none = []
array_of (some t) = Array t ∷ []

unfoldable pub produced_array : World → TypeState → List ArgType
produced_array w s = array_of (only_concrete (produced_type w s))

-- ---- links between components, each a strictly ascending list of pairs

abbrev pub Pair : Type 0
Pair = ℕ × ℕ

unfoldable pub compare_pairs : Pair → Pair → Ordering
compare_pairs p q = then (compare_numbers p.0 q.0) (compare_numbers p.1 q.1)

pub record Links : Type 0 where
  -- source, target
  pub flows : List Pair
  -- target, source: of flows and upper flows
  pub incoming : List Pair
  -- array, result
  pub reads : List Pair
  -- array, value
  pub writes : List Pair

-- the second of each pair whose first is c, ascending: the targets of c in flows, its sources in incoming
unfoldable pub partners : ℕ → List Pair → List ℕ
partners c [] = []
partners c (p ∷ ps) = cond (eqb p.0 c) (p.1 ∷ partners c ps) (partners c ps)

-- ---- the rules of propagate: what a component's turn inserts, in order, from the copy of its state

-- a bound, and the rule that adds it
pub record Addition : Type 0 where
  pub rule : ℕ
  pub adds : Bound

-- some types to one component
unfoldable pub to_one : ℕ → ℕ → List ArgType → ℕ → List Addition
to_one rule kind [] c = []
to_one rule kind (t ∷ ts) c = record { rule = rule; adds = bound c kind t } ∷ to_one rule kind ts c

-- and to each of a list of components
unfoldable pub to_each : ℕ → ℕ → List ArgType → List ℕ → List Addition
to_each rule kind ts [] = []
to_each rule kind ts (c ∷ cs) = to_one rule kind ts c ++ to_each rule kind ts cs

-- array constraints in the order of pairs: from the array's side where the array is the root, else from the other side where that is
unfoldable pub array_rules : ℕ → ℕ → List ArgType → ℕ → List ArgType → ℕ → List Pair → List Addition
array_rules near kind elements far arrays root [] = []
array_rules near kind elements far arrays root (p ∷ ps) =
    cond (eqb p.0 root) (to_one near kind elements p.1) (cond (eqb p.1 root) (to_one far Lower arrays p.0) [])
    ++ array_rules near kind elements far arrays root ps

-- 1 the produced type to the targets; 2 fallbacks to the targets; 3 upper and exact to the sources; 4 a read's element to its result;
-- 5 a read's result to its array; 6 a write's element to its value; 7 a write's value to its array
unfoldable pub additions : World → Links → ℕ → TypeState → List Addition
additions w l root s =
    to_each 1 Lower (list_of (produced_type w s)) (partners root l.flows)
    ++ (to_each 2 Fallback s.fallback (partners root l.flows)
    ++ (to_each 3 Upper (s.upper ++ s.exact) (partners root l.incoming)
    ++ (array_rules 4 Exact (list_of (array_element w s)) 5 (produced_array w s) root l.reads
    ++ array_rules 6 Upper (list_of (array_element w s)) 7 (produced_array w s) root l.writes)))

-- ---- insert_bound, with the limits' refusals: a table and the queue, each component in it at most once

abbrev pub room : ℕ
room = 4096

pub data Outcome : Type 0 where
  Refused : ℕ → Outcome
  Going : Table → List ℕ → Outcome

-- to the back, who is not queued
unfoldable pub enqueue : ℕ → List ℕ → List ℕ
enqueue c queue = cond (elem c queue) queue (queue ++ (c ∷ []))

unfoldable pub insert_bound : Bound → Table → List ℕ → Outcome
insert_bound b table queue =
    cond (ltb 255 (depth b.type)) (Refused 20)
    (cond (present compare_bounds b table) (Going table queue)
    (cond (leb room (length table)) (Refused 21) (Going (insert compare_bounds b table) (enqueue b.component queue))))

unfoldable pub insert_all : List Addition → Outcome → Outcome
insert_all [] o = o
insert_all (a ∷ rest) (Refused k) = Refused k
insert_all (a ∷ rest) (Going table queue) = insert_all rest (insert_bound a.adds table queue)

-- ---- propagate

-- the turn of a component that was taken from the front
unfoldable pub turn : World → Links → ℕ → Table → List ℕ → Outcome
turn w l root table queue = insert_all (additions w l root (state_of table root)) (Going table queue)

pub data Finish : Type 0 where
  Stopped : ℕ → Finish
  -- the table, the queue that is left, the turns taken
  Ended : Table → List ℕ → ℕ → Finish

-- turn by turn until the queue is empty
unfoldable pub run : World → Links → ℕ → ℕ → Outcome → Finish
run w l zero turns (Refused k) = Stopped k
run w l zero turns (Going table queue) = Ended table queue turns
run w l (suc fuel) turns (Refused k) = Stopped k
run w l (suc fuel) turns (Going table []) = Ended table [] turns
run w l (suc fuel) turns (Going table (root ∷ queue)) = run w l fuel (suc turns) (turn w l root table queue)

-- all components queued, ascending; the fuel is enough (`propagate-empties`)
unfoldable pub propagate : World → Links → ℕ → Table → Finish
propagate w l components table = run w l (components + room) 0 (Going table (numbers 0 components))

-- ---- resolve_state: five ways, each a candidate and what it is tested on

-- why a way gives no answer: no candidate; the first bound in the final order that fails its test; the domain; two candidates
pub data Cause : Type 0 where
  NoCandidate : Cause
  Fails : ℕ → ArgType → Cause
  OutsideDomain : Cause
  TwoCandidates : Cause

pub data Tried : Type 0 where
  Answer : ArgType → Tried
  Because : Cause → Tried

-- the first of a kind's types that fails
unfoldable pub first_failing : ℕ → (ArgType → Bool) → List ArgType → Option Cause
first_failing kind test [] = none
first_failing kind test (t ∷ ts) = cond (test t) (first_failing kind test ts) (some (Fails kind t))

unfoldable pub domain_cause : List ArgType → ArgType → Option Cause
domain_cause domain candidate = cond (domain_accepts domain candidate) none (some OutsideDomain)

abbrev pub judged : ArgType → Option Cause → Tried
judged candidate none = Answer candidate
judged candidate (some cause) = Because cause

-- a candidate, if there is one, by its test
abbrev pub tried : Option ArgType → (ArgType → Option Cause) → Tried
tried none test = Because NoCandidate
tried (some candidate) test = judged candidate (test candidate)

-- 1: evidence that fits
unfoldable pub evidence_fits : World → TypeState → Tried
evidence_fits w s = tried (only_concrete (produced_type w s)) (λ ty. first_failing Upper (is_assignable w ty) s.upper)

-- 2: the upper candidate
unfoldable pub upper_candidate : World → TypeState → Tried
upper_candidate w s =
    tried (most_specific_upper w s.upper)
    (λ candidate.
    or_else (first_failing Lower (λ b. producer_bound_compatible w b candidate) s.lower)
    (or_else (first_failing Exact (λ b. producer_bound_compatible w b candidate) s.exact) (domain_cause s.domain candidate)))

-- 3: evidence that needs a cast
unfoldable pub evidence_cast : World → TypeState → Tried
evidence_cast w s =
    tried (only_concrete (produced_type w s))
    (λ ty. or_else (first_failing Upper (producer_bound_compatible w ty) s.upper) (domain_cause s.domain ty))

-- 4: fallback
unfoldable pub fallback_join : World → TypeState → Tried
fallback_join w s =
    tried (only_concrete (join_all w s.fallback))
    (λ candidate. or_else (first_failing Upper (is_assignable w candidate) s.upper) (domain_cause s.domain candidate))

-- 5: the one hint of the domain
abbrev pub hint_of : Option ArgType → List ArgType → List ArgType
hint_of none hints = hints
hint_of (some t) hints = insert compare t hints

unfoldable pub hints_of : ℕ → List ArgType → List ArgType
hints_of object [] = []
hints_of object (t ∷ ts) = hint_of (concrete_hint object t) (hints_of object ts)

abbrev pub only_one : List ArgType → (ArgType → Option Cause) → Tried
only_one [] test = Because NoCandidate
only_one (candidate ∷ []) test = judged candidate (test candidate)
only_one (candidate ∷ other ∷ rest) test = Because TwoCandidates

unfoldable pub domain_hint : World → TypeState → Tried
domain_hint w s = only_one (hints_of w.object s.domain) (λ candidate. first_failing Upper (is_assignable w candidate) s.upper)

-- the ways in their order; the first that answers gives the answer
unfoldable pub ways : World → TypeState → List Tried
ways w s = evidence_fits w s ∷ upper_candidate w s ∷ evidence_cast w s ∷ fallback_join w s ∷ domain_hint w s ∷ []

unfoldable pub first_answer : List Tried → Option ArgType
first_answer [] = none
first_answer (Answer t ∷ rest) = some t
first_answer (Because cause ∷ rest) = first_answer rest

unfoldable pub resolve_state : World → TypeState → Option ArgType
resolve_state w s = first_answer (ways w s)

-- ---- solve

pub record Problem : Type 0 where
  pub components : ℕ
  -- each variable's component
  pub variables : List ℕ
  -- rows in any order
  pub bounds : List Bound
  pub flows : List Pair
  pub upper_flows : List Pair
  pub reads : List Pair
  pub writes : List Pair

unfoldable pub swapped : List Pair → List Pair
swapped [] = []
swapped (p ∷ ps) = (p.1, p.0) ∷ swapped ps

unfoldable pub links_of : Problem → Links
links_of p = record {
  flows = set_of compare_pairs p.flows;
  incoming = set_of compare_pairs (swapped (p.flows ++ p.upper_flows));
  reads = set_of compare_pairs p.reads;
  writes = set_of compare_pairs p.writes;
}

unfoldable pub table_of : Problem → Table
table_of p = set_of compare_bounds p.bounds

unfoldable pub answers : World → Table → List ℕ → List (Option ArgType)
answers w table [] = []
answers w table (c ∷ cs) = resolve_state w (state_of table c) ∷ answers w table cs

pub data Solution : Type 0 where
  -- 20 or 21
  Unsolved : ℕ → Solution
  -- the final bounds, the turns, each variable's answer
  Solved : Table → ℕ → List (Option ArgType) → Solution

abbrev pub solution : World → List ℕ → Finish → Solution
solution w variables (Stopped k) = Unsolved k
solution w variables (Ended table queue turns) = Solved table turns (answers w table variables)

unfoldable pub solve : World → Problem → Solution
solve w p = solution w p.variables (propagate w (links_of p) p.components (table_of p))

-- ---- closed: no rule would add a bound

unfoldable pub all_present : List Addition → Table → Bool
all_present [] table = true
all_present (a ∷ rest) table = cond (present compare_bounds a.adds table) (all_present rest table) false

-- no rule adds to a table from a component's state
unfoldable pub settled : World → Links → Table → ℕ → Bool
settled w l table c = all_present (additions w l c (state_of table c)) table

unfoldable pub all_settled : World → Links → Table → List ℕ → Bool
all_settled w l table [] = true
all_settled w l table (c ∷ cs) = cond (settled w l table c) (all_settled w l table cs) false

-- nor from that of any component
unfoldable pub closed : World → Links → ℕ → Table → Bool
closed w l components table = all_settled w l table (numbers 0 components)
