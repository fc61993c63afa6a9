-- A PROBLEM THAT SORTED SLICES KEEP: what the row functions leave, the solve reads, and every contract between them speaks of.
use Rattle.std.specs.Prelude.{◌≡◌, refl, ℕ, ◌+◌, ◌≤◌, ◌<◌, length}
use Rattle.std.proofs.Common.{sym, ap, subst, arith}
use mathlib.Core.List.{List, [], ◌∷◌, map, Memᴰ}
use Rattle.std.proofs.lemmas.List.{length-map}
use Rattle.sorted.specs.Sorted.{Sorted}
use Rattle.solving.specs.Queue.{Below}
use Rattle.solving.specs.Solving.{Pair, Problem}
use Rattle.solving.specs.Solve.{Checked}
use Rattle.solving.specs.TableKeys.{keys_of, bound_of, AllKeyed}
use Rattle.solving.proofs.TableKeys.{keys-sorted, table-back}
use Rattle.solving.specs.LinkKeys.{pair_of}
use Rattle.problems.specs.Held.{Held, Links}
use Rattle.problems.proofs.Held.{held-checked}
use Rattle.problems.specs.Stored.{pair_key, Narrow}
use Rattle.problems.proofs.Stored.{keys-back, pairs-back, pair-keys-sorted, held-keyed}
use Rattle.problems.specs.Kept.{problem_of, Keeps}

-- ---- a held problem in its own keys

links-narrow : (n : ℕ) (l : List Pair) → n ≤ 512 → Links n l → Narrow l
links-narrow n l few k r m = let z = (k.within r m).1 in omega arith

-- pairs of components below 512 come back from their numbers
pub links-back : (n : ℕ) (l : List Pair) → n ≤ 512 → Links n l → map pair_of (map pair_key l) ≡ l
links-back n l few k = pairs-back l (links-narrow n l few k)

module _ (names : ℕ) (p : Problem) (few : names ≤ 1024) (h : Held names p) where
  -- THE KEYS AND THE PAIRS OF A HELD PROBLEM HOLD IT
  pub held-back : problem_of p.components p.variables (keys_of p.bounds) (map pair_key p.flows) (map pair_key p.upper_flows) (map pair_key p.reads) (map pair_key p.writes) ≡ p
  held-back =
      let b = table-back p.bounds (held-keyed names p few h) in
      let f = links-back p.components p.flows h.few h.flows in
      let u = links-back p.components p.upper_flows h.few h.upper_flows in
      let r = links-back p.components p.reads h.few h.reads in
      let w = links-back p.components p.writes h.few h.writes in
      λ i. record { components = p.components; variables = p.variables; bounds = b i; flows = f i; upper_flows = u i; reads = r i; writes = w i }

  pub held-keeps : Keeps names p.components p.variables (keys_of p.bounds) (map pair_key p.flows) (map pair_key p.upper_flows) (map pair_key p.reads) (map pair_key p.writes)
  held-keeps = record {
    held = subst (Held names) (sym held-back) h;
    keyed = ap keys_of (table-back p.bounds (held-keyed names p few h));
  }

-- ---- what is kept

-- sorted numbers of links
pub kept-sorted : (n : ℕ) (l : List ℕ) → n ≤ 512 → Links n (map pair_of l) → Sorted l
kept-sorted n l few k = subst Sorted (keys-back l) (pair-keys-sorted (map pair_of l) (links-narrow n (map pair_of l) few k) k.ascend)

-- each of two components
in-below : (n : ℕ) (l : List ℕ) → n ≤ 512 → ((r : Pair) → Memᴰ r (map pair_of l) → r.0 < n) → Below 262144 l
in-below n [] few h = tt
in-below n (x ∷ l) few h = (let z = h (pair_of x) (Memᴰ.head refl) in omega arith, in-below n l few (λ r m. h r (Memᴰ.tail m)))

pub kept-below : (n : ℕ) (l : List ℕ) → n ≤ 512 → Links n (map pair_of l) → Below 262144 l
kept-below n l few k = in-below n l few (λ r m. (k.within r m).0)

module _ (names components : ℕ) (variables bounds flows uppers reads writes : List ℕ) (k : Keeps names components variables bounds flows uppers reads writes) where
  -- IT IS WHAT A SOLVE ASKS
  pub keeps-checked : Checked names (problem_of components variables bounds flows uppers reads writes)
  keeps-checked = held-checked names (problem_of components variables bounds flows uppers reads writes) k.held

  -- its bounds have keys
  pub keeps-keyed : names ≤ 1024 → AllKeyed (map bound_of bounds)
  keeps-keyed few = held-keyed names (problem_of components variables bounds flows uppers reads writes) few k.held

  pub keeps-bounds : names ≤ 1024 → Sorted bounds
  keeps-bounds few = subst Sorted k.keyed (keys-sorted (map bound_of bounds) (keeps-keyed few) k.held.bounds-ascend)

  pub keeps-flows : Sorted flows
  keeps-flows = kept-sorted components flows k.held.few k.held.flows

  pub keeps-uppers : Sorted uppers
  keeps-uppers = kept-sorted components uppers k.held.few k.held.upper_flows

  pub keeps-reads : Sorted reads
  keeps-reads = kept-sorted components reads k.held.few k.held.reads

  pub keeps-writes : Sorted writes
  keeps-writes = kept-sorted components writes k.held.few k.held.writes

  -- how many there are at most
  pub keeps-few : (length bounds ≤ 4096) × (length flows ≤ 2048) × (length uppers ≤ 1024) × (length reads + length writes ≤ 1024)
  keeps-few = (
    subst (λ (n : ℕ). n ≤ 4096) (length-map bounds bound_of) k.held.bounds-few,
    subst (λ (n : ℕ). n ≤ 2048) (length-map flows pair_of) k.held.flows-few,
    subst (λ (n : ℕ). n ≤ 1024) (length-map uppers pair_of) k.held.upper-few,
    let a = k.held.arrays-few in let r = length-map reads pair_of in let w = length-map writes pair_of in omega arith,
  )
