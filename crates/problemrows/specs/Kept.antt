-- A ROW ON KEPT SLICES IS THE PROBLEM'S ROW: the same refusal, the entries that it leaves hold the problem after it, and they are kept again.
-- One law a kind of row.
use Rattle.std.specs.Prelude.{◌≡◌, refl, Bool, true, false, cond, not, ◌&&◌, ℕ, ◌+◌, ◌-◌, ◌*◌, ◌^◌, ◌≤◌, ◌<◌, eqb, leb}
use Rattle.std.proofs.Common.{sym, ◌∙◌, subst, lt-ltb, le-ltb, ltb-true, ltb-false, leb-true}
use Rattle.std.proofs.Math.Path.{ap}
use mathlib.Core.List.{List, [], ◌∷◌, ◌++◌, map}
use native.Mathlib.Omega.{arith}
use Rattle.std.proofs.Math.Dec.{ltb}
use Rattle.std.proofs.Math.ListN.{length, length-map}
use Rattle.order.specs.Truth.{both}
use Rattle.checks.specs.Checks.{check, first_refusal}
use Rattle.sorted.specs.Sorted.{put}
use Rattle.ty.specs.Words.{legal_word, type_of}
use Rattle.ty.specs.Round.{legal-type-more, legal-of-word}
use Rattle.keys.specs.Rank.{key}
use Rattle.solving.specs.Ordered.{insert}
use Rattle.solving.specs.Solving.{Bound, bound, compare_bounds, Pair, compare_pairs, Problem}
use Rattle.solving.specs.TableKeys.{keys_of, bound_of, Keyed, AllKeyed}
use Rattle.solving.proofs.TableKeys.{table-back}
use Rattle.solving.specs.LinkKeys.{pair_of}
use Rattle.solving.proofs.LinkKeys.{pairs-put}
use Rattle.problems.specs.Problems.{ProblemRow, counted, variable, bounded, flow, upper_flow, reading, writing, no_problem, with_variable, with_row, row_checks, row_refusal, problem_row, Placed}
use Rattle.problems.specs.Held.{Held, Links, Later}
use Rattle.problems.proofs.Held.{held-row, held-count}
use Rattle.problems.proofs.Stored.{pair-back, keys-back, pair-room, bound-stored, bound-room, held-keyed}
use Rattle.problems.specs.Kept.{problem_of, Keeps}
use Rattle.problems.proofs.Kept.{kept-sorted}
use Rattle.problemrows.specs.ProblemRows.{Ran, refused, taken, count_refusal, variable_refusal, variable_row, entry_row, pair_row, bound_row}

abbrev pub placed : ℕ → Problem → Placed
placed k p = record { refusal = k; problem = p }

-- what a row comes to, of the entries l of its kind: `place` is the problem with such entries, `Kept` what its slices have
pub record Comes (names : ℕ) (row : ProblemRow) (place : List ℕ → Problem) (Kept : List ℕ → Type 0) (l : List ℕ) (s : Ran) : Type 0 where
  pub same : problem_row names row (place l) ≡ placed s.refusal (place s.entries)
  pub keeps : Kept s.entries

-- a row by its refusal
row-is : (names : ℕ) (r : ProblemRow) (p : Problem) (k : ℕ) → row_refusal names r p ≡ k → problem_row names r p ≡ placed k (cond (eqb k 0) (with_row r p) p)
unfolding problem_row
row-is names r p k e = ap (λ (z : ℕ). placed z (cond (eqb z 0) (with_row r p) p)) e

-- what is held after a row is held of the problem that it comes to
held-same : (names : ℕ) (r : ProblemRow) (p q : Problem) (k : ℕ) → Later r → Held names p → problem_row names r p ≡ placed k q → Held names q
held-same names r p q k l h e = subst (λ (z : Placed). Held names z.problem) e (held-row names p h r l)

-- ---- pairs, by what is particular to their kind

module _ (names components room : ℕ) (places : List Pair → Problem) (row : ℕ → ℕ → ProblemRow) (over : ℕ → Bool)
    (checks : (a b : ℕ) (l : List Pair) → row_refusal names (row a b) (places l)
    ≡ first_refusal (check (not (ltb a components && ltb b components)) 6 ∷ check (over (length (insert compare_pairs (a, b) l))) 8 ∷ []))
    (takes : (a b : ℕ) (l : List Pair) → with_row (row a b) (places l) ≡ places (insert compare_pairs (a, b) l))
    (count : (m : ℕ) → over m ≡ ltb room m) where
  module _ (a b : ℕ) (l : List ℕ) (few : components ≤ 512) (k : Links components (map pair_of l)) where
    abbrev after : List Pair
    after = insert compare_pairs (a, b) (map pair_of l)

    -- of two components: as many stand after it, and they are the same
    pairs-many : a < components → b < components → length after ≡ length (put (a * 512 + b) l)
    pairs-many i j = pair-room components (a, b) (map pair_of l) few (i, j) k ∙ ap (λ (m : List ℕ). length (put (a * 512 + b) m)) (keys-back l)

    pairs-are : b < components → map pair_of (put (a * 512 + b) l) ≡ after
    pairs-are j =
        pairs-put (a * 512 + b) l (kept-sorted components l few k)
        ∙ ap (λ (r : Pair). insert compare_pairs r (map pair_of l)) (pair-back (a, b) (omega arith))

    abbrev p : Problem
    p = places (map pair_of l)

    abbrev Same : Type 0
    Same = problem_row names (row a b) p ≡ placed (pair_row components room a b l).refusal (places (map pair_of (pair_row components room a b l).entries))

    pair-outside : (ltb a components && ltb b components) ≡ false → Same
    unfolding pair_row first_refusal
    pair-outside e = rw e (row-is names (row a b) p 6 (checks a b (map pair_of l) ∙ rw e))

    pair-over : (ltb a components && ltb b components) ≡ true → over (length after) ≡ true → ltb room (length (put (a * 512 + b) l)) ≡ true → Same
    unfolding pair_row entry_row first_refusal
    pair-over e f g = rw (e, g) (row-is names (row a b) p 8 (checks a b (map pair_of l) ∙ rw (e, f)))

    pair-taken : (ltb a components && ltb b components) ≡ true → over (length after) ≡ false → ltb room (length (put (a * 512 + b) l)) ≡ false → b < components → Same
    unfolding pair_row entry_row first_refusal
    pair-taken e f g j =
        rw (e, g) (row-is names (row a b) p 0 (checks a b (map pair_of l) ∙ rw (e, f)) ∙ ap (placed 0) (takes a b (map pair_of l) ∙ ap places (sym (pairs-are j))))

    pub pair-same : Same
    pair-same = go (ltb a components && ltb b components) refl (ltb room (length (put (a * 512 + b) l))) refl
      where
        inside : (u : Bool) → (ltb a components && ltb b components) ≡ true → a < components → b < components → ltb room (length (put (a * 512 + b) l)) ≡ u → Same
        inside true e i j f = pair-over e (count (length after) ∙ ap (ltb room) (pairs-many i j) ∙ f) f
        inside false e i j f = pair-taken e (count (length after) ∙ ap (ltb room) (pairs-many i j) ∙ f) f j

        go : (t : Bool) → (ltb a components && ltb b components) ≡ t → (u : Bool) → ltb room (length (put (a * 512 + b) l)) ≡ u → Same
        go false e u f = pair-outside e
        go true e u f =
            let i = both (ltb a components) (ltb b components) e in
            inside u e (ltb-true a components i.0) (ltb-true b components i.1) f

-- a room that others stand in, too
shared-room : (limit others m : ℕ) → others ≤ limit → ltb limit (m + others) ≡ ltb (limit - others) m
shared-room limit others m h = go (ltb (limit - others) m) refl
  where
    go : (t : Bool) → ltb (limit - others) m ≡ t → ltb limit (m + others) ≡ t
    go true e = let k = ltb-true (limit - others) m e in lt-ltb limit (m + others) (omega arith)
    go false e = let k = ltb-false (limit - others) m e in le-ltb limit (m + others) (omega arith)

module _ (names components : ℕ) (variables bounds flows uppers reads writes : List ℕ) (k : Keeps names components variables bounds flows uppers reads writes) where
  -- A FLOW
  pub flow-kept : (a b : ℕ) → Comes names (flow a b) (λ l. problem_of components variables bounds l uppers reads writes) (λ l. Keeps names components variables bounds l uppers reads writes) flows (pair_row components 2048 a b flows)
  unfolding row_refusal row_checks with_row
  flow-kept a b =
      let same = pair-same names components 2048 (λ l. record { components = components; variables = variables; bounds = map bound_of bounds; flows = l; upper_flows = map pair_of uppers; reads = map pair_of reads; writes = map pair_of writes })
      flow (ltb 2048) (λ a b l. refl) (λ a b l. refl) (λ m. refl) a b flows k.held.few k.held.flows in
      record { same = same; keeps = record { held = held-same names (flow a b) _ _ _ tt k.held same; keyed = k.keyed } }

  -- AN UPPER FLOW
  pub upper-kept : (a b : ℕ) → Comes names (upper_flow a b) (λ l. problem_of components variables bounds flows l reads writes) (λ l. Keeps names components variables bounds flows l reads writes) uppers (pair_row components 1024 a b uppers)
  unfolding row_refusal row_checks with_row
  upper-kept a b =
      let same = pair-same names components 1024 (λ l. record { components = components; variables = variables; bounds = map bound_of bounds; flows = map pair_of flows; upper_flows = l; reads = map pair_of reads; writes = map pair_of writes })
      upper_flow (ltb 1024) (λ a b l. refl) (λ a b l. refl) (λ m. refl) a b uppers k.held.few k.held.upper_flows in
      record { same = same; keeps = record { held = held-same names (upper_flow a b) _ _ _ tt k.held same; keyed = k.keyed } }

  -- A READ, in the room that the writes leave
  pub read-kept : (a b : ℕ)
      → Comes names (reading a b) (λ l. problem_of components variables bounds flows uppers l writes) (λ l. Keeps names components variables bounds flows uppers l writes) reads (pair_row components (1024 - length writes) a b reads)
  unfolding row_refusal row_checks with_row
  read-kept a b =
      let many = length-map writes pair_of in
      let few = k.held.arrays-few in
      let same = pair-same names components (1024 - length writes) (λ l. record { components = components; variables = variables; bounds = map bound_of bounds; flows = map pair_of flows; upper_flows = map pair_of uppers; reads = l; writes = map pair_of writes })
      reading (λ m. ltb 1024 (m + length (map pair_of writes))) (λ a b l. refl) (λ a b l. refl)
      (λ m. ap (λ (z : ℕ). ltb 1024 (m + z)) many ∙ shared-room 1024 (length writes) m (omega arith)) a b reads k.held.few k.held.reads in
      record { same = same; keeps = record { held = held-same names (reading a b) _ _ _ tt k.held same; keyed = k.keyed } }

  -- A WRITE, in the room that the reads leave
  pub write-kept : (a b : ℕ)
      → Comes names (writing a b) (λ l. problem_of components variables bounds flows uppers reads l) (λ l. Keeps names components variables bounds flows uppers reads l) writes (pair_row components (1024 - length reads) a b writes)
  unfolding row_refusal row_checks with_row
  write-kept a b =
      let many = length-map reads pair_of in
      let few = k.held.arrays-few in
      let same = pair-same names components (1024 - length reads) (λ l. record { components = components; variables = variables; bounds = map bound_of bounds; flows = map pair_of flows; upper_flows = map pair_of uppers; reads = map pair_of reads; writes = l })
      writing (λ m. ltb 1024 (length (map pair_of reads) + m)) (λ a b l. refl) (λ a b l. refl)
      (λ m. ap (ltb 1024) (let z : length (map pair_of reads) + m ≡ m + length reads = omega arith in z) ∙ shared-room 1024 (length reads) m (omega arith)) a b writes k.held.few k.held.writes in
      record { same = same; keeps = record { held = held-same names (writing a b) _ _ _ tt k.held same; keyed = k.keyed } }

  -- A VARIABLE
  variable-same : (c : ℕ) → problem_row names (variable c) (problem_of components variables bounds flows uppers reads writes)
      ≡ placed (variable_row components c variables).refusal (problem_of components (variable_row components c variables).entries bounds flows uppers reads writes)
  unfolding problem_row row_refusal row_checks with_row first_refusal variable_row variable_refusal
  variable-same c = go (ltb c components) (leb 2048 (length variables))
    where
      p : Problem
      p = problem_of components variables bounds flows uppers reads writes

      z : Bool → Bool → ℕ
      z s t = first_refusal (check (not s) 6 ∷ check t 8 ∷ [])

      r : Bool → Bool → Ran
      r s t = cond (eqb (cond s (cond t 8 0) 6) 0) (taken (variables ++ (c ∷ []))) (refused (cond s (cond t 8 0) 6) variables)

      go : (s t : Bool) → placed (z s t) (cond (eqb (z s t) 0) (with_variable c p) p) ≡ placed (r s t).refusal (problem_of components (r s t).entries bounds flows uppers reads writes)
      go true true = refl
      go true false = refl
      go false t = refl

  pub variable-kept : (c : ℕ) → Comes names (variable c) (λ l. problem_of components l bounds flows uppers reads writes) (λ l. Keeps names components l bounds flows uppers reads writes) variables (variable_row components c variables)
  variable-kept c = record { same = variable-same c; keeps = record { held = held-same names (variable c) _ _ _ tt k.held (variable-same c); keyed = k.keyed } }

  -- A BOUND
  module _ (small : names ≤ 1024) (c d w : ℕ) (fits : w < 2 ^ 64) where
    abbrev b : Bound
    b = bound c d (type_of w)

    abbrev row : ProblemRow
    row = bounded c d w

    abbrev x : ℕ
    x = key c d (type_of w)

    abbrev given : Problem
    given = problem_of components variables bounds flows uppers reads writes

    abbrev bounds_after : List Bound
    bounds_after = insert compare_bounds b (map bound_of bounds)

    keyed-all : AllKeyed (map bound_of bounds)
    keyed-all = held-keyed names given small k.held

    keyed-one : d ≤ 4 → legal_word names w ≡ true → Keyed b
    keyed-one h e = record { kind = omega arith; type = legal-type-more names 1024 (type_of w) small (legal-of-word names w fits e) }

    bounds-stored : Keyed b → keys_of bounds_after ≡ put x bounds
    bounds-stored g = bound-stored b (map bound_of bounds) g keyed-all k.held.bounds-ascend ∙ ap (put x) k.keyed

    bounds-many : Keyed b → length bounds_after ≡ length (put x bounds)
    bounds-many g = bound-room b (map bound_of bounds) g keyed-all k.held.bounds-ascend ∙ ap (λ (l : List ℕ). length (put x l)) k.keyed

    -- the problem, and that its keys are its own
    abbrev BoundSame : Type 0
    BoundSame = (problem_row names row given ≡ placed (bound_row names components c d w bounds).refusal (problem_of components variables (bound_row names components c d w bounds).entries flows uppers reads writes))
        × (keys_of (map bound_of (bound_row names components c d w bounds).entries) ≡ (bound_row names components c d w bounds).entries)

    bound-outside : (ltb c components && leb d 4) ≡ false → BoundSame
    unfolding bound_row first_refusal row_refusal row_checks
    bound-outside e = rw e (row-is names row given 6 (rw e), k.keyed)

    bound-no-type : (ltb c components && leb d 4) ≡ true → legal_word names w ≡ false → BoundSame
    unfolding bound_row first_refusal row_refusal row_checks
    bound-no-type e f = rw (e, f) (row-is names row given 7 (rw (e, f)), k.keyed)

    bound-over : (ltb c components && leb d 4) ≡ true → legal_word names w ≡ true → ltb 4096 (length bounds_after) ≡ true → ltb 4096 (length (put x bounds)) ≡ true → BoundSame
    unfolding bound_row entry_row first_refusal row_refusal row_checks
    bound-over e f g h = rw (e, f, h) (row-is names row given 8 (rw (e, f, g)), k.keyed)

    bound-passes : (ltb c components && leb d 4) ≡ true → legal_word names w ≡ true → ltb 4096 (length bounds_after) ≡ false → problem_row names row given ≡ placed 0 (with_row row given)
    unfolding first_refusal row_refusal row_checks
    bound-passes e f g = row-is names row given 0 (rw (e, f, g))

    bound-taken : (ltb c components && leb d 4) ≡ true → legal_word names w ≡ true → ltb 4096 (length bounds_after) ≡ false → ltb 4096 (length (put x bounds)) ≡ false → Keyed b → BoundSame
    unfolding bound_row entry_row with_row
    bound-taken e f g h y =
        let held = held-same names row given (with_row row given) 0 fits k.held (bound-passes e f g) in
        let stored = bounds-stored y in
        let back = ap (map bound_of) (sym stored) ∙ table-back bounds_after (held-keyed names (with_row row given) small held) in
        rw (e, f, h) (
          bound-passes e f g ∙ ap (λ (l : List Bound). placed 0 (record { components = components; variables = variables; bounds = l; flows = map pair_of flows; upper_flows = map pair_of uppers; reads = map pair_of reads; writes = map pair_of writes })) (sym back),
          ap keys_of back ∙ stored,
        )

    bound-same : BoundSame
    bound-same = go (ltb c components && leb d 4) refl (legal_word names w) refl (ltb 4096 (length (put x bounds))) refl
      where
        inside : (u : Bool) → (ltb c components && leb d 4) ≡ true → legal_word names w ≡ true → Keyed b → ltb 4096 (length (put x bounds)) ≡ u → BoundSame
        inside true e f y g = bound-over e f (ap (ltb 4096) (bounds-many y) ∙ g) g
        inside false e f y g = bound-taken e f (ap (ltb 4096) (bounds-many y) ∙ g) g y

        go : (s : Bool) → (ltb c components && leb d 4) ≡ s → (t : Bool) → legal_word names w ≡ t → (u : Bool) → ltb 4096 (length (put x bounds)) ≡ u → BoundSame
        go false e t f u g = bound-outside e
        go true e false f u g = bound-no-type e f
        go true e true f u g = inside u e f (keyed-one (leb-true d 4 (both (ltb c components) (leb d 4) e).1) f) g

    pub bound-kept : Comes names row (λ l. problem_of components variables l flows uppers reads writes) (λ l. Keeps names components variables l flows uppers reads writes) bounds (bound_row names components c d w bounds)
    bound-kept = record { same = bound-same.0; keeps = record { held = held-same names row given _ _ fits k.held bound-same.0; keyed = bound-same.1 } }

-- ---- THE COUNT, before every other row

pub count-same : (names n : ℕ) → problem_row names (counted n) no_problem ≡ placed (count_refusal n) (cond (eqb (count_refusal n) 0) (problem_of n [] [] [] [] [] []) no_problem)
unfolding problem_row row_refusal row_checks with_row first_refusal count_refusal no_problem
count-same names n = refl

-- one that is taken is 512 at most
pub count-few : (n : ℕ) → count_refusal n ≡ 0 → n ≤ 512
unfolding count_refusal
count-few n = go (ltb 512 n) refl
  where
    go : (t : Bool) → ltb 512 n ≡ t → ◌≡◌ {A = ℕ} (cond t 8 0) 0 → n ≤ 512
    go true e z = absurd (omega arith)
    go false e z = ltb-false 512 n e

pub count-kept : (names n : ℕ) → n ≤ 512 → Keeps names n [] [] [] [] [] []
unfolding no_problem
count-kept names n h = record { held = held-count names n h; keyed = refl }
