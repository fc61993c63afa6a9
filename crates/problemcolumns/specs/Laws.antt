-- THE RUNS ARE THE PROBLEM OF THE COLUMNS: kind by kind the same refusal, and the entries hold what the rows have made.
use Rattle.std.specs.Prelude.{◌≡◌, Bool, ℕ, ◌-◌, ◌^◌, ◌≤◌, ◌<◌, take, drop}
use Rattle.std.proofs.Math.Path.{refl, sym, ap}
use Rattle.std.proofs.Common.{◌∙◌, subst, arith, length-append}
use Rattle.std.proofs.Math.Bool.{true, false, cond}
use mathlib.Core.List.{List, [], ◌∷◌, ◌++◌, map, append_assoc, append-nil}
use Rattle.std.proofs.Math.Dec.{eqb}
use Rattle.std.proofs.Math.ListN.{length}
use Rattle.std.proofs.lemmas.List.{length-map}
use borrow.Author.Tests.{eqb-true, eqb-false, ne_eqb}
use Rattle.solving.specs.Solving.{Problem}
use Rattle.solving.specs.TableKeys.{key_of, keys_of, bound_of}
use Rattle.solving.specs.LinkKeys.{pair_of}
use Rattle.rows.specs.Rows.{filled}
use Rattle.rows.specs.Keys.{take-filled}
use Rattle.problems.specs.Problems.{ProblemRow, variable, bounded, flow, upper_flow, reading, writing, no_problem, problem_row, problem_rows, Placed, Columns, variable_rows, bound_rows, pair_rows, problem_in, problem}
use Rattle.problems.specs.Held.{Words}
use Rattle.problems.specs.Stored.{pair_key}
use Rattle.problems.proofs.Stored.{keys-back}
use Rattle.problems.specs.Kept.{problem_of, Keeps}
use Rattle.problemrows.specs.ProblemRows.{Ran, refused, taken, count_refusal, variable_row, variable_refusal, pair_row, bound_row}
use Rattle.problemrows.specs.Laws.{count-fits}
use Rattle.problemrows.specs.Kept.{placed, Comes, variable-kept, bound-kept, flow-kept, upper-kept, read-kept, write-kept, count-same, count-few, count-kept}
use Rattle.problemcolumns.specs.declared.ProblemCounts.{ProblemCounts}
use Rattle.problemcolumns.specs.ProblemColumns.{counts_of, Taken}
use Rattle.problemcolumns.specs.Runs.{variable_run, bound_run, pair_run, head_refusal, after, bounds_ran, flows_ran, uppers_ran, reads_ran, writes_ran, Enters}

-- ---- rows after rows

and_then : Placed → (Problem → Placed) → Placed
and_then p f = cond (eqb p.refusal 0) (f p.problem) p

rows-append : (names : ℕ) (xs ys : List ProblemRow) (p : Problem) → problem_rows names (xs ++ ys) p ≡ and_then (problem_rows names xs p) (problem_rows names ys)
unfolding problem_rows and_then
rows-append names [] ys p = refl
rows-append names (x ∷ xs) ys p = go (eqb (problem_row names x p).refusal 0) refl (rows-append names xs ys (problem_row names x p).problem)
  where
    one : Placed
    one = problem_row names x p

    go : (t : Bool) → eqb one.refusal 0 ≡ t → problem_rows names (xs ++ ys) one.problem ≡ and_then (problem_rows names xs one.problem) (problem_rows names ys)
        → cond t (problem_rows names (xs ++ ys) one.problem) one ≡ and_then (cond t (problem_rows names xs one.problem) one) (problem_rows names ys)
    go true e ih = ih
    go false e ih = rw e

then-append : (names : ℕ) (xs ys : List ProblemRow) (p : Placed) → and_then p (problem_rows names (xs ++ ys)) ≡ and_then (and_then p (problem_rows names xs)) (problem_rows names ys)
unfolding and_then
then-append names xs ys p = go (eqb p.refusal 0) refl
  where
    go : (t : Bool) → eqb p.refusal 0 ≡ t → cond t (problem_rows names (xs ++ ys) p.problem) p ≡ and_then (cond t (problem_rows names xs p.problem) p) (problem_rows names ys)
    go true e = rows-append names xs ys p.problem
    go false e = rw e

-- a stage that is taken, and one that is refused
then-passes : (k : ℕ) (p : Problem) (f : Problem → Placed) → k ≡ 0 → and_then (placed k p) f ≡ f p
unfolding and_then
then-passes k p f z = rw z

then-stops : (k : ℕ) (p : Problem) (f : Problem → Placed) → (k ≡ 0 → ⊥) → and_then (placed k p) f ≡ placed k p
unfolding and_then
then-stops k p f z = rw (ne_eqb k 0 z)

-- ---- the rows of one kind: `place` is the problem with entries of it, `Kept` what its slices have

module _ (names : ℕ) (place : List ℕ → Problem) (Kept : List ℕ → Type 0) where
  abbrev Came : List ProblemRow → List ℕ → Ran → Type 0
  Came rows l s = (problem_rows names rows (place l) ≡ placed s.refusal (place s.entries)) × Kept s.entries

  came-step : (row : ProblemRow) (rows : List ProblemRow) (l : List ℕ) (s rest : Ran) → Comes names row place Kept l s → Came rows s.entries rest → Came (row ∷ rows) l (cond (eqb s.refusal 0) rest s)
  unfolding problem_rows
  came-step row rows l s rest c r = rw c.same (go (eqb s.refusal 0))
    where
      go : (t : Bool) → (cond t (problem_rows names rows (place s.entries)) (placed s.refusal (place s.entries)) ≡ placed (cond t rest s).refusal (place (cond t rest s).entries)) × Kept (cond t rest s).entries
      go true = r
      go false = (refl, c.keeps)

  came-pairs : (components room : ℕ) (row : ℕ → ℕ → ProblemRow) → ((a b : ℕ) (l : List ℕ) → Kept l → Comes names (row a b) place Kept l (pair_row components room a b l))
      → (xs ys l : List ℕ) → Kept l → Came (pair_rows row xs ys) l (pair_run components room xs ys l)
  unfolding pair_rows pair_run problem_rows
  came-pairs components room row each [] ys l k = (refl, k)
  came-pairs components room row each (x ∷ xs) [] l k = (refl, k)
  came-pairs components room row each (x ∷ xs) (y ∷ ys) l k =
      let c = each x y l k in
      came-step (row x y) (pair_rows row xs ys) l (pair_row components room x y l) (pair_run components room xs ys (pair_row components room x y l).entries) c (came-pairs components room row each xs ys (pair_row components room x y l).entries c.keeps)

  came-bounds : (components : ℕ) → ((c k w : ℕ) (l : List ℕ) → w < 2 ^ 64 → Kept l → Comes names (bounded c k w) place Kept l (bound_row names components c k w l))
      → (cs ks ws l : List ℕ) → Words ws → Kept l → Came (bound_rows cs ks ws) l (bound_run names components cs ks ws l)
  unfolding bound_rows bound_run problem_rows
  came-bounds components each [] ks ws l f k = (refl, k)
  came-bounds components each (c ∷ cs) [] ws l f k = (refl, k)
  came-bounds components each (c ∷ cs) (d ∷ ks) [] l f k = (refl, k)
  came-bounds components each (c ∷ cs) (d ∷ ks) (w ∷ ws) l f k =
      let e = each c d w l f.0 k in
      came-step (bounded c d w) (bound_rows cs ks ws) l (bound_row names components c d w l) (bound_run names components cs ks ws (bound_row names components c d w l).entries) e (came-bounds components each cs ks ws (bound_row names components c d w l).entries f.1 e.keeps)

  came-variables : (components : ℕ) → ((c : ℕ) (l : List ℕ) → Kept l → Comes names (variable c) place Kept l (variable_row components c l))
      → (cs l : List ℕ) → Kept l → Came (variable_rows cs) l (variable_run components cs l)
  unfolding variable_rows variable_run problem_rows
  came-variables components each [] l k = (refl, k)
  came-variables components each (c ∷ cs) l k =
      let e = each c l k in
      came-step (variable c) (variable_rows cs) l (variable_row components c l) (variable_run components cs (variable_row components c l).entries) e (came-variables components each cs (variable_row components c l).entries e.keeps)

  -- and after rows of other kinds
  stage : (z : ℕ) (rows : List ProblemRow) (s : Ran) → Kept [] → Came rows [] s
      → (and_then (placed z (place [])) (problem_rows names rows) ≡ placed (after z s).refusal (place (after z s).entries)) × Kept (after z s).entries
  unfolding and_then after
  stage z rows s k c = go (eqb z 0)
    where
      go : (t : Bool) → (cond t (problem_rows names rows (place [])) (placed z (place [])) ≡ placed (cond t s (refused z [])).refusal (place (cond t s (refused z [])).entries)) × Kept (cond t s (refused z [])).entries
      go true = c
      go false = (refl, k)

-- variables that are taken are the column
variable-entries : (components c : ℕ) (l : List ℕ) → (variable_row components c l).refusal ≡ 0 → (variable_row components c l).entries ≡ l ++ (c ∷ [])
unfolding variable_row
variable-entries components c l = go (variable_refusal components (length l) c) (eqb (variable_refusal components (length l) c) 0) refl
  where
    go : (z : ℕ) (t : Bool) → eqb z 0 ≡ t → (cond t (taken (l ++ (c ∷ []))) (refused z l)).refusal ≡ 0 → (cond t (taken (l ++ (c ∷ []))) (refused z l)).entries ≡ l ++ (c ∷ [])
    go z true e y = refl
    go z false e y = absurd (eqb-false z 0 e y)

variables-all : (components : ℕ) (cs l : List ℕ) → (variable_run components cs l).refusal ≡ 0 → (variable_run components cs l).entries ≡ l ++ cs
unfolding variable_run
variables-all components [] l z = sym (append-nil l)
variables-all components (c ∷ cs) l z = go (eqb (variable_row components c l).refusal 0) refl z (variables-all components cs (variable_row components c l).entries)
  where
    s : Ran
    s = variable_row components c l

    rest : Ran
    rest = variable_run components cs s.entries

    go : (t : Bool) → eqb s.refusal 0 ≡ t → (cond t rest s).refusal ≡ 0 → (rest.refusal ≡ 0 → rest.entries ≡ s.entries ++ cs) → (cond t rest s).entries ≡ l ++ (c ∷ cs)
    go true e y ih = ih y ∙ ap (λ (m : List ℕ). m ++ cs) (variable-entries components c l (eqb-true s.refusal 0 e)) ∙ append_assoc l (c ∷ []) cs
    go false e y ih = absurd (eqb-false s.refusal 0 e y)

-- ---- THE PROBLEM OF COLUMNS

module _ (names : ℕ) (c : Columns) where
  abbrev n : ℕ
  n = c.components

  abbrev variables_in : List ProblemRow
  variables_in = variable_rows c.variables

  abbrev bounds_in : List ProblemRow
  bounds_in = bound_rows c.bound_components c.bound_kinds c.bound_words

  abbrev flows_in : List ProblemRow
  flows_in = pair_rows flow c.flow_sources c.flow_targets

  abbrev uppers_in : List ProblemRow
  uppers_in = pair_rows upper_flow c.upper_sources c.upper_targets

  abbrev reads_in : List ProblemRow
  reads_in = pair_rows reading c.read_arrays c.read_results

  abbrev writes_in : List ProblemRow
  writes_in = pair_rows writing c.write_arrays c.write_values

  abbrev after_variables : List ProblemRow
  after_variables = bounds_in ++ (flows_in ++ (uppers_in ++ (reads_in ++ writes_in)))

  -- after the count
  counted-rows : count_refusal n ≡ 0 → problem names c ≡ problem_rows names (variables_in ++ after_variables) (problem_of n [] [] [] [] [] [])
  unfolding problem problem_in problem_rows
  counted-rows z = rw (count-same names n, z)

  count-refused : (count_refusal n ≡ 0 → ⊥) → problem names c ≡ placed (count_refusal n) no_problem
  unfolding problem problem_in problem_rows
  count-refused z = rw (count-same names n, ne_eqb (count_refusal n) 0 z)

  -- the variables
  variables-came : n ≤ 512 → Came names (λ l. problem_of n l [] [] [] [] []) (λ l. Keeps names n l [] [] [] [] []) variables_in [] (variable_run n c.variables [])
  variables-came few =
      came-variables names (λ l. problem_of n l [] [] [] [] []) (λ l. Keeps names n l [] [] [] [] []) n
      (λ x l k. variable-kept names n l [] [] [] [] [] k x) c.variables [] (count-kept names n few)

  -- THE VARIABLES ARE REFUSED: nothing of another kind stands in the problem
  variables-refused : n ≤ 512 → ((variable_run n c.variables []).refusal ≡ 0 → ⊥)
      → problem_rows names (variables_in ++ after_variables) (problem_of n [] [] [] [] [] []) ≡ placed (variable_run n c.variables []).refusal (problem_of n (variable_run n c.variables []).entries [] [] [] [] [])
  variables-refused few z =
      rows-append names variables_in after_variables (problem_of n [] [] [] [] [] [])
      ∙ ap (λ (p : Placed). and_then p (problem_rows names after_variables)) (variables-came few).0
      ∙ then-stops (variable_run n c.variables []).refusal (problem_of n (variable_run n c.variables []).entries [] [] [] [] []) (problem_rows names after_variables) z

  -- they are taken
  variables-taken : n ≤ 512 → (variable_run n c.variables []).refusal ≡ 0
      → problem_rows names (variables_in ++ after_variables) (problem_of n [] [] [] [] [] []) ≡ problem_rows names after_variables (problem_of n c.variables [] [] [] [] [])
  variables-taken few z =
      rows-append names variables_in after_variables (problem_of n [] [] [] [] [] [])
      ∙ ap (λ (p : Placed). and_then p (problem_rows names after_variables)) (variables-came few).0
      ∙ then-passes (variable_run n c.variables []).refusal (problem_of n (variable_run n c.variables []).entries [] [] [] [] []) (problem_rows names after_variables) z
      ∙ ap (λ (l : List ℕ). problem_rows names after_variables (problem_of n l [] [] [] [] [])) (variables-all n c.variables [] z)

  variables-kept : n ≤ 512 → (variable_run n c.variables []).refusal ≡ 0 → Keeps names n c.variables [] [] [] [] []
  variables-kept few z = subst (λ (l : List ℕ). Keeps names n l [] [] [] [] []) (variables-all n c.variables [] z) (variables-came few).1

  -- KIND AFTER KIND
  module _ (small : names ≤ 1024) (fits : Words c.bound_words) (few : n ≤ 512) (z : (variable_run n c.variables []).refusal ≡ 0) where
    abbrev vs : List ℕ
    vs = c.variables

    abbrev bs : List ℕ
    bs = (bounds_ran names c).entries

    abbrev fs : List ℕ
    fs = (flows_ran names c).entries

    abbrev us : List ℕ
    us = (uppers_ran names c).entries

    abbrev rs : List ℕ
    rs = (reads_ran names c).entries

    abbrev ws : List ℕ
    ws = (writes_ran names c).entries

    bounds-came : Came names (λ l. problem_of n vs l [] [] [] []) (λ l. Keeps names n vs l [] [] [] []) bounds_in [] (bounds_ran names c)
    unfolding bounds_ran
    bounds-came =
        came-bounds names (λ l. problem_of n vs l [] [] [] []) (λ l. Keeps names n vs l [] [] [] []) n
        (λ x d w l f k. bound-kept names n vs l [] [] [] [] k small x d w f) c.bound_components c.bound_kinds c.bound_words [] fits (variables-kept few z)

    flows-came : (and_then (placed (bounds_ran names c).refusal (problem_of n vs bs [] [] [] [])) (problem_rows names flows_in) ≡ placed (flows_ran names c).refusal (problem_of n vs bs fs [] [] []))
        × Keeps names n vs bs fs [] [] []
    unfolding flows_ran
    flows-came =
        stage names (λ l. problem_of n vs bs l [] [] []) (λ l. Keeps names n vs bs l [] [] []) (bounds_ran names c).refusal flows_in
        (pair_run n 2048 c.flow_sources c.flow_targets []) bounds-came.1
        (came-pairs names (λ l. problem_of n vs bs l [] [] []) (λ l. Keeps names n vs bs l [] [] []) n 2048 flow (λ a b l k. flow-kept names n vs bs l [] [] [] k a b) c.flow_sources c.flow_targets [] bounds-came.1)

    uppers-came : (and_then (placed (flows_ran names c).refusal (problem_of n vs bs fs [] [] [])) (problem_rows names uppers_in) ≡ placed (uppers_ran names c).refusal (problem_of n vs bs fs us [] []))
        × Keeps names n vs bs fs us [] []
    unfolding uppers_ran
    uppers-came =
        stage names (λ l. problem_of n vs bs fs l [] []) (λ l. Keeps names n vs bs fs l [] []) (flows_ran names c).refusal uppers_in
        (pair_run n 1024 c.upper_sources c.upper_targets []) flows-came.1
        (came-pairs names (λ l. problem_of n vs bs fs l [] []) (λ l. Keeps names n vs bs fs l [] []) n 1024 upper_flow (λ a b l k. upper-kept names n vs bs fs l [] [] k a b) c.upper_sources c.upper_targets [] flows-came.1)

    reads-came : (and_then (placed (uppers_ran names c).refusal (problem_of n vs bs fs us [] [])) (problem_rows names reads_in) ≡ placed (reads_ran names c).refusal (problem_of n vs bs fs us rs []))
        × Keeps names n vs bs fs us rs []
    unfolding reads_ran
    reads-came =
        stage names (λ l. problem_of n vs bs fs us l []) (λ l. Keeps names n vs bs fs us l []) (uppers_ran names c).refusal reads_in
        (pair_run n 1024 c.read_arrays c.read_results []) uppers-came.1
        (came-pairs names (λ l. problem_of n vs bs fs us l []) (λ l. Keeps names n vs bs fs us l []) n 1024 reading (λ a b l k. read-kept names n vs bs fs us l [] k a b) c.read_arrays c.read_results [] uppers-came.1)

    writes-came : (and_then (placed (reads_ran names c).refusal (problem_of n vs bs fs us rs [])) (problem_rows names writes_in) ≡ placed (writes_ran names c).refusal (problem_of n vs bs fs us rs ws))
        × Keeps names n vs bs fs us rs ws
    unfolding writes_ran
    writes-came =
        stage names (λ l. problem_of n vs bs fs us rs l) (λ l. Keeps names n vs bs fs us rs l) (reads_ran names c).refusal writes_in
        (pair_run n (1024 - length rs) c.write_arrays c.write_values []) reads-came.1
        (came-pairs names (λ l. problem_of n vs bs fs us rs l) (λ l. Keeps names n vs bs fs us rs l) n (1024 - length rs) writing (λ a b l k. write-kept names n vs bs fs us rs l k a b) c.write_arrays c.write_values [] reads-came.1)

    problem-came : problem names c ≡ placed (writes_ran names c).refusal (problem_of n vs bs fs us rs ws)
    problem-came =
        counted-rows (sym (count-fits n few)) ∙ variables-taken few z
        ∙ rows-append names bounds_in (flows_in ++ (uppers_in ++ (reads_in ++ writes_in))) (problem_of n vs [] [] [] [] [])
        ∙ ap (λ (p : Placed). and_then p (problem_rows names (flows_in ++ (uppers_in ++ (reads_in ++ writes_in))))) bounds-came.0
        ∙ then-append names flows_in (uppers_in ++ (reads_in ++ writes_in)) (placed (bounds_ran names c).refusal (problem_of n vs bs [] [] [] []))
        ∙ ap (λ (p : Placed). and_then p (problem_rows names (uppers_in ++ (reads_in ++ writes_in)))) flows-came.0
        ∙ then-append names uppers_in (reads_in ++ writes_in) (placed (flows_ran names c).refusal (problem_of n vs bs fs [] [] []))
        ∙ ap (λ (p : Placed). and_then p (problem_rows names (reads_in ++ writes_in))) uppers-came.0
        ∙ then-append names reads_in writes_in (placed (uppers_ran names c).refusal (problem_of n vs bs fs us [] []))
        ∙ ap (λ (p : Placed). and_then p (problem_rows names writes_in)) reads-came.0
        ∙ writes-came.0

    -- SO WHAT THE RUNS LEAVE IS WHAT IS HANDED BACK
    module _ (bounds bounds' flows flows' uppers uppers' reads reads' writes writes' : List ℕ) (r : ProblemCounts) (e : Enters names c bounds bounds' flows flows' uppers uppers' reads reads' writes writes' r) where
      entered-counts : r ≡ counts_of (problem names c)
      unfolding counts_of
      entered-counts =
          e.counts-are
          ∙ (λ i. record { refusal = (writes_ran names c).refusal; bounds = sym (length-map bs bound_of) i; flows = sym (length-map fs pair_of) i; uppers = sym (length-map us pair_of) i; reads = sym (length-map rs pair_of) i; writes = sym (length-map ws pair_of) i })
          ∙ ap counts_of (sym problem-came)

      -- the entries in front of each slice
      bounds-front : take r.bounds bounds' ≡ bs
      bounds-front = ap (take r.bounds) e.bounds-are ∙ take-filled bs bounds r.bounds (ap (λ (x : ProblemCounts). x.bounds) e.counts-are)

      flows-front : take r.flows flows' ≡ fs
      flows-front = ap (take r.flows) e.flows-are ∙ take-filled fs flows r.flows (ap (λ (x : ProblemCounts). x.flows) e.counts-are)

      uppers-front : take r.uppers uppers' ≡ us
      uppers-front = ap (take r.uppers) e.uppers-are ∙ take-filled us uppers r.uppers (ap (λ (x : ProblemCounts). x.uppers) e.counts-are)

      reads-front : take r.reads reads' ≡ rs
      reads-front = ap (take r.reads) e.reads-are ∙ take-filled rs reads r.reads (ap (λ (x : ProblemCounts). x.reads) e.counts-are)

      writes-front : take r.writes writes' ≡ ws
      writes-front = ap (take r.writes) e.writes-are ∙ take-filled ws writes r.writes (ap (λ (x : ProblemCounts). x.writes) e.counts-are)

      keeps-same : Keeps names n vs bs fs us rs ws ≡ Keeps names n vs (take r.bounds bounds') (take r.flows flows') (take r.uppers uppers') (take r.reads reads') (take r.writes writes')
      keeps-same i = Keeps names n vs (sym bounds-front i) (sym flows-front i) (sym uppers-front i) (sym reads-front i) (sym writes-front i)

      pub entered-taken : Taken names c bounds bounds' flows flows' uppers uppers' reads reads' writes writes' r
      entered-taken = record {
        counts-are = entered-counts;
        bounds-are = e.bounds-are ∙ ap (λ (l : List ℕ). filled l bounds) (sym (ap (λ (p : Placed). keys_of p.problem.bounds) problem-came ∙ writes-came.1.keyed));
        flows-are = e.flows-are ∙ ap (λ (l : List ℕ). filled l flows) (sym (ap (λ (p : Placed). map pair_key p.problem.flows) problem-came ∙ keys-back fs));
        uppers-are = e.uppers-are ∙ ap (λ (l : List ℕ). filled l uppers) (sym (ap (λ (p : Placed). map pair_key p.problem.upper_flows) problem-came ∙ keys-back us));
        reads-are = e.reads-are ∙ ap (λ (l : List ℕ). filled l reads) (sym (ap (λ (p : Placed). map pair_key p.problem.reads) problem-came ∙ keys-back rs));
        writes-are = e.writes-are ∙ ap (λ (l : List ℕ). filled l writes) (sym (ap (λ (p : Placed). map pair_key p.problem.writes) problem-came ∙ keys-back ws));
        problem-is = λ y. (λ i. problem_of n vs (bounds-front i) (flows-front i) (uppers-front i) (reads-front i) (writes-front i)) ∙ sym (ap (λ (p : Placed). p.problem) problem-came);
        keeps = λ y. subst (λ (x : Type 0). x) keeps-same writes-came.1;
      }

  -- ---- where the count or the variables are refused

  abbrev pub none : ℕ → ProblemCounts
  none k = record { refusal = k; bounds = 0; flows = 0; uppers = 0; reads = 0; writes = 0 }

  none-taken : (k m : ℕ) (vs : List ℕ) → (k ≡ 0 → ⊥) → problem names c ≡ placed k (problem_of m vs [] [] [] [] [])
      → (bounds flows uppers reads writes : List ℕ) → Taken names c bounds bounds flows flows uppers uppers reads reads writes writes (none k)
  unfolding counts_of
  none-taken k m vs z e bounds flows uppers reads writes = record {
    counts-are = ap counts_of (sym e);
    bounds-are = ap (λ (p : Placed). filled (keys_of p.problem.bounds) bounds) (sym e);
    flows-are = ap (λ (p : Placed). filled (map pair_key p.problem.flows) flows) (sym e);
    uppers-are = ap (λ (p : Placed). filled (map pair_key p.problem.upper_flows) uppers) (sym e);
    reads-are = ap (λ (p : Placed). filled (map pair_key p.problem.reads) reads) (sym e);
    writes-are = ap (λ (p : Placed). filled (map pair_key p.problem.writes) writes) (sym e);
    problem-is = λ y. absurd (z y);
    keeps = λ y. absurd (z y);
  }

  pub head-refused : (k : ℕ) → k ≡ head_refusal n c.variables → (k ≡ 0 → ⊥) → (bounds flows uppers reads writes : List ℕ)
      → Taken names c bounds bounds flows flows uppers uppers reads reads writes writes (none k)
  unfolding head_refusal no_problem
  head-refused k e z = go (eqb (count_refusal n) 0) refl e
    where
      go : (t : Bool) → eqb (count_refusal n) 0 ≡ t → k ≡ cond t (variable_run n c.variables []).refusal (count_refusal n)
          → (bounds flows uppers reads writes : List ℕ) → Taken names c bounds bounds flows flows uppers uppers reads reads writes writes (none k)
      go true f q =
          let zero = eqb-true (count_refusal n) 0 f in
          let few = count-few n zero in
          none-taken k n (variable_run n c.variables []).entries z
          (counted-rows zero ∙ variables-refused few (λ y. z (q ∙ y)) ∙ ap (λ (j : ℕ). placed j (problem_of n (variable_run n c.variables []).entries [] [] [] [] [])) (sym q))
      go false f q = none-taken k 0 [] z (count-refused (eqb-false (count_refusal n) 0 f) ∙ ap (λ (j : ℕ). placed j (problem_of 0 [] [] [] [] [] [])) (sym q))

  pub head-passed : head_refusal n c.variables ≡ 0 → (n ≤ 512) × ((variable_run n c.variables []).refusal ≡ 0)
  unfolding head_refusal
  head-passed = go (eqb (count_refusal n) 0) refl
    where
      go : (t : Bool) → eqb (count_refusal n) 0 ≡ t → cond t (variable_run n c.variables []).refusal (count_refusal n) ≡ 0 → (n ≤ 512) × ((variable_run n c.variables []).refusal ≡ 0)
      go true f q = (count-few n (eqb-true (count_refusal n) 0 f), q)
      go false f q = absurd (eqb-false (count_refusal n) 0 f q)

-- ---- what a caller reads off

front-fits : {A : Type 0} (f : A → ℕ) (l : List A) (a a' : List ℕ) (m : ℕ) → m ≡ length l → a' ≡ filled (map f l) a → m ≤ length a'
front-fits f l a a' m e d =
    let n = length-map l f in
    let k = length-append (map f l) (drop (length (map f l)) a) in
    let q = ap length d in
    omega arith

module _ (names : ℕ) (c : Columns) (bounds bounds' flows flows' uppers uppers' reads reads' writes writes' : List ℕ) (r : ProblemCounts) (t : Taken names c bounds bounds' flows flows' uppers uppers' reads reads' writes writes' r) where
  pub taken-refusal : r.refusal ≡ (problem names c).refusal
  unfolding counts_of
  taken-refusal = ap (λ (x : ProblemCounts). x.refusal) t.counts-are

  -- the entries lie inside the slices
  pub taken-counts : (r.bounds ≤ length bounds') × (r.flows ≤ length flows') × (r.uppers ≤ length uppers') × (r.reads ≤ length reads') × (r.writes ≤ length writes')
  unfolding counts_of
  taken-counts =
      let p = (problem names c).problem in (
        front-fits key_of p.bounds bounds bounds' r.bounds (ap (λ (x : ProblemCounts). x.bounds) t.counts-are) t.bounds-are,
        front-fits pair_key p.flows flows flows' r.flows (ap (λ (x : ProblemCounts). x.flows) t.counts-are) t.flows-are,
        front-fits pair_key p.upper_flows uppers uppers' r.uppers (ap (λ (x : ProblemCounts). x.uppers) t.counts-are) t.uppers-are,
        front-fits pair_key p.reads reads reads' r.reads (ap (λ (x : ProblemCounts). x.reads) t.counts-are) t.reads-are,
        front-fits pair_key p.writes writes writes' r.writes (ap (λ (x : ProblemCounts). x.writes) t.counts-are) t.writes-are,
      )
