-- WHAT A SOLVE THAT IS NOT REFUSED GIVES, in the words of the scope paper: its table has the given bounds, is strictly ascending, within
-- 4,096 and closed; turns are at most components plus bounds added; answers are resolve_state's, are concrete, and have the property of
-- chains; and it depends on the sets of rows alone.
use Rattle.std.specs.Prelude.{◌≡◌, refl, true, ℕ, zero, suc, ◌+◌, ◌-◌, ◌≤◌, ◌<◌, length, get_or}
use Rattle.std.proofs.Common.{sym, ap, ap₂, ◌∙◌, arith}
use mathlib.Core.List.Memᴰ
use mathlib.Core.List.{List, [], ◌∷◌, ◌++◌, Memᴰ}
use Rattle.std.proofs.Math.Logic.{⊎_elim}
use Rattle.std.proofs.Math.Option.{Option, some, none}
use Rattle.ty.specs.Types.{ArgType, is_concrete}
use Rattle.lattice.specs.Lattice.{World, Lawful}
use Rattle.solving.specs.Ordered.{Ascending}
use Rattle.solving.specs.OrderedLaws.{Has}
use Rattle.solving.proofs.OrderedLaws.{set-has, set-only, set-ascending, set-same}
use Rattle.solving.proofs.Orders.{bounds-total, pairs-total}
use Rattle.solving.proofs.Runs.{propagate-keeps, propagate-ascending, propagate-fits, propagate-turns}
use Rattle.solving.specs.Closed.{Closed}
use Rattle.solving.proofs.Closed.{propagate-closed}
use Rattle.solving.specs.Tidy.{LegalBound, Tidy, Among}
use Rattle.solving.proofs.Tidy.{propagate-tidy}
use Rattle.solving.proofs.Queue.{numbers-distinct, numbers-below}
use Rattle.view.specs.View.{numbers}
use Rattle.solving.specs.Ways.{Fitting}
use Rattle.solving.proofs.Ways.{answer-concrete}
use Rattle.solving.specs.Chains.{Chain, Within, Demand}
use Rattle.solving.proofs.Chains.{swapped-has, chain-fits}
use Rattle.solving.specs.Solving.{Bound, Table, compare_bounds, state_of, Pair, compare_pairs, room, Finish, Stopped, Ended, propagate, resolve_state, Problem, swapped, links_of, table_of, answers, Solved, solution, solve}
use Rattle.solving.specs.Solve.{Checked, SameRows}

-- ---- the answers

-- each variable has its component's
pub answers-at : (w : World) (t : Table) (vs : List ℕ) (i : ℕ) → i < length vs → get_or (answers w t vs) i none ≡ resolve_state w (state_of t (get_or vs i 0))
unfolding answers
answers-at w t [] i h = absurd (omega arith)
answers-at w t (c ∷ vs) zero h = refl
answers-at w t (c ∷ vs) (suc i) h = answers-at w t vs i (omega arith)

pub answers-length : (w : World) (t : Table) (vs : List ℕ) → length (answers w t vs) ≡ length vs
unfolding answers
answers-length w t [] = refl
answers-length w t (c ∷ vs) = ap suc (answers-length w t vs)

-- ---- what the run ended in

-- a solve that is not refused is a run that ended
solved-ended : (w : World) (vs : List ℕ) (f : Finish) (t : Table) (n : ℕ) (given : List (Option ArgType)) → solution w vs f ≡ Solved t n given
    → (q : List ℕ) × (f ≡ Ended t q n) × (given ≡ answers w t vs)
solved-ended w vs (Stopped k) t n given h = let z : ◌≡◌ {A = ℕ} 0 1 = cc in absurd (omega arith)
solved-ended w vs (Ended u q m) t n given h =
    let a : u ≡ t = cc in
    let b : m ≡ n = cc in
    let c : answers w u vs ≡ given = cc in
    (q, ap₂ (λ (x : Table) (y : ℕ). Ended x q y) a b, sym c ∙ ap (λ (x : Table). answers w x vs) a)

module _ (w : World) (p : Problem) (t : Table) (n : ℕ) (given : List (Option ArgType)) (h : solve w p ≡ Solved t n given) where
  -- it is a run that ended
  pub solve-ended : (q : List ℕ) × (propagate w (links_of p) p.components (table_of p) ≡ Ended t q n) × (given ≡ answers w t p.variables)
  unfolding solve
  solve-ended = solved-ended w p.variables (propagate w (links_of p) p.components (table_of p)) t n given h

  -- IT KEEPS EVERY GIVEN BOUND
  pub solve-keeps : (b : Bound) → Memᴰ b p.bounds → Memᴰ b t
  unfolding table_of
  solve-keeps b m = propagate-keeps w (links_of p) p.components (table_of p) t solve-ended.0 n solve-ended.1 b (set-has compare_bounds bounds-total b p.bounds m)

  -- STRICTLY ASCENDING by component, kind, type
  pub solve-ascending : Ascending compare_bounds t
  unfolding table_of
  solve-ascending = propagate-ascending w (links_of p) p.components (table_of p) t solve-ended.0 n solve-ended.1 (set-ascending compare_bounds bounds-total p.bounds)

  -- WITHIN 4,096 if the given ones are
  pub solve-fits : length (table_of p) ≤ room → length t ≤ room
  solve-fits = propagate-fits w (links_of p) p.components (table_of p) t solve-ended.0 n solve-ended.1

  -- TURNS ARE AT MOST COMPONENTS PLUS BOUNDS ADDED
  pub solve-turns : (length (table_of p) ≤ length t) × (n ≤ p.components + (length t - length (table_of p)))
  solve-turns = propagate-turns w (links_of p) p.components (table_of p) t solve-ended.0 n solve-ended.1

  -- NO RULE WOULD ADD A BOUND
  pub solve-closed : Closed w (links_of p) p.components t
  solve-closed = propagate-closed w (links_of p) p.components (table_of p) t solve-ended.0 n solve-ended.1

  -- THE ANSWERS ARE THOSE OF resolve_state over it, variable by variable
  pub solve-answered : given ≡ answers w t p.variables
  solve-answered = solve-ended.2

  -- A VARIABLE'S ANSWER IS resolve_state OF ITS COMPONENT'S FINAL BOUNDS
  pub solve-answers : (length given ≡ length p.variables) × ((i : ℕ) → i < length p.variables → get_or given i none ≡ resolve_state w (state_of t (get_or p.variables i 0)))
  solve-answers = (
    ap length solve-ended.2 ∙ answers-length w t p.variables,
    λ i k. ap (λ (l : List (Option ArgType)). get_or l i none) solve-ended.2 ∙ answers-at w t p.variables i k,
  )

  -- it is concrete
  pub solve-concrete : (i : ℕ) → i < length p.variables → (v : ArgType) → get_or given i none ≡ some v → is_concrete v ≡ true
  solve-concrete i k v e = answer-concrete w (state_of t (get_or p.variables i 0)) v (sym (solve-answers.1 i k) ∙ e)

  -- AND ALONG A CHAIN OF ONE OR MORE FLOWS AND UPPER FLOWS it is assignable to every upper and exact bound at the end, or both are references
  pub solve-chain : Within p → (i : ℕ) → i < length p.variables → (v : ArgType) → get_or given i none ≡ some v
      → (d : ℕ) (u : ArgType) → Chain p (get_or p.variables i 0) d → Demand t d u → Fitting w v u
  solve-chain within i k v e d u r m = chain-fits p w t solve-closed within (get_or p.variables i 0) d u v r m (sym (solve-answers.1 i k) ∙ e)

pub swapped-member : (c d : ℕ) (ps : List Pair) → Memᴰ {A = Pair} (c, d) (swapped ps) → Memᴰ {A = Pair} (d, c) ps
unfolding swapped
swapped-member c d [] m = absurd (Memᴰ.not-nil m)
swapped-member c d (p ∷ ps) m = ⊎_elim (λ e. Memᴰ.head (λ i. ((e i).1, (e i).0))) (λ n. Memᴰ.tail (swapped-member c d ps n)) (Memᴰ.cases_cons m)

module _ (names : ℕ) (p : Problem) (k : Checked names p) where
  pub checked-within : Within p
  checked-within c d = ⊎_elim (λ m. (k.flows (c, d) m).1) (λ m. (k.upper_flows (c, d) m).1)

  pub checked-among : Among p.components (links_of p)
  unfolding links_of
  checked-among = record {
    flows = λ r m. (k.flows r (set-only compare_pairs r p.flows m)).1;
    incoming = λ r m.
        ⊎_elim (λ n. (k.flows (r.1, r.0) n).0) (λ n. (k.upper_flows (r.1, r.0) n).0)
        (Memᴰ.append_cases p.flows (swapped-member r.0 r.1 (p.flows ++ p.upper_flows) (set-only compare_pairs r (swapped (p.flows ++ p.upper_flows)) m)));
    reads = λ r m. k.reads r (set-only compare_pairs r p.reads m);
    writes = λ r m. k.writes r (set-only compare_pairs r p.writes m);
  }

  -- what a run starts with is tidy
  pub checked-tidy : Tidy names p.components (table_of p) (numbers 0 p.components)
  unfolding table_of
  checked-tidy = record {
    ascends = set-ascending compare_bounds bounds-total p.bounds;
    fits = k.few;
    legal = λ b m. k.bounds b (set-only compare_bounds b p.bounds m);
    distinct = numbers-distinct 0 p.components;
    below = numbers-below p.components;
  }

-- EVERY FINAL BOUND HAS A COMPONENT OF THE PROBLEM, A KIND AND A LEGAL TYPE
pub solve-legal : (w : World) (p : Problem) (t : Table) (n : ℕ) (given : List (Option ArgType)) → solve w p ≡ Solved t n given
    → Lawful w → Checked w.names p → (b : Bound) → Memᴰ b t → LegalBound w.names p.components b
solve-legal w p t n given h good k =
    let e = solve-ended w p t n given h in
    (propagate-tidy w good p.components (links_of p) (checked-among w.names p k) (table_of p) t e.0 n e.1 (checked-tidy w.names p k)).legal

-- ---- the sets of rows alone

incoming-has : (f g u v : List Pair) → Has f g → Has u v → Has (swapped (f ++ u)) (swapped (g ++ v))
incoming-has f g u v a b z m =
    swapped-has z.1 z.0 (g ++ v)
    (⊎_elim (λ n. Memᴰ.append_left v (a (z.1, z.0) n)) (λ n. Memᴰ.append_right g (b (z.1, z.0) n)) (Memᴰ.append_cases f (swapped-member z.0 z.1 (f ++ u) m)))

module _ (p r : Problem) (s : SameRows p r) where
  same-links : links_of p ≡ links_of r
  unfolding links_of
  same-links =
      let a = set-same compare_pairs pairs-total p.flows r.flows s.flows in
      let b = set-same compare_pairs pairs-total (swapped (p.flows ++ p.upper_flows)) (swapped (r.flows ++ r.upper_flows)) (
        incoming-has p.flows r.flows p.upper_flows r.upper_flows s.flows.0 s.upper_flows.0,
        incoming-has r.flows p.flows r.upper_flows p.upper_flows s.flows.1 s.upper_flows.1,
      ) in
      let c = set-same compare_pairs pairs-total p.reads r.reads s.reads in
      let d = set-same compare_pairs pairs-total p.writes r.writes s.writes in
      λ i. record { flows = a i; incoming = b i; reads = c i; writes = d i }

  same-table : table_of p ≡ table_of r
  unfolding table_of
  same-table = set-same compare_bounds bounds-total p.bounds r.bounds s.bounds

  -- THE RESULT, REFUSED OR NOT, TURNS INCLUDED, DEPENDS ON THE SETS OF ROWS ALONE
  pub solve-same : (w : World) → solve w p ≡ solve w r
  unfolding solve
  solve-same w i = solution w (s.variables i) (propagate w (same-links i) (s.components i) (same-table i))
