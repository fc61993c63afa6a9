-- FROM A PROBLEM THAT SLICES KEEP TO ITS SOLVE: what is kept is what the run asks, the run is that of the definition, and what it leaves,
-- written out, is what a solve leaves.
use Rattle.std.specs.Prelude.{◌≡◌, refl, ◌⊎◌, ℕ, ◌+◌, ◌-◌, ◌≤◌, ◌<◌, length, take}
use Rattle.std.proofs.Math.Path.{sym, subst}
use Rattle.std.proofs.Common.{ap, ap₂, ◌∙◌, inl, inr, ⊎_elim, arith}
use mathlib.Core.List.{List, [], ◌∷◌, map, Memᴰ}
use Rattle.std.proofs.lemmas.List.{length-map}
use Rattle.std.proofs.Math.Seq.{paste}
use Rattle.sorted.specs.Sorted.{Sorted}
use Rattle.ty.specs.Words.{word_of}
use Rattle.rows.specs.Rows.{filled}
use Rattle.rows.specs.Keys.{take-filled, length-filled}
use Rattle.tables.specs.declared.Tables.{Tables}
use Rattle.tables.specs.Table.{view_of, view-good, pairs_room}
use Rattle.lattice.specs.Lattice.{World, Lawful}
use Rattle.lattice.specs.World.{present, world_of, with-lawful}
use Rattle.joins.specs.Joins.{Fits}
use Rattle.std.specs.declared.cmp.Ordering.{Ordering}
use Rattle.solving.specs.declared.Counts.{Counts}
use Rattle.solving.specs.Ordered.{set_of, Ascending}
use Rattle.solving.specs.OrderedLaws.{Total}
use Rattle.solving.proofs.OrderedLaws.{set-ascending, set-has, set-only, same-members}
use Rattle.solving.proofs.Orders.{bounds-total, pairs-total}
use Rattle.solving.specs.Queue.{Below}
use Rattle.solving.proofs.Runs.{propagate-stops}
use Rattle.solving.specs.Tidy.{Tidy, Among}
use Rattle.solving.proofs.Tidy.{propagate-tidy}
use Rattle.solving.specs.TableKeys.{Holds, key_of, keys_of, bound_of, AllKeyed}
use Rattle.solving.proofs.TableKeys.{bound-back, tidy-keyed}
use Rattle.solving.specs.LinkKeys.{pair_of}
use Rattle.solving.specs.Solve.{Checked}
use Rattle.solving.proofs.Solve.{checked-among, checked-tidy, answers-length}
use Rattle.solving.specs.Solving.{Bound, Table, compare_bounds, compare_pairs, Links, links_of, table_of, room, Problem, Finish, Stopped, Ended, propagate, Solution, solution, solve, answers}
use Rattle.problems.specs.Kept.{problem_of, Keeps}
use Rattle.problems.proofs.Kept.{keeps-checked, keeps-flows, kept-below, keeps-few}
use Rattle.rules.specs.Rules.{links_in}
use Rattle.copying.specs.Steps.{paste-front}
use Rattle.resolving.specs.Bounds.{Classed, Classes}
use Rattle.answering.specs.Answering.{table_in, Final, answer_word, answer_words}
use Rattle.answering.specs.FromFinal.{keys-final, keys-answers}
use Rattle.solver.specs.Solver.{Solvable, counted, Solved}
use Rattle.linking.specs.Linking.{incoming_of}
use Rattle.linking.specs.Laws.{incoming-sorted, incoming-most, incoming-links}
use Rattle.columnsout.specs.Columns.{front, Written}
use Rattle.solves.specs.SolveResult.{Lent, counts_of, answers_after, components_after, kinds_after, types_after, Solves, lent_by, left_by}
use Rattle.lending.specs.Lending.{Slice, MutSlice, came}

minus-none : (n : ℕ) → n - 0 ≡ n
minus-none n = omega arith

-- the run of a problem
abbrev pub run_of : World → Problem → Finish
run_of w p = propagate w (links_of p) p.components (table_of p)

-- THE SET OF AN ASCENDING LIST IS THE LIST
set-same-list : {A : Type 0} (compare : A → A → Ordering) → Total compare → (l : List A) → Ascending compare l → set_of compare l ≡ l
set-same-list compare total l g =
    same-members compare total (set_of compare l) l (set-ascending compare total l) g (λ z m. set-only compare z l m, λ z m. set-has compare total z l m)

fits-lawful : (pairs marks : List ℕ) (t : Tables) → Fits t → Lawful (world_of pairs marks t)
fits-lawful pairs marks t f = with-lawful (view_of pairs marks t) (present t.cloneable) (present t.serializable) (view-good pairs marks t f.0 f.1)

members-below : (n : ℕ) (l : List ℕ) → n ≤ 512 → ((c : ℕ) → Memᴰ c l → c < n) → Below 512 l
members-below n [] few h = tt
members-below n (c ∷ l) few h = (let z = h c (Memᴰ.head refl) in omega arith, members-below n l few (λ d m. h d (Memᴰ.tail m)))

-- ---- what is left but the work: of the inner functions
pub record Leaves (s : Solution) (before after : Lent) (r : Counts) : Type 0 where
  pub counts : r ≡ counts_of s
  pub answers : after.answers ≡ answers_after s before.answers
  pub components : after.components ≡ components_after s before.components
  pub kinds : after.kinds ≡ kinds_after s before.kinds
  pub types : after.types ≡ types_after s before.types

-- of the slices that a function is lent
abbrev pub LeavesBy : Solution → (answers components kinds types work : MutSlice) → Counts → Type 0
LeavesBy s answers components kinds types work = Leaves s (lent_by answers components kinds types work) (left_by answers components kinds types work)

-- the problem that slices keep
abbrev pub kept_by : ℕ → (variables bounds flows uppers reads writes : Slice) → Problem
kept_by components variables bounds flows uppers reads writes = problem_of components (came variables) (came bounds) (came flows) (came uppers) (came reads) (came writes)

-- over classes, a problem that is kept, with room for the answers of its variables and for the columns of bounds, and the slice of the keys
abbrev pub Answerable : (classes keeps : Type 0) (variables into components kinds types a : List ℕ) → Type 0
Answerable classes keeps variables into components kinds types a =
    classes × keeps × (length variables ≤ length into) × (room ≤ length components) × (room ≤ length kinds) × (room ≤ length types) × (length a ≡ room)

-- the same, of a table with few pairs
abbrev pub Preparable : Tables → (pairs marks : List ℕ) (keeps : Type 0) (variables into components kinds types a : List ℕ) → Type 0
Preparable t pairs marks keeps variables into components kinds types a =
    Classes marks t × (t.pairs ≤ pairs_room) × (t.pairs ≤ length pairs) × keeps
    × (length variables ≤ length into) × (room ≤ length components) × (room ≤ length kinds) × (room ≤ length types) × (length a ≡ room)

-- ---- a number of each bound, from its key

parts-back : (f : Bound → ℕ) (t : Table) → AllKeyed t → map (λ x. f (bound_of x)) (keys_of t) ≡ map f t
parts-back f [] g = refl
parts-back f (b ∷ t) g = ap₂ (λ (x : ℕ) (l : List ℕ). x ∷ l) (ap f (bound-back b (g b (Memᴰ.head refl)))) (parts-back f t (λ x m. g x (Memᴰ.tail m)))

column-filled : (f : Bound → ℕ) (t : Table) (keys out out' : List ℕ) → AllKeyed t → keys ≡ keys_of t
    → out' ≡ front (λ x. f (bound_of x)) keys out (length keys) → out' ≡ filled (map f t) out
column-filled f t keys out out' g e h =
    h ∙ ap (λ (k : List ℕ). paste out 0 (map (λ x. f (bound_of x)) k) (length k)) e
    ∙ ap (paste out 0 (map (λ x. f (bound_of x)) (keys_of t))) (sym (length-map (keys_of t) (λ x. f (bound_of x))))
    ∙ paste-front out (map (λ x. f (bound_of x)) (keys_of t)) ∙ ap (λ (l : List ℕ). filled l out) (parts-back f t g)

module _ (pairs marks : List ℕ) (t : Tables) (components : ℕ) (variables bounds flows uppers reads writes : List ℕ)
    (classes : Classed pairs marks t) (k : Keeps t.names components variables bounds flows uppers reads writes) where
  abbrev p : Problem
  p = problem_of components variables bounds flows uppers reads writes

  abbrev w : World
  w = world_of pairs marks t

  -- ---- WHAT IS KEPT IS WHAT THE RUN ASKS

  links-are : links_in flows (incoming_of flows uppers) reads writes ≡ links_of p
  unfolding links_of
  links-are =
      let f = sym (set-same-list compare_pairs pairs-total (map pair_of flows) k.held.flows.ascend) in
      let i = incoming-links flows uppers (kept-below components flows k.held.few k.held.flows) (kept-below components uppers k.held.few k.held.upper_flows) in
      let r = sym (set-same-list compare_pairs pairs-total (map pair_of reads) k.held.reads.ascend) in
      let v = sym (set-same-list compare_pairs pairs-total (map pair_of writes) k.held.writes.ascend) in
      λ j. record { flows = f j; incoming = i j; reads = r j; writes = v j }

  table-is : map bound_of bounds ≡ table_of p
  unfolding table_of
  table-is = sym (set-same-list compare_bounds bounds-total (map bound_of bounds) k.held.bounds-ascend)

  checked : Checked t.names p
  checked = keeps-checked t.names components variables bounds flows uppers reads writes k

  pub kept-variables : Below 512 variables
  kept-variables = members-below components variables k.held.few k.held.variables-in

  pub kept-links : length flows + length uppers ≤ 3072
  kept-links = let n = keeps-few t.names components variables bounds flows uppers reads writes k in omega arith

  -- the incoming links, at the front of their slice
  module _ (i i' : List ℕ) (n : ℕ) (long : length i ≡ 3072) (e : n ≡ length (incoming_of flows uppers)) (f : i' ≡ filled (incoming_of flows uppers) i) where
    pub links-within : n ≤ length i'
    links-within =
        let m = incoming-most flows uppers in
        let b = kept-links in
        omega (arith, ap length f, length-filled (incoming_of flows uppers) i (omega arith))

    pub links-front : take (n - 0) i' ≡ incoming_of flows uppers
    links-front = ap (λ (m : ℕ). take m i') (minus-none n) ∙ ap (take n) f ∙ take-filled (incoming_of flows uppers) i n e

  module _ (links : List ℕ) (e : links ≡ incoming_of flows uppers) where
    pub kept-solvable : (a : List ℕ) → length a ≡ room → Solvable pairs marks t bounds a flows links reads writes components
    kept-solvable a l = record {
      long = classes.0;
      fits = classes.1;
      within = k.held.few;
      among = subst (Among components) (sym (ap (λ (x : List ℕ). links_in flows x reads writes) e ∙ links-are)) (checked-among t.names p checked);
      table = table_of p;
      keys = sym k.keyed ∙ ap keys_of table-is;
      tidy = checked-tidy t.names p checked;
      cells-room = l;
      flows-sorted = keeps-flows t.names components variables bounds flows uppers reads writes k;
      incoming-sorted = subst Sorted (sym e) (incoming-sorted flows uppers);
      reads-below = kept-below components reads k.held.few k.held.reads;
      writes-below = kept-below components writes k.held.few k.held.writes;
    }

    -- AND THE RUN IS THE DEFINITION'S
    pub kept-run : (cells : List ℕ) (r : Counts) → Solved (propagate w (links_in flows links reads writes) components (map bound_of bounds)) cells r → Solved (run_of w p) cells r
    kept-run cells r h =
        subst (λ (f : Finish). Solved f cells r)
        (ap₂ (λ (l : Links) (u : Table). propagate w l components u) (ap (λ (x : List ℕ). links_in flows x reads writes) e ∙ links-are) table-is) h

  -- ---- WHAT IT LEAVES

  module _ (cells : List ℕ) (r : Counts) (s : Solved (run_of w p) cells r) where
    -- refused: nothing is written
    pub run-refused : (r.refusal ≡ 0 → ⊥) → (l l' : Lent) → l'.answers ≡ l.answers → l'.components ≡ l.components → l'.kinds ≡ l.kinds → l'.types ≡ l.types → Leaves (solve w p) l l' r
    unfolding solve counts_of answers_after components_after kinds_after types_after
    run-refused refused l l' a c d y = go (run_of w p) s
      where
        go : (f : Finish) → Solved f cells r → Leaves (solution w variables f) l l' r
        go (Stopped j) h = record { counts = h.0; answers = a; components = c; kinds = d; types = y }
        go (Ended u q n) h = absurd (refused (ap (λ (x : Counts). x.refusal) h.0))

    -- a run that ended
    pub record Went : Type 0 where
      pub table : Table
      pub queue : List ℕ
      pub turns : ℕ
      pub ended : run_of w p ≡ Ended table queue turns
      pub counts : r ≡ counted 0 (length table) turns
      pub held : Holds cells (length table) table

    pub run-went : r.refusal ≡ 0 → Went
    run-went z = go (run_of w p) refl s
      where
        go : (f : Finish) → run_of w p ≡ f → Solved f cells r → Went
        go (Stopped j) e h = absurd (h.1 (sym (ap (λ (x : Counts). x.refusal) h.0) ∙ z))
        go (Ended u q n) e h = record { table = u; queue = q; turns = n; ended = e; counts = h.0; held = h.2 }

    module _ (y : Went) where
      tidy : Tidy t.names components y.table y.queue
      tidy =
          propagate-tidy w (fits-lawful pairs marks t classes.1) components (links_of p) (checked-among t.names p checked) (table_of p) y.table y.queue y.turns y.ended
          (checked-tidy t.names p checked)

      many : r.bounds ≡ length y.table
      many = ap (λ (x : Counts). x.bounds) y.counts

      keys-are : take r.bounds cells ≡ keys_of y.table
      keys-are = ap (λ (n : ℕ). take n cells) many ∙ y.held.keys

      pub went-room : r.bounds ≤ room
      went-room = let f = tidy.fits in let m = many in omega arith

      pub went-within : r.bounds ≤ length cells
      went-within = let z = went-room in let l = y.held.size in omega arith

      -- the keys, at the front of the cells
      pub went-front : take (r.bounds - 0) cells ≡ take r.bounds cells
      went-front = ap (λ (n : ℕ). take n cells) (minus-none r.bounds)

      module _ (keys : List ℕ) (same : keys ≡ take r.bounds cells) where
        pub went-length : length keys ≡ r.bounds
        went-length = ap length (same ∙ keys-are) ∙ length-map y.table key_of ∙ sym many

        pub went-final : Final t.names keys
        went-final = keys-final t.names components y.table y.queue classes.1.0 k.held.few tidy keys (same ∙ keys-are)

        -- WRITTEN OUT IT IS WHAT A SOLVE LEAVES
        module _ (l l' : Lent) (a : l'.answers ≡ paste l.answers 0 (answer_words w (table_in keys) variables) (length variables))
            (c : Written keys l.components l.kinds l.types l'.components l'.kinds l'.types) where
          abbrev keyed : AllKeyed y.table
          keyed = tidy-keyed t.names components y.table y.queue classes.1.0 tidy

          answers-are : l'.answers ≡ filled (answer_words w y.table variables) l.answers
          answers-are =
              a ∙ ap₂ (λ (ws : List ℕ) (n : ℕ). paste l.answers 0 ws n)
              (keys-answers t.names components y.table y.queue classes.1.0 k.held.few tidy keys (same ∙ keys-are) w variables)
              (sym (length-map (answers w y.table variables) answer_word ∙ answers-length w y.table variables))
              ∙ paste-front l.answers (answer_words w y.table variables)

          pub went-leaves : Leaves (solve w p) l l' r
          unfolding solve counts_of answers_after components_after kinds_after types_after
          went-leaves = subst (λ (f : Finish). Leaves (solution w variables f) l l' r) (sym y.ended) (record {
            counts = y.counts;
            answers = answers-are;
            components = column-filled (λ b. b.component) y.table keys l.components l'.components keyed (same ∙ keys-are) c.components-are;
            kinds = column-filled (λ b. b.kind) y.table keys l.kinds l'.kinds keyed (same ∙ keys-are) c.kinds-are;
            types = column-filled (λ b. word_of b.type) y.table keys l.types l'.types keyed (same ∙ keys-are) c.types-are;
          })

-- ---- for who reads the contract

-- A REFUSED SOLVE IS 20 OR 21 AND ZEROS, and leaves answers and columns as they came
pub solves-refused : (w : World) (p : Problem) (l l' : Lent) (r : Counts) → Solves (solve w p) l l' r → (r.refusal ≡ 0 → ⊥)
    → (r ≡ counted r.refusal 0 0) × ((r.refusal ≡ 20) ⊎ (r.refusal ≡ 21)) × (l'.answers ≡ l.answers) × (l'.components ≡ l.components) × (l'.kinds ≡ l.kinds) × (l'.types ≡ l.types)
unfolding solve counts_of answers_after components_after kinds_after types_after
solves-refused w p l l' r y refused = go (run_of w p) refl y
  where
    go : (f : Finish) → run_of w p ≡ f → Solves (solution w p.variables f) l l' r
        → (r ≡ counted r.refusal 0 0) × ((r.refusal ≡ 20) ⊎ (r.refusal ≡ 21)) × (l'.answers ≡ l.answers) × (l'.components ≡ l.components) × (l'.kinds ≡ l.kinds) × (l'.types ≡ l.types)
    go (Stopped j) e h =
        let n : r.refusal ≡ j = ap (λ (x : Counts). x.refusal) h.counts in
        (h.counts ∙ ap (λ (m : ℕ). counted m 0 0) (sym n), ⊎_elim (λ z. inl (n ∙ z)) (λ z. inr (n ∙ z)) (propagate-stops w (links_of p) p.components (table_of p) j e), h.answers, h.components, h.kinds, h.types)
    go (Ended u q n) e h = absurd (refused (ap (λ (x : Counts). x.refusal) h.counts))
