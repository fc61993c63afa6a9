-- What a solve asks of its tables, what it leaves, and that what a run leaves is that.
use Rattle.std.specs.Prelude.{◌≡◌, cond, List, [], ◌++◌, map, ℕ, ◌≤◌, eqb, length, take, drop}
use Rattle.std.proofs.Common.{sym, ap, ◌∙◌, subst, arith, eq-eqb, ne_eqb}
use Rattle.std.proofs.lemmas.List.{length-map}
use Rattle.std.proofs.Math.Seq.{take-append_seam}
use Rattle.sorted.specs.Sorted.{Sorted}
use Rattle.tables.specs.declared.Tables.{Tables}
use Rattle.tables.specs.Table.{view_of, view-good}
use Rattle.prepared.specs.Prepared.{Prepared}
use Rattle.view.specs.View.{numbers}
use Rattle.lattice.specs.World.{present, world_of, with-lawful}
use Rattle.lattice.specs.Lattice.{Lawful}
use Rattle.joins.specs.Joins.{Fits}
use Rattle.solving.specs.declared.Counts.{Counts}
use Rattle.solving.specs.Queue.{Below}
use Rattle.solving.specs.Tidy.{Tidy, Among}
use Rattle.solving.specs.TableKeys.{Holds, key_of, keys_of, bound_of}
use Rattle.solving.specs.Solving.{Table, Finish, Stopped, Ended, propagate, room}
use Rattle.inserting.specs.Store.{store}
use Rattle.rules.specs.Rules.{links_in}
use Rattle.running.specs.Running.{Leaves}
use Rattle.running.specs.Laws.{load-holds}
use Rattle.propagating.specs.declared.Ran.{Ran}
use Rattle.propagating.specs.Propagating.{Runnable}

-- WHAT IS ASKED: class tables within the limits, sorted links among the components, and the keys of a tidy table with room for 4,096
pub record Solvable (pairs marks : List ℕ) (t : Tables) (given a flows incoming reads writes : List ℕ) (components : ℕ) : Type 0 where
  pub long : Prepared pairs marks t
  pub fits : Fits t
  pub within : components ≤ 512
  pub among : Among components (links_in flows incoming reads writes)
  pub table : Table
  pub keys : given ≡ keys_of table
  pub tidy : Tidy t.names components table (numbers 0 components)
  pub cells-room : length a ≡ room
  pub flows-sorted : Sorted flows
  pub incoming-sorted : Sorted incoming
  pub reads-below : Below 262144 reads
  pub writes-below : Below 262144 writes

-- the slices to work in, whatever they hold
pub record Scratch (ring words fallbacks uppers : List ℕ) : Type 0 where
  pub ring-room : length ring ≡ 512
  pub words-room : length words ≡ room
  pub fallbacks-room : length fallbacks ≡ room
  pub uppers-room : length uppers ≡ room

-- ---- what is handed back

abbrev pub counted : ℕ → ℕ → ℕ → Counts
counted refusal bounds turns = record { refusal = refusal; bounds = bounds; turns = turns }

-- of a run at its end: nothing is counted where it was refused
unfoldable pub counts_of : Ran → Counts
counts_of r = cond (eqb r.state.refusal 0) (counted 0 r.state.count r.turns) (counted r.state.refusal 0 0)

-- WHAT A SOLVE LEAVES: its refusal; or how many bounds and turns, and the final table's keys at the front of the cells
abbrev pub Solved : Finish → List ℕ → Counts → Type 0
Solved (Stopped k) cells r = (r ≡ counted k 0 0) × (k ≡ 0 → ⊥)
Solved (Ended t q n) cells r = (r ≡ counted 0 (length t) n) × (q ≡ []) × Holds cells (length t) t

pub counts-refused : (r : Ran) → (r.state.refusal ≡ 0 → ⊥) → counts_of r ≡ counted r.state.refusal 0 0
unfolding counts_of
counts-refused r h = rw (ne_eqb r.state.refusal 0 h)

pub counts-ended : (r : Ran) → r.state.refusal ≡ 0 → counts_of r ≡ counted 0 r.state.count r.turns
unfolding counts_of
counts-ended r h = rw (eq-eqb r.state.refusal 0 h)

-- what a run leaves is what a solve does
leaves-solved : (f : Finish) (cells ring : List ℕ) (r : Ran) → Leaves f r.turns (store cells ring r.state) → Solved f cells (counts_of r)
leaves-solved (Stopped k) cells ring r h = (counts-refused r (λ e. h.1 (sym h.0 ∙ e)) ∙ ap (λ (x : ℕ). counted x 0 0) h.0, h.1)
leaves-solved (Ended t q n) cells ring r h =
    let e = h.3.count in (
      counts-ended r h.0 ∙ (λ i. counted 0 (e i) (h.1 i)),
      h.2,
      subst (λ (m : ℕ). Holds cells m t) e h.3,
    )

-- AND IT LEAVES ONE THING: the counts, and unrefused the keys at the front
pub solved-one : (f : Finish) (a b : List ℕ) (r s : Counts) → Solved f a r → Solved f b s → (r ≡ s) × (r.refusal ≡ 0 → take r.bounds a ≡ take r.bounds b)
solved-one (Stopped k) a b r s h g = (h.0 ∙ sym g.0, λ e. absurd (h.1 (sym (ap (λ (c : Counts). c.refusal) h.0) ∙ e)))
solved-one (Ended t q n) a b r s h g =
    let m : r.bounds ≡ length t = ap (λ (c : Counts). c.bounds) h.0 in
    (h.0 ∙ sym g.0, λ e. ap (λ (k : ℕ). take k a) m ∙ h.2.keys ∙ sym g.2.keys ∙ ap (λ (k : ℕ). take k b) (sym m))

-- ---- the given bounds, loaded

module _ (pairs marks : List ℕ) (t : Tables) (given a flows incoming reads writes : List ℕ) (components : ℕ) (y : Solvable pairs marks t given a flows incoming reads writes components) where
  lawful : Lawful (world_of pairs marks t)
  lawful = with-lawful (view_of pairs marks t) (present t.cloneable) (present t.serializable) (view-good pairs marks t y.fits.0 y.fits.1)

  pub given-fit : length given ≤ length a
  given-fit =
      let e : length given ≡ length y.table = ap length y.keys ∙ length-map y.table key_of in
      let f = y.tidy.fits in
      let g = y.cells-room in
      omega arith

  module _ (a' : List ℕ) (e : a' ≡ given ++ drop (length given) a) where
    -- what the run asks
    pub runnable : (ring words fallbacks uppers : List ℕ) → Scratch ring words fallbacks uppers
        → Runnable pairs marks t a' (length given) ring words fallbacks uppers flows incoming reads writes components
    runnable ring words fallbacks uppers z = record {
      lawful = lawful;
      long = y.long;
      fits = y.fits;
      within = y.within;
      among = y.among;
      table = y.table;
      held = subst (λ (c : List ℕ). Holds c (length given) y.table) (sym e) (load-holds given a y.table y.keys y.cells-room y.tidy.fits);
      tidy = y.tidy;
      ring-room = z.ring-room;
      words-room = z.words-room;
      fallbacks-room = z.fallbacks-room;
      uppers-room = z.uppers-room;
      flows-sorted = y.flows-sorted;
      incoming-sorted = y.incoming-sorted;
      reads-below = y.reads-below;
      writes-below = y.writes-below;
    }

    -- what it leaves is the solve of the given bounds
    pub solved : (cells ring : List ℕ) (r : Ran) (c : Counts) → c ≡ counts_of r
        → Leaves (propagate (world_of pairs marks t) (links_in flows incoming reads writes) components (map bound_of (take (length given) a'))) r.turns (store cells ring r.state)
        → Solved (propagate (world_of pairs marks t) (links_in flows incoming reads writes) components (map bound_of given)) cells c
    solved cells ring r c f h =
        subst (Solved whole cells) (sym f)
        (leaves-solved whole cells ring r
        (subst (λ (g : List ℕ). Leaves (propagate (world_of pairs marks t) (links_in flows incoming reads writes) components (map bound_of g)) r.turns (store cells ring r.state)) front h))
      where
        whole : Finish
        whole = propagate (world_of pairs marks t) (links_in flows incoming reads writes) components (map bound_of given)

        front : take (length given) a' ≡ given
        front = ap (take (length given)) e ∙ take-append_seam given (drop (length given) a)
