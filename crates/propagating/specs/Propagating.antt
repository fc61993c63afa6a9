-- What a run asks of its slices, and the loop's invariant as the code meets it.
use Rattle.std.specs.Prelude.{◌≡◌, List, ◌++◌, map, ℕ, suc, ◌+◌, ◌-◌, ◌≤◌, ◌<◌, length, take, drop}
use Rattle.std.proofs.Common.{sym, ap, ◌∙◌, subst, arith}
use Rattle.sorted.specs.Sorted.{Sorted}
use Rattle.tables.specs.declared.Tables.{Tables}
use Rattle.prepared.specs.Prepared.{Prepared}
use Rattle.view.specs.View.{numbers}
use Rattle.lattice.specs.World.{world_of}
use Rattle.lattice.specs.Lattice.{World, Lawful}
use Rattle.joins.specs.Joins.{Fits}
use Rattle.solving.specs.Queue.{Below}
use Rattle.solving.specs.Tidy.{Tidy, Among}
use Rattle.solving.specs.TableKeys.{Holds, bound_of}
use Rattle.solving.proofs.TableKeys.{tidy-keyed, table-back}
use Rattle.solving.specs.Solving.{Table, Links, state_of, additions, Finish, propagate, room}
use Rattle.inserting.specs.declared.State.{State}
use Rattle.inserting.specs.Store.{Store, store, put_all}
use Rattle.rules.specs.Rules.{links_in}
use Rattle.running.specs.Running.{started, taken, table_in, Running, Fronted, Leaves}
use Rattle.running.specs.declared.Taken.{Taken}
use Rattle.running.specs.Laws.{ahead, run-starts, run-ends, run-pops, pop-ahead, run-goes, run-stops}
use Rattle.turning.specs.Turning.{Turnable}

pub record Runnable (pairs marks : List ℕ) (t : Tables) (a : List ℕ) (count : ℕ) (ring words fallbacks uppers flows incoming reads writes : List ℕ) (components : ℕ) : Type 0 where
  pub lawful : Lawful (world_of pairs marks t)
  pub long : Prepared pairs marks t
  pub fits : Fits t
  pub within : components ≤ 512
  pub among : Among components (links_in flows incoming reads writes)
  pub table : Table
  pub held : Holds a count table
  pub tidy : Tidy t.names components table (numbers 0 components)
  pub ring-room : length ring ≡ 512
  pub words-room : length words ≡ room
  pub fallbacks-room : length fallbacks ≡ room
  pub uppers-room : length uppers ≡ room
  pub flows-sorted : Sorted flows
  pub incoming-sorted : Sorted incoming
  pub reads-below : Below 262144 reads
  pub writes-below : Below 262144 writes

-- the table that the cells hold is the one that is asked for
module _ (pairs marks : List ℕ) (t : Tables) (a : List ℕ) (count : ℕ) (ring words fallbacks uppers flows incoming reads writes : List ℕ) (components : ℕ)
    (y : Runnable pairs marks t a count ring words fallbacks uppers flows incoming reads writes components) where
  abbrev pub l : Links
  l = links_in flows incoming reads writes

  abbrev pub whole : Finish
  whole = propagate (world_of pairs marks t) l components (map bound_of (take count a))

  table-is : map bound_of (take count a) ≡ y.table
  table-is = ap (map bound_of) y.held.keys ∙ table-back y.table (tidy-keyed t.names components y.table (numbers 0 components) y.fits.0 y.tidy)

  pub first : Running (world_of pairs marks t) l components whole 0 (store a (numbers 0 components ++ drop components ring) (started count components))
  first =
      subst (λ (x : Table). Running (world_of pairs marks t) l components (propagate (world_of pairs marks t) l components x) 0 (store a (numbers 0 components ++ drop components ring) (started count components)))
      (sym table-is) (run-starts (world_of pairs marks t) y.lawful y.fits.0 components y.within l y.among a ring count y.table y.held y.ring-room y.tidy)

  pub first-of : (r : List ℕ) (s : State) → s ≡ started count components → r ≡ numbers 0 components ++ drop components ring
      → Running (world_of pairs marks t) l components whole 0 (store a r s)
  first-of r s e f =
      subst (λ (x : State). Running (world_of pairs marks t) l components whole 0 (store a r x)) (sym e)
      (subst (λ (x : List ℕ). Running (world_of pairs marks t) l components whole 0 (store a x (started count components))) (sym f) first)

  pub first-ahead : (s : State) → s ≡ started count components → 0 + ahead s ≤ 512 + room
  first-ahead s e = let z : ahead s ≡ components + (room - count) = ap ahead e in let b = y.within in omega arith

  -- what the front's turn asks
  pub turnable : (k root : ℕ) (s : Store) (ws fs us : List ℕ) → length ws ≡ room → length fs ≡ room → length us ≡ room
      → Fronted (world_of pairs marks t) l components whole k root s → Turnable pairs marks t s ws fs us flows incoming reads writes
  turnable k root s ws fs us e f g z = record {
    lawful = y.lawful;
    long = y.long;
    fits = y.fits;
    components = components;
    table = z.sound.table;
    queue = z.sound.queue;
    good = z.sound.good;
    tidy = z.sound.tidy;
    words-room = e;
    fallbacks-room = f;
    uppers-room = g;
    flows-sorted = y.flows-sorted;
    incoming-sorted = y.incoming-sorted;
    reads-below = y.reads-below;
    writes-below = y.writes-below;
  }

  abbrev pub w : World
  w = world_of pairs marks t

  module _ (k : ℕ) (s : Store) (z : Running w l components whole k s) where
    pub ends : s.state.queue.len ≡ 0 → Leaves whole k s
    ends h = (run-ends w y.lawful y.fits.0 components y.within l y.among whole k s z h).1

    module _ (r : Taken) (e : r ≡ taken s.ring s.state) (h : 0 < s.state.queue.len) where
      pub fronted : Fronted w l components whole k r.root (store s.cells s.ring r.state)
      fronted =
          subst (λ (x : Taken). Fronted w l components whole k x.root (store s.cells s.ring x.state)) (sym e)
          (run-pops w y.lawful y.fits.0 components y.within l y.among whole k s z h)

      pub small : r.root < 512
      small = let a = fronted.small in let b = y.within in omega arith

      pub less : suc (ahead r.state) ≡ ahead s.state
      less = ap (λ (x : Taken). suc (ahead x.state)) e ∙ pop-ahead w y.lawful y.fits.0 components y.within l y.among whole k s z h

      module _ (s' : Store) (f : s' ≡ put_all (additions w l r.root (state_of (table_in (store s.cells s.ring r.state)) r.root)) (store s.cells s.ring r.state)) where
        pub goes : s'.state.refusal ≡ 0 → Running w l components whole (k + 1) s' × (ahead s'.state ≤ ahead r.state)
        goes = run-goes w y.lawful y.fits.0 components y.within l y.among whole k r.root (store s.cells s.ring r.state) fronted s' f

        pub stops : (s'.state.refusal ≡ 0 → ⊥) → (m : ℕ) → Leaves whole m s'
        stops g = (run-stops w y.lawful y.fits.0 components y.within l y.among whole k r.root (store s.cells s.ring r.state) fronted s' f g).1
