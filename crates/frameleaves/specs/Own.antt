-- THE STATE THAT SLICES HOLD, SHOWN IN THE SAME SLICES: what a frame that is refused leaves, and what a row leaves in the slices that are not its
-- own.
use Rattle.std.specs.Prelude.{◌≡◌, List, map, ℕ, ◌≤◌, length, take}
use Rattle.std.proofs.Math.Path.{refl}
use Rattle.std.proofs.Common.{sym, ap, ◌∙◌, arith, length-take-le}
use Rattle.std.proofs.lemmas.List.{length-map}
use Rattle.rows.specs.Rows.{filled}
use Rattle.rows.specs.Keys.{filled-same}
use Rattle.layers.specs.Layers.{layers_room}
use Rattle.layers.specs.Stacks.{numbers_of as stack_numbers, Holds}
use Rattle.solving.specs.TableKeys.{keys_of, bound_of}
use Rattle.solving.specs.LinkKeys.{pair_of}
use Rattle.problems.specs.Stored.{pair_key}
use Rattle.problems.proofs.Stored.{keys-back}
use Rattle.frames.specs.Frames as frames
use Rattle.frames.specs.Frames.{stepped}
use Rattle.framelaws.specs.Reached.{sound-room}
use Rattle.framestate.specs.declared.Numbers.{Numbers}
use Rattle.framestate.specs.declared.Said.TheVariants.{Refused}
use Rattle.framestate.specs.FrameState.{Slices, store_of, Ready, numbers_of, Shows, said_of, answers_after, Leaves, framed}

-- the front of a slice, put in front of it again
pub front-again : (k : ℕ) (l : List ℕ) (n : ℕ) → length l ≡ n → k ≤ n → l ≡ filled (take k l) l
front-again k l n e h = sym (filled-same k l (omega arith))

pub pairs-again : (k : ℕ) (l : List ℕ) (n : ℕ) → length l ≡ n → k ≤ n → l ≡ filled (map pair_key (map pair_of (take k l))) l
pairs-again k l n e h = front-again k l n e h ∙ ap (λ (x : List ℕ). filled x l) (sym (keys-back (take k l)))

pub many : (k : ℕ) (l : List ℕ) (n : ℕ) → length l ≡ n → k ≤ n → k ≡ length (take k l)
many k l n e h = sym (length-take-le k l (omega arith))

module _ (l : Slices) (n : Numbers) (h : Ready l n) where
  pub own-last : l.last ≡ filled (take n.last l.last) l.last
  own-last = front-again n.last l.last 255 h.sized.last h.within.last

  pub own-pairs : l.pairs ≡ filled (take n.stack.tables.pairs l.pairs) l.pairs
  own-pairs = front-again n.stack.tables.pairs l.pairs layers_room h.sized.pairs (omega (arith, h.sound.good.counted, sound-room (store_of l n) h.sound))

  pub own-variables : l.variables ≡ filled (take n.variables l.variables) l.variables
  own-variables = front-again n.variables l.variables 2048 h.sized.variables h.within.variables

  pub own-bounds : l.bounds ≡ filled (keys_of (map bound_of (take n.bounds l.bounds))) l.bounds
  own-bounds = front-again n.bounds l.bounds 4096 h.sized.bounds h.within.bounds ∙ ap (λ (x : List ℕ). filled x l.bounds) (sym h.keeps.keyed)

  pub own-flows : l.flows ≡ filled (map pair_key (map pair_of (take n.flows l.flows))) l.flows
  own-flows = pairs-again n.flows l.flows 2048 h.sized.flows h.within.flows

  pub own-uppers : l.uppers ≡ filled (map pair_key (map pair_of (take n.uppers l.uppers))) l.uppers
  own-uppers = pairs-again n.uppers l.uppers 1024 h.sized.uppers h.within.uppers

  pub own-reads : l.reads ≡ filled (map pair_key (map pair_of (take n.reads l.reads))) l.reads
  own-reads = pairs-again n.reads l.reads 1024 h.sized.reads h.within.reads

  pub own-writes : l.writes ≡ filled (map pair_key (map pair_of (take n.writes l.writes))) l.writes
  own-writes = pairs-again n.writes l.writes 1024 h.sized.writes h.within.writes

  -- THE LAYERS STAND IN THE SLICES
  pub own-layers : Holds l.pairs l.marks n.stack
  own-layers = record { long = h.sized.pairs; upright = h.sound.good; layer-counted = h.counted }

  -- and their numbers are the layers' own
  pub own-stack : n.stack ≡ stack_numbers (store_of l n).classes
  own-stack = λ i. record { tables = n.stack.tables; layer = record { own = n.stack.layer.own; keys = h.counted i }; under = n.stack.under }

  -- how many there are
  pub many-last : n.last ≡ length (take n.last l.last)
  many-last = many n.last l.last 255 h.sized.last h.within.last

  pub many-variables : n.variables ≡ length (take n.variables l.variables)
  many-variables = many n.variables l.variables 2048 h.sized.variables h.within.variables

  pub many-bounds : n.bounds ≡ length (map bound_of (take n.bounds l.bounds))
  many-bounds = many n.bounds l.bounds 4096 h.sized.bounds h.within.bounds ∙ sym (length-map (take n.bounds l.bounds) bound_of)

  pub many-flows : n.flows ≡ length (map pair_of (take n.flows l.flows))
  many-flows = many n.flows l.flows 2048 h.sized.flows h.within.flows ∙ sym (length-map (take n.flows l.flows) pair_of)

  pub many-uppers : n.uppers ≡ length (map pair_of (take n.uppers l.uppers))
  many-uppers = many n.uppers l.uppers 1024 h.sized.uppers h.within.uppers ∙ sym (length-map (take n.uppers l.uppers) pair_of)

  pub many-reads : n.reads ≡ length (map pair_of (take n.reads l.reads))
  many-reads = many n.reads l.reads 1024 h.sized.reads h.within.reads ∙ sym (length-map (take n.reads l.reads) pair_of)

  pub many-writes : n.writes ≡ length (map pair_of (take n.writes l.writes))
  many-writes = many n.writes l.writes 1024 h.sized.writes h.within.writes ∙ sym (length-map (take n.writes l.writes) pair_of)

  -- THE STATE IN ITS OWN SLICES
  pub own-shows : Shows (store_of l n) l l n
  unfolding numbers_of
  own-shows =
      let t = own-stack in let a = many-last in let v = many-variables in let b = many-bounds in let f = many-flows in let u = many-uppers in let r = many-reads in let w = many-writes in
      record {
        numbers-are = λ i. record { stack = t i; last = a i; components = n.components; variables = v i; bounds = b i; flows = f i; uppers = u i; reads = r i; writes = w i; rank = n.rank };
        last-is = own-last;
        pairs-are = own-pairs;
        marks-are = refl;
        variables-are = own-variables;
        bounds-are = own-bounds;
        flows-are = own-flows;
        uppers-are = own-uppers;
        reads-are = own-reads;
        writes-are = own-writes;
      }

  -- A REFUSED FRAME
  pub refused-leaves : (k : ℕ) (answers : List ℕ) → Leaves (stepped (frames.Refused k) (store_of l n)) l l answers answers (framed (Refused k) n)
  unfolding said_of answers_after
  refused-leaves k answers = record { said-is = refl; shows = own-shows; answers-are = refl }
