-- WHAT THE PROGRAM HOLDS FROM LINE TO LINE: a state that lines lead to, room for answers, and room in the buffer for all that one line prints. And
-- that empty arrays hold the empty state.
use Rattle.std.specs.Prelude.{◌≡◌, ℕ, ◌+◌, ◌-◌, ◌*◌, ◌^◌, ◌<◌, ◌≤◌, List, [], length, replicate, slice_set, refl}
use Rattle.std.proofs.Common.{sym, ap, ◌∙◌, subst, arith, length-set, Fits}
use Rattle.std.proofs.lemmas.List.{length-replicate}
use Rattle.std.specs.Int.{w64}
use Rattle.sets.specs.declared.Set.{Set}
use Rattle.framestate.specs.declared.Numbers.{Numbers}
use Rattle.tables.specs.Table.{marks_room}
use Rattle.layers.specs.declared.StackTables.{StackTables}
use Rattle.layers.specs.Layers.{layers_room}
use Rattle.layers.specs.Laws.{inside-none}
use Rattle.rows.specs.Rows.{no_tables}
use Rattle.columns.specs.Given.{no_marks}
use Rattle.problems.specs.Problems.{no_problem}
use Rattle.frames.specs.Frames.{empty_store}
use Rattle.framelaws.specs.Reached.{Sound, sound-empty}
use Rattle.framestate.specs.FrameState.{store_of}
use Rattle.solveframe.specs.Parts.{problem_room, slices_of, sized}
use Rattle.stepping.specs.Stepping.{Stands}

-- how much of the buffer may wait
pub record Holds (last pairs marks rows answers out : List ℕ) (n : Numbers) (filled : ℕ) : Type 0 where
  pub stands : Stands last pairs marks rows n
  pub all-answers : length answers ≡ 2048
  pub all-out : length out ≡ 131072
  pub waits : filled ≤ 49152

-- what is left where input or output fails: a state that lines lead to, and its rooms; what waited in the buffer is given up
abbrev pub StillHolds : (last pairs marks rows answers out : List ℕ) → Type 0
StillHolds last pairs marks rows answers out = (n : Numbers) × Holds last pairs marks rows answers out n 0

-- the numbers of one layer without a name or a record
abbrev pub empty_layers : StackTables
empty_layers = record {
  tables = record { names = 0; bytes = 0; object = 2 ^ 64 - 1; cloneable = 2 ^ 64 - 1; serializable = 2 ^ 64 - 1; pairs = 0 };
  layer = record { own = record { words = replicate 16 0 }; keys = 0 };
  under = 0;
}

-- the numbers of the empty state
abbrev pub empty_numbers : Numbers
empty_numbers = record {
  stack = empty_layers;
  last = 0;
  components = 0;
  variables = 0;
  bounds = 0;
  flows = 0;
  uppers = 0;
  reads = 0;
  writes = 0;
  rank = 0;
}

abbrev pub Empty : Numbers → Type 0
Empty n = n ≡ empty_numbers

-- as the code makes them
pub layers-empty : (s : Set) → s.words ≡ replicate 16 0 → ◌≡◌ {A = StackTables} (record { tables = empty_layers.tables; layer = record { own = s; keys = 0 }; under = 0 }) empty_layers
layers-empty s e = λ i. record { tables = empty_layers.tables; layer = record { own = record { words = e i }; keys = 0 }; under = 0 }

pub numbers-empty : (s : StackTables) → s ≡ empty_layers → Empty (record { stack = s; last = 0; components = 0; variables = 0; bounds = 0; flows = 0; uppers = 0; reads = 0; writes = 0; rank = 0 })
numbers-empty s e = λ i. record { stack = e i; last = 0; components = 0; variables = 0; bounds = 0; flows = 0; uppers = 0; reads = 0; writes = 0; rank = 0 }

pub say-room : (filled : ℕ) (out : List ℕ) → filled ≤ 49152 → length out ≡ 131072 → filled + 81920 ≤ length out
say-room filled out a b = omega arith

-- THE EMPTY STATE stands in any slices of these lengths without a mark
module _ (last pairs marks rows : List ℕ) where
  store-empty : marks ≡ no_marks → store_of (slices_of last pairs marks rows) empty_numbers ≡ empty_store
  unfolding empty_store no_tables no_problem
  store-empty m = λ i. record {
    last = [];
    classes = record { top = record { shown = record { tables = empty_layers.tables; keys = []; marks = m i }; own = replicate 16 0 }; under = 0 };
    problem = record { components = 0; variables = []; bounds = []; flows = []; upper_flows = []; reads = []; writes = [] };
    rank = 0;
  }

  pub stands-empty : length last ≡ 255 → length pairs ≡ layers_room → marks ≡ no_marks → length marks ≡ marks_room → length rows ≡ problem_room → Stands last pairs marks rows empty_numbers
  stands-empty a b m c d =
      let sound : Sound (store_of (slices_of last pairs marks rows) empty_numbers) = subst Sound (sym (store-empty m)) sound-empty in
      record {
        ready = record {
          sized = sized last pairs marks rows a b c d;
          within = record { last = omega arith; variables = omega arith; bounds = omega arith; flows = omega arith; uppers = omega arith; reads = omega arith; writes = omega arith };
          sound = sound;
          counted = ap length (sym (inside-none []));
          keeps = record { held = sound.held; keyed = refl };
        };
        all-rows = d;
      }

-- EMPTY ARRAYS hold it
pub holds-empty : (last pairs marks rows answers out : List ℕ) → last ≡ replicate 255 0 → pairs ≡ replicate layers_room 0 → marks ≡ no_marks → rows ≡ replicate problem_room 0 → answers ≡ replicate 2048 0 → out ≡ replicate 131072 0
    → Holds last pairs marks rows answers out empty_numbers 0
holds-empty last pairs marks rows answers out a b c d e f = record {
  stands =
      stands-empty last pairs marks rows (ap length a ∙ length-replicate {A = ℕ} 255 0) (ap length b ∙ length-replicate {A = ℕ} layers_room 0) c
      (ap length c ∙ length-replicate {A = ℕ} marks_room 0) (ap length d ∙ length-replicate {A = ℕ} problem_room 0);
  all-answers = ap length e ∙ length-replicate {A = ℕ} 2048 0;
  all-out = ap length f ∙ length-replicate {A = ℕ} 131072 0;
  waits = omega arith;
}

-- ---- as the code meets it

pub holds-same : (last pairs marks rows answers out : List ℕ) (n m : Numbers) (f g : ℕ) → Holds last pairs marks rows answers out n f → m ≡ n → g ≡ f → Holds last pairs marks rows answers out m g
holds-same last pairs marks rows answers out n m f g h a b =
    subst (λ (x : ℕ). Holds last pairs marks rows answers out m x) (sym b) (subst (λ (x : Numbers). Holds last pairs marks rows answers out x f) (sym a) h)

pub line-room : (used : ℕ) (line : List ℕ) → used ≤ 1025 → length line ≡ 1025 → used ≤ length line
line-room used line a b = omega arith

pub none-used : (used : ℕ) → used ≡ 0 → used ≤ 1025
none-used used e = omega arith

pub appended : (used m : ℕ) (line line' : List ℕ) → used ≤ length line' → length line' ≡ length line → length line ≡ 1025 → m ≡ used → m ≤ 1025
appended used m line line' a b c d = omega arith

pub feed-less : (n i e : ℕ) → i < n → i ≤ e → e ≤ n → n + 1 - (e + 1) < n + 1 - i
feed-less n i e a b c = omega arith

-- the place after a line's end is a number
pub next-fits : (n e : ℕ) → e ≤ n → n < 2 ^ 63 → Fits w64 (e + 1)
next-fits n e a b = record { fits = omega arith }

pub feed-more : (n e : ℕ) → e ≤ n → e + 1 ≤ n + 1
feed-more n e a = omega arith

pub append-again : (i at v : ℕ) (part line line₀ : List ℕ) → i < length part → at < length line → length line ≡ length line₀ → (i + 1 ≤ length part) × (at + 1 ≤ length (slice_set line at v)) × (length (slice_set line at v) ≡ length line₀)
append-again i at v part line line₀ a b c = let e = length-set line at v in (omega arith, omega arith, omega arith)

pub used-same : (used m : ℕ) → m ≡ used → used ≤ 1025 → m ≤ 1025
used-same used m e h = omega arith

pub inside-chunk : (i n : ℕ) → i < n → i ≤ n
inside-chunk i n h = omega arith

pub turn-less : (turns : ℕ) → 0 < turns → turns - 1 < turns
turn-less turns h = omega arith

-- what a slice's room says of its length
pub chunk-short : (n : ℕ) → n * 1 < 2 ^ 63 → n < 2 ^ 63
chunk-short n h = omega arith
