-- THE STATE OF FRAMES IN FOUR SLICES: the rows of a problem stand in parts of one slice, each with room for its limit.
use Rattle.std.specs.Prelude.{◌≡◌, List, map, ℕ, ◌+◌, ◌-◌, ◌≤◌, length, take, drop}
use Rattle.std.proofs.Common.{sym, ap, ◌∙◌, subst, arith, length-drop, take-take, length-take-le}
use Rattle.tables.specs.Table.{marks_room}
use Rattle.layers.specs.Layers.{layers_room}
use Rattle.solving.specs.Solving.{Problem}
use Rattle.solving.specs.TableKeys.{keys_of, bound_of}
use Rattle.problems.specs.Held.{Held}
use Rattle.problems.specs.Kept.{problem_of, Keeps}
use Rattle.framestate.specs.declared.Numbers.{Numbers}
use Rattle.framestate.specs.FrameState.{Slices, Sized, Within}
use Rattle.lending.specs.Lending.{MutSlice, came_mut, became}

-- how long the slice of a problem's rows is
abbrev pub problem_room : ℕ
problem_room = 11264

-- so many entries from a place on
abbrev pub part : ℕ → ℕ → List ℕ → List ℕ
part at room l = take room (drop at l)

-- THE PARTS: variables, bounds, flows, upper flows, reads, writes
abbrev pub slices_of : List ℕ → List ℕ → List ℕ → List ℕ → Slices
slices_of last pairs marks rows = record {
  last = last;
  pairs = pairs;
  marks = marks;
  variables = part 0 2048 rows;
  bounds = part 2048 4096 rows;
  flows = part 6144 2048 rows;
  uppers = part 8192 1024 rows;
  reads = part 9216 1024 rows;
  writes = part 10240 1024 rows;
}

-- the four slices that a function is lent, as they came, and as they are left
abbrev pub slices_by : (last pairs marks rows : MutSlice) → Slices
slices_by last pairs marks rows = slices_of (came_mut last) (came_mut pairs) (came_mut marks) (came_mut rows)

abbrev pub slices_left : (last pairs marks rows : MutSlice) → Slices
slices_left last pairs marks rows = slices_of (became last) (became pairs) (became marks) (became rows)

-- the entries that count
abbrev pub problem_in : List ℕ → Numbers → Problem
problem_in rows n = problem_of n.components (take n.variables (part 0 2048 rows)) (take n.bounds (part 2048 4096 rows)) (take n.flows (part 6144 2048 rows)) (take n.uppers (part 8192 1024 rows)) (take n.reads (part 9216 1024 rows)) (take n.writes (part 10240 1024 rows))

abbrev pub KeepsIn : List ℕ → Numbers → Type 0
KeepsIn rows n = Keeps n.stack.tables.names n.components (take n.variables (part 0 2048 rows)) (take n.bounds (part 2048 4096 rows)) (take n.flows (part 6144 2048 rows)) (take n.uppers (part 8192 1024 rows)) (take n.reads (part 9216 1024 rows)) (take n.writes (part 10240 1024 rows))

-- ---- laws

pub part-length : (at room : ℕ) (l : List ℕ) → at + room ≤ length l → length (part at room l) ≡ room
part-length at room l h = length-take-le room (drop at l) (let e = length-drop at l in omega arith)

-- slices of these lengths have the parts' lengths
pub sized : (last pairs marks rows : List ℕ) → length last ≡ 255 → length pairs ≡ layers_room → length marks ≡ marks_room → length rows ≡ problem_room → Sized (slices_of last pairs marks rows)
sized last pairs marks rows a b c d = record {
  last = a;
  pairs = b;
  marks = c;
  variables = part-length 0 2048 rows (omega arith);
  bounds = part-length 2048 4096 rows (omega arith);
  flows = part-length 6144 2048 rows (omega arith);
  uppers = part-length 8192 1024 rows (omega arith);
  reads = part-length 9216 1024 rows (omega arith);
  writes = part-length 10240 1024 rows (omega arith);
}

-- the front of a part, as code cuts it out
cut : (at count room : ℕ) (l : List ℕ) → count ≤ room → take (at + count - at) (drop at l) ≡ take count (part at room l)
cut at count room l h = ap (λ (m : ℕ). take m (drop at l)) (let e : at + count - at ≡ count = omega arith in e) ∙ sym (take-take count room (drop at l) h)

first-cut : (count room : ℕ) (l : List ℕ) → count ≤ room → take (count - 0) (drop 0 l) ≡ take count (part 0 room l)
first-cut count room l h = ap (λ (m : ℕ). take m (drop 0 l)) (let e : count - 0 ≡ count = omega arith in e) ∙ sym (take-take count room (drop 0 l) h)

module _ (rows : List ℕ) (n : Numbers) (w : Within n) where
  abbrev pub cut_problem : Problem
  cut_problem = problem_of n.components (take (n.variables - 0) (drop 0 rows)) (take (2048 + n.bounds - 2048) (drop 2048 rows)) (take (6144 + n.flows - 6144) (drop 6144 rows)) (take (8192 + n.uppers - 8192) (drop 8192 rows)) (take (9216 + n.reads - 9216) (drop 9216 rows)) (take (10240 + n.writes - 10240) (drop 10240 rows))

  -- WHAT CODE CUTS OUT is the problem
  pub cut-problem : cut_problem ≡ problem_in rows n
  cut-problem =
      let v = first-cut n.variables 2048 rows w.variables in
      let b = cut 2048 n.bounds 4096 rows w.bounds in
      let f = cut 6144 n.flows 2048 rows w.flows in
      let u = cut 8192 n.uppers 1024 rows w.uppers in
      let r = cut 9216 n.reads 1024 rows w.reads in
      let x = cut 10240 n.writes 1024 rows w.writes in
      λ i. problem_of n.components (v i) (b i) (f i) (u i) (r i) (x i)

  pub cut-keeps : KeepsIn rows n → Keeps n.stack.tables.names n.components (take (n.variables - 0) (drop 0 rows)) (take (2048 + n.bounds - 2048) (drop 2048 rows)) (take (6144 + n.flows - 6144) (drop 6144 rows)) (take (8192 + n.uppers - 8192) (drop 8192 rows)) (take (9216 + n.reads - 9216) (drop 9216 rows)) (take (10240 + n.writes - 10240) (drop 10240 rows))
  cut-keeps k = record {
    held = subst (Held n.stack.tables.names) (sym cut-problem) k.held;
    keyed = subst (λ (l : List ℕ). keys_of (map bound_of l) ≡ l) (sym (cut 2048 n.bounds 4096 rows w.bounds)) k.keyed;
  }

  pub cut-variables : length rows ≡ problem_room → length (take (n.variables - 0) (drop 0 rows)) ≤ 2048
  cut-variables e = let a = w.variables in let l = length-take-le (n.variables - 0) (drop 0 rows) (let d = length-drop 0 rows in omega arith) in omega arith
