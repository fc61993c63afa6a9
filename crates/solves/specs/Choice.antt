-- WITH ROWS OR WITHOUT: the classes that the given bounds speak of, when rows are made, and that they change nothing.
use Rattle.std.specs.Prelude.{◌≡◌, Bool, true, false, List, ℕ, ◌≤◌, ◌<◌, length, replicate}
use Rattle.std.proofs.Common.{sym, ap, ◌∙◌, subst, true≢false, arith}
use Rattle.std.proofs.Math.Decide.{ℕ_discrete}
use Rattle.sets.specs.Sets.{MembersBelow, member, insert}
use Rattle.sets.specs.Laws.{member-empty, member-cong, at-insert-other}
use Rattle.tables.specs.declared.Tables.{Tables}
use Rattle.tables.specs.Table.{pairs_room, view_of}
use Rattle.view.specs.View.{View}
use Rattle.lattice.specs.Lattice.{World}
use Rattle.lattice.specs.World.{present, world_with, world_of}
use Rattle.prepared.specs.Prepared.{table_room, Laid, plain-prepared, laid-view, laid-prepared}
use Rattle.resolving.specs.Bounds.{Classes, Classed}
use Rattle.solving.specs.declared.Counts.{Counts}
use Rattle.solving.specs.Solving.{Problem, solve}
use Rattle.solves.specs.SolveResult.{Lent}
use Rattle.solves.specs.Laws.{Leaves}

pub inside-none : (n : ℕ) (s : List ℕ) → s ≡ replicate 16 0 → MembersBelow n s
inside-none n s e c m = absurd (true≢false (sym m ∙ ap (λ (x : List ℕ). member x c) e ∙ member-empty 16 c))

pub inside-more : (n k : ℕ) (s s' : List ℕ) → MembersBelow n s → k < n → s' ≡ insert s k → MembersBelow n s'
inside-more n k s s' i h e c m = go (ℕ_discrete c k)
  where
    go : Dec (c ≡ k) → c < n
    go (yes q) = omega arith
    go (no q) = i c (sym (member-cong (insert s k) s c (at-insert-other s k c q)) ∙ sym (ap (λ (x : List ℕ). member x c) e) ∙ m)

-- rows are made only of a slice that has all its keys, and always of one as long as a table with rows
abbrev pub Decides : ℕ → ℕ → Bool → Type 0
Decides len pairs true = (pairs ≤ pairs_room) × (pairs ≤ len)
Decides len pairs false = len ≡ table_room → pairs ≤ pairs_room → ⊥

-- what is not prepared may be asked as it is
pub classed-plain : (pairs marks : List ℕ) (t : Tables) → Classes marks t → Decides (length pairs) t.pairs false → Classed pairs marks t
classed-plain pairs marks t c d = (plain-prepared pairs marks t c.0 d, c.1)

module _ (pairs marks : List ℕ) (t : Tables) (s table : List ℕ) (classes : Classes marks t) (few : t.pairs ≤ pairs_room) (there : t.pairs ≤ length pairs)
    (p : Laid (view_of pairs marks t) s t.pairs pairs table) where
  pub classed-laid : Classed table marks t
  classed-laid = (laid-prepared pairs marks t s table p few there classes.0, classes.1)

  -- and gives the same world
  pub laid-world : world_of table marks t ≡ world_of pairs marks t
  laid-world = ap (λ (v : View). world_with v (present t.cloneable) (present t.serializable)) (laid-view pairs marks t s table p few there)

-- a solve over the same world leaves the same
pub leaves-along : {before after : Lent} {r : Counts} (w w' : World) → w ≡ w' → (p : Problem) → Leaves (solve w p) before after r → Leaves (solve w' p) before after r
leaves-along {before} {after} {r} w w' e p l = subst (λ (x : World). Leaves (solve x p) before after r) e l
