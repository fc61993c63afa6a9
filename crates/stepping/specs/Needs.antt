-- WHAT THE FRAME OF A KIND ASKS FOR, from a state that lines lead to and a head that is not refused.
use Rattle.std.specs.Prelude.{◌≡◌, Bool, ◌||◌, List, ℕ, ◌-◌, ◌%◌, ◌^◌, ◌≤◌, ◌<◌, length, take}
use Rattle.std.proofs.Math.Path.{refl, sym}
use Rattle.std.proofs.Common.{ap, subst, ◌∙◌, true≢false, inl, inr, arith}
use Rattle.std.proofs.Math.Bool.{true, false}
use Rattle.std.proofs.Math.Dec.{eqb, leb}
use borrow.Author.Tests.{eqb-true, eqb-false, leb-true, leb-false, le-leb, lt-leb}
use Rattle.sorted.specs.Sorted.{Sorted}
use Rattle.tables.specs.Table.{names_room, marks_room}
use Rattle.layers.specs.Layers.{layers_room}
use Rattle.layers.specs.Stacks.{Holds}
use Rattle.frames.specs.Frames.{good_length}
use Rattle.framestate.specs.declared.Numbers.{Numbers}
use Rattle.solveframe.specs.Parts.{part, problem_room}
use Rattle.stepping.specs.Stepping.{Stands, class_kind, Headed}
use Rattle.stepping.specs.Asks.{Passed, head-says, sized-1, sized-2, sized-two, sized-5, sized-pair, name-asks, record-asks, variable-asks, bound-asks, flow-asks, upper-asks, read-asks, write-asks}

-- two numbers that are written out: a subtraction compares them at once
pub below : {a b : ℕ} → a - b ≡ 0 → a ≤ b
below {a} {b} e = omega arith

-- a place up to which the rows are there
pub inside : (e : ℕ) (rows : List ℕ) → length rows ≡ problem_room → e ≤ problem_room → e ≤ length rows
inside e rows l h = subst (λ (k : ℕ). e ≤ k) (sym l) h

-- ---- the last of some kinds, where the others were tested for

module _ (k : ℕ) where
  pub is-14 : class_kind k ≡ true → 1 ≤ k → (k ≡ 1 → ⊥) → (k ≡ 2 → ⊥) → k ≡ 14
  unfolding class_kind
  is-14 h a b c = go (leb k 2) refl h
    where
      go : (t : Bool) → leb k 2 ≡ t → (t || eqb k 14) ≡ true → k ≡ 14
      go true e q = absurd (let z = leb-true k 2 e in omega arith)
      go false e q = eqb-true k 14 q

  pub is-later : class_kind k ≡ false → (3 ≤ k) × (k ≡ 14 → ⊥)
  unfolding class_kind
  is-later h = go (leb k 2) refl h
    where
      go : (t : Bool) → leb k 2 ≡ t → (t || eqb k 14) ≡ false → (3 ≤ k) × (k ≡ 14 → ⊥)
      go true e q = absurd (true≢false q)
      go false e q = (leb-false k 2 e, eqb-false k 14 q)

  -- as the code tests for them
  pub class-low : k ≤ 2 → true ≡ class_kind k
  unfolding class_kind
  class-low h = sym (ap (λ (t : Bool). t || eqb k 14) (le-leb k 2 h))

  pub class-high : 2 < k → eqb k 14 ≡ class_kind k
  unfolding class_kind
  class-high h = sym (ap (λ (t : Bool). t || eqb k 14) (lt-leb k 2 h))

  pub is-5 : 3 ≤ k → k ≤ 5 → (k ≡ 3 → ⊥) → (k ≡ 4 → ⊥) → k ≡ 5
  is-5 a b c d = omega arith

  pub is-9 : 6 ≤ k → k ≤ 9 → (k ≡ 6 → ⊥) → (k ≡ 7 → ⊥) → (k ≡ 8 → ⊥) → k ≡ 9
  is-9 a b c d e = omega arith

  pub is-13 : 11 ≤ k → k ≤ 14 → class_kind k ≡ false → (k ≡ 11 → ⊥) → (k ≡ 12 → ⊥) → k ≡ 13
  is-13 a b c d e = last (is-later c).1
    where
      last : (k ≡ 14 → ⊥) → k ≡ 13
      last f = omega arith

  pub past-10 : 9 < k → (k ≡ 10 → ⊥) → 11 ≤ k
  past-10 a b = omega arith

module _ (kind : ℕ) (body last pairs marks rows : List ℕ) (n : Numbers) (s : Stands last pairs marks rows n) (q : Headed kind body n) where
  pub passes : Passed kind (length body) n.rank
  passes = head-says kind (length body) n.rank q

  sized-at : (k : ℕ) → kind ≡ k → good_length k (length body) ≡ true
  sized-at k e = ap (λ (j : ℕ). good_length j (length body)) (sym e) ∙ passes.sized

  pair-size : (k : ℕ) → kind ≡ k → 5 < k → (k ≡ 10 → ⊥) → (k ≡ 14 → ⊥) → length body ≡ 4
  pair-size k e a b d = sized-pair k (length body) a b d (sized-at k e)

  pub name-needs : kind ≡ 1 → (n.last ≤ length last) × (length body ≤ length last)
  name-needs e = name-asks last pairs marks rows n s.ready (length body) (sized-1 (length body) (sized-at 1 e)).1

  pub record-needs : kind ≡ 2
      → (3 ≤ length body) × (length body % 2 ≡ 1) × (length body ≤ 511) × Holds pairs marks n.stack
  record-needs e = record-asks last pairs marks rows n s.ready (length body) (sized-2 (length body) (sized-at 2 e))

  pub count-needs : kind ≡ 3 → length body ≡ 2
  count-needs e = sized-two (length body) 3 (inl refl) (sized-at 3 e)

  pub variable-needs : kind ≡ 4 → (length body ≡ 2) × (n.variables ≤ length (part 0 2048 rows)) × (2048 ≤ length (part 0 2048 rows))
  variable-needs e = variable-asks last pairs marks rows n s.ready (length body) (sized-two (length body) 4 (inr refl) (sized-at 4 e))

  pub bound-needs : kind ≡ 5 → (length body ≡ 11) × (n.stack.tables.names ≤ 1024) × (n.components ≤ 512) × (n.bounds ≤ 4096) × (4096 ≤ length (part 2048 4096 rows)) × Sorted (take n.bounds (part 2048 4096 rows))
  bound-needs e = bound-asks last pairs marks rows n s.ready (length body) (sized-5 (length body) (sized-at 5 e))

  pub flow-needs : kind ≡ 6 → (length body ≡ 4) × (n.components ≤ 512) × (n.flows ≤ 2048) × (2048 ≤ length (part 6144 2048 rows)) × Sorted (take n.flows (part 6144 2048 rows))
  flow-needs e = flow-asks last pairs marks rows n s.ready (length body) (pair-size 6 e (omega arith) (λ z. omega arith) (λ z. omega arith))

  pub upper-needs : kind ≡ 7 → (length body ≡ 4) × (n.components ≤ 512) × (n.uppers ≤ 1024) × (1024 ≤ length (part 8192 1024 rows)) × Sorted (take n.uppers (part 8192 1024 rows))
  upper-needs e = upper-asks last pairs marks rows n s.ready (length body) (pair-size 7 e (omega arith) (λ z. omega arith) (λ z. omega arith))

  pub read-needs : kind ≡ 8 → (length body ≡ 4) × (n.components ≤ 512) × (n.writes ≤ 1024) × (n.reads ≤ 1024 - n.writes) × (1024 ≤ length (part 9216 1024 rows)) × Sorted (take n.reads (part 9216 1024 rows))
  read-needs e = read-asks last pairs marks rows n s.ready (length body) (pair-size 8 e (omega arith) (λ z. omega arith) (λ z. omega arith))

  pub write-needs : kind ≡ 9 → (length body ≡ 4) × (n.components ≤ 512) × (n.reads ≤ 1024) × (n.writes ≤ 1024 - n.reads) × (1024 ≤ length (part 10240 1024 rows)) × Sorted (take n.writes (part 10240 1024 rows))
  write-needs e = write-asks last pairs marks rows n s.ready (length body) (pair-size 9 e (omega arith) (λ z. omega arith) (λ z. omega arith))

  pub relation-needs : kind ≡ 11 → (length body ≡ 4) × (length marks ≡ marks_room)
  relation-needs e = (pair-size 11 e (omega arith) (λ z. omega arith) (λ z. omega arith), s.ready.sized.marks)

  pub supertype-needs : kind ≡ 12 → (length body ≡ 4) × (n.stack.tables.names ≤ names_room) × ((n.stack.tables.object ≡ 2 ^ 64 - 1 → ⊥) → n.stack.tables.object < n.stack.tables.names) × (length marks ≡ marks_room) × (length pairs ≡ layers_room)
  supertype-needs e = (pair-size 12 e (omega arith) (λ z. omega arith) (λ z. omega arith), s.ready.sound.good.few, s.ready.sound.known, s.ready.sized.marks, s.ready.sized.pairs)

  pub cast-needs : kind ≡ 13 → (length body ≡ 4) × (length marks ≡ marks_room)
  cast-needs e = (pair-size 13 e (omega arith) (λ z. omega arith) (λ z. omega arith), s.ready.sized.marks)
