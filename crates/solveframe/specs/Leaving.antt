-- WHAT THE FRAME OF A SOLVE LEAVES IS WHAT THE DEFINITION SAYS, from a state that lines lead to.
use Rattle.std.specs.Prelude.{◌≡◌, Bool, ◌⊎◌, ℕ, ◌-◌, ◌^◌, eqb, length, take}
use Rattle.std.proofs.Math.Path.{refl, ap, subst}
use Rattle.std.proofs.Common.{sym, ◌∙◌, ⊎_elim, arith, eq-eqb, ne_eqb}
use Rattle.std.proofs.Math.Bool.{true, false, cond}
use mathlib.Core.List.{List}
use Rattle.checks.specs.Checks.{first_refusal}
use Rattle.view.specs.View.{View}
use Rattle.lattice.specs.Lattice.{World}
use Rattle.lattice.specs.World.{present, world_with, world_of}
use Rattle.rows.specs.Rows.{all_below}
use Rattle.tableview.specs.Inner.{state_world}
use Rattle.solving.specs.declared.Counts.{Counts}
use Rattle.solving.specs.Solving.{Problem, Solution, Unsolved, Solved as Solution-of, solve}
use Rattle.solves.specs.SolveResult as results
use Rattle.frames.specs.Frames as frames
use Rattle.frames.specs.Frames.{Store, shown, solving, ask_checks, message_refusal, stepped, solved_step, accepted, with_message}
use Rattle.framelaws.specs.Numbers.{solve-number}
use Rattle.framestate.specs.declared.Numbers.{Numbers}
use Rattle.framestate.specs.declared.Framed.{Framed}
use Rattle.framestate.specs.declared.Said.TheVariants.{Solved, Refused}
use Rattle.framestate.specs.FrameState.{Slices, store_of, Within, Ready, said_of, answers_after, Leaves, message_step, ask_numbers, framed}
use Rattle.frameleaves.specs.Own.{refused-leaves}
use Rattle.frameleaves.specs.Classes.{view-front, ask-shows}
use Rattle.solveframe.specs.Parts.{slices_of, problem_in, cut_problem, cut-problem}
use Rattle.solveframe.specs.SolveFrame.{Alone, SolveReady, solved_by, SolveFrames}

-- ---- as the code meets it

-- the solve of what was cut out
pub alone-cut : (pairs marks rows : List ℕ) (n : Numbers) (i : Within n) (answers answers' : List ℕ) (r : Counts)
    → Alone (solve (world_of pairs marks n.stack.tables) (cut_problem rows n i)) answers answers' r → Alone (solve (world_of pairs marks n.stack.tables) (problem_in rows n)) answers answers' r
alone-cut pairs marks rows n i answers answers' r a = subst (λ (p : Problem). Alone (solve (world_of pairs marks n.stack.tables) p) answers answers' r) (cut-problem rows n i) a

module _ (s : Solution) (answers : List ℕ) (n : Numbers) where
  pub frame-object : (r : Framed) → r ≡ framed (Refused 9) n → n.stack.tables.object ≡ 2 ^ 64 - 1 → SolveFrames s answers answers n r
  frame-object r e h =
      let b = eq-eqb n.stack.tables.object (2 ^ 64 - 1) h in
      record {
        result = e ∙ sym (ap (λ (x : Bool). cond x (framed (Refused 9) n) (solved_by (results.counts_of s).refusal n)) b);
        answers-are = sym (ap (λ (x : Bool). cond x answers (results.answers_after s answers)) b);
      }

  pub frame-solved : (answers' : List ℕ) (c : Counts) (r : Framed) → Alone s answers answers' c → r ≡ solved_by c.refusal n → (n.stack.tables.object ≡ 2 ^ 64 - 1 → ⊥) → SolveFrames s answers answers' n r
  frame-solved answers' c r a e h =
      let b = ne_eqb n.stack.tables.object (2 ^ 64 - 1) h in
      record {
        result = e ∙ ap (λ (x : Counts). solved_by x.refusal n) a.counts ∙ sym (ap (λ (x : Bool). cond x (framed (Refused 9) n) (solved_by (results.counts_of s).refusal n)) b);
        answers-are = a.answers-are ∙ sym (ap (λ (x : Bool). cond x answers (results.answers_after s answers)) b);
      }

-- a run's own refusal
pub said-refused : (k : ℕ) (n : Numbers) → (k ≡ 0 → ⊥) → framed (Refused k) n ≡ solved_by k n
said-refused k n h = sym (ap (λ (b : Bool). cond b (framed Solved (ask_numbers n)) (framed (Refused k) n)) (ne_eqb k 0 h))

pub said-solved : (k : ℕ) (n : Numbers) → k ≡ 0 → framed Solved (ask_numbers n) ≡ solved_by k n
said-solved k n h = sym (ap (λ (b : Bool). cond b (framed Solved (ask_numbers n)) (framed (Refused k) n)) (eq-eqb k 0 h))

-- ---- from what a frame comes to, to what it leaves

module _ (l : Slices) (n : Numbers) (h : Ready l n) (answers answers' : List ℕ) (r : Framed) where
  abbrev w : World
  w = world_of l.pairs l.marks n.stack.tables

  world-front : state_world (shown (store_of l n)) ≡ w
  world-front = ap (λ (v : View). world_with v (present n.stack.tables.cloneable) (present n.stack.tables.serializable)) (view-front l n h answers r)

  after : Store
  after = record { last = take n.last l.last; classes = (store_of l n).classes; problem = (store_of l n).problem; rank = 10 }

  nonzero : (k : ℕ) → (k ≡ 20) ⊎ (k ≡ 21) → k ≡ 0 → ⊥
  nonzero k = ⊎_elim (λ e z. omega arith) (λ e z. omega arith)

  solved-leaves : (s : Solution) → solve w (store_of l n).problem ≡ s → r ≡ solved_by (results.counts_of s).refusal n → answers' ≡ results.answers_after s answers
      → Leaves (solved_step 10 (store_of l n) s) l l answers answers' r
  unfolding results.counts_of results.answers_after said_of answers_after with_message after
  solved-leaves (Unsolved k) e q a =
      let z = q ∙ ap (λ (b : Bool). cond b (framed Solved (ask_numbers n)) (framed (Refused k) n)) (ne_eqb k 0 (nonzero k (solve-number w (store_of l n).problem k e))) in
      subst (λ (x : List ℕ). Leaves (stepped (frames.Refused k) (store_of l n)) l l answers x r) (sym a)
      (subst (Leaves (stepped (frames.Refused k) (store_of l n)) l l answers answers) (sym z) (refused-leaves l n h k answers))
  solved-leaves (Solution-of table turns given) e q a =
      subst (Leaves (stepped (frames.Answers given) after) l l answers answers') (sym q)
      (record { said-is = refl; shows = ask-shows l n h answers r; answers-are = a })

  -- 0a
  pub solve-leaves : SolveFrames (solve w (store_of l n).problem) answers answers' n r → Leaves (message_step 10 solving (store_of l n)) l l answers answers' r
  unfolding message_step message_refusal ask_checks first_refusal all_below accepted
  solve-leaves f = go (eqb n.stack.tables.object (2 ^ 64 - 1)) f.result f.answers-are
    where
      go : (b : Bool) → r ≡ cond b (framed (Refused 9) n) (solved_by (results.counts_of (solve w (store_of l n).problem)).refusal n)
          → answers' ≡ cond b answers (results.answers_after (solve w (store_of l n).problem) answers)
          → Leaves (cond (eqb (cond b 9 0) 0) (solved_step 10 (store_of l n) (solve (state_world (shown (store_of l n))) (store_of l n).problem)) (stepped (frames.Refused (cond b 9 0)) (store_of l n))) l l answers answers' r
      go true q a =
          subst (λ (x : List ℕ). Leaves (stepped (frames.Refused 9) (store_of l n)) l l answers x r) (sym a)
          (subst (Leaves (stepped (frames.Refused 9) (store_of l n)) l l answers answers) (sym q) (refused-leaves l n h 9 answers))
      go false q a =
          subst (λ (x : World). Leaves (solved_step 10 (store_of l n) (solve x (store_of l n).problem)) l l answers answers' r) (sym world-front)
          (solved-leaves (solve w (store_of l n).problem) refl q a)

-- a state that lines lead to has what a solve asks
pub solve-ready : (last pairs marks rows answers : List ℕ) (n : Numbers) → Ready (slices_of last pairs marks rows) n → length rows ≡ 11264 → length answers ≡ 2048 → SolveReady marks rows answers n
solve-ready last pairs marks rows answers n h e a = record {
  four-sets = h.sized.marks;
  few = h.sound.good.few;
  known = h.sound.known;
  all-rows = e;
  within = h.within;
  keeps = h.keeps;
  roomy = omega arith;
}
