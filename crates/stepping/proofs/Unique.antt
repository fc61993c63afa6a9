-- The contract of the public function, as the check reads it, allows one outcome: what is said, the numbers, and every lent slice.
use mathlib.Core.Path.{◌≡◌, sym, ap, ◌∙◌}
use mathlib.Core.List.{List, ◌++◌}
use Prim.Native.Nat.{ℕ}
use native.Mathlib.Omega.{arith}
use lib.ListN.{length, drop, length-drop, take-append-drop}
use lib.Seq.{take_all, drop-drop}
use borrow.Fn.Kinds.{Dens, res_t, ended_of}
use denote.Triple.Clauses.{AtExit}
use contract.Lifetimes.{Lfts}
use Rattle.frames.specs.Frames.{Store, Stepped}
use Rattle.framestate.specs.declared.Numbers.{Numbers}
use Rattle.framestate.specs.declared.Framed.{Framed}
use Rattle.framestate.specs.FrameState.{Slices, Shows, Leaves}
use Rattle.solveframe.specs.Parts.{part, problem_room, slices_of}
use Rattle.stepping.proofs.frame.Reads as frame
use Rattle.stepping.proofs.frame.Kinds as frame-kinds

-- one state is shown in one way
pub state-one : (s : Store) (l l₁ l₂ : Slices) (n₁ n₂ : Numbers) → Shows s l l₁ n₁ → Shows s l l₂ n₂ → (n₁ ≡ n₂) × (l₁ ≡ l₂)
state-one s l l₁ l₂ n₁ n₂ p q =
    let b = p.last-is ∙ sym q.last-is in
    let c = p.pairs-are ∙ sym q.pairs-are in
    let d = p.marks-are ∙ sym q.marks-are in
    let e = p.variables-are ∙ sym q.variables-are in
    let f = p.bounds-are ∙ sym q.bounds-are in
    let g = p.flows-are ∙ sym q.flows-are in
    let h = p.uppers-are ∙ sym q.uppers-are in
    let j = p.reads-are ∙ sym q.reads-are in
    let k = p.writes-are ∙ sym q.writes-are in (
      p.numbers-are ∙ sym q.numbers-are,
      λ i. record { last = b i; pairs = c i; marks = d i; variables = e i; bounds = f i; flows = g i; uppers = h i; reads = j i; writes = k i },
    )

-- one step leaves one state
shows-one : (step : Stepped) (l l₁ l₂ : Slices) (a a₁ a₂ : List ℕ) (r₁ r₂ : Framed) → Leaves step l l₁ a a₁ r₁ → Leaves step l l₂ a a₂ r₂ → (r₁ ≡ r₂) × (l₁ ≡ l₂) × (a₁ ≡ a₂)
shows-one step l l₁ l₂ a a₁ a₂ r₁ r₂ p q =
    let s = p.said-is ∙ sym q.said-is in
    let o = state-one step.store l l₁ l₂ r₁.numbers r₂.numbers p.shows q.shows in
    let n = o.0 in (λ i. record { said = s i; numbers = n i }, o.1, p.answers-are ∙ sym q.answers-are)

-- the rows are their six parts
six : (l : List ℕ) → length l ≡ problem_room → l ≡ part 0 2048 l ++ (part 2048 4096 l ++ (part 6144 2048 l ++ (part 8192 1024 l ++ (part 9216 1024 l ++ part 10240 1024 l))))
six l h =
    let w = take_all 1024 (drop 10240 l) (let d = length-drop 10240 l in omega arith) in
    sym (take-append-drop 2048 l)
    ∙ ap (λ (z : List ℕ). part 0 2048 l ++ z)
    (sym (take-append-drop 4096 (drop 2048 l)) ∙ ap (λ (z : List ℕ). part 2048 4096 l ++ z)
    (drop-drop 4096 2048 l ∙ sym (take-append-drop 2048 (drop 6144 l)) ∙ ap (λ (z : List ℕ). part 6144 2048 l ++ z)
    (drop-drop 2048 6144 l ∙ sym (take-append-drop 1024 (drop 8192 l)) ∙ ap (λ (z : List ℕ). part 8192 1024 l ++ z)
    (drop-drop 1024 8192 l ∙ sym (take-append-drop 1024 (drop 9216 l)) ∙ ap (λ (z : List ℕ). part 9216 1024 l ++ z) (drop-drop 1024 9216 l ∙ sym w)))))

pub rows-one : (b₁ b₂ c₁ c₂ d₁ d₂ l m : List ℕ) → length l ≡ problem_room → length m ≡ problem_room → slices_of b₁ c₁ d₁ l ≡ slices_of b₂ c₂ d₂ m → l ≡ m
rows-one b₁ b₂ c₁ c₂ d₁ d₂ l m h k e =
    six l h ∙ ap (λ (s : Slices). s.variables ++ (s.bounds ++ (s.flows ++ (s.uppers ++ (s.reads ++ s.writes))))) e ∙ sym (six m k)

-- last, pairs, marks, rows, answers
pub frame-one : (κs : Lfts 6) (a : Dens κs frame-kinds.ps) (r₁ r₂ : (res_t frame-kinds.r κs).Denot)
    (x₁ x₂ : AtExit (ended_of 6 frame-kinds.ps frame-kinds.r) κs) → frame.Post κs a r₁ x₁ → frame.Post κs a r₂ x₂
    → (r₁ ≡ r₂) × (x₁.1.0.now ≡ x₂.1.0.now) × (x₁.1.1.0.now ≡ x₂.1.1.0.now) × (x₁.1.1.1.0.now ≡ x₂.1.1.1.0.now) × (x₁.1.1.1.1.0.now ≡ x₂.1.1.1.1.0.now) × (x₁.1.1.1.1.1.0.now ≡ x₂.1.1.1.1.1.0.now)
frame-one κs a r₁ r₂ x₁ x₂ p q =
    let o = shows-one _ _ _ _ _ _ _ r₁ r₂ p.0 q.0 in (
      o.0,
      ap (λ (s : Slices). s.last) o.1,
      ap (λ (s : Slices). s.pairs) o.1,
      ap (λ (s : Slices). s.marks) o.1,
      rows-one x₁.1.0.now x₂.1.0.now x₁.1.1.0.now x₂.1.1.0.now x₁.1.1.1.0.now x₂.1.1.1.0.now x₁.1.1.1.1.0.now x₂.1.1.1.1.0.now p.1.all-rows q.1.all-rows o.1,
      o.2,
    )
