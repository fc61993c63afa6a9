-- What the frame of a row leaves in its own slices and in the numbers, by the row functions of tables and problems. Every definition that a
-- contract of this crate cites.
use Rattle.std.specs.Prelude.{◌≡◌, Bool, cond, List, ℕ, ◌-◌, eqb, length, take, drop}
use Rattle.std.proofs.Common.{sym, ap, ◌∙◌, arith, eq-eqb, ne_eqb}
use Rattle.rows.specs.declared.Outcome.{Outcome}
use Rattle.rows.specs.Rows.{filled}
use Rattle.layers.specs.declared.StackOutcome.{StackOutcome}
use Rattle.layers.specs.Stacks.{Stack, StackRan, stack_ran, FillsStack, numbers_of as stack_numbers}
use Rattle.problemrows.specs.declared.Added.{Added}
use Rattle.problemrows.specs.ProblemRows as problemrows
use Rattle.problemrows.specs.ProblemRows.{Adds}
use Rattle.framestate.specs.declared.Numbers.{Numbers}
use Rattle.framestate.specs.declared.Framed.{Framed}
use Rattle.framestate.specs.declared.Said.TheVariants.{Accepted, Refused}
use Rattle.framestate.specs.FrameState.{framed, taken, name_numbers, record_numbers}

-- a name that is taken is kept as the last one; `o`: what its row comes to
pub record NameFrames (o : Outcome) (body last last' : List ℕ) (n : Numbers) (r : Framed) : Type 0 where
  pub result : r ≡ taken o.refusal n (name_numbers n (length body) o.tables)
  pub last-is : last' ≡ cond (eqb o.refusal 0) (filled body last) last

-- a record of the topmost layer
pub record RecordFrames (after : StackRan) (pairs pairs' marks' : List ℕ) (n : Numbers) (r : Framed) : Type 0 where
  pub result : r ≡ taken after.refusal n (record_numbers n (stack_numbers after.state))
  pub pairs-are : pairs' ≡ filled after.state.top.shown.keys pairs
  pub marks-are : marks' ≡ after.state.top.shown.marks

-- a row of a problem; `numbers`: with how many entries there are of its kind then
pub record RowFrames (after : problemrows.Ran) (a a' : List ℕ) (n : Numbers) (numbers : ℕ → Numbers) (r : Framed) : Type 0 where
  pub result : r ≡ taken after.refusal n (numbers (length after.entries))
  pub entries-are : a' ≡ filled after.entries a

-- ---- laws

module _ (refusal : ℕ) (n m : Numbers) where
  pub taken-none : (refusal ≡ 0 → ⊥) → framed (Refused refusal) n ≡ taken refusal n m
  taken-none h = ap (λ (b : Bool). cond b (framed Accepted m) (framed (Refused refusal) n)) (sym (ne_eqb refusal 0 h))

  pub taken-all : refusal ≡ 0 → framed Accepted m ≡ taken refusal n m
  taken-all h = ap (λ (b : Bool). cond b (framed Accepted m) (framed (Refused refusal) n)) (sym (eq-eqb refusal 0 h))

module _ (o p : Outcome) (body last : List ℕ) (n : Numbers) (e : o ≡ p) where
  pub name-none : (r : Framed) → r ≡ framed (Refused o.refusal) n → (o.refusal ≡ 0 → ⊥) → NameFrames p body last last n r
  name-none r q h = record {
    result = q ∙ taken-none o.refusal n (name_numbers n (length body) o.tables) h ∙ ap (λ (x : Outcome). taken x.refusal n (name_numbers n (length body) x.tables)) e;
    last-is = ap (λ (b : Bool). cond b (filled body last) last) (sym (ne_eqb o.refusal 0 h)) ∙ ap (λ (x : Outcome). cond (eqb x.refusal 0) (filled body last) last) e;
  }

  pub name-all : (last' : List ℕ) (m : Numbers) (r : Framed) → r ≡ framed Accepted m → m ≡ name_numbers n (length body) o.tables → o.refusal ≡ 0 → last' ≡ filled body last → NameFrames p body last last' n r
  name-all last' m r q k h l = record {
    result = q ∙ ap (framed Accepted) k ∙ taken-all o.refusal n (name_numbers n (length body) o.tables) h ∙ ap (λ (x : Outcome). taken x.refusal n (name_numbers n (length body) x.tables)) e;
    last-is = l ∙ ap (λ (b : Bool). cond b (filled body last) last) (sym (eq-eqb o.refusal 0 h)) ∙ ap (λ (x : Outcome). cond (eqb x.refusal 0) (filled body last) last) e;
  }

-- by what the function was called with, and what that is
module _ (s after : StackRan) (pairs pairs' marks' : List ℕ) (n : Numbers) (o : StackOutcome) (m : Numbers) (r : Framed) where
  pub record-frames : s ≡ after → FillsStack s pairs pairs' marks' o → m ≡ record_numbers n o.stack → r ≡ taken o.refusal n m → RecordFrames after pairs pairs' marks' n r
  record-frames e f k q = record {
    result =
        q ∙ ap (taken o.refusal n) k ∙ ap (λ (x : StackOutcome). taken x.refusal n (record_numbers n x.stack)) f.outcome-is
        ∙ ap (λ (x : StackRan). taken x.refusal n (record_numbers n (stack_numbers x.state))) e;
    pairs-are = f.pairs-are ∙ ap (λ (x : StackRan). filled x.state.top.shown.keys pairs) e;
    marks-are = f.marks-are ∙ ap (λ (x : StackRan). x.state.top.shown.marks) e;
  }

-- a layer that is opened
pub open-frames : (n : Numbers) (o p : StackOutcome) (m : Numbers) (r : Framed) → o ≡ p → m ≡ record_numbers n o.stack → r ≡ taken o.refusal n m → r ≡ taken p.refusal n (record_numbers n p.stack)
open-frames n o p m r e k q = q ∙ ap (taken o.refusal n) k ∙ ap (λ (x : StackOutcome). taken x.refusal n (record_numbers n x.stack)) e

module _ (s after : problemrows.Ran) (a a' : List ℕ) (n : Numbers) (numbers : ℕ → Numbers) (d : Added) (m : Numbers) (r : Framed) where
  pub row-frames : s ≡ after → Adds s a a' d → m ≡ numbers d.count → r ≡ taken d.refusal n m → RowFrames after a a' n numbers r
  row-frames e h k q = record {
    result =
        q ∙ ap (taken d.refusal n) k ∙ ap (λ (x : Added). taken x.refusal n (numbers x.count)) h.added-is
        ∙ ap (λ (x : problemrows.Ran). taken x.refusal n (numbers (length x.entries))) e;
    entries-are = h.entries-are ∙ ap (λ (x : problemrows.Ran). filled x.entries a) e;
  }

-- rows of equal fields
pub same-record : (s : Stack) (f f' c c' : ℕ) (ps ps' : List ℕ) → f ≡ f' → c ≡ c' → ps ≡ ps' → stack_ran s f c ps ≡ stack_ran s f' c' ps'
same-record s f f' c c' ps ps' x y z = λ i. stack_ran s (x i) (y i) (z i)

pub same-variable : (n c c' : ℕ) (l : List ℕ) → c ≡ c' → problemrows.variable_row n c l ≡ problemrows.variable_row n c' l
same-variable n c c' l x = λ i. problemrows.variable_row n (x i) l

pub same-pair : (n room a a' b b' : ℕ) (l : List ℕ) → a ≡ a' → b ≡ b' → problemrows.pair_row n room a b l ≡ problemrows.pair_row n room a' b' l
same-pair n room a a' b b' l x y = λ i. problemrows.pair_row n room (x i) (y i) l

pub same-bound : (names n c c' k k' w w' : ℕ) (l : List ℕ) → c ≡ c' → k ≡ k' → w ≡ w' → problemrows.bound_row names n c k w l ≡ problemrows.bound_row names n c' k' w' l
same-bound names n c c' k k' w w' l x y z = λ i. problemrows.bound_row names n (x i) (y i) (z i) l

-- the front of a slice, lent as a part
pub part-front : (k : ℕ) (l : List ℕ) → take (k - 0) (drop 0 l) ≡ take k l
part-front k l = ap (λ (m : ℕ). take m l) (let e : k - 0 ≡ k = omega arith in e)
