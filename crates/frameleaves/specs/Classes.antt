-- THE SAME OF NAMES, RECORDS, THE COUNT AND QUESTIONS: what the frame of each leaves is what the definition says.
use Rattle.std.specs.Prelude.{◌≡◌, Bool, true, false, eqb}
use Rattle.std.proofs.Math.Path.{refl, ap, subst}
use Rattle.std.proofs.Common.{sym, ◌∙◌, arith, take-take}
use Rattle.std.proofs.Math.Bool.{cond}
use mathlib.Core.List.{List, []}
use Prim.Native.Nat.{ℕ, ◌<◌}
use Rattle.std.proofs.Math.ListN.{length, take}
use Rattle.std.proofs.lemmas.Bool.{eqb-false}
use Rattle.view.specs.View.{View}
use Rattle.tables.specs.Table.{parents_of, view_of}
use Rattle.rows.specs.declared.Outcome.{Outcome}
use Rattle.rows.specs.Rows.{name_row, filled, State}
use Rattle.layers.specs.declared.StackOutcome.{StackOutcome}
use Rattle.layers.specs.Stacks.{Stack, with_names, stack_refusal, stack_row, open_refusal, open_row, stack_of, stack_ran, numbers_of as stack_numbers, opened_tables}
use Rattle.layers.specs.StackLaws.{row-refused, opened-is}
use Rattle.tableview.specs.Inner.{state_view}
use Rattle.solving.specs.Solving.{Problem}
use Rattle.problems.specs.Problems.{counted, no_problem, problem_row}
use Rattle.problems.specs.Kept.{problem_of}
use Rattle.problemrows.specs.ProblemRows.{count_refusal}
use Rattle.problemrows.specs.Kept.{count-same}
use Rattle.frames.specs.Frames as frames
use Rattle.frames.specs.Frames.{Store, shown, Stepped, Question, Relating, Supertyping, Casting, naming, recording, opening, row, asking, message_refusal, stepped, accepted, answer, with_message, rank_of}
use Rattle.framelaws.specs.Reached.{open-shows}
use Rattle.framestate.specs.declared.Numbers.{Numbers}
use Rattle.framestate.specs.declared.Framed.{Framed}
use Rattle.framestate.specs.declared.Said.{Said}
use Rattle.framestate.specs.declared.Said.TheVariants.{Accepted, Refused}
use Rattle.framestate.specs.FrameState.{Slices, store_of, Ready, numbers_of, Shows, said_of, answers_after, Leaves, message_step, name_numbers, record_numbers, count_numbers, ask_numbers, framed, taken}
use Rattle.rowframes.specs.RowFrames.{NameFrames, RecordFrames}
use Rattle.askframes.specs.AskFrames.{ask_refusal, asked}
use Rattle.frameleaves.specs.Own.{own-last, own-pairs, own-variables, own-bounds, own-flows, own-uppers, own-reads, own-writes, own-layers, own-stack, many-last, many-variables, many-bounds, many-flows, many-uppers, many-reads, many-writes, own-shows, refused-leaves}
use Rattle.frameleaves.specs.Kinds.{row-leaves}

module _ (l : Slices) (n : Numbers) (h : Ready l n) (answers : List ℕ) (r : Framed) where
  abbrev with_last : List ℕ → Slices
  with_last x = record { last = x; pairs = l.pairs; marks = l.marks; variables = l.variables; bounds = l.bounds; flows = l.flows; uppers = l.uppers; reads = l.reads; writes = l.writes }

  abbrev with_tables : List ℕ → List ℕ → Slices
  with_tables x y = record { last = l.last; pairs = x; marks = y; variables = l.variables; bounds = l.bounds; flows = l.flows; uppers = l.uppers; reads = l.reads; writes = l.writes }

  -- 01
  name-shows : (body last' : List ℕ) (o : Outcome) → last' ≡ filled body l.last
      → Shows (record { last = body; classes = with_names (store_of l n).classes o.tables; problem = (store_of l n).problem; rank = 1 }) l (with_last last') (name_numbers n (length body) o.tables)
  unfolding numbers_of
  name-shows body last' o e =
      let k = h.counted in
      let v = many-variables l n h in let b = many-bounds l n h in let f = many-flows l n h in let u = many-uppers l n h in let s = many-reads l n h in let w = many-writes l n h in
      record {
        numbers-are = λ i. record { stack = record { tables = o.tables; layer = record { own = n.stack.layer.own; keys = k i }; under = n.stack.under }; last = length body; components = n.components; variables = v i; bounds = b i; flows = f i; uppers = u i; reads = s i; writes = w i; rank = 1 };
        last-is = e;
        pairs-are = own-pairs l n h;
        marks-are = refl;
        variables-are = own-variables l n h;
        bounds-are = own-bounds l n h;
        flows-are = own-flows l n h;
        uppers-are = own-uppers l n h;
        reads-are = own-reads l n h;
        writes-are = own-writes l n h;
      }

  pub name-leaves : (body last' : List ℕ) → NameFrames (name_row (take n.last l.last) body n.stack.tables) body l.last last' n r
      → Leaves (message_step 1 (naming body) (store_of l n)) l (with_last last') answers answers r
  unfolding message_step message_refusal accepted with_message said_of answers_after
  name-leaves body last' f =
      subst (Leaves (message_step 1 (naming body) (store_of l n)) l (with_last last') answers answers) (sym f.result) (go (eqb o.refusal 0) refl f.last-is)
    where
      o : Outcome
      o = name_row (take n.last l.last) body n.stack.tables

      st : Store
      st = record { last = body; classes = with_names (store_of l n).classes o.tables; problem = (store_of l n).problem; rank = 1 }

      go : (b : Bool) → eqb o.refusal 0 ≡ b → last' ≡ cond b (filled body l.last) l.last
          → Leaves (cond b (stepped frames.Accepted st) (stepped (frames.Refused o.refusal) (store_of l n))) l (with_last last') answers answers (cond b (framed Accepted (name_numbers n (length body) o.tables)) (framed (Refused o.refusal) n))
      go true x e = record { said-is = refl; shows = name-shows body last' o e; answers-are = refl }
      go false x e = record { said-is = refl; shows = subst (λ (y : List ℕ). Shows (store_of l n) l (with_last y) n) (sym e) (own-shows l n h); answers-are = refl }

  -- 02 and 0e: other layers in the place of these
  layers-show : (t : Stack) (pairs' marks' : List ℕ) → pairs' ≡ filled t.top.shown.keys l.pairs → marks' ≡ t.top.shown.marks
      → Shows (record { last = take n.last l.last; classes = t; problem = (store_of l n).problem; rank = 2 }) l (with_tables pairs' marks') (record_numbers n (stack_numbers t))
  unfolding numbers_of
  layers-show t pairs' marks' e d =
      let a = many-last l n h in let v = many-variables l n h in let b = many-bounds l n h in let f = many-flows l n h in let u = many-uppers l n h in let s = many-reads l n h in let w = many-writes l n h in
      record {
        numbers-are = λ i. record { stack = stack_numbers t; last = a i; components = n.components; variables = v i; bounds = b i; flows = f i; uppers = u i; reads = s i; writes = w i; rank = 2 };
        last-is = own-last l n h;
        pairs-are = e;
        marks-are = d;
        variables-are = own-variables l n h;
        bounds-are = own-bounds l n h;
        flows-are = own-flows l n h;
        uppers-are = own-uppers l n h;
        reads-are = own-reads l n h;
        writes-are = own-writes l n h;
      }

  -- 02
  pub record-leaves : (flags class : ℕ) (parents pairs' marks' : List ℕ) → RecordFrames (stack_ran (stack_of l.pairs l.marks n.stack) flags class parents) l.pairs pairs' marks' n r
      → Leaves (message_step 2 (recording flags class parents) (store_of l n)) l (with_tables pairs' marks') answers answers r
  unfolding message_step message_refusal accepted with_message said_of answers_after
  record-leaves flags class parents pairs' marks' f =
      subst (Leaves (message_step 2 (recording flags class parents) (store_of l n)) l (with_tables pairs' marks') answers answers) (sym f.result) (go (eqb k 0) refl)
    where
      t : Stack
      t = stack_of l.pairs l.marks n.stack

      k : ℕ
      k = stack_refusal t flags class parents

      u : Stack
      u = stack_row t flags class parents

      go : (b : Bool) → eqb k 0 ≡ b
          → Leaves (cond b (stepped frames.Accepted (record { last = take n.last l.last; classes = u; problem = (store_of l n).problem; rank = 2 })) (stepped (frames.Refused k) (store_of l n))) l (with_tables pairs' marks') answers answers
          (cond b (framed Accepted (record_numbers n (stack_numbers u))) (framed (Refused k) n))
      go true x = record { said-is = refl; shows = layers-show u pairs' marks' f.pairs-are f.marks-are; answers-are = refl }
      go false x =
          let same = row-refused t flags class parents (eqb-false k 0 x) in
          let p : l.pairs ≡ pairs' = own-pairs l n h ∙ sym (f.pairs-are ∙ ap (λ (y : Stack). filled y.top.shown.keys l.pairs) same) in
          let m : l.marks ≡ marks' = sym (f.marks-are ∙ ap (λ (y : Stack). y.top.shown.marks) same) in
          record { said-is = refl; shows = subst (λ (y : List ℕ). Shows (store_of l n) l (with_tables pairs' y) n) m (subst (λ (y : List ℕ). Shows (store_of l n) l (with_tables y l.marks) n) p (own-shows l n h)); answers-are = refl }

  -- 0e: the slices stay, since a layer that was opened shows what lies below
  pub open-leaves : r ≡ taken (opened_tables n.stack).refusal n (record_numbers n (opened_tables n.stack).stack) → Leaves (message_step 14 opening (store_of l n)) l l answers answers r
  unfolding message_step message_refusal accepted with_message said_of answers_after
  open-leaves f =
      subst (Leaves (message_step 14 opening (store_of l n)) l l answers answers) (sym (f ∙ ap (λ (o : StackOutcome). taken o.refusal n (record_numbers n o.stack)) (opened-is l.pairs l.marks n.stack (own-layers l n h)))) (go (eqb k 0) refl)
    where
      t : Stack
      t = stack_of l.pairs l.marks n.stack

      k : ℕ
      k = open_refusal t

      u : Stack
      u = open_row t

      go : (b : Bool) → eqb k 0 ≡ b
          → Leaves (cond b (stepped frames.Accepted (record { last = take n.last l.last; classes = u; problem = (store_of l n).problem; rank = 2 })) (stepped (frames.Refused k) (store_of l n))) l l answers answers
          (cond b (framed Accepted (record_numbers n (stack_numbers u))) (framed (Refused k) n))
      go true x = record {
        said-is = refl;
        shows = layers-show u l.pairs l.marks (own-pairs l n h ∙ ap (λ (y : State). filled y.keys l.pairs) (sym (open-shows t))) (ap (λ (y : State). y.marks) (sym (open-shows t)));
        answers-are = refl;
      }
      go false x = refused-leaves l n h k answers

  -- 03, while there is no problem yet
  pub count-leaves : (c : ℕ) → n.rank < 3 → r ≡ taken (count_refusal c) n (count_numbers n c) → Leaves (message_step 3 (row (counted c)) (store_of l n)) l l answers answers r
  unfolding numbers_of no_problem
  count-leaves c early e =
      row-leaves (store_of l n) 3 (counted c) (count_refusal c) q l l n (count_numbers n c) answers r
      (ap (problem_row n.stack.tables.names (counted c)) none ∙ count-same n.stack.tables.names c) e
      (λ z. (
      let st = own-stack l n h in
      let a = many-last l n h in
      let v = many-variables l n h ∙ ap (λ (p : Problem). length p.variables) none in
      let b = many-bounds l n h ∙ ap (λ (p : Problem). length p.bounds) none in
      let f = many-flows l n h ∙ ap (λ (p : Problem). length p.flows) none in
      let u = many-uppers l n h ∙ ap (λ (p : Problem). length p.upper_flows) none in
      let s = many-reads l n h ∙ ap (λ (p : Problem). length p.reads) none in
      let w = many-writes l n h ∙ ap (λ (p : Problem). length p.writes) none in
      subst (λ (p : Problem). Shows (record { last = take n.last l.last; classes = (store_of l n).classes; problem = p; rank = 3 }) l l (count_numbers n c)) (sym (ap (λ (d : Bool). cond d (problem_of c [] [] [] [] [] []) no_problem) (zero-is z)))
      (record {
        numbers-are = λ i. record { stack = st i; last = a i; components = c; variables = v i; bounds = b i; flows = f i; uppers = u i; reads = s i; writes = w i; rank = 3 };
        last-is = own-last l n h;
        pairs-are = own-pairs l n h;
        marks-are = refl;
        variables-are = refl;
        bounds-are = refl;
        flows-are = refl;
        uppers-are = refl;
        reads-are = refl;
        writes-are = refl;
      })))
      (λ z. own-shows l n h)
    where
      none : (store_of l n).problem ≡ no_problem
      none = h.sound.fresh early

      q : Problem
      q = cond (eqb (count_refusal c) 0) (problem_of c [] [] [] [] [] []) no_problem

      zero-is : count_refusal c ≡ 0 → eqb (count_refusal c) 0 ≡ true
      zero-is z = ap (λ (k : ℕ). eqb k 0) z

  -- 0b to 0d: the view of the keys in front is that of the slice
  pub view-front : state_view (shown (store_of l n)) ≡ view_of l.pairs l.marks n.stack.tables
  view-front =
      ap (λ (k : List ℕ). record { names = n.stack.tables.names; object = n.stack.tables.object; recorded = (view_of l.pairs l.marks n.stack.tables).recorded; parents = parents_of n.stack.tables.names k; declared = (view_of l.pairs l.marks n.stack.tables).declared; interface = (view_of l.pairs l.marks n.stack.tables).interface; final = (view_of l.pairs l.marks n.stack.tables).final })
      (take-take n.stack.tables.pairs n.stack.tables.pairs l.pairs (omega arith))

  pub ask-shows : Shows (record { last = take n.last l.last; classes = (store_of l n).classes; problem = (store_of l n).problem; rank = 10 }) l l (ask_numbers n)
  unfolding numbers_of
  ask-shows =
      let o = own-shows l n h in
      record {
        numbers-are = ap ask_numbers o.numbers-are;
        last-is = o.last-is;
        pairs-are = o.pairs-are;
        marks-are = o.marks-are;
        variables-are = o.variables-are;
        bounds-are = o.bounds-are;
        flows-are = o.flows-are;
        uppers-are = o.uppers-are;
        reads-are = o.reads-are;
        writes-are = o.writes-are;
      }

  -- no question writes answers
  answer-stays : (q : Question) (a b : ℕ) (v : View) → answers ≡ answers_after (answer q a b v) answers
  unfolding answer answers_after
  answer-stays Relating a b v = refl
  answer-stays Supertyping a b v = refl
  answer-stays Casting a b v = refl

  pub ask-leaves : (k : ℕ) (q : Question) (a b : ℕ) → rank_of k ≡ 10 → r ≡ asked (ask_refusal n.stack.tables a b) (said_of (answer q a b (view_of l.pairs l.marks n.stack.tables))) n
      → Leaves (message_step k (asking q a b) (store_of l n)) l l answers answers r
  unfolding message_step message_refusal accepted with_message
  ask-leaves k q a b e f =
      subst (Leaves (message_step k (asking q a b) (store_of l n)) l l answers answers) (sym f)
      (subst (λ (j : ℕ). Leaves (step j) l l answers answers (asked x s n)) (sym e) (go (eqb x 0) refl))
    where
      x : ℕ
      x = ask_refusal n.stack.tables a b

      s : Said
      s = said_of (answer q a b (view_of l.pairs l.marks n.stack.tables))

      after : ℕ → Store
      after j = record { last = take n.last l.last; classes = (store_of l n).classes; problem = (store_of l n).problem; rank = j }

      step : ℕ → Stepped
      step j = cond (eqb x 0) (stepped (answer q a b (state_view (shown (store_of l n)))) (after j)) (stepped (frames.Refused x) (store_of l n))

      go : (d : Bool) → eqb x 0 ≡ d
          → Leaves (cond d (stepped (answer q a b (state_view (shown (store_of l n)))) (after 10)) (stepped (frames.Refused x) (store_of l n))) l l answers answers (cond d (framed s (ask_numbers n)) (framed (Refused x) n))
      go true y = record { said-is = ap (λ (v : View). said_of (answer q a b v)) (sym view-front); shows = ask-shows; answers-are = answer-stays q a b (state_view (shown (store_of l n))) }
      go false y = refused-leaves l n h x answers
