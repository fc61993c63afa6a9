-- THE FRAME OF EACH KIND IS THE STEP OF ITS MESSAGE, over the state in four slices.
use Rattle.std.specs.Prelude.{◌≡◌, cond, List, ℕ, ◌-◌, length, take, drop, get_or}
use Rattle.std.proofs.Math.Path.{refl}
use Rattle.std.proofs.Common.{sym, subst, arith}
use Rattle.std.proofs.Math.ListN.{length-drop}
use borrow.Rule.Slice.PartMut.{put_mid}
use Rattle.view.specs.View.{relation, relation_number, supertype, number_of, cast}
use Rattle.tables.specs.Table.{view_of}
use Rattle.lattice.specs.World.{world_of}
use Rattle.rows.specs.Rows.{name_row}
use Rattle.layers.specs.Stacks.{stack_of, stack_ran, opened_tables}
use Rattle.solving.specs.Solving.{solve}
use Rattle.problemrows.specs.ProblemRows.{count_refusal, variable_row, bound_row, pair_row}
use Rattle.hexline.specs.Hex.{number_at, numbers_in, bytes_number}
use Rattle.frames.specs.Frames.{Relating, Supertyping, Casting, message_of, answer}
use Rattle.framelaws.specs.Reached.{BytesIn, word-fits, drop-bytes}
use Rattle.framestate.specs.declared.Numbers.{Numbers}
use Rattle.framestate.specs.declared.Framed.{Framed}
use Rattle.framestate.specs.declared.Said.TheVariants.{Related, Supertyped, Castable}
use Rattle.framestate.specs.FrameState.{Slices, store_of, Leaves, said_of, taken, record_numbers, count_numbers, variable_numbers, bound_numbers, flow_numbers, upper_numbers, read_numbers, write_numbers}
use Rattle.rowframes.specs.RowFrames.{NameFrames, RecordFrames, RowFrames}
use Rattle.askframes.specs.AskFrames.{ask_refusal, asked}
use Rattle.frameleaves.specs.Kinds.{variable-leaves, bound-leaves, flow-leaves, upper-leaves, read-leaves, write-leaves}
use Rattle.frameleaves.specs.Classes.{name-leaves, record-leaves, open-leaves, count-leaves, ask-leaves}
use Rattle.solveframe.specs.Parts.{part, problem_in, slices_of}
use Rattle.solveframe.specs.SolveFrame.{SolveFrames}
use Rattle.solveframe.specs.Leaving.{solve-leaves}
use Rattle.stepping.specs.Stepping.{Stands, step_of, Rests}
use Rattle.stepping.specs.PutBack.{put-variables, put-bounds, put-flows, put-uppers, put-reads, put-writes}
use Rattle.stepping.specs.Asks.{Passed, count-early}

module _ (kind : ℕ) (body last pairs marks rows : List ℕ) (n : Numbers) (s : Stands last pairs marks rows n) (r : Framed) where
  abbrev l : Slices
  l = slices_of last pairs marks rows

  -- of the kind that was tested for
  at-kind : (k : ℕ) (after : Slices) (answers answers' : List ℕ) → kind ≡ k → Leaves (step_of k body (store_of l n)) l after answers answers' r → Leaves (step_of kind body (store_of l n)) l after answers answers' r
  at-kind k after answers answers' e w = subst (λ (j : ℕ). Leaves (step_of j body (store_of l n)) l after answers answers' r) (sym e) w

  -- with a part put back
  at-part : (k : ℕ) (after after' : Slices) (answers : List ℕ) → kind ≡ k → after' ≡ after → Leaves (step_of k body (store_of l n)) l after answers answers r → Leaves (step_of kind body (store_of l n)) l after' answers answers r
  at-part k after after' answers e p w = at-kind k after' answers answers e (subst (λ (z : Slices). Leaves (step_of k body (store_of l n)) l z answers answers r) (sym p) w)

  -- 01
  pub name-step : (last' : List ℕ) → kind ≡ 1 → NameFrames (name_row (take n.last last) body n.stack.tables) body last last' n r
      → Rests (step_of kind body (store_of (slices_of last pairs marks rows) n)) (slices_of last pairs marks rows) (slices_of last' pairs marks rows) r
  unfolding message_of
  name-step last' e f answers = at-kind 1 (slices_of last' pairs marks rows) answers answers e (name-leaves l n s.ready answers r body last' f)

  -- 02
  pub record-step : (pairs' marks' : List ℕ) → kind ≡ 2 → RecordFrames (stack_ran (stack_of pairs marks n.stack) (get_or body 0 0) (number_at 1 body) (numbers_in (drop 3 body))) pairs pairs' marks' n r
      → Rests (step_of kind body (store_of (slices_of last pairs marks rows) n)) (slices_of last pairs marks rows) (slices_of last pairs' marks' rows) r
  unfolding message_of
  record-step pairs' marks' e f answers = at-kind 2 (slices_of last pairs' marks' rows) answers answers e (record-leaves l n s.ready answers r (get_or body 0 0) (number_at 1 body) (numbers_in (drop 3 body)) pairs' marks' f)

  -- 0e
  pub open-step : kind ≡ 14 → r ≡ taken (opened_tables n.stack).refusal n (record_numbers n (opened_tables n.stack).stack)
      → Rests (step_of kind body (store_of (slices_of last pairs marks rows) n)) (slices_of last pairs marks rows) (slices_of last pairs marks rows) r
  unfolding message_of
  open-step e f answers = at-kind 14 l answers answers e (open-leaves l n s.ready answers r f)

  -- 03
  pub count-step : kind ≡ 3 → Passed kind (length body) n.rank → r ≡ taken (count_refusal (number_at 0 body)) n (count_numbers n (number_at 0 body))
      → Rests (step_of kind body (store_of (slices_of last pairs marks rows) n)) (slices_of last pairs marks rows) (slices_of last pairs marks rows) r
  unfolding message_of
  count-step e p f answers = at-kind 3 l answers answers e (count-leaves l n s.ready answers r (number_at 0 body) (count-early n.rank (subst (λ (j : ℕ). Passed j (length body) n.rank) e p).order) f)

  -- 04
  pub variable-step : (new : List ℕ) → kind ≡ 4 → RowFrames (variable_row n.components (number_at 0 body) (take n.variables (part 0 2048 rows))) (part 0 2048 rows) new n (variable_numbers n) r
      → length new ≡ length (part 0 2048 rows)
      → Rests (step_of kind body (store_of (slices_of last pairs marks rows) n)) (slices_of last pairs marks rows) (slices_of last pairs marks (put_mid 0 2048 rows new)) r
  unfolding message_of
  variable-step new e f same answers = at-part 4 _ _ answers e (put-variables last pairs marks rows new s.all-rows same) (variable-leaves l n s.ready answers r (number_at 0 body) new f)

  -- 05
  pub bound-step : (new : List ℕ) → kind ≡ 5 → length body ≡ 11 → BytesIn body
      → RowFrames (bound_row n.stack.tables.names n.components (number_at 0 body) (get_or body 2 0) (bytes_number 0 (drop 3 body)) (take n.bounds (part 2048 4096 rows))) (part 2048 4096 rows) new n (bound_numbers n) r
      → length new ≡ length (part 2048 4096 rows)
      → Rests (step_of kind body (store_of (slices_of last pairs marks rows) n)) (slices_of last pairs marks rows) (slices_of last pairs marks (put_mid 2048 4096 rows new)) r
  unfolding message_of
  bound-step new e size small f same answers =
      at-part 5 _ _ answers e (put-bounds last pairs marks rows new s.all-rows same)
      (bound-leaves l n s.ready answers r (number_at 0 body) (get_or body 2 0) (bytes_number 0 (drop 3 body))
      (word-fits (drop 3 body) (let d = length-drop 3 body in omega arith) (drop-bytes 3 body small)) new f)

  -- 06
  pub flow-step : (new : List ℕ) → kind ≡ 6 → RowFrames (pair_row n.components 2048 (number_at 0 body) (number_at 2 body) (take n.flows (part 6144 2048 rows))) (part 6144 2048 rows) new n (flow_numbers n) r
      → length new ≡ length (part 6144 2048 rows)
      → Rests (step_of kind body (store_of (slices_of last pairs marks rows) n)) (slices_of last pairs marks rows) (slices_of last pairs marks (put_mid 6144 2048 rows new)) r
  unfolding message_of
  flow-step new e f same answers = at-part 6 _ _ answers e (put-flows last pairs marks rows new s.all-rows same) (flow-leaves l n s.ready answers r (number_at 0 body) (number_at 2 body) new f)

  -- 07
  pub upper-step : (new : List ℕ) → kind ≡ 7 → RowFrames (pair_row n.components 1024 (number_at 0 body) (number_at 2 body) (take n.uppers (part 8192 1024 rows))) (part 8192 1024 rows) new n (upper_numbers n) r
      → length new ≡ length (part 8192 1024 rows)
      → Rests (step_of kind body (store_of (slices_of last pairs marks rows) n)) (slices_of last pairs marks rows) (slices_of last pairs marks (put_mid 8192 1024 rows new)) r
  unfolding message_of
  upper-step new e f same answers = at-part 7 _ _ answers e (put-uppers last pairs marks rows new s.all-rows same) (upper-leaves l n s.ready answers r (number_at 0 body) (number_at 2 body) new f)

  -- 08
  pub read-step : (new : List ℕ) → kind ≡ 8 → RowFrames (pair_row n.components (1024 - n.writes) (number_at 0 body) (number_at 2 body) (take n.reads (part 9216 1024 rows))) (part 9216 1024 rows) new n (read_numbers n) r
      → length new ≡ length (part 9216 1024 rows)
      → Rests (step_of kind body (store_of (slices_of last pairs marks rows) n)) (slices_of last pairs marks rows) (slices_of last pairs marks (put_mid 9216 1024 rows new)) r
  unfolding message_of
  read-step new e f same answers = at-part 8 _ _ answers e (put-reads last pairs marks rows new s.all-rows same) (read-leaves l n s.ready answers r (number_at 0 body) (number_at 2 body) new f)

  -- 09
  pub write-step : (new : List ℕ) → kind ≡ 9 → RowFrames (pair_row n.components (1024 - n.reads) (number_at 0 body) (number_at 2 body) (take n.writes (part 10240 1024 rows))) (part 10240 1024 rows) new n (write_numbers n) r
      → length new ≡ length (part 10240 1024 rows)
      → Rests (step_of kind body (store_of (slices_of last pairs marks rows) n)) (slices_of last pairs marks rows) (slices_of last pairs marks (put_mid 10240 1024 rows new)) r
  unfolding message_of
  write-step new e f same answers = at-part 9 _ _ answers e (put-writes last pairs marks rows new s.all-rows same) (write-leaves l n s.ready answers r (number_at 0 body) (number_at 2 body) new f)

  -- 0a
  pub solve-step : (answers answers' : List ℕ) → kind ≡ 10 → SolveFrames (solve (world_of pairs marks n.stack.tables) (problem_in rows n)) answers answers' n r
      → Leaves (step_of kind body (store_of (slices_of last pairs marks rows) n)) (slices_of last pairs marks rows) (slices_of last pairs marks rows) answers answers' r
  unfolding message_of
  solve-step answers answers' e f = at-kind 10 l answers answers' e (solve-leaves l n s.ready answers answers' r f)

  -- 0b
  pub relation-step : kind ≡ 11
      → r ≡ asked (ask_refusal n.stack.tables (number_at 0 body) (number_at 2 body)) (Related (relation_number (relation (view_of pairs marks n.stack.tables) (number_at 0 body) (number_at 2 body)))) n
      → Rests (step_of kind body (store_of (slices_of last pairs marks rows) n)) (slices_of last pairs marks rows) (slices_of last pairs marks rows) r
  unfolding message_of said_of answer
  relation-step e f answers = at-kind 11 l answers answers e (ask-leaves l n s.ready answers r 11 Relating (number_at 0 body) (number_at 2 body) refl f)

  -- 0c
  pub supertype-step : kind ≡ 12
      → r ≡ asked (ask_refusal n.stack.tables (number_at 0 body) (number_at 2 body)) (Supertyped (number_of (supertype (view_of pairs marks n.stack.tables) (number_at 0 body) (number_at 2 body)))) n
      → Rests (step_of kind body (store_of (slices_of last pairs marks rows) n)) (slices_of last pairs marks rows) (slices_of last pairs marks rows) r
  unfolding message_of said_of answer
  supertype-step e f answers = at-kind 12 l answers answers e (ask-leaves l n s.ready answers r 12 Supertyping (number_at 0 body) (number_at 2 body) refl f)

  -- 0d
  pub cast-step : kind ≡ 13
      → r ≡ asked (ask_refusal n.stack.tables (number_at 0 body) (number_at 2 body)) (Castable (cond (cast (view_of pairs marks n.stack.tables) (number_at 0 body) (number_at 2 body)) 1 0)) n
      → Rests (step_of kind body (store_of (slices_of last pairs marks rows) n)) (slices_of last pairs marks rows) (slices_of last pairs marks rows) r
  unfolding message_of said_of answer
  cast-step e f answers = at-kind 13 l answers answers e (ask-leaves l n s.ready answers r 13 Casting (number_at 0 body) (number_at 2 body) refl f)
