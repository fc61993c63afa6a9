-- WHICH NUMBERS A FRAME IS REFUSED WITH: 1 to 10, and 20 or 21 from a run; never one of the descriptors', 22 or 23.
use Rattle.std.specs.Prelude.{◌≡◌, refl, Bool, true, false, cond, not, ◌&&◌, ◌||◌, List, [], ◌∷◌, ◌⊎◌, ℕ, ◌+◌, ◌≤◌, eqb, leb, ltb, length}
use Rattle.std.proofs.Common.{sym, ap, subst, inl, inr, arith}
use Rattle.std.proofs.Math.Option.{Option}
use Rattle.std.proofs.lemmas.Bool.{eqb-false}
use Rattle.order.specs.Compare.{compare_lists, is_less}
use Rattle.ty.specs.Words.{legal_word, type_of}
use Rattle.utf8.specs.Utf8.{well_formed}
use Rattle.checks.specs.Checks as checks
use Rattle.names.specs.Names.{name_checks, check_name}
use Rattle.rows.specs.Rows.{name_row, good_flags, all_below, put_all, record_checks, record_refusal}
use Rattle.layers.specs.Stacks.{top_keys, open_refusal}
use Rattle.layers.specs.StackLaws.{refusal-top}
use Rattle.solving.specs.Ordered.{insert}
use Rattle.solving.specs.Solving.{bound, compare_bounds, compare_pairs, Problem, links_of, table_of, Finish, Stopped, Ended, propagate, Solution, Unsolved, Solved, solution, solve}
use Rattle.solving.proofs.Runs.{propagate-stops}
use Rattle.lattice.specs.Lattice.{World}
use Rattle.tableview.specs.Inner.{state_world}
use Rattle.problems.specs.Problems.{ProblemRow, counted, variable, bounded, flow, upper_flow, reading, writing, among, row_checks, row_refusal, problem}
use Rattle.hexline.specs.Hex.{hex_bytes, bad_hex}
use Rattle.frames.specs.Frames.{Store, shown, kind_of, body_of, bad_kind, good_length, rank_of, bad_order, Message, naming, recording, opening, row, solving, asking, Relating, Supertyping, Casting, message_of, message_refusal, frame_checks, Refused, stepped, solved_step, answer, accepted, ask_checks, frame_bytes, frame}

abbrev pub FrameNumber : ℕ → Type 0
FrameNumber k = ((1 ≤ k) × (k ≤ 10)) ⊎ ((k ≡ 20) ⊎ (k ≡ 21))

-- ---- a chain's numbers

one-check : (a : Bool) (j : ℕ) → j ≤ 10 → cond a j 0 ≤ 10
one-check true j h = h
one-check false j h = omega arith

next-check : (a : Bool) (j r : ℕ) → j ≤ 10 → r ≤ 10 → cond a j r ≤ 10
next-check true j r h k = h
next-check false j r h k = k

name-small : (last name : List ℕ) (count total : ℕ) → check_name last name count total ≤ 10
unfolding check_name name_checks checks.first_refusal
name-small last name count total =
    next-check (eqb (length name) 0 || ltb 255 (length name)) 3 _ (omega arith)
    (next-check (not (well_formed name)) 10 _ (omega arith)
    (next-check (ltb 0 count && not (is_less (compare_lists last name))) 5 _ (omega arith)
    (one-check (leb 1024 count || ltb 24576 (total + length name)) 8 (omega arith))))

record-small : (names : ℕ) (keys : List ℕ) (flags class : ℕ) (parents : List ℕ) → record_refusal names keys flags class parents ≤ 10
unfolding record_refusal record_checks checks.first_refusal
record-small names keys flags class parents =
    next-check (ltb 254 (length parents)) 3 _ (omega arith)
    (next-check (not (good_flags flags && (ltb class names && all_below names parents))) 6 _ (omega arith)
    (one-check (ltb 4096 (length (put_all class parents keys))) 8 (omega arith)))

row-small : (names : ℕ) (r : ProblemRow) (p : Problem) → row_refusal names r p ≤ 10
unfolding row_refusal row_checks checks.first_refusal
row-small names (counted n) p = one-check (ltb 512 n) 8 (omega arith)
row-small names (variable c) p = next-check (not (ltb c p.components)) 6 _ (omega arith) (one-check (leb 2048 (length p.variables)) 8 (omega arith))
row-small names (bounded c k w) p =
    next-check (not (ltb c p.components && leb k 4)) 6 _ (omega arith)
    (next-check (not (legal_word names w)) 7 _ (omega arith) (one-check (ltb 4096 (length (insert compare_bounds (bound c k (type_of w)) p.bounds))) 8 (omega arith)))
row-small names (flow a b) p = next-check (not (among p a b)) 6 _ (omega arith) (one-check (ltb 2048 (length (insert compare_pairs (a, b) p.flows))) 8 (omega arith))
row-small names (upper_flow a b) p = next-check (not (among p a b)) 6 _ (omega arith) (one-check (ltb 1024 (length (insert compare_pairs (a, b) p.upper_flows))) 8 (omega arith))
row-small names (reading a b) p = next-check (not (among p a b)) 6 _ (omega arith) (one-check (ltb 1024 (length (insert compare_pairs (a, b) p.reads) + length p.writes)) 8 (omega arith))
row-small names (writing a b) p = next-check (not (among p a b)) 6 _ (omega arith) (one-check (ltb 1024 (length p.reads + length (insert compare_pairs (a, b) p.writes))) 8 (omega arith))

message-small : (m : Message) (s : Store) → message_refusal m s ≤ 10
unfolding message_refusal name_row ask_checks checks.first_refusal open_refusal
message-small (naming n) s = name-small s.last n (shown s).tables.names (shown s).tables.bytes
message-small (recording f c ps) s =
    subst (λ (k : ℕ). k ≤ 10) (sym (refusal-top s.classes f c ps)) (record-small (shown s).tables.names (top_keys s.classes) f c ps)
message-small opening s = one-check (leb 3 s.classes.under) 8 (omega arith)
message-small (row r) s = row-small (shown s).tables.names r s.problem
message-small solving s = next-check (not (all_below (shown s).tables.names [])) 6 _ (omega arith) (one-check (eqb (shown s).tables.object 18446744073709551615) 9 (omega arith))
message-small (asking q a b) s = next-check (not (all_below (shown s).tables.names (a ∷ b ∷ []))) 6 _ (omega arith) (one-check (eqb (shown s).tables.object 18446744073709551615) 9 (omega arith))

checks-small : (f : Option (List ℕ)) (s : Store) → checks.first_refusal (frame_checks f s) ≤ 10
unfolding frame_checks checks.first_refusal
checks-small f s =
    next-check (bad_hex f) 1 _ (omega arith)
    (next-check (bad_kind (kind_of f)) 2 _ (omega arith)
    (next-check (not (good_length (kind_of f) (length (body_of f)))) 3 _ (omega arith)
    (next-check (bad_order (kind_of f) s.rank) 4 _ (omega arith)
    (one-check (not (eqb (message_refusal (message_of (kind_of f) (body_of f)) s) 0)) (message_refusal (message_of (kind_of f) (body_of f)) s) (message-small (message_of (kind_of f) (body_of f)) s)))))

-- ---- a run's

pub solve-number : (w : World) (p : Problem) (k : ℕ) → solve w p ≡ Unsolved k → (k ≡ 20) ⊎ (k ≡ 21)
unfolding solve
solve-number w p k h = go (propagate w (links_of p) p.components (table_of p)) refl h
  where
    go : (f : Finish) → propagate w (links_of p) p.components (table_of p) ≡ f → solution w p.variables f ≡ Unsolved k → (k ≡ 20) ⊎ (k ≡ 21)
    go (Stopped j) e q = let z : j ≡ k = cc in subst (λ (n : ℕ). (n ≡ 20) ⊎ (n ≡ 21)) z (propagate-stops w (links_of p) p.components (table_of p) j e)
    go (Ended t u n) e q = let z : ◌≡◌ {A = ℕ} 0 1 = cc in absurd (omega arith)

solved-number : (rank : ℕ) (s : Store) (o : Solution) (k : ℕ) → (solved_step rank s o).said ≡ Refused k → o ≡ Unsolved k
solved-number rank s (Unsolved j) k h = let z : j ≡ k = cc in ap Unsolved z
solved-number rank s (Solved t n as') k h = let z : ◌≡◌ {A = ℕ} 0 1 = cc in absurd (omega arith)

accepted-number : (rank : ℕ) (m : Message) (s : Store) (k : ℕ) → (accepted rank m s).said ≡ Refused k → (k ≡ 20) ⊎ (k ≡ 21)
unfolding accepted answer
accepted-number rank (naming n) s k h = let z : ◌≡◌ {A = ℕ} 0 1 = cc in absurd (omega arith)
accepted-number rank (recording f c ps) s k h = let z : ◌≡◌ {A = ℕ} 0 1 = cc in absurd (omega arith)
accepted-number rank opening s k h = let z : ◌≡◌ {A = ℕ} 0 1 = cc in absurd (omega arith)
accepted-number rank (row r) s k h = let z : ◌≡◌ {A = ℕ} 0 1 = cc in absurd (omega arith)
accepted-number rank solving s k h = solve-number (state_world (shown s)) s.problem k (solved-number rank s (solve (state_world (shown s)) s.problem) k h)
accepted-number rank (asking Relating a b) s k h = let z : ◌≡◌ {A = ℕ} 0 1 = cc in absurd (omega arith)
accepted-number rank (asking Supertyping a b) s k h = let z : ◌≡◌ {A = ℕ} 0 1 = cc in absurd (omega arith)
accepted-number rank (asking Casting a b) s k h = let z : ◌≡◌ {A = ℕ} 0 1 = cc in absurd (omega arith)

-- NO OTHER NUMBER COMES BACK
pub frame-number : (line : List ℕ) (s : Store) (k : ℕ) → (frame line s).said ≡ Refused k → FrameNumber k
unfolding frame frame_bytes
frame-number line s k h = go (eqb (checks.first_refusal (frame_checks f s)) 0) refl h
  where
    f : Option (List ℕ)
    f = hex_bytes line

    r : ℕ
    r = checks.first_refusal (frame_checks f s)

    go : (b : Bool) → eqb r 0 ≡ b → (cond b (accepted (rank_of (kind_of f)) (message_of (kind_of f) (body_of f)) s) (stepped (Refused r) s)).said ≡ Refused k → FrameNumber k
    go true e q = inr (accepted-number (rank_of (kind_of f)) (message_of (kind_of f) (body_of f)) s k q)
    go false e q =
        let z : r ≡ k = cc in
        let n = eqb-false r 0 e in
        let l = checks-small f s in
        inl (omega arith, omega arith)
