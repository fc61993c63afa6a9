-- SLICES = FRAMES, OF THE EXPORTED FUNCTIONS: where slices are long enough and columns of equal length, the lines of the rows and then 0a, 0b, 0c
-- or 0d say what bp_solve, bp_relation, bp_supertype or bp_cast returns, a refusal with its number or the answer. Of every result and content of
-- lent memory that a contract allows, as the check reads it.
use Rattle.std.specs.Prelude.{◌≡◌, refl, Bool, true, false, cond, List, [], ◌∷◌, ◌++◌, map, ◌↔◌, ℕ, ◌≤◌, eqb}
use Rattle.std.proofs.Common.{sym, ap, ◌∙◌, subst, ⊎_elim, arith}
use Rattle.std.proofs.lemmas.Bool.{false≢true, eqb-false}
use Rattle.std.proofs.Math.Option.{Option}
use borrow.Fn.Kinds.{Dens, res_t, ended_of}
use denote.Triple.Clauses.{AtExit}
use contract.Lifetimes.{Lfts}
use Rattle.ty.specs.Types.{ArgType}
use Rattle.checks.specs.Checks.{first_refusal}
use Rattle.view.specs.View.{number_of, supertype, cast}
use Rattle.rows.specs.Rows.{filled}
use Rattle.columns.specs.Given.{Given, even}
use Rattle.tableview.specs.TableRows.{rows_view, rows_world}
use Rattle.stackview.specs.LayerRows.{shown_in}
use Rattle.questions.specs.Questions.{refusal_of, answered}
use Rattle.solving.specs.declared.Counts.{Counts}
use Rattle.solving.proofs.Runs.{propagate-stops}
use Rattle.solving.specs.Solving.{links_of, table_of, Solution, Unsolved, Solved, solve}
use Rattle.problems.specs.Problems.{Columns, even_problem}
use Rattle.answering.specs.Answering.{answer_word}
use Rattle.solves.specs.SolveResult.{Lent, counts_of, answers_after}
use Rattle.solvedoor.specs.SolveDoor.{too_short, problem_over, solve_checks, solve_refusal, solve_in, SolvesIn}
use Rattle.solvelaws.specs.Gives.{solve-stopped}
use Rattle.solvelaws.specs.Refusals.{Short, short-exactly}
use Rattle.frames.specs.Frames.{empty_store, Question, solving, asking, Relating, Supertyping, Casting, answer, Said, Accepted, Answers, Related, Supertyped, Castable, Refused}
use Rattle.framelaws.specs.Messages.{table_messages, all_messages, Placed-in}
use Rattle.framelaws.specs.Written.{line_of, Fits}
use Rattle.framedoors.specs.Agree.{last_said, lines_for, AllFit, said_of, rows_refusal, rows_solution, query-doors, solve-doors}
use Rattle.bracepuffin.proofs.bp_solve.Reads as bp-solve-reads
use Rattle.bracepuffin.proofs.bp_solve.Kinds as bp-solve-kinds
use Rattle.bracepuffin.proofs.bp_relation.Reads as bp-relation-reads
use Rattle.bracepuffin.proofs.bp_relation.Kinds as bp-relation-kinds
use Rattle.bracepuffin.proofs.bp_supertype.Reads as bp-supertype-reads
use Rattle.bracepuffin.proofs.bp_supertype.Kinds as bp-supertype-kinds
use Rattle.bracepuffin.proofs.bp_cast.Reads as bp-cast-reads
use Rattle.bracepuffin.proofs.bp_cast.Kinds as bp-cast-kinds
use Rattle.bracepuffin.specs.declared.BpRelation.{BpRelation}
use Rattle.bracepuffin.specs.declared.BpAnswer.{BpAnswer}
use Rattle.bracepuffin.specs.Boundary.{relation_told, supertype_told, cast_told}
use Rattle.demands.specs.Asked.{columns_asked, first_asked, second_asked, room_asked}
use Rattle.demands.specs.Classes.{answer-is, answer-refusal}
use Rattle.demands.specs.Solves.{table_given, problem_given, lent_before, lent_after, counts_in, solves-in}

-- what the lines of the rows and then 0a say, first of refusals, else last
abbrev pub lines_said : Given → Columns → Said
lines_said g c = last_said Accepted (lines_for (all_messages g c) ++ (line_of solving ∷ [])) empty_store

-- columns of equal length and slices that are long enough
pub record Level (g : Given) (c : Columns) (l : Lent) : Type 0 where
  pub table : even g ≡ true
  pub problem : even_problem c ≡ true
  pub long : Short c l → ⊥

-- THE SOLVE THAT THE LINES ARE PROVED AGAINST IS THE ONE THAT BP_SOLVE PROMISES
pub solve-rows : (g : Given) (c : Columns) (l : Lent) → Level g c l → solve_in g c l ≡ rows_solution g c
unfolding solve_in solve_refusal solve_checks problem_over rows_solution rows_refusal first_refusal
solve-rows g c l w = rw (long (too_short c l) refl, w.table, w.problem)
  where
    long : (b : Bool) → too_short c l ≡ b → too_short c l ≡ false
    long true e = absurd (w.long ((short-exactly c l).0 e))
    long false e = e

-- no solve is refused with 0
unsolved-number : (g : Given) (c : Columns) (l : Lent) (k : ℕ) → solve_in g c l ≡ Unsolved k → k ≡ 0 → ⊥
unfolding solve_in
unsolved-number g c l k = go (eqb (solve_refusal g c l) 0) refl
  where
    go : (b : Bool) → eqb (solve_refusal g c l) 0 ≡ b → cond b (solve (rows_world (shown_in g)) (problem_over g c).problem) (Unsolved (solve_refusal g c l)) ≡ Unsolved k → k ≡ 0 → ⊥
    go true e h z =
        let p = (problem_over g c).problem in
        ⊎_elim (λ x. omega arith) (λ x. omega arith)
        (propagate-stops (rows_world (shown_in g)) (links_of p) p.components (table_of p) k (solve-stopped (rows_world (shown_in g)) p k h))
    go false e h z = eqb-false (solve_refusal g c l) 0 e (let q : solve_refusal g c l ≡ k = cc in q ∙ z)

-- refused with k exactly if the lines say so; else they say the answers, whose words then stand at the front of the lent slice
pub record SaysAlike (said : Said) (refusal : ℕ) (before after : List ℕ) : Type 0 where
  pub refused : (k : ℕ) → (k ≡ 0 → ⊥) → (refusal ≡ k) ↔ (said ≡ Refused k)
  pub answers : refusal ≡ 0 → (found : List (Option ArgType)) × (said ≡ Answers found) × (after ≡ filled (map answer_word found) before)

abbrev is_refusal : Said → Bool
is_refusal Accepted = false
is_refusal (Answers found) = false
is_refusal (Related n) = false
is_refusal (Supertyped c) = false
is_refusal (Castable b) = false
is_refusal (Refused k) = true

says-alike : (o : Solution) (n : ℕ) (before after : List ℕ) → ((k : ℕ) → o ≡ Unsolved k → k ≡ 0 → ⊥) → n ≡ (counts_of o).refusal → after ≡ answers_after o before → SaysAlike (said_of o) n before after
unfolding counts_of answers_after
says-alike (Unsolved k) n before after f e a = record {
  refused = λ m z. (λ h. ap Refused (sym e ∙ h), λ h. let q : k ≡ m = cc in e ∙ q);
  answers = λ z. absurd (f k refl (sym e ∙ z));
}
says-alike (Solved table turns found) n before after f e a = record {
  refused = λ m z. (λ h. absurd (z (sym h ∙ e)), λ h. absurd (false≢true (ap is_refusal h)));
  answers = λ z. (found, refl, a);
}

-- THE LINES SAY WHAT BP_SOLVE RETURNS; rows lie inside their slices and their numbers have the width of their fields
pub bp-solve-lines : (κs : Lfts 25) (a : Dens κs bp-solve-kinds.ps) (r : (res_t bp-solve-kinds.r κs).Denot) (x : AtExit (ended_of 25 bp-solve-kinds.ps bp-solve-kinds.r) κs)
    → bp-solve-reads.Post κs a r x → Level (table_given κs a) (problem_given κs a) (lent_before κs a) → Placed-in (table_given κs a) → AllFit (all_messages (table_given κs a) (problem_given κs a))
    → SaysAlike (lines_said (table_given κs a) (problem_given κs a)) r.refusal (lent_before κs a).answers (lent_after κs x).answers
bp-solve-lines κs a r x p w i f =
    told (table_given κs a) (problem_given κs a) (lent_before κs a) (lent_after κs x) (counts_in r) (solves-in κs a r x p) w i f
  where
    told : (g : Given) (c : Columns) (before after : Lent) (n : Counts) → SolvesIn g c before after n → Level g c before → Placed-in g → AllFit (all_messages g c)
        → SaysAlike (lines_said g c) n.refusal before.answers after.answers
    told g c before after n s w i f =
        subst (λ (y : Said). SaysAlike y n.refusal before.answers after.answers)
        (ap said_of (solve-rows g c before w) ∙ sym (solve-doors g c w.table i f))
        (says-alike (solve_in g c before) n.refusal before.answers after.answers (unsolved-number g c before) (ap (λ (m : Counts). m.refusal) s.counts) s.memory.answers)

-- ---- questions about classes

abbrev pub lines_asked : Given → Question → ℕ → ℕ → Said
lines_asked g q a b = last_said Accepted (lines_for (table_messages g) ++ (line_of (asking q a b) ∷ [])) empty_store

-- the answer, or the refusal that there is
abbrev pub unless : ℕ → Said → Said
unless refusal s = cond (eqb refusal 0) s (Refused refusal)

-- columns of equal length, rows inside their slices, numbers of the width of their fields, a work of 8,192 words
pub record Plain (g : Given) (q : Question) (a b room : ℕ) : Type 0 where
  pub table : even g ≡ true
  pub inside : Placed-in g
  pub rows-fit : AllFit (table_messages g)
  pub asked-fits : Fits (asking q a b)
  pub long : 8192 ≤ room

plain-said : (g : Given) (q : Question) (a b room : ℕ) → Plain g q a b room → lines_asked g q a b ≡ unless (refusal_of g false (a ∷ b ∷ []) room) (answer q a b (rows_view (shown_in g)))
plain-said g q a b room w = query-doors g q a b room w.table w.inside w.rows-fit w.asked-fits w.long

-- what is told beside a refusal does not matter
unless-told : (k v : ℕ) (f : ℕ → Said) → unless k (f v) ≡ unless (answered k v).refusal (f (answered k v).value)
unfolding answered
unless-told k v f = go (eqb k 0)
  where
    go : (b : Bool) → cond b (f v) (Refused k) ≡ cond b (f (cond b v 0)) (Refused k)
    go true = refl
    go false = refl

-- BP_RELATION: 0b says its number
pub bp-relation-lines : (κs : Lfts 9) (a : Dens κs bp-relation-kinds.ps) (r : (res_t bp-relation-kinds.r κs).Denot) (x : AtExit (ended_of 9 bp-relation-kinds.ps bp-relation-kinds.r) κs)
    → bp-relation-reads.Post κs a r x → Plain (columns_asked κs a) Relating (first_asked κs a) (second_asked κs a) (room_asked κs a)
    → lines_asked (columns_asked κs a) Relating (first_asked κs a) (second_asked κs a) ≡ unless r.refusal (Related r.relation)
unfolding relation_told answer
bp-relation-lines κs a r x p w =
    plain-said (columns_asked κs a) Relating (first_asked κs a) (second_asked κs a) (room_asked κs a) w ∙ unless-told _ _ Related
    ∙ ap (λ (q : BpRelation). unless q.refusal (Related q.relation)) (sym p.0)

-- BP_SUPERTYPE: 0c says the class of its number
pub bp-supertype-lines : (κs : Lfts 9) (a : Dens κs bp-supertype-kinds.ps) (r : (res_t bp-supertype-kinds.r κs).Denot) (x : AtExit (ended_of 9 bp-supertype-kinds.ps bp-supertype-kinds.r) κs)
    → bp-supertype-reads.Post κs a r x → Plain (columns_asked κs a) Supertyping (first_asked κs a) (second_asked κs a) (room_asked κs a)
    → (c : Option ℕ) × (lines_asked (columns_asked κs a) Supertyping (first_asked κs a) (second_asked κs a) ≡ unless r.refusal (Supertyped c)) × (r.refusal ≡ 0 → r.value ≡ number_of c)
unfolding supertype_told answer
bp-supertype-lines κs a r x p w =
    let c = supertype (rows_view (shown_in (columns_asked κs a))) (first_asked κs a) (second_asked κs a) in
    let k = refusal_of (columns_asked κs a) false (first_asked κs a ∷ second_asked κs a ∷ []) (room_asked κs a) in
    let is : r.refusal ≡ k = ap (λ (q : BpAnswer). q.refusal) p.0 ∙ answer-refusal k (number_of c) in (
      c,
      plain-said (columns_asked κs a) Supertyping (first_asked κs a) (second_asked κs a) (room_asked κs a) w ∙ ap (λ (n : ℕ). unless n (Supertyped c)) (sym is),
      λ z. ap (λ (q : BpAnswer). q.value) p.0 ∙ answer-is k (number_of c) (sym is ∙ z),
    )

-- BP_CAST: 0d says whether its number is 1
pub bp-cast-lines : (κs : Lfts 9) (a : Dens κs bp-cast-kinds.ps) (r : (res_t bp-cast-kinds.r κs).Denot) (x : AtExit (ended_of 9 bp-cast-kinds.ps bp-cast-kinds.r) κs)
    → bp-cast-reads.Post κs a r x → Plain (columns_asked κs a) Casting (first_asked κs a) (second_asked κs a) (room_asked κs a)
    → lines_asked (columns_asked κs a) Casting (first_asked κs a) (second_asked κs a) ≡ unless r.refusal (Castable (eqb r.value 1))
unfolding cast_told answer
bp-cast-lines κs a r x p w =
    plain-said (columns_asked κs a) Casting (first_asked κs a) (second_asked κs a) (room_asked κs a) w
    ∙ ap (λ (b : Bool). unless (refusal_of (columns_asked κs a) false (first_asked κs a ∷ second_asked κs a ∷ []) (room_asked κs a)) (Castable b)) (sym (one (cast (rows_view (shown_in (columns_asked κs a))) (first_asked κs a) (second_asked κs a))))
    ∙ unless-told _ _ (λ v. Castable (eqb v 1))
    ∙ ap (λ (q : BpAnswer). unless q.refusal (Castable (eqb q.value 1))) (sym p.0)
  where
    one : (b : Bool) → eqb (cond b 1 0) 1 ≡ b
    one true = refl
    one false = refl
