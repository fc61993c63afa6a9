-- WHAT CODE PRINTS IS WHAT THE DEFINITION PRINTS: all ones stands for nothing, and no class, no type of an answer is all ones.
use Rattle.std.specs.Prelude.{◌≡◌, Bool, true, false, cond, ℕ, suc, ◌+◌, ◌-◌, ◌^◌, ◌≤◌, ◌<◌, eqb, drop}
use Rattle.std.proofs.Math.Path.{refl, ap}
use Rattle.std.proofs.Common.{sym, ap₂, ◌∙◌, subst, arith, add-one, length-append, length-drop, length-take-le, eqb-true}
use Rattle.std.proofs.Math.Bool.{true≢false}
use mathlib.Core.List.{List, [], ◌∷◌, ◌++◌, map}
use Rattle.std.proofs.Math.Option.{Option, some, none}
use Rattle.std.proofs.Math.ListN.{length, take, length-map}
use Rattle.std.proofs.lemmas.Bool.{eqb-false}
use Rattle.checks.specs.Checks.{first_refusal}
use Rattle.ty.specs.Types.{ArgType}
use Rattle.ty.specs.Words.{legal_word, legal_base, word_of}
use Rattle.ty.specs.Round.{legal-of-type}
use Rattle.view.specs.declared.Relation.{Relation}
use Rattle.view.specs.declared.Relation.TheVariants.{Yes, No, Unknown}
use Rattle.view.specs.View.{number_of, relation, relation_number, supertype}
use Rattle.tables.specs.declared.Tables.{Tables}
use Rattle.tables.specs.Table.{view-good}
use Rattle.lattice.specs.Lattice.{World, Lawful}
use Rattle.lattice.specs.World.{present, with-lawful}
use Rattle.rows.specs.Rows.{all_below, filled}
use Rattle.rows.specs.Keys.{take-filled}
use Rattle.tableview.specs.Inner.{state_view, state_world}
use Rattle.solving.specs.Solving.{Table, state_of, resolve_state, answers, Solution, Unsolved, Solved, solve}
use Rattle.solving.proofs.Solve.{solve-ended, solve-legal, solve-answers}
use Rattle.answerlaws.specs.Legal.{answer-legal, state-legal}
use Rattle.problems.proofs.Held.{held-checked}
use Rattle.answering.specs.Answering.{answer_word}
use Rattle.lineout.specs.Printed.{decimal, word_text, number_text, printed, variable_lines, refusal_line, Puts}
use Rattle.lineout.specs.Laws.{word-none, word-some, number-none, number-some, puts-as}
use Rattle.frames.specs.Frames as frames
use Rattle.frames.specs.Frames.{Store, shown, Relating, Supertyping, Casting, Message, naming, recording, opening, row, solving, asking, kind_of, body_of, message_of, rank_of, ask_checks, message_refusal, frame_checks, stepped, answer, accepted, solved_step, frame_bytes, frame}
use Rattle.frames.specs.Typeline.{word_or_dash, print_answers, print}
use Rattle.hexline.specs.Hex.{hex_bytes}
use Rattle.framelaws.specs.Reached.{Sound, passed, by-if}
use Rattle.framestate.specs.declared.Numbers.{Numbers}
use Rattle.framestate.specs.declared.Framed.{Framed}
use Rattle.framestate.specs.declared.Said.{Said}
use Rattle.framestate.specs.declared.Said.TheVariants.{Accepted, Solved as Solved-said, Related, Supertyped, Castable, Refused}
use Rattle.framestate.specs.FrameState.{Slices, store_of, Leaves, said_of, answers_after}
use Rattle.frameleaves.specs.Own.{many-variables}
use Rattle.solveframe.specs.Parts.{slices_of}
use Rattle.stepping.specs.Stepping.{Stands}
use Rattle.askframes.specs.AskFrames.{ask-passed}
use Rattle.saying.specs.Saying.{said_text, Speaks}

-- ---- what can be printed so

abbrev Present : Option ArgType → Type 0
Present none = Unit {0}
Present (some t) = word_of t ≡ 2 ^ 64 - 1 → ⊥

abbrev AllPresent : List (Option ArgType) → Type 0
AllPresent [] = Unit {0}
AllPresent (a ∷ rest) = Present a × AllPresent rest

abbrev pub Printable : frames.Said → Type 0
Printable frames.Accepted = Unit {0}
Printable (frames.Answers given) = AllPresent given
Printable (frames.Related k) = k ≡ 2 ^ 64 - 1 → ⊥
Printable (frames.Supertyped none) = Unit {0}
Printable (frames.Supertyped (some c)) = c ≡ 2 ^ 64 - 1 → ⊥
Printable (frames.Castable b) = Unit {0}
Printable (frames.Refused k) = Unit {0}

-- the words of what is said
abbrev pub words_of : frames.Said → List ℕ
words_of frames.Accepted = []
words_of (frames.Answers given) = map answer_word given
words_of (frames.Related k) = []
words_of (frames.Supertyped c) = []
words_of (frames.Castable b) = []
words_of (frames.Refused k) = []

answer-text : (a : Option ArgType) → Present a → word_text (answer_word a) ≡ word_or_dash a
answer-text none h = word-none (2 ^ 64 - 1) refl
answer-text (some t) h = word-some (word_of t) h

lines-text : (i : ℕ) (given : List (Option ArgType)) → AllPresent given → variable_lines i (map answer_word given) ≡ print_answers i given
unfolding variable_lines print_answers
lines-text i [] h = refl
lines-text i (a ∷ rest) h =
    ap₂ (λ (x y : List ℕ). printed 86 (decimal i ++ (32 ∷ x)) ++ y) (answer-text a h.0) (ap (λ (j : ℕ). variable_lines j (map answer_word rest)) (add-one i) ∙ lines-text (suc i) rest h.1)

flag-small : (b : Bool) → cond b 1 0 ≡ 2 ^ 64 - 1 → ⊥
flag-small true e = omega arith
flag-small false e = omega arith

relation-small : (r : Relation) → relation_number r ≡ 2 ^ 64 - 1 → ⊥
unfolding relation_number
relation-small Yes e = omega arith
relation-small No e = omega arith
relation-small Unknown e = omega arith

-- WHAT IS PRINTED
pub text-is : (line : ℕ) (s : frames.Said) → Printable s → said_text line (said_of s) (words_of s) ≡ print line s
unfolding said_text said_of print number_of
text-is line frames.Accepted h = refl
text-is line (frames.Answers given) h = lines-text 0 given h
text-is line (frames.Related k) h = ap (printed 82) (number-some k h)
text-is line (frames.Supertyped none) h = ap (printed 76) (number-none (2 ^ 64 - 1) refl)
text-is line (frames.Supertyped (some c)) h = ap (printed 76) (number-some c h)
text-is line (frames.Castable b) h = ap (printed 67) (number-some (cond b 1 0) (flag-small b))
text-is line (frames.Refused k) h = refl

-- ---- and a state that lines lead to says nothing else

object-known : (t : Tables) → first_refusal (ask_checks t []) ≡ 0 → t.object ≡ 2 ^ 64 - 1 → ⊥
unfolding first_refusal ask_checks all_below
object-known t q = go (eqb t.object (2 ^ 64 - 1)) refl q
  where
    go : (b : Bool) → eqb t.object (2 ^ 64 - 1) ≡ b → ◌≡◌ {A = ℕ} (cond b 9 0) 0 → t.object ≡ 2 ^ 64 - 1 → ⊥
    go true e z = absurd (omega arith)
    go false e z = eqb-false t.object (2 ^ 64 - 1) e

module _ (s : Store) (h : Sound s) where
  abbrev t : Tables
  t = (shown s).tables

  abbrev w : World
  w = state_world (shown s)

  lawful : (t.object ≡ 2 ^ 64 - 1 → ⊥) → Lawful w
  lawful o = with-lawful (state_view (shown s)) (present t.cloneable) (present t.serializable) (view-good (shown s).keys (shown s).marks t h.good.few (h.known o))

  -- a legal word is not all ones
  legal-present : (names x : ℕ) → legal_word names x ≡ true → x ≡ 2 ^ 64 - 1 → ⊥
  unfolding legal_word legal_base
  legal-present names x e z = true≢false (sym (ap (legal_word names) (sym z) ∙ e))

  answers-present : (tab : Table) (n : ℕ) (given : List (Option ArgType)) → solve w s.problem ≡ Solved tab n given → Lawful w → (vs : List ℕ) → AllPresent (answers w tab vs)
  unfolding answers
  answers-present tab n given e good [] = tt
  answers-present tab n given e good (c ∷ vs) = (go (resolve_state w (state_of tab c)) refl, answers-present tab n given e good vs)
    where
      go : (o : Option ArgType) → resolve_state w (state_of tab c) ≡ o → Present o
      go none q = tt
      go (some v) q =
          legal-present t.names (word_of v)
          (legal-of-type t.names v (let f = h.good.few in omega arith)
          (answer-legal w good (state_of tab c) (state-legal w good s.problem.components tab (solve-legal w s.problem tab n given e good (held-checked t.names s.problem h.held)) c) v q))

  solved-printable : (rank : ℕ) → Lawful w → (o : Solution) → solve w s.problem ≡ o → Printable (solved_step rank s o).said
  solved-printable rank good (Unsolved k) e = tt
  solved-printable rank good (Solved tab n given) e =
      subst AllPresent (sym (solve-ended w s.problem tab n given e).2) (answers-present tab n given e good s.problem.variables)

  -- a supertype is a class
  supertype-printable : (a b : ℕ) → Lawful w → a < t.names → b < t.names → Printable (frames.Supertyped (supertype (state_view (shown s)) a b))
  supertype-printable a b good x y = go (supertype (state_view (shown s)) a b) refl
    where
      go : (o : Option ℕ) → supertype (state_view (shown s)) a b ≡ o → Printable (frames.Supertyped o)
      go none e = tt
      go (some c) e = λ z. (let k = (good.above a b c x y e).0 in let f = h.good.few in omega arith)

  accepted-printable : (rank : ℕ) (m : Message) → message_refusal m s ≡ 0 → Printable (accepted rank m s).said
  unfolding accepted message_refusal answer
  accepted-printable rank (naming n) e = tt
  accepted-printable rank (recording f c ps) e = tt
  accepted-printable rank opening e = tt
  accepted-printable rank (row r) e = tt
  accepted-printable rank solving e = solved-printable rank (lawful (object-there e)) (solve w s.problem) refl
    where
      object-there : first_refusal (ask_checks t []) ≡ 0 → t.object ≡ 2 ^ 64 - 1 → ⊥
      object-there q = object-known t q
  accepted-printable rank (asking Relating a b) e = relation-small (relation (state_view (shown s)) a b)
  accepted-printable rank (asking Supertyping a b) e = let p = ask-passed t a b e in supertype-printable a b (lawful p.2) p.0 p.1
  accepted-printable rank (asking Casting a b) e = tt

  -- WHATEVER THE LINE IS
  pub frame-printable : (line : List ℕ) → Printable (frame line s).said
  unfolding frame frame_bytes
  frame-printable line =
      by-if (λ u. Printable u.said) (eqb (first_refusal (frame_checks f s)) 0) (accepted (rank_of (kind_of f)) (message_of (kind_of f) (body_of f)) s) (stepped (frames.Refused (first_refusal (frame_checks f s))) s)
      (λ e. accepted-printable (rank_of (kind_of f)) (message_of (kind_of f) (body_of f)) (passed f s (eqb-true (first_refusal (frame_checks f s)) 0 e)).taken)
      (λ e. tt)
    where
      f : Option (List ℕ)
      f = hex_bytes line

-- ---- as the code meets it

-- a solve answers as many variables as there are
abbrev Counted : ℕ → frames.Said → Type 0
Counted v frames.Accepted = Unit {0}
Counted v (frames.Answers given) = length given ≡ v
Counted v (frames.Related k) = Unit {0}
Counted v (frames.Supertyped c) = Unit {0}
Counted v (frames.Castable b) = Unit {0}
Counted v (frames.Refused k) = Unit {0}

-- the words that are lent to the printer: the front of the answers
module _ (k v : ℕ) (answers answers' : List ℕ) where
  pub front-text : (u : frames.Said) → Printable u → Counted v u → answers' ≡ answers_after u answers → said_text k (said_of u) (take (v - 0) (drop 0 answers')) ≡ print k u
  unfolding said_text said_of answers_after
  front-text frames.Accepted h c e = text-is k frames.Accepted h
  front-text (frames.Answers given) h c e =
      ap (variable_lines 0)
      (ap₂ (λ (m : ℕ) (x : List ℕ). take m x) (let q : v - 0 ≡ length (map answer_word given) = (let n = length-map given answer_word in omega arith) in q) e
      ∙ take-filled (map answer_word given) answers (length (map answer_word given)) refl)
      ∙ text-is k (frames.Answers given) h
  front-text (frames.Related j) h c e = text-is k (frames.Related j) h
  front-text (frames.Supertyped o) h c e = text-is k (frames.Supertyped o) h
  front-text (frames.Castable b) h c e = text-is k (frames.Castable b) h
  front-text (frames.Refused j) h c e = text-is k (frames.Refused j) h

module _ (s : Store) where
  solved-counted : (rank : ℕ) (o : Solution) → solve (state_world (shown s)) s.problem ≡ o → Counted (length s.problem.variables) (solved_step rank s o).said
  solved-counted rank (Unsolved j) e = tt
  solved-counted rank (Solved tab n given) e = (solve-answers (state_world (shown s)) s.problem tab n given e).0

  accepted-counted : (rank : ℕ) (m : Message) → Counted (length s.problem.variables) (accepted rank m s).said
  unfolding accepted answer
  accepted-counted rank (naming n) = tt
  accepted-counted rank (recording f c ps) = tt
  accepted-counted rank opening = tt
  accepted-counted rank (row r) = tt
  accepted-counted rank solving = solved-counted rank (solve (state_world (shown s)) s.problem) refl
  accepted-counted rank (asking Relating a b) = tt
  accepted-counted rank (asking Supertyping a b) = tt
  accepted-counted rank (asking Casting a b) = tt

  pub frame-counted : (line : List ℕ) → Counted (length s.problem.variables) (frame line s).said
  unfolding frame frame_bytes
  frame-counted line =
      by-if (λ u. Counted (length s.problem.variables) u.said) (eqb (first_refusal (frame_checks f s)) 0) (accepted (rank_of (kind_of f)) (message_of (kind_of f) (body_of f)) s) (stepped (frames.Refused (first_refusal (frame_checks f s))) s)
      (λ e. accepted-counted (rank_of (kind_of f)) (message_of (kind_of f) (body_of f)))
      (λ e. tt)
    where
      f : Option (List ℕ)
      f = hex_bytes line

-- THE LINE IS ANSWERED: by what its frame left, and what was printed of it
module _ (line last pairs marks rows last' pairs' marks' rows' answers answers' : List ℕ) (n : Numbers) (h : Stands last pairs marks rows n) (f : Framed) where
  abbrev l : Slices
  l = slices_of last pairs marks rows

  pub speaks : (number filled : ℕ) (out out' : List ℕ) (m : ℕ)
      → Leaves (frame line (store_of (slices_of last pairs marks rows) n)) (slices_of last pairs marks rows) (slices_of last' pairs' marks' rows') answers answers' f
      → Puts (said_text number f.said (take (n.variables - 0) (drop 0 answers'))) filled out out' m
      → Speaks line number (store_of (slices_of last pairs marks rows) n) (slices_of last pairs marks rows) (slices_of last' pairs' marks' rows') answers answers' filled out out' (record { numbers = f.numbers; filled = m })
  speaks number filled out out' m w p = record {
    shows = w.shows;
    answers-are = w.answers-are;
    prints =
        puts-as (said_text number f.said (take (n.variables - 0) (drop 0 answers'))) (print number (frame line (store_of l n)).said) filled m out out'
        (ap (λ (x : Said). said_text number x (take (n.variables - 0) (drop 0 answers'))) w.said-is
        ∙ front-text number n.variables answers answers' (frame line (store_of l n)).said (frame-printable (store_of l n) h.ready.sound line)
        (subst (λ (v : ℕ). Counted v (frame line (store_of l n)).said) (sym (many-variables l n h.ready)) (frame-counted (store_of l n) line)) w.answers-are) p;
  }

-- what waits is in the buffer
pub inside : (text : List ℕ) (filled : ℕ) (out out' : List ℕ) (r : ℕ) → Puts text filled out out' r → filled ≤ length out → length out' ≡ length out → r ≤ length out'
inside text filled out out' r p h e =
    let a = ap length p.out-is in
    let b = length-append (take filled out) (text ++ drop (filled + length text) out) in
    let c = length-append text (drop (filled + length text) out) in
    let d = length-take-le filled out h in
    let f = length-drop (filled + length text) out in
    let r-is = p.filled-is in
    omega arith

-- by what the frame says
module _ (line : ℕ) (said : Said) (words : List ℕ) where
  pub text-accepted : said ≡ Accepted → [] ≡ said_text line said words
  unfolding said_text
  text-accepted e = ap (λ (x : Said). said_text line x words) (sym e)

  pub text-solved : said ≡ Solved-said → variable_lines 0 words ≡ said_text line said words
  unfolding said_text
  text-solved e = ap (λ (x : Said). said_text line x words) (sym e)

  pub text-related : (k : ℕ) → said ≡ Related k → printed 82 (number_text k) ≡ said_text line said words
  unfolding said_text
  text-related k e = ap (λ (x : Said). said_text line x words) (sym e)

  pub text-supertyped : (k : ℕ) → said ≡ Supertyped k → printed 76 (number_text k) ≡ said_text line said words
  unfolding said_text
  text-supertyped k e = ap (λ (x : Said). said_text line x words) (sym e)

  pub text-castable : (k : ℕ) → said ≡ Castable k → printed 67 (number_text k) ≡ said_text line said words
  unfolding said_text
  text-castable k e = ap (λ (x : Said). said_text line x words) (sym e)

  pub text-refused : (k : ℕ) → said ≡ Refused k → refusal_line line k ≡ said_text line said words
  unfolding said_text
  text-refused k e = ap (λ (x : Said). said_text line x words) (sym e)

-- the answers that are lent to the printer are in their slice
pub answers-end : (v : ℕ) (answers answers' : List ℕ) → v ≤ 2048 → length answers' ≡ length answers → length answers ≡ 2048 → v ≤ length answers'
answers-end v answers answers' a b c = omega arith

pub answers-few : (v : ℕ) (answers answers' : List ℕ) → v ≤ 2048 → length answers' ≡ length answers → length answers ≡ 2048 → length (take (v - 0) (drop 0 answers')) ≤ 2048
answers-few v answers answers' a b c = let d = length-drop 0 answers' in let e = length-take-le (v - 0) (drop 0 answers') (omega arith) in omega arith

pub filled-in : (filled : ℕ) (out : List ℕ) → filled + 81920 ≤ length out → filled ≤ length out
filled-in filled out h = omega arith
