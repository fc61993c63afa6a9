-- A REFUSED FRAME CHANGES NOTHING; FROM THE EMPTY STATE EVERY STATE THAT LINES LEAD TO IS SOUND, whatever the lines are.
use Rattle.std.specs.Prelude.{◌≡◌, Bool, true, cond, not, ◌&&◌, ◌||◌, List, [], ◌∷◌, ℕ, zero, suc, ◌+◌, ◌-◌, ◌^◌, ◌≤◌, ◌<◌, eqb, leb, ltb, length, drop, get_or}
use Rattle.std.proofs.Math.Path.{refl, ap, subst}
use Rattle.std.proofs.Common.{sym, ap₂, ◌∙◌, true≢false, arith}
use Rattle.std.proofs.Math.Bool.{false}
use Rattle.std.proofs.Math.Option.{Option, some, none}
use Rattle.std.proofs.Math.ListN.{length-drop}
use borrow.Author.Tests.{eq-eqb, ltb-true, ltb-false, leb-true, eqb-true, eqb-false}
use Rattle.order.specs.Compare.{compare_lists, is_equal}
use Rattle.checks.specs.Checks as checks
use Rattle.names.specs.Names.{check_name}
use Rattle.tables.specs.declared.Tables.{Tables}
use Rattle.rows.specs.Rows.{object_name, no_tables, noted, with_name, name_row, State, record_refusal, with_record, record_row}
use Rattle.rows.specs.Laws.{name-room, name-refused, name-taken, good-start}
use Rattle.columns.specs.Given.{no_marks}
use Rattle.layers.specs.Layers.{layers_room, layer_refusal, with_layer_record, layer_row, opened}
use Rattle.layers.specs.Stacks.{Stack, with_names, top_keys, stack_row, open_row, Upright}
use Rattle.layers.specs.StackLaws.{upright-ground, upright-row, upright-open}
use Rattle.solving.specs.Solving.{Problem, Solution, Unsolved, Solved, solve}
use Rattle.tableview.specs.Inner.{state_world}
use Rattle.problems.specs.Problems.{ProblemRow, counted, variable, bounded, flow, upper_flow, reading, writing, no_problem, problem_row}
use Rattle.problems.specs.Held.{Held, Later}
use Rattle.problems.proofs.Held.{held-none, held-row, held-counted}
use Rattle.hexline.specs.Hex.{digit, byte_then, hex_bytes, bad_hex, number_at, numbers_in, bytes_number}
use Rattle.frames.specs.Frames.{Store, empty_store, shown, kind_of, body_of, bad_kind, good_length, rank_of, bad_order, Question, Message, naming, recording, opening, row, solving, asking, Relating, Supertyping, Casting, message_of, message_refusal, frame_checks, Refused, stepped, with_message, solved_step, answer, accepted, frame_bytes, frame}

-- ---- a refused frame

solved-refused : (rank : ℕ) (s : Store) (o : Solution) (k : ℕ) → (solved_step rank s o).said ≡ Refused k → (solved_step rank s o).store ≡ s
solved-refused rank s (Unsolved j) k h = refl
solved-refused rank s (Solved t n as') k h = let z : ◌≡◌ {A = ℕ} 0 1 = cc in absurd (omega arith)

accepted-refused : (rank : ℕ) (m : Message) (s : Store) (k : ℕ) → (accepted rank m s).said ≡ Refused k → (accepted rank m s).store ≡ s
unfolding accepted answer
accepted-refused rank (naming n) s k h = let z : ◌≡◌ {A = ℕ} 0 1 = cc in absurd (omega arith)
accepted-refused rank (recording f c ps) s k h = let z : ◌≡◌ {A = ℕ} 0 1 = cc in absurd (omega arith)
accepted-refused rank opening s k h = let z : ◌≡◌ {A = ℕ} 0 1 = cc in absurd (omega arith)
accepted-refused rank (row r) s k h = let z : ◌≡◌ {A = ℕ} 0 1 = cc in absurd (omega arith)
accepted-refused rank solving s k h = solved-refused rank s (solve (state_world (shown s)) s.problem) k h
accepted-refused rank (asking Relating a b) s k h = let z : ◌≡◌ {A = ℕ} 0 1 = cc in absurd (omega arith)
accepted-refused rank (asking Supertyping a b) s k h = let z : ◌≡◌ {A = ℕ} 0 1 = cc in absurd (omega arith)
accepted-refused rank (asking Casting a b) s k h = let z : ◌≡◌ {A = ℕ} 0 1 = cc in absurd (omega arith)

-- A REFUSED FRAME LEAVES THE STATE
pub frame-refused : (line : List ℕ) (s : Store) (k : ℕ) → (frame line s).said ≡ Refused k → (frame line s).store ≡ s
unfolding frame frame_bytes
frame-refused line s k h = go (eqb (checks.first_refusal (frame_checks (hex_bytes line) s)) 0) h
  where
    f : Option (List ℕ)
    f = hex_bytes line

    go : (b : Bool) → (cond b (accepted (rank_of (kind_of f)) (message_of (kind_of f) (body_of f)) s) (stepped (Refused (checks.first_refusal (frame_checks f s))) s)).said ≡ Refused k
        → (cond b (accepted (rank_of (kind_of f)) (message_of (kind_of f) (body_of f)) s) (stepped (Refused (checks.first_refusal (frame_checks f s))) s)).store ≡ s
    go true q = accepted-refused (rank_of (kind_of f)) (message_of (kind_of f) (body_of f)) s k q
    go false q = refl

-- ---- a line's bytes are bytes

abbrev Small : Option ℕ → Type 0
Small none = Unit {0}
Small (some d) = d < 16

digit-small : (b : ℕ) → Small (digit b)
unfolding digit
digit-small b = go (leb 48 b) refl (leb b 57) refl (leb 97 b) refl (leb b 102) refl
  where
    go : (p : Bool) → leb 48 b ≡ p → (q : Bool) → leb b 57 ≡ q → (r : Bool) → leb 97 b ≡ r → (t : Bool) → leb b 102 ≡ t
        → Small (cond (p && q) (some (b - 48)) (cond (r && t) (some (b - 87)) none))
    go true ep true eq r er t et = let k = leb-true b 57 eq in omega arith
    go true ep false eq true er true et = let k = leb-true b 102 et in omega arith
    go true ep false eq true er false et = tt
    go true ep false eq false er t et = tt
    go false ep q eq true er true et = let k = leb-true b 102 et in omega arith
    go false ep q eq true er false et = tt
    go false ep q eq false er t et = tt

abbrev pub BytesIn : List ℕ → Type 0
BytesIn [] = Unit {0}
BytesIn (b ∷ bs) = (b < 256) × BytesIn bs

abbrev pub MaybeBytes : Option (List ℕ) → Type 0
MaybeBytes none = Unit {0}
MaybeBytes (some bs) = BytesIn bs

then-bytes : (x y : Option ℕ) (r : Option (List ℕ)) → Small x → Small y → MaybeBytes r → MaybeBytes (byte_then x y r)
then-bytes none y r h k l = tt
then-bytes (some d) none r h k l = tt
then-bytes (some d) (some e) none h k l = tt
then-bytes (some d) (some e) (some bs) h k l = (omega arith, l)

pub hex-bytes : (line : List ℕ) → MaybeBytes (hex_bytes line)
unfolding hex_bytes
hex-bytes [] = tt
hex-bytes (x ∷ []) = tt
hex-bytes (x ∷ y ∷ rest) = then-bytes (digit x) (digit y) (hex_bytes rest) (digit-small x) (digit-small y) (hex-bytes rest)

pub body-bytes : (f : Option (List ℕ)) → MaybeBytes f → BytesIn (body_of f)
body-bytes none h = tt
body-bytes (some []) h = tt
body-bytes (some (k ∷ body)) h = h.1

pub drop-bytes : (n : ℕ) (l : List ℕ) → BytesIn l → BytesIn (drop n l)
drop-bytes zero l h = h
drop-bytes (suc n) [] h = tt
drop-bytes (suc n) (x ∷ l) h = drop-bytes n l h.1

-- eight bytes are a word
pub word-fits : (l : List ℕ) → length l ≡ 8 → BytesIn l → bytes_number 0 l < 2 ^ 64
unfolding bytes_number
word-fits [] e h = absurd (omega arith)
word-fits (a ∷ []) e h = absurd (omega arith)
word-fits (a ∷ b ∷ []) e h = absurd (omega arith)
word-fits (a ∷ b ∷ c ∷ []) e h = absurd (omega arith)
word-fits (a ∷ b ∷ c ∷ d ∷ []) e h = absurd (omega arith)
word-fits (a ∷ b ∷ c ∷ d ∷ x ∷ []) e h = absurd (omega arith)
word-fits (a ∷ b ∷ c ∷ d ∷ x ∷ y ∷ []) e h = absurd (omega arith)
word-fits (a ∷ b ∷ c ∷ d ∷ x ∷ y ∷ z ∷ []) e h = absurd (omega arith)
word-fits (a ∷ b ∷ c ∷ d ∷ x ∷ y ∷ z ∷ w ∷ []) e h =
    let h0 = h.0 in let h1 = h.1.0 in let h2 = h.1.1.0 in let h3 = h.1.1.1.0 in
    let h4 = h.1.1.1.1.0 in let h5 = h.1.1.1.1.1.0 in let h6 = h.1.1.1.1.1.1.0 in let h7 = h.1.1.1.1.1.1.1.0 in
    omega arith
word-fits (a ∷ b ∷ c ∷ d ∷ x ∷ y ∷ z ∷ w ∷ v ∷ l) e h = absurd (omega arith)

-- ---- what no check refused says

pub record Passed (f : Option (List ℕ)) (s : Store) : Type 0 where
  pub hex : bad_hex f ≡ false
  pub kind : bad_kind (kind_of f) ≡ false
  pub sized : good_length (kind_of f) (length (body_of f)) ≡ true
  pub order : bad_order (kind_of f) s.rank ≡ false
  pub taken : message_refusal (message_of (kind_of f) (body_of f)) s ≡ 0

pub passed : (f : Option (List ℕ)) (s : Store) → checks.first_refusal (frame_checks f s) ≡ 0 → Passed f s
unfolding frame_checks checks.first_refusal
passed f s h = go (bad_hex f) refl (bad_kind (kind_of f)) refl (good_length (kind_of f) (length (body_of f))) refl (bad_order (kind_of f) s.rank) refl (eqb (message_refusal (message_of (kind_of f) (body_of f)) s) 0) refl h
  where
    go : (a : Bool) → bad_hex f ≡ a → (b : Bool) → bad_kind (kind_of f) ≡ b → (c : Bool) → good_length (kind_of f) (length (body_of f)) ≡ c → (d : Bool) → bad_order (kind_of f) s.rank ≡ d
        → (e : Bool) → eqb (message_refusal (message_of (kind_of f) (body_of f)) s) 0 ≡ e
        → cond a 1 (cond b 2 (cond (not c) 3 (cond d 4 (cond (not e) (message_refusal (message_of (kind_of f) (body_of f)) s) 0)))) ≡ 0 → Passed f s
    go true ea b eb c ec d ed e ee q = absurd (omega arith)
    go false ea true eb c ec d ed e ee q = absurd (omega arith)
    go false ea false eb false ec d ed e ee q = absurd (omega arith)
    go false ea false eb true ec true ed e ee q = absurd (omega arith)
    go false ea false eb true ec false ed false ee q = absurd (eqb-false (message_refusal (message_of (kind_of f) (body_of f)) s) 0 ee q)
    go false ea false eb true ec false ed true ee q = record { hex = ea; kind = eb; sized = ec; order = ed; taken = eqb-true (message_refusal (message_of (kind_of f) (body_of f)) s) 0 ee }

-- an accepted kind is not below the rank
pub order-says : (k rank : ℕ) → bad_order k rank ≡ false → (rank ≤ rank_of k) × (k ≡ 3 → rank ≡ 3 → ⊥)
unfolding bad_order
order-says k rank h = go (ltb (rank_of k) rank) refl h
  where
    go : (b : Bool) → ltb (rank_of k) rank ≡ b → (b || (eqb k 3 && eqb rank 3)) ≡ false → (rank ≤ rank_of k) × (k ≡ 3 → rank ≡ 3 → ⊥)
    go true e q = absurd (true≢false q)
    go false e q = (ltb-false (rank_of k) rank e, λ x y. true≢false (sym (ap₂ (λ (a b : Bool). a && b) (eq-eqb k 3 x) (eq-eqb rank 3 y)) ∙ q))

-- ---- SOUND

pub record Sound (s : Store) : Type 0 where
  -- names within 1,024 and 24,576 bytes; at most four layers; pairs ascending, within 4,096 a layer, of classes of the table; four sets of marks
  pub good : Upright s.classes
  -- Object's number is all ones or a class
  pub known : ((shown s).tables.object ≡ 2 ^ 64 - 1 → ⊥) → (shown s).tables.object < (shown s).tables.names
  -- components, kinds, legal types over the names, ascending sets within their limits
  pub held : Held (shown s).tables.names s.problem
  -- no row of a problem before 03
  pub fresh : s.rank < 3 → s.problem ≡ no_problem
  pub ranked : s.rank ≤ 10

pub sound-empty : Sound empty_store
unfolding empty_store no_tables no_problem
sound-empty = record {
  good = upright-ground _ (good-start no_marks refl);
  known = λ n. absurd (n refl);
  held = held-none 0;
  fresh = λ h. refl;
  ranked = omega arith;
}

-- the keys that its layers show have room
pub sound-room : (s : Store) → Sound s → length (shown s).keys ≤ layers_room
sound-room s h = omega (arith, h.good.room, h.good.top-room, h.good.low)

-- ---- one message

Known : Tables → Type 0
Known t = (t.object ≡ 2 ^ 64 - 1 → ⊥) → t.object < t.names

name-known : (last name : List ℕ) (t : Tables) → Known t → Known (name_row last name t).tables
unfolding Known name_row with_name noted
name-known last name t k = go (eqb (check_name last name t.names t.bytes) 0) (is_equal (compare_lists name object_name))
  where
    new : Bool → Tables
    new d = record { names = t.names + 1; bytes = t.bytes + length name; object = cond d t.names t.object; cloneable = (with_name name t).cloneable; serializable = (with_name name t).serializable; pairs = t.pairs }

    go : (b d : Bool) → ((cond b (new d) t).object ≡ 2 ^ 64 - 1 → ⊥) → (cond b (new d) t).object < (cond b (new d) t).names
    go true true n = omega arith
    go true false n = let l = k n in omega arith
    go false d n = k n

-- layers stay so after a name: their keys are of classes that were there before
upright-name : (last name : List ℕ) (c : Stack) → Upright c → Upright (with_names c (name_row last name c.top.shown.tables).tables)
unfolding with_name top_keys
upright-name last name c g = go (check_name last name c.top.shown.tables.names c.top.shown.tables.bytes) refl
  where
    go : (k : ℕ) → check_name last name c.top.shown.tables.names c.top.shown.tables.bytes ≡ k
        → Upright (with_names c (name_row last name c.top.shown.tables).tables)
    go zero e =
        let r = name-room last name c.top.shown.tables.names c.top.shown.tables.bytes e in
        rw (name-taken last name c.top.shown.tables e) (record {
          few = omega arith;
          short = r.1;
          ordered = g.ordered;
          counted = g.counted;
          classes = λ z m. let w = g.classes z m in (omega arith, omega arith);
          wide = g.wide;
          own-wide = g.own-wide;
          low = g.low;
          own-none = g.own-none;
          top-room = g.top-room;
          room = g.room;
        })
    go (suc k) e = rw (name-refused last name c.top.shown.tables (suc k) (sym e) (λ z. omega arith)) g

-- a record changes no name, nor does a layer that is opened
record-tables : (c : Stack) (f n : ℕ) (ps : List ℕ)
    → ((stack_row c f n ps).top.shown.tables.names ≡ c.top.shown.tables.names) × ((stack_row c f n ps).top.shown.tables.object ≡ c.top.shown.tables.object)
unfolding stack_row record_row with_record layer_row with_layer_record
record-tables c f n ps =
    go (eqb c.under 0) (eqb (record_refusal c.top.shown.tables.names c.top.shown.keys f n ps) 0) (eqb (layer_refusal c.top f n ps) 0)
  where
    next : Bool → Bool → Bool → Stack
    next low a b =
        cond low (record { top = record { shown = cond a (with_record c.top.shown f n ps) c.top.shown; own = c.top.own }; under = c.under })
        (record { top = cond b (with_layer_record c.top f n ps) c.top; under = c.under })

    go : (low a b : Bool) → ((next low a b).top.shown.tables.names ≡ c.top.shown.tables.names) × ((next low a b).top.shown.tables.object ≡ c.top.shown.tables.object)
    go true true b = (refl, refl)
    go true false b = (refl, refl)
    go false a true = (refl, refl)
    go false a false = (refl, refl)

pub open-shows : (c : Stack) → (open_row c).top.shown ≡ c.top.shown
unfolding open_row
open-shows c = go (leb 3 c.under)
  where
    go : (b : Bool) → (cond b c (record { top = opened c.top.shown; under = c.under + 1 })).top.shown ≡ c.top.shown
    go true = refl
    go false = refl

module _ (s : Store) (h : Sound s) where
  sound-name : (n : List ℕ) → s.rank ≤ 1 → Sound (with_message 1 (naming n) s)
  unfolding with_message Known
  sound-name n r = record {
    good = upright-name s.last n s.classes h.good;
    known = name-known s.last n (shown s).tables h.known;
    held = subst (Held (name_row s.last n (shown s).tables).tables.names) (sym (h.fresh (omega arith))) (held-none (name_row s.last n (shown s).tables).tables.names);
    fresh = λ k. h.fresh (omega arith);
    ranked = omega arith;
  }

  sound-record : (f c : ℕ) (ps : List ℕ) → s.rank ≤ 2 → Sound (with_message 2 (recording f c ps) s)
  unfolding with_message
  sound-record f c ps r =
      let t = record-tables s.classes f c ps in
      record {
        good = upright-row s.classes f c ps h.good;
        known = λ n. let k = h.known (λ e. n (t.1 ∙ e)) in let a = t.0 in let b = t.1 in omega arith;
        held = subst (λ (n : ℕ). Held n s.problem) (sym t.0) h.held;
        fresh = λ k. h.fresh (omega arith);
        ranked = omega arith;
      }

  sound-open : s.rank ≤ 2 → Sound (with_message 2 opening s)
  unfolding with_message
  sound-open r =
      let e = open-shows s.classes in
      record {
        good = upright-open s.classes h.good;
        known = subst (λ (u : State). (u.tables.object ≡ 2 ^ 64 - 1 → ⊥) → u.tables.object < u.tables.names) (sym e) h.known;
        held = subst (λ (u : State). Held u.tables.names s.problem) (sym e) h.held;
        fresh = λ k. h.fresh (omega arith);
        ranked = omega arith;
      }

  sound-count : (n : ℕ) → s.rank < 3 → Sound (with_message 3 (row (counted n)) s)
  unfolding with_message
  sound-count n r = record {
    good = h.good;
    known = h.known;
    held = subst (λ (p : Problem). Held (shown s).tables.names (problem_row (shown s).tables.names (counted n) p).problem) (sym (h.fresh r)) (held-counted (shown s).tables.names n);
    fresh = λ k. absurd (omega arith);
    ranked = omega arith;
  }

  sound-row : (rank : ℕ) (r : ProblemRow) → Later r → 3 ≤ rank → rank ≤ 10 → Sound (with_message rank (row r) s)
  unfolding with_message
  sound-row rank r l a b = record {
    good = h.good;
    known = h.known;
    held = held-row (shown s).tables.names s.problem h.held r l;
    fresh = λ k. absurd (omega arith);
    ranked = b;
  }

  sound-last : (m : Message) → ((rank : ℕ) → with_message rank m s ≡ record { last = s.last; classes = s.classes; problem = s.problem; rank = rank }) → Sound (with_message 10 m s)
  sound-last m e = subst Sound (sym (e 10)) (record { good = h.good; known = h.known; held = h.held; fresh = λ k. absurd (omega arith); ranked = omega arith })

  sound-solved : (o : Solution) → Sound (solved_step 10 s o).store
  unfolding with_message
  sound-solved (Unsolved k) = h
  sound-solved (Solved t n as') = sound-last solving (λ rank. refl)

  sound-asked : (q : Question) (a b : ℕ) → Sound (accepted 10 (asking q a b) s).store
  unfolding accepted with_message
  sound-asked q a b = sound-last (asking q a b) (λ rank. refl)

pub by-if : {A : Type 0} (P : A → Type 0) (b : Bool) (x y : A) → (b ≡ true → P x) → (b ≡ false → P y) → P (cond b x y)
by-if P true x y f g = f refl
by-if P false x y f g = g refl

five : (j : ℕ) → (j ≡ 0 → ⊥) → (j ≡ 1 → ⊥) → (j ≡ 2 → ⊥) → (j ≡ 3 → ⊥) → (j ≡ 4 → ⊥) → 5 ≤ j
five j d0 d1 d2 d3 d4 = omega arith

five-more : (j : ℕ) → 5 ≤ j → (j ≡ 5 → ⊥) → (j ≡ 6 → ⊥) → (j ≡ 7 → ⊥) → (j ≡ 8 → ⊥) → (j ≡ 9 → ⊥) → 10 ≤ j
five-more j l d5 d6 d7 d8 d9 = omega arith

pub nine : (j : ℕ) → j < 10 → (j ≡ 0 → ⊥) → (j ≡ 1 → ⊥) → (j ≡ 2 → ⊥) → (j ≡ 3 → ⊥) → (j ≡ 4 → ⊥) → (j ≡ 5 → ⊥) → (j ≡ 6 → ⊥) → (j ≡ 7 → ⊥) → (j ≡ 8 → ⊥) → (j ≡ 9 → ⊥) → ⊥
nine j l d0 d1 d2 d3 d4 d5 d6 d7 d8 d9 = above j l (five-more j (five j d0 d1 d2 d3 d4) d5 d6 d7 d8 d9)
  where
    above : (i : ℕ) → i < 10 → 10 ≤ i → ⊥
    above i a b = omega arith

from-ten : (j : ℕ) → (j < 10 → ⊥) → 10 ≤ j
from-ten j n = go (ltb j 10) refl
  where
    go : (b : Bool) → ltb j 10 ≡ b → 10 ≤ j
    go true e = absurd (n (ltb-true j 10 e))
    go false e = ltb-false j 10 e

four-more : (j : ℕ) → 10 ≤ j → j ≤ 14 → (j ≡ 10 → ⊥) → (j ≡ 11 → ⊥) → (j ≡ 12 → ⊥) → (j ≡ 13 → ⊥) → j ≡ 14
four-more j a b d10 d11 d12 d13 = omega arith

kind-ends : (k : ℕ) → bad_kind k ≡ false → (k ≡ 0 → ⊥) × (k ≤ 14)
unfolding bad_kind
kind-ends k h = go (eqb k 0) refl (ltb 14 k) refl h
  where
    go : (a : Bool) → eqb k 0 ≡ a → (b : Bool) → ltb 14 k ≡ b → (a || b) ≡ false → (k ≡ 0 → ⊥) × (k ≤ 14)
    go true ea b eb q = absurd (true≢false q)
    go false ea true eb q = absurd (true≢false q)
    go false ea false eb q = (eqb-false k 0 ea, ltb-false 14 k eb)

-- a kind that is none of the others is the last
pub last-kind : (k : ℕ) → bad_kind k ≡ false → eqb k 1 ≡ false → eqb k 2 ≡ false → eqb k 3 ≡ false → eqb k 4 ≡ false → eqb k 5 ≡ false → eqb k 6 ≡ false → eqb k 7 ≡ false → eqb k 8 ≡ false
    → eqb k 9 ≡ false → eqb k 10 ≡ false → eqb k 11 ≡ false → eqb k 12 ≡ false → eqb k 13 ≡ false → k ≡ 14
last-kind k h n1 n2 n3 n4 n5 n6 n7 n8 n9 n10 n11 n12 n13 =
    four-more k (from-ten k not-below) (kind-ends k h).1 (eqb-false k 10 n10) (eqb-false k 11 n11) (eqb-false k 12 n12) (eqb-false k 13 n13)
  where
    not-below : k < 10 → ⊥
    not-below l =
        nine k l (kind-ends k h).0 (eqb-false k 1 n1) (eqb-false k 2 n2) (eqb-false k 3 n3) (eqb-false k 4 n4) (eqb-false k 5 n5) (eqb-false k 6 n6) (eqb-false k 7 n7) (eqb-false k 8 n8) (eqb-false k 9 n9)

-- ---- one frame

module _ (f : Option (List ℕ)) (s : Store) (h : Sound s) (b : MaybeBytes f) (p : Passed f s) where
  k : ℕ
  k = kind_of f

  body : List ℕ
  body = body_of f

  Fine : Message → Type 0
  Fine m = Sound (accepted (rank_of k) m s).store

  ranked-below : s.rank ≤ rank_of k
  unfolding k
  ranked-below = (order-says (kind_of f) s.rank p.order).0

  -- a row of kind i, between 04 and 09
  later-fine : (i : ℕ) (r : ProblemRow) → 3 ≤ rank_of i → rank_of i ≤ 10 → Later r → eqb k i ≡ true → Fine (row r)
  unfolding Fine accepted
  later-fine i r a c l e = subst (λ (j : ℕ). Sound (with_message (rank_of j) (row r) s)) (sym (eqb-true k i e)) (sound-row s h (rank_of i) r l a c)

  ten-fine : (i : ℕ) → rank_of i ≡ 10 → (m : Message) → Sound (accepted 10 m s).store → eqb k i ≡ true → Fine m
  unfolding Fine
  ten-fine i t m w e = subst (λ (j : ℕ). Sound (accepted j m s).store) (sym (ap rank_of (eqb-true k i e) ∙ t)) w

  word-body : eqb k 5 ≡ true → bytes_number 0 (drop 3 body) < 2 ^ 64
  unfolding good_length k body
  word-body e =
      let five = eqb-true (kind_of f) 5 e in
      let sized = subst (λ (j : ℕ). good_length j (length (body_of f)) ≡ true) five p.sized in
      let n = eqb-true (length (body_of f)) 11 sized in
      let d = length-drop 3 (body_of f) in
      word-fits (drop 3 (body_of f)) (omega arith) (drop-bytes 3 (body_of f) (body-bytes f b))

  one : eqb k 1 ≡ true → Fine (naming body)
  unfolding Fine accepted
  one e =
      let r = ap rank_of (eqb-true k 1 e) in
      let o = ranked-below in
      subst (λ (j : ℕ). Sound (with_message j (naming body) s)) (sym r) (sound-name s h body (omega arith))

  two : eqb k 2 ≡ true → Fine (recording (get_or body 0 0) (number_at 1 body) (numbers_in (drop 3 body)))
  unfolding Fine accepted
  two e =
      let r = ap rank_of (eqb-true k 2 e) in
      let o = ranked-below in
      subst (λ (j : ℕ). Sound (with_message j (recording (get_or body 0 0) (number_at 1 body) (numbers_in (drop 3 body))) s)) (sym r)
      (sound-record s h (get_or body 0 0) (number_at 1 body) (numbers_in (drop 3 body)) (omega arith))

  three : eqb k 3 ≡ true → Fine (row (counted (number_at 0 body)))
  unfolding Fine accepted k
  three e =
      let t = eqb-true k 3 e in
      let r = ap rank_of t in
      let o = ranked-below in
      let n = not-again t in
      subst (λ (j : ℕ). Sound (with_message j (row (counted (number_at 0 body))) s)) (sym r) (sound-count s h (number_at 0 body) (below-three s.rank (omega arith) n))
    where
      not-again : k ≡ 3 → s.rank ≡ 3 → ⊥
      not-again t = (order-says k s.rank again).1 t
        where
          again : bad_order k s.rank ≡ false
          again = p.order

      below-three : (n : ℕ) → n ≤ 3 → (n ≡ 3 → ⊥) → n < 3
      below-three n l d = go (ltb n 3) refl
        where
          go : (c : Bool) → ltb n 3 ≡ c → n < 3
          go true q = ltb-true n 3 q
          go false q = absurd (d (let z = ltb-false n 3 q in omega arith))

  solved : Sound (accepted 10 solving s).store
  unfolding accepted
  solved = sound-solved s h (solve (state_world (shown s)) s.problem)

  fourteen : k ≡ 14 → Fine opening
  unfolding Fine accepted
  fourteen e =
      let r = ap rank_of e in
      let o = ranked-below in
      subst (λ (j : ℕ). Sound (with_message j opening s)) (sym r) (sound-open s h (omega arith))

  some-kind : bad_kind k ≡ false
  unfolding k
  some-kind = p.kind

  fine : Fine (message_of k body)
  unfolding message_of
  fine =
      by-if Fine (eqb k 1) _ _ one
      (λ n1. by-if Fine (eqb k 2) _ _ two
      (λ n2. by-if Fine (eqb k 3) _ _ three
      (λ n3. by-if Fine (eqb k 4) _ _ (later-fine 4 (variable (number_at 0 body)) (omega arith) (omega arith) tt)
      (λ n4. by-if Fine (eqb k 5) _ _ (λ e. later-fine 5 (bounded (number_at 0 body) (get_or body 2 0) (bytes_number 0 (drop 3 body))) (omega arith) (omega arith) (word-body e) e)
      (λ n5. by-if Fine (eqb k 6) _ _ (later-fine 6 (flow (number_at 0 body) (number_at 2 body)) (omega arith) (omega arith) tt)
      (λ n6. by-if Fine (eqb k 7) _ _ (later-fine 7 (upper_flow (number_at 0 body) (number_at 2 body)) (omega arith) (omega arith) tt)
      (λ n7. by-if Fine (eqb k 8) _ _ (later-fine 8 (reading (number_at 0 body) (number_at 2 body)) (omega arith) (omega arith) tt)
      (λ n8. by-if Fine (eqb k 9) _ _ (later-fine 9 (writing (number_at 0 body) (number_at 2 body)) (omega arith) (omega arith) tt)
      (λ n9. by-if Fine (eqb k 10) _ _ (ten-fine 10 refl solving solved)
      (λ n10. by-if Fine (eqb k 11) _ _ (ten-fine 11 refl (asking Relating (number_at 0 body) (number_at 2 body)) (sound-asked s h Relating (number_at 0 body) (number_at 2 body)))
      (λ n11. by-if Fine (eqb k 12) _ _ (ten-fine 12 refl (asking Supertyping (number_at 0 body) (number_at 2 body)) (sound-asked s h Supertyping (number_at 0 body) (number_at 2 body)))
      (λ n12. by-if Fine (eqb k 13) _ _ (ten-fine 13 refl (asking Casting (number_at 0 body) (number_at 2 body)) (sound-asked s h Casting (number_at 0 body) (number_at 2 body)))
      (λ n13. fourteen (last-kind k some-kind n1 n2 n3 n4 n5 n6 n7 n8 n9 n10 n11 n12 n13))))))))))))))

frame-fine : (f : Option (List ℕ)) (s : Store) → Sound s → MaybeBytes f → Passed f s → Sound (accepted (rank_of (kind_of f)) (message_of (kind_of f) (body_of f)) s).store
unfolding Fine k body
frame-fine f s h b p = fine f s h b p

-- A FRAME KEEPS IT, accepted or refused
pub sound-frame : (line : List ℕ) (s : Store) → Sound s → Sound (frame line s).store
unfolding frame frame_bytes
sound-frame line s h = go (eqb (checks.first_refusal (frame_checks f s)) 0) refl
  where
    f : Option (List ℕ)
    f = hex_bytes line

    go : (b : Bool) → eqb (checks.first_refusal (frame_checks (hex_bytes line) s)) 0 ≡ b
        → Sound (cond b (accepted (rank_of (kind_of (hex_bytes line))) (message_of (kind_of (hex_bytes line)) (body_of (hex_bytes line))) s) (stepped (Refused (checks.first_refusal (frame_checks (hex_bytes line) s))) s)).store
    go true e = frame-fine (hex_bytes line) s h (hex-bytes line) (passed (hex_bytes line) s (eqb-true (checks.first_refusal (frame_checks (hex_bytes line) s)) 0 e))
    go false e = h

-- ---- all lines

unfoldable pub after : List (List ℕ) → Store → Store
after [] s = s
after (l ∷ ls) s = after ls (frame l s).store

sound-after : (ls : List (List ℕ)) (s : Store) → Sound s → Sound (after ls s)
unfolding after
sound-after [] s h = h
sound-after (l ∷ ls) s h = sound-after ls (frame l s).store (sound-frame l s h)

-- EVERY STATE THAT LINES LEAD TO IS SOUND
pub reached-sound : (ls : List (List ℕ)) → Sound (after ls empty_store)
reached-sound ls = sound-after ls empty_store sound-empty
