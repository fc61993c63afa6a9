-- IN THE DOMAIN NOTHING IS REFUSED: for each exported function when its answer is not a refusal, of every result that its contract allows, as the
-- check reads it. A question and a writer are not refused exactly in the domain; a lookup is refused only where the name is not there; a
-- descriptor only with the numbers of DescriptorParseError, 24 where reading is strict.
use Rattle.std.specs.Prelude.{◌≡◌, refl, Bool, true, false, cond, not, List, [], ◌∷◌, ◌⊎◌, ◌↔◌, ℕ, ◌-◌, ◌^◌, ◌≤◌, ◌<◌, eqb, ltb, length}
use Rattle.std.proofs.Common.{sym, ap, ◌∙◌, subst, inl, inr, ⊎_elim, arith, ne_eqb, lt-ltb, le-ltb, eqb-true, ltb-false}
use Rattle.std.proofs.lemmas.Bool.{eqb-false}
use borrow.Fn.Kinds.{Dens, res_t, ended_of}
use denote.Triple.Clauses.{AtExit}
use contract.Lifetimes.{Lfts}
use Rattle.ty.specs.Words.{legal_word, all_legal}
use Rattle.checks.specs.Checks.{first_refusal}
use Rattle.names.specs.Table.{Checked}
use Rattle.descriptor.specs.declared.Base.{Base}
use Rattle.descriptor.specs.declared.Base.TheVariants.{Simple, Class}
use Rattle.descriptor.specs.Read.{Read, Found, Refused, read_whole, read_strict}
use Rattle.methods.specs.Method.{Method, Whole, Broken, pick_m, read_method, read_method_strict}
use Rattle.methods.specs.Answers.{found_method, refused_method, method_answer, method_of}
use Rattle.writer.specs.Print.{print_word, print_method_words}
use Rattle.rows.specs.Rows.{all_below}
use Rattle.columns.specs.Given.{Given, even}
use Rattle.tableview.specs.TableRows.{Rows, rows_view, rows_in}
use Rattle.stackview.specs.LayerRows.{shown_in}
use Rattle.stackview.specs.LayerRefusals.{stack_refusal_of}
use Rattle.tableview.specs.Canonical.{columns_of}
use Rattle.tableview.proofs.Canonical.{rows-back}
use Rattle.tableview.specs.Domain.{Aligned}
use Rattle.tableview.specs.Domain.{Placed}
use Rattle.tableview.proofs.Domain.{even-exactly, rows-aligned, rows-placed}
use Rattle.stackview.specs.Domain.{LayersInDomain}
use Rattle.stackview.proofs.Domain.{stack-exactly, shown-object}
use Rattle.stackview.proofs.Shown.{stack-refused}
use Rattle.questions.specs.Questions.{good_numbers, table_checks, refusal_of}
use Rattle.questions.specs.Laws.{once, are-classes, are-types}
use Rattle.questionlaws.specs.Accepted.{NumbersIn}
use Rattle.bracepuffin.proofs.bp_read_type.Reads as bp-read-type-reads
use Rattle.bracepuffin.proofs.bp_read_type.Kinds as bp-read-type-kinds
use Rattle.bracepuffin.proofs.bp_read_type_strict.Reads as bp-read-type-strict-reads
use Rattle.bracepuffin.proofs.bp_read_type_strict.Kinds as bp-read-type-strict-kinds
use Rattle.bracepuffin.proofs.bp_read_method.Reads as bp-read-method-reads
use Rattle.bracepuffin.proofs.bp_read_method.Kinds as bp-read-method-kinds
use Rattle.bracepuffin.proofs.bp_read_method_strict.Reads as bp-read-method-strict-reads
use Rattle.bracepuffin.proofs.bp_read_method_strict.Kinds as bp-read-method-strict-kinds
use Rattle.bracepuffin.proofs.bp_lookup.Reads as bp-lookup-reads
use Rattle.bracepuffin.proofs.bp_lookup.Kinds as bp-lookup-kinds
use Rattle.bracepuffin.proofs.bp_write_type.Reads as bp-write-type-reads
use Rattle.bracepuffin.proofs.bp_write_type.Kinds as bp-write-type-kinds
use Rattle.bracepuffin.proofs.bp_write_method.Reads as bp-write-method-reads
use Rattle.bracepuffin.proofs.bp_write_method.Kinds as bp-write-method-kinds
use Rattle.bracepuffin.proofs.bp_relation.Reads as bp-relation-reads
use Rattle.bracepuffin.proofs.bp_relation.Kinds as bp-relation-kinds
use Rattle.bracepuffin.proofs.bp_distance.Reads as bp-distance-reads
use Rattle.bracepuffin.proofs.bp_distance.Kinds as bp-distance-kinds
use Rattle.bracepuffin.proofs.bp_ancestors.Reads as bp-ancestors-reads
use Rattle.bracepuffin.proofs.bp_ancestors.Kinds as bp-ancestors-kinds
use Rattle.bracepuffin.proofs.bp_supertype.Reads as bp-supertype-reads
use Rattle.bracepuffin.proofs.bp_supertype.Kinds as bp-supertype-kinds
use Rattle.bracepuffin.proofs.bp_cast.Reads as bp-cast-reads
use Rattle.bracepuffin.proofs.bp_cast.Kinds as bp-cast-kinds
use Rattle.bracepuffin.proofs.bp_join.Reads as bp-join-reads
use Rattle.bracepuffin.proofs.bp_join.Kinds as bp-join-kinds
use Rattle.bracepuffin.proofs.bp_assignable.Reads as bp-assignable-reads
use Rattle.bracepuffin.proofs.bp_assignable.Kinds as bp-assignable-kinds
use Rattle.bracepuffin.specs.declared.BpType.{BpType}
use Rattle.bracepuffin.specs.declared.BpMethod.{BpMethod}
use Rattle.bracepuffin.specs.declared.BpFound.{BpFound}
use Rattle.bracepuffin.specs.declared.BpRelation.{BpRelation}
use Rattle.bracepuffin.specs.declared.BpAnswer.{BpAnswer}
use Rattle.bracepuffin.specs.declared.BpSet.{BpSet}
use Rattle.bracepuffin.specs.Boundary.{type_answer, bp_method_of, bp_method, method_result, relation_told, distance_told, ancestors_told, supertype_told, cast_told, join_told, assignable_told}
use Rattle.demands.specs.Descriptors.{type-accepted, method-short}
use Rattle.demands.specs.Numbers.{Deep, Crowded, TypeNumber, StrictNumber, MethodNumber, StrictMethodNumber, type-number, strict-type-number, method-number, strict-method-number}
use Rattle.demands.specs.Asked.{columns_asked, first_asked, second_asked, room_asked, columns_of_one, class_of_one, room_of_one}
use Rattle.demands.specs.Classes.{answer-refusal, gathered-refusal}
use Rattle.demands.specs.Writers as writers

-- ---- questions

-- the work has 8,192 words; columns of equal length, every row inside its slice, the rows in the domain; the numbers are classes, or types over
-- the names
pub record Asking (g : Given) (types : Bool) (a b room : ℕ) : Type 0 where
  pub room-there : 8192 ≤ room
  pub aligned : Aligned g
  pub placed : Placed g
  pub rows : LayersInDomain (rows_in g)
  pub numbers : NumbersIn types (length (shown_in g).names) a b

pub numbers-good : (types : Bool) (n a b : ℕ) → (good_numbers types n (a ∷ b ∷ []) ≡ true) ↔ NumbersIn types n a b
unfolding good_numbers all_below all_legal
numbers-good false n a b = (are-classes n a b false refl, λ w. rw (lt-ltb a n w.0, lt-ltb b n w.1))
numbers-good true n a b = (are-types n a b true refl, λ w. rw (w.0, w.1))

-- A QUESTION IS NOT REFUSED EXACTLY IN THE DOMAIN
pub question-exactly : (g : Given) (types : Bool) (a b room : ℕ) → (refusal_of g types (a ∷ b ∷ []) room ≡ 0) ↔ Asking g types a b room
unfolding refusal_of table_checks first_refusal rows_view
question-exactly g types a b room = (
  λ h. to (ltb room 8192) refl (even g) refl (eqb (stack_refusal_of g) 0) refl (good_numbers types (length (shown_in g).names) (a ∷ b ∷ [])) refl (eqb (rows_view (shown_in g)).object (2 ^ 64 - 1)) refl types h,
  λ w. rw (
    le-ltb room 8192 w.room-there,
    (even-exactly g).1 w.aligned,
    sym (stack-refused g) ∙ (stack-exactly g w.aligned).1 (w.placed, w.rows.limits),
    (numbers-good types (length (shown_in g).names) a b).1 w.numbers,
    ne_eqb (rows_view (shown_in g)).object (2 ^ 64 - 1) ((shown-object g w.rows.limits.few-names).1 w.rows.object-named),
  ),
)
  where
    to : (s : Bool) → ltb room 8192 ≡ s → (e : Bool) → even g ≡ e → (c : Bool) → eqb (stack_refusal_of g) 0 ≡ c
        → (d : Bool) → good_numbers types (length (shown_in g).names) (a ∷ b ∷ []) ≡ d → (o : Bool) → eqb (rows_view (shown_in g)).object (2 ^ 64 - 1) ≡ o → (k : Bool)
        → cond s 22 (cond (not e) 3 (cond (not c) (stack_refusal_of g) (cond (not d) (cond k 7 6) (cond o 9 0)))) ≡ 0 → Asking g types a b room
    to true es e ee c ec d ed o eo k q = absurd (omega arith)
    to false es false ee c ec d ed o eo k q = absurd (omega arith)
    to false es true ee false ec d ed o eo k q = absurd (eqb-false (stack_refusal_of g) 0 ec q)
    to false es true ee true ec false ed o eo true q = absurd (omega arith)
    to false es true ee true ec false ed o eo false q = absurd (omega arith)
    to false es true ee true ec true ed true eo k q = absurd (omega arith)
    to false es true ee true ec true ed false eo k q =
        let al = (even-exactly g).0 ee in
        let t = (stack-exactly g al).0 (stack-refused g ∙ eqb-true (stack_refusal_of g) 0 ec) in
        record {
          room-there = ltb-false room 8192 es;
          aligned = al;
          placed = t.0;
          rows = record { limits = t.1; object-named = (shown-object g t.1.few-names).0 (eqb-false (rows_view (shown_in g)).object (2 ^ 64 - 1) eo) };
          numbers = (numbers-good types (length (shown_in g).names) a b).0 ed;
        }

-- so over any rows in the domain, written as columns, every question about classes and types of theirs is answered
pub rows-asked : (t : Rows) → LayersInDomain t → (types : Bool) (a b room : ℕ) → 8192 ≤ room → NumbersIn types (length t.names) a b → refusal_of (columns_of t) types (a ∷ b ∷ []) room ≡ 0
unfolding shown_in
rows-asked t d types a b room h w =
    (question-exactly (columns_of t) types a b room).1 (record {
      room-there = h;
      aligned = rows-aligned t;
      placed = rows-placed t;
      rows = subst LayersInDomain (sym (rows-back t)) d;
      numbers = subst (λ (u : Rows). NumbersIn types (length u.names) a b) (sym (rows-back t)) w;
    })

-- the ancestors of a class as a class against itself
one-as-two : (g : Given) (c room : ℕ) → refusal_of g false (c ∷ []) room ≡ refusal_of g false (c ∷ c ∷ []) room
unfolding refusal_of table_checks
one-as-two g c room = rw (once (rows_view (shown_in g)).names c)

moved : {k m : ℕ} {A : Type 0} → k ≡ m → (m ≡ 0) ↔ A → (k ≡ 0) ↔ A
moved e f = (λ z. f.0 (sym e ∙ z), λ w. e ∙ f.1 w)

-- BP_RELATION
pub bp-relation-taken : (κs : Lfts 9) (a : Dens κs bp-relation-kinds.ps) (r : (res_t bp-relation-kinds.r κs).Denot) (x : AtExit (ended_of 9 bp-relation-kinds.ps bp-relation-kinds.r) κs)
    → bp-relation-reads.Post κs a r x → (r.refusal ≡ 0) ↔ Asking (columns_asked κs a) false (first_asked κs a) (second_asked κs a) (room_asked κs a)
unfolding relation_told
bp-relation-taken κs a r x p = moved (ap (λ (q : BpRelation). q.refusal) p.0 ∙ answer-refusal _ _) (question-exactly (columns_asked κs a) false (first_asked κs a) (second_asked κs a) (room_asked κs a))

-- BP_DISTANCE
pub bp-distance-taken : (κs : Lfts 9) (a : Dens κs bp-distance-kinds.ps) (r : (res_t bp-distance-kinds.r κs).Denot) (x : AtExit (ended_of 9 bp-distance-kinds.ps bp-distance-kinds.r) κs)
    → bp-distance-reads.Post κs a r x → (r.refusal ≡ 0) ↔ Asking (columns_asked κs a) false (first_asked κs a) (second_asked κs a) (room_asked κs a)
unfolding distance_told
bp-distance-taken κs a r x p = moved (ap (λ (q : BpAnswer). q.refusal) p.0 ∙ answer-refusal _ _) (question-exactly (columns_asked κs a) false (first_asked κs a) (second_asked κs a) (room_asked κs a))

-- BP_SUPERTYPE
pub bp-supertype-taken : (κs : Lfts 9) (a : Dens κs bp-supertype-kinds.ps) (r : (res_t bp-supertype-kinds.r κs).Denot) (x : AtExit (ended_of 9 bp-supertype-kinds.ps bp-supertype-kinds.r) κs)
    → bp-supertype-reads.Post κs a r x → (r.refusal ≡ 0) ↔ Asking (columns_asked κs a) false (first_asked κs a) (second_asked κs a) (room_asked κs a)
unfolding supertype_told
bp-supertype-taken κs a r x p = moved (ap (λ (q : BpAnswer). q.refusal) p.0 ∙ answer-refusal _ _) (question-exactly (columns_asked κs a) false (first_asked κs a) (second_asked κs a) (room_asked κs a))

-- BP_CAST
pub bp-cast-taken : (κs : Lfts 9) (a : Dens κs bp-cast-kinds.ps) (r : (res_t bp-cast-kinds.r κs).Denot) (x : AtExit (ended_of 9 bp-cast-kinds.ps bp-cast-kinds.r) κs)
    → bp-cast-reads.Post κs a r x → (r.refusal ≡ 0) ↔ Asking (columns_asked κs a) false (first_asked κs a) (second_asked κs a) (room_asked κs a)
unfolding cast_told
bp-cast-taken κs a r x p = moved (ap (λ (q : BpAnswer). q.refusal) p.0 ∙ answer-refusal _ _) (question-exactly (columns_asked κs a) false (first_asked κs a) (second_asked κs a) (room_asked κs a))

-- BP_JOIN
pub bp-join-taken : (κs : Lfts 9) (a : Dens κs bp-join-kinds.ps) (r : (res_t bp-join-kinds.r κs).Denot) (x : AtExit (ended_of 9 bp-join-kinds.ps bp-join-kinds.r) κs)
    → bp-join-reads.Post κs a r x → (r.refusal ≡ 0) ↔ Asking (columns_asked κs a) true (first_asked κs a) (second_asked κs a) (room_asked κs a)
unfolding join_told
bp-join-taken κs a r x p = moved (ap (λ (q : BpAnswer). q.refusal) p.0 ∙ answer-refusal _ _) (question-exactly (columns_asked κs a) true (first_asked κs a) (second_asked κs a) (room_asked κs a))

-- BP_ASSIGNABLE
pub bp-assignable-taken : (κs : Lfts 9) (a : Dens κs bp-assignable-kinds.ps) (r : (res_t bp-assignable-kinds.r κs).Denot) (x : AtExit (ended_of 9 bp-assignable-kinds.ps bp-assignable-kinds.r) κs)
    → bp-assignable-reads.Post κs a r x → (r.refusal ≡ 0) ↔ Asking (columns_asked κs a) true (first_asked κs a) (second_asked κs a) (room_asked κs a)
unfolding assignable_told
bp-assignable-taken κs a r x p = moved (ap (λ (q : BpAnswer). q.refusal) p.0 ∙ answer-refusal _ _) (question-exactly (columns_asked κs a) true (first_asked κs a) (second_asked κs a) (room_asked κs a))

-- BP_ANCESTORS
pub bp-ancestors-taken : (κs : Lfts 9) (a : Dens κs bp-ancestors-kinds.ps) (r : (res_t bp-ancestors-kinds.r κs).Denot) (x : AtExit (ended_of 9 bp-ancestors-kinds.ps bp-ancestors-kinds.r) κs)
    → bp-ancestors-reads.Post κs a r x → (r.refusal ≡ 0) ↔ Asking (columns_of_one κs a) false (class_of_one κs a) (class_of_one κs a) (room_of_one κs a)
unfolding ancestors_told
bp-ancestors-taken κs a r x p =
    moved (ap (λ (q : BpSet). q.refusal) p.0 ∙ gathered-refusal _ _ ∙ one-as-two (columns_of_one κs a) (class_of_one κs a) (room_of_one κs a))
    (question-exactly (columns_of_one κs a) false (class_of_one κs a) (class_of_one κs a) (room_of_one κs a))

-- ---- writers and lookup

-- BP_WRITE_TYPE: checked names, a legal word, room for the descriptor
pub bp-write-type-taken : (κs : Lfts 4) (a : Dens κs bp-write-type-kinds.ps) (r : (res_t bp-write-type-kinds.r κs).Denot) (x : AtExit (ended_of 4 bp-write-type-kinds.ps bp-write-type-kinds.r) κs)
    → bp-write-type-reads.Post κs a r x
    → let bytes = a.0.now in let ats = a.1.0.now in let lens = a.1.1.0.now in let w = a.1.1.1.0 in let out = a.1.1.1.1.0.now in
    (r.refusal ≡ 0) ↔ (Checked bytes ats lens × (legal_word (length ats) w ≡ true) × (length (print_word bytes ats lens w) ≤ length out))
bp-write-type-taken κs a r x p = (writers.bp-write-type κs a r x p).taken

-- BP_WRITE_METHOD: checked names, at most 255 parameters, legal words, room
pub bp-write-method-taken : (κs : Lfts 5) (a : Dens κs bp-write-method-kinds.ps) (r : (res_t bp-write-method-kinds.r κs).Denot) (x : AtExit (ended_of 5 bp-write-method-kinds.ps bp-write-method-kinds.r) κs)
    → bp-write-method-reads.Post κs a r x
    → let bytes = a.0.now in let ats = a.1.0.now in let lens = a.1.1.0.now in let ws = a.1.1.1.0.now in let w = a.1.1.1.1.0 in let out = a.1.1.1.1.1.0.now in
    (r.refusal ≡ 0)
    ↔ (Checked bytes ats lens × (length ws ≤ 255) × (all_legal (length ats) ws ≡ true) × (legal_word (length ats) w ≡ true) × (length (print_method_words bytes ats lens ws w) ≤ length out))
bp-write-method-taken κs a r x p = (writers.bp-write-method κs a r x p).taken

-- BP_LOOKUP: over checked names only with 23
pub bp-lookup-taken : (κs : Lfts 4) (a : Dens κs bp-lookup-kinds.ps) (r : (res_t bp-lookup-kinds.r κs).Denot) (x : AtExit (ended_of 4 bp-lookup-kinds.ps bp-lookup-kinds.r) κs)
    → bp-lookup-reads.Post κs a r x → Checked a.0.now a.1.0.now a.1.1.0.now → (r.refusal ≡ 0) ⊎ (r.refusal ≡ 23)
bp-lookup-taken κs a r x p k = ⊎_elim (λ w. inl (ap (λ (q : BpFound). q.refusal) w.1)) (λ e. inr (ap (λ (q : BpFound). q.refusal) e)) (writers.bp-lookup κs a r x p k).only

-- ---- readers

-- accepted, or a number of DescriptorParseError up to n
abbrev pub Plain : ℕ → ℕ → Type 0
Plain n k = (k ≡ 0) ⊎ ((11 ≤ k) × (k ≤ n))

type-plain : (s : List ℕ) (x : Read) → TypeNumber s x → (Deep s → ⊥) → Plain 15 (type_answer x).refusal
type-plain s (Found dims base next) h n = inl (type-accepted dims base)
type-plain s (Refused code o byte) h n = ⊎_elim (λ w. inr w) (λ w. absurd (n w.1)) h

strict-plain : (s : List ℕ) (x : Read) → StrictNumber s x → (Deep s → ⊥) → Plain 15 (type_answer x).refusal ⊎ ((type_answer x).refusal ≡ 24)
strict-plain s (Found dims base next) h n = inl (inl (type-accepted dims base))
strict-plain s (Refused code o byte) h n = ⊎_elim (λ w. inl (inr w)) (λ w. ⊎_elim (λ e. inr e) (λ v. absurd (n v.1)) w) h

-- BP_READ_TYPE: at most 255 dimensions
pub bp-read-type-plain : (κs : Lfts 1) (a : Dens κs bp-read-type-kinds.ps) (r : (res_t bp-read-type-kinds.r κs).Denot) (x : AtExit (ended_of 1 bp-read-type-kinds.ps bp-read-type-kinds.r) κs)
    → bp-read-type-reads.Post κs a r x → (Deep a.0.now → ⊥) → Plain 15 r.refusal
bp-read-type-plain κs a r x p n =
    subst (λ (q : BpType). Plain 15 q.refusal) (sym p) (type-plain a.0.now (read_whole a.0.now) (type-number a.0.now) n)

-- BP_READ_TYPE_STRICT
pub bp-read-type-strict-plain : (κs : Lfts 1) (a : Dens κs bp-read-type-strict-kinds.ps) (r : (res_t bp-read-type-strict-kinds.r κs).Denot) (x : AtExit (ended_of 1 bp-read-type-strict-kinds.ps bp-read-type-strict-kinds.r) κs)
    → bp-read-type-strict-reads.Post κs a r x → (Deep a.0.now → ⊥) → Plain 15 r.refusal ⊎ (r.refusal ≡ 24)
bp-read-type-strict-plain κs a r x p n =
    subst (λ (q : BpType). Plain 15 q.refusal ⊎ (q.refusal ≡ 24)) (sym p) (strict-plain a.0.now (read_strict a.0.now) (strict-type-number a.0.now) n)

-- the answer of a method
found-accepted : (n at dims : ℕ) (b : Base) → (bp_method_of (found_method n at dims b) b).refusal ≡ 0
found-accepted n at dims (Simple k) = refl
found-accepted n at dims (Class p m) = refl

method-plain : (s : List ℕ) (x : Method) → MethodNumber s x → (Deep s → ⊥) → (Crowded s → ⊥) → Plain 17 (method_result x).refusal
unfolding method_answer
method-plain s (Whole offsets at (Found dims base next)) h n c = inl (found-accepted (length offsets) at dims base)
method-plain s (Whole offsets at (Refused code o byte)) h n c = ⊎_elim (λ w. inr (w.0, omega (arith, w.1))) (λ w. absurd (n w.1)) h
method-plain s (Broken code o byte) h n c = ⊎_elim (λ w. inr w) (λ w. ⊎_elim (λ v. absurd (n v.1)) (λ v. absurd (c v.1)) w) h

strict-method-plain : (s : List ℕ) (x : Method) → StrictMethodNumber s x → (Deep s → ⊥) → (Crowded s → ⊥) → Plain 17 (method_result x).refusal ⊎ ((method_result x).refusal ≡ 24)
unfolding method_answer
strict-method-plain s (Whole offsets at (Found dims base next)) h n c = inl (inl (found-accepted (length offsets) at dims base))
strict-method-plain s (Whole offsets at (Refused code o byte)) h n c =
    ⊎_elim (λ w. inl (inr (w.0, omega (arith, w.1)))) (λ w. ⊎_elim (λ e. inr e) (λ v. absurd (n v.1)) w) h
strict-method-plain s (Broken code o byte) h n c =
    ⊎_elim (λ w. inl (inr w)) (λ w. ⊎_elim (λ e. inr e) (λ v. ⊎_elim (λ u. absurd (n u.1)) (λ u. absurd (c u.1)) v) w) h

with-room : (strict : Bool) (s : List ℕ) (room : ℕ) → 255 ≤ room → method_of strict s room ≡ pick_m strict (read_method_strict s) (read_method s)
unfolding method_of
with-room strict s room h = rw (le-ltb room 255 h)

-- BP_READ_METHOD: at most 255 dimensions and parameters, and room for 255 offsets
pub bp-read-method-plain : (κs : Lfts 2) (a : Dens κs bp-read-method-kinds.ps) (r : (res_t bp-read-method-kinds.r κs).Denot) (x : AtExit (ended_of 2 bp-read-method-kinds.ps bp-read-method-kinds.r) κs)
    → bp-read-method-reads.Post κs a r x → 255 ≤ length a.1.0.now → (Deep a.0.now → ⊥) → (Crowded a.0.now → ⊥) → Plain 17 r.refusal
bp-read-method-plain κs a r x p room n c =
    subst (λ (q : BpMethod). Plain 17 q.refusal) (sym (p.0 ∙ ap method_result (with-room false a.0.now (length a.1.0.now) room)))
    (method-plain a.0.now (read_method a.0.now) (method-number a.0.now) n c)

-- BP_READ_METHOD_STRICT
pub bp-read-method-strict-plain : (κs : Lfts 2) (a : Dens κs bp-read-method-strict-kinds.ps) (r : (res_t bp-read-method-strict-kinds.r κs).Denot) (x : AtExit (ended_of 2 bp-read-method-strict-kinds.ps bp-read-method-strict-kinds.r) κs)
    → bp-read-method-strict-reads.Post κs a r x → 255 ≤ length a.1.0.now → (Deep a.0.now → ⊥) → (Crowded a.0.now → ⊥) → Plain 17 r.refusal ⊎ (r.refusal ≡ 24)
bp-read-method-strict-plain κs a r x p room n c =
    subst (λ (q : BpMethod). Plain 17 q.refusal ⊎ (q.refusal ≡ 24)) (sym (p.0 ∙ ap method_result (with-room true a.0.now (length a.1.0.now) room)))
    (strict-method-plain a.0.now (read_method_strict a.0.now) (strict-method-number a.0.now) n c)

-- WITH LESS ROOM BOTH REFUSE 22, AND NOTHING IS WRITTEN
pub bp-read-method-short : (κs : Lfts 2) (a : Dens κs bp-read-method-kinds.ps) (r : (res_t bp-read-method-kinds.r κs).Denot) (x : AtExit (ended_of 2 bp-read-method-kinds.ps bp-read-method-kinds.r) κs)
    → bp-read-method-reads.Post κs a r x → length a.1.0.now < 255 → (r ≡ bp_method (refused_method 22 0 0)) × (x.1.0.now ≡ a.1.0.now)
bp-read-method-short κs a r x p h = let w = method-short false a.0.now a.1.0.now h in (p.0 ∙ w.0, p.1 ∙ w.1)

pub bp-read-method-strict-short : (κs : Lfts 2) (a : Dens κs bp-read-method-strict-kinds.ps) (r : (res_t bp-read-method-strict-kinds.r κs).Denot) (x : AtExit (ended_of 2 bp-read-method-strict-kinds.ps bp-read-method-strict-kinds.r) κs)
    → bp-read-method-strict-reads.Post κs a r x → length a.1.0.now < 255 → (r ≡ bp_method (refused_method 22 0 0)) × (x.1.0.now ≡ a.1.0.now)
bp-read-method-strict-short κs a r x p h = let w = method-short true a.0.now a.1.0.now h in (p.0 ∙ w.0, p.1 ∙ w.1)
