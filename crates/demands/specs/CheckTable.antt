-- The check of a table among the demands: of every result that the contract of `bp_check_table` allows, as the check reads it. It takes any columns;
-- in the domain nothing is refused, and nothing else is let through; what is refused is the first row in order, and every question over the
-- same columns is refused with the same number.
use Rattle.std.specs.Prelude.{◌≡◌, refl, ◌↔◌, ◌≤◌, ◌<◌, length}
use Rattle.std.proofs.Math.Path.{sym, ap}
use Rattle.std.proofs.Common.{◌∙◌, subst, lt-ltb}
use Rattle.std.proofs.Math.Bool.{true, false}
use borrow.Fn.Kinds.{Dens, res_t, ended_of}
use denote.Triple.Clauses.{AtExit}
use contract.Lifetimes.{Lfts}
use Rattle.rows.specs.Rows.{all_below}
use Rattle.columns.specs.Given.{Given, given}
use Rattle.tableview.specs.TableRows.{rows_view, rows_in}
use Rattle.stackview.specs.LayerRows.{shown_in}
use Rattle.tableview.specs.Domain.{Aligned}
use Rattle.tableview.specs.Domain.{Placed}
use Rattle.tableview.proofs.Domain.{even-exactly}
use Rattle.stackview.specs.Domain.{LayersInDomain}
use Rattle.stackview.proofs.Domain.{stack-exactly, shown-object}
use Rattle.stackview.proofs.Shown.{stack-refused}
use Rattle.questions.specs.declared.Question.TheVariants.{Relation, Distance, Supertype, Cast, Join, Assignable}
use Rattle.questions.specs.Questions.{good_numbers}
use Rattle.tablecheck.specs.TableCheck.{told, table_check}
use Rattle.questionlaws.specs.Accepted.{NumbersIn}
use Rattle.questionlaws.specs.FirstRow.{Finds, check-finds}
use Rattle.questionlaws.specs.Checked.{question-alike, ancestors-alike, zero-exactly}
use Rattle.bracepuffin.proofs.bp_check_table.Reads as bp-check-table-reads
use Rattle.bracepuffin.proofs.bp_check_table.Kinds as bp-check-table-kinds
use Rattle.bracepuffin.proofs.bp_relation.Reads as bp-relation-reads
use Rattle.bracepuffin.proofs.bp_relation.Kinds as bp-relation-kinds
use Rattle.bracepuffin.proofs.bp_distance.Reads as bp-distance-reads
use Rattle.bracepuffin.proofs.bp_distance.Kinds as bp-distance-kinds
use Rattle.bracepuffin.proofs.bp_ancestors.Reads as bp-ancestors-reads
use Rattle.bracepuffin.proofs.bp_ancestors.Kinds as bp-ancestors-kinds
use Rattle.bracepuffin.proofs.bp_supertype.Reads as bp-supertype-reads
use Rattle.bracepuffin.proofs.bp_supertype.Kinds as bp-supertype-kinds
use Rattle.bracepuffin.proofs.bp_cast.Reads as bp-cast-reads
use Rattle.bracepuffin.proofs.bp_cast.Kinds as bp-cast-kinds
use Rattle.bracepuffin.proofs.bp_join.Reads as bp-join-reads
use Rattle.bracepuffin.proofs.bp_join.Kinds as bp-join-kinds
use Rattle.bracepuffin.proofs.bp_assignable.Reads as bp-assignable-reads
use Rattle.bracepuffin.proofs.bp_assignable.Kinds as bp-assignable-kinds
use Rattle.bracepuffin.specs.declared.BpTable.{BpTable}
use Rattle.bracepuffin.specs.declared.BpRelation.{BpRelation}
use Rattle.bracepuffin.specs.declared.BpAnswer.{BpAnswer}
use Rattle.bracepuffin.specs.declared.BpSet.{BpSet}
use Rattle.bracepuffin.specs.Boundary.{relation_told, distance_told, ancestors_told, supertype_told, cast_told, join_told, assignable_told}
use Rattle.demands.specs.Asked.{columns_asked, first_asked, second_asked, room_asked, columns_of_one, class_of_one, room_of_one}
use Rattle.demands.specs.Classes.{answer-refusal, gathered-refusal}
use Rattle.demands.specs.NotRefused.{numbers-good}

-- the eight columns
abbrev pub columns_checked : (κs : Lfts 8) → Dens κs bp-check-table-kinds.ps → Given
columns_checked κs a =
    given a.0.now a.1.0.now a.1.1.0.now a.1.1.1.0.now a.1.1.1.1.0.now a.1.1.1.1.1.0.now a.1.1.1.1.1.1.0.now a.1.1.1.1.1.1.1.0.now

-- columns of equal length, every row inside its slice, the rows in the domain
pub record Tabled (g : Given) : Type 0 where
  pub aligned : Aligned g
  pub placed : Placed g
  pub rows : LayersInDomain (rows_in g)

tabled-exactly : (g : Given) → ((table_check g).refusal ≡ 0) ↔ Tabled g
tabled-exactly g = (
  λ z. let w = (zero-exactly g).0 z in
      let al = (even-exactly g).0 w.0 in
      let t = (stack-exactly g al).0 (stack-refused g ∙ w.1) in
      record { aligned = al; placed = t.0; rows = record { limits = t.1; object-named = (shown-object g t.1.few-names).0 w.2 } },
  λ w. (zero-exactly g).1 (
    (even-exactly g).1 w.aligned,
    sym (stack-refused g) ∙ (stack-exactly g w.aligned).1 (w.placed, w.rows.limits),
    (shown-object g w.rows.limits.few-names).1 w.rows.object-named,
  ),
)

module _ (κs : Lfts 8) (a : Dens κs bp-check-table-kinds.ps) (r : (res_t bp-check-table-kinds.r κs).Denot) (x : AtExit (ended_of 8 bp-check-table-kinds.ps bp-check-table-kinds.r) κs)
    (p : bp-check-table-reads.Post κs a r x) where
  refusal-told : r.refusal ≡ (table_check (columns_checked κs a)).refusal
  refusal-told = ap (λ (q : BpTable). q.refusal) p

  -- A TABLE IS NOT REFUSED EXACTLY IN THE DOMAIN
  pub bp-check-table-taken : (r.refusal ≡ 0) ↔ Tabled (columns_checked κs a)
  bp-check-table-taken = (λ z. (tabled-exactly (columns_checked κs a)).0 (sym refusal-told ∙ z), λ w. refusal-told ∙ (tabled-exactly (columns_checked κs a)).1 w)

  -- WHAT IS TOLD IS THE FIRST THAT IS REFUSED: columns, the first name, the first record, the lack of Object; or nothing, and zeros
  pub bp-check-table-finds : Finds (columns_checked κs a) (told r.refusal r.part r.row)
  bp-check-table-finds = subst (λ (q : BpTable). Finds (columns_checked κs a) (told q.refusal q.part q.row)) (sym p) (check-finds (columns_checked κs a))

  -- ---- EVERY QUESTION OVER THE SAME COLUMNS, with a work of 8,192 words and numbers of classes, or types, IS REFUSED WITH THE SAME NUMBER

  pub bp-relation-alike : (λs : Lfts 9) (b : Dens λs bp-relation-kinds.ps) (q : (res_t bp-relation-kinds.r λs).Denot) (y : AtExit (ended_of 9 bp-relation-kinds.ps bp-relation-kinds.r) λs)
      → bp-relation-reads.Post λs b q y → columns_asked λs b ≡ columns_checked κs a → 8192 ≤ room_asked λs b
      → NumbersIn false (length (shown_in (columns_asked λs b)).names) (first_asked λs b) (second_asked λs b) → q.refusal ≡ r.refusal
  unfolding relation_told rows_view
  bp-relation-alike λs b q y o e h w =
      ap (λ (z : BpRelation). z.refusal) o.0 ∙ answer-refusal _ _
      ∙ question-alike (columns_asked λs b) Relation (first_asked λs b) (second_asked λs b) (room_asked λs b) h ((numbers-good false (length (shown_in (columns_asked λs b)).names) (first_asked λs b) (second_asked λs b)).1 w)
      ∙ ap (λ (g : Given). (table_check g).refusal) e ∙ sym refusal-told

  pub bp-distance-alike : (λs : Lfts 9) (b : Dens λs bp-distance-kinds.ps) (q : (res_t bp-distance-kinds.r λs).Denot) (y : AtExit (ended_of 9 bp-distance-kinds.ps bp-distance-kinds.r) λs)
      → bp-distance-reads.Post λs b q y → columns_asked λs b ≡ columns_checked κs a → 8192 ≤ room_asked λs b
      → NumbersIn false (length (shown_in (columns_asked λs b)).names) (first_asked λs b) (second_asked λs b) → q.refusal ≡ r.refusal
  unfolding distance_told rows_view
  bp-distance-alike λs b q y o e h w =
      ap (λ (z : BpAnswer). z.refusal) o.0 ∙ answer-refusal _ _
      ∙ question-alike (columns_asked λs b) Distance (first_asked λs b) (second_asked λs b) (room_asked λs b) h ((numbers-good false (length (shown_in (columns_asked λs b)).names) (first_asked λs b) (second_asked λs b)).1 w)
      ∙ ap (λ (g : Given). (table_check g).refusal) e ∙ sym refusal-told

  pub bp-supertype-alike : (λs : Lfts 9) (b : Dens λs bp-supertype-kinds.ps) (q : (res_t bp-supertype-kinds.r λs).Denot) (y : AtExit (ended_of 9 bp-supertype-kinds.ps bp-supertype-kinds.r) λs)
      → bp-supertype-reads.Post λs b q y → columns_asked λs b ≡ columns_checked κs a → 8192 ≤ room_asked λs b
      → NumbersIn false (length (shown_in (columns_asked λs b)).names) (first_asked λs b) (second_asked λs b) → q.refusal ≡ r.refusal
  unfolding supertype_told rows_view
  bp-supertype-alike λs b q y o e h w =
      ap (λ (z : BpAnswer). z.refusal) o.0 ∙ answer-refusal _ _
      ∙ question-alike (columns_asked λs b) Supertype (first_asked λs b) (second_asked λs b) (room_asked λs b) h ((numbers-good false (length (shown_in (columns_asked λs b)).names) (first_asked λs b) (second_asked λs b)).1 w)
      ∙ ap (λ (g : Given). (table_check g).refusal) e ∙ sym refusal-told

  pub bp-cast-alike : (λs : Lfts 9) (b : Dens λs bp-cast-kinds.ps) (q : (res_t bp-cast-kinds.r λs).Denot) (y : AtExit (ended_of 9 bp-cast-kinds.ps bp-cast-kinds.r) λs)
      → bp-cast-reads.Post λs b q y → columns_asked λs b ≡ columns_checked κs a → 8192 ≤ room_asked λs b
      → NumbersIn false (length (shown_in (columns_asked λs b)).names) (first_asked λs b) (second_asked λs b) → q.refusal ≡ r.refusal
  unfolding cast_told rows_view
  bp-cast-alike λs b q y o e h w =
      ap (λ (z : BpAnswer). z.refusal) o.0 ∙ answer-refusal _ _
      ∙ question-alike (columns_asked λs b) Cast (first_asked λs b) (second_asked λs b) (room_asked λs b) h ((numbers-good false (length (shown_in (columns_asked λs b)).names) (first_asked λs b) (second_asked λs b)).1 w)
      ∙ ap (λ (g : Given). (table_check g).refusal) e ∙ sym refusal-told

  pub bp-join-alike : (λs : Lfts 9) (b : Dens λs bp-join-kinds.ps) (q : (res_t bp-join-kinds.r λs).Denot) (y : AtExit (ended_of 9 bp-join-kinds.ps bp-join-kinds.r) λs)
      → bp-join-reads.Post λs b q y → columns_asked λs b ≡ columns_checked κs a → 8192 ≤ room_asked λs b
      → NumbersIn true (length (shown_in (columns_asked λs b)).names) (first_asked λs b) (second_asked λs b) → q.refusal ≡ r.refusal
  unfolding join_told rows_view
  bp-join-alike λs b q y o e h w =
      ap (λ (z : BpAnswer). z.refusal) o.0 ∙ answer-refusal _ _
      ∙ question-alike (columns_asked λs b) Join (first_asked λs b) (second_asked λs b) (room_asked λs b) h ((numbers-good true (length (shown_in (columns_asked λs b)).names) (first_asked λs b) (second_asked λs b)).1 w)
      ∙ ap (λ (g : Given). (table_check g).refusal) e ∙ sym refusal-told

  pub bp-assignable-alike : (λs : Lfts 9) (b : Dens λs bp-assignable-kinds.ps) (q : (res_t bp-assignable-kinds.r λs).Denot) (y : AtExit (ended_of 9 bp-assignable-kinds.ps bp-assignable-kinds.r) λs)
      → bp-assignable-reads.Post λs b q y → columns_asked λs b ≡ columns_checked κs a → 8192 ≤ room_asked λs b
      → NumbersIn true (length (shown_in (columns_asked λs b)).names) (first_asked λs b) (second_asked λs b) → q.refusal ≡ r.refusal
  unfolding assignable_told rows_view
  bp-assignable-alike λs b q y o e h w =
      ap (λ (z : BpAnswer). z.refusal) o.0 ∙ answer-refusal _ _
      ∙ question-alike (columns_asked λs b) Assignable (first_asked λs b) (second_asked λs b) (room_asked λs b) h ((numbers-good true (length (shown_in (columns_asked λs b)).names) (first_asked λs b) (second_asked λs b)).1 w)
      ∙ ap (λ (g : Given). (table_check g).refusal) e ∙ sym refusal-told

  pub bp-ancestors-alike : (λs : Lfts 9) (b : Dens λs bp-ancestors-kinds.ps) (q : (res_t bp-ancestors-kinds.r λs).Denot) (y : AtExit (ended_of 9 bp-ancestors-kinds.ps bp-ancestors-kinds.r) λs)
      → bp-ancestors-reads.Post λs b q y → columns_of_one λs b ≡ columns_checked κs a → 8192 ≤ room_of_one λs b
      → class_of_one λs b < length (shown_in (columns_of_one λs b)).names → q.refusal ≡ r.refusal
  unfolding ancestors_told rows_view good_numbers all_below
  bp-ancestors-alike λs b q y o e h w =
      ap (λ (z : BpSet). z.refusal) o.0 ∙ gathered-refusal _ _
      ∙ ancestors-alike (columns_of_one λs b) (class_of_one λs b) (room_of_one λs b) h (rw (lt-ltb (class_of_one λs b) (length (shown_in (columns_of_one λs b)).names) w) refl)
      ∙ ap (λ (g : Given). (table_check g).refusal) e ∙ sym refusal-told
