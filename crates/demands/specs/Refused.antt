-- A REFUSED QUESTION, AND ITS WORK, of every result and every content of the work that the contracts of the seven questions allow, as the check
-- reads them: 22 exactly if the work is too short, and any number exactly if it is that of the first check of the list that holds; the work as
-- it came with 22, else zero.
use Rattle.std.specs.Prelude.{◌≡◌, Bool, true, false, List, [], ◌∷◌, ◌↔◌, ℕ, ◌<◌, ltb, length, replicate}
use Rattle.std.proofs.Common.{sym, ap, ◌∙◌}
use borrow.Fn.Kinds.{Dens, res_t, ended_of}
use denote.Triple.Clauses.{AtExit}
use contract.Lifetimes.{Lfts}
use Rattle.checks.specs.Checks.{check, FirstOf, first-of}
use Rattle.columns.specs.Given.{Given}
use Rattle.questions.specs.Questions.{table_checks, refusal_of, work_after}
use Rattle.questionlaws.specs.Refusals.{short-exactly, work-kept, work-zero}
use Rattle.bracepuffin.proofs.bp_relation.Reads as bp-relation-reads
use Rattle.bracepuffin.proofs.bp_relation.Kinds as bp-relation-kinds
use Rattle.bracepuffin.proofs.bp_distance.Reads as bp-distance-reads
use Rattle.bracepuffin.proofs.bp_distance.Kinds as bp-distance-kinds
use Rattle.bracepuffin.proofs.bp_supertype.Reads as bp-supertype-reads
use Rattle.bracepuffin.proofs.bp_supertype.Kinds as bp-supertype-kinds
use Rattle.bracepuffin.proofs.bp_cast.Reads as bp-cast-reads
use Rattle.bracepuffin.proofs.bp_cast.Kinds as bp-cast-kinds
use Rattle.bracepuffin.proofs.bp_join.Reads as bp-join-reads
use Rattle.bracepuffin.proofs.bp_join.Kinds as bp-join-kinds
use Rattle.bracepuffin.proofs.bp_assignable.Reads as bp-assignable-reads
use Rattle.bracepuffin.proofs.bp_assignable.Kinds as bp-assignable-kinds
use Rattle.bracepuffin.proofs.bp_ancestors.Reads as bp-ancestors-reads
use Rattle.bracepuffin.proofs.bp_ancestors.Kinds as bp-ancestors-kinds
use Rattle.bracepuffin.specs.declared.BpRelation.{BpRelation}
use Rattle.bracepuffin.specs.declared.BpAnswer.{BpAnswer}
use Rattle.bracepuffin.specs.declared.BpSet.{BpSet}
use Rattle.bracepuffin.specs.Boundary.{relation_told, distance_told, ancestors_told, supertype_told, cast_told, join_told, assignable_told}
use Rattle.demands.specs.Asked.{columns_asked, first_asked, second_asked, columns_of_one, class_of_one}
use Rattle.demands.specs.Classes.{answer-refusal, gathered-refusal}

-- what a refusal says and what is then in the work; `types` where words are asked about, else classes
pub record Refuses (g : Given) (types : Bool) (numbers before after : List ℕ) (refusal : ℕ) : Type 0 where
  pub short : (refusal ≡ 22) ↔ (length before < 8192)
  pub first : (k : ℕ) → (k ≡ 0 → ⊥) → (refusal ≡ k) ↔ FirstOf (check (ltb (length before) 8192) 22 ∷ table_checks g types numbers) k
  pub kept : refusal ≡ 22 → after ≡ before
  pub zeroed : (refusal ≡ 22 → ⊥) → after ≡ replicate (length before) 0

refuses : (g : Given) (types : Bool) (numbers before after : List ℕ) (n : ℕ) → n ≡ refusal_of g types numbers (length before) → after ≡ work_after before → Refuses g types numbers before after n
unfolding refusal_of
refuses g types numbers before after n e m =
    let s = short-exactly g types numbers before in
    let f = first-of (check (ltb (length before) 8192) 22 ∷ table_checks g types numbers) in
    record {
      short = (λ h. s.0 (sym e ∙ h), λ h. e ∙ s.1 h);
      first = λ k z. (λ h. (f k z).0 (sym e ∙ h), λ h. e ∙ (f k z).1 h);
      kept = λ h. m ∙ work-kept g types numbers before (sym e ∙ h);
      zeroed = λ h. m ∙ work-zero g types numbers before (λ z. h (e ∙ z));
    }

-- ---- the work, before and after; the six questions with two numbers are of the same kinds

abbrev pub work_asked : (κs : Lfts 9) → Dens κs bp-relation-kinds.ps → List ℕ
work_asked κs a = a.1.1.1.1.1.1.1.1.1.1.0.now

abbrev pub work_of_one : (κs : Lfts 9) → Dens κs bp-ancestors-kinds.ps → List ℕ
work_of_one κs a = a.1.1.1.1.1.1.1.1.1.0.now

-- ---- OF WHAT THE EXPORTED FUNCTIONS RETURN AND LEAVE

pub bp-relation-refuses : (κs : Lfts 9) (a : Dens κs bp-relation-kinds.ps) (r : (res_t bp-relation-kinds.r κs).Denot) (x : AtExit (ended_of 9 bp-relation-kinds.ps bp-relation-kinds.r) κs)
    → bp-relation-reads.Post κs a r x → Refuses (columns_asked κs a) false (first_asked κs a ∷ second_asked κs a ∷ []) (work_asked κs a) x.1.1.1.1.1.1.1.1.1.1.0.now r.refusal
unfolding relation_told
bp-relation-refuses κs a r x p = refuses (columns_asked κs a) false (first_asked κs a ∷ second_asked κs a ∷ []) (work_asked κs a) x.1.1.1.1.1.1.1.1.1.1.0.now r.refusal (ap (λ (q : BpRelation). q.refusal) p.0 ∙ answer-refusal _ _) p.1

pub bp-distance-refuses : (κs : Lfts 9) (a : Dens κs bp-distance-kinds.ps) (r : (res_t bp-distance-kinds.r κs).Denot) (x : AtExit (ended_of 9 bp-distance-kinds.ps bp-distance-kinds.r) κs)
    → bp-distance-reads.Post κs a r x → Refuses (columns_asked κs a) false (first_asked κs a ∷ second_asked κs a ∷ []) (work_asked κs a) x.1.1.1.1.1.1.1.1.1.1.0.now r.refusal
unfolding distance_told
bp-distance-refuses κs a r x p = refuses (columns_asked κs a) false (first_asked κs a ∷ second_asked κs a ∷ []) (work_asked κs a) x.1.1.1.1.1.1.1.1.1.1.0.now r.refusal (ap (λ (q : BpAnswer). q.refusal) p.0 ∙ answer-refusal _ _) p.1

pub bp-supertype-refuses : (κs : Lfts 9) (a : Dens κs bp-supertype-kinds.ps) (r : (res_t bp-supertype-kinds.r κs).Denot) (x : AtExit (ended_of 9 bp-supertype-kinds.ps bp-supertype-kinds.r) κs)
    → bp-supertype-reads.Post κs a r x → Refuses (columns_asked κs a) false (first_asked κs a ∷ second_asked κs a ∷ []) (work_asked κs a) x.1.1.1.1.1.1.1.1.1.1.0.now r.refusal
unfolding supertype_told
bp-supertype-refuses κs a r x p = refuses (columns_asked κs a) false (first_asked κs a ∷ second_asked κs a ∷ []) (work_asked κs a) x.1.1.1.1.1.1.1.1.1.1.0.now r.refusal (ap (λ (q : BpAnswer). q.refusal) p.0 ∙ answer-refusal _ _) p.1

pub bp-cast-refuses : (κs : Lfts 9) (a : Dens κs bp-cast-kinds.ps) (r : (res_t bp-cast-kinds.r κs).Denot) (x : AtExit (ended_of 9 bp-cast-kinds.ps bp-cast-kinds.r) κs)
    → bp-cast-reads.Post κs a r x → Refuses (columns_asked κs a) false (first_asked κs a ∷ second_asked κs a ∷ []) (work_asked κs a) x.1.1.1.1.1.1.1.1.1.1.0.now r.refusal
unfolding cast_told
bp-cast-refuses κs a r x p = refuses (columns_asked κs a) false (first_asked κs a ∷ second_asked κs a ∷ []) (work_asked κs a) x.1.1.1.1.1.1.1.1.1.1.0.now r.refusal (ap (λ (q : BpAnswer). q.refusal) p.0 ∙ answer-refusal _ _) p.1

pub bp-join-refuses : (κs : Lfts 9) (a : Dens κs bp-join-kinds.ps) (r : (res_t bp-join-kinds.r κs).Denot) (x : AtExit (ended_of 9 bp-join-kinds.ps bp-join-kinds.r) κs)
    → bp-join-reads.Post κs a r x → Refuses (columns_asked κs a) true (first_asked κs a ∷ second_asked κs a ∷ []) (work_asked κs a) x.1.1.1.1.1.1.1.1.1.1.0.now r.refusal
unfolding join_told
bp-join-refuses κs a r x p = refuses (columns_asked κs a) true (first_asked κs a ∷ second_asked κs a ∷ []) (work_asked κs a) x.1.1.1.1.1.1.1.1.1.1.0.now r.refusal (ap (λ (q : BpAnswer). q.refusal) p.0 ∙ answer-refusal _ _) p.1

pub bp-assignable-refuses : (κs : Lfts 9) (a : Dens κs bp-assignable-kinds.ps) (r : (res_t bp-assignable-kinds.r κs).Denot) (x : AtExit (ended_of 9 bp-assignable-kinds.ps bp-assignable-kinds.r) κs)
    → bp-assignable-reads.Post κs a r x → Refuses (columns_asked κs a) true (first_asked κs a ∷ second_asked κs a ∷ []) (work_asked κs a) x.1.1.1.1.1.1.1.1.1.1.0.now r.refusal
unfolding assignable_told
bp-assignable-refuses κs a r x p = refuses (columns_asked κs a) true (first_asked κs a ∷ second_asked κs a ∷ []) (work_asked κs a) x.1.1.1.1.1.1.1.1.1.1.0.now r.refusal (ap (λ (q : BpAnswer). q.refusal) p.0 ∙ answer-refusal _ _) p.1

pub bp-ancestors-refuses : (κs : Lfts 9) (a : Dens κs bp-ancestors-kinds.ps) (r : (res_t bp-ancestors-kinds.r κs).Denot) (x : AtExit (ended_of 9 bp-ancestors-kinds.ps bp-ancestors-kinds.r) κs)
    → bp-ancestors-reads.Post κs a r x → Refuses (columns_of_one κs a) false (class_of_one κs a ∷ []) (work_of_one κs a) x.1.1.1.1.1.1.1.1.1.0.now r.refusal
unfolding ancestors_told
bp-ancestors-refuses κs a r x p = refuses (columns_of_one κs a) false (class_of_one κs a ∷ []) (work_of_one κs a) x.1.1.1.1.1.1.1.1.1.0.now r.refusal (ap (λ (q : BpSet). q.refusal) p.0 ∙ gathered-refusal _ _) p.1
