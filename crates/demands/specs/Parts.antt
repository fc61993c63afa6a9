-- The exported writers over a part of a table of names that holds the names used: every result and output that their contracts allow there,
-- as the check reads them, are those over the whole table.
use Rattle.std.specs.Prelude.{◌≡◌, refl, true, List, map, ℕ, length}
use Rattle.std.proofs.Common.{sym, ap, ◌∙◌}
use borrow.Fn.Kinds.{Dens, res_t, ended_of}
use denote.Triple.Clauses.{AtExit}
use contract.Lifetimes.{Lfts}
use Rattle.names.specs.Names.{check_names}
use Rattle.writer.specs.Print.{print_word, print_method_words, type_refusal, method_refusal, answer, output}
use Rattle.writer.specs.Print as print
use Rattle.roundtrips.specs.Lent.{ascending, picked, renumbered, Lent, AllLent, type-lent, method-lent}
use Rattle.bracepuffin.proofs.bp_write_type.Reads as bp-write-type-reads
use Rattle.bracepuffin.proofs.bp_write_type.Kinds as bp-write-type-kinds
use Rattle.bracepuffin.proofs.bp_write_method.Reads as bp-write-method-reads
use Rattle.bracepuffin.proofs.bp_write_method.Kinds as bp-write-method-kinds
use Rattle.bracepuffin.specs.declared.BpWritten.{BpWritten}
use Rattle.bracepuffin.specs.Boundary.{Wrote, written_answer}

-- what is promised of both, where one of them keeps the other's promise
same : {k m : ℕ} {p q out out₁ out₂ : List ℕ} {r₁ r₂ : BpWritten}
    → print.Wrote m q out (output k p out) (answer k p)
    → Wrote k p out out₁ r₁ → Wrote m q out out₂ r₂ → (r₁ ≡ r₂) × (out₁ ≡ out₂)
same v s t = (s.result ∙ ap written_answer v.result ∙ sym t.result, s.memory ∙ v.memory ∙ sym t.memory)

module _ (bytes ats lens ks : List ℕ) (h : check_names bytes ats lens ≡ 0) (a : ascending 0 (length ats) ks ≡ true) where
  type-part : (w : ℕ) → Lent (length ats) ks w → (out out₁ out₂ : List ℕ) (r₁ r₂ : BpWritten)
      → Wrote (type_refusal bytes ats lens w (length out)) (print_word bytes ats lens w) out out₁ r₁
      → Wrote (type_refusal bytes (picked ats ks) (picked lens ks) (renumbered ks w) (length out)) (print_word bytes (picked ats ks) (picked lens ks) (renumbered ks w)) out out₂ r₂
      → (r₁ ≡ r₂) × (out₁ ≡ out₂)
  type-part w u out out₁ out₂ r₁ r₂ =
      let k = type_refusal bytes ats lens w (length out) in
      let p = print_word bytes ats lens w in
      same ((type-lent bytes ats lens ks h a w u out (output k p out) (answer k p)).1 (record { result = refl; memory = refl }))

  method-part : (ws : List ℕ) (w : ℕ) → AllLent (length ats) ks ws → Lent (length ats) ks w → (out out₁ out₂ : List ℕ) (r₁ r₂ : BpWritten)
      → Wrote (method_refusal bytes ats lens ws w (length out)) (print_method_words bytes ats lens ws w) out out₁ r₁
      → Wrote (method_refusal bytes (picked ats ks) (picked lens ks) (map (renumbered ks) ws) (renumbered ks w) (length out)) (print_method_words bytes (picked ats ks) (picked lens ks) (map (renumbered ks) ws) (renumbered ks w)) out out₂ r₂
      → (r₁ ≡ r₂) × (out₁ ≡ out₂)
  method-part ws w us u out out₁ out₂ r₁ r₂ =
      let k = method_refusal bytes ats lens ws w (length out) in
      let p = print_method_words bytes ats lens ws w in
      same ((method-lent bytes ats lens ks h a ws w us u out (output k p out) (answer k p)).1 (record { result = refl; memory = refl }))

-- BP_WRITE_TYPE OVER THE PART, THE CLASS BY ITS PLACE AMONG THOSE LENT, DOES WHAT IT DOES OVER THE TABLE
pub bp-write-type-part : (κs : Lfts 4) (a b : Dens κs bp-write-type-kinds.ps) (r₁ r₂ : (res_t bp-write-type-kinds.r κs).Denot) (x₁ x₂ : AtExit (ended_of 4 bp-write-type-kinds.ps bp-write-type-kinds.r) κs)
    → bp-write-type-reads.Post κs a r₁ x₁ → bp-write-type-reads.Post κs b r₂ x₂
    → (ks : List ℕ) → check_names a.0.now a.1.0.now a.1.1.0.now ≡ 0 → ascending 0 (length a.1.0.now) ks ≡ true
    → Lent (length a.1.0.now) ks a.1.1.1.0
    → b.0.now ≡ a.0.now → b.1.0.now ≡ picked a.1.0.now ks → b.1.1.0.now ≡ picked a.1.1.0.now ks
    → b.1.1.1.0 ≡ renumbered ks a.1.1.1.0 → b.1.1.1.1.0.now ≡ a.1.1.1.1.0.now
    → (r₁ ≡ r₂) × (x₁.1.1.1.1.0.now ≡ x₂.1.1.1.1.0.now)
bp-write-type-part κs a b r₁ r₂ x₁ x₂ p q ks h asc u bytes ats lens word out =
    type-part a.0.now a.1.0.now a.1.1.0.now ks h asc a.1.1.1.0 u a.1.1.1.1.0.now _ _ r₁ r₂ p (rw (bytes, ats, lens, word, out) at q)

-- AND SO DOES BP_WRITE_METHOD
pub bp-write-method-part : (κs : Lfts 5) (a b : Dens κs bp-write-method-kinds.ps) (r₁ r₂ : (res_t bp-write-method-kinds.r κs).Denot) (x₁ x₂ : AtExit (ended_of 5 bp-write-method-kinds.ps bp-write-method-kinds.r) κs)
    → bp-write-method-reads.Post κs a r₁ x₁ → bp-write-method-reads.Post κs b r₂ x₂
    → (ks : List ℕ) → check_names a.0.now a.1.0.now a.1.1.0.now ≡ 0 → ascending 0 (length a.1.0.now) ks ≡ true
    → AllLent (length a.1.0.now) ks a.1.1.1.0.now → Lent (length a.1.0.now) ks a.1.1.1.1.0
    → b.0.now ≡ a.0.now → b.1.0.now ≡ picked a.1.0.now ks → b.1.1.0.now ≡ picked a.1.1.0.now ks
    → b.1.1.1.0.now ≡ map (renumbered ks) a.1.1.1.0.now → b.1.1.1.1.0 ≡ renumbered ks a.1.1.1.1.0 → b.1.1.1.1.1.0.now ≡ a.1.1.1.1.1.0.now
    → (r₁ ≡ r₂) × (x₁.1.1.1.1.1.0.now ≡ x₂.1.1.1.1.1.0.now)
bp-write-method-part κs a b r₁ r₂ x₁ x₂ p q ks h asc us u bytes ats lens params result out =
    method-part a.0.now a.1.0.now a.1.1.0.now ks h asc a.1.1.1.0.now a.1.1.1.1.0 us u a.1.1.1.1.1.0.now _ _ r₁ r₂ p (rw (bytes, ats, lens, params, result, out) at q)
