-- WHAT A STATE THAT LINES LEAD TO GIVES EACH FRAME of what it asks for; and what a head that is not refused says of kind and body.
use Rattle.std.specs.Prelude.{◌≡◌, refl, Bool, true, false, cond, not, ◌&&◌, ◌||◌, List, ◌⊎◌, ℕ, ◌+◌, ◌-◌, ◌%◌, ◌≤◌, ◌<◌, eqb, ltb, length, take}
use Rattle.std.proofs.Common.{sym, ap, ◌∙◌, arith}
use Rattle.std.proofs.Math.Logic.{⊎_elim}
use Rattle.std.proofs.Math.Dec.{leb}
use borrow.Author.Tests.{ne_eqb, lt-leb, eqb-true, eqb-false, leb-true, ltb-false}
use Rattle.order.specs.Truth.{both}
use Rattle.checks.specs.Checks.{first_refusal}
use Rattle.sorted.specs.Sorted.{Sorted}
use Rattle.layers.specs.Stacks.{Holds}
use Rattle.problems.proofs.Kept.{keeps-bounds, keeps-flows, keeps-uppers, keeps-reads, keeps-writes}
use Rattle.frames.specs.Frames.{bad_kind, good_length, bad_order}
use Rattle.framelaws.specs.Reached.{order-says}
use Rattle.framestate.specs.declared.Numbers.{Numbers}
use Rattle.framestate.specs.FrameState.{Slices, Ready}
use Rattle.frameleaves.specs.Own.{own-layers, many-reads, many-writes}
use Rattle.solveframe.specs.Parts.{part, slices_of}
use Rattle.frameheads.specs.Heads.{head_refusal}

-- ---- the head

pub record Passed (k n rank : ℕ) : Type 0 where
  pub from : 1 ≤ k
  pub to : k ≤ 14
  pub sized : good_length k n ≡ true
  pub order : bad_order k rank ≡ false

pub head-says : (k n rank : ℕ) → head_refusal k n rank ≡ 0 → Passed k n rank
unfolding head_refusal first_refusal bad_kind
head-says k n rank h = go (eqb k 0) refl (ltb 14 k) refl (good_length k n) refl (bad_order k rank) refl h
  where
    go : (a : Bool) → eqb k 0 ≡ a → (b : Bool) → ltb 14 k ≡ b → (c : Bool) → good_length k n ≡ c → (d : Bool) → bad_order k rank ≡ d
        → ◌≡◌ {A = ℕ} (cond (a || b) 2 (cond (not c) 3 (cond d 4 0))) 0 → Passed k n rank
    go true ea b eb c ec d ed q = absurd (omega arith)
    go false ea true eb c ec d ed q = absurd (omega arith)
    go false ea false eb false ec d ed q = absurd (omega arith)
    go false ea false eb true ec true ed q = absurd (omega arith)
    go false ea false eb true ec false ed q = record {
      from = (let z = eqb-false k 0 ea in omega arith);
      to = ltb-false 14 k eb;
      sized = ec;
      order = ed;
    }

-- the length of a body, by kind
module _ (n : ℕ) where
  pub sized-1 : good_length 1 n ≡ true → (1 ≤ n) × (n ≤ 255)
  unfolding good_length
  sized-1 h = let z = both (leb 1 n) (leb n 255) h in (leb-true 1 n z.0, leb-true n 255 z.1)

  pub sized-2 : good_length 2 n ≡ true → (3 ≤ n) × (n % 2 ≡ 1) × (n ≤ 511)
  unfolding good_length
  sized-2 h =
      let z = both (leb 3 n) (eqb (n % 2) 1 && leb n 511) h in
      let y = both (eqb (n % 2) 1) (leb n 511) z.1 in
      (leb-true 3 n z.0, eqb-true (n % 2) 1 y.0, leb-true n 511 y.1)

  pub sized-two : (k : ℕ) → (k ≡ 3) ⊎ (k ≡ 4) → good_length k n ≡ true → n ≡ 2
  unfolding good_length
  sized-two k e = ⊎_elim (λ x h. eqb-true n 2 (ap (λ (j : ℕ). good_length j n) (sym x) ∙ h)) (λ x h. eqb-true n 2 (ap (λ (j : ℕ). good_length j n) (sym x) ∙ h)) e

  pub sized-5 : good_length 5 n ≡ true → n ≡ 11
  unfolding good_length
  sized-5 = eqb-true n 11

-- two numbers
pub sized-pair : (k n : ℕ) → 5 < k → (k ≡ 10 → ⊥) → (k ≡ 14 → ⊥) → good_length k n ≡ true → n ≡ 4
unfolding good_length
sized-pair k n a b d h =
    eqb-true n 4
    (sym (λ i. cond (ne_eqb k 1 (λ e. omega arith) i) (leb 1 n && leb n 255) (cond (ne_eqb k 2 (λ e. omega arith) i) (leb 3 n && (eqb (n % 2) 1 && leb n 511)) (cond (lt-leb k 4 (omega arith) i) (eqb n 2) (cond (ne_eqb k 5 (λ e. omega arith) i) (eqb n 11) (cond (ne_eqb k 10 b i) (eqb n 0) (cond (ne_eqb k 14 d i) (eqb n 0) (eqb n 4)))))))
    ∙ h)

-- 03 comes while there is no problem yet
pub count-early : (rank : ℕ) → bad_order 3 rank ≡ false → rank < 3
unfolding bad_order
count-early rank h = let z = order-says 3 rank h in let y = z.1 refl in go rank z.0 y
  where
    go : (r : ℕ) → r ≤ 3 → (r ≡ 3 → ⊥) → r < 3
    go r a b = omega arith

-- ---- the slices

module _ (last pairs marks rows : List ℕ) (n : Numbers) (h : Ready (slices_of last pairs marks rows) n) (size : ℕ) where
  abbrev l : Slices
  l = slices_of last pairs marks rows

  few : n.stack.tables.names ≤ 1024
  few = h.sound.good.few

  pub name-asks : size ≤ 255 → (n.last ≤ length last) × (size ≤ length last)
  name-asks e = let a = h.sized.last in let b = h.within.last in (omega arith, omega arith)

  pub record-asks : (3 ≤ size) × (size % 2 ≡ 1) × (size ≤ 511)
      → (3 ≤ size) × (size % 2 ≡ 1) × (size ≤ 511) × Holds pairs marks n.stack
  record-asks e = (e.0, e.1, e.2, own-layers l n h)

  pub variable-asks : size ≡ 2 → (size ≡ 2) × (n.variables ≤ length (part 0 2048 rows)) × (2048 ≤ length (part 0 2048 rows))
  variable-asks e = let a = h.sized.variables in let b = h.within.variables in (e, omega arith, omega arith)

  pub bound-asks : size ≡ 11 → (size ≡ 11) × (n.stack.tables.names ≤ 1024) × (n.components ≤ 512) × (n.bounds ≤ 4096) × (4096 ≤ length (part 2048 4096 rows)) × Sorted (take n.bounds (part 2048 4096 rows))
  bound-asks e = let a = h.sized.bounds in (e, few, h.keeps.held.few, h.within.bounds, omega arith, keeps-bounds n.stack.tables.names n.components _ _ _ _ _ _ h.keeps few)

  pub flow-asks : size ≡ 4 → (size ≡ 4) × (n.components ≤ 512) × (n.flows ≤ 2048) × (2048 ≤ length (part 6144 2048 rows)) × Sorted (take n.flows (part 6144 2048 rows))
  flow-asks e = let a = h.sized.flows in (e, h.keeps.held.few, h.within.flows, omega arith, keeps-flows n.stack.tables.names n.components _ _ _ _ _ _ h.keeps)

  pub upper-asks : size ≡ 4 → (size ≡ 4) × (n.components ≤ 512) × (n.uppers ≤ 1024) × (1024 ≤ length (part 8192 1024 rows)) × Sorted (take n.uppers (part 8192 1024 rows))
  upper-asks e = let a = h.sized.uppers in (e, h.keeps.held.few, h.within.uppers, omega arith, keeps-uppers n.stack.tables.names n.components _ _ _ _ _ _ h.keeps)

  -- reads and writes together are within their room
  together : n.reads + n.writes ≤ 1024
  together = let r = many-reads l n h in let w = many-writes l n h in let z = h.keeps.held.arrays-few in omega arith

  pub read-asks : size ≡ 4 → (size ≡ 4) × (n.components ≤ 512) × (n.writes ≤ 1024) × (n.reads ≤ 1024 - n.writes) × (1024 ≤ length (part 9216 1024 rows)) × Sorted (take n.reads (part 9216 1024 rows))
  read-asks e = let t = together in let a = h.sized.reads in (e, h.keeps.held.few, h.within.writes, omega arith, omega arith, keeps-reads n.stack.tables.names n.components _ _ _ _ _ _ h.keeps)

  pub write-asks : size ≡ 4 → (size ≡ 4) × (n.components ≤ 512) × (n.reads ≤ 1024) × (n.writes ≤ 1024 - n.reads) × (1024 ≤ length (part 10240 1024 rows)) × Sorted (take n.writes (part 10240 1024 rows))
  write-asks e = let t = together in let a = h.sized.writes in (e, h.keeps.held.few, h.within.reads, omega arith, omega arith, keeps-writes n.stack.tables.names n.components _ _ _ _ _ _ h.keeps)
