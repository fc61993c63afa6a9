-- The steps of the checks: each way through them, and what a refusal or none tells.
use Rattle.std.specs.Prelude.{◌≡◌, Bool, List, ℕ, ◌-◌, ◌^◌, ◌≤◌, ◌<◌, ltb, length, replicate}
use Rattle.std.proofs.Math.Path.{refl}
use Rattle.std.proofs.Common.{◌∙◌, arith}
use Rattle.std.proofs.Math.Bool.{true, false}
use Rattle.std.proofs.Math.Dec.{eqb}
use borrow.Author.Tests.{eq-eqb, ne_eqb, lt-ltb, le-ltb, eqb-true, eqb-false}
use Rattle.checks.specs.Checks.{first_refusal}
use Rattle.solvechecks.specs.SolveChecks.{short_lengths, lengths_refusal, rows_refusal, work_left}

-- ---- slices that are too short

module _ (v a c k t w : ℕ) where
  pub short-answers : a < v → true ≡ short_lengths v a c k t w
  unfolding short_lengths
  short-answers h = rw (lt-ltb a v h)

  module _ (h : v ≤ a) where
    pub short-components : c < 4096 → true ≡ short_lengths v a c k t w
    unfolding short_lengths
    short-components i = rw (le-ltb a v h, lt-ltb c 4096 i)

    module _ (i : 4096 ≤ c) where
      pub short-kinds : k < 4096 → true ≡ short_lengths v a c k t w
      unfolding short_lengths
      short-kinds j = rw (le-ltb a v h, le-ltb c 4096 i, lt-ltb k 4096 j)

      module _ (j : 4096 ≤ k) where
        pub short-types : t < 4096 → true ≡ short_lengths v a c k t w
        unfolding short_lengths
        short-types l = rw (le-ltb a v h, le-ltb c 4096 i, le-ltb k 4096 j, lt-ltb t 4096 l)

        pub short-work : 4096 ≤ t → ltb w 8192 ≡ short_lengths v a c k t w
        unfolding short_lengths
        short-work l = rw (le-ltb a v h, le-ltb c 4096 i, le-ltb k 4096 j, le-ltb t 4096 l)

-- ---- by lengths

pub lengths-short : (short even : Bool) → short ≡ true → 22 ≡ lengths_refusal short even
unfolding lengths_refusal first_refusal
lengths-short short even s = rw s

pub lengths-even : (short even : Bool) → short ≡ false → even ≡ true → 0 ≡ lengths_refusal short even
unfolding lengths_refusal first_refusal
lengths-even short even s e = rw (s, e)

pub lengths-uneven : (short even : Bool) → short ≡ false → even ≡ false → 3 ≡ lengths_refusal short even
unfolding lengths_refusal first_refusal
lengths-uneven short even s e = rw (s, e)

-- NOTHING REFUSED: long enough, and even
pub lengths-none : (short even : Bool) → lengths_refusal short even ≡ 0 → (short ≡ false) × (even ≡ true)
unfolding lengths_refusal first_refusal
lengths-none true even h = absurd (omega (arith, h))
lengths-none false false h = absurd (omega (arith, h))
lengths-none false true h = (refl, refl)

-- ---- after the rows

module _ (k o : ℕ) where
  pub rows-refused : (k ≡ 0 → ⊥) → k ≡ rows_refusal k o
  unfolding rows_refusal first_refusal
  rows-refused n = rw (ne_eqb k 0 n)

  pub rows-object : k ≡ 0 → o ≡ 2 ^ 64 - 1 → 9 ≡ rows_refusal k o
  unfolding rows_refusal first_refusal
  rows-object z h = rw (eq-eqb k 0 z, eq-eqb o (2 ^ 64 - 1) h)

  pub rows-none : k ≡ 0 → (o ≡ 2 ^ 64 - 1 → ⊥) → 0 ≡ rows_refusal k o
  unfolding rows_refusal first_refusal
  rows-none z n = rw (eq-eqb k 0 z, ne_eqb o (2 ^ 64 - 1) n)

  -- NOTHING REFUSED: no row, and there is an Object
  pub rows-taken : rows_refusal k o ≡ 0 → (k ≡ 0) × (o ≡ 2 ^ 64 - 1 → ⊥)
  unfolding rows_refusal first_refusal
  rows-taken h = go (eqb k 0) refl (eqb o (2 ^ 64 - 1)) refl
    where
      go : (a : Bool) → eqb k 0 ≡ a → (b : Bool) → eqb o (2 ^ 64 - 1) ≡ b → (k ≡ 0) × (o ≡ 2 ^ 64 - 1 → ⊥)
      go false p b q = absurd (eqb-false k 0 p (rows-refused (eqb-false k 0 p) ∙ h))
      go true p true q = absurd (let e : 9 ≡ 0 = rows-object (eqb-true k 0 p) (eqb-true o (2 ^ 64 - 1) q) ∙ h in omega (arith, e))
      go true p false q = (eqb-true k 0 p, eqb-false o (2 ^ 64 - 1) q)

-- ---- the work

pub work-kept : (code : ℕ) (w : List ℕ) → code ≡ 22 → w ≡ work_left code w
unfolding work_left
work-kept code w h = rw (eq-eqb code 22 h)

pub work-cleared : (code : ℕ) (w : List ℕ) → (code ≡ 22 → ⊥) → replicate (length w) 0 ≡ work_left code w
unfolding work_left
work-cleared code w n = rw (ne_eqb code 22 n)
