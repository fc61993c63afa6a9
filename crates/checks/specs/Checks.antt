-- A chain of checks is one list: what comes back is the number of the first check that holds, 0 where none does.
-- What names, writers, tables and questions refuse are such lists, so a refusal's place in the list is its place in the order; the readers
-- of descriptors refuse in reading order instead.
use Rattle.std.specs.Prelude.{◌≡◌, refl, Bool, true, false, cond, not, ◌&&◌, List, [], ◌∷◌, ◌++◌, ◌↔◌, ℕ, zero, suc, eqb}
use Rattle.std.proofs.Common.{sym, ap, ◌∙◌, arith}
use Rattle.std.proofs.lemmas.Bool.{false≢true, eqb-false, not-true}
use Rattle.order.specs.Truth.{both}

-- a condition, and the number that comes back where it is the first to hold
pub data Check : Type 0 where
  check : Bool → ℕ → Check

unfoldable pub first_refusal : List Check → ℕ
first_refusal [] = 0
first_refusal (check c k ∷ rest) = cond c k (first_refusal rest)

-- of two chains one after the other: the refusal of the first one, or the second's where the first refuses nothing
abbrev pub or_else : ℕ → ℕ → ℕ
or_else zero r = r
or_else (suc k) r = suc k

-- ---- in the words of the law: none holds, and no check has this number

unfoldable pub quiet : List Check → Bool
quiet [] = true
quiet (check c k ∷ rest) = not c && quiet rest

unfoldable pub free : ℕ → List Check → Bool
free n [] = true
free n (check c k ∷ rest) = not (eqb k n) && free n rest

-- ---- laws

pub else-none : (k r : ℕ) → k ≡ 0 → or_else k r ≡ r
else-none k r h = rw h

pub else-some : (k r : ℕ) → (k ≡ 0 → ⊥) → or_else k r ≡ k
else-some zero r z = absurd (z refl)
else-some (suc k) r z = refl

-- nothing is refused exactly if neither refuses
pub else-zero : (k r : ℕ) → (or_else k r ≡ 0) ↔ ((k ≡ 0) × (r ≡ 0))
else-zero zero r = (λ h. (refl, h), λ h. h.1)
else-zero (suc k) r = (λ h. absurd (omega arith), λ h. h.0)

pub first-hit : (c : Bool) (k : ℕ) (rest : List Check) → c ≡ true → first_refusal (check c k ∷ rest) ≡ k
unfolding first_refusal
first-hit c k rest h = rw h

pub first-miss : (c : Bool) (k : ℕ) (rest : List Check) → c ≡ false → first_refusal (check c k ∷ rest) ≡ first_refusal rest
unfolding first_refusal
first-miss c k rest h = rw h

-- checks that do not hold say nothing
pub first-past : (before rest : List Check) → quiet before ≡ true → first_refusal (before ++ rest) ≡ first_refusal rest
unfolding first_refusal quiet
first-past [] rest q = refl
first-past (check true k ∷ before) rest q = absurd (false≢true q)
first-past (check false k ∷ before) rest q = first-past before rest q

-- what comes back is the number of a check of the list, or 0
first-free : (n : ℕ) (l : List Check) → (n ≡ 0 → ⊥) → free n l ≡ true → first_refusal l ≡ n → ⊥
unfolding first_refusal free
first-free n [] z f h = z (sym h)
first-free n (check true k ∷ l) z f h = eqb-false k n (not-true (eqb k n) (both (not (eqb k n)) (free n l) f).0) h
first-free n (check false k ∷ l) z f h = first-free n l z (both (not (eqb k n)) (free n l) f).1 h

first-told : (before : List Check) (c : Bool) (k : ℕ) (after : List Check)
    → (k ≡ 0 → ⊥) → free k before ≡ true → free k after ≡ true
    → first_refusal (before ++ check c k ∷ after) ≡ k → (c ≡ true) × (quiet before ≡ true)
unfolding first_refusal free quiet
first-told [] true k after z f g h = (refl, refl)
first-told [] false k after z f g h = absurd (first-free k after z g h)
first-told (check true n ∷ before) c k after z f g h =
    absurd (eqb-false n k (not-true (eqb n k) (both (not (eqb n k)) (free k before) f).0) h)
first-told (check false n ∷ before) c k after z f g h =
    first-told before c k after z (both (not (eqb n k)) (free k before) f).1 g h

-- k comes back exactly if its condition holds and none before it does, k being the number of that one check
pub first-is : (before : List Check) (c : Bool) (k : ℕ) (after : List Check)
    → (k ≡ 0 → ⊥) → free k before ≡ true → free k after ≡ true
    → (first_refusal (before ++ check c k ∷ after) ≡ k) ↔ ((c ≡ true) × (quiet before ≡ true))
first-is before c k after z f g = (
  first-told before c k after z f g,
  λ h. first-past before (check c k ∷ after) h.1 ∙ first-hit c k after h.0,
)

-- the same where several checks have one number: k comes back exactly if some check of number k holds and none before it does
pub record FirstOf (l : List Check) (k : ℕ) : Type 0 where
  pub before : List Check
  pub after : List Check
  pub is : l ≡ before ++ check true k ∷ after
  pub none-before : quiet before ≡ true

first-found : (l : List Check) (k : ℕ) → (k ≡ 0 → ⊥) → first_refusal l ≡ k → FirstOf l k
unfolding first_refusal quiet
first-found [] k z h = absurd (z (sym h))
first-found (check true n ∷ l) k z h = record { before = []; after = l; is = ap (λ (m : ℕ). check true m ∷ l) h; none-before = refl }
first-found (check false n ∷ l) k z h =
    let r = first-found l k z h in
    record { before = check false n ∷ r.before; after = r.after; is = ap (λ (m : List Check). check false n ∷ m) r.is; none-before = r.none-before }

pub first-of : (l : List Check) (k : ℕ) → (k ≡ 0 → ⊥) → (first_refusal l ≡ k) ↔ FirstOf l k
first-of l k z = (
  first-found l k z,
  λ r. ap first_refusal r.is ∙ first-past r.before (check true k ∷ r.after) r.none-before ∙ first-hit true k r.after refl,
)

-- nothing is refused exactly if no condition holds, 0 being the number of no check
pub first-none : (l : List Check) → free 0 l ≡ true → (first_refusal l ≡ 0) ↔ (quiet l ≡ true)
unfolding first_refusal free quiet
first-none [] f = (λ h. refl, λ h. refl)
first-none (check true k ∷ l) f = (
  λ h. absurd (eqb-false k 0 (not-true (eqb k 0) (both (not (eqb k 0)) (free 0 l) f).0) h),
  λ h. absurd (false≢true h),
)
first-none (check false k ∷ l) f = first-none l (both (not (eqb k 0)) (free 0 l) f).1

-- the chain of one list after another
pub first-append : (a b : List Check) → free 0 a ≡ true → first_refusal (a ++ b) ≡ or_else (first_refusal a) (first_refusal b)
unfolding first_refusal free
first-append [] b f = refl
first-append (check true k ∷ a) b f = sym (else-some k (first_refusal b) (eqb-false k 0 (not-true (eqb k 0) (both (not (eqb k 0)) (free 0 a) f).0)))
first-append (check false k ∷ a) b f = first-append a b (both (not (eqb k 0)) (free 0 a) f).1
