-- The order of numbers and of lists is a total order: it says Equal of equals alone, turns round when its arguments do, and Less is
-- transitive.
use Rattle.std.specs.Prelude.{◌≡◌, refl, Bool, true, false, cond, List, [], ◌∷◌, ◌⊎◌, ℕ, ◌<◌, ltb}
use Rattle.std.proofs.Common.{sym, ap, ap₂, ◌∙◌, inl, inr, arith, ltb-true, ltb-false, lt-ltb, le-ltb}
use Rattle.std.specs.declared.cmp.Ordering.{Ordering}
use Rattle.std.specs.declared.cmp.Ordering.TheVariants.{Less, Equal, Greater}
use Rattle.std.specs.Ordering.{nat_cmp, MatchOrdering}
use Rattle.std.specs.Cmp.{ranks}
use Rattle.order.specs.Compare.{flip, then, compare_numbers, compare_lists, order_number}

-- ---- the three answers

pub less-not-equal : Less ≡ Equal → ⊥
unfolding order_number
less-not-equal e = let z = ap order_number e in omega arith

pub less-not-greater : Less ≡ Greater → ⊥
unfolding order_number
less-not-greater e = let z = ap order_number e in omega arith

pub equal-not-greater : Equal ≡ Greater → ⊥
unfolding order_number
equal-not-greater e = let z = ap order_number e in omega arith

then-flip : (o p : Ordering) → then (flip o) (flip p) ≡ flip (then o p)
then-flip Less p = refl
then-flip Equal p = refl
then-flip Greater p = refl

pub then-equal : (o : Ordering) → then o Equal ≡ o
then-equal Less = refl
then-equal Equal = refl
then-equal Greater = refl

-- ---- numbers

pub numbers-less : (a b : ℕ) → a < b → compare_numbers a b ≡ Less
unfolding compare_numbers
numbers-less a b h = rw (lt-ltb a b h)

pub numbers-greater : (a b : ℕ) → b < a → compare_numbers a b ≡ Greater
unfolding compare_numbers
numbers-greater a b h = rw (le-ltb a b (omega arith), lt-ltb b a h)

pub numbers-same : (a : ℕ) → compare_numbers a a ≡ Equal
unfolding compare_numbers
numbers-same a = rw (le-ltb a a (omega arith))

-- what std's `cmp` answers
pub numbers-cmp : (a b : ℕ) → nat_cmp a b ≡ compare_numbers a b
numbers-cmp a b = go (nat_cmp a b) (ranks a b)
  where
    go : (o : Ordering) → MatchOrdering o (a < b) (a ≡ b) (b < a) → o ≡ compare_numbers a b
    go Less h = sym (numbers-less a b h)
    go Equal h = sym (ap (compare_numbers a) (sym h) ∙ numbers-same a)
    go Greater h = sym (numbers-greater a b h)

-- by cases: what is shown of the three answers where each is right is shown of the answer
pub numbers-by : (P : Ordering → Type 0) (a b : ℕ) → (a < b → P Less) → (a ≡ b → P Equal) → (b < a → P Greater) → P (compare_numbers a b)
unfolding compare_numbers
numbers-by P a b less equal greater = go (ltb a b) refl (ltb b a) refl
  where
    go : (l : Bool) → ltb a b ≡ l → (g : Bool) → ltb b a ≡ g → P (cond l Less (cond g Greater Equal))
    go true p g q = less (ltb-true a b p)
    go false p true q = greater (ltb-true b a q)
    go false p false q =
        equal (let x = ltb-false a b p in let y = ltb-false b a q in omega arith)

pub less-numbers : (a b : ℕ) → compare_numbers a b ≡ Less → a < b
less-numbers a b =
    numbers-by (λ (o : Ordering). o ≡ Less → a < b) a b
    (λ h e. h)
    (λ h e. absurd (less-not-equal (sym e)))
    (λ h e. absurd (less-not-greater (sym e)))

pub equal-numbers : (a b : ℕ) → compare_numbers a b ≡ Equal → a ≡ b
equal-numbers a b =
    numbers-by (λ (o : Ordering). o ≡ Equal → a ≡ b) a b
    (λ h e. absurd (less-not-equal e))
    (λ h e. h)
    (λ h e. absurd (equal-not-greater (sym e)))

pub greater-numbers : (a b : ℕ) → compare_numbers a b ≡ Greater → b < a
greater-numbers a b =
    numbers-by (λ (o : Ordering). o ≡ Greater → b < a) a b
    (λ h e. absurd (less-not-greater e))
    (λ h e. absurd (equal-not-greater e))
    (λ h e. h)

pub numbers-swap : (a b : ℕ) → compare_numbers b a ≡ flip (compare_numbers a b)
numbers-swap a b =
    numbers-by (λ (o : Ordering). compare_numbers b a ≡ flip o) a b
    (λ h. numbers-greater b a h)
    (λ h. ap (compare_numbers b) h ∙ numbers-same b)
    (λ h. numbers-less b a h)

pub numbers-trans : (a b c : ℕ) → compare_numbers a b ≡ Less → compare_numbers b c ≡ Less → compare_numbers a c ≡ Less
numbers-trans a b c p q =
    let x = less-numbers a b p in
    let y = less-numbers b c q in
    numbers-less a c (omega arith)

-- ---- one number before the rest

first-less : (a b : ℕ) (o : Ordering) → a < b → then (compare_numbers a b) o ≡ Less
first-less a b o h = ap (λ (p : Ordering). then p o) (numbers-less a b h)

first-same : (a b : ℕ) (o : Ordering) → a ≡ b → then (compare_numbers a b) o ≡ o
first-same a b o h = ap (λ (p : Ordering). then p o) (ap (compare_numbers a) (sym h) ∙ numbers-same a)

less-first : (a b : ℕ) (o : Ordering) → then (compare_numbers a b) o ≡ Less → (a < b) ⊎ ((a ≡ b) × (o ≡ Less))
less-first a b o =
    numbers-by (λ (p : Ordering). then p o ≡ Less → (a < b) ⊎ ((a ≡ b) × (o ≡ Less))) a b
    (λ h e. inl h)
    (λ h e. inr (h, e))
    (λ h e. absurd (less-not-greater (sym e)))

equal-first : (a b : ℕ) (o : Ordering) → then (compare_numbers a b) o ≡ Equal → (a ≡ b) × (o ≡ Equal)
equal-first a b o =
    numbers-by (λ (p : Ordering). then p o ≡ Equal → (a ≡ b) × (o ≡ Equal)) a b
    (λ h e. absurd (less-not-equal e))
    (λ h e. (h, e))
    (λ h e. absurd (equal-not-greater (sym e)))

-- ---- lists

pub lists-same : (xs : List ℕ) → compare_lists xs xs ≡ Equal
unfolding compare_lists
lists-same [] = refl
lists-same (x ∷ xs) = first-same x x (compare_lists xs xs) refl ∙ lists-same xs

pub lists-equal : (xs ys : List ℕ) → compare_lists xs ys ≡ Equal → xs ≡ ys
unfolding compare_lists
lists-equal [] [] h = refl
lists-equal [] (y ∷ ys) h = absurd (less-not-equal h)
lists-equal (x ∷ xs) [] h = absurd (equal-not-greater (sym h))
lists-equal (x ∷ xs) (y ∷ ys) h =
    let e = equal-first x y (compare_lists xs ys) h in
    ap₂ (λ (z : ℕ) (zs : List ℕ). z ∷ zs) e.0 (lists-equal xs ys e.1)

pub lists-swap : (xs ys : List ℕ) → compare_lists ys xs ≡ flip (compare_lists xs ys)
unfolding compare_lists
lists-swap [] [] = refl
lists-swap [] (y ∷ ys) = refl
lists-swap (x ∷ xs) [] = refl
lists-swap (x ∷ xs) (y ∷ ys) = ap₂ then (numbers-swap x y) (lists-swap xs ys) ∙ then-flip (compare_numbers x y) (compare_lists xs ys)

pub lists-trans : (xs ys zs : List ℕ) → compare_lists xs ys ≡ Less → compare_lists ys zs ≡ Less → compare_lists xs zs ≡ Less
unfolding compare_lists
lists-trans [] [] zs p q = q
lists-trans [] (y ∷ ys) [] p q = absurd (less-not-greater (sym q))
lists-trans [] (y ∷ ys) (z ∷ zs) p q = refl
lists-trans (x ∷ xs) [] zs p q = absurd (less-not-greater (sym p))
lists-trans (x ∷ xs) (y ∷ ys) [] p q = absurd (less-not-greater (sym q))
lists-trans (x ∷ xs) (y ∷ ys) (z ∷ zs) p q =
    go (lists-trans xs ys zs) (less-first x y (compare_lists xs ys) p) (less-first y z (compare_lists ys zs) q)
  where
    go : (compare_lists xs ys ≡ Less → compare_lists ys zs ≡ Less → compare_lists xs zs ≡ Less)
        → (x < y) ⊎ ((x ≡ y) × (compare_lists xs ys ≡ Less))
        → (y < z) ⊎ ((y ≡ z) × (compare_lists ys zs ≡ Less))
        → then (compare_numbers x z) (compare_lists xs zs) ≡ Less
    go rest (inl a) (inl b) = first-less x z (compare_lists xs zs) (omega arith)
    go rest (inl a) (inr b) = first-less x z (compare_lists xs zs) (let e = b.0 in omega arith)
    go rest (inr a) (inl b) = first-less x z (compare_lists xs zs) (let e = a.0 in omega arith)
    go rest (inr a) (inr b) = first-same x z (compare_lists xs zs) (a.0 ∙ b.0) ∙ rest a.1 b.1
