-- Comparisons that have the same answer: of numbers moved alike, and of numbers made of a high and a low part.
use Rattle.std.specs.Prelude.{◌≡◌, ℕ, suc, ◌+◌, ◌*◌, ◌<◌}
use Rattle.std.proofs.Common.{sym, ap, ◌∙◌, arith}
use Rattle.std.proofs.Math.Arith.{digits_lt}
use Rattle.order.specs.Laws.{numbers-less, numbers-same, numbers-greater, numbers-by}
use Rattle.order.specs.Compare.{compare_numbers, then}
use Rattle.std.specs.declared.cmp.Ordering.{Ordering}
use Rattle.std.specs.declared.cmp.Ordering.TheVariants.{Equal}

pub numbers-equal : (a b : ℕ) → a ≡ b → compare_numbers a b ≡ Equal
numbers-equal a b h = ap (compare_numbers a) (sym h) ∙ numbers-same a

-- c and d stand to each other as a and b do
pub numbers-alike : (a b c d : ℕ) → (a < b → c < d) → (a ≡ b → c ≡ d) → (b < a → d < c) → compare_numbers c d ≡ compare_numbers a b
numbers-alike a b c d less equal greater =
    numbers-by (λ (o : Ordering). compare_numbers c d ≡ o) a b
    (λ h. numbers-less c d (less h))
    (λ h. numbers-equal c d (equal h))
    (λ h. numbers-greater c d (greater h))

pub numbers-suc : (a b : ℕ) → compare_numbers (suc a) (suc b) ≡ compare_numbers a b
numbers-suc a b = numbers-alike a b (suc a) (suc b) (λ h. omega arith) (λ h. omega arith) (λ h. omega arith)

pub numbers-shift : (m a b : ℕ) → compare_numbers (m + a) (m + b) ≡ compare_numbers a b
numbers-shift m a b = numbers-alike a b (m + a) (m + b) (λ h. omega arith) (λ h. omega arith) (λ h. omega arith)

-- by the high parts, then by the low ones
pub numbers-parts : (m x y a b : ℕ) → a < m → b < m → compare_numbers (x * m + a) (y * m + b) ≡ then (compare_numbers x y) (compare_numbers a b)
numbers-parts m x y a b h k =
    numbers-by (λ (o : Ordering). compare_numbers (x * m + a) (y * m + b) ≡ then o (compare_numbers a b)) x y
    (λ l. numbers-less (x * m + a) (y * m + b) (omega (arith, digits_lt l h)))
    (λ e. ap (λ (z : ℕ). compare_numbers (z * m + a) (y * m + b)) e ∙ numbers-shift (y * m) a b)
    (λ l. numbers-greater (x * m + a) (y * m + b) (omega (arith, digits_lt l k)))
