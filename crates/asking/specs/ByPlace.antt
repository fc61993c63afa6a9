-- Laws place by place: what a loop over an index goes by.
use Rattle.std.specs.Prelude.{◌≡◌, Bool, true, false, ◌||◌, List, map, ℕ, suc, ◌+◌, ◌/◌, ◌%◌, ◌≤◌, ◌<◌, eqb, length, drop, get_or}
use Rattle.std.proofs.Common.{sym, ap, add-one, drop_of_length-le}
use Rattle.std.proofs.Math.Seq.{drop-cons}
use Rattle.solving.specs.LinkKeys.{pair_of}
use Rattle.asking.specs.Asking.{begins, touches}

-- ---- link by link

module _ (root : ℕ) (l : List ℕ) (i : ℕ) where
  pub begins-next : i < length l → (b : Bool) → eqb (get_or l i 0 / 512) root ≡ b → begins root (map pair_of (drop i l)) ≡ (b || begins root (map pair_of (drop (i + 1) l)))
  unfolding begins
  begins-next h b e = rw (add-one i, drop-cons l i 0 h) (ap (λ (c : Bool). c || begins root (map pair_of (drop (suc i) l))) e)

  pub begins-end : length l ≤ i → begins root (map pair_of (drop i l)) ≡ false
  unfolding begins
  begins-end h = rw (drop_of_length-le l h)

  pub touches-next : i < length l → (b : Bool) → (eqb (get_or l i 0 / 512) root || eqb (get_or l i 0 % 512) root) ≡ b
      → touches root (map pair_of (drop i l)) ≡ (b || touches root (map pair_of (drop (i + 1) l)))
  unfolding touches
  touches-next h b e = rw (add-one i, drop-cons l i 0 h) (ap (λ (c : Bool). c || touches root (map pair_of (drop (suc i) l))) e)

  pub touches-end : length l ≤ i → touches root (map pair_of (drop i l)) ≡ false
  unfolding touches
  touches-end h = rw (drop_of_length-le l h)

-- ---- one test after the other

pub or-first : (a b : Bool) → a ≡ true → true ≡ (a || b)
or-first a b e = sym (ap (λ (c : Bool). c || b) e)

pub or-rest : (a b : Bool) → a ≡ false → b ≡ (a || b)
or-rest a b e = sym (ap (λ (c : Bool). c || b) e)
