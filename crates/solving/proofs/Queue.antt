-- Different numbers below n are at most n: why a queue without repeats has room; and a queue stays without repeats.
use Rattle.std.specs.Prelude.{◌≡◌, refl, Bool, true, false, cond, ◌||◌, List, [], ◌∷◌, ◌++◌, ℕ, zero, suc, ◌+◌, ◌≤◌, ◌<◌, eqb, length}
use Rattle.std.proofs.Common.{sym, ap, ◌∙◌, subst, true≢false, arith, eqb-true, ne_eqb}
use Rattle.std.proofs.lemmas.Bool.{eqb-false}
use Rattle.order.specs.Lists.{elem}
use Rattle.view.specs.View.{numbers}
use Rattle.solving.specs.Solving.{enqueue}
use Rattle.solving.specs.Queue.{NotIn, Distinct, Below}

without : ℕ → List ℕ → List ℕ
without n [] = []
without n (x ∷ xs) = cond (eqb x n) (without n xs) (x ∷ without n xs)

not-in-without : (n x : ℕ) (l : List ℕ) → NotIn x l → NotIn x (without n l)
unfolding without
not-in-without n x [] h = tt
not-in-without n x (y ∷ ys) h = go (eqb y n) (not-in-without n x ys h.1)
  where
    go : (t : Bool) → NotIn x (without n ys) → NotIn x (cond t (without n ys) (y ∷ without n ys))
    go true r = r
    go false r = (h.0, r)

distinct-without : (n : ℕ) (l : List ℕ) → Distinct l → Distinct (without n l)
unfolding without
distinct-without n [] h = tt
distinct-without n (y ∷ ys) h = go (eqb y n) (distinct-without n ys h.1)
  where
    go : (t : Bool) → Distinct (without n ys) → Distinct (cond t (without n ys) (y ∷ without n ys))
    go true r = r
    go false r = (not-in-without n y ys h.0, r)

below-without : (n : ℕ) (l : List ℕ) → Below (suc n) l → Below n (without n l)
unfolding without
below-without n [] h = tt
below-without n (y ∷ ys) h = go (eqb y n) refl (below-without n ys h.1)
  where
    go : (t : Bool) → eqb y n ≡ t → Below n (without n ys) → Below n (cond t (without n ys) (y ∷ without n ys))
    go true e r = r
    go false e r = (let z = eqb-false y n e in let k = h.0 in omega arith, r)

without-same : (n : ℕ) (l : List ℕ) → NotIn n l → without n l ≡ l
unfolding without
without-same n [] h = refl
without-same n (y ∷ ys) h = ap (λ (t : Bool). cond t (without n ys) (y ∷ without n ys)) (ne_eqb y n h.0) ∙ ap (λ (l : List ℕ). y ∷ l) (without-same n ys h.1)

length-without : (n : ℕ) (l : List ℕ) → Distinct l → length l ≤ suc (length (without n l))
unfolding without
length-without n [] h = omega arith
length-without n (y ∷ ys) h = go (eqb y n) refl (length-without n ys h.1)
  where
    go : (t : Bool) → eqb y n ≡ t → length ys ≤ suc (length (without n ys)) → suc (length ys) ≤ suc (length (cond t (without n ys) (y ∷ without n ys)))
    go true e r = let z = ap length (without-same n ys (subst (λ (k : ℕ). NotIn k ys) (eqb-true y n e) h.0)) in omega arith
    go false e r = omega arith

pub pigeon : (n : ℕ) (l : List ℕ) → Distinct l → Below n l → length l ≤ n
pigeon zero [] d b = omega arith
pigeon zero (x ∷ xs) d b = absurd (let k = b.0 in omega arith)
pigeon (suc n) l d b =
    let r = pigeon n (without n l) (distinct-without n l d) (below-without n l b) in
    let s = length-without n l d in
    omega arith

-- ---- a queue

pub below-more : (n m : ℕ) (l : List ℕ) → n ≤ m → Below n l → Below m l
below-more n m [] h b = tt
below-more n m (x ∷ l) h b = (let k = b.0 in omega arith, below-more n m l h b.1)

-- who is no member
elem-not-in : (c : ℕ) (q : List ℕ) → elem c q ≡ false → NotIn c q
unfolding elem
elem-not-in c [] h = tt
elem-not-in c (x ∷ q) h = go (eqb x c) refl h (elem-not-in c q)
  where
    go : (b : Bool) → eqb x c ≡ b → (b || elem c q) ≡ false → (elem c q ≡ false → NotIn c q) → NotIn c (x ∷ q)
    go true e k ih = absurd (true≢false k)
    go false e k ih = (eqb-false x c e, ih k)

not-in-back : (y c : ℕ) (q : List ℕ) → (c ≡ y → ⊥) → NotIn y q → NotIn y (q ++ (c ∷ []))
not-in-back y c [] n h = (n, tt)
not-in-back y c (x ∷ q) n h = (h.0, not-in-back y c q n h.1)

distinct-back : (c : ℕ) (q : List ℕ) → NotIn c q → Distinct q → Distinct (q ++ (c ∷ []))
distinct-back c [] n d = (tt, tt)
distinct-back c (x ∷ q) n d = (not-in-back x c q (λ e. n.0 (sym e)) d.0, distinct-back c q n.1 d.1)

below-back : (n c : ℕ) (q : List ℕ) → c < n → Below n q → Below n (q ++ (c ∷ []))
below-back n c [] h b = (h, tt)
below-back n c (x ∷ q) h b = (b.0, below-back n c q h b.1)

-- NOBODY IS QUEUED TWICE
pub enqueue-distinct : (c : ℕ) (q : List ℕ) → Distinct q → Distinct (enqueue c q)
unfolding enqueue
enqueue-distinct c q d = go (elem c q) refl
  where
    go : (b : Bool) → elem c q ≡ b → Distinct (cond b q (q ++ (c ∷ [])))
    go true e = d
    go false e = distinct-back c q (elem-not-in c q e) d

pub enqueue-below : (n c : ℕ) (q : List ℕ) → c < n → Below n q → Below n (enqueue c q)
unfolding enqueue
enqueue-below n c q h b = go (elem c q)
  where
    go : (t : Bool) → Below n (cond t q (q ++ (c ∷ [])))
    go true = b
    go false = below-back n c q h b

-- the first queue

numbers-not-in : (x i n : ℕ) → x < i → NotIn x (numbers i n)
unfolding numbers
numbers-not-in x i zero h = tt
numbers-not-in x i (suc n) h = (λ e. omega arith, numbers-not-in x (suc i) n (omega arith))

pub numbers-distinct : (i n : ℕ) → Distinct (numbers i n)
unfolding numbers
numbers-distinct i zero = tt
numbers-distinct i (suc n) = (numbers-not-in i (suc i) n (omega arith), numbers-distinct (suc i) n)

numbers-under : (m i n : ℕ) → i + n ≤ m → Below m (numbers i n)
unfolding numbers
numbers-under m i zero h = tt
numbers-under m i (suc n) h = (omega arith, numbers-under m (suc i) n (omega arith))

pub numbers-below : (n : ℕ) → Below n (numbers 0 n)
numbers-below n = numbers-under n 0 n (omega arith)
