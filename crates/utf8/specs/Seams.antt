-- Text of sequences of at most three bytes, told by each byte and the two before it: where no byte has a fault, the text is well-formed. Each
-- test is a number, 0 where all is well, as the code adds them up.
use Rattle.std.specs.Prelude.{◌≡◌, refl, Bool, true, false, cond, ℕ, zero, suc, ◌+◌, ◌-◌, ◌*◌, ◌≤◌, ◌<◌, eqb, leb, ltb, length, get_or}
use Rattle.std.proofs.Common.{subst, ◌∙◌, add-one, arith, eqb-true, ltb-true, ltb-false, le-ltb, le-leb, eq-eqb, ne_eqb}
use mathlib.Core.List.{List, [], ◌∷◌, Memᴰ}
use Rattle.std.proofs.lemmas.Bool.{lt-leb}
use Rattle.utf8.specs.Utf8.{Range, ◌‥◌, table, Fits, Fits.done, Fits.next, WellFormed, WellFormed.empty, WellFormed.more}
use Rattle.utf8.specs.Laws.{ascii-more}

-- 1 where c continues a sequence
unfoldable pub continues : ℕ → ℕ
continues c = cond (ltb c 0x80) 0 (cond (ltb c 0xC0) 1 0)

-- 1 where the byte after a and b has to continue a sequence: b begins one, or a begins one of three bytes
unfoldable pub due : ℕ → ℕ → ℕ
due a b = cond (leb 0xC0 b) 1 (cond (leb 0xE0 a) 1 0)

unfoldable pub unlike : ℕ → ℕ → ℕ
unlike m n = cond (eqb m n) 0 1

-- 1 where c is too small after E0 or too large after ED
unfoldable pub misfit : ℕ → ℕ → ℕ
misfit b c = cond (eqb b 0xE0) (cond (ltb c 0xA0) 1 0) (cond (eqb b 0xED) (cond (ltb c 0xA0) 0 1) 0)

-- 1 where c stands in no sequence of at most three bytes
unfoldable pub stray : ℕ → ℕ
stray c = cond (ltb c 0xC0) 0 (cond (ltb c 0xC2) 1 (cond (ltb c 0xF0) 0 1))

-- the faults of c after a and b
unfoldable pub fault : ℕ → ℕ → ℕ → ℕ
fault a b c = unlike (continues c) (due a b) + misfit b c + stray c

-- the faults of the byte two after p in a list
abbrev pub seam : List ℕ → ℕ → ℕ
seam s p = fault (get_or s p 0) (get_or s (p + 1) 0) (get_or s (p + 2) 0)

-- the faults of n bytes in a row, the first of them two after i
unfoldable pub faults : List ℕ → ℕ → ℕ → ℕ
faults s i zero = 0
faults s i (suc n) = faults s i n + seam s (i + n)

-- no byte that stands two after i or later, and before j + 2, has a fault
abbrev pub Clean : List ℕ → ℕ → ℕ → Type 0
Clean s i j = (p : ℕ) → i ≤ p → p < j → seam s p ≡ 0

-- the first two bytes have no fault after nothing, and the last two begin nothing that goes on after them
abbrev pub CleanEnds : List ℕ → ℕ → ℕ → Type 0
CleanEnds s from to =
    (fault 0 0 (get_or s from 0) ≡ 0) × (fault 0 (get_or s from 0) (get_or s (from + 1) 0) ≡ 0) × (get_or s (to - 2) 0 < 0xE0) × (get_or s (to - 1) 0 < 0xC0)

-- the same of a list that stands after a and b
unfoldable pub Smooth : ℕ → ℕ → List ℕ → Type 0
Smooth a b [] = (a < 0xE0) × (b < 0xC0)
Smooth a b (c ∷ cs) = (fault a b c ≡ 0) × Smooth b c cs

-- ---- each test is 0 or 1

pub unlike-le : (m n : ℕ) → unlike m n ≤ 1
unfolding unlike
unlike-le m n = go (eqb m n)
  where
    go : (t : Bool) → cond t 0 1 ≤ 1
    go true = omega arith
    go false = omega arith

pub misfit-le : (b c : ℕ) → misfit b c ≤ 1
unfolding misfit
misfit-le b c = go (eqb b 0xE0) (eqb b 0xED) (ltb c 0xA0)
  where
    go : (t u v : Bool) → cond t (cond v 1 0) (cond u (cond v 0 1) 0) ≤ 1
    go true u true = omega arith
    go true u false = omega arith
    go false true true = omega arith
    go false true false = omega arith
    go false false v = omega arith

pub stray-le : (c : ℕ) → stray c ≤ 1
unfolding stray
stray-le c = go (ltb c 0xC0) (ltb c 0xC2) (ltb c 0xF0)
  where
    go : (t u v : Bool) → cond t 0 (cond u 1 (cond v 0 1)) ≤ 1
    go true u v = omega arith
    go false true v = omega arith
    go false false true = omega arith
    go false false false = omega arith

pub fault-le : (a b c : ℕ) → fault a b c ≤ 3
unfolding fault
fault-le a b c = omega (arith, unlike-le (continues c) (due a b), misfit-le b c, stray-le c)

pub seam-le : (s : List ℕ) (p : ℕ) → seam s p ≤ 3
seam-le s p = fault-le (get_or s p 0) (get_or s (p + 1) 0) (get_or s (p + 2) 0)

pub faults-le : (s : List ℕ) (i n : ℕ) → faults s i n ≤ 3 * n
unfolding faults
faults-le s i zero = omega arith
faults-le s i (suc n) = omega (arith, faults-le s i n, seam-le s (i + n))

pub faults-step : (s : List ℕ) (i n : ℕ) → faults s i (n + 1) ≡ faults s i n + seam s (i + n)
unfolding faults
faults-step s i n = rw (add-one n)

-- ---- what the absence of a fault tells

fault-parts : (a b c : ℕ) → fault a b c ≡ 0 → (continues c ≡ due a b) × (misfit b c ≡ 0) × (stray c ≡ 0)
unfolding fault unlike
fault-parts a b c e = go (eqb (continues c) (due a b)) refl
  where
    go : (t : Bool) → eqb (continues c) (due a b) ≡ t → (continues c ≡ due a b) × (misfit b c ≡ 0) × (stray c ≡ 0)
    go true q = (eqb-true (continues c) (due a b) q, omega arith, omega arith)
    go false q = let f = rw q at e in absurd (omega (arith, f))

continues-none : (c : ℕ) → continues c ≡ 0 → 0x80 ≤ c → 0xC0 ≤ c
unfolding continues
continues-none c e h = go (ltb c 0xC0) refl
  where
    go : (t : Bool) → ltb c 0xC0 ≡ t → 0xC0 ≤ c
    go true q = let f = rw (le-ltb c 0x80 h, q) at e in absurd (omega (arith, f))
    go false q = ltb-false c 0xC0 q

continues-one : (c : ℕ) → continues c ≡ 1 → (0x80 ≤ c) × (c < 0xC0)
unfolding continues
continues-one c e = go (ltb c 0x80) (ltb c 0xC0) refl refl
  where
    go : (t u : Bool) → ltb c 0x80 ≡ t → ltb c 0xC0 ≡ u → (0x80 ≤ c) × (c < 0xC0)
    go true u p q = let f = rw p at e in absurd (omega (arith, f))
    go false true p q = (ltb-false c 0x80 p, ltb-true c 0xC0 q)
    go false false p q = let f = rw (p, q) at e in absurd (omega (arith, f))

due-none : (a b : ℕ) → a < 0xE0 → b < 0xC0 → due a b ≡ 0
unfolding due
due-none a b h l = rw (lt-leb 0xC0 b l, lt-leb 0xE0 a h)

due-second : (a b : ℕ) → 0xC0 ≤ b → due a b ≡ 1
unfolding due
due-second a b h = rw (le-leb 0xC0 b h)

due-third : (a b : ℕ) → 0xE0 ≤ a → due a b ≡ 1
unfolding due
due-third a b h = go (leb 0xC0 b)
  where
    go : (t : Bool) → ◌≡◌ {A = ℕ} (cond t 1 (cond (leb 0xE0 a) 1 0)) 1
    go true = refl
    go false = rw (le-leb 0xE0 a h)

stray-none : (c : ℕ) → stray c ≡ 0 → 0xC0 ≤ c → (0xC2 ≤ c) × (c < 0xF0)
unfolding stray
stray-none c e h = go (ltb c 0xC2) (ltb c 0xF0) refl refl
  where
    go : (t u : Bool) → ltb c 0xC2 ≡ t → ltb c 0xF0 ≡ u → (0xC2 ≤ c) × (c < 0xF0)
    go true u p q = let f = rw (le-ltb c 0xC0 h, p) at e in absurd (omega (arith, f))
    go false true p q = (ltb-false c 0xC2 p, ltb-true c 0xF0 q)
    go false false p q = let f = rw (le-ltb c 0xC0 h, p, q) at e in absurd (omega (arith, f))

misfit-small : (b c : ℕ) → misfit b c ≡ 0 → b ≡ 0xE0 → 0xA0 ≤ c
unfolding misfit
misfit-small b c e h = go (ltb c 0xA0) refl
  where
    go : (t : Bool) → ltb c 0xA0 ≡ t → 0xA0 ≤ c
    go true q = let f = rw (eq-eqb b 0xE0 h, q) at e in absurd (omega (arith, f))
    go false q = ltb-false c 0xA0 q

misfit-large : (b c : ℕ) → misfit b c ≡ 0 → b ≡ 0xED → c < 0xA0
unfolding misfit
misfit-large b c e h = go (ltb c 0xA0) refl
  where
    go : (t : Bool) → ltb c 0xA0 ≡ t → c < 0xA0
    go true q = ltb-true c 0xA0 q
    go false q = let f = rw (ne_eqb b 0xE0 (λ k. omega (arith, h, k)), eq-eqb b 0xED h, q) at e in absurd (omega (arith, f))

-- a byte of 80 and above where none is due begins a sequence
begins : (a b c : ℕ) → a < 0xE0 → b < 0xC0 → fault a b c ≡ 0 → 0x80 ≤ c → (0xC2 ≤ c) × (c < 0xF0)
begins a b c l h e k =
    let p = fault-parts a b c e in
    stray-none c p.2 (continues-none c (p.0 ∙ due-none a b l h) k)

-- the byte after one that begins a sequence continues it
second : (a b c : ℕ) → 0xC0 ≤ b → fault a b c ≡ 0 → (0x80 ≤ c) × (c < 0xC0)
second a b c h e = continues-one c ((fault-parts a b c e).0 ∙ due-second a b h)

-- and so does the byte after that, where three are begun
third : (a b c : ℕ) → 0xE0 ≤ a → fault a b c ≡ 0 → (0x80 ≤ c) × (c < 0xC0)
third a b c h e = continues-one c ((fault-parts a b c e).0 ∙ due-third a b h)

-- ---- a smooth list is well-formed

-- what is shown of lists of at most n bytes
abbrev Shown : ℕ → Type 0
Shown n = (bs : List ℕ) → length bs ≤ n → (a b : ℕ) → a < 0xE0 → b < 0xC0 → Smooth a b bs → WellFormed bs

two-first : (n : ℕ) → Shown n → (b c : ℕ) (cs : List ℕ) → length cs ≤ n → 0xC2 ≤ c → c < 0xE0 → Smooth b c cs → WellFormed (c ∷ cs)
unfolding Smooth table
two-first n ih b c [] k l h s = absurd (omega (arith, s.1))
two-first n ih b c (d ∷ ds) k l h s =
    let q = second b c d (omega arith) s.0 in
    more {xs = c ∷ d ∷ []} (Memᴰ.tail (Memᴰ.head refl))
    (next {r = 0xC2 ‥ 0xDF} {b = c} l (omega arith) (next {r = 0x80 ‥ 0xBF} {b = d} q.0 (omega (arith, q.1)) done))
    (ih ds (omega arith) c d h q.1 s.1)

three-row : (c d e : ℕ) → 0xE0 ≤ c → c < 0xF0 → misfit c d ≡ 0 → 0x80 ≤ d → d < 0xC0 → 0x80 ≤ e → e < 0xC0
    → (row : List Range) × Memᴰ row table × Fits row (c ∷ d ∷ e ∷ [])
unfolding table
three-row c d e l h m p q u v = go (ltb c 0xE1) (ltb c 0xED) (ltb c 0xEE) refl refl refl
  where
    last : Fits (0x80 ‥ 0xBF ∷ []) (e ∷ [])
    last = next {r = 0x80 ‥ 0xBF} {b = e} u (omega arith) done

    go : (x y z : Bool) → ltb c 0xE1 ≡ x → ltb c 0xED ≡ y → ltb c 0xEE ≡ z → (row : List Range) × Memᴰ row table × Fits row (c ∷ d ∷ e ∷ [])
    go true y z i j k =
        let f = ltb-true c 0xE1 i in (
          _,
          Memᴰ.tail (Memᴰ.tail (Memᴰ.head refl)),
          next {r = 0xE0 ‥ 0xE0} {b = c} l (omega arith) (next {r = 0xA0 ‥ 0xBF} {b = d} (misfit-small c d m (omega arith)) (omega arith) last),
        )
    go false true z i j k =
        let f = ltb-false c 0xE1 i in
        let g = ltb-true c 0xED j in (
          _,
          Memᴰ.tail (Memᴰ.tail (Memᴰ.tail (Memᴰ.head refl))),
          next {r = 0xE1 ‥ 0xEC} {b = c} f (omega arith) (next {r = 0x80 ‥ 0xBF} {b = d} p (omega arith) last),
        )
    go false false true i j k =
        let f = ltb-false c 0xED j in
        let g = ltb-true c 0xEE k in (
          _,
          Memᴰ.tail (Memᴰ.tail (Memᴰ.tail (Memᴰ.tail (Memᴰ.head refl)))),
          next {r = 0xED ‥ 0xED} {b = c} f (omega arith) (next {r = 0x80 ‥ 0x9F} {b = d} p (omega (arith, misfit-large c d m (omega arith))) last),
        )
    go false false false i j k =
        let f = ltb-false c 0xEE k in (
          _,
          Memᴰ.tail (Memᴰ.tail (Memᴰ.tail (Memᴰ.tail (Memᴰ.tail (Memᴰ.head refl))))),
          next {r = 0xEE ‥ 0xEF} {b = c} f (omega arith) (next {r = 0x80 ‥ 0xBF} {b = d} p (omega arith) last),
        )

three-first : (n : ℕ) → Shown n → (b c : ℕ) (cs : List ℕ) → length cs ≤ n → 0xE0 ≤ c → c < 0xF0 → Smooth b c cs → WellFormed (c ∷ cs)
unfolding Smooth
three-first n ih b c [] k l h s = absurd (omega (arith, s.1))
three-first n ih b c (d ∷ []) k l h s = absurd (omega (arith, s.1.0))
three-first n ih b c (d ∷ e ∷ es) k l h s =
    let q = second b c d (omega arith) s.0 in
    let r = third c d e l s.1.0 in
    let w = three-row c d e l h (fault-parts b c d s.0).1 q.0 q.1 r.0 r.1 in
    more {xs = c ∷ d ∷ e ∷ []} w.1 w.2 (ih es (omega arith) d e (omega (arith, q.1)) r.1 s.1.1)

smooth-shown : (n : ℕ) → Shown n
unfolding Smooth
smooth-shown zero [] k a b l h s = empty
smooth-shown zero (c ∷ cs) k a b l h s = absurd (omega arith)
smooth-shown (suc n) [] k a b l h s = empty
smooth-shown (suc n) (c ∷ cs) k a b l h s = go (ltb c 0x80) (ltb c 0xE0) refl refl (smooth-shown n)
  where
    go : (t u : Bool) → ltb c 0x80 ≡ t → ltb c 0xE0 ≡ u → Shown n → WellFormed (c ∷ cs)
    go true u p q ih =
        let f = ltb-true c 0x80 p in
        ascii-more f (ih cs (omega arith) b c (omega arith) (omega arith) s.1)
    go false true p q ih =
        let w = begins a b c l h s.0 (ltb-false c 0x80 p) in
        two-first n ih b c cs (omega arith) w.0 (ltb-true c 0xE0 q) s.1
    go false false p q ih =
        let w = begins a b c l h s.0 (ltb-false c 0x80 p) in
        three-first n ih b c cs (omega arith) (ltb-false c 0xE0 q) w.1 s.1

-- A SMOOTH LIST IS WELL-FORMED
pub smooth-whole : (bs : List ℕ) → Smooth 0 0 bs → WellFormed bs
smooth-whole bs s = smooth-shown (length bs) bs (omega arith) 0 0 (omega arith) (omega arith) s

-- ---- bytes in a row

faults-none : (s : List ℕ) (i n : ℕ) → faults s i n ≡ 0 → (j : ℕ) → j < n → seam s (i + j) ≡ 0
unfolding faults
faults-none s i zero e j h = absurd (omega arith)
faults-none s i (suc n) e j h = go (ltb j n) refl (faults-none s i n (omega arith) j)
  where
    go : (t : Bool) → ltb j n ≡ t → (j < n → seam s (i + j) ≡ 0) → seam s (i + j) ≡ 0
    go true q ih = ih (ltb-true j n q)
    go false q ih =
        let d : n ≡ j = omega (arith, ltb-false j n q) in
        subst (λ (k : ℕ). seam s (i + k) ≡ 0) d (let z : seam s (i + n) ≡ 0 = omega arith in z)

-- WITHOUT A FAULT UP TO i, AND IN A BLOCK FROM j ON, THERE IS NONE UP TO THE BLOCK'S END
pub clean-on : (s : List ℕ) (from i j k n : ℕ) → Clean s from i → faults s j n ≡ 0 → j ≤ i → k ≤ j + n → Clean s from k
clean-on s from i j k n c e l h p a b = go (ltb p i) refl
  where
    go : (t : Bool) → ltb p i ≡ t → seam s p ≡ 0
    go true q = c p a (ltb-true p i q)
    go false q =
        let m = ltb-false p i q in
        let d : j + (p - j) ≡ p = omega arith in
        subst (λ (x : ℕ). seam s x ≡ 0) d (faults-none s j n e (p - j) (omega arith))
