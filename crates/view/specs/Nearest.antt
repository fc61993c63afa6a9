-- The nearest of a list: the smallest by greater distance, sum of the distances, number.
use Rattle.std.proofs.Math.Path.{◌≡◌, refl, sym, ap}
use Rattle.std.proofs.Common.{◌∙◌, subst, true≢false, inl, inr, ⊎_elim, arith, eq-eqb, lt-ltb, le-ltb, eqb-true, ltb-true}
use Rattle.std.specs.Prelude.{Bool, ◌&&◌, ◌||◌, ◌⊎◌, ◌↔◌, ℕ, ◌+◌, ◌<◌, max, eqb, ltb}
use Rattle.std.proofs.Math.Bool.{true, false, cond}
use Rattle.std.proofs.lemmas.Bool.{false≢true}
use mathlib.Core.List.Memᴰ
use mathlib.Core.List.{List, [], ◌∷◌, Memᴰ}
use Rattle.std.proofs.Math.Option.{Option, some, none}
use Rattle.std.proofs.Math.Nat.{max_comm, add_comm}
use Rattle.std.proofs.Math.Decide.{dec_lt, ℕ_discrete}
use Rattle.view.specs.View.{View, distance, distance_or, nearer, nearest}

-- ---- two numbers, then three, compared one after the other

abbrev Second : ℕ → ℕ → ℕ → ℕ → Type 0
Second s c t d = (s < t) ⊎ ((s ≡ t) × (c < d))

-- a before b, or the same and s before t, or the same and c before d
abbrev pub Before : ℕ → ℕ → ℕ → ℕ → ℕ → ℕ → Type 0
Before a s c b t d = (a < b) ⊎ ((a ≡ b) × ((s < t) ⊎ ((s ≡ t) × (c < d))))

second-trans : (s c t d u e : ℕ) → Second s c t d → Second t d u e → Second s c u e
second-trans s c t d u e (inl p) (inl q) = inl (omega arith)
second-trans s c t d u e (inl p) (inr q) = inl (omega arith)
second-trans s c t d u e (inr p) (inl q) = inl (omega arith)
second-trans s c t d u e (inr p) (inr q) = inr (omega arith)

before-trans : (a s c b t d x u e : ℕ) → Before a s c b t d → Before b t d x u e → Before a s c x u e
before-trans a s c b t d x u e (inl p) (inl q) = inl (omega arith)
before-trans a s c b t d x u e (inl p) (inr q) = inl (omega arith)
before-trans a s c b t d x u e (inr p) (inl q) = inl (omega arith)
before-trans a s c b t d x u e (inr p) (inr q) = inr (omega arith, second-trans s c t d u e p.1 q.1)

-- the tests of the definition say so
second-exactly : (s c t d : ℕ) → ((ltb s t || (eqb s t && ltb c d)) ≡ true) ↔ Second s c t d
second-exactly s c t d = (go (ltb s t) refl (eqb s t) refl, back)
  where
    go : (p : Bool) → ltb s t ≡ p → (q : Bool) → eqb s t ≡ q → (p || (q && ltb c d)) ≡ true → Second s c t d
    go true e q f h = inl (ltb-true s t e)
    go false e true f h = inr (eqb-true s t f, ltb-true c d h)
    go false e false f h = absurd (false≢true h)

    back : Second s c t d → (ltb s t || (eqb s t && ltb c d)) ≡ true
    back (inl l) = ap (λ (p : Bool). p || (eqb s t && ltb c d)) (lt-ltb s t l)
    back (inr w) = rw (le-ltb s t (let e = w.0 in omega arith), eq-eqb s t w.0) (lt-ltb c d w.1)

before-exactly : (a s c b t d : ℕ) → ((ltb a b || (eqb a b && (ltb s t || (eqb s t && ltb c d)))) ≡ true) ↔ Before a s c b t d
before-exactly a s c b t d = (go (ltb a b) refl (eqb a b) refl, back)
  where
    go : (p : Bool) → ltb a b ≡ p → (q : Bool) → eqb a b ≡ q → (p || (q && (ltb s t || (eqb s t && ltb c d)))) ≡ true → Before a s c b t d
    go true e q f h = inl (ltb-true a b e)
    go false e true f h = inr (eqb-true a b f, (second-exactly s c t d).0 h)
    go false e false f h = absurd (false≢true h)

    back : Before a s c b t d → (ltb a b || (eqb a b && (ltb s t || (eqb s t && ltb c d)))) ≡ true
    back (inl l) = ap (λ (p : Bool). p || (eqb a b && (ltb s t || (eqb s t && ltb c d)))) (lt-ltb a b l)
    back (inr w) = rw (le-ltb a b (let e = w.0 in omega arith), eq-eqb a b w.0) ((second-exactly s c t d).1 w.1)

-- one of two with different numbers comes first
before-total : (a s c b t d : ℕ) → (c ≡ d → ⊥) → Before a s c b t d ⊎ Before b t d a s c
before-total a s c b t d n = go (dec_lt a b) (dec_lt b a) (dec_lt s t) (dec_lt t s) (dec_lt c d)
  where
    go : Dec (a < b) → Dec (b < a) → Dec (s < t) → Dec (t < s) → Dec (c < d) → Before a s c b t d ⊎ Before b t d a s c
    go (yes l) q x y z = inl (inl l)
    go (no m) (yes l) x y z = inr (inl l)
    go (no m) (no k) (yes x) y z = inl (inr (omega arith, inl x))
    go (no m) (no k) (no x) (yes y) z = inr (inr (omega arith, inl y))
    go (no m) (no k) (no x) (no y) (yes z) = inl (inr (omega arith, inr (omega arith, z)))
    go (no m) (no k) (no x) (no y) (no z) = inr (inr (omega arith, inr (omega arith, omega arith)))

module _ (v : View) (left right : ℕ) where
  -- the greater and the sum of a candidate's two distances
  abbrev pub greater : ℕ → ℕ
  greater c = max (distance_or (distance v left c)) (distance_or (distance v right c))

  abbrev pub sum : ℕ → ℕ
  sum c = distance_or (distance v left c) + distance_or (distance v right c)

  -- NEARER: by greater distance, then sum, then number
  pub nearer-exactly : (c d : ℕ) → (nearer v left right c d ≡ true) ↔ Before (greater c) (sum c) c (greater d) (sum d) d
  unfolding nearer
  nearer-exactly c d = before-exactly (greater c) (sum c) c (greater d) (sum d) d

  pub nearer-trans : (c d e : ℕ) → nearer v left right c d ≡ true → nearer v left right d e ≡ true → nearer v left right c e ≡ true
  nearer-trans c d e p q =
      (nearer-exactly c e).1
      (before-trans (greater c) (sum c) c (greater d) (sum d) d (greater e) (sum e) e ((nearer-exactly c d).0 p) ((nearer-exactly d e).0 q))

  pub nearer-total : (c d : ℕ) → (c ≡ d → ⊥) → nearer v left right c d ≡ false → nearer v left right d c ≡ true
  nearer-total c d n p =
      ⊎_elim (λ b. absurd (true≢false (sym ((nearer-exactly c d).1 b) ∙ p))) (nearer-exactly d c).1
      (before-total (greater c) (sum c) c (greater d) (sum d) d n)

  -- ---- the nearest of a list

  nearest-first : (c : ℕ) (cs : List ℕ) → nearest v left right cs ≡ none → nearest v left right (c ∷ cs) ≡ some c
  unfolding nearest
  nearest-first c cs e = rw e

  nearest-next : (c : ℕ) (cs : List ℕ) (e : ℕ) → nearest v left right cs ≡ some e → nearest v left right (c ∷ cs) ≡ cond (nearer v left right c e) (some c) (some e)
  unfolding nearest
  nearest-next c cs e q = rw q

  nearest-cons : (c : ℕ) (cs : List ℕ) → (m : ℕ) × (nearest v left right (c ∷ cs) ≡ some m)
  nearest-cons c cs = go (nearest v left right cs) refl
    where
      go : (o : Option ℕ) → nearest v left right cs ≡ o → (m : ℕ) × (nearest v left right (c ∷ cs) ≡ some m)
      go none e = (c, nearest-first c cs e)
      go (some d) e = pick (nearer v left right c d) (nearest-next c cs d e)
        where
          pick : (t : Bool) → nearest v left right (c ∷ cs) ≡ cond t (some c) (some d) → (m : ℕ) × (nearest v left right (c ∷ cs) ≡ some m)
          pick true q = (c, q)
          pick false q = (d, q)

  -- a list with a member has one
  pub nearest-some : (cs : List ℕ) (d : ℕ) → Memᴰ d cs → (m : ℕ) × (nearest v left right cs ≡ some m)
  nearest-some [] d k = absurd (Memᴰ.not-nil k)
  nearest-some (c ∷ cs) d k = nearest-cons c cs

  -- it is one of the list
  pub nearest-in : (cs : List ℕ) (m : ℕ) → nearest v left right cs ≡ some m → Memᴰ m cs
  unfolding nearest
  nearest-in [] m h = absurd (let z : ◌≡◌ {A = ℕ} 0 1 = cc in omega arith)
  nearest-in (c ∷ cs) m h = go (nearest v left right cs) refl (nearest-in cs)
    where
      go : (o : Option ℕ) → nearest v left right cs ≡ o → ((e : ℕ) → nearest v left right cs ≡ some e → Memᴰ e cs) → Memᴰ m (c ∷ cs)
      go none e ih = Memᴰ.head (let q = nearest-first c cs e in let k : m ≡ c = cc in k)
      go (some d) e ih = pick (nearer v left right c d) (sym h ∙ nearest-next c cs d e)
        where
          pick : (t : Bool) → some m ≡ cond t (some c) (some d) → Memᴰ m (c ∷ cs)
          pick true q = Memᴰ.head (let k : m ≡ c = cc in k)
          pick false q = Memᴰ.tail (ih m (e ∙ sym q))

  -- and every other one of the list comes after it
  pub nearest-least : (cs : List ℕ) (m : ℕ) → nearest v left right cs ≡ some m → (d : ℕ) → Memᴰ d cs → (d ≡ m) ⊎ (nearer v left right m d ≡ true)
  nearest-least [] m h d k = absurd (Memᴰ.not-nil k)
  nearest-least (c ∷ cs) m h d k = go (nearest v left right cs) refl (λ e q r. nearest-least cs e q d r) (Memᴰ.cases_cons k)
    where
      go : (o : Option ℕ) → nearest v left right cs ≡ o → ((e : ℕ) → nearest v left right cs ≡ some e → Memᴰ d cs → (d ≡ e) ⊎ (nearer v left right e d ≡ true))
          → (d ≡ c) ⊎ Memᴰ d cs → (d ≡ m) ⊎ (nearer v left right m d ≡ true)
      go none e ih (inl q) = inl (q ∙ (let r = nearest-first c cs e in let s : c ≡ m = cc in s))
      go none e ih (inr r) = absurd (let w = nearest-some cs d r in let s = w.1 in let z : ◌≡◌ {A = ℕ} 0 1 = cc in omega arith)
      go (some b) e ih w = pick (nearer v left right c b) refl (sym h ∙ nearest-next c cs b e) w
        where
          pick : (t : Bool) → nearer v left right c b ≡ t → some m ≡ cond t (some c) (some b) → (d ≡ c) ⊎ Memᴰ d cs → (d ≡ m) ⊎ (nearer v left right m d ≡ true)
          pick true n q (inl s) = inl (let u : c ≡ m = cc in s ∙ u)
          pick true n q (inr r) =
              let u : c ≡ m = cc in
              subst (λ (z : ℕ). (d ≡ z) ⊎ (nearer v left right z d ≡ true)) u
              (inr (⊎_elim (λ s. ap (nearer v left right c) s ∙ n) (nearer-trans c b d n) (ih b e r)))
          pick false n q (inl s) =
              let u : b ≡ m = cc in
              subst (λ (z : ℕ). (d ≡ z) ⊎ (nearer v left right z d ≡ true)) u (other (ℕ_discrete c b))
            where
              other : Dec (c ≡ b) → (d ≡ b) ⊎ (nearer v left right b d ≡ true)
              other (yes f) = inl (s ∙ f)
              other (no f) = inr (ap (nearer v left right b) s ∙ nearer-total c b f n)
          pick false n q (inr r) = let u : b ≡ m = cc in subst (λ (z : ℕ). (d ≡ z) ⊎ (nearer v left right z d ≡ true)) u (ih b e r)

-- ---- left and right may be exchanged

module _ (v : View) (left right : ℕ) where
  pub nearer-swap : (c d : ℕ) → nearer v left right c d ≡ nearer v right left c d
  unfolding nearer
  nearer-swap c d =
      rw (max_comm (distance_or (distance v left c)) (distance_or (distance v right c)), max_comm (distance_or (distance v left d)) (distance_or (distance v right d)), add_comm (distance_or (distance v left c)) (distance_or (distance v right c)), add_comm (distance_or (distance v left d)) (distance_or (distance v right d)))

  pub nearest-swap : (cs : List ℕ) → nearest v left right cs ≡ nearest v right left cs
  unfolding nearest
  nearest-swap [] = refl
  nearest-swap (c ∷ cs) = go (nearest v left right cs) refl (sym (nearest-swap cs))
    where
      go : (o : Option ℕ) → nearest v left right cs ≡ o → nearest v right left cs ≡ nearest v left right cs → nearest v left right (c ∷ cs) ≡ nearest v right left (c ∷ cs)
      go none e q = nearest-first v left right c cs e ∙ sym (nearest-first v right left c cs (q ∙ e))
      go (some d) e q =
          nearest-next v left right c cs d e ∙ ap (λ (t : Bool). cond t (some c) (some d)) (nearer-swap c d) ∙ sym (nearest-next v right left c cs d (q ∙ e))
