-- CLOSED: what a run ends in, unrefused, is a table to which no rule adds a bound, from the state of any component.
use Rattle.std.specs.Prelude.{◌≡◌, Bool, ◌⊎◌, ◌↔◌, eqb}
use Rattle.std.proofs.Math.Path.{refl, ap, subst}
use Rattle.std.proofs.Common.{sym, ◌∙◌, arith, ne_eqb}
use Rattle.std.proofs.Math.Bool.{true, false, cond}
use Rattle.std.proofs.lemmas.Bool.{false≢true}
use mathlib.Core.List.Memᴰ
use mathlib.Core.List.{List, [], ◌∷◌, Memᴰ}
use Rattle.std.proofs.Math.Logic.{inl, inr, ⊎_elim}
use Prim.Native.Nat.{ℕ, zero, suc, ◌+◌, ◌≤◌, ◌<◌}
use Rattle.std.proofs.Math.Decide.{ℕ_discrete}
use Rattle.std.specs.declared.cmp.Ordering.{Ordering}
use Rattle.std.specs.declared.cmp.Ordering.TheVariants.{Less, Equal, Greater}
use Rattle.ty.specs.Types.{ArgType}
use Rattle.lattice.specs.Lattice.{World}
use Rattle.view.specs.View.{numbers}
use Rattle.view.specs.Supertype.{numbers-has}
use Rattle.solving.specs.Ordered.{by_order, present, insert}
use Rattle.solving.proofs.OrderedLaws.{insert-keeps, present-exactly}
use Rattle.solving.proofs.Orders.{bounds-total}
use Rattle.solving.proofs.Inserts.{enqueue-keeps, enqueue-has, all-keeps, turn-inserts, run-keeps}
use Rattle.solving.proofs.Runs.{propagate-empties}
use Rattle.solving.specs.Solving.{Bound, Table, compare_bounds, types_of, TypeState, state_of, Links, Addition, Going, room, enqueue, additions, turn, Ended, propagate, all_present, settled, all_settled, closed}
use Rattle.solving.specs.Closed.{Settled, Closed}

-- ---- an insertion changes the state of its component alone

types-behind : (c k : ℕ) (x : Bound) (s t : Table) → types_of c k s ≡ types_of c k t → types_of c k (x ∷ s) ≡ types_of c k (x ∷ t)
unfolding types_of
types-behind c k x s t e =
    ap (λ (ts : List ArgType). cond (eqb x.component c) (cond (eqb x.kind k) (x.type ∷ ts) ts) ts) e

module _ (c k : ℕ) (b : Bound) (apart : b.component ≡ c → ⊥) where
  types-past : (t : Table) → types_of c k (b ∷ t) ≡ types_of c k t
  unfolding types_of
  types-past t = ap (λ (e : Bool). cond e (cond (eqb b.kind k) (b.type ∷ types_of c k t) (types_of c k t)) (types_of c k t)) (ne_eqb b.component c apart)

  types-insert : (t : Table) → types_of c k (insert compare_bounds b t) ≡ types_of c k t
  unfolding insert
  types-insert [] = types-past []
  types-insert (x ∷ xs) = go (compare_bounds b x) (types-insert xs)
    where
      go : (o : Ordering) → types_of c k (insert compare_bounds b xs) ≡ types_of c k xs
          → types_of c k (by_order o (b ∷ x ∷ xs) (x ∷ xs) (x ∷ insert compare_bounds b xs)) ≡ types_of c k (x ∷ xs)
      go Less ih = types-past (x ∷ xs)
      go Equal ih = refl
      go Greater ih = types-behind c k x (insert compare_bounds b xs) xs ih

pub state-insert : (c : ℕ) (b : Bound) (t : Table) → (b.component ≡ c → ⊥) → state_of (insert compare_bounds b t) c ≡ state_of t c
unfolding state_of
state-insert c b t apart i = record {
  exact = types-insert c 4 b apart t i;
  lower = types-insert c 3 b apart t i;
  upper = types-insert c 2 b apart t i;
  domain = types-insert c 0 b apart t i;
  fallback = types-insert c 1 b apart t i;
}

-- ---- what a turn leaves

module _ (w : World) (l : Links) where
  -- who is not queued has the state it had, and who was queued still is, and bounds stay
  abbrev Since : Table → List ℕ → Table → List ℕ → Type 0
  Since t q t' q' = ((c : ℕ) → Memᴰ c q' ⊎ (state_of t' c ≡ state_of t c)) × ((c : ℕ) → Memᴰ c q → Memᴰ c q') × ((b : Bound) → Memᴰ b t → Memᴰ b t')

  since-step : (t : Table) (q : List ℕ) (b : Bound) (u : Table) (r : List ℕ) → Since t q u r → Since t q (insert compare_bounds b u) (enqueue b.component r)
  since-step t q b u r s = (
    λ c. ⊎_elim (λ m. inl (enqueue-keeps b.component c r m)) (λ e. own c e (ℕ_discrete b.component c)) (s.0 c),
    λ c m. enqueue-keeps b.component c r (s.1 c m),
    λ z m. insert-keeps compare_bounds b z u (s.2 z m),
  )
    where
      own : (c : ℕ) → state_of u c ≡ state_of t c → Dec (b.component ≡ c)
          → Memᴰ c (enqueue b.component r) ⊎ (state_of (insert compare_bounds b u) c ≡ state_of t c)
      own c e (yes f) = inl (subst (λ (x : ℕ). Memᴰ x (enqueue b.component r)) f (enqueue-has b.component r))
      own c e (no f) = inr (state-insert c b u f ∙ e)

  turn-since : (root : ℕ) (t : Table) (q : List ℕ) (t' : Table) (q' : List ℕ) → turn w l root t q ≡ Going t' q' → Since t q t' q'
  unfolding turn
  turn-since root t q t' q' h =
      all-keeps (Since t q) (λ b u r new. since-step t q b u r) (additions w l root (state_of t root)) t q t' q' h (λ c. inr refl, λ c m. m, λ b m. m)

  turn-all : (root : ℕ) (t : Table) (q : List ℕ) (t' : Table) (q' : List ℕ) → turn w l root t q ≡ Going t' q'
      → (a : Addition) → Memᴰ a (additions w l root (state_of t root)) → Memᴰ a.adds t'
  unfolding turn
  turn-all root t q t' q' h = turn-inserts (additions w l root (state_of t root)) t q t' q' h

  -- ---- EVERY COMPONENT IS QUEUED OR SETTLED: each turn keeps it

  module _ (components : ℕ) where
    abbrev pub Waiting : Table → List ℕ → Type 0
    Waiting t q = (c : ℕ) → c < components → Memᴰ c q ⊎ Settled w l t c

    pub turn-waiting : (root : ℕ) (t : Table) (q : List ℕ) (t' : Table) (q' : List ℕ) → turn w l root t q ≡ Going t' q' → Waiting t (root ∷ q) → Waiting t' q'
    turn-waiting root t q t' q' h v c k = ⊎_elim (λ m. inl m) (λ e. same e (v c k)) ((turn-since root t q t' q' h).0 c)
      where
        -- its state is the one that its settledness, or its turn, went by
        moved : state_of t' c ≡ state_of t c → ((a : Addition) → Memᴰ a (additions w l c (state_of t c)) → Memᴰ a.adds t') → Settled w l t' c
        moved e f = subst (λ (s : TypeState). (a : Addition) → Memᴰ a (additions w l c s) → Memᴰ a.adds t') (sym e) f

        same : state_of t' c ≡ state_of t c → Memᴰ c (root ∷ q) ⊎ Settled w l t c → Memᴰ c q' ⊎ Settled w l t' c
        same e (inl m) =
            ⊎_elim (λ f. inr (moved e (subst (λ (x : ℕ). (a : Addition) → Memᴰ a (additions w l x (state_of t x)) → Memᴰ a.adds t') (sym f) (turn-all root t q t' q' h))))
            (λ n. inl ((turn-since root t q t' q' h).1 c n)) (Memᴰ.cases_cons m)
        same e (inr s) = inr (moved e (λ a n. (turn-since root t q t' q' h).2 a.adds (s a n)))

    -- A RUN THAT ENDS UNREFUSED ENDS CLOSED
    pub propagate-closed : (t t' : Table) (q' : List ℕ) (n' : ℕ) → propagate w l components t ≡ Ended t' q' n' → Closed w l components t'
    unfolding propagate
    propagate-closed t t' q' n' h c k = ⊎_elim (λ m. absurd (Memᴰ.not-nil (subst (λ (r : List ℕ). Memᴰ c r) (propagate-empties w l components t t' q' n' h) m))) (λ s. s) (waiting c k)
      where
        waiting : Waiting t' q'
        waiting =
            run-keeps w l (λ n u r. Waiting u r) (λ n root u r u' r' e. turn-waiting root u r u' r' e) (components + room) 0 t (numbers 0 components) t' q' n' h
            (λ d j. inl (numbers-has 0 components d (omega arith) (omega arith)))

  -- ---- THE TEST TELLS IT

  all-present : (t : Table) (adds : List Addition) → (all_present adds t ≡ true) ↔ ((a : Addition) → Memᴰ a adds → Memᴰ a.adds t)
  unfolding all_present
  all-present t [] = (λ h a m. absurd (Memᴰ.not-nil m), λ f. refl)
  all-present t (x ∷ rest) = (
    λ h a m. each (present compare_bounds x.adds t) refl h (all-present t rest).0 a (Memᴰ.cases_cons m),
    λ f. rw ((present-exactly compare_bounds bounds-total x.adds t).1 (f x (Memᴰ.head refl)), (all-present t rest).1 (λ a m. f a (Memᴰ.tail m))),
  )
    where
      each : (b : Bool) → present compare_bounds x.adds t ≡ b → cond b (all_present rest t) false ≡ true
          → (all_present rest t ≡ true → (a : Addition) → Memᴰ a rest → Memᴰ a.adds t) → (a : Addition) → (a ≡ x) ⊎ Memᴰ a rest → Memᴰ a.adds t
      each true e h ih a (inl q) = subst (λ (y : Addition). Memᴰ y.adds t) (sym q) ((present-exactly compare_bounds bounds-total x.adds t).0 e)
      each true e h ih a (inr m) = ih h a m
      each false e h ih a m = absurd (false≢true h)

  pub settled-exactly : (t : Table) (c : ℕ) → (settled w l t c ≡ true) ↔ Settled w l t c
  unfolding settled
  settled-exactly t c = all-present t (additions w l c (state_of t c))

  each-settled : (t : Table) (i n : ℕ) → (all_settled w l t (numbers i n) ≡ true) ↔ ((c : ℕ) → i ≤ c → c < i + n → Settled w l t c)
  unfolding all_settled numbers
  each-settled t i zero = (λ h c k m. absurd (omega arith), λ f. refl)
  each-settled t i (suc n) = (
    λ h c k m. part (settled w l t i) refl h (each-settled t (suc i) n).0 c k m (ℕ_discrete i c),
    λ f. rw ((settled-exactly t i).1 (f i (omega arith) (omega arith)), (each-settled t (suc i) n).1 (λ c k m. f c (omega arith) (omega arith))),
  )
    where
      part : (b : Bool) → settled w l t i ≡ b → cond b (all_settled w l t (numbers (suc i) n)) false ≡ true
          → (all_settled w l t (numbers (suc i) n) ≡ true → (c : ℕ) → suc i ≤ c → c < suc i + n → Settled w l t c)
          → (c : ℕ) → i ≤ c → c < i + suc n → Dec (i ≡ c) → Settled w l t c
      part true e h ih c k m (yes q) = subst (λ (x : ℕ). Settled w l t x) q ((settled-exactly t i).0 e)
      part true e h ih c k m (no q) = ih h c (omega arith) (omega arith)
      part false e h ih c k m d = absurd (false≢true h)

  pub closed-exactly : (components : ℕ) (t : Table) → (closed w l components t ≡ true) ↔ Closed w l components t
  unfolding closed
  closed-exactly components t = (λ h c k. (each-settled t 0 components).0 h c (omega arith) (omega arith), λ f. (each-settled t 0 components).1 (λ c j k. f c (omega arith)))
