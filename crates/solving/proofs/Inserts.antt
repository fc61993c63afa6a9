-- Insertions and turns, one step at a time: what an insertion does, and two laws by which a fact that insertions keep is kept by a
-- turn, and one that taking the front keeps too by a run.
use Rattle.std.specs.Prelude.{◌≡◌, Bool, ◌||◌, ◌⊎◌, eqb, leb, ltb, length}
use Rattle.std.proofs.Math.Path.{refl, subst}
use Rattle.std.proofs.Common.{sym, ◌∙◌, ⊎_elim, arith, length-append}
use Rattle.std.proofs.Math.Bool.{true, false, cond}
use Rattle.std.proofs.lemmas.Bool.{false≢true}
use mathlib.Core.List.Memᴰ
use mathlib.Core.List.{List, [], ◌∷◌, ◌++◌, Memᴰ}
use Rattle.std.proofs.Math.Logic.{inl, inr}
use Prim.Native.Nat.{ℕ, zero, suc, ◌≤◌, ◌<◌}
use borrow.Author.Tests.{ltb-false, leb-false, eqb-true, lt-ltb, le-ltb, le-leb, lt-leb}
use Rattle.order.specs.Lists.{elem}
use Rattle.ty.specs.Types.{depth}
use Rattle.lattice.specs.Lattice.{World}
use Rattle.solving.specs.Ordered.{present, insert}
use Rattle.solving.proofs.OrderedLaws.{insert-has, insert-keeps, present-exactly}
use Rattle.solving.proofs.Orders.{bounds-total}
use Rattle.solving.specs.Solving.{Bound, Table, compare_bounds, Links, Addition, Outcome, Refused, Going, room, enqueue, insert_bound, insert_all, turn, Stopped, Ended, run}
use Rattle.solving.specs.Inserts.{New}

-- ---- outcomes apart

pub going-table : (t t' : Table) (q q' : List ℕ) → Going t q ≡ Going t' q' → (t ≡ t') × (q ≡ q')
going-table t t' q q' e = (cc, cc)

pub refused-going : (k : ℕ) (t : Table) (q : List ℕ) → Refused k ≡ Going t q → ⊥
refused-going k t q e = let z : ◌≡◌ {A = ℕ} 0 1 = cc in omega arith

pub stopped-ended : (k : ℕ) (t : Table) (q : List ℕ) (n : ℕ) → Stopped k ≡ Ended t q n → ⊥
stopped-ended k t q n e = let z : ◌≡◌ {A = ℕ} 0 1 = cc in omega arith

-- ---- the queue

elem-member : (c : ℕ) (q : List ℕ) → elem c q ≡ true → Memᴰ c q
unfolding elem
elem-member c [] h = absurd (false≢true h)
elem-member c (x ∷ q) h = go (eqb x c) refl h (elem-member c q)
  where
    go : (b : Bool) → eqb x c ≡ b → (b || elem c q) ≡ true → (elem c q ≡ true → Memᴰ c q) → Memᴰ c (x ∷ q)
    go true e k ih = Memᴰ.head (sym (eqb-true x c e))
    go false e k ih = Memᴰ.tail (ih k)

-- WHO IS QUEUED STAYS, AND WHO GAINED A BOUND IS QUEUED
pub enqueue-keeps : (c d : ℕ) (q : List ℕ) → Memᴰ d q → Memᴰ d (enqueue c q)
unfolding enqueue
enqueue-keeps c d q m = go (elem c q)
  where
    go : (b : Bool) → Memᴰ d (cond b q (q ++ (c ∷ [])))
    go true = m
    go false = Memᴰ.append_left (c ∷ []) m

pub enqueue-has : (c : ℕ) (q : List ℕ) → Memᴰ c (enqueue c q)
unfolding enqueue
enqueue-has c q = go (elem c q) refl
  where
    go : (b : Bool) → elem c q ≡ b → Memᴰ c (cond b q (q ++ (c ∷ [])))
    go true e = elem-member c q e
    go false e = Memᴰ.append_right q (Memᴰ.head refl)

-- at most one more
pub enqueue-length : (c : ℕ) (q : List ℕ) → length (enqueue c q) ≤ suc (length q)
unfolding enqueue
enqueue-length c q = go (elem c q)
  where
    go : (b : Bool) → length (cond b q (q ++ (c ∷ []))) ≤ suc (length q)
    go true = omega arith
    go false = simp length-append (omega arith)

-- EACH CASE, EXACTLY: 20 for an array of 256 dimensions or more, whatever else holds; nothing for a bound that is there, even in a full
-- table; 21 for a new one in a full table
module _ (b : Bound) (t : Table) (q : List ℕ) where
  pub insert-deep : 255 < depth b.type → insert_bound b t q ≡ Refused 20
  unfolding insert_bound
  insert-deep h = rw (lt-ltb 255 (depth b.type) h)

  pub insert-old : depth b.type ≤ 255 → Memᴰ b t → insert_bound b t q ≡ Going t q
  unfolding insert_bound
  insert-old h m = rw (le-ltb 255 (depth b.type) h, (present-exactly compare_bounds bounds-total b t).1 m)

  pub insert-full : depth b.type ≤ 255 → present compare_bounds b t ≡ false → room ≤ length t → insert_bound b t q ≡ Refused 21
  unfolding insert_bound
  insert-full h p k = rw (le-ltb 255 (depth b.type) h, p, le-leb room (length t) k)

  pub insert-new : New b t → insert_bound b t q ≡ Going (insert compare_bounds b t) (enqueue b.component q)
  unfolding insert_bound
  insert-new n = rw (le-ltb 255 (depth b.type) n.flat, n.absent, lt-leb room (length t) n.fits)

  -- no other refusal
  pub insert-refused : (k : ℕ) → insert_bound b t q ≡ Refused k → (k ≡ 20) ⊎ (k ≡ 21)
  unfolding insert_bound
  insert-refused k = go (ltb 255 (depth b.type)) (present compare_bounds b t) (leb room (length t))
    where
      go : (d p f : Bool) → cond d (Refused 20) (cond p (Going t q) (cond f (Refused 21) (Going (insert compare_bounds b t) (enqueue b.component q)))) ≡ Refused k → (k ≡ 20) ⊎ (k ≡ 21)
      go true p f h = inl (let e : k ≡ 20 = cc in e)
      go false true f h = absurd (refused-going k t q (sym h))
      go false false true h = inr (let e : k ≡ 21 = cc in e)
      go false false false h = absurd (refused-going k (insert compare_bounds b t) (enqueue b.component q) (sym h))

-- WHAT AN INSERTION THAT IS NOT REFUSED DOES: nothing where the bound is there, else it adds it and queues its component
pub insert-cases : (b : Bound) (t : Table) (q : List ℕ) (t' : Table) (q' : List ℕ) → insert_bound b t q ≡ Going t' q'
    → (Memᴰ b t × (t ≡ t') × (q ≡ q') × (depth b.type ≤ 255)) ⊎ (New b t × (insert compare_bounds b t ≡ t') × (enqueue b.component q ≡ q'))
unfolding insert_bound
insert-cases b t q t' q' h = go (ltb 255 (depth b.type)) refl (present compare_bounds b t) refl (leb room (length t)) refl h
  where
    go : (d : Bool) → ltb 255 (depth b.type) ≡ d → (p : Bool) → present compare_bounds b t ≡ p → (f : Bool) → leb room (length t) ≡ f
        → cond d (Refused 20) (cond p (Going t q) (cond f (Refused 21) (Going (insert compare_bounds b t) (enqueue b.component q)))) ≡ Going t' q'
        → (Memᴰ b t × (t ≡ t') × (q ≡ q') × (depth b.type ≤ 255)) ⊎ (New b t × (insert compare_bounds b t ≡ t') × (enqueue b.component q ≡ q'))
    go true d p pe f fe k = absurd (refused-going 20 t' q' k)
    go false d true pe f fe k =
        let e = going-table t t' q q' k in
        inl ((present-exactly compare_bounds bounds-total b t).0 pe, e.0, e.1, ltb-false 255 (depth b.type) d)
    go false d false pe true fe k = absurd (refused-going 21 t' q' k)
    go false d false pe false fe k =
        let e = going-table (insert compare_bounds b t) t' (enqueue b.component q) q' k in
        let x = ltb-false 255 (depth b.type) d in
        let y = leb-false room (length t) fe in
        inr (record { flat = omega arith; absent = pe; fits = omega arith }, e.0, e.1)

-- ---- a turn: insertions in a row

-- a refusal stays
pub all-refused : (adds : List Addition) (k : ℕ) → insert_all adds (Refused k) ≡ Refused k
unfolding insert_all
all-refused [] k = refl
all-refused (a ∷ rest) k = refl

-- WHAT INSERTIONS OF CERTAIN BOUNDS KEEP, A TURN THAT INSERTS SUCH KEEPS
module _ (Q : Bound → Type 0) (P : Table → List ℕ → Type 0)
    (step : (b : Bound) (t : Table) (q : List ℕ) → Q b → New b t → P t q → P (insert compare_bounds b t) (enqueue b.component q)) where
  pub all-keeps-of : (adds : List Addition) → ((a : Addition) → Memᴰ a adds → Q a.adds)
      → (t : Table) (q : List ℕ) (t' : Table) (q' : List ℕ) → insert_all adds (Going t q) ≡ Going t' q' → P t q → P t' q'
  unfolding insert_all
  all-keeps-of [] such t q t' q' h p =
      let e = going-table t t' q q' h in
      subst (λ (x : Table). P x q') e.0 (subst (λ (x : List ℕ). P t x) e.1 p)
  all-keeps-of (a ∷ rest) such t q t' q' h p = go (insert_bound a.adds t q) refl h (all-keeps-of rest (λ x m. such x (Memᴰ.tail m)))
    where
      go : (o : Outcome) → insert_bound a.adds t q ≡ o → insert_all rest o ≡ Going t' q'
          → ((u : Table) (r : List ℕ) (u' : Table) (r' : List ℕ) → insert_all rest (Going u r) ≡ Going u' r' → P u r → P u' r') → P t' q'
      go (Refused k) e f ih = absurd (refused-going k t' q' (sym (all-refused rest k) ∙ f))
      go (Going u r) e f ih =
          ih u r t' q' f
          (⊎_elim (λ c. subst (λ (x : Table). P x r) c.1 (subst (λ (x : List ℕ). P t x) c.2 p))
          (λ c.
          subst (λ (x : Table). P x r) c.1
          (subst (λ (x : List ℕ). P (insert compare_bounds a.adds t) x) c.2 (step a.adds t q (such a (Memᴰ.head refl)) c.0 p)))
          (insert-cases a.adds t q u r e))

-- WHAT INSERTIONS KEEP, A TURN KEEPS
pub all-keeps : (P : Table → List ℕ → Type 0)
    → ((b : Bound) (t : Table) (q : List ℕ) → New b t → P t q → P (insert compare_bounds b t) (enqueue b.component q))
    → (adds : List Addition) (t : Table) (q : List ℕ) (t' : Table) (q' : List ℕ) → insert_all adds (Going t q) ≡ Going t' q' → P t q → P t' q'
all-keeps P step adds = all-keeps-of (λ b. Unit {0}) P (λ b t q such. step b t q) adds (λ a m. tt)

-- what was there stays there
pub turn-members : (z : Bound) (adds : List Addition) (t : Table) (q : List ℕ) (t' : Table) (q' : List ℕ) → insert_all adds (Going t q) ≡ Going t' q'
    → Memᴰ z t → Memᴰ z t'
turn-members z = all-keeps (λ t q. Memᴰ z t) (λ b t q n m. insert-keeps compare_bounds b z t m)

-- ALL THAT A TURN INSERTS IS THERE AFTER IT
pub turn-inserts : (adds : List Addition) (t : Table) (q : List ℕ) (t' : Table) (q' : List ℕ) → insert_all adds (Going t q) ≡ Going t' q'
    → (a : Addition) → Memᴰ a adds → Memᴰ a.adds t'
unfolding insert_all
turn-inserts [] t q t' q' h a m = absurd (Memᴰ.not-nil m)
turn-inserts (x ∷ rest) t q t' q' h a m = go (insert_bound x.adds t q) refl h (turn-inserts rest)
  where
    go : (o : Outcome) → insert_bound x.adds t q ≡ o → insert_all rest o ≡ Going t' q'
        → ((u : Table) (r : List ℕ) (u' : Table) (r' : List ℕ) → insert_all rest (Going u r) ≡ Going u' r' → (y : Addition) → Memᴰ y rest → Memᴰ y.adds u')
        → Memᴰ a.adds t'
    go (Refused k) e f ih = absurd (refused-going k t' q' (sym (all-refused rest k) ∙ f))
    go (Going u r) e f ih = ⊎_elim (λ z. subst (λ (y : Addition). Memᴰ y.adds t') (sym z) first) (ih u r t' q' f a) (Memᴰ.cases_cons m)
      where
        there : Memᴰ x.adds u
        there =
            ⊎_elim (λ c. subst (λ (y : Table). Memᴰ x.adds y) c.1 c.0)
            (λ c. subst (λ (y : Table). Memᴰ x.adds y) c.1 (insert-has compare_bounds bounds-total x.adds t))
            (insert-cases x.adds t q u r e)

        first : Memᴰ x.adds t'
        first = turn-members x.adds rest u r t' q' f there

pub all-refuses : (adds : List Addition) (t : Table) (q : List ℕ) (k : ℕ) → insert_all adds (Going t q) ≡ Refused k → (k ≡ 20) ⊎ (k ≡ 21)
unfolding insert_all
all-refuses [] t q k h = absurd (refused-going k t q (sym h))
all-refuses (a ∷ rest) t q k h = go (insert_bound a.adds t q) refl h (all-refuses rest)
  where
    go : (o : Outcome) → insert_bound a.adds t q ≡ o → insert_all rest o ≡ Refused k
        → ((u : Table) (r : List ℕ) (j : ℕ) → insert_all rest (Going u r) ≡ Refused j → (j ≡ 20) ⊎ (j ≡ 21)) → (k ≡ 20) ⊎ (k ≡ 21)
    go (Refused j) e f ih = insert-refused a.adds t q k (e ∙ sym (all-refused rest j) ∙ f)
    go (Going u r) e f ih = ih u r k f

-- ---- a run: turns in a row

-- a refused turn stops it
pub run-refused : (w : World) (l : Links) (fuel n k : ℕ) → run w l fuel n (Refused k) ≡ Stopped k
unfolding run
run-refused w l zero n k = refl
run-refused w l (suc fuel) n k = refl

-- WHAT TURNS KEEP, A RUN KEEPS: a fact of the turns taken, the table and the queue
module _ (w : World) (l : Links) (P : ℕ → Table → List ℕ → Type 0)
    (step : (n root : ℕ) (t : Table) (q : List ℕ) (t' : Table) (q' : List ℕ) → turn w l root t q ≡ Going t' q' → P n t (root ∷ q) → P (suc n) t' q') where
  pub run-keeps : (fuel n : ℕ) (t : Table) (q : List ℕ) (t' : Table) (q' : List ℕ) (n' : ℕ) → run w l fuel n (Going t q) ≡ Ended t' q' n' → P n t q → P n' t' q'
  unfolding run
  run-keeps zero n t q t' q' n' h p = ended n t q t' q' n' h p
    where
      ended : (m : ℕ) (u : Table) (r : List ℕ) (u' : Table) (r' : List ℕ) (m' : ℕ) → Ended u r m ≡ Ended u' r' m' → P m u r → P m' u' r'
      ended m u r u' r' m' e x =
          let a : u ≡ u' = cc in
          let b : r ≡ r' = cc in
          let c : m ≡ m' = cc in
          subst (λ (y : ℕ). P y u' r') c (subst (λ (y : Table). P m y r') a (subst (λ (y : List ℕ). P m u y) b x))
  run-keeps (suc fuel) n t [] t' q' n' h p =
      let a : t ≡ t' = cc in
      let b : [] ≡ q' = cc in
      let c : n ≡ n' = cc in
      subst (λ (y : ℕ). P y t' q') c (subst (λ (y : Table). P n y q') a (subst (λ (y : List ℕ). P n t y) b p))
  run-keeps (suc fuel) n t (root ∷ q) t' q' n' h p = go (turn w l root t q) refl h (run-keeps fuel)
    where
      go : (o : Outcome) → turn w l root t q ≡ o → run w l fuel (suc n) o ≡ Ended t' q' n'
          → ((m : ℕ) (u : Table) (r : List ℕ) (u' : Table) (r' : List ℕ) (m' : ℕ) → run w l fuel m (Going u r) ≡ Ended u' r' m' → P m u r → P m' u' r') → P n' t' q'
      go (Refused k) e f ih = absurd (stopped-ended k t' q' n' (sym (run-refused w l fuel (suc n) k) ∙ f))
      go (Going u r) e f ih = ih (suc n) u r t' q' n' f (step n root t q u r e p)
