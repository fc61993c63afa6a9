-- What is reached, and in how many steps: `level`, `reach` and `steps` against paths from a class to a parent, again to a
-- parent, and so on. Every law holds for any good view: of cycles, of the order of parents and of repeats nothing is asked.
use Rattle.std.specs.Prelude.{◌≡◌, Bool, ◌⊎◌, ◌↔◌, replicate}
use Rattle.std.proofs.Math.Path.{refl, sym, ap, subst}
use Rattle.std.proofs.Common.{◌∙◌, true≢false, add-suc, add-zero, eq-or-lt_of_le}
use Rattle.std.proofs.Math.Bool.{true, false}
use mathlib.Core.List.Memᴰ
use mathlib.Core.List.{List, [], Memᴰ}
use Rattle.std.proofs.Math.Logic.{inl, inr, ⊎_elim}
use Prim.Native.Nat.{ℕ, zero, suc, ◌+◌, ◌-◌, ◌≤◌, ◌<◌}
use Rattle.std.proofs.Math.Decide.{dec_lt}
use native.Mathlib.Omega.{arith}
use Rattle.sets.specs.Sets.{at, member, tally}
use Rattle.sets.specs.Bits.{tally-le, first-below, first-found}
use Rattle.sets.specs.Laws.{at-lt, at-member, at-none, member-empty, member-set, member-none, count-tally, count-same}
use Rattle.view.specs.View.{View, grow, level, reached, reach, steps}
use Rattle.view.specs.Grow.{Formed, empty-formed, insert-formed, count-below, count-above, member-le, member-insert-same, member-insert-only, grow-formed, grow-keeps, grow-has, grow-only}

-- what a class table gives: at most 1,024 names, Object among them, and parents among them
pub record Good (v : View) : Type 0 where
  pub few : v.names ≤ 1024
  pub object-in : v.object < v.names
  pub parents-in : (c p : ℕ) → c < v.names → Memᴰ p (v.parents c) → p < v.names

-- n steps lead from x to y, each from a class to one of its parents
pub data Path (v : View) (x : ℕ) : ℕ → ℕ → Type 0 where
  here : Path v x x 0
  there : {y p n : ℕ} → Path v x y n → Memᴰ p (v.parents y) → Path v x p (suc n)

module _ (v : View) where
  -- ---- levels: a step keeps what is there

  pub level-formed : (n x : ℕ) → Formed (level v n x)
  unfolding level
  level-formed zero x = insert-formed (replicate 16 0) x empty-formed
  level-formed (suc n) x = grow-formed v (level v n x) (level-formed n x)

  pub level-keeps : (n x j : ℕ) → at (level v n x) j ≤ at (level v (suc n) x) j
  unfolding level
  level-keeps n x j = grow-keeps v (level v n x) j

  pub level-grows : (m n x j : ℕ) → m ≤ n → at (level v m x) j ≤ at (level v n x) j
  level-grows m zero x j h = subst (λ (k : ℕ). at (level v k x) j ≤ at (level v 0 x) j) (let e : 0 ≡ m = omega arith in e) (omega arith)
  level-grows m (suc n) x j h =
      ⊎_elim
      (λ e. subst (λ (k : ℕ). at (level v k x) j ≤ at (level v (suc n) x) j) (sym e) (omega arith))
      (λ l. let a = level-grows m n x j (omega arith) in let b = level-keeps n x j in omega arith)
      (eq-or-lt_of_le h)

  -- a level that changes nothing is the last to look at
  pub level-stays : (m n x : ℕ) → level v (suc m) x ≡ level v m x → m ≤ n → level v n x ≡ level v m x
  unfolding level
  level-stays m zero x e h = ap (λ (k : ℕ). level v k x) (let q : 0 ≡ m = omega arith in q)
  level-stays m (suc n) x e h =
      ⊎_elim (λ q. ap (λ (k : ℕ). level v k x) (sym q)) (λ l. ap (grow v) (level-stays m n x e (omega arith)) ∙ e) (eq-or-lt_of_le h)

  -- ---- paths

  pub path-join : {x y z m n : ℕ} → Path v x y m → Path v y z n → Path v x z (m + n)
  path-join {m = m} a here = rw (add-zero m) a
  path-join {m = m} a (there {n = n} b p) = rw (add-suc m n) (there (path-join a b) p)

  -- what is in a level has a path no longer than the level
  pub level-path : (n x y : ℕ) → member (level v n x) y ≡ true → (k : ℕ) × (k ≤ n) × Path v x y k
  unfolding level
  level-path zero x y m =
      ⊎_elim (λ q. absurd (true≢false (sym q ∙ member-empty 16 y))) (λ e. (0, omega arith, subst (λ (z : ℕ). Path v x z 0) (sym e) here))
      (member-insert-only (replicate 16 0) x y m)
  level-path (suc n) x y m =
      ⊎_elim (λ q. let w = level-path n x y q in (w.0, omega arith, w.2))
      (λ c. let w = level-path n x c.0 c.1 in (suc w.0, omega arith, there w.2 c.2))
      (grow-only v (level v n x) y m)

module _ (v : View) (g : Good v) where
  pub path-below : {x y n : ℕ} → x < v.names → Path v x y n → y < v.names
  path-below h here = h
  path-below h (there {y = y} {p = p} a m) = g.parents-in y p (path-below h a) m

  -- and what has such a path is in the level
  path-at : {x y n : ℕ} → x < v.names → Path v x y n → member (level v n x) y ≡ true
  unfolding level
  path-at {x} h here = member-insert-same (replicate 16 0) x empty-formed (let f = g.few in omega arith)
  path-at {x} h (there {y = y} {p = p} {n = n} a m) =
      grow-has v (level v n x) y p (level-formed v n x)
      (let f = g.few in let b = path-below h a in omega arith)
      (let f = g.few in let b = g.parents-in y p (path-below h a) m in omega arith)
      (path-at h a)
      m

  pub path-level : {x y k : ℕ} (n : ℕ) → x < v.names → Path v x y k → k ≤ n → member (level v n x) y ≡ true
  path-level {x} {y} {k} n h a l = member-le (level v k x) (level v n x) y (level-grows v k n x y l) (path-at h a)

  -- ---- from one class x of the table
  module _ (x : ℕ) (h : x < v.names) where
    pub level-below : (n y : ℕ) → member (level v n x) y ≡ true → y < v.names
    level-below n y m = path-below h (level-path v n x y m).2

    level-count : (n : ℕ) → tally (at (level v n x)) 1024 ≤ v.names
    level-count n = count-below (level v n x) v.names g.few (level-below n)

    -- a level with as many members as the one before is that one
    level-same : (n : ℕ) → tally (at (level v n x)) 1024 ≡ tally (at (level v (suc n) x)) 1024 → level v (suc n) x ≡ level v n x
    level-same n e =
        let a = level-formed v n x in
        let b = level-formed v (suc n) x in
        sym
        (count-same (level v n x) (level v (suc n) x) a.0 b.0 a.1 b.1 (level-keeps v n x)
        (count-tally (level v n x) 1024 ∙ e ∙ sym (count-tally (level v (suc n) x) 1024)))

    -- each level that changes something adds a member
    level-or-more : (n : ℕ) → (level v (suc n) x ≡ level v n x) ⊎ (n < tally (at (level v n x)) 1024)
    unfolding level
    level-or-more zero = inr (count-above (level v 0 x) x (let f = g.few in omega arith) (path-at h here))
    level-or-more (suc n) = go (level-or-more n)
      where
        go : (level v (suc n) x ≡ level v n x) ⊎ (n < tally (at (level v n x)) 1024) → (level v (suc (suc n)) x ≡ level v (suc n) x) ⊎ (suc n < tally (at (level v (suc n) x)) 1024)
        go (inl e) = inl (ap (grow v) e)
        go (inr l) =
            ⊎_elim (λ e. inl (ap (grow v) (level-same n e))) (λ k. inr (omega arith))
            (eq-or-lt_of_le (tally-le (at (level v n x)) (at (level v (suc n) x)) 1024 (level-keeps v n x)))

    -- after all names but one, nothing changes
    pub level-ends : (n : ℕ) → v.names ≤ suc n → level v (suc n) x ≡ level v n x
    level-ends n l =
        ⊎_elim (λ e. e)
        (λ m.
        let a = level-count (suc n) in
        let b = tally-le (at (level v n x)) (at (level v (suc n) x)) 1024 (level-keeps v n x) in
        level-same n (omega arith))
        (level-or-more n)

    pub level-reached : (n : ℕ) → v.names ≤ suc n → level v n x ≡ reached v x
    unfolding reached
    level-reached n l = go (dec_lt n v.names)
      where
        go : Dec (n < v.names) → level v n x ≡ level v v.names x
        go (yes k) = sym (level-ends n l) ∙ ap (λ (m : ℕ). level v m x) (let e : suc n ≡ v.names = omega arith in e)
        go (no k) = level-stays v v.names n x (level-ends v.names (omega arith)) (omega arith)

    -- ---- REACHED exactly if there is a path, and then there is one of fewer steps than names

    pub path-reach : {y n : ℕ} → Path v x y n → reach v x y ≡ true
    unfolding reach
    path-reach {y} {n} a =
        subst (λ (s : List ℕ). member s y ≡ true) (level-reached (n + v.names) (omega arith)) (path-level (n + v.names) h a (omega arith))

    pub reach-path : (y : ℕ) → reach v x y ≡ true → (k : ℕ) × (k < v.names) × Path v x y k
    unfolding reach
    reach-path y m =
        let w = level-path v (v.names - 1) x y (subst (λ (s : List ℕ). member s y ≡ true) (sym (level-reached (v.names - 1) (omega arith))) m) in
        (w.0, omega arith, w.2)

    pub path-shorten : {y n : ℕ} → Path v x y n → (k : ℕ) × (k < v.names) × Path v x y k
    path-shorten {y} a = reach-path y (path-reach a)

    pub reach-refl : reach v x x ≡ true
    reach-refl = path-reach here

    pub reach-below : (y : ℕ) → reach v x y ≡ true → y < v.names
    reach-below y m = path-below h (reach-path y m).2

    pub reach-parent : (y p : ℕ) → reach v x y ≡ true → Memᴰ p (v.parents y) → reach v x p ≡ true
    reach-parent y p m q = path-reach (there (reach-path y m).2 q)

    -- THE LEVEL n and WHAT IS REACHED, in terms of paths
    pub level-exactly : (n y : ℕ) → (member (level v n x) y ≡ true) ↔ ((k : ℕ) × (k ≤ n) × Path v x y k)
    level-exactly n y = (level-path v n x y, λ w. path-level n h w.2 w.1)

    pub reach-exactly : (y : ℕ) → (reach v x y ≡ true) ↔ ((k : ℕ) × Path v x y k)
    reach-exactly y = (λ m. let w = reach-path y m in (w.0, w.2), λ w. path-reach w.1)

    -- what holds of x, and of the parents of each reached class of which it holds, holds of all that is reached
    pub reach-induction : (P : ℕ → Type 0) → P x → ((c p : ℕ) → reach v x c ≡ true → P c → Memᴰ p (v.parents c) → P p) → (y : ℕ) → reach v x y ≡ true → P y
    reach-induction P start next y m = along (reach-path y m).2
      where
        along : {z n : ℕ} → Path v x z n → P z
        along here = start
        along (there {y = c} {p = p} a q) = next c p (path-reach a) (along a) q

    -- a class without parents reaches itself alone
    pub reach-alone : v.parents x ≡ [] → (y : ℕ) → reach v x y ≡ true → y ≡ x
    reach-alone e = reach-induction (λ y. y ≡ x) refl (λ c p m q k. absurd (Memᴰ.not-nil (subst (Memᴰ p) (ap v.parents q ∙ e) k)))

    -- the set that is reached: its form, and a further step adds nothing
    pub reached-formed : Formed (reached v x)
    unfolding reached
    reached-formed = level-formed v v.names x

    pub reached-closed : grow v (reached v x) ≡ reached v x
    unfolding reached level
    reached-closed = level-ends v.names (omega arith)

    -- ---- STEPS: the length of a shortest path, where there is one

    steps-before : (y n : ℕ) → n < steps v x y → member (level v n x) y ≡ false
    unfolding steps
    steps-before y n l = member-none (level v n x) y (first-below (λ n. at (level v n x) y) (suc v.names) n l)

    pub steps-least : {y n : ℕ} → Path v x y n → steps v x y ≤ n
    steps-least {y} {n} a = go (dec_lt n (steps v x y))
      where
        go : Dec (n < steps v x y) → steps v x y ≤ n
        go (yes l) = absurd (true≢false (sym (path-at h a) ∙ steps-before y n l))
        go (no l) = omega arith

    pub steps-below : (y : ℕ) → reach v x y ≡ true → steps v x y < v.names
    steps-below y m = let w = reach-path y m in let l = steps-least w.2 in omega arith

    steps-member : (y : ℕ) → reach v x y ≡ true → member (level v (steps v x y) x) y ≡ true
    unfolding steps
    steps-member y m = let l = steps-below y m in member-set (level v (steps v x y) x) y (first-found (λ n. at (level v n x) y) (suc v.names) (omega arith))

    pub steps-path : (y : ℕ) → reach v x y ≡ true → Path v x y (steps v x y)
    steps-path y m =
        let w = level-path v (steps v x y) x y (steps-member y m) in
        let l = steps-least w.2 in
        subst (Path v x y) (let e : w.0 ≡ steps v x y = omega arith in e) w.2

    -- so a path than which none is shorter gives the steps
    pub steps-exactly : {y n : ℕ} → Path v x y n → ((k : ℕ) → Path v x y k → n ≤ k) → steps v x y ≡ n
    steps-exactly {y} {n} a least =
        let l = steps-least a in
        let m = least (steps v x y) (steps-path y (path-reach a)) in
        omega arith

    pub steps-self : steps v x x ≡ 0
    steps-self = let l = steps-least here in omega arith

  -- ---- from one class to the next

  pub reach-trans : (x y z : ℕ) → x < v.names → reach v x y ≡ true → reach v y z ≡ true → reach v x z ≡ true
  reach-trans x y z h a b = path-reach x h (path-join v (reach-path x h y a).2 (reach-path y (reach-below x h y a) z b).2)

  -- what a reached class reaches is reached
  pub reached-subset : (x y : ℕ) → x < v.names → reach v x y ≡ true → (z : ℕ) → at (reached v y) z ≤ at (reached v x) z
  unfolding reach
  reached-subset x y h a z = go (member (reached v y) z) refl
    where
      go : (t : Bool) → member (reached v y) z ≡ t → at (reached v y) z ≤ at (reached v x) z
      go true m = let p = at-member (reached v x) z (reach-trans x y z h a m) in let q = at-lt (reached v y) z in omega arith
      go false m = let p = at-none (reached v y) z m in omega arith
