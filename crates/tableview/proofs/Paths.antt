-- Ways from a class to a parent, again to a parent, and so on, in the words of the rows; what is reached has a way, and a distance is
-- the length of a shortest one. Assumes nothing of cycles.
use Rattle.std.specs.Prelude.{◌≡◌, Bool, true, false, cond, ◌⊎◌, ◌↔◌, ℕ, ◌≤◌, ◌<◌, eqb}
use Rattle.std.proofs.Math.Path.{refl, sym, ap}
use Rattle.std.proofs.Common.{◌∙◌, subst, true≢false, inl, inr, ⊎_elim, arith}
use mathlib.Core.List.Memᴰ
use mathlib.Core.List.{List, [], ◌∷◌, ◌++◌, Memᴰ}
use Rattle.std.proofs.Math.Option.{Option, some, none}
use Rattle.std.proofs.Math.Decide.{ℕ_discrete}
use Rattle.std.proofs.Math.ListN.{length}
use borrow.Author.Tests.{ne_eqb, eqb-true, eqb-false}
use Rattle.view.specs.View.{number_of, reach, steps, far, distance}
use Rattle.view.specs.Reach.{Good, Path, here, there, reach-exactly, steps-path, steps-least, steps-exactly, steps-below}
use Rattle.view.specs.Ancestors.{distance-reached, distance-object}
use Rattle.rows.specs.Rows.{object_name}
use Rattle.tableview.specs.TableRows.{Record, Rows, listed_parents, set_of, place_of, rows_view}
use Rattle.tableview.proofs.Agrees.{elem-member, member-elem, elem-set}
use Rattle.tableview.specs.Paths.{Lists, Way, Way.stay, Way.step, NoWay, Shortest, IsObject}

-- ---- the parents of the view are those that rows list

listed-has : (c y : ℕ) (rs : List Record) → (r : Record) × Memᴰ r rs × (r.class ≡ c) × Memᴰ y r.parents → Memᴰ y (listed_parents c rs)
unfolding listed_parents
listed-has c y [] w = absurd (Memᴰ.not-nil w.1)
listed-has c y (s ∷ rs) w = go (eqb s.class c) refl (Memᴰ.cases_cons w.1) (λ m. listed-has c y rs (w.0, m, w.2, w.3))
  where
    go : (b : Bool) → eqb s.class c ≡ b → (w.0 ≡ s) ⊎ Memᴰ w.0 rs → (Memᴰ w.0 rs → Memᴰ y (listed_parents c rs))
        → Memᴰ y (cond b (s.parents ++ listed_parents c rs) (listed_parents c rs))
    go true e (inl q) ih = Memᴰ.append_left (listed_parents c rs) (subst (λ (r : Record). Memᴰ y r.parents) q w.3)
    go true e (inr m) ih = Memᴰ.append_right s.parents (ih m)
    go false e (inl q) ih = absurd (eqb-false s.class c e (sym (ap (λ (r : Record). r.class) q) ∙ w.2))
    go false e (inr m) ih = ih m

listed-only : (c y : ℕ) (rs : List Record) → Memᴰ y (listed_parents c rs) → (r : Record) × Memᴰ r rs × (r.class ≡ c) × Memᴰ y r.parents
unfolding listed_parents
listed-only c y [] m = absurd (Memᴰ.not-nil m)
listed-only c y (s ∷ rs) m = go (eqb s.class c) refl m (listed-only c y rs)
  where
    Told : Type 0
    Told = (r : Record) × Memᴰ r (s ∷ rs) × (r.class ≡ c) × Memᴰ y r.parents

    further : (r : Record) × Memᴰ r rs × (r.class ≡ c) × Memᴰ y r.parents → Told
    further w = (w.0, Memᴰ.tail w.1, w.2, w.3)

    go : (b : Bool) → eqb s.class c ≡ b → Memᴰ y (cond b (s.parents ++ listed_parents c rs) (listed_parents c rs))
        → (Memᴰ y (listed_parents c rs) → (r : Record) × Memᴰ r rs × (r.class ≡ c) × Memᴰ y r.parents) → Told
    go true e k ih = ⊎_elim (λ p. (s, Memᴰ.head refl, eqb-true s.class c e, p)) (λ p. further (ih p)) (Memᴰ.append_cases s.parents k)
    go false e k ih = further (ih k)

module _ (t : Rows) where
  -- A PARENT IS ONE THAT SOME ROW LISTS
  pub parents-exactly : (x y : ℕ) → Memᴰ y ((rows_view t).parents x) ↔ Lists t x y
  unfolding rows_view
  parents-exactly x y = (
    λ m. listed-only x y t.records (elem-member y (listed_parents x t.records) (sym (elem-set y (listed_parents x t.records)) ∙ member-elem y (set_of (listed_parents x t.records)) m)),
    λ w. elem-member y (set_of (listed_parents x t.records)) (elem-set y (listed_parents x t.records) ∙ member-elem y (listed_parents x t.records) (listed-has x y t.records w)),
  )

  pub way-path : {n x y : ℕ} → Way t n x y → Path (rows_view t) x y n
  way-path stay = here
  way-path (step {y = y} {z = z} w l) = there (way-path w) ((parents-exactly y z).1 l)

  pub path-way : {x n y : ℕ} → Path (rows_view t) x y n → Way t n x y
  path-way here = stay
  path-way (there {y = y} {p = p} a m) = step (path-way a) ((parents-exactly y p).0 m)

module _ (t : Rows) (g : Good (rows_view t)) where
  pub object-exactly : (y : ℕ) → (y ≡ (rows_view t).object) ↔ IsObject t y
  unfolding rows_view number_of
  object-exactly y = (λ e. go (place_of object_name t.names) refl e g.few g.object-in, λ e. sym (ap number_of e))
    where
      go : (o : Option ℕ) → place_of object_name t.names ≡ o → y ≡ number_of o → length t.names ≤ 1024 → number_of (place_of object_name t.names) < length t.names → place_of object_name t.names ≡ some y
      go none e q few l = absurd (let k = ap number_of e in omega arith)
      go (some i) e q few l = e ∙ ap some (sym q)

  -- ---- from a class x of the table
  module _ (x : ℕ) (h : x < length t.names) where
    inside : x < (rows_view t).names
    unfolding rows_view
    inside = h

    -- REACHED EXACTLY IF THERE IS A WAY
    pub reached-exactly : (y : ℕ) → (reach (rows_view t) x y ≡ true) ↔ ((n : ℕ) × Way t n x y)
    reached-exactly y =
        let r = reach-exactly (rows_view t) g x inside y in (
          λ m. let w = r.0 m in (w.0, path-way t w.1),
          λ w. r.1 (w.0, way-path t w.1),
        )

    pub unreached-exactly : (y : ℕ) → (reach (rows_view t) x y ≡ false) ↔ NoWay t x y
    unreached-exactly y = (λ m n w. true≢false (sym ((reached-exactly y).1 (n, w)) ∙ m), λ f. go f (reach (rows_view t) x y) refl)
      where
        go : NoWay t x y → (b : Bool) → reach (rows_view t) x y ≡ b → b ≡ false
        go f true m = let w = (reached-exactly y).0 m in absurd (f w.0 w.1)
        go f false m = refl

    reached-shortest : (y : ℕ) → reach (rows_view t) x y ≡ true → Shortest t (steps (rows_view t) x y) x y
    reached-shortest y m = record {
      way = path-way t (steps-path (rows_view t) g x inside y m);
      least = λ k w. steps-least (rows_view t) g x inside (way-path t w);
    }

    -- A DISTANCE IS THE LENGTH OF A SHORTEST WAY
    pub distance-shortest : (y n : ℕ) → Shortest t n x y → distance (rows_view t) x y ≡ some n
    distance-shortest y n s =
        distance-reached (rows_view t) g x inside y ((reached-exactly y).1 (n, s.way))
        ∙ ap some (steps-exactly (rows_view t) g x inside (way-path t s.way) (λ k a. s.least k (path-way t a)))

    -- the three kinds of answer: a shortest way, of fewer than 1,024 steps; Object without a way; neither
    pub data Kind (y : ℕ) : Option ℕ → Type 0 where
      near : {n : ℕ} → n < 1024 → Shortest t n x y → Kind y (some n)
      top : IsObject t y → NoWay t x y → Kind y (some far)
      neither : (IsObject t y → ⊥) → NoWay t x y → Kind y none

    not-object : (y : ℕ) → reach (rows_view t) x y ≡ false → (y ≡ (rows_view t).object → ⊥) → distance (rows_view t) x y ≡ none
    unfolding distance
    not-object y m n = rw (m, ne_eqb y (rows_view t).object n)

    pub kind : (y : ℕ) → Kind y (distance (rows_view t) x y)
    kind y = go (reach (rows_view t) x y) refl (ℕ_discrete y (rows_view t).object)
      where
        go : (b : Bool) → reach (rows_view t) x y ≡ b → Dec (y ≡ (rows_view t).object) → Kind y (distance (rows_view t) x y)
        go true m d =
            subst (Kind y) (sym (distance-reached (rows_view t) g x inside y m))
            (near (let s = steps-below (rows_view t) g x inside y m in let f = g.few in omega arith) (reached-shortest y m))
        go false m (yes e) =
            subst (Kind y) (sym (ap (distance (rows_view t) x) e ∙ distance-object (rows_view t) g x inside (sym (ap (reach (rows_view t) x) e) ∙ m)))
            (top ((object-exactly y).0 e) ((unreached-exactly y).0 m))
        go false m (no n) = subst (Kind y) (sym (not-object y m n)) (neither (λ o. n ((object-exactly y).1 o)) ((unreached-exactly y).0 m))

    -- SOME NUMBER BELOW 1,024 EXACTLY IF IT IS THE LENGTH OF A SHORTEST WAY
    pub distance-way : (y n : ℕ) → ((distance (rows_view t) x y ≡ some n) × (n < 1024)) ↔ Shortest t n x y
    distance-way y n = (λ w. to (distance (rows_view t) x y) (kind y) w.0 w.1, λ s. (distance-shortest y n s, small (distance (rows_view t) x y) (kind y) (distance-shortest y n s) s))
      where
        to : (o : Option ℕ) → Kind y o → o ≡ some n → n < 1024 → Shortest t n x y
        to (some m) (near l s) e k = subst (λ (i : ℕ). Shortest t i x y) (let q : m ≡ n = cc in q) s
        to (some far) (top o w) e k = absurd (let q : far ≡ n = cc in omega arith)
        to none (neither o w) e k = absurd (let z : ◌≡◌ {A = ℕ} 0 1 = cc in omega arith)

        small : (o : Option ℕ) → Kind y o → o ≡ some n → Shortest t n x y → n < 1024
        small (some m) (near l s) e k = let q : m ≡ n = cc in omega arith
        small (some far) (top o w) e k = absurd (w n k.way)
        small none (neither o w) e k = absurd (w n k.way)

    -- FAR EXACTLY FOR AN OBJECT THAT HAS NO WAY
    pub distance-far : (y : ℕ) → (distance (rows_view t) x y ≡ some far) ↔ (IsObject t y × NoWay t x y)
    distance-far y = (λ e. to (distance (rows_view t) x y) (kind y) e, λ w. from (distance (rows_view t) x y) (kind y) w.0 w.1)
      where
        to : (o : Option ℕ) → Kind y o → o ≡ some far → IsObject t y × NoWay t x y
        to (some m) (near l s) e = absurd (let q : m ≡ far = cc in omega arith)
        to (some far) (top o w) e = (o, w)
        to none (neither o w) e = absurd (let z : ◌≡◌ {A = ℕ} 0 1 = cc in omega arith)

        from : (o : Option ℕ) → Kind y o → IsObject t y → NoWay t x y → o ≡ some far
        from (some m) (near l s) p w = absurd (w m s.way)
        from (some far) (top o v) p w = refl
        from none (neither o v) p w = absurd (o p)

    -- NONE EXACTLY FOR ANOTHER THAT HAS NO WAY
    pub distance-absent : (y : ℕ) → (distance (rows_view t) x y ≡ none) ↔ ((IsObject t y → ⊥) × NoWay t x y)
    distance-absent y = (λ e. to (distance (rows_view t) x y) (kind y) e, λ w. from (distance (rows_view t) x y) (kind y) w.0 w.1)
      where
        to : (o : Option ℕ) → Kind y o → o ≡ none → (IsObject t y → ⊥) × NoWay t x y
        to (some m) (near l s) e = absurd (let z : ◌≡◌ {A = ℕ} 0 1 = cc in omega arith)
        to (some far) (top o w) e = absurd (let z : ◌≡◌ {A = ℕ} 0 1 = cc in omega arith)
        to none (neither o w) e = (o, w)

        from : (o : Option ℕ) → Kind y o → (IsObject t y → ⊥) → NoWay t x y → o ≡ none
        from (some m) (near l s) p w = absurd (w m s.way)
        from (some far) (top o v) p w = absurd (p o)
        from none (neither o v) p w = refl
