-- WHICH CLASSES OF A SET TWO SIDES REACH FIRST, level by level, and that the nearest of them is the nearest of the set. Over any good view.
use Rattle.std.specs.Prelude.{◌≡◌, Bool, cond, ◌&&◌, ◌||◌, ◌⊎◌, ℕ, ◌+◌, ◌≤◌, ◌<◌, max, eqb, length, replicate}
use Rattle.std.proofs.Math.Path.{refl, sym, ap, ap₂, subst}
use Rattle.std.proofs.Common.{◌∙◌, true≢false, add-one, arith, eqb-true}
use Rattle.std.proofs.Math.Bool.{true, false, and-eq-true_iff}
use mathlib.Core.List.{List}
use Rattle.std.proofs.Math.Logic.{inl, inr, ⊎_elim}
use Rattle.std.proofs.Math.Decide.{dec_lt, ℕ_discrete}
use Rattle.std.proofs.lemmas.Bool.{eqb-false}
use Rattle.sets.specs.Sets.{at, member, insert, remove, unite, intersect, subtract, members, first}
use Rattle.sets.specs.Bits.{first-le}
use Rattle.sets.specs.Laws.{member-unite, length-unite, member-intersect, length-intersect, length-remove, lowest-member, lowest-least, lowest-none}
use Rattle.view.specs.View.{View, with_parents, grow, level, reach, steps, far, distance, distance_or, ancestor, nearer}
use Rattle.view.specs.Grow.{Formed}
use Rattle.view.specs.Reach.{Good, level-formed, level-path, path-level, path-reach, steps-least, steps-path, steps-below}
use Rattle.view.specs.Ancestors.{ancestor-exactly, ancestor-reach, distance-reached, distance-object}
use Rattle.view.specs.Supertype.{Common}
use Rattle.view.specs.Frontier.{Expanded, frontier, expanded-next, part-next}
use Rattle.view.specs.Nearest.{greater, sum, nearer-exactly}
use Rattle.view.specs.Pick.{NearestOf}
use Rattle.view.specs.Lows.{remove-in, remove-only}

-- what two sets have, together or either
abbrev pub of_two : Bool → List ℕ → List ℕ → List ℕ
of_two both a b = cond both (intersect a b) (unite a b)

-- whether both sides reach a class in at most k steps, or either does
unfoldable pub hit : Bool → View → ℕ → ℕ → ℕ → ℕ → Bool
hit true v left right k c = member (level v k left) c && member (level v k right) c
hit false v left right k c = member (level v k left) c || member (level v k right) c

-- r has the classes of a set that are hit first: at a level before which none is; or none is hit at all
pub record FirstHit (both : Bool) (v : View) (left right : ℕ) (s r : List ℕ) : Type 0 where
  pub size : length r ≡ 16
  pub depth : ℕ
  pub within : depth ≤ v.names
  pub is-in : (c : ℕ) → member r c ≡ true → (member s c ≡ true) × (hit both v left right depth c ≡ true)
  pub has : (c : ℕ) → member s c ≡ true → hit both v left right depth c ≡ true → member r c ≡ true
  pub not-before : (c : ℕ) → member s c ≡ true → (j : ℕ) → j < depth → hit both v left right j c ≡ false
  pub some-or-none : ((c : ℕ) × (member r c ≡ true)) ⊎ ((c : ℕ) → member s c ≡ true → hit both v left right v.names c ≡ false)

-- ---- the walk of one side

pub record Walking (v : View) (x : ℕ) (seen front : List ℕ) (k : ℕ) : Type 0 where
  pub is-level : seen ≡ level v k x
  pub part : (j : ℕ) → at front j ≤ at seen j
  pub expanded : Expanded v seen front

module _ (v : View) (x : ℕ) where
  pub walking-start : (empty s : List ℕ) → empty ≡ replicate 16 0 → s ≡ insert empty x → Walking v x s s 0
  unfolding level
  walking-start empty s e q = record {
    is-level = q ∙ ap (λ (w : List ℕ). insert w x) e;
    part = λ j. omega arith;
    expanded = λ c p m n i h. absurd (true≢false (sym m ∙ n));
  }

  pub walking-next : (seen front : List ℕ) (k : ℕ) → Walking v x seen front k → (next new : List ℕ) → next ≡ with_parents v seen (members (at front) 0 1024) → new ≡ subtract next seen
      → Walking v x next new (k + 1)
  unfolding level
  walking-next seen front k st next new e q = record {
    is-level = next-level ∙ ap (grow v) st.is-level ∙ ap (λ (n : ℕ). level v n x) (sym (add-one k));
    part = subst (λ (s : List ℕ). (j : ℕ) → at new j ≤ at s j) (sym next-level) (subst (λ (s : List ℕ). (j : ℕ) → at s j ≤ at (grow v seen) j) (sym new-is) (part-next v seen formed));
    expanded = subst (λ (s : List ℕ). Expanded v s new) (sym next-level) (subst (Expanded v (grow v seen)) (sym new-is) (expanded-next v seen formed));
  }
    where
      formed : Formed seen
      formed = subst Formed (sym st.is-level) (level-formed v k x)

      next-level : next ≡ grow v seen
      next-level = e ∙ frontier v seen front formed st.part st.expanded

      new-is : new ≡ subtract (grow v seen) seen
      new-is = q ∙ ap (λ (s : List ℕ). subtract s seen) next-level

-- ---- both sides

-- at level k nothing of s was hit before
pub record Meeting (both : Bool) (v : View) (left right : ℕ) (s : List ℕ) (seen-left front-left seen-right front-right : List ℕ) (k : ℕ) : Type 0 where
  pub within : k ≤ v.names
  pub from-left : Walking v left seen-left front-left k
  pub from-right : Walking v right seen-right front-right k
  pub not-before : (c : ℕ) → member s c ≡ true → (j : ℕ) → j < k → hit both v left right j c ≡ false

-- a class of both, or of either, level by level
hit-of : (both : Bool) (v : View) (left right k c : ℕ) → member (of_two both (level v k left) (level v k right)) c ≡ hit both v left right k c
unfolding hit
hit-of true v left right k c = member-intersect (level v k left) (level v k right) c ((level-formed v k left).0 ∙ sym (level-formed v k right).0)
hit-of false v left right k c = member-unite (level v k left) (level v k right) c ((level-formed v k left).0 ∙ sym (level-formed v k right).0)

of-two-size : (both : Bool) (v : View) (left right k : ℕ) → length (of_two both (level v k left) (level v k right)) ≡ 16
of-two-size true v left right k = length-intersect (level v k left) (level v k right) ((level-formed v k left).0 ∙ sym (level-formed v k right).0) ∙ (level-formed v k left).0
of-two-size false v left right k = length-unite (level v k left) (level v k right) ((level-formed v k left).0 ∙ sym (level-formed v k right).0) ∙ (level-formed v k left).0

module _ (both : Bool) (v : View) (left right : ℕ) (s : List ℕ) (size : length s ≡ 16) where
  pub meeting-start : (empty l r : List ℕ) → empty ≡ replicate 16 0 → l ≡ insert empty left → r ≡ insert empty right → Meeting both v left right s l l r r 0
  meeting-start empty l r e p q = record {
    within = omega arith;
    from-left = walking-start v left empty l e p;
    from-right = walking-start v right empty r e q;
    not-before = λ c m j h. absurd (omega arith);
  }

  module _ (seen-left front-left seen-right front-right : List ℕ) (k : ℕ) (st : Meeting both v left right s seen-left front-left seen-right front-right k)
      (met : List ℕ) (e : met ≡ intersect (of_two both seen-left seen-right) s) where
    two : List ℕ
    two = of_two both (level v k left) (level v k right)

    met-is : met ≡ intersect two s
    unfolding two
    met-is = e ∙ ap₂ (λ (a b : List ℕ). intersect (of_two both a b) s) st.from-left.is-level st.from-right.is-level

    same-size : length two ≡ length s
    unfolding two
    same-size = of-two-size both v left right k ∙ sym size

    met-member : (c : ℕ) → member met c ≡ (hit both v left right k c && member s c)
    unfolding two
    met-member c =
        ap (λ (w : List ℕ). member w c) met-is ∙ member-intersect two s c same-size
        ∙ ap (λ (b : Bool). b && member s c) (hit-of both v left right k c)

    met-size : length met ≡ 16
    met-size = ap length met-is ∙ length-intersect two s same-size ∙ same-size ∙ size

    hits : ((c : ℕ) × (member met c ≡ true)) ⊎ ((c : ℕ) → member s c ≡ true → hit both v left right v.names c ≡ false) → FirstHit both v left right s met
    hits w = record {
      size = met-size;
      depth = k;
      within = st.within;
      is-in = λ c m. let b = (and-eq-true_iff (hit both v left right k c) (member s c)).0 (sym (met-member c) ∙ m) in (b.1, b.0);
      has = λ c m h. met-member c ∙ ap₂ (λ (a b : Bool). a && b) h m;
      not-before = st.not-before;
      some-or-none = w;
    }

    -- something is hit
    pub meeting-hit : (first (at met) 1024 ≡ 1024 → ⊥) → FirstHit both v left right s met
    meeting-hit n = hits (inl (first (at met) 1024, lowest-member met 1024 (let l = first-le (at met) 1024 in omega arith)))

    none-here : first (at met) 1024 ≡ 1024 → (c : ℕ) → member s c ≡ true → hit both v left right k c ≡ false
    none-here z c m = go (hit both v left right k c) refl
      where
        go : (b : Bool) → hit both v left right k c ≡ b → b ≡ false
        go true h = absurd (true≢false (sym (met-member c ∙ ap₂ (λ (a b : Bool). a && b) h m) ∙ lowest-none met met-size z c))
        go false h = refl

    -- nothing is, and this is the last level
    pub meeting-end : v.names ≤ k → FirstHit both v left right s met
    meeting-end n = go (dec_lt (first (at met) 1024) 1024)
      where
        go : Dec (first (at met) 1024 < 1024) → FirstHit both v left right s met
        go (yes l) = hits (inl (first (at met) 1024, lowest-member met 1024 l))
        go (no l) =
            let z : first (at met) 1024 ≡ 1024 = let b = first-le (at met) 1024 in omega arith in
            let q : k ≡ v.names = let b = st.within in omega arith in
            hits (inr (λ c m. subst (λ (i : ℕ). hit both v left right i c ≡ false) q (none-here z c m)))

    -- nothing is, and there are levels left
    pub meeting-next : first (at met) 1024 ≡ 1024 → k < v.names → (next-left next-right new-left new-right : List ℕ)
        → next-left ≡ with_parents v seen-left (members (at front-left) 0 1024) → next-right ≡ with_parents v seen-right (members (at front-right) 0 1024)
        → new-left ≡ subtract next-left seen-left → new-right ≡ subtract next-right seen-right → Meeting both v left right s next-left new-left next-right new-right (k + 1)
    meeting-next z h nl nr wl wr a b p q = record {
      within = omega arith;
      from-left = walking-next v left seen-left front-left k st.from-left nl wl a p;
      from-right = walking-next v right seen-right front-right k st.from-right nr wr b q;
      not-before = λ c m j l. go c m j l (dec_lt j k);
    }
      where
        go : (c : ℕ) → member s c ≡ true → (j : ℕ) → j < k + 1 → Dec (j < k) → hit both v left right j c ≡ false
        go c m j l (yes y) = st.not-before c m j y
        go c m j l (no n) = subst (λ (i : ℕ). hit both v left right i c ≡ false) (let q : k ≡ j = omega arith in q) (none-here z c m)

-- ---- what a hit says of distances

or-cases : (a b : Bool) → (a || b) ≡ true → (a ≡ true) ⊎ (b ≡ true)
or-cases true b h = inl refl
or-cases false b h = inr h

-- the least of a set that has a member is one
some-least : (s : List ℕ) (c : ℕ) → length s ≡ 16 → member s c ≡ true → first (at s) 1024 < 1024
some-least s c l m = go (dec_lt (first (at s) 1024) 1024)
  where
    go : Dec (first (at s) 1024 < 1024) → first (at s) 1024 < 1024
    go (yes h) = h
    go (no n) = absurd (true≢false (sym m ∙ lowest-none s l (let b = first-le (at s) 1024 in let q : first (at s) 1024 ≡ 1024 = omega arith in q) c))

module _ (v : View) (g : Good v) where
  level-steps : (x : ℕ) (hx : x < v.names) (k c : ℕ) → member (level v k x) c ≡ true → (reach v x c ≡ true) × (steps v x c ≤ k)
  level-steps x hx k c m =
      let w = level-path v k x c m in
      (path-reach v g x hx w.2, let l = steps-least v g x hx w.2 in let b = w.1 in omega arith)

  steps-level : (x : ℕ) (hx : x < v.names) (k c : ℕ) → reach v x c ≡ true → steps v x c ≤ k → member (level v k x) c ≡ true
  steps-level x hx k c r l = path-level v g k hx (steps-path v g x hx c r) l

  -- an ancestor's distance: its steps, or far
  dist-cases : (x : ℕ) (hx : x < v.names) (c : ℕ) → ancestor v x c ≡ true
      → ((reach v x c ≡ true) × (distance_or (distance v x c) ≡ steps v x c)) ⊎ ((reach v x c ≡ false) × (distance_or (distance v x c) ≡ far))
  dist-cases x hx c a = go (reach v x c) refl ((ancestor-exactly v g x c hx).0 a)
    where
      go : (b : Bool) → reach v x c ≡ b → (c ≡ v.object) ⊎ (reach v x c ≡ true)
          → ((reach v x c ≡ true) × (distance_or (distance v x c) ≡ steps v x c)) ⊎ ((reach v x c ≡ false) × (distance_or (distance v x c) ≡ far))
      go true r w = inl (r, ap distance_or (distance-reached v g x hx c r))
      go false r (inl o) =
          inr (r, ap (λ (y : ℕ). distance_or (distance v x y)) o ∙ ap distance_or (distance-object v g x hx (subst (λ (y : ℕ). reach v x y ≡ false) o r)))
      go false r (inr m) = absurd (true≢false (sym m ∙ r))

  module _ (left right : ℕ) (hl : left < v.names) (hr : right < v.names) where
    hit-both : (k c : ℕ) → hit true v left right k c ≡ true → (reach v left c ≡ true) × (steps v left c ≤ k) × (reach v right c ≡ true) × (steps v right c ≤ k)
    unfolding hit
    hit-both k c h =
        let w = (and-eq-true_iff (member (level v k left) c) (member (level v k right) c)).0 h in
        let a = level-steps left hl k c w.0 in
        let b = level-steps right hr k c w.1 in
        (a.0, a.1, b.0, b.1)

    both-hit : (k c : ℕ) → reach v left c ≡ true → steps v left c ≤ k → reach v right c ≡ true → steps v right c ≤ k → hit true v left right k c ≡ true
    unfolding hit
    both-hit k c a l b r =
        (and-eq-true_iff (member (level v k left) c) (member (level v k right) c)).1 (steps-level left hl k c a l, steps-level right hr k c b r)

    hit-either : (k c : ℕ) → hit false v left right k c ≡ true → (steps v left c ≤ k) ⊎ (steps v right c ≤ k)
    unfolding hit
    hit-either k c h = ⊎_elim (λ m. inl (level-steps left hl k c m).1) (λ m. inr (level-steps right hr k c m).1) (or-cases (member (level v k left) c) (member (level v k right) c) h)

    either-hit : (k c : ℕ) → reach v left c ≡ true → reach v right c ≡ true → (steps v left c ≤ k) ⊎ (steps v right c ≤ k) → hit false v left right k c ≡ true
    unfolding hit
    either-hit k c a b (inl l) = ap (λ (m : Bool). m || member (level v k right) c) (steps-level left hl k c a l)
    either-hit k c a b (inr l) = go (member (level v k left) c) (steps-level right hr k c b l)
      where
        go : (m : Bool) → member (level v k right) c ≡ true → (m || member (level v k right) c) ≡ true
        go true e = refl
        go false e = e

    -- ---- hit first by both

    module _ (s met : List ℕ) (f : FirstHit true v left right s met) where
      -- what was met: its steps, of which the greater number is the depth
      record Met (c : ℕ) : Type 0 where
        in-set : member s c ≡ true
        by-left : reach v left c ≡ true
        by-right : reach v right c ≡ true
        most-left : steps v left c ≤ f.depth
        most-right : steps v right c ≤ f.depth
        one-is : (f.depth ≤ steps v left c) ⊎ (f.depth ≤ steps v right c)

      met-of : (c : ℕ) → member met c ≡ true → Met c
      met-of c m =
          let i = f.is-in c m in
          let h = hit-both f.depth c i.1 in
          record { in-set = i.0; by-left = h.0; by-right = h.2; most-left = h.1; most-right = h.3; one-is = go h (dec_lt (steps v left c) f.depth) (dec_lt (steps v right c) f.depth) i.0 }
        where
          go : (reach v left c ≡ true) × (steps v left c ≤ f.depth) × (reach v right c ≡ true) × (steps v right c ≤ f.depth)
              → Dec (steps v left c < f.depth) → Dec (steps v right c < f.depth) → member s c ≡ true → (f.depth ≤ steps v left c) ⊎ (f.depth ≤ steps v right c)
          go h (no l) r i = inl (omega arith)
          go h (yes l) (no r) i = inr (omega arith)
          go h (yes l) (yes r) i =
              let j : ℕ = max (steps v left c) (steps v right c) in
              absurd (true≢false (sym (both-hit j c h.0 (omega arith) h.2 (omega arith)) ∙ f.not-before c i j (omega arith)))

      dist-left : (c : ℕ) → Met c → distance_or (distance v left c) ≡ steps v left c
      dist-left c w = ap distance_or (distance-reached v g left hl c w.by-left)

      dist-right : (c : ℕ) → Met c → distance_or (distance v right c) ≡ steps v right c
      dist-right c w = ap distance_or (distance-reached v g right hr c w.by-right)

      met-greater : (c : ℕ) → Met c → greater v left right c ≡ f.depth
      met-greater c w =
          ap₂ max (dist-left c w) (dist-right c w)
          ∙ (let a = w.most-left in let b = w.most-right in ⊎_elim (λ o. let q : max (steps v left c) (steps v right c) ≡ f.depth = omega arith in q) (λ o. let q : max (steps v left c) (steps v right c) ≡ f.depth = omega arith in q) w.one-is)

      met-sum : (c : ℕ) → Met c → sum v left right c ≡ steps v left c + steps v right c
      met-sum c w = ap₂ (λ (a b : ℕ). a + b) (dist-left c w) (dist-right c w)

      -- what was not met is farther
      out-greater : (d : ℕ) → member s d ≡ true → Common v left right d → member met d ≡ false → f.depth < greater v left right d
      out-greater d m w n = go (dist-cases left hl d w.0) (dist-cases right hr d w.1)
        where
          most : f.depth < far
          most = let a = f.within in let b = g.few in omega arith

          go : ((reach v left d ≡ true) × (distance_or (distance v left d) ≡ steps v left d)) ⊎ ((reach v left d ≡ false) × (distance_or (distance v left d) ≡ far))
              → ((reach v right d ≡ true) × (distance_or (distance v right d) ≡ steps v right d)) ⊎ ((reach v right d ≡ false) × (distance_or (distance v right d) ≡ far))
              → f.depth < max (distance_or (distance v left d)) (distance_or (distance v right d))
          go (inr a) b = let p = a.1 in let q = most in omega arith
          go (inl a) (inr b) = let p = b.1 in let q = most in omega arith
          go (inl a) (inl b) = near (dec_lt f.depth (steps v left d)) (dec_lt f.depth (steps v right d))
            where
              near : Dec (f.depth < steps v left d) → Dec (f.depth < steps v right d) → f.depth < max (distance_or (distance v left d)) (distance_or (distance v right d))
              near (yes l) r = let p = a.1 in omega arith
              near (no l) (yes r) = let p = b.1 in omega arith
              near (no l) (no r) = absurd (true≢false (sym (f.has d m (both-hit f.depth d a.0 (omega arith) b.0 (omega arith))) ∙ n))

      -- THE NEAREST OF WHAT BOTH MEET FIRST IS THE NEAREST OF ALL
      pub nearest-met : ((c : ℕ) → member s c ≡ true → Common v left right c) → (c₀ : ℕ) → member met c₀ ≡ true → (r : ℕ) → NearestOf v left right met r → NearestOf v left right s r
      nearest-met common c₀ m₀ r near = record { is-in = λ c m. (f.is-in r r-met).0; least = λ d m. go d m (member met d) refl }
        where
          r-met : member met r ≡ true
          r-met = near.is-in c₀ m₀

          go : (d : ℕ) → member s d ≡ true → (b : Bool) → member met d ≡ b → (d ≡ r) ⊎ (nearer v left right r d ≡ true)
          go d m true q = near.least d q
          go d m false q =
              inr ((nearer-exactly v left right r d).1 (inl (let a = met-greater r (met-of r r-met) in let b = out-greater d m (common d m) q in let z : greater v left right r < greater v left right d = omega arith in z)))

      -- of common ancestors one at least is met, where there are two
      pub met-some : ((c : ℕ) → member s c ≡ true → Common v left right c) → (c d : ℕ) → member s c ≡ true → member s d ≡ true → (c ≡ d → ⊥) → (e : ℕ) × (member met e ≡ true)
      met-some common c d m k n = ⊎_elim (λ w. w) (λ none. absurd (go none (ℕ_discrete c v.object))) f.some-or-none
        where
          there : (e : ℕ) → member s e ≡ true → (e ≡ v.object → ⊥) → ((e : ℕ) → member s e ≡ true → hit true v left right v.names e ≡ false) → ⊥
          there e i o none =
              let w = common e i in
              let a = ancestor-reach v g left e hl o w.0 in
              let b = ancestor-reach v g right e hr o w.1 in
              true≢false
              (sym (both-hit v.names e a (let l = steps-below v g left hl e a in omega arith) b (let l = steps-below v g right hr e b in omega arith)) ∙ none e i)

          go : ((e : ℕ) → member s e ≡ true → hit true v left right v.names e ≡ false) → Dec (c ≡ v.object) → ⊥
          go none (yes o) = there d k (λ q. n (o ∙ sym q)) none
          go none (no o) = there c m o none

      -- ---- and of those, hit first by either

      module _ (near : List ℕ) (h : FirstHit false v left right met near) where
        near-sum : (c : ℕ) → member near c ≡ true → sum v left right c ≡ f.depth + h.depth
        near-sum c m =
            met-sum c w
            ∙ (let a = w.most-left in let b = w.most-right in let x = lower.0 in let y = lower.1 in
            ⊎_elim
            (λ o. ⊎_elim (λ p. let q : steps v left c + steps v right c ≡ f.depth + h.depth = omega arith in q) (λ p. let q : steps v left c + steps v right c ≡ f.depth + h.depth = omega arith in q) upper)
            (λ o. ⊎_elim (λ p. let q : steps v left c + steps v right c ≡ f.depth + h.depth = omega arith in q) (λ p. let q : steps v left c + steps v right c ≡ f.depth + h.depth = omega arith in q) upper)
            w.one-is)
          where
            i : (member met c ≡ true) × (hit false v left right h.depth c ≡ true)
            i = h.is-in c m

            w : Met c
            w = met-of c i.0

            upper : (steps v left c ≤ h.depth) ⊎ (steps v right c ≤ h.depth)
            upper = hit-either h.depth c i.1

            low : (k : ℕ) → (steps v left c ≤ k) ⊎ (steps v right c ≤ k) → Dec (k < h.depth) → h.depth ≤ k
            low k z (yes l) = absurd (true≢false (sym (either-hit k c w.by-left w.by-right z) ∙ h.not-before c i.0 k l))
            low k z (no l) = omega arith

            lower : (h.depth ≤ steps v left c) × (h.depth ≤ steps v right c)
            lower =
                (low (steps v left c) (inl (omega arith)) (dec_lt (steps v left c) h.depth), low (steps v right c) (inr (omega arith)) (dec_lt (steps v right c) h.depth))

        far-sum : (d : ℕ) → member met d ≡ true → member near d ≡ false → f.depth + h.depth < sum v left right d
        far-sum d m n =
            let e = met-sum d w in
            ⊎_elim (λ o. let p = above.1 in let q : f.depth + h.depth < sum v left right d = omega arith in q) (λ o. let p = above.0 in let q : f.depth + h.depth < sum v left right d = omega arith in q) w.one-is
          where
            w : Met d
            w = met-of d m

            high : (k : ℕ) → Dec (h.depth < k) → ((k ≤ h.depth) → (steps v left d ≤ h.depth) ⊎ (steps v right d ≤ h.depth)) → h.depth < k
            high k (yes l) z = l
            high k (no l) z = absurd (true≢false (sym (h.has d m (either-hit h.depth d w.by-left w.by-right (z (omega arith)))) ∙ n))

            above : (h.depth < steps v left d) × (h.depth < steps v right d)
            above = (high (steps v left d) (dec_lt h.depth (steps v left d)) (λ l. inl l), high (steps v right d) (dec_lt h.depth (steps v right d)) (λ l. inr l))

        -- THE LEAST OF WHAT EITHER REACHES FIRST IS THE NEAREST OF WHAT BOTH MEET FIRST
        pub nearest-near : (c₀ : ℕ) → member met c₀ ≡ true → NearestOf v left right met (first (at near) 1024)
        nearest-near c₀ m₀ = record { is-in = λ c m. (h.is-in r r-near).0; least = λ d m. go d m (member near d) refl }
          where
            some-near : (e : ℕ) × (member near e ≡ true)
            some-near =
                ⊎_elim (λ w. w)
                (λ none.
                let w = met-of c₀ m₀ in
                absurd
                (true≢false
                (sym (either-hit v.names c₀ w.by-left w.by-right (inl (let l = steps-below v g left hl c₀ w.by-left in omega arith))) ∙ none c₀ m₀)))
                h.some-or-none

            r : ℕ
            r = first (at near) 1024

            r-near : member near r ≡ true
            r-near = lowest-member near 1024 (some-least near some-near.0 h.size some-near.1)

            not-less : (d : ℕ) → member near d ≡ true → r ≤ d
            not-less d m = less (dec_lt d (first (at near) 1024))
              where
                less : Dec (d < first (at near) 1024) → first (at near) 1024 ≤ d
                less (yes l) = absurd (true≢false (sym m ∙ lowest-least near 1024 d l))
                less (no l) = omega arith

            same-greater : (d : ℕ) → member met d ≡ true → greater v left right r ≡ greater v left right d
            same-greater d m = met-greater r (met-of r (h.is-in r r-near).0) ∙ sym (met-greater d (met-of d m))

            go : (d : ℕ) → member met d ≡ true → (b : Bool) → member near d ≡ b → (d ≡ r) ⊎ (nearer v left right r d ≡ true)
            go d m true q = even (ℕ_discrete d r)
              where
                even : Dec (d ≡ r) → (d ≡ r) ⊎ (nearer v left right r d ≡ true)
                even (yes e) = inl e
                even (no e) = inr ((nearer-exactly v left right r d).1 (inr (same-greater d m, inr (near-sum r r-near ∙ sym (near-sum d q), let l = not-less d q in omega arith))))
            go d m false q =
                inr ((nearer-exactly v left right r d).1 (inr (same-greater d m, inl (let a = near-sum r r-near in let b = far-sum d m q in let z : sum v left right r < sum v left right d = omega arith in z))))

-- ---- one member alone

-- whether a set has fewer than two members
abbrev pub lone : List ℕ → Bool
lone s = eqb (first (at (remove s (first (at s) 1024))) 1024) 1024

-- the nearest of one class is that class
pub nearest-lone : (v : View) (left right : ℕ) (s : List ℕ) → length s ≡ 16 → lone s ≡ true → NearestOf v left right s (first (at s) 1024)
nearest-lone v left right s l e = record { is-in = λ c m. lowest-member s 1024 (some-least s c l m); least = λ d m. go d m (ℕ_discrete d b) }
  where
    b : ℕ
    b = first (at s) 1024

    go : (d : ℕ) → member s d ≡ true → Dec (d ≡ b) → (d ≡ b) ⊎ (nearer v left right b d ≡ true)
    go d m (yes q) = inl q
    go d m (no n) =
        absurd (true≢false (sym (remove-in s b d n ∙ m) ∙ lowest-none (remove s b) (length-remove s b ∙ l) (eqb-true (first (at (remove s b)) 1024) 1024 e) d))

-- where a set has more, two of them differ
pub two-of : (s : List ℕ) → length s ≡ 16 → lone s ≡ false → (c d : ℕ) × (member s c ≡ true) × (member s d ≡ true) × (c ≡ d → ⊥)
two-of s l e =
    let w = remove-only s b d (lowest-member (remove s b) 1024 (let q = eqb-false (first (at (remove s b)) 1024) 1024 e in let u = first-le (at (remove s b)) 1024 in omega arith)) in
    (b, d, lowest-member s 1024 (some-least s d l w.1), w.1, λ q. w.0 (sym q))
  where
    b : ℕ
    b = first (at s) 1024

    d : ℕ
    d = first (at (remove s b)) 1024
