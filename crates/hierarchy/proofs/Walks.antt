-- How a walk stands at each level, and what it tells where it ends.
use mathlib.Core.Path.{◌≡◌, refl, sym, ap, ◌∙◌, subst}
use mathlib.Core.Bool.{Bool, true, false, cond, true≢false}
use mathlib.Core.List.{List}
use mathlib.Core.Option.{some, none}
use Rattle.std.specs.Prelude.{Option, Some, None, is_some, unwrap_or}
use Rattle.std.specs.Bool.{then_some}
use Prim.Native.Nat.{ℕ, suc, ◌+◌, ◌≤◌, ◌<◌}
use borrow.Author.Count.{below_more}
use borrow.Author.Tests.{eq-eqb, ne_eqb}
use native.Mathlib.Decide.{dec_lt}
use native.Mathlib.Numerals.{add-one}
use native.Mathlib.Omega.{arith}
use lib.Dec.{eqb}
use lib.ListN.{replicate}
use Rattle.sets.specs.Sets.{at, member, insert, subtract, members, first}
use Rattle.sets.specs.Bits.{first-below, first-found, first-le}
use Rattle.sets.specs.Laws.{at-none, at-member, member-past}
use Rattle.view.specs.View.{number_of, View, with_parents, grow, level, reached, reach, steps, far, distance, distance_or}
use Rattle.view.specs.Grow.{Formed, member-le}
use Rattle.view.specs.Reach.{level-formed, level-grows, level-stays}
use Rattle.view.specs.Frontier.{Expanded, frontier, expanded-next, part-next, nothing-new}
use Rattle.hierarchy.specs.Walked.{level_of, Walked}

-- at level k nothing but the front is left to expand, and y was in no level before
pub record Standing (v : View) (x y : ℕ) (seen front : List ℕ) (k : ℕ) : Type 0 where
  pub within : k ≤ v.names
  pub is-level : seen ≡ level v k x
  pub part : (j : ℕ) → at front j ≤ at seen j
  pub expanded : Expanded v seen front
  pub not-before : (j : ℕ) → j < k → at (level v j x) y ≡ 0

-- the first place is the one that is set with none before it
first-is : (f : ℕ → ℕ) (n k : ℕ) → k < n → ((j : ℕ) → j < k → f j ≡ 0) → (f k ≡ 0 → ⊥) → first f n ≡ k
first-is f n k h unset set = go (dec_lt (first f n) k) (dec_lt k (first f n))
  where
    go : Dec (first f n < k) → Dec (k < first f n) → first f n ≡ k
    go (yes l) d = absurd (first-found f n (omega arith) (unset (first f n) l))
    go (no l) (yes m) = absurd (set (first-below f n k m))
    go (no l) (no m) = omega arith

module _ (v : View) (x y : ℕ) where
  pub standing-start : (empty s : List ℕ) → empty ≡ replicate 16 0 → s ≡ insert empty x → Standing v x y s s 0
  unfolding level
  standing-start empty s e q = record {
    within = omega arith;
    is-level = q ∙ ap (λ (w : List ℕ). insert w x) e;
    part = λ j. omega arith;
    expanded = λ c p m n i h. absurd (true≢false (sym m ∙ n));
    not-before = λ j h. absurd (omega arith);
  }

  module _ (seen front : List ℕ) (k : ℕ) (st : Standing v x y seen front k) where
    formed : Formed seen
    formed = subst Formed (sym st.is-level) (level-formed v k x)

    -- the steps where y is in this level
    found-steps : member seen y ≡ true → steps v x y ≡ k
    unfolding steps
    found-steps m =
        first-is (λ n. at (level v n x) y) (suc v.names) k (let l = st.within in omega arith) st.not-before
        (λ z. let a = at-member seen y m in let b = ap (λ (s : List ℕ). at s y) st.is-level in omega arith)

    pub walked-found : member seen y ≡ true → Walked v x y (Some k) seen
    unfolding reach reached level_of
    walked-found m = record {
      at-level = ap Some (sym (found-steps m)) ∙ sym (ap (λ (b : Bool). cond b (Some (steps v x y)) None) found);
      has-seen = λ n. absurd (true≢false (sym found ∙ n));
    }
      where
        found : member (level v v.names x) y ≡ true
        found = member-le seen (level v v.names x) y (subst (λ (s : List ℕ). at s y ≤ at (level v v.names x) y) (sym st.is-level) (level-grows v k v.names x y st.within)) m

    -- y is not in this level, which is the last
    walked-none : member seen y ≡ false → level v v.names x ≡ seen → Walked v x y None seen
    unfolding reach reached level_of
    walked-none n e = record {
      at-level = sym (ap (λ (b : Bool). cond b (Some (steps v x y)) None) (ap (λ (s : List ℕ). member s y) e ∙ n));
      has-seen = λ _. sym e;
    }

    pub walked-end : v.names ≤ k → (b : Bool) → b ≡ member seen y → (r : Option ℕ) → r ≡ then_some b v.names → Walked v x y r seen
    walked-end h b e r q = subst (λ (o : Option ℕ). Walked v x y o seen) (ap (then_some b) last ∙ sym q) (go b e)
      where
        last : k ≡ v.names
        last = let l = st.within in omega arith

        go : (b : Bool) → b ≡ member seen y → Walked v x y (then_some b k) seen
        go true e = walked-found (sym e)
        go false e = walked-none (sym e) (ap (λ (n : ℕ). level v n x) (sym last) ∙ sym st.is-level)

    module _ (next new : List ℕ) (e : next ≡ with_parents v seen (members (at front) 0 1024)) (q : new ≡ subtract next seen) where
      next-level : next ≡ grow v seen
      next-level = e ∙ frontier v seen front formed st.part st.expanded

      new-is : new ≡ subtract (grow v seen) seen
      new-is = q ∙ ap (λ (s : List ℕ). subtract s seen) next-level

      pub walked-last : member seen y ≡ false → first (at new) 1024 ≡ 1024 → Walked v x y None seen
      unfolding level
      walked-last n l =
          walked-none n
          (level-stays v k v.names x
          (ap (grow v) (sym st.is-level) ∙ nothing-new v seen formed (ap (λ (s : List ℕ). first (at s) 1024) (sym new-is) ∙ l) ∙ st.is-level) st.within ∙ sym st.is-level)

      pub standing-next : member seen y ≡ false → k < v.names → Standing v x y next new (k + 1)
      unfolding level
      standing-next n h = record {
        within = omega arith;
        is-level = next-level ∙ ap (grow v) st.is-level ∙ ap (λ (m : ℕ). level v m x) (sym (add-one k));
        part = subst (λ (s : List ℕ). (j : ℕ) → at new j ≤ at s j) (sym next-level) (subst (λ (s : List ℕ). (j : ℕ) → at s j ≤ at (grow v seen) j) (sym new-is) (part-next v seen formed));
        expanded = subst (λ (s : List ℕ). Expanded v s new) (sym next-level) (subst (Expanded v (grow v seen)) (sym new-is) (expanded-next v seen formed));
        not-before = below_more _ _ st.not-before (ap (λ (s : List ℕ). at s y) (sym st.is-level) ∙ at-none seen y n);
      }

-- what the level of a walk tells
module _ (v : View) (x y : ℕ) where
  pub tells : (level : Option ℕ) → level ≡ level_of v x y → is_some level ≡ reach v x y
  unfolding level_of
  tells level e = ap is_some e ∙ go (reach v x y)
    where
      go : (b : Bool) → is_some (cond b (Some (steps v x y)) None) ≡ b
      go true = refl
      go false = refl

module _ (v : View) (x : ℕ) where
  -- a number past the end is never found
  pub never-found : reach v x 1024 ≡ false
  unfolding reach reached
  never-found = member-past (level v v.names x) 1024 (let l = (level-formed v v.names x).0 in omega arith)

  module _ (y : ℕ) where
    -- ---- the distance, by what a walk told
    pub distance-found : (n : ℕ) → Some n ≡ level_of v x y → n ≡ number_of (distance v x y)
    unfolding level_of distance number_of
    distance-found n e = go (reach v x y) e
      where
        go : (b : Bool) → Some n ≡ cond b (Some (steps v x y)) None → n ≡ number_of (cond b (some (steps v x y)) (cond (eqb y v.object) (some far) none))
        go true q = ap (λ (o : Option ℕ). unwrap_or o 0) q
        go false q = absurd (true≢false (ap is_some q))

    pub distance-far : None ≡ level_of v x y → y ≡ v.object → far ≡ number_of (distance v x y)
    unfolding distance number_of
    distance-far n e = simp (sym (tells v x y None n), eq-eqb y v.object e)

    pub distance-none : None ≡ level_of v x y → (y ≡ v.object → ⊥) → 18446744073709551615 ≡ number_of (distance v x y)
    unfolding distance number_of
    distance-none n d = simp (sym (tells v x y None n), ne_eqb y v.object d)

    -- ---- and as a number that is there for every class
    pub far-found : (n : ℕ) → v.names ≤ 1024 → reach v x y ≡ true → n ≡ steps v x y → (n ≡ distance_or (distance v x y)) × (n ≤ far)
    unfolding distance steps
    far-found n h r e = (e ∙ simp r, let l = first-le (λ n. at (level v n x) y) (suc v.names) in omega arith)

    pub far-none : reach v x y ≡ false → far ≡ distance_or (distance v x y)
    unfolding distance
    far-none r = simp r (go (eqb y v.object))
      where
        go : (b : Bool) → far ≡ distance_or (cond b (some far) none)
        go true = refl
        go false = refl
