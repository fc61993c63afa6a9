-- What is reached from any class of a set, and how a walk from all of them at once finds it. Over any good view.
use Rattle.std.specs.Prelude.{◌≡◌, refl, Bool, true, false, not, ◌&&◌, List, ℕ, ◌-◌, ◌≤◌, ◌<◌, length}
use Rattle.std.proofs.Common.{sym, ap, ◌∙◌, subst, true≢false, ⊎_elim, eq-or-lt_of_le, arith}
use Rattle.std.proofs.lemmas.Bool.{false≢true}
use Rattle.order.specs.Truth.{implied-both}
use Rattle.sets.specs.Sets.{at, member, subtract, members, first}
use Rattle.sets.specs.Bits.{tally-le, tally-eq, tally-bound}
use Rattle.sets.specs.Laws.{at-lt, at-member, member-ext, member-subtract, length-subtract, at-subtract, members-only, members-all, count-tally, lowest-member, lowest-none}
use Rattle.view.specs.View.{View, with_parents, reach}
use Rattle.view.specs.Grow.{Formed, member-le, with_parents-formed, with_parents-keeps, with_parents-has, with_parents-only}
use Rattle.view.specs.Reach.{Good, reach-refl, reach-below, reach-parent, reach-induction}
use Rattle.view.specs.Frontier.{Expanded, member-lt}

-- r is what is reached from the members of s
pub record Spread (v : View) (s r : List ℕ) : Type 0 where
  pub formed : Formed r
  pub has : (x y : ℕ) → member s x ≡ true → reach v x y ≡ true → member r y ≡ true
  pub only : (y : ℕ) → member r y ≡ true → (x : ℕ) × (member s x ≡ true) × (reach v x y ≡ true)

-- there is one such set
pub spread-unique : (v : View) (s a b : List ℕ) → Spread v s a → Spread v s b → a ≡ b
spread-unique v s a b p q =
    member-ext a b (p.formed.0 ∙ sym q.formed.0) p.formed.1 q.formed.1
    (λ j h. implied-both (member a j) (member b j) (λ m. let w = p.only j m in q.has w.0 j w.1 w.2) (λ m. let w = q.only j m in p.has w.0 j w.1 w.2))

-- on the way there: nothing but what is reached, and only the front is left to expand
pub record Spreading (v : View) (s seen front : List ℕ) : Type 0 where
  pub formed : Formed seen
  pub front-size : length front ≡ 16
  pub kept : (j : ℕ) → member s j ≡ true → member seen j ≡ true
  pub sound : (y : ℕ) → member seen y ≡ true → (x : ℕ) × (member s x ≡ true) × (reach v x y ≡ true)
  pub part : (j : ℕ) → member front j ≡ true → member seen j ≡ true
  pub expanded : Expanded v seen front

-- ---- what is in one set and not in another

pub less-only : (a b : List ℕ) (c : ℕ) → length a ≡ 16 → length b ≡ 16 → member (subtract a b) c ≡ true → (member a c ≡ true) × (member b c ≡ false)
less-only a b c la lb m = go (member a c) (member b c) (sym (member-subtract a b c (la ∙ sym lb)) ∙ m)
  where
    go : (s t : Bool) → (s && not t) ≡ true → (s ≡ true) × (t ≡ false)
    go true true e = absurd (false≢true e)
    go true false e = (refl, refl)
    go false t e = absurd (false≢true e)

pub less-out : (a b : List ℕ) (c : ℕ) → length a ≡ 16 → length b ≡ 16 → member a c ≡ true → member (subtract a b) c ≡ false → member b c ≡ true
less-out a b c la lb m n = go (member a c) (member b c) m (sym (member-subtract a b c (la ∙ sym lb)) ∙ n)
  where
    go : (s t : Bool) → s ≡ true → (s && not t) ≡ false → t ≡ true
    go true true p e = refl
    go true false p e = absurd (true≢false e)
    go false t p e = absurd (false≢true p)

pub less-has : (a b : List ℕ) (c : ℕ) → length a ≡ 16 → length b ≡ 16 → member a c ≡ true → member b c ≡ false → member (subtract a b) c ≡ true
less-has a b c la lb m n = member-subtract a b c (la ∙ sym lb) ∙ go (member a c) (member b c) m n
  where
    go : (s t : Bool) → s ≡ true → t ≡ false → (s && not t) ≡ true
    go true true p e = absurd (true≢false e)
    go true false p e = refl
    go false t p e = absurd (false≢true p)

module _ (v : View) (g : Good v) (s : List ℕ) (inside : (c : ℕ) → member s c ≡ true → c < v.names) where
  pub spreading-start : Formed s → Spreading v s s s
  spreading-start f = record {
    formed = f;
    front-size = f.0;
    kept = λ j m. m;
    sound = λ y m. (y, m, reach-refl v g y (inside y m));
    part = λ j m. m;
    expanded = λ c p m n q h. absurd (true≢false (sym m ∙ n));
  }

  module _ (seen front : List ℕ) (st : Spreading v s seen front) where
    -- nothing is left to expand
    pub spreading-end : first (at front) 1024 ≡ 1024 → Spread v s seen
    spreading-end e = record {
      formed = st.formed;
      has = λ x y m r.
          reach-induction v g x (inside x m) (λ (z : ℕ). member seen z ≡ true) (st.kept x m)
          (λ c p k k' q.
          st.expanded c p k' (lowest-none front st.front-size e c) q
          (let b = g.parents-in c p (reach-below v g x (inside x m) c k) q in let f = g.few in omega arith))
          y r;
      only = st.sound;
    }

    module _ (next new : List ℕ) (e : next ≡ with_parents v seen (members (at front) 0 1024)) (q : new ≡ subtract next seen) where
      formed-next : Formed next
      formed-next = subst Formed (sym e) (with_parents-formed v seen (members (at front) 0 1024) st.formed)

      keeps : (j : ℕ) → at seen j ≤ at next j
      keeps j = subst (λ (w : List ℕ). at seen j ≤ at w j) (sym e) (with_parents-keeps v seen (members (at front) 0 1024) j)

      size-new : length new ≡ 16
      size-new = ap length q ∙ length-subtract next seen (formed-next.0 ∙ sym st.formed.0) ∙ formed-next.0

      sound-next : (y : ℕ) → member next y ≡ true → (x : ℕ) × (member s x ≡ true) × (reach v x y ≡ true)
      sound-next y m =
          ⊎_elim (st.sound y)
          (λ w.
          let u = st.sound w.0 (st.part w.0 (members-only front 1024 w.0 w.1)) in
          (u.0, u.1, reach-parent v g u.0 (inside u.0 u.1) w.0 y u.2 w.2))
          (with_parents-only v seen (members (at front) 0 1024) y (subst (λ (w : List ℕ). member w y ≡ true) e m))

      expanded-next : Expanded v next new
      expanded-next c p m n k h = go (member front c) refl
        where
          old : member seen c ≡ true
          old = less-out next seen c formed-next.0 st.formed.0 m (subst (λ (w : List ℕ). member w c ≡ false) q n)

          go : (b : Bool) → member front c ≡ b → member next p ≡ true
          go true f =
              subst (λ (w : List ℕ). member w p ≡ true) (sym e)
              (with_parents-has v seen (members (at front) 0 1024) c p st.formed h (members-all front 1024 c (member-lt front c st.front-size f) f) k)
          go false f = member-le seen next p (keeps p) (st.expanded c p old f k h)

      pub spreading-next : Spreading v s next new
      spreading-next = record {
        formed = formed-next;
        front-size = size-new;
        kept = λ j m. member-le seen next j (keeps j) (st.kept j m);
        sound = sound-next;
        part = λ j m. (less-only next seen j formed-next.0 st.formed.0 (subst (λ (w : List ℕ). member w j ≡ true) q m)).0;
        expanded = expanded-next;
      }

      -- and with each turn more is expanded
      pub spreading-less : (c : ℕ) → c ≡ first (at front) 1024 → c < 1024
          → 1024 - length (members (at (subtract next new)) 0 1024) < 1024 - length (members (at (subtract seen front)) 0 1024)
      spreading-less c i h =
          ⊎_elim
          (λ w.
          absurd
          (let a = tally-eq (at (subtract seen front)) (at (subtract next new)) 1024 less (sym (count-tally (subtract seen front) 1024) ∙ w ∙ count-tally (subtract next new) 1024) c h in
          let b = before c in
          let d = after c in
          let x = at-member front c in-front in
          let y = at-member seen c (st.part c in-front) in
          omega arith))
          (λ l.
          let a = count-tally (subtract next new) 1024 in
          let b = tally-bound (at (subtract next new)) 1024 (at-lt (subtract next new)) in
          omega arith)
          (eq-or-lt_of_le
          (let a = count-tally (subtract seen front) 1024 in
          let b = count-tally (subtract next new) 1024 in
          let d = tally-le (at (subtract seen front)) (at (subtract next new)) 1024 less in
          omega arith))
        where
          in-front : member front c ≡ true
          in-front = subst (λ (x : ℕ). member front x ≡ true) (sym i) (lowest-member front 1024 (omega arith))

          before : (j : ℕ) → at (subtract seen front) j ≡ at seen j - at front j
          before j = at-subtract seen front j (st.formed.0 ∙ sym st.front-size)

          after : (j : ℕ) → at (subtract next new) j ≡ at seen j
          after j =
              let a = at-subtract next new j (formed-next.0 ∙ sym size-new) in
              let b = ap (λ (w : List ℕ). at w j) q in
              let d = at-subtract next seen j (formed-next.0 ∙ sym st.formed.0) in
              let k = keeps j in
              omega arith

          less : (j : ℕ) → at (subtract seen front) j ≤ at (subtract next new) j
          less j = let a = before j in let b = after j in omega arith
