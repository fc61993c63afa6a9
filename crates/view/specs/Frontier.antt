-- Laws of the walk over any view: the members of a set one by one, and that it is enough to expand what is new.
use Rattle.std.specs.Prelude.{◌≡◌, Bool, true, false, length}
use Rattle.std.proofs.Math.Path.{refl, sym, ap}
use Rattle.std.proofs.Common.{◌∙◌, ⊎_elim, arith}
use mathlib.Core.List.{List, [], ◌∷◌, Memᴰ}
use Prim.Native.Nat.{ℕ, zero, suc, ◌+◌, ◌≤◌, ◌<◌}
use Rattle.std.proofs.Math.Decide.{dec_lt, ℕ_discrete}
use Rattle.order.specs.Truth.{implied-both}
use Rattle.sets.specs.Sets.{at, member, remove, subtract, keep, members, first}
use Rattle.sets.specs.Bits.{first-below, first-found}
use Rattle.sets.specs.Laws.{at-lt, at-past, at-ext, member-ext, at-member, at-none, member-at, at-remove-same, at-remove-other, members-only, members-all, at-subtract, length-subtract, lowest-none}
use Rattle.view.specs.View.{View, with_parents, grow}
use Rattle.view.specs.Grow.{Formed, member-le, with_parents-formed, with_parents-keeps, with_parents-has, with_parents-only, grow-formed, grow-keeps, grow-has, grow-only}

-- ---- members one by one

-- the members of two sets that are the same from i on
members-same : (f g : ℕ → ℕ) (i n : ℕ) → ((k : ℕ) → i ≤ k → f k ≡ g k) → members f i n ≡ members g i n
unfolding members
members-same f g i zero h = refl
members-same f g i (suc n) h =
    ap (λ (d : ℕ). keep d i (members f (suc i) n)) (h i (omega arith)) ∙ ap (keep (g i) i) (members-same f g (suc i) n (λ k l. h k (omega arith)))

module _ (f g : ℕ → ℕ) (c : ℕ) (least : (k : ℕ) → k < c → f k ≡ 0) (has : f c ≡ 0 → ⊥) (out : g c ≡ 0) (rest : (k : ℕ) → (k ≡ c → ⊥) → g k ≡ f k) where
  pop : (i n : ℕ) → i ≤ c → c < i + n → members f i n ≡ c ∷ members g i n
  unfolding members
  pop i zero l h = absurd (omega arith)
  pop i (suc n) l h = go (ℕ_discrete i c) (f i) refl (g i) refl (λ q. pop (suc i) n (omega arith) (omega arith))
    where
      go : Dec (i ≡ c) → (d : ℕ) → f i ≡ d → (e : ℕ) → g i ≡ e → ((i ≡ c → ⊥) → members f (suc i) n ≡ c ∷ members g (suc i) n)
          → keep d i (members f (suc i) n) ≡ c ∷ keep e i (members g (suc i) n)
      go (yes q) zero p e r ih = absurd (has (ap f (sym q) ∙ p))
      go (yes q) (suc d) p zero r ih =
          ap (λ (x : ℕ). x ∷ members f (suc i) n) q ∙ ap (λ (m : List ℕ). c ∷ m) (members-same f g (suc i) n (λ k b. sym (rest k (λ t. omega arith))))
      go (yes q) (suc d) p (suc e) r ih = absurd (let z = ap g q in omega arith)
      go (no q) zero p zero r ih = ih q
      go (no q) zero p (suc e) r ih = absurd (let z = rest i q in omega arith)
      go (no q) (suc d) p e r ih = absurd (let z = least i (omega arith) in omega arith)

-- the members are the least, and those of the set without it
pub members-pop : (s : List ℕ) (c : ℕ) → c ≡ first (at s) 1024 → c < 1024 → members (at s) 0 1024 ≡ c ∷ members (at (remove s c)) 0 1024
members-pop s c e h =
    pop (at s) (at (remove s c)) c (λ k l. first-below (at s) 1024 k (omega arith))
    (λ z. first-found (at s) 1024 (omega arith) (ap (at s) (sym e) ∙ z)) (at-remove-same s c) (λ k n. at-remove-other s c k n) 0 1024 (omega arith) (omega arith)

none-from : (f : ℕ → ℕ) (i n : ℕ) → ((k : ℕ) → k < i + n → f k ≡ 0) → members f i n ≡ []
unfolding members
none-from f i zero h = refl
none-from f i (suc n) h = ap (λ (d : ℕ). keep d i (members f (suc i) n)) (h i (omega arith)) ∙ none-from f (suc i) n (λ k l. h k (omega arith))

pub members-none : (s : List ℕ) → first (at s) 1024 ≡ 1024 → members (at s) 0 1024 ≡ []
members-none s e = none-from (at s) 0 1024 (λ k h. first-below (at s) 1024 k (omega arith))

-- ---- what is new

-- a member is below 1,024
pub member-lt : (s : List ℕ) (c : ℕ) → length s ≡ 16 → member s c ≡ true → c < 1024
member-lt s c l m = go (dec_lt c 1024)
  where
    go : Dec (c < 1024) → c < 1024
    go (yes h) = h
    go (no n) = absurd (let a = at-member s c m in let b = at-past s c (omega arith) in omega arith)

module _ (v : View) where
  -- the members of s that are not in the front have their parents in s
  abbrev pub Expanded : List ℕ → List ℕ → Type 0
  Expanded s front = (c p : ℕ) → member s c ≡ true → member front c ≡ false → Memᴰ p (v.parents c) → p < 1024 → member s p ≡ true

  -- IT IS ENOUGH TO EXPAND WHAT IS NEW: the parents of the front make a whole level
  pub frontier : (s front : List ℕ) → Formed s → ((j : ℕ) → at front j ≤ at s j) → Expanded s front → with_parents v s (members (at front) 0 1024) ≡ grow v s
  frontier s front f part e =
      member-ext (with_parents v s new) (grow v s) (w.0 ∙ sym g.0) w.1 g.1
      (λ j h. implied-both (member (with_parents v s new) j) (member (grow v s) j) (up j (let l = w.0 in omega arith)) (down j (let l = w.0 in omega arith)))
    where
      new : List ℕ
      new = members (at front) 0 1024

      w : Formed (with_parents v s new)
      w = with_parents-formed v s new f

      g : Formed (grow v s)
      g = grow-formed v s f

      up : (j : ℕ) → j < 1024 → member (with_parents v s new) j ≡ true → member (grow v s) j ≡ true
      up j h m =
          ⊎_elim (member-le s (grow v s) j (grow-keeps v s j))
          (λ q.
          let c = member-le front s q.0 (part q.0) (members-only front 1024 q.0 q.1) in
          grow-has v s q.0 j f (member-lt s q.0 f.0 c) h c q.2)
          (with_parents-only v s new j m)

      old : (c j : ℕ) → j < 1024 → member s c ≡ true → Memᴰ j (v.parents c) → (t : Bool) → member front c ≡ t → member (with_parents v s new) j ≡ true
      old c j h m p true q = with_parents-has v s new c j f h (members-all front 1024 c (member-lt s c f.0 m) q) p
      old c j h m p false q = member-le s (with_parents v s new) j (with_parents-keeps v s new j) (e c j m q p h)

      down : (j : ℕ) → j < 1024 → member (grow v s) j ≡ true → member (with_parents v s new) j ≡ true
      down j h m =
          ⊎_elim (member-le s (with_parents v s new) j (with_parents-keeps v s new j)) (λ q. old q.0 j h q.1 q.2 (member front q.0) refl)
          (grow-only v s j m)

  -- what was in the set before a level is expanded after it
  pub expanded-next : (s : List ℕ) → Formed s → Expanded (grow v s) (subtract (grow v s) s)
  expanded-next s f c p m n q h =
      let a = at-subtract (grow v s) s c ((grow-formed v s f).0 ∙ sym f.0) in
      let b = at-none (subtract (grow v s) s) c n in
      let d = at-member (grow v s) c m in
      let l = at-lt s c in
      let k = member-at s c (omega arith) in
      grow-has v s c p f (member-lt s c f.0 k) h k q

  pub part-next : (s : List ℕ) → Formed s → (j : ℕ) → at (subtract (grow v s) s) j ≤ at (grow v s) j
  part-next s f j = let a = at-subtract (grow v s) s j ((grow-formed v s f).0 ∙ sym f.0) in omega arith

  -- a level without a new member adds nothing
  pub nothing-new : (s : List ℕ) → Formed s → first (at (subtract (grow v s) s)) 1024 ≡ 1024 → grow v s ≡ s
  nothing-new s f e =
      at-ext (grow v s) s same (grow-formed v s f).1 f.1
      (λ j h.
      let n = at-none (subtract (grow v s) s) j (lowest-none (subtract (grow v s) s) (length-subtract (grow v s) s same ∙ (grow-formed v s f).0) e j) in
      let a = at-subtract (grow v s) s j same in
      let b = grow-keeps v s j in
      omega arith)
    where
      same : length (grow v s) ≡ length s
      same = (grow-formed v s f).0 ∙ sym f.0

-- ---- what is left of a set, one less with each turn

pub left-less : (f : List ℕ) (c : ℕ) (next : List ℕ) → c ≡ first (at f) 1024 → c < 1024 → next ≡ remove f c
    → length (members (at next) 0 1024) < length (members (at f) 0 1024)
left-less f c next e h q = let m = ap length (members-pop f c e h) in let w = ap (λ (s : List ℕ). length (members (at s) 0 1024)) q in omega arith
