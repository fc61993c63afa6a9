-- What `insert_all`, `with_parents` and `grow` make of a set: sixteen words stay sixteen words, no member is lost, and the
-- new members are the parents.
use Rattle.std.specs.Prelude.{◌≡◌, Bool, true, false, ◌⊎◌, length, replicate}
use Rattle.std.proofs.Math.Path.{refl}
use Rattle.std.proofs.Common.{sym, ap, ◌∙◌, subst}
use mathlib.Core.List.Memᴰ
use mathlib.Core.List.{List, [], ◌∷◌, Memᴰ}
use Rattle.std.proofs.Math.Logic.{inl, inr, ⊎_elim}
use Prim.Native.Nat.{ℕ, ◌+◌, ◌-◌, ◌≤◌, ◌<◌}
use Rattle.std.proofs.Math.Decide.{dec_lt, ℕ_discrete}
use native.Mathlib.Omega.{arith}
use Rattle.std.proofs.lemmas.List.{length-replicate}
use Rattle.sets.specs.Sets.{Words, at, member, insert, members, tally}
use Rattle.sets.specs.Bits.{tally-add, tally-none, tally-bound, tally-zero}
use Rattle.sets.specs.Laws.{words-empty, at-lt, at-member, at-none, member-at, member-set, member-cong, at-insert-same, at-insert-other, length-insert, words-insert, insert-ge, members-only, members-all}
use Rattle.view.specs.View.{View, insert_all, with_parents, grow}

-- sixteen words of 64 digits
abbrev pub Formed : List ℕ → Type 0
Formed s = (length s ≡ 16) × Words s

pub empty-formed : Formed (replicate 16 0)
empty-formed = (length-replicate {A = ℕ} 16 0, words-empty 16)

pub insert-formed : (s : List ℕ) (i : ℕ) → Formed s → Formed (insert s i)
insert-formed s i f = (length-insert s i ∙ f.0, words-insert s i f.1)

-- where the digit is no smaller, membership stays
pub member-le : (a b : List ℕ) (j : ℕ) → at a j ≤ at b j → member a j ≡ true → member b j ≡ true
member-le a b j h m = member-set b j (λ z. let e = at-member a j m in omega arith)

pub member-insert-same : (s : List ℕ) (i : ℕ) → Formed s → i < 1024 → member (insert s i) i ≡ true
member-insert-same s i f h = member-at (insert s i) i (at-insert-same s i (let l = f.0 in omega arith))

-- what is in the set with i is in the set, or is i
pub member-insert-only : (s : List ℕ) (i j : ℕ) → member (insert s i) j ≡ true → (member s j ≡ true) ⊎ (j ≡ i)
member-insert-only s i j m = go (ℕ_discrete j i)
  where
    go : Dec (j ≡ i) → (member s j ≡ true) ⊎ (j ≡ i)
    go (yes e) = inr e
    go (no n) = inl (member-cong s (insert s i) j (sym (at-insert-other s i j n)) ∙ m)

-- ---- how many members there are

-- a set with members below n only: the first n numbers tell all, and there are at most n
pub count-first : (s : List ℕ) (n : ℕ) → n ≤ 1024 → ((j : ℕ) → member s j ≡ true → j < n) → tally (at s) 1024 ≡ tally (at s) n
count-first s n h below =
    let rest : tally (λ k. at s (n + k)) (1024 - n) ≡ 0 = tally-none (λ k. at s (n + k)) (1024 - n) (λ k l. outside (n + k) (omega arith)) in
    let whole = tally-add (at s) n (1024 - n) in
    let all : tally (at s) (n + (1024 - n)) ≡ tally (at s) 1024 = ap (tally (at s)) (let q : n + (1024 - n) ≡ 1024 = omega arith in q) in
    omega arith
  where
    outside : (j : ℕ) → n ≤ j → at s j ≡ 0
    outside j l = go (member s j) refl
      where
        go : (t : Bool) → member s j ≡ t → at s j ≡ 0
        go true m = absurd (let b = below j m in omega arith)
        go false m = at-none s j m

pub count-below : (s : List ℕ) (n : ℕ) → n ≤ 1024 → ((j : ℕ) → member s j ≡ true → j < n) → tally (at s) 1024 ≤ n
count-below s n h below = let e = count-first s n h below in let most = tally-bound (at s) n (at-lt s) in omega arith

-- a set with a member has at least one
pub count-above : (s : List ℕ) (j : ℕ) → j < 1024 → member s j ≡ true → 0 < tally (at s) 1024
count-above s j h m = go (dec_lt 0 (tally (at s) 1024))
  where
    go : Dec (0 < tally (at s) 1024) → 0 < tally (at s) 1024
    go (yes l) = l
    go (no n) = absurd (let z = tally-zero (at s) 1024 (omega arith) j h in let e = at-member s j m in omega arith)

-- ---- a set with the members of a list

pub insert_all-formed : (s ps : List ℕ) → Formed s → Formed (insert_all s ps)
unfolding insert_all
insert_all-formed s [] f = f
insert_all-formed s (p ∷ ps) f = insert_all-formed (insert s p) ps (insert-formed s p f)

pub insert_all-keeps : (s ps : List ℕ) (j : ℕ) → at s j ≤ at (insert_all s ps) j
unfolding insert_all
insert_all-keeps s [] j = omega arith
insert_all-keeps s (p ∷ ps) j = let a = insert-ge s p j in let b = insert_all-keeps (insert s p) ps j in omega arith

pub insert_all-has : (s ps : List ℕ) (j : ℕ) → Formed s → j < 1024 → Memᴰ j ps → member (insert_all s ps) j ≡ true
unfolding insert_all
insert_all-has s [] j f h m = absurd (Memᴰ.not-nil m)
insert_all-has s (p ∷ ps) j f h m =
    ⊎_elim
    (λ e.
    member-le (insert s p) (insert_all (insert s p) ps) j (insert_all-keeps (insert s p) ps j)
    (subst (λ (k : ℕ). member (insert s k) j ≡ true) e (member-insert-same s j f h)))
    (λ t. insert_all-has (insert s p) ps j (insert-formed s p f) h t)
    (Memᴰ.cases_cons m)

pub insert_all-only : (s ps : List ℕ) (j : ℕ) → member (insert_all s ps) j ≡ true → (member s j ≡ true) ⊎ Memᴰ j ps
unfolding insert_all
insert_all-only s [] j m = inl m
insert_all-only s (p ∷ ps) j m = go (insert_all-only (insert s p) ps j m)
  where
    go : (member (insert s p) j ≡ true) ⊎ Memᴰ j ps → (member s j ≡ true) ⊎ Memᴰ j (p ∷ ps)
    go (inl k) = ⊎_elim (λ q. inl q) (λ e. inr (Memᴰ.head e)) (member-insert-only s p j k)
    go (inr t) = inr (Memᴰ.tail t)

-- ---- a set with the parents of each class of a list

module _ (v : View) where
  pub with_parents-formed : (s cs : List ℕ) → Formed s → Formed (with_parents v s cs)
  unfolding with_parents
  with_parents-formed s [] f = f
  with_parents-formed s (c ∷ cs) f = with_parents-formed (insert_all s (v.parents c)) cs (insert_all-formed s (v.parents c) f)

  pub with_parents-keeps : (s cs : List ℕ) (j : ℕ) → at s j ≤ at (with_parents v s cs) j
  unfolding with_parents
  with_parents-keeps s [] j = omega arith
  with_parents-keeps s (c ∷ cs) j =
      let a = insert_all-keeps s (v.parents c) j in
      let b = with_parents-keeps (insert_all s (v.parents c)) cs j in
      omega arith

  pub with_parents-has : (s cs : List ℕ) (c j : ℕ) → Formed s → j < 1024 → Memᴰ c cs → Memᴰ j (v.parents c) → member (with_parents v s cs) j ≡ true
  unfolding with_parents
  with_parents-has s [] c j f h m p = absurd (Memᴰ.not-nil m)
  with_parents-has s (d ∷ cs) c j f h m p =
      let t : List ℕ = insert_all s (v.parents d) in
      ⊎_elim
      (λ e.
      member-le t (with_parents v t cs) j (with_parents-keeps t cs j)
      (insert_all-has s (v.parents d) j f h (subst (λ (k : ℕ). Memᴰ j (v.parents k)) e p)))
      (λ r. with_parents-has t cs c j (insert_all-formed s (v.parents d) f) h r p)
      (Memᴰ.cases_cons m)

  pub with_parents-only : (s cs : List ℕ) (j : ℕ) → member (with_parents v s cs) j ≡ true
      → (member s j ≡ true) ⊎ ((c : ℕ) × Memᴰ c cs × Memᴰ j (v.parents c))
  unfolding with_parents
  with_parents-only s [] j m = inl m
  with_parents-only s (d ∷ cs) j m = go (with_parents-only (insert_all s (v.parents d)) cs j m)
    where
      go : (member (insert_all s (v.parents d)) j ≡ true) ⊎ ((c : ℕ) × Memᴰ c cs × Memᴰ j (v.parents c))
          → (member s j ≡ true) ⊎ ((c : ℕ) × Memᴰ c (d ∷ cs) × Memᴰ j (v.parents c))
      go (inl k) = ⊎_elim (λ q. inl q) (λ p. inr (d, Memᴰ.head refl, p)) (insert_all-only s (v.parents d) j k)
      go (inr w) = inr (w.0, Memᴰ.tail w.1, w.2)

  -- ---- a set with the parents of its members

  pub grow-formed : (s : List ℕ) → Formed s → Formed (grow v s)
  unfolding grow
  grow-formed s f = with_parents-formed s (members (at s) 0 1024) f

  pub grow-keeps : (s : List ℕ) (j : ℕ) → at s j ≤ at (grow v s) j
  unfolding grow
  grow-keeps s j = with_parents-keeps s (members (at s) 0 1024) j

  pub grow-has : (s : List ℕ) (c j : ℕ) → Formed s → c < 1024 → j < 1024 → member s c ≡ true → Memᴰ j (v.parents c) → member (grow v s) j ≡ true
  unfolding grow
  grow-has s c j f l h m p = with_parents-has s (members (at s) 0 1024) c j f h (members-all s 1024 c l m) p

  pub grow-only : (s : List ℕ) (j : ℕ) → member (grow v s) j ≡ true → (member s j ≡ true) ⊎ ((c : ℕ) × (member s c ≡ true) × Memᴰ j (v.parents c))
  unfolding grow
  grow-only s j m =
      ⊎_elim (λ q. inl q) (λ w. inr (w.0, members-only s 1024 w.0 w.1, w.2)) (with_parents-only s (members (at s) 0 1024) j m)
