-- The lengths of the class tables, and the view that they give: sorted keys class * names_room + parent, and four sets of sixteen words.
use Rattle.std.specs.Prelude.{◌≡◌, Bool, cond, ◌↔◌, eqb, ltb, take, drop, get_or}
use Rattle.std.proofs.Math.Path.{refl, subst}
use Rattle.std.proofs.Common.{sym, ap, ◌∙◌, ⊎_elim, lt-ltb, ltb-true, eqb-true, length-take, length-drop, get_or-take, get_or-drop}
use Rattle.std.proofs.Math.Bool.{true, false}
use mathlib.Core.List.Memᴰ
use mathlib.Core.List.{List, [], ◌∷◌, Memᴰ}
use Prim.Native.Nat.{ℕ, zero, suc, ◌+◌, ◌-◌, ◌*◌, ◌/◌, ◌%◌, ◌≤◌, ◌<◌}
use native.Mathlib.Omega.{arith}
use Rattle.std.proofs.lemmas.Bool.{eqb-false}
use Rattle.std.proofs.Math.ListN.{length}
use Rattle.order.specs.Lists.{elem}
use Rattle.sets.specs.Sets.{bit, at, member}
use Rattle.sorted.specs.Sorted.{Above, Sorted, place}
use Rattle.sorted.specs.Laws.{above-sorted, above-get, elem-get}
use Rattle.sorted.specs.Parts.{sorted-drop}
use Rattle.sorted.specs.Places.{above-from, sorted-splits, has-elem, has-get}
use Rattle.tables.specs.declared.Tables.{Tables}
use Rattle.view.specs.View.{View}
use Rattle.view.specs.Reach.{Good}

-- how many names, keys and words of marks there may be: the lengths of the two slices
abbrev pub names_room : ℕ
names_room = 1024

abbrev pub pairs_room : ℕ
pairs_room = 4096

abbrev pub marks_room : ℕ
marks_room = 64

-- the parents that a list of keys names; a number that is no class's is ignored
unfoldable pub parents_in : ℕ → List ℕ → List ℕ
parents_in names [] = []
parents_in names (e ∷ es) = cond (ltb (e % names_room) names) (e % names_room ∷ parents_in names es) (parents_in names es)

-- the first keys, as long as they are of class c
unfoldable pub own_run : ℕ → List ℕ → List ℕ
own_run c [] = []
own_run c (e ∷ es) = cond (eqb (e / names_room) c) (e ∷ own_run c es) []

-- the keys from the place of a class on
abbrev pub keys_from : ℕ → List ℕ → List ℕ
keys_from c l = drop (place (c * names_room) l) l

-- the parents of a class, by the run of its keys
unfoldable pub parents_of : ℕ → List ℕ → ℕ → List ℕ
parents_of names l c = parents_in names (own_run c (keys_from c l))

-- set k of the four: 0 recorded, 1 declared, 2 interface, 3 final
unfoldable pub mark : List ℕ → ℕ → List ℕ
mark marks k = take 16 (drop (16 * k) marks)

pub mark-length : (marks : List ℕ) (k : ℕ) → length marks ≡ marks_room → k < 4 → length (mark marks k) ≡ 16
unfolding mark
mark-length marks k l h = simp (length-take, length-drop) (omega arith)

-- a digit of a set is one of the table
pub mark-at : (marks : List ℕ) (k c : ℕ) → c < names_room → at (mark marks k) c ≡ bit (c % 64) (get_or marks (16 * k + c / 64) 0)
unfolding mark at
mark-at marks k c h = ap (bit (c % 64)) (get_or-take 16 (drop (16 * k) marks) (c / 64) 0 (omega arith) ∙ get_or-drop (16 * k) marks (c / 64) 0)

-- THE VIEW of the tables
abbrev pub view_of : List ℕ → List ℕ → Tables → View
view_of pairs marks t = record {
  names = t.names;
  object = t.object;
  recorded = member (mark marks 0);
  parents = parents_of t.names (take t.pairs pairs);
  declared = member (mark marks 1);
  interface = member (mark marks 2);
  final = member (mark marks 3);
}

-- ---- the run of a class

-- its keys are the first ones, and of the class, on any contents
pub own-get : (c : ℕ) (es : List ℕ) (i : ℕ) → i < length (own_run c es) → (get_or (own_run c es) i 0 ≡ get_or es i 0) × (i < length es) × (get_or es i 0 / names_room ≡ c)
unfolding own_run
own-get c [] i h = absurd (omega arith)
own-get c (e ∷ es) i h = go (eqb (e / names_room) c) refl i h (own-get c es)
  where
    go : (t : Bool) → eqb (e / names_room) c ≡ t → (i : ℕ) → i < length (cond t (e ∷ own_run c es) [])
        → ((i : ℕ) → i < length (own_run c es) → (get_or (own_run c es) i 0 ≡ get_or es i 0) × (i < length es) × (get_or es i 0 / names_room ≡ c))
        → (get_or (cond t (e ∷ own_run c es) []) i 0 ≡ get_or (e ∷ es) i 0) × (i < suc (length es)) × (get_or (e ∷ es) i 0 / names_room ≡ c)
    go true q zero k ih = (refl, omega arith, eqb-true (e / names_room) c q)
    go true q (suc i) k ih = let w = ih i (omega arith) in (w.0, omega (arith, w.1), w.2)
    go false q i k ih = absurd (omega arith)

-- of sorted keys, none of which is of a lower class, it has all that are of the class
pub own-all : (c : ℕ) (es : List ℕ) → Sorted es → ((i : ℕ) → i < length es → c * names_room ≤ get_or es i 0)
    → (i : ℕ) → i < length es → get_or es i 0 / names_room ≡ c → i < length (own_run c es)
unfolding own_run
own-all c [] g low i h q = absurd (omega arith)
own-all c (e ∷ es) g low i h q = go (eqb (e / names_room) c) refl i h q (own-all c es (above-sorted e es g) (λ j l. low (suc j) (omega arith)))
  where
    go : (t : Bool) → eqb (e / names_room) c ≡ t → (i : ℕ) → i < suc (length es) → get_or (e ∷ es) i 0 / names_room ≡ c
        → ((i : ℕ) → i < length es → get_or es i 0 / names_room ≡ c → i < length (own_run c es)) → i < length (cond t (e ∷ own_run c es) [])
    go true p zero k r ih = omega arith
    go true p (suc i) k r ih = omega (arith, ih i (omega arith) r)
    go false p zero k r ih = absurd (eqb-false (e / names_room) c p r)
    go false p (suc i) k r ih = absurd (eqb-false (e / names_room) c p (let a = above-get e es i g (omega arith) in let b = low 0 (omega arith) in omega arith))

-- and stays sorted
own-above : (c b : ℕ) (es : List ℕ) → Above b es → Above b (own_run c es)
unfolding own_run
own-above c b [] a = tt
own-above c b (e ∷ es) a = go (eqb (e / names_room) c) (own-above c e es a.1)
  where
    go : (t : Bool) → Above e (own_run c es) → Above b (cond t (e ∷ own_run c es) [])
    go true r = (a.0, r)
    go false r = tt

pub own-sorted : (c : ℕ) (es : List ℕ) → Sorted es → Sorted (own_run c es)
unfolding own_run
own-sorted c [] g = tt
own-sorted c (e ∷ es) g = go (eqb (e / names_room) c)
  where
    go : (t : Bool) → Sorted (cond t (e ∷ own_run c es) [])
    go true = own-above c e es g
    go false = tt

-- from the place of a class on no key is of a lower class
from-place : (c : ℕ) (l : List ℕ) → Sorted l → (i : ℕ) → i < length (keys_from c l) → c * names_room ≤ get_or (keys_from c l) i 0
from-place c l g i h =
    let first = place (c * names_room) l in
    let there = get_or-drop first l i 0 in
    let whole = length-drop first l in
    let low = (sorted-splits (c * names_room) l g).above (first + i) (omega arith) (omega arith) in
    omega arith

-- ---- the parents, on any contents

module _ (names y : ℕ) where
  in-has : (es : List ℕ) (i : ℕ) → i < length es → get_or es i 0 % names_room ≡ y → y < names → Memᴰ y (parents_in names es)
  unfolding parents_in
  in-has [] i h q l = absurd (omega arith)
  in-has (e ∷ es) zero h q l = subst (λ (b : Bool). Memᴰ y (cond b (e % names_room ∷ parents_in names es) (parents_in names es))) (sym (lt-ltb (e % names_room) names (omega arith))) (Memᴰ.head (sym q))
  in-has (e ∷ es) (suc i) h q l = go (ltb (e % names_room) names) (in-has es i (omega arith) q l)
    where
      go : (b : Bool) → Memᴰ y (parents_in names es) → Memᴰ y (cond b (e % names_room ∷ parents_in names es) (parents_in names es))
      go true m = Memᴰ.tail m
      go false m = m

  in-only : (es : List ℕ) → Memᴰ y (parents_in names es) → (y < names) × ((i : ℕ) × (i < length es) × (get_or es i 0 % names_room ≡ y))
  unfolding parents_in
  in-only [] m = absurd (Memᴰ.not-nil m)
  in-only (e ∷ es) m = go (ltb (e % names_room) names) refl m (in-only es)
    where
      later : (y < names) × ((i : ℕ) × (i < length es) × (get_or es i 0 % names_room ≡ y)) → (y < names) × ((i : ℕ) × (i < suc (length es)) × (get_or (e ∷ es) i 0 % names_room ≡ y))
      later w = (w.0, (suc w.1.0, omega arith, w.1.2))

      go : (b : Bool) → ltb (e % names_room) names ≡ b → Memᴰ y (cond b (e % names_room ∷ parents_in names es) (parents_in names es))
          → (Memᴰ y (parents_in names es) → (y < names) × ((i : ℕ) × (i < length es) × (get_or es i 0 % names_room ≡ y)))
          → (y < names) × ((i : ℕ) × (i < suc (length es)) × (get_or (e ∷ es) i 0 % names_room ≡ y))
      go true q m ih = ⊎_elim (λ k. let l = ltb-true (e % names_room) names q in (omega arith, (0, omega arith, sym k))) (λ n. later (ih n)) (Memᴰ.cases_cons m)
      go false q m ih = later (ih m)

  -- EVERY PARENT IS A CLASS, and below 1,024
  pub parents-below : (l : List ℕ) (c : ℕ) → Memᴰ y (parents_of names l c) → (y < names) × (y < names_room)
  unfolding parents_of
  parents-below l c m =
      let w = in-only (own_run c (keys_from c l)) m in
      (w.0, let e = w.1.2 in omega arith)

  -- ON SORTED KEYS y IS A PARENT OF c EXACTLY IF IT IS A CLASS AND THE KEY OF BOTH IS AN ENTRY
  pub parents-exactly : (l : List ℕ) (c : ℕ) → Sorted l → y < names_room → Memᴰ y (parents_of names l c) ↔ ((y < names) × (elem (c * names_room + y) l ≡ true))
  unfolding parents_of
  parents-exactly l c g h = (only, λ w. has w.0 (has-get (c * names_room + y) l (has-elem (c * names_room + y) l g ∙ w.1)))
    where
      first : ℕ
      first = place (c * names_room) l

      es : List ℕ
      es = drop first l

      only : Memᴰ y (parents_in names (own_run c es)) → (y < names) × (elem (c * names_room + y) l ≡ true)
      only m =
          let w = in-only (own_run c es) m in
          let i = w.1.0 in
          let q = w.1.2 in
          let o = own-get c es i w.1.1 in
          let here = o.0 in
          let there = get_or-drop first l i 0 in
          let long = o.1 in
          let whole = length-drop first l in
          let prefix = o.2 in
          let z : get_or l (first + i) 0 ≡ c * names_room + y = omega arith in
          (w.0, subst (λ (x : ℕ). elem x l ≡ true) z (elem-get l (first + i) (omega arith)))

      has : y < names → (place (c * names_room + y) l < length l) × (get_or l (place (c * names_room + y) l) 0 ≡ c * names_room + y) → Memᴰ y (parents_in names (own_run c es))
      has n w =
          let j = place (c * names_room + y) l in
          let is-j = w.1 in
          let low = above-from (c * names_room) l first (sorted-splits (c * names_room) l g) j (omega arith) in
          let whole = length-drop first l in
          let there : get_or es (j - first) 0 ≡ get_or l j 0 = get_or-drop first l (j - first) 0 ∙ ap (λ (i : ℕ). get_or l i 0) (let q : first + (j - first) ≡ j = omega arith in q) in
          let k = own-all c es (sorted-drop first l g) (from-place c l g) (j - first) (omega (arith, w.0)) (omega arith) in
          let o = (own-get c es (j - first) k).0 in
          in-has (own_run c es) (j - first) k (let q : get_or (own_run c es) (j - first) 0 % names_room ≡ y = omega arith in q) n

  -- and where every key names a class, exactly if the key is an entry
  pub parents-entry : (l : List ℕ) (c : ℕ) → Sorted l → y < names_room → ((e : ℕ) → elem e l ≡ true → e % names_room < names)
      → Memᴰ y (parents_of names l c) ↔ (elem (c * names_room + y) l ≡ true)
  parents-entry l c g h classes =
      (λ m. ((parents-exactly l c g h).0 m).1, λ e. (parents-exactly l c g h).1 (let k = classes (c * names_room + y) e in omega arith, e))

-- THE TABLES GIVE A GOOD VIEW, on any contents
pub view-good : (pairs marks : List ℕ) (t : Tables) → t.names ≤ names_room → t.object < t.names → Good (view_of pairs marks t)
view-good pairs marks t h o = record {
  few = h;
  object-in = o;
  parents-in = λ c p l m. (parents-below t.names p (take t.pairs pairs) c m).0;
}
