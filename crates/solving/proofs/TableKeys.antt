-- THE TABLE AS SORTED NUMBERS: a bound as its key, component (9 bits), kind (3), rank of its type (52). Of legal bounds the keys stand in
-- the order of the bounds; one put of the crate sorted is one insertion; and the types of a component's kind are a run of neighbours.
use Rattle.std.proofs.Math.Path.{◌≡◌, refl, ap, ap₂}
use Rattle.std.proofs.Common.{sym, ◌∙◌, subst, eq-eqb, ne_eqb, lt-ltb, le-ltb, eqb-true, ltb-true, ltb-false, leb-true, leb-false}
use Rattle.std.specs.Prelude.{Bool, ℕ, zero, suc, ◌+◌, ◌-◌, ◌*◌, ◌^◌, ◌≤◌, ◌<◌, eqb, ltb, leb, length, drop}
use Rattle.std.proofs.Math.Bool.{true, false, cond, ◌||◌}
use mathlib.Core.List.{List, [], ◌∷◌, map, Memᴰ}
use native.Mathlib.Omega.{arith}
use Rattle.std.proofs.Math.ListN.{take}
use Rattle.std.proofs.lemmas.Bool.{eqb-false}
use Rattle.order.specs.Laws.{less-numbers, equal-numbers, greater-numbers}
use Rattle.order.specs.Compare.{compare_numbers, is_equal}
use Rattle.order.specs.Lists.{elem}
use Rattle.sorted.specs.declared.Put.TheVariants.{Old, New as Added, Full}
use Rattle.sorted.specs.Sorted.{Above, Sorted, rank, insert_sorted, run_of, put_answer, put_list, grown}
use Rattle.sorted.specs.Laws.{above-sorted}
use Rattle.sorted.specs.Places.{place-rank, has-elem, outcome-full, put-length, put-answer, put-list-old, put-list-new}
use Rattle.std.specs.declared.cmp.Ordering.{Ordering}
use Rattle.std.specs.declared.cmp.Ordering.TheVariants.{Less, Equal, Greater}
use Rattle.ty.specs.Types.{depth}
use Rattle.ty.specs.Round.{legal-type-more}
use Rattle.keys.specs.Rank.{key, key_type}
use Rattle.keys.specs.Laws.{rank-lt, key-component, key-kind, key-type, key-order}
use Rattle.solving.specs.Ordered.{by_order, present, insert, After, Ascending}
use Rattle.solving.proofs.OrderedLaws.{insert-length}
use Rattle.solving.specs.Tidy.{Tidy}
use Rattle.solving.specs.Solving.{Bound, Table, compare_bounds, types_of, Refused, Going, room, enqueue, insert_bound}
use Rattle.solving.specs.TableKeys.{key_of, bound_of, keys_of, Keyed, AllKeyed, Holds, by_put, table_by, between, prefix}

-- a tidy table's bounds have keys
pub tidy-keyed : (names n : ℕ) (t : Table) (q : List ℕ) → names ≤ 1024 → Tidy names n t q → AllKeyed t
tidy-keyed names n t q few y b m =
    let g = y.legal b m in
    let k = g.kind in
    record { kind = omega arith; type = legal-type-more names 1024 b.type few g.type }

-- ---- order and back

pub keys-order : (a b : Bound) → Keyed a → Keyed b → compare_numbers (key_of a) (key_of b) ≡ compare_bounds a b
unfolding compare_bounds
keys-order a b g h = key-order a.component b.component a.kind b.kind a.type b.type g.kind h.kind g.type h.type

-- A BOUND COMES BACK FROM ITS KEY
pub bound-back : (b : Bound) → Keyed b → bound_of (key_of b) ≡ b
bound-back b g i = record {
  component = key-component b.component b.kind b.type g.kind g.type i;
  kind = key-kind b.component b.kind b.type g.kind g.type i;
  type = key-type b.component b.kind b.type g.kind g.type i;
}

pub table-back : (t : Table) → AllKeyed t → map bound_of (keys_of t) ≡ t
table-back [] g = refl
table-back (b ∷ t) g = ap₂ ◌∷◌ (bound-back b (g b (Memᴰ.head refl))) (table-back t (λ x m. g x (Memᴰ.tail m)))

-- THE KEYS OF A TABLE ARE SORTED
keys-above : (b : Bound) (t : Table) → Keyed b → AllKeyed t → After compare_bounds b t → Above (key_of b) (keys_of t)
keys-above b [] k g h = tt
keys-above b (x ∷ t) k g h =
    let kx = g x (Memᴰ.head refl) in
    (less-numbers (key_of b) (key_of x) (keys-order b x k kx ∙ h.0), keys-above x t kx (λ y m. g y (Memᴰ.tail m)) h.1)

pub keys-sorted : (t : Table) → AllKeyed t → Ascending compare_bounds t → Sorted (keys_of t)
keys-sorted [] g h = tt
keys-sorted (b ∷ t) g h = keys-above b t (g b (Memᴰ.head refl)) (λ y m. g y (Memᴰ.tail m)) h

-- ---- membership and insertion

module _ (b : Bound) (k : Keyed b) where
  same-key : (x : Bound) → Keyed x → is_equal (compare_bounds b x) ≡ eqb (key_of x) (key_of b)
  same-key x kx = go (compare_bounds b x) (keys-order b x k kx)
    where
      go : (o : Ordering) → compare_numbers (key_of b) (key_of x) ≡ o → is_equal o ≡ eqb (key_of x) (key_of b)
      go Less e = let z = less-numbers (key_of b) (key_of x) e in sym (ne_eqb (key_of x) (key_of b) (λ q. omega arith))
      go Equal e = sym (eq-eqb (key_of x) (key_of b) (sym (equal-numbers (key_of b) (key_of x) e)))
      go Greater e = let z = greater-numbers (key_of b) (key_of x) e in sym (ne_eqb (key_of x) (key_of b) (λ q. omega arith))

  -- A BOUND IS THERE EXACTLY IF ITS KEY IS
  pub keys-present : (t : Table) → AllKeyed t → present compare_bounds b t ≡ elem (key_of b) (keys_of t)
  unfolding present elem
  keys-present [] g = refl
  keys-present (x ∷ t) g = ap₂ ◌||◌ (same-key x (g x (Memᴰ.head refl))) (keys-present t (λ y m. g y (Memᴰ.tail m)))

  -- THE KEYS OF THE TABLE WITH A NEW BOUND
  pub keys-insert : (t : Table) → AllKeyed t → present compare_bounds b t ≡ false → keys_of (insert compare_bounds b t) ≡ insert_sorted (key_of b) (keys_of t)
  unfolding present insert insert_sorted
  keys-insert [] g h = refl
  keys-insert (x ∷ t) g h = go (compare_bounds b x) (keys-order b x k (g x (Memᴰ.head refl))) h (keys-insert t (λ y m. g y (Memᴰ.tail m)))
    where
      go : (o : Ordering) → compare_numbers (key_of b) (key_of x) ≡ o → (is_equal o || present compare_bounds b t) ≡ false
          → (present compare_bounds b t ≡ false → keys_of (insert compare_bounds b t) ≡ insert_sorted (key_of b) (keys_of t))
          → keys_of (by_order o (b ∷ x ∷ t) (x ∷ t) (x ∷ insert compare_bounds b t))
          ≡ cond (ltb (key_of x) (key_of b)) (key_of x ∷ insert_sorted (key_of b) (keys_of t)) (key_of b ∷ key_of x ∷ keys_of t)
      go Less e p ih = let z = less-numbers (key_of b) (key_of x) e in rw (le-ltb (key_of x) (key_of b) (omega arith))
      go Equal e p ih = absurd (let z : ◌≡◌ {A = ℕ} 0 1 = cc in omega arith)
      go Greater e p ih =
          let z = greater-numbers (key_of b) (key_of x) e in
          rw (lt-ltb (key_of x) (key_of b) z) (ap (λ (l : List ℕ). key_of x ∷ l) (ih p))

module _ (a : List ℕ) (n : ℕ) (b : Bound) (t : Table) (y : Holds a n t) (k : Keyed b) (g : AllKeyed t) (s : Ascending compare_bounds t) where
  held-sorted : Sorted (take n a)
  held-sorted = subst Sorted (sym y.keys) (keys-sorted t g s)

  held-elem : elem (key_of b) (take n a) ≡ present compare_bounds b t
  held-elem = ap (elem (key_of b)) y.keys ∙ sym (keys-present b k t g)

  -- what a put answers
  pub held-answer : put_answer a n (key_of b) ≡ cond (present compare_bounds b t) Old (cond (leb room (length t)) Full Added)
  held-answer =
      put-answer a n (key_of b) held-sorted
      ∙ ap₂ (λ (x : Bool) (z : Bool). cond x Old (cond z Full Added)) held-elem (ap₂ leb y.size y.count)

  -- where the bound is not too deep, the put's answer is the insertion's
  pub put-inserts : (q : List ℕ) → depth b.type ≤ 255 → insert_bound b t q ≡ by_put (put_answer a n (key_of b)) b t q
  unfolding insert_bound
  put-inserts q d = rw (le-ltb 255 (depth b.type) d, held-answer) (go (present compare_bounds b t) (leb room (length t)))
    where
      go : (x z : Bool) → cond x (Going t q) (cond z (Refused 21) (Going (insert compare_bounds b t) (enqueue b.component q))) ≡ by_put (cond x Old (cond z Full Added)) b t q
      go true z = refl
      go false true = refl
      go false false = refl

  held-keys : take (grown (put_answer a n (key_of b)) n) (put_list a n (key_of b)) ≡ keys_of (table_by (put_answer a n (key_of b)) b t)
  held-keys = rw held-answer (go (present compare_bounds b t) refl (leb room (length t)) refl)
    where
      go : (x : Bool) → present compare_bounds b t ≡ x → (z : Bool) → leb room (length t) ≡ z
          → take (grown (cond x Old (cond z Full Added)) n) (put_list a n (key_of b)) ≡ keys_of (table_by (cond x Old (cond z Full Added)) b t)
      go true e z f = ap (take n) (put-list-old a n (key_of b) held-sorted (held-elem ∙ e)) ∙ y.keys
      go false e true f =
          let u = y.size in
          let v = y.count in
          ap (take n) (sym (outcome-full a n (key_of b) (has-elem (key_of b) (take n a) held-sorted ∙ held-elem ∙ e) (let z = leb-true room (length t) f in omega arith)).1) ∙ y.keys
      go false e false f =
          let u = y.size in
          let v = y.count in
          put-list-new a n (key_of b) held-sorted (held-elem ∙ e) (let z = leb-false room (length t) f in omega arith)
          ∙ ap (insert_sorted (key_of b)) y.keys ∙ sym (keys-insert b k t g e)

  held-count : grown (put_answer a n (key_of b)) n ≡ length (table_by (put_answer a n (key_of b)) b t)
  held-count = rw held-answer (go (present compare_bounds b t) refl (leb room (length t)))
    where
      go : (x : Bool) → present compare_bounds b t ≡ x → (z : Bool) → grown (cond x Old (cond z Full Added)) n ≡ length (table_by (cond x Old (cond z Full Added)) b t)
      go true e z = y.count
      go false e true = y.count
      go false e false = let u = y.count in let v = insert-length compare_bounds b t e in omega arith

  -- AND THE SLICE HOLDS THE TABLE AGAIN
  pub put-holds : Holds (put_list a n (key_of b)) (grown (put_answer a n (key_of b)) n) (table_by (put_answer a n (key_of b)) b t)
  put-holds = record { keys = held-keys; count = held-count; size = put-length a n (key_of b) ∙ y.size }

rank-none : (lo y : ℕ) (ys : List ℕ) → lo ≤ y → Above y ys → rank lo ys ≡ 0
unfolding rank
rank-none lo y [] h g = refl
rank-none lo y (z ∷ ys) h g = let k = g.0 in rw (le-ltb z lo (omega arith))

between-none : (lo hi y : ℕ) (ys : List ℕ) → lo ≤ hi → hi ≤ y → Above y ys → between lo hi ys ≡ []
unfolding between
between-none lo hi y [] l h g = refl
between-none lo hi y (z ∷ ys) l h g =
    let k = g.0 in
    rw (le-ltb z lo (omega arith), le-ltb z hi (omega arith)) (between-none lo hi z ys l (omega arith) g.1)

-- in a sorted list they are those at the ranks from lo's to hi's
pub rank-between : (lo hi : ℕ) (l : List ℕ) → lo ≤ hi → Sorted l → take (rank hi l - rank lo l) (drop (rank lo l) l) ≡ between lo hi l
unfolding rank between
rank-between lo hi [] h g = refl
rank-between lo hi (y ∷ ys) h g = go (ltb y lo) refl (ltb y hi) refl (rank-between lo hi ys h (above-sorted y ys g))
  where
    go : (a : Bool) → ltb y lo ≡ a → (b : Bool) → ltb y hi ≡ b → take (rank hi ys - rank lo ys) (drop (rank lo ys) ys) ≡ between lo hi ys
        → take (cond b (suc (rank hi ys)) zero - cond a (suc (rank lo ys)) zero) (drop (cond a (suc (rank lo ys)) zero) (y ∷ ys))
        ≡ cond a (between lo hi ys) (cond b (y ∷ between lo hi ys) (between lo hi ys))
    go true e true f ih = ap (λ (n : ℕ). take n (drop (rank lo ys) ys)) (let z : suc (rank hi ys) - suc (rank lo ys) ≡ rank hi ys - rank lo ys = omega arith in z) ∙ ih
    go true e false f ih = absurd (let x = ltb-true y lo e in let z = ltb-false y hi f in omega arith)
    go false e true f ih =
        let x = ltb-false y lo e in
        ap (λ (n : ℕ). take n (y ∷ ys)) (let z : suc (rank hi ys) - 0 ≡ suc (rank hi ys - 0) = omega arith in z)
        ∙ ap (λ (l : List ℕ). y ∷ l) (sym (ap (λ (n : ℕ). take (rank hi ys - n) (drop n ys)) (rank-none lo y ys x g)) ∙ ih)
    go false e false f ih = let z = ltb-false y hi f in sym (between-none lo hi y ys h z g)

module _ (c k : ℕ) (small : k < 8) where
  abbrev low : ℕ
  low = prefix c k * 2 ^ 52

  key-inside : (b : Bound) → Keyed b → b.component ≡ c → b.kind ≡ k → (low ≤ key_of b) × (key_of b < low + 2 ^ 52)
  unfolding key
  key-inside b g e f = (omega arith, omega (arith, rank-lt b.type g.type))

  key-outside : (b : Bound) → Keyed b → ((b.component ≡ c) × (b.kind ≡ k) → ⊥) → low ≤ key_of b → key_of b < low + 2 ^ 52 → ⊥
  unfolding key
  key-outside b g apart h i =
      let r = rank-lt b.type g.type in
      let d = g.kind in
      apart (omega arith, omega arith)

  types-between : (t : Table) → AllKeyed t → types_of c k t ≡ map key_type (between low (low + 2 ^ 52) (keys_of t))
  unfolding types_of between
  types-between [] g = refl
  types-between (b ∷ t) g =
      go (eqb b.component c) refl (eqb b.kind k) refl (ltb (key_of b) low) refl (ltb (key_of b) (low + 2 ^ 52)) refl (types-between t (λ x m. g x (Memᴰ.tail m)))
    where
      kb : Keyed b
      kb = g b (Memᴰ.head refl)

      go : (x : Bool) → eqb b.component c ≡ x → (y : Bool) → eqb b.kind k ≡ y
          → (u : Bool) → ltb (key_of b) low ≡ u → (v : Bool) → ltb (key_of b) (low + 2 ^ 52) ≡ v
          → types_of c k t ≡ map key_type (between low (low + 2 ^ 52) (keys_of t))
          → cond x (cond y (b.type ∷ types_of c k t) (types_of c k t)) (types_of c k t)
          ≡ map key_type (cond u (between low (low + 2 ^ 52) (keys_of t)) (cond v (key_of b ∷ between low (low + 2 ^ 52) (keys_of t)) (between low (low + 2 ^ 52) (keys_of t))))
      go true e true f true p v q ih =
          let i = key-inside b kb (eqb-true b.component c e) (eqb-true b.kind k f) in
          let z = ltb-true (key_of b) low p in
          absurd (omega arith)
      go true e true f false p true q ih = ap₂ ◌∷◌ (sym (key-type b.component b.kind b.type kb.kind kb.type)) ih
      go true e true f false p false q ih =
          let i = key-inside b kb (eqb-true b.component c e) (eqb-true b.kind k f) in
          let z = ltb-false (key_of b) (low + 2 ^ 52) q in
          absurd (omega arith)
      go true e false f true p v q ih = ih
      go true e false f false p true q ih =
          absurd (key-outside b kb (λ d. eqb-false b.kind k f d.1) (ltb-false (key_of b) low p) (ltb-true (key_of b) (low + 2 ^ 52) q))
      go true e false f false p false q ih = ih
      go false e y f true p v q ih = ih
      go false e y f false p true q ih =
          absurd (key-outside b kb (λ d. eqb-false b.component c e d.0) (ltb-false (key_of b) low p) (ltb-true (key_of b) (low + 2 ^ 52) q))
      go false e y f false p false q ih = ih

  -- WHAT sorted::run TELLS OF THE KEYS ARE THE TYPES
  pub types-run : (t : Table) → AllKeyed t → Ascending compare_bounds t
      → types_of c k t ≡ map key_type (take ((run_of (2 ^ 52) (prefix c k) (keys_of t)).past - (run_of (2 ^ 52) (prefix c k) (keys_of t)).first) (drop (run_of (2 ^ 52) (prefix c k) (keys_of t)).first (keys_of t)))
  unfolding run_of
  types-run t g s =
      let o = keys-sorted t g s in
      types-between t g
      ∙ ap (map key_type)
      (sym (rank-between low (low + 2 ^ 52) (keys_of t) (omega arith) o)
      ∙ ap₂ (λ (x y : ℕ). take (x - y) (drop y (keys_of t))) (sym (place-rank (low + 2 ^ 52) (keys_of t) o)) (sym (place-rank low (keys_of t) o)))
