-- A PROBLEM IN SORTED SLICES: bounds as the keys of `keys`, pairs as first * 512 + second. A row that is taken is one put of `sorted`, and
-- the room is counted by what the put leaves. What the code of the rows cites.
use Rattle.std.specs.Prelude.{◌≡◌, refl, Bool, true, false, cond, ℕ, suc, ◌/◌, ◌%◌, ◌≤◌, ◌<◌, leb, ltb, length, take}
use Rattle.std.proofs.Common.{sym, ap, ap₂, ◌∙◌, subst, arith, length-take-le, lt-ltb, le-ltb, leb-true, leb-false}
use mathlib.Core.List.{List, [], ◌∷◌, map, Memᴰ}
use Rattle.sorted.specs.declared.Put.TheVariants.{Old, New, Full}
use Rattle.order.specs.Lists.{elem}
use Rattle.sorted.specs.Sorted.{Above, Sorted, insert_sorted, put, put_answer}
use Rattle.sorted.specs.Laws.{put-old, put-new}
use Rattle.sorted.specs.Places.{put-answer}
use Rattle.std.specs.declared.cmp.Ordering.TheVariants.{Less}
use Rattle.order.specs.Laws.{less-numbers}
use Rattle.ty.specs.Round.{legal-type-more}
use Rattle.solving.specs.Ordered.{present, insert, After, Ascending}
use Rattle.solving.proofs.OrderedLaws.{insert-there, present-exactly}
use Rattle.solving.proofs.Orders.{bounds-total}
use Rattle.solving.specs.Solving.{Bound, compare_bounds, Pair, compare_pairs, Problem}
use Rattle.solving.specs.TableKeys.{key_of, keys_of, Keyed, AllKeyed}
use Rattle.solving.proofs.TableKeys.{keys-sorted, keys-present, keys-insert}
use Rattle.solving.specs.LinkKeys.{pair_of}
use Rattle.solving.proofs.LinkKeys.{pairs-order, pairs-put}
use Rattle.problems.specs.Held.{Held, Links, In}
use Rattle.problems.specs.Stored.{pair_key, Narrow, is_full}

-- ---- pairs

pub pair-back : (r : Pair) → r.1 < 512 → pair_of (pair_key r) ≡ r
pair-back r h =
    let a : pair_key r / 512 ≡ r.0 = omega arith in
    let b : pair_key r % 512 ≡ r.1 = omega arith in
    λ i. (a i, b i)

key-back : (x : ℕ) → pair_key (pair_of x) ≡ x
key-back x = omega arith

pub keys-back : (l : List ℕ) → map pair_key (map pair_of l) ≡ l
keys-back [] = refl
keys-back (x ∷ l) = ap₂ (λ (y : ℕ) (m : List ℕ). y ∷ m) (key-back x) (keys-back l)

pub pairs-back : (l : List Pair) → Narrow l → map pair_of (map pair_key l) ≡ l
pairs-back [] h = refl
pairs-back (r ∷ l) h = ap₂ (λ (y : Pair) (m : List Pair). y ∷ m) (pair-back r (h r (Memᴰ.head refl))) (pairs-back l (λ q m. h q (Memᴰ.tail m)))

less-keys : (r q : Pair) → r.1 < 512 → q.1 < 512 → compare_pairs r q ≡ Less → pair_key r < pair_key q
less-keys r q h k e =
    less-numbers (pair_key r) (pair_key q) (sym (pairs-order (pair_key r) (pair_key q)) ∙ ap₂ compare_pairs (pair-back r h) (pair-back q k) ∙ e)

keys-above : (r : Pair) (l : List Pair) → r.1 < 512 → Narrow l → After compare_pairs r l → Above (pair_key r) (map pair_key l)
keys-above r [] h k o = tt
keys-above r (q ∷ l) h k o =
    let n = k q (Memᴰ.head refl) in
    (less-keys r q h n o.0, keys-above q l n (λ x m. k x (Memᴰ.tail m)) o.1)

pub pair-keys-sorted : (l : List Pair) → Narrow l → Ascending compare_pairs l → Sorted (map pair_key l)
pair-keys-sorted [] h o = tt
pair-keys-sorted (r ∷ l) h o = keys-above r l (h r (Memᴰ.head refl)) (λ x m. h x (Memᴰ.tail m)) o

-- A PAIR THAT IS TAKEN IS ONE PUT
pub pair-stored : (n : ℕ) (r : Pair) (l : List Pair) → n ≤ 512 → In n r → Links n l → map pair_key (insert compare_pairs r l) ≡ put (pair_key r) (map pair_key l)
pair-stored n r l few i k =
    let small : (q : Pair) → Memᴰ q l → q.1 < 512 = λ q m. (let z = (k.within q m).1 in omega arith) in
    let own = i.1 in
    ap₂ (λ (x : Pair) (m : List Pair). map pair_key (insert compare_pairs x m)) (sym (pair-back r (omega arith))) (sym (pairs-back l small))
    ∙ ap (map pair_key) (sym (pairs-put (pair_key r) (map pair_key l) (pair-keys-sorted l small k.ascend)))
    ∙ keys-back (put (pair_key r) (map pair_key l))

-- ---- bounds

-- what is held has keys
pub held-keyed : (names : ℕ) (p : Problem) → names ≤ 1024 → Held names p → AllKeyed p.bounds
held-keyed names p few h b m =
    let g = h.bounds-legal b m in
    let k = g.kind in
    record { kind = omega arith; type = legal-type-more names 1024 b.type few g.type }

-- A BOUND THAT IS TAKEN IS ONE PUT
pub bound-stored : (b : Bound) (l : List Bound) → Keyed b → AllKeyed l → Ascending compare_bounds l → keys_of (insert compare_bounds b l) ≡ put (key_of b) (keys_of l)
bound-stored b l k g o = go (present compare_bounds b l) refl
  where
    go : (t : Bool) → present compare_bounds b l ≡ t → keys_of (insert compare_bounds b l) ≡ put (key_of b) (keys_of l)
    go true e =
        ap keys_of (insert-there compare_bounds bounds-total b l o ((present-exactly compare_bounds bounds-total b l).0 e))
        ∙ sym (put-old (key_of b) (keys_of l) (sym (keys-present b k l g) ∙ e))
    go false e = keys-insert b k l g e ∙ sym (put-new (key_of b) (keys_of l) (sym (keys-present b k l g) ∙ e))

-- ---- and the room is counted by it

length-map : {A : Type 0} (f : A → ℕ) (l : List A) → length (map f l) ≡ length l
length-map f [] = refl
length-map f (x ∷ l) = ap (λ (n : ℕ). suc n) (length-map f l)

pub pair-room : (n : ℕ) (r : Pair) (l : List Pair) → n ≤ 512 → In n r → Links n l → length (insert compare_pairs r l) ≡ length (put (pair_key r) (map pair_key l))
pair-room n r l few i k = sym (length-map pair_key (insert compare_pairs r l)) ∙ ap length (pair-stored n r l few i k)

pub bound-room : (b : Bound) (l : List Bound) → Keyed b → AllKeyed l → Ascending compare_bounds l → length (insert compare_bounds b l) ≡ length (put (key_of b) (keys_of l))
bound-room b l k g o = sym (length-map key_of (insert compare_bounds b l)) ∙ ap length (bound-stored b l k g o)

length-inserted : (x : ℕ) (l : List ℕ) → length (insert_sorted x l) ≡ suc (length l)
unfolding insert_sorted
length-inserted x [] = refl
length-inserted x (y ∷ l) = go (ltb y x) (length-inserted x l)
  where
    go : (t : Bool) → length (insert_sorted x l) ≡ suc (length l) → length (cond t (y ∷ insert_sorted x l) (x ∷ y ∷ l)) ≡ suc (suc (length l))
    go true e = ap (λ (n : ℕ). suc n) e
    go false e = refl

-- the first n entries of a slice, sorted
pub put-full : (a : List ℕ) (n x : ℕ) → Sorted (take n a) → n ≤ length a → ltb (length a) (length (put x (take n a))) ≡ is_full (put_answer a n x)
put-full a n x g h = go (elem x (take n a)) refl (leb (length a) n) refl
  where
    many : length (take n a) ≡ n
    many = length-take-le n a h

    go : (s : Bool) → elem x (take n a) ≡ s → (t : Bool) → leb (length a) n ≡ t → ltb (length a) (length (put x (take n a))) ≡ is_full (put_answer a n x)
    go true e t r =
        let m = many in
        ap (λ (l : List ℕ). ltb (length a) (length l)) (put-old x (take n a) e) ∙ le-ltb (length a) (length (take n a)) (omega arith)
        ∙ sym (ap is_full (put-answer a n x g ∙ ap (λ (b : Bool). cond b Old (cond (leb (length a) n) Full New)) e))
    go false e true r =
        let m = many in
        let k = leb-true (length a) n r in
        ap (λ (l : List ℕ). ltb (length a) (length l)) (put-new x (take n a) e)
        ∙ ap (ltb (length a)) (length-inserted x (take n a)) ∙ lt-ltb (length a) (suc (length (take n a))) (omega arith)
        ∙ sym (ap is_full (put-answer a n x g ∙ ap₂ (λ (b c : Bool). cond b Old (cond c Full New)) e r))
    go false e false r =
        let m = many in
        let k = leb-false (length a) n r in
        ap (λ (l : List ℕ). ltb (length a) (length l)) (put-new x (take n a) e)
        ∙ ap (ltb (length a)) (length-inserted x (take n a)) ∙ le-ltb (length a) (suc (length (take n a))) (omega arith)
        ∙ sym (ap is_full (put-answer a n x g ∙ ap₂ (λ (b c : Bool). cond b Old (cond c Full New)) e r))

-- so of flows and of upper flows
pub pair-full : (m : ℕ) (r : Pair) (l : List Pair) (a : List ℕ) (n : ℕ) → m ≤ 512 → In m r → Links m l → take n a ≡ map pair_key l → n ≤ length a
    → ltb (length a) (length (insert compare_pairs r l)) ≡ is_full (put_answer a n (pair_key r))
pair-full m r l a n few i k e h =
    let small : (q : Pair) → Memᴰ q l → q.1 < 512 = λ q c. (let z = (k.within q c).1 in omega arith) in
    ap (ltb (length a)) (pair-room m r l few i k ∙ ap (λ (z : List ℕ). length (put (pair_key r) z)) (sym e))
    ∙ put-full a n (pair_key r) (subst Sorted (sym e) (pair-keys-sorted l small k.ascend)) h

-- and of bounds
pub bound-full : (b : Bound) (l : List Bound) (a : List ℕ) (n : ℕ) → Keyed b → AllKeyed l → Ascending compare_bounds l → take n a ≡ keys_of l → n ≤ length a
    → ltb (length a) (length (insert compare_bounds b l)) ≡ is_full (put_answer a n (key_of b))
bound-full b l a n k g o e h =
    ap (ltb (length a)) (bound-room b l k g o ∙ ap (λ (z : List ℕ). length (put (key_of b) z)) (sym e))
    ∙ put-full a n (key_of b) (subst Sorted (sym e) (keys-sorted l g o)) h
