-- WHAT THE RING SHOWS: filled it shows the first n components, an offer is `enqueue` of the solve's definition, and a pop takes the front.
use Rattle.std.specs.Prelude.{◌≡◌, Bool, not, cond, ◌&&◌, ◌||◌, length, take, drop, set}
use Rattle.std.proofs.Math.Path.{refl, sym, ap, ap₂}
use Rattle.std.proofs.Common.{◌∙◌, subst, true≢false, add-zero, zero-add, add-one, length-append, length-set, length-drop, get_or-set_same, get_or-set_other, drop-cons, take_at}
use Rattle.std.proofs.Math.Bool.{true, false}
use mathlib.Core.List.{List, [], ◌∷◌, ◌++◌}
use Prim.Native.Nat.{ℕ, zero, suc, ◌+◌, ◌-◌, ◌≤◌, ◌<◌, ◌%◌}
use native.Mathlib.Omega.{arith}
use Rattle.std.proofs.Math.Dec.{eqb}
use Rattle.std.proofs.Math.ListN.{get_or}
use borrow.Author.Tests.{eqb-true, eqb-false, eq-eqb, ne_eqb}
use Rattle.order.specs.Lists.{elem}
use Rattle.sets.specs.Sets.{member, insert}
use Rattle.sets.specs.Laws.{member-empty, member-insert, member-remove, length-insert, length-remove}
use Rattle.view.specs.View.{numbers}
use Rattle.solving.proofs.Runs.{numbers-length}
use Rattle.solving.specs.Queue.{NotIn, Distinct, Below}
use Rattle.solving.proofs.Queue.{pigeon}
use Rattle.solving.specs.Solving.{enqueue}
use Rattle.queue.specs.Ring.{line, around, first_set, offered, ring_offered, rested, popped, Shows}
use Rattle.queue.specs.declared.Queue.{Queue}
use Rattle.queue.specs.declared.Popped.{Popped}

-- ---- the entries of a ring

pub around-length : (ring : List ℕ) (h n : ℕ) → length (around ring h n) ≡ n
unfolding around
around-length ring h zero = refl
around-length ring h (suc n) = ap suc (around-length ring (h + 1) n)

around-back : (ring : List ℕ) (h n : ℕ) → around ring h (suc n) ≡ around ring h n ++ (get_or ring ((h + n) % 512) 0 ∷ [])
unfolding around
around-back ring h zero = ap (λ (k : ℕ). get_or ring (k % 512) 0 ∷ []) (sym (add-zero h))
around-back ring h (suc n) =
    ap (λ (l : List ℕ). get_or ring (h % 512) 0 ∷ l)
    (around-back ring (h + 1) n ∙ ap (λ (k : ℕ). around ring (h + 1) n ++ (get_or ring (k % 512) 0 ∷ [])) (let e : h + 1 + n ≡ h + suc n = omega arith in e))

around-other : (ring : List ℕ) (h n k x : ℕ) → ((i : ℕ) → i < n → (h + i) % 512 ≡ k → ⊥) → around (set ring k x) h n ≡ around ring h n
unfolding around
around-other ring h zero k x f = refl
around-other ring h (suc n) k x f =
    ap₂ (λ (v : ℕ) (l : List ℕ). v ∷ l)
    (get_or-set_other ring k (h % 512) x 0 (λ e. f 0 (omega arith) (let z : (h + 0) % 512 ≡ h % 512 = omega arith in z ∙ e)))
    (around-other ring (h + 1) n k x (λ i l e. f (suc i) (omega arith) (let z : (h + suc i) % 512 ≡ (h + 1 + i) % 512 = omega arith in z ∙ e)))

around-mod : (ring : List ℕ) (h n : ℕ) → around ring (h % 512) n ≡ around ring h n
unfolding around
around-mod ring h zero = refl
around-mod ring h (suc n) =
    ap₂ (λ (v : ℕ) (l : List ℕ). v ∷ l) (ap (λ (k : ℕ). get_or ring k 0) (let z : h % 512 % 512 ≡ h % 512 = omega arith in z))
    (sym (around-mod ring (h % 512 + 1) n) ∙ ap (λ (k : ℕ). around ring k n) (let z : (h % 512 + 1) % 512 ≡ (h + 1) % 512 = omega arith in z) ∙ around-mod ring (h + 1) n)

-- a place more at the back
around-put : (ring : List ℕ) (h n x : ℕ) → length ring ≡ 512 → n < 512 → around (set ring ((h + n) % 512) x) h (n + 1) ≡ around ring h n ++ (x ∷ [])
around-put ring h n x l k =
    ap (around (set ring ((h + n) % 512) x) h) (add-one n) ∙ around-back (set ring ((h + n) % 512) x) h n
    ∙ ap₂ (λ (a : List ℕ) (v : ℕ). a ++ (v ∷ [])) (around-other ring h n ((h + n) % 512) x (λ i g e. omega arith))
    (get_or-set_same ring ((h + n) % 512) x 0 (omega arith))

-- where it does not pass the end
around-flat : (ring : List ℕ) (h n : ℕ) → h + n ≤ 512 → h + n ≤ length ring → around ring h n ≡ take n (drop h ring)
unfolding around
around-flat ring h zero f g = refl
around-flat ring h (suc n) f g =
    ap₂ (λ (v : ℕ) (l : List ℕ). v ∷ l) (ap (λ (k : ℕ). get_or ring k 0) (let z : h % 512 ≡ h = omega arith in z))
    (around-flat ring (h + 1) n (omega arith) (omega arith) ∙ ap (λ (k : ℕ). take n (drop k ring)) (add-one h))
    ∙ ap (take (suc n)) (sym (drop-cons ring h 0 (omega arith)))

-- ---- members of lists

elem-back : (x c : ℕ) (l : List ℕ) → elem x (l ++ (c ∷ [])) ≡ (eqb x c || elem x l)
unfolding elem
elem-back x c [] = go (eqb x c) refl
  where
    go : (b : Bool) → eqb x c ≡ b → (eqb c x || false) ≡ (b || false)
    go true e = ap (λ (t : Bool). t || false) (eq-eqb c x (sym (eqb-true x c e)))
    go false e = ap (λ (t : Bool). t || false) (ne_eqb c x (λ q. eqb-false x c e (sym q)))
elem-back x c (y ∷ l) = ap (λ (t : Bool). eqb y x || t) (elem-back x c l) ∙ go (eqb y x) (eqb x c) (elem x l)
  where
    go : (a b d : Bool) → (a || (b || d)) ≡ (b || (a || d))
    go true true d = refl
    go true false d = refl
    go false b d = refl

not-elem : (c : ℕ) (l : List ℕ) → NotIn c l → elem c l ≡ false
unfolding elem
not-elem c [] h = refl
not-elem c (y ∷ l) h = ap (λ (t : Bool). t || elem c l) (ne_eqb y c h.0) ∙ not-elem c l h.1

elem-numbers : (x n : ℕ) (i : ℕ) → elem x (numbers i (suc n)) ≡ (eqb x (i + n) || elem x (numbers i n))
unfolding numbers elem
elem-numbers x zero i = elem-back x i [] ∙ ap (λ (k : ℕ). eqb x k || false) (sym (add-zero i))
elem-numbers x (suc n) i =
    ap (λ (t : Bool). eqb i x || t) (elem-numbers x n (suc i) ∙ ap (λ (k : ℕ). eqb x k || elem x (numbers (suc i) n)) (let z : suc i + n ≡ i + suc n = omega arith in z))
    ∙ go (eqb i x) (eqb x (i + suc n)) (elem x (numbers (suc i) n))
  where
    go : (a b d : Bool) → (a || (b || d)) ≡ (b || (a || d))
    go true true d = refl
    go true false d = refl
    go false b d = refl

-- ---- filled

first-length : (n : ℕ) → length (first_set n) ≡ 16
unfolding first_set
first-length zero = refl
first-length (suc n) = length-insert (first_set n) n ∙ first-length n

first-members : (n : ℕ) → n ≤ 512 → (c : ℕ) → member (first_set n) c ≡ elem c (numbers 0 n)
unfolding first_set numbers elem
first-members zero l c = member-empty 16 c
first-members (suc n) l c =
    let z = first-length n in
    member-insert (first_set n) n c (omega arith) ∙ ap (λ (t : Bool). eqb c n || t) (first-members n (omega arith) c) ∙ sym (elem-numbers c n 0 ∙ ap (λ (k : ℕ). eqb c k || elem c (numbers 0 n)) (zero-add n))

-- one number more, as the loop writes it
pub first-more : (n : ℕ) → first_set (n + 1) ≡ insert (first_set n) n
unfolding first_set
first-more n = ap first_set (add-one n)

numbers-put : (j i : ℕ) (l : List ℕ) → i < length l → set (numbers j i ++ drop i l) i (j + i) ≡ numbers j (suc i) ++ drop (suc i) l
unfolding numbers
numbers-put j zero [] h = absurd (omega arith)
numbers-put j zero (x ∷ l) h = ap (λ (v : ℕ). v ∷ l) (add-zero j)
numbers-put j (suc i) [] h = absurd (omega arith)
numbers-put j (suc i) (x ∷ l) h =
    ap (λ (m : List ℕ). j ∷ m) (ap (set (numbers (suc j) i ++ drop i l) i) (let z : j + suc i ≡ suc j + i = omega arith in z) ∙ numbers-put (suc j) i l (omega arith))

pub numbers-more : (i : ℕ) (l : List ℕ) → i < length l → set (numbers 0 i ++ drop i l) i i ≡ numbers 0 (i + 1) ++ drop (i + 1) l
numbers-more i l h = ap (set (numbers 0 i ++ drop i l) i) (sym (zero-add i)) ∙ numbers-put 0 i l h ∙ ap (λ (k : ℕ). numbers 0 k ++ drop k l) (sym (add-one i))

-- A FILLED RING SHOWS THE FIRST n COMPONENTS
pub fill-shows : (ring : List ℕ) (n : ℕ) → length ring ≡ 512 → n ≤ 512 → Shows (numbers 0 n ++ drop n ring) (line 0 n (first_set n)) (numbers 0 n)
fill-shows ring n s l =
    let z = numbers-length 0 n in
    let whole : length (numbers 0 n ++ drop n ring) ≡ 512 = simp (length-append, length-drop) (omega arith) in
    record {
      entries = around-flat (numbers 0 n ++ drop n ring) 0 n (omega arith) (omega arith) ∙ take_at (numbers 0 n) (drop n ring) n z;
      members = first-members n l;
      size = whole;
      words = first-length n;
      head = omega arith;
      len = l;
    }

-- ---- offered

module _ (q : Queue) (c : ℕ) where
  pub offered-old : member q.queued.words c ≡ true → offered q c ≡ q
  unfolding offered
  offered-old h = rw h

  pub offered-new : member q.queued.words c ≡ false → offered q c ≡ line q.head (q.len + 1) (insert q.queued.words c)
  unfolding offered
  offered-new h = rw h

  pub ring-old : (ring : List ℕ) → member q.queued.words c ≡ true → ring_offered ring q c ≡ ring
  unfolding ring_offered
  ring-old ring h = rw h

  pub ring-new : (ring : List ℕ) → member q.queued.words c ≡ false → ring_offered ring q c ≡ set ring ((q.head + q.len) % 512) c
  unfolding ring_offered
  ring-new ring h = rw h

-- AN OFFER IS `enqueue`
pub offer-shows : (ring : List ℕ) (q : Queue) (l : List ℕ) (c : ℕ) → c < 512 → (elem c l ≡ false → length l < 512) → Shows ring q l
    → Shows (ring_offered ring q c) (offered q c) (enqueue c l)
unfolding enqueue
offer-shows ring q l c small room y = go (elem c l) refl
  where
    go : (b : Bool) → elem c l ≡ b → Shows (ring_offered ring q c) (offered q c) (cond b l (l ++ (c ∷ [])))
    go true e =
        let m = y.members c ∙ e in
        subst (λ (r : List ℕ). Shows r (offered q c) l) (sym (ring-old q c ring m)) (subst (λ (p : Queue). Shows ring p l) (sym (offered-old q c m)) y)
    go false e =
        let m = y.members c ∙ e in
        subst (λ (r : List ℕ). Shows r (offered q c) (l ++ (c ∷ []))) (sym (ring-new q c ring m))
        (subst (λ (p : Queue). Shows (set ring ((q.head + q.len) % 512) c) p (l ++ (c ∷ []))) (sym (offered-new q c m)) grown)
      where
        short : q.len < 512
        short = let r = room e in let n = around-length ring q.head q.len in let s = ap length y.entries in omega arith

        grown : Shows (set ring ((q.head + q.len) % 512) c) (line q.head (q.len + 1) (insert q.queued.words c)) (l ++ (c ∷ []))
        grown = record {
          entries = around-put ring q.head q.len c y.size short ∙ ap (λ (k : List ℕ). k ++ (c ∷ [])) y.entries;
          members = λ x.
              let w = y.words in
              member-insert q.queued.words c x (omega arith) ∙ ap (λ (t : Bool). eqb x c || t) (y.members x) ∙ sym (elem-back x c l);
          size = length-set ring ((q.head + q.len) % 512) c ∙ y.size;
          words = length-insert q.queued.words c ∙ y.words;
          head = y.head;
          len = let r = short in omega arith;
        }

elem-not : (c : ℕ) (l : List ℕ) → elem c l ≡ false → NotIn c l
unfolding elem
elem-not c [] h = tt
elem-not c (x ∷ l) h = go (eqb x c) refl h (elem-not c l)
  where
    go : (t : Bool) → eqb x c ≡ t → (t || elem c l) ≡ false → (elem c l ≡ false → NotIn c l) → NotIn c (x ∷ l)
    go true q r ih = absurd (true≢false r)
    go false q r ih = (eqb-false x c q, ih r)

-- THERE IS ROOM for who is not queued: nobody is queued twice, and there are at most 512
pub room-for : (l : List ℕ) (c : ℕ) → c < 512 → Distinct l → Below 512 l → elem c l ≡ false → length l < 512
room-for l c small d b e = pigeon 512 (c ∷ l) (elem-not c l e, d) (small, b)

-- ---- popped

-- AN EMPTY QUEUE HAS LENGTH 0, and only that one
pub shown-length : (ring : List ℕ) (q : Queue) (l : List ℕ) → Shows ring q l → q.len ≡ length l
shown-length ring q l y = sym (around-length ring q.head q.len) ∙ ap length y.entries

-- A POP TAKES THE FRONT AND SHOWS THE REST
module _ (ring : List ℕ) (q : Queue) (c : ℕ) (l : List ℕ) (y : Shows ring q (c ∷ l)) where
  unrolled : around ring q.head q.len ≡ get_or ring q.head 0 ∷ around ring ((q.head + 1) % 512) (q.len - 1)
  unfolding around
  unrolled = go q.len (shown-length ring q (c ∷ l) y)
    where
      go : (n : ℕ) → n ≡ suc (length l) → around ring q.head n ≡ get_or ring q.head 0 ∷ around ring ((q.head + 1) % 512) (n - 1)
      go zero e = absurd (omega arith)
      go (suc n) e =
          let h = y.head in
          ap₂ (λ (v : ℕ) (r : List ℕ). v ∷ r) (ap (λ (k : ℕ). get_or ring k 0) (let z : q.head % 512 ≡ q.head = omega arith in z))
          (sym (around-mod ring (q.head + 1) n) ∙ ap (around ring ((q.head + 1) % 512)) (let z : n ≡ suc n - 1 = omega arith in z))

  parts : (x z : ℕ) (a b : List ℕ) → ◌≡◌ {A = List ℕ} (x ∷ a) (z ∷ b) → (x ≡ z) × (a ≡ b)
  parts x z a b e = (cc, cc)

  front-is : get_or ring q.head 0 ≡ c
  front-is = (parts (get_or ring q.head 0) c (around ring ((q.head + 1) % 512) (q.len - 1)) l (sym unrolled ∙ y.entries)).0

  pub pop-front : popped ring q ≡ record { front = c; rest = rested q c }
  pop-front = ap {B = Popped} (λ (v : ℕ). record { front = v; rest = rested q v }) front-is

  left : NotIn c l → (x : ℕ) → (not (eqb x c) && elem x (c ∷ l)) ≡ elem x l
  unfolding elem
  left apart x = go (eqb x c) refl
    where
      go : (b : Bool) → eqb x c ≡ b → (not b && (eqb c x || elem x l)) ≡ elem x l
      go true e = sym (ap (λ (k : ℕ). elem k l) (eqb-true x c e) ∙ not-elem c l apart)
      go false e = ap (λ (t : Bool). t || elem x l) (ne_eqb c x (λ s. eqb-false x c e (sym s)))

  pub pop-shows : NotIn c l → Shows ring (rested q c) l
  pop-shows apart = record {
    entries = (parts (get_or ring q.head 0) c (around ring ((q.head + 1) % 512) (q.len - 1)) l (sym unrolled ∙ y.entries)).1;
    members = λ x. member-remove q.queued.words c x ∙ ap (λ (t : Bool). not (eqb x c) && t) (y.members x) ∙ left apart x;
    size = y.size;
    words = length-remove q.queued.words c ∙ y.words;
    head = omega arith;
    len = let n = y.len in omega arith;
  }
