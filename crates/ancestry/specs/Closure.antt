-- What is reached from each class of a set, as rows: first each class and its parents, then class by class what leads through it
-- (Warshall). Rows never hold more than what is reached; when every class was gone through they hold all of it. Over any good view.
use Rattle.std.specs.Prelude.{◌≡◌, refl, Bool, false, ◌||◌, ◌⊎◌, ℕ, ◌+◌, ◌*◌, ◌/◌, ◌%◌, ◌<◌, length, replicate, get_or}
use Rattle.std.proofs.Math.Path.{sym, ap, ap₂}
use Rattle.std.proofs.Common.{◌∙◌, subst, true≢false, inl, inr, ⊎_elim, arith, ext_get_or}
use Rattle.std.proofs.Math.Bool.{true, cond, or-true}
use mathlib.Core.List.{List, Memᴰ}
use Rattle.std.proofs.Math.Decide.{dec_lt, ℕ_discrete}
use Rattle.std.proofs.Math.Dec.{eqb}
use Rattle.std.proofs.lemmas.List.{length-replicate}
use Rattle.order.specs.Truth.{implied-both}
use Rattle.sets.specs.Sets.{at, member, insert, remove, unite, members, first}
use Rattle.sets.specs.Laws.{at-ext, at-empty, member-empty, member-none, member-ext, member-unite, at-unite, length-unite, words-unite, length-remove, at-remove-same, at-remove-other, member-cong, lowest-member, lowest-none}
use Rattle.view.specs.View.{View, insert_all, reached, reach, ancestor, all_recorded, complete, relation}
use Rattle.view.specs.declared.Relation.TheVariants.{Yes, No, Unknown}
use Rattle.view.specs.Grow.{Formed, empty-formed, insert-formed, insert_all-formed, insert_all-keeps, insert_all-has, insert_all-only, member-le, member-insert-same, member-insert-only}
use Rattle.view.specs.Reach.{Good, reach-refl, reach-trans, reach-parent, reach-induction, reached-formed}
use Rattle.ancestry.specs.Rows.{rows_room, row, row-word, Joined, Through}

-- the rows of a set: what each of its classes reaches, and nothing for the others
pub record Rows (v : View) (s rows : List ℕ) : Type 0 where
  pub size : length rows ≡ rows_room
  pub has : (c : ℕ) → member s c ≡ true → row rows c ≡ reached v c
  pub none : (c : ℕ) → c < 1024 → member s c ≡ false → row rows c ≡ replicate 16 0

-- the rows at first: each class and its parents
abbrev pub base : View → ℕ → List ℕ
base v c = insert_all (insert (replicate 16 0) c) (v.parents c)

pub record Bases (v : View) (s rows : List ℕ) : Type 0 where
  pub size : length rows ≡ rows_room
  pub has : (c : ℕ) → member s c ≡ true → row rows c ≡ base v c
  pub none : (c : ℕ) → c < 1024 → member s c ≡ false → row rows c ≡ replicate 16 0

-- on the way there
pub record Based (v : View) (s left rows : List ℕ) : Type 0 where
  pub size : length rows ≡ rows_room
  pub left-size : length left ≡ 16
  pub part : (c : ℕ) → member left c ≡ true → member s c ≡ true
  pub done : (c : ℕ) → member s c ≡ true → member left c ≡ false → row rows c ≡ base v c
  pub todo : (c : ℕ) → c < 1024 → (member s c ≡ false) ⊎ (member left c ≡ true) → row rows c ≡ replicate 16 0

-- on the way: what leads through a class that is not left is there
pub record Closing (v : View) (s left rows : List ℕ) : Type 0 where
  pub size : length rows ≡ rows_room
  pub left-size : length left ≡ 16
  pub part : (c : ℕ) → member left c ≡ true → member s c ≡ true
  pub formed : (c : ℕ) → member s c ≡ true → Formed (row rows c)
  pub none : (c : ℕ) → c < 1024 → member s c ≡ false → row rows c ≡ replicate 16 0
  pub own : (c : ℕ) → member s c ≡ true → member (row rows c) c ≡ true
  pub up : (c p : ℕ) → member s c ≡ true → Memᴰ p (v.parents c) → member (row rows c) p ≡ true
  pub sound : (c j : ℕ) → member s c ≡ true → member (row rows c) j ≡ true → reach v c j ≡ true
  pub through : (a c j : ℕ) → member s a ≡ true → member left a ≡ false → member s c ≡ true
      → member (row rows c) a ≡ true → member (row rows a) j ≡ true → member (row rows c) j ≡ true

-- ---- sets

removed : (s : List ℕ) (i c : ℕ) → (c ≡ i → ⊥) → member (remove s i) c ≡ member s c
removed s i c n = member-cong (remove s i) s c (at-remove-other s i c n)

member-removed : (s : List ℕ) (i : ℕ) → member (remove s i) i ≡ false
member-removed s i = member-none (remove s i) i (at-remove-same s i)

unite-empty : (s : List ℕ) → Formed s → unite (replicate 16 0) s ≡ s
unite-empty s f =
    at-ext (unite (replicate 16 0) s) s (length-unite (replicate 16 0) s long ∙ length-replicate {A = ℕ} 16 0 ∙ sym f.0)
    (words-unite (replicate 16 0) s long empty-formed.1 f.1) f.1
    (λ j h. let a = at-unite (replicate 16 0) s j long in let b = at-empty 16 j in omega arith)
  where
    long : length (replicate {A = ℕ} 16 0) ≡ length s
    long = length-replicate {A = ℕ} 16 0 ∙ sym f.0

module _ (v : View) where
  base-formed : (c : ℕ) → Formed (base v c)
  base-formed c = insert_all-formed (insert (replicate 16 0) c) (v.parents c) (insert-formed (replicate 16 0) c empty-formed)

-- ---- the rows at first

module _ (v : View) (s : List ℕ) (size-s : length s ≡ 16) where
  pub based-start : (rows : List ℕ) → length rows ≡ rows_room → ((c : ℕ) → c < 1024 → row rows c ≡ replicate 16 0) → Based v s s rows
  based-start rows l z = record {
    size = l;
    left-size = size-s;
    part = λ c m. m;
    done = λ c m n. absurd (true≢false (sym m ∙ n));
    todo = λ c h w. z c h;
  }

  pub based-next : (left rows : List ℕ) → Based v s left rows → (c : ℕ) → c ≡ first (at left) 1024 → c < 1024 → (set : List ℕ) → set ≡ base v c
      → (rows' left' : List ℕ) → Joined rows c set rows' → left' ≡ remove left c → Based v s left' rows'
  based-next left rows st c e h set is rows' left' q r = record {
    size = q.size;
    left-size = ap length r ∙ length-remove left c ∙ st.left-size;
    part = λ d m. st.part d (was d m (ℕ_discrete d c));
    done = λ d m n. go d m n (ℕ_discrete d c);
    todo = λ d l w. q.other d (λ k. not-c d k w) ∙ st.todo d l (⊎_elim (λ x. inl x) (λ x. inr (was d x (ℕ_discrete d c))) w);
  }
    where
      in-left : member left c ≡ true
      in-left = subst (λ (x : ℕ). member left x ≡ true) (sym e) (lowest-member left 1024 (omega arith))

      gone : (d : ℕ) → d ≡ c → member left' d ≡ true → ⊥
      gone d k m = true≢false (sym m ∙ ap₂ (λ (w : List ℕ) (x : ℕ). member w x) r k ∙ member-removed left c)

      was : (d : ℕ) → member left' d ≡ true → Dec (d ≡ c) → member left d ≡ true
      was d m (yes k) = absurd (gone d k m)
      was d m (no n) = sym (removed left c d n) ∙ sym (ap (λ (w : List ℕ). member w d) r) ∙ m

      not-c : (d : ℕ) → d ≡ c → (member s d ≡ false) ⊎ (member left' d ≡ true) → ⊥
      not-c d k (inl x) = true≢false (sym (st.part c in-left) ∙ sym (ap (member s) k) ∙ x)
      not-c d k (inr x) = gone d k x

      go : (d : ℕ) → member s d ≡ true → member left' d ≡ false → Dec (d ≡ c) → row rows' d ≡ base v d
      go d m n (yes k) =
          ap (row rows') k ∙ q.same ∙ ap₂ (λ (x y : List ℕ). unite x y) (st.todo c h (inr in-left)) is ∙ unite-empty (base v c) (base-formed v c)
          ∙ ap (base v) (sym k)
      go d m n (no x) = q.other d x ∙ st.done d m (sym (removed left c d x) ∙ sym (ap (λ (w : List ℕ). member w d) r) ∙ n)

  pub based-end : (left rows : List ℕ) → Based v s left rows → first (at left) 1024 ≡ 1024 → Bases v s rows
  based-end left rows st e = record {
    size = st.size;
    has = λ c m. st.done c m (lowest-none left st.left-size e c);
    none = λ c h n. st.todo c h (inl n);
  }

-- ---- class by class

module _ (v : View) (g : Good v) (s : List ℕ) (size-s : length s ≡ 16) (inside : (c : ℕ) → member s c ≡ true → c < v.names)
    (upward : (d e : ℕ) → member s d ≡ true → reach v d e ≡ true → member s e ≡ true) where
  few : (c : ℕ) → c < v.names → c < 1024
  few c h = let f = g.few in omega arith

  pub closing-start : (rows : List ℕ) → Bases v s rows → Closing v s s rows
  closing-start rows st = record {
    size = st.size;
    left-size = size-s;
    part = λ c m. m;
    formed = λ c m. subst Formed (sym (is c m)) (base-formed v c);
    none = st.none;
    own = λ c m. subst (λ (w : List ℕ). member w c ≡ true) (sym (is c m)) (own-base c (few c (inside c m)));
    up = λ c p m q.
        subst (λ (w : List ℕ). member w p ≡ true) (sym (is c m))
        (insert_all-has (insert (replicate 16 0) c) (v.parents c) p (insert-formed (replicate 16 0) c empty-formed) (few p (g.parents-in c p (inside c m) q)) q);
    sound = λ c j m k. sound-base c j (inside c m) (subst (λ (w : List ℕ). member w j ≡ true) (is c m) k);
    through = λ a c j m n. absurd (true≢false (sym m ∙ n));
  }
    where
      is : (c : ℕ) → member s c ≡ true → row rows c ≡ base v c
      is = st.has

      own-base : (c : ℕ) → c < 1024 → member (base v c) c ≡ true
      own-base c h = member-le (insert (replicate 16 0) c) (base v c) c (insert_all-keeps (insert (replicate 16 0) c) (v.parents c) c) (member-insert-same (replicate 16 0) c empty-formed h)

      sound-base : (c j : ℕ) → c < v.names → member (base v c) j ≡ true → reach v c j ≡ true
      sound-base c j h m =
          ⊎_elim
          (λ k.
          ⊎_elim (λ q. absurd (true≢false (sym q ∙ member-empty 16 j))) (λ q. subst (λ (x : ℕ). reach v c x ≡ true) (sym q) (reach-refl v g c h))
          (member-insert-only (replicate 16 0) c j k))
          (λ q. reach-parent v g c h c j (reach-refl v g c h) q)
          (insert_all-only (insert (replicate 16 0) c) (v.parents c) j m)

  module _ (left rows : List ℕ) (st : Closing v s left rows) where
    -- every class was gone through
    pub closing-end : first (at left) 1024 ≡ 1024 → Rows v s rows
    unfolding reach
    closing-end e = record {
      size = st.size;
      has = λ c m.
          let f = st.formed c m in
          let r = reached-formed v g c (inside c m) in
          member-ext (row rows c) (reached v c) (f.0 ∙ sym r.0) f.1 r.1
          (λ j h. implied-both (member (row rows c) j) (member (reached v c) j) (st.sound c j m) (all c m j));
      none = st.none;
    }
      where
        all : (c : ℕ) → member s c ≡ true → (j : ℕ) → reach v c j ≡ true → member (row rows c) j ≡ true
        all c m j r =
            reach-induction v g c (inside c m) (λ (y : ℕ). member (row rows c) y ≡ true) (st.own c m)
            (λ a p k in_row q.
            let in-s = upward c a m k in
            st.through a c p in-s (lowest-none left st.left-size e a) m in_row (st.up a p in-s q))
            j r

    module _ (k : ℕ) (is : k ≡ first (at left) 1024) (h : k < 1024) (rows' left' : List ℕ) (q : Through rows v.names k rows') (r : left' ≡ remove left k) where
      k-left : member left k ≡ true
      k-left = subst (λ (x : ℕ). member left x ≡ true) (sym is) (lowest-member left 1024 (omega arith))

      k-in : member s k ≡ true
      k-in = st.part k k-left

      was : (d : ℕ) → member left' d ≡ true → Dec (d ≡ k) → member left d ≡ true
      was d m (yes u) = absurd (true≢false (sym m ∙ ap₂ (λ (w : List ℕ) (x : ℕ). member w x) r u ∙ member-removed left k))
      was d m (no n) = sym (removed left k d n) ∙ sym (ap (λ (w : List ℕ). member w d) r) ∙ m

      module _ (c : ℕ) (m : member s c ≡ true) where
        long : length (row rows c) ≡ length (row rows k)
        long = (st.formed c m).0 ∙ sym (st.formed k k-in).0

        now : row rows' c ≡ cond (member (row rows c) k) (unite (row rows c) (row rows k)) (row rows c)
        now = q.below c (inside c m)

        formed-now : Formed (row rows' c)
        formed-now = subst Formed (sym now) (go (member (row rows c) k))
          where
            go : (b : Bool) → Formed (cond b (unite (row rows c) (row rows k)) (row rows c))
            go true = (length-unite (row rows c) (row rows k) long ∙ (st.formed c m).0, words-unite (row rows c) (row rows k) long (st.formed c m).1 (st.formed k k-in).1)
            go false = st.formed c m

        -- what was there, and what leads through k, and nothing else
        kept : (j : ℕ) → member (row rows c) j ≡ true → member (row rows' c) j ≡ true
        kept j x = ap (λ (w : List ℕ). member w j) now ∙ go (member (row rows c) k)
          where
            go : (b : Bool) → member (cond b (unite (row rows c) (row rows k)) (row rows c)) j ≡ true
            go true = member-unite (row rows c) (row rows k) j long ∙ ap (λ (t : Bool). t || member (row rows k) j) x
            go false = x

        passes : (j : ℕ) → member (row rows c) k ≡ true → member (row rows k) j ≡ true → member (row rows' c) j ≡ true
        passes j x y =
            ap (λ (w : List ℕ). member w j) (now ∙ ap (λ (b : Bool). cond b (unite (row rows c) (row rows k)) (row rows c)) x)
            ∙ member-unite (row rows c) (row rows k) j long
            ∙ ap (λ (t : Bool). member (row rows c) j || t) y
            ∙ or-true (member (row rows c) j)

        either : (j : ℕ) → member (row rows' c) j ≡ true → (member (row rows c) j ≡ true) ⊎ ((member (row rows c) k ≡ true) × (member (row rows k) j ≡ true))
        either j x = go (member (row rows c) k) refl (sym (ap (λ (w : List ℕ). member w j) now) ∙ x)
          where
            split : (a b : Bool) → (a || b) ≡ true → (a ≡ true) ⊎ (b ≡ true)
            split true b u = inl refl
            split false b u = inr u

            go : (b : Bool) → member (row rows c) k ≡ b → member (cond b (unite (row rows c) (row rows k)) (row rows c)) j ≡ true
                → (member (row rows c) j ≡ true) ⊎ ((member (row rows c) k ≡ true) × (member (row rows k) j ≡ true))
            go true u y = ⊎_elim (λ z. inl z) (λ z. inr (u, z)) (split (member (row rows c) j) (member (row rows k) j) (sym (member-unite (row rows c) (row rows k) j long) ∙ y))
            go false u y = inl y

      through-now : (a c j : ℕ) → member s a ≡ true → member left' a ≡ false → member s c ≡ true → member (row rows' c) a ≡ true → member (row rows' a) j ≡ true
          → member (row rows' c) j ≡ true
      through-now a c j in-a n in_c x y = go (ℕ_discrete a k)
        where
          -- before the turn, by k itself
          at-k : member (row rows c) k ≡ true → member (row rows k) j ≡ true → member (row rows' c) j ≡ true
          at-k = passes c in_c j

          -- and by a class that was gone through
          old : member left a ≡ false → member (row rows c) a ≡ true → member (row rows a) j ≡ true → member (row rows c) j ≡ true
          old l = st.through a c j in-a l in_c

          go : Dec (a ≡ k) → member (row rows' c) j ≡ true
          go (yes u) =
              at-k (⊎_elim (λ w. w) (λ w. w.0) (either c in_c k (subst (λ (z : ℕ). member (row rows' c) z ≡ true) u x)))
              (⊎_elim (λ w. w) (λ w. w.1) (either k k-in j (subst (λ (z : ℕ). member (row rows' z) j ≡ true) u y)))
          go (no u) =
              ⊎_elim
              (λ ca.
              ⊎_elim (λ aj. kept c in_c j (old gone ca aj)) (λ w. at-k (st.through a c k in-a gone in_c ca w.0) w.1) (either a in-a j y))
              (λ w.
              ⊎_elim (λ aj. at-k w.0 (st.through a k j in-a gone k-in w.1 aj)) (λ z. at-k w.0 z.1) (either a in-a j y))
              (either c in_c a x)
            where
              gone : member left a ≡ false
              gone = sym (removed left k a u) ∙ sym (ap (λ (w : List ℕ). member w a) r) ∙ n

      pub closing-next : Closing v s left' rows'
      closing-next = record {
        size = q.size;
        left-size = ap length r ∙ length-remove left k ∙ st.left-size;
        part = λ c m. st.part c (was c m (ℕ_discrete c k));
        formed = formed-now;
        none = λ c l n. outside c l n (dec_lt c v.names);
        own = λ c m. kept c m c (st.own c m);
        up = λ c p m u. kept c m p (st.up c p m u);
        sound = λ c j m x.
            ⊎_elim (st.sound c j m) (λ w. reach-trans v g c k j (inside c m) (st.sound c k m w.0) (st.sound k j k-in w.1)) (either c m j x);
        through = through-now;
      }
        where
          outside : (c : ℕ) → c < 1024 → member s c ≡ false → Dec (c < v.names) → row rows' c ≡ replicate 16 0
          outside c l n (yes u) =
              q.below c u
              ∙ ap (λ (b : Bool). cond b (unite (row rows c) (row rows k)) (row rows c)) (ap (λ (w : List ℕ). member w k) (st.none c l n) ∙ member-empty 16 k)
              ∙ st.none c l n
          outside c l n (no u) = q.past c (omega arith) ∙ st.none c l n

-- THERE IS ONE SLICE of rows
pub rows-unique : (v : View) (s a b : List ℕ) → Rows v s a → Rows v s b → a ≡ b
rows-unique v s a b p q =
    ext_get_or 0 a b (p.size ∙ sym q.size)
    (λ i h.
    let n = p.size in
    let e : i ≡ 16 * (i / 16) + i % 16 = omega arith in
    ap (λ (k : ℕ). get_or a k 0) e ∙ sym (row-word a (i / 16) (i % 16) (omega arith)) ∙ ap (λ (w : List ℕ). get_or w (i % 16) 0) (same (i / 16) (omega arith) (member s (i / 16)) refl)
    ∙ row-word b (i / 16) (i % 16) (omega arith)
    ∙ ap (λ (k : ℕ). get_or b k 0) (sym e))
  where
    same : (c : ℕ) → c < 1024 → (t : Bool) → member s c ≡ t → row a c ≡ row b c
    same c h true m = p.has c m ∙ sym (q.has c m)
    same c h false m = p.none c h m ∙ sym (q.none c h m)

-- ---- what a row tells

module _ (v : View) (s rows : List ℕ) (rs : Rows v s rows) (c : ℕ) (m : member s c ≡ true) where
  -- whether a class is reached is a digit of it
  pub row-reach : (y : ℕ) → member (row rows c) y ≡ reach v c y
  unfolding reach
  row-reach y = ap (λ (w : List ℕ). member w y) (rs.has c m)

  -- and so is whether it is an ancestor, but for Object
  pub row-ancestor : (y : ℕ) → ancestor v c y ≡ (eqb c y || (eqb y v.object || member (row rows c) y))
  unfolding ancestor
  row-ancestor y = ap (λ (b : Bool). eqb c y || (eqb y v.object || b)) (sym (row-reach y))

  -- whether all above it is recorded is asked of its members
  pub row-complete : complete v c ≡ all_recorded v (members (at (row rows c)) 0 1024)
  unfolding complete
  row-complete = ap (λ (w : List ℕ). all_recorded v (members (at w) 0 1024)) (sym (rs.has c m))

  -- HOW IT STANDS TO ANOTHER CLASS, by its row alone
  pub row-relation : (y : ℕ)
      → relation v c y ≡ cond (eqb c y || (eqb y v.object || member (row rows c) y)) Yes (cond (all_recorded v (members (at (row rows c)) 0 1024)) No Unknown)
  unfolding relation
  row-relation y = ap₂ (λ (a b : Bool). cond a Yes (cond b No Unknown)) (row-ancestor y) row-complete
