-- Laws of layers: which keys are left beside a record, which are the topmost layer's, how many, and that they fit.
use Rattle.std.specs.Prelude.{◌≡◌, Bool, cond, not, ◌&&◌, ◌||◌, ℕ, zero, suc, ◌+◌, ◌*◌, ◌/◌, ◌%◌, ◌≤◌, ◌<◌, take, drop, get_or, replicate}
use Rattle.std.proofs.Math.Path.{refl, sym, ap, subst}
use Rattle.std.proofs.Common.{ap₂, ◌∙◌, arith}
use Rattle.std.proofs.Math.Bool.{true, false}
use Rattle.std.proofs.lemmas.Bool.{false≢true}
use mathlib.Core.List.{List, [], ◌∷◌, ◌++◌, map}
use Rattle.std.proofs.Math.Decide.{ℕ_discrete}
use Rattle.std.proofs.Math.Dec.{eqb}
use Rattle.std.proofs.Math.ListN.{length}
use borrow.Author.Tests.{eq-eqb, ne_eqb, eqb-true}
use Rattle.order.specs.Lists.{elem}
use Rattle.sets.specs.Sets.{at, member, insert, members}
use Rattle.sets.specs.Laws.{member-empty, member-insert, length-insert}
use Rattle.sorted.specs.Sorted.{Above, Sorted, has, run_of}
use Rattle.sorted.specs.Laws.{above-sorted, same-members}
use Rattle.sorted.specs.Places.{has-elem, run-only, run-all, run-within}
use Rattle.tables.specs.Table.{names_room, pairs_room, marks_room}
use Rattle.rows.specs.Rows.{State, key, put_all, Below, fresh_in, with_record}
use Rattle.rows.specs.Keys.{all-sorted, all-has, fresh-count}
use Rattle.rows.specs.Marks.{marks-length}
use Rattle.rows.specs.Laws.{Sound, GoodRecord, record-good, keys-of}
use Rattle.layers.specs.Layers.{Layered, keys_inside, keys_without, keys_left, layer_keys, layer_refusal, with_layer_record, layer_row, opened}

-- ---- members

module _ (z : ℕ) where
  pub elem-without : (c : ℕ) (l : List ℕ) → elem z (keys_without c l) ≡ (not (eqb (z / names_room) c) && elem z l)
  unfolding keys_without elem
  elem-without c [] = none (not (eqb (z / names_room) c))
    where
      none : (b : Bool) → false ≡ (b && false)
      none true = refl
      none false = refl
  elem-without c (e ∷ es) = go (eqb (e / names_room) c) refl (eqb e z) refl (elem-without c es)
    where
      go : (s : Bool) → eqb (e / names_room) c ≡ s → (t : Bool) → eqb e z ≡ t → elem z (keys_without c es) ≡ (not (eqb (z / names_room) c) && elem z es)
          → elem z (cond s (keys_without c es) (e ∷ keys_without c es)) ≡ (not (eqb (z / names_room) c) && (t || elem z es))
      go true p true q ih = let same = eqb-true e z q in
          let gone = subst (λ (x : ℕ). eqb (x / names_room) c ≡ true) same p in
          ih ∙ rw gone
      go true p false q ih = ih
      go false p true q ih = let same = eqb-true e z q in
          let stays = subst (λ (x : ℕ). eqb (x / names_room) c ≡ false) same p in
          rw (q, stays)
      go false p false q ih = rw q ih

  pub elem-inside : (own l : List ℕ) → elem z (keys_inside own l) ≡ (member own (z / names_room) && elem z l)
  unfolding keys_inside elem
  elem-inside own [] = none (member own (z / names_room))
    where
      none : (b : Bool) → false ≡ (b && false)
      none true = refl
      none false = refl
  elem-inside own (e ∷ es) = go (member own (e / names_room)) refl (eqb e z) refl (elem-inside own es)
    where
      go : (s : Bool) → member own (e / names_room) ≡ s → (t : Bool) → eqb e z ≡ t → elem z (keys_inside own es) ≡ (member own (z / names_room) && elem z es)
          → elem z (cond s (e ∷ keys_inside own es) (keys_inside own es)) ≡ (member own (z / names_room) && (t || elem z es))
      go true p true q ih = let same = eqb-true e z q in
          let is = subst (λ (x : ℕ). member own (x / names_room) ≡ true) same p in
          rw (q, is)
      go true p false q ih = rw q ih
      go false p true q ih = let same = eqb-true e z q in
          let not_is = subst (λ (x : ℕ). member own (x / names_room) ≡ false) same p in
          ih ∙ rw not_is
      go false p false q ih = ih

-- ---- in order

above-lower : (x y : ℕ) (l : List ℕ) → x < y → Above y l → Above x l
above-lower x y [] h a = tt
above-lower x y (z ∷ l) h a = (let k = a.0 in omega arith, a.1)

without-above : (c b : ℕ) (l : List ℕ) → Above b l → Above b (keys_without c l)
unfolding keys_without
without-above c b [] a = tt
without-above c b (e ∷ es) a = go (eqb (e / names_room) c) (without-above c e es a.1)
  where
    go : (t : Bool) → Above e (keys_without c es) → Above b (cond t (keys_without c es) (e ∷ keys_without c es))
    go true r = above-lower b e (keys_without c es) a.0 r
    go false r = (a.0, r)

pub without-sorted : (c : ℕ) (l : List ℕ) → Sorted l → Sorted (keys_without c l)
unfolding keys_without
without-sorted c [] g = tt
without-sorted c (e ∷ es) g = go (eqb (e / names_room) c)
  where
    go : (t : Bool) → Sorted (cond t (keys_without c es) (e ∷ keys_without c es))
    go true = without-sorted-rest (above-sorted e es g)
      where
        without-sorted-rest : Sorted es → Sorted (keys_without c es)
        without-sorted-rest s = above-sorted e (keys_without c es) (without-above c e es g)
    go false = without-above c e es g

inside-above : (own : List ℕ) (b : ℕ) (l : List ℕ) → Above b l → Above b (keys_inside own l)
unfolding keys_inside
inside-above own b [] a = tt
inside-above own b (e ∷ es) a = go (member own (e / names_room)) (inside-above own e es a.1)
  where
    go : (t : Bool) → Above e (keys_inside own es) → Above b (cond t (e ∷ keys_inside own es) (keys_inside own es))
    go true r = (a.0, r)
    go false r = above-lower b e (keys_inside own es) a.0 r

pub inside-sorted : (own l : List ℕ) → Sorted l → Sorted (keys_inside own l)
unfolding keys_inside
inside-sorted own [] g = tt
inside-sorted own (e ∷ es) g = go (member own (e / names_room)) (inside-above own e es g)
  where
    go : (t : Bool) → Above e (keys_inside own es) → Sorted (cond t (e ∷ keys_inside own es) (keys_inside own es))
    go true r = r
    go false r = above-sorted e (keys_inside own es) r

pub left-sorted : (own : List ℕ) (c : ℕ) (l : List ℕ) → Sorted l → Sorted (keys_left own c l)
unfolding keys_left
left-sorted own c l g = go (member own c)
  where
    go : (t : Bool) → Sorted (cond t l (keys_without c l))
    go true = g
    go false = without-sorted c l g

pub left-kept : (own : List ℕ) (c : ℕ) (l : List ℕ) → member own c ≡ true → keys_left own c l ≡ l
unfolding keys_left
left-kept own c l e = rw e

pub left-taken : (own : List ℕ) (c : ℕ) (l : List ℕ) → member own c ≡ false → keys_left own c l ≡ keys_without c l
unfolding keys_left
left-taken own c l e = rw e

-- ---- how many

without-shorter : (c : ℕ) (l : List ℕ) → length (keys_without c l) ≤ length l
unfolding keys_without
without-shorter c [] = omega arith
without-shorter c (e ∷ es) = go (eqb (e / names_room) c) (without-shorter c es)
  where
    go : (t : Bool) → length (keys_without c es) ≤ length es → length (cond t (keys_without c es) (e ∷ keys_without c es)) ≤ suc (length es)
    go true h = omega arith
    go false h = omega arith

pub left-shorter : (own : List ℕ) (c : ℕ) (l : List ℕ) → length (keys_left own c l) ≤ length l
unfolding keys_left
left-shorter own c l = go (member own c)
  where
    go : (t : Bool) → length (cond t l (keys_without c l)) ≤ length l
    go true = omega arith
    go false = without-shorter c l

-- no class, no key
pub inside-none : (l : List ℕ) → keys_inside (replicate 16 0) l ≡ []
unfolding keys_inside
inside-none [] = refl
inside-none (e ∷ es) = rw (member-empty 16 (e / names_room)) (inside-none es)

-- ---- the run of a class stands in one piece

-- a piece of which each entry is of the class, and no other is
pub without-piece : (c : ℕ) (l : List ℕ) (first past : ℕ) → first ≤ past
    → ((i : ℕ) → i < length l → first ≤ i → i < past → get_or l i 0 / names_room ≡ c)
    → ((i : ℕ) → i < length l → get_or l i 0 / names_room ≡ c → (first ≤ i) × (i < past))
    → keys_without c l ≡ take first l ++ drop past l
unfolding keys_without
without-piece c [] zero zero h is only = refl
without-piece c [] zero (suc past) h is only = refl
without-piece c [] (suc first) zero h is only = absurd (omega arith)
without-piece c [] (suc first) (suc past) h is only = refl
without-piece c (e ∷ es) zero zero h is only =
    rw (ne_eqb (e / names_room) c (λ q. let k = (only 0 (omega arith) q).1 in omega arith))
    (ap (λ (l : List ℕ). e ∷ l) (without-piece c es zero zero (omega arith) (λ i k a b. absurd (omega arith)) (λ i k q. let w = (only (suc i) (omega arith) q).1 in absurd (omega arith))))
without-piece c (e ∷ es) zero (suc past) h is only =
    rw (eq-eqb (e / names_room) c (is 0 (omega arith) (omega arith) (omega arith)))
    (without-piece c es zero past (omega arith) (λ i k a b. is (suc i) (omega arith) (omega arith) (omega arith)) (λ i k q. let w = only (suc i) (omega arith) q in (omega arith, omega (arith, w.1))))
without-piece c (e ∷ es) (suc first) zero h is only = absurd (omega arith)
without-piece c (e ∷ es) (suc first) (suc past) h is only =
    rw (ne_eqb (e / names_room) c (λ q. let k = (only 0 (omega arith) q).0 in omega arith))
    (ap (λ (l : List ℕ). e ∷ l) (without-piece c es first past (omega arith) (λ i k a b. is (suc i) (omega arith) (omega arith) (omega arith)) (λ i k q. let w = only (suc i) (omega arith) q in (omega (arith, w.0), omega (arith, w.1)))))

-- OF SORTED KEYS THE RUN OF THE CLASS GOES, and no other key
pub without-run : (c : ℕ) (l : List ℕ) → Sorted l → keys_without c l ≡ take (run_of names_room c l).first l ++ drop (run_of names_room c l).past l
without-run c l g =
    without-piece c l (run_of names_room c l).first (run_of names_room c l).past (run-within names_room c l g (omega arith)).0
    (λ i h a b. run-only names_room c l g (omega arith) i h a b) (λ i h q. run-all names_room c l g (omega arith) i h q)

-- ---- a record beside the keys that are left

module _ (own : List ℕ) (c : ℕ) (l : List ℕ) where
  -- of the class, the keys that are left are the layer's
  pub left-own : (z : ℕ) → z / names_room ≡ c → elem z (keys_left own c l) ≡ elem z (keys_inside own l)
  unfolding keys_left
  left-own z q = go (member own c) refl
    where
      go : (t : Bool) → member own c ≡ t → elem z (cond t l (keys_without c l)) ≡ elem z (keys_inside own l)
      go true m = sym (elem-inside z own l ∙ rw (q, m))
      go false m = elem-without z c l ∙ rw (q, eq-eqb c c refl) (sym (elem-inside z own l ∙ rw (q, m)))

  -- of another class all are left
  pub left-other : (z : ℕ) → (z / names_room ≡ c → ⊥) → elem z (keys_left own c l) ≡ elem z l
  unfolding keys_left
  left-other z n = go (member own c)
    where
      go : (t : Bool) → elem z (cond t l (keys_without c l)) ≡ elem z l
      go true = refl
      go false = elem-without z c l ∙ rw (ne_eqb (z / names_room) c n)

-- what is fresh goes by the keys of the class alone
fresh-same : (c : ℕ) (ps l m ws : List ℕ) → Below 1024 ps → ((p : ℕ) → p < 1024 → has (key c p) l ≡ has (key c p) m) → fresh_in l c ps ws ≡ fresh_in m c ps ws
unfolding fresh_in
fresh-same c [] l m ws b h = refl
fresh-same c (p ∷ ps) l m ws b h =
    rw (h p (b 0 (omega arith))) (fresh-same c ps l m (cond (has (key c p) m) ws (insert ws p)) (λ i k. b (suc i) (omega arith)) h)

prefix : (c p : ℕ) → p < 1024 → key c p / names_room ≡ c
prefix c p h = omega arith

module _ (own : List ℕ) (c : ℕ) (ps l : List ℕ) (g : Sorted l) (b : Below 1024 ps) where
  has-left : (p : ℕ) → p < 1024 → has (key c p) (keys_inside own l) ≡ has (key c p) (keys_left own c l)
  has-left p h =
      has-elem (key c p) (keys_inside own l) (inside-sorted own l g) ∙ sym (left-own own c l (key c p) (prefix c p h))
      ∙ sym (has-elem (key c p) (keys_left own c l) (left-sorted own c l g))

  -- THE FRESH PARENTS ARE THOSE WITHOUT A KEY AMONG THE LAYER'S: looked up among all keys where the layer records the class, else all
  pub fresh-own : member own c ≡ true → fresh_in l c ps (replicate 16 0) ≡ fresh_in (keys_inside own l) c ps (replicate 16 0)
  unfolding keys_left
  fresh-own m =
      sym (fresh-same c ps (keys_inside own l) l (replicate 16 0) b
      (λ p h. has-elem (key c p) (keys_inside own l) (inside-sorted own l g) ∙ elem-inside (key c p) own l ∙ rw (prefix c p h, m) (sym (has-elem (key c p) l g))))

  pub fresh-first : member own c ≡ false → fresh_in [] c ps (replicate 16 0) ≡ fresh_in (keys_inside own l) c ps (replicate 16 0)
  unfolding elem
  fresh-first m =
      sym (fresh-same c ps (keys_inside own l) [] (replicate 16 0) b
      (λ p h. has-elem (key c p) (keys_inside own l) (inside-sorted own l g) ∙ elem-inside (key c p) own l ∙ rw (prefix c p h, m) (sym (has-elem (key c p) [] tt))))

  -- as many keys are new to the layer as to what is left
  pub grown-alike : length (put_all c ps (keys_inside own l)) + length (keys_left own c l) ≡ length (keys_inside own l) + length (put_all c ps (keys_left own c l))
  grown-alike =
      let same = ap (λ (ws : List ℕ). length (members (at ws) 0 1024)) (fresh-same c ps (keys_inside own l) (keys_left own c l) (replicate 16 0) b has-left) in
      let a = fresh-count c ps (keys_inside own l) (inside-sorted own l g) b in
      let d = fresh-count c ps (keys_left own c l) (left-sorted own c l g) b in
      omega arith

  -- every key of a record is of its class
  map-prefix : (z : ℕ) (qs : List ℕ) → Below 1024 qs → (z / names_room ≡ c → ⊥) → elem z (map (key c) qs) ≡ false
  unfolding elem
  map-prefix z [] d n = refl
  map-prefix z (q ∷ qs) d n =
      rw (ne_eqb (key c q) z (λ e. n (let k = d 0 (omega arith) in omega arith))) (map-prefix z qs (λ i h. d (suc i) (omega arith)) n)

  -- THE LAYER'S KEYS AFTER A RECORD are those of its parents and those before
  pub layer-keys-after : c < 1024 → length own ≡ 16 → keys_inside (insert own c) (put_all c ps (keys_left own c l)) ≡ put_all c ps (keys_inside own l)
  layer-keys-after h w =
      same-members (keys_inside (insert own c) (put_all c ps (keys_left own c l))) (put_all c ps (keys_inside own l))
      (inside-sorted (insert own c) (put_all c ps (keys_left own c l)) (all-sorted c ps (keys_left own c l) (left-sorted own c l g)))
      (all-sorted c ps (keys_inside own l) (inside-sorted own l g))
      (λ z. elem-inside z (insert own c) (put_all c ps (keys_left own c l))
      ∙ ap₂ (λ (s t : Bool). s && t) (member-insert own c (z / names_room) (omega arith)) (all-has c z ps (keys_left own c l))
      ∙ go z (ℕ_discrete (z / names_room) c) ∙ sym (all-has c z ps (keys_inside own l)))
    where
      go : (z : ℕ) → Dec (z / names_room ≡ c)
          → ((eqb (z / names_room) c || member own (z / names_room)) && (elem z (map (key c) ps) || elem z (keys_left own c l)))
          ≡ (elem z (map (key c) ps) || elem z (keys_inside own l))
      go z (yes q) = rw (eq-eqb (z / names_room) c q, left-own own c l z q)
      go z (no n) = rw (ne_eqb (z / names_room) c n, map-prefix z ps b n, left-other own c l z n, elem-inside z own l)

-- ---- what every table of layers is that rows have made

-- `under`: how many layers lie below the topmost
pub record Stands (under : ℕ) (l : Layered) : Type 0 where
  pub few : l.shown.tables.names ≤ names_room
  pub short : l.shown.tables.bytes ≤ 24576
  pub ordered : Sorted l.shown.keys
  pub counted : l.shown.tables.pairs ≡ length l.shown.keys
  pub classes : (z : ℕ) → elem z l.shown.keys ≡ true → (z / names_room < l.shown.tables.names) × (z % names_room < l.shown.tables.names)
  pub wide : length l.shown.marks ≡ marks_room
  pub own-wide : length l.own ≡ 16
  -- the room of one layer, and of those below
  pub layer-room : length (layer_keys l) ≤ pairs_room
  pub room : length l.shown.keys ≤ pairs_room * under + length (layer_keys l)

-- IT IS SO WHERE A LAYER IS OPENED over a plain table
pub stands-first : (s : State) → Sound s → Stands 1 (opened s)
stands-first s g =
    let none = ap length (inside-none s.keys) in
    record {
      few = g.few;
      short = g.short;
      ordered = g.ordered;
      counted = g.counted;
      classes = g.classes;
      wide = g.wide;
      own-wide = refl;
      layer-room = omega arith;
      room = omega (arith, g.room);
    }

-- and over layers
pub stands-next : (under : ℕ) (l : Layered) → Stands under l → Stands (under + 1) (opened l.shown)
stands-next under l g =
    let none = ap length (inside-none l.shown.keys) in
    record {
      few = g.few;
      short = g.short;
      ordered = g.ordered;
      counted = g.counted;
      classes = g.classes;
      wide = g.wide;
      own-wide = refl;
      layer-room = omega arith;
      room = omega (arith, g.room, g.layer-room);
    }

-- ---- a record of the topmost layer

module _ (l : Layered) (flags class : ℕ) (parents : List ℕ) where
  -- A REFUSED RECORD CHANGES NOTHING
  pub layer-refused : (layer_refusal l flags class parents ≡ 0 → ⊥) → layer_row l flags class parents ≡ l
  unfolding layer_row
  layer-refused n = rw (ne_eqb (layer_refusal l flags class parents) 0 n)

  pub layer-taken : layer_refusal l flags class parents ≡ 0 → layer_row l flags class parents ≡ with_layer_record l flags class parents
  unfolding layer_row
  layer-taken e = rw e

module _ (under : ℕ) (l : Layered) (g : Stands under l) (flags class : ℕ) (parents : List ℕ) (z : layer_refusal l flags class parents ≡ 0) where
  -- what a record that is taken is
  pub layer-good : GoodRecord l.shown.tables.names (layer_keys l) flags class parents
  unfolding layer_refusal
  layer-good = record-good l.shown.tables.names (layer_keys l) flags class parents z

  small-parents : Below 1024 parents
  small-parents i h = omega (arith, layer-good.parents-in i h, g.few)

  -- the layer's keys after it
  pub layer-keys-now : layer_keys (with_layer_record l flags class parents) ≡ put_all class parents (layer_keys l)
  unfolding with_layer_record with_record
  layer-keys-now = layer-keys-after l.own class parents l.shown.keys g.ordered small-parents (omega (arith, layer-good.class-in, g.few)) g.own-wide

  -- HOW MANY IT LEAVES IN ALL: no more than the layers below and the layer's own room allow
  pub left-room : length (put_all class parents (keys_left l.own class l.shown.keys)) ≤ pairs_room * under + length (put_all class parents (layer_keys l))
  left-room =
      omega (arith, grown-alike l.own class parents l.shown.keys g.ordered small-parents, left-shorter l.own class l.shown.keys, g.room)

  keys-in : (y : ℕ) → elem y (put_all class parents (keys_left l.own class l.shown.keys)) ≡ true → (y / names_room < l.shown.tables.names) × (y % names_room < l.shown.tables.names)
  keys-in y m = either (elem y (map (key class) parents)) refl (sym (all-has class y parents (keys_left l.own class l.shown.keys)) ∙ m)
    where
      was : elem y (keys_left l.own class l.shown.keys) ≡ true → (y / names_room < l.shown.tables.names) × (y % names_room < l.shown.tables.names)
      was e = go (ℕ_discrete (y / names_room) class)
        where
          go : Dec (y / names_room ≡ class) → (y / names_room < l.shown.tables.names) × (y % names_room < l.shown.tables.names)
          go (yes q) = g.classes y (second (member l.own (y / names_room)) (sym (elem-inside y l.own l.shown.keys) ∙ sym (left-own l.own class l.shown.keys y q) ∙ e))
            where
              second : (s : Bool) → (s && elem y l.shown.keys) ≡ true → elem y l.shown.keys ≡ true
              second true k = k
              second false k = absurd (false≢true k)
          go (no n) = g.classes y (sym (left-other l.own class l.shown.keys y n) ∙ e)

      either : (t : Bool) → elem y (map (key class) parents) ≡ t → (t || elem y (keys_left l.own class l.shown.keys)) ≡ true
          → (y / names_room < l.shown.tables.names) × (y % names_room < l.shown.tables.names)
      either true q f = keys-of class l.shown.tables.names parents y layer-good.class-in g.few layer-good.parents-in q
      either false q f = was f

  stands-with : Stands under (with_layer_record l flags class parents)
  unfolding with_layer_record with_record
  stands-with =
      let now = ap length layer-keys-now in
      record {
        few = g.few;
        short = g.short;
        ordered = all-sorted class parents (keys_left l.own class l.shown.keys) (left-sorted l.own class l.shown.keys g.ordered);
        counted = refl;
        classes = keys-in;
        wide = marks-length flags class l.shown.marks ∙ g.wide;
        own-wide = length-insert l.own class ∙ g.own-wide;
        layer-room = omega (arith, layer-good.room);
        room = omega (arith, left-room);
      }

-- AND STAYS SO after a record
pub stands-row : (under : ℕ) (l : Layered) (flags class : ℕ) (parents : List ℕ) → Stands under l → Stands under (layer_row l flags class parents)
stands-row under l flags class parents g = go (layer_refusal l flags class parents) refl
  where
    go : (k : ℕ) → layer_refusal l flags class parents ≡ k → Stands under (layer_row l flags class parents)
    go zero e = rw (layer-taken l flags class parents e) (stands-with under l g flags class parents e)
    go (suc k) e = rw (layer-refused l flags class parents (λ z. omega arith)) g
