-- The domain of a class table in the words of its rows, and that a table of columns is taken exactly if each row lies inside its slice and the
-- rows are in the domain.
use Rattle.std.specs.Prelude.{◌≡◌, Bool, cond, ◌&&◌, ◌||◌, ◌⊎◌, ◌↔◌, leb, ltb, take, drop, get_or}
use Rattle.std.proofs.Math.Path.{refl, sym, ap, subst}
use Rattle.std.proofs.Common.{ap₂, ◌∙◌, inl, inr, eq-or-lt_of_le, length-append, eq-eqb, ne_eqb, lt-ltb, le-ltb, le-leb, eqb-true, ltb-true, leb-true}
use Rattle.std.proofs.Math.Bool.{true, false, or-false, or_assoc}
use Rattle.std.proofs.lemmas.Bool.{false≢true, eqb-false}
use mathlib.Core.List.Memᴰ
use mathlib.Core.List.{List, [], ◌∷◌, ◌++◌, map, Memᴰ}
use Rattle.std.proofs.Math.Logic.{⊎_elim}
use Rattle.std.proofs.Math.Option.{Option, some, none}
use Prim.Native.Nat.{ℕ, zero, suc, ◌+◌, ◌-◌, ◌%◌, ◌^◌, ◌≤◌, ◌<◌}
use native.Mathlib.Omega.{arith}
use Rattle.std.proofs.Math.Decide.{ℕ_discrete, dec_lt}
use Rattle.std.proofs.Math.Dec.{eqb}
use Rattle.std.proofs.Math.ListN.{length}
use Rattle.order.specs.Truth.{both, and-both}
use Rattle.order.specs.Lists.{elem}
use Rattle.order.specs.Laws.{lists-same, lists-equal, lists-trans}
use Rattle.order.specs.Compare.{compare_lists, is_equal}
use Rattle.std.specs.declared.cmp.Ordering.{Ordering}
use Rattle.std.specs.declared.cmp.Ordering.TheVariants.{Less, Equal, Greater}
use Rattle.sorted.specs.Sorted.{Sorted, put}
use Rattle.sorted.specs.Laws.{same-members}
use Rattle.view.specs.View.{number_of}
use Rattle.view.specs.Reach.{Good}
use Rattle.checks.specs.Checks as checks
use Rattle.names.specs.Names.{name_of, name_at, next, check_names}
use Rattle.names.specs.Table as names
use Rattle.names.specs.Table.{sum, Checked, name-sized}
use Rattle.rows.specs.declared.Outcome.{Outcome}
use Rattle.rows.specs.Rows.{object_name, no_tables, good_flags, all_below, key, put_all, State, record_checks, record_refusal, with_record, Ran}
use Rattle.rows.specs.Keys.{length-old, length-new, all-sorted, all-longer, all-has}
use Rattle.rows.specs.Laws.{Sound, record-good, record-taken, good-record}
use Rattle.columns.specs.Columns.{inside, placed_record, name_rows, record_rows, table_of}
use Rattle.columns.specs.Laws.{inside-is, record-inside, record-outside, names-good}
use Rattle.columns.specs.Names.{inside-length, names-agree, names-checked, names-counted}
use Rattle.columns.specs.Given.{Given, even, even_lengths, no_marks, table}
use Rattle.columns.specs.GivenLaws.{even-is}
use Rattle.tableview.specs.TableRows.{Record, Rows, set_of, place_of, rows_view, names_of, records_of, rows_in}
use Rattle.tableview.specs.RowRefusals.{Pair, listed, has_pair, different}
use Rattle.tableview.proofs.Taken.{elem-below, placed-taken}
use Rattle.tableview.proofs.Agrees.{names-length, member-elem, elem-set, set-sorted}
use Rattle.tableview.specs.Canonical.{joined, places_from, sizes_of, parent_lists, columns_of}
use Rattle.tableview.proofs.Canonical.{columns-even, rows-back}
use Rattle.tableview.proofs.Paths.{parents-exactly}
use Rattle.tableview.specs.Domain.{GoodName, Flags, pairs_of, Aligned, key_of, keys_from}
use Rattle.tableview.specs.Domain.{GoodRow, InLimits, InDomain, Placed}

-- ---- columns

pub even-exactly : (g : Given) → (even g ≡ true) ↔ Aligned g
unfolding even even_lengths
even-exactly g = (
  λ e. let q = even-is (length g.name_at) (length g.name_len) (length g.rec_flags) (length g.rec_class) (length g.rec_at) (length g.rec_len) e in
      record { lengths-as = sym q.0; classes-as = sym q.1; starts-as = sym q.2; sizes-as = sym q.3 },
  λ a. rw (
    eq-eqb (length g.name_at) (length g.name_len) (sym a.lengths-as),
    eq-eqb (length g.rec_flags) (length g.rec_class) (sym a.classes-as),
    eq-eqb (length g.rec_flags) (length g.rec_at) (sym a.starts-as),
    eq-eqb (length g.rec_flags) (length g.rec_len) (sym a.sizes-as),
  ),
)

pub inside-plain : (size at len : ℕ) → (inside size at len ≡ true) ↔ (at + len ≤ size)
unfolding inside
inside-plain size at len = (
  λ e. let i = inside-is size at len e in omega arith,
  λ h. and-both (leb at size) (leb len (size - at)) (le-leb at size (omega arith)) (le-leb len (size - at) (omega arith)),
)

-- ---- flags

odd-flags : (f : ℕ) → f % 2 ≡ 1 → f ≤ 7 → Flags f
odd-flags zero o l = absurd (omega arith)
odd-flags (suc zero) o l = inr (false, false, refl)
odd-flags (suc (suc zero)) o l = absurd (omega arith)
odd-flags (suc (suc (suc zero))) o l = inr (true, false, refl)
odd-flags (suc (suc (suc (suc zero)))) o l = absurd (omega arith)
odd-flags (suc (suc (suc (suc (suc zero))))) o l = inr (false, true, refl)
odd-flags (suc (suc (suc (suc (suc (suc zero)))))) o l = absurd (omega arith)
odd-flags (suc (suc (suc (suc (suc (suc (suc zero))))))) o l = inr (true, true, refl)
odd-flags (suc (suc (suc (suc (suc (suc (suc (suc n)))))))) o l = absurd (omega arith)

flags-exactly : (f : ℕ) → (good_flags f ≡ true) ↔ Flags f
unfolding good_flags
flags-exactly f = (λ e. to (eqb f 0) refl (eqb (f % 2) 1) refl (leb f 7) refl e, from)
  where
    to : (a : Bool) → eqb f 0 ≡ a → (b : Bool) → eqb (f % 2) 1 ≡ b → (c : Bool) → leb f 7 ≡ c → (a || (b && c)) ≡ true → Flags f
    to true p b q c r e = inl (eqb-true f 0 p)
    to false p true q true r e = odd-flags f (eqb-true (f % 2) 1 q) (leb-true f 7 r)
    to false p true q false r e = absurd (false≢true e)
    to false p false q c r e = absurd (false≢true e)

    small : (i l : Bool) → f ≡ 1 + cond i 2 0 + cond l 4 0 → (eqb f 0 || (eqb (f % 2) 1 && leb f 7)) ≡ true
    small true true e = rw e
    small true false e = rw e
    small false true e = rw e
    small false false e = rw e

    from : Flags f → (eqb f 0 || (eqb (f % 2) 1 && leb f 7)) ≡ true
    from (inl e) = rw e
    from (inr w) = small w.0 w.1 w.2

-- ---- a row

pub below-members : (n : ℕ) (ps : List ℕ) → (all_below n ps ≡ true) ↔ ((p : ℕ) → Memᴰ p ps → p < n)
unfolding all_below
below-members n [] = (λ e p m. absurd (Memᴰ.not-nil m), λ f. refl)
below-members n (x ∷ ps) = let ih = below-members n ps in (
  λ e p m. let b = both (ltb x n) (all_below n ps) e in
      ⊎_elim (λ q. let l = ltb-true x n b.0 in omega arith) (λ k. ih.0 b.1 p k) (Memᴰ.cases_cons m),
  λ f. and-both (ltb x n) (all_below n ps) (lt-ltb x n (f x (Memᴰ.head refl))) (ih.1 (λ p m. f p (Memᴰ.tail m))),
)

abbrev pub row : ℕ → ℕ → List ℕ → Record
row f c ps = record { flags = f; class = c; parents = ps }

-- a record is not refused exactly if it is a good row and its pairs find room
pub record-exactly : (n : ℕ) (keys : List ℕ) (f c : ℕ) (ps : List ℕ) → (record_refusal n keys f c ps ≡ 0) ↔ (GoodRow n (row f c ps) × (length (put_all c ps keys) ≤ 4096))
unfolding record_refusal record_checks checks.first_refusal
record-exactly n keys f c ps = (
  λ e. let r = record-good n keys f c ps e in (
    record {
      flags-good = (flags-exactly f).0 r.flags-good;
      class-in = r.class-in;
      parents-in = λ p m. elem-below n p ps r.parents-in (member-elem p ps m);
      few = r.short;
    },
    r.room,
  ),
  λ w. let r = w.0 in
      rw (
        le-ltb 254 (length ps) r.few,
        (flags-exactly f).1 r.flags-good,
        lt-ltb c n r.class-in,
        (below-members n ps).1 r.parents-in,
        le-ltb 4096 (length (put_all c ps keys)) w.1,
      ),
)

unfoldable pub keys_of : List Pair → List ℕ
keys_of [] = []
keys_of (p ∷ ps) = key_of p ∷ keys_of ps

from-sorted : (rs : List Record) (l : List ℕ) → Sorted l → Sorted (keys_from rs l)
unfolding keys_from
from-sorted [] l g = g
from-sorted (r ∷ rs) l g = from-sorted rs (put_all r.class r.parents l) (all-sorted r.class r.parents l g)

pub from-longer : (rs : List Record) (l : List ℕ) → length l ≤ length (keys_from rs l)
unfolding keys_from
from-longer [] l = omega arith
from-longer (r ∷ rs) l = omega (arith, all-longer r.class r.parents l, from-longer rs (put_all r.class r.parents l))

or-move : (a b c : Bool) → (b || (a || c)) ≡ ((a || b) || c)
or-move true true c = refl
or-move true false c = refl
or-move false true c = refl
or-move false false c = refl

pub elem-listed : (z c : ℕ) (ps : List ℕ) (qs : List Pair) → elem z (keys_of (listed c ps ++ qs)) ≡ (elem z (map (key c) ps) || elem z (keys_of qs))
unfolding elem keys_of listed key_of
elem-listed z c [] qs = refl
elem-listed z c (p ∷ ps) qs =
    ap (λ (b : Bool). eqb (key c p) z || b) (elem-listed z c ps qs) ∙ sym (or_assoc (eqb (key c p) z) (elem z (map (key c) ps)) (elem z (keys_of qs)))

elem-from : (z : ℕ) (rs : List Record) (l : List ℕ) → elem z (keys_from rs l) ≡ (elem z (keys_of (pairs_of rs)) || elem z l)
unfolding keys_from keys_of pairs_of elem
elem-from z [] l = refl
elem-from z (r ∷ rs) l =
    elem-from z rs (put_all r.class r.parents l)
    ∙ ap (λ (b : Bool). elem z (keys_of (pairs_of rs)) || b) (all-has r.class z r.parents l)
    ∙ or-move (elem z (map (key r.class) r.parents)) (elem z (keys_of (pairs_of rs))) (elem z l)
    ∙ ap (λ (b : Bool). b || elem z l) (sym (elem-listed z r.class r.parents (pairs_of rs)))

-- the keys of rows from none are those of their pairs, as a set
from-set : (rs : List Record) → keys_from rs [] ≡ set_of (keys_of (pairs_of rs))
unfolding elem
from-set rs =
    same-members (keys_from rs []) (set_of (keys_of (pairs_of rs))) (from-sorted rs [] tt) (set-sorted (keys_of (pairs_of rs)))
    (λ z. elem-from z rs [] ∙ or-false (elem z (keys_of (pairs_of rs))) ∙ sym (elem-set z (keys_of (pairs_of rs))))

-- parents below 1,024: a key tells its pair
unfoldable pub Small : List Pair → Type 0
Small ps = (q : Pair) → Memᴰ q ps → q.parent < 1024

key-has : (p : Pair) (ps : List Pair) → p.parent < 1024 → Small ps → elem (key_of p) (keys_of ps) ≡ has_pair p ps
unfolding elem keys_of has_pair key_of Small
key-has p [] h s = refl
key-has p (q ∷ ps) h s =
    ap₂ (λ (a b : Bool). a || b) (same (ℕ_discrete q.class p.class) (ℕ_discrete q.parent p.parent) (s q (Memᴰ.head refl))) (key-has p ps h (λ r m. s r (Memᴰ.tail m)))
  where
    same : Dec (q.class ≡ p.class) → Dec (q.parent ≡ p.parent) → q.parent < 1024 → eqb (key_of q) (key_of p) ≡ (eqb q.class p.class && eqb q.parent p.parent)
    same (yes a) (yes b) k = rw (eq-eqb (key_of q) (key_of p) (omega arith), eq-eqb q.class p.class a, eq-eqb q.parent p.parent b)
    same (yes a) (no b) k = rw (ne_eqb (key_of q) (key_of p) (λ e. b (omega arith)), eq-eqb q.class p.class a, ne_eqb q.parent p.parent b)
    same (no a) b k = rw (ne_eqb (key_of q) (key_of p) (λ e. a (omega arith)), ne_eqb q.class p.class a)

-- AS MANY KEYS AS DIFFERENT PAIRS
pub set-counted : (ps : List Pair) → Small ps → length (set_of (keys_of ps)) ≡ different ps
unfolding set_of keys_of different Small
set-counted [] s = refl
set-counted (p ∷ ps) s = go (has_pair p ps) refl (set-counted ps (λ r m. s r (Memᴰ.tail m)))
  where
    told : (b : Bool) → has_pair p ps ≡ b → elem (key_of p) (set_of (keys_of ps)) ≡ b
    told b e = elem-set (key_of p) (keys_of ps) ∙ key-has p ps (s p (Memᴰ.head refl)) (λ r m. s r (Memᴰ.tail m)) ∙ e

    go : (b : Bool) → has_pair p ps ≡ b → length (set_of (keys_of ps)) ≡ different ps → length (put (key_of p) (set_of (keys_of ps))) ≡ cond b (different ps) (suc (different ps))
    go true e ih = length-old (key_of p) (set_of (keys_of ps)) (told true e) ∙ ih
    go false e ih = length-new (key_of p) (set_of (keys_of ps)) (told false e) ∙ ap suc ih

pub listed-small : (c : ℕ) (ps : List ℕ) (qs : List Pair) → ((p : ℕ) → Memᴰ p ps → p < 1024) → Small qs → Small (listed c ps ++ qs)
unfolding listed Small
listed-small c [] qs h s = s
listed-small c (p ∷ ps) qs h s = λ q m.
    ⊎_elim (λ e. let k = h p (Memᴰ.head refl) in let f = ap (λ (z : Pair). z.parent) e in omega arith) (λ k. listed-small c ps qs (λ r n. h r (Memᴰ.tail n)) s q k) (Memᴰ.cases_cons m)

pairs-small : (n : ℕ) (rs : List Record) → n ≤ 1024 → ((r : Record) → Memᴰ r rs → GoodRow n r) → Small (pairs_of rs)
unfolding pairs_of Small
pairs-small n [] l h = λ q m. absurd (Memᴰ.not-nil m)
pairs-small n (r ∷ rs) l h =
    listed-small r.class r.parents (pairs_of rs) (λ p m. let k = (h r (Memᴰ.head refl)).parents-in p m in omega arith) (pairs-small n rs l (λ q m. h q (Memᴰ.tail m)))

pub pairs-counted : (n : ℕ) (rs : List Record) → n ≤ 1024 → ((r : Record) → Memᴰ r rs → GoodRow n r) → length (keys_from rs []) ≡ different (pairs_of rs)
pairs-counted n rs l h = ap length (from-set rs) ∙ set-counted (pairs_of rs) (pairs-small n rs l h)

-- ---- the columns of the records

-- each place inside, each row good, and room for all pairs with the keys that are there
record Fit (n : ℕ) (keys parents fs cs ats ls : List ℕ) : Type 0 where
  pub placed : (i : ℕ) → i < length fs → get_or ats i 0 + get_or ls i 0 ≤ length parents
  pub good : (r : Record) → Memᴰ r (records_of parents fs cs ats ls) → GoodRow n r
  pub room : length (keys_from (records_of parents fs cs ats ls) keys) ≤ 4096

module _ (parents : List ℕ) (f c a l : ℕ) (fs cs ats ls : List ℕ) where
  abbrev ps : List ℕ
  ps = take l (drop a parents)

  fit-first : (n : ℕ) (keys : List ℕ) → Fit n keys parents (f ∷ fs) (c ∷ cs) (a ∷ ats) (l ∷ ls)
      → (a + l ≤ length parents) × (record_refusal n keys f c ps ≡ 0) × Fit n (put_all c ps keys) parents fs cs ats ls
  unfolding records_of keys_from
  fit-first n keys w = (
    w.placed 0 (omega arith),
    (record-exactly n keys f c ps).1 (w.good (row f c ps) (Memᴰ.head refl), omega (arith, w.room, from-longer (records_of parents fs cs ats ls) (put_all c ps keys))),
    record { placed = λ i h. w.placed (suc i) (omega arith); good = λ r m. w.good r (Memᴰ.tail m); room = w.room },
  )

  fit-more : (n : ℕ) (keys : List ℕ) → a + l ≤ length parents → record_refusal n keys f c ps ≡ 0 → Fit n (put_all c ps keys) parents fs cs ats ls
      → Fit n keys parents (f ∷ fs) (c ∷ cs) (a ∷ ats) (l ∷ ls)
  unfolding records_of keys_from
  fit-more n keys h z w = record {
    placed = elim [ zero ↦ λ k. h | suc i ↦ λ k. w.placed i (omega arith) ];
    good = λ r m. ⊎_elim (λ e. subst (GoodRow n) (sym e) ((record-exactly n keys f c ps).0 z).0) (λ k. w.good r k) (Memᴰ.cases_cons m);
    room = w.room;
  }

placed-inside : (parents : List ℕ) (f c a l : ℕ) (s : State) → (placed_record parents f c a l s).refusal ≡ 0 → a + l ≤ length parents
placed-inside parents f c a l s z = go (inside (length parents) a l) refl
  where
    go : (b : Bool) → inside (length parents) a l ≡ b → a + l ≤ length parents
    go true e = (inside-plain (length parents) a l).0 e
    go false e = absurd (let y = sym (ap (λ (u : Ran). u.refusal) (record-outside parents f c a l s e)) ∙ z in omega arith)

-- a record inside that is not refused is taken
taken-one : (parents : List ℕ) (f c a l : ℕ) (s : State) → a + l ≤ length parents → record_refusal s.tables.names s.keys f c (take l (drop a parents)) ≡ 0
    → placed_record parents f c a l s ≡ record { refusal = 0; state = with_record s f c (take l (drop a parents)) }
taken-one parents f c a l s h z =
    record-inside parents f c a l s ((inside-plain (length parents) a l).1 h)
    ∙ ap₂ (λ (k : ℕ) (u : State). record { refusal = k; state = u }) z (record-taken s f c (take l (drop a parents)) z)

sound-one : (s : State) (f c : ℕ) (ps : List ℕ) → Sound s → record_refusal s.tables.names s.keys f c ps ≡ 0 → Sound (with_record s f c ps)
sound-one s f c ps g z = subst Sound (record-taken s f c ps z) (good-record s f c ps g)

-- what is said of the records that are taken
record TakenAll (s : State) (parents fs cs ats ls : List ℕ) (u : State) : Type 0 where
  pub fit : Fit s.tables.names s.keys parents fs cs ats ls
  pub keys-are : u.keys ≡ keys_from (records_of parents fs cs ats ls) s.keys

fit-none : (s : State) (parents fs cs ats ls : List ℕ) → Sound s → length fs ≡ 0 → records_of parents fs cs ats ls ≡ [] → TakenAll s parents fs cs ats ls s
unfolding keys_from
fit-none s parents fs cs ats ls g e r = record {
  fit = record {
    placed = λ i h. absurd (omega arith);
    good = λ q m. absurd (Memᴰ.not-nil (subst (Memᴰ q) r m));
    room = let k = g.room in let q = ap (λ (rs : List Record). length (keys_from rs s.keys)) r in omega arith;
  };
  keys-are = sym (ap (λ (rs : List Record). keys_from rs s.keys) r);
}

records-fit : (parents fs cs ats ls : List ℕ) (s : State) → Sound s → length cs ≡ length fs → length ats ≡ length fs → length ls ≡ length fs
    → (record_rows parents fs cs ats ls s).refusal ≡ 0 → TakenAll s parents fs cs ats ls (record_rows parents fs cs ats ls s).state
unfolding record_rows records_of with_record keys_from
records-fit parents [] cs ats ls s g p q r z = fit-none s parents [] cs ats ls g refl refl
records-fit parents (f ∷ fs) [] ats ls s g p q r z = absurd (omega arith)
records-fit parents (f ∷ fs) (c ∷ cs) [] ls s g p q r z = absurd (omega arith)
records-fit parents (f ∷ fs) (c ∷ cs) (a ∷ ats) [] s g p q r z = absurd (omega arith)
records-fit parents (f ∷ fs) (c ∷ cs) (a ∷ ats) (l ∷ ls) s g p q r z = go (eqb one.refusal 0) refl z (records-fit parents fs cs ats ls one.state)
  where
    one : Ran
    one = placed_record parents f c a l s

    rest : Ran
    rest = record_rows parents fs cs ats ls one.state

    part : List ℕ
    part = take l (drop a parents)

    go : (b : Bool) → eqb one.refusal 0 ≡ b → (cond b rest one).refusal ≡ 0
        → (Sound one.state → length cs ≡ length fs → length ats ≡ length fs → length ls ≡ length fs → rest.refusal ≡ 0 → TakenAll one.state parents fs cs ats ls rest.state)
        → TakenAll s parents (f ∷ fs) (c ∷ cs) (a ∷ ats) (l ∷ ls) (cond b rest one).state
    go true e k ih =
        let t = placed-taken parents f c a l s (eqb-true one.refusal 0 e) in
        let w = ih (subst Sound (sym t.1) (sound-one s f c part g t.0)) (omega arith) (omega arith) (omega arith) k in
        let v = subst (λ (u : State). TakenAll u parents fs cs ats ls rest.state) t.1 w in
        record {
          fit = fit-more parents f c a l fs cs ats ls s.tables.names s.keys (placed-inside parents f c a l s (eqb-true one.refusal 0 e)) t.0 v.fit;
          keys-are = v.keys-are;
        }
    go false e k ih = absurd (eqb-false one.refusal 0 e k)

fit-taken : (parents fs cs ats ls : List ℕ) (s : State) → Sound s → Fit s.tables.names s.keys parents fs cs ats ls → (record_rows parents fs cs ats ls s).refusal ≡ 0
unfolding record_rows with_record
fit-taken parents [] cs ats ls s g w = refl
fit-taken parents (f ∷ fs) [] ats ls s g w = refl
fit-taken parents (f ∷ fs) (c ∷ cs) [] ls s g w = refl
fit-taken parents (f ∷ fs) (c ∷ cs) (a ∷ ats) [] s g w = refl
fit-taken parents (f ∷ fs) (c ∷ cs) (a ∷ ats) (l ∷ ls) s g w =
    let x = fit-first parents f c a l fs cs ats ls s.tables.names s.keys w in
    let part = take l (drop a parents) in
    ap (λ (u : Ran). (cond (eqb u.refusal 0) (record_rows parents fs cs ats ls u.state) u).refusal) (taken-one parents f c a l s x.0 x.1)
    ∙ fit-taken parents fs cs ats ls (with_record s f c part) (sound-one s f c part g x.1) x.2

-- ---- the columns of the names

get-name : (bytes ats lens : List ℕ) (i : ℕ) → length lens ≡ length ats → i < length ats → get_or (names_of bytes ats lens) i [] ≡ name_at bytes ats lens i
unfolding names_of
get-name bytes [] lens i e h = absurd (omega arith)
get-name bytes (at ∷ ats) [] i e h = absurd (omega arith)
get-name bytes (at ∷ ats) (len ∷ lens) zero e h = refl
get-name bytes (at ∷ ats) (len ∷ lens) (suc i) e h = get-name bytes ats lens i (omega arith) (omega arith)

-- each name as long as its column says
bytes-counted : (bytes ats lens : List ℕ) → length lens ≡ length ats → ((i : ℕ) → i < length ats → get_or ats i 0 + get_or lens i 0 ≤ length bytes)
    → length (joined (names_of bytes ats lens)) ≡ sum lens
unfolding names_of joined sum
bytes-counted bytes [] [] e h = refl
bytes-counted bytes [] (len ∷ lens) e h = absurd (omega arith)
bytes-counted bytes (at ∷ ats) [] e h = absurd (omega arith)
bytes-counted bytes (at ∷ ats) (len ∷ lens) e h =
    length-append (name_of bytes at len) (joined (names_of bytes ats lens))
    ∙ ap₂ (λ (m n : ℕ). m + n) (inside-length bytes at len ((inside-plain (length bytes) at len).1 (h 0 (omega arith)))) (bytes-counted bytes ats lens (omega arith) (λ i k. h (suc i) (omega arith)))

-- what a table's names must be
pub record NamesFit (bytes ats lens : List ℕ) : Type 0 where
  pub placed : (i : ℕ) → i < length ats → get_or ats i 0 + get_or lens i 0 ≤ length bytes
  pub few : length (names_of bytes ats lens) ≤ 1024
  pub short : length (joined (names_of bytes ats lens)) ≤ 24576
  pub good : (i : ℕ) → i < length (names_of bytes ats lens) → GoodName (get_or (names_of bytes ats lens) i [])
  pub rising : (i : ℕ) → suc i < length (names_of bytes ats lens) → compare_lists (get_or (names_of bytes ats lens) i []) (get_or (names_of bytes ats lens) (suc i) []) ≡ Less

module _ (bytes ats lens : List ℕ) (e : length lens ≡ length ats) where
  many : length (names_of bytes ats lens) ≡ length ats
  many = names-length bytes ats lens (sym e)

  names-fit : Checked bytes ats lens → NamesFit bytes ats lens
  names-fit c = record {
    placed = placed;
    few = let m = many in let k = c.few in omega arith;
    short = let b = bytes-counted bytes ats lens e placed in let k = c.short in omega arith;
    good = λ i h.
        let m = many in
        let z = name-sized bytes ats lens c i (omega arith) in
        subst GoodName (sym (get-name bytes ats lens i e (omega arith))) (record { least = z.0; most = z.1; formed = c.formed i (omega arith) });
    rising = λ i h.
        let m = many in
        ap₂ compare_lists (get-name bytes ats lens i e (omega arith)) (get-name bytes ats lens (suc i) e (omega arith)) ∙ c.rising i (omega arith);
  }
    where
      placed : (i : ℕ) → i < length ats → get_or ats i 0 + get_or lens i 0 ≤ length bytes
      placed i h = let k = c.inside i h in let a = k.starts in let b = k.ends in omega arith

  fit-names : NamesFit bytes ats lens → Checked bytes ats lens
  fit-names w = record {
    columns = sym e;
    few = let m = many in let k = w.few in omega arith;
    short = let b = bytes-counted bytes ats lens e w.placed in let k = w.short in omega arith;
    inside = λ i h.
        let k = w.placed i h in
        let n = inside-length bytes (get_or ats i 0) (get_or lens i 0) ((inside-plain (length bytes) (get_or ats i 0) (get_or lens i 0)).1 k) in
        let z = named i h in
        record { least = let a = z.least in omega arith; most = let a = z.most in omega arith; starts = omega arith; ends = omega arith };
    formed = λ i h. (named i h).formed;
    rising = λ i h.
        let m = many in
        sym (ap₂ compare_lists (get-name bytes ats lens i e (omega arith)) (get-name bytes ats lens (suc i) e (omega arith))) ∙ w.rising i (omega arith);
  }
    where
      named : (i : ℕ) → i < length ats → GoodName (name_at bytes ats lens i)
      named i h = subst GoodName (get-name bytes ats lens i e h) (w.good i (let m = many in omega arith))

  pub names-exactly : ((name_rows bytes ats lens [] no_tables).refusal ≡ 0) ↔ NamesFit bytes ats lens
  unfolding no_tables check_names
  names-exactly = (
    λ z. names-fit (names-checked bytes ats lens (sym e) z),
    λ w. names-agree bytes ats lens [] no_tables ∙ sym (rw (eq-eqb (length ats) (length lens) (sym e))) ∙ names.accepted bytes ats lens (fit-names w),
  )

-- ---- the table

module _ (g : Given) (aligned : Aligned g) where
  named : Outcome
  named = name_rows g.names g.name_at g.name_len [] no_tables

  start : State
  start = record { tables = named.tables; keys = []; marks = no_marks }

  records : Ran
  records = record_rows g.parents g.rec_flags g.rec_class g.rec_at g.rec_len start

  sound : Sound start
  unfolding start named
  sound = names-good g.names g.name_at g.name_len no_marks refl

  both-taken : ((table g).refusal ≡ 0) ↔ ((named.refusal ≡ 0) × (records.refusal ≡ 0))
  unfolding table table_of named records start
  both-taken = (λ z. to (eqb named.refusal 0) refl z, λ w. rw w.0 w.1)
    where
      to : (b : Bool) → eqb named.refusal 0 ≡ b → (cond {A = Ran} b records (record { refusal = named.refusal; state = start })).refusal ≡ 0 → (named.refusal ≡ 0) × (records.refusal ≡ 0)
      to true q r = (eqb-true named.refusal 0 q, r)
      to false q r = absurd (eqb-false named.refusal 0 q r)

  many-names : named.refusal ≡ 0 → start.tables.names ≡ length (rows_in g).names
  unfolding start named rows_in no_tables
  many-names z =
      names-counted g.names g.name_at g.name_len [] no_tables (sym aligned.lengths-as) z
      ∙ (let k : 0 + length g.name_at ≡ length g.name_at = omega arith in k) ∙ sym (names-length g.names g.name_at g.name_len (sym aligned.lengths-as))

  all-taken : (table g).refusal ≡ 0 → TakenAll start g.parents g.rec_flags g.rec_class g.rec_at g.rec_len records.state
  unfolding records
  all-taken z = records-fit g.parents g.rec_flags g.rec_class g.rec_at g.rec_len start sound aligned.classes-as aligned.starts-as aligned.sizes-as (both-taken.0 z).1

  -- A TABLE IS TAKEN EXACTLY IF EACH ROW LIES INSIDE ITS SLICE AND THE ROWS ARE WITHIN THE LIMITS
  pub table-exactly : ((table g).refusal ≡ 0) ↔ (Placed g × InLimits (rows_in g))
  unfolding rows_in start named records
  table-exactly = (to, from)
    where
      good-rows : (z : (table g).refusal ≡ 0) (r : Record) → Memᴰ r (rows_in g).records → GoodRow (length (rows_in g).names) r
      good-rows z r m = subst (λ (k : ℕ). GoodRow k r) (many-names (both-taken.0 z).0) ((all-taken z).fit.good r m)

      to : (table g).refusal ≡ 0 → Placed g × InLimits (rows_in g)
      to z =
          let t = both-taken.0 z in
          let n = (names-exactly g.names g.name_at g.name_len aligned.lengths-as).0 t.0 in
          let f = (all-taken z).fit in (
            record { names-in = n.placed; parents-in = f.placed },
            record {
              few-names = n.few;
              few-bytes = n.short;
              names-good = n.good;
              rising = n.rising;
              rows-good = good-rows z;
              few-pairs = let c = pairs-counted (length (rows_in g).names) (rows_in g).records n.few (good-rows z) in let k = f.room in omega arith;
            },
          )

      from : Placed g × InLimits (rows_in g) → (table g).refusal ≡ 0
      from w =
          let l = w.1 in
          let z = (names-exactly g.names g.name_at g.name_len aligned.lengths-as).1
          (record { placed = w.0.names-in; few = l.few-names; short = l.few-bytes; good = l.names-good; rising = l.rising }) in
          both-taken.1 (
            z,
            fit-taken g.parents g.rec_flags g.rec_class g.rec_at g.rec_len start sound (record {
              placed = w.0.parents-in;
              good = λ r m. subst (λ (k : ℕ). GoodRow k r) (sym (many-names z)) (l.rows-good r m);
              room = let c = pairs-counted (length (rows_in g).names) (rows_in g).records l.few-names l.rows-good in let k = l.few-pairs in omega arith;
            }),
          )

  -- and then it keeps as many keys as the rows list different pairs
  pub keys-counted : (table g).refusal ≡ 0 → length (table g).state.keys ≡ different (pairs_of (rows_in g).records)
  unfolding table table_of named records start rows_in
  keys-counted z =
      let l = (table-exactly.0 z).1 in
      ap (λ (k : ℕ). length (cond {A = Ran} (eqb k 0) records (record { refusal = named.refusal; state = start })).state.keys) (both-taken.0 z).0
      ∙ ap length (all-taken z).keys-are ∙ pairs-counted (length (rows_in g).names) (rows_in g).records l.few-names l.rows-good

-- ---- Object

index-next : (wanted : List ℕ) (ns : List (List ℕ)) (i : ℕ) → next (place_of wanted ns) ≡ some i → (j : ℕ) × (place_of wanted ns ≡ some j) × (i ≡ suc j)
index-next wanted ns i e = go (place_of wanted ns) refl e
  where
    go : (o : Option ℕ) → place_of wanted ns ≡ o → next o ≡ some i → (j : ℕ) × (place_of wanted ns ≡ some j) × (i ≡ suc j)
    go none q f = absurd (let z : ◌≡◌ {A = ℕ} 0 1 = cc in omega arith)
    go (some j) q f = (j, q, let k : i ≡ suc j = cc in k)

-- the name at its place is the wanted one
pub index-name : (wanted : List ℕ) (ns : List (List ℕ)) (i : ℕ) → place_of wanted ns ≡ some i → (i < length ns) × (get_or ns i [] ≡ wanted)
unfolding place_of
index-name wanted [] i e = absurd (let z : ◌≡◌ {A = ℕ} 0 1 = cc in omega arith)
index-name wanted (n ∷ ns) i e = go (compare_lists n wanted) refl e (index-name wanted ns)
  where
    go : (o : Ordering) → compare_lists n wanted ≡ o → cond (is_equal o) (some 0) (next (place_of wanted ns)) ≡ some i
        → ((j : ℕ) → place_of wanted ns ≡ some j → (j < length ns) × (get_or ns j [] ≡ wanted)) → (i < suc (length ns)) × (get_or (n ∷ ns) i [] ≡ wanted)
    go Equal q f ih = let z : 0 ≡ i = cc in subst (λ (k : ℕ). (k < suc (length ns)) × (get_or (n ∷ ns) k [] ≡ wanted)) z (omega arith, lists-equal n wanted q)
    go Less q f ih = let w = index-next wanted ns i f in subst (λ (k : ℕ). (k < suc (length ns)) × (get_or (n ∷ ns) k [] ≡ wanted)) (sym w.2) (let r = ih w.0 w.1 in (omega (arith, r.0), r.1))
    go Greater q f ih = let w = index-next wanted ns i f in subst (λ (k : ℕ). (k < suc (length ns)) × (get_or (n ∷ ns) k [] ≡ wanted)) (sym w.2) (let r = ih w.0 w.1 in (omega (arith, r.0), r.1))

get-member : (ns : List (List ℕ)) (i : ℕ) → i < length ns → Memᴰ (get_or ns i []) ns
get-member [] i h = absurd (omega arith)
get-member (n ∷ ns) zero h = Memᴰ.head refl
get-member (n ∷ ns) (suc i) h = Memᴰ.tail (get-member ns i (omega arith))

index-has : (wanted : List ℕ) (ns : List (List ℕ)) → Memᴰ wanted ns → (i : ℕ) × (place_of wanted ns ≡ some i)
unfolding place_of
index-has wanted [] m = absurd (Memᴰ.not-nil m)
index-has wanted (n ∷ ns) m = go (compare_lists n wanted) refl (Memᴰ.cases_cons m) (index-has wanted ns)
  where
    later : (wanted ≡ n) ⊎ Memᴰ wanted ns → (compare_lists n wanted ≡ Equal → ⊥) → (Memᴰ wanted ns → (i : ℕ) × (place_of wanted ns ≡ some i)) → (i : ℕ) × (next (place_of wanted ns) ≡ some i)
    later (inl e) d ih = absurd (d (ap (compare_lists n) e ∙ lists-same n))
    later (inr k) d ih = let w = ih k in (suc w.0, ap next w.1)

    go : (o : Ordering) → compare_lists n wanted ≡ o → (wanted ≡ n) ⊎ Memᴰ wanted ns → (Memᴰ wanted ns → (i : ℕ) × (place_of wanted ns ≡ some i))
        → (i : ℕ) × (cond (is_equal o) (some 0) (next (place_of wanted ns)) ≡ some i)
    go Equal q w ih = (0, refl)
    go Less q w ih = later w (λ e. let f : Less ≡ Equal = sym q ∙ e in let z : ◌≡◌ {A = ℕ} 0 1 = cc in omega arith) ih
    go Greater q w ih = later w (λ e. let f : Greater ≡ Equal = sym q ∙ e in let z : ◌≡◌ {A = ℕ} 0 1 = cc in omega arith) ih

-- A NAME IS FOUND EXACTLY IF IT IS THERE
pub index-exactly : (wanted : List ℕ) (ns : List (List ℕ)) → Memᴰ wanted ns ↔ ((i : ℕ) × (place_of wanted ns ≡ some i))
index-exactly wanted ns =
    (index-has wanted ns, λ w. let r = index-name wanted ns w.0 w.1 in subst (λ (n : List ℕ). Memᴰ n ns) r.1 (get-member ns w.0 r.0))

-- within the limits no two names are the same, so a name's number is the one place where its bytes stand
module _ (t : Rows) (l : InLimits t) where
  names-below : (i j : ℕ) → i < j → j < length t.names → compare_lists (get_or t.names i []) (get_or t.names j []) ≡ Less
  names-below i zero h k = absurd (omega arith)
  names-below i (suc j) h k =
      ⊎_elim
      (λ e. ap (λ (m : ℕ). compare_lists (get_or t.names m []) (get_or t.names (suc j) [])) e ∙ l.rising j k)
      (λ m. lists-trans (get_or t.names i []) (get_or t.names j []) (get_or t.names (suc j) []) (names-below i j m (omega arith)) (l.rising j k))
      (eq-or-lt_of_le (let m : i ≤ j = omega arith in m))

  place-only : (i j : ℕ) → i < length t.names → j < length t.names → get_or t.names i [] ≡ get_or t.names j [] → i ≡ j
  place-only i j h k e = go (dec_lt i j) (dec_lt j i)
    where
      differ : (n : List ℕ) → compare_lists n n ≡ Less → ⊥
      differ n q = let f : Equal ≡ Less = sym (lists-same n) ∙ q in let z : ◌≡◌ {A = ℕ} 0 1 = cc in omega arith

      go : Dec (i < j) → Dec (j < i) → i ≡ j
      go (yes m) o = absurd (differ (get_or t.names i []) (ap (compare_lists (get_or t.names i [])) e ∙ names-below i j m k))
      go (no n) (yes m) = absurd (differ (get_or t.names j []) (ap (compare_lists (get_or t.names j [])) (sym e) ∙ names-below j i m h))
      go (no n) (no m) = omega arith

  -- THE NUMBER OF A NAME IS THE PLACE WHERE IT STANDS
  pub name-exactly : (wanted : List ℕ) (i : ℕ) → (place_of wanted t.names ≡ some i) ↔ ((i < length t.names) × (get_or t.names i [] ≡ wanted))
  name-exactly wanted i = (
    index-name wanted t.names i,
    λ w. let j = index-has wanted t.names (subst (λ (n : List ℕ). Memᴰ n t.names) w.1 (get-member t.names i w.0)) in
        let r = index-name wanted t.names j.0 j.1 in
        j.1 ∙ ap some (place-only j.0 i r.0 w.0 (r.1 ∙ sym w.1)),
  )

-- ROWS IN THE DOMAIN HAVE A GOOD VIEW: what all laws of classes and types ask
pub domain-good : (t : Rows) → InDomain t → Good (rows_view t)
unfolding rows_view number_of
domain-good t d = record {
  few = d.limits.few-names;
  object-in = let w = index-has object_name t.names d.object-named in let r = index-name object_name t.names w.0 w.1 in let e = ap number_of w.1 in bound w.0 e r.0;
  parents-in = λ c p h m. let w = (parents-exactly t c p).0 m in (d.limits.rows-good w.0 w.1).parents-in p w.3;
}
  where
    bound : (i : ℕ) → number_of (place_of object_name t.names) ≡ number_of (some i) → i < length t.names → number_of (place_of object_name t.names) < length t.names
    bound i e l = omega arith

-- OBJECT'S NUMBER IS NOT ALL ONES EXACTLY IF ITS NAME IS THERE
pub object-there : (t : Rows) → length t.names ≤ 1024 → ((rows_view t).object ≡ 2 ^ 64 - 1 → ⊥) ↔ Memᴰ object_name t.names
unfolding rows_view number_of
object-there t few = (λ n. to (place_of object_name t.names) refl n, from)
  where
    to : (o : Option ℕ) → place_of object_name t.names ≡ o → (number_of (place_of object_name t.names) ≡ 2 ^ 64 - 1 → ⊥) → Memᴰ object_name t.names
    to none q n = absurd (n (ap number_of q))
    to (some i) q n = (index-exactly object_name t.names).1 (i, q)

    from : Memᴰ object_name t.names → number_of (place_of object_name t.names) ≡ 2 ^ 64 - 1 → ⊥
    from m f =
        let w = (index-exactly object_name t.names).0 m in
        let r = (index-name object_name t.names w.0 w.1).0 in
        let k : number_of (place_of object_name t.names) ≡ w.0 = ap number_of w.1 in
        omega arith

-- ---- plain rows as columns

places-in : (n : ℕ) (xs : List (List ℕ)) (i : ℕ) → i < length (places_from n xs) → get_or (places_from n xs) i 0 + get_or (sizes_of xs) i 0 ≤ n + length (joined xs)
unfolding places_from sizes_of joined
places-in n [] i h = absurd (omega arith)
places-in n (x ∷ xs) zero h = let a = length-append x (joined xs) in omega arith
places-in n (x ∷ xs) (suc i) h = let a = length-append x (joined xs) in let k = places-in (n + length x) xs i (omega arith) in omega arith

module _ (t : Rows) where
  pub rows-aligned : Aligned (columns_of t)
  rows-aligned = (even-exactly (columns_of t)).0 (columns-even t)

  pub rows-placed : Placed (columns_of t)
  unfolding columns_of
  rows-placed = record {
    names-in = λ i h. let k = places-in 0 t.names i h in omega arith;
    parents-in = λ i h. let e = rows-aligned.starts-as in let k = places-in 0 (parent_lists t.records) i (omega arith) in omega arith;
  }

  -- EVERY TABLE WITHIN THE LIMITS, WRITTEN AS COLUMNS, IS TAKEN
  pub rows-taken : InLimits t → (table (columns_of t)).refusal ≡ 0
  rows-taken l = (table-exactly (columns_of t) rows-aligned).1 (rows-placed, subst InLimits (sym (rows-back t)) l)
