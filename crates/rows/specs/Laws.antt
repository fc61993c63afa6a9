-- Laws of the rows: what a row that is taken must be, what it makes of the tables, and that a refused one changes nothing.
use Rattle.std.specs.Prelude.{◌≡◌, Bool, not, ◌&&◌, ◌||◌, List, [], ◌∷◌, map, ℕ, zero, suc, ◌+◌, ◌/◌, ◌%◌, ◌≤◌, ◌<◌, eqb, leb, ltb, length, get_or}
use Rattle.std.proofs.Math.Path.{refl}
use Rattle.std.proofs.Common.{sym, ap, ap₂, ◌∙◌, arith}
use Rattle.std.proofs.Math.Bool.{true, false, cond}
use Rattle.std.proofs.lemmas.Bool.{false≢true}
use borrow.Author.Tests.{ne_eqb, ltb-true, ltb-false, leb-false, eqb-true, not-true, not-false}
use Rattle.order.specs.Truth.{both}
use Rattle.order.specs.Lists.{elem}
use Rattle.order.specs.Laws.{lists-same, lists-equal}
use Rattle.order.specs.Compare.{compare_lists, is_less, is_equal}
use Rattle.std.specs.declared.cmp.Ordering.{Ordering}
use Rattle.std.specs.declared.cmp.Ordering.TheVariants.{Less, Equal, Greater}
use Rattle.utf8.specs.Utf8.{well_formed}
use Rattle.sorted.specs.Sorted.{Sorted}
use Rattle.checks.specs.Checks.{check, first_refusal, quiet, free, first-is, first-none}
use Rattle.names.specs.Names.{name_checks, check_name}
use Rattle.tables.specs.declared.Tables.{Tables}
use Rattle.tables.specs.Table.{names_room, pairs_room, marks_room}
use Rattle.rows.specs.declared.Outcome.{Outcome}
use Rattle.rows.specs.Rows.{no_tables, noted, State, state_of, Ran, Fills, good_flags, all_below, key, put_all, record_checks, numbers_refusal, record_refusal, with_name, name_row, with_record, record_row, Below}
use Rattle.rows.specs.Keys.{all-sorted, all-has, all-old, all-below, take-filled}
use Rattle.rows.specs.Marks.{marks-length}

-- ---- a name

neither : (a b : Bool) → not (a || b) ≡ true → (a ≡ false) × (b ≡ false)
neither true b h = absurd (false≢true h)
neither false true h = absurd (false≢true h)
neither false false h = (refl, refl)

-- THE NUMBER OF A WANTED NAME IS NOTED, and of no other
pub noted-wanted : (wanted : List ℕ) (number known : ℕ) → noted wanted wanted number known ≡ number
unfolding noted
noted-wanted wanted number known = rw (lists-same wanted)

pub noted-other : (name wanted : List ℕ) (number known : ℕ) → (name ≡ wanted → ⊥) → noted name wanted number known ≡ known
unfolding noted
noted-other name wanted number known n = go (compare_lists name wanted) refl
  where
    go : (o : Ordering) → compare_lists name wanted ≡ o → cond (is_equal o) number known ≡ known
    go Less e = refl
    go Equal e = absurd (n (lists-equal name wanted e))
    go Greater e = refl

-- A NAME THAT IS TAKEN HAS ROOM
pub name-room : (last name : List ℕ) (count total : ℕ) → check_name last name count total ≡ 0
    → (count < 1024) × (total + length name ≤ 24576)
unfolding check_name name_checks quiet free
name-room last name count total h =
    let sized = eqb (length name) 0 || ltb 255 (length name) in
    let low = ltb 0 count && not (is_less (compare_lists last name)) in
    let full = leb 1024 count || ltb 24576 (total + length name) in
    let q = (first-none (check sized 3 ∷ check (not (well_formed name)) 10 ∷ check low 5 ∷ check full 8 ∷ []) refl).0 h in
    let a = both (not sized) (not (not (well_formed name)) && (not low && (not full && true))) q in
    let b = both (not (not (well_formed name))) (not low && (not full && true)) a.1 in
    let d = both (not low) (not full && true) b.1 in
    let f = neither (leb 1024 count) (ltb 24576 (total + length name)) (both (not full) true d.1).0 in
    (leb-false 1024 count f.0, ltb-false 24576 (total + length name) f.1)

module _ (last name : List ℕ) (t : Tables) where
  -- A REFUSED NAME CHANGES NOTHING
  pub name-refused : (k : ℕ) → k ≡ check_name last name t.names t.bytes → (k ≡ 0 → ⊥) → name_row last name t ≡ record { refusal = k; tables = t }
  unfolding name_row
  name-refused k e n = rw (← e, ne_eqb k 0 n)

  pub name-taken : check_name last name t.names t.bytes ≡ 0 → name_row last name t ≡ record { refusal = 0; tables = with_name name t }
  unfolding name_row
  name-taken e = rw e

-- ---- a record

-- what a record must be to be taken
pub record GoodRecord (names : ℕ) (keys : List ℕ) (flags class : ℕ) (parents : List ℕ) : Type 0 where
  pub short : length parents ≤ 254
  pub flags-good : good_flags flags ≡ true
  pub class-in : class < names
  pub parents-in : Below names parents
  pub room : length (put_all class parents keys) ≤ pairs_room

pub record-good : (names : ℕ) (keys : List ℕ) (flags class : ℕ) (parents : List ℕ) → record_refusal names keys flags class parents ≡ 0
    → GoodRecord names keys flags class parents
unfolding record_refusal record_checks quiet free
record-good names keys flags class parents h =
    let long = ltb 254 (length parents) in
    let inside = ltb class names && all_below names parents in
    let numbers = good_flags flags && inside in
    let full = ltb pairs_room (length (put_all class parents keys)) in
    let q = (first-none (check long 3 ∷ check (not numbers) 6 ∷ check full 8 ∷ []) refl).0 h in
    let a = both (not long) (not (not numbers) && (not full && true)) q in
    let b = both (not (not numbers)) (not full && true) a.1 in
    let n = both (good_flags flags) inside (not-false numbers (not-true (not numbers) b.0)) in
    let i = both (ltb class names) (all_below names parents) n.1 in
    record {
      short = ltb-false 254 (length parents) (not-true long a.0);
      flags-good = n.0;
      class-in = ltb-true class names i.0;
      parents-in = all-below names parents i.1;
      room = ltb-false pairs_room (length (put_all class parents keys)) (not-true full (both (not full) true b.1).0);
    }

-- THE REFUSAL IS THAT OF THE NUMBERS, else that of the room
module _ (names : ℕ) (keys : List ℕ) (flags class : ℕ) (parents : List ℕ) where
  pub numbers-first : (numbers_refusal names flags class parents ≡ 0 → ⊥) → numbers_refusal names flags class parents ≡ record_refusal names keys flags class parents
  unfolding numbers_refusal record_refusal record_checks first_refusal
  numbers-first n = go (ltb 254 (length parents)) (good_flags flags && (ltb class names && all_below names parents)) n
    where
      go : (l g : Bool) → (cond {A = ℕ} l 3 (cond g 0 6) ≡ 0 → ⊥) → cond {A = ℕ} l 3 (cond g 0 6) ≡ cond l 3 (cond (not g) 6 (cond (ltb pairs_room (length (put_all class parents keys))) 8 0))
      go true g k = refl
      go false true k = absurd (k refl)
      go false false k = refl

  pub room-last : (o : Bool) → numbers_refusal names flags class parents ≡ 0 → o ≡ ltb pairs_room (length (put_all class parents keys)) → cond {A = ℕ} o 8 0 ≡ record_refusal names keys flags class parents
  unfolding numbers_refusal record_refusal record_checks first_refusal
  room-last o z e = go (ltb 254 (length parents)) (good_flags flags && (ltb class names && all_below names parents)) z
    where
      go : (l g : Bool) → cond {A = ℕ} l 3 (cond g 0 6) ≡ 0 → cond {A = ℕ} o 8 0 ≡ cond l 3 (cond (not g) 6 (cond (ltb pairs_room (length (put_all class parents keys))) 8 0))
      go true g k = absurd (omega arith)
      go false true k = rw (← e)
      go false false k = absurd (omega arith)

-- numbers that are not refused
pub numbers-good : (names flags class : ℕ) (parents : List ℕ) → numbers_refusal names flags class parents ≡ 0 → (class < names) × Below names parents
unfolding numbers_refusal
numbers-good names flags class parents z = go (ltb 254 (length parents)) (good_flags flags) (ltb class names) refl (all_below names parents) refl z
  where
    go : (l f c : Bool) → ltb class names ≡ c → (p : Bool) → all_below names parents ≡ p → cond {A = ℕ} l 3 (cond (f && (c && p)) 0 6) ≡ 0 → (class < names) × Below names parents
    go true f c e p q k = absurd (omega arith)
    go false true true e true q k = (ltb-true class names e, all-below names parents q)
    go false true true e false q k = absurd (omega arith)
    go false true false e p q k = absurd (omega arith)
    go false false c e p q k = absurd (omega arith)

-- 8 COMES BACK ONLY WHERE MORE THAN 4,096 PAIRS WOULD STAND
pub record-full : (names : ℕ) (keys : List ℕ) (flags class : ℕ) (parents : List ℕ) → record_refusal names keys flags class parents ≡ 8
    → pairs_room < length (put_all class parents keys)
unfolding record_refusal record_checks free
record-full names keys flags class parents h =
    let long = check (ltb 254 (length parents)) 3 in
    let numbers = check (not (good_flags flags && (ltb class names && all_below names parents))) 6 in
    let full = ltb pairs_room (length (put_all class parents keys)) in
    ltb-true pairs_room (length (put_all class parents keys)) ((first-is (long ∷ numbers ∷ []) full 8 [] (λ e. omega arith) refl refl).0 h).0

-- A RECORD WHOSE PAIRS ARE ALL THERE is never refused 8
pub present-fits : (names : ℕ) (keys : List ℕ) (flags class : ℕ) (parents : List ℕ) → length keys ≤ pairs_room
    → ((i : ℕ) → i < length parents → elem (key class (get_or parents i 0)) keys ≡ true) → record_refusal names keys flags class parents ≡ 8 → ⊥
present-fits names keys flags class parents r h e = omega (arith, record-full names keys flags class parents e, ap length (all-old class parents keys h))

module _ (s : State) (flags class : ℕ) (parents : List ℕ) where
  -- A REFUSED RECORD CHANGES NOTHING
  pub record-refused : (record_refusal s.tables.names s.keys flags class parents ≡ 0 → ⊥) → record_row s flags class parents ≡ s
  unfolding record_row
  record-refused n = rw (ne_eqb (record_refusal s.tables.names s.keys flags class parents) 0 n)

  pub record-taken : record_refusal s.tables.names s.keys flags class parents ≡ 0 → record_row s flags class parents ≡ with_record s flags class parents
  unfolding record_row
  record-taken e = rw e

-- ---- what every state is that rows have made

pub record Sound (s : State) : Type 0 where
  pub few : s.tables.names ≤ names_room
  pub short : s.tables.bytes ≤ 24576
  -- sorted, so without repeats
  pub ordered : Sorted s.keys
  pub counted : s.tables.pairs ≡ length s.keys
  pub room : length s.keys ≤ pairs_room
  -- both classes of a pair are in the table
  pub classes : (z : ℕ) → elem z s.keys ≡ true → (z / names_room < s.tables.names) × (z % names_room < s.tables.names)
  pub wide : length s.marks ≡ marks_room

-- IT IS SO AT THE START
pub good-start : (marks : List ℕ) → length marks ≡ marks_room → Sound (record { tables = no_tables; keys = []; marks = marks })
unfolding no_tables elem
good-start marks w = record {
  few = omega arith;
  short = omega arith;
  ordered = tt;
  counted = refl;
  room = omega arith;
  classes = λ z e. absurd (false≢true e);
  wide = w;
}

-- AND STAYS SO after a name
pub good-name : (last name : List ℕ) (s : State) → Sound s
    → Sound (record { tables = (name_row last name s.tables).tables; keys = s.keys; marks = s.marks })
unfolding with_name
good-name last name s g = go (check_name last name s.tables.names s.tables.bytes) refl
  where
    go : (k : ℕ) → check_name last name s.tables.names s.tables.bytes ≡ k
        → Sound (record { tables = (name_row last name s.tables).tables; keys = s.keys; marks = s.marks })
    go zero e =
        let r = name-room last name s.tables.names s.tables.bytes e in
        rw (name-taken last name s.tables e) (record {
          few = omega arith;
          short = r.1;
          ordered = g.ordered;
          counted = g.counted;
          room = g.room;
          classes = λ z m. let c = g.classes z m in (omega arith, omega arith);
          wide = g.wide;
        })
    go (suc k) e = rw (name-refused last name s.tables (suc k) (sym e) (λ z. omega arith)) g

-- a key of the parents of c
pub keys-of : (c n : ℕ) (ps : List ℕ) (z : ℕ) → c < n → n ≤ names_room → Below n ps → elem z (map (key c) ps) ≡ true → (z / names_room < n) × (z % names_room < n)
unfolding elem
keys-of c n [] z h w b e = absurd (false≢true e)
keys-of c n (p ∷ ps) z h w b e = go (eqb (key c p) z) refl e (keys-of c n ps z h w (λ i l. b (suc i) (omega arith)))
  where
    go : (t : Bool) → eqb (key c p) z ≡ t → (t || elem z (map (key c) ps)) ≡ true
        → (elem z (map (key c) ps) ≡ true → (z / names_room < n) × (z % names_room < n)) → (z / names_room < n) × (z % names_room < n)
    go true q f ih = let r = eqb-true (key c p) z q in let l = b 0 (omega arith) in (omega arith, omega arith)
    go false q f ih = ih f

-- AND after a record
pub good-record : (s : State) (flags class : ℕ) (parents : List ℕ) → Sound s → Sound (record_row s flags class parents)
unfolding with_record
good-record s flags class parents g = go (record_refusal s.tables.names s.keys flags class parents) refl
  where
    names : ℕ
    names = s.tables.names

    either : GoodRecord names s.keys flags class parents → (z : ℕ) (t : Bool) → elem z (map (key class) parents) ≡ t → (t || elem z s.keys) ≡ true
        → (z / names_room < names) × (z % names_room < names)
    either r z true q f = keys-of class names parents z r.class-in g.few r.parents-in q
    either r z false q f = g.classes z f

    go : (k : ℕ) → record_refusal names s.keys flags class parents ≡ k → Sound (record_row s flags class parents)
    go zero e =
        let r = record-good names s.keys flags class parents e in
        rw (record-taken s flags class parents e) (record {
          few = g.few;
          short = g.short;
          ordered = all-sorted class parents s.keys g.ordered;
          counted = refl;
          room = r.room;
          classes = λ z m. either r z (elem z (map (key class) parents)) refl (sym (all-has class z parents s.keys) ∙ m);
          wide = marks-length flags class s.marks ∙ g.wide;
        })
    go (suc k) e = rw (record-refused s flags class parents (λ z. omega arith)) g

-- ---- rows in the slices

-- WHAT THE SLICES HOLD IS THE STATE, where its keys are counted
pub fills-state : (after : Ran) (pairs pairs' marks' : List ℕ) (r : Outcome) → Fills after pairs pairs' marks' r → after.state.tables.pairs ≡ length after.state.keys
    → state_of pairs' marks' r.tables ≡ after.state
fills-state after pairs pairs' marks' r f n =
    let s = after.state in
    ap (λ (o : Outcome). state_of pairs' marks' o.tables) f.outcome-is
    ∙ ap₂ (λ (p m : List ℕ). state_of p m s.tables) f.pairs-are f.marks-are
    ∙ ap (λ (k : List ℕ). record { tables = s.tables; keys = k; marks = s.marks }) (take-filled s.keys pairs s.tables.pairs n)
