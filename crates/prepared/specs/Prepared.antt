-- KEYS WITH ROWS BEHIND THEM. A slice of 20,480 words has the keys of a class table in its first 4,096 words and rows in the others; it is ready
-- if every row that is there is what its class reaches. A slice of another length has no row, and is ready as it is.
use Rattle.std.specs.Prelude.{◌≡◌, refl, Bool, true, false, ◌&&◌, ℕ, ◌+◌, ◌-◌, ◌≤◌, ◌<◌, eqb, leb, ltb, length, get_or, replicate}
use Rattle.std.proofs.Math.Path.{sym, ap}
use Rattle.std.proofs.Common.{◌∙◌, subst, true≢false, arith, length-take, length-append, take_all, drop-drop, drop_at, get_or-take, get_or-drop, ext_get_or, length-take-le}
use Rattle.std.proofs.lemmas.Bool.{false≢true}
use mathlib.Core.List.{List, [], ◌++◌, append-nil}
use Rattle.std.proofs.Math.ListN.{take, drop, length-drop, length-replicate, drop_of_length-le}
use Rattle.std.proofs.lemmas.List.{get_or-replicate}
use Rattle.std.proofs.Math.Seq.{paste}
use Rattle.std.proofs.lemmas.List.Edits.{take-paste, drop-paste, length-paste}
use borrow.Author.Tests.{eqb-true, leb-true, ltb-true, ne_eqb, eq-eqb, le-leb, lt-leb, lt-ltb, le-ltb}
use borrow.Rule.Slice.PartMut.{put_mid, same_len_mid}
use Rattle.sets.specs.Sets.{MembersBelow, member}
use Rattle.sets.specs.Laws.{member-empty}
use Rattle.view.specs.View.{View, reached, reach}
use Rattle.view.specs.Reach.{Good, reach-below, reach-trans}
use Rattle.tables.specs.declared.Tables.{Tables}
use Rattle.tables.specs.Table.{names_room, pairs_room, marks_room, parents_of, mark, view_of}
use Rattle.ancestry.specs.Rows.{rows_room, row}
use Rattle.ancestry.specs.Spread.{Spread, spread-unique}
use Rattle.ancestry.specs.Closure.{Rows, rows-unique}

abbrev pub table_room : ℕ
table_room = 20480

-- the rows of such a slice
abbrev pub rows_in : List ℕ → List ℕ
rows_in pairs = take rows_room (drop pairs_room pairs)

-- whether class c has a row: a row that was made has its own class
unfoldable pub has_row : List ℕ → Tables → ℕ → Bool
has_row pairs t c = eqb (length pairs) table_room && (leb t.pairs pairs_room && (ltb c names_room && member (row (rows_in pairs) c) c))

-- the marks are whole, and a row is what its class reaches
pub record Prepared (pairs marks : List ℕ) (t : Tables) : Type 0 where
  pub long : length marks ≡ marks_room
  pub rows : (c : ℕ) → has_row pairs t c ≡ true → row (rows_in pairs) c ≡ reached (view_of pairs marks t) c

-- ---- the test, case by case

module _ (pairs : List ℕ) (t : Tables) (c : ℕ) where
  pub row-asked : length pairs ≡ table_room → t.pairs ≤ pairs_room → c < names_room → has_row pairs t c ≡ member (row (rows_in pairs) c) c
  unfolding has_row
  row-asked l p h = rw (eq-eqb (length pairs) table_room l, le-leb t.pairs pairs_room p, lt-ltb c names_room h)

  pub row-past : length pairs ≡ table_room → t.pairs ≤ pairs_room → names_room ≤ c → has_row pairs t c ≡ false
  unfolding has_row
  row-past l p h = rw (eq-eqb (length pairs) table_room l, le-leb t.pairs pairs_room p, le-ltb c names_room h)

  pub row-many : length pairs ≡ table_room → pairs_room < t.pairs → has_row pairs t c ≡ false
  unfolding has_row
  row-many l p = rw (eq-eqb (length pairs) table_room l, lt-leb t.pairs pairs_room p)

  pub row-none : (length pairs ≡ table_room → ⊥) → has_row pairs t c ≡ false
  unfolding has_row
  row-none l = rw (ne_eqb (length pairs) table_room l)

  and-both : (a b : Bool) → (a && b) ≡ true → (a ≡ true) × (b ≡ true)
  and-both true b h = (refl, h)
  and-both false b h = absurd (false≢true h)

  pub row-there : has_row pairs t c ≡ true → (length pairs ≡ table_room) × (t.pairs ≤ pairs_room) × (c < names_room) × (member (row (rows_in pairs) c) c ≡ true)
  unfolding has_row
  row-there h =
      let a = and-both (eqb (length pairs) table_room) (leb t.pairs pairs_room && (ltb c names_room && member (row (rows_in pairs) c) c)) h in
      let b = and-both (leb t.pairs pairs_room) (ltb c names_room && member (row (rows_in pairs) c) c) a.1 in
      let d = and-both (ltb c names_room) (member (row (rows_in pairs) c) c) b.1 in
      (eqb-true (length pairs) table_room a.0, leb-true t.pairs pairs_room b.0, ltb-true c names_room d.0, d.1)

-- A SLICE OF ANOTHER LENGTH, or of more keys, is ready
pub plain-prepared : (pairs marks : List ℕ) (t : Tables) → length marks ≡ marks_room → (length pairs ≡ table_room → t.pairs ≤ pairs_room → ⊥) → Prepared pairs marks t
plain-prepared pairs marks t l n = record {
  long = l;
  rows = λ c h. let w = row-there pairs t c h in absurd (n w.0 w.1);
}

pub rows-length : (pairs : List ℕ) → length pairs ≡ table_room → length (rows_in pairs) ≡ rows_room
rows-length pairs l = let a = length-take rows_room (drop pairs_room pairs) in let b = length-drop pairs_room pairs in omega arith

-- a row that is there tells what is reached
module _ (pairs marks : List ℕ) (t : Tables) (y : Prepared pairs marks t) (c : ℕ) (h : has_row pairs t c ≡ true) (w : List ℕ) (e : w ≡ row (rows_in pairs) c) where
  pub row-is : w ≡ reached (view_of pairs marks t) c
  row-is = e ∙ y.rows c h

  pub row-tells : (d : ℕ) (b : Bool) → b ≡ member w d → reach (view_of pairs marks t) c d ≡ b
  unfolding reach
  row-tells d b q = sym (q ∙ ap (λ (x : List ℕ). member x d) row-is)

-- ---- a prepared slice

-- WHAT `prepare` LEAVES: the first n keys at the front of zeros, and behind the rows of all classes that are reached from a set
pub record Laid (v : View) (s : List ℕ) (n : ℕ) (pairs table : List ℕ) : Type 0 where
  pub above : List ℕ
  pub spread : Spread v s above
  pub rows : List ℕ
  pub are : Rows v above rows
  pub is : table ≡ paste (put_mid pairs_room rows_room (replicate table_room 0) rows) 0 pairs n

pub laid-unique : (v : View) (s : List ℕ) (n : ℕ) (pairs a b : List ℕ) → Laid v s n pairs a → Laid v s n pairs b → a ≡ b
laid-unique v s n pairs a b p q =
    p.is
    ∙ ap (λ (r : List ℕ). paste (put_mid pairs_room rows_room (replicate table_room 0) r) 0 pairs n)
    (rows-unique v p.above p.rows q.rows p.are (subst (λ (x : List ℕ). Rows v x q.rows) (spread-unique v s q.above p.above q.spread p.spread) q.are))
    ∙ sym q.is

-- what is reached from classes of the table are classes of it, and has all above
module _ (v : View) (g : Good v) (s above : List ℕ) (inside : MembersBelow v.names s) (sp : Spread v s above) where
  pub above-inside : MembersBelow v.names above
  above-inside c m = let w = sp.only c m in reach-below v g w.0 (inside w.0 w.1) c w.2

  pub above-closed : (d e : ℕ) → member above d ≡ true → reach v d e ≡ true → member above e ≡ true
  above-closed d e m r = let w = sp.only d m in sp.has w.0 e w.1 (reach-trans v g w.0 d e (inside w.0 w.1) w.2 r)

-- ---- the empty slice that it begins with

pub zeros-length-of : (table : List ℕ) → table ≡ replicate table_room 0 → length table ≡ table_room
zeros-length-of table e = ap length e ∙ length-replicate {A = ℕ} table_room 0

pub part-zero : (table : List ℕ) → table ≡ replicate table_room 0 → rows_in table ≡ replicate rows_room 0
part-zero table e =
    ext_get_or 0 (rows_in table) (replicate rows_room 0) (rows-length table (zeros-length-of table e) ∙ sym (length-replicate {A = ℕ} rows_room 0))
    (λ i h.
    let l = rows-length table (zeros-length-of table e) in
    get_or-take rows_room (drop pairs_room table) i 0 (omega arith) ∙ get_or-drop pairs_room table i 0 ∙ ap (λ (x : List ℕ). get_or x (pairs_room + i) 0) e
    ∙ get_or-replicate table_room (pairs_room + i) 0 0 (omega arith) ∙ sym (get_or-replicate rows_room i 0 0 (omega arith)))

pub put-length : (table rows : List ℕ) → table ≡ replicate table_room 0 → length rows ≡ rows_room → length (put_mid pairs_room rows_room table rows) ≡ table_room
put-length table rows e l =
    same_len_mid pairs_room rows_room table rows (l ∙ sym (rows-length table (zeros-length-of table e))) ∙ zeros-length-of table e

module _ (pairs marks : List ℕ) (t : Tables) (s table : List ℕ) (p : Laid (view_of pairs marks t) s t.pairs pairs table) (few : t.pairs ≤ pairs_room) (there : t.pairs ≤ length pairs) where
  zeros : List ℕ
  zeros = replicate table_room 0

  zeros-length : length zeros ≡ table_room
  unfolding zeros
  zeros-length = length-replicate {A = ℕ} table_room 0

  behind : List ℕ
  behind = put_mid pairs_room rows_room zeros p.rows

  -- the first 4,096 zeros, the rows, and nothing
  behind-is : behind ≡ take pairs_room zeros ++ p.rows
  unfolding behind
  behind-is = ap (λ (l : List ℕ). take pairs_room zeros ++ l) (ap (λ (l : List ℕ). p.rows ++ l) nothing ∙ append-nil p.rows)
    where
      nothing : drop rows_room (drop pairs_room zeros) ≡ []
      nothing = drop_of_length-le (drop pairs_room zeros) {i = rows_room} (let a = length-drop pairs_room zeros in let b = zeros-length in omega arith)

  front-length : length (take pairs_room zeros) ≡ pairs_room
  front-length = length-take-le pairs_room zeros (let b = zeros-length in omega arith)

  behind-length : length behind ≡ table_room
  behind-length = ap length behind-is ∙ length-append (take pairs_room zeros) p.rows ∙ (let a = front-length in let b = p.are.size in let q : length (take pairs_room zeros) + length p.rows ≡ table_room = omega arith in q)

  table-is : table ≡ paste behind 0 pairs t.pairs
  unfolding behind zeros
  table-is = p.is

  none-more : t.pairs ≡ 0 + t.pairs
  none-more = omega arith

  pub laid-length : length table ≡ table_room
  laid-length = ap length table-is ∙ length-paste behind 0 pairs t.pairs (let a = behind-length in omega arith) there ∙ behind-length

  -- the keys are those of the slice that was prepared
  pub laid-keys : take t.pairs table ≡ take t.pairs pairs
  laid-keys =
      ap (take t.pairs) table-is ∙ ap (λ (k : ℕ). take k (paste behind 0 pairs t.pairs)) none-more
      ∙ take-paste behind 0 pairs t.pairs (omega arith) there

  -- SO IT GIVES THE SAME VIEW
  pub laid-view : view_of table marks t ≡ view_of pairs marks t
  laid-view = ap (λ (l : List ℕ). view_with l) laid-keys
    where
      view_with : List ℕ → View
      view_with l = record {
        names = t.names;
        object = t.object;
        recorded = member (mark marks 0);
        parents = parents_of t.names l;
        declared = member (mark marks 1);
        interface = member (mark marks 2);
        final = member (mark marks 3);
      }

  drop-later : (m n : ℕ) (l : List ℕ) → n ≤ m → drop m l ≡ drop (m - n) (drop n l)
  drop-later m n l h = ap (λ (k : ℕ). drop k l) (let q : m ≡ n + (m - n) = omega arith in q) ∙ sym (drop-drop (m - n) n l)

  laid-behind : drop pairs_room table ≡ drop pairs_room behind
  laid-behind =
      ap (drop pairs_room) table-is ∙ drop-later pairs_room t.pairs (paste behind 0 pairs t.pairs) few
      ∙ ap (drop (pairs_room - t.pairs))
      (ap (λ (k : ℕ). drop k (paste behind 0 pairs t.pairs)) none-more ∙ drop-paste behind 0 pairs t.pairs (omega arith) there ∙ ap (λ (k : ℕ). drop k behind) (sym none-more))
      ∙ sym (drop-later pairs_room t.pairs behind few)

  pub laid-rows : rows_in table ≡ p.rows
  laid-rows =
      ap (take rows_room) (laid-behind ∙ ap (drop pairs_room) behind-is ∙ drop_at (take pairs_room zeros) p.rows pairs_room front-length)
      ∙ take_all rows_room p.rows (let a = p.are.size in omega arith)

  -- AND IS READY
  pub laid-prepared : length marks ≡ marks_room → Prepared table marks t
  laid-prepared l = record { long = l; rows = λ c h. go c (row-there table t c h) (member p.above c) refl }
    where
      go : (c : ℕ) → (length table ≡ table_room) × (t.pairs ≤ pairs_room) × (c < names_room) × (member (row (rows_in table) c) c ≡ true) → (b : Bool) → member p.above c ≡ b
          → row (rows_in table) c ≡ reached (view_of table marks t) c
      go c w true m = ap (λ (r : List ℕ). row r c) laid-rows ∙ p.are.has c m ∙ ap (λ (v : View). reached v c) (sym laid-view)
      go c w false m = absurd (true≢false (sym w.3 ∙ ap (λ (r : List ℕ). member (row r c) c) laid-rows ∙ ap (λ (r : List ℕ). member r c) (p.are.none c w.2 m) ∙ member-empty 16 c))
