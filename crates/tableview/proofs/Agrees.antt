-- THE TABLE OF COLUMNS HAS THE VIEW AND THE WORLD OF ITS ROWS, wherever it is taken.
use Rattle.std.specs.Prelude.{◌≡◌, Bool, cond, ◌||◌, ◌↔◌, ℕ, zero, suc, ◌+◌, ◌-◌, ◌*◌, ◌/◌, ◌%◌, ◌^◌, ◌≤◌, ◌<◌, eqb, ltb, take, drop, get_or}
use Rattle.std.proofs.Math.Path.{refl, sym, ap}
use Rattle.std.proofs.Common.{◌∙◌, subst, true≢false, ⊎_elim, take_all, ne_eqb, eqb-true}
use Rattle.std.proofs.Math.Bool.{true, false, or-false}
use Rattle.std.proofs.lemmas.Bool.{false≢true, eqb-false}
use mathlib.Core.List.Memᴰ
use mathlib.Core.List.{List, [], ◌∷◌, Memᴰ}
use Rattle.std.proofs.Math.Option.{Option, some, none}
use native.Mathlib.Omega.{arith}
use Rattle.std.proofs.Math.Decide.{dec_lt}
use Rattle.std.proofs.Math.ListN.{length}
use Rattle.order.specs.Laws.{lists-same, lists-equal}
use Rattle.order.specs.Compare.{compare_lists, is_equal}
use Rattle.order.specs.Lists.{elem}
use Rattle.order.specs.Truth.{implied-both}
use Rattle.sets.specs.Sets.{member}
use Rattle.sets.specs.Laws.{member-past, member-empty}
use Rattle.sorted.specs.Sorted.{Above, Sorted, place}
use Rattle.sorted.specs.Laws.{above-sorted, put-sorted, elem-put, same-members}
use Rattle.sorted.specs.Parts.{sorted-drop}
use Rattle.std.specs.declared.cmp.Ordering.{Ordering}
use Rattle.std.specs.declared.cmp.Ordering.TheVariants.{Less, Equal, Greater}
use Rattle.names.specs.Names.{name_of, name_at, next}
use Rattle.names.specs.Table.{number-of-name}
use Rattle.view.specs.View.{number_of}
use Rattle.tables.specs.Table.{parents_in, mark, mark-length, own_run, keys_from, own-get, own-sorted, parents_of as key_parents, parents-below, parents-entry}
use Rattle.lattice.specs.World.{present, world_with}
use Rattle.rows.specs.declared.Outcome.{Outcome}
use Rattle.rows.specs.Rows.{object_name, cloneable_name, serializable_name, no_tables, State, key, is_marked, Ran}
use Rattle.rows.specs.Marks.{mark-set}
use Rattle.rows.specs.Laws.{Sound}
use Rattle.columns.specs.Columns.{name_rows, record_rows, table_of}
use Rattle.columns.specs.Laws.{names-good}
use Rattle.columns.specs.Names.{names-checked, names-counted, noted_in, names-noted, noted-none, noted-one}
use Rattle.columns.specs.Given.{Given, even, no_marks, table}
use Rattle.columns.specs.GivenLaws.{even-is, good-in}
use Rattle.tableview.specs.TableRows.{Record, is_recorded, listed_parents, set_of, last_declared, fact_from, any_flags, interface_flag, final_flag, place_of, rows_view, rows_world, names_of, records_of, rows_in}
use Rattle.tableview.specs.Inner.{state_view, state_world, view_in, world_in}
use Rattle.tableview.specs.Taken.{After}
use Rattle.tableview.proofs.Taken.{records-after}

-- ---- names

pub names-length : (bytes ats lens : List ℕ) → length ats ≡ length lens → length (names_of bytes ats lens) ≡ length ats
unfolding names_of
names-length bytes [] lens e = refl
names-length bytes (at ∷ ats) [] e = absurd (omega arith)
names-length bytes (at ∷ ats) (len ∷ lens) e = ap suc (names-length bytes ats lens (omega arith))

-- the place of a wanted name: its bytes stand there; none: nowhere
StandsAt : List ℕ → List ℕ → List ℕ → List ℕ → Option ℕ → Type 0
StandsAt wanted bytes ats lens none = (i : ℕ) → i < length ats → name_at bytes ats lens i ≡ wanted → ⊥
StandsAt wanted bytes ats lens (some i) = (i < length ats) × (name_at bytes ats lens i ≡ wanted)

placed-next : (wanted bytes : List ℕ) (at len : ℕ) (ats lens : List ℕ) (o : Option ℕ) → (name_of bytes at len ≡ wanted → ⊥)
    → StandsAt wanted bytes ats lens o → StandsAt wanted bytes (at ∷ ats) (len ∷ lens) (next o)
unfolding StandsAt
placed-next wanted bytes at len ats lens none n p = elim [ zero ↦ λ h e. n e | suc i ↦ λ h e. p i (omega arith) e ]
placed-next wanted bytes at len ats lens (some i) n p = (omega (arith, p.0), p.1)

index-placed : (wanted bytes ats lens : List ℕ) → length ats ≡ length lens → StandsAt wanted bytes ats lens (place_of wanted (names_of bytes ats lens))
unfolding names_of place_of StandsAt
index-placed wanted bytes [] lens e = λ i h. absurd (omega arith)
index-placed wanted bytes (at ∷ ats) [] e = absurd (omega arith)
index-placed wanted bytes (at ∷ ats) (len ∷ lens) e = go (compare_lists (name_of bytes at len) wanted) refl (index-placed wanted bytes ats lens (omega arith))
  where
    go : (o : Ordering) → compare_lists (name_of bytes at len) wanted ≡ o → StandsAt wanted bytes ats lens (place_of wanted (names_of bytes ats lens))
        → StandsAt wanted bytes (at ∷ ats) (len ∷ lens) (cond (is_equal o) (some 0) (next (place_of wanted (names_of bytes ats lens))))
    go Equal q p = (omega arith, lists-equal (name_of bytes at len) wanted q)
    go Less q p = placed-next wanted bytes at len ats lens (place_of wanted (names_of bytes ats lens)) (λ s. differ (sym q ∙ ap (λ (n : List ℕ). compare_lists n wanted) s ∙ lists-same wanted)) p
      where
        differ : Less ≡ Equal → ⊥
        differ d = let z : ◌≡◌ {A = ℕ} 0 1 = cc in omega arith
    go Greater q p = placed-next wanted bytes at len ats lens (place_of wanted (names_of bytes ats lens)) (λ s. differ (sym q ∙ ap (λ (n : List ℕ). compare_lists n wanted) s ∙ lists-same wanted)) p
      where
        differ : Greater ≡ Equal → ⊥
        differ d = let z : ◌≡◌ {A = ℕ} 0 1 = cc in omega arith

module _ (wanted bytes ats lens : List ℕ) (e : length ats ≡ length lens) (z : (name_rows bytes ats lens [] no_tables).refusal ≡ 0) where
  -- what is noted of a wanted name is its place among the names
  pub noted-index : noted_in wanted bytes ats lens 0 (2 ^ 64 - 1) ≡ number_of (place_of wanted (names_of bytes ats lens))
  unfolding number_of StandsAt
  noted-index = go (place_of wanted (names_of bytes ats lens)) (index-placed wanted bytes ats lens e)
    where
      go : (o : Option ℕ) → StandsAt wanted bytes ats lens o → noted_in wanted bytes ats lens 0 (2 ^ 64 - 1) ≡ number_of o
      go none p = noted-none wanted bytes ats lens 0 (2 ^ 64 - 1) p
      go (some i) p =
          noted-one wanted bytes ats lens 0 (2 ^ 64 - 1) i e p.0 p.1
          (λ j a b v. let same = number-of-name bytes ats lens (names-checked bytes ats lens e z) i j p.0 b (p.1 ∙ sym v) in omega arith)
          ∙ (let s : 0 + i ≡ i = omega arith in s)

-- ---- parents and facts

pub elem-member : (p : ℕ) (xs : List ℕ) → elem p xs ≡ true → Memᴰ p xs
unfolding elem
elem-member p [] h = absurd (false≢true h)
elem-member p (x ∷ xs) h = go (eqb x p) refl h (elem-member p xs)
  where
    go : (b : Bool) → eqb x p ≡ b → (b || elem p xs) ≡ true → (elem p xs ≡ true → Memᴰ p xs) → Memᴰ p (x ∷ xs)
    go true e k ih = Memᴰ.head (sym (eqb-true x p e))
    go false e k ih = Memᴰ.tail (ih k)

pub member-elem : (p : ℕ) (xs : List ℕ) → Memᴰ p xs → elem p xs ≡ true
unfolding elem
member-elem p [] m = absurd (Memᴰ.not-nil m)
member-elem p (x ∷ xs) m = go (eqb x p) refl (member-elem p xs)
  where
    go : (b : Bool) → eqb x p ≡ b → (Memᴰ p xs → elem p xs ≡ true) → (b || elem p xs) ≡ true
    go true e ih = refl
    go false e ih = ⊎_elim (λ k. absurd (eqb-false x p e (sym k))) ih (Memᴰ.cases_cons m)

-- of a class past the sets nothing is marked
marks-past : (marks : List ℕ) (k c : ℕ) → length marks ≡ 64 → k < 4 → (c < 1024 → ⊥) → member (mark marks k) c ≡ false
marks-past marks k c w h n = let l = mark-length marks k w h in member-past (mark marks k) c (omega arith)

unmarked : (k c : ℕ) → is_marked k c no_marks ≡ false
unmarked k c = member-empty 64 (1024 * k + c)

fact-none : (f : ℕ → Bool) (c : ℕ) (rs : List Record) → is_recorded c rs ≡ false → fact_from f (last_declared c rs) false ≡ false
unfolding is_recorded last_declared
fact-none f c [] h = refl
fact-none f c (r ∷ rs) h = go (eqb r.class c) refl h (last_declared c rs) refl (fact-none f c rs)
  where
    go : (b : Bool) → eqb r.class c ≡ b → (b || is_recorded c rs) ≡ false → (o : Option ℕ) → last_declared c rs ≡ o
        → (is_recorded c rs ≡ false → fact_from f (last_declared c rs) false ≡ false) → fact_from f (last_declared c (r ∷ rs)) false ≡ false
    go true e k o q ih = absurd (true≢false k)
    go false e k none q ih = rw (q, e)
    go false e k (some x) q ih = rw q (sym (ap (λ (p : Option ℕ). fact_from f p false) q) ∙ ih k)

-- ---- parents as ascending sets

pub set-sorted : (xs : List ℕ) → Sorted (set_of xs)
unfolding set_of
set-sorted [] = tt
set-sorted (x ∷ xs) = put-sorted x (set_of xs) (set-sorted xs)

pub elem-set : (z : ℕ) (xs : List ℕ) → elem z (set_of xs) ≡ elem z xs
unfolding set_of elem
elem-set z [] = refl
elem-set z (x ∷ xs) = elem-put x z (set_of xs) ∙ ap (λ (b : Bool). eqb x z || b) (elem-set z xs)

above-lower : (x y : ℕ) (l : List ℕ) → x < y → Above y l → Above x l
above-lower x y [] h a = tt
above-lower x y (z ∷ l) h a = (let k = a.0 in omega arith, a.1)

module _ (names c : ℕ) where
  in-above : (b : ℕ) (es : List ℕ) → Above b es → b / 1024 ≡ c → ((i : ℕ) → i < length es → get_or es i 0 / 1024 ≡ c) → Above (b % 1024) (parents_in names es)
  unfolding parents_in
  in-above b [] a e h = tt
  in-above b (x ∷ es) a e h = go (ltb (x % 1024) names) (in-above x es a.1 (h 0 (omega arith)) (λ i k. h (suc i) (omega arith)))
    where
      less : b % 1024 < x % 1024
      less = let p = a.0 in let q = h 0 (omega arith) in omega arith

      go : (t : Bool) → Above (x % 1024) (parents_in names es) → Above (b % 1024) (cond t (x % 1024 ∷ parents_in names es) (parents_in names es))
      go true r = (less, r)
      go false r = above-lower (b % 1024) (x % 1024) (parents_in names es) less r

  in-sorted : (es : List ℕ) → Sorted es → ((i : ℕ) → i < length es → get_or es i 0 / 1024 ≡ c) → Sorted (parents_in names es)
  unfolding parents_in
  in-sorted [] a h = tt
  in-sorted (x ∷ es) a h = go (ltb (x % 1024) names) (in-above x es a (h 0 (omega arith)) (λ i k. h (suc i) (omega arith)))
    where
      go : (t : Bool) → Above (x % 1024) (parents_in names es) → Sorted (cond t (x % 1024 ∷ parents_in names es) (parents_in names es))
      go true r = r
      go false r = above-sorted (x % 1024) (parents_in names es) r

  -- THE PARENTS OF A CLASS STAND ASCENDING
  pub parents-sorted : (l : List ℕ) → Sorted l → Sorted (key_parents names l c)
  unfolding key_parents
  parents-sorted l g = in-sorted (own_run c (keys_from c l)) (own-sorted c (keys_from c l) (sorted-drop (place (c * 1024) l) l g)) (λ i h. let o = own-get c (keys_from c l) i h in ap (λ (x : ℕ). x / 1024) o.0 ∙ o.2)

-- a number that is written as all ones where it is missing
present-number : (o : Option ℕ) → ((i : ℕ) → o ≡ some i → i < 2 ^ 64 - 1) → present (number_of o) ≡ o
unfolding present number_of
present-number none h = refl
present-number (some i) h = rw (ne_eqb i (2 ^ 64 - 1) (λ e. let k = h i refl in omega arith))

-- ---- a table, from its names and from what its records leave

-- the names, before there is a record
abbrev pub named_table : List ℕ → List ℕ → List ℕ → State
named_table bytes ats lens = record { tables = (name_rows bytes ats lens [] no_tables).tables; keys = []; marks = no_marks }

-- what rows have made: keys ascend and name classes of the table, and are counted; marks of 64 words
pub record Made (u : State) : Type 0 where
  pub ordered : Sorted u.keys
  pub counted : u.tables.pairs ≡ length u.keys
  pub classes : (y : ℕ) → elem y u.keys ≡ true → (y / 1024 < u.tables.names) × (y % 1024 < u.tables.names)
  pub wide : length u.marks ≡ 64

module _ (bytes ats lens : List ℕ) (columns-even : length ats ≡ length lens) (names-taken : (name_rows bytes ats lens [] no_tables).refusal ≡ 0) (rs : List Record) (s : State)
    (after : After (named_table bytes ats lens) rs s) (made : Made s) where
  good-first : Sound (named_table bytes ats lens)
  good-first = names-good bytes ats lens no_marks refl

  names-many : s.tables.names ≡ length (names_of bytes ats lens)
  unfolding no_tables
  names-many =
      after.numbers.names ∙ names-counted bytes ats lens [] no_tables columns-even names-taken
      ∙ (let k : 0 + length ats ≡ length ats = omega arith in k) ∙ sym (names-length bytes ats lens columns-even)

  object-is : s.tables.object ≡ number_of (place_of object_name (names_of bytes ats lens))
  unfolding no_tables
  object-is =
      after.numbers.object ∙ (names-noted bytes ats lens [] no_tables names-taken).0
      ∙ noted-index object_name bytes ats lens columns-even names-taken

  pub named-cloneable : s.tables.cloneable ≡ number_of (place_of cloneable_name (names_of bytes ats lens))
  unfolding no_tables
  named-cloneable =
      after.numbers.cloneable ∙ (names-noted bytes ats lens [] no_tables names-taken).1
      ∙ noted-index cloneable_name bytes ats lens columns-even names-taken

  pub named-serializable : s.tables.serializable ≡ number_of (place_of serializable_name (names_of bytes ats lens))
  unfolding no_tables
  named-serializable =
      after.numbers.serializable ∙ (names-noted bytes ats lens [] no_tables names-taken).2
      ∙ noted-index serializable_name bytes ats lens columns-even names-taken

  -- rows are of classes of the table, so below 1,024
  small-class : (c : ℕ) → is_recorded c rs ≡ true → c < 1024
  small-class c h = let x = after.class-in c h in let y = good-first.few in omega arith

  unrecorded : (c : ℕ) → (c < 1024 → ⊥) → is_recorded c rs ≡ false
  unrecorded c n = go (is_recorded c rs) refl
    where
      go : (b : Bool) → is_recorded c rs ≡ b → b ≡ false
      go true q = absurd (n (small-class c q))
      go false q = refl

  recorded-is : (c : ℕ) → member (mark s.marks 0) c ≡ is_recorded c rs
  unfolding mark
  recorded-is c = go (dec_lt c 1024)
    where
      go : Dec (c < 1024) → member (take 16 (drop (16 * 0) s.marks)) c ≡ is_recorded c rs
      go (yes h) = mark-set s.marks 0 c h ∙ after.recorded c h ∙ ap (λ (b : Bool). is_recorded c rs || b) (unmarked 0 c) ∙ or-false (is_recorded c rs)
      go (no n) = marks-past s.marks 0 c made.wide (omega arith) n ∙ sym (unrecorded c n)

  fact-is : (k : ℕ) (f : ℕ → Bool) → k < 4 → ((c : ℕ) → c < 1024 → is_marked k c s.marks ≡ fact_from f (last_declared c rs) (is_marked k c no_marks))
      → (c : ℕ) → member (mark s.marks k) c ≡ fact_from f (last_declared c rs) false
  unfolding mark
  fact-is k f l law c = go (dec_lt c 1024)
    where
      go : Dec (c < 1024) → member (take 16 (drop (16 * k) s.marks)) c ≡ fact_from f (last_declared c rs) false
      go (yes h) = mark-set s.marks k c h ∙ law c h ∙ ap (fact_from f (last_declared c rs)) (unmarked k c)
      go (no n) = marks-past s.marks k c made.wide l n ∙ sym (fact-none f c rs (unrecorded c n))

  keys-are : take s.tables.pairs s.keys ≡ s.keys
  keys-are = take_all s.tables.pairs s.keys (let n = made.counted in omega arith)

  pub parents-are : (c p : ℕ) → Memᴰ p (key_parents s.tables.names (take s.tables.pairs s.keys) c) ↔ Memᴰ p (listed_parents c rs)
  unfolding elem
  parents-are c p =
      rw keys-are (
        λ m. let b = parents-below s.tables.names p s.keys c m in
            let k = (entry b.1).0 m in
            elem-member p (listed_parents c rs) (sym (or-false (elem p (listed_parents c rs))) ∙ sym (after-pairs b.1) ∙ k),
        λ m. let h = member-elem p (listed_parents c rs) m in
            let b = small h in
            (entry b).1 (after-pairs b ∙ or-false (elem p (listed_parents c rs)) ∙ h),
      )
    where
      entry : p < 1024 → Memᴰ p (key_parents s.tables.names s.keys c) ↔ (elem (c * 1024 + p) s.keys ≡ true)
      entry h = parents-entry s.tables.names p s.keys c made.ordered h (λ y m. (made.classes y m).1)

      after-pairs : p < 1024 → elem (key c p) s.keys ≡ (elem p (listed_parents c rs) || false)
      after-pairs h = after.pairs c p h

      small : elem p (listed_parents c rs) ≡ true → p < 1024
      small h = let x = (after.parent-in c p h).1 in let y = good-first.few in omega arith

  parents-set : (c : ℕ) → key_parents s.tables.names (take s.tables.pairs s.keys) c ≡ set_of (listed_parents c rs)
  parents-set c =
      same-members (key_parents s.tables.names keys c) (set_of (listed_parents c rs))
      (parents-sorted s.tables.names c keys (subst Sorted (sym keys-are) made.ordered)) (set-sorted (listed_parents c rs))
      (λ z. implied-both (elem z (key_parents s.tables.names keys c)) (elem z (set_of (listed_parents c rs)))
      (λ h. elem-set z (listed_parents c rs) ∙ member-elem z (listed_parents c rs) ((parents-are c z).0 (elem-member z (key_parents s.tables.names keys c) h)))
      (λ h. member-elem z (key_parents s.tables.names keys c) ((parents-are c z).1 (elem-member z (listed_parents c rs) (sym (elem-set z (listed_parents c rs)) ∙ h)))))
    where
      keys : List ℕ
      keys = take s.tables.pairs s.keys

  -- THE VIEW OF WHAT ROWS HAVE MADE IS THE ROWS'
  pub made-view : state_view s ≡ rows_view (record { names = names_of bytes ats lens; records = rs })
  unfolding rows_view
  made-view i = record {
    names = names-many i;
    object = object-is i;
    recorded = λ c. recorded-is c i;
    parents = λ c. parents-set c i;
    declared = λ c. fact-is 1 any_flags (omega arith) after.declared c i;
    interface = λ c. fact-is 2 interface_flag (omega arith) after.interface c i;
    final = λ c. fact-is 3 final_flag (omega arith) after.final c i;
  }

  few-names : length ats ≤ 1024
  unfolding no_tables
  few-names =
      let n = names-counted bytes ats lens [] no_tables columns-even names-taken in
      let k = good-first.few in
      omega arith

  placed-small : (wanted : List ℕ) (i : ℕ) → place_of wanted (names_of bytes ats lens) ≡ some i → i < 2 ^ 64 - 1
  unfolding StandsAt
  placed-small wanted i q =
      let p = (subst (StandsAt wanted bytes ats lens) q (index-placed wanted bytes ats lens columns-even)).0 in
      let k = few-names in
      omega arith

  -- and so is the world
  pub made-world : state_world s ≡ rows_world (record { names = names_of bytes ats lens; records = rs })
  unfolding rows_world
  made-world =
      let a = ap present named-cloneable ∙ present-number (place_of cloneable_name (names_of bytes ats lens)) (placed-small cloneable_name) in
      let b = ap present named-serializable ∙ present-number (place_of serializable_name (names_of bytes ats lens)) (placed-small serializable_name) in
      λ i. world_with (made-view i) (a i) (b i)

-- ---- the table of columns

module _ (g : Given) (e : even g ≡ true) (z : (table g).refusal ≡ 0) where
  columns-even : length g.name_at ≡ length g.name_len
  unfolding even
  columns-even = (even-is (length g.name_at) (length g.name_len) (length g.rec_flags) (length g.rec_class) (length g.rec_at) (length g.rec_len) e).0

  -- the names are taken, and then the records
  both-taken : ((name_rows g.names g.name_at g.name_len [] no_tables).refusal ≡ 0)
      × After (named_table g.names g.name_at g.name_len) (records_of g.parents g.rec_flags g.rec_class g.rec_at g.rec_len) (table g).state
  unfolding table table_of
  both-taken = go (eqb named.refusal 0) refl z
    where
      named : Outcome
      named = name_rows g.names g.name_at g.name_len [] no_tables

      go : (b : Bool) → eqb named.refusal 0 ≡ b
          → (cond {A = Ran} b (record_rows g.parents g.rec_flags g.rec_class g.rec_at g.rec_len (named_table g.names g.name_at g.name_len)) (record { refusal = named.refusal; state = named_table g.names g.name_at g.name_len })).refusal ≡ 0
          → (named.refusal ≡ 0) × After (named_table g.names g.name_at g.name_len) (records_of g.parents g.rec_flags g.rec_class g.rec_at g.rec_len) (cond {A = Ran} b (record_rows g.parents g.rec_flags g.rec_class g.rec_at g.rec_len (named_table g.names g.name_at g.name_len)) (record { refusal = named.refusal; state = named_table g.names g.name_at g.name_len })).state
      go true q r = (eqb-true named.refusal 0 q, records-after g.parents g.rec_flags g.rec_class g.rec_at g.rec_len (named_table g.names g.name_at g.name_len) (names-good g.names g.name_at g.name_len no_marks refl) r)
      go false q r = absurd (eqb-false named.refusal 0 q r)

  made : Made (table g).state
  made = let k = good-in g in record { ordered = k.ordered; counted = k.counted; classes = k.classes; wide = k.wide }

  pub cloneable-is : (table g).state.tables.cloneable ≡ number_of (place_of cloneable_name (names_of g.names g.name_at g.name_len))
  cloneable-is = named-cloneable g.names g.name_at g.name_len columns-even both-taken.0 _ (table g).state both-taken.1 made

  pub serializable-is : (table g).state.tables.serializable ≡ number_of (place_of serializable_name (names_of g.names g.name_at g.name_len))
  serializable-is = named-serializable g.names g.name_at g.name_len columns-even both-taken.0 _ (table g).state both-taken.1 made

  -- THE VIEW IN THE WORDS OF THE ROWS, of every table that is taken
  pub view-rows : view_in g ≡ rows_view (rows_in g)
  unfolding view_in rows_in
  view-rows = made-view g.names g.name_at g.name_len columns-even both-taken.0 _ (table g).state both-taken.1 made

  -- and member by member, with the parents as the rows list them: y is a parent of c exactly if some row of c lists it
  pub parents-listed : (c y : ℕ) → Memᴰ y ((view_in g).parents c) ↔ Memᴰ y (listed_parents c (rows_in g).records)
  unfolding view_in rows_in
  parents-listed c y = parents-are g.names g.name_at g.name_len columns-even both-taken.0 _ (table g).state both-taken.1 made c y

  -- THE WORLD IN THE WORDS OF THE ROWS: so every join, every assignability and every solve over it is that of the rows
  pub world-rows : world_in g ≡ rows_world (rows_in g)
  unfolding world_in rows_in
  world-rows = made-world g.names g.name_at g.name_len columns-even both-taken.0 _ (table g).state both-taken.1 made
