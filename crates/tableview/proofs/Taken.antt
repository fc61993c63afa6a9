-- What records that are taken leave, in the words of the rows: the pairs are those that rows list, the marks those that rows tell.
use Rattle.std.specs.Prelude.{◌≡◌, Bool, cond, ◌&&◌, ◌||◌, List, [], ◌∷◌, ◌++◌, map, ℕ, suc, ◌%◌, ◌≤◌, ◌<◌, length, take, drop}
use Rattle.std.proofs.Math.Path.{refl, ap}
use Rattle.std.proofs.Common.{sym, ◌∙◌, subst}
use Rattle.std.proofs.Math.Bool.{true, false}
use Rattle.std.proofs.lemmas.Bool.{false≢true}
use Rattle.std.proofs.Math.Option.{Option, some, none}
use native.Mathlib.Omega.{arith}
use Rattle.std.proofs.Math.Decide.{ℕ_discrete}
use Rattle.std.proofs.Math.Dec.{eqb}
use borrow.Author.Tests.{eq-eqb, ne_eqb, eqb-true, eqb-false}
use Rattle.order.specs.Lists.{elem}
use Rattle.rows.specs.Rows.{State, key, is_marked, record_marks, record_refusal, with_record, Ran, Below}
use Rattle.rows.specs.Keys.{all-has}
use Rattle.rows.specs.Marks.{others-stay, undeclared-keeps, recorded-now, declared-gives}
use Rattle.rows.specs.Laws.{Sound, GoodRecord, record-good, record-taken, good-record}
use Rattle.columns.specs.Columns.{inside, placed_record, record_rows}
use Rattle.columns.specs.Laws.{record-inside, record-outside}
use Rattle.tableview.specs.TableRows.{Record, is_recorded, listed_parents, declares, later, last_declared, fact_from, any_flags, interface_flag, final_flag, records_of}
use Rattle.tableview.specs.Taken.{After}

-- ---- one record

pub or-assoc : (a b c : Bool) → (a || (b || c)) ≡ ((b || a) || c)
or-assoc true true c = refl
or-assoc true false c = refl
or-assoc false true c = refl
or-assoc false false c = refl

pub elem-append : (z : ℕ) (xs ys : List ℕ) → elem z (xs ++ ys) ≡ (elem z xs || elem z ys)
unfolding elem
elem-append z [] ys = refl
elem-append z (x ∷ xs) ys = go (eqb x z) (elem-append z xs ys)
  where
    go : (b : Bool) → elem z (xs ++ ys) ≡ (elem z xs || elem z ys) → (b || elem z (xs ++ ys)) ≡ ((b || elem z xs) || elem z ys)
    go true e = refl
    go false e = e

below-rest : (n x : ℕ) (xs : List ℕ) → Below n (x ∷ xs) → (x < n) × Below n xs
below-rest n x xs b = (b 0 (omega arith), λ i h. b (suc i) (omega arith))

pub elem-below : (n p : ℕ) (xs : List ℕ) → Below n xs → elem p xs ≡ true → p < n
unfolding elem
elem-below n p [] b h = absurd (false≢true h)
elem-below n p (x ∷ xs) b h = go (eqb x p) refl h (elem-below n p xs (below-rest n x xs b).1)
  where
    go : (t : Bool) → eqb x p ≡ t → (t || elem p xs) ≡ true → (elem p xs ≡ true → p < n) → p < n
    go true e q ih = let y = eqb-true x p e in let z = (below-rest n x xs b).0 in omega arith
    go false e q ih = ih q

-- the keys of a record's parents
pub keys-of : (d c p : ℕ) (ps : List ℕ) → p < 1024 → Below 1024 ps → elem (key c p) (map (key d) ps) ≡ (eqb d c && elem p ps)
unfolding elem
keys-of d c p [] h b = go (eqb d c)
  where
    go : (t : Bool) → false ≡ (t && false)
    go true = refl
    go false = refl
keys-of d c p (q ∷ ps) h b = go (ℕ_discrete d c) (ℕ_discrete q p) (keys-of d c p ps h (below-rest 1024 q ps b).1)
  where
    small : q < 1024
    small = (below-rest 1024 q ps b).0

    go : Dec (d ≡ c) → Dec (q ≡ p) → elem (key c p) (map (key d) ps) ≡ (eqb d c && elem p ps)
        → (eqb (key d q) (key c p) || elem (key c p) (map (key d) ps)) ≡ (eqb d c && (eqb q p || elem p ps))
    go (yes e) (yes f) ih = rw (eq-eqb (key d q) (key c p) (omega arith), eq-eqb d c e, eq-eqb q p f)
    go (yes e) (no n) ih = rw (ne_eqb (key d q) (key c p) (λ z. n (let k = small in omega arith)), ne_eqb q p n) ih
    go (no n) f ih = rw (ne_eqb (key d q) (key c p) (λ z. n (let k = small in omega arith)), ne_eqb d c n) (ih ∙ ap (λ (t : Bool). t && elem p ps) (ne_eqb d c n))

module _ (flags class : ℕ) (marks : List ℕ) (h : class < 1024) (w : length marks ≡ 64) (c : ℕ) (l : c < 1024) where
  pub recorded-step : is_marked 0 c (record_marks flags class marks) ≡ (eqb class c || is_marked 0 c marks)
  recorded-step = go (ℕ_discrete class c)
    where
      go : Dec (class ≡ c) → is_marked 0 c (record_marks flags class marks) ≡ (eqb class c || is_marked 0 c marks)
      go (yes e) = rw (← e, eq-eqb class class refl) (recorded-now flags class marks h w)
      go (no n) = rw (ne_eqb class c n) (others-stay flags class marks 0 c h l (λ z. n (sym z)))

  -- a fact by its set, from the declared record's law
  pub fact-step : (k : ℕ) (f : ℕ → Bool) → 1 ≤ k → (flags % 2 ≡ 1 → is_marked k class (record_marks flags class marks) ≡ f flags)
      → is_marked k c (record_marks flags class marks) ≡ fact_from f (declares c flags class) (is_marked k c marks)
  fact-step k f b law = go (ℕ_discrete class c) (ℕ_discrete (flags % 2) 1)
    where
      go : Dec (class ≡ c) → Dec (flags % 2 ≡ 1) → is_marked k c (record_marks flags class marks) ≡ fact_from f (declares c flags class) (is_marked k c marks)
      go (yes e) (yes d) = rw (← e, eq-eqb class class refl, eq-eqb (flags % 2) 1 d) (law d)
      go (yes e) (no n) = rw (← e, eq-eqb class class refl, ne_eqb (flags % 2) 1 n) (undeclared-keeps flags class marks n k class b h)
      go (no n) d = rw (ne_eqb class c n) (others-stay flags class marks k c h l (λ z. n (sym z)))

pub fact-later : (f : ℕ → Bool) (o d : Option ℕ) (b : Bool) → fact_from f o (fact_from f d b) ≡ fact_from f (later o d) b
fact-later f none d b = refl
fact-later f (some flags) d b = refl

-- ---- a record more in front

module _ (s : State) (g : Sound s) (flags class : ℕ) (parents : List ℕ) (z : record_refusal s.tables.names s.keys flags class parents ≡ 0) (rs : List Record) (u : State)
    (a : After (with_record s flags class parents) rs u) where
  good : GoodRecord s.tables.names s.keys flags class parents
  good = record-good s.tables.names s.keys flags class parents z

  small : class < 1024
  small = let x = good.class-in in let y = g.few in omega arith

  row : Record
  row = record { flags = flags; class = class; parents = parents }

  parents-step : (c p : ℕ) → (t : Bool) → eqb class c ≡ t → elem p (cond t (parents ++ listed_parents c rs) (listed_parents c rs)) ≡ ((t && elem p parents) || elem p (listed_parents c rs))
  parents-step c p true e = elem-append p parents (listed_parents c rs)
  parents-step c p false e = refl

  after-one : After s (row ∷ rs) u
  unfolding with_record listed_parents is_recorded last_declared row
  after-one = record {
    numbers = record {
      names = a.numbers.names;
      bytes = a.numbers.bytes;
      object = a.numbers.object;
      cloneable = a.numbers.cloneable;
      serializable = a.numbers.serializable;
    };
    pairs = λ c p h.
        a.pairs c p h
        ∙ ap (λ (t : Bool). elem p (listed_parents c rs) || t) (all-has class (key c p) parents s.keys)
        ∙ ap (λ (t : Bool). elem p (listed_parents c rs) || (t || elem (key c p) s.keys))
        (keys-of class c p parents h (λ i k. let x = good.parents-in i k in let y = g.few in omega arith))
        ∙ or-assoc (elem p (listed_parents c rs)) (eqb class c && elem p parents) (elem (key c p) s.keys)
        ∙ ap (λ (t : Bool). t || elem (key c p) s.keys) (sym (parents-step c p (eqb class c) refl));
    recorded = λ c h.
        a.recorded c h
        ∙ ap (λ (t : Bool). is_recorded c rs || t) (recorded-step flags class s.marks small g.wide c h)
        ∙ or-assoc (is_recorded c rs) (eqb class c) (is_marked 0 c s.marks);
    declared = λ c h.
        a.declared c h
        ∙ ap (fact_from any_flags (last_declared c rs)) (fact-step flags class s.marks small g.wide c h 1 any_flags (omega arith) (λ d. (declared-gives flags class s.marks small g.wide d).0))
        ∙ fact-later any_flags (last_declared c rs) (declares c flags class) (is_marked 1 c s.marks);
    interface = λ c h.
        a.interface c h
        ∙ ap (fact_from interface_flag (last_declared c rs)) (fact-step flags class s.marks small g.wide c h 2 interface_flag (omega arith) (λ d. (declared-gives flags class s.marks small g.wide d).1))
        ∙ fact-later interface_flag (last_declared c rs) (declares c flags class) (is_marked 2 c s.marks);
    final = λ c h.
        a.final c h
        ∙ ap (fact_from final_flag (last_declared c rs)) (fact-step flags class s.marks small g.wide c h 3 final_flag (omega arith) (λ d. (declared-gives flags class s.marks small g.wide d).2))
        ∙ fact-later final_flag (last_declared c rs) (declares c flags class) (is_marked 3 c s.marks);
    class-in = λ c h. class-go c (eqb class c) refl h;
    parent-in = λ c p h. parent-go c p (eqb class c) refl (elem p parents) refl (sym (parents-step c p (eqb class c) refl) ∙ h);
  }
    where
      class-go : (c : ℕ) (t : Bool) → eqb class c ≡ t → (t || is_recorded c rs) ≡ true → c < s.tables.names
      class-go c true e h = let x = eqb-true class c e in let y = good.class-in in omega arith
      class-go c false e h = a.class-in c h

      parent-go : (c p : ℕ) (t : Bool) → eqb class c ≡ t → (b : Bool) → elem p parents ≡ b → ((t && b) || elem p (listed_parents c rs)) ≡ true
          → (c < s.tables.names) × (p < s.tables.names)
      parent-go c p true e true m h = (let x = eqb-true class c e in let y = good.class-in in omega arith, elem-below s.tables.names p parents good.parents-in m)
      parent-go c p true e false m h = a.parent-in c p h
      parent-go c p false e b m h = a.parent-in c p h

-- ---- all records

after-none : (s : State) → After s [] s
unfolding listed_parents is_recorded last_declared elem
after-none s = record {
  numbers = record { names = refl; bytes = refl; object = refl; cloneable = refl; serializable = refl };
  pairs = λ c p h. refl;
  recorded = λ c h. refl;
  declared = λ c h. refl;
  interface = λ c h. refl;
  final = λ c h. refl;
  class-in = λ c h. absurd (false≢true h);
  parent-in = λ c p h. absurd (false≢true h);
}

-- a record that is taken lies inside, is not refused and leaves the state with it
pub placed-taken : (parents : List ℕ) (f c a l : ℕ) (s : State) → (placed_record parents f c a l s).refusal ≡ 0
    → (record_refusal s.tables.names s.keys f c (take l (drop a parents)) ≡ 0) × ((placed_record parents f c a l s).state ≡ with_record s f c (take l (drop a parents)))
placed-taken parents f c a l s z = go (inside (length parents) a l) refl
  where
    go : (b : Bool) → inside (length parents) a l ≡ b
        → (record_refusal s.tables.names s.keys f c (take l (drop a parents)) ≡ 0) × ((placed_record parents f c a l s).state ≡ with_record s f c (take l (drop a parents)))
    go true e =
        let is = record-inside parents f c a l s e in
        let r = sym (ap (λ (u : Ran). u.refusal) is) ∙ z in
        (r, ap (λ (u : Ran). u.state) is ∙ record-taken s f c (take l (drop a parents)) r)
    go false e = absurd (let y = sym (ap (λ (u : Ran). u.refusal) (record-outside parents f c a l s e)) ∙ z in omega arith)

-- WHAT RECORDS THAT ARE TAKEN LEAVE
pub records-after : (parents fs cs ats ls : List ℕ) (s : State) → Sound s → (record_rows parents fs cs ats ls s).refusal ≡ 0
    → After s (records_of parents fs cs ats ls) (record_rows parents fs cs ats ls s).state
unfolding record_rows records_of row
records-after parents [] cs ats ls s g z = after-none s
records-after parents (f ∷ fs) [] ats ls s g z = after-none s
records-after parents (f ∷ fs) (c ∷ cs) [] ls s g z = after-none s
records-after parents (f ∷ fs) (c ∷ cs) (a ∷ ats) [] s g z = after-none s
records-after parents (f ∷ fs) (c ∷ cs) (a ∷ ats) (l ∷ ls) s g z = go (eqb one.refusal 0) refl z (records-after parents fs cs ats ls one.state)
  where
    one : Ran
    one = placed_record parents f c a l s

    rest : Ran
    rest = record_rows parents fs cs ats ls one.state

    ps : List ℕ
    ps = take l (drop a parents)

    go : (b : Bool) → eqb one.refusal 0 ≡ b → (cond b rest one).refusal ≡ 0
        → (Sound one.state → rest.refusal ≡ 0 → After one.state (records_of parents fs cs ats ls) rest.state)
        → After s (record { flags = f; class = c; parents = ps } ∷ records_of parents fs cs ats ls) (cond b rest one).state
    go true e q ih =
        let t = placed-taken parents f c a l s (eqb-true one.refusal 0 e) in
        let gs = subst Sound (record-taken s f c ps t.0) (good-record s f c ps g) in
        after-one s g f c ps t.0 (records_of parents fs cs ats ls) rest.state
        (subst (λ (u : State). After u (records_of parents fs cs ats ls) rest.state) t.1 (ih (subst Sound (sym t.1) gs) q))
    go false e q ih = absurd (eqb-false one.refusal 0 e q)
