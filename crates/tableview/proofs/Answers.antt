-- What is answered about classes and types over a table, in the words of its rows: each answer, exactly when it is given. Assumes nothing of
-- cycles and of parents of Object.
use Rattle.std.specs.Prelude.{◌≡◌, cond, ◌&&◌, ◌||◌, ◌⊎◌, ◌↔◌, ℕ, zero, suc, ◌%◌, ◌≤◌, ◌<◌, length}
use Rattle.std.proofs.Math.Path.{refl, ap, subst}
use Rattle.std.proofs.Common.{sym, ◌∙◌, true≢false, arith, eq-eqb, eqb-true}
use Rattle.std.proofs.Math.Bool.{Bool, true, false, or-true}
use Rattle.std.proofs.lemmas.Bool.{false≢true, eqb-false}
use mathlib.Core.List.Memᴰ
use mathlib.Core.List.{List, [], ◌∷◌, ◌++◌, Memᴰ}
use Rattle.std.proofs.Math.Logic.{inl, inr, ⊎_elim}
use Rattle.std.proofs.Math.Option.{Option, some, none}
use Rattle.std.proofs.Math.Decide.{dec_lt}
use Rattle.std.proofs.Math.Dec.{eqb}
use Rattle.sets.specs.Sets.{at, member, keep, members, first}
use Rattle.sets.specs.Laws.{lowest-member, lowest-least}
use Rattle.sorted.specs.Sorted.{Above, Sorted}
use Rattle.view.specs.declared.Relation.TheVariants.{Yes, No, Unknown}
use Rattle.view.specs.View.{ancestor, ancestors, relation, cast_by_facts, cast, below, nearer, supertype}
use Rattle.view.specs.Reach.{Good}
use Rattle.view.specs.Ancestors.{ancestor-exactly, ancestor-below, ancestors-member, ancestors-list}
use Rattle.view.specs.Relations.{relation-yes, relation-no, relation-unknown}
use Rattle.view.specs.Below.{below-tests, below-up}
use Rattle.view.specs.Supertype.{Common, supertype-some, supertype-least, supertype-right, supertype-left, supertype-nearest}
use Rattle.ty.specs.Types.{ArgType, Object, Array, is_concrete}
use Rattle.ty.specs.Words.{legal_type}
use Rattle.lattice.specs.Lattice.{Lawful, same_type, array_parent, is_number, is_assignable, class_or, join_apart, join}
use Rattle.lattice.specs.World.{with-lawful}
use Rattle.lattice.specs.References.{same-exactly, refused-exactly, array-class}
use Rattle.lattice.specs.Legality.{legal-base, join-legal}
use Rattle.lattice.specs.Above.{join-above}
use Rattle.rows.specs.Rows.{cloneable_name, serializable_name}
use Rattle.tableview.specs.TableRows.{Record, Rows, is_recorded, last_declared, declares, later, fact_from, any_flags, interface_flag, final_flag, place_of, rows_view, rows_world}
use Rattle.tableview.specs.Paths.{Way, stay, IsObject}
use Rattle.tableview.proofs.Paths.{object-exactly, reached-exactly}
use Rattle.tableview.specs.Answers.{Ancestor, Recorded, Whole, Lacking, StrictlyBelow, LastDeclared, Castable, Told, ByFacts, LeastCommon}

-- ---- rows of a class

recorded-has : (c : ℕ) (rs : List Record) → is_recorded c rs ≡ true → (r : Record) × Memᴰ r rs × (r.class ≡ c)
unfolding is_recorded
recorded-has c [] h = absurd (false≢true h)
recorded-has c (s ∷ rs) h = go (eqb s.class c) refl h (recorded-has c rs)
  where
    go : (b : Bool) → eqb s.class c ≡ b → (b || is_recorded c rs) ≡ true → (is_recorded c rs ≡ true → (r : Record) × Memᴰ r rs × (r.class ≡ c))
        → (r : Record) × Memᴰ r (s ∷ rs) × (r.class ≡ c)
    go true e k ih = (s, Memᴰ.head refl, eqb-true s.class c e)
    go false e k ih = let w = ih k in (w.0, Memᴰ.tail w.1, w.2)

recorded-is : (c : ℕ) (rs : List Record) (r : Record) → Memᴰ r rs → r.class ≡ c → is_recorded c rs ≡ true
unfolding is_recorded
recorded-is c [] r m e = absurd (Memᴰ.not-nil m)
recorded-is c (s ∷ rs) r m e = go (eqb s.class c) refl (Memᴰ.cases_cons m) (λ k. recorded-is c rs r k e)
  where
    go : (b : Bool) → eqb s.class c ≡ b → (r ≡ s) ⊎ Memᴰ r rs → (Memᴰ r rs → is_recorded c rs ≡ true) → (b || is_recorded c rs) ≡ true
    go true q w ih = refl
    go false q (inl k) ih = absurd (eqb-false s.class c q (sym (ap (λ (z : Record). z.class) k) ∙ e))
    go false q (inr k) ih = ih k

module _ (t : Rows) where
  pub recorded-exactly : (c : ℕ) → ((rows_view t).recorded c ≡ true) ↔ Recorded t c
  unfolding rows_view
  recorded-exactly c = (recorded-has c t.records, λ w. recorded-is c t.records w.0 w.1 w.2)

  pub unrecorded-exactly : (c : ℕ) → ((rows_view t).recorded c ≡ false) ↔ (Recorded t c → ⊥)
  unrecorded-exactly c = (λ e w. true≢false (sym ((recorded-exactly c).1 w) ∙ e), λ f. go f ((rows_view t).recorded c) refl)
    where
      go : (Recorded t c → ⊥) → (b : Bool) → (rows_view t).recorded c ≡ b → b ≡ false
      go f true e = absurd (f ((recorded-exactly c).0 e))
      go f false e = refl

module _ (t : Rows) (g : Good (rows_view t)) where
  -- ---- from a class x of the table
  module _ (x : ℕ) (h : x < length t.names) where
    inside : x < (rows_view t).names
    unfolding rows_view
    inside = h

    pub ancestor-rows : (y : ℕ) → (ancestor (rows_view t) x y ≡ true) ↔ Ancestor t x y
    ancestor-rows y =
        let a = ancestor-exactly (rows_view t) g x y inside in (
          λ m. ⊎_elim (λ e. inl ((object-exactly t g y).0 e)) (λ r. inr ((reached-exactly t g x h y).0 r)) (a.0 m),
          λ w. a.1 (⊎_elim (λ e. inl ((object-exactly t g y).1 e)) (λ r. inr ((reached-exactly t g x h y).1 r)) w),
        )

    pub no-ancestor-rows : (y : ℕ) → (ancestor (rows_view t) x y ≡ false) ↔ (Ancestor t x y → ⊥)
    no-ancestor-rows y = (λ e w. true≢false (sym ((ancestor-rows y).1 w) ∙ e), λ f. go f (ancestor (rows_view t) x y) refl)
      where
        go : (Ancestor t x y → ⊥) → (b : Bool) → ancestor (rows_view t) x y ≡ b → b ≡ false
        go f true e = absurd (f ((ancestor-rows y).0 e))
        go f false e = refl

    -- RELATION: YES exactly for an ancestor
    pub yes-rows : (y : ℕ) → (relation (rows_view t) x y ≡ Yes) ↔ Ancestor t x y
    yes-rows y = let r = relation-yes (rows_view t) x y in (λ e. (ancestor-rows y).0 (r.0 e), λ w. r.1 ((ancestor-rows y).1 w))

    -- NO exactly if it is none and every class that a way leads to has a row
    pub no-rows : (y : ℕ) → (relation (rows_view t) x y ≡ No) ↔ ((Ancestor t x y → ⊥) × Whole t x)
    no-rows y =
        let r = relation-no (rows_view t) g x inside y in (
          λ e. let w = r.0 e in ((no-ancestor-rows y).0 w.0, λ c n a. (recorded-exactly t c).0 (w.1 c ((reached-exactly t g x h c).1 (n, a)))),
          λ w. r.1 ((no-ancestor-rows y).1 w.0, λ c m. let a = (reached-exactly t g x h c).0 m in (recorded-exactly t c).1 (w.1 c a.0 a.1)),
        )

    -- UNKNOWN exactly if it is none and some class that a way leads to has no row
    pub unknown-rows : (y : ℕ) → (relation (rows_view t) x y ≡ Unknown) ↔ ((Ancestor t x y → ⊥) × Lacking t x)
    unknown-rows y =
        let r = relation-unknown (rows_view t) g x inside y in (
          λ e. let w = r.0 e in let a = (reached-exactly t g x h w.1.0).0 w.1.1 in
              ((no-ancestor-rows y).0 w.0, (w.1.0, a.0, a.1, (unrecorded-exactly t w.1.0).0 w.1.2)),
          λ w. r.1 ((no-ancestor-rows y).1 w.0, (w.1.0, (reached-exactly t g x h w.1.0).1 (w.1.1, w.1.2), (unrecorded-exactly t w.1.0).1 w.1.3)),
        )

    -- THE SET OF ANCESTORS has exactly them
    pub set-rows : (y : ℕ) → (member (ancestors (rows_view t) x) y ≡ true) ↔ Ancestor t x y
    set-rows y =
        let e = ancestors-member (rows_view t) g x inside y in
        (λ m. (ancestor-rows y).0 (sym e ∙ m), λ w. e ∙ (ancestor-rows y).1 w)

    -- the list of its members stands ascending, so its length is how many ancestors there are
    pub list-rows : (y : ℕ) → Memᴰ y (members (at (ancestors (rows_view t) x)) 0 1024) ↔ Ancestor t x y
    list-rows y =
        let l = ancestors-list (rows_view t) g x inside y in
        (λ m. (ancestor-rows y).0 (l.0 m), λ w. l.1 ((ancestor-rows y).1 w))

    -- the first of it is the least ancestor
    pub lowest-rows : Ancestor t x (first (at (ancestors (rows_view t) x)) 1024) × ((y : ℕ) → Ancestor t x y → first (at (ancestors (rows_view t) x)) 1024 ≤ y)
    lowest-rows = (
      (set-rows (first (at (ancestors (rows_view t) x)) 1024)).0
          (lowest-member (ancestors (rows_view t) x) 1024 (let o = least (rows_view t).object (inl ((object-exactly t g (rows_view t).object).0 refl)) in let f = g.few in let i = g.object-in in omega arith)),
      least,
    )
      where
        least : (y : ℕ) → Ancestor t x y → first (at (ancestors (rows_view t) x)) 1024 ≤ y
        least y w = go (dec_lt y (first (at (ancestors (rows_view t) x)) 1024))
          where
            go : Dec (y < first (at (ancestors (rows_view t) x)) 1024) → first (at (ancestors (rows_view t) x)) 1024 ≤ y
            go (yes l) = absurd (true≢false (sym ((set-rows y).1 w) ∙ lowest-least (ancestors (rows_view t) x) 1024 y l))
            go (no n) = omega arith

-- members stand ascending
members-above : (f : ℕ → ℕ) (b i n : ℕ) → b < i → Above b (members f i n)
unfolding members
members-above f b i zero l = tt
members-above f b i (suc n) l = go (f i) (members-above f b (suc i) n (omega arith)) (members-above f i (suc i) n (omega arith))
  where
    go : (d : ℕ) → Above b (members f (suc i) n) → Above i (members f (suc i) n) → Above b (keep d i (members f (suc i) n))
    go zero p q = p
    go (suc d) p q = (l, q)

pub members-sorted : (f : ℕ → ℕ) (i n : ℕ) → Sorted (members f i n)
unfolding members
members-sorted f i zero = tt
members-sorted f i (suc n) = go (f i) (members-sorted f (suc i) n) (members-above f i (suc i) n (omega arith))
  where
    go : (d : ℕ) → Sorted (members f (suc i) n) → Above i (members f (suc i) n) → Sorted (keep d i (members f (suc i) n))
    go zero p q = p
    go (suc d) p q = q

last-told : (c : ℕ) (rs : List Record) → Told c rs (last_declared c rs)
unfolding last_declared
last-told c [] = λ r m. absurd (Memᴰ.not-nil m)
last-told c (s ∷ rs) = go (last_declared c rs) (last-told c rs)
  where
    first-one : Told c rs none → (a : Bool) → eqb s.class c ≡ a → (b : Bool) → eqb (s.flags % 2) 1 ≡ b → Told c (s ∷ rs) (cond (a && b) (some s.flags) none)
    first-one w true p true q = (s, record { before = []; after = rs; stands = refl; class-is = eqb-true s.class c p; flagged = eqb-true (s.flags % 2) 1 q; last = w }, refl)
    first-one w true p false q = λ r m e f. ⊎_elim (λ k. eqb-false (s.flags % 2) 1 q (sym (ap (λ (z : Record). z.flags % 2) k) ∙ f)) (λ k. w r k e f) (Memᴰ.cases_cons m)
    first-one w false p b q = λ r m e f. ⊎_elim (λ k. eqb-false s.class c p (sym (ap (λ (z : Record). z.class) k) ∙ e)) (λ k. w r k e f) (Memᴰ.cases_cons m)

    go : (o : Option ℕ) → Told c rs o → Told c (s ∷ rs) (later o (declares c s.flags s.class))
    go none w = first-one w (eqb s.class c) refl (eqb (s.flags % 2) 1) refl
    go (some f) w =
        let l = w.1 in (
          w.0,
          record { before = s ∷ l.before; after = l.after; stands = ap (λ (z : List Record). s ∷ z) l.stands; class-is = l.class-is; flagged = l.flagged; last = l.last },
          w.2,
        )

-- the last row stands among them
last-in : (c : ℕ) (rs : List Record) (r : Record) → LastDeclared c rs r → Memᴰ r rs
last-in c rs r l = subst (Memᴰ r) (sym l.stands) (Memᴰ.append_right l.before (Memᴰ.head refl))

last-none : (c : ℕ) (rs : List Record) → ((r : Record) → Memᴰ r rs → r.class ≡ c → r.flags % 2 ≡ 1 → ⊥) → last_declared c rs ≡ none
last-none c rs f = go (last_declared c rs) (last-told c rs)
  where
    go : (o : Option ℕ) → Told c rs o → o ≡ none
    go none w = refl
    go (some k) w = let l = w.1 in absurd (f w.0 (last-in c rs w.0 l) l.class-is l.flagged)

last-past : (c : ℕ) (r : Record) (before after : List Record) → r.class ≡ c → r.flags % 2 ≡ 1 → last_declared c after ≡ none → last_declared c (before ++ r ∷ after) ≡ some r.flags
unfolding last_declared
last-past c r [] after e f n = rw (n, eq-eqb r.class c e, eq-eqb (r.flags % 2) 1 f)
last-past c r (s ∷ before) after e f n = ap (λ (o : Option ℕ). later o (declares c s.flags s.class)) (last-past c r before after e f n)

-- THE FLAGS ARE THOSE OF THE LAST ROW WITH FLAG 1
pub last-exactly : (c : ℕ) (rs : List Record) (f : ℕ) → (last_declared c rs ≡ some f) ↔ ((r : Record) × LastDeclared c rs r × (r.flags ≡ f))
last-exactly c rs f = (
  λ e. subst (Told c rs) e (last-told c rs),
  λ w. let l = w.1 in
      ap (last_declared c) l.stands ∙ last-past c w.0 l.before l.after l.class-is l.flagged (last-none c l.after l.last) ∙ ap some w.2,
)

-- ---- casts

facts-exactly : (i a j b : Bool) → (cast_by_facts i a j b ≡ true) ↔ (((i ≡ true) × (j ≡ true)) ⊎ (((i ≡ true) × (b ≡ false)) ⊎ ((a ≡ false) × (j ≡ true))))
unfolding cast_by_facts
facts-exactly true a true b = (λ e. inl (refl, refl), λ w. refl)
facts-exactly true a false true = (λ e. absurd (false≢true e), λ w. ⊎_elim (λ p. p.1) (λ q. ⊎_elim (λ p. absurd (true≢false p.1)) (λ p. p.1) q) w)
facts-exactly true a false false = (λ e. inr (inl (refl, refl)), λ w. refl)
facts-exactly false true true b = (λ e. absurd (false≢true e), λ w. ⊎_elim (λ p. p.0) (λ q. ⊎_elim (λ p. p.0) (λ p. absurd (true≢false p.0)) q) w)
facts-exactly false false true b = (λ e. inr (inr (refl, refl)), λ w. refl)
facts-exactly false a false b = (λ e. absurd (false≢true e), λ w. ⊎_elim (λ p. p.0) (λ q. ⊎_elim (λ p. p.0) (λ p. p.1) q) w)

module _ (t : Rows) (s e : ℕ) where
  -- by the flags, where there are
  abbrev tested : Option ℕ → Option ℕ → Bool
  tested o p =
      (fact_from any_flags o false && fact_from any_flags p false)
      && cast_by_facts (fact_from interface_flag o false) (fact_from final_flag o false) (fact_from interface_flag p false) (fact_from final_flag p false)

  tested-facts : (tested (last_declared s t.records) (last_declared e t.records) ≡ true) ↔ ByFacts t s e
  tested-facts = (λ h. to (last_declared s t.records) refl (last_declared e t.records) refl h, from)
    where
      to : (o : Option ℕ) → last_declared s t.records ≡ o → (p : Option ℕ) → last_declared e t.records ≡ p → tested o p ≡ true → ByFacts t s e
      to none a p b h = absurd (false≢true h)
      to (some f) a none b h = absurd (false≢true h)
      to (some f) a (some k) b h =
          let x = (last-exactly s t.records f).0 a in
          let y = (last-exactly e t.records k).0 b in
          (x.0, y.0, x.1, y.1, subst (λ (i : ℕ). Castable i y.0.flags) (sym x.2) (subst (Castable f) (sym y.2) ((facts-exactly (interface_flag f) (final_flag f) (interface_flag k) (final_flag k)).0 h)))

      from : ByFacts t s e → tested (last_declared s t.records) (last_declared e t.records) ≡ true
      from w =
          let f = w.0.flags in
          let k = w.1.flags in
          ap (λ (o : Option ℕ). tested o (last_declared e t.records)) ((last-exactly s t.records f).1 (w.0, w.2, refl))
          ∙ ap (tested (some f)) ((last-exactly e t.records k).1 (w.1, w.3, refl))
          ∙ (facts-exactly (interface_flag f) (final_flag f) (interface_flag k) (final_flag k)).1 w.4

module _ (t : Rows) (g : Good (rows_view t)) (s e : ℕ) (hs : s < length t.names) (he : e < length t.names) where
  -- CAST: yes exactly for an ancestor either way round, or by the facts
  pub cast-rows : (cast (rows_view t) s e ≡ true) ↔ (Ancestor t s e ⊎ (Ancestor t e s ⊎ ByFacts t s e))
  unfolding cast rows_view
  cast-rows = (λ h. to (ancestor (rows_view t) s e) refl (ancestor (rows_view t) e s) refl h, λ w. from (ancestor (rows_view t) s e) refl (ancestor (rows_view t) e s) refl w)
    where
      facts : Bool
      facts = tested t s e (last_declared s t.records) (last_declared e t.records)

      to : (a : Bool) → ancestor (rows_view t) s e ≡ a → (b : Bool) → ancestor (rows_view t) e s ≡ b → ((a || b) || facts) ≡ true → Ancestor t s e ⊎ (Ancestor t e s ⊎ ByFacts t s e)
      to true p b q h = inl ((ancestor-rows t g s hs e).0 p)
      to false p true q h = inr (inl ((ancestor-rows t g e he s).0 q))
      to false p false q h = inr (inr ((tested-facts t s e).0 h))

      from : (a : Bool) → ancestor (rows_view t) s e ≡ a → (b : Bool) → ancestor (rows_view t) e s ≡ b → Ancestor t s e ⊎ (Ancestor t e s ⊎ ByFacts t s e) → ((a || b) || facts) ≡ true
      from true p b q w = refl
      from false p true q w = refl
      from false p false q w =
          ⊎_elim (λ x. absurd ((no-ancestor-rows t g s hs e).0 p x)) (λ y. ⊎_elim (λ x. absurd ((no-ancestor-rows t g e he s).0 q x)) (tested-facts t s e).1 y) w

module _ (t : Rows) (g : Good (rows_view t)) (left right : ℕ) (hl : left < length t.names) (hr : right < length t.names) where
  below-rows : (d c : ℕ) → d < length t.names → c < length t.names → below (rows_view t) d c ≡ false → StrictlyBelow t d c → ⊥
  below-rows d c hd hc e w =
      true≢false
      (sym (rw ((ancestor-rows t g d hd c).1 w.0, (no-ancestor-rows t g c hc d).1 w.1)) ∙ sym (below-tests (rows_view t) d c) ∙ e)

  -- IT IS THERE, A COMMON ANCESTOR WITH NONE STRICTLY BELOW
  pub supertype-rows : (c : ℕ) × (supertype (rows_view t) left right ≡ some c) × LeastCommon t left right c
  unfolding rows_view
  supertype-rows =
      let some_one = supertype-some (rows_view t) g left right hl hr in
      let c = some_one.0 in
      let least = supertype-least (rows_view t) g left right hl hr c some_one.1 in
      let Below-names = ancestor-below (rows_view t) g left c hl least.0.0 in (
        c,
        some_one.1,
        record {
          class-in = Below-names;
          left-up = (ancestor-rows t g left hl c).0 least.0.0;
          right-up = (ancestor-rows t g right hr c).0 least.0.1;
          none-below = λ d a b.
              let p = (ancestor-rows t g left hl d).1 a in
              let q = (ancestor-rows t g right hr d).1 b in
              below-rows d c (ancestor-below (rows_view t) g left d hl p) Below-names (least.1 d (p, q));
        },
      )

  -- right where it is an ancestor of left, else left where it is one of right
  pub supertype-right-rows : Ancestor t left right → supertype (rows_view t) left right ≡ some right
  supertype-right-rows a = supertype-right (rows_view t) left right ((ancestor-rows t g left hl right).1 a)

  pub supertype-left-rows : (Ancestor t left right → ⊥) → Ancestor t right left → supertype (rows_view t) left right ≡ some left
  supertype-left-rows f a = supertype-left (rows_view t) left right ((no-ancestor-rows t g left hl right).1 f) ((ancestor-rows t g right hr left).1 a)

  -- else, of the common ancestors with none strictly below, the nearest: by greater distance, sum, number
  pub supertype-nearest-rows : (Ancestor t left right → ⊥) → (Ancestor t right left → ⊥) → (c : ℕ) → supertype (rows_view t) left right ≡ some c
      → (d : ℕ) → LeastCommon t left right d → (d ≡ c) ⊎ (nearer (rows_view t) left right c d ≡ true)
  unfolding rows_view
  supertype-nearest-rows f k c e d l =
      supertype-nearest (rows_view t) g left right hl hr ((no-ancestor-rows t g left hl right).1 f) ((no-ancestor-rows t g right hr left).1 k) c e d
      ((ancestor-rows t g left hl d).1 l.left-up, (ancestor-rows t g right hr d).1 l.right-up)
      (λ z w. go z w (below (rows_view t) z d) refl)
    where
      go : (z : ℕ) → Common (rows_view t) left right z → (b : Bool) → below (rows_view t) z d ≡ b → b ≡ false
      go z w true b =
          let up = below-up (rows_view t) z d b in
          let hz = ancestor-below (rows_view t) g left z hl w.0 in
          absurd
          (l.none-below z ((ancestor-rows t g left hl z).0 w.0) ((ancestor-rows t g right hr z).0 w.1)
          ((ancestor-rows t g z hz d).0 up.0, (no-ancestor-rows t g d l.class-in z).0 up.1))
      go z w false b = refl

-- ---- types

number-is : (c : ℕ) (o : Option ℕ) → (is_number c o ≡ true) ↔ (o ≡ some c)
number-is c none = (λ e. absurd (false≢true e), λ e. absurd (let z : ◌≡◌ {A = ℕ} 0 1 = cc in omega arith))
number-is c (some d) = (λ e. ap some (sym (eqb-true c d e)), λ e. eq-eqb c d (let q : c ≡ d = cc in q))

module _ (t : Rows) (g : Good (rows_view t)) where
  -- THE WORLD OF A GOOD TABLE KEEPS THE FOUR LAWS that all of the types' laws ask
  pub rows-lawful : Lawful (rows_world t)
  unfolding rows_world
  rows-lawful = with-lawful (rows_view t) (place_of cloneable_name t.names) (place_of serializable_name t.names) g

  names-are : (rows_world t).names ≡ length t.names
  unfolding rows_world rows_view
  names-are = refl

  -- a join of legal types is legal
  pub join-rows-legal : (a b : ArgType) → legal_type (length t.names) a ≡ true → legal_type (length t.names) b ≡ true → legal_type (length t.names) (join (rows_world t) a b) ≡ true
  unfolding rows_world rows_view
  join-rows-legal = join-legal (rows_world t) rows-lawful

  -- two concrete types are assignable to their join
  pub join-rows-above : (a b : ArgType) → legal_type (length t.names) a ≡ true → legal_type (length t.names) b ≡ true → is_concrete a ≡ true → is_concrete b ≡ true
      → (is_assignable (rows_world t) a (join (rows_world t) a b) ≡ true) × (is_assignable (rows_world t) b (join (rows_world t) a b) ≡ true)
  unfolding rows_world rows_view
  join-rows-above a b h i = join-above (rows_world t) rows-lawful a b (legal-base (length t.names) a h) (legal-base (length t.names) b i)

  -- the join of two classes is a least common supertype of them
  pub join-rows-classes : (c d : ℕ) → c < length t.names → d < length t.names → (e : ℕ) × (join (rows_world t) (Object c) (Object d) ≡ Object e) × LeastCommon t c d e
  unfolding join join_apart rows_world
  join-rows-classes c d hc hd = go (same_type (Object c) (Object d)) refl
    where
      go : (b : Bool) → same_type (Object c) (Object d) ≡ b → (e : ℕ) × (cond b (Object c) (class_or (rows_world t).object (supertype (rows_view t) c d)) ≡ Object e) × LeastCommon t c d e
      go true q =
          let k = (same-exactly (Object c) (Object d)).0 q in
          let e : c ≡ d = cc in
          (c, refl, record { class-in = hc; left-up = inr (0, stay); right-up = inr (0, subst (λ (z : ℕ). Way t 0 z c) e stay); none-below = λ z a b w. w.1 a })
      go false q = let s = supertype-rows t g c d hc hd in (s.0, ap (class_or (rows_view t).object) s.1, s.2)

  -- one class is not assignable to another exactly if the relation is No
  pub assignable-rows-classes : (c d : ℕ) → c < length t.names → (is_assignable (rows_world t) (Object c) (Object d) ≡ false) ↔ ((Ancestor t c d → ⊥) × Whole t c)
  unfolding rows_world
  assignable-rows-classes c d h =
      let r = refused-exactly (rows_world t) rows-lawful c d in
      let n = no-rows t g c h d in
      (λ e. n.0 (r.0 e), λ w. r.1 (n.1 w))

  -- an array is assignable to a class exactly if the class is Object, Cloneable or Serializable
  pub assignable-rows-array : (u : ArgType) (c : ℕ)
      → (is_assignable (rows_world t) (Array u) (Object c) ≡ true) ↔ (IsObject t c ⊎ ((place_of cloneable_name t.names ≡ some c) ⊎ (place_of serializable_name t.names ≡ some c)))
  unfolding rows_world array_parent
  assignable-rows-array u c = (
    λ e. to (eqb c (rows_view t).object) refl (is_number c (place_of cloneable_name t.names)) refl (is_number c (place_of serializable_name t.names)) refl (sym (array-class (rows_world t) u c) ∙ e),
    λ w. array-class (rows_world t) u c
        ∙ ⊎_elim (λ o. rw (eq-eqb c (rows_view t).object ((object-exactly t g c).1 o)))
        (λ y.
        ⊎_elim (λ k. rw ((number-is c (place_of cloneable_name t.names)).1 k, or-true (eqb c (rows_view t).object)))
        (λ k. rw ((number-is c (place_of serializable_name t.names)).1 k, or-true (is_number c (place_of cloneable_name t.names)), or-true (eqb c (rows_view t).object))) y) w,
  )
    where
      to : (a : Bool) → eqb c (rows_view t).object ≡ a → (b : Bool) → is_number c (place_of cloneable_name t.names) ≡ b → (d : Bool) → is_number c (place_of serializable_name t.names) ≡ d
          → (a || (b || d)) ≡ true → IsObject t c ⊎ ((place_of cloneable_name t.names ≡ some c) ⊎ (place_of serializable_name t.names ≡ some c))
      to true p b q d r e = inl ((object-exactly t g c).0 (eqb-true c (rows_view t).object p))
      to false p true q d r e = inr (inl ((number-is c (place_of cloneable_name t.names)).0 q))
      to false p false q true r e = inr (inr ((number-is c (place_of serializable_name t.names)).0 r))
      to false p false q false r e = absurd (false≢true e)
