-- TIDY: what holds of the table and the queue at every insertion of a run, and so what code may count on: the table is strictly ascending,
-- within 4,096, and its bounds have a component of the problem, a kind and a legal type; the queue has components of the problem, none
-- twice. Over a good view, and links among the components.
use Rattle.std.specs.Prelude.{◌≡◌, Bool, cond, ℕ, ◌+◌, ◌≤◌, length, take, drop}
use Rattle.std.proofs.Math.Path.{refl, ap, subst}
use Rattle.std.proofs.Common.{sym, ◌∙◌, arith, length-take, length-drop, eqb-true, ltb-true, lt-ltb}
use Rattle.std.proofs.Math.Bool.{true, false}
use mathlib.Core.List.Memᴰ
use mathlib.Core.List.{List, [], ◌∷◌, ◌++◌, Memᴰ}
use Rattle.std.proofs.Math.Logic.{⊎_elim}
use Rattle.std.proofs.Math.Option.{Option, some, none}
use Rattle.std.proofs.Math.Dec.{eqb}
use Rattle.ty.specs.Types.{ArgType, Primitive, Object, Array, Unknown, element, is_concrete}
use Rattle.ty.specs.Words.{legal_at_base, legal_type}
use Rattle.ty.specs.Round.{legal-type-more}
use Rattle.view.specs.View.{numbers}
use Rattle.lattice.specs.Lattice.{World, Lawful, most_specific_upper}
use Rattle.lattice.specs.Legality.{legal-base, legal-both, join_all-legal, specific-legal}
use Rattle.solving.specs.Ordered.{insert}
use Rattle.solving.proofs.OrderedLaws.{insert-only, insert-length, insert-ascending, ascending-part, member-part}
use Rattle.solving.proofs.Orders.{bounds-total}
use Rattle.solving.proofs.Queue.{pigeon, below-more, enqueue-distinct, enqueue-below}
use Rattle.solving.specs.Inserts.{New}
use Rattle.solving.proofs.Inserts.{all-keeps-of, run-keeps}
use Rattle.solving.proofs.Chains.{types-only}
use Rattle.solving.specs.Solving.{Domain, Fallback, Upper, Lower, Exact, Bound, bound, Table, compare_bounds, types_of, TypeState, state_of, evidence, produced_type, or_else, only_concrete, element_of, list_of, array_element, array_of, produced_array, Pair, Links, partners, Addition, to_one, to_each, array_rules, additions, room, enqueue, Going, turn, Ended, propagate}
use Rattle.solving.specs.Tidy.{LegalBound, Given, Tidy, Among}

-- SO THE QUEUE IS NO LONGER THAN THE COMPONENTS
pub queue-room : (names n : ℕ) (t : Table) (q : List ℕ) → Tidy names n t q → length q ≤ n
queue-room names n t q y = pigeon n q y.distinct y.below

-- ---- kept by what a run does

module _ (names n : ℕ) where
  -- ONE INSERTION KEEPS IT
  pub insert-tidy : (b : Bound) (t : Table) (q : List ℕ) → Given names n b → New b t → Tidy names n t q
      → Tidy names n (insert compare_bounds b t) (enqueue b.component q)
  insert-tidy b t q g new y = record {
    ascends = insert-ascending compare_bounds bounds-total b t y.ascends;
    fits = omega (arith, insert-length compare_bounds b t new.absent, new.fits);
    legal = λ x m. ⊎_elim (λ e. subst (LegalBound names n) (sym e) own) (y.legal x) (insert-only compare_bounds b x t m);
    distinct = enqueue-distinct b.component q y.distinct;
    below = enqueue-below n b.component q g.component y.below;
  }
    where
      own : LegalBound names n b
      own = record { component = g.component; kind = g.kind; type = legal-both names b.type new.flat g.base }

  -- TAKING THE FRONT KEEPS IT
  pub front-tidy : (root : ℕ) (t : Table) (q : List ℕ) → Tidy names n t (root ∷ q) → Tidy names n t q
  front-tidy root t q y = record { ascends = y.ascends; fits = y.fits; legal = y.legal; distinct = y.distinct.1; below = y.below.1 }

  -- A PART OF A TIDY TABLE IS TIDY
  pub part-tidy : (t : Table) (q : List ℕ) (a b : ℕ) → Tidy names n t q → Tidy names n (take b (drop a t)) q
  part-tidy t q a b y = record {
    ascends = ascending-part compare_bounds bounds-total a b t y.ascends;
    fits = omega (arith, length-take b (drop a t), length-drop a t, y.fits);
    legal = λ x m. y.legal x (member-part x a b t m);
    distinct = y.distinct;
    below = y.below;
  }

-- ---- over more names and components: code counts on the limits alone, `Tidy 1024 512`

base-more : (names more : ℕ) (t : ArgType) → names ≤ more → legal_at_base names t ≡ true → legal_at_base more t ≡ true
unfolding legal_at_base
base-more names more (Primitive k) m h = h
base-more names more (Object c) m h = let b = ltb-true c names h in lt-ltb c more (omega arith)
base-more names more (Array t) m h = base-more names more t m h
base-more names more (Unknown cs) m h = h

module _ (names more n m : ℕ) (few : names ≤ more) (within : n ≤ m) where
  pub given-more : (b : Bound) → Given names n b → Given more m b
  given-more b g = let c = g.component in record { component = omega arith; kind = g.kind; base = base-more names more b.type few g.base }

  pub tidy-more : (t : Table) (q : List ℕ) → Tidy names n t q → Tidy more m t q
  tidy-more t q y = record {
    ascends = y.ascends;
    fits = y.fits;
    legal = λ b i. let g = y.legal b i in let c = g.component in record { component = omega arith; kind = g.kind; type = legal-type-more names more b.type few g.type };
    distinct = y.distinct;
    below = below-more n m q within y.below;
  }

-- ---- what the rules give, by cases

module _ (P : Addition → Type 0) where
  pub one-by : (rule kind : ℕ) (ts : List ArgType) (c : ℕ) → ((u : ArgType) → Memᴰ u ts → P (record { rule = rule; adds = bound c kind u }))
      → (a : Addition) → Memᴰ a (to_one rule kind ts c) → P a
  unfolding to_one
  one-by rule kind [] c f a m = absurd (Memᴰ.not-nil m)
  one-by rule kind (t ∷ ts) c f a m =
      ⊎_elim (λ e. subst P (sym e) (f t (Memᴰ.head refl))) (one-by rule kind ts c (λ u n. f u (Memᴰ.tail n)) a) (Memᴰ.cases_cons m)

  pub each-by : (rule kind : ℕ) (ts : List ArgType) (cs : List ℕ) → ((c : ℕ) → Memᴰ c cs → (u : ArgType) → Memᴰ u ts → P (record { rule = rule; adds = bound c kind u }))
      → (a : Addition) → Memᴰ a (to_each rule kind ts cs) → P a
  unfolding to_each
  each-by rule kind ts [] f a m = absurd (Memᴰ.not-nil m)
  each-by rule kind ts (c ∷ cs) f a m =
      ⊎_elim (one-by rule kind ts c (f c (Memᴰ.head refl)) a) (each-by rule kind ts cs (λ d n. f d (Memᴰ.tail n)) a)
      (Memᴰ.append_cases (to_one rule kind ts c) m)

  pub arrays-by : (near kind : ℕ) (elements : List ArgType) (far : ℕ) (arrays : List ArgType) (root : ℕ) (ps : List Pair)
      → ((p : Pair) → Memᴰ p ps → p.0 ≡ root → (u : ArgType) → Memᴰ u elements → P (record { rule = near; adds = bound p.1 kind u }))
      → ((p : Pair) → Memᴰ p ps → p.1 ≡ root → (u : ArgType) → Memᴰ u arrays → P (record { rule = far; adds = bound p.0 Lower u }))
      → (a : Addition) → Memᴰ a (array_rules near kind elements far arrays root ps) → P a
  unfolding array_rules
  arrays-by near kind elements far arrays root [] f g a m = absurd (Memᴰ.not-nil m)
  arrays-by near kind elements far arrays root (p ∷ ps) f g a m =
      ⊎_elim (own (eqb p.0 root) refl (eqb p.1 root) refl) (arrays-by near kind elements far arrays root ps (λ r n. f r (Memᴰ.tail n)) (λ r n. g r (Memᴰ.tail n)) a)
      (Memᴰ.append_cases (cond (eqb p.0 root) (to_one near kind elements p.1) (cond (eqb p.1 root) (to_one far Lower arrays p.0) [])) m)
    where
      own : (x : Bool) → eqb p.0 root ≡ x → (y : Bool) → eqb p.1 root ≡ y → Memᴰ a (cond x (to_one near kind elements p.1) (cond y (to_one far Lower arrays p.0) [])) → P a
      own true e y q n = one-by near kind elements p.1 (f p (Memᴰ.head refl) (eqb-true p.0 root e)) a n
      own false e true q n = one-by far Lower arrays p.0 (g p (Memᴰ.head refl) (eqb-true p.1 root q)) a n
      own false e false q n = absurd (Memᴰ.not-nil n)

  -- WHAT IS SHOWN OF EACH RULE IS SHOWN OF ALL THAT A TURN INSERTS
  pub additions-by : (w : World) (l : Links) (root : ℕ) (s : TypeState)
      → ((c : ℕ) → Memᴰ c (partners root l.flows) → (u : ArgType) → Memᴰ u (list_of (produced_type w s)) → P (record { rule = 1; adds = bound c Lower u }))
      → ((c : ℕ) → Memᴰ c (partners root l.flows) → (u : ArgType) → Memᴰ u s.fallback → P (record { rule = 2; adds = bound c Fallback u }))
      → ((c : ℕ) → Memᴰ c (partners root l.incoming) → (u : ArgType) → Memᴰ u (s.upper ++ s.exact) → P (record { rule = 3; adds = bound c Upper u }))
      → ((p : Pair) → Memᴰ p l.reads → p.0 ≡ root → (u : ArgType) → Memᴰ u (list_of (array_element w s)) → P (record { rule = 4; adds = bound p.1 Exact u }))
      → ((p : Pair) → Memᴰ p l.reads → p.1 ≡ root → (u : ArgType) → Memᴰ u (produced_array w s) → P (record { rule = 5; adds = bound p.0 Lower u }))
      → ((p : Pair) → Memᴰ p l.writes → p.0 ≡ root → (u : ArgType) → Memᴰ u (list_of (array_element w s)) → P (record { rule = 6; adds = bound p.1 Upper u }))
      → ((p : Pair) → Memᴰ p l.writes → p.1 ≡ root → (u : ArgType) → Memᴰ u (produced_array w s) → P (record { rule = 7; adds = bound p.0 Lower u }))
      → (a : Addition) → Memᴰ a (additions w l root s) → P a
  unfolding additions
  additions-by w l root s r1 r2 r3 r4 r5 r6 r7 a m =
      ⊎_elim (each-by 1 Lower (list_of (produced_type w s)) (partners root l.flows) r1 a)
      (λ m2. ⊎_elim (each-by 2 Fallback s.fallback (partners root l.flows) r2 a)
      (λ m3. ⊎_elim (each-by 3 Upper (s.upper ++ s.exact) (partners root l.incoming) r3 a)
      (λ m4. ⊎_elim (arrays-by 4 Exact (list_of (array_element w s)) 5 (produced_array w s) root l.reads r4 r5 a)
      (arrays-by 6 Upper (list_of (array_element w s)) 7 (produced_array w s) root l.writes r6 r7 a)
      (Memᴰ.append_cases (array_rules 4 Exact (list_of (array_element w s)) 5 (produced_array w s) root l.reads) m4))
      (Memᴰ.append_cases (to_each 3 Upper (s.upper ++ s.exact) (partners root l.incoming)) m3))
      (Memᴰ.append_cases (to_each 2 Fallback s.fallback (partners root l.flows)) m2))
      (Memᴰ.append_cases (to_each 1 Lower (list_of (produced_type w s)) (partners root l.flows)) m)

-- a partner is the second of a pair
pub partner-of : (c d : ℕ) (ps : List Pair) → Memᴰ d (partners c ps) → Memᴰ {A = Pair} (c, d) ps
unfolding partners
partner-of c d [] m = absurd (Memᴰ.not-nil m)
partner-of c d (p ∷ ps) m = go (eqb p.0 c) refl m (partner-of c d ps)
  where
    go : (x : Bool) → eqb p.0 c ≡ x → Memᴰ d (cond x (p.1 ∷ partners c ps) (partners c ps)) → (Memᴰ d (partners c ps) → Memᴰ {A = Pair} (c, d) ps)
        → Memᴰ {A = Pair} (c, d) (p ∷ ps)
    go true e n ih = ⊎_elim (λ q. Memᴰ.head (λ i. (sym (eqb-true p.0 c e) i, q i))) (λ k. Memᴰ.tail (ih k)) (Memᴰ.cases_cons n)
    go false e n ih = Memᴰ.tail (ih n)

-- ---- legality of what is given

list-of : (o : Option ArgType) (u : ArgType) → Memᴰ u (list_of o) → o ≡ some u
list-of none u m = absurd (Memᴰ.not-nil m)
list-of (some t) u m = ⊎_elim (λ e. ap some (sym e)) (λ n. absurd (Memᴰ.not-nil n)) (Memᴰ.cases_cons m)

array-of : (o : Option ArgType) (u : ArgType) → Memᴰ u (array_of (only_concrete o)) → (t : ArgType) × (o ≡ some t) × (u ≡ Array t)
array-of none u m = absurd (Memᴰ.not-nil m)
array-of (some t) u m = go (is_concrete t) m
  where
    go : (b : Bool) → Memᴰ u (array_of (cond b (some t) none)) → (x : ArgType) × (some t ≡ some x) × (u ≡ Array x)
    go true n = ⊎_elim (λ e. (t, refl, e)) (λ k. absurd (Memᴰ.not-nil k)) (Memᴰ.cases_cons n)
    go false n = absurd (Memᴰ.not-nil n)

element-of : (o : Option ArgType) (u : ArgType) → element_of o ≡ some u → o ≡ some (Array u)
unfolding element
element-of none u h = absurd (let z : ◌≡◌ {A = ℕ} 0 1 = cc in omega arith)
element-of (some (Primitive k)) u h = absurd (let z : ◌≡◌ {A = ℕ} 0 1 = cc in omega arith)
element-of (some (Object c)) u h = absurd (let z : ◌≡◌ {A = ℕ} 0 1 = cc in omega arith)
element-of (some (Array t)) u h = ap (λ (x : ArgType). some (Array x)) (let e : t ≡ u = cc in e)
element-of (some (Unknown cs)) u h = absurd (let z : ◌≡◌ {A = ℕ} 0 1 = cc in omega arith)

module _ (w : World) (good : Lawful w) where
  abbrev AllLegal : List ArgType → Type 0
  AllLegal ts = (u : ArgType) → Memᴰ u ts → legal_type w.names u ≡ true

  pub record LegalState (s : TypeState) : Type 0 where
    pub exact : AllLegal s.exact
    pub lower : AllLegal s.lower
    pub upper : AllLegal s.upper
    pub domain : AllLegal s.domain
    pub fallback : AllLegal s.fallback

  evidence-legal : (exact lower : List ArgType) → AllLegal exact → AllLegal lower → AllLegal (evidence exact lower)
  evidence-legal [] lower e l = l
  evidence-legal (t ∷ ts) lower e l = e

  module _ (s : TypeState) (y : LegalState s) where
    pub produced-legal : (u : ArgType) → produced_type w s ≡ some u → legal_type w.names u ≡ true
    unfolding produced_type
    produced-legal u h = join_all-legal w good (evidence s.exact s.lower) u h (evidence-legal s.exact s.lower y.exact y.lower)

    array-base : (u : ArgType) → legal_type w.names (Array u) ≡ true → legal_at_base w.names u ≡ true
    unfolding legal_at_base
    array-base u h = legal-base w.names (Array u) h

    element-base : (u : ArgType) → array_element w s ≡ some u → legal_at_base w.names u ≡ true
    unfolding array_element
    element-base u h = go (produced_type w s) refl (element-of (or_else (produced_type w s) (most_specific_upper w s.upper)) u h)
      where
        go : (o : Option ArgType) → produced_type w s ≡ o → or_else o (most_specific_upper w s.upper) ≡ some (Array u) → legal_at_base w.names u ≡ true
        go none e k = array-base u (specific-legal w good s.upper (Array u) k y.upper)
        go (some t) e k = array-base u (produced-legal (Array u) (e ∙ k))

    array-given : (u : ArgType) → Memᴰ u (produced_array w s) → legal_at_base w.names u ≡ true
    unfolding produced_array legal_at_base
    array-given u m =
        let r = array-of (produced_type w s) u m in
        ap (legal_at_base w.names) r.2 ∙ legal-base w.names r.0 (produced-legal r.0 r.1)

    both-legal : AllLegal (s.upper ++ s.exact)
    both-legal u m = ⊎_elim (y.upper u) (y.exact u) (Memᴰ.append_cases s.upper m)

    -- WHAT A RULE GIVES FROM A LEGAL STATE
    pub additions-given : (n : ℕ) (l : Links) → Among n l → (root : ℕ) → (a : Addition) → Memᴰ a (additions w l root s) → Given w.names n a.adds
    additions-given n l among root =
        additions-by (λ a. Given w.names n a.adds) w l root s
        (λ c m u k. record { component = among.flows (root, c) (partner-of root c l.flows m); kind = omega arith; base = legal-base w.names u (produced-legal u (list-of (produced_type w s) u k)) })
        (λ c m u k. record { component = among.flows (root, c) (partner-of root c l.flows m); kind = omega arith; base = legal-base w.names u (y.fallback u k) })
        (λ c m u k. record { component = among.incoming (root, c) (partner-of root c l.incoming m); kind = omega arith; base = legal-base w.names u (both-legal u k) })
        (λ p m e u k. record { component = (among.reads p m).1; kind = omega arith; base = element-base u (list-of (array_element w s) u k) })
        (λ p m e u k. record { component = (among.reads p m).0; kind = omega arith; base = array-given u k })
        (λ p m e u k. record { component = (among.writes p m).1; kind = omega arith; base = element-base u (list-of (array_element w s) u k) })
        (λ p m e u k. record { component = (among.writes p m).0; kind = omega arith; base = array-given u k })

  module _ (n : ℕ) where
    -- the state of a component of a tidy table
    pub tidy-state : (t : Table) (q : List ℕ) → Tidy w.names n t q → (c : ℕ) → LegalState (state_of t c)
    unfolding state_of
    tidy-state t q y c = record { exact = types Exact; lower = types Lower; upper = types Upper; domain = types Domain; fallback = types Fallback }
      where
        types : (k : ℕ) → AllLegal (types_of c k t)
        types k u m = (y.legal (bound c k u) (types-only c k u t m)).type

    module _ (l : Links) (among : Among n l) where
      -- SO DOES A TURN
      pub turn-tidy : (root : ℕ) (t : Table) (q : List ℕ) (t' : Table) (q' : List ℕ) → turn w l root t q ≡ Going t' q' → Tidy w.names n t q → Tidy w.names n t' q'
      unfolding turn
      turn-tidy root t q t' q' h y =
          all-keeps-of (Given w.names n) (Tidy w.names n) (insert-tidy w.names n) (additions w l root (state_of t root))
          (additions-given (state_of t root) (tidy-state t q y root) n l among root) t q t' q' h y

      -- AND A RUN
      pub propagate-tidy : (t t' : Table) (q' : List ℕ) (m : ℕ) → propagate w l n t ≡ Ended t' q' m → Tidy w.names n t (numbers 0 n) → Tidy w.names n t' q'
      unfolding propagate
      propagate-tidy t t' q' m h =
          run-keeps w l (λ k u r. Tidy w.names n u r) (λ k root u r u' r' e y. turn-tidy root u r u' r' e (front-tidy w.names n root u r y)) (n + room) 0 t (numbers 0 n) t' q' m h
