-- WHAT HOLDS OF ANY CLOSED TABLE, whoever made it: along a chain of one or more flows and upper flows every upper or exact bound at its
-- end is an upper bound at its start, so the answer at the start fits it. Assumes nothing of the table but that it is closed.
use Rattle.std.specs.Prelude.{◌≡◌, refl, Bool, true, false, cond, ◌⊎◌, ℕ, eqb}
use Rattle.std.proofs.Common.{sym, ap, subst, inl, ⊎_elim, eq-eqb, eqb-true}
use mathlib.Core.List.Memᴰ
use mathlib.Core.List.{List, [], ◌∷◌, ◌++◌, Memᴰ}
use Rattle.std.proofs.Math.Option.{some}
use Rattle.ty.specs.Types.{ArgType}
use Rattle.lattice.specs.Lattice.{World}
use Rattle.solving.proofs.OrderedLaws.{set-has}
use Rattle.solving.proofs.Orders.{pairs-total}
use Rattle.solving.specs.Closed.{Closed}
use Rattle.solving.specs.Ways.{Fitting}
use Rattle.solving.proofs.Ways.{answer-fits}
use Rattle.solving.specs.Solving.{Bound, bound, Table, types_of, TypeState, state_of, produced_type, array_element, produced_array, list_of, Pair, compare_pairs, Links, partners, to_one, to_each, array_rules, additions, resolve_state, Problem, swapped, links_of, Fallback, Upper, Lower, Exact}
use Rattle.solving.specs.Chains.{Link, Chain, Chain.last, Chain.on, Within, Demand}

-- ---- a component's types of a kind are those of its bounds

pub types-has : (c k : ℕ) (u : ArgType) (t : Table) → Memᴰ (bound c k u) t → Memᴰ u (types_of c k t)
unfolding types_of
types-has c k u [] m = absurd (Memᴰ.not-nil m)
types-has c k u (b ∷ bs) m = ⊎_elim (λ e. own e) (λ n. past (eqb b.component c) (eqb b.kind k) (types-has c k u bs n)) (Memᴰ.cases_cons m)
  where
    own : bound c k u ≡ b → Memᴰ u (cond (eqb b.component c) (cond (eqb b.kind k) (b.type ∷ types_of c k bs) (types_of c k bs)) (types_of c k bs))
    own e =
        rw (eq-eqb b.component c (ap (λ (x : Bound). x.component) (sym e)), eq-eqb b.kind k (ap (λ (x : Bound). x.kind) (sym e)))
        (Memᴰ.head (ap (λ (x : Bound). x.type) e))

    past : (x y : Bool) → Memᴰ u (types_of c k bs) → Memᴰ u (cond x (cond y (b.type ∷ types_of c k bs) (types_of c k bs)) (types_of c k bs))
    past true true n = Memᴰ.tail n
    past true false n = n
    past false y n = n

pub types-only : (c k : ℕ) (u : ArgType) (t : Table) → Memᴰ u (types_of c k t) → Memᴰ (bound c k u) t
unfolding types_of
types-only c k u [] m = absurd (Memᴰ.not-nil m)
types-only c k u (b ∷ bs) m = go (eqb b.component c) refl (eqb b.kind k) refl m (types-only c k u bs)
  where
    go : (x : Bool) → eqb b.component c ≡ x → (y : Bool) → eqb b.kind k ≡ y
        → Memᴰ u (cond x (cond y (b.type ∷ types_of c k bs) (types_of c k bs)) (types_of c k bs)) → (Memᴰ u (types_of c k bs) → Memᴰ (bound c k u) bs)
        → Memᴰ (bound c k u) (b ∷ bs)
    go true e true f n ih =
        ⊎_elim (λ q. Memᴰ.head (λ i. record { component = sym (eqb-true b.component c e) i; kind = sym (eqb-true b.kind k f) i; type = q i }))
        (λ j. Memᴰ.tail (ih j)) (Memᴰ.cases_cons n)
    go true e false f n ih = Memᴰ.tail (ih n)
    go false e y f n ih = Memᴰ.tail (ih n)

-- ---- what the rules give

pub to-one : (rule kind : ℕ) (ts : List ArgType) (c : ℕ) (u : ArgType) → Memᴰ u ts → Memᴰ (record { rule = rule; adds = bound c kind u }) (to_one rule kind ts c)
unfolding to_one
to-one rule kind [] c u m = absurd (Memᴰ.not-nil m)
to-one rule kind (t ∷ ts) c u m =
    ⊎_elim (λ e. Memᴰ.head (ap (λ (x : ArgType). record { rule = rule; adds = bound c kind x }) e)) (λ n. Memᴰ.tail (to-one rule kind ts c u n)) (Memᴰ.cases_cons m)

pub to-each : (rule kind : ℕ) (ts : List ArgType) (cs : List ℕ) (c : ℕ) (u : ArgType) → Memᴰ c cs → Memᴰ u ts
    → Memᴰ (record { rule = rule; adds = bound c kind u }) (to_each rule kind ts cs)
unfolding to_each
to-each rule kind ts [] c u m n = absurd (Memᴰ.not-nil m)
to-each rule kind ts (d ∷ cs) c u m n =
    ⊎_elim (λ e. Memᴰ.append_left (to_each rule kind ts cs) (subst (λ (x : ℕ). Memᴰ (record { rule = rule; adds = bound c kind u }) (to_one rule kind ts x)) e (to-one rule kind ts c u n)))
    (λ k. Memᴰ.append_right (to_one rule kind ts d) (to-each rule kind ts cs c u k n)) (Memᴰ.cases_cons m)

pub partner : (c d : ℕ) (ps : List Pair) → Memᴰ {A = Pair} (c, d) ps → Memᴰ d (partners c ps)
unfolding partners
partner c d [] m = absurd (Memᴰ.not-nil m)
partner c d (p ∷ ps) m = ⊎_elim (λ e. own e) (λ n. past (eqb p.0 c) (partner c d ps n)) (Memᴰ.cases_cons m)
  where
    own : ◌≡◌ {A = Pair} (c, d) p → Memᴰ d (cond (eqb p.0 c) (p.1 ∷ partners c ps) (partners c ps))
    own e = rw (eq-eqb p.0 c (ap (λ (x : Pair). x.0) (sym e))) (Memᴰ.head (ap (λ (x : Pair). x.1) e))

    past : (x : Bool) → Memᴰ d (partners c ps) → Memᴰ d (cond x (p.1 ∷ partners c ps) (partners c ps))
    past true n = Memᴰ.tail n
    past false n = n

-- RULE 3: upper and exact to each source
module _ (w : World) (l : Links) (root : ℕ) (s : TypeState) where
  pub third-rule : (c : ℕ) (u : ArgType) → Memᴰ c (partners root l.incoming) → Memᴰ u (s.upper ++ s.exact)
      → Memᴰ (record { rule = 3; adds = bound c Upper u }) (additions w l root s)
  unfolding additions
  third-rule c u m n =
      Memᴰ.append_right (to_each 1 Lower (list_of (produced_type w s)) (partners root l.flows))
      (Memᴰ.append_right (to_each 2 Fallback s.fallback (partners root l.flows))
      (Memᴰ.append_left
      (array_rules 4 Exact (list_of (array_element w s)) 5 (produced_array w s) root l.reads
      ++ array_rules 6 Upper (list_of (array_element w s)) 7 (produced_array w s) root l.writes)
      (to-each 3 Upper (s.upper ++ s.exact) (partners root l.incoming) c u m n)))

pub swapped-has : (c d : ℕ) (ps : List Pair) → Memᴰ {A = Pair} (c, d) ps → Memᴰ {A = Pair} (d, c) (swapped ps)
unfolding swapped
swapped-has c d [] m = absurd (Memᴰ.not-nil m)
swapped-has c d (p ∷ ps) m =
    ⊎_elim (λ e. Memᴰ.head (λ i. ((e i).1, (e i).0))) (λ n. Memᴰ.tail (swapped-has c d ps n)) (Memᴰ.cases_cons m)

module _ (p : Problem) where
  -- who flows to d is among its sources
  link-source : (c d : ℕ) → Link p c d → Memᴰ c (partners d (links_of p).incoming)
  unfolding links_of
  link-source c d k =
      partner d c (links_of p).incoming
      (set-has compare_pairs pairs-total (d, c) (swapped (p.flows ++ p.upper_flows))
      (swapped-has c d (p.flows ++ p.upper_flows) (⊎_elim (λ m. Memᴰ.append_left p.upper_flows m) (λ m. Memᴰ.append_right p.flows m) k)))

  module _ (w : World) (t : Table) (z : Closed w (links_of p) p.components t) (within : Within p) where
    link-upper : (c d : ℕ) (u : ArgType) → Link p c d → Demand t d u → Memᴰ (bound c Upper u) t
    unfolding state_of
    link-upper c d u k m =
        z d (within c d k) (record { rule = 3; adds = bound c Upper u })
        (third-rule w (links_of p) d (state_of t d) c u (link-source c d k)
        (⊎_elim (λ n. Memᴰ.append_left (types_of d Exact t) (types-has d Upper u t n)) (λ n. Memᴰ.append_right (types_of d Upper t) (types-has d Exact u t n)) m))

    -- AN UPPER OR EXACT BOUND AT THE END OF A CHAIN IS AN UPPER BOUND AT ITS START
    pub chain-upper : (c d : ℕ) (u : ArgType) → Chain p c d → Demand t d u → Memᴰ (bound c Upper u) t
    chain-upper c d u (last k) m = link-upper c d u k m
    chain-upper c d u (on {d = e} k r) m = link-upper c e u k (inl (chain-upper e d u r m))

    -- SO THE ANSWER AT THE START IS ASSIGNABLE TO IT, OR BOTH ARE REFERENCES
    pub chain-fits : (c d : ℕ) (u v : ArgType) → Chain p c d → Demand t d u → resolve_state w (state_of t c) ≡ some v → Fitting w v u
    unfolding state_of
    chain-fits c d u v r m h = answer-fits w (state_of t c) v h u (types-has c Upper u t (chain-upper c d u r m))
