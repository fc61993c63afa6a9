-- A pass by index, over the slices: each step puts what one target gets, and the store stays ready while nothing is refused.
use Rattle.std.specs.Prelude.{◌≡◌, Bool, cond, ℕ, zero, suc, ◌+◌, ◌-◌, ◌/◌, ◌%◌, ◌≤◌, ◌<◌, eqb, length, take, drop, get_or}
use Rattle.std.proofs.Common.{sym, ◌∙◌, subst, ⊎_elim, arith, add-one, drop_of_length-le}
use Rattle.std.proofs.Math.Path.{ap}
use Rattle.std.proofs.Math.Bool.{true, false}
use mathlib.Core.List.Memᴰ
use mathlib.Core.List.{List, [], ◌∷◌, map, Memᴰ}
use Rattle.std.proofs.Math.ListN.{length-map, get_or-map}
use Rattle.std.proofs.Math.Seq.{drop-cons, take-length}
use borrow.Author.Tests.{eq-eqb, ne_eqb}
use Rattle.sorted.specs.declared.Span.{Span}
use Rattle.sorted.specs.Sorted.{Sorted, run_of}
use Rattle.sorted.specs.Places.{run-within}
use Rattle.ty.specs.Types.{ArgType}
use Rattle.ty.specs.Words.{legal_at_base}
use Rattle.keys.specs.Rank.{unrank}
use Rattle.lattice.specs.Legality.{legal-base}
use Rattle.solving.specs.Queue.{Below}
use Rattle.solving.specs.Tidy.{Given}
use Rattle.solving.proofs.Tidy.{one-by}
use Rattle.solving.specs.LinkKeys.{pair_of}
use Rattle.solving.proofs.LinkKeys.{partners-run}
use Rattle.solving.specs.Steps.{array_rule}
use Rattle.solving.specs.Solving.{Lower, bound, Pair, partners, Addition, to_one, to_each, array_rules}
use Rattle.inserting.specs.Store.{Store, put_bound, put_all, Ranked, AllRanked, Ready}
use Rattle.inserting.specs.Laws.{all-put, put-append, AllGiven, all-ready}
use Rattle.passing.specs.Passes.{second, seconds}

-- ---- what is sent may be given

abbrev pub AllBase : List ArgType → Type 0
AllBase ts = (u : ArgType) → Memᴰ u ts → legal_at_base 1024 u ≡ true

pub one-given : (kind c : ℕ) (ts : List ArgType) → kind < 5 → c < 512 → AllBase ts → AllGiven (to_one 0 kind ts c)
one-given kind c ts l m g = one-by (λ a. Given 1024 512 a.adds) 0 kind ts c (λ u n. record { component = m; kind = l; base = g u n })

pub ranked-at : (rs : List ℕ) (i : ℕ) → AllRanked rs → i < length rs → Ranked (get_or rs i 0)
ranked-at [] i g h = absurd (omega arith)
ranked-at (r ∷ rs) zero g h = g.0
ranked-at (r ∷ rs) (suc i) g h = ranked-at rs i g.1 (omega arith)

pub ranked-base : (rs : List ℕ) → AllRanked rs → AllBase (map unrank rs)
ranked-base [] g u m = absurd (Memᴰ.not-nil m)
ranked-base (r ∷ rs) g u m = ⊎_elim (λ e. ap (legal_at_base 1024) e ∙ legal-base 1024 (unrank r) g.0.legal) (ranked-base rs g.1 u) (Memᴰ.cases_cons m)

pub ranked-one : (r : ℕ) → Ranked r → AllBase (unrank r ∷ [])
ranked-one r g = ranked-base (r ∷ []) (g, tt)

pub below-at : (n : ℕ) (l : List ℕ) (i : ℕ) → Below n l → i < length l → get_or l i 0 < n
below-at n [] i g h = absurd (omega arith)
below-at n (x ∷ l) zero g h = g.0
below-at n (x ∷ l) (suc i) g h = below-at n l i g.1 (omega arith)

-- ---- ready again

pub next-ready : (adds : List Addition) (s s' : Store) → AllGiven adds → Ready s → s' ≡ put_all adds s → s'.state.refusal ≡ 0 → Ready s'
next-ready adds s s' g y e h = subst Ready (sym e) (all-ready adds s g y (ap (λ (z : Store). z.state.refusal) (sym e) ∙ h))

-- one bound is a list of one
pub one-bound : (kind c : ℕ) (u : ArgType) (s : Store) → s.state.refusal ≡ 0 → put_bound (bound c kind u) s ≡ put_all (to_one 0 kind (u ∷ []) c) s
unfolding to_one put_all
one-bound kind c u s h = sym (all-put (record { rule = 0; adds = bound c kind u }) [] s h)

-- ---- to each target

module _ (kind : ℕ) (ts : List ArgType) (links : List ℕ) (i : ℕ) (s : Store) where
  pub each-done : length links ≤ i → put_all (to_each 0 kind ts (drop i (seconds links))) s ≡ s
  unfolding to_each put_all
  each-done h = rw (drop_of_length-le (seconds links) {i = i} (let e = length-map links second in omega arith))

  pub each-put : i < length links
      → put_all (to_each 0 kind ts (drop i (seconds links))) s
      ≡ put_all (to_each 0 kind ts (drop (i + 1) (seconds links))) (put_all (to_one 0 kind ts (get_or links i 0 % 512)) s)
  unfolding to_each
  each-put h =
      rw (add-one i, drop-cons (seconds links) i 0 (let e = length-map links second in omega arith))
      (put-append (to_one 0 kind ts (get_or (seconds links) i 0)) (to_each 0 kind ts (drop (suc i) (seconds links))) s
      ∙ ap (λ (c : ℕ). put_all (to_each 0 kind ts (drop (suc i) (seconds links))) (put_all (to_one 0 kind ts c) s)) (get_or-map second links i 0))

-- ---- ranks to one component

module _ (kind c : ℕ) (rs : List ℕ) (i : ℕ) (s : Store) where
  pub ranks-done : length rs ≤ i → put_all (to_one 0 kind (drop i (map unrank rs)) c) s ≡ s
  unfolding to_one put_all
  ranks-done h = rw (drop_of_length-le (map unrank rs) {i = i} (let e = length-map rs unrank in omega arith))

  pub ranks-put : i < length rs → s.state.refusal ≡ 0
      → put_all (to_one 0 kind (drop i (map unrank rs)) c) s ≡ put_all (to_one 0 kind (drop (i + 1) (map unrank rs)) c) (put_bound (bound c kind (unrank (get_or rs i 0))) s)
  unfolding to_one
  ranks-put h g =
      rw (add-one i, drop-cons (map unrank rs) i (unrank 0) (let e = length-map rs unrank in omega arith))
      (all-put (record { rule = 0; adds = bound c kind (get_or (map unrank rs) i (unrank 0)) }) (to_one 0 kind (drop (suc i) (map unrank rs)) c) s g
      ∙ ap (λ (u : ArgType). put_all (to_one 0 kind (drop (suc i) (map unrank rs)) c) (put_bound (bound c kind u) s)) (get_or-map unrank rs i 0))

-- ---- array constraints

module _ (kind : ℕ) (elements arrays : List ArgType) (root : ℕ) where
  module _ (links : List ℕ) (i : ℕ) (s : Store) where
    pub arrays-done : length links ≤ i → put_all (array_rules 0 kind elements 0 arrays root (drop i (map pair_of links))) s ≡ s
    unfolding array_rules put_all
    arrays-done h = rw (drop_of_length-le (map pair_of links) {i = i} (let e = length-map links pair_of in omega arith))

    pub arrays-put : i < length links
        → put_all (array_rules 0 kind elements 0 arrays root (drop i (map pair_of links))) s
        ≡ put_all (array_rules 0 kind elements 0 arrays root (drop (i + 1) (map pair_of links))) (put_all (array_rule 0 kind elements 0 arrays root (pair_of (get_or links i 0))) s)
    unfolding array_rules array_rule
    arrays-put h =
        rw (add-one i, drop-cons (map pair_of links) i (pair_of 0) (let e = length-map links pair_of in omega arith))
        (put-append (array_rule 0 kind elements 0 arrays root (get_or (map pair_of links) i (pair_of 0))) (array_rules 0 kind elements 0 arrays root (drop (suc i) (map pair_of links))) s
        ∙ ap (λ (p : Pair). put_all (array_rules 0 kind elements 0 arrays root (drop (suc i) (map pair_of links))) (put_all (array_rule 0 kind elements 0 arrays root p) s))
        (get_or-map pair_of links i 0))

  -- one of them
  module _ (x : ℕ) where
    pub array-near : x / 512 ≡ root → array_rule 0 kind elements 0 arrays root (pair_of x) ≡ to_one 0 kind elements (x % 512)
    unfolding array_rule
    array-near h = rw (eq-eqb (x / 512) root h)

    pub array-far : (x / 512 ≡ root → ⊥) → x % 512 ≡ root → array_rule 0 kind elements 0 arrays root (pair_of x) ≡ to_one 0 Lower arrays (x / 512)
    unfolding array_rule
    array-far h g = rw (ne_eqb (x / 512) root h, eq-eqb (x % 512) root g)

    pub array-none : (x / 512 ≡ root → ⊥) → (x % 512 ≡ root → ⊥) → (s : Store) → put_all (array_rule 0 kind elements 0 arrays root (pair_of x)) s ≡ s
    unfolding array_rule put_all
    array-none h g s = rw (ne_eqb (x / 512) root h, ne_eqb (x % 512) root g)

    pub array-given : x < 262144 → kind < 5 → AllBase elements → AllBase arrays → AllGiven (array_rule 0 kind elements 0 arrays root (pair_of x))
    unfolding array_rule
    array-given l k e f = go (eqb (x / 512) root) (eqb (x % 512) root)
      where
        go : (a b : Bool) → AllGiven (cond a (to_one 0 kind elements (x % 512)) (cond b (to_one 0 Lower arrays (x / 512)) []))
        go true b = one-given kind (x % 512) elements k (omega arith) e
        go false true = one-given Lower (x / 512) arrays (omega arith) (omega arith) f
        go false false = λ y m. absurd (Memᴰ.not-nil m)

-- ---- the partners of the root are a run

module _ (root : ℕ) (links : List ℕ) (o : Sorted links) (r : Span) (e : r ≡ run_of 512 root (take (length links) links)) where
  run-whole : r ≡ run_of 512 root links
  run-whole = e ∙ ap (run_of 512 root) (take-length links)

  pub run-inside : (r.first ≤ r.past) × (r.past ≤ length links)
  run-inside = subst (λ (s : Span). (s.first ≤ s.past) × (s.past ≤ length links)) (sym run-whole) (run-within 512 root links o (omega arith))

  pub run-partners : seconds (take (r.past - r.first) (drop r.first links)) ≡ partners root (map pair_of links)
  run-partners = ap (λ (s : Span). seconds (take (s.past - s.first) (drop s.first links))) run-whole ∙ sym (partners-run root links o)
