-- The loop of `compute_distances` ends, and its map has the distances that View defines, each key once.
use Rattle.std.specs.Prelude.{◌≡◌, Bool, cond, ◌||◌, ◌⊎◌, length}
use Rattle.std.proofs.Math.Path.{refl, sym, ap, subst}
use Rattle.std.proofs.Common.{ap₂, ◌∙◌, true≢false, length-append, eq-eqb, ne_eqb}
use Rattle.std.proofs.Math.Bool.{true, false}
use mathlib.Core.List.Memᴰ
use mathlib.Core.List.{List, [], ◌∷◌, ◌++◌, Memᴰ}
use Rattle.std.proofs.Math.Logic.{inl, inr, ⊎_elim}
use Rattle.std.proofs.Math.Option.{Option, some, none}
use Prim.Native.Nat.{ℕ, zero, suc, ◌+◌, ◌≤◌, ◌<◌}
use Rattle.std.proofs.Math.Decide.{dec_lt, ℕ_discrete}
use native.Mathlib.Omega.{arith}
use Rattle.std.proofs.Math.Dec.{eqb}
use Rattle.sets.specs.Sets.{at, members, tally}
use Rattle.sets.specs.Bits.{tally-ext, tally-more, tally-bound, tally-none}
use Rattle.sets.specs.Laws.{at-none, count-tally}
use Rattle.view.specs.View.{View, reach, steps, far, distance, ancestor, ancestors}
use Rattle.view.specs.Loops.{Entry, entry, State, lookup, enter, visit, turns, walk, or_insert, compute_distances, present, recorded_ancestor}
use Rattle.view.specs.Grow.{count-first}
use Rattle.view.specs.Reach.{Good, Path, here, there, path-below, path-reach, reach-path, steps-exactly}
use Rattle.view.specs.Ancestors.{ancestor-below, ancestors-member, ancestors-at, distance-none}

-- ---- the map

lookup-same : (c n : ℕ) (es : List Entry) → lookup (entry c n ∷ es) c ≡ some n
unfolding lookup
lookup-same c n es = ap (λ (t : Bool). cond t (some n) (lookup es c)) (eq-eqb c c refl)

lookup-other : (c n d : ℕ) (es : List Entry) → (c ≡ d → ⊥) → lookup (entry c n ∷ es) d ≡ lookup es d
unfolding lookup
lookup-other c n d es h = ap (λ (t : Bool). cond t (some n) (lookup es d)) (ne_eqb c d h)

-- a new key hides nothing
lookup-kept : (c n d k : ℕ) (es : List Entry) → lookup es c ≡ none → lookup es d ≡ some k → lookup (entry c n ∷ es) d ≡ some k
lookup-kept c n d k es e h = lookup-other c n d es (λ q. let r = ap (lookup es) q in let z : ◌≡◌ {A = ℕ} 0 1 = cc in omega arith) ∙ h

-- what is found in the longer map is the new entry or an old one
lookup-cases : (c n d k : ℕ) (es : List Entry) → lookup (entry c n ∷ es) d ≡ some k → ((d ≡ c) × (k ≡ n)) ⊎ (lookup es d ≡ some k)
lookup-cases c n d k es h = go (ℕ_discrete d c)
  where
    go : Dec (d ≡ c) → ((d ≡ c) × (k ≡ n)) ⊎ (lookup es d ≡ some k)
    go (yes e) = inl (e, let q = ap (lookup (entry c n ∷ es)) e in let r = lookup-same c n es in let s : k ≡ n = cc in s)
    go (no m) = inr (sym (lookup-other c n d es (λ q. m (sym q))) ∙ h)

lookup-single : (c n d k : ℕ) → lookup (entry c n ∷ []) d ≡ some k → (d ≡ c) × (k ≡ n)
unfolding lookup
lookup-single c n d k h = ⊎_elim (λ q. q) (λ q. absurd (let z : ◌≡◌ {A = ℕ} 0 1 = cc in omega arith)) (lookup-cases c n d k [] h)

abbrev mark : Option ℕ → ℕ
mark none = 0
mark (some n) = 1

mark-lt : (o : Option ℕ) → mark o < 2
mark-lt none = omega arith
mark-lt (some n) = omega arith

Ascending : List Entry → Type 0
Ascending [] = Unit {0}
Ascending (e ∷ es) = ((f : Entry) → Memᴰ f es → e.distance ≤ f.distance) × Ascending es

ascending-append : (es : List Entry) (e : Entry) → Ascending es → ((f : Entry) → Memᴰ f es → f.distance ≤ e.distance) → Ascending (es ++ (e ∷ []))
unfolding Ascending
ascending-append [] e a h = (λ f m. absurd (Memᴰ.not-nil m), tt)
ascending-append (b ∷ es) e a h = (
  λ f m. ⊎_elim (a.0 f) (λ k. subst (λ (z : Entry). b.distance ≤ z.distance) (sym (Memᴰ.eq_of_singleton k)) (h b (Memᴰ.head refl))) (Memᴰ.append_cases es m),
  ascending-append es e a.1 (λ f m. h f (Memᴰ.tail m)),
)

-- ---- what holds while the parents of c, which is at h, are visited and `ps` are left
record Inside (v : View) (x c h : ℕ) (ps : List ℕ) (w : State) : Type 0 where
  part : (p : ℕ) → Memᴰ p ps → Memᴰ p (v.parents c)
  begun : lookup w.distances x ≡ some 0
  current : lookup w.distances c ≡ some h
  -- each entry is the length of a shortest path
  shortest : (y n : ℕ) → lookup w.distances y ≡ some n → Path v x y n × ((k : ℕ) → Path v x y k → n ≤ k)
  -- the queue ascends, from h to at most h + 1
  queued : (e : Entry) → Memᴰ e w.pending → (lookup w.distances e.name ≡ some e.distance) × (h ≤ e.distance) × (e.distance ≤ suc h)
  ordered : Ascending w.pending
  -- a class of the map is in the queue, or its parents are in the map or still to be visited
  done : (y n : ℕ) → lookup w.distances y ≡ some n
      → Memᴰ (entry y n) w.pending ⊎ ((p : ℕ) → Memᴰ p (v.parents y) → ((k : ℕ) × (lookup w.distances p ≡ some k)) ⊎ ((y ≡ c) × Memᴰ p ps))
  -- each key is one of the names, and there once
  counted : length w.distances ≡ tally (λ y. mark (lookup w.distances y)) v.names

-- the queue gains as many as the map
visit-lengths : (n : ℕ) (ps : List ℕ) (w : State) → length (visit n ps w).pending + length w.distances ≡ length w.pending + length (visit n ps w).distances
unfolding visit
visit-lengths n [] w = refl
visit-lengths n (p ∷ ps) w = go (lookup w.distances p) (visit-lengths n ps (enter p n (lookup w.distances p) w))
  where
    go : (o : Option ℕ) → length (visit n ps (enter p n o w)).pending + length (enter p n o w).distances ≡ length (enter p n o w).pending + length (visit n ps (enter p n o w)).distances
        → length (visit n ps (enter p n o w)).pending + length w.distances ≡ length w.pending + length (visit n ps (enter p n o w)).distances
    go (some k) e = e
    go none e = omega (arith, length-append w.pending (entry p n ∷ []))

module _ (v : View) (g : Good v) (x : ℕ) (hx : x < v.names) where
  -- what is at most as near as the class in hand is in the map
  near : {c h : ℕ} {ps : List ℕ} {w : State} {y k : ℕ} → Inside v x c h ps w → Path v x y k → k ≤ h → (n : ℕ) × (lookup w.distances y ≡ some n)
  near i here l = (0, i.begun)
  near {c} {h} {ps} {w} i (there {y = y} {p = p} {n = k} a q) l = go (near i a (omega arith))
    where
      go : (n : ℕ) × (lookup w.distances y ≡ some n) → (n : ℕ) × (lookup w.distances p ≡ some n)
      go s =
          let least = (i.shortest y s.0 s.1).1 k a in
          ⊎_elim (λ m. absurd (let b = (i.queued (entry y s.0) m).1 in omega arith))
          (λ f.
          ⊎_elim (λ r. r)
          (λ z. absurd (let e = ap (lookup w.distances) z.0 in let f = s.1 in let r = i.current in let t : s.0 ≡ h = cc in omega arith))
          (f p q))
          (i.done y s.0 s.1)

  module _ (c h : ℕ) where
    -- a parent that is not in the map is at one step more
    new-path : (p : ℕ) (ps : List ℕ) (w : State) → Inside v x c h (p ∷ ps) w → lookup w.distances p ≡ none → Path v x p (suc h) × ((k : ℕ) → Path v x p k → suc h ≤ k)
    new-path p ps w i e = (there (i.shortest c h i.current).0 (i.part p (Memᴰ.head refl)), λ k a. go k a (dec_lt k (suc h)))
      where
        go : (k : ℕ) → Path v x p k → Dec (k < suc h) → suc h ≤ k
        go k a (yes l) = absurd (let s = near i a (omega arith) in let q = s.1 in let z : ◌≡◌ {A = ℕ} 0 1 = cc in omega arith)
        go k a (no n) = omega arith

    enter-inside : (p : ℕ) (ps : List ℕ) (w : State) → Inside v x c h (p ∷ ps) w → (o : Option ℕ) → lookup w.distances p ≡ o → Inside v x c h ps (enter p (suc h) o w)
    enter-inside p ps w i (some k) e =
        record {
          part = λ q m. i.part q (Memᴰ.tail m);
          begun = i.begun;
          current = i.current;
          shortest = i.shortest;
          queued = i.queued;
          ordered = i.ordered;
          done = λ y n s.
              ⊎_elim (λ m. inl m)
              (λ f.
              inr
              (λ q m.
              ⊎_elim (λ r. inl r) (λ z. ⊎_elim (λ r. inl (k, ap (lookup w.distances) r ∙ e)) (λ r. inr (z.0, r)) (Memᴰ.cases_cons z.1)) (f q m)))
              (i.done y n s);
          counted = i.counted;
        }
    enter-inside p ps w i none e =
        record {
          part = λ q m. i.part q (Memᴰ.tail m);
          begun = lookup-kept p (suc h) x 0 w.distances e i.begun;
          current = lookup-kept p (suc h) c h w.distances e i.current;
          shortest = λ y n s.
              ⊎_elim
              (λ q. subst (λ (z : ℕ). Path v x z n × ((k : ℕ) → Path v x z k → n ≤ k)) (sym q.0) (subst (λ (m : ℕ). Path v x p m × ((k : ℕ) → Path v x p k → m ≤ k)) (sym q.1) (new-path p ps w i e)))
              (i.shortest y n)
              (lookup-cases p (suc h) y n w.distances s);
          queued = λ f m.
              ⊎_elim (λ r. let q = i.queued f r in (lookup-kept p (suc h) f.name f.distance w.distances e q.0, q.1, q.2))
              (λ r.
              subst (λ (z : Entry). (lookup (entry p (suc h) ∷ w.distances) z.name ≡ some z.distance) × (h ≤ z.distance) × (z.distance ≤ suc h)) (sym (Memᴰ.eq_of_singleton r))
              (lookup-same p (suc h) w.distances, omega arith, omega arith))
              (Memᴰ.append_cases w.pending m);
          ordered = ascending-append w.pending (entry p (suc h)) i.ordered (λ f m. (i.queued f m).2);
          done = λ y n s.
              ⊎_elim (λ q. inl (Memᴰ.append_right w.pending (Memᴰ.head (ap₂ entry q.0 q.1))))
              (λ old.
              ⊎_elim (λ m. inl (Memᴰ.append_left (entry p (suc h) ∷ []) m))
              (λ f.
              inr
              (λ q m.
              ⊎_elim (λ r. inl (r.0, lookup-kept p (suc h) q r.0 w.distances e r.1))
              (λ z.
              ⊎_elim (λ r. inl (suc h, ap (lookup (entry p (suc h) ∷ w.distances)) r ∙ lookup-same p (suc h) w.distances)) (λ r. inr (z.0, r)) (Memᴰ.cases_cons z.1))
              (f q m)))
              (i.done y n old))
              (lookup-cases p (suc h) y n w.distances s);
          counted =
              ap suc i.counted
              ∙ sym
              (tally-more (λ y. mark (lookup w.distances y)) (λ y. mark (lookup (entry p (suc h) ∷ w.distances) y)) v.names p (path-below v g hx (new-path p ps w i e).0)
              (ap mark (lookup-same p (suc h) w.distances) ∙ ap suc (sym (ap mark e)))
              (λ k n. ap mark (lookup-other p (suc h) k w.distances (λ q. n (sym q)))));
        }

    visit-inside : (ps : List ℕ) (w : State) → Inside v x c h ps w → Inside v x c h [] (visit (suc h) ps w)
    unfolding visit
    visit-inside [] w i = i
    visit-inside (p ∷ ps) w i = visit-inside ps (enter p (suc h) (lookup w.distances p) w) (enter-inside p ps w i (lookup w.distances p) refl)

    -- the next of the queue becomes the class in hand
    pop-inside : (m es : List Entry) (e : Entry) → Inside v x c h [] (record { distances = m; pending = e ∷ es })
        → Inside v x e.name e.distance (v.parents e.name) (record { distances = m; pending = es })
    unfolding Ascending
    pop-inside m es e i =
        record {
          part = λ p k. k;
          begun = i.begun;
          current = (i.queued e (Memᴰ.head refl)).0;
          shortest = i.shortest;
          queued = λ f k.
              let a = i.queued f (Memᴰ.tail k) in
              let b = i.queued e (Memᴰ.head refl) in
              let o = i.ordered.0 f k in
              (a.0, o, omega arith);
          ordered = i.ordered.1;
          done = λ y n s.
              ⊎_elim (λ k. ⊎_elim (λ q. inr (λ p r. inr (ap (λ (z : Entry). z.name) q, subst (λ (z : Entry). Memᴰ p (v.parents z.name)) q r))) (λ r. inl r) (Memᴰ.cases_cons k))
              (λ f. inr (λ p r. ⊎_elim (λ q. inl q) (λ z. absurd (Memᴰ.not-nil z.1)) (f p r)))
              (i.done y n s);
          counted = i.counted;
        }

  -- ---- THE LOOP ENDS: with as many turns left as names not in the map and entries in the queue

  turns-idle : (n : ℕ) (m : List Entry) → turns v n (record { distances = m; pending = [] }) ≡ record { distances = m; pending = [] }
  unfolding turns
  turns-idle zero m = refl
  turns-idle (suc n) m = turns-idle n m

  Ended : State → Type 0
  Ended w = (w.pending ≡ []) × ((c : ℕ) × (h : ℕ) × Inside v x c h [] w)

  turns-end : (n c h : ℕ) (m q : List Entry) → Inside v x c h [] (record { distances = m; pending = q }) → length q + v.names ≤ n + length m
      → Ended (turns v n (record { distances = m; pending = q }))
  unfolding turns Ended
  turns-end zero c h m [] i l = (refl, (c, h, i))
  turns-end (suc n) c h m [] i l = subst (λ (w : State). (w.pending ≡ []) × ((c : ℕ) × (h : ℕ) × Inside v x c h [] w)) (sym (turns-idle n m)) (refl, (c, h, i))
  turns-end zero c h m (e ∷ es) i l =
      absurd (let k = i.counted in let b = tally-bound (λ y. mark (lookup m y)) v.names (λ y. mark-lt (lookup m y)) in omega arith)
  turns-end (suc n) c h m (e ∷ es) i l =
      let w : State = record { distances = m; pending = es } in
      let k = visit-lengths (suc e.distance) (v.parents e.name) w in
      let u : State = visit (suc e.distance) (v.parents e.name) w in
      turns-end n e.name e.distance u.distances u.pending
      (visit-inside e.name e.distance (v.parents e.name) w (pop-inside c h m es e i))
      (omega arith)

  walk-ended : Ended (walk v x)
  unfolding walk Ascending lookup
  walk-ended =
      turns-end v.names x 0 (entry x 0 ∷ []) (entry x 0 ∷ [])
      (record {
        part = λ p k. absurd (Memᴰ.not-nil k);
        begun = lookup-same x 0 [];
        current = lookup-same x 0 [];
        shortest = λ y n s.
            let q = lookup-single x 0 y n s in
            (subst (λ (z : ℕ). Path v x z n) (sym q.0) (subst (λ (m : ℕ). Path v x x m) (sym q.1) here), λ k a. omega arith);
        queued = λ e k.
            subst (λ (z : Entry). (lookup (entry x 0 ∷ []) z.name ≡ some z.distance) × (0 ≤ z.distance) × (z.distance ≤ 1)) (sym (Memᴰ.eq_of_singleton k))
            (lookup-same x 0 [], omega arith, omega arith);
        ordered = (λ f k. absurd (Memᴰ.not-nil k), tt);
        done = λ y n s. let q = lookup-single x 0 y n s in inl (Memᴰ.head (ap₂ entry q.0 q.1));
        counted =
            ap suc (sym (tally-none (λ y. 0) v.names (λ k l. refl)))
            ∙ sym
            (tally-more (λ y. 0) (λ y. mark (lookup (entry x 0 ∷ []) y)) v.names x hx (ap mark (lookup-same x 0 []))
            (λ k n. ap mark (lookup-other x 0 k [] (λ q. n (sym q)))));
      })
      (omega arith)

  pub walk-ends : (walk v x).pending ≡ []
  unfolding Ended
  walk-ends = walk-ended.0

  -- ---- THE MAP has what is reached, at the least number of steps

  walk-path : {y k : ℕ} → Path v x y k → (n : ℕ) × (lookup (walk v x).distances y ≡ some n)
  unfolding Ended
  walk-path here = (0, walk-ended.1.2.begun)
  walk-path (there {y = y} {p = p} a q) = go (walk-path a)
    where
      go : (n : ℕ) × (lookup (walk v x).distances y ≡ some n) → (n : ℕ) × (lookup (walk v x).distances p ≡ some n)
      go s =
          ⊎_elim (λ m. absurd (Memᴰ.not-nil (subst (Memᴰ (entry y s.0)) walk-ends m)))
          (λ f. ⊎_elim (λ r. r) (λ z. absurd (Memᴰ.not-nil z.1)) (f p q))
          (walk-ended.1.2.done y s.0 s.1)

  pub walk-distances : (y : ℕ) → lookup (walk v x).distances y ≡ cond (reach v x y) (some (steps v x y)) none
  unfolding Ended
  walk-distances y = go (reach v x y) refl
    where
      absent : reach v x y ≡ false → (o : Option ℕ) → lookup (walk v x).distances y ≡ o → o ≡ none
      absent m none e = refl
      absent m (some n) e = absurd (true≢false (sym (path-reach v g x hx (walk-ended.1.2.shortest y n e).0) ∙ m))

      go : (t : Bool) → reach v x y ≡ t → lookup (walk v x).distances y ≡ cond t (some (steps v x y)) none
      go true m =
          let s = walk-path (reach-path v g x hx y m).2 in
          let w = walk-ended.1.2.shortest y s.0 s.1 in
          s.1 ∙ ap some (sym (steps-exactly v g x hx w.0 w.1))
      go false m = absent m (lookup (walk v x).distances y) refl

  -- THE RESULT: with Object's entry these are the distances
  pub computed-distances : (y : ℕ) → lookup (compute_distances v x) y ≡ distance v x y
  unfolding compute_distances distance
  computed-distances y = go (lookup (walk v x).distances v.object) refl (ℕ_discrete y v.object)
    where
      es : List Entry
      es = (walk v x).distances

      plain : (t : Bool) → eqb y v.object ≡ false → cond t (some (steps v x y)) none ≡ cond t (some (steps v x y)) (cond (eqb y v.object) (some far) none)
      plain true e = refl
      plain false e = sym (ap (λ (t : Bool). cond t (some far) none) e)

      found : (k : ℕ) (t : Bool) → cond t (some (steps v x y)) none ≡ some k → cond t (some (steps v x y)) none ≡ cond t (some (steps v x y)) (cond (eqb y v.object) (some far) none)
      found k true e = refl
      found k false e = absurd (let z : ◌≡◌ {A = ℕ} 0 1 = cc in omega arith)

      far-off : (t : Bool) → cond t (some (steps v x y)) none ≡ none → eqb y v.object ≡ true → some far ≡ cond t (some (steps v x y)) (cond (eqb y v.object) (some far) none)
      far-off true e q = absurd (let z : ◌≡◌ {A = ℕ} 0 1 = cc in omega arith)
      far-off false e q = sym (ap (λ (t : Bool). cond t (some far) none) q)

      go : (o : Option ℕ) → lookup es v.object ≡ o → Dec (y ≡ v.object) → lookup (or_insert v o es) y ≡ cond (reach v x y) (some (steps v x y)) (cond (eqb y v.object) (some far) none)
      go (some k) e (yes q) = walk-distances y ∙ found k (reach v x y) (sym (walk-distances y) ∙ ap (lookup es) q ∙ e)
      go (some k) e (no n) = walk-distances y ∙ plain (reach v x y) (ne_eqb y v.object n)
      go none e (yes q) =
          ap (lookup (entry v.object far ∷ es)) q ∙ lookup-same v.object far es
          ∙ far-off (reach v x y) (sym (walk-distances y) ∙ ap (lookup es) q ∙ e) (eq-eqb y v.object q)
      go none e (no n) = lookup-other v.object far y es (λ q. n (sym q)) ∙ walk-distances y ∙ plain (reach v x y) (ne_eqb y v.object n)

  -- `ancestor_names` has as many as the set of ancestors: the map has each key once
  computed-counted : length (compute_distances v x) ≡ tally (λ y. mark (lookup (compute_distances v x) y)) v.names
  unfolding compute_distances Ended
  computed-counted = go (lookup es v.object) refl
    where
      es : List Entry
      es = (walk v x).distances

      go : (o : Option ℕ) → lookup es v.object ≡ o → length (or_insert v o es) ≡ tally (λ y. mark (lookup (or_insert v o es) y)) v.names
      go (some k) e = walk-ended.1.2.counted
      go none e =
          ap suc walk-ended.1.2.counted
          ∙ sym
          (tally-more (λ y. mark (lookup es y)) (λ y. mark (lookup (entry v.object far ∷ es) y)) v.names v.object g.object-in
          (ap mark (lookup-same v.object far es) ∙ ap suc (sym (ap mark e)))
          (λ k n. ap mark (lookup-other v.object far k es (λ q. n (sym q)))))

  marked : (y : ℕ) → mark (distance v x y) ≡ at (ancestors v x) y
  marked y = go (ancestor v x y) refl (distance v x y) refl
    where
      go : (t : Bool) → ancestor v x y ≡ t → (o : Option ℕ) → distance v x y ≡ o → mark o ≡ at (ancestors v x) y
      go true a none e = absurd (true≢false (sym a ∙ (distance-none v g x hx y).0 e))
      go true a (some n) e = sym ((ancestors-at v g x hx y).1 a)
      go false a none e = sym (at-none (ancestors v x) y (ancestors-member v g x hx y ∙ a))
      go false a (some n) e = absurd (let q = (distance-none v g x hx y).1 a in let z : ◌≡◌ {A = ℕ} 0 1 = cc in omega arith)

  pub computed-count : length (compute_distances v x) ≡ length (members (at (ancestors v x)) 0 1024)
  computed-count =
      computed-counted
      ∙ tally-ext (λ y. mark (lookup (compute_distances v x) y)) (at (ancestors v x)) v.names (λ y l. ap mark (computed-distances y) ∙ marked y)
      ∙ sym (count-first (ancestors v x) v.names g.few (λ y m. ancestor-below v g x y hx (sym (ancestors-member v g x hx y) ∙ m)))
      ∙ sym (count-tally (ancestors v x) 1024)

  -- and the test for an ancestor, over them, is `ancestor`
  pub computed-ancestor : (y : ℕ) → recorded_ancestor v x y ≡ ancestor v x y
  unfolding recorded_ancestor ancestor distance
  computed-ancestor y = ap (λ (o : Option ℕ). (eqb x y || eqb y v.object) || present o) (computed-distances y) ∙ go (eqb x y) (eqb y v.object) (reach v x y)
    where
      go : (s t r : Bool) → ((s || t) || present (cond r (some (steps v x y)) (cond t (some far) none))) ≡ (s || (t || r))
      go true t r = refl
      go false true r = refl
      go false false true = refl
      go false false false = refl
