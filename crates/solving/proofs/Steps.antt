-- The definitions as code meets them: a turn as passes, a pass as a loop over a list by its index, and a run without fuel.
use Rattle.std.specs.Prelude.{◌≡◌, cond, eqb, drop, get_or}
use Rattle.std.proofs.Math.Path.{refl, sym, ap}
use Rattle.std.proofs.Common.{◌∙◌, add-one, drop_of_length-le}
use mathlib.Core.List.{List, [], ◌∷◌, ◌++◌}
use Prim.Native.Nat.{ℕ, zero, suc, ◌+◌, ◌-◌, ◌≤◌, ◌<◌}
use native.Mathlib.Omega.{arith}
use Rattle.std.proofs.Math.ListN.{length}
use Rattle.std.proofs.Math.Seq.{drop-cons}
use Rattle.ty.specs.Types.{ArgType}
use Rattle.view.specs.View.{numbers}
use Rattle.lattice.specs.Lattice.{World}
use Rattle.solving.proofs.Inserts.{all-refused, run-refused}
use Rattle.solving.proofs.Runs.{numbers-length, turn-room}
use Rattle.solving.specs.Solving.{Fallback, Upper, Lower, Exact, bound, Table, TypeState, state_of, produced_type, list_of, array_element, produced_array, Pair, Links, partners, Addition, to_one, to_each, array_rules, additions, Outcome, Refused, Going, room, insert_bound, insert_all, turn, Finish, Stopped, Ended, run, propagate}
use Rattle.solving.specs.Steps.{array_rule}

-- ---- a turn is five passes, each from the copy

pub all-append : (xs ys : List Addition) (o : Outcome) → insert_all (xs ++ ys) o ≡ insert_all ys (insert_all xs o)
unfolding insert_all
all-append [] ys o = refl
all-append (x ∷ xs) ys (Refused k) = sym (all-refused ys k)
all-append (x ∷ xs) ys (Going t q) = all-append xs ys (insert_bound x.adds t q)

module _ (w : World) (l : Links) (root : ℕ) (t : Table) (q : List ℕ) where
  pub turn-passes : (s : TypeState) → s ≡ state_of t root → turn w l root t q
      ≡ insert_all (array_rules 6 Upper (list_of (array_element w s)) 7 (produced_array w s) root l.writes)
      (insert_all (array_rules 4 Exact (list_of (array_element w s)) 5 (produced_array w s) root l.reads)
      (insert_all (to_each 3 Upper (s.upper ++ s.exact) (partners root l.incoming))
      (insert_all (to_each 2 Fallback s.fallback (partners root l.flows))
      (insert_all (to_each 1 Lower (list_of (produced_type w s)) (partners root l.flows)) (Going t q)))))
  unfolding turn additions
  turn-passes s e =
      ap (λ (x : TypeState). insert_all (additions w l root x) (Going t q)) (sym e)
      ∙ all-append a (b ++ (c ++ (d ++ f))) (Going t q) ∙ all-append b (c ++ (d ++ f)) (insert_all a (Going t q))
      ∙ all-append c (d ++ f) (insert_all b (insert_all a (Going t q))) ∙ all-append d f (insert_all c (insert_all b (insert_all a (Going t q))))
    where
      a : List Addition
      a = to_each 1 Lower (list_of (produced_type w s)) (partners root l.flows)

      b : List Addition
      b = to_each 2 Fallback s.fallback (partners root l.flows)

      c : List Addition
      c = to_each 3 Upper (s.upper ++ s.exact) (partners root l.incoming)

      d : List Addition
      d = array_rules 4 Exact (list_of (array_element w s)) 5 (produced_array w s) root l.reads

      f : List Addition
      f = array_rules 6 Upper (list_of (array_element w s)) 7 (produced_array w s) root l.writes

-- WHAT A TURN ADDS DEPENDS ON THE ROOT'S PARTNERS, AND ON THE ARRAY CONSTRAINTS
pub additions-by : (w : World) (root : ℕ) (s : TypeState) (l m : Links) → partners root l.flows ≡ partners root m.flows → partners root l.incoming ≡ partners root m.incoming
    → l.reads ≡ m.reads → l.writes ≡ m.writes → additions w l root s ≡ additions w m root s
unfolding additions
additions-by w root s l m e f g h i =
    to_each 1 Lower (list_of (produced_type w s)) (e i)
    ++ (to_each 2 Fallback s.fallback (e i)
    ++ (to_each 3 Upper (s.upper ++ s.exact) (f i)
    ++ (array_rules 4 Exact (list_of (array_element w s)) 5 (produced_array w s) root (g i)
    ++ array_rules 6 Upper (list_of (array_element w s)) 7 (produced_array w s) root (h i))))

-- ---- a pass by index

module _ (rule kind : ℕ) where
  -- types to one component
  pub one-end : (ts : List ArgType) (c i : ℕ) (o : Outcome) → length ts ≤ i → insert_all (to_one rule kind (drop i ts) c) o ≡ o
  unfolding to_one insert_all
  one-end ts c i o h = rw (drop_of_length-le ts {i = i} h)

  pub one-step : (ts : List ArgType) (c i : ℕ) (d : ArgType) (t : Table) (q : List ℕ) → i < length ts
      → insert_all (to_one rule kind (drop i ts) c) (Going t q) ≡ insert_all (to_one rule kind (drop (i + 1) ts) c) (insert_bound (bound c kind (get_or ts i d)) t q)
  unfolding to_one insert_all
  one-step ts c i d t q h = rw (add-one i, drop-cons ts i d h)

  -- to each component
  pub each-end : (ts : List ArgType) (cs : List ℕ) (i : ℕ) (o : Outcome) → length cs ≤ i → insert_all (to_each rule kind ts (drop i cs)) o ≡ o
  unfolding to_each insert_all
  each-end ts cs i o h = rw (drop_of_length-le cs {i = i} h)

  pub each-step : (ts : List ArgType) (cs : List ℕ) (i : ℕ) (o : Outcome) → i < length cs
      → insert_all (to_each rule kind ts (drop i cs)) o ≡ insert_all (to_each rule kind ts (drop (i + 1) cs)) (insert_all (to_one rule kind ts (get_or cs i 0)) o)
  unfolding to_each
  each-step ts cs i o h = rw (add-one i, drop-cons cs i 0 h) (all-append (to_one rule kind ts (get_or cs i 0)) (to_each rule kind ts (drop (suc i) cs)) o)

module _ (near kind : ℕ) (elements : List ArgType) (far : ℕ) (arrays : List ArgType) (root : ℕ) (ps : List Pair) (i : ℕ) (o : Outcome) where
  pub arrays-end : length ps ≤ i → insert_all (array_rules near kind elements far arrays root (drop i ps)) o ≡ o
  unfolding array_rules insert_all
  arrays-end h = rw (drop_of_length-le ps {i = i} h)

  pub arrays-step : i < length ps → insert_all (array_rules near kind elements far arrays root (drop i ps)) o
      ≡ insert_all (array_rules near kind elements far arrays root (drop (i + 1) ps)) (insert_all (array_rule near kind elements far arrays root (get_or ps i (0, 0))) o)
  unfolding array_rules array_rule
  arrays-step h =
      rw (add-one i, drop-cons ps i (0, 0) h)
      (all-append (cond (eqb (get_or ps i (0, 0)).0 root) (to_one near kind elements (get_or ps i (0, 0)).1) (cond (eqb (get_or ps i (0, 0)).1 root) (to_one far Lower arrays (get_or ps i (0, 0)).0) []))
      (array_rules near kind elements far arrays root (drop (suc i) ps)) o)

-- ---- a run without fuel: what is left to do from a state

module _ (w : World) (l : Links) where
  -- enough is enough
  run-enough : (f g n : ℕ) (t : Table) (q : List ℕ) → length q + (room - length t) ≤ f → length q + (room - length t) ≤ g → run w l f n (Going t q) ≡ run w l g n (Going t q)
  unfolding run
  run-enough zero zero n t q h k = refl
  run-enough zero (suc g) n t [] h k = refl
  run-enough zero (suc g) n t (root ∷ q) h k = absurd (omega arith)
  run-enough (suc f) zero n t [] h k = refl
  run-enough (suc f) zero n t (root ∷ q) h k = absurd (omega arith)
  run-enough (suc f) (suc g) n t [] h k = refl
  run-enough (suc f) (suc g) n t (root ∷ q) h k = go (turn w l root t q) refl (run-enough f g)
    where
      go : (o : Outcome) → turn w l root t q ≡ o
          → ((m : ℕ) (u : Table) (r : List ℕ) → length r + (room - length u) ≤ f → length r + (room - length u) ≤ g → run w l f m (Going u r) ≡ run w l g m (Going u r))
          → run w l f (suc n) o ≡ run w l g (suc n) o
      go (Refused j) e ih = run-refused w l f (suc n) j ∙ sym (run-refused w l g (suc n) j)
      go (Going u r) e ih = let z = turn-room w l root t q u r e in ih (suc n) u r (omega arith) (omega arith)

  -- what a run comes to from a table and a queue, n turns taken
  unfoldable pub rest : ℕ → Table → List ℕ → Finish
  rest n t q = run w l (length q + (room - length t)) n (Going t q)

  -- what a run comes to after a turn
  abbrev pub after : ℕ → Outcome → Finish
  after n (Refused k) = Stopped k
  after n (Going t q) = rest n t q

  pub propagate-rest : (components : ℕ) (t : Table) → propagate w l components t ≡ rest 0 t (numbers 0 components)
  unfolding propagate rest
  propagate-rest components t =
      let e = numbers-length 0 components in
      run-enough (components + room) (length (numbers 0 components) + (room - length t)) 0 t (numbers 0 components) (omega arith) (omega arith)

  run-empty : (f n : ℕ) (t : Table) → run w l f n (Going t []) ≡ Ended t [] n
  unfolding run
  run-empty zero n t = refl
  run-empty (suc f) n t = refl

  -- AN EMPTY QUEUE ENDS IT
  pub rest-end : (n : ℕ) (t : Table) → rest n t [] ≡ Ended t [] n
  unfolding rest
  rest-end n t = run-empty (0 + (room - length t)) n t

  -- ELSE THE FRONT HAS ITS TURN
  pub rest-step : (n root : ℕ) (t : Table) (q : List ℕ) → rest n t (root ∷ q) ≡ after (suc n) (turn w l root t q)
  unfolding rest run
  rest-step n root t q =
      ap (λ (f : ℕ). run w l f n (Going t (root ∷ q))) (let z : suc (length q) + (room - length t) ≡ suc (length q + (room - length t)) = omega arith in z)
      ∙ go (turn w l root t q) refl
    where
      go : (o : Outcome) → turn w l root t q ≡ o → run w l (length q + (room - length t)) (suc n) o ≡ after (suc n) o
      go (Refused k) e = run-refused w l (length q + (room - length t)) (suc n) k
      go (Going u r) e =
          let z = turn-room w l root t q u r e in
          run-enough (length q + (room - length t)) (length r + (room - length u)) (suc n) u r (omega arith) (omega arith)
