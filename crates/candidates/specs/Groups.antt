-- UPPER BOUNDS ASKED AT ONCE. Of two classes with as many dimensions only the relation decides; whether a bound of another kind takes a class
-- does not depend on the class. So the bounds of one head (dimensions and tag) are one set of classes, and one answer stands for all the others.
use Rattle.std.specs.Prelude.{◌≡◌, Bool, cond, not, ◌&&◌, ◌||◌, eqb, replicate}
use Rattle.std.proofs.Math.Path.{refl, sym, ap, subst}
use Rattle.std.proofs.Common.{ap₂, ◌∙◌, true≢false, eq-eqb, ne_eqb, eqb-true, ltb-true}
use Rattle.std.proofs.Math.Bool.{true, false}
use Rattle.std.proofs.lemmas.Bool.{false≢true, eqb-false}
use mathlib.Core.List.{List, [], ◌∷◌, map}
use Rattle.std.proofs.Math.Option.{Option}
use Prim.Native.Nat.{ℕ, zero, suc, ◌/◌, ◌<◌}
use native.Mathlib.Omega.{arith}
use Rattle.std.proofs.Math.ListN.{length, length-replicate}
use Rattle.sets.specs.Sets.{at, member, insert, remove, subtract, first}
use Rattle.sets.specs.Bits.{first-le}
use Rattle.sets.specs.Laws.{member-empty, member-insert, member-remove, member-subtract, length-insert, length-remove, length-subtract, lowest-none, lowest-member}
use Rattle.ty.specs.Types.{ArgType, Object, Array, arrays, compare, is_primitive}
use Rattle.ty.specs.Words.{Legal, tag_step, dims_of, tag_of, load_of, type_of, base_of}
use Rattle.ty.specs.Steps.{check-object}
use Rattle.ty.specs.Answers.{MaybeType}
use Rattle.view.specs.declared.Relation.TheVariants.{Yes, No, Unknown as Incomplete}
use Rattle.view.specs.View.{View, reached, reach, ancestor, complete, relation}
use Rattle.view.specs.Ancestors.{ancestor-self, ancestor-object, reach-ancestor}
use Rattle.view.specs.Reach.{level-formed}
use Rattle.view.specs.Relations.{relation-yes}
use Rattle.lattice.specs.Lattice.{World, same_type, not_no, unknown_accepts, assignable_apart, is_assignable, assignable_to_all}
use Rattle.lattice.specs.World.{world_with}
use Rattle.lattice.specs.References.{same-exactly, assignable-arrays, mixed-arrays}
use Rattle.candidates.specs.Maybe.{LegalMaybe, maybe_type}
use Rattle.candidates.specs.Steps.{types_from}
use Rattle.candidates.specs.declared.Best.{Best}

-- dimensions and tag
abbrev pub head_of : ℕ → ℕ
head_of w = w / tag_step

-- a legal word of a class, or of its arrays, with that head
abbrev pub ClassAt : ℕ → ℕ → Type 0
ClassAt head v = Legal v × (tag_of v ≡ 1) × (head_of v ≡ head)

-- whether a class may stand for every class of a set: only No refuses
abbrev pub Stands : World → ℕ → List ℕ → Bool → Type 0
Stands w c s true = (d : ℕ) → member s d ≡ true → not_no (w.relation c d) ≡ true
Stands w c s false = (d : ℕ) × (member s d ≡ true) × (not_no (w.relation c d) ≡ false)

-- what a set of classes and one answer for the rest say of types, to every class of a head
pub record Grouped (w : World) (ts : List ArgType) (head : ℕ) (rest : Bool) (s : List ℕ) : Type 0 where
  pub sixteen : length s ≡ 16
  pub shut : rest ≡ false → (v : ℕ) → ClassAt head v → assignable_to_all w (type_of v) ts ≡ false
  pub told : rest ≡ true → (v : ℕ) (r : Bool) → ClassAt head v → Stands w (load_of v) s r → assignable_to_all w (type_of v) ts ≡ r

-- one bound more in a group that nothing refused so far
abbrev pub Adds : World → ℕ → List ℕ → ℕ → Bool → List ℕ → Type 0
Adds w head s u rest s' = (ts : List ArgType) → Grouped w ts head true s → Grouped w (type_of u ∷ ts) head rest s'

-- the answer of a group about one of its head
abbrev pub Takes : World → ℕ → Bool → List ℕ → ℕ → Bool → Type 0
Takes w head rest s v r = (ts : List ArgType) → Grouped w ts head rest s → r ≡ assignable_to_all w (type_of v) ts

-- the best so far is what it should be, and the group at hand is right
pub record BestOf (w : World) (ts : List ArgType) (best : MaybeType) (head : ℕ) (rest : Bool) (s : List ℕ) (is : Option ArgType) : Type 0 where
  pub legal : LegalMaybe best
  pub type : maybe_type best ≡ is
  pub group : Grouped w ts head rest s

-- of the struct that has them
abbrev pub BestIs : World → List ArgType → Best → Option ArgType → Type 0
BestIs w ts b = BestOf w ts b.best b.group.head b.group.rest b.group.classes.words

module _ (w : World) (ts : List ArgType) (best : MaybeType) (head : ℕ) (rest : Bool) (s : List ℕ) {is : Option ArgType} (b : BestOf w ts best head rest s is) where
  pub best-along : {is' : Option ArgType} → is ≡ is' → BestOf w ts best head rest s is'
  best-along e = record { legal = b.legal; type = b.type ∙ e; group = b.group }

  -- whatever it should be, it is what it is
  pub best-itself : BestOf w ts best head rest s (maybe_type best)
  best-itself = record { legal = b.legal; type = refl; group = b.group }

never : {P : Type 0} → true ≡ false → P
never q = absurd (true≢false q)

-- ---- two types of classes under arrays

class-type : (v : ℕ) → tag_of v ≡ 1 → type_of v ≡ arrays (dims_of v) (Object (load_of v))
unfolding type_of base_of
class-type v h = ap (λ (k : ℕ). arrays (dims_of v) (base_of k (load_of v))) h

-- the number of a legal class, of whatever dimensions
pub class-below : (v : ℕ) → Legal v → tag_of v ≡ 1 → load_of v < 1024
class-below v l h = ltb-true (load_of v) 1024 (sym (check-object 1024 v h) ∙ l)

no-primitive : (d a : ℕ) → is_primitive (arrays d (Object a)) ≡ false
unfolding arrays is_primitive
no-primitive zero a = refl
no-primitive (suc d) a = refl

module _ (w : World) where
  -- as many dimensions: by the relation
  module _ (self : (c : ℕ) → w.relation c c ≡ Yes) where
    flat-classes : (a b : ℕ) → is_assignable w (Object a) (Object b) ≡ not_no (w.relation a b)
    unfolding is_assignable assignable_apart
    flat-classes a b = go (same_type (Object a) (Object b)) refl
      where
        go : (t : Bool) → same_type (Object a) (Object b) ≡ t → (t || not_no (w.relation a b)) ≡ not_no (w.relation a b)
        go true h =
            let e = (same-exactly (Object a) (Object b)).0 h in
            let q : a ≡ b = cc in
            sym (ap (λ (x : ℕ). not_no (w.relation a x)) (sym q) ∙ ap not_no (self a))
        go false h = refl

    deep-classes : (d a b : ℕ) → is_assignable w (arrays d (Object a)) (arrays d (Object b)) ≡ not_no (w.relation a b)
    unfolding arrays
    deep-classes zero a b = flat-classes a b
    deep-classes (suc d) a b = assignable-arrays w (arrays d (Object a)) (arrays d (Object b)) (no-primitive d a) (no-primitive d b) ∙ deep-classes d a b

    same-head : (head v u : ℕ) → ClassAt head v → ClassAt head u → is_assignable w (type_of v) (type_of u) ≡ not_no (w.relation (load_of v) (load_of u))
    same-head head v u p q =
        let g = p.2 in
        let h = q.2 in
        let e : dims_of u ≡ dims_of v = omega arith in
        ap₂ (is_assignable w) (class-type v p.1) (class-type u q.1 ∙ ap (λ (d : ℕ). arrays d (Object (load_of u))) e)
        ∙ deep-classes (dims_of v) (load_of v) (load_of u)

  -- another head: whichever class it is
  other-arrays : (d a b : ℕ) (u : ArgType) → is_primitive u ≡ false → is_assignable w (arrays d (Object a)) u ≡ is_assignable w (arrays d (Object b)) u
      → is_assignable w (Array (arrays d (Object a))) (Array u) ≡ is_assignable w (Array (arrays d (Object b))) (Array u)
  other-arrays d a b u n e =
      assignable-arrays w (arrays d (Object a)) u (no-primitive d a) n ∙ e ∙ sym (assignable-arrays w (arrays d (Object b)) u (no-primitive d b) n)

  other-base : (d e k l a b : ℕ) → (e ≡ d → k ≡ 1 → ⊥) → is_assignable w (arrays d (Object a)) (arrays e (base_of k l)) ≡ is_assignable w (arrays d (Object b)) (arrays e (base_of k l))
  unfolding arrays base_of is_primitive is_assignable assignable_apart unknown_accepts same_type compare
  other-base zero zero zero l a b h = refl
  other-base zero zero (suc zero) l a b h = absurd (h refl refl)
  other-base zero zero (suc (suc k)) l a b h = refl
  other-base zero (suc e) k l a b h = refl
  other-base (suc d) zero zero l a b h = refl
  other-base (suc d) zero (suc zero) l a b h = refl
  other-base (suc d) zero (suc (suc k)) l a b h = refl
  other-base (suc d) (suc zero) zero l a b h = (mixed-arrays w l (arrays d (Object a)) (no-primitive d a)).1 ∙ sym (mixed-arrays w l (arrays d (Object b)) (no-primitive d b)).1
  other-base (suc d) (suc zero) (suc zero) l a b h = other-arrays d a b (Object l) refl (other-base d zero 1 l a b (λ p q. h (ap suc p) q))
  other-base (suc d) (suc zero) (suc (suc k)) l a b h = other-arrays d a b (base_of (suc (suc k)) l) refl (other-base d zero (suc (suc k)) l a b (λ p q. h (ap suc p) q))
  other-base (suc d) (suc (suc e)) k l a b h = other-arrays d a b (arrays (suc e) (base_of k l)) refl (other-base d (suc e) k l a b (λ p q. h (ap suc p) q))

  other-head : (head v x u : ℕ) → ClassAt head v → ClassAt head x → (head_of u ≡ head → ⊥) → is_assignable w (type_of v) (type_of u) ≡ is_assignable w (type_of x) (type_of u)
  unfolding type_of
  other-head head v x u p q n =
      let g = p.2 in
      let h = q.2 in
      let i = p.1 in
      let e : dims_of x ≡ dims_of v = omega arith in
      ap (λ (t : ArgType). is_assignable w t (type_of u)) (class-type v p.1)
      ∙ other-base (dims_of v) (dims_of u) (tag_of u) (load_of u) (load_of v) (load_of x) (λ y z. n (omega arith))
      ∙ sym (ap (λ (t : ArgType). is_assignable w t (type_of u)) (class-type x q.1 ∙ ap (λ (d : ℕ). arrays d (Object (load_of x))) e))

-- ---- one bound more

and-true : (a b : Bool) → a ≡ true → b ≡ true → (a && b) ≡ true
and-true a b p q = rw (p, q)

and-left : (a b : Bool) → a ≡ false → (a && b) ≡ false
and-left a b p = rw p

and-right : (a b : Bool) → b ≡ false → (a && b) ≡ false
and-right true b p = p
and-right false b p = refl

module _ (w : World) (head : ℕ) where
  -- nothing is asked of no bound
  pub grouped-none : (s : List ℕ) → s ≡ replicate 16 0 → Grouped w [] head true s
  unfolding assignable_to_all
  grouped-none s e = record {
    sixteen = ap length e ∙ length-replicate {A = ℕ} 16 0;
    shut = λ q v p. never q;
    told = λ q v r p st. go v r st;
  }
    where
      go : (v : ℕ) (r : Bool) → Stands w (load_of v) s r → true ≡ r
      go v true st = refl
      go v false st = absurd (false≢true (sym (ap (λ (x : List ℕ). member x st.0) e ∙ member-empty 16 st.0) ∙ st.1))

  module _ (ts : List ArgType) (s : List ℕ) (old : Grouped w ts head true s) (u : ℕ) where
    -- of the same head: one class more
    pub grouped-class : ((c : ℕ) → w.relation c c ≡ Yes) → Legal u → head_of u ≡ head → (x : ℕ) → ClassAt head x
        → (s' : List ℕ) → s' ≡ insert s (load_of u) → Grouped w (type_of u ∷ ts) head true s'
    unfolding assignable_to_all
    grouped-class self l h x xs s' e = record {
      sixteen = ap length e ∙ length-insert s (load_of u) ∙ old.sixteen;
      shut = λ q v p. never q;
      told = λ q v r p st. go v r p st;
    }
      where
        at-u : ClassAt head u
        at-u = let a = xs.1 in let b = xs.2 in (l, let q : tag_of u ≡ 1 = omega arith in q, h)

        in-set : (d : ℕ) → member s' d ≡ (eqb d (load_of u) || member s d)
        in-set d = ap (λ (y : List ℕ). member y d) e ∙ member-insert s (load_of u) d (let b = class-below u l at-u.1 in let n = old.sixteen in omega arith)

        old-in : (d : ℕ) → member s d ≡ true → member s' d ≡ true
        old-in d m = in-set d ∙ or-later (eqb d (load_of u)) m
          where
            or-later : (b : Bool) → member s d ≡ true → (b || member s d) ≡ true
            or-later true k = refl
            or-later false k = k

        go : (v : ℕ) (r : Bool) → ClassAt head v → Stands w (load_of v) s' r → (is_assignable w (type_of v) (type_of u) && assignable_to_all w (type_of v) ts) ≡ r
        go v true p st =
            and-true (is_assignable w (type_of v) (type_of u)) (assignable_to_all w (type_of v) ts)
            (same-head w self head v u p at-u ∙ st (load_of u) (in-set (load_of u) ∙ ap (λ (b : Bool). b || member s (load_of u)) (eq-eqb (load_of u) (load_of u) refl)))
            (old.told refl v true p (λ d m. st d (old-in d m)))
        go v false p st = pick (eqb st.0 (load_of u)) refl
          where
            pick : (b : Bool) → eqb st.0 (load_of u) ≡ b → (is_assignable w (type_of v) (type_of u) && assignable_to_all w (type_of v) ts) ≡ false
            pick true q =
                and-left (is_assignable w (type_of v) (type_of u)) (assignable_to_all w (type_of v) ts)
                (same-head w self head v u p at-u ∙ ap (λ (d : ℕ). not_no (w.relation (load_of v) d)) (sym (eqb-true st.0 (load_of u) q)) ∙ st.2)
            pick false q =
                and-right (is_assignable w (type_of v) (type_of u)) (assignable_to_all w (type_of v) ts)
                (old.told refl v false p (st.0, sym (ap (λ (b : Bool). b || member s st.0) q) ∙ sym (in-set st.0) ∙ st.1, st.2))

    -- of another head: the answer for one class of the head is that for all
    pub grouped-other : (head_of u ≡ head → ⊥) → (x : ℕ) → ClassAt head x → (r : Bool) → r ≡ is_assignable w (type_of x) (type_of u) → Grouped w (type_of u ∷ ts) head r s
    unfolding assignable_to_all
    grouped-other n x xs rest e = record {
      sixteen = old.sixteen;
      shut = λ q v p.
          and-left (is_assignable w (type_of v) (type_of u)) (assignable_to_all w (type_of v) ts)
          (other-head w head v x u p xs n ∙ sym e ∙ q);
      told = λ q v r p st.
          ap (λ (b : Bool). b && assignable_to_all w (type_of v) ts) (other-head w head v x u p xs n ∙ sym e ∙ q) ∙ old.told refl v r p st;
    }

-- what refuses some refuses all, so nothing more is asked
module _ (w : World) (t : ArgType) where
  pub refused-from : (ws : List ℕ) (i : ℕ) → assignable_to_all w t (types_from i ws) ≡ false → assignable_to_all w t (map type_of ws) ≡ false
  unfolding assignable_to_all
  refused-from ws zero h = h
  refused-from [] (suc i) h = h
  refused-from (x ∷ ws) (suc i) h = and-right (is_assignable w t (type_of x)) (assignable_to_all w t (map type_of ws)) (refused-from ws i h)

module _ (w : World) (head : ℕ) (ws : List ℕ) (i : ℕ) (s : List ℕ) where
  pub grouped-shut : Grouped w (types_from i ws) head false s → Grouped w (map type_of ws) head false s
  grouped-shut g = record {
    sixteen = g.sixteen;
    shut = λ q v p. refused-from w (type_of v) ws i (g.shut refl v p);
    told = λ q v r p st. never (sym q);
  }

-- ---- the answer

module _ (w : World) (ts : List ArgType) (head : ℕ) (rest : Bool) (s : List ℕ) (v : ℕ) (p : ClassAt head v) (g : Grouped w ts head rest s) where
  pub taken-by : rest ≡ true → (r : Bool) → Stands w (load_of v) s r → r ≡ assignable_to_all w (type_of v) ts
  taken-by q r st = sym (g.told q v r p st)

  pub taken-not : rest ≡ false → false ≡ assignable_to_all w (type_of v) ts
  taken-not q = sym (g.shut q v p)

-- no word of a class has the head 0
pub grouped-zero : (w : World) (ts : List ArgType) (s : List ℕ) → s ≡ replicate 16 0 → Grouped w ts 0 true s
grouped-zero w ts s e = record {
  sixteen = ap length e ∙ length-replicate {A = ℕ} 16 0;
  shut = λ q v p. never q;
  told = λ q v r p st. let a = p.1 in let b = p.2 in absurd (omega arith);
}

-- ---- a set of classes by one walk

module _ (v : View) where
  open-all : (x d e : ℕ) → ancestor v x d ≡ false → not_no (relation v x d) ≡ true → not_no (relation v x e) ≡ true
  unfolding relation
  open-all x d e n h = go (ancestor v x d) (complete v x) (ancestor v x e) n h
    where
      go : (a c b : Bool) → a ≡ false → not_no (cond a Yes (cond c No Incomplete)) ≡ true → not_no (cond b Yes (cond c No Incomplete)) ≡ true
      go true c b m k = never m
      go false true b m k = never (sym k)
      go false false true m k = refl
      go false false false m k = refl

and-both : (a b : Bool) → (a && b) ≡ true → (a ≡ true) × (b ≡ true)
and-both true true h = (refl, refl)
and-both true false h = absurd (false≢true h)
and-both false b h = absurd (false≢true h)

not-true : (b : Bool) → not b ≡ true → b ≡ false
not-true true h = absurd (false≢true h)
not-true false h = refl

module _ (v : View) (cloneable serializable : Option ℕ) (class : ℕ) (s left : List ℕ) (n : length s ≡ 16) (e : left ≡ remove (remove s class) v.object) where
  left-length : length left ≡ 16
  left-length = ap length e ∙ length-remove (remove s class) v.object ∙ length-remove s class ∙ n

  left-member : (d : ℕ) → member left d ≡ (not (eqb d v.object) && (not (eqb d class) && member s d))
  left-member d =
      ap (λ (x : List ℕ). member x d) e ∙ member-remove (remove s class) v.object d
      ∙ ap (λ (b : Bool). not (eqb d v.object) && b) (member-remove s class d)

  yes : (d : ℕ) → ancestor v class d ≡ true → not_no (relation v class d) ≡ true
  yes d a = ap not_no ((relation-yes v class d).1 a)

  -- a member is the class, Object, or left
  by-kind : ((d : ℕ) → member left d ≡ true → ancestor v class d ≡ true) → (d : ℕ) → member s d ≡ true → ancestor v class d ≡ true
  by-kind rest d m = go (eqb d v.object) refl (eqb d class) refl
    where
      go : (a : Bool) → eqb d v.object ≡ a → (b : Bool) → eqb d class ≡ b → ancestor v class d ≡ true
      go true p b q = subst (λ (x : ℕ). ancestor v class x ≡ true) (sym (eqb-true d v.object p)) (ancestor-object v class)
      go false p true q = subst (λ (x : ℕ). ancestor v class x ≡ true) (sym (eqb-true d class q)) (ancestor-self v class)
      go false p false q = rest d (left-member d ∙ rw (p, q, m))

  pub stands-alone : first (at left) 1024 ≡ 1024 → Stands (world_with v cloneable serializable) class s true
  stands-alone f d m = yes d (by-kind (λ x k. absurd (false≢true (sym (lowest-none left left-length f x) ∙ k))) d m)

  module _ (missing : List ℕ) (h : missing ≡ subtract left (reached v class)) where
    same : length left ≡ length (reached v class)
    unfolding reached
    same = left-length ∙ sym (level-formed v v.names class).0

    missing-length : length missing ≡ 16
    missing-length = ap length h ∙ length-subtract left (reached v class) same ∙ left-length

    missing-member : (d : ℕ) → member missing d ≡ (member left d && not (reach v class d))
    unfolding reach
    missing-member d = ap (λ (x : List ℕ). member x d) h ∙ member-subtract left (reached v class) d same

    pub stands-reached : first (at missing) 1024 ≡ 1024 → Stands (world_with v cloneable serializable) class s true
    stands-reached f d m = yes d (by-kind (λ x k. go x k (reach v class x) refl) d m)
      where
        go : (x : ℕ) → member left x ≡ true → (b : Bool) → reach v class x ≡ b → ancestor v class x ≡ true
        go x k true q = reach-ancestor v class x q
        go x k false q = absurd (false≢true (sym (lowest-none missing missing-length f x) ∙ missing-member x ∙ rw (k, q)))

    -- one that is not reached tells of all
    pub stands-by-one : (d : ℕ) → d ≡ first (at missing) 1024 → (d ≡ 1024 → ⊥) → (r : Bool) → r ≡ not_no (relation v class d) → Stands (world_with v cloneable serializable) class s r
    unfolding ancestor
    stands-by-one d q n r o = go r o
      where
        there : member missing d ≡ true
        there =
            subst (λ (x : ℕ). member missing x ≡ true) (sym q)
            (lowest-member missing 1024 (let l = first-le (at missing) 1024 in omega arith))

        parts : (member left d ≡ true) × (not (reach v class d) ≡ true)
        parts = and-both (member left d) (not (reach v class d)) (sym (missing-member d) ∙ there)

        kinds : (not (eqb d v.object) ≡ true) × ((not (eqb d class) && member s d) ≡ true)
        kinds = and-both (not (eqb d v.object)) (not (eqb d class) && member s d) (sym (left-member d) ∙ parts.0)

        more : (not (eqb d class) ≡ true) × (member s d ≡ true)
        more = and-both (not (eqb d class)) (member s d) kinds.1

        turned : (a b : ℕ) → eqb a b ≡ false → eqb b a ≡ false
        turned a b z = ne_eqb b a (λ y. eqb-false a b z (sym y))

        no-ancestor : ancestor v class d ≡ false
        no-ancestor = rw (turned d class (not-true (eqb d class) more.0), not-true (eqb d v.object) kinds.0, not-true (reach v class d) parts.1)

        go : (b : Bool) → b ≡ not_no (relation v class d) → Stands (world_with v cloneable serializable) class s b
        go true z = λ x m. open-all v class d x no-ancestor (sym z)
        go false z = (d, more.1, sym z)
