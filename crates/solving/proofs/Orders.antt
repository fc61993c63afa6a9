-- Bounds, pairs and types are totally ordered, and the types of a kind in a table stand in their order.
use Rattle.std.specs.Prelude.{◌≡◌, Bool, cond, ◌⊎◌, ℕ}
use Rattle.std.proofs.Math.Path.{refl, sym}
use Rattle.std.proofs.Common.{ap, ap₂, ◌∙◌, inl, inr}
use Rattle.std.proofs.Math.Bool.{true, false}
use mathlib.Core.List.{[], ◌∷◌}
use Rattle.std.proofs.Math.Dec.{eqb}
use borrow.Author.Tests.{eqb-true}
use Rattle.order.specs.Laws.{less-not-equal, less-not-greater, equal-not-greater, numbers-same, equal-numbers, numbers-swap, numbers-trans}
use Rattle.order.specs.Compare.{then, compare_numbers, flip}
use Rattle.std.specs.declared.cmp.Ordering.{Ordering}
use Rattle.std.specs.declared.cmp.Ordering.TheVariants.{Less, Equal, Greater}
use Rattle.ty.specs.Types.{compare}
use Rattle.ty.specs.Order.{compare-same, compare-equal, compare-swap, compare-trans}
use Rattle.solving.specs.Ordered.{After, Ascending}
use Rattle.solving.specs.OrderedLaws.{Total}
use Rattle.solving.proofs.OrderedLaws.{after-ascending, after-skip}
use Rattle.solving.specs.Solving.{Bound, Table, compare_bounds, types_of, compare_pairs}
use Rattle.solving.specs.Orders.{both, parts, compare_parts}

pub numbers-total : Total compare_numbers
numbers-total = record { same = numbers-same; equal = equal-numbers; swap = numbers-swap; trans = numbers-trans }

pub types-total : Total compare
types-total = record { same = compare-same; equal = compare-equal; swap = compare-swap; trans = compare-trans }

-- ---- one part before the other

then-flip : (o p : Ordering) → then (flip o) (flip p) ≡ flip (then o p)
then-flip Less p = refl
then-flip Equal p = refl
then-flip Greater p = refl

then-equal : (o p : Ordering) → then o p ≡ Equal → (o ≡ Equal) × (p ≡ Equal)
then-equal Less p h = absurd (less-not-equal h)
then-equal Equal p h = (refl, h)
then-equal Greater p h = absurd (equal-not-greater (sym h))

then-less : (o p : Ordering) → then o p ≡ Less → (o ≡ Less) ⊎ ((o ≡ Equal) × (p ≡ Less))
then-less Less p h = inl refl
then-less Equal p h = inr (refl, h)
then-less Greater p h = absurd (less-not-greater (sym h))

module _ {A B : Type 0} (ca : A → A → Ordering) (cb : B → B → Ordering) (ta : Total ca) (tb : Total cb) where
  both-trans : (p q r : A × B) → both ca cb p q ≡ Less → both ca cb q r ≡ Less → both ca cb p r ≡ Less
  both-trans p q r h k = go (then-less (ca p.0 q.0) (cb p.1 q.1) h) (then-less (ca q.0 r.0) (cb q.1 r.1) k)
    where
      first : ca p.0 r.0 ≡ Less → both ca cb p r ≡ Less
      first e = ap (λ (o : Ordering). then o (cb p.1 r.1)) e

      go : (ca p.0 q.0 ≡ Less) ⊎ ((ca p.0 q.0 ≡ Equal) × (cb p.1 q.1 ≡ Less))
          → (ca q.0 r.0 ≡ Less) ⊎ ((ca q.0 r.0 ≡ Equal) × (cb q.1 r.1 ≡ Less)) → both ca cb p r ≡ Less
      go (inl a) (inl b) = first (ta.trans p.0 q.0 r.0 a b)
      go (inl a) (inr b) = first (ap (ca p.0) (sym (ta.equal q.0 r.0 b.0)) ∙ a)
      go (inr a) (inl b) = first (ap (λ (x : A). ca x r.0) (ta.equal p.0 q.0 a.0) ∙ b)
      go (inr a) (inr b) =
          ap₂ then (ap (λ (x : A). ca x r.0) (ta.equal p.0 q.0 a.0) ∙ b.0) (tb.trans p.1 q.1 r.1 a.1 b.1)

  both-total : Total (both ca cb)
  both-total = record {
    same = λ p. ap₂ then (ta.same p.0) (tb.same p.1);
    equal = λ p q h.
        let e = then-equal (ca p.0 q.0) (cb p.1 q.1) h in
        let x = ta.equal p.0 q.0 e.0 in
        let y = tb.equal p.1 q.1 e.1 in
        λ i. (x i, y i);
    swap = λ p q. ap₂ then (ta.swap p.0 q.0) (tb.swap p.1 q.1) ∙ then-flip (ca p.0 q.0) (cb p.1 q.1);
    trans = both-trans;
  }

pub pairs-total : Total compare_pairs
unfolding compare_pairs
pairs-total = both-total compare_numbers compare_numbers numbers-total numbers-total

parts-total : Total compare_parts
parts-total = both-total compare_numbers (both compare_numbers compare) numbers-total (both-total compare_numbers compare numbers-total types-total)

parts-bound : (a b : Bound) → parts a ≡ parts b → a ≡ b
parts-bound a b e i = record { component = (e i).0; kind = (e i).1.0; type = (e i).1.1 }

pub bounds-total : Total compare_bounds
unfolding compare_bounds
bounds-total = record {
  same = λ a. parts-total.same (parts a);
  equal = λ a b h. parts-bound a b (parts-total.equal (parts a) (parts b) h);
  swap = λ a b. parts-total.swap (parts a) (parts b);
  trans = λ a b c. parts-total.trans (parts a) (parts b) (parts c);
}

-- ---- THE TYPES OF A KIND STAND IN THEIR ORDER

less-type : (a b : Bound) → a.component ≡ b.component → a.kind ≡ b.kind → compare_bounds a b ≡ Less → compare a.type b.type ≡ Less
unfolding compare_bounds
less-type a b e f h =
    ap₂ (λ (o p : Ordering). then o (then p (compare a.type b.type)))
    (sym (ap (compare_numbers a.component) (sym e) ∙ numbers-same a.component))
    (sym (ap (compare_numbers a.kind) (sym f) ∙ numbers-same a.kind))
    ∙ h

module _ (c k : ℕ) where
  types-after : (b : Bound) → b.component ≡ c → b.kind ≡ k → (t : Table) → After compare_bounds b t → After compare b.type (types_of c k t)
  unfolding types_of
  types-after b e f [] g = tt
  types-after b e f (x ∷ t) g =
      go (eqb x.component c) refl (eqb x.kind k) refl (types-after b e f t (after-skip compare_bounds bounds-total b x t g.0 g.1))
      (λ p q. types-after x p q t g.1)
    where
      go : (u : Bool) → eqb x.component c ≡ u → (v : Bool) → eqb x.kind k ≡ v → After compare b.type (types_of c k t)
          → (x.component ≡ c → x.kind ≡ k → After compare x.type (types_of c k t))
          → After compare b.type (cond u (cond v (x.type ∷ types_of c k t) (types_of c k t)) (types_of c k t))
      go true p true q skip next =
          let i = eqb-true x.component c p in
          let j = eqb-true x.kind k q in
          (less-type b x (e ∙ sym i) (f ∙ sym j) g.0, next i j)
      go true p false q skip next = skip
      go false p v q skip next = skip

  pub types-ascend : (t : Table) → Ascending compare_bounds t → Ascending compare (types_of c k t)
  unfolding types_of
  types-ascend [] g = tt
  types-ascend (b ∷ t) g = go (eqb b.component c) refl (eqb b.kind k) refl (types-ascend t (after-ascending compare_bounds bounds-total b t g))
    where
      go : (u : Bool) → eqb b.component c ≡ u → (v : Bool) → eqb b.kind k ≡ v → Ascending compare (types_of c k t)
          → Ascending compare (cond u (cond v (b.type ∷ types_of c k t) (types_of c k t)) (types_of c k t))
      go true p true q ih = types-after b (eqb-true b.component c p) (eqb-true b.kind k q) t g
      go true p false q ih = ih
      go false p v q ih = ih
