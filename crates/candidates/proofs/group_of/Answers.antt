-- `group_of` meets its contract: the group is that of the bounds from the place on that the loop has come to, and one that refuses refuses for all.
use mathlib.Core.Path.{◌≡◌, refl, sym, ◌∙◌, subst}
use mathlib.Core.Bool.{Bool, true, false}
use mathlib.Core.List.{List, ◌∷◌, map}
use Prim.Native.Nat.{ℕ, ◌-◌}
use native.Mathlib.Omega.{arith}
use lib.ListN.{length}
use Rattle.std.proofs.Common.{Bor}
use Rattle.std.specs.List.{push}
use Rattle.ty.specs.Types.{ArgType}
use Rattle.ty.specs.Words.{type_of}
use Rattle.lattice.specs.Lattice.{World}
use Rattle.lattice.specs.World.{world_of}
use Rattle.candidates.specs.Steps.{types_from, types-end}
use Rattle.candidates.specs.Groups.{head_of, Grouped, Adds, grouped-none, grouped-shut}
use Rattle.candidates.proofs.Back.{place, Turn, turn, turned, legal-turn, types-turn}
use Rattle.candidates.proofs.group_of.Goals as goal

pub loop-word-init : goal.loop-word-init
loop-word-init c = let a = c.args in (
  refl,
  refl,
  subst (λ (ts : List ArgType). Grouped (world_of a.pairs.now a.marks.now a.t) ts (head_of a.candidate.word) true c.empty.result.words)
      (sym (types-end a.upper.now (length a.upper.now - 0) (omega arith)))
      (grouped-none (world_of a.pairs.now a.marks.now a.t) (head_of a.candidate.word) c.empty.result.words c.empty.ensures),
)

pub with_other-next-requires : goal.with_other-next-requires
with_other-next-requires c =
    let a = c.args in
    let p = c.requires in
    let l = c.loop-word in
    let x = c.in-Some.field-0 in
    (p.0, (p.1, p.2, sym l.invariant.0), legal-turn a.upper.now l.yielded x (turn a.upper.now c.into_iter-word-iterator.result (cc) l.yielded _ l.yielded_by _ _ c.in-Some.field-0 c.in-Some.is c.next.ensures.steps) p.3)

-- the group with one bound more
more : (w : World) (ws : List ℕ) (done : List (Bor ℕ)) (x : Bor ℕ) → Turn ws done x → (head : ℕ) (classes : List ℕ) → Grouped w (types_from (place ws done) ws) head true classes
    → (h : ℕ) → h ≡ head → (rest b : Bool) → rest ≡ b → (more : List ℕ) → Adds w head classes x.now rest more
    → Grouped w (types_from (place ws (push done x)) ws) h b more
more w ws done x t head classes g h e rest b q all adds =
    subst (λ (ts : List ArgType). Grouped w ts h b all) (sym (types-turn ws done x t))
    (subst (λ (n : ℕ). Grouped w (type_of x.now ∷ types_from (place ws done) ws) n b all) (sym e)
    (subst (λ (r : Bool). Grouped w (type_of x.now ∷ types_from (place ws done) ws) head r all) q
    (adds (types_from (place ws done) ws) g)))

pub loop-word-preserved : goal.loop-word-preserved
loop-word-preserved c =
    let a = c.args in
    let l = c.loop-word in
    let n = c.with_other-next in
    let x = c.in-Some.field-0 in (
      n.ensures.0 ∙ l.invariant.0,
      c.if-next.true,
      more (world_of a.pairs.now a.marks.now a.t) a.upper.now l.yielded x (turn a.upper.now c.into_iter-word-iterator.result (cc) l.yielded _ l.yielded_by _ _ c.in-Some.field-0 c.in-Some.is c.next.ensures.steps) l.g.head l.g.classes.words l.invariant.2
          n.result.head n.ensures.0 n.result.rest true c.if-next.true n.result.classes.words n.ensures.1,
    )

pub returns-else-next : goal.returns-else-next
returns-else-next c =
    let a = c.args in
    let l = c.loop-word in
    let n = c.with_other-next in
    let x = c.in-Some.field-0 in
    let w = world_of a.pairs.now a.marks.now a.t in (
      n.ensures.0 ∙ l.invariant.0,
      subst (λ (b : Bool). Grouped w (map type_of a.upper.now) n.result.head b n.result.classes.words) (sym c.if-next.false)
          (grouped-shut w n.result.head a.upper.now (place a.upper.now (push l.yielded x)) n.result.classes.words
          (more w a.upper.now l.yielded x (turn a.upper.now c.into_iter-word-iterator.result (cc) l.yielded _ l.yielded_by _ _ c.in-Some.field-0 c.in-Some.is c.next.ensures.steps) l.g.head l.g.classes.words l.invariant.2
          n.result.head n.ensures.0 n.result.rest false c.if-next.false n.result.classes.words n.ensures.1)),
    )

pub returns : goal.returns
returns c =
    let a = c.args in
    let l = c.loop-word in
    let w = world_of a.pairs.now a.marks.now a.t in (
      l.invariant.0,
      subst (λ (b : Bool). Grouped w (map type_of a.upper.now) l.g.head b l.g.classes.words) (sym l.invariant.1)
          (subst (λ (k : ℕ). Grouped w (types_from k a.upper.now) l.g.head true l.g.classes.words) (turned a.upper.now c.into_iter-word-iterator.result (cc) l.yielded _ l.yielded_by _ _ c.in-None.is c.next.ensures.steps) l.invariant.2),
    )
