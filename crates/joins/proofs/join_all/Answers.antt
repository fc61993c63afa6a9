-- `join_all` meets its contract. Invariant: the join so far, with the words left, is the whole.
use mathlib.Core.Path.{◌≡◌, sym, ap, ◌∙◌}
use mathlib.Core.Bool.{true}
use mathlib.Core.List.{List}
use mathlib.Core.Option.{some}
use Prim.Native.Nat.{ℕ, ◌+◌, ◌-◌, ◌<◌, ◌^◌}
use native.Mathlib.Omega.{arith}
use lib.ListN.{length, take, drop, get_or, length-take}
use Rattle.std.proofs.Common.{length-drop}
use lib.Seq.{get_or-take, get_or-drop}
use Rattle.ty.specs.Words.{type_of, legal_word}
use Rattle.std.specs.Prelude.{Some}
use Rattle.ty.specs.Types.{ArgType}
use Rattle.ty.specs.Answers.{word, maybe_word}
use Rattle.ty.specs.Round.{word-of-type}
use Rattle.tables.specs.declared.Tables.{Tables}
use Rattle.lattice.specs.Lattice.{join}
use Rattle.lattice.specs.World.{world_of}
use Rattle.joins.specs.Joins.{AllLegal}
use Rattle.joins.specs.Fold.{join_rest, all-none, all-first, all-next, all-end, next-legal, next-type}
use Rattle.joins.proofs.join_all.Goals as goal

pub returns-then-words-eq0 : goal.returns-then-words-eq0
returns-then-words-eq0 c = let a = c.args in sym (ap maybe_word (all-none (world_of a.pairs.now a.marks.now a.t) a.words.now c.if-words-eq0.true))

pub loop-word-init : goal.loop-word-init
loop-word-init c =
    let a = c.args in
    let p = c.requires in
    let e = c.if-words-eq0.false in
    (p.1 0 (omega arith), all-first (world_of a.pairs.now a.marks.now a.t) a.words.now e, omega (arith, (c.type_inv.words 0).fits))

-- a word of the part without the first
later : (words : List ℕ) (k : ℕ) → k < length words - 1 → get_or (take (length words - 1) (drop 1 words)) k 0 ≡ get_or words (k + 1) 0
later words k h = get_or-take (length words - 1) (drop 1 words) k 0 h ∙ get_or-drop 1 words k 0 ∙ ap (λ (i : ℕ). get_or words i 0) (let e : 1 + k ≡ k + 1 = omega arith in e)

later-legal : (t : Tables) (words : List ℕ) (k : ℕ) → AllLegal t words → k < length words - 1 → legal_word t.names (get_or (take (length words - 1) (drop 1 words)) k 0) ≡ true
later-legal t words k p h = ap (legal_word t.names) (later words k h) ∙ p (k + 1) (omega arith)

-- the index in the part, within the words
part-index : (words : List ℕ) (k : ℕ) → k < length (take (length words - 1) (drop 1 words)) → k < length words - 1
part-index words k h = let l = length-take (length words - 1) (drop 1 words) in omega arith

pub join-all-requires : goal.join-all-requires
join-all-requires c =
    let a = c.args in
    let p = c.requires in
    let l = c.loop-word in
    (p.0, l.invariant.0, later-legal a.t a.words.now l.word-index p.1 (part-index a.words.now l.word-index c.loop-word-test.true), p.3)

pub loop-word-preserved : goal.loop-word-preserved
loop-word-preserved c =
    let a = c.args in
    let p = c.requires in
    let l = c.loop-word in
    let w = world_of a.pairs.now a.marks.now a.t in
    let k = l.word-index in
    let h = part-index a.words.now k c.loop-word-test.true in
    let x = l.all.word in
    let y = get_or (take (length a.words.now - 1) (drop 1 a.words.now)) k 0 in
    let is = later a.words.now k h in
    let f = l.invariant.2 in
    let g : y < 2 ^ 64 = omega (arith, is, (c.type_inv.words (k + 1)).fits) in
    let r = later-legal a.t a.words.now k p.1 h in
    let e = c.join-all.ensures in (
      ap (legal_word a.t.names) e ∙ next-legal a.pairs.now a.marks.now a.t p.0 x y l.invariant.0 r f g,
      l.invariant.1
          ∙ ap some
          (all-next w a.words.now (type_of x) (k + 1) (omega arith)
          ∙ ap (λ (z : ℕ). join_rest w a.words.now (join w (type_of x) (type_of z)) (k + 1 + 1)) (sym is)
          ∙ ap (λ (t : ArgType). join_rest w a.words.now t (k + 1 + 1)) (sym (ap type_of e ∙ next-type a.pairs.now a.marks.now a.t p.0 x y l.invariant.0 r f g))),
      omega arith,
    )

pub returns : goal.returns
returns c =
    let a = c.args in
    let p = c.requires in
    let l = c.loop-word in
    let x = l.all.word in
    let n = length-take (length a.words.now - 1) (drop 1 a.words.now) in
    let d = length-drop 1 a.words.now in
    sym
    (ap maybe_word (l.invariant.1 ∙ ap some (all-end (world_of a.pairs.now a.marks.now a.t) a.words.now (type_of x) (l.word-index + 1) (omega arith)))
    ∙ ap (λ (y : ℕ). Some (word y)) (word-of-type a.t.names x l.invariant.0))
