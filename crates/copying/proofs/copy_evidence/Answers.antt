-- `copy_evidence` meets its contract: the exact ones, or the lower ones.
use mathlib.Core.Path.{ap, ap₂, ◌∙◌}
use mathlib.Core.List.{List}
use Prim.Native.Nat.{ℕ}
use native.Mathlib.Nat.{zero-add}
use native.Mathlib.Omega.{arith}
use lib.ListN.{length}
use lib.Seq.{paste}
use Rattle.copying.specs.Copies.{run_in, words_in}
use Rattle.copying.specs.Steps.{run-short, evidence-exact, evidence-lower, paste-none}
use Rattle.copying.proofs.copy_evidence.Goals as goal

pub copy_words-exact-requires : goal.copy_words-exact-requires
copy_words-exact-requires c =
    let x = c.args in
    let p = c.requires in
    (p.0, p.1, omega arith, omega (arith, p.2, run-short x.component 4 x.keys.now p.0))

pub returns-then-exact-ne0 : goal.returns-then-exact-ne0
returns-then-exact-ne0 c =
    let x = c.args in
    let o = c.copy_words-exact in
    let e = evidence-exact x.component x.keys.now x.out.now o.result o.ensures.0 c.if-exact-ne0.true in (
      o.ensures.0 ∙ zero-add (length (run_in x.component 4 x.keys.now)) ∙ ap length e,
      o.ensures.1 ∙ ap (λ (l : List ℕ). paste x.out.now 0 (words_in l) (length l)) e,
    )

pub copy_words-requires : goal.copy_words-requires
copy_words-requires c =
    let x = c.args in
    let p = c.requires in
    let o = c.copy_words-exact in
    (p.0, p.1, omega arith, omega (arith, p.2, o.auto.out, run-short x.component 3 x.keys.now p.0))

pub returns : goal.returns
returns c =
    let x = c.args in
    let o = c.copy_words-exact in
    let v = c.copy_words in
    let e = evidence-lower x.component x.keys.now x.out.now o.result o.ensures.0 c.if-exact-ne0.false in
    let same = paste-none x.component x.keys.now x.out.now o.new.out (run_in x.component 4 x.keys.now) e.0 o.ensures.1 in (
      v.ensures.0 ∙ zero-add (length (run_in x.component 3 x.keys.now)) ∙ ap length e.1,
      v.ensures.1 ∙ ap₂ (λ (d l : List ℕ). paste d 0 (words_in l) (length l)) same e.1,
    )
