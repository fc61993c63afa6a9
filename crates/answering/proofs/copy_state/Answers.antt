-- `copy_state` meets its contract: five copies, each from the end of the one before it.
use native.Mathlib.Omega.{arith}
use Rattle.resolvinglaws.specs.Parts.{five-short}
use Rattle.answering.specs.Steps.{five-copied, five-ends}
use Rattle.answering.proofs.copy_state.Goals as goal

pub copy_words-domain-requires : goal.copy_words-domain-requires
copy_words-domain-requires c =
    let x = c.args in
    let p = c.requires in
    (p.0, p.1, omega arith, omega (arith, p.2, five-short x.component x.keys.now p.0))

pub copy_words-fallback-requires : goal.copy_words-fallback-requires
copy_words-fallback-requires c =
    let x = c.args in
    let p = c.requires in
    let o1 = c.copy_words-domain in
    (p.0, p.1, omega arith, omega (arith, p.2, five-short x.component x.keys.now p.0, o1.ensures.0, o1.auto.out))

pub copy_words-upper-requires : goal.copy_words-upper-requires
copy_words-upper-requires c =
    let x = c.args in
    let p = c.requires in
    let o1 = c.copy_words-domain in
    let o2 = c.copy_words-fallback in
    (p.0, p.1, omega arith, omega (arith, p.2, five-short x.component x.keys.now p.0, o1.ensures.0, o1.auto.out, o2.ensures.0, o2.auto.out))

pub copy_words-lower-requires : goal.copy_words-lower-requires
copy_words-lower-requires c =
    let x = c.args in
    let p = c.requires in
    let o1 = c.copy_words-domain in
    let o2 = c.copy_words-fallback in
    let o3 = c.copy_words-upper in
    (p.0, p.1, omega arith, omega (arith, p.2, five-short x.component x.keys.now p.0, o1.ensures.0, o1.auto.out, o2.ensures.0, o2.auto.out, o3.ensures.0, o3.auto.out))

pub copy_words-exact-requires : goal.copy_words-exact-requires
copy_words-exact-requires c =
    let x = c.args in
    let p = c.requires in
    let o1 = c.copy_words-domain in
    let o2 = c.copy_words-fallback in
    let o3 = c.copy_words-upper in
    let o4 = c.copy_words-lower in
    (p.0, p.1, omega arith, omega (arith, p.2, five-short x.component x.keys.now p.0, o1.ensures.0, o1.auto.out, o2.ensures.0, o2.auto.out, o3.ensures.0, o3.auto.out, o4.ensures.0, o4.auto.out))

pub returns : goal.returns
returns c =
    let x = c.args in
    let o1 = c.copy_words-domain in
    let o2 = c.copy_words-fallback in
    let o3 = c.copy_words-upper in
    let o4 = c.copy_words-lower in
    let o5 = c.copy_words-exact in
    (five-ends x.component x.keys.now x.out.now o1.new.out o2.new.out o3.new.out o4.new.out o5.new.out o1.result o2.result o3.result o4.result o5.result o1.ensures.0 o1.ensures.1 o2.ensures.0 o2.ensures.1 o3.ensures.0 o3.ensures.1 o4.ensures.0 o4.ensures.1 o5.ensures.0 o5.ensures.1, five-copied x.component x.keys.now x.out.now o1.new.out o2.new.out o3.new.out o4.new.out o5.new.out o1.result o2.result o3.result o4.result o5.result o1.ensures.0 o1.ensures.1 o2.ensures.0 o2.ensures.1 o3.ensures.0 o3.ensures.1 o4.ensures.0 o4.ensures.1 o5.ensures.0 o5.ensures.1)
