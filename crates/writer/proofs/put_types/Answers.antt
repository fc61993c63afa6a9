-- `put_types` meets its contract. Invariant: what is left to store gives what the whole gives.
use mathlib.Core.Path.{sym, ap, ◌∙◌}
use Prim.Native.Nat.{ℕ, ◌+◌}
use native.Mathlib.Omega.{arith}
use mathlib.Core.List.{List}
use lib.ListN.{length, drop, get_or, length-append}
use lib.Seq.{sets}
use Rattle.writer.specs.Print.{print_word, print_words}
use Rattle.writer.specs.Store.{put-before, put-length}
use Rattle.writer.specs.Steps.{legal-front, words-next, words-none}
use Rattle.writer.proofs.put_types.Goals as goal

pub put_type-next-requires : goal.put_type-next-requires
put_type-next-requires c =
    let a = c.args in
    let p = c.requires in
    let l = c.loop-word in
    let e = ap length (words-next a.names.now a.name_at.now a.name_len.now a.words.now l.word-index (omega arith)) in
    let n = length-append (print_word a.names.now a.name_at.now a.name_len.now (get_or a.words.now l.word-index 0)) (print_words a.names.now a.name_at.now a.name_len.now (drop (l.word-index + 1) a.words.now)) in
    (p.0, (legal-front (length a.name_at.now) a.words.now l.word-index (omega arith) l.invariant.1).0, omega arith)

pub loop-word-preserved : goal.loop-word-preserved
loop-word-preserved c =
    let a = c.args in
    let l = c.loop-word in
    let put = c.put_type-next.ensures in
    let w = words-next a.names.now a.name_at.now a.name_len.now a.words.now l.word-index (omega arith) in
    let rest = print_words a.names.now a.name_at.now a.name_len.now (drop (l.word-index + 1) a.words.now) in
    let e = ap length w in
    let n = length-append (print_word a.names.now a.name_at.now a.name_len.now (get_or a.words.now l.word-index 0)) rest in
    let q = put.next in (
      put-length put ∙ l.invariant.0,
      (legal-front (length a.name_at.now) a.words.now l.word-index (omega arith) l.invariant.1).1,
      omega arith,
      l.invariant.3 ∙ ap (λ (xs : List ℕ). sets l.out l.next xs) w ∙ put-before put rest,
    )

pub returns : goal.returns
returns c =
    let a = c.args in
    let l = c.loop-word in
    let w = words-none a.names.now a.name_at.now a.name_len.now a.words.now l.word-index (omega arith) in
    let e = ap length w in
    record { next = let q = l.invariant.2 in omega arith; stored = sym (l.invariant.3 ∙ ap (λ (xs : List ℕ). sets l.out l.next xs) w) }
