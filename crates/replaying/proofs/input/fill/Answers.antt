-- `fill` meets its contract: what it filled is what it consumed.
use Rattle.std.proofs.Common.{◌≡◌, ℕ, ◌+◌, ◌-◌, ◌≤◌, List, ◌++◌, rules, length, take, drop, sym, ap, ◌∙◌, subst, le_refl, drop_at, length-take-le}
use Rattle.std.specs.Io.KnownBytes.{Consumes}
use Rattle.std.proofs.KnownBytes.{Consumes-trans, Consumes-kept}
use Rattle.std.proofs.lemmas.List.{take-append-le}
use Rattle.std.proofs.lemmas.Slice.{take-put_mid_below}
use borrow.Rule.Slice.PartMut.{put_mid, post_of}
use lib.Seq.{take-add}
use Rattle.replaying.proofs.input.fill.Goals as goal
use Rattle.replaying.proofs.input.fill.Goals.{in-Ok, in-Err}

-- what was filled, and then n bytes of what was read
filled_more : (from k n : ℕ) (xs ys : List ℕ) → from ≤ length xs → n ≤ length ys → take from xs ++ take n ys ≡ take (from + n) (put_mid from k xs ys)
filled_more from k n xs ys within fits =
    let all = put_mid from k xs ys in
    let after = post_of from k xs in
    let front : take from all ≡ take from xs = take-put_mid_below from k xs ys from (le_refl _) within in
    let rest : drop from all ≡ ys ++ after = drop_at (take from xs) (ys ++ after) from (length-take-le from xs within) in
    let part : take n (drop from all) ≡ take n ys = ap (take n) rest ∙ take-append-le n ys after fits in
    sym (take-add from n all ∙ ap (λ l. l ++ take n (drop from all)) front ∙ ap (λ l. take from xs ++ l) part)

-- a read that failed
filled_same : (from k : ℕ) (xs ys : List ℕ) → from ≤ length xs → take from xs ≡ take from (put_mid from k xs ys)
filled_same from k xs ys within = sym (take-put_mid_below from k xs ys from (le_refl _) within)

pub reads-preserved : goal.reads-preserved
reads-preserved g c =
    let v = c.reads.invariant in
    let at = c.reads.filled in
    let xs = c.reads.buffer in
    let ys = c.read.new.buf in
    let k = length xs - at in
    let before = g.R.Read.remaining c.args.input.now in
    let after = g.R.Read.remaining c.read.new.self in
    elim c.match-read.branch [
      | in-Ok w ↦ record {
        within = rw w.filled-is (search rules);
        bytes =
            rw w.filled-is (
            subst (Consumes before after) (filled_more at k w.in-Ok.n xs ys v.within w.in-Ok.ensures.bound.0) (Consumes-trans _ _ _ _ _ v.bytes w.in-Ok.ensures.bytes.0)
            );
      }
      | in-Err w ↦ record {
        within = rw w.filled-is (search rules);
        bytes = rw w.filled-is (subst (Consumes before after) (filled_same at k xs ys v.within) (Consumes-kept _ _ _ _ v.bytes w.in-Err.ensures.bytes));
      }
    ]
