-- `prepare` meets its contract: rows of all classes behind, keys in front.
use mathlib.Core.Path.{◌≡◌, refl, sym, ap, ◌∙◌}
use mathlib.Core.List.{List, ◌++◌}
use Prim.Native.Nat.{ℕ, ◌+◌, ◌≤◌}
use native.Mathlib.Omega.{arith}
use lib.ListN.{length, take, drop}
use lib.Seq.{paste, length-take-le}
use Rattle.std.proofs.Common.{take_all}
use Rattle.std.proofs.lemmas.Slice.{put_mid-paste}
use borrow.Rule.Slice.PartMut.{put_mid}
use Rattle.tables.specs.Table.{pairs_room, view_of, view-good}
use Rattle.ancestry.specs.Rows.{rows_room}
use Rattle.prepared.specs.Prepared.{above-inside, above-closed, part-zero, put-length, zeros-length-of}
use Rattle.prepared.proofs.prepare.Goals as goal

pub slice_bounds-fill-end : goal.slice_bounds-fill-end
slice_bounds-fill-end c =
    let l = zeros-length-of c.args.table.now c.requires.5 in
    omega arith

pub fill-requires : goal.fill-requires
fill-requires c =
    let a = c.args in
    let p = c.requires in
    let b = c.spread-above in
    let v = view_of a.pairs.now a.marks.now a.t in
    let g = view-good a.pairs.now a.marks.now a.t p.0 p.1 in (
      p.0,
      p.1,
      above-inside v g a.s.words b.result.words p.4 b.ensures,
      above-closed v g a.s.words b.result.words p.4 b.ensures,
      part-zero a.table.now p.5,
    )

pub slice_bounds-copy_from_slice-end : goal.slice_bounds-copy_from_slice-end
slice_bounds-copy_from_slice-end c =
    let l = put-length c.args.table.now c.fill.new.rows c.requires.5 c.fill.ensures.size in
    let n = c.requires.2 in
    omega arith

-- the front of a slice, filled with the first words of another
front : (n : ℕ) (xs ys from : List ℕ) → ys ≡ take n from → n ≤ length from → put_mid 0 n xs ys ≡ paste xs 0 from n
front n xs ys from e h =
    let l = length-take-le n from h in
    put_mid-paste 0 n xs ys (take n from) n e refl (sym l) ∙ ap (λ (w : List ℕ). w ++ drop (0 + n) xs) (take_all n (take n from) (omega arith))

pub returns : goal.returns
returns c =
    let a = c.args in
    let b = c.spread-above in
    let r = c.fill.new.rows in
    record {
      above = b.result.words;
      spread = b.ensures;
      rows = r;
      are = c.fill.ensures;
      is = front a.t.pairs (put_mid pairs_room rows_room a.table.now r) c.copy_from_slice.new.self a.pairs.now c.copy_from_slice.ensures.after c.requires.3
          ∙ ap (λ (x : List ℕ). paste (put_mid pairs_room rows_room x r) 0 a.pairs.now a.t.pairs) c.requires.5;
    }
