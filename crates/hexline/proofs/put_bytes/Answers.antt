-- `put_bytes` meets its contract: the bytes that are left are those of the line from the next pair on.
use mathlib.Core.Path.{sym, ap, ap₂, ◌∙◌, subst}
use mathlib.Core.List.{List, ◌∷◌}
use Prim.Native.Nat.{ℕ, ◌+◌, ◌*◌}
use native.Mathlib.Omega.{arith}
use lib.ListN.{drop}
use Rattle.hexline.specs.Hex.{hex_bytes, bytes_of}
use Rattle.hexline.specs.Laws.{hex-length, hex-end, pair-bytes, Filling, fill-start, fill-step, fill-end}
use Rattle.hexline.proofs.put_bytes.Goals as goal

pub loop-k-init : goal.loop-k-init
loop-k-init c = let a = c.args in (c.requires.0, fill-start (bytes_of (hex_bytes a.line.now)) a.frame.now)

pub loop-k-preserved : goal.loop-k-preserved
loop-k-preserved c =
    let l = c.loop-k in
    let a = c.args in
    let e = hex-length a.line.now c.requires.0 in
    let q = pair-bytes a.line.now l.k (omega arith) l.invariant.0 in
    let v = ap₂ (λ (x y : ℕ). x * 16 + y) c.value.ensures.0 c.value-in-loop-k.ensures.0 in
    let f = subst (λ (m : List ℕ). Filling (bytes_of (hex_bytes a.line.now)) m a.frame.now l.frame l.k) (q.0 ∙ ap (λ (x : ℕ). x ∷ bytes_of (hex_bytes (drop (2 * (l.k + 1)) a.line.now))) (sym v)) l.invariant.1 in
    (q.1, fill-step (bytes_of (hex_bytes a.line.now)) a.frame.now l.frame l.k _ _ (omega arith) f)

pub returns : goal.returns
returns c =
    let l = c.loop-k in
    let a = c.args in
    let e = hex-length a.line.now c.requires.0 in
    fill-end (bytes_of (hex_bytes a.line.now)) a.frame.now l.frame l.k (omega arith)
    (subst (λ (m : List ℕ). Filling (bytes_of (hex_bytes a.line.now)) m a.frame.now l.frame l.k) (ap bytes_of (hex-end a.line.now l.k (omega arith))) l.invariant.1)
