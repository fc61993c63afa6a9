-- Five copies one after the other in one slice: they fit where the table's keys do, and a part of it between two ends is one kind's words.
use Rattle.std.specs.Prelude.{◌≡◌, List, ◌++◌, ℕ, ◌+◌, ◌-◌, ◌*◌, ◌^◌, ◌≤◌, length, take, drop}
use Rattle.std.proofs.Common.{sym, ◌∙◌, length-append, take-append-drop}
use Rattle.std.proofs.Math.Path.{ap}
use native.Mathlib.Omega.{arith}
use Rattle.std.proofs.Math.ListN.{length-take}
use Rattle.std.proofs.Math.Seq.{take-append_seam, drop-append_seam}
use Rattle.std.proofs.lemmas.List.{drop-append-le, take-append-le}
use Rattle.sorted.specs.Sorted.{Sorted, place, run_of}
use Rattle.sorted.specs.Places.{place-le, place-mono}
use Rattle.solving.specs.Solving.{Domain, Fallback, Upper, Lower, Exact}
use Rattle.copying.specs.Copies.{run_in}

-- ---- lengths

module _ (c : ℕ) (keys : List ℕ) (o : Sorted keys) where
  -- where a kind begins
  from : ℕ → ℕ
  from k = place ((c * 8 + k) * 2 ^ 52) keys

  run-room : (k : ℕ) → length (run_in c k keys) ≤ from (k + 1) - from k
  unfolding run_in run_of from
  run-room k =
      let n = length-take (place ((c * 8 + k) * 2 ^ 52 + 2 ^ 52) keys - place ((c * 8 + k) * 2 ^ 52) keys) (drop (place ((c * 8 + k) * 2 ^ 52) keys) keys) in
      let e : place ((c * 8 + k) * 2 ^ 52 + 2 ^ 52) keys ≡ place ((c * 8 + (k + 1)) * 2 ^ 52) keys = ap (λ (x : ℕ). place x keys) (omega arith) in
      omega arith

  from-next : (k : ℕ) → from k ≤ from (k + 1)
  unfolding from
  from-next k = place-mono ((c * 8 + k) * 2 ^ 52) ((c * 8 + (k + 1)) * 2 ^ 52) keys o (omega arith)

  from-end : (k : ℕ) → from k ≤ length keys
  unfolding from
  from-end k = place-le ((c * 8 + k) * 2 ^ 52) keys

  -- A COMPONENT'S BOUNDS OF THE FIVE KINDS ARE NO MORE THAN THE TABLE'S
  pub five-short : length (run_in c Domain keys) + (length (run_in c Fallback keys) + (length (run_in c Upper keys) + (length (run_in c Lower keys) + length (run_in c Exact keys)))) ≤ length keys
  five-short =
      omega (arith, run-room 0, run-room 1, run-room 2, run-room 3, run-room 4, from-next 0, from-next 1, from-next 2, from-next 3, from-next 4, from-end 5)

-- ---- a part of it

-- THE WORDS BETWEEN TWO ENDS
pub part-is : (d : List ℕ) (end : ℕ) (before xs after : List ℕ) (first past : ℕ) → take end d ≡ before ++ (xs ++ after)
    → first ≡ length before → past ≡ length before + length xs → take (past - first) (drop first d) ≡ xs
part-is d end before xs after first past e f p =
    ap (λ (l : List ℕ). take (past - first) (drop first l)) (sym (take-append-drop end d) ∙ ap (λ (l : List ℕ). l ++ drop end d) e)
    ∙ ap (take (past - first)) (drop-append-le first (before ++ (xs ++ after)) (drop end d) (let a = length-append before (xs ++ after) in omega arith))
    ∙ ap (λ (l : List ℕ). take (past - first) (l ++ drop end d)) (ap (λ (k : ℕ). drop k (before ++ (xs ++ after))) f ∙ drop-append_seam before (xs ++ after))
    ∙ take-append-le (past - first) (xs ++ after) (drop end d) (let a = length-append xs after in omega arith)
    ∙ ap (λ (k : ℕ). take k (xs ++ after)) (let q : past - first ≡ length xs = omega arith in q)
    ∙ take-append_seam xs after
