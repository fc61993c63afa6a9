-- Laws place by place: what a loop over an index goes by.
use Rattle.std.specs.Prelude.{◌≡◌, List, ◌++◌, ℕ, suc, ◌+◌, ◌≤◌, ◌<◌, length, take, drop, get_or, set}
use Rattle.std.proofs.Common.{sym, ap, ◌∙◌, arith, add-one, drop-cons, take-suc, length-take-le}
use Rattle.std.proofs.lemmas.List.{set_at}
use Rattle.std.proofs.Math.Seq.{append_snoc}

-- ---- the given bounds

-- one key more
pub load-more : (given a : List ℕ) (i : ℕ) → i < length given → length given ≤ length a → set (take i given ++ drop i a) i (get_or given i 0) ≡ take (i + 1) given ++ drop (i + 1) a
load-more given a i h k =
    let v = get_or given i 0 in
    ap (λ (r : List ℕ). set (take i given ++ r) i v) (drop-cons a i 0 (omega arith))
    ∙ set_at (take i given) (get_or a i 0) (drop (suc i) a) v i (length-take-le i given (omega arith))
    ∙ sym (append_snoc (take i given) v (drop (suc i) a))
    ∙ ap (λ (x : List ℕ). x ++ drop (suc i) a) (sym (take-suc given i 0 h))
    ∙ ap (λ (n : ℕ). take n given ++ drop n a) (sym (add-one i))
