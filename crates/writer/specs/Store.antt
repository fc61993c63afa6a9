-- Bytes stored one after the other into a slice, from an offset on: the slice after that is `sets slice offset bytes` of lib.Seq,
-- which is the slice before the offset, the bytes, and the slice after them (`sets-eq`).
use Rattle.std.specs.Prelude.{◌≡◌, refl, List, [], ◌∷◌, ◌++◌, ℕ, suc, ◌+◌, ◌-◌, ◌≤◌, ◌<◌, length, get_or, set, take, drop}
use Rattle.std.proofs.Common.{sym, ap, ◌∙◌, zero-add, add-zero, add-suc, suc-add, add-one, arith, append_assoc, length-append, length-drop, drop_of_length-le, drop-cons, drop-drop}
use Rattle.std.proofs.lemmas.List.Edits.{sets, sets-eq}
use Rattle.std.proofs.Math.Seq.{length-sets, length-take-le}
use borrow.Rule.Slice.PartMut.{put_mid}

-- what is promised of a function that stores bytes from `at` on: the output at its end, and the offset after them
pub record Put (bytes out out' : List ℕ) (at end : ℕ) : Type 0 where
  pub next : end ≡ at + length bytes
  pub stored : out' ≡ sets out at bytes

-- one list after another
pub sets-append : (xs ys out : List ℕ) (at : ℕ) → sets out at (xs ++ ys) ≡ sets (sets out at xs) (at + length xs) ys
sets-append [] ys out at = rw add-zero
sets-append (x ∷ xs) ys out at = sets-append xs ys (set out at x) (suc at) ∙ rw (add-suc, suc-add)

-- the slice stays as long as it is
pub put-length : {bytes out out' : List ℕ} {at end : ℕ} → Put bytes out out' at end → length out' ≡ length out
put-length {bytes} {out} {at} p = ap length p.stored ∙ length-sets out at bytes

-- by the number of bytes
pub put-of : {bytes out out' : List ℕ} {at n : ℕ} → length bytes ≡ n → out' ≡ sets out at bytes → Put bytes out out' at (at + n)
put-of {at} e s = record { next = ap (λ (k : ℕ). at + k) (sym e); stored = s }

-- the same bytes, put otherwise
pub put-as : {xs ys out out' : List ℕ} {at end : ℕ} → ys ≡ xs → Put xs out out' at end → Put ys out out' at end
put-as e p = record { next = rw e p.next; stored = rw e p.stored }

-- one list after another: what is left to store
pub put-before : {xs out out' : List ℕ} {at end : ℕ} → Put xs out out' at end → (ys : List ℕ) → sets out at (xs ++ ys) ≡ sets out' end ys
put-before {xs} {out} {at} p ys = rw (p.stored, p.next) (sets-append xs ys out at)

-- and both
pub put-append : {xs ys out mid out' : List ℕ} {at next end : ℕ} → Put xs out mid at next → Put ys mid out' next end → Put (xs ++ ys) out out' at end
put-append {xs} {ys} p q = record {
  next = let e = p.next in let f = q.next in let l = length-append xs ys in omega arith;
  stored = q.stored ∙ sym (put-before p ys);
}

pub put_byte : (b : ℕ) (out : List ℕ) (at : ℕ) → Put (b ∷ []) out (set out at b) at (at + 1)
put_byte b out at = record { next = refl; stored = refl }

-- from the first byte on
pub put-whole : {bytes out out' : List ℕ} {end : ℕ} → Put bytes out out' 0 end → length bytes ≤ length out → out' ≡ bytes ++ drop (length bytes) out
put-whole {bytes} {out} p h =
    p.stored ∙ sets-eq bytes out 0 (let e : 0 + length bytes ≤ length out = omega arith in e) ∙ rw zero-add

-- what is left to store after i of them: all, all but one more, none
pub store-all : (xs out : List ℕ) (at : ℕ) → sets out at xs ≡ sets out (at + 0) (drop 0 xs)
store-all xs out at = rw add-zero

pub store-next : (xs out : List ℕ) (at i v : ℕ) → i < length xs → get_or xs i 0 ≡ v
    → sets out (at + i) (drop i xs) ≡ sets (set out (at + i) v) (at + (i + 1)) (drop (i + 1) xs)
store-next xs out at i v h e = rw (← e, add-one i, add-suc at i, drop-cons xs i 0 h)

pub store-none : (xs out : List ℕ) (at i : ℕ) → length xs ≤ i → sets out (at + i) (drop i xs) ≡ out
store-none xs out at i h = rw (drop_of_length-le xs h)

-- the n bytes from `at` on, lent and given back as others
pub lent-length : (at n : ℕ) (out : List ℕ) → at + n ≤ length out → length (take (at + n - at) (drop at out)) ≡ n
lent-length at n out h =
    let l = length-drop at out in
    let k = length-take-le (at + n - at) (drop at out) (omega arith) in omega arith

pub lent-back : (at n : ℕ) (out bytes : List ℕ) → length bytes ≡ n → at + n ≤ length out → put_mid at (at + n - at) out bytes ≡ sets out at bytes
lent-back at n out bytes e h =
    let k : at + n - at ≡ length bytes = omega arith in
    rw k (ap (λ (l : List ℕ). take at out ++ (bytes ++ l)) (drop-drop (length bytes) at out)
    ∙ sym (append_assoc (take at out) bytes (drop (at + length bytes) out)))
    ∙ sym (sets-eq bytes out at (omega arith))
