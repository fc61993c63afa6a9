-- How the room is counted: a new entry past the limit is refused, one that is there never.
use Rattle.std.specs.Prelude.{◌≡◌, refl, Bool, true, false, cond, not, ◌&&◌, List, ℕ, suc, ◌+◌, ◌≤◌, ltb, leb, length}
use Rattle.std.proofs.Common.{ap, ◌∙◌, arith, lt-ltb, le-ltb, leb-true, leb-false}
use Rattle.std.specs.declared.cmp.Ordering.{Ordering}
use Rattle.solving.specs.Ordered.{present, insert, Ascending}
use Rattle.solving.specs.OrderedLaws.{Total}
use Rattle.solving.proofs.OrderedLaws.{insert-length, insert-there, present-exactly}

module _ {A : Type 0} (compare : A → A → Ordering) (t : Total compare) where
  -- what stands after an entry
  pub length-after : (x : A) (l : List A) → Ascending compare l → length (insert compare x l) ≡ cond (present compare x l) (length l) (suc (length l))
  length-after x l g = go (present compare x l) refl
    where
      go : (b : Bool) → present compare x l ≡ b → length (insert compare x l) ≡ cond b (length l) (suc (length l))
      go true e = ap length (insert-there compare t x l g ((present-exactly compare t x l).0 e))
      go false e = insert-length compare x l e

  -- 8 EXACTLY FOR A NEW ENTRY PAST THE LIMIT; `others` stand in the same room
  pub room-exactly : (limit others : ℕ) (x : A) (l : List A) → Ascending compare l → length l + others ≤ limit
      → ltb limit (length (insert compare x l) + others) ≡ (not (present compare x l) && leb limit (length l + others))
  room-exactly limit others x l g h = go (present compare x l) refl (leb limit (length l + others)) refl
    where
      go : (b : Bool) → present compare x l ≡ b → (c : Bool) → leb limit (length l + others) ≡ c
          → ltb limit (length (insert compare x l) + others) ≡ (not b && c)
      go true e c f = let n = length-after x l g ∙ ap (λ (b : Bool). cond b (length l) (suc (length l))) e in le-ltb limit (length (insert compare x l) + others) (omega arith)
      go false e true f =
          let n = length-after x l g ∙ ap (λ (b : Bool). cond b (length l) (suc (length l))) e in
          let k = leb-true limit (length l + others) f in
          lt-ltb limit (length (insert compare x l) + others) (omega arith)
      go false e false f =
          let n = length-after x l g ∙ ap (λ (b : Bool). cond b (length l) (suc (length l))) e in
          let k = leb-false limit (length l + others) f in
          le-ltb limit (length (insert compare x l) + others) (omega arith)
