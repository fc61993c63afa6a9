-- What a frame is refused with before its row is read: KIND, LENGTH, ORDER.
use Rattle.std.specs.Prelude.{◌≡◌, refl, Bool, true, false, not, ◌&&◌, ◌||◌, List, [], ◌∷◌, length}
use Rattle.std.proofs.Math.Path.{sym, ap, ap₂}
use Rattle.std.proofs.Common.{◌∙◌, eq-eqb, ne_eqb, lt-ltb, le-ltb, le-leb}
use Rattle.std.proofs.Math.Bool.{cond}
use Prim.Native.Nat.{ℕ, ◌%◌, ◌≤◌, ◌<◌}
use Rattle.std.proofs.Math.Dec.{eqb, leb, ltb}
use Rattle.std.proofs.lemmas.Bool.{lt-leb}
use Rattle.checks.specs.Checks.{check, first_refusal}
use Rattle.hexline.specs.Hex.{hex_bytes, bad_hex}
use Rattle.frames.specs.Frames as frames
use Rattle.frames.specs.Frames.{Store, Stepped, kind_of, body_of, bad_kind, good_length, rank_of, bad_order, message_of, message_refusal, frame_checks, stepped, accepted, frame_bytes, frame}
use Rattle.framestate.specs.FrameState.{message_step}

-- the first of KIND, LENGTH, ORDER that holds; 0 where none does
unfoldable pub head_refusal : ℕ → ℕ → ℕ → ℕ
head_refusal k n rank = first_refusal (check (bad_kind k) 2 ∷ check (not (good_length k n)) 3 ∷ check (bad_order k rank) 4 ∷ [])

-- ---- the chain as the code meets it

module _ (k n rank : ℕ) where
  pub head-zero : k ≡ 0 → 2 ≡ head_refusal k n rank
  unfolding head_refusal first_refusal bad_kind
  head-zero h = sym (ap (λ (x : Bool). cond (x || ltb 14 k) 2 (cond (not (good_length k n)) 3 (cond (bad_order k rank) 4 0))) (eq-eqb k 0 h))

  past : (k ≡ 0 → ⊥) → k ≤ 14 → head_refusal k n rank ≡ cond (not (good_length k n)) 3 (cond (bad_order k rank) 4 0)
  unfolding head_refusal first_refusal bad_kind
  past h l = ap₂ (λ (x y : Bool). cond (x || y) 2 (cond (not (good_length k n)) 3 (cond (bad_order k rank) 4 0))) (ne_eqb k 0 h) (le-ltb 14 k l)

  pub head-over : (k ≡ 0 → ⊥) → 14 < k → 2 ≡ head_refusal k n rank
  unfolding head_refusal first_refusal bad_kind
  head-over h l = sym (ap₂ (λ (x y : Bool). cond (x || y) 2 (cond (not (good_length k n)) 3 (cond (bad_order k rank) 4 0))) (ne_eqb k 0 h) (lt-ltb 14 k l))

  pub head-length : (k ≡ 0 → ⊥) → k ≤ 14 → good_length k n ≡ false → 3 ≡ head_refusal k n rank
  head-length h l e = sym (past h l ∙ ap (λ (x : Bool). cond (not x) 3 (cond (bad_order k rank) 4 0)) e)

  pub head-order : (k ≡ 0 → ⊥) → k ≤ 14 → good_length k n ≡ true → bad_order k rank ≡ true → 4 ≡ head_refusal k n rank
  head-order h l e o = sym (past h l ∙ ap₂ (λ (x y : Bool). cond (not x) 3 (cond y 4 0)) e o)

  pub head-none : (k ≡ 0 → ⊥) → k ≤ 14 → good_length k n ≡ true → bad_order k rank ≡ false → 0 ≡ head_refusal k n rank
  head-none h l e o = sym (past h l ∙ ap₂ (λ (x y : Bool). cond (not x) 3 (cond y 4 0)) e o)

-- ---- lengths, by kind

module _ (k n : ℕ) where
  pub length-1 : k ≡ 1 → good_length k n ≡ (leb 1 n && leb n 255)
  unfolding good_length
  length-1 h = ap (λ (x : ℕ). good_length x n) h

  pub length-2 : k ≡ 2 → good_length k n ≡ (leb 3 n && (eqb (n % 2) 1 && leb n 511))
  unfolding good_length
  length-2 h = ap (λ (x : ℕ). good_length x n) h

  rest-of : (k ≡ 1 → ⊥) → (k ≡ 2 → ⊥) → good_length k n ≡ cond (leb k 4) (eqb n 2) (cond (eqb k 5) (eqb n 11) (cond (eqb k 10) (eqb n 0) (cond (eqb k 14) (eqb n 0) (eqb n 4))))
  unfolding good_length
  rest-of a b =
      ap₂ (λ (x y : Bool). cond x (leb 1 n && leb n 255) (cond y (leb 3 n && (eqb (n % 2) 1 && leb n 511)) (cond (leb k 4) (eqb n 2) (cond (eqb k 5) (eqb n 11) (cond (eqb k 10) (eqb n 0) (cond (eqb k 14) (eqb n 0) (eqb n 4))))))) (ne_eqb k 1 a) (ne_eqb k 2 b)

  pub length-4 : (k ≡ 1 → ⊥) → (k ≡ 2 → ⊥) → k ≤ 4 → good_length k n ≡ eqb n 2
  length-4 a b h = rest-of a b ∙ ap (λ (x : Bool). cond x (eqb n 2) (cond (eqb k 5) (eqb n 11) (cond (eqb k 10) (eqb n 0) (cond (eqb k 14) (eqb n 0) (eqb n 4))))) (le-leb k 4 h)

  late : (k ≡ 1 → ⊥) → (k ≡ 2 → ⊥) → 4 < k → good_length k n ≡ cond (eqb k 5) (eqb n 11) (cond (eqb k 10) (eqb n 0) (cond (eqb k 14) (eqb n 0) (eqb n 4)))
  late a b h = rest-of a b ∙ ap (λ (x : Bool). cond x (eqb n 2) (cond (eqb k 5) (eqb n 11) (cond (eqb k 10) (eqb n 0) (cond (eqb k 14) (eqb n 0) (eqb n 4))))) (lt-leb k 4 h)

  pub length-5 : k ≡ 5 → good_length k n ≡ eqb n 11
  unfolding good_length
  length-5 h = ap (λ (x : ℕ). good_length x n) h

  pub length-10 : k ≡ 10 → good_length k n ≡ eqb n 0
  unfolding good_length
  length-10 h = ap (λ (x : ℕ). good_length x n) h

  pub length-14 : k ≡ 14 → good_length k n ≡ eqb n 0
  unfolding good_length
  length-14 h = ap (λ (x : ℕ). good_length x n) h

  pub length-pair : (k ≡ 1 → ⊥) → (k ≡ 2 → ⊥) → 4 < k → (k ≡ 5 → ⊥) → (k ≡ 10 → ⊥) → (k ≡ 14 → ⊥) → good_length k n ≡ eqb n 4
  length-pair a b h c d e =
      late a b h ∙ ap₂ (λ (x y : Bool). cond x (eqb n 11) (cond y (eqb n 0) (cond (eqb k 14) (eqb n 0) (eqb n 4)))) (ne_eqb k 5 c) (ne_eqb k 10 d)
      ∙ ap (λ (x : Bool). cond x (eqb n 0) (eqb n 4)) (ne_eqb k 14 e)

-- ---- order

module _ (k rank : ℕ) where
  pub order-low : rank_of k < rank → bad_order k rank ≡ true
  unfolding bad_order
  order-low h = ap (λ (x : Bool). x || (eqb k 3 && eqb rank 3)) (lt-ltb (rank_of k) rank h)

  pub order-again : rank ≤ rank_of k → k ≡ 3 → bad_order k rank ≡ eqb rank 3
  unfolding bad_order
  order-again h e = ap₂ (λ (x y : Bool). x || (y && eqb rank 3)) (le-ltb (rank_of k) rank h) (eq-eqb k 3 e)

  pub order-good : rank ≤ rank_of k → (k ≡ 3 → ⊥) → bad_order k rank ≡ false
  unfolding bad_order
  order-good h e = ap₂ (λ (x y : Bool). x || (y && eqb rank 3)) (le-ltb (rank_of k) rank h) (ne_eqb k 3 e)

-- ---- THE REST OF A FRAME IS ITS MESSAGE'S OWN

module _ (line : List ℕ) (s : Store) where
  -- a line that HEX refuses
  pub frame-hex : bad_hex (hex_bytes line) ≡ true → frame line s ≡ stepped (frames.Refused 1) s
  unfolding frame frame_bytes frame_checks first_refusal
  frame-hex e = rw e

  -- another is refused by its head, or is the step of its message
  pub frame-head : bad_hex (hex_bytes line) ≡ false
      → frame line s ≡ cond (eqb (head_refusal (kind_of (hex_bytes line)) (length (body_of (hex_bytes line))) s.rank) 0)
      (message_step (kind_of (hex_bytes line)) (message_of (kind_of (hex_bytes line)) (body_of (hex_bytes line))) s)
      (stepped (frames.Refused (head_refusal (kind_of (hex_bytes line)) (length (body_of (hex_bytes line))) s.rank)) s)
  unfolding frame frame_bytes frame_checks first_refusal head_refusal message_step
  frame-head e = rw e (go (bad_kind k) (not (good_length k (length (body_of (hex_bytes line))))) (bad_order k s.rank) (eqb m 0) refl)
    where
      k : ℕ
      k = kind_of (hex_bytes line)

      m : ℕ
      m = message_refusal (message_of (kind_of (hex_bytes line)) (body_of (hex_bytes line))) s

      acc : Stepped
      acc = accepted (rank_of (kind_of (hex_bytes line))) (message_of (kind_of (hex_bytes line)) (body_of (hex_bytes line))) s

      go : (a b c d : Bool) → eqb m 0 ≡ d
          → cond (eqb (cond a 2 (cond b 3 (cond c 4 (cond (not d) m 0)))) 0) acc (stepped (frames.Refused (cond a 2 (cond b 3 (cond c 4 (cond (not d) m 0))))) s)
          ≡ cond (eqb (cond a 2 (cond b 3 (cond c 4 0))) 0) (cond d acc (stepped (frames.Refused m) s)) (stepped (frames.Refused (cond a 2 (cond b 3 (cond c 4 0)))) s)
      go true b c d x = refl
      go false true c d x = refl
      go false false true d x = refl
      go false false false true x = refl
      go false false false false x = ap (λ (y : Bool). cond y acc (stepped (frames.Refused m) s)) x
