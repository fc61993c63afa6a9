-- FROM THE BYTES OF A LINE TO THE STEP OF ITS FRAME: HEX, the head, the message.
use Rattle.std.specs.Prelude.{◌≡◌, refl, Bool, true, false, cond, eqb, length, take, drop, get_or}
use Rattle.std.proofs.Math.Path.{sym, ap, ap₂, subst}
use Rattle.std.proofs.Common.{◌∙◌, true≢false, length-drop, take_at, take_all}
use mathlib.Core.List.{List, [], ◌∷◌}
use Rattle.std.proofs.Math.Option.{Option, some, none}
use Prim.Native.Nat.{ℕ, suc, ◌-◌, ◌≤◌}
use native.Mathlib.Omega.{arith}
use borrow.Author.Tests.{eq-eqb, ne_eqb, ltb-false}
use Rattle.hexline.specs.Hex.{hex_bytes, bad_hex, bytes_of, in_front, Reads}
use Rattle.frames.specs.Frames as frames
use Rattle.frames.specs.Frames.{Store, Stepped, kind_of, body_of, stepped, frame}
use Rattle.framelaws.specs.Reached.{BytesIn, MaybeBytes, hex-bytes, drop-bytes}
use Rattle.framestate.specs.declared.Numbers.{Numbers}
use Rattle.framestate.specs.declared.Framed.{Framed}
use Rattle.framestate.specs.declared.Said.TheVariants.{Refused}
use Rattle.framestate.specs.FrameState.{Slices, store_of, Ready, Leaves, framed}
use Rattle.frameleaves.specs.Own.{refused-leaves}
use Rattle.frameleaves.specs.Again.{ready-after}
use Rattle.solveframe.specs.Parts.{slices_of, sized}
use Rattle.frameheads.specs.Heads.{head_refusal, frame-hex, frame-head}
use Rattle.stepping.specs.Stepping.{Stands, step_of, Headed}

-- WHAT A FRAME'S BYTES COME TO: its head's refusal, or the step of its message
unfoldable pub bytes_step : ℕ → List ℕ → Store → Stepped
bytes_step kind body s = cond (eqb (head_refusal kind (length body) s.rank) 0) (step_of kind body s) (stepped (frames.Refused (head_refusal kind (length body) s.rank)) s)

module _ (kind : ℕ) (body : List ℕ) (l after : Slices) (n : Numbers) (h : Ready l n) (answers answers' : List ℕ) (r : Framed) where
  pub head-refused : (k : ℕ) → k ≡ head_refusal kind (length body) n.rank → (k ≡ 0 → ⊥) → r ≡ framed (Refused k) n → Leaves (bytes_step kind body (store_of l n)) l l answers answers r
  unfolding bytes_step
  head-refused k e z q =
      subst (Leaves (cond (eqb j 0) (step_of kind body (store_of l n)) (stepped (frames.Refused j) (store_of l n))) l l answers answers) (sym (q ∙ ap (λ (x : ℕ). framed (Refused x) n) e))
      (subst (λ (b : Bool). Leaves (cond b (step_of kind body (store_of l n)) (stepped (frames.Refused j) (store_of l n))) l l answers answers (framed (Refused j) n)) (sym (ne_eqb j 0 (λ x. z (e ∙ x)))) (refused-leaves l n h j answers))
    where
      j : ℕ
      j = head_refusal kind (length body) n.rank

  pub head-passed : head_refusal kind (length body) n.rank ≡ 0 → Leaves (step_of kind body (store_of l n)) l after answers answers' r → Leaves (bytes_step kind body (store_of l n)) l after answers answers' r
  unfolding bytes_step
  head-passed e w =
      subst (λ (b : Bool). Leaves (cond b (step_of kind body (store_of l n)) (stepped (frames.Refused (head_refusal kind (length body) n.rank)) (store_of l n))) l after answers answers' r) (sym (eq-eqb (head_refusal kind (length body) n.rank) 0 e)) w

-- the bytes as code has them: the first, and the rest as a part
module _ (bytes : List ℕ) (l after : Slices) (n : Numbers) (h : Ready l n) (answers answers' : List ℕ) (r : Framed) (k : ℕ) (e : k ≡ head_refusal (get_or bytes 0 0) (length bytes - 1) n.rank) where
  refusal-is : k ≡ head_refusal (get_or bytes 0 0) (length (drop 1 bytes)) n.rank
  refusal-is = e ∙ ap (λ (m : ℕ). head_refusal (get_or bytes 0 0) m n.rank) (sym (length-drop 1 bytes))

  rest-is : take (length bytes - 1) (drop 1 bytes) ≡ drop 1 bytes
  rest-is = take_all (length bytes - 1) (drop 1 bytes) (let d = length-drop 1 bytes in omega arith)

  pub bytes-refused : (k ≡ 0 → ⊥) → r ≡ framed (Refused k) n → Leaves (bytes_step (get_or bytes 0 0) (drop 1 bytes) (store_of l n)) l l answers answers r
  bytes-refused z q = head-refused (get_or bytes 0 0) (drop 1 bytes) l l n h answers answers r k refusal-is z q

  pub bytes-headed : k ≡ 0 → Headed (get_or bytes 0 0) (take (length bytes - 1) (drop 1 bytes)) n
  bytes-headed z = ap (λ (b : List ℕ). head_refusal (get_or bytes 0 0) (length b) n.rank) rest-is ∙ sym refusal-is ∙ z

  pub bytes-rest : BytesIn bytes → BytesIn (take (length bytes - 1) (drop 1 bytes))
  bytes-rest b = subst BytesIn (sym rest-is) (drop-bytes 1 bytes b)

  pub bytes-passed : k ≡ 0 → Leaves (step_of (get_or bytes 0 0) (take (length bytes - 1) (drop 1 bytes)) (store_of l n)) l after answers answers' r → Leaves (bytes_step (get_or bytes 0 0) (drop 1 bytes) (store_of l n)) l after answers answers' r
  bytes-passed z w =
      head-passed (get_or bytes 0 0) (drop 1 bytes) l after n h answers answers' r (sym refusal-is ∙ z)
      (subst (λ (b : List ℕ). Leaves (step_of (get_or bytes 0 0) b (store_of l n)) l after answers answers' r) rest-is w)

-- ---- the line

module _ (line slice slice' : List ℕ) (k : ℕ) (d : Reads (hex_bytes line) slice slice' k) where
  bytes-none : (f : Option (List ℕ)) → bad_hex f ≡ false → length (bytes_of f) ≡ 0 → ⊥
  unfolding bad_hex
  bytes-none none e z = absurd (true≢false e)
  bytes-none (some []) e z = absurd (true≢false e)
  bytes-none (some (x ∷ b)) e z = omega arith

  -- no bytes: HEX
  pub line-bad : k ≡ 0 → bad_hex (hex_bytes line) ≡ true
  line-bad z = go (bad_hex (hex_bytes line)) refl d.count-is
    where
      go : (b : Bool) → bad_hex (hex_bytes line) ≡ b → k ≡ cond b 0 (length (bytes_of (hex_bytes line))) → bad_hex (hex_bytes line) ≡ true
      go true e q = e
      go false e q = absurd (bytes-none (hex_bytes line) e (sym q ∙ z))

  pub line-good : (k ≡ 0 → ⊥) → bad_hex (hex_bytes line) ≡ false
  line-good z = go (bad_hex (hex_bytes line)) refl d.count-is
    where
      go : (b : Bool) → bad_hex (hex_bytes line) ≡ b → k ≡ cond b 0 (length (bytes_of (hex_bytes line))) → bad_hex (hex_bytes line) ≡ false
      go true e q = absurd (z q)
      go false e q = e

  most : (f : Option (List ℕ)) → bad_hex f ≡ false → length (bytes_of f) ≤ 512
  unfolding bad_hex
  most none e = absurd (true≢false e)
  most (some []) e = omega arith
  most (some (x ∷ b)) e = let z = ltb-false 512 (suc (length b)) e in omega arith

  pub line-most : (k ≡ 0 → ⊥) → k ≤ 512
  line-most z =
      let e = line-good z in
      let c : k ≡ length (bytes_of (hex_bytes line)) = d.count-is ∙ ap (λ (b : Bool). cond b 0 (length (bytes_of (hex_bytes line)))) e in
      let m = most (hex_bytes line) e in omega arith

  pub line-end : (k ≡ 0 → ⊥) → length slice' ≡ length slice → length slice ≡ 512 → k ≤ length slice'
  line-end z a b = let m = line-most z in omega arith

  -- the front that is lent on
  pub line-bytes : (k ≡ 0 → ⊥) → take (k - 0) (drop 0 slice') ≡ bytes_of (hex_bytes line)
  line-bytes z =
      let e = line-good z in
      let c : k ≡ length (bytes_of (hex_bytes line)) = d.count-is ∙ ap (λ (b : Bool). cond b 0 (length (bytes_of (hex_bytes line)))) e in
      let q : slice' ≡ in_front (bytes_of (hex_bytes line)) slice = d.slice-is ∙ ap (λ (b : Bool). cond b slice (in_front (bytes_of (hex_bytes line)) slice)) e in
      ap₂ (λ (m : ℕ) (x : List ℕ). take m x) (let y : k - 0 ≡ length (bytes_of (hex_bytes line)) = omega arith in y) q
      ∙ take_at (bytes_of (hex_bytes line)) (drop (length (bytes_of (hex_bytes line))) slice) (length (bytes_of (hex_bytes line))) refl

  pub line-some : (k ≡ 0 → ⊥) → 1 ≤ length (take (k - 0) (drop 0 slice'))
  line-some z = let b = ap length (line-bytes z) in let y = bytes-none (hex_bytes line) (line-good z) in go (length (take (k - 0) (drop 0 slice'))) (λ q. y (sym b ∙ q))
    where
      go : (m : ℕ) → (m ≡ 0 → ⊥) → 1 ≤ m
      go m q = omega arith

kind-first : (f : Option (List ℕ)) → kind_of f ≡ get_or (bytes_of f) 0 0
kind-first none = refl
kind-first (some []) = refl
kind-first (some (x ∷ b)) = refl

body-rest : (f : Option (List ℕ)) → body_of f ≡ drop 1 (bytes_of f)
body-rest none = refl
body-rest (some []) = refl
body-rest (some (x ∷ b)) = refl

bytes-in : (f : Option (List ℕ)) → MaybeBytes f → BytesIn (bytes_of f)
bytes-in none h = tt
bytes-in (some b) h = h

pub line-small : (line bytes : List ℕ) → bytes ≡ bytes_of (hex_bytes line) → BytesIn bytes
line-small line bytes e = subst BytesIn (sym e) (bytes-in (hex_bytes line) (hex-bytes line))

module _ (line : List ℕ) (l after : Slices) (n : Numbers) (h : Ready l n) (answers answers' : List ℕ) (r : Framed) where
  -- refused with 1
  pub hex-leaves : bad_hex (hex_bytes line) ≡ true → r ≡ framed (Refused 1) n → Leaves (frame line (store_of l n)) l l answers answers r
  hex-leaves e q =
      subst (λ (u : Stepped). Leaves u l l answers answers r) (sym (frame-hex line (store_of l n) e))
      (subst (Leaves (stepped (frames.Refused 1) (store_of l n)) l l answers answers) (sym q) (refused-leaves l n h 1 answers))

  -- the step of its bytes
  pub line-leaves : (bytes : List ℕ) → bad_hex (hex_bytes line) ≡ false → bytes ≡ bytes_of (hex_bytes line) → Leaves (bytes_step (get_or bytes 0 0) (drop 1 bytes) (store_of l n)) l after answers answers' r → Leaves (frame line (store_of l n)) l after answers answers' r
  unfolding bytes_step
  line-leaves bytes e b w =
      subst (λ (u : Stepped). Leaves u l after answers answers' r)
      (ap (λ (x : List ℕ). bytes_step (get_or x 0 0) (drop 1 x) (store_of l n)) b
      ∙ ap₂ (λ (x : ℕ) (y : List ℕ). bytes_step x y (store_of l n)) (sym (kind-first (hex_bytes line))) (sym (body-rest (hex_bytes line)))
      ∙ sym (frame-head line (store_of l n) e)) w

-- ---- what is left is ready for the next line

module _ (last pairs marks rows : List ℕ) (n : Numbers) (s : Stands last pairs marks rows n) (r : Framed) where
  pub stands-same : (k : ℕ) → r ≡ framed (Refused k) n → Stands last pairs marks rows r.numbers
  stands-same k q = subst (λ (f : Framed). Stands last pairs marks rows f.numbers) (sym q) s

  pub stands-after : (line last' pairs' marks' rows' answers answers' : List ℕ)
      → Leaves (frame line (store_of (slices_of last pairs marks rows) n)) (slices_of last pairs marks rows) (slices_of last' pairs' marks' rows') answers answers' r
      → length last' ≡ length last → length pairs' ≡ length pairs → length marks' ≡ length marks → length rows' ≡ length rows
      → Stands last' pairs' marks' rows' r.numbers
  stands-after line last' pairs' marks' rows' answers answers' w a b c d = record {
    ready =
        ready-after line (slices_of last pairs marks rows) (slices_of last' pairs' marks' rows') n r.numbers s.ready w.shows
        (sized last' pairs' marks' rows' (a ∙ s.ready.sized.last) (b ∙ s.ready.sized.pairs) (c ∙ s.ready.sized.marks) (d ∙ s.all-rows));
    all-rows = d ∙ s.all-rows;
  }
