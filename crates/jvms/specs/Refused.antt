-- When each error of ty.rs comes, in the shape of the bytes: so many '[', or what the grammar derives, and then what is wrong.
use Rattle.std.specs.Prelude.{◌≡◌, Bool, eqb, drop}
use Rattle.std.proofs.Math.Path.{refl, ap}
use Rattle.std.proofs.Common.{sym, ap₂, ◌∙◌, add-zero, add-one}
use Rattle.std.proofs.Math.Bool.{true, false}
use mathlib.Core.List.{List, [], ◌∷◌, ◌++◌, Memᴰ, append_assoc, append-nil}
use Prim.Native.Nat.{ℕ, zero, suc, ◌+◌, ◌-◌, ◌≤◌, ◌<◌}
use Rattle.std.proofs.Math.Nat.{zero-add}
use native.Mathlib.Omega.{arith}
use Rattle.std.proofs.Math.ListN.{length, take, get_or, length-append}
use Rattle.std.proofs.Math.Seq.{take-append_seam}
use borrow.Author.Tests.{eq-eqb, ne_eqb, le-leb, lt-leb, lt-ltb}
use Rattle.text.specs.Text.{ascii, byte}
use Rattle.utf8.specs.Utf8.{valid_prefix}
use Rattle.descriptor.specs.Read.{Read, Found, Refused, pick_r, letter_of, index_of, name_read, read_name, read_type, finish, read_whole, strict_name, strictly, read_strict}
use Rattle.descriptor.specs.declared.Base.TheVariants.{Class}
use Rattle.methods.specs.Method.{Stopped, Broken, read_params, after_params, read_method}
use Rattle.jvms.specs.Jvms.{JavaType, dimensions, AnyName, ClassName, ReturnDescriptor, ReturnDescriptor.field, ReturnDescriptor.void, Parameter, Parameters, Parameters.none, Parameters.more}
use Rattle.jvms.specs.Names.{index-seam, class-name}
use Rattle.jvms.specs.Prefix.{prefix, prefix-void, name-stops}
use Rattle.jvms.specs.Derive.{first-byte}
use Rattle.jvms.specs.Listing.{Low, inside, step-on, few, parameter-read}
use Rattle.jvms.specs.Errors.{UnexpectedEnd, UnexpectedByte, VoidNotAllowed, EmptyObject, TrailingInput, MissingMethodStart, MissingMethodEnd, TooDeep, TooMany, NotStrict, type_error, method_error}

-- ---- so many '[' before other bytes

unfoldable pub brackets : ℕ → List ℕ → List ℕ
brackets zero bs = bs
brackets (suc n) bs = byte "[" ∷ brackets n bs

brackets-length : (n : ℕ) (bs : List ℕ) → length (brackets n bs) ≡ n + length bs
unfolding brackets
brackets-length zero bs = omega arith
brackets-length (suc n) bs = let h = brackets-length n bs in omega arith

-- Void is no longer allowed after one
abbrev void_after : ℕ → Bool → Bool
void_after zero v = v
void_after (suc n) v = false

void-after : (n : ℕ) → void_after n false ≡ false
void-after zero = refl
void-after (suc n) = refl

one-more : (bs : List ℕ) (at : ℕ) (v : Bool) (d : ℕ) → d < 255 → read_type (byte "[" ∷ bs) at v d ≡ read_type bs (at + 1) false (d + 1)
unfolding read_type letter_of
one-more bs at v d h = rw (lt-leb 255 d h)

-- READING PASSES UP TO 255 OF THEM
through : (n : ℕ) (bs : List ℕ) (at : ℕ) (v : Bool) (d : ℕ) → d + n ≤ 255 → read_type (brackets n bs) at v d ≡ read_type bs (at + n) (void_after n v) (d + n)
unfolding brackets
through zero bs at v d h = rw (add-zero at, add-zero d)
through (suc n) bs at v d h =
    one-more (brackets n bs) at v d (omega arith)
    ∙ through n bs (at + 1) false (d + 1) (omega arith)
    ∙ ap (λ (w : Bool). read_type bs (at + 1 + n) w (d + 1 + n)) (void-after n)
    ∙ ap₂ (λ (o e : ℕ). read_type bs o false e) (let q : at + 1 + n ≡ at + suc n = omega arith in q) (let q : d + 1 + n ≡ d + suc n = omega arith in q)

-- what is refused after them is refused
whole-refused : (s : List ℕ) (code o b : ℕ) → read_type s 0 true 0 ≡ Refused code o b → read_whole s ≡ Refused code o b
unfolding read_whole finish
whole-refused s code o b e = rw e

-- what is not in a list is not its first, and not among the others
first : (b x : ℕ) (xs : List ℕ) → (Memᴰ b (x ∷ xs) → ⊥) → eqb b x ≡ false
first b x xs w = ne_eqb b x (λ e. w (Memᴰ.head e))

among : (b x : ℕ) (xs : List ℕ) → (Memᴰ b (x ∷ xs) → ⊥) → Memᴰ b xs → ⊥
among b x xs w m = w (Memᴰ.tail m)

module _ (n : ℕ) (h : n ≤ 255) where
  after : (bs : List ℕ) (code o b : ℕ) → read_type bs n (void_after n true) n ≡ Refused code o b → read_whole (brackets n bs) ≡ Refused code o b
  after bs code o b e =
      whole-refused (brackets n bs) code o b
      (through n bs 0 true 0 (omega arith) ∙ ap₂ (λ (o e : ℕ). read_type bs o (void_after n true) e) (zero-add n) (zero-add n) ∙ e)

  -- ---- 11: UNEXPECTED END, where no byte is left

  pub no-type : read_whole (brackets n []) ≡ type_error (UnexpectedEnd n)
  unfolding read_type
  no-type = after [] 11 n 0 refl

  -- ---- 12: UNEXPECTED BYTE, which is no letter of a type

  module _ (b : ℕ) (rest : List ℕ) (other : Memᴰ b (ascii "VZBSCIJFDL[") → ⊥) where
    no-letter : letter_of b ≡ 11
    unfolding letter_of ascii
    no-letter =
        let o1 = among b (byte "V") (ascii "ZBSCIJFDL[") other in
        let o2 = among b (byte "Z") (ascii "BSCIJFDL[") o1 in
        let o3 = among b (byte "B") (ascii "SCIJFDL[") o2 in
        let o4 = among b (byte "S") (ascii "CIJFDL[") o3 in
        let o5 = among b (byte "C") (ascii "IJFDL[") o4 in
        let o6 = among b (byte "I") (ascii "JFDL[") o5 in
        let o7 = among b (byte "J") (ascii "FDL[") o6 in
        let o8 = among b (byte "F") (ascii "DL[") o7 in
        let o9 = among b (byte "D") (ascii "L[") o8 in
        let o10 = among b (byte "L") (ascii "[") o9 in
        rw (
          first b (byte "V") (ascii "ZBSCIJFDL[") other,
          first b (byte "Z") (ascii "BSCIJFDL[") o1,
          first b (byte "B") (ascii "SCIJFDL[") o2,
          first b (byte "S") (ascii "CIJFDL[") o3,
          first b (byte "C") (ascii "IJFDL[") o4,
          first b (byte "I") (ascii "JFDL[") o5,
          first b (byte "J") (ascii "FDL[") o6,
          first b (byte "F") (ascii "DL[") o7,
          first b (byte "D") (ascii "L[") o8,
          first b (byte "L") (ascii "[") o9,
          first b (byte "[") (ascii "") o10,
        )

    pub other-byte : read_whole (brackets n (b ∷ rest)) ≡ type_error (UnexpectedByte n b)
    unfolding read_type
    other-byte = after (b ∷ rest) 12 n b (rw no-letter)

  -- ---- 14: EMPTY OBJECT, at the 'L'

  pub empty-name : (rest : List ℕ) → read_whole (brackets n (byte "L" ∷ byte ";" ∷ rest)) ≡ type_error (EmptyObject n)
  unfolding read_type letter_of read_name name_read index_of
  empty-name rest = after (byte "L" ∷ byte ";" ∷ rest) 14 n 0 (rw (lt-leb (suc (length rest)) 0 (omega arith)))

-- ---- 13: VOID NOT ALLOWED, after a '['

pub void-in-array : (n : ℕ) (rest : List ℕ) → n < 255 → read_whole (brackets (suc n) (byte "V" ∷ rest)) ≡ type_error (VoidNotAllowed (suc n))
unfolding read_type letter_of
void-in-array n rest h = after (suc n) (omega arith) (byte "V" ∷ rest) 13 (suc n) 0 refl

-- ---- 18: the 256th '['

bracket-last : (n : ℕ) (bs : List ℕ) → brackets (suc n) bs ≡ brackets n (byte "[" ∷ bs)
unfolding brackets
bracket-last zero bs = refl
bracket-last (suc n) bs = ap (λ (l : List ℕ). byte "[" ∷ l) (bracket-last n bs)

bracket-256 : (rest : List ℕ) → read_type (byte "[" ∷ rest) 255 false 255 ≡ Refused 18 255 0
unfolding read_type letter_of
bracket-256 rest = refl

pub too-deep : (rest : List ℕ) → read_whole (brackets 256 rest) ≡ type_error (TooDeep 255)
too-deep rest = ap read_whole (bracket-last 255 rest) ∙ after 255 (omega arith) (byte "[" ∷ rest) 18 255 0 (bracket-256 rest)

-- ---- 11 and 12 inside a name

no-index : (c : ℕ) (xs : List ℕ) → (Memᴰ c xs → ⊥) → index_of c xs ≡ length xs
unfolding index_of
no-index c [] w = refl
no-index c (b ∷ bs) w = rw (ne_eqb b c (λ e. w (Memᴰ.head (sym e)))) (ap suc (no-index c bs (λ m. w (Memᴰ.tail m))))

module _ (n : ℕ) (h : n ≤ 255) (name : List ℕ) (plain : Memᴰ (byte ";") name → ⊥) where
  -- UNEXPECTED END, at the end of all bytes, where a name has no ';'
  pub unended-name : read_whole (brackets n (byte "L" ∷ name)) ≡ type_error (UnexpectedEnd (length (brackets n (byte "L" ∷ name))))
  unfolding read_type letter_of read_name name_read
  unended-name =
      after n h (byte "L" ∷ name) 11 (length (brackets n (byte "L" ∷ name))) 0
      (rw (no-index (byte ";") name plain, le-leb (length name) (length name) (omega arith))
      (ap (λ (o : ℕ). Refused 11 o 0) (let e = brackets-length n (byte "L" ∷ name) in let q : n + 1 + length name ≡ length (brackets n (byte "L" ∷ name)) = omega arith in q)))

  -- UNEXPECTED BYTE, the first that is no part of a whole valid prefix of a name that is not well-formed
  pub ill-formed-name : (rest : List ℕ) → valid_prefix name < length name
      → read_whole (brackets n (byte "L" ∷ name ++ byte ";" ∷ rest)) ≡ type_error (UnexpectedByte (n + 1 + valid_prefix name) (get_or name (valid_prefix name) 0))
  unfolding read_type letter_of read_name name_read
  ill-formed-name rest l =
      let long : length name < length (name ++ byte ";" ∷ rest) = simp length-append (omega arith) in
      after n h (byte "L" ∷ name ++ byte ";" ∷ rest) 12 (n + 1 + valid_prefix name) (get_or name (valid_prefix name) 0)
      (rw (
        index-seam (byte ";") name rest plain,
        take-append_seam name (byte ";" ∷ rest),
        lt-leb (length (name ++ byte ";" ∷ rest)) (length name) long,
        ne_eqb (length name) 0 (λ e. let z : ⊥ = omega arith in z),
        lt-ltb (valid_prefix name) (length name) l,
      ) (ap (Refused 12 (n + 1 + valid_prefix name)) (front name (valid_prefix name) (byte ";" ∷ rest) l)))
    where
      front : (xs : List ℕ) (i : ℕ) (ys : List ℕ) → i < length xs → get_or (xs ++ ys) i 0 ≡ get_or xs i 0
      front [] i ys q = absurd (let z : ⊥ = omega arith in z)
      front (x ∷ xs) zero ys q = refl
      front (x ∷ xs) (suc i) ys q = front xs i ys (omega arith)

-- ---- 15: TRAILING INPUT, at the first byte after a type or void

finish-later : (s : List ℕ) (dims : ℕ) (next : ℕ) (r : Read) → next < length s → (b : _) → r ≡ Found dims b next → finish s r ≡ type_error (TrailingInput next)
unfolding finish
finish-later s dims next r h b e = rw (e, ne_eqb next (length s) (λ q. let z : ⊥ = omega arith in z))

pub trailing-input : {xs : List ℕ} {t : JavaType} → ReturnDescriptor AnyName xs t → dimensions t ≤ 255 → (b : ℕ) (rest : List ℕ)
    → read_whole (xs ++ b ∷ rest) ≡ type_error (TrailingInput (length xs))
unfolding read_whole
trailing-input (field {bs} {t} f) h b rest =
    let long : length bs < length (bs ++ b ∷ rest) = simp length-append (omega arith) in
    finish-later (bs ++ b ∷ rest) (dimensions t) (length bs) _ long _ (simp zero-add at (prefix f (b ∷ rest) 0 true 0 (omega arith)))
trailing-input void h b rest =
    finish-later (byte "V" ∷ b ∷ rest) 0 1 _ (omega arith) _ (prefix-void (b ∷ rest) 0 0)

-- ---- 16: MISSING METHOD START, where the first byte is no '('

pub no-start : (s : List ℕ) → ((rest : List ℕ) → s ≡ byte "(" ∷ rest → ⊥) → read_method s ≡ method_error MissingMethodStart
unfolding read_method
no-start [] n = refl
no-start (b ∷ bs) n = rw (ne_eqb b (byte "(") (λ e. n bs (ap (λ (x : ℕ). x ∷ bs) e)))

-- ---- 17 and 19: after parameters, in at most 255 dimensions each

-- what stops the list after them stops the list
list-stops : {xs : List ℕ} {ps : List Parameter} → Parameters AnyName xs ps → (turns : ℕ) (s rest : List ℕ) (at count code o b : ℕ) → drop at s ≡ xs ++ rest
    → count + length ps ≤ 255 → Low ps → read_params turns s (at + length xs) (count + length ps) ≡ Stopped code o b
    → read_params (length ps + turns) s at count ≡ Stopped code o b
unfolding read_params
list-stops none turns s rest at count code o b e room low stop = rw (zero-add turns) (rw (add-zero at, add-zero count) at stop)
list-stops (more {bs} {rest = ys} {t} {ps} f l) turns s rest at count code o b e room low stop =
    let split : drop at s ≡ bs ++ (ys ++ rest) = e ∙ append_assoc bs ys rest in
    let begin = first-byte f in
    let here = inside s begin.0 (begin.1 ++ (ys ++ rest)) at (split ∙ ap (λ (x : List ℕ). x ++ (ys ++ rest)) begin.2) in
    let lower : Low ps = λ p m. low p (Memᴰ.tail m) in
    let on : read_params turns s (at + length bs + length ys) (count + 1 + length ps) ≡ Stopped code o b =
    ap₂ (read_params turns s) (let q : at + length bs + length ys ≡ at + length (bs ++ ys) = simp length-append (omega arith) in q) (let q : count + 1 + length ps ≡ count + suc (length ps) = omega arith in q) ∙ stop in
    let others = list-stops l turns s rest (at + length bs) (count + 1) code o b (step-on s bs (ys ++ rest) at split) (omega arith) lower on in
    ap (λ (k : ℕ). read_params k s at count) (let q : suc (length ps) + turns ≡ suc (length ps + turns) = omega arith in q)
    ∙ rw (
      lt-leb (length s) at here.0,
      here.1,
      ne_eqb begin.0 41 begin.4,
      lt-leb 255 count (omega arith),
      parameter-read f s (ys ++ rest) at split (low (record { bytes = bs; type = t }) (Memᴰ.head refl)),
      others,
    )

stop-end : (turns : ℕ) (s : List ℕ) (at count : ℕ) → length s ≤ at → read_params turns s at count ≡ Stopped 17 at 0
unfolding read_params
stop-end zero s at count h = refl
stop-end (suc turns) s at count h = rw (le-leb (length s) at h)

stop-full : (turns : ℕ) (s rest : List ℕ) (at c : ℕ) → drop at s ≡ c ∷ rest → (c ≡ byte ")" → ⊥) → read_params (suc turns) s at 255 ≡ Stopped 19 at 0
unfolding read_params
stop-full turns s rest at c e n = let here = inside s c rest at e in rw (lt-leb (length s) at here.0, here.1, ne_eqb c 41 n)

method-stops : (bs : List ℕ) (code o b : ℕ) → read_params (suc (length bs)) (byte "(" ∷ bs) 1 0 ≡ Stopped code o b → read_method (byte "(" ∷ bs) ≡ Broken code o b
unfolding read_method after_params
method-stops bs code o b e = rw e

module _ {xs : List ℕ} {ps : List Parameter} (l : Parameters AnyName xs ps) (low : Low ps) where
  -- MISSING METHOD END, at the end of the bytes, where parameters have no ')' after them
  pub no-end : length ps ≤ 255 → read_method (byte "(" ∷ xs) ≡ method_error (MissingMethodEnd (1 + length xs))
  no-end h =
      let n = few l in
      let turns : length ps + (suc (length xs) - length ps) ≡ suc (length xs) = omega arith in
      method-stops xs 17 (1 + length xs) 0
      (ap (λ (k : ℕ). read_params k (byte "(" ∷ xs) 1 0) (sym turns)
      ∙ list-stops l (suc (length xs) - length ps) (byte "(" ∷ xs) [] 1 0 17 (1 + length xs) 0 (sym (append-nil xs)) (omega arith) low
      (stop-end (suc (length xs) - length ps) (byte "(" ∷ xs) (1 + length xs) (0 + length ps) (omega arith)))

  -- the 256th parameter, at its first byte
  pub too-many : length ps ≡ 255 → (c : ℕ) (rest : List ℕ) → (c ≡ byte ")" → ⊥) → read_method (byte "(" ∷ xs ++ c ∷ rest) ≡ method_error (TooMany (1 + length xs))
  too-many h c rest n =
      let f = few l in
      let bs = xs ++ c ∷ rest in
      let size : length bs ≡ length xs + suc (length rest) = length-append xs (c ∷ rest) in
      let turns : length ps + suc (length bs - length ps) ≡ suc (length bs) = omega arith in
      method-stops bs 19 (1 + length xs) 0
      (ap (λ (k : ℕ). read_params k (byte "(" ∷ bs) 1 0) (sym turns)
      ∙ list-stops l (suc (length bs - length ps)) (byte "(" ∷ bs) (c ∷ rest) 1 0 19 (1 + length xs) 0 refl (omega arith) low
      (ap (read_params (suc (length bs - length ps)) (byte "(" ∷ bs) (1 + length xs)) (let q : 0 + length ps ≡ 255 = omega arith in q)
      ∙ stop-full (length bs - length ps) (byte "(" ∷ bs) rest (1 + length xs) c (step-on (byte "(" ∷ bs) xs (c ∷ rest) 1 refl) n))

-- ---- 24: at the 'L' of a name that is no ClassName, where ordinary reading takes it

name-after : (n b : ℕ) (bs : List ℕ) → drop (suc n) (brackets n (b ∷ bs)) ≡ bs
unfolding brackets
name-after zero b bs = refl
name-after (suc n) b bs = name-after n b bs

module _ (n : ℕ) (name : List ℕ) (h : n ≤ 255) (a : AnyName name) where
  named : List ℕ
  named = brackets n (byte "L" ∷ name ++ byte ";" ∷ [])

  name-found : read_whole named ≡ Found n (Class (n + 1) (length name)) (length named)
  unfolding read_whole read_type letter_of finish named
  name-found =
      let size : n + 1 + length name + 1 ≡ length named =
      let e = brackets-length n (byte "L" ∷ name ++ byte ";" ∷ []) in
      let f : length (name ++ byte ";" ∷ []) ≡ length name + 1 = length-append name (byte ";" ∷ []) in
      omega arith in
      rw (through n (byte "L" ∷ name ++ byte ";" ∷ []) 0 true 0 (omega arith), zero-add, name-stops name [] n n a, eq-eqb (n + 1 + length name + 1) (length named) size, size)

  name-there : take (length name) (drop (n + 1) named) ≡ name
  unfolding named
  name-there =
      ap (λ (k : ℕ). take (length name) (drop k named)) (add-one n)
      ∙ ap (take (length name)) (name-after n (byte "L") (name ++ byte ";" ∷ []))
      ∙ take-append_seam name (byte ";" ∷ [])

  pub not-strict : (ClassName name → ⊥) → read_strict (brackets n (byte "L" ∷ name ++ byte ";" ∷ [])) ≡ type_error (NotStrict n)
  unfolding read_strict strictly named
  not-strict other = rw (name-found, name-there) (go (strict_name name) refl)
    where
      go : (t : Bool) → strict_name name ≡ t → pick_r t (Found n (Class (n + 1) (length name)) (length named)) (Refused 24 (n + 1 - 1) 0) ≡ Refused 24 n 0
      go true e = absurd (other ((class-name name).1 (a, e)))
      go false e = ap (λ (o : ℕ). Refused 24 o 0) (let q : n + 1 - 1 ≡ n = omega arith in q)
