-- A type that was read in two words, and that they say all of it.
use Rattle.std.specs.Prelude.{◌≡◌, refl, Bool, true, false, List, ℕ, ◌+◌, ◌-◌, ◌*◌, ◌/◌, ◌%◌, ◌≤◌, ◌<◌, eqb, ltb, take, drop, get_or, length}
use Rattle.std.proofs.Common.{sym, ap, ap₂, subst, ◌∙◌, arith, ne_eqb, le-leb, lt-ltb, le-ltb}
use Rattle.std.proofs.Math.Seq.{take-length}
use Rattle.std.proofs.lemmas.Bool.{lt-leb}
use Rattle.descriptor.specs.declared.Base.TheVariants.{Simple, Class}
use Rattle.descriptor.specs.Read.{Read, Found, Refused, pick_r, letter_of, read_name, read_type, finish}
use Rattle.descriptor.specs.declared.Core.{Core}
use Rattle.descriptor.specs.Steps.{read-end, read-at}
use Rattle.descriptor.specs.Laws.{byte_if, Tells, read-tells, finish-tells}

-- a refusal's code and offset; or the category (9 for a class) and the dimensions, and the offset after the type
abbrev pub core_of : Read → Core
core_of (Found d (Simple k) next) = record { what = 256 + k + 1024 * d; at = next }
core_of (Found d (Class p n) next) = record { what = 265 + 1024 * d; at = next }
core_of (Refused code o byte) = record { what = code; at = o }

-- the type whose core these two words are, read from `at` on
abbrev pub un_core : List ℕ → ℕ → Core → Read
un_core s at c =
    pick_r (ltb c.what 256) (Refused c.what c.at (byte_if (eqb c.what 12) (get_or s c.at 0)))
    (pick_r (ltb (c.what % 256) 9) (Found (c.what / 1024) (Simple (c.what % 256)) c.at) (Found (c.what / 1024) (Class from (c.at - from - 1)) c.at))
  where
    from : ℕ
    from = at + c.what / 1024 + 1

-- what a core has to keep for its type to be made from it
pub record Sound (s : List ℕ) (at : ℕ) (c : Core) : Type 0 where
  pub inside : c.what ≡ 12 → c.at < length s
  pub name : 256 ≤ c.what → 9 ≤ c.what % 256 → at + c.what / 1024 + 2 ≤ c.at
  pub within : 256 ≤ c.what → c.at ≤ length s
  pub least : c.what < 256 → 11 ≤ c.what
  pub most : c.what < 256 → c.what ≤ 24

-- what a core tells of the type read from `at` on: all of it
pub record CoreTells (s : List ℕ) (at : ℕ) (c : Core) (r : Read) : Type 0 where
  pub whole : r ≡ un_core s at c
  pub sound : Sound s at c

module _ (s : List ℕ) (at : ℕ) where
  told : (r : Read) → Tells s at 0 r → CoreTells s at (core_of r) r
  told (Found d (Simple k) next) h =
      let w = 256 + k + 1024 * d in
      let m = h.made in
      let q : w / 1024 ≡ d = omega arith in
      let i : w % 256 ≡ k = omega arith in
      record {
        whole = rw (le-ltb w 256 (omega arith), lt-ltb (w % 256) 9 (omega arith), q, i);
        sound = record { inside = λ e. absurd (omega arith); name = λ l n. absurd (omega arith); within = λ l. h.within; least = λ l. absurd (omega arith); most = λ l. absurd (omega arith) };
      }
  told (Found d (Class p n) next) h =
      let w = 265 + 1024 * d in
      let b = h.behind in
      let e = h.made.ends in
      let q : w / 1024 ≡ d = omega arith in
      let f : at + d + 1 ≡ p = omega arith in
      let g : next - p - 1 ≡ n = omega arith in
      record {
        whole = rw (le-ltb w 256 (omega arith), le-ltb (w % 256) 9 (omega arith), q, f, g);
        sound = record { inside = λ e. absurd (omega arith); name = λ l n. omega arith; within = λ l. h.within; least = λ l. absurd (omega arith); most = λ l. absurd (omega arith) };
      }
  told (Refused code o byte) h =
      record {
        whole = rw (lt-ltb code 256 (omega arith)) (ap (Refused code o) h.names);
        sound = record { inside = h.inside; name = λ l n. absurd (omega arith); within = λ l. absurd (omega arith); least = λ l. h.least; most = λ l. h.most };
      }

  -- A TYPE IS ALL IN ITS CORE
  pub core-tells : (void : Bool) (c : Core) → c ≡ core_of (read_type (drop at s) at void 0) → CoreTells s at c (read_type (drop at s) at void 0)
  core-tells void c e =
      let r = read_type (drop at s) at void 0 in
      subst (λ (x : Core). CoreTells s at x r) (sym e) (told r (read-tells s at void))

-- ---- the end of the bytes, at a core

abbrev pub pick_c : Bool → Core → Core → Core
pick_c true a b = a
pick_c false a b = b

-- `finish` of a core, in n bytes
abbrev pub ended_of : ℕ → Core → Core
ended_of n c = pick_c (ltb c.what 256) c (pick_c (eqb c.at n) c (record { what = 15; at = c.at }))

ended-core : (s : List ℕ) (at : ℕ) (r : Read) → Tells s at 0 r → ended_of (length s) (core_of r) ≡ core_of (finish s r)
unfolding finish
ended-core s at (Found d (Simple k) next) h = rw (le-ltb (256 + k + 1024 * d) 256 (omega arith)) (go (eqb next (length s)))
  where
    c : Core
    c = record { what = 256 + k + 1024 * d; at = next }

    go : (t : Bool) → pick_c t c (record { what = 15; at = next }) ≡ core_of (pick_r t (Found d (Simple k) next) (Refused 15 next 0))
    go true = refl
    go false = refl
ended-core s at (Found d (Class p n) next) h = rw (le-ltb (265 + 1024 * d) 256 (omega arith)) (go (eqb next (length s)))
  where
    c : Core
    c = record { what = 265 + 1024 * d; at = next }

    go : (t : Bool) → pick_c t c (record { what = 15; at = next }) ≡ core_of (pick_r t (Found d (Class p n) next) (Refused 15 next 0))
    go true = refl
    go false = refl
ended-core s at (Refused code o byte) h = rw (lt-ltb code 256 (omega arith))

pub ended-tells : (s : List ℕ) (at : ℕ) (c e : Core) → c ≡ core_of (read_type (drop at s) at true 0) → e ≡ ended_of (length s) c
    → CoreTells s at e (finish s (read_type (drop at s) at true 0))
ended-tells s at c e f g =
    let r = read_type (drop at s) at true 0 in
    let h = read-tells s at true in
    subst (λ (x : Core). CoreTells s at x (finish s r)) (sym (g ∙ ap (ended_of (length s)) f ∙ ended-core s at r h)) (told s at (finish s r) (finish-tells s at 0 r h))

-- ---- one step of reading a core, by the letter k of the byte at an offset

-- the core of a type of one letter that is no class and no array
abbrev pub flat_of : ℕ → ℕ → Bool → ℕ → Core
flat_of k at void dims =
    pick_c (eqb k 0) (pick_c void (record { what = 256 + 1024 * dims; at = at + 1 }) (record { what = 13; at = at }))
    (pick_c (ltb k 9) (record { what = 256 + k + 1024 * dims; at = at + 1 }) (record { what = 12; at = at }))

core-pick : (t : Bool) (a b : Read) → core_of (pick_r t a b) ≡ pick_c t (core_of a) (core_of b)
core-pick true a b = refl
core-pick false a b = refl

module _ (s : List ℕ) (at : ℕ) (void : Bool) (dims : ℕ) where
  pub core-end : length s ≤ at → record { what = 11; at = at } ≡ core_of (read_type (drop at s) at void dims)
  core-end h = ap core_of (sym (read-end s at void dims h))

  module _ (h : at < length s) (k : ℕ) (e : k ≡ letter_of (get_or s at 0)) where
    pub core-name : k ≡ 9 → core_of (read_name (drop (at + 1) s) at dims) ≡ core_of (read_type (drop at s) at void dims)
    core-name f = sym (ap core_of (read-at s at void dims h k e) ∙ rw f)

    pub core-full : k ≡ 10 → 255 ≤ dims → record { what = 18; at = at } ≡ core_of (read_type (drop at s) at void dims)
    core-full f l = sym (ap core_of (read-at s at void dims h k e) ∙ rw (f, le-leb 255 dims l))

    pub core-deeper : k ≡ 10 → dims < 255 → core_of (read_type (drop (at + 1) s) (at + 1) false (dims + 1)) ≡ core_of (read_type (drop at s) at void dims)
    core-deeper f l = sym (ap core_of (read-at s at void dims h k e) ∙ rw (f, lt-leb 255 dims l))

    pub core-flat : (k ≡ 9 → ⊥) → (k ≡ 10 → ⊥) → flat_of k at void dims ≡ core_of (read_type (drop at s) at void dims)
    core-flat m n =
        sym (ap core_of (read-at s at void dims h k e)
        ∙ rw (ne_eqb k 9 m, ne_eqb k 10 n)
        (core-pick (eqb k 0) _ _ ∙ ap₂ (pick_c (eqb k 0)) (core-pick void _ _) (core-pick (ltb k 9) _ _)))

-- a slice lent anew, `&s[0..]`, is the same slice
pub lent-anew : (s : List ℕ) → take (length s - 0) (drop 0 s) ≡ s
lent-anew s = ap (λ (n : ℕ). take n s) (let e : length s - 0 ≡ length s = omega arith in e) ∙ take-length s
