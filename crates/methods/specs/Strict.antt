-- One step of strict reading, as the code meets it: a name byte by byte, a type judged, the first bad name of a method.
use Rattle.std.specs.Prelude.{◌≡◌, refl, Bool, true, false, not, List, ◌∷◌, ℕ, suc, ◌+◌, ◌-◌, ◌≤◌, ◌<◌, eqb, length, take, drop, get_or}
use Rattle.std.proofs.Math.Path.{sym, ap}
use Rattle.std.proofs.Common.{ap₂, ◌∙◌, add-one, drop-cons}
use native.Mathlib.Omega.{arith}
use borrow.Author.Tests.{eq-eqb, ne_eqb}
use Rattle.descriptor.specs.declared.Base.{Base}
use Rattle.descriptor.specs.declared.Base.TheVariants.{Simple, Class}
use Rattle.descriptor.specs.Read.{Read, Found, Refused, pick_r, parts_from, strict_name, strictly}
use Rattle.descriptor.specs.Steps.{Placed}

-- ---- strict names

abbrev pub pick_b : Bool → Bool → Bool → Bool
pick_b true a b = a
pick_b false a b = b

-- whether no strict name goes on with the byte b
unfoldable pub stops_at : Bool → ℕ → Bool
stops_at begun b = pick_b (eqb b 47) (not begun) (pick_b (eqb b 46) true (pick_b (eqb b 91) true false))

pub parts-step : (begun : Bool) (b : ℕ) (bs : List ℕ) → parts_from begun (b ∷ bs) ≡ pick_b (stops_at begun b) false (parts_from (not (eqb b 47)) bs)
unfolding parts_from stops_at
parts-step begun b bs = go begun (eqb b 47) (eqb b 46) (eqb b 91) refl refl refl
  where
    go : (begun slash dot bracket : Bool) → eqb b 47 ≡ slash → eqb b 46 ≡ dot → eqb b 91 ≡ bracket
        → parts_from begun (b ∷ bs) ≡ pick_b (stops_at begun b) false (parts_from (not (eqb b 47)) bs)
    go true true dot bracket e f g = rw e
    go false true dot bracket e f g = rw e
    go begun false true bracket e f g = rw (e, f)
    go begun false false true e f g = rw (e, f, g)
    go begun false false false e f g = rw (e, f, g)

module _ (s : List ℕ) (i to : ℕ) (begun : Bool) where
  pub parts-end : to ≤ i → parts_from begun (take (to - i) (drop i s)) ≡ begun
  unfolding parts_from
  parts-end h = ap (λ (n : ℕ). parts_from begun (take n (drop i s))) (let e : to - i ≡ 0 = omega arith in e)

  module _ (h : i < to) (l : to ≤ length s) where
    pub parts-at : parts_from begun (take (to - i) (drop i s))
        ≡ pick_b (stops_at begun (get_or s i 0)) false (parts_from (not (eqb (get_or s i 0) 47)) (take (to - (i + 1)) (drop (i + 1) s)))
    parts-at =
        rw (add-one i)
        (ap₂ (λ (n : ℕ) (l : List ℕ). parts_from begun (take n l)) (let e : to - i ≡ suc (to - suc i) = omega arith in e) (drop-cons s i 0 (omega arith))
        ∙ parts-step begun (get_or s i 0) (take (to - suc i) (drop (suc i) s)))

-- ---- strict types

module _ (s : List ℕ) (t : Read) (d : ℕ) (base : Base) (next : ℕ) (f : t ≡ Found d base next) where
  pub strictly-simple : (k : ℕ) → base ≡ Simple k → Found d base next ≡ strictly s t
  unfolding strictly
  strictly-simple k b = rw (f, b)

  module _ (at n : ℕ) (b : base ≡ Class at n) where
    pub class-placed : (m : ℕ) → Placed m t → (1 ≤ at) × (at + n ≤ m)
    class-placed m p = rw (f, b) at p

    part : take (at + n - at) (drop at s) ≡ take n (drop at s)
    part = ap (λ (k : ℕ). take k (drop at s)) (let e : at + n - at ≡ n = omega arith in e)

    pub strictly-good : strict_name (take (at + n - at) (drop at s)) ≡ true → Found d base next ≡ strictly s t
    unfolding strictly
    strictly-good e = rw (f, b, sym (ap strict_name part) ∙ e)

    pub strictly-bad : strict_name (take (at + n - at) (drop at s)) ≡ false → Refused 24 (at - 1) 0 ≡ strictly s t
    unfolding strictly
    strictly-bad e = rw (f, b, sym (ap strict_name part) ∙ e)

-- where a refusal is; 0 for a type
abbrev pub refused_at : Read → ℕ
refused_at (Found dims base next) = 0
refused_at (Refused code at byte) = at

-- the offset of the first bad name, where it was `bad` (0 for none) before the type t; the ordinary reader keeps none
unfoldable pub first_bad : List ℕ → Bool → ℕ → Read → ℕ
first_bad s false bad t = bad
first_bad s true bad t = first (eqb bad 0)
  where
    first : Bool → ℕ
    first true = refused_at (strictly s t)
    first false = bad

-- the return type, judged after the parameters
unfoldable pub closing : List ℕ → Bool → ℕ → Read → Read
closing s false bad t = t
closing s true bad (Found dims base next) = pick_r (eqb bad 0) (strictly s (Found dims base next)) (Refused 24 bad 0)
closing s true bad (Refused code at byte) = Refused code at byte

-- ---- the same, as the code tests

module _ (s : List ℕ) (strict : Bool) (bad : ℕ) (t : Read) where
  pub bad-kept : strict ≡ false → bad ≡ first_bad s strict bad t
  unfolding first_bad
  bad-kept e = rw e

  pub bad-before : strict ≡ true → (bad ≡ 0 → ⊥) → bad ≡ first_bad s strict bad t
  unfolding first_bad
  bad-before e n = rw (e, ne_eqb bad 0 n)

  pub bad-here : strict ≡ true → bad ≡ 0 → refused_at (strictly s t) ≡ first_bad s strict bad t
  unfolding first_bad
  bad-here e z = rw (e, eq-eqb bad 0 z)

  pub closing-plain : strict ≡ false → t ≡ closing s strict bad t
  unfolding closing
  closing-plain e = rw e

  pub closing-refused : strict ≡ true → (code at byte : ℕ) → t ≡ Refused code at byte → Refused code at byte ≡ closing s strict bad t
  unfolding closing
  closing-refused e code at byte f = rw (e, f)

  module _ (e : strict ≡ true) (d : ℕ) (base : Base) (next : ℕ) (f : t ≡ Found d base next) where
    pub closing-bad : (bad ≡ 0 → ⊥) → Refused 24 bad 0 ≡ closing s strict bad t
    unfolding closing
    closing-bad n = rw (e, f, ne_eqb bad 0 n)

    pub closing-strict : bad ≡ 0 → strictly s (Found d base next) ≡ closing s strict bad t
    unfolding closing
    closing-strict z = rw (e, f, eq-eqb bad 0 z)
