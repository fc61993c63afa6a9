-- Which numbers a descriptor is refused with: those of DescriptorParseError, 24 where reading is strict, 18 only where 256 '[' stand in a row,
-- 19 only where no ')' follows 255 parameters.
use Rattle.std.specs.Prelude.{◌≡◌, refl, Bool, true, false, List, [], ◌∷◌, ◌++◌, ◌⊎◌, ℕ, zero, suc, ◌+◌, ◌-◌, ◌≤◌, ◌<◌, eqb, leb, ltb, length, take, drop, get_or}
use Rattle.std.proofs.Common.{sym, ap, ◌∙◌, subst, append_assoc, inl, inr, ⊎_elim, arith, drop-cons, get_or-drop, eqb-true, leb-true, leb-false}
use Rattle.std.proofs.lemmas.Bool.{eqb-false}
use Rattle.utf8.specs.Utf8.{valid_prefix}
use Rattle.descriptor.specs.declared.Base.{Base}
use Rattle.descriptor.specs.declared.Base.TheVariants.{Simple, Class}
use Rattle.descriptor.specs.Read.{Read, Found, Refused, pick_r, letter_of, index_of, name_read, read_name, read_type, finish, read_whole, strict_name, strictly, read_strict}
use Rattle.methods.specs.Method.{Params, Listed, Stopped, Method, Whole, Broken, pick_p, pick_m, before, onward, read_params, returns, after_params, read_method, strict_params, strict_method, read_method_strict}
use Rattle.jvms.specs.Jvms.{AnyName, Parameter, Parameters, Parameters.none, Parameters.more}
use Rattle.jvms.specs.Prefix.{Stop, sound}
use Rattle.jvms.specs.Listing.{step-on}

-- ---- words

-- 256 '[' in a row: more than 255 dimensions
abbrev pub Deep : List ℕ → Type 0
Deep s = (i : ℕ) × ((j : ℕ) → j < 256 → get_or s (i + j) 0 ≡ 91)

-- after a '(', 255 parameters and then no ')': more than 255 parameters
pub record Crowded (s : List ℕ) : Type 0 where
  pub bytes : List ℕ
  pub first : ℕ
  pub rest : List ℕ
  pub params : List Parameter
  pub stands : s ≡ 40 ∷ bytes ++ first ∷ rest
  pub derived : Parameters AnyName bytes params
  pub many : length params ≡ 255
  pub other : first ≡ 41 → ⊥

-- a number of DescriptorParseError up to n, or 18 of a deep descriptor
abbrev Numbered : ℕ → List ℕ → ℕ → Type 0
Numbered n s code = ((11 ≤ code) × (code ≤ n)) ⊎ ((code ≡ 18) × Deep s)

-- ---- '['

not-ten : (b c : ℕ) → (letter_of c ≡ 10 → ⊥) → (eqb b c ≡ false → letter_of b ≡ 10 → b ≡ 91) → letter_of b ≡ 10 → b ≡ 91
not-ten b c n other = go (eqb b c) refl
  where
    go : (t : Bool) → eqb b c ≡ t → letter_of b ≡ 10 → b ≡ 91
    go true e h = absurd (n (ap letter_of (sym (eqb-true b c e)) ∙ h))
    go false e h = other e h

bracket : (b : ℕ) → letter_of b ≡ 10 → b ≡ 91
unfolding letter_of
bracket b =
    not-ten b 86 (λ z. omega arith) λ e₀. not-ten b 90 (λ z. omega arith) λ e₁. not-ten b 66 (λ z. omega arith) λ e₂. not-ten b 83 (λ z. omega arith) λ e₃.
    not-ten b 67 (λ z. omega arith) λ e₄. not-ten b 73 (λ z. omega arith) λ e₅. not-ten b 74 (λ z. omega arith) λ e₆. not-ten b 70 (λ z. omega arith) λ e₇.
    not-ten b 68 (λ z. omega arith) λ e₈. not-ten b 76 (λ z. omega arith) λ e₉. last (eqb b 91) refl e₀ e₁ e₂ e₃ e₄ e₅ e₆ e₇ e₈ e₉
  where
    last : (t : Bool) → eqb b 91 ≡ t → eqb b 86 ≡ false → eqb b 90 ≡ false → eqb b 66 ≡ false → eqb b 83 ≡ false → eqb b 67 ≡ false → eqb b 73 ≡ false
        → eqb b 74 ≡ false → eqb b 70 ≡ false → eqb b 68 ≡ false → eqb b 76 ≡ false → letter_of b ≡ 10 → b ≡ 91
    last true e e₀ e₁ e₂ e₃ e₄ e₅ e₆ e₇ e₈ e₉ h = eqb-true b 91 e
    last false e e₀ e₁ e₂ e₃ e₄ e₅ e₆ e₇ e₈ e₉ h = absurd (let z : ◌≡◌ {A = ℕ} 11 10 = rw (e₀, e₁, e₂, e₃, e₄, e₅, e₆, e₇, e₈, e₉, e) at h in omega arith)

-- ---- a type

-- after d brackets: 18 where all up to the 256th are
abbrev Told : List ℕ → ℕ → Read → Type 0
Told bs d (Found dims base next) = Unit {0}
Told bs d (Refused code o byte) = ((11 ≤ code) × (code ≤ 14)) ⊎ ((code ≡ 18) × ((j : ℕ) → j + d < 256 → get_or bs j 0 ≡ 91))

pick-told : (bs : List ℕ) (d : ℕ) (t : Bool) (a b : Read) → (t ≡ true → Told bs d a) → (t ≡ false → Told bs d b) → Told bs d (pick_r t a b)
pick-told bs d true a b f g = f refl
pick-told bs d false a b f g = g refl

name-told : (l bs : List ℕ) (at d : ℕ) → Told l d (read_name bs at d)
unfolding read_name name_read
name-told l bs at d =
    let n = index_of 59 bs in
    pick-told l d (leb (length bs) n) _ _ (λ e. inl (omega arith, omega arith)) λ e.
    pick-told l d (eqb n 0) _ _ (λ f. inl (omega arith, omega arith)) λ f.
    pick-told l d (ltb (valid_prefix (take n bs)) n) _ _ (λ g. inl (omega arith, omega arith)) λ g. tt

deeper-told : (b : ℕ) (bs : List ℕ) (d : ℕ) (r : Read) → b ≡ 91 → Told bs (d + 1) r → Told (b ∷ bs) d r
deeper-told b bs d (Found dims base next) e h = tt
deeper-told b bs d (Refused code o byte) e h = ⊎_elim (λ w. inl w) (λ w. inr (w.0, elim [ zero ↦ λ k. e | suc j ↦ λ k. w.1 j (omega arith) ])) h

type-told : (bs : List ℕ) (at : ℕ) (v : Bool) (d : ℕ) → d ≤ 255 → Told bs d (read_type bs at v d)
unfolding read_type
type-told [] at v d l = inl (omega arith, omega arith)
type-told (b ∷ bs) at v d l =
    let k = letter_of b in
    let t = b ∷ bs in
    pick-told t d (eqb k 0) _ _ (λ e. pick-told t d v _ _ (λ f. tt) (λ f. inl (omega arith, omega arith))) λ e.
    pick-told t d (ltb k 9) _ _ (λ f. tt) λ f.
    pick-told t d (eqb k 9) _ _ (λ g. name-told t bs at d) λ g.
    pick-told t d (eqb k 10) _ _
    (λ h. pick-told t d (leb 255 d) _ _
    (λ i. inr (refl, elim [ zero ↦ λ m. bracket b (eqb-true k 10 h) | suc j ↦ λ m. absurd (let n = leb-true 255 d i in omega arith) ]))
    (λ i. deeper-told b bs d (read_type bs (at + 1) false (d + 1)) (bracket b (eqb-true k 10 h)) (type-told bs (at + 1) false (d + 1) (let n = leb-false 255 d i in omega arith))))
    λ h. inl (omega arith, omega arith)

-- the brackets at an offset
told-deep : (s : List ℕ) (at : ℕ) → ((j : ℕ) → j + 0 < 256 → get_or (drop at s) j 0 ≡ 91) → Deep s
told-deep s at h = (at, λ j l. sym (get_or-drop at s j 0) ∙ h j (omega arith))

-- a type's numbers: 11 to 14 as it is read, 15 after it, 24 where its name is judged
abbrev pub TypeNumber : List ℕ → Read → Type 0
TypeNumber s (Found dims base next) = Unit {0}
TypeNumber s (Refused code o byte) = ((11 ≤ code) × (code ≤ 15)) ⊎ ((code ≡ 18) × Deep s)

abbrev pub StrictNumber : List ℕ → Read → Type 0
StrictNumber s (Found dims base next) = Unit {0}
StrictNumber s (Refused code o byte) = ((11 ≤ code) × (code ≤ 15)) ⊎ ((code ≡ 24) ⊎ ((code ≡ 18) × Deep s))

at-number : (s : List ℕ) (at : ℕ) (v : Bool) → TypeNumber s (read_type (drop at s) at v 0)
at-number s at v = go (read_type (drop at s) at v 0) (type-told (drop at s) at v 0 (omega arith))
  where
    go : (r : Read) → Told (drop at s) 0 r → TypeNumber s r
    go (Found dims base next) h = tt
    go (Refused code o byte) h = ⊎_elim (λ w. inl (w.0, omega (arith, w.1))) (λ w. inr (w.0, told-deep s at w.1)) h

end-number : (s : List ℕ) (r : Read) → TypeNumber s r → TypeNumber s (finish s r)
unfolding finish
end-number s (Found dims base next) h = go (eqb next (length s))
  where
    go : (t : Bool) → TypeNumber s (pick_r t (Found dims base next) (Refused 15 next 0))
    go true = tt
    go false = inl (omega arith, omega arith)
end-number s (Refused code o byte) h = h

strict-number : (s : List ℕ) (r : Read) → TypeNumber s r → StrictNumber s (strictly s r)
unfolding strictly
strict-number s (Found dims (Simple k) next) h = tt
strict-number s (Found dims (Class at n) next) h = go (strict_name (take n (drop at s)))
  where
    go : (t : Bool) → StrictNumber s (pick_r t (Found dims (Class at n) next) (Refused 24 (at - 1) 0))
    go true = tt
    go false = inr (inl refl)
strict-number s (Refused code o byte) h = ⊎_elim (λ w. inl w) (λ w. inr (inr w)) h

-- A TYPE IS REFUSED WITH 11 TO 15, OR WITH 18 WHERE IT IS DEEP
pub type-number : (s : List ℕ) → TypeNumber s (read_whole s)
unfolding read_whole
type-number s = end-number s (read_type s 0 true 0) (at-number s 0 true)

-- STRICTLY WITH 24 BESIDE THEM
pub strict-type-number : (s : List ℕ) → StrictNumber s (read_strict s)
unfolding read_strict
strict-type-number s = strict-number s (read_whole s) (type-number s)

-- ---- a method

-- as `Crowded`, from the offset `at` on, after `count` parameters
record Full (s : List ℕ) (at count : ℕ) : Type 0 where
  pub bytes : List ℕ
  pub first : ℕ
  pub rest : List ℕ
  pub params : List Parameter
  pub stands : drop at s ≡ bytes ++ first ∷ rest
  pub derived : Parameters AnyName bytes params
  pub many : count + length params ≡ 255
  pub other : first ≡ 41 → ⊥

abbrev ListNumber : List ℕ → ℕ → ℕ → Params → Type 0
ListNumber s at count (Listed offsets close) = Unit {0}
ListNumber s at count (Stopped code o byte) = ((11 ≤ code) × (code ≤ 17)) ⊎ (((code ≡ 18) × Deep s) ⊎ ((code ≡ 19) × Full s at count))

full-now : (s : List ℕ) (at count : ℕ) → count ≡ 255 → at < length s → (get_or s at 0 ≡ 41 → ⊥) → Full s at count
full-now s at count e h n = record {
  bytes = [];
  first = get_or s at 0;
  rest = drop (suc at) s;
  params = [];
  stands = drop-cons s at 0 h;
  derived = none;
  many = omega arith;
  other = n;
}

full-more : (s : List ℕ) (at count dims : ℕ) (b : Base) (next : ℕ) → Stop false (drop at s) at 0 dims b next → Full s next (count + 1) → Full s at count
full-more s at count dims b next r f = record {
  bytes = r.bytes ++ f.bytes;
  first = f.first;
  rest = f.rest;
  params = record { bytes = r.bytes; type = r.type } ∷ f.params;
  stands = r.whole ∙ ap (λ (x : List ℕ). r.bytes ++ x) behind ∙ sym (append_assoc r.bytes f.bytes (f.first ∷ f.rest));
  derived = more r.taken f.derived;
  many = omega (arith, f.many);
  other = f.other;
}
  where
    behind : r.rest ≡ f.bytes ++ f.first ∷ f.rest
    behind = sym (step-on s r.bytes r.rest at r.whole) ∙ ap (λ (n : ℕ). drop n s) (sym r.stop) ∙ f.stands

pick-list : (s : List ℕ) (at count : ℕ) (t : Bool) (a b : Params) → (t ≡ true → ListNumber s at count a) → (t ≡ false → ListNumber s at count b) → ListNumber s at count (pick_p t a b)
pick-list s at count true a b f g = f refl
pick-list s at count false a b f g = g refl

list-number : (turns : ℕ) (s : List ℕ) (at count : ℕ) → count ≤ 255 → ListNumber s at count (read_params turns s at count)
unfolding read_params
list-number zero s at count l = inl (omega arith, omega arith)
list-number (suc turns) s at count l =
    pick-list s at count (leb (length s) at) _ _ (λ e. inl (omega arith, omega arith)) λ e.
    pick-list s at count (eqb (get_or s at 0) 41) _ _ (λ f. tt) λ f.
    pick-list s at count (leb 255 count) _ _
    (λ g. inr (inr (refl, full-now s at count (let k = leb-true 255 count g in omega arith) (leb-false (length s) at e) (eqb-false (get_or s at 0) 41 f)))) λ g.
    read (read_type (drop at s) at false 0) refl (at-number s at false) (λ next. list-number turns s next (count + 1) (let k = leb-false 255 count g in omega arith))
  where
    further : ℕ → Params
    further next = read_params turns s next (count + 1)

    listed : (dims : ℕ) (b : Base) (next : ℕ) → Stop false (drop at s) at 0 dims b next → (y : Params) → ListNumber s next (count + 1) y → ListNumber s at count (before at y)
    listed dims b next r (Listed offsets close) h = tt
    listed dims b next r (Stopped code o byte) h =
        ⊎_elim (λ w. inl w) (λ w. ⊎_elim (λ v. inr (inl v)) (λ v. inr (inr (v.0, full-more s at count dims b next r v.1))) w) h

    read : (r : Read) → read_type (drop at s) at false 0 ≡ r → TypeNumber s r → ((next : ℕ) → ListNumber s next (count + 1) (further next)) → ListNumber s at count (onward at further r)
    read (Found dims b next) e h later = listed dims b next (sound (drop at s) at false 0 dims b next (omega arith) e) (further next) (later next)
    read (Refused code o byte) e h later = ⊎_elim (λ w. inl (w.0, omega (arith, w.1))) (λ w. inr (inl w)) h

-- a method's numbers
abbrev pub MethodNumber : List ℕ → Method → Type 0
MethodNumber s (Whole offsets at result) = TypeNumber s result
MethodNumber s (Broken code o byte) = ((11 ≤ code) × (code ≤ 17)) ⊎ (((code ≡ 18) × Deep s) ⊎ ((code ≡ 19) × Crowded s))

abbrev pub StrictMethodNumber : List ℕ → Method → Type 0
StrictMethodNumber s (Whole offsets at result) = StrictNumber s result
StrictMethodNumber s (Broken code o byte) = ((11 ≤ code) × (code ≤ 17)) ⊎ ((code ≡ 24) ⊎ (((code ≡ 18) × Deep s) ⊎ ((code ≡ 19) × Crowded s)))

after-number : (bs : List ℕ) (p : Params) → ListNumber (40 ∷ bs) 1 0 p → MethodNumber (40 ∷ bs) (after_params (40 ∷ bs) p)
unfolding after_params returns
after-number bs (Listed offsets close) h =
    go (finish (40 ∷ bs) (read_type (drop (close + 1) (40 ∷ bs)) (close + 1) true 0)) (end-number (40 ∷ bs) (read_type (drop (close + 1) (40 ∷ bs)) (close + 1) true 0) (at-number (40 ∷ bs) (close + 1) true))
  where
    go : (r : Read) → TypeNumber (40 ∷ bs) r → MethodNumber (40 ∷ bs) (returns (40 ∷ bs) offsets close r)
    go (Found dims base next) c = tt
    go (Refused code o byte) c = ⊎_elim (λ w. inl (w.0, omega (arith, w.1))) (λ w. inr (inl w)) c
after-number bs (Stopped code o byte) h =
    ⊎_elim (λ w. inl w)
    (λ w.
    ⊎_elim (λ v. inr (inl v))
    (λ v.
    let f = v.1 in
    inr (inr (
      v.0,
      record {
        bytes = f.bytes;
        first = f.first;
        rest = f.rest;
        params = f.params;
        stands = ap (λ (x : List ℕ). 40 ∷ x) f.stands;
        derived = f.derived;
        many = omega (arith, f.many);
        other = f.other;
      },
    )))
    w)
    h

-- A METHOD IS REFUSED WITH 11 TO 17, WITH 18 WHERE IT IS DEEP, WITH 19 WHERE IT IS CROWDED
pub method-number : (s : List ℕ) → MethodNumber s (read_method s)
unfolding read_method
method-number [] = inl (omega arith, omega arith)
method-number (b ∷ bs) = go (eqb b 40) refl
  where
    go : (t : Bool) → eqb b 40 ≡ t → MethodNumber (b ∷ bs) (pick_m t (after_params (b ∷ bs) (read_params (suc (length bs)) (b ∷ bs) 1 0)) (Broken 16 0 0))
    go true e =
        subst (λ (x : ℕ). MethodNumber (x ∷ bs) (after_params (x ∷ bs) (read_params (suc (length bs)) (x ∷ bs) 1 0))) (sym (eqb-true b 40 e))
        (after-number bs (read_params (suc (length bs)) (40 ∷ bs) 1 0) (list-number (suc (length bs)) (40 ∷ bs) 1 0 (omega arith)))
    go false e = inl (omega arith, omega arith)

params-number : (s offsets : List ℕ) (m : Method) → StrictMethodNumber s m → StrictMethodNumber s (strict_params s offsets m)
unfolding strict_params
params-number s [] m h = h
params-number s (at ∷ offsets) m h =
    let r = read_type (drop at s) at false 0 in
    go (strictly s r) refl (strict-number s r (at-number s at false)) (params-number s offsets m h)
  where
    go : (r : Read) → strictly s (read_type (drop at s) at false 0) ≡ r → StrictNumber s r → StrictMethodNumber s (strict_params s offsets m) → StrictMethodNumber s (strict_params s (at ∷ offsets) m)
    go (Found dims base next) e c others = rw e others
    go (Refused code o byte) e c others = rw e (⊎_elim (λ w. inl (w.0, omega (arith, w.1))) (λ w. inr (⊎_elim (λ v. inl v) (λ v. inr (inl v)) w)) c)

judged-number : (s : List ℕ) (m : Method) → MethodNumber s m → StrictMethodNumber s (strict_method s m)
unfolding strict_method
judged-number s (Whole offsets at result) h = go (strictly s result) refl (strict-number s result h)
  where
    go : (r : Read) → strictly s result ≡ r → StrictNumber s r → StrictMethodNumber s (strict_method s (Whole offsets at result))
    go (Found dims base next) e c = rw e (params-number s offsets (Whole offsets at (Found dims base next)) tt)
    go (Refused code o byte) e c =
        rw e (params-number s offsets (Broken code o byte) (⊎_elim (λ w. inl (w.0, omega (arith, w.1))) (λ w. inr (⊎_elim (λ v. inl v) (λ v. inr (inl v)) w)) c))
judged-number s (Broken code o byte) h = ⊎_elim (λ w. inl w) (λ w. inr (inr w)) h

-- STRICTLY WITH 24 BESIDE THEM
pub strict-method-number : (s : List ℕ) → StrictMethodNumber s (read_method_strict s)
unfolding read_method_strict
strict-method-number s = judged-number s (read_method s) (method-number s)
