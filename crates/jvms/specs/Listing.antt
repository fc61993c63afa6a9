-- Reading the parameters of a method: it lists exactly the derived ones, each where its first byte stands.
use Rattle.std.specs.Prelude.{◌≡◌, refl, Bool, true, false, ℕ, zero, suc, ◌+◌, ◌-◌, ◌≤◌, ◌<◌, eqb, leb, length, take, drop, get_or}
use Rattle.std.proofs.Common.{sym, ap, ◌∙◌, subst, add-zero, zero-add, arith, length-append, length-drop, drop-drop, drop-cons, get_or-drop, eqb-true, ne_eqb, leb-false}
use mathlib.Core.List.Memᴰ
use mathlib.Core.List.{List, [], ◌∷◌, ◌++◌, Memᴰ, append_assoc}
use Rattle.std.proofs.Math.Option.{some}
use Rattle.std.proofs.Math.Seq.{take-append_seam, drop-append_seam}
use Rattle.std.proofs.lemmas.Bool.{lt-leb}
use Rattle.descriptor.specs.declared.Base.{Base}
use Rattle.descriptor.specs.Read.{Read, Found, Refused, read_type}
use Rattle.methods.specs.Method.{Params, Listed, Stopped, Method, Whole, Broken, pick_p, before, onward, read_params, strict_params}
use Rattle.jvms.specs.Jvms.{JavaType, dimensions, AnyName, FieldType, Parameter, Parameters, Parameters.none, Parameters.more}
use Rattle.jvms.specs.Meaning.{type_at, type_read, up_to, parameters_at, placed, starts, ends}
use Rattle.jvms.specs.Prefix.{prefix, Stop, sound}
use Rattle.jvms.specs.Derive.{first-byte, strict_type, AllStrict}
use Rattle.jvms.specs.Ends.{stands, strict-keeps, strict-drops}

-- every parameter has at most 255 dimensions
abbrev pub Low : List Parameter → Type 0
Low ps = (p : Parameter) → Memᴰ p ps → dimensions p.type ≤ 255

-- ---- places

-- the bytes after the first ones of those at `at`
pub step-on : (s xs ys : List ℕ) (at : ℕ) → drop at s ≡ xs ++ ys → drop (at + length xs) s ≡ ys
step-on s xs ys at e = sym (drop-drop (length xs) at s) ∙ ap (drop (length xs)) e ∙ drop-append_seam xs ys

-- what stands at `at` stands inside
pub inside : (s : List ℕ) (b : ℕ) (bs : List ℕ) (at : ℕ) → drop at s ≡ b ∷ bs → (at < length s) × (get_or s at 0 ≡ b)
inside s b bs at e =
    let size : suc (length bs) ≡ length s - at = sym (ap length e) ∙ length-drop at s in
    let here : get_or s (at + 0) 0 ≡ b = sym (get_or-drop at s 0 0) ∙ ap (λ (l : List ℕ). get_or l 0 0) e in
    (omega arith, rw add-zero at here)

-- THE PARAMETERS END AFTER THEIR BYTES
pub ends-at : {Name : List ℕ → Type 0} {xs : List ℕ} {ps : List Parameter} → Parameters Name xs ps → (at : ℕ) → ends at ps ≡ at + length xs
unfolding ends
ends-at none at = omega arith
ends-at (more {bs} {rest} f l) at = rw (ends-at l (at + length bs), length-append) (omega arith)

-- each parameter has a byte
pub few : {Name : List ℕ → Type 0} {xs : List ℕ} {ps : List Parameter} → Parameters Name xs ps → length ps ≤ length xs
few none = omega arith
few (more {bs} {rest} f l) =
    let h = first-byte f in
    let n = ap length h.2 in
    rw length-append (omega (arith, few l))

-- ---- the derived parameters are listed

-- A PARAMETER IS READ WHERE IT STANDS
pub parameter-read : {bs : List ℕ} {t : JavaType} → FieldType AnyName bs t → (s rest : List ℕ) (at : ℕ) → drop at s ≡ bs ++ rest → dimensions t ≤ 255
    → read_type (drop at s) at false 0 ≡ Found (dimensions t) (placed at t) (at + length bs)
parameter-read f s rest at e h = rw (e, prefix f rest at false 0 (omega arith), zero-add)

-- FOR ITS TYPE
parameter-type : {bs : List ℕ} {t : JavaType} → FieldType AnyName bs t → (s rest : List ℕ) (at : ℕ) → drop at s ≡ bs ++ rest → dimensions t ≤ 255
    → type_read s (read_type (drop at s) at false 0) ≡ some t
unfolding type_read
parameter-type f s rest at e h = ap (type_read s) (parameter-read f s rest at e h) ∙ ap some (stands f s rest at e)

-- THE DERIVED PARAMETERS ARE LISTED, EACH WHERE IT STANDS
pub list-found : {xs : List ℕ} {ps : List Parameter} → Parameters AnyName xs ps → (turns : ℕ) (s rest : List ℕ) (at count : ℕ) → drop at s ≡ xs ++ 41 ∷ rest
    → length ps < turns → count + length ps ≤ 255 → Low ps → read_params turns s at count ≡ Listed (starts at ps) (ends at ps)
unfolding read_params starts ends
list-found none zero s rest at count e more-turns room low = absurd (let z : ⊥ = omega arith in z)
list-found none (suc turns) s rest at count e more-turns room low =
    let here = inside s 41 rest at e in
    rw (lt-leb (length s) at here.0, here.1)
list-found (more f l) zero s rest at count e more-turns room low = absurd (let z : ⊥ = omega arith in z)
list-found (more {bs} {rest = ys} {t} {ps} f l) (suc turns) s rest at count e more-turns room low =
    let split : drop at s ≡ bs ++ (ys ++ 41 ∷ rest) = e ∙ append_assoc bs ys (41 ∷ rest) in
    let begin = first-byte f in
    let here = inside s begin.0 (begin.1 ++ (ys ++ 41 ∷ rest)) at (split ∙ ap (λ (x : List ℕ). x ++ (ys ++ 41 ∷ rest)) begin.2) in
    let lower : Low ps = λ p m. low p (Memᴰ.tail m) in
    let others = list-found l turns s rest (at + length bs) (count + 1) (step-on s bs (ys ++ 41 ∷ rest) at split) (omega arith) (omega arith) lower in
    rw (
      lt-leb (length s) at here.0,
      here.1,
      ne_eqb begin.0 41 begin.4,
      lt-leb 255 count (omega arith),
      parameter-read f s (ys ++ 41 ∷ rest) at split (low (record { bytes = bs; type = t }) (Memᴰ.head refl)),
      others,
    )

-- ---- what is listed was derived

-- the parameters from the offset `at` of s up to a ')', after `count` others, and what is listed for them
pub record Listing (s : List ℕ) (at count : ℕ) (offsets : List ℕ) (close : ℕ) : Type 0 where
  pub bytes : List ℕ
  pub rest : List ℕ
  pub params : List Parameter
  pub whole : drop at s ≡ bytes ++ 41 ∷ rest
  pub derived : Parameters AnyName bytes params
  pub low : Low params
  pub room : count + length params ≤ 255
  pub started : offsets ≡ starts at params
  pub ended : close ≡ ends at params

-- a parameter before others
one-more : {s : List ℕ} {at count : ℕ} {dims : ℕ} {b : Base} {next : ℕ} {offsets : List ℕ} {close : ℕ} → Stop false (drop at s) at 0 dims b next
    → Listing s next (count + 1) offsets close → Listing s at count (at ∷ offsets) close
unfolding starts ends
one-more {s} {at} {offsets} {close} r l = record {
  bytes = r.bytes ++ l.bytes;
  rest = l.rest;
  params = record { bytes = r.bytes; type = r.type } ∷ l.params;
  whole = r.whole ∙ ap (λ (x : List ℕ). r.bytes ++ x) behind ∙ sym (append_assoc r.bytes l.bytes (41 ∷ l.rest));
  derived = more r.taken l.derived;
  low = within;
  room = omega (arith, l.room);
  started = ap (λ (x : List ℕ). at ∷ x) (l.started ∙ ap (λ (n : ℕ). starts n l.params) r.stop);
  ended = l.ended ∙ ap (λ (n : ℕ). ends n l.params) r.stop;
}
  where
    behind : r.rest ≡ l.bytes ++ 41 ∷ l.rest
    behind = sym (step-on s r.bytes r.rest at r.whole) ∙ ap (λ (n : ℕ). drop n s) (sym r.stop) ∙ l.whole

    within : Low (record { bytes = r.bytes; type = r.type } ∷ l.params)
    within p (Memᴰ.head e) = subst (λ (q : Parameter). dimensions q.type ≤ 255) (sym e) (omega (arith, r.depth, r.limit))
    within p (Memᴰ.tail m) = l.low p m

-- a refusal is no list
stopped : {code o byte close : ℕ} {offsets : List ℕ} → Stopped code o byte ≡ Listed offsets close → ⊥
stopped e = let z : ◌≡◌ {A = ℕ} 0 1 = cc in omega arith

-- what is listed was not refused before
passed : (t : Bool) (code o byte : ℕ) (r : Params) {offsets : List ℕ} {close : ℕ} → pick_p t (Stopped code o byte) r ≡ Listed offsets close
    → (t ≡ false) × (r ≡ Listed offsets close)
passed true code o byte r e = absurd (stopped e)
passed false code o byte r e = (refl, e)

-- at the ')'
no-more : (s : List ℕ) (at count : ℕ) → count ≤ 255 → at < length s → get_or s at 0 ≡ 41 → Listing s at count [] at
unfolding starts ends
no-more s at count h l e = record {
  bytes = [];
  rest = drop (suc at) s;
  params = [];
  whole = rw (drop-cons s at 0 l, e);
  derived = none;
  low = λ p m. absurd (Memᴰ.not-nil m);
  room = omega arith;
  started = refl;
  ended = refl;
}

-- THE PARAMETERS THAT ARE LISTED STAND THERE
pub list-sound : (turns : ℕ) (s : List ℕ) (at count : ℕ) (offsets : List ℕ) (close : ℕ) → count ≤ 255 → read_params turns s at count ≡ Listed offsets close
    → Listing s at count offsets close
unfolding read_params
list-sound zero s at count offsets close h e = absurd (stopped e)
list-sound (suc turns) s at count offsets close h e =
    let p = passed (leb (length s) at) 17 at 0 (pick_p (eqb (get_or s at 0) 41) (Listed [] at) further) e in
    here (leb-false (length s) at p.0) (eqb (get_or s at 0) 41) refl p.1 (λ next os. list-sound turns s next (count + 1) os close)
  where
    next-list : ℕ → Params
    next-list next = read_params turns s next (count + 1)

    further : Params
    further = pick_p (leb 255 count) (Stopped 19 at 0) (onward at next-list (read_type (drop at s) at false 0))

    Later : Type 0
    Later = (next : ℕ) (os : List ℕ) → count + 1 ≤ 255 → next-list next ≡ Listed os close → Listing s next (count + 1) os close

    listed : count < 255 → (dims : ℕ) (b : Base) (next : ℕ) → Stop false (drop at s) at 0 dims b next → (y : Params) → next-list next ≡ y → before at y ≡ Listed offsets close
        → Later → Listing s at count offsets close
    listed l dims b next r (Listed os c) q f later =
        let q' : next-list next ≡ Listed os close = q ∙ ap (Listed os) (let z : c ≡ close = cc in z) in
        subst (λ (x : List ℕ). Listing s at count x close) (let z : at ∷ os ≡ offsets = cc in z) (one-more r (later next os (omega arith) q'))
    listed l dims b next r (Stopped code o byte) q f later = absurd (stopped f)

    read : count < 255 → (x : Read) → read_type (drop at s) at false 0 ≡ x → onward at next-list x ≡ Listed offsets close → Later → Listing s at count offsets close
    read l (Found dims b next) q f later = listed l dims b next (sound (drop at s) at false 0 dims b next (omega arith) q) (next-list next) refl f later
    read l (Refused code o byte) q f later = absurd (stopped f)

    here : at < length s → (t : Bool) → eqb (get_or s at 0) 41 ≡ t → pick_p t (Listed [] at) further ≡ Listed offsets close → Later → Listing s at count offsets close
    here l true q f later =
        let now = no-more s at count h l (eqb-true (get_or s at 0) 41 q) in
        subst (λ (x : List ℕ). Listing s at count x close) (let z : [] ≡ offsets = cc in z) (subst (Listing s at count []) (let z : at ≡ close = cc in z) now)
    here l false q f later =
        let p = passed (leb 255 count) 19 at 0 (onward at next-list (read_type (drop at s) at false 0)) f in
        read (leb-false 255 count p.0) (read_type (drop at s) at false 0) refl p.1 later

-- ---- the offsets stand for the parameters

-- the first of the parameters' offsets, or else the ')', is where they begin
up-to : (at : ℕ) (ps : List Parameter) → up_to (starts at ps) (ends at ps) ≡ at
unfolding starts ends
up-to at [] = refl
up-to at (p ∷ ps) = refl

-- BY THEIR OFFSETS THE DERIVED PARAMETERS ARE FOUND AGAIN
pub list-stands : {xs : List ℕ} {ps : List Parameter} → Parameters AnyName xs ps → (s rest : List ℕ) (at : ℕ) → drop at s ≡ xs ++ rest → Low ps
    → parameters_at s (starts at ps) (ends at ps) ≡ some ps
unfolding parameters_at starts ends
list-stands none s rest at e low = refl
list-stands (more {bs} {rest = ys} {t} {ps} f l) s rest at e low =
    let split : drop at s ≡ bs ++ (ys ++ rest) = e ∙ append_assoc bs ys rest in
    let others = list-stands l s rest (at + length bs) (step-on s bs (ys ++ rest) at split) (λ p m. low p (Memᴰ.tail m)) in
    let size : at + length bs - at ≡ length bs = omega arith in
    let own : take (length bs) (drop at s) ≡ bs = ap (take (length bs)) split ∙ take-append_seam bs (ys ++ rest) in
    let typed = parameter-type f s (ys ++ rest) at split (low (record { bytes = bs; type = t }) (Memᴰ.head refl)) in
    rw (up-to (at + length bs) ps, size, own, typed, others)

-- ---- strict reading

-- a refusal is no method
pub broken : {code o byte at : ℕ} {offsets : List ℕ} {r : Read} → Broken code o byte ≡ Whole offsets at r → ⊥
broken e = let z : ◌≡◌ {A = ℕ} 0 1 = cc in omega arith

-- PARAMETERS WITH STRICT NAMES STAY
pub strict-list-keeps : {xs : List ℕ} {ps : List Parameter} → Parameters AnyName xs ps → (s rest : List ℕ) (at : ℕ) (m : Method) → drop at s ≡ xs ++ rest → Low ps
    → AllStrict ps → strict_params s (starts at ps) m ≡ m
unfolding strict_params starts
strict-list-keeps none s rest at m e low strict = refl
strict-list-keeps (more {bs} {rest = ys} {t} {ps} f l) s rest at m e low strict =
    let split : drop at s ≡ bs ++ (ys ++ rest) = e ∙ append_assoc bs ys rest in
    let read = parameter-read f s (ys ++ rest) at split (low (record { bytes = bs; type = t }) (Memᴰ.head refl)) in
    let good = ap strict_type (stands f s (ys ++ rest) at split) ∙ strict (record { bytes = bs; type = t }) (Memᴰ.head refl) in
    let lower : Low ps = λ p i. low p (Memᴰ.tail i) in
    let others = strict-list-keeps l s rest (at + length bs) m (step-on s bs (ys ++ rest) at split) lower (λ p i. strict p (Memᴰ.tail i)) in
    rw (read, strict-keeps s (dimensions t) (placed at t) (at + length bs) good) others

-- IF A METHOD IS LEFT, ITS PARAMETERS' NAMES ARE STRICT
pub strict-list-left : {xs : List ℕ} {ps : List Parameter} → Parameters AnyName xs ps → (s rest : List ℕ) (at : ℕ) (m : Method) → drop at s ≡ xs ++ rest → Low ps
    → (offsets : List ℕ) (o : ℕ) (r : Read) → strict_params s (starts at ps) m ≡ Whole offsets o r → AllStrict ps × (m ≡ Whole offsets o r)
unfolding strict_params starts
strict-list-left none s rest at m e low offsets o r q = (λ p i. absurd (Memᴰ.not-nil i), q)
strict-list-left (more {bs} {rest = ys} {t} {ps} f l) s rest at m e low offsets o r q =
    by (strict_type t) refl (λ left. strict-list-left l s rest (at + length bs) m (step-on s bs (ys ++ rest) at split) lower offsets o r left)
  where
    lower : Low ps
    lower p i = low p (Memᴰ.tail i)

    split : drop at s ≡ bs ++ (ys ++ rest)
    split = e ∙ append_assoc bs ys rest

    read : read_type (drop at s) at false 0 ≡ Found (dimensions t) (placed at t) (at + length bs)
    read = parameter-read f s (ys ++ rest) at split (low (record { bytes = bs; type = t }) (Memᴰ.head refl))

    same : strict_type (type_at s (dimensions t) (placed at t)) ≡ strict_type t
    same = ap strict_type (stands f s (ys ++ rest) at split)

    all : strict_type t ≡ true → AllStrict ps → AllStrict (record { bytes = bs; type = t } ∷ ps)
    all one others p (Memᴰ.head i) = ap (λ (x : Parameter). strict_type x.type) i ∙ one
    all one others p (Memᴰ.tail i) = others p i

    by : (test : Bool) → strict_type t ≡ test → (strict_params s (starts (at + length bs) ps) m ≡ Whole offsets o r → AllStrict ps × (m ≡ Whole offsets o r))
        → AllStrict (record { bytes = bs; type = t } ∷ ps) × (m ≡ Whole offsets o r)
    by true one ih =
        let others = ih (rw (read, strict-keeps s (dimensions t) (placed at t) (at + length bs) (same ∙ one)) at q) in
        (all one others.0, others.1)
    by false one ih =
        let drops = strict-drops s (dimensions t) (placed at t) (at + length bs) (same ∙ one) in
        absurd (broken (rw (read, drops.1) at q))
