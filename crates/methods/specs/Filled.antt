-- What reading a method leaves, as the code goes: the answer and the parameter slice, from a parameter on.
use Rattle.std.specs.Prelude.{◌≡◌, Bool, false, ℕ, suc, ◌+◌, ◌≤◌, ◌<◌, eqb, length, take, drop, get_or, set}
use Rattle.std.proofs.Math.Path.{refl, ap}
use Rattle.std.proofs.Common.{sym, ap₂, ◌∙◌, zero-add, add-zero, add-one, arith, take-append-drop, take-suc, length-take-le, ne_eqb}
use Rattle.std.proofs.Math.Bool.{true}
use mathlib.Core.List.{List, [], ◌∷◌, ◌++◌, append_assoc}
use Rattle.std.proofs.lemmas.List.{set_at}
use Rattle.methods.specs.Strict.{first_bad, closing}
use Rattle.descriptor.specs.declared.Base.{Base}
use Rattle.descriptor.specs.Read.{Read, Found, Refused, read_type, finish}
use Rattle.methods.specs.Answers.{MethodRead, found_method, refused_method, answer_of, method_answer, params_after, method_of}
use Rattle.methods.specs.Method.{Method, Whole, Broken, returns}
use Rattle.methods.specs.Params.{judged_all, method_from, ending, also, closing-judged, Proper, proper-from, method-end, method-close, method-full, method-refused, method-more, method-short, method-unopened, method-opened}

-- ---- the answer and the slice, after `count` parameters

unfoldable pub answer_from : ℕ → Method → MethodRead
answer_from count (Whole offsets at result) = answer_of (count + length offsets) at result
answer_from count (Broken code at byte) = refused_method code at byte

unfoldable pub put_from : ℕ → List ℕ → Method → List ℕ
put_from count params (Whole offsets at result) = take count params ++ (offsets ++ drop (count + length offsets) params)
put_from count params (Broken code at byte) = params

answer-whole : (m : Method) → answer_from 0 m ≡ method_answer m
unfolding answer_from method_answer
answer-whole (Whole offsets at result) = ap (λ (n : ℕ). answer_of n at result) (zero-add (length offsets))
answer-whole (Broken code at byte) = refl

put-whole : (params : List ℕ) (m : Method) → put_from 0 params m ≡ params_after params m
unfolding put_from params_after
put-whole params (Whole offsets at result) = ap (λ (n : ℕ). offsets ++ drop n params) (zero-add (length offsets))
put-whole params (Broken code at byte) = refl

answer-also : (count at : ℕ) (m : Method) → answer_from (count + 1) m ≡ answer_from count (also at m)
unfolding answer_from
answer-also count at (Whole offsets o result) = ap (λ (n : ℕ). answer_of n o result) (let e : count + 1 + length offsets ≡ count + suc (length offsets) = omega arith in e)
answer-also count at (Broken code o byte) = refl

abbrev pub pick_l : Bool → List ℕ → List ℕ → List ℕ
pick_l true a b = a
pick_l false a b = b

-- the offset `at` is written before those that follow it
put-also : (count at : ℕ) (params : List ℕ) (m : Method) → count < length params → Proper m
    → pick_l (eqb (answer_from (count + 1) m).refusal 0) (set (put_from (count + 1) params m) count at) (put_from (count + 1) params m) ≡ put_from count params (also at m)
unfolding answer_from put_from
put-also count at params (Whole offsets o (Found d base next)) h p =
    let rest = offsets ++ drop (count + 1 + length offsets) params in
    ap (λ (l : List ℕ). set (l ++ rest) count at) (ap (λ (n : ℕ). take n params) (add-one count) ∙ take-suc params count 0 h)
    ∙ ap (λ (l : List ℕ). set l count at) (append_assoc (take count params) (get_or params count 0 ∷ []) rest)
    ∙ set_at (take count params) (get_or params count 0) rest at count (length-take-le count params (omega arith))
    ∙ ap (λ (n : ℕ). take count params ++ (at ∷ (offsets ++ drop n params))) (let e : count + 1 + length offsets ≡ count + suc (length offsets) = omega arith in e)
put-also count at params (Whole offsets o (Refused code q byte)) h p = absurd p
put-also count at params (Broken code o byte) h p = rw (ne_eqb code 0 p)

-- the answer r and the slice e for the method m, after `count` parameters
abbrev pub Left : ℕ → List ℕ → Method → MethodRead → List ℕ → Type 0
Left count params m r e = (r ≡ answer_from count m) × (e ≡ put_from count params m)

pub left-same : (count : ℕ) (params : List ℕ) (m m' : Method) (r : MethodRead) (e : List ℕ) → m ≡ m' → Left count params m r e → Left count params m' r e
left-same count params m m' r e f l = (l.0 ∙ ap (answer_from count) f, l.1 ∙ ap (put_from count params) f)

left-broken : (count : ℕ) (params : List ℕ) (code at byte : ℕ) (m : Method) → Broken code at byte ≡ m → Left count params m (refused_method code at byte) params
unfolding answer_from put_from
left-broken count params code at byte m e = (ap (answer_from count) e, ap (put_from count params) e)

-- the offset `at` goes before what a call left for the rest
left-also : (count at : ℕ) (params : List ℕ) (m : Method) (r : MethodRead) (e : List ℕ) → count < length params → Proper m → Left (count + 1) params m r e
    → Left count params (also at m) r (pick_l (eqb r.refusal 0) (set e count at) e)
left-also count at params m r e h p l =
    (l.0 ∙ answer-also count at m, ap₂ (λ (r : MethodRead) (e : List ℕ). pick_l (eqb r.refusal 0) (set e count at) e) l.0 l.1 ∙ put-also count at params m h p)

-- ---- the return type

module _ (s : List ℕ) (strict : Bool) (bad close count : ℕ) where
  pub answer-ending : (f : Read) → f ≡ finish s (read_type (drop (close + 1) s) (close + 1) true 0)
      → answer_of count (close + 1) (closing s strict bad f) ≡ answer_from count (ending s strict bad close)
  unfolding ending returns answer_from
  answer-ending f e =
      go (closing s strict bad f) ∙ ap (answer_from count) (closing-judged s strict bad close f) ∙ ap (λ (r : Read). answer_from count (judged_all s strict bad (returns s [] close r))) e
    where
      go : (r : Read) → answer_of count (close + 1) r ≡ answer_from count (returns s [] close r)
      go (Found d base next) = ap (λ (n : ℕ). found_method n (close + 1) d base) (sym (add-zero count))
      go (Refused code o byte) = refl

  put-ending : (params : List ℕ) → params ≡ put_from count params (ending s strict bad close)
  unfolding ending returns put_from
  put-ending params = go (closing s strict bad r) ∙ ap (put_from count params) (closing-judged s strict bad close r)
    where
      r : Read
      r = finish s (read_type (drop (close + 1) s) (close + 1) true 0)

      go : (r : Read) → params ≡ put_from count params (returns s [] close r)
      go (Found d base next) = sym (ap (λ (n : ℕ). take count params ++ drop n params) (add-zero count) ∙ take-append-drop count params)
      go (Refused code o byte) = refl

-- ---- what each way out of the parameters' reader leaves

module _ (s : List ℕ) (strict : Bool) (bad at count : ℕ) (params : List ℕ) where
  pub left-end : length s ≤ at → Left count params (method_from s strict bad at count) (refused_method 17 at 0) params
  left-end h = left-broken count params 17 at 0 (method_from s strict bad at count) (method-end s strict bad at count h)

  module _ (h : at < length s) where
    pub left-close : get_or s at 0 ≡ 41 → Left count params (method_from s strict bad at count) (answer_from count (ending s strict bad at)) params
    left-close e =
        left-same count params (ending s strict bad at) (method_from s strict bad at count) (answer_from count (ending s strict bad at)) params
        (method-close s strict bad at count h e) (refl, put-ending s strict bad at count params)

    module _ (n : get_or s at 0 ≡ 41 → ⊥) where
      pub left-full : 255 ≤ count → Left count params (method_from s strict bad at count) (refused_method 19 at 0) params
      left-full l = left-broken count params 19 at 0 (method_from s strict bad at count) (method-full s strict bad at count h n l)

      module _ (l : count < 255) (t : Read) (r : t ≡ read_type (drop at s) at false 0) where
        pub left-refused : (code o byte : ℕ) → t ≡ Refused code o byte → Left count params (method_from s strict bad at count) (refused_method code o byte) params
        left-refused code o byte f =
            left-broken count params code o byte (method_from s strict bad at count) (method-refused s strict bad at count h n l t r code o byte f)

        pub left-more : (d : ℕ) (base : Base) (next : ℕ) → t ≡ Found d base next → 1 ≤ at → 255 ≤ length params
            → (worse : ℕ) → worse ≡ first_bad s strict bad t
            → (q : MethodRead) (e : List ℕ) → Left (count + 1) params (method_from s strict worse next (count + 1)) q e
            → Left count params (method_from s strict bad at count) q (pick_l (eqb q.refusal 0) (set e count at) e)
        left-more d base next f k p worse w q e o =
            let m = method_from s strict worse next (count + 1) in
            left-same count params (also at m) (method_from s strict bad at count) q (pick_l (eqb q.refusal 0) (set e count at) e)
            (ap (λ (b : ℕ). also at (method_from s strict b next (count + 1))) w ∙ method-more s strict bad at count h n l t r d base next f k)
            (left-also count at params m q e (omega arith) (proper-from s strict worse next (count + 1)) o)

-- ---- and the method reader

module _ (strict : Bool) (s params : List ℕ) where
  abbrev pub Whole-left : MethodRead → List ℕ → Type 0
  Whole-left r e = (r ≡ method_answer (method_of strict s (length params))) × (e ≡ params_after params (method_of strict s (length params)))

  broken : (code at byte : ℕ) → Broken code at byte ≡ method_of strict s (length params) → Whole-left (refused_method code at byte) params
  unfolding method_answer params_after
  broken code at byte e = (ap method_answer e, ap (params_after params) e)

  pub whole-short : length params < 255 → Whole-left (refused_method 22 0 0) params
  whole-short h = broken 22 0 0 (method-short strict s (length params) h)

  module _ (h : 255 ≤ length params) where
    pub whole-unopened : (0 < length s → get_or s 0 0 ≡ 40 → ⊥) → Whole-left (refused_method 16 0 0) params
    whole-unopened n = broken 16 0 0 (method-unopened strict s (length params) h n)

    pub whole-opened : get_or s 0 0 ≡ 40 → (r : MethodRead) (e : List ℕ) → Left 0 params (method_from s strict 0 1 0) r e → Whole-left r e
    whole-opened o r e l =
        let m = left-same 0 params (method_from s strict 0 1 0) (method_of strict s (length params)) r e (method-opened strict s (length params) h o) l in
        (m.0 ∙ answer-whole (method_of strict s (length params)), m.1 ∙ put-whole params (method_of strict s (length params)))
