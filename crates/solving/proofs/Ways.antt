-- WHAT AN ANSWER OF resolve_state IS, whatever the state: it is concrete, it is assignable to every upper bound or both are references,
-- and it comes from the first way that answers; a cause that a way names holds.
use Rattle.std.specs.Prelude.{◌≡◌, refl, Bool, true, false, cond, ◌⊎◌, ℕ}
use Rattle.std.proofs.Common.{sym, ap, ◌∙◌, subst, inr, ⊎_elim, arith}
use mathlib.Core.List.Memᴰ
use mathlib.Core.List.{List, [], ◌∷◌, Memᴰ}
use Rattle.std.proofs.Math.Logic.{inl}
use Rattle.std.proofs.Math.Option.{Option, some, none}
use Rattle.ty.specs.Types.{ArgType, is_concrete, concrete_hint, compare}
use Rattle.lattice.specs.Lattice.{World, is_assignable, producer_bound_compatible, join_all, most_specific_upper}
use Rattle.lattice.specs.References.{compatible-or}
use Rattle.lattice.specs.Hints.{hint-concrete, specific-concrete, specific-assignable}
use Rattle.solving.proofs.OrderedLaws.{insert-only}
use Rattle.solving.specs.Solving.{TypeState, produced_type, or_else, only_concrete, Cause, NoCandidate, Fails, TwoCandidates, Tried, Answer, Because, first_failing, domain_cause, judged, tried, evidence_fits, upper_candidate, evidence_cast, fallback_join, hint_of, hints_of, only_one, domain_hint, ways, first_answer, resolve_state, Upper, Lower, Exact}
use Rattle.solving.specs.Ways.{Fitting, First, FirstAnswer, FirstAnswer.here, FirstAnswer.later}

-- ---- what may be missing

none-some : {A : Type 0} (x : A) → none ≡ some x → ⊥
none-some x h = let z : ◌≡◌ {A = ℕ} 0 1 = cc in omega arith

because-answer : (c : Cause) (t : ArgType) → Because c ≡ Answer t → ⊥
because-answer c t h = let z : ◌≡◌ {A = ℕ} 0 1 = cc in omega arith

else-none : {A : Type 0} (a b : Option A) → or_else a b ≡ none → (a ≡ none) × (b ≡ none)
else-none none b h = (refl, h)
else-none (some x) b h = absurd (none-some x (sym h))

only-concrete : (o : Option ArgType) (t : ArgType) → only_concrete o ≡ some t → (o ≡ some t) × (is_concrete t ≡ true)
only-concrete none t h = absurd (none-some t h)
only-concrete (some x) t h = go (is_concrete x) refl h
  where
    go : (b : Bool) → is_concrete x ≡ b → cond b (some x) none ≡ some t → (some x ≡ some t) × (is_concrete t ≡ true)
    go true e k = (k, ap is_concrete (let r : t ≡ x = cc in r) ∙ e)
    go false e k = absurd (none-some t k)

-- ---- tests

-- NOTHING FAILS: every type passes
pub none-failing : (kind : ℕ) (test : ArgType → Bool) (ts : List ArgType) → first_failing kind test ts ≡ none → (t : ArgType) → Memᴰ t ts → test t ≡ true
unfolding first_failing
none-failing kind test [] h t m = absurd (Memᴰ.not-nil m)
none-failing kind test (x ∷ ts) h t m = go (test x) refl h (none-failing kind test ts)
  where
    go : (b : Bool) → test x ≡ b → cond b (first_failing kind test ts) (some (Fails kind x)) ≡ none
        → (first_failing kind test ts ≡ none → (u : ArgType) → Memᴰ u ts → test u ≡ true) → test t ≡ true
    go true e k ih = ⊎_elim (λ q. ap test q ∙ e) (ih k t) (Memᴰ.cases_cons m)
    go false e k ih = absurd (none-some (Fails kind x) (sym k))

pub first-failing : (kind : ℕ) (test : ArgType → Bool) (ts : List ArgType) (c : Cause) → first_failing kind test ts ≡ some c → (t : ArgType) × (c ≡ Fails kind t) × First test ts t
unfolding first_failing
first-failing kind test [] c h = absurd (none-some c h)
first-failing kind test (x ∷ ts) c h = go (test x) refl h (first-failing kind test ts c)
  where
    go : (b : Bool) → test x ≡ b → cond b (first_failing kind test ts) (some (Fails kind x)) ≡ some c
        → (first_failing kind test ts ≡ some c → (t : ArgType) × (c ≡ Fails kind t) × First test ts t) → (t : ArgType) × (c ≡ Fails kind t) × First test (x ∷ ts) t
    go true e k ih =
        let r = ih k in
        (r.0, r.1, (x ∷ r.2.0, r.2.1, ap (λ (l : List ArgType). x ∷ l) r.2.2, r.2.3, λ u m. ⊎_elim (λ q. ap test q ∙ e) (r.2.4 u) (Memᴰ.cases_cons m)))
    go false e k ih = (x, let q : c ≡ Fails kind x = cc in q, ([], ts, refl, e, λ u m. absurd (Memᴰ.not-nil m)))

-- a candidate that answers, passed
judged-answer : (x t : ArgType) (o : Option Cause) → judged x o ≡ Answer t → (x ≡ t) × (o ≡ none)
judged-answer x t none h = (let q : x ≡ t = cc in q, refl)
judged-answer x t (some c) h = absurd (because-answer c t h)

tried-answer : (o : Option ArgType) (test : ArgType → Option Cause) (t : ArgType) → tried o test ≡ Answer t → (o ≡ some t) × (test t ≡ none)
tried-answer none test t h = absurd (because-answer NoCandidate t h)
tried-answer (some x) test t h =
    let r = judged-answer x t (test x) h in
    (ap some r.0, ap test (sym r.0) ∙ r.1)

one-answer : (hs : List ArgType) (test : ArgType → Option Cause) (t : ArgType) → only_one hs test ≡ Answer t → (hs ≡ t ∷ []) × (test t ≡ none)
one-answer [] test t h = absurd (because-answer NoCandidate t h)
one-answer (x ∷ []) test t h =
    let r = judged-answer x t (test x) h in
    (ap (λ (y : ArgType). y ∷ []) r.0, ap test (sym r.0) ∙ r.1)
one-answer (x ∷ y ∷ hs) test t h = absurd (because-answer TwoCandidates t h)

-- the hints of a domain are concrete
hints-concrete : (object : ℕ) (ts : List ArgType) (u : ArgType) → Memᴰ u (hints_of object ts) → is_concrete u ≡ true
unfolding hints_of
hints-concrete object [] u m = absurd (Memᴰ.not-nil m)
hints-concrete object (t ∷ ts) u m = go (concrete_hint object t) refl m (hints-concrete object ts u)
  where
    go : (o : Option ArgType) → concrete_hint object t ≡ o → Memᴰ u (hint_of o (hints_of object ts)) → (Memᴰ u (hints_of object ts) → is_concrete u ≡ true) → is_concrete u ≡ true
    go none e n ih = ih n
    go (some x) e n ih = ⊎_elim (λ q. ap is_concrete q ∙ hint-concrete object t x e) ih (insert-only compare x u (hints_of object ts) n)

-- ---- each way

module _ (w : World) (s : TypeState) (t : ArgType) where
  -- what every way sees to
  abbrev pub Sound : Type 0
  Sound = (is_concrete t ≡ true) × ((u : ArgType) → Memᴰ u s.upper → Fitting w t u)

  by-assignable : (test : Option Cause) → or_else (first_failing Upper (is_assignable w t) s.upper) test ≡ none → (u : ArgType) → Memᴰ u s.upper → Fitting w t u
  by-assignable test h u m = inl (none-failing Upper (is_assignable w t) s.upper (else-none (first_failing Upper (is_assignable w t) s.upper) test h).0 u m)

  fits-sound : evidence_fits w s ≡ Answer t → Sound
  unfolding evidence_fits
  fits-sound h =
      let r = tried-answer (only_concrete (produced_type w s)) (λ ty. first_failing Upper (is_assignable w ty) s.upper) t h in
      ((only-concrete (produced_type w s) t r.0).1, λ u m. inl (none-failing Upper (is_assignable w t) s.upper r.1 u m))

  upper-sound : upper_candidate w s ≡ Answer t → Sound
  unfolding upper_candidate
  upper-sound h =
      let r = tried-answer (most_specific_upper w s.upper)
      (λ candidate.
      or_else (first_failing Lower (λ b. producer_bound_compatible w b candidate) s.lower)
      (or_else (first_failing Exact (λ b. producer_bound_compatible w b candidate) s.exact) (domain_cause s.domain candidate))) t h in
      (specific-concrete w s.upper t r.0, λ u m. inl (specific-assignable w s.upper t r.0 u m))

  cast-sound : evidence_cast w s ≡ Answer t → Sound
  unfolding evidence_cast
  cast-sound h =
      let r = tried-answer (only_concrete (produced_type w s))
      (λ ty. or_else (first_failing Upper (producer_bound_compatible w ty) s.upper) (domain_cause s.domain ty)) t h in
      ((only-concrete (produced_type w s) t r.0).1, λ u m. compatible-or w t u (none-failing Upper (producer_bound_compatible w t) s.upper (else-none (first_failing Upper (producer_bound_compatible w t) s.upper) (domain_cause s.domain t) r.1).0 u m))

  fallback-sound : fallback_join w s ≡ Answer t → Sound
  unfolding fallback_join
  fallback-sound h =
      let r = tried-answer (only_concrete (join_all w s.fallback))
      (λ candidate. or_else (first_failing Upper (is_assignable w candidate) s.upper) (domain_cause s.domain candidate)) t h in
      ((only-concrete (join_all w s.fallback) t r.0).1, by-assignable (domain_cause s.domain t) r.1)

  hint-sound : domain_hint w s ≡ Answer t → Sound
  unfolding domain_hint
  hint-sound h =
      let r = one-answer (hints_of w.object s.domain) (λ candidate. first_failing Upper (is_assignable w candidate) s.upper) t h in
      (hints-concrete w.object s.domain t (subst (λ (l : List ArgType). Memᴰ t l) (sym r.0) (Memᴰ.head refl)), λ u m. inl (none-failing Upper (is_assignable w t) s.upper r.1 u m))

first-answer : (tries : List Tried) (t : ArgType) → first_answer tries ≡ some t → FirstAnswer t tries
unfolding first_answer
first-answer [] t h = absurd (none-some t h)
first-answer (Answer x ∷ rest) t h = subst (λ (y : ArgType). FirstAnswer t (Answer y ∷ rest)) (let q : t ≡ x = cc in q) here
first-answer (Because c ∷ rest) t h = later (first-answer rest t h)

-- that way is among the ways
answer-member : {t : ArgType} {tries : List Tried} → FirstAnswer t tries → Memᴰ (Answer t) tries
answer-member here = Memᴰ.head refl
answer-member (later r) = Memᴰ.tail (answer-member r)

-- THE WAY NAMED IS THE ONE THAT ANSWERS
pub answer-way : (w : World) (s : TypeState) (t : ArgType) → resolve_state w s ≡ some t → FirstAnswer t (ways w s)
unfolding resolve_state
answer-way w s t h = first-answer (ways w s) t h

answer-sound : (w : World) (s : TypeState) (t : ArgType) → resolve_state w s ≡ some t → Sound w s t
unfolding ways
answer-sound w s t h = first (Memᴰ.cases_cons (answer-member (answer-way w s t h)))
  where
    fifth : (Answer t ≡ domain_hint w s) ⊎ Memᴰ (Answer t) [] → Sound w s t
    fifth (inl e) = hint-sound w s t (sym e)
    fifth (inr m) = absurd (Memᴰ.not-nil m)

    fourth : (Answer t ≡ fallback_join w s) ⊎ Memᴰ (Answer t) (domain_hint w s ∷ []) → Sound w s t
    fourth (inl e) = fallback-sound w s t (sym e)
    fourth (inr m) = fifth (Memᴰ.cases_cons m)

    third : (Answer t ≡ evidence_cast w s) ⊎ Memᴰ (Answer t) (fallback_join w s ∷ domain_hint w s ∷ []) → Sound w s t
    third (inl e) = cast-sound w s t (sym e)
    third (inr m) = fourth (Memᴰ.cases_cons m)

    second : (Answer t ≡ upper_candidate w s) ⊎ Memᴰ (Answer t) (evidence_cast w s ∷ fallback_join w s ∷ domain_hint w s ∷ []) → Sound w s t
    second (inl e) = upper-sound w s t (sym e)
    second (inr m) = third (Memᴰ.cases_cons m)

    first : (Answer t ≡ evidence_fits w s) ⊎ Memᴰ (Answer t) (upper_candidate w s ∷ evidence_cast w s ∷ fallback_join w s ∷ domain_hint w s ∷ []) → Sound w s t
    first (inl e) = fits-sound w s t (sym e)
    first (inr m) = second (Memᴰ.cases_cons m)

-- AN ANSWER IS CONCRETE
pub answer-concrete : (w : World) (s : TypeState) (t : ArgType) → resolve_state w s ≡ some t → is_concrete t ≡ true
answer-concrete w s t h = (answer-sound w s t h).0

-- AND FITS EVERY UPPER BOUND
pub answer-fits : (w : World) (s : TypeState) (t : ArgType) → resolve_state w s ≡ some t → (u : ArgType) → Memᴰ u s.upper → Fitting w t u
answer-fits w s t h = (answer-sound w s t h).1
