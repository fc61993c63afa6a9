-- resolve_state in the words of the Rust, with its tests as conjunctions: what the five ways come to.
use Rattle.std.specs.Prelude.{◌≡◌, Bool, true, false, cond, ◌&&◌, ℕ}
use Rattle.std.proofs.Math.Path.{refl, ap}
use Rattle.std.proofs.Common.{ap₂, ◌∙◌}
use mathlib.Core.List.{List, [], ◌∷◌}
use Rattle.std.proofs.Math.Option.{Option, some, none}
use Rattle.ty.specs.Types.{ArgType}
use Rattle.lattice.specs.Lattice.{World, is_assignable, producer_bound_compatible, domain_accepts, join_all, assignable_to_all, most_specific_upper}
use Rattle.solving.specs.Solving.{TypeState, produced_type, or_else, only_concrete, Cause, Fails, OutsideDomain, Tried, first_failing, domain_cause, judged, tried, evidence_fits, upper_candidate, evidence_cast, fallback_join, hints_of, only_one, domain_hint, ways, first_answer, resolve_state, Upper, Lower, Exact}
use Rattle.solving.specs.Resolve.{passing, all_produce, produces_all, single, resolve, clear}

clear-else : (a b : Option Cause) → clear (or_else a b) ≡ (clear a && clear b)
clear-else none b = refl
clear-else (some c) b = refl

clear-domain : (domain : List ArgType) (t : ArgType) → clear (domain_cause domain t) ≡ domain_accepts domain t
unfolding domain_cause
clear-domain domain t = go (domain_accepts domain t)
  where
    go : (b : Bool) → clear (cond b none (some OutsideDomain)) ≡ b
    go true = refl
    go false = refl

clear-first : (kind : ℕ) (test : ArgType → Bool) (t : ArgType) (more : Option Cause) → clear (cond (test t) more (some (Fails kind t))) ≡ (test t && clear more)
clear-first kind test t more = go (test t)
  where
    go : (b : Bool) → clear (cond b more (some (Fails kind t))) ≡ (b && clear more)
    go true = refl
    go false = refl

module _ (w : World) where
  clear-assignable : (kind : ℕ) (t : ArgType) (us : List ArgType) → clear (first_failing kind (is_assignable w t) us) ≡ assignable_to_all w t us
  unfolding first_failing assignable_to_all
  clear-assignable kind t [] = refl
  clear-assignable kind t (u ∷ us) = clear-first kind (is_assignable w t) u (first_failing kind (is_assignable w t) us) ∙ ap (λ (b : Bool). is_assignable w t u && b) (clear-assignable kind t us)

  clear-produce : (kind : ℕ) (t : ArgType) (us : List ArgType) → clear (first_failing kind (producer_bound_compatible w t) us) ≡ produces_all w t us
  unfolding first_failing produces_all
  clear-produce kind t [] = refl
  clear-produce kind t (u ∷ us) =
      clear-first kind (producer_bound_compatible w t) u (first_failing kind (producer_bound_compatible w t) us) ∙ ap (λ (b : Bool). producer_bound_compatible w t u && b) (clear-produce kind t us)

  clear-produced : (kind : ℕ) (t : ArgType) (bs : List ArgType) → clear (first_failing kind (λ b. producer_bound_compatible w b t) bs) ≡ all_produce w bs t
  unfolding first_failing all_produce
  clear-produced kind t [] = refl
  clear-produced kind t (b ∷ bs) =
      clear-first kind (λ x. producer_bound_compatible w x t) b (first_failing kind (λ x. producer_bound_compatible w x t) bs)
      ∙ ap (λ (x : Bool). producer_bound_compatible w b t && x) (clear-produced kind t bs)

-- one way, then the rest
judged-first : (t : ArgType) (o : Option Cause) (rest : List Tried) → first_answer (judged t o ∷ rest) ≡ or_else (cond (clear o) (some t) none) (first_answer rest)
unfolding first_answer
judged-first t none rest = refl
judged-first t (some c) rest = refl

tried-first : (o : Option ArgType) (test : ArgType → Option Cause) (pass : ArgType → Bool) (rest : List Tried) → ((t : ArgType) → clear (test t) ≡ pass t)
    → first_answer (tried o test ∷ rest) ≡ or_else (passing o pass) (first_answer rest)
unfolding first_answer
tried-first none test pass rest f = refl
tried-first (some t) test pass rest f = judged-first t (test t) rest ∙ ap (λ (b : Bool). or_else (cond b (some t) none) (first_answer rest)) (f t)

one-first : (hs : List ArgType) (test : ArgType → Option Cause) (pass : ArgType → Bool) → ((t : ArgType) → clear (test t) ≡ pass t)
    → first_answer (only_one hs test ∷ []) ≡ passing (single hs) pass
unfolding first_answer
one-first [] test pass f = refl
one-first (t ∷ []) test pass f = judged-first t (test t) [] ∙ last (clear (test t)) ∙ ap (λ (b : Bool). cond b (some t) none) (f t)
  where
    last : (b : Bool) → or_else (cond b (some t) none) none ≡ cond b (some t) none
    last true = refl
    last false = refl
one-first (t ∷ u ∷ hs) test pass f = refl

turned : (a b c : Bool) → (a && (b && c)) ≡ ((b && a) && c)
turned true true c = refl
turned true false c = refl
turned false true c = refl
turned false false c = refl

-- RESOLVING BY THE WAYS IS resolve_state
pub resolve-ways : (w : World) (s : TypeState) → resolve_state w s ≡ resolve w s
unfolding resolve_state resolve ways evidence_fits upper_candidate evidence_cast fallback_join domain_hint
resolve-ways w s =
    tried-first (only_concrete (produced_type w s)) (λ ty. first_failing Upper (is_assignable w ty) s.upper) (λ ty. assignable_to_all w ty s.upper) after1
    (λ t. clear-assignable w Upper t s.upper)
    ∙ ap (or_else (passing (only_concrete (produced_type w s)) (λ ty. assignable_to_all w ty s.upper)))
    (tried-first (most_specific_upper w s.upper) second (λ candidate. (all_produce w s.exact candidate && all_produce w s.lower candidate) && domain_accepts s.domain candidate) after2 second-clear
    ∙ ap (or_else (passing (most_specific_upper w s.upper) (λ candidate. (all_produce w s.exact candidate && all_produce w s.lower candidate) && domain_accepts s.domain candidate)))
    (tried-first (only_concrete (produced_type w s)) (λ ty. or_else (first_failing Upper (producer_bound_compatible w ty) s.upper) (domain_cause s.domain ty))
    (λ ty. produces_all w ty s.upper && domain_accepts s.domain ty) after3
    (λ t. clear-else (first_failing Upper (producer_bound_compatible w t) s.upper) (domain_cause s.domain t) ∙ ap₂ ◌&&◌ (clear-produce w Upper t s.upper) (clear-domain s.domain t))
    ∙ ap (or_else (passing (only_concrete (produced_type w s)) (λ ty. produces_all w ty s.upper && domain_accepts s.domain ty)))
    (tried-first (only_concrete (join_all w s.fallback)) (λ candidate. or_else (first_failing Upper (is_assignable w candidate) s.upper) (domain_cause s.domain candidate))
    (λ candidate. assignable_to_all w candidate s.upper && domain_accepts s.domain candidate) (domain_hint w s ∷ [])
    (λ t. clear-else (first_failing Upper (is_assignable w t) s.upper) (domain_cause s.domain t) ∙ ap₂ ◌&&◌ (clear-assignable w Upper t s.upper) (clear-domain s.domain t))
    ∙ ap (or_else (passing (only_concrete (join_all w s.fallback)) (λ candidate. assignable_to_all w candidate s.upper && domain_accepts s.domain candidate)))
    (one-first (hints_of w.object s.domain) (λ candidate. first_failing Upper (is_assignable w candidate) s.upper) (λ candidate. assignable_to_all w candidate s.upper)
    (λ t. clear-assignable w Upper t s.upper)))))
  where
    after3 : List Tried
    after3 = fallback_join w s ∷ domain_hint w s ∷ []

    after2 : List Tried
    after2 = evidence_cast w s ∷ after3

    after1 : List Tried
    after1 = upper_candidate w s ∷ after2

    second : ArgType → Option Cause
    second candidate =
        or_else (first_failing Lower (λ b. producer_bound_compatible w b candidate) s.lower)
        (or_else (first_failing Exact (λ b. producer_bound_compatible w b candidate) s.exact) (domain_cause s.domain candidate))

    second-clear : (t : ArgType) → clear (second t) ≡ ((all_produce w s.exact t && all_produce w s.lower t) && domain_accepts s.domain t)
    second-clear t =
        clear-else (first_failing Lower (λ b. producer_bound_compatible w b t) s.lower) (or_else (first_failing Exact (λ b. producer_bound_compatible w b t) s.exact) (domain_cause s.domain t))
        ∙ ap₂ ◌&&◌ (clear-produced w Lower t s.lower)
        (clear-else (first_failing Exact (λ b. producer_bound_compatible w b t) s.exact) (domain_cause s.domain t) ∙ ap₂ ◌&&◌ (clear-produced w Exact t s.exact) (clear-domain s.domain t))
        ∙ turned (all_produce w s.lower t) (all_produce w s.exact t) (domain_accepts s.domain t)
