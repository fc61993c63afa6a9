-- AN ANSWER OF resolve_state IS A LEGAL TYPE where the state's types are, over a lawful world: so an answer's word stands for it. Assumes
-- nothing.
use Rattle.std.specs.Prelude.{◌≡◌, Bool, true, false, cond, ℕ}
use Rattle.std.proofs.Math.Path.{refl, ap, subst}
use Rattle.std.proofs.Common.{sym, arith}
use mathlib.Core.List.Memᴰ
use mathlib.Core.List.{List, [], ◌∷◌, Memᴰ}
use Rattle.std.proofs.Math.Logic.{⊎_elim}
use Rattle.std.proofs.Math.Option.{Option, some, none}
use Rattle.ty.specs.Types.{ArgType, is_concrete, concrete_hint, compare}
use Rattle.ty.specs.Words.{legal_type}
use Rattle.lattice.specs.Lattice.{World, Lawful, join_all, most_specific_upper}
use Rattle.lattice.specs.Legality.{join_all-legal, hint-legal, specific-legal}
use Rattle.solving.proofs.OrderedLaws.{insert-only}
use Rattle.solving.proofs.Chains.{types-only}
use Rattle.solving.specs.Tidy.{LegalBound}
use Rattle.solving.proofs.Tidy.{LegalState, produced-legal}
use Rattle.solving.specs.Solving.{Bound, bound, Table, types_of, TypeState, state_of, produced_type, only_concrete, Cause, Tried, Answer, Because, judged, tried, evidence_fits, upper_candidate, evidence_cast, fallback_join, hint_of, hints_of, only_one, domain_hint, ways, first_answer, resolve_state, Domain, Fallback, Upper, Lower, Exact}

-- ---- what answers is the candidate

none-some : {A : Type 0} (x : A) → none ≡ some x → ⊥
none-some x h = let z : ◌≡◌ {A = ℕ} 0 1 = cc in omega arith

because-answer : (c : Cause) (t : ArgType) → Because c ≡ Answer t → ⊥
because-answer c t h = let z : ◌≡◌ {A = ℕ} 0 1 = cc in omega arith

only-is : (o : Option ArgType) (t : ArgType) → only_concrete o ≡ some t → o ≡ some t
only-is none t h = h
only-is (some x) t h = go (is_concrete x) h
  where
    go : (b : Bool) → cond b (some x) none ≡ some t → some x ≡ some t
    go true k = k
    go false k = absurd (none-some t k)

judged-is : (x t : ArgType) (o : Option Cause) → judged x o ≡ Answer t → x ≡ t
judged-is x t none h = let q : x ≡ t = cc in q
judged-is x t (some c) h = absurd (because-answer c t h)

tried-is : (o : Option ArgType) (test : ArgType → Option Cause) (t : ArgType) → tried o test ≡ Answer t → o ≡ some t
tried-is none test t h = absurd (let z : ◌≡◌ {A = ℕ} 0 1 = cc in omega arith)
tried-is (some x) test t h = ap some (judged-is x t (test x) h)

one-is : (hs : List ArgType) (test : ArgType → Option Cause) (t : ArgType) → only_one hs test ≡ Answer t → hs ≡ t ∷ []
one-is [] test t h = absurd (let z : ◌≡◌ {A = ℕ} 0 1 = cc in omega arith)
one-is (x ∷ []) test t h = ap (λ (y : ArgType). y ∷ []) (judged-is x t (test x) h)
one-is (x ∷ y ∷ hs) test t h = absurd (let z : ◌≡◌ {A = ℕ} 0 1 = cc in omega arith)

module _ (P : ArgType → Type 0) where
  -- what each way answers has P
  abbrev Each : List Tried → Type 0
  Each [] = Unit {0}
  Each (x ∷ xs) = ((t : ArgType) → x ≡ Answer t → P t) × Each xs

  first-each : (tries : List Tried) (t : ArgType) → Each tries → first_answer tries ≡ some t → P t
  unfolding first_answer
  first-each [] t e h = absurd (none-some t h)
  first-each (Answer x ∷ rest) t e h = e.0 t (let q : x ≡ t = cc in ap Answer q)
  first-each (Because c ∷ rest) t e h = first-each rest t e.1 h

module _ (w : World) (good : Lawful w) where
  abbrev Fine : ArgType → Type 0
  Fine t = legal_type w.names t ≡ true

  hints-legal : (ts : List ArgType) → ((u : ArgType) → Memᴰ u ts → Fine u) → (u : ArgType) → Memᴰ u (hints_of w.object ts) → Fine u
  unfolding hints_of
  hints-legal [] h u m = absurd (Memᴰ.not-nil m)
  hints-legal (t ∷ ts) h u m = go (concrete_hint w.object t) refl m (hints-legal ts (λ v n. h v (Memᴰ.tail n)) u)
    where
      go : (o : Option ArgType) → concrete_hint w.object t ≡ o → Memᴰ u (hint_of o (hints_of w.object ts)) → (Memᴰ u (hints_of w.object ts) → Fine u) → Fine u
      go none e n ih = ih n
      go (some x) e n ih = ⊎_elim (λ q. subst Fine (sym q) (hint-legal w good t x e (h t (Memᴰ.head refl)))) ih (insert-only compare x u (hints_of w.object ts) n)

  -- AN ANSWER IS LEGAL
  pub answer-legal : (s : TypeState) → LegalState w good s → (t : ArgType) → resolve_state w s ≡ some t → Fine t
  unfolding resolve_state ways evidence_fits upper_candidate evidence_cast fallback_join domain_hint
  answer-legal s y t h =
      first-each Fine (ways w s) t (
        λ u e. produced-legal w good s y u (only-is (produced_type w s) u (tried-is (only_concrete (produced_type w s)) _ u e)),
        (
          λ u e. specific-legal w good s.upper u (tried-is (most_specific_upper w s.upper) _ u e) y.upper,
          (
            λ u e. produced-legal w good s y u (only-is (produced_type w s) u (tried-is (only_concrete (produced_type w s)) _ u e)),
            (
              λ u e. join_all-legal w good s.fallback u (only-is (join_all w s.fallback) u (tried-is (only_concrete (join_all w s.fallback)) _ u e)) y.fallback,
              (
                λ u e. hints-legal s.domain y.domain u (subst (Memᴰ u) (sym (one-is (hints_of w.object s.domain) _ u e)) (Memᴰ.head refl)),
                tt,
              ),
            ),
          ),
        ),
      ) h

  -- the state of a component of a table of legal bounds
  pub state-legal : (n : ℕ) (t : Table) → ((b : Bound) → Memᴰ b t → LegalBound w.names n b) → (c : ℕ) → LegalState w good (state_of t c)
  unfolding state_of
  state-legal n t h c = record { exact = types Exact; lower = types Lower; upper = types Upper; domain = types Domain; fallback = types Fallback }
    where
      types : (k : ℕ) → (u : ArgType) → Memᴰ u (types_of c k t) → Fine u
      types k u m = (h (bound c k u) (types-only c k u t m)).type
