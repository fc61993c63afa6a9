-- The rules as the code meets them: one pass after the other, ready again after each, or the first refusal.
use Rattle.std.specs.Prelude.{◌≡◌, ℕ, ◌/◌, ◌%◌, ◌<◌}
use Rattle.std.proofs.Common.{sym, ap, ◌∙◌, ⊎_elim, arith}
use mathlib.Core.List.Memᴰ
use mathlib.Core.List.{List, [], ◌∷◌, ◌++◌, map, Memᴰ}
use Rattle.ty.specs.Types.{ArgType}
use Rattle.solving.specs.Queue.{Below}
use Rattle.solving.specs.Tidy.{Given}
use Rattle.solving.proofs.Tidy.{each-by, arrays-by, partner-of}
use Rattle.solving.specs.LinkKeys.{pair_of}
use Rattle.solving.specs.Solving.{Fallback, Upper, Lower, Pair, partners, Addition, to_each, array_rules}
use Rattle.inserting.specs.declared.Sent.{Sent}
use Rattle.keys.specs.Rank.{unrank}
use Rattle.inserting.specs.Store.{Store, put_all, sent_types, AllRanked, Sendable}
use Rattle.inserting.specs.Laws.{all-stopped, put-append, AllGiven, sent-base}
use Rattle.passing.specs.Steps.{AllBase, ranked-base}
use Rattle.rules.specs.Rules.{target_rule, fallback_rule, source_rule, read_rules, write_rules, bound_rules, constraint_rules, all_rules}

-- ---- one list after the other

module _ (xs ys : List Addition) (s s' : Store) (e : s' ≡ put_all xs s) where
  pub both-stop : (s'.state.refusal ≡ 0 → ⊥) → s' ≡ put_all (xs ++ ys) s
  both-stop h = sym (put-append xs ys s ∙ ap (put_all ys) (sym e) ∙ all-stopped ys s' h)

  pub both-go : (s'' : Store) → s'' ≡ put_all ys s' → s'' ≡ put_all (xs ++ ys) s
  both-go s'' f = f ∙ ap (put_all ys) e ∙ sym (put-append xs ys s)

-- ---- what is given

-- a partner is one of 512
partner-small : (root c : ℕ) (links : List ℕ) → Memᴰ c (partners root (map pair_of links)) → c < 512
partner-small root c links m = go links (partner-of root c (map pair_of links) m)
  where
    go : (xs : List ℕ) → Memᴰ {A = Pair} (root, c) (map pair_of xs) → c < 512
    go [] n = absurd (Memᴰ.not-nil n)
    go (x ∷ xs) n = ⊎_elim (λ e. let f : c ≡ x % 512 = ap (λ (p : Pair). p.1) e in omega arith) (go xs) (Memᴰ.cases_cons n)

link-small : (p : Pair) (links : List ℕ) → Below 262144 links → Memᴰ p (map pair_of links) → (p.0 < 512) × (p.1 < 512)
link-small p [] b n = absurd (Memᴰ.not-nil n)
link-small p (x ∷ xs) b n =
    ⊎_elim
    (λ e.
    let f : p.0 ≡ x / 512 = ap (λ (q : Pair). q.0) e in
    let g : p.1 ≡ x % 512 = ap (λ (q : Pair). q.1) e in
    let h = b.0 in
    (omega arith, omega arith))
    (link-small p xs b.1) (Memᴰ.cases_cons n)

pub each-given : (kind root : ℕ) (ts : List ArgType) (links : List ℕ) → kind < 5 → AllBase ts → AllGiven (to_each 0 kind ts (partners root (map pair_of links)))
each-given kind root ts links l g =
    each-by (λ a. Given 1024 512 a.adds) 0 kind ts (partners root (map pair_of links)) (λ c m u n. record { component = partner-small root c links m; kind = l; base = g u n })

pub arrays-given : (kind root : ℕ) (es xs : List ArgType) (links : List ℕ) → kind < 5 → Below 262144 links → AllBase es → AllBase xs
    → AllGiven (array_rules 0 kind es 0 xs root (map pair_of links))
arrays-given kind root es xs links l b g h =
    arrays-by (λ a. Given 1024 512 a.adds) 0 kind es 0 xs root (map pair_of links)
    (λ p m e u n. record { component = (link-small p links b m).1; kind = l; base = g u n })
    (λ p m e u n. record { component = (link-small p links b m).0; kind = omega arith; base = h u n })

-- two lists
given-both : (xs ys : List Addition) → AllGiven xs → AllGiven ys → AllGiven (xs ++ ys)
given-both xs ys g h a m = ⊎_elim (g a) (h a) (Memᴰ.append_cases xs m)

pub bounds-given : (flows incoming : List ℕ) (root : ℕ) (produced : Sent) (fallbacks uppers : List ℕ) → Sendable produced → AllRanked fallbacks → AllRanked uppers
    → AllGiven (bound_rules flows incoming root produced fallbacks uppers)
unfolding bound_rules
bounds-given flows incoming root produced fallbacks uppers p f u =
    given-both (target_rule flows root produced) (fallback_rule flows root fallbacks ++ source_rule incoming root uppers)
    (each-given Lower root (sent_types produced) flows (omega arith) (sent-base produced p))
    (given-both (fallback_rule flows root fallbacks) (source_rule incoming root uppers)
    (each-given Fallback root (map unrank fallbacks) flows (omega arith) (ranked-base fallbacks f))
    (each-given Upper root (map unrank uppers) incoming (omega arith) (ranked-base uppers u)))

-- ---- the rules in their order, with what each pass leaves

module _ (flows incoming : List ℕ) (root : ℕ) (produced : Sent) (fallbacks uppers : List ℕ) (s s₁ : Store) (e₁ : s₁ ≡ put_all (target_rule flows root produced) s) where
  pub bounds-first : (s₁.state.refusal ≡ 0 → ⊥) → s₁ ≡ put_all (bound_rules flows incoming root produced fallbacks uppers) s
  unfolding bound_rules
  bounds-first h = both-stop (target_rule flows root produced) (fallback_rule flows root fallbacks ++ source_rule incoming root uppers) s s₁ e₁ h

  module _ (s₂ : Store) (e₂ : s₂ ≡ put_all (fallback_rule flows root fallbacks) s₁) where
    pub bounds-second : (s₂.state.refusal ≡ 0 → ⊥) → s₂ ≡ put_all (bound_rules flows incoming root produced fallbacks uppers) s
    unfolding bound_rules
    bounds-second h =
        both-go (target_rule flows root produced) (fallback_rule flows root fallbacks ++ source_rule incoming root uppers) s s₁ e₁ s₂
        (both-stop (fallback_rule flows root fallbacks) (source_rule incoming root uppers) s₁ s₂ e₂ h)

    pub bounds-third : (s₃ : Store) → s₃ ≡ put_all (source_rule incoming root uppers) s₂ → s₃ ≡ put_all (bound_rules flows incoming root produced fallbacks uppers) s
    unfolding bound_rules
    bounds-third s₃ e₃ =
        both-go (target_rule flows root produced) (fallback_rule flows root fallbacks ++ source_rule incoming root uppers) s s₁ e₁ s₃
        (both-go (fallback_rule flows root fallbacks) (source_rule incoming root uppers) s₁ s₂ e₂ s₃ e₃)

module _ (reads writes : List ℕ) (root : ℕ) (element array : Sent) (s s₁ : Store) (e₁ : s₁ ≡ put_all (read_rules reads root element array) s) where
  pub constraints-first : (s₁.state.refusal ≡ 0 → ⊥) → s₁ ≡ put_all (constraint_rules reads writes root element array) s
  unfolding constraint_rules
  constraints-first h = both-stop (read_rules reads root element array) (write_rules writes root element array) s s₁ e₁ h

  pub constraints-second : (s₂ : Store) → s₂ ≡ put_all (write_rules writes root element array) s₁ → s₂ ≡ put_all (constraint_rules reads writes root element array) s
  unfolding constraint_rules
  constraints-second s₂ e₂ = both-go (read_rules reads root element array) (write_rules writes root element array) s s₁ e₁ s₂ e₂

module _ (flows incoming reads writes : List ℕ) (root : ℕ) (produced : Sent) (fallbacks uppers : List ℕ) (element array : Sent) (s s₁ : Store)
    (e₁ : s₁ ≡ put_all (bound_rules flows incoming root produced fallbacks uppers) s) where
  pub rules-first : (s₁.state.refusal ≡ 0 → ⊥) → s₁ ≡ put_all (all_rules flows incoming reads writes root produced fallbacks uppers element array) s
  unfolding all_rules
  rules-first h = both-stop (bound_rules flows incoming root produced fallbacks uppers) (constraint_rules reads writes root element array) s s₁ e₁ h

  pub rules-second : (s₂ : Store) → s₂ ≡ put_all (constraint_rules reads writes root element array) s₁
      → s₂ ≡ put_all (all_rules flows incoming reads writes root produced fallbacks uppers element array) s
  unfolding all_rules
  rules-second s₂ e₂ = both-go (bound_rules flows incoming root produced fallbacks uppers) (constraint_rules reads writes root element array) s s₁ e₁ s₂ e₂
