-- TWO UNKNOWNS, a second time: `left.into_iter().filter(|c| right.contains(c))`. What their join keeps is what both lists have, in the left
-- one's order, and of a list without repeats no other list is that.
use Rattle.std.specs.Prelude.{◌≡◌, refl, Bool, true, false, cond, ◌&&◌, ◌||◌, List, [], ◌∷◌, ℕ, eqb}
use Rattle.std.proofs.Common.{sym, ap, ◌∙◌, true≢false, eq-eqb, eqb-true}
use Rattle.order.specs.Lists.{elem}
use Rattle.ty.specs.Words.{distinct}
use Rattle.ty.specs.Distinct.{distinct-fresh, distinct-rest}
use Rattle.lattice.specs.Lattice.{in_both}

-- the one list is the other with some left out, the order kept
pub data Within : List ℕ → List ℕ → Type 0 where
  ended : Within [] []
  passed : {c : ℕ} {ks cs : List ℕ} → Within ks cs → Within ks (c ∷ cs)
  kept : {c : ℕ} {ks cs : List ℕ} → Within ks cs → Within (c ∷ ks) (c ∷ cs)

-- IN THE LEFT ONE'S ORDER
pub both-within : (cs ds : List ℕ) → Within (in_both cs ds) cs
unfolding in_both
both-within [] ds = ended
both-within (c ∷ cs) ds = go (elem c ds) (both-within cs ds)
  where
    go : (b : Bool) → Within (in_both cs ds) cs → Within (cond b (c ∷ in_both cs ds) (in_both cs ds)) (c ∷ cs)
    go true w = kept w
    go false w = passed w

-- WHAT BOTH HAVE
pub both-elem : (cs ds : List ℕ) (k : ℕ) → elem k (in_both cs ds) ≡ (elem k cs && elem k ds)
unfolding in_both elem
both-elem [] ds k = refl
both-elem (c ∷ cs) ds k = go (elem c ds) refl (eqb c k) refl (both-elem cs ds k)
  where
    and-false : (a : Bool) → (a && false) ≡ false
    and-false true = refl
    and-false false = refl

    here : (b : Bool) → elem c ds ≡ b → eqb c k ≡ true → elem k ds ≡ b
    here b e q = ap (λ (x : ℕ). elem x ds) (sym (eqb-true c k q)) ∙ e

    go : (b : Bool) → elem c ds ≡ b → (a : Bool) → eqb c k ≡ a → elem k (in_both cs ds) ≡ (elem k cs && elem k ds)
        → elem k (cond b (c ∷ in_both cs ds) (in_both cs ds)) ≡ ((a || elem k cs) && elem k ds)
    go true e true q ih = rw (q, here true e q)
    go true e false q ih = rw q ih
    go false e true q ih = ih ∙ ap (λ (x : Bool). elem k cs && x) (here false e q) ∙ and-false (elem k cs) ∙ sym (here false e q)
    go false e false q ih = ih

-- ---- and no other

-- what is not in the whole is not in the part
within-fresh : (k : ℕ) {ks cs : List ℕ} → Within ks cs → elem k cs ≡ false → elem k ks ≡ false
unfolding elem
within-fresh k ended h = refl
within-fresh k (passed {c} {ks} {cs} w) h = go (eqb c k) h (within-fresh k w)
  where
    go : (a : Bool) → (a || elem k cs) ≡ false → (elem k cs ≡ false → elem k ks ≡ false) → elem k ks ≡ false
    go true e f = absurd (true≢false e)
    go false e f = f e
within-fresh k (kept {c} {ks} {cs} w) h = go (eqb c k) h (within-fresh k w)
  where
    go : (a : Bool) → (a || elem k cs) ≡ false → (elem k cs ≡ false → elem k ks ≡ false) → (a || elem k ks) ≡ false
    go true e f = absurd (true≢false e)
    go false e f = f e

-- ONE LIST ALONE has these members in this order
pub within-one : {cs ks ls : List ℕ} → distinct cs ≡ true → Within ks cs → Within ls cs → ((k : ℕ) → elem k ks ≡ elem k ls) → ks ≡ ls
unfolding elem
within-one d ended ended same = refl
within-one d (passed {c} {ks} {cs} v) (passed w) same = within-one (distinct-rest c cs d) v w same
within-one d (passed {c} {ks} {cs} v) (kept {ks = ls} w) same =
    absurd (true≢false (sym (ap (λ (b : Bool). b || elem c ls) (eq-eqb c c refl)) ∙ sym (same c) ∙ within-fresh c v (distinct-fresh c cs d)))
within-one d (kept {c} {ks} {cs} v) (passed w) same =
    absurd (true≢false (sym (ap (λ (b : Bool). b || elem c ks) (eq-eqb c c refl)) ∙ same c ∙ within-fresh c w (distinct-fresh c cs d)))
within-one d (kept {c} {ks} {cs} v) (kept {ks = ls} w) same =
    ap (λ (l : List ℕ). c ∷ l) (within-one (distinct-rest c cs d) v w (λ k. go k (eqb c k) refl (same k)))
  where
    go : (k : ℕ) (a : Bool) → eqb c k ≡ a → (a || elem k ks) ≡ (a || elem k ls) → elem k ks ≡ elem k ls
    go k true q e =
        let f = ap (λ (x : ℕ). elem x cs) (sym (eqb-true c k q)) ∙ distinct-fresh c cs d in
        within-fresh k v f ∙ sym (within-fresh k w f)
    go k false q e = e
