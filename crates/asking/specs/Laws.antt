-- WHAT IS NOT ASKED FOR CHANGES NOTHING: the rules of a turn are the same, whatever is sent of it.
use Rattle.std.specs.Prelude.{◌≡◌, refl, Bool, true, false, cond, ◌||◌, List, [], ◌∷◌, ◌++◌, map, ℕ, eqb}
use Rattle.std.proofs.Math.Path.{sym, ap}
use Rattle.std.proofs.Common.{ap₂, ◌∙◌, true≢false}
use Rattle.std.proofs.lemmas.Bool.{false≢true}
use Rattle.ty.specs.Types.{ArgType}
use Rattle.solving.specs.LinkKeys.{pair_of}
use Rattle.solving.specs.Solving.{Upper, Exact, Lower, Pair, partners, Addition, to_one, to_each, array_rules}
use Rattle.inserting.specs.declared.Sent.{Sent}
use Rattle.inserting.specs.Store.{sent_types}
use Rattle.rules.specs.Rules.{target_rule, fallback_rule, source_rule, bound_rules, constraint_rules, all_rules}
use Rattle.asking.specs.declared.Asked.{Asked}
use Rattle.asking.specs.Asking.{begins, touches, asks_produced, asks_element, asked_of}

-- ---- links that do not have the root

no-partner : (root : ℕ) (ps : List Pair) → begins root ps ≡ false → partners root ps ≡ []
unfolding begins partners
no-partner root [] h = refl
no-partner root (p ∷ ps) h = go (eqb p.0 root) h (no-partner root ps)
  where
    go : (b : Bool) → (b || begins root ps) ≡ false → (begins root ps ≡ false → partners root ps ≡ []) → cond b (p.1 ∷ partners root ps) (partners root ps) ≡ []
    go true k f = absurd (true≢false k)
    go false k f = f k

-- nothing begins with the root: the elements are the same to them
any-elements : (near kind far root : ℕ) (es es' arrays : List ArgType) (ps : List Pair) → begins root ps ≡ false
    → array_rules near kind es far arrays root ps ≡ array_rules near kind es' far arrays root ps
unfolding begins array_rules
any-elements near kind far root es es' arrays [] h = refl
any-elements near kind far root es es' arrays (p ∷ ps) h = go (eqb p.0 root) h (any-elements near kind far root es es' arrays ps)
  where
    go : (b : Bool) → (b || begins root ps) ≡ false → (begins root ps ≡ false → array_rules near kind es far arrays root ps ≡ array_rules near kind es' far arrays root ps)
        → cond b (to_one near kind es p.1) (cond (eqb p.1 root) (to_one far Lower arrays p.0) []) ++ array_rules near kind es far arrays root ps
        ≡ cond b (to_one near kind es' p.1) (cond (eqb p.1 root) (to_one far Lower arrays p.0) []) ++ array_rules near kind es' far arrays root ps
    go true k f = absurd (true≢false k)
    go false k f = ap (λ (l : List Addition). cond (eqb p.1 root) (to_one far Lower arrays p.0) [] ++ l) (f k)

-- none has the root on a side: so are the arrays
any-arrays : (near kind far root : ℕ) (es arrays arrays' : List ArgType) (ps : List Pair) → touches root ps ≡ false
    → array_rules near kind es far arrays root ps ≡ array_rules near kind es far arrays' root ps
unfolding touches array_rules
any-arrays near kind far root es arrays arrays' [] h = refl
any-arrays near kind far root es arrays arrays' (p ∷ ps) h = go (eqb p.0 root) (eqb p.1 root) h (any-arrays near kind far root es arrays arrays' ps)
  where
    go : (a b : Bool) → ((a || b) || touches root ps) ≡ false → (touches root ps ≡ false → array_rules near kind es far arrays root ps ≡ array_rules near kind es far arrays' root ps)
        → cond a (to_one near kind es p.1) (cond b (to_one far Lower arrays p.0) []) ++ array_rules near kind es far arrays root ps
        ≡ cond a (to_one near kind es p.1) (cond b (to_one far Lower arrays' p.0) []) ++ array_rules near kind es far arrays' root ps
    go true b k f = absurd (true≢false k)
    go false true k f = absurd (true≢false k)
    go false false k f = f k

-- what begins with the root has it on a side
begins-touches : (root : ℕ) (ps : List Pair) → begins root ps ≡ true → touches root ps ≡ true
unfolding begins touches
begins-touches root [] h = absurd (false≢true h)
begins-touches root (p ∷ ps) h = go (eqb p.0 root) (eqb p.1 root) h (begins-touches root ps)
  where
    go : (a b : Bool) → (a || begins root ps) ≡ true → (begins root ps ≡ true → touches root ps ≡ true) → ((a || b) || touches root ps) ≡ true
    go true b k f = refl
    go false true k f = refl
    go false false k f = f k

-- ---- of a turn

either-false : (a b : Bool) → (a || b) ≡ false → (a ≡ false) × (b ≡ false)
either-false true b h = absurd (true≢false h)
either-false false b h = (refl, h)

-- who asks for the element asks for what is produced
element-asks : (flows reads writes : List ℕ) (root : ℕ) → (asked_of flows reads writes root).element ≡ true → (asked_of flows reads writes root).produced ≡ true
element-asks flows reads writes root h = go (begins root (map pair_of reads)) refl (begins root (map pair_of writes)) refl h
  where
    last : (a b : Bool) → b ≡ true → (a || b) ≡ true
    last true b e = refl
    last false b e = e

    go : (a : Bool) → begins root (map pair_of reads) ≡ a → (b : Bool) → begins root (map pair_of writes) ≡ b → (a || b) ≡ true → asks_produced flows reads writes root ≡ true
    go true e b f k =
        last (begins root (map pair_of flows)) (touches root (map pair_of reads) || touches root (map pair_of writes))
        (ap (λ (c : Bool). c || touches root (map pair_of writes)) (begins-touches root (map pair_of reads) e))
    go false e b f k =
        last (begins root (map pair_of flows)) (touches root (map pair_of reads) || touches root (map pair_of writes))
        (last (touches root (map pair_of reads)) (touches root (map pair_of writes)) (begins-touches root (map pair_of writes) (f ∙ k)))

pub asked-element : (flows reads writes : List ℕ) (root : ℕ) (k : Asked) → k ≡ asked_of flows reads writes root → k.element ≡ true → k.produced ≡ true
asked-element flows reads writes root k e h =
    ap (λ (x : Asked). x.produced) e ∙ element-asks flows reads writes root (sym (ap (λ (x : Asked). x.element) e) ∙ h)

module _ (flows incoming reads writes : List ℕ) (root : ℕ) (fallbacks uppers : List ℕ) where
  abbrev rules : Sent → Sent → Sent → List Addition
  rules p e a = all_rules flows incoming reads writes root p fallbacks uppers e a

  any-target : (p p' : Sent) → begins root (map pair_of flows) ≡ false → target_rule flows root p ≡ target_rule flows root p'
  unfolding to_each
  any-target p p' h =
      ap (to_each 0 Lower (sent_types p)) (no-partner root (map pair_of flows) h) ∙ sym (ap (to_each 0 Lower (sent_types p')) (no-partner root (map pair_of flows) h))

  unasked-produced : (p p' e a a' : Sent) → asks_produced flows reads writes root ≡ false → rules p e a ≡ rules p' e a'
  unfolding all_rules bound_rules constraint_rules
  unasked-produced p p' e a a' h =
      let k = either-false (begins root (map pair_of flows)) (touches root (map pair_of reads) || touches root (map pair_of writes)) h in
      let m = either-false (touches root (map pair_of reads)) (touches root (map pair_of writes)) k.1 in
      let x = any-target p p' k.0 in
      let y = any-arrays 0 Exact 0 root (sent_types e) (sent_types a) (sent_types a') (map pair_of reads) m.0 in
      let z = any-arrays 0 Upper 0 root (sent_types e) (sent_types a) (sent_types a') (map pair_of writes) m.1 in
      λ i. (x i ++ (fallback_rule flows root fallbacks ++ source_rule incoming root uppers)) ++ (y i ++ z i)

  unasked-element : (p e e' a : Sent) → asks_element reads writes root ≡ false → rules p e a ≡ rules p e' a
  unfolding all_rules constraint_rules
  unasked-element p e e' a h =
      let k = either-false (begins root (map pair_of reads)) (begins root (map pair_of writes)) h in
      let y = any-elements 0 Exact 0 root (sent_types e) (sent_types e') (sent_types a) (map pair_of reads) k.0 in
      let z = any-elements 0 Upper 0 root (sent_types e) (sent_types e') (sent_types a) (map pair_of writes) k.1 in
      λ i. bound_rules flows incoming root p fallbacks uppers ++ (y i ++ z i)

  -- THE RULES ARE THE SAME where what is asked for is
  pub rules-asked : (p p' e e' a a' : Sent) → (asks_produced flows reads writes root ≡ true → (p ≡ p') × (a ≡ a')) → (asks_element reads writes root ≡ true → e ≡ e')
      → rules p e a ≡ rules p' e' a'
  rules-asked p p' e e' a a' f g = first (asks_produced flows reads writes root) refl ∙ second (asks_element reads writes root) refl
    where
      first : (b : Bool) → asks_produced flows reads writes root ≡ b → rules p e a ≡ rules p' e a'
      first true h = let k = f h in ap₂ (λ (x y : Sent). rules x e y) k.0 k.1
      first false h = unasked-produced p p' e a a' h

      second : (b : Bool) → asks_element reads writes root ≡ b → rules p' e a' ≡ rules p' e' a'
      second true h = ap (λ (x : Sent). rules p' x a') (g h)
      second false h = unasked-element p' e e' a' h
