-- The tests link by link, and by bisection.
use Rattle.std.specs.Prelude.{◌≡◌, refl, Bool, true, false, cond, ◌||◌, List, [], ◌∷◌, map, ℕ, suc, ◌-◌, ◌/◌, ◌%◌, eqb, ltb, length, take, drop}
use Rattle.std.specs.List.{list_any}
use Rattle.std.proofs.Common.{sym, ap, ◌∙◌, arith, length-take, length-drop, lt-ltb, le-ltb, ltb-true, ltb-false}
use Rattle.std.proofs.lemmas.List.{length-map}
use Rattle.sorted.specs.declared.Span.{Span}
use Rattle.sorted.specs.Sorted.{Sorted, run_of}
use Rattle.passing.specs.Passes.{second}
use Rattle.passing.specs.Steps.{run-inside, run-partners}
use Rattle.solving.specs.LinkKeys.{pair_of}
use Rattle.solving.specs.Solving.{Pair, partners}
use Rattle.asking.specs.Asking.{begins, touches}

-- ---- link by link

pub any-begins : (root : ℕ) (l : List ℕ) → list_any (λ x. eqb (x / 512) root) l ≡ begins root (map pair_of l)
unfolding begins
any-begins root [] = refl
any-begins root (x ∷ l) = ap (λ (b : Bool). eqb (x / 512) root || b) (any-begins root l)

pub any-touches : (root : ℕ) (l : List ℕ) → list_any (λ x. eqb (x / 512) root || eqb (x % 512) root) l ≡ touches root (map pair_of l)
unfolding touches
any-touches root [] = refl
any-touches root (x ∷ l) = ap (λ (b : Bool). (eqb (x / 512) root || eqb (x % 512) root) || b) (any-touches root l)

-- ---- by bisection

-- some pair begins with the root exactly if it has a partner
begins-partner : (root : ℕ) (ps : List Pair) → begins root ps ≡ ltb 0 (length (partners root ps))
unfolding begins partners
begins-partner root [] = refl
begins-partner root (p ∷ ps) = go (eqb p.0 root) (begins-partner root ps)
  where
    go : (b : Bool) → begins root ps ≡ ltb 0 (length (partners root ps)) → (b || begins root ps) ≡ ltb 0 (length (cond b (p.1 ∷ partners root ps) (partners root ps)))
    go true k = sym (lt-ltb 0 (suc (length (partners root ps))) (omega arith))
    go false k = k

module _ (root : ℕ) (links : List ℕ) (o : Sorted links) (r : Span) (e : r ≡ run_of 512 root (take (length links) links)) where
  many : length (partners root (map pair_of links)) ≡ r.past - r.first
  many =
      let w = run-inside root links o r e in
      let d = length-drop r.first links in
      let t = length-take (r.past - r.first) (drop r.first links) in
      ap length (sym (run-partners root links o r e)) ∙ length-map (take (r.past - r.first) (drop r.first links)) second ∙ (let z : length (take (r.past - r.first) (drop r.first links)) ≡ r.past - r.first = omega arith in z)

  pub has-partner : ltb r.first r.past ≡ begins root (map pair_of links)
  has-partner = go (ltb r.first r.past) refl ∙ sym (begins-partner root (map pair_of links))
    where
      go : (b : Bool) → ltb r.first r.past ≡ b → b ≡ ltb 0 (length (partners root (map pair_of links)))
      go true h = sym (lt-ltb 0 (length (partners root (map pair_of links))) (let m = many in let k = ltb-true r.first r.past h in omega arith))
      go false h = sym (le-ltb 0 (length (partners root (map pair_of links))) (let m = many in let k = ltb-false r.first r.past h in omega arith))
