-- WHICH RULE SENDS A TYPE, AND WHICH ARRAY IT IS THAT IS TOO DEEP, changes nothing in the slices: so a pass of the code, which has no number
-- of its rule and one mark for all that is too deep, is the pass of the definition.
use Rattle.std.specs.Prelude.{◌≡◌, Bool, ◌⊎◌, ℕ, ◌<◌, eqb}
use Rattle.std.proofs.Math.Path.{refl, sym, ap}
use Rattle.std.proofs.Common.{◌∙◌, inl, inr, ⊎_elim}
use Rattle.std.proofs.Math.Bool.{true, false, cond}
use mathlib.Core.List.{List, [], ◌∷◌}
use Rattle.std.proofs.Math.Dec.{ltb}
use borrow.Author.Tests.{ltb-true, ltb-false}
use Rattle.ty.specs.Types.{ArgType, depth}
use Rattle.ty.specs.Words.{legal_at_base}
use Rattle.keys.specs.Rank.{rank}
use Rattle.keys.specs.Laws.{unrank-rank}
use Rattle.lattice.specs.Legality.{legal-both}
use Rattle.solving.specs.Steps.{array_rule}
use Rattle.solving.specs.Solving.{Lower, bound, Pair, to_one, to_each, array_rules}
use Rattle.inserting.specs.declared.Sent.TheVariants.{Rank, Deep}
use Rattle.inserting.specs.Store.{Store, put_bound, put_all, sent_types, sent_of}
use Rattle.inserting.specs.Laws.{put-deep, put-append, deepest-depth}

-- two types that go in alike: the same, or both too deep
abbrev pub Twin : ArgType → ArgType → Type 0
Twin t u = (t ≡ u) ⊎ ((255 < depth t) × (255 < depth u))

abbrev pub Alike : List ArgType → List ArgType → Type 0
Alike [] [] = Unit {0}
Alike [] (u ∷ us) = ⊥
Alike (t ∷ ts) [] = ⊥
Alike (t ∷ ts) (u ∷ us) = Twin t u × Alike ts us

pub alike-same : (ts : List ArgType) → Alike ts ts
alike-same [] = tt
alike-same (t ∷ ts) = (inl refl, alike-same ts)

put-twin : (c kind : ℕ) (t u : ArgType) (s : Store) → Twin t u → put_bound (bound c kind t) s ≡ put_bound (bound c kind u) s
put-twin c kind t u s = ⊎_elim (ap (λ (x : ArgType). put_bound (bound c kind x) s)) (λ h. put-deep (bound c kind t) s h.0 ∙ sym (put-deep (bound c kind u) s h.1))

module _ (rule rule' kind : ℕ) where
  pub one-alike : (ts us : List ArgType) → Alike ts us → (c : ℕ) (s : Store) → put_all (to_one rule kind ts c) s ≡ put_all (to_one rule' kind us c) s
  unfolding to_one put_all
  one-alike [] [] g c s = refl
  one-alike [] (u ∷ us) g c s = absurd g
  one-alike (t ∷ ts) [] g c s = absurd g
  one-alike (t ∷ ts) (u ∷ us) g c s =
      ap (λ (z : Store). cond (eqb s.state.refusal 0) z s)
      (one-alike ts us g.1 c (put_bound (bound c kind t) s) ∙ ap (put_all (to_one rule' kind us c)) (put-twin c kind t u s g.0))

  pub each-alike : (ts us : List ArgType) → Alike ts us → (cs : List ℕ) (s : Store) → put_all (to_each rule kind ts cs) s ≡ put_all (to_each rule' kind us cs) s
  unfolding to_each
  each-alike ts us g [] s = refl
  each-alike ts us g (c ∷ cs) s =
      put-append (to_one rule kind ts c) (to_each rule kind ts cs) s
      ∙ ap (put_all (to_each rule kind ts cs)) (one-alike ts us g c s)
      ∙ each-alike ts us g cs (put_all (to_one rule' kind us c) s)
      ∙ sym (put-append (to_one rule' kind us c) (to_each rule' kind us cs) s)

module _ (near near' kind : ℕ) (es fs : List ArgType) (g : Alike es fs) (far far' : ℕ) (xs ys : List ArgType) (h : Alike xs ys) (root : ℕ) where
  array-alike : (p : Pair) (s : Store) → put_all (array_rule near kind es far xs root p) s ≡ put_all (array_rule near' kind fs far' ys root p) s
  unfolding array_rule
  array-alike p s = go (eqb p.0 root) (eqb p.1 root)
    where
      go : (a b : Bool) → put_all (cond a (to_one near kind es p.1) (cond b (to_one far Lower xs p.0) [])) s
          ≡ put_all (cond a (to_one near' kind fs p.1) (cond b (to_one far' Lower ys p.0) [])) s
      go true b = one-alike near near' kind es fs g p.1 s
      go false true = one-alike far far' Lower xs ys h p.0 s
      go false false = refl

  pub arrays-alike : (ps : List Pair) (s : Store) → put_all (array_rules near kind es far xs root ps) s ≡ put_all (array_rules near' kind fs far' ys root ps) s
  unfolding array_rules array_rule
  arrays-alike [] s = refl
  arrays-alike (p ∷ ps) s =
      put-append (array_rule near kind es far xs root p) (array_rules near kind es far xs root ps) s
      ∙ ap (put_all (array_rules near kind es far xs root ps)) (array-alike p s)
      ∙ arrays-alike ps (put_all (array_rule near' kind fs far' ys root p) s)
      ∙ sym (put-append (array_rule near' kind fs far' ys root p) (array_rules near' kind fs far' ys root ps) s)

-- ---- how a type is sent

module _ (t : ArgType) (h : legal_at_base 1024 t ≡ true) where
  pub sent-alike : Alike (sent_types (sent_of t)) (t ∷ [])
  unfolding sent_of
  sent-alike = go (ltb 255 (depth t)) refl
    where
      go : (b : Bool) → ltb 255 (depth t) ≡ b → Alike (sent_types (cond b Deep (Rank (rank t)))) (t ∷ [])
      go true e = (inr (deepest-depth, ltb-true 255 (depth t) e), tt)
      go false e = (inl (unrank-rank t (legal-both 1024 t (ltb-false 255 (depth t) e) h)), tt)
