-- A loop over a slice of words from the last to the first.
use Rattle.std.proofs.Common.{◌≡◌, ℕ, ◌-◌, ◌≤◌, ◌<◌, List, ◌∷◌, ◌&&◌, length, get_or, Bor, Option, Some, None, sym, ◌∙◌, ap, subst, arith, Iter}
use Rattle.std.specs.Slice.Iter.{iter_rest, iter_steps_back}
use Rattle.std.specs.List.{push}
use Rattle.std.specs.declared.iter.Rev.{Rev}
use Rattle.std.specs.Iterator.{Yields}
use Rattle.std.specs.Iterator.Adapters.{rev_source, rev_steps}
use Rattle.std.proofs.lemmas.List.{get_or-reverse, get_or_default, length-reverse, length_push}
use Rattle.std.proofs.lemmas.Iterator.Adapters.{YieldsList-from_rev_slice}
use Rattle.std.proofs.lemmas.Iterator.Consumers.{YieldsList-turn, YieldsList-end}
use Rattle.ty.specs.Types.{ArgType, concrete_hint}
use Rattle.ty.specs.Words.{Legal, type_of}
use Rattle.lattice.specs.Lattice.{World, is_assignable, assignable_to_all, candidate, least_hint}
use Rattle.candidates.specs.Maybe.{AllLegal}
use Rattle.candidates.specs.Steps.{types_from, types-before}

-- the place that the loop has come to: from there on all are done
abbrev pub place : List ℕ → List (Bor ℕ) → ℕ
place ws done = length ws - length done

-- the next is x, the word before that place
pub record Turn (ws : List ℕ) (done : List (Bor ℕ)) (x : Bor ℕ) : Type 0 where
  pub some : 0 < place ws done
  pub within : place ws done ≤ length ws
  pub is : x.now ≡ get_or ws (place ws done - 1) 0
  pub next : place ws (push done x) ≡ place ws done - 1

module _ (ws : List ℕ) (s : Rev (Iter ℕ)) (e : iter_rest (rev_source s) ≡ ws) (done : List (Bor ℕ)) (t : Rev (Iter ℕ)) (y : Yields (rev_steps iter_steps_back) s done t)
    (r : Option (Bor ℕ)) (u : Rev (Iter ℕ)) where
  pub turn : (x : Bor ℕ) → r ≡ Some x → rev_steps iter_steps_back t r u → Turn ws done x
  turn x q p =
      let h = YieldsList-turn (YieldsList-from_rev_slice ws e) done t y r u x q p in
      let l = length-reverse ws in
      let n = length_push done x in
      record {
        some = omega (arith, h.0);
        within = omega arith;
        is =
            h.1 ∙ get_or-reverse ws (length done) x.now (omega (arith, h.0)) ∙ get_or_default ws (length ws - 1 - length done) x.now 0 (omega (arith, h.0))
            ∙ ap (λ (i : ℕ). get_or ws i 0) (let q : length ws - 1 - length done ≡ place ws done - 1 = omega (arith, h.0) in q);
        next = omega arith;
      }

  -- at the end all are done
  pub turned : r ≡ None → rev_steps iter_steps_back t r u → place ws done ≡ 0
  turned q p =
      let h = YieldsList-end (YieldsList-from_rev_slice ws e) done t y r u q p in
      let l = length-reverse ws in
      omega (arith, h.1)

-- ---- one word more

module _ (ws : List ℕ) (done : List (Bor ℕ)) (x : Bor ℕ) (t : Turn ws done x) where
  pub legal-turn : AllLegal ws → Legal x.now
  legal-turn p = subst Legal (sym t.is) (p (place ws done - 1) (let a = t.some in let b = t.within in omega arith))

  pub types-turn : types_from (place ws (push done x)) ws ≡ type_of x.now ∷ types_from (place ws done) ws
  types-turn =
      ap (λ (i : ℕ). types_from i ws) t.next ∙ types-before ws (place ws done) t.some t.within
      ∙ ap (λ (k : ℕ). type_of k ∷ types_from (place ws done) ws) (sym t.is)

  module _ (w : World) where
    pub all-turn : (u : ArgType) → assignable_to_all w u (types_from (place ws (push done x)) ws) ≡ (is_assignable w u (type_of x.now) && assignable_to_all w u (types_from (place ws done) ws))
    unfolding assignable_to_all
    all-turn u = ap (assignable_to_all w u) types-turn

    pub least-turn : (upper : List ArgType) → least_hint w upper (types_from (place ws (push done x)) ws)
        ≡ candidate w upper (concrete_hint w.object (type_of x.now)) (least_hint w upper (types_from (place ws done) ws))
    unfolding least_hint
    least-turn upper = ap (least_hint w upper) types-turn
