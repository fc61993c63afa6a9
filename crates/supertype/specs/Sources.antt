-- The lowest of a set, sources first. A class that no class of the set has as a parent is reached from nobody else there: it is among
-- the lowest, and what it reaches is not. Only what no such class reaches is left to be looked at: it stands on a cycle or above
-- one. Over any good view.
use Rattle.std.specs.Prelude.{◌≡◌, refl, Bool, true, false, ◌&&◌, ◌||◌, List, ◌⊎◌, ℕ, ◌<◌, length, replicate}
use Rattle.std.proofs.Common.{sym, ap, ap₂, ◌∙◌, subst, true≢false, inl, inr, ⊎_elim, arith}
use Rattle.std.proofs.Math.Bool.{and-eq-true_iff, or-true}
use Rattle.std.proofs.Math.Decide.{ℕ_discrete}
use Rattle.sets.specs.Sets.{at, member, remove, unite, intersect, subtract, members, first}
use Rattle.sets.specs.Laws.{member-unite, length-unite, length-subtract, length-remove, member-intersect, members-all, lowest-none}
use Rattle.view.specs.View.{View, with_parents, reach, ancestor, ancestors}
use Rattle.view.specs.Grow.{empty-formed, with_parents-formed, with_parents-has}
use Rattle.view.specs.Reach.{Good, Path, here, there, reach-path, path-reach, reach-below, reach-trans}
use Rattle.view.specs.Ancestors.{ancestor-reach, reach-ancestor, ancestors-formed, ancestors-member}
use Rattle.view.specs.Frontier.{member-lt}
use Rattle.view.specs.Lows.{Strict, Lows, remove-in}
use Rattle.ancestry.specs.Spread.{Spread, less-only, less-has}

-- whoever is reached from a class of `others` is in `all`
abbrev pub Upward : View → List ℕ → List ℕ → Type 0
Upward v all others = (d e : ℕ) → member others d ≡ true → reach v d e ≡ true → member all e ≡ true

-- ---- a set of one class

pub lows-alone : (v : View) (all rest : List ℕ) (b : ℕ) → length all ≡ 16 → rest ≡ remove all b → first (at rest) 1024 ≡ 1024 → Lows v all all
lows-alone v all rest b l q e = record {
  size = l;
  has = λ c m none. m;
  inside = λ c m. m;
  free = λ c m d k s. true≢false (sym s.0 ∙ ap₂ (λ (x y : ℕ). reach v x y) (is-b d k ∙ sym (is-b c m)) (is-b c m ∙ sym (is-b d k)) ∙ s.1);
}
  where
    is-b : (c : ℕ) → member all c ≡ true → c ≡ b
    is-b c m = go (ℕ_discrete c b)
      where
        go : Dec (c ≡ b) → c ≡ b
        go (yes k) = k
        go (no n) =
            absurd
            (true≢false
            (sym (ap (λ (w : List ℕ). member w c) q ∙ remove-in all b c n ∙ m) ∙ lowest-none rest (ap length q ∙ length-remove all b ∙ l) e c))

-- ---- sources first

-- the sources are classes
pub sources-inside : (v : View) (all others direct sources : List ℕ) → length others ≡ 16 → ((c : ℕ) → member others c ≡ true → c < v.names)
    → direct ≡ with_parents v (replicate 16 0) (members (at all) 0 1024) → sources ≡ subtract others direct → (c : ℕ) → member sources c ≡ true → c < v.names
sources-inside v all others direct sources l inside d s c m =
    inside c
    (less-only others direct c l (ap length d ∙ (with_parents-formed v (replicate 16 0) (members (at all) 0 1024) empty-formed).0) (subst (λ (w : List ℕ). member w c ≡ true) s m)
    ).0

module _ (v : View) (g : Good v) (all others direct sources covered rest : List ℕ) (size-all : length all ≡ 16) (size-others : length others ≡ 16)
    (inside : (c : ℕ) → member others c ≡ true → c < v.names) (upward : Upward v all others)
    (is-direct : direct ≡ with_parents v (replicate 16 0) (members (at all) 0 1024)) (is-sources : sources ≡ subtract others direct)
    (spread : Spread v sources covered) (is-rest : rest ≡ subtract others covered) where
  size-direct : length direct ≡ 16
  size-direct = ap length is-direct ∙ (with_parents-formed v (replicate 16 0) (members (at all) 0 1024) empty-formed).0

  size-sources : length sources ≡ 16
  size-sources = ap length is-sources ∙ length-subtract others direct (size-others ∙ sym size-direct) ∙ size-others

  size-rest : length rest ≡ 16
  size-rest = ap length is-rest ∙ length-subtract others covered (size-others ∙ sym spread.formed.0) ∙ size-others

  source : (c : ℕ) → member sources c ≡ true → (member others c ≡ true) × (member direct c ≡ false)
  source c m = less-only others direct c size-others size-direct (subst (λ (w : List ℕ). member w c ≡ true) is-sources m)

  left : (c : ℕ) → member rest c ≡ true → (member others c ≡ true) × (member covered c ≡ false)
  left c m = less-only others covered c size-others spread.formed.0 (subst (λ (w : List ℕ). member w c ≡ true) is-rest m)

  -- what is left are classes
  pub rest-fits : (length rest ≡ 16) × ((c : ℕ) → member rest c ≡ true → c < v.names)
  rest-fits = (size-rest, λ c m. inside c (left c m).0)

  -- a source is reached from nobody else
  source-alone : (c d : ℕ) → member sources c ≡ true → member others d ≡ true → reach v d c ≡ true → d ≡ c
  source-alone c d m k r = go (reach-path v g d (inside d k) c r).2 (source c m).1
    where
      go : {z n : ℕ} → Path v d z n → member direct z ≡ false → d ≡ z
      go here out = refl
      go (there {y = e} {p = z} a q) out =
          let in-all = upward d e k (path-reach v g d (inside d k) a) in
          let few = g.few in
          let low = reach-below v g d (inside d k) z (path-reach v g d (inside d k) (there a q)) in
          absurd
          (true≢false
          (sym
          (subst (λ (w : List ℕ). member w z ≡ true) (sym is-direct)
          (with_parents-has v (replicate 16 0) (members (at all) 0 1024) e z empty-formed (omega arith) (members-all all 1024 e (member-lt all e size-all in-all) in-all) q))
          ∙ out))

  module _ (low r : List ℕ) (lows : Lows v rest low) (size-r : length r ≡ 16)
      (of-sources : (c : ℕ) → member sources c ≡ true → member r c ≡ true) (of_low : (c : ℕ) → member low c ≡ true → member r c ≡ true)
      (only : (c : ℕ) → member r c ≡ true → (member sources c ≡ true) ⊎ (member low c ≡ true)) where
    joined : Lows v others r
    joined = record {
      size = size-r;
      has = λ c m none. has c m none (member covered c) refl;
      inside = λ c m. ⊎_elim (λ k. (source c k).0) (λ k. (left c (lows.inside c k)).0) (only c m);
      free = λ c m d k s. ⊎_elim (λ q. of-source c d q k s) (λ q. of-rest c d q k s (member covered d) refl) (only c m);
    }
      where
        has : (c : ℕ) → member others c ≡ true → ((d : ℕ) → member others d ≡ true → Strict v d c → ⊥) → (b : Bool) → member covered c ≡ b → member r c ≡ true
        has c m none true q = go (reach v c x) refl
          where
            w : (x : ℕ) × (member sources x ≡ true) × (reach v x c ≡ true)
            w = spread.only c q

            x : ℕ
            x = w.0

            go : (b : Bool) → reach v c x ≡ b → member r c ≡ true
            go true p = of-sources c (subst (λ (z : ℕ). member sources z ≡ true) (sym (source-alone x c w.1 m p)) w.1)
            go false p = absurd (none x (source x w.1).0 (w.2, p))
        has c m none false q =
            of_low c
            (lows.has c (subst (λ (w : List ℕ). member w c ≡ true) (sym is-rest) (less-has others covered c size-others spread.formed.0 m q)) (λ d k s. none d (left d k).0 s))

        of-source : (c d : ℕ) → member sources c ≡ true → member others d ≡ true → Strict v d c → ⊥
        of-source c d m k s =
            let e = source-alone c d m k s.0 in
            true≢false (sym s.0 ∙ ap₂ (λ (x y : ℕ). reach v x y) e (sym e) ∙ s.1)

        of-rest : (c d : ℕ) → member low c ≡ true → member others d ≡ true → Strict v d c → (b : Bool) → member covered d ≡ b → ⊥
        of-rest c d m k s true q =
            let w = spread.only d q in
            true≢false (sym (spread.has w.0 c w.1 (reach-trans v g w.0 d c (inside w.0 (source w.0 w.1).0) w.2 s.0)) ∙ (left c (lows.inside c m)).1)
        of-rest c d m k s false q =
            lows.free c m d (subst (λ (w : List ℕ). member w d ≡ true) (sym is-rest) (less-has others covered d size-others spread.formed.0 k q)) s

  -- nothing is left: the sources are the lowest
  pub lows-sources : first (at rest) 1024 ≡ 1024 → Lows v others sources
  lows-sources e = joined rest sources (record { size = size-rest; has = λ c m none. m; inside = λ c m. m; free = λ c m d k s. nothing c m }) size-sources (λ c m. m) (λ c m. absurd (nothing c m)) (λ c m. inl m)
    where
      nothing : (c : ℕ) → member rest c ≡ true → ⊥
      nothing c m = true≢false (sym m ∙ lowest-none rest size-rest e c)

  -- else they are these and the lowest of what is left
  pub lows-joined : (low r : List ℕ) → Lows v rest low → r ≡ unite sources low → Lows v others r
  lows-joined low r lows q = joined low r lows (ap length q ∙ length-unite sources low (size-sources ∙ sym lows.size) ∙ size-sources) one two only
    where
      in-r : (c : ℕ) → member r c ≡ (member sources c || member low c)
      in-r c = ap (λ (w : List ℕ). member w c) q ∙ member-unite sources low c (size-sources ∙ sym lows.size)

      one : (c : ℕ) → member sources c ≡ true → member r c ≡ true
      one c m = in-r c ∙ ap (λ (b : Bool). b || member low c) m

      two : (c : ℕ) → member low c ≡ true → member r c ≡ true
      two c m = in-r c ∙ ap (λ (b : Bool). member sources c || b) m ∙ or-true (member sources c)

      only : (c : ℕ) → member r c ≡ true → (member sources c ≡ true) ⊎ (member low c ≡ true)
      only c m = go (member sources c) refl (sym (in-r c) ∙ m)
        where
          go : (b : Bool) → member sources c ≡ b → (b || member low c) ≡ true → (member sources c ≡ true) ⊎ (member low c ≡ true)
          go true p k = inl p
          go false p k = inr k

-- ---- the common ancestors

-- whoever is reached from a common ancestor other than Object is one
pub common-upward : (v : View) (g : Good v) (x y : ℕ) → x < v.names → y < v.names → (a b all : List ℕ) → a ≡ ancestors v x → b ≡ ancestors v y → all ≡ intersect a b
    → (d e : ℕ) → (d ≡ v.object → ⊥) → member all d ≡ true → reach v d e ≡ true → member all e ≡ true
common-upward v g x y hx hy a b all ea eb q d e n m r =
    in-all e
    ∙ ap₂ (λ (s t : Bool). s && t)
    (reach-ancestor v x e (reach-trans v g x d e hx (ancestor-reach v g x d hx n both.0) r))
    (reach-ancestor v y e (reach-trans v g y d e hy (ancestor-reach v g y d hy n both.1) r))
  where
    in-all : (c : ℕ) → member all c ≡ (ancestor v x c && ancestor v y c)
    in-all c =
        ap (λ (w : List ℕ). member w c) (q ∙ ap₂ (λ (s t : List ℕ). intersect s t) ea eb)
        ∙ member-intersect (ancestors v x) (ancestors v y) c ((ancestors-formed v g x hx).0 ∙ sym (ancestors-formed v g y hy).0)
        ∙ ap₂ (λ (s t : Bool). s && t) (ancestors-member v g x hx c) (ancestors-member v g y hy c)

    both : (ancestor v x d ≡ true) × (ancestor v y d ≡ true)
    both = (and-eq-true_iff (ancestor v x d) (ancestor v y d)).0 (sym (in-all d) ∙ m)
