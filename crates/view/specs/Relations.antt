-- The answers of `relation` and `cast`: when each is given. Assumes nothing of cycles.
use Rattle.std.specs.Prelude.{◌≡◌, Bool, ◌&&◌, ◌||◌, ◌⊎◌, ◌↔◌, ℕ, ◌<◌}
use Rattle.std.proofs.Math.Path.{refl, ap, subst}
use Rattle.std.proofs.Common.{sym, ◌∙◌, true≢false, inl, inr, arith, eqb-true}
use Rattle.std.proofs.Math.Bool.{true, false, cond, or-true}
use Rattle.std.proofs.lemmas.Bool.{false≢true, eqb-false}
use mathlib.Core.List.Memᴰ
use mathlib.Core.List.{List, [], ◌∷◌, Memᴰ}
use Rattle.std.proofs.Math.Dec.{eqb}
use Rattle.sets.specs.Sets.{at, members}
use Rattle.sets.specs.Laws.{members-only, members-all}
use Rattle.view.specs.declared.Relation.{Relation}
use Rattle.view.specs.declared.Relation.TheVariants.{Yes, No, Unknown}
use Rattle.view.specs.View.{View, reached, reach, ancestor, all_recorded, complete, relation, relation_number, cast_by_facts, cast}
use Rattle.view.specs.Reach.{Good, reach-refl, reach-below, reach-parent, reach-alone}
use Rattle.view.specs.Ancestors.{ancestor-object, reach-ancestor, ancestor-or}

-- ---- the three answers by the two tests of `relation`: is it an ancestor, and is all that is reached recorded?

yes-when : (a c : Bool) → cond a Yes (cond c No Unknown) ≡ Yes → a ≡ true
yes-when true c e = refl
yes-when false true e = absurd (let z : ◌≡◌ {A = ℕ} 0 1 = cc in omega arith)
yes-when false false e = absurd (let z : ◌≡◌ {A = ℕ} 0 1 = cc in omega arith)

no-when : (a c : Bool) → cond a Yes (cond c No Unknown) ≡ No → (a ≡ false) × (c ≡ true)
no-when true c e = absurd (let z : ◌≡◌ {A = ℕ} 0 1 = cc in omega arith)
no-when false true e = (refl, refl)
no-when false false e = absurd (let z : ◌≡◌ {A = ℕ} 0 1 = cc in omega arith)

unknown-when : (a c : Bool) → cond a Yes (cond c No Unknown) ≡ Unknown → (a ≡ false) × (c ≡ false)
unknown-when true c e = absurd (let z : ◌≡◌ {A = ℕ} 0 1 = cc in omega arith)
unknown-when false true e = absurd (let z : ◌≡◌ {A = ℕ} 0 1 = cc in omega arith)
unknown-when false false e = (refl, refl)

-- the numbers tell the answers apart
pub relation_number-injective : (a b : Relation) → relation_number a ≡ relation_number b → a ≡ b
unfolding relation_number
relation_number-injective Yes Yes e = refl
relation_number-injective Yes No e = absurd (omega arith)
relation_number-injective Yes Unknown e = absurd (omega arith)
relation_number-injective No Yes e = absurd (omega arith)
relation_number-injective No No e = refl
relation_number-injective No Unknown e = absurd (omega arith)
relation_number-injective Unknown Yes e = absurd (omega arith)
relation_number-injective Unknown No e = absurd (omega arith)
relation_number-injective Unknown Unknown e = refl

module _ (v : View) where
  -- ---- whether all of a list have a record

  all-recorded : (cs : List ℕ) → all_recorded v cs ≡ true → (c : ℕ) → Memᴰ c cs → v.recorded c ≡ true
  unfolding all_recorded
  all-recorded [] e c m = absurd (Memᴰ.not-nil m)
  all-recorded (d ∷ cs) e c m = go (v.recorded d) refl e (all-recorded cs) (Memᴰ.cases_cons m)
    where
      go : (t : Bool) → v.recorded d ≡ t → (t && all_recorded v cs) ≡ true → (all_recorded v cs ≡ true → (c : ℕ) → Memᴰ c cs → v.recorded c ≡ true)
          → (c ≡ d) ⊎ Memᴰ c cs → v.recorded c ≡ true
      go true q f ih (inl k) = ap v.recorded k ∙ q
      go true q f ih (inr r) = ih f c r
      go false q f ih w = absurd (false≢true f)

  one-unrecorded : (cs : List ℕ) → all_recorded v cs ≡ false → (c : ℕ) × Memᴰ c cs × (v.recorded c ≡ false)
  unfolding all_recorded
  one-unrecorded [] e = absurd (true≢false e)
  one-unrecorded (d ∷ cs) e = go (v.recorded d) refl e (one-unrecorded cs)
    where
      go : (t : Bool) → v.recorded d ≡ t → (t && all_recorded v cs) ≡ false → (all_recorded v cs ≡ false → (c : ℕ) × Memᴰ c cs × (v.recorded c ≡ false))
          → (c : ℕ) × Memᴰ c (d ∷ cs) × (v.recorded c ≡ false)
      go true q f ih = let w = ih f in (w.0, Memᴰ.tail w.1, w.2)
      go false q f ih = (d, Memᴰ.head refl, q)

  -- YES exactly for an ancestor
  pub relation-yes : (x y : ℕ) → (relation v x y ≡ Yes) ↔ (ancestor v x y ≡ true)
  unfolding relation
  relation-yes x y = (yes-when (ancestor v x y) (complete v x), λ a. ap (λ (t : Bool). cond t Yes (cond (complete v x) No Unknown)) a)

  -- ---- casts

  -- Object as the target or as the source always passes
  pub cast-to-object : (x : ℕ) → cast v x v.object ≡ true
  unfolding cast
  cast-to-object x = rw (ancestor-object v x)

  pub cast-from-object : (x : ℕ) → cast v v.object x ≡ true
  unfolding cast
  cast-from-object x = rw (ancestor-object v x, or-true (ancestor v v.object x))

  -- with no ancestor either way, a side that was not declared fails
  pub cast-undeclared : (s t : ℕ) → (ancestor v s t || ancestor v t s) ≡ false → (v.declared s && v.declared t) ≡ false → cast v s t ≡ false
  unfolding cast
  cast-undeclared s t a d = rw (a, d)

  -- source and target may be exchanged
  pub cast-swap : (s t : ℕ) → cast v s t ≡ cast v t s
  unfolding cast cast_by_facts
  cast-swap s t = go (ancestor v s t) (ancestor v t s) (v.declared s) (v.declared t) (v.interface s) (v.interface t)
    where
      go : (a b d e i j : Bool)
          → ((a || b) || ((d && e) && cast_by_facts i (v.final s) j (v.final t))) ≡ ((b || a) || ((e && d) && cast_by_facts j (v.final t) i (v.final s)))
      go true true d e i j = refl
      go true false d e i j = refl
      go false true d e i j = refl
      go false false true true true true = refl
      go false false true true true false = refl
      go false false true true false true = refl
      go false false true true false false = refl
      go false false true false i j = refl
      go false false false true i j = refl
      go false false false false i j = refl

module _ (v : View) (g : Good v) (x : ℕ) (h : x < v.names) where
  -- ---- COMPLETE exactly if every reached class, x included, has a record

  pub complete-exactly : (complete v x ≡ true) ↔ ((c : ℕ) → reach v x c ≡ true → v.recorded c ≡ true)
  unfolding complete reach
  complete-exactly = (λ e c m. all-recorded v (members (at (reached v x)) 0 1024) e c (listed c m), λ all. back (complete v x) refl all)
    where
      listed : (c : ℕ) → reach v x c ≡ true → Memᴰ c (members (at (reached v x)) 0 1024)
      listed c m = members-all (reached v x) 1024 c (let b = reach-below v g x h c m in let f = g.few in omega arith) m

      back : (t : Bool) → complete v x ≡ t → ((c : ℕ) → reach v x c ≡ true → v.recorded c ≡ true) → t ≡ true
      back true e all = refl
      back false e all =
          let w = one-unrecorded v (members (at (reached v x)) 0 1024) e in
          absurd (true≢false (sym (all w.0 (members-only (reached v x) 1024 w.0 w.1)) ∙ w.2))

  pub incomplete-exactly : (complete v x ≡ false) ↔ ((c : ℕ) × (reach v x c ≡ true) × (v.recorded c ≡ false))
  unfolding complete reach
  incomplete-exactly = (
    λ e. let w = one-unrecorded v (members (at (reached v x)) 0 1024) e in (w.0, members-only (reached v x) 1024 w.0 w.1, w.2),
    λ w. back (complete v x) refl w,
  )
    where
      back : (t : Bool) → complete v x ≡ t → ((c : ℕ) × (reach v x c ≡ true) × (v.recorded c ≡ false)) → t ≡ false
      back true e w = absurd (true≢false (sym (complete-exactly.0 e w.0 w.1) ∙ w.2))
      back false e w = refl

  -- NO exactly if it is no ancestor and all that is reached is recorded
  pub relation-no : (y : ℕ) → (relation v x y ≡ No) ↔ ((ancestor v x y ≡ false) × ((c : ℕ) → reach v x c ≡ true → v.recorded c ≡ true))
  unfolding relation
  relation-no y = (
    λ e. let w = no-when (ancestor v x y) (complete v x) e in (w.0, complete-exactly.0 w.1),
    λ w. let c = complete-exactly.1 w.1 in rw (w.0, c),
  )

  -- UNKNOWN exactly if it is no ancestor and something reached is not recorded
  pub relation-unknown : (y : ℕ) → (relation v x y ≡ Unknown) ↔ ((ancestor v x y ≡ false) × ((c : ℕ) × (reach v x c ≡ true) × (v.recorded c ≡ false)))
  unfolding relation
  relation-unknown y = (
    λ e. let w = unknown-when (ancestor v x y) (complete v x) e in (w.0, incomplete-exactly.0 w.1),
    λ w. let c = incomplete-exactly.1 w.1 in rw (w.0, c),
  )

  -- a class without a record, and so without parents: Yes for itself and Object, else Unknown
  pub relation-unrecorded : v.recorded x ≡ false → v.parents x ≡ [] → (y : ℕ) → relation v x y ≡ cond (eqb y v.object || eqb x y) Yes Unknown
  unfolding relation
  relation-unrecorded r p y =
      ap (λ (t : Bool). cond t Yes (cond (complete v x) No Unknown)) (ancestor-or v g x y h ∙ ap (λ (t : Bool). eqb y v.object || t) (alone (eqb x y) refl))
      ∙ ap (λ (t : Bool). cond (eqb y v.object || eqb x y) Yes (cond t No Unknown)) (incomplete-exactly.1 (x, reach-refl v g x h, r))
    where
      alone : (t : Bool) → eqb x y ≡ t → reach v x y ≡ t
      alone true e = subst (λ (z : ℕ). reach v x z ≡ true) (eqb-true x y e) (reach-refl v g x h)
      alone false e = not-reached (reach v x y) refl
        where
          not-reached : (t : Bool) → reach v x y ≡ t → t ≡ false
          not-reached true m = absurd (eqb-false x y e (sym (reach-alone v g x h p y m)))
          not-reached false m = refl

  -- the search for completeness finds no Yes of its own: what is a parent of something reached is an ancestor
  pub no-late-yes : (c y : ℕ) → reach v x c ≡ true → Memᴰ y (v.parents c) → relation v x y ≡ Yes
  no-late-yes c y m p = (relation-yes v x y).1 (reach-ancestor v x y (reach-parent v g x h c y m p))
