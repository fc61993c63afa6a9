-- The answers of the queries, by the tests that the code makes.
use mathlib.Core.Path.{◌≡◌, refl, sym, ap, ◌∙◌}
use mathlib.Core.Bool.{Bool, true, false, not, ◌&&◌, false≢true}
use mathlib.Core.List.Memᴰ
use mathlib.Core.List.{List, [], ◌∷◌, Memᴰ}
use mathlib.Core.Logic.{⊎_elim}
use Prim.Native.Nat.{ℕ, ◌<◌}
use native.Mathlib.Omega.{arith}
use borrow.Author.Tests.{eq-eqb, ne_eqb}
use lib.ListN.{length}
use Rattle.sets.specs.Sets.{at, member, subtract, members, first}
use Rattle.sets.specs.Bits.{first-le}
use Rattle.sets.specs.Laws.{member-subtract, members-only, members-all, length-subtract, lowest-none, lowest-member}
use Rattle.tables.specs.declared.Tables.{Tables}
use Rattle.view.specs.declared.Relation.TheVariants.{Yes, No, Unknown}
use Rattle.view.specs.View.{View, reached, reach, ancestor, all_recorded, complete, relation, cast_by_facts, cast}
use Rattle.view.specs.Reach.{level-formed}
use Rattle.tables.specs.Table.{marks_room, mark, mark-length, view_of}
use Rattle.hierarchy.specs.Walked.{cast_marked}

reached-length : (v : View) (x : ℕ) → length (reached v x) ≡ 16
unfolding reached
reached-length v x = (level-formed v v.names x).0

-- ---- whether all of a list are recorded

module _ (v : View) where
  all-true : (cs : List ℕ) → ((c : ℕ) → Memᴰ c cs → v.recorded c ≡ true) → all_recorded v cs ≡ true
  unfolding all_recorded
  all-true [] h = refl
  all-true (c ∷ cs) h = ap (λ (b : Bool). b && all_recorded v cs) (h c (Memᴰ.head refl)) ∙ all-true cs (λ d m. h d (Memᴰ.tail m))

  all-false : (cs : List ℕ) (c : ℕ) → Memᴰ c cs → v.recorded c ≡ false → all_recorded v cs ≡ false
  unfolding all_recorded
  all-false [] c m n = absurd (Memᴰ.not-nil m)
  all-false (d ∷ cs) c m n =
      ⊎_elim (λ e. ap (λ (b : Bool). b && all_recorded v cs) (ap v.recorded (sym e) ∙ n)) (λ t. go (v.recorded d) (all-false cs c t n)) (Memᴰ.cases_cons m)
    where
      go : (b : Bool) → all_recorded v cs ≡ false → (b && all_recorded v cs) ≡ false
      go true e = e
      go false e = refl

  -- ALL OF s ARE RECORDED EXACTLY IF s WITHOUT THE RECORDED IS EMPTY
  module _ (s known : List ℕ) (ls : length s ≡ 16) (lk : length known ≡ 16) (is : (c : ℕ) → v.recorded c ≡ member known c) where
    pub recorded-all : first (at (subtract s known)) 1024 ≡ 1024 → all_recorded v (members (at s) 0 1024) ≡ true
    recorded-all f =
        all-true (members (at s) 0 1024)
        (λ c m.
        is c
        ∙ kept (member s c) (member known c) (members-only s 1024 c m)
        (sym (member-subtract s known c (ls ∙ sym lk)) ∙ lowest-none (subtract s known) (length-subtract s known (ls ∙ sym lk) ∙ ls) f c))
      where
        kept : (a b : Bool) → a ≡ true → (a && not b) ≡ false → b ≡ true
        kept true true q r = refl
        kept true false q r = sym r
        kept false b q r = absurd (false≢true q)

    pub recorded-not-all : (first (at (subtract s known)) 1024 ≡ 1024 → ⊥) → all_recorded v (members (at s) 0 1024) ≡ false
    recorded-not-all f = all-false (members (at s) 0 1024) c (members-all s 1024 c below both.0) (is c ∙ both.1)
      where
        c : ℕ
        c = first (at (subtract s known)) 1024

        below : c < 1024
        below = let l = first-le (at (subtract s known)) 1024 in omega arith

        split : (a b : Bool) → (a && not b) ≡ true → (a ≡ true) × (b ≡ false)
        split true true q = absurd (false≢true q)
        split true false q = (refl, refl)
        split false b q = absurd (false≢true q)

        both : (member s c ≡ true) × (member known c ≡ false)
        both = split (member s c) (member known c) (sym (member-subtract s known c (ls ∙ sym lk)) ∙ lowest-member (subtract s known) 1024 below)

-- ---- relation

module _ (pairs marks : List ℕ) (t : Tables) (value expected : ℕ) where
  pub relation-equal : value ≡ expected → Yes ≡ relation (view_of pairs marks t) value expected
  unfolding relation ancestor
  relation-equal e = simp (eq-eqb value expected e)

  module _ (n : value ≡ expected → ⊥) where
    pub relation-object : expected ≡ t.object → Yes ≡ relation (view_of pairs marks t) value expected
    unfolding relation ancestor
    relation-object e = simp (ne_eqb value expected n, eq-eqb expected t.object e)

    module _ (o : expected ≡ t.object → ⊥) where
      pub relation-reached : reach (view_of pairs marks t) value expected ≡ true → Yes ≡ relation (view_of pairs marks t) value expected
      unfolding relation ancestor
      relation-reached r = simp (ne_eqb value expected n, ne_eqb expected t.object o, r)

      module _ (l : length marks ≡ marks_room) (r : reach (view_of pairs marks t) value expected ≡ false) (missing : List ℕ)
          (e : missing ≡ subtract (reached (view_of pairs marks t) value) (mark marks 0)) where
        pub relation-no : first (at missing) 1024 ≡ 1024 → No ≡ relation (view_of pairs marks t) value expected
        unfolding relation ancestor complete
        relation-no f =
            simp (
              ne_eqb value expected n,
              ne_eqb expected t.object o,
              r,
              recorded-all (view_of pairs marks t) (reached (view_of pairs marks t) value) (mark marks 0) (reached-length (view_of pairs marks t) value) (mark-length marks 0 l (omega arith)) (λ c. refl)
                  (ap (λ (s : List ℕ). first (at s) 1024) (sym e) ∙ f),
            )

        pub relation-unknown : (first (at missing) 1024 ≡ 1024 → ⊥) → Unknown ≡ relation (view_of pairs marks t) value expected
        unfolding relation ancestor complete
        relation-unknown f =
            simp (
              ne_eqb value expected n,
              ne_eqb expected t.object o,
              r,
              recorded-not-all (view_of pairs marks t) (reached (view_of pairs marks t) value) (mark marks 0) (reached-length (view_of pairs marks t) value) (mark-length marks 0 l (omega arith)) (λ c. refl)
                  (λ g. f (ap (λ (s : List ℕ). first (at s) 1024) e ∙ g)),
            )

-- ---- cast

module _ (marks : List ℕ) (s t : ℕ) where
  pub undeclared-source : member (mark marks 1) s ≡ false → false ≡ cast_marked marks s t
  unfolding cast_marked
  undeclared-source d = simp d

  module _ (d : member (mark marks 1) s ≡ true) where
    pub undeclared-target : member (mark marks 1) t ≡ false → false ≡ cast_marked marks s t
    unfolding cast_marked
    undeclared-target e = simp (d, e)

    module _ (e : member (mark marks 1) t ≡ true) where
      pub both-interfaces : member (mark marks 2) s ≡ true → member (mark marks 2) t ≡ true → true ≡ cast_marked marks s t
      unfolding cast_marked cast_by_facts
      both-interfaces i j = simp (d, e, i, j)

      pub source-interface : member (mark marks 2) s ≡ true → member (mark marks 2) t ≡ false → not (member (mark marks 3) t) ≡ cast_marked marks s t
      unfolding cast_marked cast_by_facts
      source-interface i j = simp (d, e, i, j)

      pub target-interface : member (mark marks 2) s ≡ false → member (mark marks 2) t ≡ true → not (member (mark marks 3) s) ≡ cast_marked marks s t
      unfolding cast_marked cast_by_facts
      target-interface i j = simp (d, e, i, j)

      pub no-interface : member (mark marks 2) s ≡ false → member (mark marks 2) t ≡ false → false ≡ cast_marked marks s t
      unfolding cast_marked cast_by_facts
      no-interface i j = simp (d, e, i, j)

module _ (pairs marks : List ℕ) (t : Tables) (source target : ℕ) where
  pub cast-up : ancestor (view_of pairs marks t) source target ≡ true → true ≡ cast (view_of pairs marks t) source target
  unfolding cast
  cast-up a = simp (a)

  pub cast-down : ancestor (view_of pairs marks t) source target ≡ false → ancestor (view_of pairs marks t) target source ≡ true → true ≡ cast (view_of pairs marks t) source target
  unfolding cast
  cast-down a b = simp (a, b)

  pub cast-facts : ancestor (view_of pairs marks t) source target ≡ false → ancestor (view_of pairs marks t) target source ≡ false
      → cast_marked marks source target ≡ cast (view_of pairs marks t) source target
  unfolding cast cast_marked
  cast-facts a b = simp (a, b)
