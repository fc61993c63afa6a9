-- What the exported questions about classes return, in the words of the rows that the columns hold: of every result that their contracts allow,
-- as the check reads them, where it is not refused. Assumes nothing of cycles and of parents of Object.
use Rattle.std.specs.Prelude.{◌≡◌, refl, Bool, true, false, ◌⊎◌, ◌↔◌, ℕ, ◌-◌, ◌^◌, ◌≤◌, ◌<◌, eqb, length, replicate}
use Rattle.std.proofs.Math.Path.{sym, ap, subst}
use Rattle.std.proofs.Common.{◌∙◌, true≢false, eqb-true}
use Rattle.std.proofs.Math.Bool.{cond}
use mathlib.Core.List.{List, Memᴰ}
use Rattle.std.proofs.Math.Option.{Option, some, none}
use native.Mathlib.Omega.{arith}
use borrow.Fn.Kinds.{Dens, res_t, ended_of}
use denote.Triple.Clauses.{AtExit}
use contract.Lifetimes.{Lfts}
use Rattle.sets.specs.Sets.{at, member, members, first}
use Rattle.sorted.specs.Sorted.{Sorted}
use Rattle.view.specs.declared.Relation.TheVariants.{Yes, No, Unknown}
use Rattle.view.specs.View.{number_of, distance, ancestors, relation, relation_number, cast, nearer, supertype}
use Rattle.view.specs.Reach.{Good}
use Rattle.view.specs.Relations.{relation_number-injective}
use Rattle.columns.specs.Given.{Given}
use Rattle.tableview.specs.TableRows.{Rows, rows_view}
use Rattle.stackview.specs.LayerRows.{shown_in}
use Rattle.tableview.specs.Paths.{NoWay, Shortest, IsObject}
use Rattle.tableview.proofs.Paths.{Kind, near, top, neither, kind}
use Rattle.tableview.specs.Answers.{Ancestor, Whole, Lacking, ByFacts, LeastCommon}
use Rattle.tableview.proofs.Answers.{yes-rows, no-rows, unknown-rows, set-rows, list-rows, lowest-rows, members-sorted, cast-rows, supertype-rows, supertype-right-rows, supertype-left-rows, supertype-nearest-rows}
use Rattle.questions.specs.declared.Question.TheVariants.{Relation, Distance, Supertype, Cast}
use Rattle.questions.specs.declared.Ancestors.{Ancestors}
use Rattle.questions.specs.Questions.{question_refusal, ancestors_refusal, answered, gathered}
use Rattle.questionlaws.specs.Accepted.{accepted, accepted-class}
use Rattle.bracepuffin.proofs.bp_relation.Reads as bp-relation-reads
use Rattle.bracepuffin.proofs.bp_relation.Kinds as bp-relation-kinds
use Rattle.bracepuffin.proofs.bp_distance.Reads as bp-distance-reads
use Rattle.bracepuffin.proofs.bp_distance.Kinds as bp-distance-kinds
use Rattle.bracepuffin.proofs.bp_ancestors.Reads as bp-ancestors-reads
use Rattle.bracepuffin.proofs.bp_ancestors.Kinds as bp-ancestors-kinds
use Rattle.bracepuffin.proofs.bp_supertype.Reads as bp-supertype-reads
use Rattle.bracepuffin.proofs.bp_supertype.Kinds as bp-supertype-kinds
use Rattle.bracepuffin.proofs.bp_cast.Reads as bp-cast-reads
use Rattle.bracepuffin.proofs.bp_cast.Kinds as bp-cast-kinds
use Rattle.bracepuffin.specs.declared.BpRelation.{BpRelation}
use Rattle.bracepuffin.specs.declared.BpAnswer.{BpAnswer}
use Rattle.bracepuffin.specs.declared.BpSet.{BpSet}
use Rattle.bracepuffin.specs.Boundary.{relation_told, distance_told, ancestors_told, supertype_told, cast_told, set_answer}
use Rattle.demands.specs.Asked.{columns_asked, first_asked, second_asked, room_asked, columns_of_one, class_of_one, room_of_one}

-- ---- what each number says

-- 0 for an ancestor; 1 where it is none and every class that a way leads to has a row; 2 where it is none and some class has none
pub record RelationSays (t : Rows) (value expected n : ℕ) : Type 0 where
  pub yes : (n ≡ 0) ↔ Ancestor t value expected
  pub no : (n ≡ 1) ↔ ((Ancestor t value expected → ⊥) × Whole t value)
  pub unknown : (n ≡ 2) ↔ ((Ancestor t value expected → ⊥) × Lacking t value)

-- the length of a shortest way, which is below 1,024; far for an Object without a way; all ones for another without one
pub record DistanceSays (t : Rows) (value expected n : ℕ) : Type 0 where
  pub shortest : (k : ℕ) → ((n ≡ k) × (k < 1024)) ↔ Shortest t k value expected
  pub unreached : (n ≡ 4611686018427387903) ↔ (IsObject t expected × NoWay t value expected)
  pub absent : (n ≡ 2 ^ 64 - 1) ↔ ((IsObject t expected → ⊥) × NoWay t value expected)

-- the set has exactly the ancestors; how many they are, as an ascending list of them; and the least
pub record SetSays (t : Rows) (class : ℕ) (r : BpSet) : Type 0 where
  pub members : (y : ℕ) → (member r.words y ≡ true) ↔ Ancestor t class y
  pub listed : (l : List ℕ) × Sorted l × ((y : ℕ) → Memᴰ y l ↔ Ancestor t class y) × (r.count ≡ length l)
  pub least : Ancestor t class r.lowest × ((y : ℕ) → Ancestor t class y → r.lowest ≤ y)

-- a common ancestor, so a class and never none, with no common ancestor strictly below it: right where it is an ancestor of left, else left
-- where it is one of right, else the nearest of those
pub record SupertypeSays (t : Rows) (left right n : ℕ) : Type 0 where
  pub least : LeastCommon t left right n
  pub right-first : Ancestor t left right → n ≡ right
  pub left-next : (Ancestor t left right → ⊥) → Ancestor t right left → n ≡ left
  pub nearest : (Ancestor t left right → ⊥) → (Ancestor t right left → ⊥) → (d : ℕ) → LeastCommon t left right d → (d ≡ n) ⊎ (nearer (rows_view t) left right n d ≡ true)

-- 1 for an ancestor either way round, or by the facts of the last rows with flag 1; else 0
pub record CastSays (t : Rows) (source target n : ℕ) : Type 0 where
  pub passes : (n ≡ 1) ↔ (Ancestor t source target ⊎ (Ancestor t target source ⊎ ByFacts t source target))
  pub otherwise : (n ≡ 1 → ⊥) → n ≡ 0

-- ---- over a good table

module _ (t : Rows) (g : Good (rows_view t)) where
  relation-says : (x y : ℕ) → x < length t.names → RelationSays t x y (relation_number (relation (rows_view t) x y))
  unfolding relation_number
  relation-says x y h = record {
    yes = (λ e. (yes-rows t g x h y).0 (relation_number-injective (relation (rows_view t) x y) Yes e), λ w. ap relation_number ((yes-rows t g x h y).1 w));
    no = (λ e. (no-rows t g x h y).0 (relation_number-injective (relation (rows_view t) x y) No e), λ w. ap relation_number ((no-rows t g x h y).1 w));
    unknown = (λ e. (unknown-rows t g x h y).0 (relation_number-injective (relation (rows_view t) x y) Unknown e), λ w. ap relation_number ((unknown-rows t g x h y).1 w));
  }

  distance-says : (x y : ℕ) → x < length t.names → DistanceSays t x y (number_of (distance (rows_view t) x y))
  unfolding number_of
  distance-says x y h = go (distance (rows_view t) x y) (kind t g x h y)
    where
      go : (o : Option ℕ) → Kind t g x h y o → DistanceSays t x y (number_of o)
      go (some m) (near l s) = record {
        shortest = λ k. (
          λ w. subst (λ (i : ℕ). Shortest t i x y) w.0 s,
          λ w. let a = s.least k w.way in let b = w.least m s.way in (omega arith, omega arith),
        );
        unreached = (λ e. absurd (omega arith), λ w. absurd (w.1 m s.way));
        absent = (λ e. absurd (omega arith), λ w. absurd (w.1 m s.way));
      }
      go (some m) (top o w) = record {
        shortest = λ k. (λ v. absurd (omega (arith, v.0, v.1)), λ v. absurd (w k v.way));
        unreached = (λ e. (o, w), λ v. refl);
        absent = (λ e. absurd (omega arith), λ v. absurd (v.0 o));
      }
      go none (neither o w) = record {
        shortest = λ k. (λ v. absurd (omega (arith, v.0, v.1)), λ v. absurd (w k v.way));
        unreached = (λ e. absurd (omega arith), λ v. absurd (o v.0));
        absent = (λ e. (o, w), λ v. refl);
      }

  supertype-says : (l r : ℕ) → l < length t.names → r < length t.names → SupertypeSays t l r (number_of (supertype (rows_view t) l r))
  unfolding number_of
  supertype-says l r hl hr =
      let s = supertype-rows t g l r hl hr in
      subst (SupertypeSays t l r) (sym (ap number_of s.1)) (record {
        least = s.2;
        right-first = λ a. same s.0 r (sym s.1 ∙ supertype-right-rows t g l r hl hr a);
        left-next = λ f a. same s.0 l (sym s.1 ∙ supertype-left-rows t g l r hl hr f a);
        nearest = λ f k d w. supertype-nearest-rows t g l r hl hr f k s.0 s.1 d w;
      })
    where
      same : (c d : ℕ) → some c ≡ some d → c ≡ d
      same c d e = cc

  cast-says : (s e : ℕ) → s < length t.names → e < length t.names → CastSays t s e (cond (cast (rows_view t) s e) 1 0)
  cast-says s e hs he = go (cast (rows_view t) s e) refl
    where
      go : (b : Bool) → cast (rows_view t) s e ≡ b → CastSays t s e (cond b 1 0)
      go true q = record { passes = (λ z. (cast-rows t g s e hs he).0 q, λ w. refl); otherwise = λ n. absurd (n refl) }
      go false q = record { passes = (λ z. absurd (omega arith), λ w. absurd (true≢false (sym ((cast-rows t g s e hs he).1 w) ∙ q))); otherwise = λ n. refl }

-- ---- of what the contracts say

-- an answer that is not refused is its value
pub answer-is : (k v : ℕ) → k ≡ 0 → (answered k v).value ≡ v
unfolding answered
answer-is k v e = rw e

pub answer-refusal : (k v : ℕ) → (answered k v).refusal ≡ k
unfolding answered
answer-refusal k v = refl

pub gathered-refusal : (k : ℕ) (s : List ℕ) → (gathered k s).refusal ≡ k
unfolding gathered
gathered-refusal k s = go (eqb k 0) refl
  where
    go : (b : Bool) → eqb k 0 ≡ b
        → (cond {A = Ancestors} b (record { refusal = 0; count = length (members (at s) 0 1024); lowest = first (at s) 1024; set = record { words = s } })
        (record { refusal = k; count = 0; lowest = 0; set = record { words = replicate 16 0 } })).refusal ≡ k
    go true e = sym (eqb-true k 0 e)
    go false e = refl

module _ (g : Given) where
  relation-told : (x y room : ℕ) (r : BpRelation) → r ≡ relation_told g x y room → r.refusal ≡ 0 → RelationSays (shown_in g) x y r.relation
  unfolding relation_told rows_view
  relation-told x y room r e z =
      let v = relation_number (relation (rows_view (shown_in g)) x y) in
      let k = question_refusal g Relation x y room in
      let zero-is : k ≡ 0 = sym (answer-refusal k v) ∙ sym (ap (λ (q : BpRelation). q.refusal) e) ∙ z in
      let w = accepted g Relation x y room zero-is in
      subst (RelationSays (shown_in g) x y) (sym (ap (λ (q : BpRelation). q.relation) e ∙ answer-is k v zero-is)) (relation-says (shown_in g) w.good x y w.numbers-in.0)

  distance-told : (x y room : ℕ) (r : BpAnswer) → r ≡ distance_told g x y room → r.refusal ≡ 0 → DistanceSays (shown_in g) x y r.value
  unfolding distance_told rows_view
  distance-told x y room r e z =
      let v = number_of (distance (rows_view (shown_in g)) x y) in
      let k = question_refusal g Distance x y room in
      let zero-is : k ≡ 0 = sym (answer-refusal k v) ∙ sym (ap (λ (q : BpAnswer). q.refusal) e) ∙ z in
      let w = accepted g Distance x y room zero-is in
      subst (DistanceSays (shown_in g) x y) (sym (ap (λ (q : BpAnswer). q.value) e ∙ answer-is k v zero-is)) (distance-says (shown_in g) w.good x y w.numbers-in.0)

  supertype-told : (l m room : ℕ) (r : BpAnswer) → r ≡ supertype_told g l m room → r.refusal ≡ 0 → SupertypeSays (shown_in g) l m r.value
  unfolding supertype_told rows_view
  supertype-told l m room r e z =
      let v = number_of (supertype (rows_view (shown_in g)) l m) in
      let k = question_refusal g Supertype l m room in
      let zero-is : k ≡ 0 = sym (answer-refusal k v) ∙ sym (ap (λ (q : BpAnswer). q.refusal) e) ∙ z in
      let w = accepted g Supertype l m room zero-is in
      subst (SupertypeSays (shown_in g) l m) (sym (ap (λ (q : BpAnswer). q.value) e ∙ answer-is k v zero-is)) (supertype-says (shown_in g) w.good l m w.numbers-in.0 w.numbers-in.1)

  cast-told : (x y room : ℕ) (r : BpAnswer) → r ≡ cast_told g x y room → r.refusal ≡ 0 → CastSays (shown_in g) x y r.value
  unfolding cast_told rows_view
  cast-told x y room r e z =
      let v = cond {A = ℕ} (cast (rows_view (shown_in g)) x y) 1 0 in
      let k = question_refusal g Cast x y room in
      let zero-is : k ≡ 0 = sym (answer-refusal k v) ∙ sym (ap (λ (q : BpAnswer). q.refusal) e) ∙ z in
      let w = accepted g Cast x y room zero-is in
      subst (CastSays (shown_in g) x y) (sym (ap (λ (q : BpAnswer). q.value) e ∙ answer-is k v zero-is)) (cast-says (shown_in g) w.good x y w.numbers-in.0 w.numbers-in.1)

  ancestors-told : (c room : ℕ) (r : BpSet) → r ≡ ancestors_told g c room → r.refusal ≡ 0 → SetSays (shown_in g) c r
  unfolding ancestors_told rows_view gathered
  ancestors-told c room r e z =
      let s = ancestors (rows_view (shown_in g)) c in
      let k = ancestors_refusal g c room in
      let zero-is : k ≡ 0 = sym (gathered-refusal k s) ∙ sym (ap (λ (q : BpSet). q.refusal) e) ∙ z in
      let w = accepted-class g c room zero-is in
      subst (SetSays (shown_in g) c) (sym (e ∙ ap (λ (n : ℕ). set_answer (gathered n s)) zero-is)) (record {
        members = set-rows (shown_in g) w.good c w.numbers-in.0;
        listed = (members (at s) 0 1024, members-sorted (at s) 0 1024, list-rows (shown_in g) w.good c w.numbers-in.0, refl);
        least = lowest-rows (shown_in g) w.good c w.numbers-in.0;
      })

-- ---- OF WHAT THE EXPORTED FUNCTIONS RETURN

-- BP_RELATION TELLS WHETHER expected IS AN ANCESTOR OF value
pub bp-relation : (κs : Lfts 9) (a : Dens κs bp-relation-kinds.ps) (r : (res_t bp-relation-kinds.r κs).Denot) (x : AtExit (ended_of 9 bp-relation-kinds.ps bp-relation-kinds.r) κs)
    → bp-relation-reads.Post κs a r x → r.refusal ≡ 0 → RelationSays (shown_in (columns_asked κs a)) (first_asked κs a) (second_asked κs a) r.relation
bp-relation κs a r x p z = relation-told (columns_asked κs a) (first_asked κs a) (second_asked κs a) (room_asked κs a) r p.0 z

-- BP_DISTANCE THE LENGTH OF A SHORTEST WAY
pub bp-distance : (κs : Lfts 9) (a : Dens κs bp-distance-kinds.ps) (r : (res_t bp-distance-kinds.r κs).Denot) (x : AtExit (ended_of 9 bp-distance-kinds.ps bp-distance-kinds.r) κs)
    → bp-distance-reads.Post κs a r x → r.refusal ≡ 0 → DistanceSays (shown_in (columns_asked κs a)) (first_asked κs a) (second_asked κs a) r.value
bp-distance κs a r x p z = distance-told (columns_asked κs a) (first_asked κs a) (second_asked κs a) (room_asked κs a) r p.0 z

-- BP_SUPERTYPE A LEAST COMMON SUPERTYPE
pub bp-supertype : (κs : Lfts 9) (a : Dens κs bp-supertype-kinds.ps) (r : (res_t bp-supertype-kinds.r κs).Denot) (x : AtExit (ended_of 9 bp-supertype-kinds.ps bp-supertype-kinds.r) κs)
    → bp-supertype-reads.Post κs a r x → r.refusal ≡ 0 → SupertypeSays (shown_in (columns_asked κs a)) (first_asked κs a) (second_asked κs a) r.value
bp-supertype κs a r x p z = supertype-told (columns_asked κs a) (first_asked κs a) (second_asked κs a) (room_asked κs a) r p.0 z

-- BP_CAST WHETHER A CAST PASSES
pub bp-cast : (κs : Lfts 9) (a : Dens κs bp-cast-kinds.ps) (r : (res_t bp-cast-kinds.r κs).Denot) (x : AtExit (ended_of 9 bp-cast-kinds.ps bp-cast-kinds.r) κs)
    → bp-cast-reads.Post κs a r x → r.refusal ≡ 0 → CastSays (shown_in (columns_asked κs a)) (first_asked κs a) (second_asked κs a) r.value
bp-cast κs a r x p z = cast-told (columns_asked κs a) (first_asked κs a) (second_asked κs a) (room_asked κs a) r p.0 z

-- BP_ANCESTORS THE SET OF ANCESTORS
pub bp-ancestors : (κs : Lfts 9) (a : Dens κs bp-ancestors-kinds.ps) (r : (res_t bp-ancestors-kinds.r κs).Denot) (x : AtExit (ended_of 9 bp-ancestors-kinds.ps bp-ancestors-kinds.r) κs)
    → bp-ancestors-reads.Post κs a r x → r.refusal ≡ 0 → SetSays (shown_in (columns_of_one κs a)) (class_of_one κs a) r
bp-ancestors κs a r x p z = ancestors-told (columns_of_one κs a) (class_of_one κs a) (room_of_one κs a) r p.0 z
