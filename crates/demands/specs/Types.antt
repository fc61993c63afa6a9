-- What the exported questions about types return, in the words of the rows that the columns hold: of every result that their contracts allow,
-- as the check reads them, where it is not refused. Assumes nothing of cycles and of parents of Object.
use Rattle.std.specs.Prelude.{◌≡◌, refl, Bool, true, false, ◌||◌, ◌⊎◌, ◌↔◌, ℕ, ◌^◌, ◌≤◌, ◌<◌, eqb, length}
use Rattle.std.proofs.Math.Path.{sym, subst}
use Rattle.std.proofs.Common.{ap, ap₂, ◌∙◌, true≢false, inl, inr, ⊎_elim, arith, ltb-true, leb-true, eqb-true, eq-eqb}
use Rattle.std.proofs.Math.Bool.{cond}
use Rattle.std.proofs.Math.Option.{some}
use borrow.Fn.Kinds.{Dens, res_t, ended_of}
use denote.Triple.Clauses.{AtExit}
use contract.Lifetimes.{Lfts}
use Rattle.ty.specs.Types.{ArgType, Primitive, Object, Array, is_concrete, is_primitive}
use Rattle.ty.specs.Words.{type_of, word_of, legal_word, legal_at_base, legal_type}
use Rattle.ty.specs.Round.{legal-of-word, word-type}
use Rattle.view.specs.Reach.{Good}
use Rattle.lattice.specs.Lattice.{World, assignable_apart, is_assignable, join}
use Rattle.lattice.specs.References.{assignable-self, assignable-arrays, same-primitives, primitive-arrays}
use Rattle.lattice.specs.Jls.{widens, assignable-widens}
use Rattle.lattice.specs.Legality.{legal-base}
use Rattle.rows.specs.Rows.{cloneable_name, serializable_name}
use Rattle.columns.specs.Given.{Given}
use Rattle.tableview.specs.TableRows.{Rows, place_of, rows_view, rows_world}
use Rattle.stackview.specs.LayerRows.{shown_in}
use Rattle.tableview.specs.Paths.{IsObject}
use Rattle.tableview.specs.Answers.{Ancestor, Whole, LeastCommon}
use Rattle.tableview.proofs.Answers.{join-rows-legal, join-rows-above, join-rows-classes, assignable-rows-classes, assignable-rows-array}
use Rattle.questions.specs.declared.Question.TheVariants.{Join, Assignable}
use Rattle.questions.specs.Questions.{question_refusal}
use Rattle.questionlaws.specs.Accepted.{accepted}
use Rattle.bracepuffin.proofs.bp_join.Reads as bp-join-reads
use Rattle.bracepuffin.proofs.bp_join.Kinds as bp-join-kinds
use Rattle.bracepuffin.proofs.bp_assignable.Reads as bp-assignable-reads
use Rattle.bracepuffin.proofs.bp_assignable.Kinds as bp-assignable-kinds
use Rattle.bracepuffin.specs.declared.BpAnswer.{BpAnswer}
use Rattle.bracepuffin.specs.Boundary.{join_told, assignable_told}
use Rattle.demands.specs.Asked.{columns_asked, first_asked, second_asked, room_asked}
use Rattle.demands.specs.Classes.{answer-is, answer-refusal}

-- ---- what each number says

-- a legal word of 64 bits, that of the join; both are assignable to it where they are concrete; of two classes it is a least common supertype
pub record JoinSays (t : Rows) (left right w : ℕ) : Type 0 where
  pub legal : (legal_word (length t.names) w ≡ true) × (w < 2 ^ 64)
  pub type : type_of w ≡ join (rows_world t) (type_of left) (type_of right)
  pub above : is_concrete (type_of left) ≡ true → is_concrete (type_of right) ≡ true
      → (is_assignable (rows_world t) (type_of left) (type_of w) ≡ true) × (is_assignable (rows_world t) (type_of right) (type_of w) ≡ true)
  pub classes : (c d : ℕ) → type_of left ≡ Object c → type_of right ≡ Object d → (e : ℕ) × (type_of w ≡ Object e) × LeastCommon t c d e

-- 1 or 0; 1 for equal types; of two classes 0 exactly where the relation is No; of an array and a class 1 exactly for Object, Cloneable and
-- Serializable; of two arrays as of their elements, where these are not primitive, and of two primitive ones where they are equal; of two
-- primitives exactly where they are equal or JLS 5.1.2 widens the one to the other
pub record AssignableSays (t : Rows) (value expected n : ℕ) : Type 0 where
  pub passes : (n ≡ 1) ↔ (is_assignable (rows_world t) (type_of value) (type_of expected) ≡ true)
  pub otherwise : (n ≡ 1 → ⊥) → n ≡ 0
  pub self : type_of value ≡ type_of expected → n ≡ 1
  pub classes : (c d : ℕ) → type_of value ≡ Object c → type_of expected ≡ Object d → (n ≡ 0) ↔ ((Ancestor t c d → ⊥) × Whole t c)
  pub array-class : (u : ArgType) (c : ℕ) → type_of value ≡ Array u → type_of expected ≡ Object c
      → (n ≡ 1) ↔ (IsObject t c ⊎ ((place_of cloneable_name t.names ≡ some c) ⊎ (place_of serializable_name t.names ≡ some c)))
  pub arrays : (u v : ArgType) → type_of value ≡ Array u → type_of expected ≡ Array v → is_primitive u ≡ false → is_primitive v ≡ false
      → (n ≡ 1) ↔ (is_assignable (rows_world t) u v ≡ true)
  pub primitive-arrays : (j k : ℕ) → type_of value ≡ Array (Primitive j) → type_of expected ≡ Array (Primitive k) → (n ≡ 1) ↔ (j ≡ k)
  pub primitives : (j k : ℕ) → type_of value ≡ Primitive j → type_of expected ≡ Primitive k → (n ≡ 1) ↔ ((j ≡ k) ⊎ (widens j k ≡ true))

-- ---- over a good table

-- a class of a legal type is a name
class-in : (names c : ℕ) (t : ArgType) → t ≡ Object c → legal_type names t ≡ true → c < names
unfolding legal_at_base
class-in names c t e h = ltb-true c names (legal-base names (Object c) (ap (legal_type names) (sym e) ∙ h))

-- a primitive of a legal type is one of the eleven categories
category-in : (names k : ℕ) (t : ArgType) → t ≡ Primitive k → legal_type names t ≡ true → k < 11
unfolding legal_at_base
category-in names k t e h = let l = leb-true k 10 (legal-base names (Primitive k) (ap (legal_type names) (sym e) ∙ h)) in omega arith

-- JLS 5.1.2, of the whole question about two primitives
primitives-widen : (w : World) (j k : ℕ) → j < 11 → k < 11 → (is_assignable w (Primitive j) (Primitive k) ≡ true) ↔ ((j ≡ k) ⊎ (widens j k ≡ true))
unfolding is_assignable assignable_apart
primitives-widen w j k hj hk =
    let is = ap₂ (λ (a b : Bool). a || b) (same-primitives j k) (assignable-widens j k hj hk) in
    (λ h. to (eqb j k) refl (sym is ∙ h), λ s. is ∙ ⊎_elim (λ e. ap (λ (b : Bool). b || widens j k) (eq-eqb j k e)) (λ h. or-right (eqb j k) (widens j k) h) s)
  where
    to : (b : Bool) → eqb j k ≡ b → (b || widens j k) ≡ true → (j ≡ k) ⊎ (widens j k ≡ true)
    to true e h = inl (eqb-true j k e)
    to false e h = inr h

    or-right : (a b : Bool) → b ≡ true → (a || b) ≡ true
    or-right true b h = refl
    or-right false b h = h

module _ (t : Rows) (g : Good (rows_view t)) (a b : ℕ) (la : a < 2 ^ 64) (lb : b < 2 ^ 64) (ha : legal_word (length t.names) a ≡ true) (hb : legal_word (length t.names) b ≡ true) where
  few : length t.names ≤ 1024
  unfolding rows_view
  few = g.few

  ta : legal_type (length t.names) (type_of a) ≡ true
  ta = legal-of-word (length t.names) a la ha

  tb : legal_type (length t.names) (type_of b) ≡ true
  tb = legal-of-word (length t.names) b lb hb

  join-says : JoinSays t a b (word_of (join (rows_world t) (type_of a) (type_of b)))
  join-says =
      let j = join (rows_world t) (type_of a) (type_of b) in
      let w = word-type (length t.names) j (let k = few in omega arith) (join-rows-legal t g (type_of a) (type_of b) ta tb) in
      record {
        legal = (w.1, w.2);
        type = w.0;
        above = λ ca cb.
            let p = join-rows-above t g (type_of a) (type_of b) ta tb ca cb in
            (ap (is_assignable (rows_world t) (type_of a)) w.0 ∙ p.0, ap (is_assignable (rows_world t) (type_of b)) w.0 ∙ p.1);
        classes = λ c d ec ed.
            let r = join-rows-classes t g c d (class-in (length t.names) c (type_of a) ec ta) (class-in (length t.names) d (type_of b) ed tb) in
            (r.0, w.0 ∙ ap₂ (join (rows_world t)) ec ed ∙ r.1, r.2);
      }

  assignable-says : AssignableSays t a b (cond (is_assignable (rows_world t) (type_of a) (type_of b)) 1 0)
  assignable-says = go (is_assignable (rows_world t) (type_of a) (type_of b)) refl
    where
      same : (u v : ArgType) → type_of a ≡ u → type_of b ≡ v → is_assignable (rows_world t) (type_of a) (type_of b) ≡ is_assignable (rows_world t) u v
      same u v p q = ap₂ (is_assignable (rows_world t)) p q

      widening : (j k : ℕ) → type_of a ≡ Primitive j → type_of b ≡ Primitive k → (is_assignable (rows_world t) (Primitive j) (Primitive k) ≡ true) ↔ ((j ≡ k) ⊎ (widens j k ≡ true))
      widening j k p q = primitives-widen (rows_world t) j k (category-in (length t.names) j (type_of a) p ta) (category-in (length t.names) k (type_of b) q tb)

      go : (n : Bool) → is_assignable (rows_world t) (type_of a) (type_of b) ≡ n → AssignableSays t a b (cond n 1 0)
      go true e = record {
        passes = (λ z. e, λ z. refl);
        otherwise = λ f. absurd (f refl);
        self = λ q. refl;
        classes = λ c d p q. (
          λ z. absurd (omega arith),
          λ w. absurd (true≢false (sym e ∙ same (Object c) (Object d) p q ∙ (assignable-rows-classes t g c d (class-in (length t.names) c (type_of a) p ta)).1 w)),
        );
        array-class = λ u c p q. (λ z. (assignable-rows-array t g u c).0 (sym (same (Array u) (Object c) p q) ∙ e), λ w. refl);
        arrays = λ u v p q i j. (λ z. sym (assignable-arrays (rows_world t) u v i j) ∙ sym (same (Array u) (Array v) p q) ∙ e, λ w. refl);
        primitive-arrays = λ j k p q. (λ z. eqb-true j k (sym (primitive-arrays (rows_world t) j k) ∙ sym (same (Array (Primitive j)) (Array (Primitive k)) p q) ∙ e), λ w. refl);
        primitives = λ j k p q. (λ z. (widening j k p q).0 (sym (same (Primitive j) (Primitive k) p q) ∙ e), λ w. refl);
      }
      go false e = record {
        passes = (λ z. absurd (omega arith), λ z. absurd (true≢false (sym z ∙ e)));
        otherwise = λ f. refl;
        self = λ q. absurd (true≢false (sym (ap (is_assignable (rows_world t) (type_of a)) (sym q) ∙ assignable-self (rows_world t) (type_of a)) ∙ e));
        classes = λ c d p q. (λ z. (assignable-rows-classes t g c d (class-in (length t.names) c (type_of a) p ta)).0 (sym (same (Object c) (Object d) p q) ∙ e), λ w. refl);
        array-class = λ u c p q. (
          λ z. absurd (omega arith),
          λ w. absurd (true≢false (sym (same (Array u) (Object c) p q ∙ (assignable-rows-array t g u c).1 w) ∙ e)),
        );
        arrays = λ u v p q i j. (
          λ z. absurd (omega arith),
          λ w. absurd (true≢false (sym (same (Array u) (Array v) p q ∙ assignable-arrays (rows_world t) u v i j ∙ w) ∙ e)),
        );
        primitive-arrays = λ j k p q. (
          λ z. absurd (omega arith),
          λ w. absurd (true≢false (sym (same (Array (Primitive j)) (Array (Primitive k)) p q ∙ primitive-arrays (rows_world t) j k ∙ eq-eqb j k w) ∙ e)),
        );
        primitives = λ j k p q. (
          λ z. absurd (omega arith),
          λ w. absurd (true≢false (sym (same (Primitive j) (Primitive k) p q ∙ (widening j k p q).1 w) ∙ e)),
        );
      }

-- ---- of what the contracts say

module _ (g : Given) (a b room : ℕ) (la : a < 2 ^ 64) (lb : b < 2 ^ 64) (r : BpAnswer) where
  join-told : r ≡ join_told g a b room → r.refusal ≡ 0 → JoinSays (shown_in g) a b r.value
  unfolding join_told rows_view
  join-told e z =
      let v = word_of (join (rows_world (shown_in g)) (type_of a) (type_of b)) in
      let k = question_refusal g Join a b room in
      let zero-is : k ≡ 0 = sym (answer-refusal k v) ∙ sym (ap (λ (q : BpAnswer). q.refusal) e) ∙ z in
      let w = accepted g Join a b room zero-is in
      subst (JoinSays (shown_in g) a b) (sym (ap (λ (q : BpAnswer). q.value) e ∙ answer-is k v zero-is)) (join-says (shown_in g) w.good a b la lb w.numbers-in.0 w.numbers-in.1)

  assignable-told : r ≡ assignable_told g a b room → r.refusal ≡ 0 → AssignableSays (shown_in g) a b r.value
  unfolding assignable_told rows_view
  assignable-told e z =
      let v = cond {A = ℕ} (is_assignable (rows_world (shown_in g)) (type_of a) (type_of b)) 1 0 in
      let k = question_refusal g Assignable a b room in
      let zero-is : k ≡ 0 = sym (answer-refusal k v) ∙ sym (ap (λ (q : BpAnswer). q.refusal) e) ∙ z in
      let w = accepted g Assignable a b room zero-is in
      subst (AssignableSays (shown_in g) a b) (sym (ap (λ (q : BpAnswer). q.value) e ∙ answer-is k v zero-is)) (assignable-says (shown_in g) w.good a b la lb w.numbers-in.0 w.numbers-in.1)

-- ---- OF WHAT THE EXPORTED FUNCTIONS RETURN; a word is of 64 bits

-- BP_JOIN A LEGAL WORD, ABOVE BOTH WHERE THEY ARE CONCRETE
pub bp-join : (κs : Lfts 9) (a : Dens κs bp-join-kinds.ps) (r : (res_t bp-join-kinds.r κs).Denot) (x : AtExit (ended_of 9 bp-join-kinds.ps bp-join-kinds.r) κs)
    → bp-join-reads.Post κs a r x → first_asked κs a < 2 ^ 64 → second_asked κs a < 2 ^ 64 → r.refusal ≡ 0
    → JoinSays (shown_in (columns_asked κs a)) (first_asked κs a) (second_asked κs a) r.value
bp-join κs a r x p la lb z = join-told (columns_asked κs a) (first_asked κs a) (second_asked κs a) (room_asked κs a) la lb r p.0 z

-- BP_ASSIGNABLE WHETHER value IS ASSIGNABLE TO expected
pub bp-assignable : (κs : Lfts 9) (a : Dens κs bp-assignable-kinds.ps) (r : (res_t bp-assignable-kinds.r κs).Denot) (x : AtExit (ended_of 9 bp-assignable-kinds.ps bp-assignable-kinds.r) κs)
    → bp-assignable-reads.Post κs a r x → first_asked κs a < 2 ^ 64 → second_asked κs a < 2 ^ 64 → r.refusal ≡ 0
    → AssignableSays (shown_in (columns_asked κs a)) (first_asked κs a) (second_asked κs a) r.value
bp-assignable κs a r x p la lb z = assignable-told (columns_asked κs a) (first_asked κs a) (second_asked κs a) (room_asked κs a) la lb r p.0 z
