-- What the functions on words go by: one law for each case of a join that the code meets.
use Rattle.std.specs.Prelude.{◌≡◌, Bool, ◌&&◌, List, ℕ, ◌+◌, ◌-◌, ◌^◌, ◌≤◌, ◌<◌, leb}
use Rattle.std.proofs.Math.Path.{refl, sym, ap}
use Rattle.std.proofs.Common.{ap₂, ◌∙◌, arith, eq-eqb, ne_eqb, eqb-true, ltb-true, leb-true, leb-false}
use Rattle.std.proofs.Math.Bool.{true, false, cond}
use Rattle.std.proofs.lemmas.Bool.{false≢true, eqb-false}
use Rattle.std.proofs.Math.Option.{some}
use Rattle.ty.specs.Types.{ArgType, Primitive, Object, Array, Unknown, categories, is_known, is_primitive, is_array}
use Rattle.ty.specs.Words.{tag_of, load_of, type_of, word_of, legal_word, legal_type, Legal}
use Rattle.ty.specs.Round.{word-of-type, legal-of-word, word-fits, legal-more}
use Rattle.ty.specs.Shape.{type-array, word-deeper, legal-element}
use Rattle.ty.specs.Steps.{known-flat, primitive-array, primitive-flat, array-test, type-primitive, type-object, legal-category, check-object}
use Rattle.view.specs.View.{View, supertype, number_of}
use Rattle.view.specs.Reach.{Good}
use Rattle.view.specs.Ancestors.{ancestor-below}
use Rattle.view.specs.Supertype.{supertype-some, supertype-least}
use Rattle.tables.specs.Table.{view_of, view-good}
use Rattle.tables.specs.declared.Tables.{Tables}
use Rattle.lattice.specs.Lattice.{World, Lawful, unknown_union, in_both, or_full, join_known, class_or, join_apart, join}
use Rattle.lattice.specs.Legality.{join-legal}
use Rattle.lattice.specs.JoinTable.{cell, join-categories}
use Rattle.lattice.specs.JoinCases.{join_array_other, join-same, join-apart, apart-unknowns, apart-right-unknown, apart-left-unknown, apart-left-array, apart-right-array, arrays-left, arrays-right, arrays-both, apart-classes, apart-left-primitive, apart-right-primitive}
use Rattle.lattice.specs.World.{present, with-lawful, world_of}
use Rattle.joins.specs.Joins.{Fits, Known, Base, both_arrays}

-- ---- words by their types

module _ (w : ℕ) where
  flat : is_array (type_of w) ≡ false → w < 2 ^ 56
  flat e = go (leb (2 ^ 56) w) refl
    where
      go : (b : Bool) → leb (2 ^ 56) w ≡ b → w < 2 ^ 56
      go true q = absurd (false≢true (sym e ∙ sym (array-test w) ∙ q))
      go false q = leb-false (2 ^ 56) w q

  pub array-high : is_array (type_of w) ≡ true → 2 ^ 56 ≤ w
  array-high e = leb-true (2 ^ 56) w (array-test w ∙ e)

  primitive-low : is_primitive (type_of w) ≡ true → (w < 2 ^ 56) × (tag_of w ≡ 0)
  primitive-low e = go (leb (2 ^ 56) w) refl
    where
      go : (b : Bool) → leb (2 ^ 56) w ≡ b → (w < 2 ^ 56) × (tag_of w ≡ 0)
      go true q = absurd (false≢true (primitive-array w (leb-true (2 ^ 56) w q) ∙ e))
      go false q = let l = leb-false (2 ^ 56) w q in (l, eqb-true (tag_of w) 0 (primitive-flat w l ∙ e))

  pub primitive-load : is_primitive (type_of w) ≡ true → type_of w ≡ Primitive (load_of w)
  primitive-load e = let p = primitive-low e in type-primitive w p.0 p.1

  pub primitive-lt : (names : ℕ) → legal_word names w ≡ true → is_primitive (type_of w) ≡ true → load_of w < 11
  primitive-lt names l e = let q = legal-category names w l (primitive-low e).1 in omega arith

  module _ (base : Base w) (other : is_primitive (type_of w) ≡ false) where
    object-low : (w < 2 ^ 56) × (tag_of w ≡ 1)
    object-low =
        let h = flat base.1 in
        let k = ltb-true (tag_of w) 2 (known-flat w h ∙ base.0) in
        let z = eqb-false (tag_of w) 0 (primitive-flat w h ∙ other) in
        (h, one (tag_of w) z k)
      where
        one : (t : ℕ) → (t ≡ 0 → ⊥) → t < 2 → t ≡ 1
        one t p q = omega arith

    pub object-load : type_of w ≡ Object (load_of w)
    object-load = type-object w object-low.0 object-low.1

    pub object-lt : (names : ℕ) → legal_word names w ≡ true → load_of w < names
    object-lt names l = ltb-true (load_of w) names (sym (check-object names w object-low.1) ∙ l)

-- ---- two arrays, or not

module _ (left right : ℕ) where
  pub arrays-true : is_array (type_of left) ≡ true → is_array (type_of right) ≡ both_arrays left right
  unfolding both_arrays
  arrays-true h = sym (ap (λ (b : Bool). b && is_array (type_of right)) h)

  pub arrays-false : is_array (type_of left) ≡ false → false ≡ both_arrays left right
  unfolding both_arrays
  arrays-false h = sym (ap (λ (b : Bool). b && is_array (type_of right)) h)

  pub arrays-high : both_arrays left right ≡ true → (2 ^ 56 ≤ left) × (2 ^ 56 ≤ right)
  unfolding both_arrays
  arrays-high h = go (is_array (type_of left)) refl h
    where
      go : (b : Bool) → is_array (type_of left) ≡ b → (b && is_array (type_of right)) ≡ true → (2 ^ 56 ≤ left) × (2 ^ 56 ≤ right)
      go true e q = (array-high left e, array-high right q)
      go false e q = absurd (false≢true q)

-- ---- an array and a known type that is none

class-type : (object : ℕ) → object < 1024 → type_of (2 ^ 48 + object) ≡ Object object
class-type object h =
    type-object (2 ^ 48 + object) (omega arith) (let e : tag_of (2 ^ 48 + object) ≡ 1 = omega arith in e)
    ∙ ap Object (let e : load_of (2 ^ 48 + object) ≡ object = omega arith in e)

module _ (object array other : ℕ) where
  pub array-object : object < 1024 → other ≡ 2 ^ 48 + object → 2 ^ 48 + object ≡ word_of (join_array_other object (type_of array) (type_of other))
  unfolding join_array_other word_of
  array-object h e =
      sym
      (ap (λ (u : ArgType). word_of (join_array_other object (type_of array) u)) (ap type_of e ∙ class-type object h)
      ∙ ap (λ (b : Bool). word_of (cond b (Object object) (unknown_union (type_of array) (Object object)))) (eq-eqb object object refl))

  pub array-other : Legal other → (other ≡ 2 ^ 48 + object → ⊥) → unknown_union (type_of array) (type_of other) ≡ join_array_other object (type_of array) (type_of other)
  unfolding join_array_other word_of
  array-other l n = go (type_of other) (λ e. n (sym (word-of-type 1024 other l) ∙ e))
    where
      go : (u : ArgType) → (word_of u ≡ 2 ^ 48 + object → ⊥) → unknown_union (type_of array) u ≡ join_array_other object (type_of array) u
      go (Primitive k) m = refl
      go (Object c) m = sym (ap (λ (b : Bool). cond b (Object object) (unknown_union (type_of array) (Object c))) (ne_eqb c object (λ e. m (ap (λ (x : ℕ). 2 ^ 48 + x) e))))
      go (Array t) m = refl
      go (Unknown cs) m = refl

pub object-lt-1024 : (t : Tables) → Fits t → t.object < 1024
object-lt-1024 t f = let a = f.0 in let b = f.1 in omega arith

-- ---- two classes

module _ (pairs marks : List ℕ) (t : Tables) (fits : Fits t) where
  abbrev world : World
  world = world_of pairs marks t

  abbrev view : View
  view = view_of pairs marks t

  good : Good view
  good = view-good pairs marks t fits.0 fits.1

  lawful : Lawful world
  lawful = with-lawful view (present t.cloneable) (present t.serializable) good

  module _ (left right : ℕ) (l : left < t.names) (r : right < t.names) where
    some-class : (c : ℕ) × (supertype view left right ≡ some c)
    some-class = supertype-some view good left right l r

    number-class : number_of (supertype view left right) ≡ some-class.0
    unfolding number_of
    number-class = ap number_of some-class.1

    pub supertype-lt : number_of (supertype view left right) < 1024
    supertype-lt =
        let c = some-class in
        let b = ancestor-below view good left c.0 l (supertype-least view good left right l r c.0 c.1).0.0 in
        let e = number-class in
        let f = fits.0 in
        omega arith

    pub classes-word : 2 ^ 48 + number_of (supertype view left right) ≡ word_of (join_apart world (Object left) (Object right))
    unfolding word_of
    classes-word =
        ap (λ (c : ℕ). 2 ^ 48 + c) number-class
        ∙ sym (ap word_of (apart-classes world left right ∙ ap (class_or world.object) some-class.1))

  -- ---- two words

  module _ (left right : ℕ) (l : legal_word t.names left ≡ true) (r : legal_word t.names right ≡ true) where
    abbrev answer : ℕ
    answer = word_of (join world (type_of left) (type_of right))

    pub legal-left : Legal left
    legal-left = legal-more t.names 1024 left fits.0 l

    pub legal-right : Legal right
    legal-right = legal-more t.names 1024 right fits.0 r

    pub word-same : left ≡ right → left ≡ answer
    word-same e = sym (word-of-type 1024 left legal-left) ∙ sym (ap word_of (join-same world (type_of left) (type_of right) (ap type_of e)))

    pub answer-type : left < 2 ^ 64 → right < 2 ^ 64 → legal_type t.names (join world (type_of left) (type_of right)) ≡ true
    answer-type f g = join-legal world lawful (type_of left) (type_of right) (legal-of-word t.names left f l) (legal-of-word t.names right g r)

    module _ (apart : left ≡ right → ⊥) where
      word-apart : (t : ArgType) → join_apart world (type_of left) (type_of right) ≡ t → word_of t ≡ answer
      word-apart t e =
          sym
          (ap word_of
          (join-apart world (type_of left) (type_of right) (λ q. apart (sym (word-of-type 1024 left legal-left) ∙ ap word_of q ∙ word-of-type 1024 right legal-right))
          ∙ e))

      -- with an Unknown
      pub word-unknowns : is_known (type_of left) ≡ false → is_known (type_of right) ≡ false
          → word_of (or_full (in_both (categories (type_of left)) (categories (type_of right)))) ≡ answer
      word-unknowns h k = word-apart _ (apart-unknowns world (type_of left) (type_of right) h k)

      pub word-right-unknown : Known left → is_known (type_of right) ≡ false → word_of (join_known (type_of left) (categories (type_of right))) ≡ answer
      word-right-unknown h k = word-apart _ (apart-right-unknown world (type_of left) (type_of right) h k)

      pub word-left-unknown : is_known (type_of left) ≡ false → Known right → word_of (join_known (type_of right) (categories (type_of left))) ≡ answer
      word-left-unknown h k = word-apart _ (apart-left-unknown world (type_of left) (type_of right) h k)

      -- with an array
      pub word-left-array : is_array (type_of left) ≡ true → Base right → word_of (join_array_other t.object (type_of left) (type_of right)) ≡ answer
      word-left-array h b = word-apart _ (apart-left-array world (type_of left) (type_of right) h b.0 b.1)

      pub word-right-array : is_array (type_of right) ≡ true → Base left → word_of (join_array_other t.object (type_of right) (type_of left)) ≡ answer
      word-right-array h b = word-apart _ (apart-right-array world (type_of left) (type_of right) h b.0 b.1)

      -- without either
      pub word-primitives : is_primitive (type_of left) ≡ true → is_primitive (type_of right) ≡ true → cell (load_of left) (load_of right) ≡ answer
      unfolding cell
      word-primitives h k =
          sym
          (ap word_of
          (ap₂ (join world) (primitive-load left h) (primitive-load right k) ∙ join-categories world (load_of left) (load_of right)))

      pub word-left-primitive : is_primitive (type_of left) ≡ true → Base right → is_primitive (type_of right) ≡ false
          → word_of (unknown_union (type_of left) (type_of right)) ≡ answer
      word-left-primitive h b k =
          let p = primitive-load left h in
          let q = object-load right b k in
          word-apart _ (ap₂ (join_apart world) p q ∙ apart-left-primitive world (load_of left) (load_of right) ∙ sym (ap₂ unknown_union p q))

      pub word-right-primitive : Base left → is_primitive (type_of left) ≡ false → is_primitive (type_of right) ≡ true
          → word_of (unknown_union (type_of left) (type_of right)) ≡ answer
      word-right-primitive b h k =
          let p = object-load left b h in
          let q = primitive-load right k in
          word-apart _ (ap₂ (join_apart world) p q ∙ apart-right-primitive world (load_of left) (load_of right) ∙ sym (ap₂ unknown_union p q))

      pub word-classes : Base left → is_primitive (type_of left) ≡ false → Base right → is_primitive (type_of right) ≡ false
          → word_of (join_apart world (Object (load_of left)) (Object (load_of right))) ≡ answer
      word-classes a h b k = word-apart _ (ap₂ (join_apart world) (object-load left a h) (object-load right b k))

      -- two arrays
      module _ (p : 2 ^ 56 ≤ left) (q : 2 ^ 56 ≤ right) where
        abbrev element : ArgType
        element = join world (type_of (left - 2 ^ 56)) (type_of (right - 2 ^ 56))

        pub legal-elements : (legal_word t.names (left - 2 ^ 56) ≡ true) × (legal_word t.names (right - 2 ^ 56) ≡ true)
        legal-elements = (legal-element t.names left p ∙ l, legal-element t.names right q ∙ r)

        types : (t : ArgType) → join_apart world (Array (type_of (left - 2 ^ 56))) (Array (type_of (right - 2 ^ 56))) ≡ t → word_of t ≡ answer
        types t e = word-apart t (ap₂ (join_apart world) (type-array left p) (type-array right q) ∙ e)

        pub word-arrays-left : is_primitive (type_of (left - 2 ^ 56)) ≡ true → 2 ^ 48 + t.object ≡ answer
        unfolding word_of
        word-arrays-left h = types (Object t.object) (arrays-left world (type_of (left - 2 ^ 56)) (type_of (right - 2 ^ 56)) h)

        pub word-arrays-right : is_primitive (type_of (right - 2 ^ 56)) ≡ true → 2 ^ 48 + t.object ≡ answer
        unfolding word_of
        word-arrays-right h = types (Object t.object) (arrays-right world (type_of (left - 2 ^ 56)) (type_of (right - 2 ^ 56)) h)

        module _ (h : is_primitive (type_of (left - 2 ^ 56)) ≡ false) (k : is_primitive (type_of (right - 2 ^ 56)) ≡ false) where
          pub word-arrays : (e : ℕ) → e ≡ word_of element → e + 2 ^ 56 ≡ answer
          word-arrays e is =
              ap (λ (x : ℕ). x + 2 ^ 56) is
              ∙ sym (word-deeper element)
              ∙ types (Array element) (arrays-both world (type_of (left - 2 ^ 56)) (type_of (right - 2 ^ 56)) h k)

          pub arrays-fit : (e : ℕ) → e ≡ word_of element → left < 2 ^ 64 → right < 2 ^ 64 → e + 2 ^ 56 < 2 ^ 64
          arrays-fit e is f g =
              let q = word-arrays e is in
              let m = fits.0 in
              let w = word-fits t.names (join world (type_of left) (type_of right)) (omega arith) (answer-type f g) in
              omega arith
