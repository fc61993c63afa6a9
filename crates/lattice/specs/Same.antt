-- Equality of types, as == of the Rust tells it: of equal types alone, and for legal words the equality of the words.
use Rattle.std.specs.Prelude.{◌≡◌, refl, Bool, true, false, ℕ, eqb}
use Rattle.std.proofs.Common.{sym, ap, ◌∙◌, true≢false, eqb-true}
use Rattle.std.proofs.lemmas.Bool.{eqb-false}
use Rattle.order.specs.Compare.{is_equal}
use Rattle.std.specs.declared.cmp.Ordering.{Ordering}
use Rattle.std.specs.declared.cmp.Ordering.TheVariants.{Less, Equal, Greater}
use Rattle.ty.specs.Types.{ArgType, compare}
use Rattle.ty.specs.Words.{type_of, word_of, legal_word}
use Rattle.ty.specs.Order.{compare-same, compare-equal}
use Rattle.ty.specs.Round.{word-of-type}
use Rattle.lattice.specs.Lattice.{same_type}

pub same-refl : (t : ArgType) → same_type t t ≡ true
unfolding same_type
same-refl t = ap is_equal (compare-same t)

pub same-equal : (t u : ArgType) → same_type t u ≡ true → t ≡ u
unfolding same_type
same-equal t u h = compare-equal t u (told (compare t u) h)
  where
    told : (o : Ordering) → is_equal o ≡ true → o ≡ Equal
    told Less e = absurd (true≢false (sym e))
    told Equal e = refl
    told Greater e = absurd (true≢false (sym e))

-- legal words are equal exactly if their types are
pub same-words : (names v w : ℕ) → legal_word names v ≡ true → legal_word names w ≡ true → eqb v w ≡ same_type (type_of v) (type_of w)
same-words names v w g h = go (eqb v w) refl (same_type (type_of v) (type_of w)) refl
  where
    go : (a : Bool) → eqb v w ≡ a → (b : Bool) → same_type (type_of v) (type_of w) ≡ b → a ≡ b
    go true p true q = refl
    go true p false q =
        sym (same-refl (type_of v)) ∙ ap (λ (x : ℕ). same_type (type_of v) (type_of x)) (eqb-true v w p) ∙ q
    go false p true q =
        absurd (eqb-false v w p (sym (word-of-type names v g) ∙ ap word_of (same-equal (type_of v) (type_of w) q) ∙ word-of-type names w h))
    go false p false q = refl
