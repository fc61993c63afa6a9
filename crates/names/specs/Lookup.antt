-- What the number of a name is: the place where its bytes stand; and there is none exactly if they stand nowhere.
use Rattle.std.specs.Prelude.{◌≡◌, refl, true, false, cond, List, [], ◌∷◌, ◌↔◌, ℕ, zero, suc, ◌<◌, length}
use Rattle.std.proofs.Common.{sym, ap, ◌∙◌, arith}
use Rattle.std.proofs.Math.Option.{Option, some, none}
use Rattle.order.specs.Laws.{lists-same, lists-equal}
use Rattle.order.specs.Compare.{compare_lists, is_equal}
use Rattle.std.specs.declared.cmp.Ordering.{Ordering}
use Rattle.std.specs.declared.cmp.Ordering.TheVariants.{Less, Equal, Greater}
use Rattle.names.specs.Names.{LookedUp, name_of, name_at, next, check_names, lookup, found, look_up}
use Rattle.names.specs.Table.{Checked, number-of-name}

same-bytes : (a b : List ℕ) → a ≡ b → is_equal (compare_lists a b) ≡ true
same-bytes a b e = ap (λ (l : List ℕ). is_equal (compare_lists a l)) (sym e) ∙ ap is_equal (lists-same a)

other-bytes : (a b : List ℕ) → (a ≡ b → ⊥) → is_equal (compare_lists a b) ≡ false
other-bytes a b ne = go (compare_lists a b) refl
  where
    go : (o : Ordering) → compare_lists a b ≡ o → is_equal o ≡ false
    go Less e = refl
    go Equal e = absurd (ne (lists-equal a b e))
    go Greater e = refl

-- the key stands nowhere
pub lookup-none : (bytes ats lens key : List ℕ)
    → ((i : ℕ) → i < length ats → name_at bytes ats lens i ≡ key → ⊥) → lookup bytes ats lens key ≡ none
unfolding lookup
lookup-none bytes [] lens key absent = refl
lookup-none bytes (at ∷ ats) [] key absent = refl
lookup-none bytes (at ∷ ats) (len ∷ lens) key absent =
    rw (other-bytes (name_of bytes at len) key (absent 0 (omega arith)), lookup-none bytes ats lens key (λ i h. absent (suc i) (omega arith)))

-- the key stands at i and not before
pub lookup-some : (bytes ats lens key : List ℕ) (i : ℕ) → length ats ≡ length lens → i < length ats → name_at bytes ats lens i ≡ key
    → ((j : ℕ) → j < i → name_at bytes ats lens j ≡ key → ⊥) → lookup bytes ats lens key ≡ some i
unfolding lookup
lookup-some bytes [] lens key i e h here absent = absurd (omega arith)
lookup-some bytes (at ∷ ats) [] key i e h here absent = absurd (omega arith)
lookup-some bytes (at ∷ ats) (len ∷ lens) key zero e h here absent = rw (same-bytes (name_of bytes at len) key here)
lookup-some bytes (at ∷ ats) (len ∷ lens) key (suc i) e h here absent =
    rw (
      other-bytes (name_of bytes at len) key (absent 0 (omega arith)),
      lookup-some bytes ats lens key i (omega arith) (omega arith) here (λ j l. absent (suc j) (omega arith)),
    )

none-not-some : (i : ℕ) → none ≡ some i → ⊥
none-not-some i h = let z : ◌≡◌ {A = ℕ} 0 1 = cc in omega arith

next-not-zero : (l : Option ℕ) → next l ≡ some 0 → ⊥
next-not-zero none h = none-not-some 0 h
next-not-zero (some j) h = let z : suc j ≡ 0 = cc in omega arith

next-suc : (l : Option ℕ) (i : ℕ) → next l ≡ some (suc i) → l ≡ some i
next-suc none i h = absurd (none-not-some (suc i) h)
next-suc (some j) i h = let z : suc j ≡ suc i = cc in ap some (let e : j ≡ i = omega arith in e)

-- what is found is the key
pub lookup-told : (bytes ats lens key : List ℕ) (i : ℕ) → lookup bytes ats lens key ≡ some i
    → (i < length ats) × (name_at bytes ats lens i ≡ key)
unfolding lookup
lookup-told bytes [] lens key i h = absurd (none-not-some i h)
lookup-told bytes (at ∷ ats) [] key i h = absurd (none-not-some i h)
lookup-told bytes (at ∷ ats) (len ∷ lens) key zero h = go (compare_lists (name_of bytes at len) key) refl h
  where
    go : (o : Ordering) → compare_lists (name_of bytes at len) key ≡ o → cond (is_equal o) (some 0) (next (lookup bytes ats lens key)) ≡ some 0
        → (0 < suc (length ats)) × (name_of bytes at len ≡ key)
    go Less e h = absurd (next-not-zero (lookup bytes ats lens key) h)
    go Equal e h = (omega arith, lists-equal (name_of bytes at len) key e)
    go Greater e h = absurd (next-not-zero (lookup bytes ats lens key) h)
lookup-told bytes (at ∷ ats) (len ∷ lens) key (suc i) h =
    let t = lookup-told bytes ats lens key i (go (compare_lists (name_of bytes at len) key) h) in (omega arith, t.1)
  where
    go : (o : Ordering) → cond (is_equal o) (some 0) (next (lookup bytes ats lens key)) ≡ some (suc i) → lookup bytes ats lens key ≡ some i
    go Less h = next-suc (lookup bytes ats lens key) i h
    go Equal h = let z : ◌≡◌ {A = ℕ} 0 (suc i) = cc in absurd (omega arith)
    go Greater h = next-suc (lookup bytes ats lens key) i h

-- of checked names: i is found exactly if the key stands at i
pub lookup-is : (bytes ats lens key : List ℕ) → Checked bytes ats lens → (i : ℕ)
    → (lookup bytes ats lens key ≡ some i) ↔ ((i < length ats) × (name_at bytes ats lens i ≡ key))
lookup-is bytes ats lens key c i = (
  lookup-told bytes ats lens key i,
  λ h.
      lookup-some bytes ats lens key i c.columns h.0 h.1
      (λ j l e. let same = number-of-name bytes ats lens c j i (omega arith) h.0 (e ∙ sym h.1) in omega arith),
)

-- ---- the whole answer

pub look-refused : (bytes ats lens key : List ℕ) (k : ℕ) → k ≡ check_names bytes ats lens → (k ≡ 0 → ⊥)
    → look_up bytes ats lens key ≡ record { refusal = k; class_no = 0 }
unfolding look_up
look-refused bytes ats lens key zero e z = absurd (z refl)
look-refused bytes ats lens key (suc k) e z = rw (← e)

pub look-searched : (bytes ats lens key : List ℕ) (k : ℕ) (r : LookedUp) → k ≡ check_names bytes ats lens → k ≡ 0
    → r ≡ found (lookup bytes ats lens key) → r ≡ look_up bytes ats lens key
unfolding look_up
look-searched bytes ats lens key k r e z f = rw (← e, z) f
