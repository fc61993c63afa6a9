-- The join of two primitives, by their categories, and a rule of a table of rows: it holds at every entry where one test, which
-- computes, passes.
use Rattle.std.specs.Prelude.{◌≡◌, refl, Bool, true, false, cond, ◌&&◌, List, [], ◌∷◌, ℕ, zero, suc, ◌+◌, ◌<◌, T, eqb, length, get_or}
use Rattle.std.proofs.Common.{sym, ap, subst, ◌∙◌, add-zero, zero-add, add-suc, suc-add, le_of_suc-le-suc, not-suc-le-zero, eqb→eq}
use Rattle.ty.specs.Types.{ArgType, Primitive}
use Rattle.ty.specs.Words.{word_of}
use Rattle.lattice.specs.Lattice.{World, same_type, join_primitive, join_apart, join}

-- the join of two primitives: no class is asked. JoinGrid has all of them in letters, a row for the left and a column for the right:
--
--       V Z B S C I J F D L [     a letter: that primitive
--     V V . . . . . . . . . .     . : Unknown of the two, the left first
--     Z . Z . . . ? . . . . .     ? : Unknown[Boolean, Int]
--     B . . B I I I J F D . .
--     S . . I S I I J F D . .
--     C . . I I C I J F D . .
--     I . ? I I I I J F D . .
--     J . . J J J J J . D . .
--     F . . F F F F . F D . .
--     D . . D D D D D D D . .
--     L . . . . . . . . . L .
--     [ . . . . . . . . . . [
unfoldable pub join_categories : ℕ → ℕ → ArgType
join_categories left right = cond (same_type (Primitive left) (Primitive right)) (Primitive left) (join_primitive left right)

pub join-categories : (w : World) (left right : ℕ) → join w (Primitive left) (Primitive right) ≡ join_categories left right
unfolding join join_apart join_categories
join-categories w left right = refl

-- the word of a cell
unfoldable pub cell : ℕ → ℕ → ℕ
cell left right = word_of (join_categories left right)

-- THE CELL IS THE JOIN of two primitives, over any classes
pub cell-join : (w : World) (left right : ℕ) → cell left right ≡ word_of (join w (Primitive left) (Primitive right))
unfolding cell
cell-join w left right = sym (ap word_of (join-categories w left right))

-- ---- a table of rows of n, each entry as the rule g says

both-left : (a b : Bool) → T (a && b) → T a
both-left true b t = tt
both-left false b t = t

both-right : (a b : Bool) → T (a && b) → T b
both-right true b t = t
both-right false b t = absurd t

module _ {A : Type 0} (f : ℕ → A → Bool) where
  -- the test f passes at each entry of the list and its place, counted from i
  abbrev pub every : ℕ → List A → Bool
  every i [] = true
  every i (x ∷ xs) = f i x && every (suc i) xs

  every-from : (xs : List A) (d : A) (i : ℕ) → T (every i xs) → (k : ℕ) → k < length xs → T (f (i + k) (get_or xs k d))
  every-from [] d i t k h = absurd (not-suc-le-zero h)
  every-from (x ∷ xs) d i t zero h = subst (λ (m : ℕ). T (f m x)) (sym (add-zero i)) (both-left (f i x) (every (suc i) xs) t)
  every-from (x ∷ xs) d i t (suc k) h =
      subst (λ (m : ℕ). T (f m (get_or xs k d))) (suc-add i k ∙ sym (add-suc i k))
      (every-from xs d (suc i) (both-right (f i x) (every (suc i) xs) t) k (le_of_suc-le-suc h))

  every-at : (xs : List A) (d : A) → T (every 0 xs) → (k : ℕ) → k < length xs → T (f k (get_or xs k d))
  every-at xs d t k h = subst (λ (m : ℕ). T (f m (get_or xs k d))) (zero-add k) (every-from xs d 0 t k h)

module _ (n : ℕ) (g : ℕ → ℕ → ℕ) where
  abbrev pub row : ℕ → List ℕ → Bool
  row i xs = eqb (length xs) n && every (λ j x. eqb x (g i j)) 0 xs

  -- FROM THE TEST TO THE RULE
  pub rule : (t : List (List ℕ)) (d : List ℕ) → T (every row 0 t) → (l r : ℕ) → l < length t → r < n → get_or (get_or t l d) r 0 ≡ g l r
  rule t d p l r hl hr =
      let q = every-at row t d p l hl in
      let xs = get_or t l d in
      let e = eqb→eq (length xs) n (both-left (eqb (length xs) n) (every (λ j x. eqb x (g l j)) 0 xs) q) in
      eqb→eq (get_or xs r 0) (g l r)
      (every-at (λ j x. eqb x (g l j)) xs 0 (both-right (eqb (length xs) n) (every (λ j x. eqb x (g l j)) 0 xs) q) r (subst (λ (m : ℕ). r < m) (sym e) hr))
