-- What the join of a list goes by: the first word, the next one, the end; and that every join on the way is a legal word.
use Rattle.std.specs.Prelude.{◌≡◌, true, ℕ, ◌+◌, ◌^◌, ◌≤◌, ◌<◌, get_or, drop}
use Rattle.std.proofs.Math.Path.{refl}
use mathlib.Core.List.{List, [], ◌∷◌, map}
use Rattle.std.proofs.Math.Option.{some, none}
use Rattle.std.proofs.Common.{add-one, arith, drop_of_length-le}
use Rattle.std.proofs.Math.ListN.{length}
use Rattle.std.proofs.Math.Seq.{drop-cons}
use Rattle.ty.specs.Types.{ArgType}
use Rattle.ty.specs.Words.{type_of, word_of, legal_word}
use Rattle.ty.specs.Round.{type-of-word, legal-of-type}
use Rattle.tables.specs.declared.Tables.{Tables}
use Rattle.lattice.specs.Lattice.{World, join, join_from, join_all}
use Rattle.lattice.specs.World.{world_of}
use Rattle.joins.specs.Joins.{Fits}
use Rattle.joins.specs.Cases.{answer-type}

module _ (w : World) (words : List ℕ) where
  -- the join of t with the words from i on
  abbrev pub join_rest : ArgType → ℕ → ArgType
  join_rest t i = join_from w t (map type_of (drop i words))

  pub all-none : length words ≡ 0 → join_all w (map type_of words) ≡ none
  unfolding join_all
  all-none h = go words h
    where
      go : (l : List ℕ) → length l ≡ 0 → join_all w (map type_of l) ≡ none
      go [] e = refl
      go (x ∷ l) e = absurd (omega arith)

  pub all-first : (length words ≡ 0 → ⊥) → join_all w (map type_of words) ≡ some (join_rest (type_of (get_or words 0 0)) 1)
  unfolding join_all
  all-first h = go words h
    where
      go : (l : List ℕ) → (length l ≡ 0 → ⊥) → join_all w (map type_of l) ≡ some (join_from w (type_of (get_or l 0 0)) (map type_of (drop 1 l)))
      go [] e = absurd (e refl)
      go (x ∷ l) e = refl

  pub all-next : (t : ArgType) (i : ℕ) → i < length words → join_rest t i ≡ join_rest (join w t (type_of (get_or words i 0))) (i + 1)
  unfolding join_from
  all-next t i h = rw (add-one i, drop-cons words i 0 h)

  pub all-end : (t : ArgType) (i : ℕ) → length words ≤ i → join_rest t i ≡ t
  unfolding join_from
  all-end t i h = rw (drop_of_length-le words h)

module _ (pairs marks : List ℕ) (t : Tables) (fits : Fits t) (left right : ℕ) (l : legal_word t.names left ≡ true) (r : legal_word t.names right ≡ true) (a : left < 2 ^ 64) (b : right < 2 ^ 64) where
  -- the join of two words is legal, and the word of its type
  pub next-legal : legal_word t.names (word_of (join (world_of pairs marks t) (type_of left) (type_of right))) ≡ true
  next-legal = let f = fits.0 in legal-of-type t.names (join (world_of pairs marks t) (type_of left) (type_of right)) (omega arith) (answer-type pairs marks t fits left right l r a b)

  pub next-type : type_of (word_of (join (world_of pairs marks t) (type_of left) (type_of right))) ≡ join (world_of pairs marks t) (type_of left) (type_of right)
  next-type = let f = fits.0 in type-of-word t.names (join (world_of pairs marks t) (type_of left) (type_of right)) (omega arith) (answer-type pairs marks t fits left right l r a b)
