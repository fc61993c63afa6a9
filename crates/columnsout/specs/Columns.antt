-- What three columns hold of some keys, and one entry more.
use Rattle.std.specs.Prelude.{◌≡◌, List, map, ℕ, ◌+◌, ◌≤◌, ◌<◌, length, get_or, set}
use Rattle.std.proofs.Common.{sym, ap, ◌∙◌, zero-add, arith}
use Rattle.std.proofs.Math.Seq.{paste}
use Rattle.keys.specs.Rank.{key_component, key_kind}
use Rattle.copying.specs.Copies.{word_in}
use Rattle.copying.specs.Steps.{paste-more}
use Rattle.lending.specs.Lending.{Slice, MutSlice, came, came_mut, became}

-- the first n of some keys' parts, in front of a slice; what stands past them stays
abbrev pub front : (ℕ → ℕ) → List ℕ → List ℕ → ℕ → List ℕ
front f keys out n = paste out 0 (map f keys) n

-- EACH KEY'S COMPONENT, KIND AND TYPE WORD
pub record Written (keys components kinds types components' kinds' types' : List ℕ) : Type 0 where
  pub components-are : components' ≡ front key_component keys components (length keys)
  pub kinds-are : kinds' ≡ front key_kind keys kinds (length keys)
  pub types-are : types' ≡ front word_in keys types (length keys)

-- of the slices that a function is lent
abbrev pub WrittenBy : Slice → (components kinds types : MutSlice) → Type 0
WrittenBy keys components kinds types = Written (came keys) (came_mut components) (came_mut kinds) (came_mut types) (became components) (became kinds) (became types)

-- one entry more
pub front-more : (f : ℕ → ℕ) (keys out : List ℕ) (i v : ℕ) → v ≡ f (get_or keys i 0) → i < length keys → length keys ≤ length out
    → set (front f keys out i) i v ≡ front f keys out (i + 1)
front-more f keys out i v e h l =
    ap (λ (k : ℕ). set (front f keys out i) k v) (sym (zero-add i)) ∙ paste-more f out 0 keys i v e h (omega arith)
