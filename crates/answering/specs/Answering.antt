-- What the contracts cite: a component's bounds as words and where each kind ends, the table of some keys, and an answer as a number.
use Rattle.std.specs.Prelude.{◌≡◌, List, [], ◌++◌, map, ℕ, ◌+◌, ◌-◌, ◌^◌, ◌≤◌, length, take, drop, get_or, Some, None}
use Rattle.std.proofs.Math.Option.{Option, some, none}
use Rattle.ty.specs.Answers.{MaybeType}
use Rattle.ty.specs.Types.{ArgType}
use Rattle.ty.specs.Words.{word_of}
use Rattle.tables.specs.declared.Tables.{Tables}
use Rattle.lattice.specs.Lattice.{World}
use Rattle.joins.specs.Joins.{AllLegal}
use Rattle.solving.specs.Solving.{Domain, Fallback, Upper, Lower, Exact, Table, TypeState, state_of, resolve_state, answers}
use Rattle.solving.specs.Tidy.{Tidy}
use Rattle.solving.specs.TableKeys.{bound_of, keys_of}
use Rattle.copying.specs.Copies.{run_in, words_in}
use Rattle.resolving.specs.Bounds.{Bounds, state_in}
use Rattle.answering.specs.declared.Parts.{Parts}

-- ---- a component's bounds

-- the words of one kind
abbrev pub kind_words : ℕ → ℕ → List ℕ → List ℕ
kind_words c k keys = words_in (run_in c k keys)

-- of all kinds, one after the other
abbrev pub state_words : ℕ → List ℕ → List ℕ
state_words c keys =
    kind_words c Domain keys ++ (kind_words c Fallback keys ++ (kind_words c Upper keys ++ (kind_words c Lower keys ++ kind_words c Exact keys)))

-- the ends of five lists in a row
abbrev pub ends : ℕ → ℕ → ℕ → ℕ → ℕ → Parts
ends d f u l e = record { domain = d; fallback = d + f; upper = d + f + u; lower = d + f + u + l; exact = d + f + u + l + e }

abbrev pub parts_of : ℕ → List ℕ → Parts
parts_of c keys =
    ends (length (run_in c Domain keys)) (length (run_in c Fallback keys)) (length (run_in c Upper keys)) (length (run_in c Lower keys)) (length (run_in c Exact keys))

-- ---- parts of a slice

abbrev pub part : ℕ → ℕ → List ℕ → List ℕ
part first past l = take (past - first) (drop first l)

-- ends in their order, within the slice
abbrev pub InOrder : Parts → List ℕ → Type 0
InOrder p l = (p.domain ≤ p.fallback) × (p.fallback ≤ p.upper) × (p.upper ≤ p.lower) × (p.lower ≤ p.exact) × (p.exact ≤ length l)

-- each part has what resolve_state asks
pub record PartsLegal (t : Tables) (p : Parts) (l : List ℕ) : Type 0 where
  pub exact : Bounds t (part p.lower p.exact l)
  pub lower : Bounds t (part p.upper p.lower l)
  pub upper : AllLegal t (part p.fallback p.upper l)
  pub domain : AllLegal t (part 0 p.domain l)
  pub fallback : Bounds t (part p.domain p.fallback l)

-- the state that they stand for
abbrev pub parts_state : Parts → List ℕ → TypeState
parts_state p l =
    state_in (part p.lower p.exact l) (part p.upper p.lower l) (part p.fallback p.upper l) (part 0 p.domain l) (part p.domain p.fallback l)

-- ---- the final table

-- the table whose keys these are
abbrev pub table_in : List ℕ → Table
table_in keys = map bound_of keys

-- KEYS OF A TIDY TABLE
pub record Final (names : ℕ) (keys : List ℕ) : Type 0 where
  pub tidy : Tidy names 512 (table_in keys) []
  pub keyed : keys_of (table_in keys) ≡ keys

-- ---- answers as numbers, all ones where there is none

abbrev pub number_in : MaybeType → ℕ
number_in (Some t) = t.word
number_in None = 2 ^ 64 - 1

abbrev pub answer_word : Option ArgType → ℕ
answer_word none = 2 ^ 64 - 1
answer_word (some t) = word_of t

abbrev pub answer_words : World → Table → List ℕ → List ℕ
answer_words w table variables = map answer_word (answers w table variables)

-- ---- one component

-- its answer
abbrev pub answer_of : World → Table → ℕ → ℕ
answer_of w table c = answer_word (resolve_state w (state_of table c))

-- an answer that stands before the place p in the slice, where p is not 0
abbrev pub Stands : World → Table → List ℕ → ℕ → ℕ → Type 0
Stands w table into c p = (p ≡ 0 → ⊥) → (p ≤ length into) × (get_or into (p - 1) 0 ≡ answer_of w table c)
