-- What the contracts of the copies cite.
use Rattle.std.specs.Prelude.{◌≡◌, List, [], ◌∷◌, ◌++◌, map, ℕ, ◌-◌, ◌%◌, ◌^◌, take, drop}
use Rattle.sorted.specs.declared.Span.{Span}
use Rattle.sorted.specs.Sorted.{run_of}
use Rattle.ty.specs.Words.{word_of}
use Rattle.keys.specs.Rank.{key_type}
use Rattle.solving.specs.Solving.{Upper, Lower, Exact}
use Rattle.solving.specs.TableKeys.{prefix}

-- the entries of a span
abbrev pub between : Span → List ℕ → List ℕ
between r keys = take (r.past - r.first) (drop r.first keys)

-- the keys of a component's bounds of one kind
unfoldable pub run_in : ℕ → ℕ → List ℕ → List ℕ
run_in c k keys = between (run_of (2 ^ 52) (prefix c k) keys) keys

-- the rank in a key, and the word of its type
abbrev pub rank_in : ℕ → ℕ
rank_in x = x % 2 ^ 52

abbrev pub word_in : ℕ → ℕ
word_in x = word_of (key_type x)

abbrev pub ranks_in : List ℕ → List ℕ
ranks_in keys = map rank_in keys

abbrev pub words_in : List ℕ → List ℕ
words_in keys = map word_in keys

-- the keys of what says what is produced: exact, or lower where none is exact
abbrev pub or_lower : List ℕ → List ℕ → List ℕ
or_lower [] lower = lower
or_lower (x ∷ xs) lower = x ∷ xs

abbrev pub evidence_in : ℕ → List ℕ → List ℕ
evidence_in c keys = or_lower (run_in c Exact keys) (run_in c Lower keys)

-- the keys of what goes to the sources
abbrev pub uppers_in : ℕ → List ℕ → List ℕ
uppers_in c keys = run_in c Upper keys ++ run_in c Exact keys

-- what a call gives of a word: f of it
abbrev pub Computes : (ℕ → Type 0) → (ℕ → ℕ → Type 0) → (ℕ → ℕ) → Type 0
Computes Pre Post f = (x : ℕ) → Pre x × ((r : ℕ) → Post x r → r ≡ f x)
