-- ROWS BY THEIR NUMBERS: row i of some columns is among what they list, and chains of rows of flows and upper flows.
use Rattle.std.specs.Prelude.{◌≡◌, refl, true, ◌⊎◌, length, get_or}
use Rattle.std.proofs.Common.{sym, ap, ap₂, subst, ⊎_elim, arith}
use mathlib.Core.List.Memᴰ
use mathlib.Core.List.{List, [], ◌∷◌, ◌++◌, map, Memᴰ}
use Rattle.std.proofs.Math.Logic.{inl, inr}
use Prim.Native.Nat.{ℕ, zero, suc, ◌<◌}
use Rattle.ty.specs.Words.{legal_word, type_of, word_of}
use Rattle.solving.specs.Chains as chains
use Rattle.solving.specs.Solving.{Bound, bound, Pair}
use Rattle.problems.specs.Problems.{Columns, ProblemRow, variable_rows, bound_rows}
use Rattle.problems.specs.Plain.{bounds_of, pairs_of, plain_problem}
use Rattle.problems.specs.Exact.{AllInRange, later_rows}

-- ---- CHAINS OF ROWS

-- a row of the flows, or of the upper flows, leads from a to b
abbrev pub RowLink : Columns → ℕ → ℕ → Type 0
RowLink c a b =
    ((i : ℕ) × (i < length c.flow_sources) × (get_or c.flow_sources i 0 ≡ a) × (get_or c.flow_targets i 0 ≡ b))
    ⊎ ((i : ℕ) × (i < length c.upper_sources) × (get_or c.upper_sources i 0 ≡ a) × (get_or c.upper_targets i 0 ≡ b))

-- one or more, end to end
pub data RowChain (c : Columns) : ℕ → ℕ → Type 0 where
  last : {a b : ℕ} → RowLink c a b → RowChain c a b
  on : {a b d : ℕ} → RowLink c a b → RowChain c b d → RowChain c a d

-- ---- a row by its number

pub pair-at : (xs ys : List ℕ) → length xs ≡ length ys → (i : ℕ) → i < length xs → Memᴰ {A = Pair} (get_or xs i 0, get_or ys i 0) (pairs_of xs ys)
unfolding pairs_of
pair-at [] ys e i h = absurd (omega arith)
pair-at (x ∷ xs) [] e i h = absurd (omega arith)
pair-at (x ∷ xs) (y ∷ ys) e zero h = Memᴰ.head refl
pair-at (x ∷ xs) (y ∷ ys) e (suc i) h = Memᴰ.tail (pair-at xs ys (omega arith) i (omega arith))

pub bound-at : (cs ks ws : List ℕ) → length cs ≡ length ks → length cs ≡ length ws → (i : ℕ) → i < length cs → Memᴰ (bound (get_or cs i 0) (get_or ks i 0) (type_of (get_or ws i 0))) (bounds_of cs ks ws)
unfolding bounds_of
bound-at [] ks ws e f i h = absurd (omega arith)
bound-at (c ∷ cs) [] ws e f i h = absurd (omega arith)
bound-at (c ∷ cs) (k ∷ ks) [] e f i h = absurd (omega arith)
bound-at (c ∷ cs) (k ∷ ks) (w ∷ ws) e f zero h = Memᴰ.head refl
bound-at (c ∷ cs) (k ∷ ks) (w ∷ ws) e f (suc i) h = Memᴰ.tail (bound-at cs ks ws (omega arith) (omega arith) i (omega arith))

-- A CHAIN OF ROWS IS A CHAIN OF WHAT THE COLUMNS LIST
module _ (c : Columns) (flows-even : length c.flow_sources ≡ length c.flow_targets) (uppers-even : length c.upper_sources ≡ length c.upper_targets) where
  link-of : (a b : ℕ) → RowLink c a b → chains.Link (plain_problem c) a b
  unfolding plain_problem
  link-of a b (inl r) =
      inl (subst (λ (q : Pair). Memᴰ q (pairs_of c.flow_sources c.flow_targets)) (λ j. (r.2 j, r.3 j)) (pair-at c.flow_sources c.flow_targets flows-even r.0 r.1))
  link-of a b (inr r) =
      inr (subst (λ (q : Pair). Memᴰ q (pairs_of c.upper_sources c.upper_targets)) (λ j. (r.2 j, r.3 j)) (pair-at c.upper_sources c.upper_targets uppers-even r.0 r.1))

  pub chain-of : {a b : ℕ} → RowChain c a b → chains.Chain (plain_problem c) a b
  chain-of (last {a = a} {b = b} k) = chains.last (link-of a b k)
  chain-of (on {a = a} {b = b} k r) = chains.on (link-of a b k) (chain-of r)

-- ---- the words of bounds are legal

module _ (names n : ℕ) where
  range-behind : (xs ys : List ProblemRow) → AllInRange names n (xs ++ ys) → AllInRange names n ys
  range-behind [] ys h = h
  range-behind (x ∷ xs) ys h = range-behind xs ys h.1

  range-front : (xs ys : List ProblemRow) → AllInRange names n (xs ++ ys) → AllInRange names n xs
  range-front [] ys h = tt
  range-front (x ∷ xs) ys h = (h.0, range-front xs ys h.1)

  words-legal : (cs ks ws : List ℕ) → AllInRange names n (bound_rows cs ks ws) → length cs ≡ length ks → length cs ≡ length ws → (i : ℕ) → i < length cs → legal_word names (get_or ws i 0) ≡ true
  unfolding bound_rows
  words-legal [] ks ws a e f i h = absurd (omega arith)
  words-legal (c ∷ cs) [] ws a e f i h = absurd (omega arith)
  words-legal (c ∷ cs) (k ∷ ks) [] a e f i h = absurd (omega arith)
  words-legal (c ∷ cs) (k ∷ ks) (w ∷ ws) a e f zero h = a.0.2
  words-legal (c ∷ cs) (k ∷ ks) (w ∷ ws) a e f (suc i) h = words-legal cs ks ws a.1 (omega arith) (omega arith) i (omega arith)

  pub rows-legal : (c : Columns) → AllInRange names n (later_rows c) → length c.bound_components ≡ length c.bound_kinds → length c.bound_components ≡ length c.bound_words
      → (i : ℕ) → i < length c.bound_components → legal_word names (get_or c.bound_words i 0) ≡ true
  unfolding later_rows
  rows-legal c a =
      words-legal c.bound_components c.bound_kinds c.bound_words
      (range-front (bound_rows c.bound_components c.bound_kinds c.bound_words) _ (range-behind (variable_rows c.variables) _ a))

-- ---- entries by their numbers

pub map-at : {A : Type 0} (f : A → ℕ) (d : A) (l : List A) (i : ℕ) → i < length l → get_or (map f l) i 0 ≡ f (get_or l i d)
map-at f d [] i h = absurd (omega arith)
map-at f d (x ∷ l) zero h = refl
map-at f d (x ∷ l) (suc i) h = map-at f d l i (omega arith)

-- where a bound stands
pub member-at : (b : Bound) (t : List Bound) → Memᴰ b t → (j : ℕ) × (j < length t) × ((f : Bound → ℕ) → get_or (map f t) j 0 ≡ f b)
member-at b [] m = absurd (Memᴰ.not-nil m)
member-at b (x ∷ t) m = ⊎_elim (λ e. (0, omega arith, λ f. ap f (sym e))) (λ n. next (member-at b t n)) (Memᴰ.cases_cons m)
  where
    next : (j : ℕ) × (j < length t) × ((f : Bound → ℕ) → get_or (map f t) j 0 ≡ f b) → (j : ℕ) × (j < suc (length t)) × ((f : Bound → ℕ) → get_or (map f (x ∷ t)) j 0 ≡ f b)
    next r = (suc r.0, let k = r.1 in omega arith, λ f. r.2 f)

-- what stands there
pub at-member : (t : List Bound) (j : ℕ) → j < length t → (b : Bound) × Memᴰ b t × ((f : Bound → ℕ) → get_or (map f t) j 0 ≡ f b)
at-member [] j h = absurd (omega arith)
at-member (x ∷ t) zero h = (x, Memᴰ.head refl, λ f. refl)
at-member (x ∷ t) (suc j) h = let r = at-member t j (omega arith) in (r.0, Memᴰ.tail r.1, λ f. r.2 f)

-- three columns of a table list it
pub table-listed : (t : List Bound) → ((b : Bound) → Memᴰ b t → type_of (word_of b.type) ≡ b.type)
    → bounds_of (map (λ b. b.component) t) (map (λ b. b.kind) t) (map (λ b. word_of b.type) t) ≡ t
unfolding bounds_of
table-listed [] h = refl
table-listed (x ∷ t) h =
    let e = h x (Memᴰ.head refl) in
    ap₂ (λ (b : Bound) (l : List Bound). b ∷ l) (λ i. record { component = x.component; kind = x.kind; type = e i }) (table-listed t (λ b m. h b (Memᴰ.tail m)))
