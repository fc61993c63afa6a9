-- WHAT IS COPIED ARE THE TYPES OF THE DEFINITION: of a table's keys, the ranks of a run and its words stand for `types_of`; and each is what the
-- passes and the queries ask, a rank or a word within the limits.
use Rattle.std.specs.Prelude.{◌≡◌, true, ℕ, zero, suc, ◌-◌, ◌%◌, ◌^◌, ◌≤◌, ◌<◌, length, get_or, take, drop}
use Rattle.std.proofs.Math.Path.{refl, sym, ap₂}
use Rattle.std.proofs.Common.{ap, ◌∙◌, subst, arith}
use mathlib.Core.List.{List, [], ◌∷◌, ◌++◌, map, map-append, Memᴰ}
use Rattle.order.specs.Truth.{and-left, and-right, and-both}
use Rattle.sorted.specs.Sorted.{run_of}
use Rattle.ty.specs.Types.{ArgType, compare}
use Rattle.ty.specs.Words.{type_of, word_of, legal_word, legal_type, all_legal}
use Rattle.ty.specs.Round.{type-of-word, legal-of-type}
use Rattle.keys.specs.Rank.{rank, unrank, key, key_type}
use Rattle.keys.specs.Laws.{rank-lt, key-type}
use Rattle.solving.specs.Ordered.{Ascending}
use Rattle.solving.proofs.Orders.{types-ascend}
use Rattle.solving.specs.Solving.{Upper, Lower, Exact, Bound, Table, compare_bounds, types_of, evidence}
use Rattle.solving.specs.Tidy.{Tidy}
use Rattle.solving.specs.TableKeys.{key_of, keys_of, Keyed, AllKeyed, prefix}
use Rattle.solving.proofs.TableKeys.{tidy-keyed, types-run}
use Rattle.inserting.specs.Store.{Ranked, AllRanked}
use Rattle.inserting.specs.Laws.{ranked}
use Rattle.copying.specs.Copies.{run_in, rank_in, word_in, ranks_in, words_in, or_lower, evidence_in, uppers_in}

-- ---- of each key

rank-key : (b : Bound) → Keyed b → rank_in (key_of b) ≡ rank b.type
unfolding key
rank-key b g = omega (arith, rank-lt b.type g.type)

types-of-ranks : (xs : List ℕ) → map unrank (ranks_in xs) ≡ map key_type xs
unfolding key_type
types-of-ranks [] = refl
types-of-ranks (x ∷ xs) = ap (λ (l : List ArgType). unrank (x % 2 ^ 52) ∷ l) (types-of-ranks xs)

-- ---- a property of each key of a table is one of each key of a run

module _ (P : List ℕ → Type 0) (nil : P []) (put : (x : ℕ) (xs ys : List ℕ) → P (x ∷ xs) → P ys → P (x ∷ ys)) (rest : (x : ℕ) (xs : List ℕ) → P (x ∷ xs) → P xs) where
  of-drop : (n : ℕ) (xs : List ℕ) → P xs → P (drop n xs)
  of-drop zero xs h = h
  of-drop (suc n) [] h = h
  of-drop (suc n) (x ∷ xs) h = of-drop n xs (rest x xs h)

  of-take : (n : ℕ) (xs : List ℕ) → P xs → P (take n xs)
  of-take zero xs h = nil
  of-take (suc n) [] h = h
  of-take (suc n) (x ∷ xs) h = put x xs (take n xs) h (of-take n xs (rest x xs h))

  of-run : (c k : ℕ) (xs : List ℕ) → P xs → P (run_in c k xs)
  unfolding run_in
  of-run c k xs h = of-take ((run_of (2 ^ 52) (prefix c k) xs).past - (run_of (2 ^ 52) (prefix c k) xs).first) (drop (run_of (2 ^ 52) (prefix c k) xs).first xs) (of-drop (run_of (2 ^ 52) (prefix c k) xs).first xs h)

keys-ranked : (t : Table) → AllKeyed t → AllRanked (ranks_in (keys_of t))
keys-ranked [] g = tt
keys-ranked (b ∷ t) g =
    let h = g b (Memᴰ.head refl) in
    (subst Ranked (sym (rank-key b h)) (ranked b.type h.type), keys-ranked t (λ x m. g x (Memᴰ.tail m)))

keys-words : (t : Table) → AllKeyed t → map type_of (words_in (keys_of t)) ≡ map key_type (keys_of t)
keys-words [] g = refl
keys-words (b ∷ t) g =
    let h = g b (Memᴰ.head refl) in
    let e = key-type b.component b.kind b.type h.kind h.type in
    ap₂ ◌∷◌ (ap (λ (u : ArgType). type_of (word_of u)) e ∙ type-of-word 1024 b.type (omega arith) h.type ∙ sym e) (keys-words t (λ x m. g x (Memᴰ.tail m)))

keys-legal : (names : ℕ) → names ≤ 1024 → (t : Table) → AllKeyed t → ((b : Bound) → Memᴰ b t → legal_type names b.type ≡ true) → all_legal names (words_in (keys_of t)) ≡ true
unfolding all_legal
keys-legal names few [] g l = refl
keys-legal names few (b ∷ t) g l =
    let h = g b (Memᴰ.head refl) in
    and-both (legal_word names (word_in (key_of b))) (all_legal names (words_in (keys_of t)))
    (ap (λ (u : ArgType). legal_word names (word_of u)) (key-type b.component b.kind b.type h.kind h.type) ∙ legal-of-type names b.type (omega arith) (l b (Memᴰ.head refl)))
    (keys-legal names few t (λ x m. g x (Memᴰ.tail m)) (λ x m. l x (Memᴰ.tail m)))

heads : (x y : ArgType) (xs ys : List ArgType) → ◌≡◌ {A = List ArgType} (x ∷ xs) (y ∷ ys) → (x ≡ y) × (xs ≡ ys)
heads x y xs ys e = (cc, cc)

-- ---- the copy of a component's bounds of one kind

module _ (t : Table) (g : AllKeyed t) (o : Ascending compare_bounds t) (c k : ℕ) (small : k < 8) where
  -- AS RANKS
  pub copied-ranks : map unrank (ranks_in (run_in c k (keys_of t))) ≡ types_of c k t
  unfolding run_in
  copied-ranks = types-of-ranks (run_in c k (keys_of t)) ∙ sym (types-run c k small t g o)

  pub copied-ranked : AllRanked (ranks_in (run_in c k (keys_of t)))
  copied-ranked = of-run (λ (xs : List ℕ). AllRanked (ranks_in xs)) tt (λ x xs ys h i. (h.0, i)) (λ x xs h. h.1) c k (keys_of t) (keys-ranked t g)

  -- AS WORDS
  pub copied-words : map type_of (words_in (run_in c k (keys_of t))) ≡ types_of c k t
  unfolding run_in
  copied-words =
      of-run (λ (xs : List ℕ). map type_of (words_in xs) ≡ map key_type xs) refl
      (λ x xs ys h i. ap₂ ◌∷◌ (heads (type_of (word_in x)) (key_type x) (map type_of (words_in xs)) (map key_type xs) h).0 i)
      (λ x xs h. (heads (type_of (word_in x)) (key_type x) (map type_of (words_in xs)) (map key_type xs) h).1) c k (keys_of t) (keys-words t g)
      ∙ sym (types-run c k small t g o)

-- and the words are legal over the names that the types are
pub copied-legal : (names n : ℕ) (t : Table) (q : List ℕ) → names ≤ 1024 → Tidy names n t q → (c k : ℕ) → all_legal names (words_in (run_in c k (keys_of t))) ≡ true
unfolding all_legal
copied-legal names n t q few y c k =
    of-run (λ (xs : List ℕ). all_legal names (words_in xs) ≡ true) refl
    (λ x xs ys h i. and-both (legal_word names (word_in x)) (all_legal names (words_in ys)) (and-left (legal_word names (word_in x)) (all_legal names (words_in xs)) h) i)
    (λ x xs h. and-right (legal_word names (word_in x)) (all_legal names (words_in xs)) h) c k (keys_of t)
    (keys-legal names few t (tidy-keyed names n t q few y) (λ b m. (y.legal b m).type))

-- ---- the copies that a turn makes of two kinds

ranked-both : (xs ys : List ℕ) → AllRanked xs → AllRanked ys → AllRanked (xs ++ ys)
ranked-both [] ys g h = h
ranked-both (x ∷ xs) ys g h = (g.0, ranked-both xs ys g.1 h)

module _ (t : Table) (g : AllKeyed t) (o : Ascending compare_bounds t) (c : ℕ) where
  -- WHAT GOES TO THE SOURCES
  pub copied-uppers : map unrank (ranks_in (uppers_in c (keys_of t))) ≡ types_of c Upper t ++ types_of c Exact t
  copied-uppers =
      let u = run_in c Upper (keys_of t) in
      let x = run_in c Exact (keys_of t) in
      ap (map unrank) (map-append rank_in u x) ∙ map-append unrank (ranks_in u) (ranks_in x)
      ∙ ap₂ ◌++◌ (copied-ranks t g o c Upper (omega arith)) (copied-ranks t g o c Exact (omega arith))

  pub uppers-ranked : AllRanked (ranks_in (uppers_in c (keys_of t)))
  uppers-ranked =
      let u = run_in c Upper (keys_of t) in
      let x = run_in c Exact (keys_of t) in
      subst AllRanked (sym (map-append rank_in u x))
      (ranked-both (ranks_in u) (ranks_in x) (copied-ranked t g o c Upper (omega arith)) (copied-ranked t g o c Exact (omega arith)))

  -- WHAT SAYS WHAT IS PRODUCED
  pub copied-evidence : map type_of (words_in (evidence_in c (keys_of t))) ≡ evidence (types_of c Exact t) (types_of c Lower t)
  copied-evidence = go (run_in c Exact (keys_of t)) (copied-words t g o c Exact (omega arith))
    where
      go : (xs : List ℕ) → map type_of (words_in xs) ≡ types_of c Exact t
          → map type_of (words_in (or_lower xs (run_in c Lower (keys_of t)))) ≡ evidence (types_of c Exact t) (types_of c Lower t)
      go [] e = copied-words t g o c Lower (omega arith) ∙ ap (λ (l : List ArgType). evidence l (types_of c Lower t)) e
      go (x ∷ xs) e = ap (λ (l : List ArgType). evidence l (types_of c Lower t)) e

pub evidence-ascends : (c : ℕ) (t : Table) → Ascending compare_bounds t → Ascending compare (evidence (types_of c Exact t) (types_of c Lower t))
evidence-ascends c t o = go (types_of c Exact t) (types-ascend c Exact t o)
  where
    go : (xs : List ArgType) → Ascending compare xs → Ascending compare (evidence xs (types_of c Lower t))
    go [] h = types-ascend c Lower t o
    go (x ∷ xs) h = h

pub evidence-legal : (names n : ℕ) (t : Table) (q : List ℕ) → names ≤ 1024 → Tidy names n t q → (c : ℕ) → all_legal names (words_in (evidence_in c (keys_of t))) ≡ true
evidence-legal names n t q few y c = go (run_in c Exact (keys_of t)) (copied-legal names n t q few y c Exact)
  where
    go : (xs : List ℕ) → all_legal names (words_in xs) ≡ true → all_legal names (words_in (or_lower xs (run_in c Lower (keys_of t)))) ≡ true
    go [] h = copied-legal names n t q few y c Lower
    go (x ∷ xs) h = h

-- one word of a list
pub legal-at : (names : ℕ) (ws : List ℕ) → all_legal names ws ≡ true → (i : ℕ) → i < length ws → legal_word names (get_or ws i 0) ≡ true
unfolding all_legal
legal-at names [] h i l = absurd (omega arith)
legal-at names (w ∷ ws) h zero l = and-left (legal_word names w) (all_legal names ws) h
legal-at names (w ∷ ws) h (suc i) l = legal-at names ws (and-right (legal_word names w) (all_legal names ws) h) i (omega arith)
