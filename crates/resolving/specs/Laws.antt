-- What the code goes by: legal words and their types, what is produced, a candidate that passes or not, one way after the other.
use Rattle.std.specs.Prelude.{◌≡◌, Bool, true, false, cond, ◌&&◌, ℕ, suc, ◌^◌, ◌<◌, get_or, Some, None}
use Rattle.std.specs.List.{list_all}
use Rattle.std.proofs.Math.Path.{refl, ap}
use Rattle.std.proofs.Common.{sym, ◌∙◌, subst, ⊎_elim, arith}
use mathlib.Core.List.Memᴰ
use mathlib.Core.List.{List, [], ◌∷◌, map, Memᴰ}
use Rattle.std.proofs.Math.Option.{Option, some, none}
use Rattle.std.proofs.Math.ListN.{length}
use Rattle.ty.specs.declared.TypeWord.{TypeWord}
use Rattle.ty.specs.Answers.{MaybeType}
use Rattle.ty.specs.Types.{ArgType, is_concrete}
use Rattle.ty.specs.Words.{Legal, type_of, word_of, legal_word, legal_type}
use Rattle.ty.specs.Round.{type-of-word, legal-of-type, legal-of-word, word-of-type, legal-more}
use Rattle.ty.specs.Answers.{word, element_word, maybe_word, element-type}
use Rattle.tables.specs.declared.Tables.{Tables}
use Rattle.tables.specs.Table.{view_of, view-good}
use Rattle.lattice.specs.Lattice.{World, Lawful, producer_bound_compatible, join_all, most_specific_upper}
use Rattle.lattice.specs.World.{present, world_of, with-lawful}
use Rattle.lattice.specs.Legality.{join_all-legal, specific-legal}
use Rattle.joins.specs.Joins.{Fits, AllLegal}
use Rattle.candidates.specs.Maybe.{LegalMaybe, maybe_type, AllLegal as AllWords}
use Rattle.solving.specs.Solving.{produced_type, or_else, only_concrete, element_of, array_element, resolve_state}
use Rattle.solving.specs.Resolve.{passing, all_produce, produces_all, resolve}
use Rattle.solving.proofs.Resolve.{resolve-ways}
use Rattle.resolving.specs.Bounds.{state_in, kept_if, fitting, by_upper, by_cast, by_fallback, by_hint, from_fallback, from_cast, from_upper}

-- ---- legal words

module _ (t : Tables) (fits : Fits t) where
  pub legal-word : (w : ℕ) → legal_word t.names w ≡ true → Legal w
  legal-word w h = legal-more t.names 1024 w fits.0 h

  pub legal-words : (ws : List ℕ) → AllLegal t ws → AllWords ws
  legal-words ws h i l = legal-word (get_or ws i 0) (h i l)

  pub object-small : t.object < 1024
  object-small = let f = fits.0 in let o = fits.1 in omega arith

  lawful : (pairs marks : List ℕ) → Lawful (world_of pairs marks t)
  lawful pairs marks = with-lawful (view_of pairs marks t) (present t.cloneable) (present t.serializable) (view-good pairs marks t fits.0 fits.1)

-- words of 64 bits
abbrev pub Words : List ℕ → Type 0
Words ws = (i : ℕ) → get_or ws i 0 < 2 ^ 64

types-legal : (names : ℕ) (ws : List ℕ) → ((i : ℕ) → i < length ws → legal_word names (get_or ws i 0) ≡ true) → Words ws
    → (u : ArgType) → Memᴰ u (map type_of ws) → legal_type names u ≡ true
types-legal names [] h f u m = absurd (Memᴰ.not-nil m)
types-legal names (x ∷ ws) h f u m =
    ⊎_elim (λ e. subst (λ (v : ArgType). legal_type names v ≡ true) (sym e) (legal-of-word names x (f 0) (h 0 (omega arith))))
    (types-legal names ws (λ i l. h (suc i) (omega arith)) (λ i. f (suc i)) u) (Memᴰ.cases_cons m)

-- a type over the names, if there is one
abbrev pub LegalOption : ℕ → Option ArgType → Type 0
LegalOption names none = Unit {0}
LegalOption names (some t) = legal_type names t ≡ true

-- what a type may be, as a word: it comes back, and is legal
module _ (t : Tables) (fits : Fits t) (o : Option ArgType) (h : LegalOption t.names o) (m : MaybeType) (e : m ≡ maybe_word o) where
  pub word-types : maybe_type m ≡ o
  word-types = ap maybe_type e ∙ go o h
    where
      go : (p : Option ArgType) → LegalOption t.names p → maybe_type (maybe_word p) ≡ p
      go none l = refl
      go (some u) l = let f = fits.0 in ap some (type-of-word t.names u (omega arith) l)

  pub word-legal : LegalMaybe m
  word-legal = subst LegalMaybe (sym e) (go o h)
    where
      go : (p : Option ArgType) → LegalOption t.names p → LegalMaybe (maybe_word p)
      go none l = tt
      go (some u) l = let f = fits.0 in legal-word t fits (word_of u) (legal-of-type t.names u (omega arith) l)

-- ---- joins and the most specific upper bound of legal words

module _ (pairs marks : List ℕ) (t : Tables) (fits : Fits t) where
  option-by : (o : Option ArgType) → ((u : ArgType) → o ≡ some u → legal_type t.names u ≡ true) → LegalOption t.names o
  option-by none h = tt
  option-by (some u) h = h u refl

  module _ (ws : List ℕ) (h : AllLegal t ws) (f : Words ws) where
    pub join-option : LegalOption t.names (join_all (world_of pairs marks t) (map type_of ws))
    join-option = option-by _ (λ u e. join_all-legal (world_of pairs marks t) (lawful t fits pairs marks) (map type_of ws) u e (types-legal t.names ws h f))

    pub specific-option : LegalOption t.names (most_specific_upper (world_of pairs marks t) (map type_of ws))
    specific-option = option-by _ (λ u e. specific-legal (world_of pairs marks t) (lawful t fits pairs marks) (map type_of ws) u e (types-legal t.names ws h f))

-- ---- what is produced

module _ (v : World) (exact lower upper domain fallback : List ℕ) where
  pub produced-lower : length exact ≡ 0 → join_all v (map type_of lower) ≡ produced_type v (state_in exact lower upper domain fallback)
  unfolding produced_type
  produced-lower h = go exact h
    where
      go : (xs : List ℕ) → length xs ≡ 0 → join_all v (map type_of lower) ≡ produced_type v (state_in xs lower upper domain fallback)
      go [] e = refl
      go (x ∷ xs) e = absurd (omega arith)

  pub produced-exact : (length exact ≡ 0 → ⊥) → join_all v (map type_of exact) ≡ produced_type v (state_in exact lower upper domain fallback)
  unfolding produced_type
  produced-exact h = go exact h
    where
      go : (xs : List ℕ) → (length xs ≡ 0 → ⊥) → join_all v (map type_of xs) ≡ produced_type v (state_in xs lower upper domain fallback)
      go [] e = absurd (e refl)
      go (x ∷ xs) e = refl

  -- it does not ask for the other bounds
  pub produced-alone : produced_type v (state_in exact lower [] [] []) ≡ produced_type v (state_in exact lower upper domain fallback)
  unfolding produced_type
  produced-alone = refl

  pub element-whole : element_of (or_else (produced_type v (state_in exact lower [] [] [])) (most_specific_upper v (map type_of upper)))
      ≡ array_element v (state_in exact lower upper domain fallback)
  unfolding array_element produced_type
  element-whole = refl

module _ (pairs marks : List ℕ) (t : Tables) (fits : Fits t) (exact lower : List ℕ) (h : AllLegal t exact) (f : Words exact) (k : AllLegal t lower) (g : Words lower) where
  pub produced-option : LegalOption t.names (produced_type (world_of pairs marks t) (state_in exact lower [] [] []))
  unfolding produced_type
  produced-option = go exact h f
    where
      go : (xs : List ℕ) → AllLegal t xs → Words xs → LegalOption t.names (produced_type (world_of pairs marks t) (state_in xs lower [] [] []))
      go [] l m = join-option pairs marks t fits lower k g
      go (x ∷ xs) l m = join-option pairs marks t fits (x ∷ xs) l m

-- ---- by the cases of what may be missing

module _ (m : MaybeType) (u : TypeWord) (e : m ≡ Some u) where
  pub is-legal : LegalMaybe m → Legal u.word
  is-legal h = subst LegalMaybe e h

  pub or-is : (o : Option ArgType) → some (type_of u.word) ≡ or_else (maybe_type m) o
  or-is o = ap (λ (x : MaybeType). or_else (maybe_type x) o) (sym e)

  pub element-is : LegalMaybe m → element_word u.word ≡ maybe_word (element_of (maybe_type m))
  element-is h = element-type 1024 u.word (is-legal h) ∙ ap (λ (x : MaybeType). maybe_word (element_of (maybe_type x))) (sym e)

  -- a candidate that passes or not
  pub pass-is : (b : Bool) (test : ArgType → Bool) → LegalMaybe m → b ≡ test (type_of u.word) → kept_if b u ≡ maybe_word (passing (maybe_type m) test)
  pass-is b test h q = go b q ∙ ap (λ (x : MaybeType). maybe_word (passing (maybe_type x) test)) (sym e)
    where
      go : (c : Bool) → c ≡ test (type_of u.word) → kept_if c u ≡ maybe_word (cond (test (type_of u.word)) (some (type_of u.word)) none)
      go true k = ap (λ (y : ℕ). Some (word y)) (sym (word-of-type 1024 u.word (is-legal h))) ∙ ap (λ (c : Bool). maybe_word (cond c (some (type_of u.word)) none)) k
      go false k = ap (λ (c : Bool). maybe_word (cond c (some (type_of u.word)) none)) k

  pub concrete-is : (b : Bool) → b ≡ is_concrete (type_of u.word) → maybe_type (kept_if b u) ≡ only_concrete (maybe_type m)
  concrete-is b q = go b ∙ ap (λ (c : Bool). cond c (some (type_of u.word)) none) q ∙ ap (λ (x : MaybeType). only_concrete (maybe_type x)) (sym e)
    where
      go : (c : Bool) → maybe_type (kept_if c u) ≡ cond c (some (type_of u.word)) none
      go true = refl
      go false = refl

  pub kept-legal : (b : Bool) → LegalMaybe m → LegalMaybe (kept_if b u)
  kept-legal true h = is-legal h
  kept-legal false h = tt

  -- a way that answers
  pub way-is : (o p : Option ArgType) → m ≡ maybe_word o → Some u ≡ maybe_word (or_else o p)
  way-is none p h = absurd (let z : ◌≡◌ {A = ℕ} 0 1 = cc in omega arith)
  way-is (some x) p h = sym e ∙ h

module _ (m : MaybeType) (e : m ≡ None) where
  pub or-none : (o : Option ArgType) → o ≡ or_else (maybe_type m) o
  or-none o = ap (λ (x : MaybeType). or_else (maybe_type x) o) (sym e)

  pub pass-none : (test : ArgType → Bool) → None ≡ maybe_word (passing (maybe_type m) test)
  pass-none test = ap (λ (x : MaybeType). maybe_word (passing (maybe_type x) test)) (sym e)

  -- and one that does not
  pub way-none : (o p : Option ArgType) → m ≡ maybe_word o → maybe_word p ≡ maybe_word (or_else o p)
  way-none none p h = refl
  way-none (some x) p h = absurd (let z : ◌≡◌ {A = ℕ} 0 1 = cc in omega arith)

-- ---- every bound of a list

module _ (v : World) (t : ArgType) where
  pub list-produce : (ws : List ℕ) → list_all (λ x. producer_bound_compatible v (type_of x) t) ws ≡ all_produce v (map type_of ws) t
  unfolding all_produce
  list-produce [] = refl
  list-produce (x ∷ ws) = ap (λ (b : Bool). producer_bound_compatible v (type_of x) t && b) (list-produce ws)

  pub list-produced : (ws : List ℕ) → list_all (λ x. producer_bound_compatible v t (type_of x)) ws ≡ produces_all v t (map type_of ws)
  unfolding produces_all
  list-produced [] = refl
  list-produced (x ∷ ws) = ap (λ (b : Bool). producer_bound_compatible v t (type_of x) && b) (list-produced ws)

-- ---- two tests in a row

pub both-yes : (a b c : Bool) → a ≡ true → c ≡ b → c ≡ (a && b)
both-yes true b c e h = h
both-yes false b c e h = absurd (let z : ◌≡◌ {A = ℕ} 0 1 = cc in omega arith)

pub both-no : (a b : Bool) → a ≡ false → false ≡ (a && b)
both-no true b e = absurd (let z : ◌≡◌ {A = ℕ} 0 1 = cc in omega arith)
both-no false b e = refl

-- three

pub three-yes : (a b d c : Bool) → a ≡ true → b ≡ true → c ≡ d → c ≡ ((a && b) && d)
three-yes a b d c e f h = both-yes (a && b) d c (sym (both-yes a b true e (sym f))) h

pub three-first : (a b d : Bool) → a ≡ false → false ≡ ((a && b) && d)
three-first a b d e = both-no (a && b) d (sym (both-no a b e))

pub three-second : (a b d : Bool) → a ≡ true → b ≡ false → false ≡ ((a && b) && d)
three-second a b d e f = both-no (a && b) d (sym (both-yes a b false e (sym f)))

-- ---- THE FIRST WAY AND THE OTHERS ARE resolve_state

pub ways-all : (v : World) (exact lower upper domain fallback : List ℕ) (o : Option ArgType) → o ≡ only_concrete (produced_type v (state_in exact lower upper domain fallback))
    → or_else (fitting v o (map type_of upper)) (from_upper v o (state_in exact lower upper domain fallback)) ≡ resolve_state v (state_in exact lower upper domain fallback)
unfolding resolve fitting by_upper by_cast by_fallback by_hint from_fallback from_cast from_upper
ways-all v exact lower upper domain fallback o e =
    ap (λ (p : Option ArgType). or_else (fitting v p (map type_of upper)) (from_upper v p (state_in exact lower upper domain fallback))) e
    ∙ sym (resolve-ways v (state_in exact lower upper domain fallback))
