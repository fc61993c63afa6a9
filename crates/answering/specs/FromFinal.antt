-- THE COPY OF A COMPONENT'S BOUNDS STANDS FOR ITS STATE in the final table: the parts are the kinds' words, they are what resolve_state asks,
-- and the answers are those of the solve's definition. Every tidy table's keys are such.
use Rattle.std.specs.Prelude.{◌≡◌, ℕ, ◌+◌, ◌≤◌, ◌<◌, length, take, drop, get_or, set}
use Rattle.std.proofs.Math.Path.{refl, ap}
use Rattle.std.proofs.Common.{sym, ap₂, ◌∙◌, subst, zero-add, arith, length-append}
use mathlib.Core.List.{List, [], ◌∷◌, ◌++◌, map, append_assoc, append-nil}
use Rattle.std.proofs.Math.Option.{Option, some, none}
use Rattle.std.proofs.lemmas.List.{length-map}
use Rattle.std.proofs.Math.Seq.{paste, take-append_seam}
use Rattle.sorted.specs.Sorted.{Sorted}
use Rattle.ty.specs.Types.{ArgType}
use Rattle.ty.specs.Answers.{maybe_word}
use Rattle.tables.specs.declared.Tables.{Tables}
use Rattle.lattice.specs.Lattice.{World}
use Rattle.joins.specs.Joins.{Fits, AllLegal}
use Rattle.solving.specs.Solving.{Domain, Fallback, Upper, Lower, Exact, Table, state_of, answers}
use Rattle.solving.specs.Tidy.{Tidy}
use Rattle.solving.specs.TableKeys.{keys_of}
use Rattle.solving.proofs.TableKeys.{keys-sorted, tidy-keyed, table-back}
use Rattle.copying.specs.Copies.{run_in, words_in, word_in}
use Rattle.copying.specs.Steps.{paste-front, paste-more}
use Rattle.resolving.specs.Bounds.{Bounds, state_in}
use Rattle.resolvinglaws.specs.FromTable.{copy-bounds, copy-state}
use Rattle.resolvinglaws.specs.Parts.{five-short, part-is}
use Rattle.answering.specs.declared.Parts.{Parts}
use Rattle.answering.specs.Answering.{kind_words, state_words, parts_of, part, InOrder, PartsLegal, parts_state, table_in, Final, number_in, answer_word, answer_words, answer_of}

-- ---- the parts of the copy

module _ (c : ℕ) (keys d₀ d : List ℕ) (f : d ≡ paste d₀ 0 (state_words c keys) (length (state_words c keys))) where
  abbrev w : ℕ → List ℕ
  w k = kind_words c k keys

  abbrev p : Parts
  p = parts_of c keys

  abbrev all : List ℕ
  all = state_words c keys

  long : (k : ℕ) → length (w k) ≡ length (run_in c k keys)
  long k = length-map (run_in c k keys) word_in

  front : take (length all) d ≡ all
  front = ap (take (length all)) (f ∙ paste-front d₀ all) ∙ take-append_seam all (drop (length all) d₀)

  two : length (w 0 ++ w 1) ≡ p.fallback
  two = omega (arith, long 0, long 1, length-append (w 0) (w 1))

  three : length ((w 0 ++ w 1) ++ w 2) ≡ p.upper
  three = omega (arith, two, long 2, length-append (w 0 ++ w 1) (w 2))

  four : length (((w 0 ++ w 1) ++ w 2) ++ w 3) ≡ p.lower
  four = omega (arith, three, long 3, length-append ((w 0 ++ w 1) ++ w 2) (w 3))

  from-two : take (length all) d ≡ (w 0 ++ w 1) ++ (w 2 ++ (w 3 ++ w 4))
  from-two = front ∙ sym (append_assoc (w 0) (w 1) (w 2 ++ (w 3 ++ w 4)))

  from-three : take (length all) d ≡ ((w 0 ++ w 1) ++ w 2) ++ (w 3 ++ w 4)
  from-three = from-two ∙ sym (append_assoc (w 0 ++ w 1) (w 2) (w 3 ++ w 4))

  from-four : take (length all) d ≡ (((w 0 ++ w 1) ++ w 2) ++ w 3) ++ (w 4 ++ [])
  from-four =
      from-three ∙ sym (append_assoc ((w 0 ++ w 1) ++ w 2) (w 3) (w 4))
      ∙ ap (λ (l : List ℕ). (((w 0 ++ w 1) ++ w 2) ++ w 3) ++ l) (sym (append-nil (w 4)))

  domain-part : part 0 p.domain d ≡ w 0
  domain-part = part-is d (length all) [] (w 0) (w 1 ++ (w 2 ++ (w 3 ++ w 4))) 0 p.domain front refl (omega (arith, long 0))

  fallback-part : part p.domain p.fallback d ≡ w 1
  fallback-part = part-is d (length all) (w 0) (w 1) (w 2 ++ (w 3 ++ w 4)) p.domain p.fallback front (sym (long 0)) (omega (arith, long 0, long 1))

  upper-part : part p.fallback p.upper d ≡ w 2
  upper-part = part-is d (length all) (w 0 ++ w 1) (w 2) (w 3 ++ w 4) p.fallback p.upper from-two (sym two) (omega (arith, two, long 2))

  lower-part : part p.upper p.lower d ≡ w 3
  lower-part = part-is d (length all) ((w 0 ++ w 1) ++ w 2) (w 3) (w 4) p.upper p.lower from-three (sym three) (omega (arith, three, long 3))

  exact-part : part p.lower p.exact d ≡ w 4
  exact-part = part-is d (length all) (((w 0 ++ w 1) ++ w 2) ++ w 3) (w 4) [] p.lower p.exact from-four (sym four) (omega (arith, four, long 4))

  copied-state : parts_state p d ≡ state_in (w Exact) (w Lower) (w Upper) (w Domain) (w Fallback)
  copied-state = λ i. state_in (exact-part i) (lower-part i) (upper-part i) (domain-part i) (fallback-part i)

  copied-order : Sorted keys → length keys ≤ length d → InOrder p d
  copied-order o h = (omega arith, omega arith, omega arith, omega arith, omega (arith, h, five-short c keys o))

-- ---- of a final table

module _ (t : Tables) (fits : Fits t) (keys : List ℕ) (y : Final t.names keys) where
  pub final-sorted : Sorted keys
  final-sorted = subst Sorted y.keyed (keys-sorted (table_in keys) (tidy-keyed t.names 512 (table_in keys) [] fits.0 y.tidy) y.tidy.ascends)

  module _ (c : ℕ) where
    kind-bounds : (k : ℕ) → k < 8 → Bounds t (kind_words c k keys)
    kind-bounds k small = subst (λ (l : List ℕ). Bounds t (words_in (run_in c k l))) y.keyed (copy-bounds t fits 512 (table_in keys) [] y.tidy c k small)

    kind-state : state_in (kind_words c Exact keys) (kind_words c Lower keys) (kind_words c Upper keys) (kind_words c Domain keys) (kind_words c Fallback keys) ≡ state_of (table_in keys) c
    kind-state =
        ap (λ (l : List ℕ). state_in (kind_words c Exact l) (kind_words c Lower l) (kind_words c Upper l) (kind_words c Domain l) (kind_words c Fallback l)) (sym y.keyed)
        ∙ copy-state t fits 512 (table_in keys) [] y.tidy c

    module _ (d₀ d : List ℕ) (f : d ≡ paste d₀ 0 (state_words c keys) (length (state_words c keys))) (p : Parts) (e : p ≡ parts_of c keys) where
      pub parts-order : length keys ≤ length d → InOrder p d
      parts-order h = subst (λ (q : Parts). InOrder q d) (sym e) (copied-order c keys d₀ d f final-sorted h)

      -- THE PARTS ARE WHAT IS ASKED
      pub parts-legal : PartsLegal t p d
      parts-legal = subst (λ (q : Parts). PartsLegal t q d) (sym e) (record {
        exact = subst (Bounds t) (sym (exact-part c keys d₀ d f)) (kind-bounds Exact (omega arith));
        lower = subst (Bounds t) (sym (lower-part c keys d₀ d f)) (kind-bounds Lower (omega arith));
        upper = subst (AllLegal t) (sym (upper-part c keys d₀ d f)) (kind-bounds Upper (omega arith)).0;
        domain = subst (AllLegal t) (sym (domain-part c keys d₀ d f)) (kind-bounds Domain (omega arith)).0;
        fallback = subst (Bounds t) (sym (fallback-part c keys d₀ d f)) (kind-bounds Fallback (omega arith));
      })

      -- AND STAND FOR THE STATE
      pub parts-state : parts_state p d ≡ state_of (table_in keys) c
      parts-state = ap (λ (q : Parts). parts_state q d) e ∙ copied-state c keys d₀ d f ∙ kind-state

-- ---- answers as numbers

pub number-word : (o : Option ArgType) → number_in (maybe_word o) ≡ answer_word o
number-word none = refl
number-word (some t) = refl

module _ (v : World) (table : Table) where
  pub answers-map : (variables : List ℕ) → answer_words v table variables ≡ map (answer_of v table) variables
  unfolding answers
  answers-map [] = refl
  answers-map (c ∷ cs) = ap (λ (l : List ℕ). answer_of v table c ∷ l) (answers-map cs)

  -- one answer more
  pub answer-more : (variables d : List ℕ) (i x : ℕ) → x ≡ answer_of v table (get_or variables i 0) → i < length variables → length variables ≤ length d
      → set (paste d 0 (answer_words v table variables) i) i x ≡ paste d 0 (answer_words v table variables) (i + 1)
  answer-more variables d i x e h l =
      ap₂ (λ (ws : List ℕ) (k : ℕ). set (paste d 0 ws i) k x) (answers-map variables) (sym (zero-add i))
      ∙ paste-more (answer_of v table) d 0 variables i x e h (omega arith)
      ∙ ap (λ (ws : List ℕ). paste d 0 ws (i + 1)) (sym (answers-map variables))

-- ---- EVERY TIDY TABLE'S KEYS ARE SUCH, and the table comes back from them

module _ (names n : ℕ) (t : Table) (q : List ℕ) (few : names ≤ 1024) (small : n ≤ 512) (y : Tidy names n t q) where
  pub final-back : table_in (keys_of t) ≡ t
  final-back = table-back t (tidy-keyed names n t q few y)

  pub tidy-final : Final names (keys_of t)
  tidy-final = record {
    tidy = subst (λ (u : Table). Tidy names 512 u []) (sym final-back) (record {
      ascends = y.ascends;
      fits = y.fits;
      legal = λ b m. (let g = y.legal b m in let h = g.component in record { component = omega arith; kind = g.kind; type = g.type });
      distinct = tt;
      below = tt;
    });
    keyed = ap keys_of final-back;
  }

  -- as a caller has it: the keys at the front of its slice
  module _ (keys : List ℕ) (e : keys ≡ keys_of t) where
    pub keys-final : Final names keys
    keys-final = subst (Final names) (sym e) tidy-final

    pub keys-answers : (v : World) (variables : List ℕ) → answer_words v (table_in keys) variables ≡ answer_words v t variables
    keys-answers v variables = ap (λ (u : Table). answer_words v u variables) (ap table_in e ∙ final-back)
