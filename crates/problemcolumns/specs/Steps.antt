-- One turn of each loop, and the tests, as the code meets them.
use Rattle.std.specs.Prelude.{◌≡◌, Bool, cond, ◌&&◌, List, [], ◌∷◌, ◌++◌, ℕ, suc, ◌+◌, ◌-◌, ◌*◌, ◌^◌, ◌≤◌, ◌<◌, eqb, leb, length, take, drop, get_or}
use Rattle.std.proofs.Math.Path.{refl, sym, subst}
use Rattle.std.proofs.Common.{ap, ap₂, ◌∙◌, add-one, arith, drop_of_length-le, length-take-le}
use Rattle.std.proofs.Math.Bool.{true, false}
use Rattle.std.proofs.Math.Dec.{ltb}
use Rattle.std.proofs.Math.Seq.{drop-cons, take-suc}
use borrow.Author.Tests.{eq-eqb, ne_eqb, eqb-true, ltb-false}
use Rattle.order.specs.Truth.{both}
use Rattle.sorted.specs.Sorted.{Sorted, put}
use Rattle.sorted.specs.Laws.{put-sorted}
use Rattle.ty.specs.Words.{legal_word, type_of}
use Rattle.keys.specs.Rank.{key}
use Rattle.rows.specs.Rows.{filled}
use Rattle.rows.specs.Keys.{length-put, filled-again, length-filled}
use Rattle.problems.specs.Problems.{Columns, even_problem}
use Rattle.problems.specs.Held.{Words}
use Rattle.problemrows.specs.declared.Added.{Added}
use Rattle.problemrows.specs.ProblemRows.{Ran, refused, taken, count_refusal, variable_refusal, variable_row, entry_row, pair_row, bound_row, Adds}
use Rattle.problemrows.specs.Laws.{added, adds-by, adds-entries}
use Rattle.problemcolumns.specs.ProblemColumns.{even_rows}
use Rattle.problemcolumns.specs.Runs.{variable_run, head_refusal, bound_run, pair_run, after, bounds_ran, flows_ran, uppers_ran, reads_ran, writes_ran, Enters}

-- ---- columns of equal length

pub even-rows : (c : Columns) → even_problem c
    ≡ even_rows (length c.bound_components) (length c.bound_kinds) (length c.bound_words) (length c.flow_sources) (length c.flow_targets) (length c.upper_sources) (length c.upper_targets)
    (length c.read_arrays) (length c.read_results) (length c.write_arrays) (length c.write_values)
unfolding even_problem even_rows
even-rows c = refl

-- past the other tests the last one decides
pub even-last : (bc bk bw fs ft us ut ra rr wa wv : ℕ) → bc ≡ bk → bc ≡ bw → fs ≡ ft → us ≡ ut → ra ≡ rr → eqb wa wv ≡ even_rows bc bk bw fs ft us ut ra rr wa wv
unfolding even_rows
even-last bc bk bw fs ft us ut ra rr wa wv k w f u r = rw (eq-eqb bc bk k, eq-eqb bc bw w, eq-eqb fs ft f, eq-eqb us ut u, eq-eqb ra rr r)

pub record Evens (c : Columns) : Type 0 where
  pub kinds : length c.bound_components ≡ length c.bound_kinds
  pub words : length c.bound_components ≡ length c.bound_words
  pub flows : length c.flow_sources ≡ length c.flow_targets
  pub uppers : length c.upper_sources ≡ length c.upper_targets
  pub reads : length c.read_arrays ≡ length c.read_results
  pub writes : length c.write_arrays ≡ length c.write_values

-- what equal lengths say
pub evens : (c : Columns) → even_problem c ≡ true → Evens c
unfolding even_problem
evens c h =
    let bk = eqb (length c.bound_components) (length c.bound_kinds) in
    let bw = eqb (length c.bound_components) (length c.bound_words) in
    let f = eqb (length c.flow_sources) (length c.flow_targets) in
    let u = eqb (length c.upper_sources) (length c.upper_targets) in
    let r = eqb (length c.read_arrays) (length c.read_results) in
    let w = eqb (length c.write_arrays) (length c.write_values) in
    let p = both (bk && bw) (f && (u && (r && w))) h in
    let q = both f (u && (r && w)) p.1 in
    let s = both u (r && w) q.1 in
    let t = both r w s.1 in
    record {
      kinds = eqb-true _ _ (both bk bw p.0).0;
      words = eqb-true _ _ (both bk bw p.0).1;
      flows = eqb-true _ _ q.0;
      uppers = eqb-true _ _ s.0;
      reads = eqb-true _ _ t.0;
      writes = eqb-true _ _ t.1;
    }

-- numbers of 64 bits
pub words-fit : (ws : List ℕ) → ((i : ℕ) → get_or ws i 0 < 2 ^ 64) → Words ws
words-fit [] h = tt
words-fit (w ∷ ws) h = (h 0, words-fit ws (λ i. h (suc i)))

-- ---- variables

module _ (components : ℕ) (vs : List ℕ) (i : ℕ) where
  pub variables-end : length vs ≤ i → variable_run components (drop i vs) (take i vs) ≡ taken (take i vs)
  unfolding variable_run
  variables-end h = rw (drop_of_length-le vs {i = i} h)

  module _ (h : i < length vs) (k : ℕ) (e : k ≡ variable_refusal components i (get_or vs i 0)) where
    row-is : variable_row components (get_or vs i 0) (take i vs) ≡ cond (eqb k 0) (taken (take i vs ++ (get_or vs i 0 ∷ []))) (refused k (take i vs))
    unfolding variable_row
    row-is = rw (length-take-le i vs (omega arith), ← e)

    pub variables-stop : (k ≡ 0 → ⊥) → variable_run components (drop i vs) (take i vs) ≡ refused k (take i vs)
    unfolding variable_run
    variables-stop z = rw (drop-cons vs i 0 h, row-is, ne_eqb k 0 z, ne_eqb k 0 z)

    pub variables-step : k ≡ 0 → variable_run components (drop i vs) (take i vs) ≡ variable_run components (drop (i + 1) vs) (take (i + 1) vs)
    unfolding variable_run
    variables-step z = rw (add-one i, drop-cons vs i 0 h, row-is, z, take-suc vs i 0 h)

-- the count, and then they
module _ (components : ℕ) (vs : List ℕ) (k : ℕ) (e : k ≡ count_refusal components) where
  pub head-count : (k ≡ 0 → ⊥) → k ≡ head_refusal components vs
  unfolding head_refusal
  head-count z = rw (← e, ne_eqb k 0 z)

  pub head-variables : k ≡ 0 → (m : ℕ) → m ≡ (variable_run components vs []).refusal → m ≡ head_refusal components vs
  unfolding head_refusal
  head-variables z m f = f ∙ rw (← e, z)

-- what is told of a row, and how many entries there are then
pub adds-told : {s : Ran} {a a' : List ℕ} {r : Added} → Adds s a a' r → r.refusal ≡ s.refusal
adds-told h = ap (λ (x : Added). x.refusal) h.added-is

pub adds-many : {s : Ran} {a a' : List ℕ} {r : Added} → Adds s a a' r → r.count ≡ length s.entries
adds-many h = ap (λ (x : Added). x.count) h.added-is

-- ---- bounds

module _ (names components : ℕ) (cs ks ws : List ℕ) (i : ℕ) (l : List ℕ) where
  pub bounds-end : length cs ≤ i → bound_run names components (drop i cs) (drop i ks) (drop i ws) l ≡ taken l
  unfolding bound_run
  bounds-end h = rw (drop_of_length-le cs {i = i} h)

  module _ (h : i < length cs) (j : i < length ks) (m : i < length ws) (a a' : List ℕ) (r : Added) (d : Adds (bound_row names components (get_or cs i 0) (get_or ks i 0) (get_or ws i 0) l) a a' r) where
    pub bounds-stop : (r.refusal ≡ 0 → ⊥) → bound_run names components (drop i cs) (drop i ks) (drop i ws) l ≡ bound_row names components (get_or cs i 0) (get_or ks i 0) (get_or ws i 0) l
    unfolding bound_run
    bounds-stop z = rw (drop-cons cs i 0 h, drop-cons ks i 0 j, drop-cons ws i 0 m, ne_eqb (bound_row names components (get_or cs i 0) (get_or ks i 0) (get_or ws i 0) l).refusal 0 (λ y. z (adds-told d ∙ y)))

    pub bounds-step : r.refusal ≡ 0
        → bound_run names components (drop i cs) (drop i ks) (drop i ws) l
        ≡ bound_run names components (drop (i + 1) cs) (drop (i + 1) ks) (drop (i + 1) ws) (bound_row names components (get_or cs i 0) (get_or ks i 0) (get_or ws i 0) l).entries
    unfolding bound_run
    bounds-step z = rw (add-one i, drop-cons cs i 0 h, drop-cons ks i 0 j, drop-cons ws i 0 m, sym (adds-told d) ∙ z)

-- ---- pairs

module _ (components room : ℕ) (xs ys : List ℕ) (i : ℕ) (l : List ℕ) where
  pub pairs-end : length xs ≤ i → pair_run components room (drop i xs) (drop i ys) l ≡ taken l
  unfolding pair_run
  pairs-end h = rw (drop_of_length-le xs {i = i} h)

  module _ (h : i < length xs) (j : i < length ys) (a a' : List ℕ) (r : Added) (d : Adds (pair_row components room (get_or xs i 0) (get_or ys i 0) l) a a' r) where
    pub pairs-stop : (r.refusal ≡ 0 → ⊥) → pair_run components room (drop i xs) (drop i ys) l ≡ pair_row components room (get_or xs i 0) (get_or ys i 0) l
    unfolding pair_run
    pairs-stop z = rw (drop-cons xs i 0 h, drop-cons ys i 0 j, ne_eqb (pair_row components room (get_or xs i 0) (get_or ys i 0) l).refusal 0 (λ y. z (adds-told d ∙ y)))

    pub pairs-step : r.refusal ≡ 0 → pair_run components room (drop i xs) (drop i ys) l ≡ pair_run components room (drop (i + 1) xs) (drop (i + 1) ys) (pair_row components room (get_or xs i 0) (get_or ys i 0) l).entries
    unfolding pair_run
    pairs-step z = rw (add-one i, drop-cons xs i 0 h, drop-cons ys i 0 j, sym (adds-told d) ∙ z)

-- ---- what a row leaves of sorted entries

pub record Stays (room : ℕ) (l : List ℕ) (s : Ran) : Type 0 where
  pub longer : length l ≤ length s.entries
  pub within : length s.entries ≤ room
  pub ordered : Sorted s.entries

module _ (room : ℕ) (l : List ℕ) (g : Sorted l) (h : length l ≤ room) where
  same-stays : (k : ℕ) → Stays room l (refused k l)
  same-stays k = record { longer = omega arith; within = h; ordered = g }

  entry-stays : (x : ℕ) → Stays room l (entry_row room x l)
  unfolding entry_row
  entry-stays x = go (ltb room (length (put x l))) refl
    where
      go : (t : Bool) → ltb room (length (put x l)) ≡ t → Stays room l (cond t (refused 8 l) (taken (put x l)))
      go true e = same-stays 8
      go false e = record { longer = (length-put x l).0; within = ltb-false room (length (put x l)) e; ordered = put-sorted x l g }

  pub pair-stays : (components a b : ℕ) → Stays room l (pair_row components room a b l)
  unfolding pair_row
  pair-stays components a b = go (ltb a components && ltb b components)
    where
      go : (t : Bool) → Stays room l (cond t (entry_row room (a * 512 + b) l) (refused 6 l))
      go true = entry-stays (a * 512 + b)
      go false = same-stays 6

pub bound-stays : (names components c k w : ℕ) (l : List ℕ) → Sorted l → length l ≤ 4096 → Stays 4096 l (bound_row names components c k w l)
unfolding bound_row
bound-stays names components c k w l g h = go (ltb c components && leb k 4) (legal_word names w)
  where
    go : (s t : Bool) → Stays 4096 l (cond s (cond t (entry_row 4096 (key c k (type_of w)) l) (refused 7 l)) (refused 6 l))
    go true true = entry-stays 4096 l g h (key c k (type_of w))
    go true false = same-stays 4096 l g h 7
    go false t = same-stays 4096 l g h 6

-- a run of pairs keeps to its room
pub pairs-few : (components room : ℕ) (xs ys l : List ℕ) → Sorted l → length l ≤ room → length (pair_run components room xs ys l).entries ≤ room
unfolding pair_run
pairs-few components room [] ys l g h = h
pairs-few components room (x ∷ xs) [] l g h = h
pairs-few components room (x ∷ xs) (y ∷ ys) l g h =
    let s = pair-stays room l g h components x y in
    go (eqb (pair_row components room x y l).refusal 0) s.within (pairs-few components room xs ys (pair_row components room x y l).entries s.ordered s.within)
  where
    one : Ran
    one = pair_row components room x y l

    rest : Ran
    rest = pair_run components room xs ys one.entries

    go : (t : Bool) → length one.entries ≤ room → length rest.entries ≤ room → length (cond t rest one).entries ≤ room
    go true a b = b
    go false a b = a

pub after-few : (z room : ℕ) (s : Ran) → length s.entries ≤ room → length (after z s).entries ≤ room
unfolding after
after-few z room s h = go (eqb z 0)
  where
    go : (t : Bool) → length (cond t s (refused z [])).entries ≤ room
    go true = h
    go false = omega arith

-- ---- and of the slice, which was a₀ before the first row

pub record Turn (room : ℕ) (a₀ a' : List ℕ) (m : ℕ) (s : Ran) : Type 0 where
  pub as-long : length a' ≡ length a₀
  pub within : m ≤ room
  pub entries : take m a' ≡ s.entries
  pub ordered : Sorted (take m a')
  pub front : a' ≡ filled (take m a') a₀

module _ (room n : ℕ) (a₀ a a' : List ℕ) (s : Ran) (r : Added) (h : n ≤ room) (l : room ≤ length a) (e : length a ≡ length a₀) (f : a ≡ filled (take n a) a₀) (st : Stays room (take n a) s) (d : Adds s a a' r) where
  whole : a' ≡ filled s.entries a₀
  whole = d.entries-are ∙ ap (filled s.entries) f ∙ filled-again (take n a) s.entries a₀ st.longer

  -- the row that is refused ends the run
  pub adds-last : Adds s a₀ a' r
  adds-last = record { added-is = d.added-is; entries-are = whole }

  pub turned : Turn room a₀ a' r.count s
  turned = record {
    as-long = ap length whole ∙ length-filled s.entries a₀ (let w = st.within in omega arith);
    within = subst (λ (m : ℕ). m ≤ room) (sym (ap (λ (x : Added). x.count) d.added-is)) st.within;
    entries = adds-entries d;
    ordered = subst Sorted (sym (adds-entries d)) st.ordered;
    front = whole ∙ ap (λ (x : List ℕ). filled x a₀) (sym (adds-entries d));
  }

-- the run's end
pub adds-end : (n : ℕ) (a₀ a : List ℕ) → n ≤ length a → a ≡ filled (take n a) a₀ → Adds (taken (take n a)) a₀ a (added 0 n)
adds-end n a₀ a h f = record { added-is = ap (added 0) (sym (length-take-le n a h)); entries-are = f }

-- ---- one kind after others

module _ (z : ℕ) (s : Ran) (a a' : List ℕ) where
  pub after-refused : (z ≡ 0 → ⊥) → Adds (after z s) a a (added z 0)
  unfolding after
  after-refused n = subst (λ (t : Bool). Adds (cond t s (refused z [])) a a (added z 0)) (sym (ne_eqb z 0 n)) (record { added-is = refl; entries-are = refl })

  pub after-taken : (r : Added) → z ≡ 0 → Adds s a a' r → Adds (after z s) a a' r
  unfolding after
  after-taken r e d = subst (λ (t : Bool). Adds (cond t s (refused z [])) a a' r) (sym (eq-eqb z 0 e)) d

-- reads keep to their room
pub reads-few : (z components : ℕ) (xs ys a a' : List ℕ) (r : Added) → Adds (after z (pair_run components 1024 xs ys [])) a a' r → r.count ≤ 1024
reads-few z components xs ys a a' r d =
    let n = adds-many d in
    let m = after-few z 1024 (pair_run components 1024 xs ys []) (pairs-few components 1024 xs ys [] tt (omega arith)) in
    omega (arith, n, m)

-- ---- kind after kind

writes-by : (names : ℕ) (c : Columns) (r r' w w' : List ℕ) (rr rw : Added) → Adds (reads_ran names c) r r' rr
    → Adds (after rr.refusal (pair_run c.components (1024 - rr.count) c.write_arrays c.write_values [])) w w' rw → Adds (writes_ran names c) w w' rw
unfolding writes_ran
writes-by names c r r' w w' rr rw rs ws =
    adds-by (ap₂ (λ (z m : ℕ). after z (pair_run c.components (1024 - m) c.write_arrays c.write_values [])) (sym (adds-told rs)) (sym (adds-many rs))) ws

module _ (names : ℕ) (c : Columns) (b b' f f' u u' r r' w w' : List ℕ) (rb rf ru rr rw : Added)
    (bs : Adds (bound_run names c.components c.bound_components c.bound_kinds c.bound_words []) b b' rb)
    (fs : Adds (after rb.refusal (pair_run c.components 2048 c.flow_sources c.flow_targets [])) f f' rf)
    (us : Adds (after rf.refusal (pair_run c.components 1024 c.upper_sources c.upper_targets [])) u u' ru)
    (rs : Adds (after ru.refusal (pair_run c.components 1024 c.read_arrays c.read_results [])) r r' rr) where
  bounds-ran : Adds (bounds_ran names c) b b' rb
  unfolding bounds_ran
  bounds-ran = bs

  flows-ran : Adds (flows_ran names c) f f' rf
  unfolding flows_ran
  flows-ran = adds-by (ap (λ (z : ℕ). after z (pair_run c.components 2048 c.flow_sources c.flow_targets [])) (sym (adds-told bounds-ran))) fs

  uppers-ran : Adds (uppers_ran names c) u u' ru
  unfolding uppers_ran
  uppers-ran = adds-by (ap (λ (z : ℕ). after z (pair_run c.components 1024 c.upper_sources c.upper_targets [])) (sym (adds-told flows-ran))) us

  reads-ran : Adds (reads_ran names c) r r' rr
  unfolding reads_ran
  reads-ran = adds-by (ap (λ (z : ℕ). after z (pair_run c.components 1024 c.read_arrays c.read_results [])) (sym (adds-told uppers-ran))) rs

  -- the room that the reads leave
  pub entered : Adds (after rr.refusal (pair_run c.components (1024 - rr.count) c.write_arrays c.write_values [])) w w' rw
      → Enters names c b b' f f' u u' r r' w w' (record { refusal = rw.refusal; bounds = rb.count; flows = rf.count; uppers = ru.count; reads = rr.count; writes = rw.count })
  entered ws =
      let told = adds-told writes-ran in
      let nb = adds-many bounds-ran in
      let nf = adds-many flows-ran in
      let nu = adds-many uppers-ran in
      let nr = adds-many reads-ran in
      let nw = adds-many writes-ran in
      record {
        counts-are = λ i. record { refusal = told i; bounds = nb i; flows = nf i; uppers = nu i; reads = nr i; writes = nw i };
        bounds-are = bounds-ran.entries-are;
        flows-are = flows-ran.entries-are;
        uppers-are = uppers-ran.entries-are;
        reads-are = reads-ran.entries-are;
        writes-are = writes-ran.entries-are;
      }
    where
      writes-ran : Adds (writes_ran names c) w w' rw
      writes-ran = writes-by names c r r' w w' rr rw reads-ran ws
