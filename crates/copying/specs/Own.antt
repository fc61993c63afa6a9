-- A COMPONENT'S OWN KEYS: the part of a table's keys that is one component's. Its bounds of a kind, and its state, are those of the whole
-- table; and the part is the keys of a tidy table.
use Rattle.std.specs.Prelude.{◌≡◌, refl, List, [], ◌∷◌, ◌++◌, map, ℕ, zero, suc, ◌-◌, ◌^◌, ◌≤◌, ◌<◌, length, take, drop}
use Rattle.std.proofs.Common.{sym, ap, ap₂, ◌∙◌, subst, arith, length-take}
use Rattle.sorted.specs.declared.Span.{Span}
use Rattle.sorted.specs.Sorted.{Sorted, run_of}
use Rattle.sorted.specs.Places.{run-within}
use Rattle.sorted.specs.Parts.{part, part-sorted, part-front, entries, run-in-run}
use Rattle.keys.specs.Rank.{key_type}
use Rattle.solving.specs.Tidy.{Tidy}
use Rattle.solving.proofs.Tidy.{part-tidy}
use Rattle.solving.specs.TableKeys.{key_of, keys_of, prefix}
use Rattle.solving.proofs.TableKeys.{tidy-keyed, types-run}
use Rattle.solving.specs.Solving.{Domain, Fallback, Upper, Lower, Exact, Table, types_of, state_of}
use Rattle.copying.specs.Copies.{run_in, uppers_in}

-- the keys of a component's bounds, of every kind
abbrev pub own_in : ℕ → List ℕ → List ℕ
own_in c keys = entries (2 ^ 55) c keys

module _ (c : ℕ) (keys : List ℕ) (o : Sorted keys) where
  pub own-sorted : Sorted (own_in c keys)
  own-sorted = part-sorted (run_of (2 ^ 55) c keys).first (run_of (2 ^ 55) c keys).past keys o

  -- ITS BOUNDS OF A KIND
  pub own-run : (k : ℕ) → k < 8 → run_in c k (own_in c keys) ≡ run_in c k keys
  unfolding run_in
  own-run k small = run-in-run (2 ^ 55) c (2 ^ 52) (prefix c k) keys o (omega arith) (omega arith)

  pub own-uppers : uppers_in c (own_in c keys) ≡ uppers_in c keys
  own-uppers = ap₂ (λ (x y : List ℕ). x ++ y) (own-run Upper (omega arith)) (own-run Exact (omega arith))

-- as code meets it: of the first n of a slice
module _ (c n : ℕ) (a : List ℕ) (o : Sorted (take n a)) (h : n ≤ length a) (r : Span) (e : r ≡ run_of (2 ^ 55) c (take n a)) where
  pub own-within : (r.first ≤ r.past) × (r.past ≤ n)
  own-within =
      let l = length-take n a in
      let w = run-within (2 ^ 55) c (take n a) o (omega arith) in
      subst (λ (s : Span). (s.first ≤ s.past) × (s.past ≤ n)) (sym e) (w.0, let z = w.1 in omega arith)

  pub own-is : part r.first r.past a ≡ own_in c (take n a)
  own-is =
      let w = own-within in
      sym (part-front r.first r.past n a w.0 w.1 h) ∙ ap (λ (s : Span). part s.first s.past (take n a)) e

-- ---- of a tidy table

map-take : {A B : Type 0} (f : A → B) (n : ℕ) (l : List A) → take n (map f l) ≡ map f (take n l)
map-take f zero l = refl
map-take f (suc n) [] = refl
map-take f (suc n) (x ∷ l) = ap (◌∷◌ (f x)) (map-take f n l)

map-drop : {A B : Type 0} (f : A → B) (n : ℕ) (l : List A) → drop n (map f l) ≡ map f (drop n l)
map-drop f zero l = refl
map-drop f (suc n) [] = refl
map-drop f (suc n) (x ∷ l) = map-drop f n l

module _ (names n : ℕ) (t : Table) (q : List ℕ) (few : names ≤ 1024) (y : Tidy names n t q) (o : Sorted (keys_of t)) (c : ℕ) where
  abbrev first : ℕ
  first = (run_of (2 ^ 55) c (keys_of t)).first

  abbrev past : ℕ
  past = (run_of (2 ^ 55) c (keys_of t)).past

  abbrev pub own_table : Table
  own_table = take (past - first) (drop first t)

  pub own-keys : own_in c (keys_of t) ≡ keys_of own_table
  own-keys = ap (take (past - first)) (map-drop key_of first t) ∙ map-take key_of (past - first) (drop first t)

  -- THE PART IS THAT OF A TIDY TABLE
  pub own-tidy : Tidy names n own_table q
  own-tidy = part-tidy names n t q first (past - first) y

  own-types : (k : ℕ) → k < 8 → types_of c k own_table ≡ types_of c k t
  own-types k small =
      types-run c k small own_table (tidy-keyed names n own_table q few own-tidy) own-tidy.ascends
      ∙ ap (map key_type) (ap (entries (2 ^ 52) (prefix c k)) (sym own-keys) ∙ run-in-run (2 ^ 55) c (2 ^ 52) (prefix c k) (keys_of t) o (omega arith) (omega arith))
      ∙ sym (types-run c k small t (tidy-keyed names n t q few y) y.ascends)

  -- AND ITS STATE IS THE SAME
  pub own-state : state_of own_table c ≡ state_of t c
  unfolding state_of
  own-state =
      let e = own-types Exact (omega arith) in
      let l = own-types Lower (omega arith) in
      let u = own-types Upper (omega arith) in
      let d = own-types Domain (omega arith) in
      let f = own-types Fallback (omega arith) in
      λ i. record { exact = e i; lower = l i; upper = u i; domain = d i; fallback = f i }
