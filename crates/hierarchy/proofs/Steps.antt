-- One step of each loop, as the code meets it.
use mathlib.Core.Path.{◌≡◌, refl, sym, ap, ◌∙◌}
use mathlib.Core.Bool.{Bool, true, false, cond}
use mathlib.Core.List.{List, ◌∷◌}
use Prim.Native.Nat.{ℕ, ◌+◌, ◌-◌, ◌/◌, ◌%◌, ◌≤◌, ◌<◌}
use native.Mathlib.Omega.{arith}
use native.Mathlib.Numerals.{add-one}
use lib.Dec.{ltb}
use lib.ListN.{length, take, drop, get_or, length-take, drop_of_length-le}
use borrow.Author.Tests.{eq-eqb, ne_eqb}
use lib.Seq.{drop-cons, get_or-take, get_or-drop, ext_get_or}
use Rattle.std.proofs.Common.{length-drop}
use Rattle.sets.specs.Sets.{at, insert, remove, members, first}
use Rattle.sets.specs.Bits.{first-le}
use Rattle.view.specs.View.{View, insert_all, with_parents}
use Rattle.view.specs.Frontier.{members-pop, members-none}
use Rattle.tables.specs.Table.{parents_in, own_run}

-- ---- with_parents: the keys of the run, one by one

parents-cons : (names e : ℕ) (s es : List ℕ)
    → insert_all s (parents_in names (e ∷ es)) ≡ insert_all (cond (ltb (e % 1024) names) (insert s (e % 1024)) s) (parents_in names es)
unfolding insert_all parents_in
parents-cons names e s es = go (ltb (e % 1024) names)
  where
    go : (t : Bool) → insert_all s (cond t (e % 1024 ∷ parents_in names es) (parents_in names es)) ≡ insert_all (cond t (insert s (e % 1024)) s) (parents_in names es)
    go true = refl
    go false = refl

-- the keys of a part, from i on
module _ (names c : ℕ) (es s : List ℕ) (i : ℕ) where
  pub parents-end : length es ≤ i → insert_all s (parents_in names (own_run c (drop i es))) ≡ s
  unfolding insert_all parents_in own_run
  parents-end h = rw (drop_of_length-le es {i = i} h)

  module _ (h : i < length es) where
    next : drop i es ≡ get_or es i 0 ∷ drop (i + 1) es
    next = drop-cons es i 0 h ∙ ap (λ (m : ℕ). get_or es i 0 ∷ drop m es) (sym (add-one i))

    -- one of another class ends the run
    pub parents-stop : (get_or es i 0 / 1024 ≡ c → ⊥) → insert_all s (parents_in names (own_run c (drop i es))) ≡ s
    unfolding insert_all parents_in own_run
    parents-stop m = rw (next, ne_eqb (get_or es i 0 / 1024) c m)

    longer : get_or es i 0 / 1024 ≡ c → own_run c (drop i es) ≡ get_or es i 0 ∷ own_run c (drop (i + 1) es)
    unfolding own_run
    longer e = rw (next, eq-eqb (get_or es i 0 / 1024) c e)

    pub parents-step : get_or es i 0 / 1024 ≡ c → insert_all s (parents_in names (own_run c (drop i es)))
        ≡ insert_all (cond (ltb (get_or es i 0 % 1024) names) (insert s (get_or es i 0 % 1024)) s) (parents_in names (own_run c (drop (i + 1) es)))
    parents-step e = ap (λ (es : List ℕ). insert_all s (parents_in names es)) (longer e) ∙ parents-cons names (get_or es i 0) s (own_run c (drop (i + 1) es))

-- the part that is read: from first to the end of the first n
pub run-part : (n first past : ℕ) (a : List ℕ) → past ≡ length (take n a) → first ≤ past → take (past - first) (drop first a) ≡ drop first (take n a)
run-part n first past a e h =
    let t = length-take n a in
    ext_get_or 0 (take (past - first) (drop first a)) (drop first (take n a))
    (let p = length-take (past - first) (drop first a) in let d = length-drop first a in let q = length-drop first (take n a) in omega arith)
    (λ j k.
    let p = length-take (past - first) (drop first a) in
    let d = length-drop first a in
    get_or-take (past - first) (drop first a) j 0 (omega arith) ∙ get_or-drop first a j 0
    ∙ sym (get_or-drop first (take n a) j 0 ∙ get_or-take n a (first + j) 0 (omega arith)))

-- ---- expand: the members of the front, the least first

pub expand-step : (v : View) (s f : List ℕ) (c : ℕ) → c ≡ first (at f) 1024 → c < 1024
    → with_parents v s (members (at f) 0 1024) ≡ with_parents v (insert_all s (v.parents c)) (members (at (remove f c)) 0 1024)
unfolding with_parents
expand-step v s f c e h = ap (with_parents v s) (members-pop f c e h)

pub expand-end : (v : View) (s f : List ℕ) (c : ℕ) → c ≡ first (at f) 1024 → 1024 ≤ c → with_parents v s (members (at f) 0 1024) ≡ s
unfolding with_parents
expand-end v s f c e h = ap (with_parents v s) (members-none f (let l = first-le (at f) 1024 in omega arith))
