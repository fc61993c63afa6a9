-- The search by halving: names before `low` are below the key, names from `high` on are above it.
use mathlib.Core.Path.{◌≡◌, refl, sym, ap, ◌∙◌}
use mathlib.Core.Bool.{Bool, true, false}
use mathlib.Core.List.{List}
use mathlib.Core.Logic.{⊎_elim}
use mathlib.Core.Option.{some, none}
use Prim.Native.Nat.{ℕ, ◌+◌, ◌≤◌, ◌<◌}
use native.Mathlib.Nat.{eq-or-lt_of_le}
use native.Mathlib.Omega.{arith}
use lib.Dec.{ltb}
use lib.ListN.{length}
use borrow.Author.Tests.{ltb-true, ltb-false}
use Rattle.order.specs.Laws.{less-not-equal, equal-not-greater, lists-same, lists-equal, lists-swap, lists-trans}
use Rattle.order.specs.Compare.{compare_lists, flip}
use Rattle.std.specs.declared.cmp.Ordering.TheVariants.{Less, Equal, Greater}
use Rattle.names.specs.Names.{name_at, lookup}
use Rattle.names.specs.Table.{Checked, below}
use Rattle.names.specs.Lookup.{lookup-none, lookup-is}

pub record Bracket (bytes ats lens key : List ℕ) (low high : ℕ) : Type 0 where
  pub table : Checked bytes ats lens
  pub ordered : low ≤ high
  pub ends : high ≤ length ats
  pub lower : (k : ℕ) → k < low → compare_lists (name_at bytes ats lens k) key ≡ Less
  pub higher : (k : ℕ) → high ≤ k → k < length ats → compare_lists (name_at bytes ats lens k) key ≡ Greater

pub bracket-start : (bytes ats lens key : List ℕ) → Checked bytes ats lens → Bracket bytes ats lens key 0 (length ats)
bracket-start bytes ats lens key t =
    record {
      table = t;
      ordered = omega arith;
      ends = omega arith;
      lower = λ k h. absurd (omega arith);
      higher = λ k h l. absurd (omega arith);
    }

module _ {bytes ats lens key : List ℕ} {low high : ℕ} (b : Bracket bytes ats lens key low high) where
  pub bracket-up : (m : ℕ) → low ≤ m → m < high → compare_lists (name_at bytes ats lens m) key ≡ Less
      → Bracket bytes ats lens key (m + 1) high
  bracket-up m l h e =
      record {
        table = b.table;
        ordered = omega arith;
        ends = b.ends;
        lower = λ k j.
            ⊎_elim (λ s. ap (λ (x : ℕ). compare_lists (name_at bytes ats lens x) key) s ∙ e)
            (λ s.
            lists-trans (name_at bytes ats lens k) (name_at bytes ats lens m) key
            (below bytes ats lens b.table k m s (let q = b.ends in omega arith)) e)
            (eq-or-lt_of_le (let q : k ≤ m = omega arith in q));
        higher = b.higher;
      }

  pub bracket-down : (m : ℕ) → low ≤ m → m < high → compare_lists (name_at bytes ats lens m) key ≡ Greater
      → Bracket bytes ats lens key low m
  bracket-down m l h e =
      record {
        table = b.table;
        ordered = l;
        ends = let q = b.ends in omega arith;
        lower = b.lower;
        higher = λ k j z.
            ⊎_elim (λ s. ap (λ (x : ℕ). compare_lists (name_at bytes ats lens x) key) (sym s) ∙ e)
            (λ s.
            lists-swap key (name_at bytes ats lens k)
            ∙ ap flip
            (lists-trans key (name_at bytes ats lens m) (name_at bytes ats lens k)
            (lists-swap (name_at bytes ats lens m) key ∙ ap flip e) (below bytes ats lens b.table m k s z)))
            (eq-or-lt_of_le j);
      }

  pub bracket-hit : (m : ℕ) → m < high → compare_lists (name_at bytes ats lens m) key ≡ Equal → lookup bytes ats lens key ≡ some m
  bracket-hit m h e =
      (lookup-is bytes ats lens key b.table m).1
      (let q = b.ends in (omega arith, lists-equal (name_at bytes ats lens m) key e))

  -- the ends have met: no name is the key
  pub bracket-miss : high ≤ low → lookup bytes ats lens key ≡ none
  bracket-miss h =
      lookup-none bytes ats lens key (λ k l e.
      settled k l (ap (compare_lists (name_at bytes ats lens k)) (sym e) ∙ lists-same (name_at bytes ats lens k)) (ltb k low) refl)
    where
      settled : (k : ℕ) → k < length ats → compare_lists (name_at bytes ats lens k) key ≡ Equal → (t : Bool) → ltb k low ≡ t → ⊥
      settled k l same true t = less-not-equal (sym (b.lower k (ltb-true k low t)) ∙ same)
      settled k l same false t = equal-not-greater (sym same ∙ b.higher k (let q = ltb-false k low t in omega arith) l)
