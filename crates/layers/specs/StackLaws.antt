-- Laws of stacks: rows keep them upright, one layer is a plain table, and slices that hold a stack hold the next.
use Rattle.std.specs.Prelude.{◌≡◌, Bool, List, ℕ, ◌+◌, ◌≤◌, eqb, leb, length, take, replicate}
use Rattle.std.proofs.Math.Path.{refl}
use Rattle.std.proofs.Common.{sym, ap, ap₂, ◌∙◌, subst, arith, ne_eqb, eqb-true, leb-false}
use Rattle.std.proofs.Math.Bool.{true, false, cond}
use Rattle.std.proofs.Math.Decide.{ℕ_discrete}
use Rattle.std.proofs.lemmas.Bool.{eqb-false}
use Rattle.rows.specs.Rows.{State, state_of, record_refusal, record_row}
use Rattle.rows.specs.Keys.{take-filled, length-filled}
use Rattle.rows.specs.Laws.{Sound, record-refused, good-record}
use Rattle.layers.specs.declared.StackTables.{StackTables}
use Rattle.layers.specs.declared.StackOutcome.{StackOutcome}
use Rattle.layers.specs.Layers.{layers_room, Layered, layer_keys, layer_refusal, layer_row, opened}
use Rattle.layers.specs.Laws.{Stands, layer-refused, inside-none, stands-first, stands-next, stands-row}
use Rattle.layers.specs.Stacks.{Stack, ground, top_keys, stack_refusal, stack_row, open_refusal, open_row, StackRan, Upright, stack_of, Holds, numbers_of, FillsStack, opened_tables}

-- ---- the keys of the topmost layer

pub top-lowest : (s : Stack) → s.under ≡ 0 → top_keys s ≡ s.top.shown.keys
unfolding top_keys
top-lowest s e = rw e

pub top-layer : (s : Stack) → (s.under ≡ 0 → ⊥) → top_keys s ≡ layer_keys s.top
unfolding top_keys
top-layer s n = rw (ne_eqb s.under 0 n)

-- ---- the lowest layer is a plain table, and one above it stands on it

pub upright-sound : (s : Stack) → s.under ≡ 0 → Upright s → Sound s.top.shown
upright-sound s e g = record {
  few = g.few;
  short = g.short;
  ordered = g.ordered;
  counted = g.counted;
  room = let t = ap length (top-lowest s e) in omega (arith, g.top-room);
  classes = g.classes;
  wide = g.wide;
}

pub upright-stands : (s : Stack) → (s.under ≡ 0 → ⊥) → Upright s → Stands s.under s.top
upright-stands s n g =
    let t = ap length (top-layer s n) in
    record {
      few = g.few;
      short = g.short;
      ordered = g.ordered;
      counted = g.counted;
      classes = g.classes;
      wide = g.wide;
      own-wide = g.own-wide;
      layer-room = omega (arith, g.top-room);
      room = omega (arith, g.room);
    }

sound-upright : (t : Layered) → Sound t.shown → t.own ≡ replicate 16 0 → Upright (record { top = t; under = 0 })
unfolding top_keys
sound-upright t g e = record {
  few = g.few;
  short = g.short;
  ordered = g.ordered;
  counted = g.counted;
  classes = g.classes;
  wide = g.wide;
  own-wide = ap length e;
  low = omega arith;
  own-none = λ z. e;
  top-room = g.room;
  room = omega arith;
}

stands-upright : (t : Layered) (under : ℕ) → (under ≡ 0 → ⊥) → under ≤ 3 → Stands under t → Upright (record { top = t; under = under })
stands-upright t under n low g =
    let s : Stack = record { top = t; under = under } in
    let k = ap length (top-layer s n) in
    record {
      few = g.few;
      short = g.short;
      ordered = g.ordered;
      counted = g.counted;
      classes = g.classes;
      wide = g.wide;
      own-wide = g.own-wide;
      low = low;
      own-none = λ z. absurd (n z);
      top-room = omega (arith, g.layer-room);
      room = omega (arith, g.room);
    }

-- A STACK IS SO AT THE START
pub upright-ground : (s : State) → Sound s → Upright (ground s)
upright-ground s g = sound-upright (opened s) g refl

-- ONE LAYER IS A PLAIN TABLE, row by row
pub ground-row : (s : State) (flags class : ℕ) (parents : List ℕ) → stack_row (ground s) flags class parents ≡ ground (record_row s flags class parents)
unfolding stack_row
ground-row s flags class parents = refl

pub ground-refusal : (s : State) (flags class : ℕ) (parents : List ℕ) → stack_refusal (ground s) flags class parents ≡ record_refusal s.tables.names s.keys flags class parents
unfolding stack_refusal
ground-refusal s flags class parents = refl

-- what a row comes to on the lowest layer, and on one above
module _ (s : Stack) (flags class : ℕ) (parents : List ℕ) where
  pub row-lowest : s.under ≡ 0 → stack_row s flags class parents ≡ record { top = record { shown = record_row s.top.shown flags class parents; own = s.top.own }; under = 0 }
  unfolding stack_row
  row-lowest e = rw e

  pub row-layer : (s.under ≡ 0 → ⊥) → stack_row s flags class parents ≡ record { top = layer_row s.top flags class parents; under = s.under }
  unfolding stack_row
  row-layer n = rw (ne_eqb s.under 0 n)

  pub refusal-lowest : s.under ≡ 0 → stack_refusal s flags class parents ≡ record_refusal s.top.shown.tables.names s.top.shown.keys flags class parents
  unfolding stack_refusal
  refusal-lowest e = rw e

  pub refusal-layer : (s.under ≡ 0 → ⊥) → stack_refusal s flags class parents ≡ layer_refusal s.top flags class parents
  unfolding stack_refusal
  refusal-layer n = rw (ne_eqb s.under 0 n)

  -- A REFUSED RECORD CHANGES NO LAYER
  pub row-refused : (stack_refusal s flags class parents ≡ 0 → ⊥) → stack_row s flags class parents ≡ s
  row-refused n = go (ℕ_discrete s.under 0)
    where
      go : Dec (s.under ≡ 0) → stack_row s flags class parents ≡ s
      go (yes z) =
          let same = record-refused s.top.shown flags class parents (λ q. n (refusal-lowest z ∙ q)) in
          row-lowest z ∙ (λ i. record { top = record { shown = same i; own = s.top.own }; under = sym z i })
      go (no z) =
          let same = layer-refused s.top flags class parents (λ q. n (refusal-layer z ∙ q)) in
          row-layer z ∙ (λ i. record { top = same i; under = s.under })

  -- A RECORD IS REFUSED AS OVER THE KEYS OF THE TOPMOST LAYER ALONE
  pub refusal-top : stack_refusal s flags class parents ≡ record_refusal s.top.shown.tables.names (top_keys s) flags class parents
  unfolding stack_refusal top_keys layer_refusal
  refusal-top = go (eqb s.under 0)
    where
      go : (t : Bool) → cond t (record_refusal s.top.shown.tables.names s.top.shown.keys flags class parents) (record_refusal s.top.shown.tables.names (layer_keys s.top) flags class parents)
          ≡ record_refusal s.top.shown.tables.names (cond t s.top.shown.keys (layer_keys s.top)) flags class parents
      go true = refl
      go false = refl

  -- AND STAYS SO after a record
  pub upright-row : Upright s → Upright (stack_row s flags class parents)
  upright-row g = go (eqb s.under 0) refl
    where
      go : (t : Bool) → eqb s.under 0 ≡ t → Upright (stack_row s flags class parents)
      go true e =
          let z = eqb-true s.under 0 e in
          subst Upright (sym (row-lowest z)) (sound-upright _ (good-record s.top.shown flags class parents (upright-sound s z g)) (g.own-none z))
      go false e =
          let n = eqb-false s.under 0 e in
          subst Upright (sym (row-layer n)) (stands-upright _ s.under n g.low (stands-row s.under s.top flags class parents (upright-stands s n g)))

-- and where a layer is opened
pub upright-open : (s : Stack) → Upright s → Upright (open_row s)
unfolding open_row
upright-open s g = go (leb 3 s.under) refl (eqb s.under 0) refl
  where
    go : (t : Bool) → leb 3 s.under ≡ t → (b : Bool) → eqb s.under 0 ≡ b → Upright (cond t s (record { top = opened s.top.shown; under = s.under + 1 }))
    go true e b q = g
    go false e true q =
        let z = eqb-true s.under 0 q in
        stands-upright (opened s.top.shown) (s.under + 1) (λ k. omega arith) (omega arith) (subst (λ (u : ℕ). Stands u (opened s.top.shown)) (let k : 1 ≡ s.under + 1 = omega arith in k) (stands-first s.top.shown (upright-sound s z g)))
    go false e false q =
        let n = eqb-false s.under 0 q in
        stands-upright (opened s.top.shown) (s.under + 1) (λ k. omega arith) (let k = leb-false 3 s.under e in omega arith) (stands-next s.under s.top (upright-stands s n g))

-- ---- in slices

-- WHAT SLICES HOLD AFTER A ROW IS THE STACK AFTER IT
module _ (after : StackRan) (pairs pairs' marks' : List ℕ) (r : StackOutcome) (f : FillsStack after pairs pairs' marks' r) (u : Upright after.state) (w : length pairs ≡ layers_room) where
  filled-stack : stack_of pairs' marks' r.stack ≡ after.state
  filled-stack =
      ap (λ (n : StackTables). stack_of pairs' marks' n) (ap (λ (o : StackOutcome). o.stack) f.outcome-is)
      ∙ ap₂ (λ (k m : List ℕ). record { top = record { shown = record { tables = after.state.top.shown.tables; keys = k; marks = m }; own = after.state.top.own }; under = after.state.under })
      (ap (take after.state.top.shown.tables.pairs) f.pairs-are ∙ take-filled after.state.top.shown.keys pairs after.state.top.shown.tables.pairs u.counted)
      f.marks-are

  fits : length after.state.top.shown.keys ≤ length pairs
  fits = omega (arith, u.room, u.top-room, u.low, w)

  pub holds-after : Holds pairs' marks' r.stack × (stack_of pairs' marks' r.stack ≡ after.state)
  holds-after = (
    record {
      long = ap length f.pairs-are ∙ length-filled after.state.top.shown.keys pairs fits ∙ w;
      upright = subst Upright (sym filled-stack) u;
      layer-counted = ap (λ (o : StackOutcome). o.stack.layer.keys) f.outcome-is ∙ ap (λ (s : Stack). length (layer_keys s.top)) (sym filled-stack);
    },
    filled-stack,
  )

opened-stack : (pairs marks : List ℕ) (n : StackTables) → stack_of pairs marks (opened_tables n).stack ≡ open_row (stack_of pairs marks n)
unfolding opened_tables open_row
opened-stack pairs marks n = go (leb 3 n.under)
  where
    more : StackTables
    more = record { tables = n.tables; layer = record { own = record { words = replicate 16 0 }; keys = 0 }; under = n.under + 1 }

    go : (t : Bool) → stack_of pairs marks (cond {A = StackOutcome} t (record { refusal = 8; stack = n }) (record { refusal = 0; stack = more })).stack
        ≡ cond t (stack_of pairs marks n) (record { top = opened (state_of pairs marks n.tables); under = n.under + 1 })
    go true = refl
    go false = refl

-- AND AFTER A LAYER IS OPENED, which changes no slice
module _ (pairs marks : List ℕ) (n : StackTables) (g : Holds pairs marks n) where
  pub opened-is : opened_tables n ≡ record { refusal = open_refusal (stack_of pairs marks n); stack = numbers_of (open_row (stack_of pairs marks n)) }
  unfolding opened_tables open_refusal open_row
  opened-is = go (leb 3 n.under)
    where
      next : Stack
      next = record { top = opened (state_of pairs marks n.tables); under = n.under + 1 }

      go : (t : Bool)
          → cond {A = StackOutcome} t (record { refusal = 8; stack = n }) (record { refusal = 0; stack = record { tables = n.tables; layer = record { own = record { words = replicate 16 0 }; keys = 0 }; under = n.under + 1 } })
          ≡ record { refusal = cond t 8 0; stack = numbers_of (cond t (stack_of pairs marks n) next) }
      go true = λ i. record { refusal = 8; stack = record { tables = n.tables; layer = record { own = n.layer.own; keys = g.layer-counted i }; under = n.under } }
      go false = λ i. record {
        refusal = 0;
        stack = record { tables = n.tables; layer = record { own = record { words = replicate 16 0 }; keys = (ap length (sym (inside-none (take n.tables.pairs pairs)))) i }; under = n.under + 1 };
      }

  pub holds-open : Holds pairs marks (opened_tables n).stack × (stack_of pairs marks (opened_tables n).stack ≡ open_row (stack_of pairs marks n))
  holds-open = (
    record {
      long = g.long;
      upright = subst Upright (sym same) (upright-open (stack_of pairs marks n) g.upright);
      layer-counted = ap (λ (o : StackOutcome). o.stack.layer.keys) opened-is ∙ ap (λ (s : Stack). length (layer_keys s.top)) (sym same);
    },
    same,
  )
    where
      same : stack_of pairs marks (opened_tables n).stack ≡ open_row (stack_of pairs marks n)
      same = opened-stack pairs marks n
