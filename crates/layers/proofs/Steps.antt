-- What the loop and the returns of this crate go by, on plain lists.
use mathlib.Core.Path.{◌≡◌, sym, ap, ap₂, ◌∙◌, subst}
use mathlib.Core.List.{List, ◌++◌, append_assoc}
use Prim.Native.Nat.{ℕ, ◌+◌, ◌-◌, ◌≤◌, ◌<◌}
use native.Mathlib.Omega.{arith}
use borrow.Author.Tests.{le-leb, lt-leb}
use lib.ListN.{length, length-take, take, drop, replicate, length-drop, length-append, take-append-drop}
use Rattle.std.specs.List.{copy_within}
use lib.Seq.{length-take-le, take-take, take-add, drop_at, drop-drop}
use Rattle.sets.specs.Sets.{insert}
use Rattle.sorted.specs.declared.Span.{Span}
use Rattle.sorted.specs.Sorted.{Sorted, run_of}
use Rattle.sorted.specs.Places.{run-within}
use Rattle.tables.specs.declared.Tables.{Tables}
use Rattle.tables.specs.Table.{names_room, pairs_room, marks_room}
use Rattle.rows.specs.declared.Outcome.{Outcome}
use Rattle.rows.specs.Rows.{State, state_of, Ran, Fills, record_row, record_ran, put_all, record_marks, record_refusal, with_pairs, with_record, filled, Below}
use Rattle.rows.specs.Keys.{all-longer, filled-same, take-filled, length-filled, filled-again}
use Rattle.rows.specs.Laws.{Sound, GoodRecord, record-good, good-record}
use Rattle.layers.specs.declared.Layer.{Layer}
use Rattle.layers.specs.declared.LayerOutcome.{LayerOutcome}
use Rattle.layers.specs.declared.StackTables.{StackTables}
use Rattle.layers.specs.declared.StackOutcome.{StackOutcome}
use Rattle.layers.specs.Layers.{Layered, keys_inside, keys_without, keys_left, layer_keys, layer_refusal, with_layer_record, layer_ran, layered_of, Roomy, FillsLayer}
use Rattle.layers.specs.Stacks.{Stack, stack_row, stack_ran, stack_of, numbers_of, Holds, FillsStack, opened_tables}
use Rattle.layers.specs.StackLaws.{top-layer, upright-sound, row-lowest, row-layer, refusal-lowest, refusal-layer}
use Rattle.layers.specs.Laws.{inside-none, without-run, left-sorted, left-shorter, grown-alike, layer-keys-after, layer-refused, layer-taken}

-- ---- moving down

-- the entries of a front from k on
pub drop-front : (A : List ℕ) (k n : ℕ) → k ≤ n → n ≤ length A → take (n - k) (drop k A) ≡ drop k (take n A)
drop-front A k n h m =
    let e : k + (n - k) ≡ n = omega arith in
    sym (ap (λ (i : ℕ). drop k (take i A)) (sym e) ∙ ap (λ (l : List ℕ). drop k l) (take-add k (n - k) A) ∙ drop_at (take k A) (take (n - k) (drop k A)) k (length-take-le k A (omega arith)))

-- ---- a run taken out of the front

module _ (A : List ℕ) (n first past : ℕ) (h : first ≤ past) (m : past ≤ n) (w : n ≤ length A) where
  pub closed-length : length (take first (take n A) ++ drop past (take n A)) ≡ n - (past - first)
  closed-length =
      let a = length-append (take first (take n A)) (drop past (take n A)) in
      let b = length-take first (take n A) in
      let d = length-drop past (take n A) in
      let f = length-take-le n A w in
      omega arith

  -- what stands behind the run, copied to where it began
  pub closed-up : copy_within A past n first ≡ filled (take first (take n A) ++ drop past (take n A)) A
  closed-up =
      let end : first + (n - past) ≡ length (take first (take n A) ++ drop past (take n A)) = let c = closed-length in omega arith in
      ap₂ (λ (u v : List ℕ). (u ++ v) ++ drop (first + (n - past)) A) (sym (take-take first n A (omega arith))) (drop-front A past n m w)
      ∙ ap (λ (i : ℕ). (take first (take n A) ++ drop past (take n A)) ++ drop i A) end

module _ (A : List ℕ) (n c : ℕ) (w : n ≤ length A) (g : Sorted (take n A)) (r : Span) (e : r ≡ run_of names_room c (take n A)) where
  pub run-in : (r.first ≤ r.past) × (r.past ≤ n)
  run-in =
      let f = ap (λ (s : Span). s.first) e in
      let p = ap (λ (s : Span). s.past) e in
      let k = run-within names_room c (take n A) g (omega arith) in
      let t = length-take-le n A w in
      (omega (arith, k.0), omega (arith, k.1))

  pub run-gone : keys_without c (take n A) ≡ take r.first (take n A) ++ drop r.past (take n A)
  run-gone = without-run c (take n A) g ∙ ap (λ (s : Span). take s.first (take n A) ++ drop s.past (take n A)) (sym e)

-- ---- a record

module _ (pairs marks : List ℕ) (t : Tables) (layer : Layer) (g : Roomy pairs marks t layer) (flags class : ℕ) (parents : List ℕ) where
  many : length (take t.pairs pairs) ≡ t.pairs
  many = length-take-le t.pairs pairs (let w = g.long in let n = g.within in omega arith)

  pub front-same : filled (take t.pairs pairs) pairs ≡ pairs
  front-same = filled-same t.pairs pairs (let w = g.long in let n = g.within in omega arith)

  module _ (k : ℕ) (e : k ≡ record_refusal t.names (keys_inside layer.own.words (take t.pairs pairs)) flags class parents) where
    told : k ≡ layer_refusal (layered_of pairs marks t layer) flags class parents
    unfolding layer_refusal
    told = e

    pub fills-refused : (k ≡ 0 → ⊥) → FillsLayer (layer_ran (layered_of pairs marks t layer) flags class parents) pairs pairs marks (record { refusal = k; tables = t; layer = layer })
    fills-refused n =
        let r = layer-refused (layered_of pairs marks t layer) flags class parents (λ z. n (told ∙ z)) in
        record {
          outcome-is = λ i. record { refusal = told i; tables = (ap (λ (x : Layered). x.shown.tables) (sym r)) i; layer = record { own = record { words = (ap (λ (x : Layered). x.own) (sym r)) i }; keys = (g.counted ∙ ap (λ (x : Layered). length (layer_keys x)) (sym r)) i } };
          pairs-are = sym front-same ∙ ap (λ (x : Layered). filled x.shown.keys pairs) (sym r);
          marks-are = ap (λ (x : Layered). x.shown.marks) (sym r);
        }

    module _ (z : k ≡ 0) where
      pub good : GoodRecord t.names (keys_inside layer.own.words (take t.pairs pairs)) flags class parents
      good = record-good t.names (keys_inside layer.own.words (take t.pairs pairs)) flags class parents (sym e ∙ z)

      pub small-class : class < names_room
      small-class = omega (arith, good.class-in, g.few)

      pub small-parents : Below names_room parents
      small-parents i h = omega (arith, good.parents-in i h, g.few)

      pub left-in : length (keys_left layer.own.words class (take t.pairs pairs)) ≤ length pairs
      left-in = omega (arith, left-shorter layer.own.words class (take t.pairs pairs), many, g.long, g.within)

      grown : length (put_all class parents (keys_inside layer.own.words (take t.pairs pairs))) + length (keys_left layer.own.words class (take t.pairs pairs))
          ≡ length (keys_inside layer.own.words (take t.pairs pairs)) + length (put_all class parents (keys_left layer.own.words class (take t.pairs pairs)))
      grown = grown-alike layer.own.words class parents (take t.pairs pairs) g.ordered small-parents

      pub all-in : length (put_all class parents (keys_left layer.own.words class (take t.pairs pairs))) ≤ length pairs
      all-in = omega (arith, grown, left-shorter layer.own.words class (take t.pairs pairs), many, g.long, g.room, g.counted, good.room)

      -- the pairs after the keys below have gone
      module _ (left : ℕ) (pairs₁ : List ℕ) (el : left ≡ length (keys_left layer.own.words class (take t.pairs pairs)))
          (ep : pairs₁ ≡ filled (keys_left layer.own.words class (take t.pairs pairs)) pairs) where
        pub left-front : take left pairs₁ ≡ keys_left layer.own.words class (take t.pairs pairs)
        left-front = ap (take left) ep ∙ take-filled (keys_left layer.own.words class (take t.pairs pairs)) pairs left el

        pub left-long : length pairs₁ ≡ length pairs
        left-long = ap length ep ∙ length-filled (keys_left layer.own.words class (take t.pairs pairs)) pairs left-in

        pub left-within : left ≤ length pairs₁
        left-within = omega (arith, el, left-long, left-in)

        pub left-ordered : Sorted (take left pairs₁)
        left-ordered = subst Sorted (sym left-front) (left-sorted layer.own.words class (take t.pairs pairs) g.ordered)

        pub left-room : length (put_all class parents (take left pairs₁)) ≤ length pairs₁
        left-room = omega (arith, ap (λ (x : List ℕ). length (put_all class parents x)) left-front, left-long, all-in)

        module _ (n : ℕ) (pairs₂ marks₂ : List ℕ) (en : n ≡ length (put_all class parents (take left pairs₁))) (eq : pairs₂ ≡ filled (put_all class parents (take left pairs₁)) pairs₁)
            (em : marks₂ ≡ record_marks flags class marks) where
          now-keys : put_all class parents (take left pairs₁) ≡ put_all class parents (keys_left layer.own.words class (take t.pairs pairs))
          now-keys = ap (put_all class parents) left-front

          pub more : left ≤ n
          more = omega (arith, en, all-longer class parents (take left pairs₁), ap length left-front, el)

          -- the layer's keys, counted on
          pub counted-on : layer.keys + (n - left) ≡ length (put_all class parents (keys_inside layer.own.words (take t.pairs pairs)))
          counted-on = omega (arith, en, el, grown, ap length now-keys, g.counted, more)

          pub fills-taken : (words : List ℕ) → words ≡ insert layer.own.words class
              → FillsLayer (layer_ran (layered_of pairs marks t layer) flags class parents) pairs pairs₂ marks₂ (record { refusal = 0; tables = with_pairs t n; layer = record { own = record { words = words }; keys = layer.keys + (n - left) } })
          unfolding with_layer_record with_record
          fills-taken words ew =
              let zero-told = sym z ∙ told in
              let r = layer-taken (layered_of pairs marks t layer) flags class parents (sym zero-told) in
              let after = layer-keys-after layer.own.words class parents (take t.pairs pairs) g.ordered small-parents small-class g.own-wide in
              record {
                outcome-is = λ i. record {
                  refusal = zero-told i;
                  tables = (ap (with_pairs t) (en ∙ ap length now-keys) ∙ ap (λ (x : Layered). x.shown.tables) (sym r)) i;
                  layer = record {
                    own = record { words = (ew ∙ ap (λ (x : Layered). x.own) (sym r)) i };
                    keys = (counted-on ∙ ap length (sym after) ∙ ap (λ (x : Layered). length (layer_keys x)) (sym r)) i;
                  };
                };
                pairs-are =
                    eq ∙ ap (filled (put_all class parents (take left pairs₁))) ep
                    ∙ filled-again (keys_left layer.own.words class (take t.pairs pairs)) (put_all class parents (take left pairs₁)) pairs
                    (omega (arith, all-longer class parents (take left pairs₁), ap length left-front))
                    ∙ ap (λ (x : List ℕ). filled x pairs) now-keys ∙ ap (λ (x : Layered). filled x.shown.keys pairs) (sym r);
                marks-are = em ∙ ap (λ (x : Layered). x.shown.marks) (sym r);
              }

-- ---- a stack

module _ (pairs marks : List ℕ) (n : StackTables) (g : Holds pairs marks n) where
  -- a layer above others has room for three below it
  pub holds-roomy : 1 ≤ n.under → Roomy pairs marks n.tables n.layer
  holds-roomy h =
      let u = g.upright in
      let t = ap length (top-layer (stack_of pairs marks n) (λ z. omega arith)) in
      let k = g.layer-counted in
      let m = length-take n.tables.pairs pairs in
      record {
        few = u.few;
        long = g.long;
        wide = u.wide;
        within = omega (arith, u.counted, g.long);
        ordered = u.ordered;
        own-wide = u.own-wide;
        counted = g.layer-counted;
        layer-room = omega (arith, u.top-room);
        room = omega (arith, u.room, u.low, u.counted);
      }

  -- the lowest layer is in the front
  module _ (z : n.under ≡ 0) where
    sound : Sound (state_of pairs marks n.tables)
    sound = upright-sound (stack_of pairs marks n) z g.upright

    pub front-part : take n.tables.pairs (take 4096 pairs) ≡ take n.tables.pairs pairs
    front-part =
        let s = sound in
        take-take n.tables.pairs 4096 pairs (omega (arith, s.counted, s.room))

    pub lowest-ready : (n.tables.names ≤ names_room) × (n.tables.pairs ≤ pairs_room) × (length (take 4096 pairs) ≡ pairs_room) × (length marks ≡ marks_room) × Sorted (take n.tables.pairs (take 4096 pairs))
    lowest-ready =
        let s = sound in
        (s.few, omega (arith, s.counted, s.room), length-take-le 4096 pairs (omega (arith, g.long)), s.wide, subst Sorted (sym front-part) s.ordered)

    -- a row of a plain table, in the front of the pairs
    pub lowest-filled : (flags class : ℕ) (parents part' marks' : List ℕ) (o : Outcome)
        → Fills (record_ran (state_of (take 4096 pairs) marks n.tables) flags class parents) (take 4096 pairs) part' marks' o
        → FillsStack (stack_ran (stack_of pairs marks n) flags class parents) pairs (part' ++ drop 4096 pairs) marks' (record { refusal = o.refusal; stack = record { tables = o.tables; layer = n.layer; under = n.under } })
    lowest-filled flags class parents part' marks' o f =
        let s : Stack = stack_of pairs marks n in
        let front : State = state_of (take 4096 pairs) marks n.tables in
        let same : front ≡ state_of pairs marks n.tables = ap (λ (k : List ℕ). record { tables = n.tables; keys = k; marks = marks }) front-part in
        let ran : record_ran front flags class parents ≡ record_ran (state_of pairs marks n.tables) flags class parents = ap (λ (x : State). record_ran x flags class parents) same in
        let row = row-lowest s flags class parents z in
        let refusal = refusal-lowest s flags class parents z in
        let none = g.upright.own-none z in
        let after = good-record (state_of pairs marks n.tables) flags class parents sound in
        let kept : n.layer.keys ≡ length (layer_keys (stack_row s flags class parents).top) =
        g.layer-counted ∙ ap (λ (w : List ℕ). length (keys_inside w (take n.tables.pairs pairs))) none ∙ ap length (inside-none (take n.tables.pairs pairs))
        ∙ sym (ap (λ (x : Stack). length (layer_keys x.top)) row ∙ ap (λ (w : List ℕ). length (keys_inside w (record_row (state_of pairs marks n.tables) flags class parents).keys)) none ∙ ap length (inside-none (record_row (state_of pairs marks n.tables) flags class parents).keys)) in
        record {
          outcome-is = λ i. record {
            refusal = (ap (λ (x : Outcome). x.refusal) f.outcome-is ∙ ap (λ (x : Ran). x.refusal) ran ∙ sym refusal) i;
            stack = record {
              tables = (ap (λ (x : Outcome). x.tables) f.outcome-is ∙ ap (λ (x : Ran). x.state.tables) ran ∙ ap (λ (x : Stack). x.top.shown.tables) (sym row)) i;
              layer = record { own = record { words = (ap (λ (x : Stack). x.top.own) (sym row)) i }; keys = kept i };
              under = (z ∙ ap (λ (x : Stack). x.under) (sym row)) i;
            };
          };
          pairs-are =
              ap (λ (l : List ℕ). l ++ drop 4096 pairs) (f.pairs-are ∙ ap (λ (x : Ran). filled x.state.keys (take 4096 pairs)) ran)
              ∙ filled-part (record_row (state_of pairs marks n.tables) flags class parents).keys pairs (omega (arith, after.room)) (omega (arith, g.long))
              ∙ ap (λ (x : Stack). filled x.top.shown.keys pairs) (sym row);
          marks-are = f.marks-are ∙ ap (λ (x : Ran). x.state.marks) ran ∙ ap (λ (x : Stack). x.top.shown.marks) (sym row);
        }
      where
        -- entries in the front of a part
        filled-part : (l a : List ℕ) → length l ≤ 4096 → 4096 ≤ length a → filled l (take 4096 a) ++ drop 4096 a ≡ filled l a
        filled-part l a h k =
            append_assoc l (drop (length l) (take 4096 a)) (drop 4096 a)
            ∙ ap (λ (x : List ℕ). l ++ x) (ap (λ (x : List ℕ). x ++ drop 4096 a) (sym (drop-front a (length l) 4096 h k)) ∙ rest)
          where
            rest : take (4096 - length l) (drop (length l) a) ++ drop 4096 a ≡ drop (length l) a
            rest =
                ap (λ (m : ℕ). take (4096 - length l) (drop (length l) a) ++ drop m a) (let e : 4096 ≡ length l + (4096 - length l) = omega arith in e)
                ∙ ap (λ (x : List ℕ). take (4096 - length l) (drop (length l) a) ++ x) (sym (drop-drop (4096 - length l) (length l) a))
                ∙ take-append-drop (4096 - length l) (drop (length l) a)

  -- a row of a layer
  pub layer-filled : 1 ≤ n.under → (flags class : ℕ) (parents pairs' marks' : List ℕ) (o : LayerOutcome)
      → FillsLayer (layer_ran (layered_of pairs marks n.tables n.layer) flags class parents) pairs pairs' marks' o
      → FillsStack (stack_ran (stack_of pairs marks n) flags class parents) pairs pairs' marks' (record { refusal = o.refusal; stack = record { tables = o.tables; layer = o.layer; under = n.under } })
  layer-filled h flags class parents pairs' marks' o f =
      let s : Stack = stack_of pairs marks n in
      let row = row-layer s flags class parents (λ z. omega arith) in
      let refusal = refusal-layer s flags class parents (λ z. omega arith) in
      record {
        outcome-is = λ i. record {
          refusal = (ap (λ (x : LayerOutcome). x.refusal) f.outcome-is ∙ sym refusal) i;
          stack = record {
            tables = (ap (λ (x : LayerOutcome). x.tables) f.outcome-is ∙ ap (λ (x : Stack). x.top.shown.tables) (sym row)) i;
            layer = (ap (λ (x : LayerOutcome). x.layer) f.outcome-is ∙ ap (λ (x : Stack). (numbers_of x).layer) (sym row)) i;
            under = (ap (λ (x : Stack). x.under) (sym row)) i;
          };
        };
        pairs-are = f.pairs-are ∙ ap (λ (x : Stack). filled x.top.shown.keys pairs) (sym row);
        marks-are = f.marks-are ∙ ap (λ (x : Stack). x.top.shown.marks) (sym row);
      }

module _ (n : StackTables) where
  pub opened-fifth : 3 ≤ n.under → record { refusal = 8; stack = n } ≡ opened_tables n
  unfolding opened_tables
  opened-fifth h = rw (le-leb 3 n.under h)

  pub opened-next : n.under < 3 → (words : List ℕ) → words ≡ replicate 16 0
      → ◌≡◌ {A = StackOutcome} (record { refusal = 0; stack = record { tables = n.tables; layer = record { own = record { words = words }; keys = 0 }; under = n.under + 1 } }) (opened_tables n)
  unfolding opened_tables
  opened-next h words e = rw (lt-leb 3 n.under h, e)
