-- WHAT A FRAME LEAVES IS READY FOR THE NEXT: slices and numbers that show a sound state hold it, and have all that a state that lines lead to has.
use Rattle.std.specs.Prelude.{◌≡◌, refl, Bool, true, false, cond, ◌&&◌, List, map, ℕ, ◌%◌, ◌≤◌, eqb, leb, take, drop, get_or}
use Rattle.std.proofs.Common.{sym, ◌∙◌, arith, length-take-le, leb-true, eqb-true}
use Rattle.std.proofs.Math.Path.{ap, subst}
use Rattle.std.proofs.Math.Option.{Option}
use Rattle.std.proofs.Math.ListN.{length}
use Rattle.std.proofs.lemmas.List.{length-map}
use Rattle.order.specs.Truth.{both}
use Rattle.checks.specs.Checks.{first_refusal}
use Rattle.rows.specs.Rows.{filled}
use Rattle.rows.specs.Keys.{take-filled}
use Rattle.layers.specs.Layers.{layer_keys}
use Rattle.tableview.specs.Inner.{state_world}
use Rattle.solving.specs.Solving.{Pair, Bound, Solution, Unsolved, Solved, solve}
use Rattle.solving.specs.TableKeys.{key_of, keys_of, bound_of}
use Rattle.solving.proofs.TableKeys.{table-back}
use Rattle.solving.specs.LinkKeys.{pair_of}
use Rattle.problems.specs.Problems.{counted, variable, bounded, flow, upper_flow, reading, writing}
use Rattle.problems.specs.Held.{Links}
use Rattle.problems.specs.Stored.{pair_key}
use Rattle.problems.proofs.Stored.{held-keyed}
use Rattle.problems.proofs.Kept.{links-back}
use Rattle.hexline.specs.Hex.{hex_bytes, number_at, numbers_in, bytes_number}
use Rattle.frames.specs.Frames.{Store, shown, kind_of, body_of, good_length, rank_of, Message, naming, recording, opening, row, solving, asking, Relating, Supertyping, Casting, message_of, frame_checks, Refused, Stepped, stepped, with_message, solved_step, accepted, frame_bytes, frame}
use Rattle.framelaws.specs.Reached.{Sound, passed, sound-frame, by-if}
use Rattle.framestate.specs.declared.Numbers.{Numbers}
use Rattle.framestate.specs.FrameState.{Slices, store_of, Sized, Within, Ready, numbers_of, Shows}

-- entries in front of a slice, taken again
front : (l a a' : List ℕ) → a' ≡ filled l a → take (length l) a' ≡ l
front l a a' e = ap (take (length l)) e ∙ take-filled l a (length l) refl

pairs-front : (c : ℕ) (l : List Pair) (a a' : List ℕ) → c ≤ 512 → Links c l → a' ≡ filled (map pair_key l) a → map pair_of (take (length l) a') ≡ l
pairs-front c l a a' few k e =
    ap (λ (n : ℕ). map pair_of (take n a')) (sym (length-map l pair_key)) ∙ ap (map pair_of) (front (map pair_key l) a a' e) ∙ links-back c l few k

bounds-front : (l : List Bound) (a a' : List ℕ) → a' ≡ filled (keys_of l) a → take (length l) a' ≡ keys_of l
bounds-front l a a' e = ap (λ (n : ℕ). take n a') (sym (length-map l key_of)) ∙ front (keys_of l) a a' e

module _ (s : Store) (before after : Slices) (h : Sound s) where
  module _ (w : Shows s before after (numbers_of s)) where
    store-of : store_of after (numbers_of s) ≡ s
    unfolding numbers_of
    store-of =
        let p = s.problem in
        let a = front s.last before.last after.last w.last-is in
        let k = ap (take (shown s).tables.pairs) w.pairs-are ∙ take-filled (shown s).keys before.pairs (shown s).tables.pairs h.good.counted in
        let m = w.marks-are in
        let v = front p.variables before.variables after.variables w.variables-are in
        let b = ap (map bound_of) (bounds-front p.bounds before.bounds after.bounds w.bounds-are) ∙ table-back p.bounds (held-keyed (shown s).tables.names p h.good.few h.held) in
        let f = pairs-front p.components p.flows before.flows after.flows h.held.few h.held.flows w.flows-are in
        let u = pairs-front p.components p.upper_flows before.uppers after.uppers h.held.few h.held.upper_flows w.uppers-are in
        let r = pairs-front p.components p.reads before.reads after.reads h.held.few h.held.reads w.reads-are in
        let x = pairs-front p.components p.writes before.writes after.writes h.held.few h.held.writes w.writes-are in
        λ i. record {
          last = a i;
          classes = record { top = record { shown = record { tables = (shown s).tables; keys = k i; marks = m i }; own = s.classes.top.own }; under = s.classes.under };
          problem = record { components = p.components; variables = v i; bounds = b i; flows = f i; upper_flows = u i; reads = r i; writes = x i };
          rank = s.rank;
        }

    within-of : length s.last ≤ 255 → Within (numbers_of s)
    unfolding numbers_of
    within-of e = record {
      last = e;
      variables = h.held.variables-few;
      bounds = h.held.bounds-few;
      flows = h.held.flows-few;
      uppers = h.held.upper-few;
      reads = (let z = h.held.arrays-few in omega arith);
      writes = (let z = h.held.arrays-few in omega arith);
    }

    -- the keys of the bounds are their own
    keys-own : keys_of (map bound_of (take (length s.problem.bounds) after.bounds)) ≡ take (length s.problem.bounds) after.bounds
    keys-own =
        let t = bounds-front s.problem.bounds before.bounds after.bounds w.bounds-are in
        ap (λ (x : List ℕ). keys_of (map bound_of x)) t ∙ ap keys_of (table-back s.problem.bounds (held-keyed (shown s).tables.names s.problem h.good.few h.held)) ∙ sym t

    ready-of : length s.last ≤ 255 → Sized after → Ready after (numbers_of s)
    unfolding numbers_of
    ready-of e z =
        let sound : Sound (store_of after (numbers_of s)) = subst Sound (sym store-of) h in
        record {
          sized = z;
          within = within-of e;
          sound = sound;
          counted = ap (λ (x : Store). length (layer_keys x.classes.top)) (sym store-of);
          keeps = record { held = sound.held; keyed = keys-own };
        }

  module _ (n : Numbers) (w : Shows s before after n) where
    -- as if the numbers were the state's own
    own : Shows s before after (numbers_of s)
    own = subst (Shows s before after) w.numbers-are w

    -- THE SLICES HOLD THE STATE THAT THEY SHOW
    pub shows-store : store_of after n ≡ s
    shows-store = ap (store_of after) w.numbers-are ∙ store-of own

    -- AND ARE READY FOR THE NEXT FRAME
    pub shows-ready : length s.last ≤ 255 → Sized after → Ready after n
    shows-ready e z = subst (Ready after) (sym w.numbers-are) (ready-of own e z)

-- ---- the last name stays within 255 bytes

abbrev NoName : Message → Type 0
NoName (naming b) = ⊥
NoName (recording f c ps) = Unit {0}
NoName opening = Unit {0}
NoName (row r) = Unit {0}
NoName solving = Unit {0}
NoName (asking q a b) = Unit {0}

abbrev Short : Stepped → Type 0
Short u = length u.store.last ≤ 255

module _ (s : Store) (h : length s.last ≤ 255) where
  solved-short : (rank : ℕ) (o : Solution) → Short (solved_step rank s o)
  unfolding with_message
  solved-short rank (Unsolved k) = h
  solved-short rank (Solved t n as') = h

  other-short : (rank : ℕ) (m : Message) → NoName m → Short (accepted rank m s)
  unfolding accepted with_message
  other-short rank (naming b) k = absurd k
  other-short rank (recording f c ps) k = h
  other-short rank opening k = h
  other-short rank (row r) k = h
  other-short rank solving k = solved-short rank (solve (state_world (shown s)) s.problem)
  other-short rank (asking q a b) k = h

  name-short : (rank : ℕ) (b : List ℕ) → length b ≤ 255 → Short (accepted rank (naming b) s)
  unfolding accepted with_message
  name-short rank b k = k

is-name : (k : ℕ) (body : List ℕ) → eqb k 1 ≡ true → message_of k body ≡ naming body
unfolding message_of
is-name k body e = ap (λ (x : ℕ). message_of x body) (eqb-true k 1 e)

no-name : (k : ℕ) (body : List ℕ) → eqb k 1 ≡ false → NoName (message_of k body)
unfolding message_of
no-name k body e =
    subst (λ (t : Bool). NoName (cond t (naming body) rest)) (sym e)
    (by-if NoName (eqb k 2) _ _ (λ z. tt) (λ z. by-if NoName (eqb k 3) _ _ (λ z. tt) (λ z. by-if NoName (eqb k 4) _ _ (λ z. tt) (λ z. by-if NoName (eqb k 5) _ _ (λ z. tt)
    (λ z. by-if NoName (eqb k 6) _ _ (λ z. tt) (λ z. by-if NoName (eqb k 7) _ _ (λ z. tt) (λ z. by-if NoName (eqb k 8) _ _ (λ z. tt) (λ z. by-if NoName (eqb k 9) _ _ (λ z. tt)
    (λ z. by-if NoName (eqb k 10) _ _ (λ z. tt) (λ z. by-if NoName (eqb k 11) _ _ (λ z. tt) (λ z. by-if NoName (eqb k 12) _ _ (λ z. tt)
    (λ z. by-if NoName (eqb k 13) _ _ (λ z. tt) (λ z. tt)))))))))))))
  where
    rest : Message
    rest =
        cond (eqb k 2) (recording (get_or body 0 0) (number_at 1 body) (numbers_in (drop 3 body)))
        (cond (eqb k 3) (row (counted (number_at 0 body)))
        (cond (eqb k 4) (row (variable (number_at 0 body)))
        (cond (eqb k 5) (row (bounded (number_at 0 body) (get_or body 2 0) (bytes_number 0 (drop 3 body))))
        (cond (eqb k 6) (row (flow (number_at 0 body) (number_at 2 body)))
        (cond (eqb k 7) (row (upper_flow (number_at 0 body) (number_at 2 body)))
        (cond (eqb k 8) (row (reading (number_at 0 body) (number_at 2 body)))
        (cond (eqb k 9) (row (writing (number_at 0 body) (number_at 2 body)))
        (cond (eqb k 10) solving
        (cond (eqb k 11) (asking Relating (number_at 0 body) (number_at 2 body))
        (cond (eqb k 12) (asking Supertyping (number_at 0 body) (number_at 2 body))
        (cond (eqb k 13) (asking Casting (number_at 0 body) (number_at 2 body)) opening)))))))))))

length-name : (k n : ℕ) → eqb k 1 ≡ true → good_length k n ≡ true → n ≤ 255
unfolding good_length
length-name k n e g =
    let z = sym (ap (λ (t : Bool). cond t (leb 1 n && leb n 255) (cond (eqb k 2) (leb 3 n && (eqb (n % 2) 1 && leb n 511)) (cond (leb k 4) (eqb n 2) (cond (eqb k 5) (eqb n 11) (cond (eqb k 10) (eqb n 0) (cond (eqb k 14) (eqb n 0) (eqb n 4))))))) e) ∙ g in
    leb-true n 255 (both (leb 1 n) (leb n 255) z).1

message-short : (k rank : ℕ) (body : List ℕ) (s : Store) → length s.last ≤ 255 → good_length k (length body) ≡ true → Short (accepted rank (message_of k body) s)
message-short k rank body s h g = go (eqb k 1) refl
  where
    go : (t : Bool) → eqb k 1 ≡ t → Short (accepted rank (message_of k body) s)
    go true e = subst (λ (m : Message). Short (accepted rank m s)) (sym (is-name k body e)) (name-short s h rank body (length-name k (length body) e g))
    go false e = other-short s h rank (message_of k body) (no-name k body e)

pub last-short : (line : List ℕ) (s : Store) → length s.last ≤ 255 → length (frame line s).store.last ≤ 255
unfolding frame frame_bytes
last-short line s h =
    by-if Short (eqb (first_refusal (frame_checks f s)) 0) (accepted (rank_of (kind_of f)) (message_of (kind_of f) (body_of f)) s) (stepped (Refused (first_refusal (frame_checks f s))) s)
    (λ e. message-short (kind_of f) (rank_of (kind_of f)) (body_of f) s h (passed f s (eqb-true (first_refusal (frame_checks f s)) 0 e)).sized)
    (λ e. h)
  where
    f : Option (List ℕ)
    f = hex_bytes line

-- ONE FRAME AFTER ANOTHER: what shows the state after a line is ready for the next line
pub ready-after : (line : List ℕ) (l after : Slices) (n m : Numbers) → Ready l n → Shows (frame line (store_of l n)).store l after m → Sized after → Ready after m
ready-after line l after n m h w z =
    let a = h.within.last in
    let b = h.sized.last in
    shows-ready (frame line (store_of l n)).store l after (sound-frame line (store_of l n) h.sound) m w
    (last-short line (store_of l n) (let e = length-take-le n.last l.last (omega arith) in omega arith)) z
