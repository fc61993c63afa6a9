-- THE LOOP OF A RUN, STEP BY STEP: it starts as `propagate` does, a pop and a turn are one turn of the definition, a refusal stops both, an empty
-- queue ends both, and something falls at each turn. Over a lawful world and links among the components.
use Rattle.std.specs.Prelude.{◌≡◌, refl, List, [], ◌∷◌, ◌++◌, map, ℕ, suc, ◌+◌, ◌-◌, ◌≤◌, ◌<◌, length, drop}
use Rattle.std.proofs.Common.{sym, ap, ap₂, ◌∙◌, subst, arith, add-one, length-append, length-drop}
use Rattle.std.proofs.lemmas.List.{length-map}
use Rattle.std.proofs.Math.Seq.{take-append_seam}
use Rattle.view.specs.View.{numbers}
use Rattle.lattice.specs.Lattice.{World, Lawful}
use Rattle.queue.specs.Ring.{Shows}
use Rattle.queue.specs.Laws.{fill-shows, shown-length, pop-front, pop-shows}
use Rattle.queue.specs.declared.Popped.{Popped}
use Rattle.solving.proofs.Runs.{turn-room}
use Rattle.solving.specs.Tidy.{Tidy, Among}
use Rattle.solving.proofs.Tidy.{tidy-more, front-tidy, turn-tidy}
use Rattle.solving.specs.TableKeys.{Holds, key_of, keys_of, bound_of}
use Rattle.solving.proofs.TableKeys.{tidy-keyed, table-back}
use Rattle.solving.proofs.Steps.{rest, after, propagate-rest, rest-end, rest-step}
use Rattle.solving.specs.Solving.{Table, state_of, Links, additions, Outcome, Refused, Going, room, turn, Finish, Stopped, Ended, propagate}
use Rattle.inserting.specs.declared.State.{State}
use Rattle.inserting.specs.Store.{Store, store, put_all, Good, Ready, Shown}
use Rattle.rules.specs.Turn.{turn-shown}
use Rattle.running.specs.Running.{started, without, taken, table_in, Sound, Running, Fronted, Leaves}

-- ---- the given bounds

-- what was loaded is held
pub load-holds : (given a : List ℕ) (t : Table) → given ≡ keys_of t → length a ≡ room → length t ≤ room → Holds (given ++ drop (length given) a) (length given) t
load-holds given a t e h k = record {
  keys = take-append_seam given (drop (length given) a) ∙ e;
  count = long;
  size = length-append given (drop (length given) a) ∙ (let z = length-drop (length given) a in let n = long in omega arith);
}
  where
    long : length given ≡ length t
    long = ap length e ∙ length-map t key_of

-- ---- what a sound store has

pub good-table : (s : Store) (t : Table) (q : List ℕ) → Good s t q → table_in s ≡ t
good-table s t q y = ap (map bound_of) y.holds.keys ∙ table-back t (tidy-keyed 1024 512 t q (omega arith) y.tidy)

-- what to do falls at each turn: who waits, and the room that is left
abbrev pub ahead : State → ℕ
ahead s = s.queue.len + (room - s.count)

good-ahead : (s : Store) (t : Table) (q : List ℕ) → Good s t q → ahead s.state ≡ length q + (room - length t)
good-ahead s t q y =
    let a = shown-length s.ring s.state.queue q y.shows in
    ap₂ (λ (x z : ℕ). x + (room - z)) a y.holds.count

module _ (w : World) (good : Lawful w) (few : w.names ≤ 1024) (n : ℕ) (within : n ≤ 512) (l : Links) (among : Among n l) where
  pub sound-ready : (s : Store) → Sound w n s → Ready s
  sound-ready s y = record { table = y.table; queue = y.queue; good = y.good }

  -- ---- THE START

  pub run-starts : (cells ring : List ℕ) (count : ℕ) (t : Table) → Holds cells count t → length ring ≡ 512 → Tidy w.names n t (numbers 0 n)
      → Running w l n (propagate w l n t) 0 (store cells (numbers 0 n ++ drop n ring) (started count n))
  run-starts cells ring count t h r y = record {
    sound = record {
      table = t;
      queue = numbers 0 n;
      good = record { going = refl; holds = h; shows = fill-shows ring n r within; tidy = tidy-more w.names 1024 n 512 few within t (numbers 0 n) y };
      tidy = y;
    };
    left = propagate-rest w l n t;
  }

  module _ (whole : Finish) (k : ℕ) (s : Store) (y : Running w l n whole k s) where
    abbrev t : Table
    t = y.sound.table

    shown : Shows s.ring s.state.queue y.sound.queue
    shown = y.sound.good.shows

    -- ---- THE END: nobody waits

    pub run-ends : s.state.queue.len ≡ 0 → (whole ≡ Ended (table_in s) [] k) × Leaves whole k s
    run-ends e = (
      ended,
      subst (λ (f : Finish). Leaves f k s) (sym ended) (y.sound.good.going, refl, refl, subst (Holds s.cells s.state.count) (sym table_in-is) y.sound.good.holds),
    )
      where
        table_in-is : table_in s ≡ t
        table_in-is = good-table s t y.sound.queue y.sound.good

        empty : (q : List ℕ) → length q ≡ 0 → q ≡ []
        empty [] h = refl
        empty (x ∷ q) h = absurd (omega arith)

        nobody : y.sound.queue ≡ []
        nobody = empty y.sound.queue (sym (shown-length s.ring s.state.queue y.sound.queue shown) ∙ e)

        ended : whole ≡ Ended (table_in s) [] k
        ended = y.left ∙ ap (rest w l k t) nobody ∙ rest-end w l k t ∙ ap (λ (x : Table). Ended x [] k) (sym table_in-is)

    -- ---- THE FRONT HAS ITS TURN

    -- something is left to do
    pub pop-ahead : 0 < s.state.queue.len → suc (ahead (taken s.ring s.state).state) ≡ ahead s.state
    pop-ahead h = omega arith

    pub run-pops : 0 < s.state.queue.len → Fronted w l n whole k (taken s.ring s.state).root (store s.cells s.ring (taken s.ring s.state).state)
    run-pops h = go y.sound.queue refl
      where
        go : (q : List ℕ) → y.sound.queue ≡ q → Fronted w l n whole k (taken s.ring s.state).root (store s.cells s.ring (taken s.ring s.state).state)
        go [] e = absurd (let a = shown-length s.ring s.state.queue y.sound.queue shown in let b = ap length e in omega arith)
        go (c ∷ q) e = subst (λ (r : ℕ). Fronted w l n whole k r (store s.cells s.ring (without s.state r))) (sym first) fronted
          where
            tidy : Tidy w.names n t (c ∷ q)
            tidy = subst (Tidy w.names n t) e y.sound.tidy

            shows : Shows s.ring s.state.queue (c ∷ q)
            shows = subst (Shows s.ring s.state.queue) e shown

            first : (taken s.ring s.state).root ≡ c
            first = ap (λ (p : Popped). p.front) (pop-front s.ring s.state.queue c q shows)

            fronted : Fronted w l n whole k c (store s.cells s.ring (without s.state c))
            fronted = record {
              sound = record {
                table = t;
                queue = q;
                good = record {
                  going = y.sound.good.going;
                  holds = y.sound.good.holds;
                  shows = pop-shows s.ring s.state.queue c q shows tidy.distinct.0;
                  tidy = tidy-more w.names 1024 n 512 few within t q (front-tidy w.names n c t q tidy);
                };
                tidy = front-tidy w.names n c t q tidy;
              };
              small = tidy.below.0;
              left = y.left ∙ ap (rest w l k t) e ∙ rest-step w l k c t q;
            }

  -- ---- AFTER A TURN

  module _ (whole : Finish) (k root : ℕ) (s : Store) (y : Fronted w l n whole k root s) (s' : Store)
      (e : s' ≡ put_all (additions w l root (state_of (table_in s) root)) s) where
    abbrev u : Table
    u = y.sound.table

    abbrev q : List ℕ
    q = y.sound.queue

    turned : Shown s' (turn w l root u q)
    turned =
        subst (λ (z : Store). Shown z (turn w l root u q))
        (sym (e ∙ ap (λ (x : Table). put_all (additions w l root (state_of x root)) s) (good-table s u q y.sound.good)))
        (turn-shown w good few n within l among root u q y.sound.tidy s y.sound.good)

    -- it goes on, and less is left to do
    pub run-goes : s'.state.refusal ≡ 0 → Running w l n whole (k + 1) s' × (ahead s'.state ≤ ahead s.state)
    run-goes h = go (turn w l root u q) refl turned
      where
        go : (o : Outcome) → turn w l root u q ≡ o → Shown s' o → Running w l n whole (k + 1) s' × (ahead s'.state ≤ ahead s.state)
        go (Refused j) f g = absurd (g.1 (sym g.0 ∙ h))
        go (Going u' q') f g = (
          record {
            sound = record { table = u'; queue = q'; good = g; tidy = turn-tidy w good n l among root u q u' q' f y.sound.tidy };
            left = y.left ∙ ap (after w l (suc k)) f ∙ ap (λ (m : ℕ). rest w l m u' q') (sym (add-one k));
          },
          omega (arith, good-ahead s' u' q' g, good-ahead s u q y.sound.good, turn-room w l root u q u' q' f),
        )

    -- or it was refused, and so is the whole
    pub run-stops : (s'.state.refusal ≡ 0 → ⊥) → (whole ≡ Stopped s'.state.refusal) × ((m : ℕ) → Leaves whole m s')
    run-stops h = go (turn w l root u q) refl turned
      where
        go : (o : Outcome) → turn w l root u q ≡ o → Shown s' o → (whole ≡ Stopped s'.state.refusal) × ((m : ℕ) → Leaves whole m s')
        go (Refused j) f g =
            let e = y.left ∙ ap (after w l (suc k)) f ∙ ap Stopped (sym g.0) in
            (e, λ m. subst (λ (z : Finish). Leaves z m s') (sym e) (refl, h))
        go (Going u' q') f g = absurd (h g.going)
