-- What is left of a set without the classes that reach a class, by rows, as the loops meet it. Over any view.
use Rattle.std.specs.Prelude.{◌≡◌, Bool, true, cond, ℕ, ◌≤◌, ◌<◌, length}
use Rattle.std.proofs.Math.Path.{refl, ap}
use Rattle.std.proofs.Common.{sym, ◌∙◌, subst, arith}
use Rattle.std.proofs.Math.Bool.{and-eq-true_iff}
use mathlib.Core.List.{List, [], ◌∷◌, Memᴰ}
use Rattle.std.proofs.Math.Decide.{dec_lt}
use Rattle.sets.specs.Sets.{at, member, remove, intersect, members, first}
use Rattle.sets.specs.Bits.{first-le}
use Rattle.sets.specs.Laws.{member-intersect, members-only, lowest-member}
use Rattle.view.specs.View.{View, reached, reach}
use Rattle.view.specs.Reach.{Good, reach-refl, reach-below, reach-trans}
use Rattle.view.specs.Frontier.{members-pop, members-none}
use Rattle.view.specs.Lows.{strip, Lowing}
use Rattle.ancestry.specs.Rows.{row}
use Rattle.ancestry.specs.Spread.{Spread}
use Rattle.ancestry.specs.Closure.{Rows}

-- of a set, without those of a list for which a test is true
unfoldable pub strip_by : (ℕ → Bool) → List ℕ → List ℕ → List ℕ
strip_by p s [] = s
strip_by p s (c ∷ cs) = strip_by p (cond (p c) (remove s c) s) cs

-- of a set, without those of a list whose row has d
abbrev pub strip_rows : List ℕ → ℕ → List ℕ → List ℕ → List ℕ
strip_rows rows d = strip_by (λ c. member (row rows c) d)

module _ (p : ℕ → Bool) where
  pub by-step : (s f : List ℕ) (c : ℕ) → c ≡ first (at f) 1024 → c < 1024
      → strip_by p s (members (at f) 0 1024) ≡ strip_by p (cond (p c) (remove s c) s) (members (at (remove f c)) 0 1024)
  unfolding strip_by
  by-step s f c e h = ap (strip_by p s) (members-pop f c e h)

  pub by-end : (s f : List ℕ) (c : ℕ) → c ≡ first (at f) 1024 → 1024 ≤ c → strip_by p s (members (at f) 0 1024) ≡ s
  unfolding strip_by
  by-end s f c e h = ap (strip_by p s) (members-none f (let l = first-le (at f) 1024 in omega arith))

-- by a walk from each
pub by-walks : (v : View) (d : ℕ) (s cs : List ℕ) → strip_by (λ c. reach v c d) s cs ≡ strip v d s cs
unfolding strip_by strip
by-walks v d s [] = refl
by-walks v d s (c ∷ cs) = by-walks v d (cond (reach v c d) (remove s c) s) cs

-- where the rows have what is reached, it is the same as by walks
strip-same : (rows : List ℕ) (d : ℕ) (v : View) (s cs : List ℕ) → ((c : ℕ) → Memᴰ c cs → row rows c ≡ reached v c) → strip_rows rows d s cs ≡ strip v d s cs
unfolding strip_by strip reach
strip-same rows d v s [] f = refl
strip-same rows d v s (c ∷ cs) f =
    ap (λ (b : Bool). strip_rows rows d (cond b (remove s c) s) cs) (ap (λ (w : List ℕ). member w d) (f c (Memᴰ.head refl)))
    ∙ strip-same rows d v (cond (reach v c d) (remove s c) s) cs (λ e m. f e (Memᴰ.tail m))

-- ---- a turn of the loop

module _ (v : View) (rows all alive todo : List ℕ) (st : Lowing v all alive todo) (has : (c : ℕ) → member all c ≡ true → row rows c ≡ reached v c) where
  pub turn-row : (d : ℕ) → d ≡ first (at todo) 1024 → d < 1024 → row rows d ≡ reached v d
  turn-row d e h = has d (st.todo-in d (subst (λ (x : ℕ). member todo x ≡ true) (sym e) (lowest-member todo 1024 (omega arith))))

  pub turn-above : (d : ℕ) (r meet up : List ℕ) → length r ≡ 16 → meet ≡ intersect r alive → up ≡ strip_rows rows d meet (members (at meet) 0 1024) → up ≡ strip v d meet (members (at meet) 0 1024)
  turn-above d r meet up l m u =
      u
      ∙ strip-same rows d v meet (members (at meet) 0 1024)
      (λ c k.
      has c
      (st.alive-in c
      ((and-eq-true_iff (member r c) (member alive c)).0
      (sym (member-intersect r alive c (l ∙ sym st.alive-size)) ∙ subst (λ (w : List ℕ). member w c ≡ true) m (members-only meet 1024 c k))).1))

  -- where the least that is to be looked at is no class, nothing is
  pub turn-none : ((c : ℕ) → member all c ≡ true → c < v.names) → (d : ℕ) → d ≡ first (at todo) 1024 → v.names ≤ d → first (at todo) 1024 ≡ 1024
  turn-none inside d e h = go (dec_lt (first (at todo) 1024) 1024)
    where
      go : Dec (first (at todo) 1024 < 1024) → first (at todo) 1024 ≡ 1024
      go (yes l) = absurd (let b = inside (first (at todo) 1024) (st.todo-in (first (at todo) 1024) (lowest-member todo 1024 l)) in omega arith)
      go (no n) = let l = first-le (at todo) 1024 in omega arith

-- ---- rows that were made for what is reached from a set

module _ (v : View) (g : Good v) (all above : List ℕ) (inside : (c : ℕ) → member all c ≡ true → c < v.names) (sp : Spread v all above) where
  pub above-inside : (c : ℕ) → member above c ≡ true → c < v.names
  above-inside c m = let w = sp.only c m in reach-below v g w.0 (inside w.0 w.1) c w.2

  pub above-closed : (d e : ℕ) → member above d ≡ true → reach v d e ≡ true → member above e ≡ true
  above-closed d e m r = let w = sp.only d m in sp.has w.0 e w.1 (reach-trans v g w.0 d e (inside w.0 w.1) w.2 r)

  pub above-rows : (rows : List ℕ) → Rows v above rows → (c : ℕ) → member all c ≡ true → row rows c ≡ reached v c
  above-rows rows q c m = q.has c (sp.has c c m (reach-refl v g c (inside c m)))

-- ---- where a search begins

-- d is one of a set, or no class where the set is empty
abbrev pub Starts : ℕ → List ℕ → Type 0
Starts d s = (d < 1024 → member s d ≡ true) × (1024 ≤ d → first (at s) 1024 ≡ 1024)

pub starts-least : (s : List ℕ) (d : ℕ) → d ≡ first (at s) 1024 → Starts d s
starts-least s d e = (
  λ h. subst (λ (x : ℕ). member s x ≡ true) (sym e) (lowest-member s 1024 (omega arith)),
  λ h. let l = first-le (at s) 1024 in let q : first (at s) 1024 ≡ 1024 = omega arith in q,
)

pub starts-with : (s : List ℕ) (d : ℕ) → member s d ≡ true → d < 1024 → Starts d s
starts-with s d m h = (λ l. m, λ l. absurd (omega arith))
