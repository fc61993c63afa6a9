-- A solve at work, as the slices and numbers of the code: what an insertion does to them, and when they show a table and a queue.
use Rattle.std.specs.Prelude.{◌≡◌, cond, List, [], ◌∷◌, ℕ, ◌+◌, eqb, ltb}
use Rattle.sorted.specs.declared.Put.{Put}
use Rattle.sorted.specs.declared.Put.TheVariants.{Old, New, Full}
use Rattle.sorted.specs.Sorted.{put_answer, put_list}
use Rattle.ty.specs.Types.{ArgType, Primitive, depth, arrays}
use Rattle.keys.specs.Rank.{rank, unrank}
use Rattle.keys.specs.Laws.{LegalType}
use Rattle.solving.specs.Solving.{Bound, Table, Addition, Outcome, Refused, Going}
use Rattle.solving.specs.Tidy.{Tidy}
use Rattle.solving.specs.TableKeys.{key_of, Holds}
use Rattle.queue.specs.Ring.{offered, ring_offered, Shows}
use Rattle.inserting.specs.declared.State.{State}
use Rattle.inserting.specs.declared.Sent.{Sent}
use Rattle.inserting.specs.declared.Sent.TheVariants.{Nothing, Rank, Deep}

-- ---- the slices and the numbers

pub record Store : Type 0 where
  -- the keys of the bounds at the front
  pub cells : List ℕ
  pub ring : List ℕ
  pub state : State

abbrev pub store : List ℕ → List ℕ → State → Store
store cells ring s = record { cells = cells; ring = ring; state = s }

abbrev pub refused_by : ℕ → State → State
refused_by k s = record { refusal = k; count = s.count; queue = s.queue }

abbrev pub refuse : ℕ → Store → Store
refuse k s = store s.cells s.ring (refused_by k s.state)

-- a new bound: its key among the cells, its component in the queue
abbrev pub grow : Bound → Store → Store
grow b s =
    store (put_list s.cells s.state.count (key_of b)) (ring_offered s.ring s.state.queue b.component)
    (record { refusal = s.state.refusal; count = s.state.count + 1; queue = offered s.state.queue b.component })

-- by a put's answer
abbrev pub by_answer : Put → Bound → Store → Store
by_answer Old b s = s
by_answer New b s = grow b s
by_answer Full b s = refuse 21 s

-- one bound inserted, as insert_bound of the solve's definition
unfoldable pub put_bound : Bound → Store → Store
put_bound b s = cond (ltb 255 (depth b.type)) (refuse 20 s) (by_answer (put_answer s.cells s.state.count (key_of b)) b s)

-- bounds in a row until one is refused, as insert_all
unfoldable pub put_all : List Addition → Store → Store
put_all [] s = s
put_all (x ∷ xs) s = cond (eqb s.state.refusal 0) (put_all xs (put_bound x.adds s)) s

-- ---- what is sent

-- some array of 256 dimensions; all such are refused alike
unfoldable pub deepest : ArgType
deepest = arrays 256 (Primitive 0)

abbrev pub sent_types : Sent → List ArgType
sent_types Nothing = []
sent_types (Rank r) = unrank r ∷ []
sent_types Deep = deepest ∷ []

-- how a type is sent: by its rank, or the mark of what is too deep
unfoldable pub sent_of : ArgType → Sent
sent_of t = cond (ltb 255 (depth t)) Deep (Rank (rank t))

-- the rank of a type within the limits
pub record Ranked (r : ℕ) : Type 0 where
  pub legal : LegalType (unrank r)
  pub back : rank (unrank r) ≡ r

-- each number is such a rank
abbrev pub AllRanked : List ℕ → Type 0
AllRanked [] = Unit {0}
AllRanked (r ∷ rs) = Ranked r × AllRanked rs

abbrev pub Sendable : Sent → Type 0
Sendable Nothing = Unit {0}
Sendable (Rank r) = Ranked r
Sendable Deep = Unit {0}

-- ---- what they show

pub record Good (s : Store) (t : Table) (q : List ℕ) : Type 0 where
  pub going : s.state.refusal ≡ 0
  pub holds : Holds s.cells s.state.count t
  pub shows : Shows s.ring s.state.queue q
  pub tidy : Tidy 1024 512 t q

-- A STORE THAT SHOWS SOME TABLE AND QUEUE: what an insertion asks
pub record Ready (s : Store) : Type 0 where
  pub table : Table
  pub queue : List ℕ
  pub good : Good s table queue

-- A STORE SHOWS AN OUTCOME: stopped with its refusal, or going with its table and queue
abbrev pub Shown : Store → Outcome → Type 0
Shown s (Refused k) = (s.state.refusal ≡ k) × (k ≡ 0 → ⊥)
Shown s (Going t q) = Good s t q
