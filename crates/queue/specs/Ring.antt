-- A queue in a ring of 512 words: what the contracts cite, and when a ring shows a list.
use Rattle.std.specs.Prelude.{◌≡◌, cond, List, [], ◌∷◌, ℕ, zero, suc, ◌+◌, ◌-◌, ◌≤◌, ◌<◌, ◌%◌, length, get_or, set, replicate}
use Rattle.order.specs.Lists.{elem}
use Rattle.sets.specs.Sets.{member, insert, remove}
use Rattle.queue.specs.declared.Queue.{Queue}
use Rattle.queue.specs.declared.Popped.{Popped}

abbrev pub line : ℕ → ℕ → List ℕ → Queue
line h n ws = record { head = h; len = n; queued = record { words = ws } }

-- n entries from h on, around the ring
unfoldable pub around : List ℕ → ℕ → ℕ → List ℕ
around ring h zero = []
around ring h (suc n) = get_or ring (h % 512) 0 ∷ around ring (h + 1) n

-- who waits, the front first
abbrev pub waiting : List ℕ → Queue → List ℕ
waiting ring q = around ring q.head q.len

-- the set of the numbers below n
unfoldable pub first_set : ℕ → List ℕ
first_set zero = replicate 16 0
first_set (suc n) = insert (first_set n) n

-- c put at the back, unless it is queued
unfoldable pub offered : Queue → ℕ → Queue
offered q c = cond (member q.queued.words c) q (line q.head (q.len + 1) (insert q.queued.words c))

unfoldable pub ring_offered : List ℕ → Queue → ℕ → List ℕ
ring_offered ring q c = cond (member q.queued.words c) ring (set ring ((q.head + q.len) % 512) c)

-- the queue without its front, c
abbrev pub rested : Queue → ℕ → Queue
rested q c = line ((q.head + 1) % 512) (q.len - 1) (remove q.queued.words c)

-- the front taken
abbrev pub popped : List ℕ → Queue → Popped
popped ring q = record { front = get_or ring q.head 0; rest = rested q (get_or ring q.head 0) }

-- A RING SHOWS A LIST: its entries are the list, the set has the list's members, and the ends are places of the ring
pub record Shows (ring : List ℕ) (q : Queue) (list : List ℕ) : Type 0 where
  pub entries : waiting ring q ≡ list
  pub members : (c : ℕ) → member q.queued.words c ≡ elem c list
  pub size : length ring ≡ 512
  pub words : length q.queued.words ≡ 16
  pub head : q.head < 512
  pub len : q.len ≤ 512
