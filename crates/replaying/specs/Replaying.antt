-- What the contracts cite: parts of a text, lists among numbers, and what a verdict does to the counts.
use Rattle.std.specs.Prelude.{◌≡◌, ℕ, zero, suc, ◌+◌, ◌-◌, ◌*◌, ◌%◌, ◌^◌, ◌<◌, ◌≤◌, Bool, cond, not, ◌&&◌, ◌↔◌, List, [], length, ◌==◌, ◌≢◌, nat_le, nat_lt, slice_index, slice_range, slice_set}
use Rattle.replaying.specs.declared.lists.Span.{Span}
use Rattle.replaying.specs.declared.answers.Verdict.{Verdict}
use Rattle.replaying.specs.declared.answers.Verdict.TheVariants.{Agrees, Differs, Unread}

-- r is where the part of a text that starts at `from` ends: b stands there or the text is over, and b stands nowhere before.
-- A part that starts past the text ends where it starts.
pub record Part (text : List ℕ) (from b r : ℕ) : Type 0 where
  pub after : from ≤ r
  pub inside : r ≤ length text + (from - length text)
  pub ends : r < length text → slice_index text r ≡ b
  pub before : (k : ℕ) → from ≤ k → k < r → slice_index text k ≢ b

-- the end of the list at a place, its length and its members; 0 where it is not whole
unfoldable pub end_of : List ℕ → ℕ → ℕ
end_of a at = cond (nat_lt (at + slice_index a at) (length a)) (at + 1 + slice_index a at) 0

-- the same where exactly so many numbers follow it, else 0
unfoldable pub last_end : List ℕ → ℕ → ℕ → ℕ
last_end a at more = cond (end_of a at + more == length a) (end_of a at) 0

-- r is the end of the list at a place, its length and its members, or 0
pub record ListEnd (a : List ℕ) (at r : ℕ) : Type 0 where
  pub is : r ≡ end_of a at
  pub inside : r ≤ length a
  pub whole : (r ≢ 0) → r ≡ at + 1 + slice_index a at

-- the same, and so many numbers follow
pub record LastEnd (a : List ℕ) (at more r : ℕ) : Type 0 where
  pub is : r ≡ last_end a at more
  pub inside : r ≤ length a - more
  pub whole : (r ≢ 0) → (r ≡ at + 1 + slice_index a at) × (r + more ≡ length a)

-- members stand inside so many numbers
abbrev pub Inside : Span → ℕ → Type 0
Inside s n = (s.start ≤ s.end) × (s.end ≤ n)

abbrev pub span : ℕ → ℕ → Span
span start end = record { start = start; end = end }

-- where the members of the list after s stand; both 0 where it is not whole, and after none
unfoldable pub after_of : List ℕ → Span → Span
after_of a s = cond (s.start == 0) (span 0 0) (cond (end_of a s.end == 0) (span 0 0) (span (s.end + 1) (end_of a s.end)))

-- r is where the members of the list after s stand, or both its numbers are 0
pub record After (a : List ℕ) (s r : Span) : Type 0 where
  pub is : r ≡ after_of a s
  pub ordered : r.start ≤ r.end
  pub inside : r.end ≤ length a
  pub whole : (r.start ≢ 0) → (r.start ≡ s.end + 1) × (r.end ≡ s.end + 1 + slice_index a s.end)

-- two places inside so many members; both 0 where they do not stand so
unfoldable pub clipped : ℕ → ℕ → ℕ → Span
clipped start end room = cond (nat_le start end && nat_le end room) (span start end) (span 0 0)

-- the members between two places; none where they do not stand so
unfoldable pub part_of : List ℕ → ℕ → ℕ → List ℕ
part_of a start end = cond (nat_le start end && nat_le end (length a)) (slice_range a start end) []

-- where the members of list k of those that begin at a place stand, and the list
unfoldable pub place_of : List ℕ → ℕ → ℕ → Span
place_of a from zero = after_of a (span from from)
place_of a from (suc k) = after_of a (place_of a from k)

unfoldable pub list_of : List ℕ → ℕ → ℕ → List ℕ
list_of a from k = part_of a (place_of a from k).start (place_of a from k).end

-- whether it is whole and ends with the last number
unfoldable pub is_last : List ℕ → ℕ → ℕ → Bool
is_last a from k = not ((place_of a from k).start == 0) && (place_of a from k).end == length a

-- the verdict on a comparison
abbrev pub verdict : Bool → Verdict
verdict agrees = cond agrees Agrees Differs

-- r says whether P holds
abbrev pub Judges : Type 0 → Verdict → Type 0
Judges P r = ((r ≡ Agrees) ↔ P) × ((r ≡ Differs) ↔ (P → ⊥))

-- one more at a place of the counts, none past their end
unfoldable pub more : ℕ → List ℕ → List ℕ
more at counts = slice_set counts at ((slice_index counts at + 1) % 2 ^ 64)

-- the counts after a verdict on a function by its number
unfoldable pub tallied : ℕ → Verdict → List ℕ → List ℕ
tallied place Agrees counts = more (2 * place + 1) (more (2 * place) counts)
tallied place Differs counts = more (2 * place + 1) counts
tallied place Unread counts = more 127 counts

-- and on a line: 64 stands for one that is to be no case, 63 and what else passes the functions for one that is none
unfoldable pub counted : ℕ → Verdict → List ℕ → List ℕ
counted place v counts = cond (place == 64) counts (cond (nat_le 63 place) (more 127 counts) (tallied place v counts))
