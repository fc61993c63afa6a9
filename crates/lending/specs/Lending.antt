-- A SLICE THAT A FUNCTION IS LENT, as its contract has it: a definition that takes slices lets a contract name many of them by their names alone.
use Rattle.std.specs.Prelude.{List, ℕ}
use Rattle.std.specs.Borrow.{Bor, MutBor}
use denote.Triple.Both.{Both}

-- in `requires`: lent to be read, and to be written
abbrev pub SliceIn : Type 0
SliceIn = Bor (List ℕ)

abbrev pub MutSliceIn : Type 0
MutSliceIn = MutBor (List ℕ)

-- in `ensures`: at the call, and at the return
abbrev pub Slice : Type 0
Slice = Both SliceIn SliceIn

abbrev pub MutSlice : Type 0
MutSlice = Both MutSliceIn MutSliceIn

-- what it had at the call
abbrev pub came : Slice → List ℕ
came s = s.entry.now

abbrev pub came_mut : MutSlice → List ℕ
came_mut s = s.entry.now

-- what one that was lent to be written has at the return
abbrev pub became : MutSlice → List ℕ
became s = s.exit.now
