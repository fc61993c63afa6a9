-- What a solve over slices is refused with by lengths, and after its rows; and the work of one that is refused by its lengths.
use Rattle.std.specs.Prelude.{Bool, cond, not, ◌||◌, List, [], ◌∷◌, ℕ, ◌-◌, ◌^◌, eqb, ltb, length, replicate}
use Rattle.checks.specs.Checks.{check, first_refusal}

-- a lent slice is too short: one word a variable, 4,096 entries a column of bounds, 8,192 words of work
unfoldable pub short_lengths : ℕ → ℕ → ℕ → ℕ → ℕ → ℕ → Bool
short_lengths variables answers components kinds types work =
    ltb answers variables || (ltb components 4096 || (ltb kinds 4096 || (ltb types 4096 || ltb work 8192)))

-- too short before uneven
unfoldable pub lengths_refusal : Bool → Bool → ℕ
lengths_refusal short even = first_refusal (check short 22 ∷ check (not even) 3 ∷ [])

-- the refusal of the rows before the lack of Object
unfoldable pub rows_refusal : ℕ → ℕ → ℕ
rows_refusal refusal object = first_refusal (check (not (eqb refusal 0)) refusal ∷ check (eqb object (2 ^ 64 - 1)) 9 ∷ [])

-- as it came where a slice is too short, else zero everywhere
unfoldable pub work_left : ℕ → List ℕ → List ℕ
work_left code work = cond (eqb code 22) work (replicate (length work) 0)
