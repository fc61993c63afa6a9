-- MethodDescriptor::from_str of ty.rs: the parameters' offsets and the return type, or a refusal with an offset.
-- Added to the Rust: refusal 19 at the 256th parameter, and strict reading (24).
use Rattle.std.specs.Prelude.{Bool, true, false, List, [], ◌∷◌, ℕ, zero, suc, ◌+◌, eqb, leb, length, drop, get_or}
use Rattle.text.specs.Text.{byte}
use Rattle.descriptor.specs.Read.{Read, Found, Refused, read_type, finish, strictly}

-- the parameters' offsets and the offset of the ')'; or a refusal
pub data Params : Type 0 where
  Listed : List ℕ → ℕ → Params
  Stopped : ℕ → ℕ → ℕ → Params

-- the parameters' offsets, the offset of the return type, and that type; or a refusal
pub data Method : Type 0 where
  Whole : List ℕ → ℕ → Read → Method
  Broken : ℕ → ℕ → ℕ → Method

abbrev pub pick_p : Bool → Params → Params → Params
pick_p true a b = a
pick_p false a b = b

abbrev pub pick_m : Bool → Method → Method → Method
pick_m true a b = a
pick_m false a b = b

abbrev pub before : ℕ → Params → Params
before at (Listed offsets close) = Listed (at ∷ offsets) close
before at (Stopped code o byte) = Stopped code o byte

-- the type at `at` as a parameter, and the rest from the offset after it
abbrev pub onward : ℕ → (ℕ → Params) → Read → Params
onward at rest (Found dims base next) = before at (rest next)
onward at rest (Refused code o byte) = Stopped code o byte

-- the parameters from the offset `at` on, after `count` of them; `turns` bounds how many are read (each takes a byte)
unfoldable pub read_params : ℕ → List ℕ → ℕ → ℕ → Params
read_params zero s at count = Stopped 17 at 0
read_params (suc turns) s at count =
    pick_p (leb (length s) at) (Stopped 17 at 0)
    (pick_p (eqb (get_or s at 0) (byte ")")) (Listed [] at)
    (pick_p (leb 255 count) (Stopped 19 at 0) (onward at (λ next. read_params turns s next (count + 1)) (read_type (drop at s) at false 0))))

-- the return type after the ')' at `close`
unfoldable pub returns : List ℕ → List ℕ → ℕ → Read → Method
returns s offsets close (Found dims base next) = Whole offsets (close + 1) (Found dims base next)
returns s offsets close (Refused code at byte) = Broken code at byte

unfoldable pub after_params : List ℕ → Params → Method
after_params s (Listed offsets close) = returns s offsets close (finish s (read_type (drop (close + 1) s) (close + 1) true 0))
after_params s (Stopped code at byte) = Broken code at byte

unfoldable pub read_method : List ℕ → Method
read_method [] = Broken 16 0 0
read_method (b ∷ bs) = pick_m (eqb b (byte "(")) (after_params (b ∷ bs) (read_params (suc (length bs)) (b ∷ bs) 1 0)) (Broken 16 0 0)

-- ---- strict reading: the first bad name in the order of the input

unfoldable pub strict_params : List ℕ → List ℕ → Method → Method
strict_params s [] m = m
strict_params s (at ∷ offsets) m = judge (strictly s (read_type (drop at s) at false 0)) (strict_params s offsets m)
  where
    judge : Read → Method → Method
    judge (Found dims base next) rest = rest
    judge (Refused code o byte) rest = Broken code o byte

unfoldable pub strict_method : List ℕ → Method → Method
strict_method s (Whole offsets at result) = strict_params s offsets (last (strictly s result))
  where
    last : Read → Method
    last (Found dims base next) = Whole offsets at (Found dims base next)
    last (Refused code o byte) = Broken code o byte
strict_method s (Broken code at byte) = Broken code at byte

unfoldable pub read_method_strict : List ℕ → Method
read_method_strict s = strict_method s (read_method s)
