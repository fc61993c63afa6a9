-- What a reading of descriptors says in the terms of the grammar: a place of a name stands for the bytes there.
use mathlib.Core.List.{List, [], ◌∷◌, Memᴰ}
use Rattle.std.proofs.Math.Option.{Option, some, none}
use Rattle.std.specs.Prelude.{false, ℕ, zero, suc, ◌+◌, ◌-◌, ◌≤◌, length, take, drop}
use Rattle.descriptor.specs.declared.Base.{Base}
use Rattle.descriptor.specs.declared.Base.TheVariants.{Simple, Class}
use Rattle.descriptor.specs.Read.{Read, Found, Refused, read_type}
use Rattle.methods.specs.Method.{Method, Whole, Broken}
use Rattle.jvms.specs.Jvms.{JavaType, Primitive, Object, Array, dimensions, Parameter, Signature}

-- ---- a type

-- the type of so many dimensions over a base whose place is one in the bytes s
unfoldable pub type_at : List ℕ → ℕ → Base → JavaType
type_at s zero (Simple k) = Primitive k
type_at s zero (Class at n) = Object (take n (drop at s))
type_at s (suc dims) base = Array (type_at s dims base)

-- the type that was read from s
unfoldable pub type_read : List ℕ → Read → Option JavaType
type_read s (Found dims base next) = some (type_at s dims base)
type_read s (Refused code at byte) = none

-- ---- a method

abbrev pub joined : List ℕ → Option JavaType → Option (List Parameter) → Option (List Parameter)
joined bs none ps = none
joined bs (some t) none = none
joined bs (some t) (some ps) = some (record { bytes = bs; type = t } ∷ ps)

-- where the first of the offsets is, or else the ')'
abbrev pub up_to : List ℕ → ℕ → ℕ
up_to [] close = close
up_to (at ∷ offsets) close = at

-- the parameters at the offsets: each has the type that is read there, and its bytes go up to the next one, the last one's up to the ')'
unfoldable pub parameters_at : List ℕ → List ℕ → ℕ → Option (List Parameter)
parameters_at s [] close = some []
parameters_at s (at ∷ offsets) close =
    joined (take (up_to offsets close - at) (drop at s)) (type_read s (read_type (drop at s) at false 0)) (parameters_at s offsets close)

abbrev pub signed : Option (List Parameter) → Option JavaType → Option Signature
signed none t = none
signed (some ps) none = none
signed (some ps) (some t) = some (record { parameters = ps; result = t })

-- the signature that was read from s; the ')' stands before the return type
unfoldable pub method_read : List ℕ → Method → Option Signature
method_read s (Whole offsets at result) = signed (parameters_at s offsets (at - 1)) (type_read s result)
method_read s (Broken code at byte) = none

-- the limits of reading
pub record Limits (m : Signature) : Type 0 where
  pub parameters : length m.parameters ≤ 255
  pub each : (p : Parameter) → Memᴰ p m.parameters → dimensions p.type ≤ 255
  pub result : dimensions m.result ≤ 255

-- ---- the places of what is derived

-- the base of a type whose descriptor begins at the offset `at`, with the place of its name
unfoldable pub placed : ℕ → JavaType → Base
placed at (Primitive k) = Simple k
placed at (Object name) = Class (at + 1) (length name)
placed at (Array t) = placed (at + 1) t

-- where the parameters' first bytes stand, the first parameter's at the offset `at`
unfoldable pub starts : ℕ → List Parameter → List ℕ
starts at [] = []
starts at (p ∷ ps) = at ∷ starts (at + length p.bytes) ps

-- where the last of them ends, and the ')' stands
unfoldable pub ends : ℕ → List Parameter → ℕ
ends at [] = at
ends at (p ∷ ps) = ends (at + length p.bytes) ps

-- the reading of a method whose descriptor s stands for the signature m
unfoldable pub answer : List ℕ → Signature → Method
answer s m =
    let after = ends 1 m.parameters + 1 in
    Whole (starts 1 m.parameters) after (Found (dimensions m.result) (placed after m.result) (length s))
