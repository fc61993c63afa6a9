-- What the method reader hands back: the answer's fields, and the parameter slice afterwards.
use Rattle.std.specs.Prelude.{Bool, List, ◌++◌, ℕ, ltb, length, drop, Result, Ok, Err, ◌≡◌}
use Rattle.std.proofs.Common.{sym, ap}
use Rattle.descriptor.specs.declared.Base.{Base}
use Rattle.descriptor.specs.declared.Base.TheVariants.{Simple}
use Rattle.descriptor.specs.Read.{Read, Found, Refused}
use Rattle.descriptor.specs.declared.Unread.{Unread}
use Rattle.refusals.specs.Numbers.{number, number-injective, number-some}
use Rattle.methods.specs.declared.MethodAt.{MethodAt}
use Rattle.methods.specs.Method.{Method, Whole, Broken, pick_m, read_method, read_method_strict}

-- what is known of a method that was read; or a refusal with its offset and byte, and 0 in the other fields
pub record MethodRead : Type 0 where
  pub refusal : ℕ
  pub offset : ℕ
  pub byte : ℕ
  pub count : ℕ
  pub return_at : ℕ
  pub dims : ℕ
  pub base : Base

abbrev pub found_method : ℕ → ℕ → ℕ → Base → MethodRead
found_method n at d b = record { refusal = 0; offset = 0; byte = 0; count = n; return_at = at; dims = d; base = b }

abbrev pub refused_method : ℕ → ℕ → ℕ → MethodRead
refused_method code at b = record { refusal = code; offset = at; byte = b; count = 0; return_at = 0; dims = 0; base = Simple 0 }

-- what comes back of the method reader, so written
abbrev pub method_read : Result MethodAt Unread → MethodRead
method_read (Ok m) = found_method m.count m.return_at m.dims m.base
method_read (Err e) = refused_method (number e.refusal) e.at e.byte

pub method-read-injective : (x y : Result MethodAt Unread) → method_read x ≡ method_read y → x ≡ y
method-read-injective (Ok m) (Ok n) e =
    λ i. Ok (record { count = (e i).count; return_at = (e i).return_at; dims = (e i).dims; base = (e i).base })
method-read-injective (Ok m) (Err f) e = absurd (number-some f.refusal (sym (ap (λ (m : MethodRead). m.refusal) e)))
method-read-injective (Err f) (Ok m) e = absurd (number-some f.refusal (λ i. (e i).refusal))
method-read-injective (Err f) (Err g) e =
    let r = number-injective f.refusal g.refusal (λ i. (e i).refusal) in
    λ i. Err (record { refusal = r i; at = (e i).offset; byte = (e i).byte })

-- the answer for n parameters and a return type at `at`
abbrev pub answer_of : ℕ → ℕ → Read → MethodRead
answer_of n at (Found dims base next) = found_method n at dims base
answer_of n at (Refused code o byte) = refused_method code o byte

unfoldable pub method_answer : Method → MethodRead
method_answer (Whole offsets at result) = answer_of (length offsets) at result
method_answer (Broken code at byte) = refused_method code at byte

-- the parameter slice: the offsets, then what stood there; as it came where the method is refused
unfoldable pub params_after : List ℕ → Method → List ℕ
params_after params (Whole offsets at result) = offsets ++ drop (length offsets) params
params_after params (Broken code at byte) = params

-- a method read into a slice with room for so many offsets
unfoldable pub method_of : Bool → List ℕ → ℕ → Method
method_of strict s room = pick_m (ltb room 255) (Broken 22 0 0) (pick_m strict (read_method_strict s) (read_method s))
