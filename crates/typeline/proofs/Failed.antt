-- What holds holds where a call failed.
use Rattle.std.specs.Prelude.{Result, Ok, Err, OnErr}

pub when-failed : {T E P : Type 0} (r : Result T E) → P → OnErr r P
when-failed (Ok x) p = tt
when-failed (Err e) p = p
