-- `main` meets its contract: empty arrays hold the empty state.
use Rattle.std.proofs.Common.{ℕ, refl}
use Rattle.std.proofs.lemmas.List.{length-replicate}
use Rattle.typeline.specs.Held.{holds-empty}
use Rattle.typeline.proofs.main.Goals as goal

pub run-requires : goal.run-requires
run-requires c = (holds-empty _ _ _ _ _ _ refl refl refl refl refl refl, length-replicate {A = ℕ} 1025 0)
