-- VIEWS THAT AGREE ANSWER ALIKE: the same parents as sets, the same facts; every relation, distance, set of ancestors, cast and least
-- common supertype is the same.
use Rattle.std.specs.Prelude.{◌≡◌, ◌↔◌}
use mathlib.Core.List.{Memᴰ}
use Prim.Native.Nat.{ℕ}
use Rattle.view.specs.View.{View}

-- member by member: parents as sets
pub record SameView (v u : View) : Type 0 where
  pub names-same : v.names ≡ u.names
  pub object-same : v.object ≡ u.object
  pub recorded-same : (c : ℕ) → v.recorded c ≡ u.recorded c
  pub parents-same : (c p : ℕ) → Memᴰ p (v.parents c) ↔ Memᴰ p (u.parents c)
  pub declared-same : (c : ℕ) → v.declared c ≡ u.declared c
  pub interface-same : (c : ℕ) → v.interface c ≡ u.interface c
  pub final-same : (c : ℕ) → v.final c ≡ u.final c
