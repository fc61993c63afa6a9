-- What the frame of a question comes to: 6 or 9, or what is said, with the numbers after a question. Every definition that a contract of this
-- crate cites.
use Rattle.std.specs.Prelude.{◌≡◌, Bool, not, ◌&&◌, [], ◌∷◌, ℕ, ◌-◌, ◌^◌, ◌≤◌, ◌<◌}
use Rattle.std.proofs.Math.Path.{refl, sym}
use Rattle.std.proofs.Common.{ap, ◌∙◌, arith}
use Rattle.std.proofs.Math.Bool.{true, false, cond}
use Rattle.std.proofs.Math.Dec.{eqb, ltb}
use borrow.Author.Tests.{eq-eqb, ne_eqb, lt-ltb, le-ltb, ltb-true, eqb-false}
use Rattle.checks.specs.Checks.{first_refusal}
use Rattle.tables.specs.declared.Tables.{Tables}
use Rattle.rows.specs.Rows.{all_below}
use Rattle.frames.specs.Frames.{ask_checks}
use Rattle.framestate.specs.declared.Numbers.{Numbers}
use Rattle.framestate.specs.declared.Framed.{Framed}
use Rattle.framestate.specs.declared.Said.{Said}
use Rattle.framestate.specs.declared.Said.TheVariants.{Refused}
use Rattle.framestate.specs.FrameState.{framed, ask_numbers}

abbrev pub ask_refusal : Tables → ℕ → ℕ → ℕ
ask_refusal t a b = first_refusal (ask_checks t (a ∷ b ∷ []))

-- what is said, or the refusal and the numbers as they were
abbrev pub asked : ℕ → Said → Numbers → Framed
asked refusal said n = cond (eqb refusal 0) (framed said (ask_numbers n)) (framed (Refused refusal) n)

-- ---- laws

-- the chain by its three tests
chain : Bool → Bool → Bool → ℕ
chain x y z = cond (not (x && (y && true))) 6 (cond z 9 0)

module _ (t : Tables) (a b : ℕ) where
  chain-is : (x y z : Bool) → ltb a t.names ≡ x → ltb b t.names ≡ y → eqb t.object (2 ^ 64 - 1) ≡ z → ask_refusal t a b ≡ chain x y z
  unfolding ask_checks first_refusal all_below chain
  chain-is x y z e f g = λ i. cond (not (e i && (f i && true))) 6 (cond (g i) 9 0)

  pub ask-first : t.names ≤ a → 6 ≡ ask_refusal t a b
  unfolding chain
  ask-first h = sym (chain-is false (ltb b t.names) (eqb t.object (2 ^ 64 - 1)) (le-ltb a t.names h) refl refl)

  pub ask-second : a < t.names → t.names ≤ b → 6 ≡ ask_refusal t a b
  unfolding chain
  ask-second h k = sym (chain-is true false (eqb t.object (2 ^ 64 - 1)) (lt-ltb a t.names h) (le-ltb b t.names k) refl)

  pub ask-object : a < t.names → b < t.names → t.object ≡ 2 ^ 64 - 1 → 9 ≡ ask_refusal t a b
  unfolding chain
  ask-object h k o = sym (chain-is true true true (lt-ltb a t.names h) (lt-ltb b t.names k) (eq-eqb t.object (2 ^ 64 - 1) o))

  pub ask-none : a < t.names → b < t.names → (t.object ≡ 2 ^ 64 - 1 → ⊥) → 0 ≡ ask_refusal t a b
  unfolding chain
  ask-none h k o = sym (chain-is true true false (lt-ltb a t.names h) (lt-ltb b t.names k) (ne_eqb t.object (2 ^ 64 - 1) o))

  -- what no check refused says
  pub ask-passed : ask_refusal t a b ≡ 0 → (a < t.names) × (b < t.names) × (t.object ≡ 2 ^ 64 - 1 → ⊥)
  unfolding chain
  ask-passed h = go (ltb a t.names) refl (ltb b t.names) refl (eqb t.object (2 ^ 64 - 1)) refl
    where
      go : (x : Bool) → ltb a t.names ≡ x → (y : Bool) → ltb b t.names ≡ y → (z : Bool) → eqb t.object (2 ^ 64 - 1) ≡ z → (a < t.names) × (b < t.names) × (t.object ≡ 2 ^ 64 - 1 → ⊥)
      go false e y f z g = absurd (let q = sym (chain-is false y z e f g) ∙ h in omega arith)
      go true e false f z g = absurd (let q = sym (chain-is true false z e f g) ∙ h in omega arith)
      go true e true f true g = absurd (let q = sym (chain-is true true true e f g) ∙ h in omega arith)
      go true e true f false g = (ltb-true a t.names e, ltb-true b t.names f, eqb-false t.object (2 ^ 64 - 1) g)

module _ (k refusal : ℕ) (n : Numbers) (r : Framed) (e : k ≡ refusal) where
  pub asked-none : (said : Said) → r ≡ framed (Refused k) n → (k ≡ 0 → ⊥) → r ≡ asked refusal said n
  asked-none said q h = q ∙ sym (ap (λ (b : Bool). cond b (framed said (ask_numbers n)) (framed (Refused k) n)) (ne_eqb k 0 h)) ∙ ap (λ (x : ℕ). asked x said n) e

  pub asked-some : (s said : Said) → r ≡ framed s (ask_numbers n) → k ≡ 0 → s ≡ said → r ≡ asked refusal said n
  asked-some s said q h p = q ∙ ap (λ (x : Said). framed x (ask_numbers n)) p ∙ sym (ap (λ (b : Bool). cond b (framed said (ask_numbers n)) (framed (Refused k) n)) (eq-eqb k 0 h)) ∙ ap (λ (x : ℕ). asked x said n) e

-- of the numbers that the code read
pub same-refusal : (t : Tables) (a a' b b' : ℕ) → a ≡ a' → b ≡ b' → ask_refusal t a b ≡ ask_refusal t a' b'
same-refusal t a a' b b' x y = λ i. ask_refusal t (x i) (y i)
