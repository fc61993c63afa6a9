-- EACH COMPONENT IS ANSWERED ONCE: a slice has for each component the place after the last variable of it among the first i, 0 where there is
-- none; the answer stands there already.
use Rattle.std.specs.Prelude.{◌≡◌, refl, List, [], ◌∷◌, map, ℕ, zero, suc, ◌+◌, ◌-◌, ◌≤◌, ◌<◌, length, get_or, set, take, replicate}
use Rattle.std.proofs.Common.{sym, ap, ◌∙◌, arith, length-set, get_or-take, get_or-set_same, get_or-set_other}
use Rattle.std.proofs.Math.Decide.{ℕ_discrete}
use Rattle.std.proofs.lemmas.List.{length-map, length-replicate}
use Rattle.std.proofs.Math.Seq.{paste}
use Rattle.std.proofs.lemmas.List.Edits.{length-paste, take-paste}
use Rattle.lattice.specs.Lattice.{World}
use Rattle.solving.specs.Solving.{Table}
use Rattle.answering.specs.Answering.{answer_words, answer_of, Stands}
use Rattle.answering.specs.FromFinal.{answers-map}

pub record Places (variables places : List ℕ) (i : ℕ) : Type 0 where
  pub size : length places ≡ 512
  pub told : (c : ℕ) → (get_or places c 0 ≡ 0 → ⊥) → (get_or places c 0 ≤ i) × (get_or variables (get_or places c 0 - 1) 0 ≡ c)

all-zero : (n c : ℕ) → get_or {A = ℕ} (replicate n 0) c 0 ≡ 0
all-zero zero c = refl
all-zero (suc n) zero = refl
all-zero (suc n) (suc c) = all-zero n c

map-at : (f : ℕ → ℕ) (l : List ℕ) (j : ℕ) → j < length l → get_or (map f l) j 0 ≡ f (get_or l j 0)
map-at f [] j h = absurd (omega arith)
map-at f (x ∷ l) zero h = refl
map-at f (x ∷ l) (suc j) h = map-at f l j (omega arith)

less : (p i : ℕ) → (p ≡ 0 → ⊥) → p ≤ i → p - 1 < i
less zero i h k = absurd (h refl)
less (suc p) i h k = omega arith

-- before the first variable
pub places-none : (variables places : List ℕ) → places ≡ replicate 512 0 → Places variables places 0
places-none variables places e = record {
  size = ap length e ∙ length-replicate {A = ℕ} 512 0;
  told = λ c h. absurd (h (ap (λ (l : List ℕ). get_or l c 0) e ∙ all-zero 512 c));
}

-- one variable more, of the component c
module _ (variables places : List ℕ) (i c : ℕ) (y : Places variables places i) (e : get_or variables i 0 ≡ c) (small : c < 512) where
  told-next : (d : ℕ) → Dec (d ≡ c) → (get_or (set places c (i + 1)) d 0 ≡ 0 → ⊥)
      → (get_or (set places c (i + 1)) d 0 ≤ i + 1) × (get_or variables (get_or (set places c (i + 1)) d 0 - 1) 0 ≡ d)
  told-next d (yes f) h =
      let g : get_or (set places c (i + 1)) d 0 ≡ i + 1 = ap (λ (k : ℕ). get_or (set places c (i + 1)) k 0) f ∙ get_or-set_same places c (i + 1) 0 (let l = y.size in omega arith) in
      (omega arith, ap (λ (k : ℕ). get_or variables (k - 1) 0) g ∙ ap (λ (k : ℕ). get_or variables k 0) (let z : i + 1 - 1 ≡ i = omega arith in z) ∙ e ∙ sym f)
  told-next d (no f) h =
      let g : get_or (set places c (i + 1)) d 0 ≡ get_or places d 0 = get_or-set_other places c d (i + 1) 0 f in
      let o = y.told d (λ z. h (g ∙ z)) in
      let l = o.0 in
      (omega arith, ap (λ (k : ℕ). get_or variables (k - 1) 0) g ∙ o.1)

  pub places-next : Places variables (set places c (i + 1)) (i + 1)
  places-next = record { size = length-set places c (i + 1) ∙ y.size; told = λ d h. told-next d (ℕ_discrete d c) h }

-- WHAT IS TOLD OF A COMPONENT IS ITS ANSWER
module _ (v : World) (table : Table) (variables places d into : List ℕ) (i : ℕ) (y : Places variables places i) (h : i ≤ length variables) (l : length variables ≤ length d)
    (f : into ≡ paste d 0 (answer_words v table variables) i) where
  abbrev words : List ℕ
  words = answer_words v table variables

  long : length words ≡ length variables
  long = ap length (answers-map v table variables) ∙ length-map variables (answer_of v table)

  at : (j : ℕ) → j < i → get_or into j 0 ≡ answer_of v table (get_or variables j 0)
  at j k =
      let n = long in
      sym (get_or-take (0 + i) into j 0 (omega arith))
      ∙ ap (λ (x : List ℕ). get_or x j 0) (ap (take (0 + i)) f ∙ take-paste d 0 words i (omega arith) (omega arith))
      ∙ get_or-take i words j 0 k ∙ ap (λ (x : List ℕ). get_or x j 0) (answers-map v table variables) ∙ map-at (answer_of v table) variables j (omega arith)

  pub stands : (c : ℕ) → Stands v table into c (get_or places c 0)
  stands c p =
      let o = y.told c p in
      let k = o.0 in
      let n = long in
      let m : length into ≡ length d = ap length f ∙ length-paste d 0 words i (omega arith) (omega arith) in
      (omega arith, at (get_or places c 0 - 1) (less (get_or places c 0) i p k) ∙ ap (answer_of v table) o.1)
