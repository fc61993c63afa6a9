-- The copies, parts and answers as the code meets them.
use Rattle.std.specs.Prelude.{◌≡◌, List, ◌++◌, ℕ, ◌+◌, length}
use Rattle.std.proofs.Common.{sym, ap, ap₂, ◌∙◌, append_assoc, arith, zero-add, length-append}
use Rattle.std.proofs.lemmas.List.{length-map}
use Rattle.std.proofs.Math.Seq.{paste}
use Rattle.copying.specs.Copies.{run_in, words_in, word_in}
use Rattle.copying.specs.Steps.{paste-both}
use Rattle.solving.specs.Solving.{Domain, Fallback, Upper, Lower, Exact}
use Rattle.answering.specs.declared.Parts.{Parts}
use Rattle.answering.specs.Answering.{kind_words, state_words, parts_of}

-- ---- one copy after the other

-- a slice with these words at its front
abbrev pub Front : List ℕ → List ℕ → List ℕ → Type 0
Front d₀ d xs = d ≡ paste d₀ 0 xs (length xs)

pub front-next : (d₀ d d' xs keys : List ℕ) (m : ℕ) → Front d₀ d xs → m ≡ length xs → d' ≡ paste d m (words_in keys) (length keys) → Front d₀ d' (xs ++ words_in keys)
front-next d₀ d d' xs keys m f e g =
    g ∙ ap₂ (λ (l : List ℕ) (n : ℕ). paste l n (words_in keys) (length keys)) f (e ∙ sym (zero-add (length xs)))
    ∙ ap (λ (n : ℕ). paste (paste d₀ 0 xs (length xs)) (0 + length xs) (words_in keys) n) (sym (length-map keys word_in))
    ∙ paste-both d₀ xs (words_in keys)

-- FIVE OF THEM
module _ (c : ℕ) (keys d₀ d₁ d₂ d₃ d₄ d₅ : List ℕ) (r₁ r₂ r₃ r₄ r₅ : ℕ)
    (e₁ : r₁ ≡ 0 + length (run_in c Domain keys)) (f₁ : d₁ ≡ paste d₀ 0 (kind_words c Domain keys) (length (run_in c Domain keys)))
    (e₂ : r₂ ≡ r₁ + length (run_in c Fallback keys)) (f₂ : d₂ ≡ paste d₁ r₁ (kind_words c Fallback keys) (length (run_in c Fallback keys)))
    (e₃ : r₃ ≡ r₂ + length (run_in c Upper keys)) (f₃ : d₃ ≡ paste d₂ r₂ (kind_words c Upper keys) (length (run_in c Upper keys)))
    (e₄ : r₄ ≡ r₃ + length (run_in c Lower keys)) (f₄ : d₄ ≡ paste d₃ r₃ (kind_words c Lower keys) (length (run_in c Lower keys)))
    (e₅ : r₅ ≡ r₄ + length (run_in c Exact keys)) (f₅ : d₅ ≡ paste d₄ r₄ (kind_words c Exact keys) (length (run_in c Exact keys))) where
  abbrev w : ℕ → List ℕ
  w k = kind_words c k keys

  long : (k : ℕ) → length (w k) ≡ length (run_in c k keys)
  long k = length-map (run_in c k keys) word_in

  n₁ : r₁ ≡ length (w 0)
  n₁ = omega (arith, e₁, long 0)

  n₂ : r₂ ≡ length (w 0 ++ w 1)
  n₂ = omega (arith, n₁, e₂, long 1, length-append (w 0) (w 1))

  n₃ : r₃ ≡ length ((w 0 ++ w 1) ++ w 2)
  n₃ = omega (arith, n₂, e₃, long 2, length-append (w 0 ++ w 1) (w 2))

  n₄ : r₄ ≡ length (((w 0 ++ w 1) ++ w 2) ++ w 3)
  n₄ = omega (arith, n₃, e₄, long 3, length-append ((w 0 ++ w 1) ++ w 2) (w 3))

  g₁ : Front d₀ d₁ (w 0)
  g₁ = f₁ ∙ ap (paste d₀ 0 (w 0)) (sym (long 0))

  g₄ : Front d₀ d₄ (((w 0 ++ w 1) ++ w 2) ++ w 3)
  g₄ =
      front-next d₀ d₃ d₄ ((w 0 ++ w 1) ++ w 2) (run_in c Lower keys) r₃
      (front-next d₀ d₂ d₃ (w 0 ++ w 1) (run_in c Upper keys) r₂ (front-next d₀ d₁ d₂ (w 0) (run_in c Fallback keys) r₁ g₁ n₁ f₂) n₂ f₃) n₃ f₄

  nested : (((w 0 ++ w 1) ++ w 2) ++ w 3) ++ w 4 ≡ state_words c keys
  nested =
      append_assoc ((w 0 ++ w 1) ++ w 2) (w 3) (w 4) ∙ append_assoc (w 0 ++ w 1) (w 2) (w 3 ++ w 4) ∙ append_assoc (w 0) (w 1) (w 2 ++ (w 3 ++ w 4))

  pub five-copied : d₅ ≡ paste d₀ 0 (state_words c keys) (length (state_words c keys))
  five-copied = front-next d₀ d₄ d₅ (((w 0 ++ w 1) ++ w 2) ++ w 3) (run_in c Exact keys) r₄ g₄ n₄ f₅ ∙ ap (λ (l : List ℕ). paste d₀ 0 l (length l)) nested

  pub five-ends : ◌≡◌ {A = Parts} (record { domain = r₁; fallback = r₂; upper = r₃; lower = r₄; exact = r₅ }) (parts_of c keys)
  five-ends =
      let n : ℕ → ℕ = λ (k : ℕ). length (run_in c k keys) in
      let p₁ : r₁ ≡ n 0 = omega (arith, e₁) in
      let p₂ : r₂ ≡ n 0 + n 1 = omega (arith, e₂, p₁) in
      let p₃ : r₃ ≡ n 0 + n 1 + n 2 = omega (arith, e₃, p₂) in
      let p₄ : r₄ ≡ n 0 + n 1 + n 2 + n 3 = omega (arith, e₄, p₃) in
      let p₅ : r₅ ≡ n 0 + n 1 + n 2 + n 3 + n 4 = omega (arith, e₅, p₄) in
      λ i. record { domain = p₁ i; fallback = p₂ i; upper = p₃ i; lower = p₄ i; exact = p₅ i }
