-- COPIED FROM ITS OWN KEYS, a component's bounds are those of the whole table. As the code meets it: the span that `sorted::run` finds.
use Rattle.std.specs.Prelude.{◌≡◌, List, ◌++◌, ℕ, ◌^◌, ◌≤◌, ◌<◌, length, take}
use Rattle.std.proofs.Common.{sym, ap, ◌∙◌, subst, arith}
use Rattle.std.proofs.Math.Seq.{paste, take-length}
use Rattle.sorted.specs.declared.Span.{Span}
use Rattle.sorted.specs.Sorted.{Sorted, run_of}
use Rattle.sorted.specs.Parts.{part-sorted, part-length}
use Rattle.solving.specs.Solving.{Domain, Fallback, Upper, Lower, Exact}
use Rattle.copying.specs.Copies.{run_in, words_in}
use Rattle.copying.specs.Own.{own_in, own-within, own-is, own-run}
use Rattle.answering.specs.declared.Parts.{Parts}
use Rattle.answering.specs.Answering.{part, ends, state_words, parts_of}

module _ (c : ℕ) (keys : List ℕ) (o : Sorted keys) (r : Span) (e : r ≡ run_of (2 ^ 55) c (take (length keys) keys)) where
  front : Sorted (take (length keys) keys)
  front = subst Sorted (sym (take-length keys)) o

  abbrev own : List ℕ
  own = part r.first r.past keys

  pub cut-within : (r.first ≤ r.past) × (r.past ≤ length keys)
  cut-within = own-within c (length keys) keys front (omega arith) r e

  pub cut-sorted : Sorted own
  cut-sorted = part-sorted r.first r.past keys o

  pub cut-short : length own ≤ length keys
  cut-short = let w = cut-within.1 in let l = part-length r.first r.past keys w in omega arith

  run-own : (k : ℕ) → k < 8 → run_in c k own ≡ run_in c k keys
  run-own k small =
      ap (run_in c k) (own-is c (length keys) keys front (omega arith) r e ∙ ap (own_in c) (take-length keys)) ∙ own-run c keys o k small

  -- THE ENDS ARE THE SAME
  pub cut-parts : (p : Parts) → p ≡ parts_of c own → p ≡ parts_of c keys
  cut-parts p f =
      let d = run-own Domain (omega arith) in
      let b = run-own Fallback (omega arith) in
      let u = run-own Upper (omega arith) in
      let l = run-own Lower (omega arith) in
      let x = run-own Exact (omega arith) in
      f ∙ (λ i. ends (length (d i)) (length (b i)) (length (u i)) (length (l i)) (length (x i)))

  words-own : state_words c own ≡ state_words c keys
  words-own =
      let d = run-own Domain (omega arith) in
      let b = run-own Fallback (omega arith) in
      let u = run-own Upper (omega arith) in
      let l = run-own Lower (omega arith) in
      let x = run-own Exact (omega arith) in
      λ i. words_in (d i) ++ (words_in (b i) ++ (words_in (u i) ++ (words_in (l i) ++ words_in (x i))))

  -- AND SO ARE THE WORDS
  pub cut-words : (d₀ d : List ℕ) → d ≡ paste d₀ 0 (state_words c own) (length (state_words c own)) → d ≡ paste d₀ 0 (state_words c keys) (length (state_words c keys))
  cut-words d₀ d f = f ∙ ap (λ (ws : List ℕ). paste d₀ 0 ws (length ws)) words-own
