-- The copies as the code meets them.
use Rattle.std.specs.Prelude.{◌≡◌, refl, List, [], ◌∷◌, ◌++◌, map, ℕ, ◌+◌, ◌-◌, ◌*◌, ◌^◌, ◌≤◌, ◌<◌, length, take, drop, get_or, set}
use Rattle.std.proofs.Common.{sym, ap₂, ◌∙◌, subst, zero-add, arith, add-one, length-append, length-take, length-drop, drop-drop}
use Rattle.std.proofs.Math.Path.{ap}
use Rattle.std.proofs.lemmas.List.{map-append, length-map}
use Rattle.std.proofs.Math.ListN.{get_or-map}
use Rattle.std.proofs.Math.Seq.{paste, paste-suc, take-length, take-append_seam, drop-append-add}
use Rattle.sorted.specs.declared.Span.{Span}
use Rattle.sorted.specs.Sorted.{Sorted, run_of}
use Rattle.sorted.specs.Places.{run-within, place-mono}
use Rattle.solving.specs.Solving.{Upper, Lower, Exact}
use Rattle.copying.specs.Copies.{between, run_in, rank_in, ranks_in, words_in, or_lower, evidence_in, uppers_in}

-- one entry more: f of the keys
module _ (f : ℕ → ℕ) (d : List ℕ) (at : ℕ) (keys : List ℕ) (i v : ℕ) (e : v ≡ f (get_or keys i 0)) where
  pub paste-more : i < length keys → at + length keys ≤ length d → set (paste d at (map f keys) i) (at + i) v ≡ paste d at (map f keys) (i + 1)
  paste-more h l =
      let n = length-map keys f in
      ap (set (paste d at (map f keys) i) (at + i)) (e ∙ sym (get_or-map f keys i 0))
      ∙ paste-suc d at (map f keys) i (f 0) (omega arith) (omega arith)
      ∙ ap (paste d at (map f keys)) (sym (add-one i))

-- the run that the code finds
module _ (c k : ℕ) (keys : List ℕ) (o : Sorted keys) where
  pub run-is : (r : Span) → r ≡ run_of (2 ^ 52) (c * 8 + k) (take (length keys) keys) → between r keys ≡ run_in c k keys
  unfolding run_in
  run-is r e = ap (λ (s : Span). between s keys) (e ∙ ap (run_of (2 ^ 52) (c * 8 + k)) (take-length keys))

  pub run-bounds : (r : Span) → r ≡ run_of (2 ^ 52) (c * 8 + k) (take (length keys) keys) → (r.first ≤ r.past) × (r.past ≤ length keys)
  run-bounds r e =
      subst (λ (s : Span). (s.first ≤ s.past) × (s.past ≤ length keys)) (sym (e ∙ ap (run_of (2 ^ 52) (c * 8 + k)) (take-length keys)))
      (run-within (2 ^ 52) (c * 8 + k) keys o (omega arith))

  pub span-length : (r : Span) → (r.first ≤ r.past) × (r.past ≤ length keys) → length (between r keys) ≡ r.past - r.first
  span-length r b =
      let l = b.0 in
      let m = b.1 in
      length-take (r.past - r.first) (drop r.first keys) ∙ (let z = length-drop r.first keys in omega arith)

  pub run-length : (r : Span) → r ≡ run_of (2 ^ 52) (c * 8 + k) (take (length keys) keys) → length (run_in c k keys) ≡ r.past - r.first
  run-length r e = ap length (sym (run-is r e)) ∙ span-length r (run-bounds r e)

  -- A RUN IS NO LONGER THAN THE TABLE
  pub run-short : length (run_in c k keys) ≤ length keys
  run-short =
      let r = run_of (2 ^ 52) (c * 8 + k) (take (length keys) keys) in
      let b = run-bounds r refl in
      let n = run-length r refl in
      omega arith

-- NOR ARE TWO OF DIFFERENT KINDS
pub two-short : (c k l : ℕ) (keys : List ℕ) → Sorted keys → k < l → length (run_in c k keys) + length (run_in c l keys) ≤ length keys
unfolding run_of
two-short c k l keys o h =
    let r = run_of (2 ^ 52) (c * 8 + k) (take (length keys) keys) in
    let s = run_of (2 ^ 52) (c * 8 + l) (take (length keys) keys) in
    let a = run-bounds c k keys o r refl in
    let b = run-bounds c l keys o s refl in
    let m = run-length c k keys o r refl in
    let n = run-length c l keys o s refl in
    let p = place-mono ((c * 8 + k) * 2 ^ 52 + 2 ^ 52) ((c * 8 + l) * 2 ^ 52) (take (length keys) keys) (subst Sorted (sym (take-length keys)) o) (omega arith) in
    omega arith

-- ---- one copy after the other

-- from the front, all of a list
pub paste-front : (d s : List ℕ) → paste d 0 s (length s) ≡ s ++ drop (length s) d
paste-front d s = ap₂ (λ (x y : List ℕ). x ++ y) (take-length s) (ap (λ (n : ℕ). drop n d) (zero-add (length s)))

-- and another behind it
pub paste-both : (d xs ys : List ℕ) → paste (paste d 0 xs (length xs)) (0 + length xs) ys (length ys) ≡ paste d 0 (xs ++ ys) (length (xs ++ ys))
paste-both d xs ys =
    ap₂ (λ (p : List ℕ) (n : ℕ). paste p n ys (length ys)) (paste-front d xs) (zero-add (length xs))
    ∙ ap₂ (λ (a b : List ℕ). a ++ b)
    (ap₂ (λ (a b : List ℕ). a ++ b) (take-append_seam xs (drop (length xs) d)) (take-length ys))
    (drop-append-add xs (drop (length xs) d) (length ys) ∙ drop-drop (length ys) (length xs) d)
    ∙ ap (λ (n : ℕ). (xs ++ ys) ++ drop n d) (sym (length-append xs ys)) ∙ sym (paste-front d (xs ++ ys))

module _ (c : ℕ) (keys out : List ℕ) where
  -- upper, then exact
  pub uppers-copied : (m : ℕ) (mid last : List ℕ) → m ≡ 0 + length (run_in c Upper keys)
      → mid ≡ paste out 0 (ranks_in (run_in c Upper keys)) (length (run_in c Upper keys))
      → last ≡ paste mid m (ranks_in (run_in c Exact keys)) (length (run_in c Exact keys))
      → last ≡ paste out 0 (ranks_in (uppers_in c keys)) (length (uppers_in c keys))
  uppers-copied m mid last e f g =
      let u = run_in c Upper keys in
      let x = run_in c Exact keys in
      g ∙ ap₂ (λ (d : List ℕ) (n : ℕ). paste d n (ranks_in x) (length x)) f e
      ∙ ap₂ (λ (j k : ℕ). paste (paste out 0 (ranks_in u) j) (0 + j) (ranks_in x) k) (sym (length-map u rank_in)) (sym (length-map x rank_in))
      ∙ paste-both out (ranks_in u) (ranks_in x)
      ∙ ap₂ (λ (l : List ℕ) (k : ℕ). paste out 0 l k) (sym (map-append rank_in u x)) (ap length (sym (map-append rank_in u x)) ∙ length-map (u ++ x) rank_in)

  pub uppers-length : (m r : ℕ) → m ≡ 0 + length (run_in c Upper keys) → r ≡ m + length (run_in c Exact keys) → r ≡ length (uppers_in c keys)
  uppers-length m r e f = f ∙ (let z = length-append (run_in c Upper keys) (run_in c Exact keys) in omega arith)

  -- exact, or lower
  pub evidence-exact : (m : ℕ) → m ≡ 0 + length (run_in c Exact keys) → (m ≡ 0 → ⊥) → run_in c Exact keys ≡ evidence_in c keys
  evidence-exact m e h = go (run_in c Exact keys) e
    where
      go : (x : List ℕ) → m ≡ 0 + length x → x ≡ or_lower x (run_in c Lower keys)
      go [] k = absurd (h (omega arith))
      go (y ∷ x) k = refl

  pub evidence-lower : (m : ℕ) → m ≡ 0 + length (run_in c Exact keys) → m ≡ 0 → (run_in c Exact keys ≡ []) × (run_in c Lower keys ≡ evidence_in c keys)
  evidence-lower m e h = go (run_in c Exact keys) e
    where
      go : (x : List ℕ) → m ≡ 0 + length x → (x ≡ []) × (run_in c Lower keys ≡ or_lower x (run_in c Lower keys))
      go [] k = (refl, refl)
      go (y ∷ x) k = absurd (omega arith)

  -- nothing copied changes nothing
  pub paste-none : (mid xs : List ℕ) → xs ≡ [] → mid ≡ paste out 0 (words_in xs) (length xs) → mid ≡ out
  paste-none mid xs e f = f ∙ ap (λ (x : List ℕ). paste out 0 (words_in x) (length x)) e

-- THE EVIDENCE IS NO LONGER THAN THE TABLE
pub evidence-short : (c : ℕ) (keys : List ℕ) → Sorted keys → length (evidence_in c keys) ≤ length keys
evidence-short c keys o = go (run_in c Exact keys) (run-short c Exact keys o)
  where
    go : (xs : List ℕ) → length xs ≤ length keys → length (or_lower xs (run_in c Lower keys)) ≤ length keys
    go [] h = run-short c Lower keys o
    go (x ∷ xs) h = h
