-- What the loops, the lists and the verdicts go by, stated as the code meets it.
use Rattle.std.proofs.Common.{◌≡◌, ℕ, ◌+◌, ◌-◌, ◌%◌, ◌^◌, ◌<◌, ◌≤◌, Bool, true, false, cond, not, ◌&&◌, eqb, leb, ◌↔◌, List, [], length, get_or, take, drop, set, sym, refl, ap, ◌∙◌, true≢false, add-one, arith, ext_get_or, le-ltb, lt-ltb, eq-eqb, ne_eqb, le-leb}
use native.Mathlib.Decide.{ℕ_discrete}
use borrow.Author.Tests.{lt-leb}
use lib.Seq.{set_out}
use Rattle.replaying.specs.Replaying.{end_of, last_end, span, after_of, clipped, part_of, place_of, list_of, is_last, verdict, Judges, more, tallied, counted}
use Rattle.replaying.specs.declared.lists.Span.{Span}
use Rattle.replaying.specs.declared.answers.Verdict.{Verdict}
use Rattle.replaying.specs.declared.answers.Verdict.TheVariants.{Agrees, Differs, Unread}

-- ---- a part: b does not stand between `from` and i

abbrev pub Without : List ℕ → ℕ → ℕ → ℕ → Type 0
Without s from b i = (k : ℕ) → from ≤ k → k < i → get_or s k 0 ≡ b → ⊥

pub without-more : (s : List ℕ) (from b i : ℕ) → Without s from b i → (get_or s i 0 ≡ b → ⊥) → Without s from b (i + 1)
without-more s from b i w h k g l e = go (ℕ_discrete k i)
  where
    go : Dec (k ≡ i) → ⊥
    go (yes q) = h (ap (λ (j : ℕ). get_or s j 0) (sym q) ∙ e)
    go (no q) = w k g (omega arith) e

-- ---- two lists that are the same below i

abbrev pub Alike : List ℕ → List ℕ → ℕ → Type 0
Alike x y i = (k : ℕ) → k < i → get_or x k 0 ≡ get_or y k 0

pub alike-more : (x y : List ℕ) (i : ℕ) → Alike x y i → get_or x i 0 ≡ get_or y i 0 → Alike x y (i + 1)
alike-more x y i a h k l = go (ℕ_discrete k i)
  where
    go : Dec (k ≡ i) → get_or x k 0 ≡ get_or y k 0
    go (yes q) = ap (λ (j : ℕ). get_or x j 0) q ∙ h ∙ ap (λ (j : ℕ). get_or y j 0) (sym q)
    go (no q) = a k (omega arith)

-- at the end they are the same, and `true` says so
pub alike-all : (x y : List ℕ) (i : ℕ) → length x ≡ length y → length x ≤ i → Alike x y i → (true ≡ true) ↔ (x ≡ y)
alike-all x y i e l a = (λ t. ext_get_or 0 x y e (λ k h. a k (omega arith)), λ q. refl)

-- what differs is not the same, and `false` says so
pub differs : (x y : List ℕ) → (x ≡ y → ⊥) → (false ≡ true) ↔ (x ≡ y)
differs x y n = (λ t. absurd (true≢false (sym t)), λ q. absurd (n q))

-- ---- verdicts

is_agrees : Verdict → Bool
is_agrees Agrees = true
is_agrees Differs = false
is_agrees Unread = false

agrees-differs : (r : Verdict) → r ≡ Agrees → r ≡ Differs → ⊥
unfolding is_agrees
agrees-differs r p q = true≢false (ap is_agrees (sym p ∙ q))

-- the verdict on a comparison that tells whether P says whether P
pub judges-if : {P : Type 0} (r : Verdict) (b : Bool) → r ≡ verdict b → (b ≡ true) ↔ P → Judges P r
judges-if r true e f = ((λ q. f.0 refl, λ p. e), (λ q. absurd (agrees-differs r e q), λ n. absurd (n (f.0 refl))))
judges-if r false e f = ((λ q. absurd (agrees-differs r q e), λ p. absurd (true≢false (sym (f.1 p)))), (λ q p. true≢false (sym (f.1 p)), λ n. e))

-- ---- lists

pub end-none : (a : List ℕ) (at : ℕ) → length a ≤ at + get_or a at 0 → 0 ≡ end_of a at
unfolding end_of
end-none a at h = sym (rw (le-ltb (at + get_or a at 0) (length a) h))

pub end-some : (a : List ℕ) (at : ℕ) → at + get_or a at 0 < length a → at + 1 + get_or a at 0 ≡ end_of a at
unfolding end_of
end-some a at h = sym (rw (lt-ltb (at + get_or a at 0) (length a) h))

pub last-none : (a : List ℕ) (at more e : ℕ) → e ≡ end_of a at → (e + more ≡ length a → ⊥) → 0 ≡ last_end a at more
unfolding last_end
last-none a at more e q n = sym (rw (← q, ne_eqb (e + more) (length a) n))

pub last-some : (a : List ℕ) (at more e : ℕ) → e ≡ end_of a at → e + more ≡ length a → e ≡ last_end a at more
unfolding last_end
last-some a at more e q h = sym (rw (← q, eq-eqb (e + more) (length a) h))

-- an end that is not past the place is none
pub none-at : (e at n : ℕ) → e ≤ at → ((e ≡ 0 → ⊥) → e ≡ at + 1 + n) → e ≡ 0
none-at e at n h w = go (ℕ_discrete e 0)
  where
    go : Dec (e ≡ 0) → e ≡ 0
    go (yes z) = z
    go (no k) = let q = w k in omega arith

pub after-none : (a : List ℕ) (s : Span) → s.start ≡ 0 → span 0 0 ≡ after_of a s
unfolding after_of
after-none a s z = sym (rw (eq-eqb s.start 0 z))

module _ (a : List ℕ) (s : Span) (n : s.start ≡ 0 → ⊥) (e : ℕ) (q : e ≡ end_of a s.end) where
  pub after-broken : e ≡ 0 → span 0 0 ≡ after_of a s
  unfolding after_of
  after-broken z = sym (rw (ne_eqb s.start 0 n, ← q, eq-eqb e 0 z))

  pub after-whole : (e ≡ 0 → ⊥) → span (s.end + 1) e ≡ after_of a s
  unfolding after_of
  after-whole h = sym (rw (ne_eqb s.start 0 n, ← q, ne_eqb e 0 h))

-- ---- counts

-- past the end nothing is counted
pub more-out : (at : ℕ) (counts : List ℕ) → length counts ≤ at → counts ≡ more at counts
unfolding more
more-out at counts l = sym (set_out counts at ((get_or counts at 0 + 1) % 2 ^ 64) l)

pub more-at : (at n : ℕ) (counts : List ℕ) → n ≡ (get_or counts at 0 + 1) % 2 ^ 64 → set counts at n ≡ more at counts
unfolding more
more-at at n counts e = ap (λ (m : ℕ). set counts at m) e

pub counted-comment : (place : ℕ) (v : Verdict) (counts : List ℕ) → place ≡ 64 → counts ≡ counted place v counts
unfolding counted
counted-comment place v counts e = sym (simp (eq-eqb _ _ e))

pub counted-past : (place : ℕ) (v : Verdict) (counts : List ℕ) → (place ≡ 64 → ⊥) → 63 ≤ place → more 127 counts ≡ counted place v counts
unfolding counted
counted-past place v counts n l = sym (simp (ne_eqb _ _ n, le-leb _ _ l))

pub counted-in : (place : ℕ) (v : Verdict) (counts : List ℕ) → (place ≡ 64 → ⊥) → place < 63 → tallied place v counts ≡ counted place v counts
unfolding counted
counted-in place v counts n l = sym (simp (ne_eqb _ _ n, lt-leb _ _ l))

-- on a function by its number, after each verdict
pub counted-as : (place : ℕ) (v w : Verdict) (counts : List ℕ) → (place ≡ 64 → ⊥) → place < 63 → v ≡ w → tallied place w counts ≡ counted place v counts
counted-as place v w counts n h e = ap (λ (u : Verdict). tallied place u counts) (sym e) ∙ counted-in place v counts n h

-- ---- parts that are handed out

pub clip-turned : (start end room : ℕ) → end < start → span 0 0 ≡ clipped start end room
unfolding clipped
clip-turned start end room h = sym (rw (lt-leb start end h))

pub clip-past : (start end room : ℕ) → start ≤ end → room < end → span 0 0 ≡ clipped start end room
unfolding clipped
clip-past start end room g h = sym (rw (le-leb start end g, lt-leb end room h))

pub clip-there : (start end room : ℕ) → start ≤ end → end ≤ room → span start end ≡ clipped start end room
unfolding clipped
clip-there start end room g h = sym (rw (le-leb start end g, le-leb end room h))

pub part-clipped : (a : List ℕ) (start end : ℕ) (s : Span) → s ≡ clipped start end (length a) → take (s.end - s.start) (drop s.start a) ≡ part_of a start end
unfolding clipped part_of
part-clipped a start end s e = ap (λ (t : Span). take (t.end - t.start) (drop t.start a)) e ∙ go (leb start end && leb end (length a))
  where
    spanned : Bool → Span
    spanned b = cond b (span start end) (span 0 0)

    go : (b : Bool) → take ((spanned b).end - (spanned b).start) (drop (spanned b).start a) ≡ cond b (take (end - start) (drop start a)) []
    go true = refl
    go false = refl

-- the first list, and the one after list i
pub place-first : (a : List ℕ) (from : ℕ) (r : Span) → r ≡ after_of a (span from from) → r ≡ place_of a from 0
unfolding place_of
place-first a from r e = e

pub place-next : (a : List ℕ) (from i : ℕ) (s r : Span) → s ≡ place_of a from i → r ≡ after_of a s → r ≡ place_of a from (i + 1)
unfolding place_of
place-next a from i s r p e = e ∙ ap (after_of a) p ∙ ap (place_of a from) (sym (add-one i))

pub place-done : (a : List ℕ) (from i k : ℕ) (s : Span) → s ≡ place_of a from i → i ≤ k → k ≤ i → s ≡ place_of a from k
place-done a from i k s p h g = p ∙ ap (place_of a from) (omega arith)

pub list-there : (a : List ℕ) (from k : ℕ) (s : Span) (r : List ℕ) → s ≡ place_of a from k → r ≡ part_of a s.start s.end → r ≡ list_of a from k
unfolding list_of
list-there a from k s r p e = e ∙ ap (λ (t : Span). part_of a t.start t.end) p

-- what a test of `is_last` leaves
pub not-last : (a : List ℕ) (from k : ℕ) (s : Span) → s ≡ place_of a from k → s.start ≡ 0 → not (eqb s.start 0) ≡ is_last a from k
unfolding is_last
not-last a from k s p z =
    ap (λ (b : Bool). not b) (eq-eqb s.start 0 z)
    ∙ ap (λ (b : Bool). not b && eqb (place_of a from k).end (length a)) (sym (eq-eqb (place_of a from k).start 0 (ap (λ (t : Span). t.start) (sym p) ∙ z)))

pub last-tested : (a : List ℕ) (from k : ℕ) (s : Span) → s ≡ place_of a from k → (s.start ≡ 0 → ⊥) → eqb s.end (length a) ≡ is_last a from k
unfolding is_last
last-tested a from k s p n =
    ap (λ (t : Span). eqb t.end (length a)) p
    ∙ ap (λ (b : Bool). not b && eqb (place_of a from k).end (length a)) (sym (ne_eqb (place_of a from k).start 0 (λ z. n (ap (λ (t : Span). t.start) p ∙ z))))
