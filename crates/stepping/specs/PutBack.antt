-- A PART OF THE ROWS, WRITTEN AND PUT BACK: it is what was written, and every other part is as it was.
use Rattle.std.specs.Prelude.{◌≡◌, refl, List, [], ◌∷◌, ◌++◌, ℕ, zero, suc, ◌+◌, ◌-◌, ◌≤◌, length, take, drop}
use Rattle.std.proofs.Math.Path.{sym, ap}
use Rattle.std.proofs.Common.{◌∙◌, arith, zero-add, suc-add, take_at, drop_at, drop-drop, length-take-le}
use Rattle.std.proofs.Math.Seq.{take-take, drop-nil}
use borrow.Rule.Slice.PartMut.{put_mid, post_of, take_put, drop_put}
use Rattle.solveframe.specs.Parts.{part, problem_room, slices_of, part-length}

take-nil : (k : ℕ) → take {A = ℕ} k [] ≡ []
take-nil zero = refl
take-nil (suc k) = refl

-- a part of a list is a part of its front
part-front : (m b : ℕ) (l : List ℕ) → take m (drop b l) ≡ drop b (take (b + m) l)
part-front m zero l = ap (λ (k : ℕ). take k l) (sym (zero-add m))
part-front m (suc b) [] = take-nil m ∙ sym (ap (drop (suc b)) (take-nil (suc b + m)) ∙ drop-nil (suc b))
part-front m (suc b) (x ∷ l) = part-front m b l ∙ ap (λ (k : ℕ). drop (suc b) (take k (x ∷ l))) (sym (suc-add b m))

module _ (a e : ℕ) (rows new : List ℕ) (h : a ≤ e) (fits : e ≤ length rows) (same : length new ≡ e - a) where
  after : List ℕ
  after = put_mid a (e - a) rows new

  pub part-own : part a (e - a) (put_mid a (e - a) rows new) ≡ new
  part-own =
      ap (take (e - a)) (drop_at (take a rows) (new ++ post_of a (e - a) rows) a (length-take-le a rows (omega arith)))
      ∙ take_at new (post_of a (e - a) rows) (e - a) same

  pub part-below : (b m : ℕ) → b + m ≤ a → part b m (put_mid a (e - a) rows new) ≡ part b m rows
  unfolding after
  part-below b m k =
      part-front m b after
      ∙ ap (drop b) (sym (take-take (b + m) a after k) ∙ ap (take (b + m)) (take_put a (e - a) rows new (omega arith)) ∙ take-take (b + m) a rows k)
      ∙ sym (part-front m b rows)

  from-end : (b : ℕ) → e ≤ b → (l : List ℕ) → drop b l ≡ drop (b - e) (drop e l)
  from-end b k l = ap (λ (x : ℕ). drop x l) (let q : b ≡ e + (b - e) = omega arith in q) ∙ sym (drop-drop (b - e) e l)

  pub part-above : (b m : ℕ) → e ≤ b → part b m (put_mid a (e - a) rows new) ≡ part b m rows
  unfolding after
  part-above b m k = ap (take m) (from-end b k after ∙ ap (drop (b - e)) (drop_put a e rows new h fits same) ∙ sym (from-end b k rows))

-- ---- each of the six

module _ (last pairs marks rows new : List ℕ) (all : length rows ≡ problem_room) where
  pub put-variables : length new ≡ length (part 0 2048 rows) → slices_of last pairs marks (put_mid 0 2048 rows new) ≡ record { last = last; pairs = pairs; marks = marks; variables = new; bounds = part 2048 4096 rows; flows = part 6144 2048 rows; uppers = part 8192 1024 rows; reads = part 9216 1024 rows; writes = part 10240 1024 rows }
  put-variables same =
      let fits : 2048 ≤ length rows = omega arith in
      let long : length new ≡ 2048 = same ∙ part-length 0 2048 rows fits in
      let variables-are = part-own 0 2048 rows new (omega arith) fits long in
      let bounds-are = part-above 0 2048 rows new (omega arith) fits long 2048 4096 (omega arith) in
      let flows-are = part-above 0 2048 rows new (omega arith) fits long 6144 2048 (omega arith) in
      let uppers-are = part-above 0 2048 rows new (omega arith) fits long 8192 1024 (omega arith) in
      let reads-are = part-above 0 2048 rows new (omega arith) fits long 9216 1024 (omega arith) in
      let writes-are = part-above 0 2048 rows new (omega arith) fits long 10240 1024 (omega arith) in
      λ i. record { last = last; pairs = pairs; marks = marks; variables = variables-are i; bounds = bounds-are i; flows = flows-are i; uppers = uppers-are i; reads = reads-are i; writes = writes-are i }

  pub put-bounds : length new ≡ length (part 2048 4096 rows) → slices_of last pairs marks (put_mid 2048 4096 rows new) ≡ record { last = last; pairs = pairs; marks = marks; variables = part 0 2048 rows; bounds = new; flows = part 6144 2048 rows; uppers = part 8192 1024 rows; reads = part 9216 1024 rows; writes = part 10240 1024 rows }
  put-bounds same =
      let fits : 6144 ≤ length rows = omega arith in
      let long : length new ≡ 4096 = same ∙ part-length 2048 4096 rows fits in
      let variables-are = part-below 2048 6144 rows new (omega arith) fits long 0 2048 (omega arith) in
      let bounds-are = part-own 2048 6144 rows new (omega arith) fits long in
      let flows-are = part-above 2048 6144 rows new (omega arith) fits long 6144 2048 (omega arith) in
      let uppers-are = part-above 2048 6144 rows new (omega arith) fits long 8192 1024 (omega arith) in
      let reads-are = part-above 2048 6144 rows new (omega arith) fits long 9216 1024 (omega arith) in
      let writes-are = part-above 2048 6144 rows new (omega arith) fits long 10240 1024 (omega arith) in
      λ i. record { last = last; pairs = pairs; marks = marks; variables = variables-are i; bounds = bounds-are i; flows = flows-are i; uppers = uppers-are i; reads = reads-are i; writes = writes-are i }

  pub put-flows : length new ≡ length (part 6144 2048 rows) → slices_of last pairs marks (put_mid 6144 2048 rows new) ≡ record { last = last; pairs = pairs; marks = marks; variables = part 0 2048 rows; bounds = part 2048 4096 rows; flows = new; uppers = part 8192 1024 rows; reads = part 9216 1024 rows; writes = part 10240 1024 rows }
  put-flows same =
      let fits : 8192 ≤ length rows = omega arith in
      let long : length new ≡ 2048 = same ∙ part-length 6144 2048 rows fits in
      let variables-are = part-below 6144 8192 rows new (omega arith) fits long 0 2048 (omega arith) in
      let bounds-are = part-below 6144 8192 rows new (omega arith) fits long 2048 4096 (omega arith) in
      let flows-are = part-own 6144 8192 rows new (omega arith) fits long in
      let uppers-are = part-above 6144 8192 rows new (omega arith) fits long 8192 1024 (omega arith) in
      let reads-are = part-above 6144 8192 rows new (omega arith) fits long 9216 1024 (omega arith) in
      let writes-are = part-above 6144 8192 rows new (omega arith) fits long 10240 1024 (omega arith) in
      λ i. record { last = last; pairs = pairs; marks = marks; variables = variables-are i; bounds = bounds-are i; flows = flows-are i; uppers = uppers-are i; reads = reads-are i; writes = writes-are i }

  pub put-uppers : length new ≡ length (part 8192 1024 rows) → slices_of last pairs marks (put_mid 8192 1024 rows new) ≡ record { last = last; pairs = pairs; marks = marks; variables = part 0 2048 rows; bounds = part 2048 4096 rows; flows = part 6144 2048 rows; uppers = new; reads = part 9216 1024 rows; writes = part 10240 1024 rows }
  put-uppers same =
      let fits : 9216 ≤ length rows = omega arith in
      let long : length new ≡ 1024 = same ∙ part-length 8192 1024 rows fits in
      let variables-are = part-below 8192 9216 rows new (omega arith) fits long 0 2048 (omega arith) in
      let bounds-are = part-below 8192 9216 rows new (omega arith) fits long 2048 4096 (omega arith) in
      let flows-are = part-below 8192 9216 rows new (omega arith) fits long 6144 2048 (omega arith) in
      let uppers-are = part-own 8192 9216 rows new (omega arith) fits long in
      let reads-are = part-above 8192 9216 rows new (omega arith) fits long 9216 1024 (omega arith) in
      let writes-are = part-above 8192 9216 rows new (omega arith) fits long 10240 1024 (omega arith) in
      λ i. record { last = last; pairs = pairs; marks = marks; variables = variables-are i; bounds = bounds-are i; flows = flows-are i; uppers = uppers-are i; reads = reads-are i; writes = writes-are i }

  pub put-reads : length new ≡ length (part 9216 1024 rows) → slices_of last pairs marks (put_mid 9216 1024 rows new) ≡ record { last = last; pairs = pairs; marks = marks; variables = part 0 2048 rows; bounds = part 2048 4096 rows; flows = part 6144 2048 rows; uppers = part 8192 1024 rows; reads = new; writes = part 10240 1024 rows }
  put-reads same =
      let fits : 10240 ≤ length rows = omega arith in
      let long : length new ≡ 1024 = same ∙ part-length 9216 1024 rows fits in
      let variables-are = part-below 9216 10240 rows new (omega arith) fits long 0 2048 (omega arith) in
      let bounds-are = part-below 9216 10240 rows new (omega arith) fits long 2048 4096 (omega arith) in
      let flows-are = part-below 9216 10240 rows new (omega arith) fits long 6144 2048 (omega arith) in
      let uppers-are = part-below 9216 10240 rows new (omega arith) fits long 8192 1024 (omega arith) in
      let reads-are = part-own 9216 10240 rows new (omega arith) fits long in
      let writes-are = part-above 9216 10240 rows new (omega arith) fits long 10240 1024 (omega arith) in
      λ i. record { last = last; pairs = pairs; marks = marks; variables = variables-are i; bounds = bounds-are i; flows = flows-are i; uppers = uppers-are i; reads = reads-are i; writes = writes-are i }

  pub put-writes : length new ≡ length (part 10240 1024 rows) → slices_of last pairs marks (put_mid 10240 1024 rows new) ≡ record { last = last; pairs = pairs; marks = marks; variables = part 0 2048 rows; bounds = part 2048 4096 rows; flows = part 6144 2048 rows; uppers = part 8192 1024 rows; reads = part 9216 1024 rows; writes = new }
  put-writes same =
      let fits : 11264 ≤ length rows = omega arith in
      let long : length new ≡ 1024 = same ∙ part-length 10240 1024 rows fits in
      let variables-are = part-below 10240 11264 rows new (omega arith) fits long 0 2048 (omega arith) in
      let bounds-are = part-below 10240 11264 rows new (omega arith) fits long 2048 4096 (omega arith) in
      let flows-are = part-below 10240 11264 rows new (omega arith) fits long 6144 2048 (omega arith) in
      let uppers-are = part-below 10240 11264 rows new (omega arith) fits long 8192 1024 (omega arith) in
      let reads-are = part-below 10240 11264 rows new (omega arith) fits long 9216 1024 (omega arith) in
      let writes-are = part-own 10240 11264 rows new (omega arith) fits long in
      λ i. record { last = last; pairs = pairs; marks = marks; variables = variables-are i; bounds = bounds-are i; flows = flows-are i; uppers = uppers-are i; reads = reads-are i; writes = writes-are i }
