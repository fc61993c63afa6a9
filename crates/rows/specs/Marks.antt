-- Laws of the marks: what a record tells of its class, and that it tells nothing else.
use Rattle.std.specs.Prelude.{◌≡◌, Bool, cond, ℕ, ◌+◌, ◌*◌, ◌/◌, ◌%◌, ◌≤◌, ◌<◌, eqb, get_or}
use Rattle.std.proofs.Common.{ap, ap₂, ◌∙◌, arith, eq-eqb, ne_eqb}
use Rattle.std.proofs.Math.Bool.{true, false}
use mathlib.Core.List.{List}
use Rattle.std.proofs.Math.ListN.{length}
use Rattle.sets.specs.Sets.{bit, at, member, insert, remove}
use Rattle.sets.specs.Laws.{member-cong, member-at, member-none, at-insert-same, at-insert-other, at-remove-same, at-remove-other, length-insert, length-remove}
use Rattle.tables.specs.Table.{marks_room, mark, mark-at}
use Rattle.rows.specs.Rows.{is_marked, marked, record_marks}

-- SET k OF THE FOUR is sixteen words
pub mark-set : (marks : List ℕ) (k c : ℕ) → c < 1024 → member (mark marks k) c ≡ is_marked k c marks
unfolding member at
mark-set marks k c h =
    let word : 16 * k + c / 64 ≡ (1024 * k + c) / 64 = omega arith in
    let digit : c % 64 ≡ (1024 * k + c) % 64 = omega arith in
    ap (λ (n : ℕ). eqb n 1) (mark-at marks k c h) ∙ ap₂ (λ (i d : ℕ). eqb (bit d (get_or marks i 0)) 1) word digit

-- ---- one mark

module _ (on : Bool) (k c : ℕ) (marks : List ℕ) where
  pub marked-same : 1024 * k + c < 64 * length marks → is_marked k c (marked on k c marks) ≡ on
  unfolding marked
  marked-same h = go on
    where
      go : (t : Bool) → member (cond t (insert marks (1024 * k + c)) (remove marks (1024 * k + c))) (1024 * k + c) ≡ t
      go true = member-at (insert marks (1024 * k + c)) (1024 * k + c) (at-insert-same marks (1024 * k + c) h)
      go false = member-none (remove marks (1024 * k + c)) (1024 * k + c) (at-remove-same marks (1024 * k + c))

  pub marked-other : (j d : ℕ) → (1024 * j + d ≡ 1024 * k + c → ⊥) → is_marked j d (marked on k c marks) ≡ is_marked j d marks
  unfolding marked
  marked-other j d n = go on
    where
      go : (t : Bool) → member (cond t (insert marks (1024 * k + c)) (remove marks (1024 * k + c))) (1024 * j + d) ≡ member marks (1024 * j + d)
      go true = member-cong (insert marks (1024 * k + c)) marks (1024 * j + d) (at-insert-other marks (1024 * k + c) (1024 * j + d) n)
      go false = member-cong (remove marks (1024 * k + c)) marks (1024 * j + d) (at-remove-other marks (1024 * k + c) (1024 * j + d) n)

  pub length-marked : length (marked on k c marks) ≡ length marks
  unfolding marked
  length-marked = go on
    where
      go : (t : Bool) → length (cond t (insert marks (1024 * k + c)) (remove marks (1024 * k + c))) ≡ length marks
      go true = length-insert marks (1024 * k + c)
      go false = length-remove marks (1024 * k + c)

  -- another class, or another set
  pub marked-class : (j d : ℕ) → c < 1024 → d < 1024 → (d ≡ c → ⊥) → is_marked j d (marked on k c marks) ≡ is_marked j d marks
  marked-class j d h b n = marked-other j d (λ e. n (omega arith))

  pub marked-set : (j : ℕ) → (j ≡ k → ⊥) → is_marked j c (marked on k c marks) ≡ is_marked j c marks
  marked-set j n = marked-other j c (λ e. n (omega arith))

-- ---- the marks of a record

module _ (flags class : ℕ) (marks : List ℕ) where
  interface : Bool
  interface = eqb (flags / 2 % 2) 1

  final : Bool
  final = eqb (flags / 4) 1

  -- recorded; and declared; and interface or not; and final or not
  one : List ℕ
  one = marked true 0 class marks

  two : List ℕ
  two = marked true 1 class one

  three : List ℕ
  three = marked interface 2 class two

  four : List ℕ
  four = marked final 3 class three

  -- what holds of the marks, declared or not
  marks-go : (P : List ℕ → Type 0) → P four → P one → P (record_marks flags class marks)
  unfolding record_marks interface final one two three four
  marks-go P f o = go (eqb (flags % 2) 1)
    where
      go : (t : Bool) → P (cond t four one)
      go true = f
      go false = o

  length-three : length three ≡ length marks
  unfolding one two three
  length-three = length-marked interface 2 class two ∙ length-marked true 1 class one ∙ length-marked true 0 class marks

  pub marks-length : length (record_marks flags class marks) ≡ length marks
  unfolding one four
  marks-length = marks-go (λ (m : List ℕ). length m ≡ length marks) (length-marked final 3 class three ∙ length-three) (length-marked true 0 class marks)

  -- A RECORD TELLS NOTHING OF ANOTHER CLASS
  pub others-stay : (k d : ℕ) → class < 1024 → d < 1024 → (d ≡ class → ⊥) → is_marked k d (record_marks flags class marks) ≡ is_marked k d marks
  unfolding one two three four
  others-stay k d h b n =
      marks-go (λ (m : List ℕ). is_marked k d m ≡ is_marked k d marks)
      (marked-class final 3 class three k d h b n ∙ marked-class interface 2 class two k d h b n ∙ marked-class true 1 class one k d h b n ∙ marked-class true 0 class marks k d h b n)
      (marked-class true 0 class marks k d h b n)

  -- A RECORD THAT IS NOT DECLARED LEAVES ALL FACTS
  pub undeclared-keeps : (flags % 2 ≡ 1 → ⊥) → (k d : ℕ) → 1 ≤ k → class < 1024 → is_marked k d (record_marks flags class marks) ≡ is_marked k d marks
  unfolding record_marks
  undeclared-keeps n k d l h = rw (ne_eqb (flags % 2) 1 n) (marked-other true 0 class marks k d (λ e. omega arith))

  module _ (h : class < 1024) (w : length marks ≡ marks_room) where
    -- A CLASS WITH A RECORD IS RECORDED
    pub recorded-now : is_marked 0 class (record_marks flags class marks) ≡ true
    unfolding one two three four
    recorded-now =
        let same = marked-same true 0 class marks (omega arith) in
        marks-go (λ (m : List ℕ). is_marked 0 class m ≡ true)
        (marked-set final 3 class three 0 (λ e. omega arith) ∙ marked-set interface 2 class two 0 (λ e. omega arith) ∙ marked-set true 1 class one 0 (λ e. omega arith) ∙ same)
        same

    -- A DECLARED RECORD GIVES THE FACTS, whatever they were
    pub declared-gives : flags % 2 ≡ 1
        → (is_marked 1 class (record_marks flags class marks) ≡ true)
        × (is_marked 2 class (record_marks flags class marks) ≡ eqb (flags / 2 % 2) 1)
        × (is_marked 3 class (record_marks flags class marks) ≡ eqb (flags / 4) 1)
    unfolding record_marks interface final one two three four
    declared-gives e =
        let a = length-marked true 0 class marks in
        let b = length-marked true 1 class one in
        let c = length-three in
        rw (eq-eqb (flags % 2) 1 e) (
          marked-set final 3 class three 1 (λ e. omega arith) ∙ marked-set interface 2 class two 1 (λ e. omega arith) ∙ marked-same true 1 class one (omega arith),
          marked-set final 3 class three 2 (λ e. omega arith) ∙ marked-same interface 2 class two (omega arith),
          marked-same final 3 class three (omega arith),
        )
