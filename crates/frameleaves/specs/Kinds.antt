-- WHAT THE FRAME OF EACH KIND OF ROW LEAVES IS WHAT THE DEFINITION SAYS: one law a kind, from a state that lines lead to.
use Rattle.std.proofs.Math.Path.{◌≡◌, refl, sym, ap, subst}
use Rattle.std.proofs.Common.{◌∙◌, eqb-true}
use Rattle.std.specs.Prelude.{Bool, ◌&&◌, ℕ, ◌+◌, ◌-◌, ◌*◌, ◌^◌, ◌<◌, leb, ltb, take}
use Rattle.std.proofs.Math.Bool.{true, false, cond}
use mathlib.Core.List.{List, [], ◌∷◌, ◌++◌}
use Rattle.std.proofs.Math.Dec.{eqb}
use Rattle.std.proofs.Math.ListN.{length}
use Rattle.std.proofs.lemmas.List.{length-map}
use Rattle.std.proofs.lemmas.Bool.{eqb-false}
use Rattle.ty.specs.Words.{legal_word, type_of}
use Rattle.keys.specs.Rank.{key}
use Rattle.sorted.specs.Sorted.{put}
use Rattle.rows.specs.Rows.{filled}
use Rattle.solving.specs.Solving.{Problem}
use Rattle.solving.specs.TableKeys.{bound_of}
use Rattle.solving.specs.LinkKeys.{pair_of}
use Rattle.problems.specs.Problems.{ProblemRow, variable, bounded, flow, upper_flow, reading, writing, problem_row, Placed}
use Rattle.problems.proofs.Stored.{keys-back}
use Rattle.problems.specs.Kept.{problem_of}
use Rattle.problemrows.specs.ProblemRows.{Ran, variable_refusal, variable_row, entry_row, pair_row, bound_row}
use Rattle.problemrows.specs.Kept.{placed, flow-kept, upper-kept, read-kept, write-kept, variable-kept, bound-kept}
use Rattle.frames.specs.Frames as frames
use Rattle.frames.specs.Frames.{Store, shown, Stepped, row, message_refusal, stepped, accepted, with_message, rank_of}
use Rattle.framestate.specs.declared.Numbers.{Numbers}
use Rattle.framestate.specs.declared.Framed.{Framed}
use Rattle.framestate.specs.declared.Said.TheVariants.{Accepted, Refused}
use Rattle.framestate.specs.FrameState.{Slices, store_of, Ready, numbers_of, Shows, said_of, answers_after, Leaves, message_step, variable_numbers, bound_numbers, flow_numbers, upper_numbers, read_numbers, write_numbers, framed, taken}
use Rattle.rowframes.specs.RowFrames.{RowFrames}
use Rattle.frameleaves.specs.Own.{front-again, many, own-last, own-pairs, own-variables, own-bounds, own-flows, own-uppers, own-reads, own-writes, own-stack, many-last, many-variables, many-bounds, many-flows, many-uppers, many-reads, many-writes, own-shows}

-- ---- a refused row leaves its entries

pub pair-stays : (n room a b : ℕ) (l : List ℕ) → ((pair_row n room a b l).refusal ≡ 0 → ⊥) → (pair_row n room a b l).entries ≡ l
unfolding pair_row entry_row
pair-stays n room a b l h = go (ltb a n && ltb b n) (ltb room (length (put (a * 512 + b) l))) h
  where
    R : Bool → Bool → Ran
    R x y = cond x (cond y (record { refusal = 8; entries = l }) (record { refusal = 0; entries = put (a * 512 + b) l })) (record { refusal = 6; entries = l })

    go : (x y : Bool) → ((R x y).refusal ≡ 0 → ⊥) → (R x y).entries ≡ l
    go true true k = refl
    go true false k = absurd (k refl)
    go false y k = refl

pub bound-stays : (names n c k w : ℕ) (l : List ℕ) → ((bound_row names n c k w l).refusal ≡ 0 → ⊥) → (bound_row names n c k w l).entries ≡ l
unfolding bound_row entry_row
bound-stays names n c k w l h = go (ltb c n && leb k 4) (legal_word names w) (ltb 4096 (length (put (key c k (type_of w)) l))) h
  where
    R : Bool → Bool → Bool → Ran
    R x y z = cond x (cond y (cond z (record { refusal = 8; entries = l }) (record { refusal = 0; entries = put (key c k (type_of w)) l })) (record { refusal = 7; entries = l })) (record { refusal = 6; entries = l })

    go : (x y z : Bool) → ((R x y z).refusal ≡ 0 → ⊥) → (R x y z).entries ≡ l
    go true true true m = refl
    go true true false m = absurd (m refl)
    go true false z m = refl
    go false y z m = refl

pub variable-stays : (n c : ℕ) (l : List ℕ) → ((variable_row n c l).refusal ≡ 0 → ⊥) → (variable_row n c l).entries ≡ l
unfolding variable_row
variable-stays n c l h = go (eqb (variable_refusal n (length l) c) 0) refl h
  where
    k : ℕ
    k = variable_refusal n (length l) c

    go : (x : Bool) → eqb k 0 ≡ x → ((cond {A = Ran} x (record { refusal = 0; entries = l ++ (c ∷ []) }) (record { refusal = k; entries = l })).refusal ≡ 0 → ⊥) → (cond {A = Ran} x (record { refusal = 0; entries = l ++ (c ∷ []) }) (record { refusal = k; entries = l })).entries ≡ l
    go true e m = absurd (m refl)
    go false e m = refl

-- ---- the step of a row, by what the problem's row comes to

module _ (s : Store) (kind : ℕ) (r : ProblemRow) (k : ℕ) (q : Problem) where
  with-row : Store
  with-row = record { last = s.last; classes = s.classes; problem = q; rank = rank_of kind }

  row-step : problem_row (shown s).tables.names r s.problem ≡ placed k q
      → message_step kind (row r) s ≡ cond (eqb k 0) (stepped frames.Accepted with-row) (stepped (frames.Refused k) s)
  unfolding message_step message_refusal accepted with_message problem_row with-row
  row-step e = ap (λ (z : Placed). cond (eqb z.refusal 0) (stepped frames.Accepted (record { last = s.last; classes = s.classes; problem = z.problem; rank = rank_of kind })) (stepped (frames.Refused z.refusal) s)) e

  -- accepted as the row says, or refused as it came
  pub row-leaves : (before after : Slices) (n m : Numbers) (answers : List ℕ) (f : Framed)
      → problem_row (shown s).tables.names r s.problem ≡ placed k q → f ≡ taken k n m
      → (k ≡ 0 → Shows (record { last = s.last; classes = s.classes; problem = q; rank = rank_of kind }) before after m)
      → ((k ≡ 0 → ⊥) → Shows s before after n)
      → Leaves (message_step kind (row r) s) before after answers answers f
  unfolding said_of answers_after with-row
  row-leaves before after n m answers f e t hit miss =
      subst (λ (u : Stepped). Leaves u before after answers answers f) (sym (row-step e))
      (subst (Leaves (cond (eqb k 0) (stepped frames.Accepted with-row) (stepped (frames.Refused k) s)) before after answers answers) (sym t) (go (eqb k 0) refl))
    where
      go : (b : Bool) → eqb k 0 ≡ b → Leaves (cond b (stepped frames.Accepted with-row) (stepped (frames.Refused k) s)) before after answers answers (cond b (framed Accepted m) (framed (Refused k) n))
      go true x = record { said-is = refl; shows = hit (eqb-true k 0 x); answers-are = refl }
      go false x = record { said-is = refl; shows = miss (eqb-false k 0 x); answers-are = refl }

-- ---- kind by kind

module _ (l : Slices) (n : Numbers) (h : Ready l n) (answers : List ℕ) (r : Framed) where
  abbrev with_variables : List ℕ → Slices
  with_variables x = record { last = l.last; pairs = l.pairs; marks = l.marks; variables = x; bounds = l.bounds; flows = l.flows; uppers = l.uppers; reads = l.reads; writes = l.writes }

  abbrev with_bounds : List ℕ → Slices
  with_bounds x = record { last = l.last; pairs = l.pairs; marks = l.marks; variables = l.variables; bounds = x; flows = l.flows; uppers = l.uppers; reads = l.reads; writes = l.writes }

  abbrev with_flows : List ℕ → Slices
  with_flows x = record { last = l.last; pairs = l.pairs; marks = l.marks; variables = l.variables; bounds = l.bounds; flows = x; uppers = l.uppers; reads = l.reads; writes = l.writes }

  abbrev with_uppers : List ℕ → Slices
  with_uppers x = record { last = l.last; pairs = l.pairs; marks = l.marks; variables = l.variables; bounds = l.bounds; flows = l.flows; uppers = x; reads = l.reads; writes = l.writes }

  abbrev with_reads : List ℕ → Slices
  with_reads x = record { last = l.last; pairs = l.pairs; marks = l.marks; variables = l.variables; bounds = l.bounds; flows = l.flows; uppers = l.uppers; reads = x; writes = l.writes }

  abbrev with_writes : List ℕ → Slices
  with_writes x = record { last = l.last; pairs = l.pairs; marks = l.marks; variables = l.variables; bounds = l.bounds; flows = l.flows; uppers = l.uppers; reads = l.reads; writes = x }

  -- 04
  pub variable-leaves : (c : ℕ) (slice : List ℕ) → RowFrames (variable_row n.components c (take n.variables l.variables)) l.variables slice n (variable_numbers n) r
      → Leaves (message_step 4 (row (variable c)) (store_of l n)) l (with_variables slice) answers answers r
  unfolding numbers_of
  variable-leaves c slice f =
      let cm = variable-kept n.stack.tables.names n.components (take n.variables l.variables) (take n.bounds l.bounds) (take n.flows l.flows) (take n.uppers l.uppers) (take n.reads l.reads) (take n.writes l.writes) h.keeps c in
      row-leaves (store_of l n) 4 (variable c) (variable_row n.components c (take n.variables l.variables)).refusal (problem_of n.components (variable_row n.components c (take n.variables l.variables)).entries (take n.bounds l.bounds) (take n.flows l.flows) (take n.uppers l.uppers) (take n.reads l.reads) (take n.writes l.writes)) l (with_variables slice) n (variable_numbers n (length (variable_row n.components c (take n.variables l.variables)).entries)) answers r cm.same f.result
      (λ z. (
      let st = own-stack l n h in let la = many-last l n h in let v1 = many-bounds l n h in let v2 = many-flows l n h in let v3 = many-uppers l n h in let v4 = many-reads l n h in let v5 = many-writes l n h in
      let cn : length (variable_row n.components c (take n.variables l.variables)).entries ≡ length (problem_of n.components (variable_row n.components c (take n.variables l.variables)).entries (take n.bounds l.bounds) (take n.flows l.flows) (take n.uppers l.uppers) (take n.reads l.reads) (take n.writes l.writes)).variables = let z : ◌≡◌ {A = ℕ} (length (variable_row n.components c (take n.variables l.variables)).entries) (length (variable_row n.components c (take n.variables l.variables)).entries) = refl in z in
      record {
        numbers-are = λ i. record { stack = st i; last = la i; components = n.components; variables = cn i; bounds = v1 i; flows = v2 i; uppers = v3 i; reads = v4 i; writes = v5 i; rank = 4 };
        last-is = own-last l n h;
        pairs-are = own-pairs l n h;
        marks-are = refl;
        variables-are = f.entries-are;
        bounds-are = own-bounds l n h;
        flows-are = own-flows l n h;
        uppers-are = own-uppers l n h;
        reads-are = own-reads l n h;
        writes-are = own-writes l n h;
      }))
      (λ z. subst (λ (x : List ℕ). Shows (store_of l n) l (with_variables x) n) (sym (f.entries-are ∙ ap (λ (x : List ℕ). filled x l.variables) (variable-stays n.components c (take n.variables l.variables) z) ∙ sym (front-again n.variables l.variables _ h.sized.variables h.within.variables))) (own-shows l n h))

  -- 05
  pub bound-leaves : (c k w : ℕ) (fits : w < 2 ^ 64) (slice : List ℕ) → RowFrames (bound_row n.stack.tables.names n.components c k w (take n.bounds l.bounds)) l.bounds slice n (bound_numbers n) r
      → Leaves (message_step 5 (row (bounded c k w)) (store_of l n)) l (with_bounds slice) answers answers r
  unfolding numbers_of
  bound-leaves c k w fits slice f =
      let cm = bound-kept n.stack.tables.names n.components (take n.variables l.variables) (take n.bounds l.bounds) (take n.flows l.flows) (take n.uppers l.uppers) (take n.reads l.reads) (take n.writes l.writes) h.keeps h.sound.good.few c k w fits in
      row-leaves (store_of l n) 5 (bounded c k w) (bound_row n.stack.tables.names n.components c k w (take n.bounds l.bounds)).refusal (problem_of n.components (take n.variables l.variables) (bound_row n.stack.tables.names n.components c k w (take n.bounds l.bounds)).entries (take n.flows l.flows) (take n.uppers l.uppers) (take n.reads l.reads) (take n.writes l.writes)) l (with_bounds slice) n (bound_numbers n (length (bound_row n.stack.tables.names n.components c k w (take n.bounds l.bounds)).entries)) answers r cm.same f.result
      (λ z. (
      let st = own-stack l n h in let la = many-last l n h in let v0 = many-variables l n h in let v2 = many-flows l n h in let v3 = many-uppers l n h in let v4 = many-reads l n h in let v5 = many-writes l n h in
      let cn : length (bound_row n.stack.tables.names n.components c k w (take n.bounds l.bounds)).entries ≡ length (problem_of n.components (take n.variables l.variables) (bound_row n.stack.tables.names n.components c k w (take n.bounds l.bounds)).entries (take n.flows l.flows) (take n.uppers l.uppers) (take n.reads l.reads) (take n.writes l.writes)).bounds = sym (length-map (bound_row n.stack.tables.names n.components c k w (take n.bounds l.bounds)).entries bound_of) in
      record {
        numbers-are = λ i. record { stack = st i; last = la i; components = n.components; variables = v0 i; bounds = cn i; flows = v2 i; uppers = v3 i; reads = v4 i; writes = v5 i; rank = 5 };
        last-is = own-last l n h;
        pairs-are = own-pairs l n h;
        marks-are = refl;
        variables-are = own-variables l n h;
        bounds-are = f.entries-are ∙ ap (λ (x : List ℕ). filled x l.bounds) (sym cm.keeps.keyed);
        flows-are = own-flows l n h;
        uppers-are = own-uppers l n h;
        reads-are = own-reads l n h;
        writes-are = own-writes l n h;
      }))
      (λ z. subst (λ (x : List ℕ). Shows (store_of l n) l (with_bounds x) n) (sym (f.entries-are ∙ ap (λ (x : List ℕ). filled x l.bounds) (bound-stays n.stack.tables.names n.components c k w (take n.bounds l.bounds) z) ∙ sym (front-again n.bounds l.bounds _ h.sized.bounds h.within.bounds))) (own-shows l n h))

  -- 06
  pub flow-leaves : (a b : ℕ) (slice : List ℕ) → RowFrames (pair_row n.components 2048 a b (take n.flows l.flows)) l.flows slice n (flow_numbers n) r
      → Leaves (message_step 6 (row (flow a b)) (store_of l n)) l (with_flows slice) answers answers r
  unfolding numbers_of
  flow-leaves a b slice f =
      let cm = flow-kept n.stack.tables.names n.components (take n.variables l.variables) (take n.bounds l.bounds) (take n.flows l.flows) (take n.uppers l.uppers) (take n.reads l.reads) (take n.writes l.writes) h.keeps a b in
      row-leaves (store_of l n) 6 (flow a b) (pair_row n.components 2048 a b (take n.flows l.flows)).refusal (problem_of n.components (take n.variables l.variables) (take n.bounds l.bounds) (pair_row n.components 2048 a b (take n.flows l.flows)).entries (take n.uppers l.uppers) (take n.reads l.reads) (take n.writes l.writes)) l (with_flows slice) n (flow_numbers n (length (pair_row n.components 2048 a b (take n.flows l.flows)).entries)) answers r cm.same f.result
      (λ z. (
      let st = own-stack l n h in let la = many-last l n h in let v0 = many-variables l n h in let v1 = many-bounds l n h in let v3 = many-uppers l n h in let v4 = many-reads l n h in let v5 = many-writes l n h in
      let cn : length (pair_row n.components 2048 a b (take n.flows l.flows)).entries ≡ length (problem_of n.components (take n.variables l.variables) (take n.bounds l.bounds) (pair_row n.components 2048 a b (take n.flows l.flows)).entries (take n.uppers l.uppers) (take n.reads l.reads) (take n.writes l.writes)).flows = sym (length-map (pair_row n.components 2048 a b (take n.flows l.flows)).entries pair_of) in
      record {
        numbers-are = λ i. record { stack = st i; last = la i; components = n.components; variables = v0 i; bounds = v1 i; flows = cn i; uppers = v3 i; reads = v4 i; writes = v5 i; rank = 6 };
        last-is = own-last l n h;
        pairs-are = own-pairs l n h;
        marks-are = refl;
        variables-are = own-variables l n h;
        bounds-are = own-bounds l n h;
        flows-are = f.entries-are ∙ ap (λ (x : List ℕ). filled x l.flows) (sym (keys-back (pair_row n.components 2048 a b (take n.flows l.flows)).entries));
        uppers-are = own-uppers l n h;
        reads-are = own-reads l n h;
        writes-are = own-writes l n h;
      }))
      (λ z. subst (λ (x : List ℕ). Shows (store_of l n) l (with_flows x) n) (sym (f.entries-are ∙ ap (λ (x : List ℕ). filled x l.flows) (pair-stays n.components 2048 a b (take n.flows l.flows) z) ∙ sym (front-again n.flows l.flows _ h.sized.flows h.within.flows))) (own-shows l n h))

  -- 07
  pub upper-leaves : (a b : ℕ) (slice : List ℕ) → RowFrames (pair_row n.components 1024 a b (take n.uppers l.uppers)) l.uppers slice n (upper_numbers n) r
      → Leaves (message_step 7 (row (upper_flow a b)) (store_of l n)) l (with_uppers slice) answers answers r
  unfolding numbers_of
  upper-leaves a b slice f =
      let cm = upper-kept n.stack.tables.names n.components (take n.variables l.variables) (take n.bounds l.bounds) (take n.flows l.flows) (take n.uppers l.uppers) (take n.reads l.reads) (take n.writes l.writes) h.keeps a b in
      row-leaves (store_of l n) 7 (upper_flow a b) (pair_row n.components 1024 a b (take n.uppers l.uppers)).refusal (problem_of n.components (take n.variables l.variables) (take n.bounds l.bounds) (take n.flows l.flows) (pair_row n.components 1024 a b (take n.uppers l.uppers)).entries (take n.reads l.reads) (take n.writes l.writes)) l (with_uppers slice) n (upper_numbers n (length (pair_row n.components 1024 a b (take n.uppers l.uppers)).entries)) answers r cm.same f.result
      (λ z. (
      let st = own-stack l n h in let la = many-last l n h in let v0 = many-variables l n h in let v1 = many-bounds l n h in let v2 = many-flows l n h in let v4 = many-reads l n h in let v5 = many-writes l n h in
      let cn : length (pair_row n.components 1024 a b (take n.uppers l.uppers)).entries ≡ length (problem_of n.components (take n.variables l.variables) (take n.bounds l.bounds) (take n.flows l.flows) (pair_row n.components 1024 a b (take n.uppers l.uppers)).entries (take n.reads l.reads) (take n.writes l.writes)).upper_flows = sym (length-map (pair_row n.components 1024 a b (take n.uppers l.uppers)).entries pair_of) in
      record {
        numbers-are = λ i. record { stack = st i; last = la i; components = n.components; variables = v0 i; bounds = v1 i; flows = v2 i; uppers = cn i; reads = v4 i; writes = v5 i; rank = 7 };
        last-is = own-last l n h;
        pairs-are = own-pairs l n h;
        marks-are = refl;
        variables-are = own-variables l n h;
        bounds-are = own-bounds l n h;
        flows-are = own-flows l n h;
        uppers-are = f.entries-are ∙ ap (λ (x : List ℕ). filled x l.uppers) (sym (keys-back (pair_row n.components 1024 a b (take n.uppers l.uppers)).entries));
        reads-are = own-reads l n h;
        writes-are = own-writes l n h;
      }))
      (λ z. subst (λ (x : List ℕ). Shows (store_of l n) l (with_uppers x) n) (sym (f.entries-are ∙ ap (λ (x : List ℕ). filled x l.uppers) (pair-stays n.components 1024 a b (take n.uppers l.uppers) z) ∙ sym (front-again n.uppers l.uppers _ h.sized.uppers h.within.uppers))) (own-shows l n h))

  -- 08
  pub read-leaves : (a b : ℕ) (slice : List ℕ) → RowFrames (pair_row n.components (1024 - n.writes) a b (take n.reads l.reads)) l.reads slice n (read_numbers n) r
      → Leaves (message_step 8 (row (reading a b)) (store_of l n)) l (with_reads slice) answers answers r
  unfolding numbers_of
  read-leaves a b slice given =
      let f = subst (λ (x : ℕ). RowFrames (pair_row n.components (1024 - x) a b (take n.reads l.reads)) l.reads slice n (read_numbers n) r) (many n.writes l.writes 1024 h.sized.writes h.within.writes) given in
      let cm = read-kept n.stack.tables.names n.components (take n.variables l.variables) (take n.bounds l.bounds) (take n.flows l.flows) (take n.uppers l.uppers) (take n.reads l.reads) (take n.writes l.writes) h.keeps a b in
      row-leaves (store_of l n) 8 (reading a b) (pair_row n.components (1024 - length (take n.writes l.writes)) a b (take n.reads l.reads)).refusal (problem_of n.components (take n.variables l.variables) (take n.bounds l.bounds) (take n.flows l.flows) (take n.uppers l.uppers) (pair_row n.components (1024 - length (take n.writes l.writes)) a b (take n.reads l.reads)).entries (take n.writes l.writes)) l (with_reads slice) n (read_numbers n (length (pair_row n.components (1024 - length (take n.writes l.writes)) a b (take n.reads l.reads)).entries)) answers r cm.same f.result
      (λ z. (
      let st = own-stack l n h in let la = many-last l n h in let v0 = many-variables l n h in let v1 = many-bounds l n h in let v2 = many-flows l n h in let v3 = many-uppers l n h in let v5 = many-writes l n h in
      let cn : length (pair_row n.components (1024 - length (take n.writes l.writes)) a b (take n.reads l.reads)).entries ≡ length (problem_of n.components (take n.variables l.variables) (take n.bounds l.bounds) (take n.flows l.flows) (take n.uppers l.uppers) (pair_row n.components (1024 - length (take n.writes l.writes)) a b (take n.reads l.reads)).entries (take n.writes l.writes)).reads = sym (length-map (pair_row n.components (1024 - length (take n.writes l.writes)) a b (take n.reads l.reads)).entries pair_of) in
      record {
        numbers-are = λ i. record { stack = st i; last = la i; components = n.components; variables = v0 i; bounds = v1 i; flows = v2 i; uppers = v3 i; reads = cn i; writes = v5 i; rank = 8 };
        last-is = own-last l n h;
        pairs-are = own-pairs l n h;
        marks-are = refl;
        variables-are = own-variables l n h;
        bounds-are = own-bounds l n h;
        flows-are = own-flows l n h;
        uppers-are = own-uppers l n h;
        reads-are = f.entries-are ∙ ap (λ (x : List ℕ). filled x l.reads) (sym (keys-back (pair_row n.components (1024 - length (take n.writes l.writes)) a b (take n.reads l.reads)).entries));
        writes-are = own-writes l n h;
      }))
      (λ z. subst (λ (x : List ℕ). Shows (store_of l n) l (with_reads x) n) (sym (f.entries-are ∙ ap (λ (x : List ℕ). filled x l.reads) (pair-stays n.components (1024 - length (take n.writes l.writes)) a b (take n.reads l.reads) z) ∙ sym (front-again n.reads l.reads _ h.sized.reads h.within.reads))) (own-shows l n h))

  -- 09
  pub write-leaves : (a b : ℕ) (slice : List ℕ) → RowFrames (pair_row n.components (1024 - n.reads) a b (take n.writes l.writes)) l.writes slice n (write_numbers n) r
      → Leaves (message_step 9 (row (writing a b)) (store_of l n)) l (with_writes slice) answers answers r
  unfolding numbers_of
  write-leaves a b slice given =
      let f = subst (λ (x : ℕ). RowFrames (pair_row n.components (1024 - x) a b (take n.writes l.writes)) l.writes slice n (write_numbers n) r) (many n.reads l.reads 1024 h.sized.reads h.within.reads) given in
      let cm = write-kept n.stack.tables.names n.components (take n.variables l.variables) (take n.bounds l.bounds) (take n.flows l.flows) (take n.uppers l.uppers) (take n.reads l.reads) (take n.writes l.writes) h.keeps a b in
      row-leaves (store_of l n) 9 (writing a b) (pair_row n.components (1024 - length (take n.reads l.reads)) a b (take n.writes l.writes)).refusal (problem_of n.components (take n.variables l.variables) (take n.bounds l.bounds) (take n.flows l.flows) (take n.uppers l.uppers) (take n.reads l.reads) (pair_row n.components (1024 - length (take n.reads l.reads)) a b (take n.writes l.writes)).entries) l (with_writes slice) n (write_numbers n (length (pair_row n.components (1024 - length (take n.reads l.reads)) a b (take n.writes l.writes)).entries)) answers r cm.same f.result
      (λ z. (
      let st = own-stack l n h in let la = many-last l n h in let v0 = many-variables l n h in let v1 = many-bounds l n h in let v2 = many-flows l n h in let v3 = many-uppers l n h in let v4 = many-reads l n h in
      let cn : length (pair_row n.components (1024 - length (take n.reads l.reads)) a b (take n.writes l.writes)).entries ≡ length (problem_of n.components (take n.variables l.variables) (take n.bounds l.bounds) (take n.flows l.flows) (take n.uppers l.uppers) (take n.reads l.reads) (pair_row n.components (1024 - length (take n.reads l.reads)) a b (take n.writes l.writes)).entries).writes = sym (length-map (pair_row n.components (1024 - length (take n.reads l.reads)) a b (take n.writes l.writes)).entries pair_of) in
      record {
        numbers-are = λ i. record { stack = st i; last = la i; components = n.components; variables = v0 i; bounds = v1 i; flows = v2 i; uppers = v3 i; reads = v4 i; writes = cn i; rank = 9 };
        last-is = own-last l n h;
        pairs-are = own-pairs l n h;
        marks-are = refl;
        variables-are = own-variables l n h;
        bounds-are = own-bounds l n h;
        flows-are = own-flows l n h;
        uppers-are = own-uppers l n h;
        reads-are = own-reads l n h;
        writes-are = f.entries-are ∙ ap (λ (x : List ℕ). filled x l.writes) (sym (keys-back (pair_row n.components (1024 - length (take n.reads l.reads)) a b (take n.writes l.writes)).entries));
      }))
      (λ z. subst (λ (x : List ℕ). Shows (store_of l n) l (with_writes x) n) (sym (f.entries-are ∙ ap (λ (x : List ℕ). filled x l.writes) (pair-stays n.components (1024 - length (take n.reads l.reads)) a b (take n.writes l.writes) z) ∙ sym (front-again n.writes l.writes _ h.sized.writes h.within.writes))) (own-shows l n h))
