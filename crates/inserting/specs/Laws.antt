-- WHAT THE SLICES SHOW AFTER AN INSERTION IS WHAT insert_bound MAKES OF IT, and so with insertions in a row: a refusal, or the table and the
-- queue with it.
use Rattle.std.specs.Prelude.{◌≡◌, Bool, cond, ℕ, ◌+◌, ◌*◌, ◌^◌, ◌≤◌, ◌<◌, eqb, leb, length, take, drop}
use Rattle.std.proofs.Math.Path.{refl, ap}
use Rattle.std.proofs.Common.{sym, ◌∙◌, subst, ⊎_elim, arith, eq-eqb, ne_eqb, ltb-false, leb-false, lt-ltb, le-ltb}
use Rattle.std.proofs.Math.Bool.{true, false}
use mathlib.Core.List.Memᴰ
use mathlib.Core.List.{List, [], ◌∷◌, ◌++◌, Memᴰ}
use Rattle.std.proofs.Math.Dec.{ltb}
use Rattle.std.proofs.lemmas.Bool.{eqb-false}
use Rattle.sorted.specs.declared.Put.{Put}
use Rattle.sorted.specs.declared.Put.TheVariants.{Old, New as Added, Full}
use Rattle.sorted.specs.Sorted.{has, put_answer, put_list, insert_in, grown}
use Rattle.order.specs.Lists.{elem}
use Rattle.ty.specs.Types.{ArgType, depth, arrays}
use Rattle.ty.specs.Words.{legal_at_base}
use Rattle.keys.specs.Rank.{rank, unrank, key}
use Rattle.keys.specs.Laws.{LegalType, rank-lt, unrank-rank, legal-unrank}
use Rattle.lattice.specs.Legality.{legal-base, legal-depth, legal-both}
use Rattle.queue.specs.Laws.{offer-shows, room-for}
use Rattle.solving.specs.Ordered.{present, insert}
use Rattle.solving.specs.Inserts.{New}
use Rattle.solving.proofs.Inserts.{all-refused}
use Rattle.solving.specs.Tidy.{Given}
use Rattle.solving.proofs.Tidy.{insert-tidy}
use Rattle.solving.specs.TableKeys.{key_of, Keyed, table_by, Holds}
use Rattle.solving.proofs.TableKeys.{tidy-keyed, held-answer, put-holds}
use Rattle.solving.specs.Solving.{Bound, bound, Table, compare_bounds, Addition, to_one, Outcome, Refused, Going, room, enqueue, insert_bound, insert_all}
use Rattle.inserting.specs.Store.{Store, refuse, grow, by_answer, put_bound, put_all, deepest, sent_types, sent_of, Ranked, Sendable, Good, Ready, Shown}
use Rattle.inserting.specs.declared.Sent.{Sent}
use Rattle.inserting.specs.declared.Sent.TheVariants.{Nothing, Rank, Deep}

-- ---- one insertion, by cases

module _ (b : Bound) (s : Store) where
  pub put-deep : 255 < depth b.type → put_bound b s ≡ refuse 20 s
  unfolding put_bound
  put-deep h = rw (lt-ltb 255 (depth b.type) h)

  pub put-flat : depth b.type ≤ 255 → put_bound b s ≡ by_answer (put_answer s.cells s.state.count (key_of b)) b s
  unfolding put_bound
  put-flat h = rw (le-ltb 255 (depth b.type) h)

-- only the answer New changes the cells
pub put-kept : (a : List ℕ) (n x : ℕ) → (put_answer a n x ≡ Added → ⊥) → put_list a n x ≡ a
unfolding put_answer put_list
put-kept a n x h = go (has x (take n a)) (leb (length a) n) h
  where
    go : (u v : Bool) → (cond u Old (cond v Full Added) ≡ Added → ⊥) → cond u a (cond v a (insert_in x (take n a) ++ drop (n + 1) a)) ≡ a
    go true v k = refl
    go false true k = refl
    go false false k = absurd (k refl)

pub old-new : Old ≡ Added → ⊥
old-new e = let z : ◌≡◌ {A = ℕ} 0 1 = cc in omega arith

pub full-new : Full ≡ Added → ⊥
full-new e = let z : ◌≡◌ {A = ℕ} 0 1 = cc in omega arith

-- ---- what one insertion shows

module _ (s : Store) (t : Table) (q : List ℕ) (y : Good s t q) (b : Bound) (g : Given 1024 512 b) where
  -- there is room in the ring for a component that is not queued
  pub queue-fits : elem b.component q ≡ false → length q < 512
  queue-fits = room-for q b.component g.component y.tidy.distinct y.tidy.below

  module _ (flat : depth b.type ≤ 255) where
    keyed : Keyed b
    keyed = let k = g.kind in record { kind = omega arith; type = legal-both 1024 b.type flat g.base }

    answer : put_answer s.cells s.state.count (key_of b) ≡ cond (present compare_bounds b t) Old (cond (leb room (length t)) Full Added)
    answer = held-answer s.cells s.state.count b t y.holds keyed (tidy-keyed 1024 512 t q (omega arith) y.tidy) y.tidy.ascends

    held : Holds (put_list s.cells s.state.count (key_of b)) (grown (put_answer s.cells s.state.count (key_of b)) s.state.count)
        (table_by (put_answer s.cells s.state.count (key_of b)) b t)
    held = put-holds s.cells s.state.count b t y.holds keyed (tidy-keyed 1024 512 t q (omega arith) y.tidy) y.tidy.ascends

    grown-good : New b t → put_answer s.cells s.state.count (key_of b) ≡ Added → Good (grow b s) (insert compare_bounds b t) (enqueue b.component q)
    grown-good new e = record {
      going = y.going;
      holds = subst (λ (p : Put). Holds (put_list s.cells s.state.count (key_of b)) (grown p s.state.count) (table_by p b t)) e held;
      shows = offer-shows s.ring s.state.queue q b.component g.component queue-fits y.shows;
      tidy = insert-tidy 1024 512 b t q g new y.tidy;
    }

    flat-shown : Shown (by_answer (put_answer s.cells s.state.count (key_of b)) b s)
        (cond (present compare_bounds b t) (Going t q) (cond (leb room (length t)) (Refused 21) (Going (insert compare_bounds b t) (enqueue b.component q))))
    flat-shown = go (present compare_bounds b t) refl (leb room (length t)) refl answer
      where
        go : (x : Bool) → present compare_bounds b t ≡ x → (z : Bool) → leb room (length t) ≡ z
            → put_answer s.cells s.state.count (key_of b) ≡ cond x Old (cond z Full Added)
            → Shown (by_answer (put_answer s.cells s.state.count (key_of b)) b s)
            (cond x (Going t q) (cond z (Refused 21) (Going (insert compare_bounds b t) (enqueue b.component q))))
        go true e z f k = subst (λ (p : Put). Good (by_answer p b s) t q) (sym k) y
        go false e true f k = (ap (λ (p : Put). (by_answer p b s).state.refusal) k, λ h. omega arith)
        go false e false f k =
            let l = leb-false room (length t) f in
            subst (λ (p : Put). Good (by_answer p b s) (insert compare_bounds b t) (enqueue b.component q)) (sym k)
            (grown-good (record { flat = flat; absent = e; fits = omega arith }) k)

  -- ONE INSERTION
  pub put-shown : Shown (put_bound b s) (insert_bound b t q)
  unfolding put_bound insert_bound
  put-shown = go (ltb 255 (depth b.type)) refl
    where
      go : (d : Bool) → ltb 255 (depth b.type) ≡ d
          → Shown (cond d (refuse 20 s) (by_answer (put_answer s.cells s.state.count (key_of b)) b s))
          (cond d (Refused 20)
          (cond (present compare_bounds b t) (Going t q) (cond (leb room (length t)) (Refused 21) (Going (insert compare_bounds b t) (enqueue b.component q)))))
      go true e = (refl, λ h. omega arith)
      go false e = flat-shown (ltb-false 255 (depth b.type) e)

-- ---- insertions in a row

pub all-stopped : (adds : List Addition) (s : Store) → (s.state.refusal ≡ 0 → ⊥) → put_all adds s ≡ s
unfolding put_all
all-stopped [] s h = refl
all-stopped (x ∷ xs) s h = rw (ne_eqb s.state.refusal 0 h)

pub all-put : (x : Addition) (xs : List Addition) (s : Store) → s.state.refusal ≡ 0 → put_all (x ∷ xs) s ≡ put_all xs (put_bound x.adds s)
unfolding put_all
all-put x xs s h = rw (eq-eqb s.state.refusal 0 h)

-- one after the other
pub put-append : (xs ys : List Addition) (s : Store) → put_all (xs ++ ys) s ≡ put_all ys (put_all xs s)
unfolding put_all
put-append [] ys s = refl
put-append (x ∷ xs) ys s = go (eqb s.state.refusal 0) refl (put-append xs ys (put_bound x.adds s))
  where
    go : (b : Bool) → eqb s.state.refusal 0 ≡ b → put_all (xs ++ ys) (put_bound x.adds s) ≡ put_all ys (put_all xs (put_bound x.adds s))
        → cond b (put_all (xs ++ ys) (put_bound x.adds s)) s ≡ put_all ys (cond b (put_all xs (put_bound x.adds s)) s)
    go true e ih = ih
    go false e ih = sym (all-stopped ys s (eqb-false s.state.refusal 0 e))

abbrev pub AllGiven : List Addition → Type 0
AllGiven adds = (x : Addition) → Memᴰ x adds → Given 1024 512 x.adds

-- INSERTIONS IN A ROW
pub all-shown : (adds : List Addition) (s : Store) (t : Table) (q : List ℕ) → AllGiven adds → Good s t q → Shown (put_all adds s) (insert_all adds (Going t q))
unfolding insert_all put_all
all-shown [] s t q g y = y
all-shown (x ∷ xs) s t q g y =
    subst (λ (z : Store). Shown z (insert_all xs (insert_bound x.adds t q))) (sym (all-put x xs s y.going))
    (go (insert_bound x.adds t q) (put-shown s t q y x.adds (g x (Memᴰ.head refl))) (all-shown xs (put_bound x.adds s)))
  where
    rest : AllGiven xs
    rest a m = g a (Memᴰ.tail m)

    go : (o : Outcome) → Shown (put_bound x.adds s) o
        → ((u : Table) (r : List ℕ) → AllGiven xs → Good (put_bound x.adds s) u r → Shown (put_all xs (put_bound x.adds s)) (insert_all xs (Going u r)))
        → Shown (put_all xs (put_bound x.adds s)) (insert_all xs o)
    go (Refused k) h ih =
        subst (Shown (put_all xs (put_bound x.adds s))) (sym (all-refused xs k))
        (ap (λ (z : Store). z.state.refusal) (all-stopped xs (put_bound x.adds s) (λ e. h.1 (sym h.0 ∙ e))) ∙ h.0, h.1)
    go (Going u r) h ih = ih u r rest h

-- while nothing is refused, the store stays ready
pub all-ready : (adds : List Addition) (s : Store) → AllGiven adds → Ready s → (put_all adds s).state.refusal ≡ 0 → Ready (put_all adds s)
all-ready adds s g y e = go (insert_all adds (Going y.table y.queue)) (all-shown adds s y.table y.queue g y.good)
  where
    go : (o : Outcome) → Shown (put_all adds s) o → Ready (put_all adds s)
    go (Refused k) h = absurd (h.1 (sym h.0 ∙ e))
    go (Going t q) h = record { table = t; queue = q; good = h }

-- ---- ranks, and what is sent

-- a legal type's rank
pub ranked : (t : ArgType) → LegalType t → Ranked (rank t)
ranked t h = record { legal = legal-unrank t h; back = ap rank (unrank-rank t h) }

module _ (r : ℕ) (k : Ranked r) where
  pub rank-small : r < 2 ^ 52
  rank-small = let l = rank-lt (unrank r) k.legal in let e = k.back in omega arith

  pub rank-flat : depth (unrank r) ≤ 255
  rank-flat = legal-depth 1024 (unrank r) k.legal

  module _ (c kind : ℕ) where
    -- the key as the code makes it
    pub key-made : c * 2 ^ 55 + (kind * 2 ^ 52 + r) ≡ key_of (bound c kind (unrank r))
    unfolding key
    key-made = ap (λ (x : ℕ). c * 2 ^ 55 + (kind * 2 ^ 52 + x)) (sym k.back)

    pub rank-given : c < 512 → kind < 5 → Given 1024 512 (bound c kind (unrank r))
    rank-given l m = record { component = l; kind = m; base = legal-base 1024 (unrank r) k.legal }

pub deepest-depth : 255 < depth deepest
unfolding deepest depth arrays
deepest-depth = omega arith

deepest-base : legal_at_base 1024 deepest ≡ true
unfolding deepest legal_at_base arrays
deepest-base = refl

-- a type that a rule may give can be sent
pub sent-sendable : (t : ArgType) → legal_at_base 1024 t ≡ true → Sendable (sent_of t)
unfolding sent_of
sent-sendable t h = go (ltb 255 (depth t)) refl
  where
    go : (b : Bool) → ltb 255 (depth t) ≡ b → Sendable (cond b Deep (Rank (rank t)))
    go true e = tt
    go false e = ranked t (legal-both 1024 t (ltb-false 255 (depth t) e) h)

-- each type that is sent may be given
pub sent-base : (t : Sent) → Sendable t → (u : ArgType) → Memᴰ u (sent_types t) → legal_at_base 1024 u ≡ true
sent-base Nothing k u m = absurd (Memᴰ.not-nil m)
sent-base (Rank r) k u m = ⊎_elim (λ e. ap (legal_at_base 1024) e ∙ legal-base 1024 (unrank r) k.legal) (λ n. absurd (Memᴰ.not-nil n)) (Memᴰ.cases_cons m)
sent-base Deep k u m = ⊎_elim (λ e. ap (legal_at_base 1024) e ∙ deepest-base) (λ n. absurd (Memᴰ.not-nil n)) (Memᴰ.cases_cons m)

-- ---- what is sent to one component, as the code has it

module _ (kind c : ℕ) (s : Store) where
  pub none-put : put_all (to_one 0 kind [] c) s ≡ s
  unfolding to_one put_all
  none-put = refl

  pub one-put : (u : ArgType) → s.state.refusal ≡ 0 → put_all (to_one 0 kind (u ∷ []) c) s ≡ put_bound (bound c kind u) s
  unfolding to_one put_all
  one-put u h = all-put (record { rule = 0; adds = bound c kind u }) [] s h

  pub deep-put : s.state.refusal ≡ 0 → put_all (to_one 0 kind (sent_types Deep) c) s ≡ refuse 20 s
  deep-put h = one-put deepest h ∙ put-deep (bound c kind deepest) s deepest-depth
