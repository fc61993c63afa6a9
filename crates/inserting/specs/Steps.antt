-- One insertion as the code meets it: by the answer of the put, with what the callees leave.
use Rattle.std.specs.Prelude.{◌≡◌, List, ℕ, ◌+◌, ◌*◌, ◌^◌, ◌<◌, false}
use Rattle.std.proofs.Common.{sym, ap, ap₂, ◌∙◌, subst, arith}
use Rattle.sets.specs.Sets.{member}
use Rattle.sorted.specs.declared.Put.{Put}
use Rattle.sorted.specs.declared.Put.TheVariants.{Old, New as Added, Full}
use Rattle.sorted.specs.Sorted.{put_answer, put_list}
use Rattle.keys.specs.Rank.{unrank}
use Rattle.queue.specs.declared.Queue.{Queue}
use Rattle.queue.specs.Ring.{offered, ring_offered}
use Rattle.queue.specs.Laws.{shown-length}
use Rattle.solving.specs.TableKeys.{key_of}
use Rattle.solving.specs.Solving.{Bound, bound, to_one}
use Rattle.inserting.specs.Store.{store, refused_by, by_answer, put_bound, put_all, sent_types, Ranked, Sendable, Ready}
use Rattle.inserting.specs.Laws.{put-flat, put-kept, old-new, full-new, rank-flat, key-made, rank-given, queue-fits, none-put, one-put, deep-put}
use Rattle.inserting.specs.declared.State.{State}
use Rattle.inserting.specs.declared.Sent.{Sent}
use Rattle.inserting.specs.declared.Sent.TheVariants.{Nothing, Rank, Deep}

-- the key of a bound, as the code makes it
abbrev pub made_key : ℕ → ℕ → ℕ → ℕ
made_key c kind r = c * 2 ^ 55 + (kind * 2 ^ 52 + r)

module _ (a ring : List ℕ) (s : State) (c kind r : ℕ) (k : Ranked r) where
  abbrev b : Bound
  b = bound c kind (unrank r)

  -- what the queue asks of an offer
  pub room-left : Ready (store a ring s) → c < 512 → kind < 5 → member s.queue.queued.words c ≡ false → s.queue.len < 512
  room-left y small l h =
      let g = y.good in
      let n = shown-length ring s.queue y.queue g.shows in
      omega (arith, queue-fits (store a ring s) y.table y.queue g b (rank-given r k c kind small l) (sym (g.shows.members c) ∙ h))

  module _ (p : Put) (a' : List ℕ) (e : p ≡ put_answer a s.count (made_key c kind r)) (f : a' ≡ put_list a s.count (made_key c kind r)) where
    answered : p ≡ put_answer a s.count (key_of b)
    answered = e ∙ ap (put_answer a s.count) (key-made r k c kind)

    placed : a' ≡ put_list a s.count (key_of b)
    placed = f ∙ ap (put_list a s.count) (key-made r k c kind)

    outcome : (o : Put) → p ≡ o → by_answer o b (store a ring s) ≡ put_bound b (store a ring s)
    outcome o h = sym (put-flat b (store a ring s) (rank-flat r k) ∙ ap (λ (x : Put). by_answer x b (store a ring s)) (sym answered ∙ h))

    kept : (p ≡ Added → ⊥) → a' ≡ a
    kept h = f ∙ put-kept a s.count (made_key c kind r) (λ g. h (e ∙ g))

    pub insert-old : p ≡ Old → store a' ring s ≡ put_bound b (store a ring s)
    insert-old h = ap (λ (x : List ℕ). store x ring s) (kept (λ g. old-new (sym h ∙ g))) ∙ outcome Old h

    pub insert-new : (ring' : List ℕ) (q' : Queue) → p ≡ Added → q' ≡ offered s.queue c → ring' ≡ ring_offered ring s.queue c
        → store a' ring' (record { refusal = s.refusal; count = s.count + 1; queue = q' }) ≡ put_bound b (store a ring s)
    insert-new ring' q' h g i = (λ j. store (placed j) (i j) (record { refusal = s.refusal; count = s.count + 1; queue = g j })) ∙ outcome Added h

    pub insert-full : (s' : State) → p ≡ Full → s' ≡ refused_by 21 s → store a' ring s' ≡ put_bound b (store a ring s)
    insert-full s' h g = ap₂ (λ (x : List ℕ) (y : State). store x ring y) (kept (λ i. full-new (sym h ∙ i))) g ∙ outcome Full h

-- ---- what is sent

module _ (a ring : List ℕ) (s : State) (c kind : ℕ) (t : Sent) where
  pub sent-none : t ≡ Nothing → store a ring s ≡ put_all (to_one 0 kind (sent_types t) c) (store a ring s)
  sent-none e = sym (ap (λ (x : Sent). put_all (to_one 0 kind (sent_types x) c) (store a ring s)) e ∙ none-put kind c (store a ring s))

  pub sent-rank : (r : ℕ) → t ≡ Rank r → s.refusal ≡ 0 → put_bound (bound c kind (unrank r)) (store a ring s) ≡ put_all (to_one 0 kind (sent_types t) c) (store a ring s)
  sent-rank r e h = sym (ap (λ (x : Sent). put_all (to_one 0 kind (sent_types x) c) (store a ring s)) e ∙ one-put kind c (store a ring s) (unrank r) h)

  pub sent-deep : (s' : State) → t ≡ Deep → s.refusal ≡ 0 → s' ≡ refused_by 20 s → store a ring s' ≡ put_all (to_one 0 kind (sent_types t) c) (store a ring s)
  sent-deep s' e h g = ap (store a ring) g ∙ sym (ap (λ (x : Sent). put_all (to_one 0 kind (sent_types x) c) (store a ring s)) e ∙ deep-put kind c (store a ring s) h)

  pub sent-ranked : (r : ℕ) → t ≡ Rank r → Sendable t → Ranked r
  sent-ranked r e k = subst Sendable e k
