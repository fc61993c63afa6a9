-- THE RULES OVER SLICES ARE THOSE OF THE DEFINITION: where what is sent and the ranks stand for the types that a component's state gives, the
-- store is that of `additions`, and what it shows is the turn.
use Rattle.std.specs.Prelude.{◌≡◌, ℕ, ◌≤◌}
use Rattle.std.proofs.Common.{sym, ap, ◌∙◌, subst}
use mathlib.Core.List.{List, ◌++◌, map}
use Rattle.keys.specs.Rank.{unrank}
use Rattle.lattice.specs.Lattice.{World, Lawful}
use Rattle.solving.specs.Tidy.{Tidy, Among}
use Rattle.solving.proofs.Tidy.{given-more, additions-given, tidy-state}
use Rattle.solving.specs.LinkKeys.{pair_of}
use Rattle.solving.specs.Solving.{Fallback, Upper, Lower, Exact, Table, TypeState, state_of, produced_type, list_of, array_element, produced_array, Links, partners, Addition, to_each, array_rules, additions, turn}
use Rattle.inserting.specs.declared.Sent.{Sent}
use Rattle.inserting.specs.Store.{Store, put_all, sent_types, Good, Shown}
use Rattle.inserting.specs.Laws.{put-append, AllGiven, all-shown}
use Rattle.passing.specs.Alike.{Alike, alike-same, each-alike, arrays-alike}
use Rattle.rules.specs.Rules.{links_in, target_rule, fallback_rule, source_rule, read_rules, write_rules, bound_rules, constraint_rules, all_rules}

-- what was copied stands for a state
pub record Copied (w : World) (t : TypeState) (p : Sent) (fs us : List ℕ) (e a : Sent) : Type 0 where
  pub produced : Alike (sent_types p) (list_of (produced_type w t))
  pub fallbacks : map unrank fs ≡ t.fallback
  pub uppers : map unrank us ≡ t.upper ++ t.exact
  pub element : Alike (sent_types e) (list_of (array_element w t))
  pub array : Alike (sent_types a) (produced_array w t)

-- two lists that do the same, each to any store
abbrev Same : List Addition → List Addition → Type 0
Same xs ys = (s : Store) → put_all xs s ≡ put_all ys s

same-append : (xs ys xs' ys' : List Addition) → Same xs xs' → Same ys ys' → Same (xs ++ ys) (xs' ++ ys')
same-append xs ys xs' ys' f g s = put-append xs ys s ∙ g (put_all xs s) ∙ ap (put_all ys') (f s) ∙ sym (put-append xs' ys' s)

-- another bracketing
same-assoc : (xs ys zs : List Addition) → Same ((xs ++ ys) ++ zs) (xs ++ (ys ++ zs))
same-assoc xs ys zs s = put-append (xs ++ ys) zs s ∙ ap (put_all zs) (put-append xs ys s) ∙ sym (put-append ys zs (put_all xs s)) ∙ sym (put-append xs (ys ++ zs) s)

module _ (w : World) (flows incoming reads writes : List ℕ) (root : ℕ) (t : TypeState) (produced : Sent) (fallbacks uppers : List ℕ) (element array : Sent)
    (y : Copied w t produced fallbacks uppers element array) where
  abbrev l : Links
  l = links_in flows incoming reads writes

  -- THE RULES ARE `additions`
  pub rules-additions : Same (all_rules flows incoming reads writes root produced fallbacks uppers element array) (additions w l root t)
  unfolding all_rules bound_rules constraint_rules additions
  rules-additions s =
      same-assoc a (b ++ c) (d ++ f) s ∙ same-append a ((b ++ c) ++ (d ++ f)) a' (b' ++ (c' ++ (d' ++ f'))) one rest s
    where
      a : List Addition
      a = target_rule flows root produced

      b : List Addition
      b = fallback_rule flows root fallbacks

      c : List Addition
      c = source_rule incoming root uppers

      d : List Addition
      d = read_rules reads root element array

      f : List Addition
      f = write_rules writes root element array

      a' : List Addition
      a' = to_each 1 Lower (list_of (produced_type w t)) (partners root (map pair_of flows))

      b' : List Addition
      b' = to_each 2 Fallback t.fallback (partners root (map pair_of flows))

      c' : List Addition
      c' = to_each 3 Upper (t.upper ++ t.exact) (partners root (map pair_of incoming))

      d' : List Addition
      d' = array_rules 4 Exact (list_of (array_element w t)) 5 (produced_array w t) root (map pair_of reads)

      f' : List Addition
      f' = array_rules 6 Upper (list_of (array_element w t)) 7 (produced_array w t) root (map pair_of writes)

      one : Same a a'
      one = each-alike 0 1 Lower (sent_types produced) (list_of (produced_type w t)) y.produced (partners root (map pair_of flows))

      two : Same b b'
      two = each-alike 0 2 Fallback (map unrank fallbacks) t.fallback (subst (Alike (map unrank fallbacks)) y.fallbacks (alike-same (map unrank fallbacks))) (partners root (map pair_of flows))

      three : Same c c'
      three = each-alike 0 3 Upper (map unrank uppers) (t.upper ++ t.exact) (subst (Alike (map unrank uppers)) y.uppers (alike-same (map unrank uppers))) (partners root (map pair_of incoming))

      four : Same d d'
      four =
          arrays-alike 0 4 Exact (sent_types element) (list_of (array_element w t)) y.element 0 5 (sent_types array) (produced_array w t) y.array root (map pair_of reads)

      five : Same f f'
      five =
          arrays-alike 0 6 Upper (sent_types element) (list_of (array_element w t)) y.element 0 7 (sent_types array) (produced_array w t) y.array root (map pair_of writes)

      rest : Same ((b ++ c) ++ (d ++ f)) (b' ++ (c' ++ (d' ++ f')))
      rest z = same-assoc b c (d ++ f) z ∙ same-append b (c ++ (d ++ f)) b' (c' ++ (d' ++ f')) two (same-append c (d ++ f) c' (d' ++ f') three (same-append d f d' f' four five)) z

-- ---- AND WHAT THE STORE SHOWS AFTER THEM IS THE TURN

module _ (w : World) (good : Lawful w) (few : w.names ≤ 1024) (n : ℕ) (within : n ≤ 512) (l : Links) (among : Among n l) (root : ℕ) (t : Table) (q : List ℕ) (y : Tidy w.names n t q) where
  -- all that a turn inserts may be inserted
  pub turn-given : AllGiven (additions w l root (state_of t root))
  turn-given a m = given-more w.names 1024 n 512 few within a.adds (additions-given w good (state_of t root) (tidy-state w good n t q y root) n l among root a m)

  pub turn-shown : (s : Store) → Good s t q → Shown (put_all (additions w l root (state_of t root)) s) (turn w l root t q)
  unfolding turn
  turn-shown s g = all-shown (additions w l root (state_of t root)) s t q turn-given g
