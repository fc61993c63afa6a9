-- WHAT A TURN GATHERS STANDS FOR THE STATE: of a tidy table over a lawful world, what is produced, its element and its array as they are sent, and
-- the ranks that were copied, are what the rules of the definition take from the component's state; and all of it can be sent.
use Rattle.std.specs.Prelude.{◌≡◌, refl, true, List, ℕ, ◌≤◌}
use Rattle.std.proofs.Math.Option.{Option, some, none}
use Rattle.std.proofs.Common.{arith}
use Rattle.ty.specs.Types.{ArgType}
use Rattle.ty.specs.Words.{legal_type}
use Rattle.ty.specs.Round.{legal-type-more}
use Rattle.ty.specs.Answers.{maybe_word}
use Rattle.lattice.specs.Lattice.{World, Lawful, most_specific_upper}
use Rattle.lattice.specs.Legality.{specific-legal}
use Rattle.solving.specs.Tidy.{Tidy}
use Rattle.solving.proofs.Tidy.{produced-legal, tidy-state}
use Rattle.solving.specs.TableKeys.{keys_of, AllKeyed}
use Rattle.solving.proofs.TableKeys.{tidy-keyed}
use Rattle.solving.specs.Solving.{Fallback, Table, TypeState, state_of, produced_type, or_else, array_element, produced_array}
use Rattle.inserting.specs.Store.{AllRanked, Sendable}
use Rattle.copying.specs.Copies.{run_in, ranks_in, uppers_in}
use Rattle.copying.specs.Types.{copied-ranks, copied-ranked, copied-uppers, uppers-ranked}
use Rattle.sending.specs.Sending.{sent_maybe, sent_element, sent_array}
use Rattle.sending.specs.Laws.{LegalOption, type-alike, type-sendable, element-alike, element-sendable as element-sends, array-alike, array-sendable as array-sends}
use Rattle.rules.specs.Turn.{Copied}

module _ (w : World) (good : Lawful w) (few : w.names ≤ 1024) (n : ℕ) (t : Table) (q : List ℕ) (y : Tidy w.names n t q) (c : ℕ) where
  abbrev s : TypeState
  s = state_of t c

  keyed : AllKeyed t
  keyed = tidy-keyed w.names n t q few y

  more : (u : ArgType) → legal_type w.names u ≡ true → legal_type 1024 u ≡ true
  more u h = legal-type-more w.names 1024 u few h

  -- what is produced, or else the most specific upper bound
  abbrev pub shape : Option ArgType
  shape = or_else (produced_type w s) (most_specific_upper w s.upper)

  legal-from : (o : Option ArgType) → ((u : ArgType) → o ≡ some u → legal_type 1024 u ≡ true) → LegalOption o
  legal-from none f = tt
  legal-from (some u) f = f u refl

  pub produced-fits : LegalOption (produced_type w s)
  produced-fits = legal-from (produced_type w s) (λ u h. more u (produced-legal w good s (tidy-state w good n t q y c) u h))

  pub shape-fits : LegalOption shape
  shape-fits = go (produced_type w s) produced-fits
    where
      upper : LegalOption (most_specific_upper w s.upper)
      upper = legal-from (most_specific_upper w s.upper) (λ u h. more u (specific-legal w good s.upper u h (tidy-state w good n t q y c).upper))

      go : (o : Option ArgType) → LegalOption o → LegalOption (or_else o (most_specific_upper w s.upper))
      go none h = upper
      go (some u) h = h

  -- WHAT IS GATHERED
  pub gathered : Copied w s (sent_maybe (maybe_word (produced_type w s))) (ranks_in (run_in c Fallback (keys_of t))) (ranks_in (uppers_in c (keys_of t)))
      (sent_element (maybe_word shape)) (sent_array (maybe_word (produced_type w s)))
  unfolding state_of array_element produced_array
  gathered = record {
    produced = type-alike (produced_type w s) produced-fits;
    fallbacks = copied-ranks t keyed y.ascends c Fallback (omega arith);
    uppers = copied-uppers t keyed y.ascends c;
    element = element-alike shape shape-fits;
    array = array-alike (produced_type w s) produced-fits;
  }

  -- AND IT CAN BE SENT
  pub produced-sendable : Sendable (sent_maybe (maybe_word (produced_type w s)))
  produced-sendable = type-sendable (produced_type w s) produced-fits

  pub element-sendable : Sendable (sent_element (maybe_word shape))
  element-sendable = element-sends shape shape-fits

  pub array-sendable : Sendable (sent_array (maybe_word (produced_type w s)))
  array-sendable = array-sends (produced_type w s) produced-fits

  pub fallbacks-ranked : AllRanked (ranks_in (run_in c Fallback (keys_of t)))
  fallbacks-ranked = copied-ranked t keyed y.ascends c Fallback (omega arith)

  pub sources-ranked : AllRanked (ranks_in (uppers_in c (keys_of t)))
  sources-ranked = uppers-ranked t keyed y.ascends c
