-- A COMPONENT'S BOUNDS, COPIED OUT OF A TABLE AS WORDS, are what produced_type and resolve_state ask: types over the names, in their order;
-- and the state that they stand for is the component's.
use Rattle.std.specs.Prelude.{◌≡◌, List, [], ◌∷◌, map, ℕ, ◌<◌}
use Rattle.std.proofs.Common.{sym, subst, arith}
use Rattle.ty.specs.Types.{ArgType, compare}
use Rattle.ty.specs.Words.{type_of}
use Rattle.tables.specs.declared.Tables.{Tables}
use Rattle.lattice.specs.JoinAll.{AscendFrom, Ascend}
use Rattle.joins.specs.Joins.{Fits, AllLegal}
use Rattle.solving.specs.Ordered.{After, Ascending}
use Rattle.solving.proofs.Orders.{types-ascend}
use Rattle.solving.specs.Solving.{Domain, Fallback, Upper, Lower, Exact, Table, types_of, state_of}
use Rattle.solving.specs.Tidy.{Tidy}
use Rattle.solving.specs.TableKeys.{keys_of}
use Rattle.solving.proofs.TableKeys.{tidy-keyed}
use Rattle.copying.specs.Copies.{run_in, words_in}
use Rattle.copying.specs.Types.{copied-words, copied-legal, legal-at}
use Rattle.resolving.specs.Bounds.{state_in, Bounds}

-- ---- the order that a join asks is that of a table's types

after-from : (t : ArgType) (ts : List ArgType) → After compare t ts → AscendFrom t ts
after-from t [] h = tt
after-from t (u ∷ us) h = (h.0, after-from u us h.1)

ascending-ascend : (ts : List ArgType) → Ascending compare ts → Ascend ts
ascending-ascend [] h = tt
ascending-ascend (t ∷ ts) h = after-from t ts h

-- ---- the copy of a tidy table

module _ (t : Tables) (fits : Fits t) (n : ℕ) (table : Table) (q : List ℕ) (y : Tidy t.names n table q) (c : ℕ) where
  -- the words of a kind
  abbrev pub copy_of : ℕ → List ℕ
  copy_of k = words_in (run_in c k (keys_of table))

  copy-types : (k : ℕ) → k < 8 → map type_of (copy_of k) ≡ types_of c k table
  copy-types k small = copied-words table (tidy-keyed t.names n table q fits.0 y) y.ascends c k small

  -- THEY ARE WHAT IS ASKED
  pub copy-legal : (k : ℕ) → AllLegal t (copy_of k)
  copy-legal k = legal-at t.names (copy_of k) (copied-legal t.names n table q fits.0 y c k)

  pub copy-bounds : (k : ℕ) → k < 8 → Bounds t (copy_of k)
  copy-bounds k small = (copy-legal k, subst Ascend (sym (copy-types k small)) (ascending-ascend (types_of c k table) (types-ascend c k table y.ascends)))

  -- AND STAND FOR THE COMPONENT'S STATE
  pub copy-state : state_in (copy_of Exact) (copy_of Lower) (copy_of Upper) (copy_of Domain) (copy_of Fallback) ≡ state_of table c
  unfolding state_of
  copy-state = λ i. record {
    exact = copy-types Exact (omega arith) i;
    lower = copy-types Lower (omega arith) i;
    upper = copy-types Upper (omega arith) i;
    domain = copy-types Domain (omega arith) i;
    fallback = copy-types Fallback (omega arith) i;
  }
