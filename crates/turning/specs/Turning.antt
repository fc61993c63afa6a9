-- What a turn asks of the tables and of the keys of the bounds, and what it reads off them.
use Rattle.std.specs.Prelude.{◌≡◌, refl, Bool, true, false, cond, ℕ, ◌+◌, ◌-◌, ◌^◌, ◌≤◌, ◌<◌, length, take, drop, get_or, Some, None}
use Rattle.std.proofs.Math.Path.{sym, ap, subst}
use Rattle.std.proofs.Common.{ap₂, ◌∙◌, arith, zero-add, length-append, length-take}
use mathlib.Core.List.{List, [], ◌∷◌, map}
use Rattle.std.proofs.Math.Option.{Option, some, none}
use Rattle.std.proofs.lemmas.List.{length-map}
use Rattle.std.proofs.Math.Seq.{paste, take-append_seam, take-length}
use Rattle.sorted.specs.declared.Span.{Span}
use Rattle.sorted.specs.Sorted.{Sorted, run_of}
use Rattle.sorted.specs.Parts.{part, part-sorted, part-length}
use Rattle.tables.specs.declared.Tables.{Tables}
use Rattle.prepared.specs.Prepared.{Prepared}
use Rattle.ty.specs.Answers.{MaybeType}
use Rattle.ty.specs.declared.TypeWord.{TypeWord}
use Rattle.ty.specs.Types.{ArgType, compare}
use Rattle.ty.specs.Words.{type_of, legal_word, all_legal}
use Rattle.ty.specs.Round.{legal-more}
use Rattle.ty.specs.Answers.{maybe_word}
use Rattle.lattice.specs.World.{world_of}
use Rattle.lattice.specs.Lattice.{World, Lawful, join_all, most_specific_upper}
use Rattle.lattice.specs.JoinAll.{Ascend, AscendFrom}
use Rattle.joins.specs.Joins.{Fits, AllLegal}
use Rattle.solving.specs.Queue.{Below}
use Rattle.solving.specs.Ordered.{After, Ascending}
use Rattle.solving.specs.Tidy.{Tidy}
use Rattle.solving.specs.TableKeys.{keys_of, bound_of, AllKeyed}
use Rattle.solving.proofs.TableKeys.{tidy-keyed, keys-sorted, table-back}
use Rattle.solving.specs.Solving.{Fallback, Upper, Lower, Exact, Table, TypeState, Links, Addition, partners, state_of, types_of, evidence, produced_type, additions, or_else, room}
use Rattle.copying.specs.Own.{own_in, own-run, own-uppers, own-within, own-is, own_table, own-keys, own-tidy, own-state}
use Rattle.copying.specs.Copies.{run_in, rank_in, word_in, ranks_in, words_in, evidence_in, uppers_in}
use Rattle.sending.specs.Sending.{LegalMaybe, sent_maybe, sent_element, sent_array}
use Rattle.sending.specs.Laws.{maybe-legal}
use Rattle.turning.specs.Gather.{shape, produced-fits, shape-fits, gathered, produced-sendable, element-sendable, array-sendable, fallbacks-ranked, sources-ranked}
use Rattle.turning.specs.declared.Gathered.{Gathered}
use Rattle.asking.specs.declared.Asked.{Asked}
use Rattle.asking.specs.Asking.{asks_produced, asks_element, asked_of}
use Rattle.asking.specs.Laws.{rules-asked}
use Rattle.copying.specs.Steps.{paste-front, run-short, two-short}
use Rattle.inserting.specs.declared.State.{State}
use Rattle.inserting.specs.declared.Sent.{Sent}
use Rattle.inserting.specs.declared.Sent.TheVariants.{Nothing as NoType}
use Rattle.inserting.specs.Store.{Store, store, put_all, AllRanked, Sendable, Good, Ready}
use Rattle.passing.specs.Steps.{run-inside}
use Rattle.solving.specs.LinkKeys.{pair_of}
use Rattle.solving.proofs.LinkKeys.{partners-own}
use Rattle.solving.proofs.Steps.{additions-by}
use Rattle.rules.specs.Rules.{links_in, all_rules}
use Rattle.rules.specs.Turn.{Copied, rules-additions}
use Rattle.keys.specs.Rank.{unrank}
use Rattle.copying.specs.Types.{copied-words, copied-evidence, copied-legal, evidence-legal, evidence-ascends, legal-at}

-- the state of a component, of the table that the keys are of
abbrev pub state_in : List ℕ → ℕ → TypeState
state_in keys root = state_of (map bound_of keys) root

pub record Asks (pairs marks : List ℕ) (t : Tables) (keys : List ℕ) : Type 0 where
  pub lawful : Lawful (world_of pairs marks t)
  pub long : Prepared pairs marks t
  pub fits : Fits t
  pub components : ℕ
  pub table : Table
  pub queue : List ℕ
  pub held : keys ≡ keys_of table
  pub tidy : Tidy t.names components table queue

after-of : (t : ArgType) (ts : List ArgType) → After compare t ts → AscendFrom t ts
after-of t [] h = tt
after-of t (u ∷ us) h = (h.0, after-of u us h.1)

ascend-of : (ts : List ArgType) → Ascending compare ts → Ascend ts
ascend-of [] h = tt
ascend-of (t ∷ ts) h = after-of t ts h

-- the front of what was pasted there
pub front-words : (d out ws : List ℕ) (n m : ℕ) → n ≡ length ws → m ≡ n → out ≡ paste d 0 ws n → take (m - 0) out ≡ ws
front-words d out ws n m e f g =
    ap₂ (λ (k : ℕ) (l : List ℕ). take k l) (let z : m - 0 ≡ length ws = omega arith in z) (g ∙ ap (paste d 0 ws) e ∙ paste-front d ws)
    ∙ take-append_seam ws (drop (length ws) d)

module _ (pairs marks : List ℕ) (t : Tables) (keys : List ℕ) (y : Asks pairs marks t keys) (root : ℕ) where
  abbrev w : World
  w = world_of pairs marks t

  keyed : AllKeyed y.table
  keyed = tidy-keyed t.names y.components y.table y.queue y.fits.0 y.tidy

  pub asks-sorted : Sorted keys
  asks-sorted = subst Sorted (sym y.held) (keys-sorted y.table keyed y.tidy.ascends)

  pub asks-state : state_in keys root ≡ state_of y.table root
  asks-state = ap (λ (x : Table). state_of x root) (ap (map bound_of) y.held ∙ table-back y.table keyed)

  -- the evidence
  pub evidence-is : map type_of (words_in (evidence_in root keys)) ≡ evidence (state_in keys root).exact (state_in keys root).lower
  unfolding state_of
  evidence-is =
      ap (λ (k : List ℕ). map type_of (words_in (evidence_in root k))) y.held ∙ copied-evidence y.table keyed y.tidy.ascends root
      ∙ sym (ap (λ (s : TypeState). evidence s.exact s.lower) asks-state)

  pub evidence-words : AllLegal t (words_in (evidence_in root keys))
  evidence-words =
      legal-at t.names (words_in (evidence_in root keys))
      (ap (λ (k : List ℕ). all_legal t.names (words_in (evidence_in root k))) y.held ∙ evidence-legal t.names y.components y.table y.queue y.fits.0 y.tidy root)

  -- the upper bounds
  pub upper-is : map type_of (words_in (run_in root Upper keys)) ≡ (state_in keys root).upper
  unfolding state_of
  upper-is =
      ap (λ (k : List ℕ). map type_of (words_in (run_in root Upper k))) y.held ∙ copied-words y.table keyed y.tidy.ascends root Upper (omega arith)
      ∙ sym (ap (λ (s : TypeState). s.upper) asks-state)

  pub upper-words : (i : ℕ) → i < length (words_in (run_in root Upper keys)) → legal_word 1024 (get_or (words_in (run_in root Upper keys)) i 0) ≡ true
  upper-words i h =
      legal-more t.names 1024 (get_or (words_in (run_in root Upper keys)) i 0) y.fits.0
      (legal-at t.names (words_in (run_in root Upper keys))
      (ap (λ (k : List ℕ). all_legal t.names (words_in (run_in root Upper k))) y.held ∙ copied-legal t.names y.components y.table y.queue y.fits.0 y.tidy root Upper) i h)

  -- as code meets them: the part of the words that a copy wrote
  module _ (words out : List ℕ) (m : ℕ) where
    module _ (e : m ≡ length (evidence_in root keys)) (f : out ≡ paste words 0 (words_in (evidence_in root keys)) (length (evidence_in root keys))) where
      evidence-part : take (m - 0) out ≡ words_in (evidence_in root keys)
      evidence-part = front-words words out (words_in (evidence_in root keys)) (length (evidence_in root keys)) m (sym (length-map (evidence_in root keys) word_in)) e f

      pub part-legal : AllLegal t (take (m - 0) out)
      part-legal = subst (AllLegal t) (sym evidence-part) evidence-words

      pub part-ascends : Ascend (map type_of (take (m - 0) out))
      unfolding state_of
      part-ascends =
          subst (λ (l : List ℕ). Ascend (map type_of l)) (sym evidence-part)
          (subst Ascend (sym (evidence-is ∙ ap (λ (s : TypeState). evidence s.exact s.lower) asks-state)) (ascend-of (evidence (types_of root Exact y.table) (types_of root Lower y.table)) (evidence-ascends root y.table y.tidy.ascends)))

      pub part-produces : maybe_word (join_all w (map type_of (take (m - 0) out))) ≡ maybe_word (produced_type w (state_in keys root))
      unfolding produced_type
      part-produces = ap (λ (l : List ArgType). maybe_word (join_all w l)) (ap (map type_of) evidence-part ∙ evidence-is)

    module _ (e : m ≡ 0 + length (run_in root Upper keys)) (f : out ≡ paste words 0 (words_in (run_in root Upper keys)) (length (run_in root Upper keys))) where
      upper-part : take (m - 0) out ≡ words_in (run_in root Upper keys)
      upper-part =
          front-words words out (words_in (run_in root Upper keys)) (length (run_in root Upper keys)) m (sym (length-map (run_in root Upper keys) word_in)) (e ∙ zero-add (length (run_in root Upper keys))) f

      pub uppers-legal : (i : ℕ) → i < length (take (m - 0) out) → legal_word 1024 (get_or (take (m - 0) out) i 0) ≡ true
      uppers-legal = subst (λ (l : List ℕ). (i : ℕ) → i < length l → legal_word 1024 (get_or l i 0) ≡ true) (sym upper-part) upper-words

      pub part-upper : maybe_word (most_specific_upper w (map type_of (take (m - 0) out))) ≡ maybe_word (most_specific_upper w (state_in keys root).upper)
      part-upper = ap (λ (l : List ArgType). maybe_word (most_specific_upper w l)) (ap (map type_of) upper-part ∙ upper-is)

-- what is produced, or else the upper bound
module _ (o u : Option ArgType) (m : MaybeType) (e : m ≡ maybe_word o) where
  pub shape-is : (t : TypeWord) → m ≡ Some t → m ≡ maybe_word (or_else o u)
  shape-is t f = go o e
    where
      go : (x : Option ArgType) → m ≡ maybe_word x → m ≡ maybe_word (or_else x u)
      go none g = absurd (let z : ◌≡◌ {A = ℕ} 0 1 = cc in omega arith)
      go (some x) g = g

  pub shape-none : m ≡ None → maybe_word u ≡ maybe_word (or_else o u)
  shape-none f = go o e
    where
      go : (x : Option ArgType) → m ≡ maybe_word x → maybe_word u ≡ maybe_word (or_else x u)
      go none g = refl
      go (some x) g = absurd (let z : ◌≡◌ {A = ℕ} 0 1 = cc in omega arith)

-- a type that is asked for, or nothing
abbrev pub only_if : Bool → MaybeType → MaybeType
only_if asked m = cond asked m None

only-legal : (asked : Bool) (m : MaybeType) → LegalMaybe m → LegalMaybe (only_if asked m)
only-legal true m h = h
only-legal false m h = tt

-- WHAT IS GATHERED from the keys, as far as it is asked for
abbrev pub gathered_of : Asked → World → List ℕ → ℕ → Gathered
gathered_of k w keys root = record {
  produced = sent_maybe (only_if k.produced (maybe_word (produced_type w (state_in keys root))));
  element = sent_element (only_if k.element (maybe_word (or_else (produced_type w (state_in keys root)) (most_specific_upper w (state_in keys root).upper))));
  array = sent_array (only_if k.produced (maybe_word (produced_type w (state_in keys root))));
  fallbacks = length (run_in root Fallback keys);
  uppers = length (uppers_in root keys);
}

-- and what it leaves in the two slices of ranks
abbrev pub Gathers : Asked → World → List ℕ → ℕ → Gathered → List ℕ → List ℕ → List ℕ → List ℕ → Type 0
Gathers k w keys root r fs fs' us us' =
    (r ≡ gathered_of k w keys root) × (fs' ≡ paste fs 0 (ranks_in (run_in root 1 keys)) (length (run_in root 1 keys)))
    × (us' ≡ paste us 0 (ranks_in (uppers_in root keys)) (length (uppers_in root keys)))

-- the store after a turn: what the definition adds from the state at its start
abbrev pub turned : World → Links → ℕ → Store → Store
turned w l root s = put_all (additions w l root (state_in (take s.state.count s.cells) root)) s

module _ (pairs marks : List ℕ) (t : Tables) (keys : List ℕ) (y : Asks pairs marks t keys) (root : ℕ) where
  -- both types are legal, so they can be sent
  produced-legal-in : (m : MaybeType) → m ≡ maybe_word (produced_type (world_of pairs marks t) (state_in keys root)) → LegalMaybe m
  produced-legal-in m e =
      subst LegalMaybe (sym (e ∙ ap (λ (s : TypeState). maybe_word (produced_type (world_of pairs marks t) s)) (asks-state pairs marks t keys y root)))
      (maybe-legal (produced_type (world_of pairs marks t) (state_of y.table root)) (produced-fits (world_of pairs marks t) y.lawful y.fits.0 y.components y.table y.queue y.tidy root))

  shape-legal-in : (m : MaybeType) → m ≡ maybe_word (or_else (produced_type (world_of pairs marks t) (state_in keys root)) (most_specific_upper (world_of pairs marks t) (state_in keys root).upper)) → LegalMaybe m
  shape-legal-in m e =
      subst LegalMaybe (sym (e ∙ ap (λ (s : TypeState). maybe_word (or_else (produced_type (world_of pairs marks t) s) (most_specific_upper (world_of pairs marks t) s.upper))) (asks-state pairs marks t keys y root)))
      (maybe-legal (shape (world_of pairs marks t) y.lawful y.fits.0 y.components y.table y.queue y.tidy root) (shape-fits (world_of pairs marks t) y.lawful y.fits.0 y.components y.table y.queue y.tidy root))

  pub gather-produced : (asked : Bool) (m : MaybeType) → m ≡ only_if asked (maybe_word (produced_type (world_of pairs marks t) (state_in keys root))) → LegalMaybe m
  gather-produced asked m e =
      subst LegalMaybe (sym e) (only-legal asked (maybe_word (produced_type (world_of pairs marks t) (state_in keys root))) (produced-legal-in (maybe_word (produced_type (world_of pairs marks t) (state_in keys root))) refl))

  pub gather-shape : (asked : Bool) (m : MaybeType) → m ≡ only_if asked (maybe_word (or_else (produced_type (world_of pairs marks t) (state_in keys root)) (most_specific_upper (world_of pairs marks t) (state_in keys root).upper))) → LegalMaybe m
  gather-shape asked m e =
      subst LegalMaybe (sym e) (only-legal asked whole (shape-legal-in whole refl))
    where
      whole : MaybeType
      whole = maybe_word (or_else (produced_type (world_of pairs marks t) (state_in keys root)) (most_specific_upper (world_of pairs marks t) (state_in keys root).upper))

-- ---- from the component's own keys

module _ (pairs marks : List ℕ) (t : Tables) (keys : List ℕ) (y : Asks pairs marks t keys) (root : ℕ) where
  table-sorted : Sorted (keys_of y.table)
  table-sorted = subst Sorted y.held (asks-sorted pairs marks t keys y root)

  -- they can be asked
  own-asks : Asks pairs marks t (own_in root keys)
  own-asks = record {
    lawful = y.lawful;
    long = y.long;
    fits = y.fits;
    components = y.components;
    table = own_table t.names y.components y.table y.queue y.fits.0 y.tidy table-sorted root;
    queue = y.queue;
    held = ap (own_in root) y.held ∙ own-keys t.names y.components y.table y.queue y.fits.0 y.tidy table-sorted root;
    tidy = own-tidy t.names y.components y.table y.queue y.fits.0 y.tidy table-sorted root;
  }

  same-state : state_in (own_in root keys) root ≡ state_in keys root
  unfolding own-asks
  same-state =
      asks-state pairs marks t (own_in root keys) own-asks root
      ∙ own-state t.names y.components y.table y.queue y.fits.0 y.tidy table-sorted root
      ∙ sym (asks-state pairs marks t keys y root)

  same-gathered : (k : Asked) (v : World) → gathered_of k v (own_in root keys) root ≡ gathered_of k v keys root
  same-gathered k v =
      let o = asks-sorted pairs marks t keys y root in
      let f = own-run root keys o Fallback (omega arith) in
      let u = own-uppers root keys o in
      λ i. record {
        produced = sent_maybe (only_if k.produced (maybe_word (produced_type v (same-state i))));
        element = sent_element (only_if k.element (maybe_word (or_else (produced_type v (same-state i)) (most_specific_upper v (same-state i).upper))));
        array = sent_array (only_if k.produced (maybe_word (produced_type v (same-state i))));
        fallbacks = length (f i);
        uppers = length (u i);
      }

  own-gathers : (k : Asked) (v : World) (g : Gathered) (fs fs' us us' : List ℕ) → Gathers k v (own_in root keys) root g fs fs' us us' → Gathers k v keys root g fs fs' us us'
  own-gathers k v g fs fs' us us' z =
      let o = asks-sorted pairs marks t keys y root in (
        z.0 ∙ same-gathered k v,
        z.1 ∙ ap (λ (xs : List ℕ). paste fs 0 (ranks_in xs) (length xs)) (own-run root keys o Fallback (omega arith)),
        z.2 ∙ ap (λ (xs : List ℕ). paste us 0 (ranks_in xs) (length xs)) (own-uppers root keys o),
      )

-- WHAT A TURN ASKS
pub record Turnable (pairs marks : List ℕ) (t : Tables) (s : Store) (words fallbacks uppers flows incoming reads writes : List ℕ) : Type 0 where
  pub lawful : Lawful (world_of pairs marks t)
  pub long : Prepared pairs marks t
  pub fits : Fits t
  pub components : ℕ
  pub table : Table
  pub queue : List ℕ
  pub good : Good s table queue
  pub tidy : Tidy t.names components table queue
  pub words-room : length words ≡ room
  pub fallbacks-room : length fallbacks ≡ room
  pub uppers-room : length uppers ≡ room
  pub flows-sorted : Sorted flows
  pub incoming-sorted : Sorted incoming
  pub reads-below : Below 262144 reads
  pub writes-below : Below 262144 writes

module _ (pairs marks : List ℕ) (t : Tables) (a ring : List ℕ) (s : State) (words fallbacks uppers flows incoming reads writes : List ℕ)
    (y : Turnable pairs marks t (store a ring s) words fallbacks uppers flows incoming reads writes) where
  abbrev pub keys_in : List ℕ
  keys_in = take s.count a

  keys-held : keys_in ≡ keys_of y.table
  keys-held = y.good.holds.keys

  whole-asks : Asks pairs marks t keys_in
  whole-asks = record { lawful = y.lawful; long = y.long; fits = y.fits; components = y.components; table = y.table; queue = y.queue; held = keys-held; tidy = y.tidy }

  whole-short : length keys_in ≤ room
  whole-short = let l = length-take s.count a in let z = y.good.holds.size in omega arith

  -- the component's own keys, as they are cut out of the table
  module _ (root : ℕ) (r : Span) (i : r ≡ run_of (2 ^ 55) root keys_in) where
    abbrev pub own_keys : List ℕ
    own_keys = part r.first r.past a

    count-inside : s.count ≤ length a
    count-inside = omega (arith, y.good.holds.count, y.good.holds.size, y.tidy.fits)

    keys-sorted-in : Sorted keys_in
    keys-sorted-in = asks-sorted pairs marks t keys_in whole-asks root

    own-part : own_keys ≡ own_in root keys_in
    own-part = own-is root s.count a keys-sorted-in count-inside r i

    pub turn-cut : (r.first ≤ r.past) × (r.past ≤ length a)
    turn-cut =
        let w = own-within root s.count a keys-sorted-in count-inside r i in
        (w.0, omega (arith, w.1, count-inside))

    -- what gathering asks
    pub turn-asks : Asks pairs marks t own_keys
    turn-asks = subst (Asks pairs marks t) (sym own-part) (own-asks pairs marks t keys_in whole-asks root)

    pub turn-short : length own_keys ≤ room
    turn-short = omega (arith, part-length r.first r.past a turn-cut.1, turn-cut.1, y.good.holds.size)

    -- WHAT IS GATHERED FROM THEM IS WHAT THE WHOLE TABLE GIVES
    pub turn-gathers : (k : Asked) (v : World) (g : Gathered) (fs fs' us us' : List ℕ) → Gathers k v own_keys root g fs fs' us us' → Gathers k v keys_in root g fs fs' us us'
    turn-gathers k v g fs fs' us us' z =
        own-gathers pairs marks t keys_in whole-asks root k v g fs fs' us us' (subst (λ (keys : List ℕ). Gathers k v keys root g fs fs' us us') own-part z)

  pub turn-ready : Ready (store a ring s)
  turn-ready = record { table = y.table; queue = y.queue; good = y.good }

  module _ (root : ℕ) (k : Asked) (ask : k ≡ asked_of flows reads writes root) (g : Gathered) (fs us : List ℕ) (e : g ≡ gathered_of k (world_of pairs marks t) keys_in root)
      (f : fs ≡ paste fallbacks 0 (ranks_in (run_in root Fallback keys_in)) (length (run_in root Fallback keys_in)))
      (h : us ≡ paste uppers 0 (ranks_in (uppers_in root keys_in)) (length (uppers_in root keys_in))) where
    abbrev v : World
    v = world_of pairs marks t

    abbrev st : TypeState
    st = state_of y.table root

    fallback-part : take (g.fallbacks - 0) fs ≡ ranks_in (run_in root Fallback (keys_of y.table))
    fallback-part =
        front-words fallbacks fs (ranks_in (run_in root Fallback keys_in)) (length (run_in root Fallback keys_in)) g.fallbacks (sym (length-map (run_in root Fallback keys_in) rank_in))
        (ap (λ (x : Gathered). x.fallbacks) e) f
        ∙ ap (λ (k : List ℕ). ranks_in (run_in root Fallback k)) keys-held

    upper-part-of : take (g.uppers - 0) us ≡ ranks_in (uppers_in root (keys_of y.table))
    upper-part-of =
        front-words uppers us (ranks_in (uppers_in root keys_in)) (length (uppers_in root keys_in)) g.uppers (sym (length-map (uppers_in root keys_in) rank_in))
        (ap (λ (x : Gathered). x.uppers) e) h
        ∙ ap (λ (k : List ℕ). ranks_in (uppers_in root k)) keys-held

    same : state_in keys_in root ≡ st
    unfolding whole-asks
    same = asks-state pairs marks t keys_in whole-asks root

    -- what would be sent of the whole state
    abbrev produced_sent : Sent
    produced_sent = sent_maybe (maybe_word (produced_type v st))

    abbrev element_sent : Sent
    element_sent = sent_element (maybe_word (or_else (produced_type v st) (most_specific_upper v st.upper)))

    abbrev array_sent : Sent
    array_sent = sent_array (maybe_word (produced_type v st))

    produced-is : g.produced ≡ sent_maybe (only_if k.produced (maybe_word (produced_type v st)))
    produced-is = ap (λ (x : Gathered). x.produced) e ∙ ap (λ (z : TypeState). sent_maybe (only_if k.produced (maybe_word (produced_type v z)))) same

    element-is : g.element ≡ sent_element (only_if k.element (maybe_word (or_else (produced_type v st) (most_specific_upper v st.upper))))
    element-is =
        ap (λ (x : Gathered). x.element) e ∙ ap (λ (z : TypeState). sent_element (only_if k.element (maybe_word (or_else (produced_type v z) (most_specific_upper v z.upper))))) same

    array-is : g.array ≡ sent_array (only_if k.produced (maybe_word (produced_type v st)))
    array-is = ap (λ (x : Gathered). x.array) e ∙ ap (λ (z : TypeState). sent_array (only_if k.produced (maybe_word (produced_type v z)))) same

    -- where it is asked for it is sent
    produced-asked : asks_produced flows reads writes root ≡ true → (g.produced ≡ produced_sent) × (g.array ≡ array_sent)
    produced-asked b =
        let c : k.produced ≡ true = ap (λ (x : Asked). x.produced) ask ∙ b in
        (produced-is ∙ ap (λ (a : Bool). sent_maybe (only_if a (maybe_word (produced_type v st)))) c, array-is ∙ ap (λ (a : Bool). sent_array (only_if a (maybe_word (produced_type v st)))) c)

    element-asked : asks_element reads writes root ≡ true → g.element ≡ element_sent
    element-asked b =
        let c : k.element ≡ true = ap (λ (x : Asked). x.element) ask ∙ b in
        element-is ∙ ap (λ (a : Bool). sent_element (only_if a (maybe_word (or_else (produced_type v st) (most_specific_upper v st.upper))))) c

    -- it stands for the state
    all : Copied v st produced_sent (ranks_in (run_in root Fallback (keys_of y.table))) (ranks_in (uppers_in root (keys_of y.table))) element_sent array_sent
    all = gathered v y.lawful y.fits.0 y.components y.table y.queue y.tidy root

    copied : Copied v st produced_sent (take (g.fallbacks - 0) fs) (take (g.uppers - 0) us) element_sent array_sent
    copied = record {
      produced = all.produced;
      fallbacks = ap (map unrank) fallback-part ∙ all.fallbacks;
      uppers = ap (map unrank) upper-part-of ∙ all.uppers;
      element = all.element;
      array = all.array;
    }

    sends : (asked : Bool) (send : MaybeType → Sent) (m : MaybeType) → send None ≡ NoType → Sendable (send m) → Sendable (send (only_if asked m))
    sends true send m n z = z
    sends false send m n z = subst Sendable (sym n) tt

    pub turn-produced : Sendable g.produced
    turn-produced =
        subst Sendable (sym produced-is)
        (sends k.produced sent_maybe (maybe_word (produced_type v st)) refl (produced-sendable v y.lawful y.fits.0 y.components y.table y.queue y.tidy root))

    pub turn-element : Sendable g.element
    turn-element =
        subst Sendable (sym element-is)
        (sends k.element sent_element (maybe_word (or_else (produced_type v st) (most_specific_upper v st.upper))) refl (element-sendable v y.lawful y.fits.0 y.components y.table y.queue y.tidy root))

    pub turn-array : Sendable g.array
    turn-array =
        subst Sendable (sym array-is)
        (sends k.produced sent_array (maybe_word (produced_type v st)) refl (array-sendable v y.lawful y.fits.0 y.components y.table y.queue y.tidy root))

    pub turn-fallbacks : AllRanked (take (g.fallbacks - 0) fs)
    turn-fallbacks = subst AllRanked (sym fallback-part) (fallbacks-ranked v y.lawful y.fits.0 y.components y.table y.queue y.tidy root)

    pub turn-uppers : AllRanked (take (g.uppers - 0) us)
    turn-uppers = subst AllRanked (sym upper-part-of) (sources-ranked v y.lawful y.fits.0 y.components y.table y.queue y.tidy root)

    -- the copies are within their slices
    pub turn-within : (g.fallbacks ≤ room) × (g.uppers ≤ room)
    turn-within =
        let o = asks-sorted pairs marks t keys_in whole-asks root in
        let i = ap (λ (x : Gathered). x.fallbacks) e in
        let j = ap (λ (x : Gathered). x.uppers) e in
        let k = whole-short in
        let l = length-append (run_in root Upper keys_in) (run_in root Exact keys_in) in
        (omega (arith, run-short root Fallback keys_in o), omega (arith, two-short root Upper Exact keys_in o (omega arith)))

    -- THE RULES FROM WHAT IS GATHERED ARE THE ADDITIONS OF THE STATE
    pub turn-additions : (z : Store) → put_all (all_rules flows incoming reads writes root g.produced (take (g.fallbacks - 0) fs) (take (g.uppers - 0) us) g.element g.array) z
        ≡ put_all (additions v (links_in flows incoming reads writes) root (state_in (take s.count a) root)) z
    turn-additions z =
        ap (λ (l : List Addition). put_all l z)
        (rules-asked flows incoming reads writes root (take (g.fallbacks - 0) fs) (take (g.uppers - 0) us) g.produced produced_sent g.element element_sent g.array array_sent produced-asked element-asked)
        ∙ rules-additions v flows incoming reads writes root st produced_sent (take (g.fallbacks - 0) fs) (take (g.uppers - 0) us) element_sent array_sent copied z
        ∙ ap (λ (x : TypeState). put_all (additions v (links_in flows incoming reads writes) root x) z) (sym same)

-- ---- over the component's own flows

module _ (pairs marks : List ℕ) (t : Tables) (s : Store) (words fallbacks uppers flows incoming reads writes : List ℕ)
    (y : Turnable pairs marks t s words fallbacks uppers flows incoming reads writes) (root : ℕ)
    (r : Span) (e : r ≡ run_of 512 root (take (length flows) flows)) where
  abbrev pub own_flows : List ℕ
  own_flows = part r.first r.past flows

  pub flows-cut : (r.first ≤ r.past) × (r.past ≤ length flows)
  flows-cut = run-inside root flows y.flows-sorted r e

  -- WHAT A TURN ASKS HOLDS OF THEM
  pub flows-turnable : Turnable pairs marks t s words fallbacks uppers own_flows incoming reads writes
  flows-turnable = record {
    lawful = y.lawful;
    long = y.long;
    fits = y.fits;
    components = y.components;
    table = y.table;
    queue = y.queue;
    good = y.good;
    tidy = y.tidy;
    words-room = y.words-room;
    fallbacks-room = y.fallbacks-room;
    uppers-room = y.uppers-room;
    flows-sorted = part-sorted r.first r.past flows y.flows-sorted;
    incoming-sorted = y.incoming-sorted;
    reads-below = y.reads-below;
    writes-below = y.writes-below;
  }

  own-partners : partners root (map pair_of own_flows) ≡ partners root (map pair_of flows)
  own-partners =
      ap (λ (z : Span). partners root (map pair_of (part z.first z.past flows))) (e ∙ ap (run_of 512 root) (take-length flows)) ∙ partners-own root flows y.flows-sorted

  -- AND THE TURN OVER THEM IS THE TURN
  pub flows-turned : turned (world_of pairs marks t) (links_in own_flows incoming reads writes) root s ≡ turned (world_of pairs marks t) (links_in flows incoming reads writes) root s
  flows-turned =
      ap (λ (l : List Addition). put_all l s)
      (additions-by (world_of pairs marks t) root (state_in (take s.state.count s.cells) root) (links_in own_flows incoming reads writes) (links_in flows incoming reads writes) own-partners refl refl refl)
