-- The exported writers, lookup and the readers together: what was written is read back, what was read is written back, and a name is found where
-- it stands; of every result that their contracts allow, as the check reads them.
use Rattle.std.specs.Prelude.{◌≡◌, Bool, not, ◌&&◌, List, [], ◌∷◌, ◌++◌, ◌⊎◌, ◌↔◌, ℕ, zero, suc, ◌+◌, ◌*◌, ◌^◌, ◌≤◌, ◌<◌, eqb, length, drop, get_or}
use Rattle.std.proofs.Math.Path.{refl, ap}
use Rattle.std.proofs.Common.{sym, ap₂, ◌∙◌, subst, append-nil, inl, inr, arith}
use Rattle.std.proofs.Math.Bool.{true, false, cond}
use Rattle.std.proofs.Math.Option.{Option, some, none, map, bind}
use Rattle.std.proofs.Math.Dec.{ltb}
use Rattle.std.proofs.Math.ListN.{take}
use Rattle.std.proofs.Math.Seq.{take-append_seam}
use borrow.Author.Tests.{ltb-false}
use borrow.Fn.Kinds.{Dens, res_t, ended_of}
use denote.Triple.Clauses.{AtExit}
use contract.Lifetimes.{Lfts}
use Rattle.order.specs.Truth.{both}
use Rattle.ty.specs.Types.{ArgType, Primitive, Object, Array, depth}
use Rattle.ty.specs.Words.{type_of, word_of, legal_word, all_legal}
use Rattle.ty.specs.Round.{legal-of-word}
use Rattle.checks.specs.Checks.{first_refusal, else-zero}
use Rattle.names.specs.Names.{name_at, check_names, lookup, found, look_up}
use Rattle.names.specs.Table.{Checked, checked, accepted}
use Rattle.names.specs.Lookup.{lookup-is, lookup-told, look-searched}
use Rattle.descriptor.specs.declared.Base.{Base}
use Rattle.descriptor.specs.declared.Base.TheVariants.{Simple, Class}
use Rattle.jvms.specs.Jvms as jvms
use Rattle.jvms.specs.Jvms.{JavaType, dimensions, AnyName, Signature, MethodDescriptor, MethodDescriptor.method}
use Rattle.writer.specs.Print.{print_method, print_word, print_method_words, checked_type_refusal, type_refusal, checked_method_refusal, method_refusal, answer, output, types_of}
use Rattle.writer.specs.Print as print
use Rattle.writer.specs.Steps.{type-named, type-fits, method-named, method-fits}
use Rattle.bracepuffin.proofs.bp_lookup.Reads as bp-lookup-reads
use Rattle.bracepuffin.proofs.bp_lookup.Kinds as bp-lookup-kinds
use Rattle.roundtrips.specs.ToWord.{to_type, read_as, to_word, MethodWords, to_words}
use Rattle.roundtrips.specs.Readable.{readable, all_readable, named, all_named, named-depth, named-length, named-low, return-derived, parameters-derived}
use Rattle.roundtrips.specs.Derived.{limits-parts, legal_types}
use Rattle.roundtrips.specs.Held.{HoldsAll, words-there}
use Rattle.roundtrips.specs.Round.{write-read-place, write-read-word, write-read-words, type-again, method-again}
use Rattle.descriptor.specs.Read.{read_whole}
use Rattle.jvms.specs.Ends.{stands-return}
use Rattle.jvms.specs.JvmsTheorem.{ordinary-type, ordinary-method}
use Rattle.jvms.specs.Meaning.{type_at, type_read, Limits, placed, starts}
use Rattle.bracepuffin.proofs.bp_read_type.Reads as bp-read-type-reads
use Rattle.bracepuffin.proofs.bp_read_type.Kinds as bp-read-type-kinds
use Rattle.bracepuffin.proofs.bp_read_method.Reads as bp-read-method-reads
use Rattle.bracepuffin.proofs.bp_read_method.Kinds as bp-read-method-kinds
use Rattle.bracepuffin.proofs.bp_write_type.Reads as bp-write-type-reads
use Rattle.bracepuffin.proofs.bp_write_type.Kinds as bp-write-type-kinds
use Rattle.bracepuffin.proofs.bp_write_method.Reads as bp-write-method-reads
use Rattle.bracepuffin.proofs.bp_write_method.Kinds as bp-write-method-kinds
use Rattle.bracepuffin.specs.declared.BpType.{BpType}
use Rattle.bracepuffin.specs.declared.BpFound.{BpFound}
use Rattle.bracepuffin.specs.declared.BpWritten.{BpWritten}
use Rattle.bracepuffin.specs.declared.BpMethod.{BpMethod}
use Rattle.bracepuffin.specs.Boundary.{type_found, type_answer, Wrote, written_answer, found_answer}
use Rattle.demands.specs.Descriptors.{method_found, ReadsMethod}
use Rattle.demands.specs.ReaderContracts.{bp-read-type, bp-read-method}

-- ---- lookup

-- the answer to a key: its number where it stands, 23 where it stands nowhere, and nothing else
pub record Finds (bytes ats lens key : List ℕ) (r : BpFound) : Type 0 where
  pub there : (i : ℕ) → (r ≡ record { refusal = 0; class_no = i }) ↔ ((i < length ats) × (name_at bytes ats lens i ≡ key))
  pub absent : (r ≡ record { refusal = 23; class_no = 0 }) ↔ ((i : ℕ) → i < length ats → name_at bytes ats lens i ≡ key → ⊥)
  pub only : ((i : ℕ) × (r ≡ record { refusal = 0; class_no = i })) ⊎ (r ≡ record { refusal = 23; class_no = 0 })

module _ (bytes ats lens key : List ℕ) (k : Checked bytes ats lens) where
  looked : found_answer (found (lookup bytes ats lens key)) ≡ found_answer (look_up bytes ats lens key)
  looked = ap found_answer (look-searched bytes ats lens key 0 (found (lookup bytes ats lens key)) (sym (accepted bytes ats lens k)) refl refl)

  finds-by : (o : Option ℕ) → lookup bytes ats lens key ≡ o → Finds bytes ats lens key (found_answer (found o))
  finds-by none e = record {
    there = λ i. (λ q. absurd (let z : ◌≡◌ {A = ℕ} 23 0 = ap (λ (r : BpFound). r.refusal) q in omega arith), λ h. absurd (nowhere (i, (lookup-is bytes ats lens key k i).1 h)));
    absent = (λ q i h n. nowhere (i, (lookup-is bytes ats lens key k i).1 (h, n)), λ f. refl);
    only = inr refl;
  }
    where
      nowhere : (i : ℕ) × (lookup bytes ats lens key ≡ some i) → ⊥
      nowhere w = let a = w.1 in let z : ◌≡◌ {A = ℕ} 0 1 = cc in omega arith
  finds-by (some j) e = record {
    there = λ i. (
      λ q. lookup-told bytes ats lens key i (e ∙ ap some (ap (λ (r : BpFound). r.class_no) q)),
      λ h. let f = (lookup-is bytes ats lens key k i).1 h in let z : j ≡ i = cc in ap (λ (n : ℕ). record { refusal = 0; class_no = n }) z,
    );
    absent = (
      λ q. absurd (let z : ◌≡◌ {A = ℕ} 0 23 = ap (λ (r : BpFound). r.refusal) q in omega arith),
      λ f. let w = lookup-told bytes ats lens key j e in absurd (f j w.0 w.1),
    );
    only = inl (j, refl);
  }

  finds : Finds bytes ats lens key (found_answer (look_up bytes ats lens key))
  finds = subst (Finds bytes ats lens key) looked (finds-by (lookup bytes ats lens key) refl)

-- BP_LOOKUP OVER CHECKED NAMES GIVES THE NUMBER OF A NAME WHERE IT STANDS, ELSE 23
pub bp-lookup : (κs : Lfts 4) (a : Dens κs bp-lookup-kinds.ps) (r : (res_t bp-lookup-kinds.r κs).Denot) (x : AtExit (ended_of 4 bp-lookup-kinds.ps bp-lookup-kinds.r) κs)
    → bp-lookup-reads.Post κs a r x → Checked a.0.now a.1.0.now a.1.1.0.now
    → Finds a.0.now a.1.0.now a.1.1.0.now a.1.1.1.0.now r
bp-lookup κs a r x p k = subst (Finds a.0.now a.1.0.now a.1.1.0.now a.1.1.1.0.now) (sym p) (finds a.0.now a.1.0.now a.1.1.0.now a.1.1.1.0.now k)

-- ---- what is written

-- a writer's answer: taken exactly if `may`, and then the bytes stand in front of the output
pub record Writes (may : Type 0) (printed out out' : List ℕ) (r : BpWritten) : Type 0 where
  pub taken : (r.refusal ≡ 0) ↔ may
  pub bytes : r.refusal ≡ 0 → (r.«length» ≡ length printed) × (out' ≡ printed ++ drop (length printed) out)
  pub otherwise : (r.refusal ≡ 0 → ⊥) → (r.«length» ≡ 0) × (out' ≡ out)

writes : (may : Type 0) (k : ℕ) (printed out out' : List ℕ) (r : BpWritten) → (k ≡ 0) ↔ may → Wrote k printed out out' r → Writes may printed out out' r
unfolding answer output
writes may k printed out out' r e w = go k e w.result w.memory
  where
    go : (m : ℕ) → (m ≡ 0) ↔ may → r ≡ written_answer (answer m printed) → out' ≡ output m printed out → Writes may printed out out' r
    go zero f q o = record {
      taken = (λ z. f.0 refl, λ h. ap (λ (y : BpWritten). y.refusal) q);
      bytes = λ z. (ap (λ (y : BpWritten). y.«length») q, o);
      otherwise = λ n. absurd (n (ap (λ (y : BpWritten). y.refusal) q));
    }
    go (suc m) f q o = record {
      taken = (λ z. absurd (let t = ap (λ (y : BpWritten). y.refusal) q in omega arith), λ h. absurd (let t = f.1 h in omega arith));
      bytes = λ z. absurd (let t = ap (λ (y : BpWritten). y.refusal) q in omega arith);
      otherwise = λ n. (ap (λ (y : BpWritten). y.«length») q, o);
    }

module _ (bytes ats lens : List ℕ) where
  -- A TYPE IS WRITTEN EXACTLY IF THE NAMES ARE CHECKED, THE WORD IS LEGAL AND THE OUTPUT HAS ROOM
  pub type-taken : (w room : ℕ)
      → (type_refusal bytes ats lens w room ≡ 0) ↔ (Checked bytes ats lens × (legal_word (length ats) w ≡ true) × (length (print_word bytes ats lens w) ≤ room))
  unfolding type_refusal checked_type_refusal first_refusal
  type-taken w room = (
    λ z. let e = (else-zero (check_names bytes ats lens) (checked_type_refusal bytes ats lens w room)).0 z in
        let f = to (legal_word (length ats) w) refl (ltb room (length (print_word bytes ats lens w))) refl e.1 in
        (checked bytes ats lens e.0, f.0, f.1),
    λ h. type-named bytes ats lens 0 (sym (accepted bytes ats lens h.0)) w room refl ∙ type-fits bytes ats lens w room h.1 h.2,
  )
    where
      to : (a : Bool) → legal_word (length ats) w ≡ a → (b : Bool) → ltb room (length (print_word bytes ats lens w)) ≡ b → cond {A = ℕ} (not a) 7 (cond b 22 0) ≡ 0
          → (legal_word (length ats) w ≡ true) × (length (print_word bytes ats lens w) ≤ room)
      to false p b q z = absurd (omega arith)
      to true p true q z = absurd (omega arith)
      to true p false q z = (p, ltb-false room (length (print_word bytes ats lens w)) q)

  -- A METHOD WITH AT MOST 255 PARAMETERS THE SAME
  pub method-taken : (ws : List ℕ) (w room : ℕ)
      → (method_refusal bytes ats lens ws w room ≡ 0)
      ↔ (Checked bytes ats lens × (length ws ≤ 255) × (all_legal (length ats) ws ≡ true) × (legal_word (length ats) w ≡ true) × (length (print_method_words bytes ats lens ws w) ≤ room))
  unfolding method_refusal checked_method_refusal first_refusal
  method-taken ws w room = (
    λ z. let e = (else-zero (check_names bytes ats lens) (checked_method_refusal bytes ats lens ws w room)).0 z in
        let f = to (ltb 255 (length ws)) refl (all_legal (length ats) ws && legal_word (length ats) w) refl (ltb room (length (print_method_words bytes ats lens ws w))) refl e.1 in
        let g = both (all_legal (length ats) ws) (legal_word (length ats) w) f.1 in
        (checked bytes ats lens e.0, f.0, g.0, g.1, f.2),
    λ h. method-named bytes ats lens 0 (sym (accepted bytes ats lens h.0)) ws w room refl ∙ method-fits bytes ats lens ws w room h.1 h.2 h.3 h.4,
  )
    where
      to : (a : Bool) → ltb 255 (length ws) ≡ a → (b : Bool) → (all_legal (length ats) ws && legal_word (length ats) w) ≡ b → (c : Bool) → ltb room (length (print_method_words bytes ats lens ws w)) ≡ c
          → cond {A = ℕ} a 8 (cond (not b) 7 (cond c 22 0)) ≡ 0
          → (length ws ≤ 255) × ((all_legal (length ats) ws && legal_word (length ats) w) ≡ true) × (length (print_method_words bytes ats lens ws w) ≤ room)
      to true p b q c o z = absurd (omega arith)
      to false p false q c o z = absurd (omega arith)
      to false p true q true o z = absurd (omega arith)
      to false p true q false o z = (ltb-false 255 (length ws) p, q, ltb-false room (length (print_method_words bytes ats lens ws w)) o)

-- BP_WRITE_TYPE
pub bp-write-type : (κs : Lfts 4) (a : Dens κs bp-write-type-kinds.ps) (r : (res_t bp-write-type-kinds.r κs).Denot) (x : AtExit (ended_of 4 bp-write-type-kinds.ps bp-write-type-kinds.r) κs)
    → bp-write-type-reads.Post κs a r x
    → let bytes = a.0.now in let ats = a.1.0.now in let lens = a.1.1.0.now in let w = a.1.1.1.0 in let out = a.1.1.1.1.0.now in
    Writes (Checked bytes ats lens × (legal_word (length ats) w ≡ true) × (length (print_word bytes ats lens w) ≤ length out)) (print_word bytes ats lens w) out x.1.1.1.1.0.now r
bp-write-type κs a r x p = writes _ _ _ _ _ r (type-taken a.0.now a.1.0.now a.1.1.0.now a.1.1.1.0 (length a.1.1.1.1.0.now)) p

-- BP_WRITE_METHOD
pub bp-write-method : (κs : Lfts 5) (a : Dens κs bp-write-method-kinds.ps) (r : (res_t bp-write-method-kinds.r κs).Denot) (x : AtExit (ended_of 5 bp-write-method-kinds.ps bp-write-method-kinds.r) κs)
    → bp-write-method-reads.Post κs a r x
    → let bytes = a.0.now in let ats = a.1.0.now in let lens = a.1.1.0.now in let ws = a.1.1.1.0.now in let w = a.1.1.1.1.0 in let out = a.1.1.1.1.1.0.now in
    Writes (Checked bytes ats lens × (length ws ≤ 255) × (all_legal (length ats) ws ≡ true) × (legal_word (length ats) w ≡ true) × (length (print_method_words bytes ats lens ws w) ≤ length out))
    (print_method_words bytes ats lens ws w) out x.1.1.1.1.1.0.now r
bp-write-method κs a r x p =
    writes _ _ _ _ _ r (method-taken a.0.now a.1.0.now a.1.1.0.now a.1.1.1.0.now a.1.1.1.1.0 (length a.1.1.1.1.1.0.now)) p

-- ---- written, then read

-- r is what bytes s are read as where they are the descriptor of a word: its dimensions and the place of its name; and s has that word
pub record ReadBack (bytes ats lens s : List ℕ) (w : ℕ) (r : BpType) : Type 0 where
  pub fields : r ≡ type_found (depth (type_of w)) (placed 0 (named (name_at bytes ats lens) (type_of w)))
  pub word : to_word bytes ats lens s ≡ some w

-- no Unknown, no category 9 or 10, Void only without dimensions, no ';' in the name
module _ (bytes ats lens : List ℕ) (k : Checked bytes ats lens) (w : ℕ) (l : w < 2 ^ 64) (h : legal_word (length ats) w ≡ true) (free : readable (name_at bytes ats lens) true (type_of w) ≡ true) where
  read-back : ReadBack bytes ats lens (print_word bytes ats lens w) w (type_answer (read_whole (print_word bytes ats lens w)))
  unfolding print_word
  read-back = record {
    fields = ap type_answer (write-read-place bytes ats lens k (type_of w) (legal-of-word (length ats) w l h) free);
    word = write-read-word bytes ats lens k w l h free;
  }

front : (printed out out' : List ℕ) (n : ℕ) → n ≡ length printed → out' ≡ printed ++ drop (length printed) out → take n out' ≡ printed
front printed out out' n e f = ap₂ (λ (m : ℕ) (o : List ℕ). take m o) e f ∙ take-append_seam printed (drop (length printed) out)

-- WHAT BP_WRITE_TYPE WROTE, BP_READ_TYPE READS BACK
pub bp-write-read-type : (κs : Lfts 4) (a : Dens κs bp-write-type-kinds.ps) (r : (res_t bp-write-type-kinds.r κs).Denot) (x : AtExit (ended_of 4 bp-write-type-kinds.ps bp-write-type-kinds.r) κs)
    → bp-write-type-reads.Post κs a r x
    → (λs : Lfts 1) (b : Dens λs bp-read-type-kinds.ps) (q : (res_t bp-read-type-kinds.r λs).Denot) (y : AtExit (ended_of 1 bp-read-type-kinds.ps bp-read-type-kinds.r) λs)
    → bp-read-type-reads.Post λs b q y
    → r.refusal ≡ 0 → a.1.1.1.0 < 2 ^ 64 → readable (name_at a.0.now a.1.0.now a.1.1.0.now) true (type_of a.1.1.1.0) ≡ true
    → b.0.now ≡ take r.«length» x.1.1.1.1.0.now
    → ReadBack a.0.now a.1.0.now a.1.1.0.now b.0.now a.1.1.1.0 q
bp-write-read-type κs a r x p λs b q y o z l free e =
    let bytes = a.0.now in
    let ats = a.1.0.now in
    let lens = a.1.1.0.now in
    let w = a.1.1.1.0 in
    let t = bp-write-type κs a r x p in
    let h = t.taken.0 z in
    let same : b.0.now ≡ print_word bytes ats lens w = e ∙ front (print_word bytes ats lens w) a.1.1.1.1.0.now x.1.1.1.1.0.now r.«length» (t.bytes z).0 (t.bytes z).1 in
    let back = read-back bytes ats lens h.0 w l h.1 free in
    record {
      fields = o ∙ ap (λ (s : List ℕ). type_answer (read_whole s)) same ∙ back.fields;
      word = ap (to_word bytes ats lens) same ∙ back.word;
    }

-- ---- read, then written

-- the word of what was read, c being the number of its class
abbrev pub word_read : BpType → ℕ → ℕ
word_read r c = r.dims * 2 ^ 56 + cond (eqb r.tag 0) r.category (2 ^ 48 + c)

abbrev base_word : Base → ℕ → ℕ
base_word (Simple k) c = k
base_word (Class at n) c = 2 ^ 48 + c

found-word : (d : ℕ) (b : Base) (c : ℕ) → word_read (type_found d b) c ≡ d * 2 ^ 56 + base_word b c
found-word d (Simple k) c = refl
found-word d (Class at n) c = refl

module _ (bytes ats lens s : List ℕ) (k : Checked bytes ats lens) (c : ℕ) where
  -- the name at that place in s is name c
  abbrev Held : Base → Type 0
  Held (Simple j) = Unit {0}
  Held (Class at n) = (c < length ats) × (name_at bytes ats lens c ≡ take n (drop at s))

  word-back : (t : JavaType) (at : ℕ) → type_at s (dimensions t) (placed at t) ≡ t → Held (placed at t)
      → (u : ArgType) × (to_type (lookup bytes ats lens) t ≡ some u) × (word_of u ≡ dimensions t * 2 ^ 56 + base_word (placed at t) c)
  unfolding dimensions placed to_type word_of type_at
  word-back (jvms.Primitive j) at e h = (Primitive j, refl, omega arith)
  word-back (jvms.Object name) at e h =
      let same : take (length name) (drop (at + 1) s) ≡ name = cc in
      (Object c, ap (map Object) ((lookup-is bytes ats lens name k c).1 (h.0, h.1 ∙ same)), omega arith)
  word-back (jvms.Array t) at e h =
      let inner : type_at s (dimensions t) (placed (at + 1) t) ≡ t = cc in
      let w = word-back t (at + 1) inner h in
      (Array w.0, ap (map Array) w.1, let q = w.2 in omega arith)

  held-by : (dims : ℕ) (q : BpType) (b : Base) → q ≡ type_found dims b
      → (q.tag ≡ 1 → (c < length ats) × (name_at bytes ats lens c ≡ take q.name_len (drop q.name_at s))) → Held b
  held-by dims q (Simple j) e h = tt
  held-by dims q (Class at n) e h =
      let w = h (ap (λ (v : BpType). v.tag) e) in
      (w.0, w.1 ∙ ap₂ (λ (m i : ℕ). take m (drop i s)) (ap (λ (v : BpType). v.name_len) e) (ap (λ (v : BpType). v.name_at) e))

-- a descriptor that is read as a type has that type's word
word-is : (bytes ats lens d : List ℕ) (t : JavaType) (u : ArgType) (w : ℕ) → type_read d (read_whole d) ≡ some t → to_type (lookup bytes ats lens) t ≡ some u → word_of u ≡ w
    → to_word bytes ats lens d ≡ some w
unfolding to_word read_as bind
word-is bytes ats lens d t u w e f g = rw (e, f, g)

-- the bytes d stand in front of the output, and their number in the answer
pub record Again (d out out' : List ℕ) (r : BpWritten) : Type 0 where
  pub result : r ≡ record { refusal = 0; «length» = length d }
  pub memory : out' ≡ d ++ drop (length d) out

again : {k : ℕ} {printed d out out' : List ℕ} {r : BpWritten} → print.Wrote k printed out (d ++ drop (length d) out) (record { refusal = 0; «length» = length d })
    → Wrote k printed out out' r → Again d out out' r
again v w = record { result = w.result ∙ ap written_answer (sym v.result); memory = w.memory ∙ sym v.memory }

-- WHAT BP_READ_TYPE READ, BP_WRITE_TYPE WRITES BACK, the class by the number of its name
pub bp-read-write-type : (λs : Lfts 1) (b : Dens λs bp-read-type-kinds.ps) (q : (res_t bp-read-type-kinds.r λs).Denot) (y : AtExit (ended_of 1 bp-read-type-kinds.ps bp-read-type-kinds.r) λs)
    → bp-read-type-reads.Post λs b q y
    → (κs : Lfts 4) (a : Dens κs bp-write-type-kinds.ps) (r : (res_t bp-write-type-kinds.r κs).Denot) (x : AtExit (ended_of 4 bp-write-type-kinds.ps bp-write-type-kinds.r) κs)
    → bp-write-type-reads.Post κs a r x
    → q.refusal ≡ 0 → Checked a.0.now a.1.0.now a.1.1.0.now
    → (c : ℕ) → (q.tag ≡ 1 → (c < length a.1.0.now) × (name_at a.0.now a.1.0.now a.1.1.0.now c ≡ take q.name_len (drop q.name_at b.0.now)))
    → a.1.1.1.0 ≡ word_read q c → length b.0.now ≤ length a.1.1.1.1.0.now
    → Again b.0.now a.1.1.1.1.0.now x.1.1.1.1.0.now r
bp-read-write-type λs b q y o κs a r x p z k c h e room =
    let d = b.0.now in
    let bytes = a.0.now in
    let ats = a.1.0.now in
    let lens = a.1.1.0.now in
    let reads = bp-read-type λs b q y o in
    let t = reads.accepted.0 z in
    let is = reads.fields t.0 t.1 t.2 in
    let back = word-back bytes ats lens d k c t.0 0 (stands-return t.1 d [] 0 (sym (append-nil d))) (held-by bytes ats lens d k c (dimensions t.0) q (placed 0 t.0) is h) in
    let same : word_of back.0 ≡ a.1.1.1.0 = back.2 ∙ sym (found-word (dimensions t.0) (placed 0 t.0) c) ∙ ap (λ (v : BpType). word_read v c) (sym is) ∙ sym e in
    again (type-again bytes ats lens d a.1.1.1.1.0.now (accepted bytes ats lens k) room a.1.1.1.0 (word-is bytes ats lens d t.0 back.0 a.1.1.1.0 ((ordinary-type d t.0).1 (t.1, t.2)) back.1 same)) p

-- ---- the same of methods

types-legal : (names : ℕ) (ws : List ℕ) → ((i : ℕ) → get_or ws i 0 < 2 ^ 64) → all_legal names ws ≡ true → legal_types names (types_of ws) ≡ true
unfolding all_legal legal_types
types-legal names [] l h = refl
types-legal names (w ∷ ws) l h =
    let b = both (legal_word names w) (all_legal names ws) h in
    rw (legal-of-word names w (l 0) b.0) (types-legal names ws (λ i. l (suc i)) b.1)

types-length : (ws : List ℕ) → length (types_of ws) ≡ length ws
types-length [] = refl
types-length (w ∷ ws) = ap suc (types-length ws)

-- the signature of a method's words, with classes by name
abbrev pub signature_of : List ℕ → List ℕ → List ℕ → List ℕ → ℕ → Signature
signature_of bytes ats lens ws w = record { parameters = all_named (name_at bytes ats lens) (types_of ws); result = named (name_at bytes ats lens) (type_of w) }

-- r and the slice of offsets are what bytes s are read as where they are the descriptor of words; and s has those words
pub record MethodBack (bytes ats lens s ws : List ℕ) (w : ℕ) (params params' : List ℕ) (r : BpMethod) : Type 0 where
  pub fields : r ≡ method_found (signature_of bytes ats lens ws w)
  pub offsets : params' ≡ starts 1 (signature_of bytes ats lens ws w).parameters ++ drop (length ws) params
  pub words : to_words bytes ats lens s ≡ some (record { params = ws; result = w })

-- no Unknown, no category 9 or 10, Void only as the result and without dimensions, no ';' in a name
pub record Readable (bytes ats lens ws : List ℕ) (w : ℕ) : Type 0 where
  pub parameters : all_readable (name_at bytes ats lens) (types_of ws) ≡ true
  pub result : readable (name_at bytes ats lens) true (type_of w) ≡ true

module _ (bytes ats lens : List ℕ) (k : Checked bytes ats lens) (ws : List ℕ) (w : ℕ) (n : length ws ≤ 255) (ls : (i : ℕ) → get_or ws i 0 < 2 ^ 64) (l : w < 2 ^ 64)
    (hs : all_legal (length ats) ws ≡ true) (h : legal_word (length ats) w ≡ true) (free : Readable bytes ats lens ws w) where
  written-derived : MethodDescriptor AnyName (print_method_words bytes ats lens ws w) (signature_of bytes ats lens ws w)
  unfolding print_method_words print_method
  written-derived =
      method (parameters-derived bytes ats lens k (types_of ws) (types-legal (length ats) ws ls hs) free.parameters)
      (return-derived bytes ats lens k (type_of w) (limits-parts (length ats) (type_of w) (legal-of-word (length ats) w l h)).1 free.result)

  written-limits : Limits (signature_of bytes ats lens ws w)
  written-limits =
      let name = name_at bytes ats lens in
      let c = named-length name (types_of ws) in
      let m = types-length ws in
      let s = limits-parts (length ats) (type_of w) (legal-of-word (length ats) w l h) in
      let e = named-depth name (type_of w) in
      record {
        parameters = omega arith;
        each = named-low name (length ats) (types_of ws) (types-legal (length ats) ws ls hs);
        result = omega arith;
      }

  method-back : (s params params' : List ℕ) (r : BpMethod) → s ≡ print_method_words bytes ats lens ws w → ReadsMethod AnyName s params params' r → MethodBack bytes ats lens s ws w params params' r
  method-back s params params' r e reads =
      let derived = subst (λ (y : List ℕ). MethodDescriptor AnyName y (signature_of bytes ats lens ws w)) (sym e) written-derived in
      let many : length (all_named (name_at bytes ats lens) (types_of ws)) ≡ length ws = named-length (name_at bytes ats lens) (types_of ws) ∙ types-length ws in
      record {
        fields = reads.fields (signature_of bytes ats lens ws w) derived written-limits;
        offsets = reads.offsets (signature_of bytes ats lens ws w) derived written-limits
            ∙ ap (λ (m : ℕ). starts 1 (all_named (name_at bytes ats lens) (types_of ws)) ++ drop m params) many;
        words = ap (to_words bytes ats lens) e ∙ write-read-words bytes ats lens k ws w n ls hs free.parameters l h free.result;
      }

-- WHAT BP_WRITE_METHOD WROTE, BP_READ_METHOD READS BACK
pub bp-write-read-method : (κs : Lfts 5) (a : Dens κs bp-write-method-kinds.ps) (r : (res_t bp-write-method-kinds.r κs).Denot) (x : AtExit (ended_of 5 bp-write-method-kinds.ps bp-write-method-kinds.r) κs)
    → bp-write-method-reads.Post κs a r x
    → (λs : Lfts 2) (b : Dens λs bp-read-method-kinds.ps) (q : (res_t bp-read-method-kinds.r λs).Denot) (y : AtExit (ended_of 2 bp-read-method-kinds.ps bp-read-method-kinds.r) λs)
    → bp-read-method-reads.Post λs b q y
    → r.refusal ≡ 0 → ((i : ℕ) → get_or a.1.1.1.0.now i 0 < 2 ^ 64) → a.1.1.1.1.0 < 2 ^ 64
    → Readable a.0.now a.1.0.now a.1.1.0.now a.1.1.1.0.now a.1.1.1.1.0
    → b.0.now ≡ take r.«length» x.1.1.1.1.1.0.now → 255 ≤ length b.1.0.now
    → MethodBack a.0.now a.1.0.now a.1.1.0.now b.0.now a.1.1.1.0.now a.1.1.1.1.0 b.1.0.now y.1.0.now q
bp-write-read-method κs a r x p λs b q y o z ls l free e room =
    let bytes = a.0.now in
    let ats = a.1.0.now in
    let lens = a.1.1.0.now in
    let ws = a.1.1.1.0.now in
    let w = a.1.1.1.1.0 in
    let printed = print_method_words bytes ats lens ws w in
    let t = bp-write-method κs a r x p in
    let h = t.taken.0 z in
    let same : b.0.now ≡ printed = e ∙ front printed a.1.1.1.1.1.0.now x.1.1.1.1.1.0.now r.«length» (t.bytes z).0 (t.bytes z).1 in
    method-back bytes ats lens h.0 ws w h.1 ls l h.2 h.3 free b.0.now b.1.0.now y.1.0.now q same (bp-read-method λs b q y o room)

-- WHAT BP_READ_METHOD READ HAS WORDS WHERE THE TABLE HOLDS ITS CLASSES, AND BP_WRITE_METHOD WRITES THEM BACK
pub bp-read-write-method : (λs : Lfts 2) (b : Dens λs bp-read-method-kinds.ps) (q : (res_t bp-read-method-kinds.r λs).Denot) (y : AtExit (ended_of 2 bp-read-method-kinds.ps bp-read-method-kinds.r) λs)
    → bp-read-method-reads.Post λs b q y → 255 ≤ length b.1.0.now → q.refusal ≡ 0
    → (bytes ats lens : List ℕ) → Checked bytes ats lens → ((m : Signature) → MethodDescriptor AnyName b.0.now m → HoldsAll bytes ats lens m)
    → (u : MethodWords) × (to_words bytes ats lens b.0.now ≡ some u)
    × ((κs : Lfts 5) (a : Dens κs bp-write-method-kinds.ps) (r : (res_t bp-write-method-kinds.r κs).Denot) (x : AtExit (ended_of 5 bp-write-method-kinds.ps bp-write-method-kinds.r) κs)
    → bp-write-method-reads.Post κs a r x
    → a.0.now ≡ bytes → a.1.0.now ≡ ats → a.1.1.0.now ≡ lens → a.1.1.1.0.now ≡ u.params → a.1.1.1.1.0 ≡ u.result
    → length b.0.now ≤ length a.1.1.1.1.1.0.now
    → Again b.0.now a.1.1.1.1.1.0.now x.1.1.1.1.1.0.now r)
bp-read-write-method λs b q y o room z bytes ats lens k holds =
    let d = b.0.now in
    let m = (bp-read-method λs b q y o room).accepted.0 z in
    let w = (words-there bytes ats lens k d).1 (m.0, (ordinary-method d m.0).1 (m.1, m.2), holds m.0 m.1) in
    (w.0, w.1, λ κs a r x p eb ea el ep er fits. again (method-again bytes ats lens d a.1.1.1.1.1.0.now (accepted bytes ats lens k) fits w.0 w.1) (rw (eb, ea, el, ep, er) at p))
