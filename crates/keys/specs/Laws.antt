-- Laws of ranks and keys of types within the limits: they fit, they are in the order of types, and what they stand for comes
-- back.
use Rattle.std.specs.Prelude.{◌≡◌, refl, true, ℕ, suc, ◌+◌, ◌-◌, ◌*◌, ◌/◌, ◌%◌, ◌^◌, ◌≤◌, ◌<◌, leb}
use Rattle.std.proofs.Common.{sym, ap₂, ◌∙◌, arith, leb-true, ltb-true, lt-ltb, le-ltb}
use Rattle.std.proofs.Math.Path.{ap}
use Rattle.order.specs.Truth.{and-left, and-right}
use Rattle.order.specs.Laws.{numbers-less, numbers-greater}
use Rattle.order.specs.Compare.{compare_numbers, then}
use Rattle.ty.specs.Types.{ArgType, Primitive, Object, Array, Unknown, depth, arrays, compare}
use Rattle.ty.specs.Words.{legal_at_base, legal_type}
use Rattle.keys.specs.Rank.{deeper, digits_of, rank, members_of, known_base, unrank, key, key_component, key_kind, key_type}
use Rattle.keys.specs.Numbers.{numbers-alike, numbers-shift, numbers-parts}
use Rattle.keys.specs.Members.{digits-small, digits-order, members-digits}

-- a type that a bound can have: at most 1,024 names, 255 dimensions
abbrev pub LegalType : ArgType → Type 0
LegalType t = legal_type 1024 t ≡ true

-- ---- where a rank lies, by the depth of its type

pub deeper-known : (r : ℕ) → r < 2 ^ 19 → deeper r ≡ r + 2 ^ 11
unfolding deeper
deeper-known r h = rw (lt-ltb r (2 ^ 19))

pub deeper-unknown : (r : ℕ) → 2 ^ 19 ≤ r → deeper r ≡ r - 2 ^ 44
unfolding deeper
deeper-unknown r h = rw (le-ltb r (2 ^ 19))

-- the ranks that a type of depth d can have, on a known base or on Unknown
data Band (d r : ℕ) : Type 0 where
  known : d * 2 ^ 11 ≤ r → r < suc d * 2 ^ 11 → Band d r
  unknown : 2 ^ 19 + (255 - d) * 2 ^ 44 ≤ r → r < 2 ^ 19 + (255 - d) * 2 ^ 44 + 12 * 2 ^ 40 → Band d r

deeper-band : (d r : ℕ) → d < 255 → Band d r → Band (suc d) (deeper r)
deeper-band d r h (known a b) = let e = deeper-known r (omega arith) in known (omega arith) (omega arith)
deeper-band d r h (unknown a b) = let e = deeper-unknown r (omega arith) in unknown (omega arith) (omega arith)

-- a type's limits are its base's and its depth's
legal-at-base : (t : ArgType) → LegalType t → legal_at_base 1024 t ≡ true
unfolding legal_type
legal-at-base t h = and-right (leb (depth t) 255) (legal_at_base 1024 t) h

legal-depth : (t : ArgType) → LegalType t → depth t ≤ 255
unfolding legal_type
legal-depth t h = leb-true (depth t) 255 (and-left (leb (depth t) 255) (legal_at_base 1024 t) h)

band : (t : ArgType) → legal_at_base 1024 t ≡ true → depth t ≤ 255 → Band (depth t) (rank t)
unfolding rank depth legal_at_base
band (Primitive k) h l = let q = leb-true k 10 h in known (omega arith) (omega arith)
band (Object c) h l = let q = ltb-true c 1024 h in known (omega arith) (omega arith)
band (Array t) h l = deeper-band (depth t) (rank t) (omega arith) (band t h (omega arith))
band (Unknown cs) h l = let q = digits-small cs h in unknown (omega arith) (omega arith)

band-lt : (d r : ℕ) → d ≤ 255 → Band d r → r < 2 ^ 52
band-lt d r l (known a b) = omega arith
band-lt d r l (unknown a b) = omega arith

pub rank-lt : (t : ArgType) → LegalType t → rank t < 2 ^ 52
rank-lt t h = band-lt (depth t) (rank t) (legal-depth t h) (band t (legal-at-base t h) (legal-depth t h))

-- ---- the order of ranks is the order of types

deeper-less : (d e r s : ℕ) → d < 255 → e < 255 → Band d r → Band e s → r < s → deeper r < deeper s
deeper-less d e r s h k (known i j) (known m n) l = omega (arith, deeper-known r (omega arith), deeper-known s (omega arith))
deeper-less d e r s h k (known i j) (unknown m n) l = omega (arith, deeper-known r (omega arith), deeper-unknown s (omega arith))
deeper-less d e r s h k (unknown i j) (known m n) l = absurd (omega arith)
deeper-less d e r s h k (unknown i j) (unknown m n) l = omega (arith, deeper-unknown r (omega arith), deeper-unknown s (omega arith))

deeper-order : (d e r s : ℕ) → d < 255 → e < 255 → Band d r → Band e s → compare_numbers (deeper r) (deeper s) ≡ compare_numbers r s
deeper-order d e r s h k b c =
    numbers-alike r s (deeper r) (deeper s) (deeper-less d e r s h k b c) (ap deeper) (deeper-less e d s r k h c b)

-- an array comes after what is known and no array, and before what is not known
array-above : (t : ArgType) → legal_at_base 1024 t ≡ true → depth t < 255 → 2 ^ 11 ≤ rank (Array t)
unfolding depth legal_at_base
array-above t h l = go (band (Array t) h l)
  where
    go : Band (suc (depth t)) (rank (Array t)) → 2 ^ 11 ≤ rank (Array t)
    go (known a b) = omega arith
    go (unknown a b) = omega arith

array-below : (t : ArgType) → legal_at_base 1024 t ≡ true → depth t < 255 → rank (Array t) < 2 ^ 19 + 255 * 2 ^ 44
unfolding depth legal_at_base
array-below t h l = go (band (Array t) h l)
  where
    go : Band (suc (depth t)) (rank (Array t)) → rank (Array t) < 2 ^ 19 + 255 * 2 ^ 44
    go (known a b) = omega arith
    go (unknown a b) = omega arith

order-at : (t u : ArgType) → legal_at_base 1024 t ≡ true → legal_at_base 1024 u ≡ true → depth t ≤ 255 → depth u ≤ 255
    → compare_numbers (rank t) (rank u) ≡ compare t u
unfolding rank depth legal_at_base compare
order-at (Primitive a) (Primitive b) g h k l = refl
order-at (Primitive a) (Object b) g h k l = numbers-less a (2 ^ 10 + b) (omega (arith, leb-true a 10 g))
order-at (Primitive a) (Array u) g h k l = numbers-less a (deeper (rank u)) (omega (arith, leb-true a 10 g, array-above u h l))
order-at (Primitive a) (Unknown ys) g h k l = numbers-less a (rank (Unknown ys)) (omega (arith, leb-true a 10 g))
order-at (Object a) (Primitive b) g h k l = numbers-greater (2 ^ 10 + a) b (omega (arith, leb-true b 10 h))
order-at (Object a) (Object b) g h k l = numbers-shift (2 ^ 10) a b
order-at (Object a) (Array u) g h k l =
    numbers-less (2 ^ 10 + a) (deeper (rank u)) (omega (arith, ltb-true a 1024 g, array-above u h l))
order-at (Object a) (Unknown ys) g h k l = numbers-less (2 ^ 10 + a) (rank (Unknown ys)) (omega (arith, ltb-true a 1024 g))
order-at (Array t) (Primitive b) g h k l = numbers-greater (deeper (rank t)) b (omega (arith, array-above t g k, leb-true b 10 h))
order-at (Array t) (Object b) g h k l =
    numbers-greater (deeper (rank t)) (2 ^ 10 + b) (omega (arith, array-above t g k, ltb-true b 1024 h))
order-at (Array t) (Array u) g h k l =
    deeper-order (depth t) (depth u) (rank t) (rank u) k l (band t g (omega arith)) (band u h (omega arith))
    ∙ order-at t u g h (omega arith) (omega arith)
order-at (Array t) (Unknown ys) g h k l = numbers-less (deeper (rank t)) (rank (Unknown ys)) (omega (arith, array-below t g k))
order-at (Unknown xs) (Primitive b) g h k l = numbers-greater (rank (Unknown xs)) b (omega (arith, leb-true b 10 h))
order-at (Unknown xs) (Object b) g h k l = numbers-greater (rank (Unknown xs)) (2 ^ 10 + b) (omega (arith, ltb-true b 1024 h))
order-at (Unknown xs) (Array u) g h k l = numbers-greater (rank (Unknown xs)) (deeper (rank u)) (omega (arith, array-below u h l))
order-at (Unknown xs) (Unknown ys) g h k l =
    numbers-shift (2 ^ 19) (255 * 2 ^ 44 + digits_of xs) (255 * 2 ^ 44 + digits_of ys)
    ∙ numbers-shift (255 * 2 ^ 44) (digits_of xs) (digits_of ys)
    ∙ digits-order xs ys g h

pub rank-order : (t u : ArgType) → LegalType t → LegalType u → compare_numbers (rank t) (rank u) ≡ compare t u
rank-order t u g h = order-at t u (legal-at-base t g) (legal-at-base u h) (legal-depth t g) (legal-depth u h)

-- ---- the type of a rank

pub unrank-known : (r : ℕ) → r < 2 ^ 19 → unrank r ≡ arrays (r / 2 ^ 11) (known_base (r % 2 ^ 11))
unfolding unrank
unrank-known r h = rw (lt-ltb r (2 ^ 19))

pub unrank-unknown : (r : ℕ) → 2 ^ 19 ≤ r → unrank r ≡ arrays (255 - (r - 2 ^ 19) / 2 ^ 44) (Unknown (members_of ((r - 2 ^ 19) % 2 ^ 44)))
unfolding unrank
unrank-unknown r h = rw (le-ltb r (2 ^ 19))

-- parts of a rank that are known say its type
known-parts : (r d b : ℕ) → r < 2 ^ 19 → r ≡ d * 2 ^ 11 + b → b < 2 ^ 11 → unrank r ≡ arrays d (known_base b)
known-parts r d b h e l =
    unrank-known r h
    ∙ ap₂ (λ (x y : ℕ). arrays x (known_base y)) (let q : r / 2 ^ 11 ≡ d = omega arith in q) (let q : r % 2 ^ 11 ≡ b = omega arith in q)

unknown-parts : (r d x : ℕ) → d ≤ 255 → r ≡ 2 ^ 19 + ((255 - d) * 2 ^ 44 + x) → x < 2 ^ 44 → unrank r ≡ arrays d (Unknown (members_of x))
unknown-parts r d x h e l =
    unrank-unknown r (omega arith)
    ∙ ap₂ (λ (m n : ℕ). arrays m (Unknown (members_of n)))
    (let q : 255 - (r - 2 ^ 19) / 2 ^ 44 ≡ d = omega arith in q)
    (let q : (r - 2 ^ 19) % 2 ^ 44 ≡ x = omega arith in q)

-- one array more
unrank-deeper : (d r : ℕ) → d < 255 → Band d r → unrank (deeper r) ≡ Array (unrank r)
unfolding arrays
unrank-deeper d r h (known a b) =
    known-parts (deeper r) (suc (r / 2 ^ 11)) (r % 2 ^ 11) (omega (arith, deeper-known r (omega arith)))
    (omega (arith, deeper-known r (omega arith))) (omega arith)
    ∙ ap Array (sym (unrank-known r (omega arith)))
unrank-deeper d r h (unknown a b) =
    unknown-parts (deeper r) (suc (255 - (r - 2 ^ 19) / 2 ^ 44)) ((r - 2 ^ 19) % 2 ^ 44) (omega arith)
    (omega (arith, deeper-unknown r (omega arith))) (omega arith)
    ∙ ap Array (sym (unrank-unknown r (omega arith)))

unrank-at : (t : ArgType) → legal_at_base 1024 t ≡ true → depth t ≤ 255 → unrank (rank t) ≡ t
unfolding rank depth legal_at_base arrays known_base
unrank-at (Primitive k) h l =
    let q = leb-true k 10 h in
    known-parts k 0 k (omega arith) (omega arith) (omega arith) ∙ rw (lt-ltb k (2 ^ 10) (omega arith))
unrank-at (Object c) h l =
    let q = ltb-true c 1024 h in
    known-parts (2 ^ 10 + c) 0 (2 ^ 10 + c) (omega arith) (omega arith) (omega arith)
    ∙ rw (le-ltb (2 ^ 10 + c) (2 ^ 10) (omega arith)) (ap Object (let e : 2 ^ 10 + c - 2 ^ 10 ≡ c = omega arith in e))
unrank-at (Array t) h l =
    unrank-deeper (depth t) (rank t) l (band t h (omega arith)) ∙ ap Array (unrank-at t h (omega arith))
unrank-at (Unknown cs) h l =
    unknown-parts (2 ^ 19 + (255 * 2 ^ 44 + digits_of cs)) 0 (digits_of cs) (omega arith) refl (omega (arith, digits-small cs h))
    ∙ ap Unknown (members-digits cs h)

pub unrank-rank : (t : ArgType) → LegalType t → unrank (rank t) ≡ t
unrank-rank t h = unrank-at t (legal-at-base t h) (legal-depth t h)

pub rank-injective : (t u : ArgType) → LegalType t → LegalType u → rank t ≡ rank u → t ≡ u
rank-injective t u g h e = sym (unrank-rank t g) ∙ ap unrank e ∙ unrank-rank u h

pub legal-unrank : (t : ArgType) → LegalType t → LegalType (unrank (rank t))
legal-unrank t h = ap (legal_type 1024) (unrank-rank t h) ∙ h

-- ---- keys

module _ (component kind : ℕ) (t : ArgType) (k : kind < 8) (h : LegalType t) where
  pub key-lt : component < 512 → key component kind t < 2 ^ 64
  unfolding key
  key-lt c = omega (arith, rank-lt t h)

  pub key-component : key_component (key component kind t) ≡ component
  unfolding key
  key-component = omega (arith, rank-lt t h)

  pub key-kind : key_kind (key component kind t) ≡ kind
  unfolding key
  key-kind = omega (arith, rank-lt t h)

  pub key-type : key_type (key component kind t) ≡ t
  unfolding key key_type
  key-type =
      ap unrank (let e : (component * 2 ^ 55 + (kind * 2 ^ 52 + rank t)) % 2 ^ 52 ≡ rank t = omega (arith, rank-lt t h) in e)
      ∙ unrank-rank t h

-- by component, then by kind, then by type
module _ (c c' k k' : ℕ) (t t' : ArgType) (l : k < 8) (l' : k' < 8) (h : LegalType t) (h' : LegalType t') where
  pub key-order : compare_numbers (key c k t) (key c' k' t') ≡ then (compare_numbers c c') (then (compare_numbers k k') (compare t t'))
  unfolding key
  key-order =
      numbers-parts (2 ^ 55) c c' (k * 2 ^ 52 + rank t) (k' * 2 ^ 52 + rank t') (omega (arith, rank-lt t h)) (omega (arith, rank-lt t' h'))
      ∙ ap (then (compare_numbers c c'))
      (numbers-parts (2 ^ 52) k k' (rank t) (rank t') (rank-lt t h) (rank-lt t' h') ∙ ap (then (compare_numbers k k')) (rank-order t t' h h'))

  pub key-injective : key c k t ≡ key c' k' t' → (c ≡ c') × (k ≡ k') × (t ≡ t')
  key-injective e = (
    sym (key-component c k t l h) ∙ ap key_component e ∙ key-component c' k' t' l' h',
    sym (key-kind c k t l h) ∙ ap key_kind e ∙ key-kind c' k' t' l' h',
    sym (key-type c k t l h) ∙ ap key_type e ∙ key-type c' k' t' l' h',
  )
