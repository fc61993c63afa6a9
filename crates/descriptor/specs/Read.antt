-- DescriptorParser::ty of ty.rs, by recursion on the bytes: a type descriptor is read, or refused with an offset.
-- Added to the Rust: refusal 18 at the 256th '[', and strict reading (24).
use Rattle.std.specs.Prelude.{◌≡◌, Bool, true, false, not, ◌&&◌, List, [], ◌∷◌, ℕ, suc, ◌+◌, ◌-◌, eqb, leb, ltb, length, take, drop, get_or, Result, Ok, Err}
use Rattle.text.specs.Text.{byte}
use Rattle.utf8.specs.Utf8.{valid_prefix}
use Rattle.descriptor.specs.declared.Base.TheVariants.{Simple, Class}
use Rattle.descriptor.specs.declared.Base.{Base}
use Rattle.descriptor.specs.declared.TypeAt.{TypeAt}
use Rattle.descriptor.specs.declared.Unread.{Unread}
use Rattle.refusals.specs.Numbers.{number, number-injective}

-- a type of some dimensions, below them a base, and the offset after it; or a refusal's number with its offset and byte
pub data Read : Type 0 where
  Found : ℕ → Base → ℕ → Read
  Refused : ℕ → ℕ → ℕ → Read

-- what comes back of a reader, so written
abbrev pub read : Result TypeAt Unread → Read
read (Ok t) = Found t.dims t.base t.next
read (Err e) = Refused (number e.refusal) e.at e.byte

pub read-injective : (x y : Result TypeAt Unread) → read x ≡ read y → x ≡ y
read-injective (Ok t) (Ok u) e =
    let d : t.dims ≡ u.dims = cc in
    let b : t.base ≡ u.base = cc in
    let n : t.next ≡ u.next = cc in
    λ i. Ok (record { dims = d i; base = b i; next = n i })
read-injective (Ok t) (Err f) e = cc
read-injective (Err f) (Ok t) e = cc
read-injective (Err f) (Err g) e =
    let r = number-injective f.refusal g.refusal (cc) in
    let a : f.at ≡ g.at = cc in
    let b : f.byte ≡ g.byte = cc in
    λ i. Err (record { refusal = r i; at = a i; byte = b i })

abbrev pub pick_r : Bool → Read → Read → Read
pick_r true a b = a
pick_r false a b = b

-- ---- the letters

-- what a byte begins: the category of its letter, 9 for 'L', 10 for '[', 11 for any other byte
unfoldable pub letter_of : ℕ → ℕ
letter_of b =
    pick_n (eqb b (byte "V")) 0 (pick_n (eqb b (byte "Z")) 1 (pick_n (eqb b (byte "B")) 2 (pick_n (eqb b (byte "S")) 3 (pick_n (eqb b (byte "C")) 4
    (pick_n (eqb b (byte "I")) 5 (pick_n (eqb b (byte "J")) 6 (pick_n (eqb b (byte "F")) 7 (pick_n (eqb b (byte "D")) 8
    (pick_n (eqb b (byte "L")) 9 (pick_n (eqb b (byte "[")) 10 11))))))))))
  where
    pick_n : Bool → ℕ → ℕ → ℕ
    pick_n true a b = a
    pick_n false a b = b

-- ---- a class name: the bytes up to the first ';'

-- where the first x stands; the length where there is none
unfoldable pub index_of : ℕ → List ℕ → ℕ
index_of x [] = 0
index_of x (b ∷ bs) = step (eqb b x) (index_of x bs)
  where
    step : Bool → ℕ → ℕ
    step true n = 0
    step false n = suc n

-- the name after the 'L' at `at`, of n bytes whose first v are the longest well-formed prefix
unfoldable pub name_read : List ℕ → ℕ → ℕ → ℕ → ℕ → Read
name_read bs at dims n v =
    pick_r (leb (length bs) n) (Refused 11 (at + 1 + length bs) 0)
    (pick_r (eqb n 0) (Refused 14 at 0) (pick_r (ltb v n) (Refused 12 (at + 1 + v) (get_or bs v 0)) (Found dims (Class (at + 1) n) (at + 1 + n + 1))))

unfoldable pub read_name : List ℕ → ℕ → ℕ → Read
read_name bs at dims = name_read bs at dims (index_of (byte ";") bs) (valid_prefix (take (index_of (byte ";") bs) bs))

-- ---- a type

-- the type that begins with the byte b of that letter at `at`, bs after it; `inner` is the type read from bs
abbrev pub choose : ℕ → ℕ → List ℕ → ℕ → Bool → ℕ → Read → Read
choose k b bs at void dims inner =
    pick_r (eqb k 0) (pick_r void (Found dims (Simple 0) (at + 1)) (Refused 13 at 0))
    (pick_r (ltb k 9) (Found dims (Simple k) (at + 1))
    (pick_r (eqb k 9) (read_name bs at dims)
    (pick_r (eqb k 10) (pick_r (leb 255 dims) (Refused 18 at 0) inner) (Refused 12 at b))))

-- the type at the front of the bytes, which stand at the offset `at`, after `dims` brackets
unfoldable pub read_type : List ℕ → ℕ → Bool → ℕ → Read
read_type [] at void dims = Refused 11 at 0
read_type (b ∷ bs) at void dims = choose (letter_of b) b bs at void dims (read_type bs (at + 1) false (dims + 1))

-- DescriptorParser::finish
unfoldable pub finish : List ℕ → Read → Read
finish s (Found dims base next) = pick_r (eqb next (length s)) (Found dims base next) (Refused 15 next 0)
finish s (Refused code at byte) = Refused code at byte

-- ArgType::from_str
unfoldable pub read_whole : List ℕ → Read
read_whole s = finish s (read_type s 0 true 0)

-- ---- strict reading

-- whether a name is made of parts that are not empty, with a '/' between them, and has no '.' and no '['
unfoldable pub parts_from : Bool → List ℕ → Bool
parts_from begun [] = begun
parts_from begun (b ∷ bs) = part (eqb b (byte "/")) (not (eqb b (byte ".")) && not (eqb b (byte "["))) (parts_from false bs) (parts_from true bs)
  where
    part : Bool → Bool → Bool → Bool → Bool
    part true plain next rest = begun && next
    part false plain next rest = plain && rest

unfoldable pub strict_name : List ℕ → Bool
strict_name name = parts_from false name

-- 24 at the 'L' of a name that is not so
unfoldable pub strictly : List ℕ → Read → Read
strictly s (Found dims (Simple k) next) = Found dims (Simple k) next
strictly s (Found dims (Class at n) next) = pick_r (strict_name (take n (drop at s))) (Found dims (Class at n) next) (Refused 24 (at - 1) 0)
strictly s (Refused code at byte) = Refused code at byte

unfoldable pub read_strict : List ℕ → Read
read_strict s = strictly s (read_whole s)
