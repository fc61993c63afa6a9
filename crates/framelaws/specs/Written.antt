-- A MESSAGE AS A LINE: written in hex and read again it is the same message, and the frame of that line is the message against the state:
-- ORDER, then as its row.
use Rattle.std.specs.Prelude.{◌≡◌, refl, Bool, true, false, cond, ◌&&◌, List, [], ◌∷◌, ℕ, suc, ◌+◌, ◌-◌, ◌*◌, ◌/◌, ◌%◌, ◌^◌, ◌≤◌, ◌<◌, eqb, leb, ltb, length}
use Rattle.std.proofs.Common.{ap, ap₂, ◌∙◌, arith, eq-eqb, le-leb, le-ltb, ltb-true, ltb-false, leb-true}
use Rattle.std.proofs.Math.Option.{Option, some}
use Rattle.checks.specs.Checks as checks
use Rattle.problems.specs.Problems.{ProblemRow, counted, variable, bounded, flow, upper_flow, reading, writing}
use Rattle.hexline.specs.Hex.{digit, byte_then, hex_bytes, bad_hex, number_at, numbers_in, bytes_number}
use Rattle.frames.specs.Frames.{Store, kind_of, body_of, bad_kind, good_length, rank_of, Message, naming, recording, opening, row, solving, asking, Relating, Supertyping, Casting, message_of, frame_checks, Refused, stepped, accepted, frame_bytes, frame}
use Rattle.lineout.specs.Printed.{hex_digit}
use Rattle.framelaws.specs.Reached.{BytesIn}
use Rattle.framelaws.specs.Messages.{row_kind, message_kind, send_refusal}

-- ---- writing

unfoldable pub numbers_bytes : List ℕ → List ℕ
numbers_bytes [] = []
numbers_bytes (p ∷ ps) = p / 256 ∷ p % 256 ∷ numbers_bytes ps

-- eight bytes, high first
unfoldable pub word_bytes : ℕ → List ℕ
word_bytes w = w / 2 ^ 56 ∷ w / 2 ^ 48 % 256 ∷ w / 2 ^ 40 % 256 ∷ w / 2 ^ 32 % 256 ∷ w / 2 ^ 24 % 256 ∷ w / 2 ^ 16 % 256 ∷ w / 2 ^ 8 % 256 ∷ w % 256 ∷ []

abbrev pub two_numbers : ℕ → ℕ → List ℕ
two_numbers a b = a / 256 ∷ a % 256 ∷ b / 256 ∷ b % 256 ∷ []

unfoldable pub row_body : ProblemRow → List ℕ
row_body (counted n) = n / 256 ∷ n % 256 ∷ []
row_body (variable c) = c / 256 ∷ c % 256 ∷ []
row_body (bounded c k w) = c / 256 ∷ c % 256 ∷ k ∷ word_bytes w
row_body (flow a b) = two_numbers a b
row_body (upper_flow a b) = two_numbers a b
row_body (reading a b) = two_numbers a b
row_body (writing a b) = two_numbers a b

unfoldable pub message_body : Message → List ℕ
message_body (naming n) = n
message_body (recording f c ps) = f ∷ c / 256 ∷ c % 256 ∷ numbers_bytes ps
message_body opening = []
message_body (row r) = row_body r
message_body solving = []
message_body (asking q a b) = two_numbers a b

unfoldable pub hex_line : List ℕ → List ℕ
hex_line [] = []
hex_line (b ∷ bs) = hex_digit (b / 16) ∷ hex_digit (b % 16) ∷ hex_line bs

-- THE LINE OF A MESSAGE
unfoldable pub line_of : Message → List ℕ
line_of m = hex_line (message_kind m ∷ message_body m)

-- ---- what fits a frame's fields

abbrev pub AllUnder : ℕ → List ℕ → Type 0
AllUnder n [] = Unit {0}
AllUnder n (x ∷ xs) = (x < n) × AllUnder n xs

abbrev pub RowFits : ProblemRow → Type 0
RowFits (counted n) = n < 65536
RowFits (variable c) = c < 65536
RowFits (bounded c k w) = (c < 65536) × (k < 256) × (w < 2 ^ 64)
RowFits (flow a b) = (a < 65536) × (b < 65536)
RowFits (upper_flow a b) = (a < 65536) × (b < 65536)
RowFits (reading a b) = (a < 65536) × (b < 65536)
RowFits (writing a b) = (a < 65536) × (b < 65536)

abbrev pub Fits : Message → Type 0
Fits (naming n) = BytesIn n × (1 ≤ length n) × (length n ≤ 255)
Fits (recording f c ps) = (f < 256) × (c < 65536) × AllUnder 65536 ps × (length ps ≤ 254)
Fits opening = Unit {0}
Fits (row r) = RowFits r
Fits solving = Unit {0}
Fits (asking q a b) = (a < 65536) × (b < 65536)

-- ---- digits

digit-hex : (d : ℕ) → d < 16 → digit (hex_digit d) ≡ some d
unfolding digit
digit-hex d h = go (ltb d 10) refl
  where
    go : (b : Bool) → ltb d 10 ≡ b → digit (cond b (48 + d) (87 + d)) ≡ some d
    go true e =
        let l = ltb-true d 10 e in
        rw (le-leb 48 (48 + d) (omega arith), le-leb (48 + d) 57 (omega arith)) (ap some (let z : 48 + d - 48 ≡ d = omega arith in z))
    go false e =
        let l = ltb-false d 10 e in
        rw (le-leb 48 (87 + d) (omega arith), no (87 + d) 57 (omega arith), le-leb 97 (87 + d) (omega arith), le-leb (87 + d) 102 (omega arith)) (ap some (let z : 87 + d - 87 ≡ d = omega arith in z))
      where
        no : (x y : ℕ) → y < x → leb x y ≡ false
        no x y k = go-no (leb x y) refl
          where
            go-no : (c : Bool) → leb x y ≡ c → c ≡ false
            go-no true q = absurd (let z = leb-true x y q in omega arith)
            go-no false q = refl

hex-back : (bs : List ℕ) → BytesIn bs → hex_bytes (hex_line bs) ≡ some bs
unfolding hex_bytes hex_line
hex-back [] h = refl
hex-back (b ∷ bs) h =
    let k = h.0 in
    ap₂ (λ (x y : Option ℕ). byte_then x y (hex_bytes (hex_line bs))) (digit-hex (b / 16) (omega arith)) (digit-hex (b % 16) (omega arith))
    ∙ ap (byte_then (some (b / 16)) (some (b % 16))) (hex-back bs h.1)
    ∙ ap (λ (x : ℕ). some (x ∷ bs)) (let z : b / 16 * 16 + b % 16 ≡ b = omega arith in z)

-- ---- the body's bytes

numbers-bytes : (ps : List ℕ) → AllUnder 65536 ps → BytesIn (numbers_bytes ps)
unfolding numbers_bytes
numbers-bytes [] h = tt
numbers-bytes (p ∷ ps) h = let k = h.0 in (omega arith, (omega arith, numbers-bytes ps h.1))

numbers-back : (ps : List ℕ) → numbers_in (numbers_bytes ps) ≡ ps
unfolding numbers_bytes numbers_in
numbers-back [] = refl
numbers-back (p ∷ ps) = ap₂ (λ (x : ℕ) (l : List ℕ). x ∷ l) (let z : p / 256 * 256 + p % 256 ≡ p = omega arith in z) (numbers-back ps)

numbers-length : (ps : List ℕ) → length (numbers_bytes ps) ≡ 2 * length ps
unfolding numbers_bytes
numbers-length [] = refl
numbers-length (p ∷ ps) = let e = numbers-length ps in omega arith

word-bytes : (w : ℕ) → w < 2 ^ 64 → BytesIn (word_bytes w)
unfolding word_bytes
word-bytes w h = (omega arith, (omega arith, (omega arith, (omega arith, (omega arith, (omega arith, (omega arith, (omega arith, tt))))))))

word-back : (w : ℕ) → bytes_number 0 (word_bytes w) ≡ w
unfolding word_bytes bytes_number
word-back w =
    ap (λ (a : ℕ). bytes_number a (b6 ∷ b5 ∷ b4 ∷ b3 ∷ b2 ∷ b1 ∷ b0 ∷ [])) (let z : 0 * 256 + w / 2 ^ 56 ≡ w / 2 ^ 56 = omega arith in z)
    ∙ ap (λ (a : ℕ). bytes_number a (b5 ∷ b4 ∷ b3 ∷ b2 ∷ b1 ∷ b0 ∷ [])) (let z : w / 2 ^ 56 * 256 + w / 2 ^ 48 % 256 ≡ w / 2 ^ 48 = omega arith in z)
    ∙ ap (λ (a : ℕ). bytes_number a (b4 ∷ b3 ∷ b2 ∷ b1 ∷ b0 ∷ [])) (let z : w / 2 ^ 48 * 256 + w / 2 ^ 40 % 256 ≡ w / 2 ^ 40 = omega arith in z)
    ∙ ap (λ (a : ℕ). bytes_number a (b3 ∷ b2 ∷ b1 ∷ b0 ∷ [])) (let z : w / 2 ^ 40 * 256 + w / 2 ^ 32 % 256 ≡ w / 2 ^ 32 = omega arith in z)
    ∙ ap (λ (a : ℕ). bytes_number a (b2 ∷ b1 ∷ b0 ∷ [])) (let z : w / 2 ^ 32 * 256 + w / 2 ^ 24 % 256 ≡ w / 2 ^ 24 = omega arith in z)
    ∙ ap (λ (a : ℕ). bytes_number a (b1 ∷ b0 ∷ [])) (let z : w / 2 ^ 24 * 256 + w / 2 ^ 16 % 256 ≡ w / 2 ^ 16 = omega arith in z)
    ∙ ap (λ (a : ℕ). bytes_number a (b0 ∷ [])) (let z : w / 2 ^ 16 * 256 + w / 2 ^ 8 % 256 ≡ w / 2 ^ 8 = omega arith in z)
    ∙ (let z : w / 2 ^ 8 * 256 + w % 256 ≡ w = omega arith in z)
  where
    b6 : ℕ
    b6 = w / 2 ^ 48 % 256

    b5 : ℕ
    b5 = w / 2 ^ 40 % 256

    b4 : ℕ
    b4 = w / 2 ^ 32 % 256

    b3 : ℕ
    b3 = w / 2 ^ 24 % 256

    b2 : ℕ
    b2 = w / 2 ^ 16 % 256

    b1 : ℕ
    b1 = w / 2 ^ 8 % 256

    b0 : ℕ
    b0 = w % 256

two-bytes : (n : ℕ) → n < 65536 → (n / 256 < 256) × (n % 256 < 256)
two-bytes n h = (omega arith, omega arith)

pair-bytes : (a b : ℕ) → a < 65536 → b < 65536 → BytesIn (two_numbers a b)
pair-bytes a b h k = ((two-bytes a h).0, ((two-bytes a h).1, ((two-bytes b k).0, ((two-bytes b k).1, tt))))

number-back : (n : ℕ) → n / 256 * 256 + n % 256 ≡ n
number-back n = omega arith

row-bytes : (r : ProblemRow) → RowFits r → BytesIn (row_body r)
unfolding row_body
row-bytes (counted n) h = ((two-bytes n h).0, ((two-bytes n h).1, tt))
row-bytes (variable c) h = ((two-bytes c h).0, ((two-bytes c h).1, tt))
row-bytes (bounded c k w) h = ((two-bytes c h.0).0, ((two-bytes c h.0).1, (h.1, word-bytes w h.2)))
row-bytes (flow a b) h = pair-bytes a b h.0 h.1
row-bytes (upper_flow a b) h = pair-bytes a b h.0 h.1
row-bytes (reading a b) h = pair-bytes a b h.0 h.1
row-bytes (writing a b) h = pair-bytes a b h.0 h.1

pub body-fits : (m : Message) → Fits m → BytesIn (message_body m)
unfolding message_body
body-fits (naming n) h = h.0
body-fits (recording f c ps) h = (h.0, ((two-bytes c h.1).0, ((two-bytes c h.1).1, numbers-bytes ps h.2)))
body-fits opening h = tt
body-fits (row r) h = row-bytes r h
body-fits solving h = tt
body-fits (asking q a b) h = pair-bytes a b h.0 h.1

-- ---- READ AGAIN IT IS THE SAME MESSAGE

pub message-back : (m : Message) → message_of (message_kind m) (message_body m) ≡ m
unfolding message_of message_kind row_kind message_body row_body number_at
message-back (naming n) = refl
message-back (recording f c ps) = λ i. recording f (number-back c i) (numbers-back ps i)
message-back opening = refl
message-back (row (counted n)) = λ i. row (counted (number-back n i))
message-back (row (variable c)) = λ i. row (variable (number-back c i))
message-back (row (bounded c k w)) = λ i. row (bounded (number-back c i) k (word-back w i))
message-back (row (flow a b)) = λ i. row (flow (number-back a i) (number-back b i))
message-back (row (upper_flow a b)) = λ i. row (upper_flow (number-back a i) (number-back b i))
message-back (row (reading a b)) = λ i. row (reading (number-back a i) (number-back b i))
message-back (row (writing a b)) = λ i. row (writing (number-back a i) (number-back b i))
message-back solving = refl
message-back (asking Relating a b) = λ i. asking Relating (number-back a i) (number-back b i)
message-back (asking Supertyping a b) = λ i. asking Supertyping (number-back a i) (number-back b i)
message-back (asking Casting a b) = λ i. asking Casting (number-back a i) (number-back b i)

pub message-sized : (m : Message) → Fits m → good_length (message_kind m) (length (message_body m)) ≡ true
unfolding good_length message_kind row_kind message_body row_body word_bytes
message-sized (naming n) h = ap₂ (λ (a b : Bool). a && b) (le-leb 1 (length n) h.1) (le-leb (length n) 255 h.2)
message-sized (recording f c ps) h =
    let e = numbers-length ps in
    let k = h.3 in
    rw (le-leb 3 (suc (suc (suc (length (numbers_bytes ps))))) (omega arith), eq-eqb (suc (suc (suc (length (numbers_bytes ps)))) % 2) 1 (omega arith), le-leb (suc (suc (suc (length (numbers_bytes ps))))) 511 (omega arith))
message-sized opening h = refl
message-sized (row (counted n)) h = refl
message-sized (row (variable c)) h = refl
message-sized (row (bounded c k w)) h = refl
message-sized (row (flow a b)) h = refl
message-sized (row (upper_flow a b)) h = refl
message-sized (row (reading a b)) h = refl
message-sized (row (writing a b)) h = refl
message-sized solving h = refl
message-sized (asking Relating a b) h = refl
message-sized (asking Supertyping a b) h = refl
message-sized (asking Casting a b) h = refl

message-short : (m : Message) → Fits m → length (message_body m) ≤ 511
unfolding message_body row_body word_bytes
message-short (naming n) h = let k = h.2 in omega arith
message-short (recording f c ps) h = let e = numbers-length ps in let k = h.3 in omega arith
message-short opening h = omega arith
message-short (row (counted n)) h = omega arith
message-short (row (variable c)) h = omega arith
message-short (row (bounded c k w)) h = omega arith
message-short (row (flow a b)) h = omega arith
message-short (row (upper_flow a b)) h = omega arith
message-short (row (reading a b)) h = omega arith
message-short (row (writing a b)) h = omega arith
message-short solving h = omega arith
message-short (asking q a b) h = omega arith

kind-small : (m : Message) → (bad_kind (message_kind m) ≡ false) × (message_kind m < 256)
unfolding bad_kind message_kind row_kind
kind-small (naming n) = (refl, omega arith)
kind-small (recording f c ps) = (refl, omega arith)
kind-small opening = (refl, omega arith)
kind-small (row (counted n)) = (refl, omega arith)
kind-small (row (variable c)) = (refl, omega arith)
kind-small (row (bounded c k w)) = (refl, omega arith)
kind-small (row (flow a b)) = (refl, omega arith)
kind-small (row (upper_flow a b)) = (refl, omega arith)
kind-small (row (reading a b)) = (refl, omega arith)
kind-small (row (writing a b)) = (refl, omega arith)
kind-small solving = (refl, omega arith)
kind-small (asking Relating a b) = (refl, omega arith)
kind-small (asking Supertyping a b) = (refl, omega arith)
kind-small (asking Casting a b) = (refl, omega arith)

-- ---- THE FRAME OF A MESSAGE'S LINE

pub line-bytes : (m : Message) → Fits m → hex_bytes (line_of m) ≡ some (message_kind m ∷ message_body m)
unfolding line_of
line-bytes m h = hex-back (message_kind m ∷ message_body m) ((kind-small m).1, body-fits m h)

checks-are : (m : Message) (s : Store) → Fits m → checks.first_refusal (frame_checks (some (message_kind m ∷ message_body m)) s) ≡ send_refusal m s
unfolding frame_checks send_refusal checks.first_refusal bad_hex
checks-are m s h =
    let l = message-short m h in
    rw (le-ltb 512 (suc (length (message_body m))) (omega arith), (kind-small m).0, message-sized m h, message-back m)

-- WHAT THE STATE MAKES OF THE LINE: 1, 2 and 3 never; 4; then as the row
pub frame-sends : (m : Message) (s : Store) → Fits m
    → frame (line_of m) s ≡ cond (eqb (send_refusal m s) 0) (accepted (rank_of (message_kind m)) m s) (stepped (Refused (send_refusal m s)) s)
unfolding frame frame_bytes
frame-sends m s h =
    ap (λ (f : Option (List ℕ)). cond (eqb (checks.first_refusal (frame_checks f s)) 0) (accepted (rank_of (kind_of f)) (message_of (kind_of f) (body_of f)) s) (stepped (Refused (checks.first_refusal (frame_checks f s))) s)) (line-bytes m h)
    ∙ ap₂ (λ (k : ℕ) (n : Message). cond (eqb k 0) (accepted (rank_of (message_kind m)) n s) (stepped (Refused k) s)) (checks-are m s h) (message-back m)
