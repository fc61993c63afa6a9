-- EXAMPLES BY COMPUTATION: the whole program on whole inputs, the paper's example byte for byte among them.
use Rattle.std.specs.Prelude.{List, [], ◌∷◌, ℕ}
use Rattle.text.specs.Text.{ascii}

-- THE SCOPE PAPER'S: exactly its four lines
abbrev pub paper_input : List (List ℕ)
paper_input =
    ascii "01612f50726f6265" ∷
    ascii "01612f547275737341" ∷
    ascii "01612f547275737342" ∷
    ascii "016a6176612f6c616e672f4f626a656374" ∷
    ascii "020000000003" ∷
    ascii "020000010000" ∷
    ascii "020000020000" ∷
    ascii "02000003" ∷
    ascii "030002" ∷
    ascii "040000" ∷
    ascii "040001" ∷
    ascii "050000030001000000000001" ∷
    ascii "050000030001000000000002" ∷
    ascii "050001020001000000000000" ∷
    ascii "0600000001" ∷
    ascii "0a" ∷
    ascii "0b00000001" ∷
    ascii "0c00010002" ∷
    []

abbrev pub paper_output : List (List ℕ)
paper_output =
    ascii "V 0 0001000000000000" ∷
    ascii "V 1 0001000000000000" ∷
    ascii "R 1" ∷
    ascii "L 0" ∷
    []

-- without the record of Object (line 8) the relation is 2
abbrev pub unrecorded_input : List (List ℕ)
unrecorded_input =
    ascii "01612f50726f6265" ∷
    ascii "01612f547275737341" ∷
    ascii "01612f547275737342" ∷
    ascii "016a6176612f6c616e672f4f626a656374" ∷
    ascii "020000000003" ∷
    ascii "020000010000" ∷
    ascii "020000020000" ∷
    ascii "030002" ∷
    ascii "040000" ∷
    ascii "040001" ∷
    ascii "050000030001000000000001" ∷
    ascii "050000030001000000000002" ∷
    ascii "050001020001000000000000" ∷
    ascii "0600000001" ∷
    ascii "0a" ∷
    ascii "0b00000001" ∷
    ascii "0c00010002" ∷
    []

abbrev pub unrecorded_output : List (List ℕ)
unrecorded_output =
    ascii "V 0 0001000000000000" ∷
    ascii "V 1 0001000000000000" ∷
    ascii "R 2" ∷
    ascii "L 0" ∷
    []

-- 5 for a name not above the last, 4 for a lower kind and for 03 again, 8 for a count over 512, 6 for a component; a refused frame is as if it had not come
abbrev pub order_input : List (List ℕ)
order_input =
    ascii "0161" ∷
    ascii "016a6176612f6c616e672f4f626a656374" ∷
    ascii "0162" ∷
    ascii "02000000" ∷
    ascii "0163" ∷
    ascii "030201" ∷
    ascii "030001" ∷
    ascii "030001" ∷
    ascii "040000" ∷
    ascii "040001" ∷
    ascii "0200" ∷
    ascii "0a" ∷
    ascii "0900000000" ∷
    ascii "0d00000000" ∷
    []

abbrev pub order_output : List (List ℕ)
order_output =
    ascii "E 3 5" ∷
    ascii "E 5 4" ∷
    ascii "E 6 8" ∷
    ascii "E 8 4" ∷
    ascii "E 10 6" ∷
    ascii "E 11 3" ∷
    ascii "V 0 -" ∷
    ascii "E 13 4" ∷
    ascii "C 1" ∷
    []

-- odd, upper case, empty, an unknown kind; 10 for a name, then 5 for one not above the last that was taken, then 9
abbrev pub lines_input : List (List ℕ)
lines_input =
    ascii "016" ∷
    ascii "016A" ∷
    ascii "" ∷
    ascii "0f" ∷
    ascii "0162" ∷
    ascii "01ff" ∷
    ascii "0161" ∷
    ascii "0163" ∷
    ascii "0a" ∷
    []

abbrev pub lines_output : List (List ℕ)
lines_output =
    ascii "E 1 1" ∷
    ascii "E 2 1" ∷
    ascii "E 3 1" ∷
    ascii "E 4 2" ∷
    ascii "E 6 10" ∷
    ascii "E 7 5" ∷
    ascii "E 9 9" ∷
    []

-- 20 from a run leaves the state and the rank: 09 is taken after it, and refused 4 after an answer
abbrev pub late_input : List (List ℕ)
late_input =
    ascii "0161" ∷
    ascii "016a6176612f6c616e672f4f626a656374" ∷
    ascii "030002" ∷
    ascii "040000" ∷
    ascii "05000004ff00000000000005" ∷
    ascii "0900010000" ∷
    ascii "0a" ∷
    ascii "0900000000" ∷
    ascii "0b00000001" ∷
    ascii "0900000000" ∷
    []

abbrev pub late_output : List (List ℕ)
late_output =
    ascii "E 7 20" ∷
    ascii "R 0" ∷
    ascii "E 10 4" ∷
    []

-- 0e opens a layer and ranks as 02: a record may follow it, and no name (4). A body is 3, 0f is 2, and a record with the flags that open a layer in slices 6
abbrev pub ranked_input : List (List ℕ)
ranked_input =
    ascii "0e" ∷
    ascii "0e00" ∷
    ascii "0f" ∷
    ascii "028e0000" ∷
    ascii "0161" ∷
    []

abbrev pub ranked_output : List (List ℕ)
ranked_output =
    ascii "E 2 3" ∷
    ascii "E 3 2" ∷
    ascii "E 4 6" ∷
    ascii "E 5 4" ∷
    []

-- TWO LAYERS, by hand from hierarchy.rs. The lower one declares a, a class, with the parent b, and b and c, interfaces, with the parent Object, which it
-- records too; the upper one, `layered` over it, records a with the parent Object and declares b, a final class, with the parent Object.
-- `parent_set` finds the upper one's entry of a and asks no base: the distances of a are a and Object alone, both recorded, so a is No for b (R 1),
-- and Object is the only common ancestor of a and b (L 3), so it is their join (V 0). It finds c in the base: c, too, is No for b (R 1). `reference_type`
-- finds a and c in the base: a class that is not final against an interface (C 1); and b above: a final class against an interface (C 0)
abbrev pub layered_input : List (List ℕ)
layered_input =
    ascii "0161" ∷
    ascii "0162" ∷
    ascii "0163" ∷
    ascii "016a6176612f6c616e672f4f626a656374" ∷
    ascii "020100000001" ∷
    ascii "020300010003" ∷
    ascii "020300020003" ∷
    ascii "02000003" ∷
    ascii "0e" ∷
    ascii "020000000003" ∷
    ascii "020500010003" ∷
    ascii "030001" ∷
    ascii "040000" ∷
    ascii "050000030001000000000000" ∷
    ascii "050000030001000000000001" ∷
    ascii "0a" ∷
    ascii "0b00000001" ∷
    ascii "0b00020001" ∷
    ascii "0c00000001" ∷
    ascii "0d00000002" ∷
    ascii "0d00010002" ∷
    []

abbrev pub layered_output : List (List ℕ)
layered_output =
    ascii "V 0 0001000000000003" ∷
    ascii "R 1" ∷
    ascii "R 1" ∷
    ascii "L 3" ∷
    ascii "C 1" ∷
    ascii "C 0" ∷
    []

-- the same rows in one layer: `add` extends the entry of a, so b is a parent of it too (V 0, R 0, L 1); the facts are those of the last row that declares
-- the class, here as above
abbrev pub united_input : List (List ℕ)
united_input =
    ascii "0161" ∷
    ascii "0162" ∷
    ascii "0163" ∷
    ascii "016a6176612f6c616e672f4f626a656374" ∷
    ascii "020100000001" ∷
    ascii "020300010003" ∷
    ascii "020300020003" ∷
    ascii "02000003" ∷
    ascii "020000000003" ∷
    ascii "020500010003" ∷
    ascii "030001" ∷
    ascii "040000" ∷
    ascii "050000030001000000000000" ∷
    ascii "050000030001000000000001" ∷
    ascii "0a" ∷
    ascii "0b00000001" ∷
    ascii "0b00020001" ∷
    ascii "0c00000001" ∷
    ascii "0d00000002" ∷
    ascii "0d00010002" ∷
    []

abbrev pub united_output : List (List ℕ)
united_output =
    ascii "V 0 0001000000000001" ∷
    ascii "R 0" ∷
    ascii "R 1" ∷
    ascii "L 1" ∷
    ascii "C 1" ∷
    ascii "C 0" ∷
    []

-- the fifth layer is 8, and the state stays: the record after it unites with the one before it, so a has both parents; 0e after 03 is 4
abbrev pub fifth_input : List (List ℕ)
fifth_input =
    ascii "0161" ∷
    ascii "0162" ∷
    ascii "0163" ∷
    ascii "016a6176612f6c616e672f4f626a656374" ∷
    ascii "0e" ∷
    ascii "0e" ∷
    ascii "0e" ∷
    ascii "020000000001" ∷
    ascii "0e" ∷
    ascii "020000000002" ∷
    ascii "030001" ∷
    ascii "0e" ∷
    ascii "0b00000001" ∷
    ascii "0b00000002" ∷
    ascii "0b00010002" ∷
    []

abbrev pub fifth_output : List (List ℕ)
fifth_output =
    ascii "E 9 8" ∷
    ascii "E 12 4" ∷
    ascii "R 0" ∷
    ascii "R 0" ∷
    ascii "R 2" ∷
    []
