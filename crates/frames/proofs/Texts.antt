-- Lines joined by LF are read as these lines, so what the program prints is line by line what the frames say.
use Rattle.std.specs.Prelude.{◌≡◌, refl, Bool, cond, List, [], ◌∷◌, ◌++◌, ℕ}
use Rattle.std.proofs.Common.{sym, ap, ◌∙◌, ne_eqb}
use Rattle.frames.specs.Frames.{empty_store}
use Rattle.frames.specs.Typeline.{in_front, lines_of, print_from, typeline}
use Rattle.frames.specs.Texts.{text_of, NoLf, Clean}

line-first : (l rest : List ℕ) → NoLf l → lines_of (l ++ (10 ∷ rest)) ≡ l ∷ lines_of rest
unfolding lines_of
line-first [] rest h = refl
line-first (b ∷ l) rest h =
    ap (λ (t : Bool). cond t ([] ∷ lines_of (l ++ (10 ∷ rest))) (in_front b (lines_of (l ++ (10 ∷ rest))))) (ne_eqb b 10 h.0)
    ∙ ap (in_front b) (line-first l rest h.1)

pub lines-back : (ls : List (List ℕ)) → Clean ls → lines_of (text_of ls) ≡ ls
unfolding text_of lines_of
lines-back [] h = refl
lines-back (l ∷ ls) h = line-first l (text_of ls) h.0 ∙ ap (λ (m : List (List ℕ)). l ∷ m) (lines-back ls h.1)

-- a last line may lack its LF
last-alone : (b : ℕ) (l : List ℕ) → NoLf (b ∷ l) → lines_of (b ∷ l) ≡ (b ∷ l) ∷ []
unfolding lines_of
last-alone b [] h = ap (λ (t : Bool). cond t ([] ∷ []) ((b ∷ []) ∷ [])) (ne_eqb b 10 h.0)
last-alone b (c ∷ l) h =
    ap (λ (t : Bool). cond t ([] ∷ lines_of (c ∷ l)) (in_front b (lines_of (c ∷ l)))) (ne_eqb b 10 h.0) ∙ ap (in_front b) (last-alone c l h.1)

no-lines : lines_of [] ≡ []
unfolding lines_of
no-lines = refl

append-assoc : (a b c : List ℕ) → (a ++ b) ++ c ≡ a ++ (b ++ c)
append-assoc [] b c = refl
append-assoc (x ∷ a) b c = ap (λ (l : List ℕ). x ∷ l) (append-assoc a b c)

pub last-line : (ls : List (List ℕ)) (b : ℕ) (l : List ℕ) → Clean ls → NoLf (b ∷ l) → lines_of (text_of ls ++ (b ∷ l)) ≡ lines_of (text_of ls ++ (b ∷ l ++ (10 ∷ [])))
unfolding text_of
last-line [] b l h k = last-alone b l k ∙ sym (line-first (b ∷ l) [] k ∙ ap (λ (m : List (List ℕ)). (b ∷ l) ∷ m) no-lines)
last-line (x ∷ ls) b l h k =
    ap lines_of (append-assoc x (10 ∷ text_of ls) (b ∷ l)) ∙ line-first x (text_of ls ++ (b ∷ l)) h.0
    ∙ ap (λ (m : List (List ℕ)). x ∷ m) (last-line ls b l h.1 k)
    ∙ sym (ap lines_of (append-assoc x (10 ∷ text_of ls) (b ∷ l ++ (10 ∷ []))) ∙ line-first x (text_of ls ++ (b ∷ l ++ (10 ∷ []))) h.0)

-- WHAT THE PROGRAM PRINTS is what is printed of each line in turn
pub typeline-lines : (ls : List (List ℕ)) → Clean ls → typeline (text_of ls) ≡ print_from 1 empty_store ls
unfolding typeline
typeline-lines ls h = ap (print_from 1 empty_store) (lines-back ls h)
