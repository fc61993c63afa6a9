-- Laws of names: the first ';' after a name ends it, and the strict test decides the ClassName of the JVMS.
use Rattle.std.specs.Prelude.{◌≡◌, refl, Bool, true, false, not, ◌&&◌, ◌↔◌, ◌⊎◌, ℕ, suc, ◌<◌, eqb, length}
use Rattle.std.proofs.Common.{sym, ap, ◌∙◌, inl, inr, arith, length-append, eqb-true, eq-eqb, ne_eqb}
use Rattle.std.proofs.lemmas.Bool.{false≢true, eqb-false, not-true}
use mathlib.Core.List.Memᴰ
use mathlib.Core.List.{List, [], ◌∷◌, ◌++◌, Memᴰ, append_assoc, append-nil}
use Rattle.order.specs.Truth.{both}
use Rattle.utf8.specs.Utf8.{WellFormed}
use Rattle.utf8.specs.Laws.{well_formed-append, ascii-more, ascii-cut}
use Rattle.descriptor.specs.Read.{index_of, parts_from, strict_name}
use Rattle.jvms.specs.Jvms.{UnqualifiedName, AnyName, ClassName, ClassName.last, ClassName.qualified}

-- ---- the first ';'

-- THE FIRST c AFTER A LIST WITHOUT c STANDS AT THE LIST'S END
pub index-seam : (c : ℕ) (xs rest : List ℕ) → (Memᴰ c xs → ⊥) → index_of c (xs ++ c ∷ rest) ≡ length xs
unfolding index_of
index-seam c [] rest w = rw (eq-eqb c c refl)
index-seam c (b ∷ bs) rest w = rw (ne_eqb b c (λ e. w (Memᴰ.head (sym e)))) (ap suc (index-seam c bs rest (λ m. w (Memᴰ.tail m))))

-- a list cut at its first c
pub record Cut (c : ℕ) (l : List ℕ) : Type 0 where
  pub front : List ℕ
  pub rest : List ℕ
  pub whole : l ≡ front ++ c ∷ rest
  pub size : length front ≡ index_of c l
  pub without : Memᴰ c front → ⊥

cut-later : {c b : ℕ} {bs : List ℕ} → eqb b c ≡ false → Cut c bs → Cut c (b ∷ bs)
unfolding index_of
cut-later {c} {b} e r =
    record { front = b ∷ r.front; rest = r.rest; whole = ap (λ (x : List ℕ). b ∷ x) r.whole; size = rw e (ap suc r.size); without = avoid }
  where
    avoid : Memᴰ c (b ∷ r.front) → ⊥
    avoid (Memᴰ.head q) = eqb-false b c e (sym q)
    avoid (Memᴰ.tail m) = r.without m

-- A LIST WITH A c IS CUT AT THE FIRST ONE
pub index-cut : (c : ℕ) (l : List ℕ) → index_of c l < length l → Cut c l
unfolding index_of
index-cut c [] h = absurd (let z : ⊥ = omega arith in z)
index-cut c (b ∷ bs) h = go (eqb b c) refl (index-cut c bs)
  where
    go : (t : Bool) → eqb b c ≡ t → (index_of c bs < length bs → Cut c bs) → Cut c (b ∷ bs)
    go true e ih = record { front = []; rest = bs; whole = ap (λ (x : ℕ). x ∷ bs) (eqb-true b c e); size = rw e; without = Memᴰ.not-nil }
    go false e ih = cut-later e (ih (let l : suc (index_of c bs) < suc (length bs) = rw e at h in omega arith))

-- ---- the strict test

-- none of the characters that an unqualified name may not have
abbrev Plain : List ℕ → Type 0
Plain l = (c : ℕ) → Memᴰ c (46 ∷ 59 ∷ 91 ∷ 47 ∷ []) → Memᴰ c l → ⊥

plain-tail : {b : ℕ} {bs : List ℕ} → Plain (b ∷ bs) → Plain bs
plain-tail p c s m = p c s (Memᴰ.tail m)

plain-step : (begun : Bool) (b : ℕ) (bs ys : List ℕ) → Plain (b ∷ bs) → parts_from begun (b ∷ ys) ≡ parts_from true ys
unfolding parts_from
plain-step begun b bs ys p =
    rw (ne_eqb b 47 (λ e. slash (sym e)), ne_eqb b 46 (λ e. dot (sym e)), ne_eqb b 91 (λ e. bracket (sym e)))
  where
    dot : 46 ≡ b → ⊥
    dot e = p 46 (Memᴰ.head refl) (Memᴰ.head e)

    bracket : 91 ≡ b → ⊥
    bracket e = p 91 (Memᴰ.tail (Memᴰ.tail (Memᴰ.head refl))) (Memᴰ.head e)

    slash : 47 ≡ b → ⊥
    slash e = p 47 (Memᴰ.tail (Memᴰ.tail (Memᴰ.tail (Memᴰ.head refl)))) (Memᴰ.head e)

plain-pass : (xs ys : List ℕ) → Plain xs → parts_from true (xs ++ ys) ≡ parts_from true ys
plain-pass [] ys p = refl
plain-pass (b ∷ bs) ys p = plain-step true b bs (bs ++ ys) p ∙ plain-pass bs ys (plain-tail p)

-- an identifier is passed
part-pass : (xs ys : List ℕ) → UnqualifiedName xs → parts_from false (xs ++ ys) ≡ parts_from true ys
part-pass [] ys u = absurd (let z : ⊥ = omega (arith, u.not_empty) in z)
part-pass (b ∷ bs) ys u = plain-step false b bs (bs ++ ys) u.without ∙ plain-pass bs ys (plain-tail u.without)

class-strict : {name : List ℕ} → ClassName name → strict_name name ≡ true
unfolding strict_name parts_from
class-strict (last {name} u) = ap (parts_from false) (sym (append-nil name)) ∙ part-pass name [] u
class-strict (qualified {name} {rest} u c) = part-pass name (47 ∷ rest) u ∙ class-strict c

any-of : {name : List ℕ} → UnqualifiedName name → AnyName name
any-of u = record { not_empty = u.not_empty; well_formed = u.well_formed; without = λ c m. u.without c (Memᴰ.tail (semicolon m)) }
  where
    semicolon : {c : ℕ} → Memᴰ c (59 ∷ []) → Memᴰ c (59 ∷ 91 ∷ 47 ∷ [])
    semicolon m = Memᴰ.head (Memᴰ.eq_of_singleton m)

class-any : {name : List ℕ} → ClassName name → AnyName name
class-any (last u) = any-of u
class-any (qualified {name} {rest} u c) = join (class-any c)
  where
    avoid : AnyName rest → (b : ℕ) → Memᴰ b (59 ∷ []) → Memᴰ b name ⊎ Memᴰ b (47 ∷ rest) → ⊥
    avoid r b s (inl m) = (any-of u).without b s m
    avoid r b s (inr (Memᴰ.head e)) = let q = Memᴰ.eq_of_singleton s in let z : ⊥ = omega arith in z
    avoid r b s (inr (Memᴰ.tail m)) = r.without b s m

    join : AnyName rest → AnyName (name ++ 47 ∷ rest)
    join r = record {
      not_empty = simp length-append (omega arith);
      well_formed = well_formed-append u.well_formed (ascii-more (omega arith) r.well_formed);
      without = λ b s m. avoid r b s (Memᴰ.append_cases name m);
    }

plain-snoc : (l : List ℕ) (b : ℕ) → Plain l → (b ≡ 46 → ⊥) → (b ≡ 59 → ⊥) → (b ≡ 91 → ⊥) → (b ≡ 47 → ⊥) → Plain (l ++ b ∷ [])
plain-snoc l b p dot semicolon bracket slash c s m = go (Memᴰ.append_cases l m)
  where
    at : {d : ℕ} → c ≡ b → Memᴰ d (46 ∷ 59 ∷ 91 ∷ 47 ∷ []) → d ≡ c → ⊥
    at q (Memᴰ.head e) r = dot (let z : b ≡ 46 = cc in z)
    at q (Memᴰ.tail (Memᴰ.head e)) r = semicolon (let z : b ≡ 59 = cc in z)
    at q (Memᴰ.tail (Memᴰ.tail (Memᴰ.head e))) r = bracket (let z : b ≡ 91 = cc in z)
    at q (Memᴰ.tail (Memᴰ.tail (Memᴰ.tail x))) r = slash (let e = Memᴰ.eq_of_singleton x in let z : b ≡ 47 = cc in z)

    go : Memᴰ c l ⊎ Memᴰ c (b ∷ []) → ⊥
    go (inl n) = p c s n
    go (inr n) = at (Memᴰ.eq_of_singleton n) s refl

-- a part that has begun with `front`, and the rest of the name, make a class name where the test says so
abbrev Parts : List ℕ → Bool → List ℕ → Type 0
Parts front begun bs =
    (begun ≡ true → 0 < length front) → Plain front → (Memᴰ 59 bs → ⊥) → WellFormed (front ++ bs) → parts_from begun bs ≡ true → ClassName (front ++ bs)

class-from : (front : List ℕ) (begun : Bool) (bs : List ℕ) → Parts front begun bs
unfolding parts_from
class-from front begun [] some plain uncut w e = rw append-nil (last (record { not_empty = some e; well_formed = rw append-nil at w; without = plain }))
class-from front begun (b ∷ bs) some plain uncut w e = go (eqb b 47) refl (class-from [] false bs) (class-from (front ++ b ∷ []) true bs)
  where
    later : Memᴰ 59 bs → ⊥
    later m = uncut (Memᴰ.tail m)

    longer : eqb b 47 ≡ false → not (eqb b 46) ≡ true → not (eqb b 91) ≡ true → Plain (front ++ b ∷ [])
    longer slash dot bracket =
        let no-dot = eqb-false b 46 (not-true (eqb b 46) dot) in
        let no-bracket = eqb-false b 91 (not-true (eqb b 91) bracket) in
        plain-snoc front b plain no-dot (λ x. uncut (Memᴰ.head (sym x))) no-bracket (eqb-false b 47 slash)

    go : (t : Bool) → eqb b 47 ≡ t → Parts [] false bs → Parts (front ++ b ∷ []) true bs → ClassName (front ++ b ∷ bs)
    go true q fresh going =
        let parts = both begun (parts_from false bs) (rw q at e) in
        let slash = eqb-true b 47 q in
        let wells = ascii-cut front bs 47 (omega arith) (rw slash at w) in
        let own : UnqualifiedName front = record { not_empty = some parts.0; well_formed = wells.0; without = plain } in
        rw slash (qualified own (fresh (λ x. absurd (false≢true x)) (λ c s m. Memᴰ.not-nil m) later wells.1 parts.1))
    go false q fresh going =
        let parts = both (not (eqb b 46) && not (eqb b 91)) (parts_from true bs) (rw q at e) in
        let marks = both (not (eqb b 46)) (not (eqb b 91)) parts.0 in
        rw append_assoc at (going (λ x. simp length-append (omega arith)) (longer q marks.0 marks.1) later (rw append_assoc w) parts.1)

-- THE STRICT TEST DECIDES THE CLASS NAMES OF JVMS 4.2.1 AMONG THE NAMES THAT ORDINARY READING TAKES
pub class-name : (name : List ℕ) → ClassName name ↔ (AnyName name × (strict_name name ≡ true))
unfolding strict_name
class-name name = (λ c. (class-any c, class-strict c), strict)
  where
    strict : AnyName name × (parts_from false name ≡ true) → ClassName name
    strict a = class-from [] false name (λ x. absurd (false≢true x)) (λ c s m. Memᴰ.not-nil m) (a.0.without 59 (Memᴰ.head refl)) a.0.well_formed a.1
