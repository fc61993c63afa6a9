-- The Rust's join_all sorts its list and then folds it; the code is handed a list in order and folds it. That is the same, in whatever
-- order the Rust has the list.
use Rattle.std.specs.Prelude.{◌≡◌, refl, Bool, true, false, cond}
use Rattle.std.proofs.Common.{sym, ap, ap₂, ◌∙◌}
use Rattle.std.proofs.lemmas.Bool.{false≢true}
use mathlib.Core.List.{List, [], ◌∷◌, Permᴰ}
use Rattle.std.proofs.Math.Option.{Option}
use Rattle.std.specs.declared.cmp.Ordering.{Ordering}
use Rattle.std.specs.declared.cmp.Ordering.TheVariants.{Less, Equal, Greater}
use Rattle.order.specs.Compare.{is_less, flip}
use Rattle.ty.specs.Types.{ArgType, compare}
use Rattle.ty.specs.Order.{compare-equal, compare-swap, compare-trans}
use Rattle.lattice.specs.Lattice.{World, join_all}

-- types in their order, none twice: after t, and from the first on
abbrev pub AscendFrom : ArgType → List ArgType → Type 0
AscendFrom t [] = Unit {0}
AscendFrom t (u ∷ us) = (compare t u ≡ Less) × AscendFrom u us

abbrev pub Ascend : List ArgType → Type 0
Ascend [] = Unit {0}
Ascend (t ∷ ts) = AscendFrom t ts

-- t before the first that is not less
unfoldable pub insert_type : ArgType → List ArgType → List ArgType
insert_type t [] = t ∷ []
insert_type t (u ∷ us) = cond (is_less (compare u t)) (u ∷ insert_type t us) (t ∷ u ∷ us)

unfoldable pub sort_types : List ArgType → List ArgType
sort_types [] = []
sort_types (t ∷ ts) = insert_type t (sort_types ts)

-- join_all as the Rust has it
unfoldable pub join_sorted : World → List ArgType → Option ArgType
join_sorted w ts = join_all w (sort_types ts)

-- ---- one type put in

module _ (t u : ArgType) (us : List ArgType) where
  insert-after : is_less (compare u t) ≡ true → insert_type t (u ∷ us) ≡ u ∷ insert_type t us
  unfolding insert_type
  insert-after e = rw e

  insert-before : is_less (compare u t) ≡ false → insert_type t (u ∷ us) ≡ t ∷ u ∷ us
  unfolding insert_type
  insert-before e = rw e

not-less : (t u : ArgType) → compare t u ≡ Less → is_less (compare u t) ≡ false
not-less t u h = ap is_less (compare-swap t u ∙ ap flip h)

is-less : (o : Ordering) → is_less o ≡ true → o ≡ Less
is-less Less e = refl
is-less Equal e = absurd (false≢true e)
is-less Greater e = absurd (false≢true e)

-- ---- a list in order

insert-first : (t : ArgType) (ts : List ArgType) → AscendFrom t ts → insert_type t ts ≡ t ∷ ts
unfolding insert_type
insert-first t [] h = refl
insert-first t (u ∷ us) h = insert-before t u us (not-less t u h.0)

sort-from : (t : ArgType) (ts : List ArgType) → AscendFrom t ts → sort_types (t ∷ ts) ≡ t ∷ ts
unfolding sort_types insert_type
sort-from t [] h = refl
sort-from t (u ∷ us) h = ap (insert_type t) (sort-from u us h.1) ∙ insert-first t (u ∷ us) h

-- A LIST IN ORDER IS AS THE SORT LEAVES IT
pub sort-same : (ts : List ArgType) → Ascend ts → sort_types ts ≡ ts
unfolding sort_types
sort-same [] h = refl
sort-same (t ∷ ts) h = sort-from t ts h

-- ---- any order

swap-less : (a b : ArgType) (l : List ArgType) → compare a b ≡ Less → insert_type a (insert_type b l) ≡ insert_type b (insert_type a l)
unfolding insert_type
swap-less a b [] h = insert-before a b [] (not-less a b h) ∙ sym (insert-after b a [] (ap is_less h))
swap-less a b (u ∷ us) h = go (is_less (compare u a)) refl (is_less (compare u b)) refl (swap-less a b us h)
  where
    first : insert_type b (a ∷ u ∷ us) ≡ a ∷ insert_type b (u ∷ us)
    first = insert-after b a (u ∷ us) (ap is_less h)

    go : (x : Bool) → is_less (compare u a) ≡ x → (y : Bool) → is_less (compare u b) ≡ y → insert_type a (insert_type b us) ≡ insert_type b (insert_type a us)
        → insert_type a (insert_type b (u ∷ us)) ≡ insert_type b (insert_type a (u ∷ us))
    go true e true f ih =
        ap (insert_type a) (insert-after b u us f) ∙ insert-after a u (insert_type b us) e ∙ ap (λ (l : List ArgType). u ∷ l) ih
        ∙ sym (ap (insert_type b) (insert-after a u us e) ∙ insert-after b u (insert_type a us) f)
    go true e false f ih = absurd (false≢true (sym f ∙ ap is_less (compare-trans u a b (is-less (compare u a) e) h)))
    go false e true f ih =
        ap (insert_type a) (insert-after b u us f) ∙ insert-before a u (insert_type b us) e
        ∙ sym (ap (insert_type b) (insert-before a u us e) ∙ first ∙ ap (λ (l : List ArgType). a ∷ l) (insert-after b u us f))
    go false e false f ih =
        ap (insert_type a) (insert-before b u us f) ∙ insert-before a b (u ∷ us) (not-less a b h)
        ∙ sym (ap (insert_type b) (insert-before a u us e) ∙ first ∙ ap (λ (l : List ArgType). a ∷ l) (insert-before b u us f))

insert-swap : (a b : ArgType) (l : List ArgType) → insert_type a (insert_type b l) ≡ insert_type b (insert_type a l)
insert-swap a b l = go (compare a b) refl
  where
    go : (o : Ordering) → compare a b ≡ o → insert_type a (insert_type b l) ≡ insert_type b (insert_type a l)
    go Less e = swap-less a b l e
    go Equal e = ap₂ (λ (x y : ArgType). insert_type x (insert_type y l)) (compare-equal a b e) (sym (compare-equal a b e))
    go Greater e = sym (swap-less b a l (compare-swap a b ∙ ap flip e))

-- THE SORT DOES NOT ASK FOR THE ORDER OF ITS LIST
pub sort-any : {ts us : List ArgType} → Permᴰ ts us → sort_types ts ≡ sort_types us
unfolding sort_types
sort-any Permᴰ.nil = refl
sort-any (Permᴰ.cons e p) = ap₂ insert_type e (sort-any p)
sort-any (Permᴰ.swap {a = a} {b = b} {l = l} e f) = insert-swap a b (sort_types l) ∙ ap₂ (λ (x y : ArgType). insert_type x (insert_type y (sort_types l))) f e
sort-any (Permᴰ.trans p q) = sort-any p ∙ sort-any q

-- SO THE FOLD OF A LIST IN ORDER IS THE RUST'S JOIN OF IT IN ANY ORDER
pub in-order : (w : World) (ts us : List ArgType) → Permᴰ ts us → Ascend us → join_sorted w ts ≡ join_all w us
unfolding join_sorted
in-order w ts us p h = ap (join_all w) (sort-any p ∙ sort-same us h)
