-- THE SAME IN OTHER WORDS, those of hierarchy.rs: a lookup goes through the layers from the topmost down. Parents come from the first layer that
-- records the class, facts, apart from that, from the first that declares it. The rows that the layers show say just this.
use Rattle.std.specs.Prelude.{◌≡◌, refl, Bool, true, false, cond, ◌||◌, List, [], ◌∷◌, ◌++◌, ℕ, eqb}
use Rattle.std.proofs.Common.{sym, ap, ◌∙◌, true≢false, eq-eqb, ne_eqb}
use Rattle.std.proofs.Math.Option.{Option, some, none}
use Rattle.std.proofs.Math.Decide.{ℕ_discrete}
use Rattle.sorted.specs.Sorted.{put}
use Rattle.view.specs.View.{View}
use Rattle.tableview.specs.TableRows.{Record, is_recorded, listed_parents, set_of, declares, last_declared, fact_from, any_flags, interface_flag, final_flag, rows_view}
use Rattle.tableview.proofs.Taken.{fact-later}
use Rattle.stackview.specs.LayerRows.{opens_layer, has_record, recorded_above, hidden, shown_rows}
use Rattle.stackview.proofs.Taken.{shown-recorded}
use Rattle.stackview.specs.LayerViews.{layer_of, onto, lowest_layer, layers_above, through, none_opens}

-- ---- a lookup through layers, class by class

recorded_in : ℕ → List (List Record) → Bool → Bool
recorded_in c [] d = d
recorded_in c (rs ∷ layers) d = recorded_in c layers (is_recorded c rs || d)

parents_in : ℕ → List (List Record) → List ℕ → List ℕ
parents_in c [] d = d
parents_in c (rs ∷ layers) d = parents_in c layers (cond (is_recorded c rs) (set_of (listed_parents c rs)) d)

fact_in : (ℕ → Bool) → ℕ → List (List Record) → Bool → Bool
fact_in f c [] d = d
fact_in f c (rs ∷ layers) d = fact_in f c layers (fact_from f (last_declared c rs) d)

any-fact : (o : Option ℕ) (d : Bool) → (fact_from any_flags o false || d) ≡ fact_from any_flags o d
any-fact none d = refl
any-fact (some x) d = refl

told-fact : (f : ℕ → Bool) (o : Option ℕ) (d : Bool) → cond (fact_from any_flags o false) (fact_from f o false) d ≡ fact_from f o d
told-fact f none d = refl
told-fact f (some x) d = refl

through-is : (v : View) (layers : List (List Record))
    → through v layers ≡ record {
      names = v.names;
      object = v.object;
      recorded = λ c. recorded_in c layers (v.recorded c);
      parents = λ c. parents_in c layers (v.parents c);
      declared = λ c. fact_in any_flags c layers (v.declared c);
      interface = λ c. fact_in interface_flag c layers (v.interface c);
      final = λ c. fact_in final_flag c layers (v.final c);
    }
unfolding through layer_of recorded_in parents_in fact_in
through-is v [] = refl
through-is v (rs ∷ layers) =
    through-is (onto (layer_of rs) v) layers
    ∙ (λ i. record {
      names = v.names;
      object = v.object;
      recorded = λ c. recorded_in c layers (is_recorded c rs || v.recorded c);
      parents = λ c. parents_in c layers (cond (is_recorded c rs) (set_of (listed_parents c rs)) (v.parents c));
      declared = λ c. fact_in any_flags c layers (any-fact (last_declared c rs) (v.declared c) i);
      interface = λ c. fact_in interface_flag c layers (told-fact interface_flag (last_declared c rs) (v.interface c) i);
      final = λ c. fact_in final_flag c layers (told-fact final_flag (last_declared c rs) (v.final c) i);
    })

-- ---- the layers of a row more

module _ (r : Record) (rs : List Record) where
  pub open-lowest : opens_layer r ≡ true → lowest_layer (r ∷ rs) ≡ []
  unfolding lowest_layer
  open-lowest o = rw o

  pub open-layers : opens_layer r ≡ true → layers_above (r ∷ rs) ≡ lowest_layer rs ∷ layers_above rs
  unfolding layers_above
  open-layers o = rw o

  pub record-lowest : opens_layer r ≡ false → lowest_layer (r ∷ rs) ≡ r ∷ lowest_layer rs
  unfolding lowest_layer
  record-lowest o = rw o

  pub record-layers : opens_layer r ≡ false → layers_above (r ∷ rs) ≡ layers_above rs
  unfolding layers_above
  record-layers o = rw o

-- ---- recorded

or-move : (a b d : Bool) → (a || (b || d)) ≡ (b || (a || d))
or-move true true d = refl
or-move true false d = refl
or-move false b d = refl

-- where no layer above records the class the lookup comes to the table below, else it does not
recorded-split : (c : ℕ) (layers : List (List Record)) (d : Bool) → recorded_in c layers d ≡ (recorded_in c layers false || d)
unfolding recorded_in
recorded-split c [] d = refl
recorded-split c (rs ∷ layers) d =
    recorded-split c layers (is_recorded c rs || d) ∙ or-assoc (recorded_in c layers false) (is_recorded c rs) d
    ∙ ap (λ (t : Bool). t || d) (sym (recorded-split c layers (is_recorded c rs || false) ∙ ap (λ (t : Bool). recorded_in c layers false || t) (or-false (is_recorded c rs))))
  where
    or-assoc : (x y z : Bool) → (x || (y || z)) ≡ ((x || y) || z)
    or-assoc true y z = refl
    or-assoc false y z = refl

    or-false : (x : Bool) → (x || false) ≡ x
    or-false true = refl
    or-false false = refl

-- a class is recorded above exactly if a layer above records it
mutual-has : (c : ℕ) (rs : List Record) → (has_record c rs ≡ recorded_in c (layers_above rs) (is_recorded c (lowest_layer rs))) × (recorded_above c rs ≡ recorded_in c (layers_above rs) false)
unfolding has_record recorded_above lowest_layer layers_above recorded_in is_recorded
mutual-has c [] = (refl, refl)
mutual-has c (r ∷ rs) = go (opens_layer r) (mutual-has c rs)
  where
    go : (o : Bool) → (has_record c rs ≡ recorded_in c (layers_above rs) (is_recorded c (lowest_layer rs))) × (recorded_above c rs ≡ recorded_in c (layers_above rs) false)
        → (cond o (has_record c rs) (eqb r.class c || has_record c rs) ≡ recorded_in c (cond o (lowest_layer rs ∷ layers_above rs) (layers_above rs)) (is_recorded c (cond o [] (r ∷ lowest_layer rs))))
        × (cond o (has_record c rs) (recorded_above c rs) ≡ recorded_in c (cond o (lowest_layer rs ∷ layers_above rs) (layers_above rs)) false)
    go true ih = let e = ih.0 ∙ ap (recorded_in c (layers_above rs)) (sym (or-none (is_recorded c (lowest_layer rs)))) in (e, e)
      where
        or-none : (x : Bool) → (x || false) ≡ x
        or-none true = refl
        or-none false = refl
    go false ih = (
      ap (λ (t : Bool). eqb r.class c || t) (ih.0 ∙ recorded-split c (layers_above rs) (is_recorded c (lowest_layer rs)))
          ∙ or-move (eqb r.class c) (recorded_in c (layers_above rs) false) (is_recorded c (lowest_layer rs))
          ∙ sym (recorded-split c (layers_above rs) (eqb r.class c || is_recorded c (lowest_layer rs))),
      ih.1,
    )

shown-recorded-in : (c : ℕ) (rs : List Record) → is_recorded c (shown_rows rs) ≡ recorded_in c (layers_above rs) (is_recorded c (lowest_layer rs))
shown-recorded-in c rs = shown-recorded c rs ∙ (mutual-has c rs).0

-- ---- facts

shown-fact : (f : ℕ → Bool) (c : ℕ) (rs : List Record) (d : Bool) → fact_from f (last_declared c (shown_rows rs)) d ≡ fact_in f c (layers_above rs) (fact_from f (last_declared c (lowest_layer rs)) d)
unfolding shown_rows lowest_layer layers_above fact_in last_declared
shown-fact f c [] d = refl
shown-fact f c (r ∷ rs) d = go (opens_layer r) (recorded_above r.class rs) (shown-fact f c rs)
  where
    go : (o h : Bool) → ((e : Bool) → fact_from f (last_declared c (shown_rows rs)) e ≡ fact_in f c (layers_above rs) (fact_from f (last_declared c (lowest_layer rs)) e))
        → fact_from f (last_declared c (cond o (shown_rows rs) (hidden h r ∷ shown_rows rs))) d
        ≡ fact_in f c (cond o (lowest_layer rs ∷ layers_above rs) (layers_above rs)) (fact_from f (last_declared c (cond o [] (r ∷ lowest_layer rs))) d)
    go true h ih = ih d
    go false true ih =
        sym (fact-later f (last_declared c (shown_rows rs)) (declares c r.flags r.class) d) ∙ ih (fact_from f (declares c r.flags r.class) d)
        ∙ ap (fact_in f c (layers_above rs)) (fact-later f (last_declared c (lowest_layer rs)) (declares c r.flags r.class) d)
    go false false ih =
        sym (fact-later f (last_declared c (shown_rows rs)) (declares c r.flags r.class) d) ∙ ih (fact_from f (declares c r.flags r.class) d)
        ∙ ap (fact_in f c (layers_above rs)) (fact-later f (last_declared c (lowest_layer rs)) (declares c r.flags r.class) d)

-- ---- parents

-- what is not recorded lists nothing
unlisted : (c : ℕ) (rs : List Record) → is_recorded c rs ≡ false → listed_parents c rs ≡ []
unfolding is_recorded listed_parents
unlisted c [] e = refl
unlisted c (r ∷ rs) e = go (eqb r.class c) e (unlisted c rs)
  where
    go : (t : Bool) → (t || is_recorded c rs) ≡ false → (is_recorded c rs ≡ false → listed_parents c rs ≡ []) → cond t (r.parents ++ listed_parents c rs) (listed_parents c rs) ≡ []
    go true k ih = absurd (true≢false k)
    go false k ih = ih k

set-rest : (ps xs ys : List ℕ) → set_of xs ≡ set_of ys → set_of (ps ++ xs) ≡ set_of (ps ++ ys)
unfolding set_of
set-rest [] xs ys e = e
set-rest (p ∷ ps) xs ys e = ap (put p) (set-rest ps xs ys e)

-- a layer above that records the class hides what is below
parents-hidden : (c : ℕ) (layers : List (List Record)) → recorded_in c layers false ≡ true → (d e : List ℕ) → parents_in c layers d ≡ parents_in c layers e
unfolding recorded_in parents_in
parents-hidden c [] h d e = absurd (true≢false (sym h))
parents-hidden c (rs ∷ layers) h d e = go (is_recorded c rs) h (λ k. parents-hidden c layers k d e)
  where
    go : (t : Bool) → recorded_in c layers (t || false) ≡ true → (recorded_in c layers false ≡ true → parents_in c layers d ≡ parents_in c layers e)
        → parents_in c layers (cond t (set_of (listed_parents c rs)) d) ≡ parents_in c layers (cond t (set_of (listed_parents c rs)) e)
    go true k ih = refl
    go false k ih = ih k

-- where none does the lookup comes to it
parents-below : (c : ℕ) (layers : List (List Record)) → recorded_in c layers false ≡ false → (d : List ℕ) → parents_in c layers d ≡ d
unfolding recorded_in parents_in
parents-below c [] h d = refl
parents-below c (rs ∷ layers) h d = go (is_recorded c rs) h (λ k. parents-below c layers k d)
  where
    go : (t : Bool) → recorded_in c layers (t || false) ≡ false → (recorded_in c layers false ≡ false → parents_in c layers d ≡ d) → parents_in c layers (cond t (set_of (listed_parents c rs)) d) ≡ d
    go true k ih = absurd (true≢false (sym (recorded-split c layers true ∙ either (recorded_in c layers false)) ∙ k))
      where
        either : (t : Bool) → (t || true) ≡ true
        either true = refl
        either false = refl
    go false k ih = ih k

-- of a layer that does not record the class, what it lists
listed-or-none : (c : ℕ) (rs : List Record) → cond (is_recorded c rs) (set_of (listed_parents c rs)) [] ≡ set_of (listed_parents c rs)
unfolding set_of
listed-or-none c rs = go (is_recorded c rs) refl
  where
    go : (t : Bool) → is_recorded c rs ≡ t → cond t (set_of (listed_parents c rs)) [] ≡ set_of (listed_parents c rs)
    go true e = refl
    go false e = sym (ap set_of (unlisted c rs e))

shown-parents : (c : ℕ) (rs : List Record) → set_of (listed_parents c (shown_rows rs)) ≡ parents_in c (layers_above rs) (set_of (listed_parents c (lowest_layer rs)))
unfolding shown_rows lowest_layer layers_above parents_in listed_parents set_of
shown-parents c [] = refl
shown-parents c (r ∷ rs) = go (opens_layer r) (ℕ_discrete r.class c) (recorded_above r.class rs) refl (shown-parents c rs)
  where
    above : (h : Bool) → recorded_above r.class rs ≡ h → r.class ≡ c → recorded_in c (layers_above rs) false ≡ h
    above h e q = sym (mutual-has c rs).1 ∙ ap (λ (d : ℕ). recorded_above d rs) (sym q) ∙ e

    same : (h : Bool) → recorded_above r.class rs ≡ h → r.class ≡ c → set_of (listed_parents c (shown_rows rs)) ≡ parents_in c (layers_above rs) (set_of (listed_parents c (lowest_layer rs)))
        → set_of ((hidden h r).parents ++ listed_parents c (shown_rows rs)) ≡ parents_in c (layers_above rs) (set_of (r.parents ++ listed_parents c (lowest_layer rs)))
    same true e q ih = ih ∙ parents-hidden c (layers_above rs) (above true e q) (set_of (listed_parents c (lowest_layer rs))) (set_of (r.parents ++ listed_parents c (lowest_layer rs)))
    same false e q ih =
        let none = above false e q in
        set-rest r.parents (listed_parents c (shown_rows rs)) (listed_parents c (lowest_layer rs)) (ih ∙ parents-below c (layers_above rs) none (set_of (listed_parents c (lowest_layer rs))))
        ∙ sym (parents-below c (layers_above rs) none (set_of (r.parents ++ listed_parents c (lowest_layer rs))))

    class-kept : (h : Bool) → (hidden h r).class ≡ r.class
    class-kept true = refl
    class-kept false = refl

    go : (o : Bool) → Dec (r.class ≡ c) → (h : Bool) → recorded_above r.class rs ≡ h
        → set_of (listed_parents c (shown_rows rs)) ≡ parents_in c (layers_above rs) (set_of (listed_parents c (lowest_layer rs)))
        → set_of (listed_parents c (cond o (shown_rows rs) (hidden h r ∷ shown_rows rs)))
        ≡ parents_in c (cond o (lowest_layer rs ∷ layers_above rs) (layers_above rs)) (set_of (listed_parents c (cond o [] (r ∷ lowest_layer rs))))
    go true d h e ih = ih ∙ ap (parents_in c (layers_above rs)) (sym (listed-or-none c (lowest_layer rs)))
    go false (yes q) h e ih = rw (class-kept h, eq-eqb r.class c q) (same h e q ih)
    go false (no n) h e ih = rw (class-kept h, ne_eqb r.class c n) ih

-- THE ROWS THAT ARE SHOWN HAVE THE VIEW THROUGH THE LAYERS
pub shown-through : (ns : List (List ℕ)) (rs : List Record)
    → rows_view (record { names = ns; records = shown_rows rs }) ≡ through (rows_view (record { names = ns; records = lowest_layer rs })) (layers_above rs)
unfolding rows_view
shown-through ns rs =
    (λ i. record {
      names = (rows_view (record { names = ns; records = [] })).names;
      object = (rows_view (record { names = ns; records = [] })).object;
      recorded = λ c. shown-recorded-in c rs i;
      parents = λ c. shown-parents c rs i;
      declared = λ c. shown-fact any_flags c rs false i;
      interface = λ c. shown-fact interface_flag c rs false i;
      final = λ c. shown-fact final_flag c rs false i;
    })
    ∙ sym (through-is (rows_view (record { names = ns; records = lowest_layer rs })) (layers_above rs))

none-above : (c : ℕ) (rs : List Record) → none_opens rs → recorded_above c rs ≡ false
unfolding recorded_above
none-above c [] n = refl
none-above c (r ∷ rs) n = rw n.0 (none-above c rs n.1)

pub one-layer : (rs : List Record) → none_opens rs → shown_rows rs ≡ rs
unfolding shown_rows
one-layer [] n = refl
one-layer (r ∷ rs) n = rw (n.0, none-above r.class rs n.1) (ap (λ (l : List Record). r ∷ l) (one-layer rs n.1))
