-- CASTS a second time, from the `match` of `is_cast_convertible`: its answer for each of the sixteen ways in which two classes can be
-- declared, as a rule, as a table, and through a view.
use Rattle.std.specs.Prelude.{◌≡◌, refl, Bool, true, false, cond, not, ◌&&◌, ◌||◌, [], ℕ, eqb}
use Rattle.sets.specs.Sets.{bit, at, member, insert, members}
use Rattle.view.specs.View.{View, insert_all, with_parents, grow, level, reached, reach, ancestor, cast_by_facts, cast}

-- two interfaces always, an interface and a class exactly if the class is not final, two classes never
pub facts-rule : (source_interface source_final target_interface target_final : Bool)
    → cast_by_facts source_interface source_final target_interface target_final
    ≡ ((source_interface && target_interface) || ((source_interface && not target_final) || (target_interface && not source_final)))
unfolding cast_by_facts
facts-rule true sf true tf = refl
facts-rule true sf false true = refl
facts-rule true sf false false = refl
facts-rule false sf true tf = refl
facts-rule false sf false tf = refl

-- ---- the sixteen, in the Rust's order of arms; source interface, source final, target interface, target final

pub facts-table :
    -- (true, true) => true
    (cast_by_facts true false true false ≡ true)
    × (cast_by_facts true false true true ≡ true)
    × (cast_by_facts true true true false ≡ true)
    × (cast_by_facts true true true true ≡ true)
    -- (true, false) => !target.is_final
    × (cast_by_facts true false false false ≡ true)
    × (cast_by_facts true false false true ≡ false)
    × (cast_by_facts true true false false ≡ true)
    × (cast_by_facts true true false true ≡ false)
    -- (false, true) => !source.is_final
    × (cast_by_facts false false true false ≡ true)
    × (cast_by_facts false false true true ≡ true)
    × (cast_by_facts false true true false ≡ false)
    × (cast_by_facts false true true true ≡ false)
    -- (false, false) => false
    × (cast_by_facts false false false false ≡ false)
    × (cast_by_facts false false false true ≡ false)
    × (cast_by_facts false true false false ≡ false)
    × (cast_by_facts false true false true ≡ false)
unfolding cast_by_facts
facts-table = (refl, refl, refl, refl, refl, refl, refl, refl, refl, refl, refl, refl, refl, refl, refl, refl)

-- ---- through a view: which fact is which

module _ (v : View) (s t : ℕ) (apart : (ancestor v s t || ancestor v t s) ≡ false) (both : (v.declared s && v.declared t) ≡ true) where
  -- where both are declared and neither is an ancestor of the other, `interface` and `final` decide
  pub cast-rule : cast v s t
      ≡ ((v.interface s && v.interface t) || ((v.interface s && not (v.final t)) || (v.interface t && not (v.final s))))
  unfolding cast
  cast-rule = rw (apart, both) (facts-rule (v.interface s) (v.final s) (v.interface t) (v.final t))

-- the source 0 and the target 1, both without parents, as they are declared, and Object 2; the target need not be declared
abbrev two : Bool → Bool → Bool → Bool → Bool → View
two source_interface source_final target_declared target_interface target_final = record {
  names = 3;
  object = 2;
  recorded = λ c. true;
  parents = λ c. [];
  declared = λ c. eqb c 0 || target_declared;
  interface = λ c. cond (eqb c 0) source_interface target_interface;
  final = λ c. cond (eqb c 0) source_final target_final;
}

pub cast-examples :
    -- a class to an interface; a final class to it
    (cast (two false false true true false) 0 1 ≡ true)
    × (cast (two false true true true false) 0 1 ≡ false)
    -- an interface to a class; to a final class
    × (cast (two true false true false false) 0 1 ≡ true)
    × (cast (two true false true false true) 0 1 ≡ false)
    -- two interfaces; the same where the target is not declared
    × (cast (two true true true true true) 0 1 ≡ true)
    × (cast (two true true false true true) 0 1 ≡ false)
unfolding bit at member insert members insert_all with_parents grow level reached reach ancestor cast_by_facts cast
cast-examples = (refl, refl, refl, refl, refl, refl)
