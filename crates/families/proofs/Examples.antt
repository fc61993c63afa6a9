-- Which question reads which view, by computation. 0 has the parent 1, and 1 the parent 2 in the whole table alone; 3 is Object. The search from 0 reads a
-- table in which 1 has no parents.
use Rattle.std.specs.Prelude.{◌≡◌, refl, true, false}
use Rattle.std.proofs.Math.Option.{some, none}
use Rattle.sets.specs.Sets.{bit, at, member, insert, members, first}
use Rattle.view.specs.declared.Relation.TheVariants.{Yes}
use Rattle.view.specs.View.{insert_all, with_parents, grow, level, reached, reach, steps, distance, ancestor, all_recorded, complete, relation, cast_by_facts}
use Rattle.families.specs.Families.{distance_from, ancestor_from, relation_of, cast_of}
use Rattle.families.specs.Examples.{partly}

-- A YES OF THE WALK COMES THOUGH THE SEARCH HAS NONE, also to a cast; a distance and an ancestor are the search's alone
pub late-yes : (relation_of partly 0 2 ≡ Yes) × (cast_of partly 2 0 ≡ true) × (ancestor_from partly 0 2 ≡ false) × (distance_from partly 0 2 ≡ none) × (distance_from partly 0 1 ≡ some 1)
unfolding bit at member insert members first insert_all with_parents grow level reached reach steps distance ancestor all_recorded complete relation cast_by_facts distance_from ancestor_from relation_of cast_of
late-yes = (refl, refl, refl, refl, refl)
