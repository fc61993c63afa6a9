-- WHAT A QUESTION THAT IS NOT REFUSED GIVES: all that the laws of a view, of a world and of types ask, of the rows that the columns' layers show.
use Rattle.std.specs.Prelude.{◌≡◌, refl, Bool, true, false, cond, not, List, [], ◌∷◌, ℕ, ◌-◌, ◌^◌, ◌<◌, eqb, ltb}
use Rattle.std.proofs.Common.{◌∙◌, sym, subst, arith, eqb-true}
use Rattle.std.proofs.lemmas.Bool.{eqb-false}
use Rattle.checks.specs.Checks.{first_refusal}
use Rattle.ty.specs.Words.{legal_word}
use Rattle.view.specs.View.{View}
use Rattle.view.specs.Reach.{Good}
use Rattle.tables.specs.Table.{view-good}
use Rattle.lattice.specs.Lattice.{Lawful}
use Rattle.lattice.specs.World.{with-lawful}
use Rattle.columns.specs.Given.{Given, even}
use Rattle.tableview.specs.TableRows.{rows_view, rows_world}
use Rattle.stackview.specs.LayerRows.{shown_in}
use Rattle.stackview.specs.LayerRefusals.{stack_refusal_of}
use Rattle.stackview.specs.Agrees.{stack_in}
use Rattle.stackview.proofs.Agrees.{stack-view, stack-upright}
use Rattle.stackview.proofs.Shown.{stack-refused, object-within}
use Rattle.questions.specs.declared.Question.{Question}
use Rattle.questions.specs.declared.Question.TheVariants.{Relation}
use Rattle.questions.specs.Questions.{of_types, good_numbers, table_checks, refusal_of, question_refusal, ancestors_refusal}
use Rattle.questions.specs.Laws.{once, are-classes, are-types}

-- both are classes; both are types over the names
abbrev pub NumbersIn : Bool → ℕ → ℕ → ℕ → Type 0
NumbersIn false names a b = (a < names) × (b < names)
NumbersIn true names a b = (legal_word names a ≡ true) × (legal_word names b ≡ true)

pub record Accepted (g : Given) (q : Question) (a b : ℕ) : Type 0 where
  pub columns : even g ≡ true
  pub taken : stack_refusal_of g ≡ 0
  pub good : Good (rows_view (shown_in g))
  pub lawful : Lawful (rows_world (shown_in g))
  pub object-in : (rows_view (shown_in g)).object < (rows_view (shown_in g)).names
  pub numbers-in : NumbersIn (of_types q) (rows_view (shown_in g)).names a b

-- ---- what the checks say

-- a class table that is taken and has java/lang/Object
record Taken (g : Given) (types : Bool) (numbers : List ℕ) : Type 0 where
  columns : even g ≡ true
  taken : stack_refusal_of g ≡ 0
  numbers-good : good_numbers types (rows_view (shown_in g)).names numbers ≡ true
  object-there : (rows_view (shown_in g)).object ≡ 2 ^ 64 - 1 → ⊥

taken-by : (g : Given) (types : Bool) (numbers : List ℕ) (room : ℕ) → refusal_of g types numbers room ≡ 0 → Taken g types numbers
unfolding refusal_of table_checks first_refusal
taken-by g types numbers room h =
    go (ltb room 8192) (even g) refl (eqb (stack_refusal_of g) 0) refl (good_numbers types (rows_view (shown_in g)).names numbers) refl (eqb (rows_view (shown_in g)).object (2 ^ 64 - 1)) refl types h
  where
    go : (a b : Bool) → even g ≡ b → (c : Bool) → eqb (stack_refusal_of g) 0 ≡ c → (d : Bool) → good_numbers types (rows_view (shown_in g)).names numbers ≡ d
        → (o : Bool) → eqb (rows_view (shown_in g)).object (2 ^ 64 - 1) ≡ o → (k : Bool)
        → cond a 22 (cond (not b) 3 (cond (not c) (stack_refusal_of g) (cond (not d) (cond k 7 6) (cond o 9 0)))) ≡ 0 → Taken g types numbers
    go true b eb c ec d ed o eo k q = absurd (omega arith)
    go false false eb c ec d ed o eo k q = absurd (omega arith)
    go false true eb false ec d ed o eo k q = absurd (eqb-false (stack_refusal_of g) 0 ec q)
    go false true eb true ec false ed o eo true q = absurd (omega arith)
    go false true eb true ec false ed o eo false q = absurd (omega arith)
    go false true eb true ec true ed true eo k q = absurd (omega arith)
    go false true eb true ec true ed false eo k q = record {
      columns = eb;
      taken = eqb-true (stack_refusal_of g) 0 ec;
      numbers-good = ed;
      object-there = eqb-false (rows_view (shown_in g)).object (2 ^ 64 - 1) eo;
    }

-- the view of the rows is good
pub good-rows : (g : Given) (e : even g ≡ true) (z : (stack_in g).refusal ≡ 0) → ((rows_view (shown_in g)).object ≡ 2 ^ 64 - 1 → ⊥) → Good (rows_view (shown_in g))
good-rows g e z n =
    let same = stack-view g e z in
    let s = (stack_in g).state.top.shown in
    subst Good same
    (view-good s.keys s.marks s.tables (stack-upright g e z).few (subst (λ (v : View). v.object < v.names) (sym same) (object-within (shown_in g) n)))

numbers-are : (types : Bool) (names a b : ℕ) → good_numbers types names (a ∷ b ∷ []) ≡ true → NumbersIn types names a b
numbers-are false names a b h = are-classes names a b false refl h
numbers-are true names a b h = are-types names a b true refl h

from-taken : (g : Given) (q : Question) (a b : ℕ) → Taken g (of_types q) (a ∷ b ∷ []) → Accepted g q a b
unfolding rows_world
from-taken g q a b t =
    let good = good-rows g t.columns (stack-refused g ∙ t.taken) t.object-there in
    record {
      columns = t.columns;
      taken = t.taken;
      good = good;
      lawful = with-lawful (rows_view (shown_in g)) (rows_world (shown_in g)).cloneable (rows_world (shown_in g)).serializable good;
      object-in = good.object-in;
      numbers-in = numbers-are (of_types q) (rows_view (shown_in g)).names a b t.numbers-good;
    }

-- A QUESTION THAT IS NOT REFUSED
pub accepted : (g : Given) (q : Question) (a b room : ℕ) → question_refusal g q a b room ≡ 0 → Accepted g q a b
accepted g q a b room h = from-taken g q a b (taken-by g (of_types q) (a ∷ b ∷ []) room h)

-- and for the ancestors of a class, as for a class against itself
pub accepted-class : (g : Given) (class room : ℕ) → ancestors_refusal g class room ≡ 0 → Accepted g Relation class class
accepted-class g class room h =
    let t = taken-by g false (class ∷ []) room h in
    from-taken g Relation class class (record {
      columns = t.columns;
      taken = t.taken;
      numbers-good = once (rows_view (shown_in g)).names class ∙ t.numbers-good;
      object-there = t.object-there;
    })
