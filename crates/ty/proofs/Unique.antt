-- The promise of each public function, as the check reads it, allows one result.
use mathlib.Core.Path.{◌≡◌, sym, ◌∙◌}
use borrow.Fn.Kinds.{Dens, res_t, ended_of}
use denote.Triple.Clauses.{AtExit}
use contract.Lifetimes.{Lfts}
use Rattle.ty.proofs.TypeWord.int.Reads as int-reads
use Rattle.ty.proofs.TypeWord.int.Kinds as int-kinds
use Rattle.ty.proofs.TypeWord.long.Reads as long-reads
use Rattle.ty.proofs.TypeWord.long.Kinds as long-kinds
use Rattle.ty.proofs.TypeWord.float.Reads as float-reads
use Rattle.ty.proofs.TypeWord.float.Kinds as float-kinds
use Rattle.ty.proofs.TypeWord.double.Reads as double-reads
use Rattle.ty.proofs.TypeWord.double.Kinds as double-kinds
use Rattle.ty.proofs.TypeWord.unknown.Reads as unknown-reads
use Rattle.ty.proofs.TypeWord.unknown.Kinds as unknown-kinds
use Rattle.ty.proofs.TypeWord.object.Reads as object-reads
use Rattle.ty.proofs.TypeWord.object.Kinds as object-kinds
use Rattle.ty.proofs.TypeWord.dims.Reads as dims-reads
use Rattle.ty.proofs.TypeWord.dims.Kinds as dims-kinds
use Rattle.ty.proofs.TypeWord.tag.Reads as tag-reads
use Rattle.ty.proofs.TypeWord.tag.Kinds as tag-kinds
use Rattle.ty.proofs.TypeWord.load.Reads as load-reads
use Rattle.ty.proofs.TypeWord.load.Kinds as load-kinds
use Rattle.ty.proofs.TypeWord.is_known.Reads as is-known-reads
use Rattle.ty.proofs.TypeWord.is_known.Kinds as is-known-kinds
use Rattle.ty.proofs.TypeWord.is_primitive.Reads as is-primitive-reads
use Rattle.ty.proofs.TypeWord.is_primitive.Kinds as is-primitive-kinds
use Rattle.ty.proofs.TypeWord.is_object.Reads as is-object-reads
use Rattle.ty.proofs.TypeWord.is_object.Kinds as is-object-kinds
use Rattle.ty.proofs.TypeWord.is_array.Reads as is-array-reads
use Rattle.ty.proofs.TypeWord.is_array.Kinds as is-array-kinds
use Rattle.ty.proofs.TypeWord.is_reference.Reads as is-reference-reads
use Rattle.ty.proofs.TypeWord.is_reference.Kinds as is-reference-kinds
use Rattle.ty.proofs.TypeWord.is_wide.Reads as is-wide-reads
use Rattle.ty.proofs.TypeWord.is_wide.Kinds as is-wide-kinds
use Rattle.ty.proofs.TypeWord.is_concrete.Reads as is-concrete-reads
use Rattle.ty.proofs.TypeWord.is_concrete.Kinds as is-concrete-kinds
use Rattle.ty.proofs.TypeWord.element.Reads as element-reads
use Rattle.ty.proofs.TypeWord.element.Kinds as element-kinds
use Rattle.ty.proofs.TypeWord.array.Reads as array-reads
use Rattle.ty.proofs.TypeWord.array.Kinds as array-kinds
use Rattle.ty.proofs.TypeWord.categories.Reads as categories-reads
use Rattle.ty.proofs.TypeWord.categories.Kinds as categories-kinds
use Rattle.ty.proofs.TypeWord.concrete_hint.Reads as concrete-hint-reads
use Rattle.ty.proofs.TypeWord.concrete_hint.Kinds as concrete-hint-kinds
use Rattle.ty.proofs.digit.Reads as digit-reads
use Rattle.ty.proofs.digit.Kinds as digit-kinds
use Rattle.ty.proofs.is_legal.Reads as is-legal-reads
use Rattle.ty.proofs.is_legal.Kinds as is-legal-kinds
use Rattle.ty.proofs.are_legal.Reads as are-legal-reads
use Rattle.ty.proofs.are_legal.Kinds as are-legal-kinds
use Rattle.ty.proofs.decode.Reads as decode-reads
use Rattle.ty.proofs.decode.Kinds as decode-kinds

pub digit-one : (κs : Lfts 0) (a : Dens κs digit-kinds.ps) (r₁ r₂ : (res_t digit-kinds.r κs).Denot) (x₁ x₂ : AtExit (ended_of 0 digit-kinds.ps digit-kinds.r) κs)
    → digit-reads.Post κs a r₁ x₁ → digit-reads.Post κs a r₂ x₂ → r₁ ≡ r₂
digit-one κs a r₁ r₂ x₁ x₂ p q = p ∙ sym q

pub int-one : (κs : Lfts 0) (a : Dens κs int-kinds.ps) (r₁ r₂ : (res_t int-kinds.r κs).Denot) (x₁ x₂ : AtExit (ended_of 0 int-kinds.ps int-kinds.r) κs)
    → int-reads.Post κs a r₁ x₁ → int-reads.Post κs a r₂ x₂ → r₁ ≡ r₂
int-one κs a r₁ r₂ x₁ x₂ p q = λ i. record { word = (p ∙ sym q) i }

pub long-one : (κs : Lfts 0) (a : Dens κs long-kinds.ps) (r₁ r₂ : (res_t long-kinds.r κs).Denot) (x₁ x₂ : AtExit (ended_of 0 long-kinds.ps long-kinds.r) κs)
    → long-reads.Post κs a r₁ x₁ → long-reads.Post κs a r₂ x₂ → r₁ ≡ r₂
long-one κs a r₁ r₂ x₁ x₂ p q = λ i. record { word = (p ∙ sym q) i }

pub float-one : (κs : Lfts 0) (a : Dens κs float-kinds.ps) (r₁ r₂ : (res_t float-kinds.r κs).Denot) (x₁ x₂ : AtExit (ended_of 0 float-kinds.ps float-kinds.r) κs)
    → float-reads.Post κs a r₁ x₁ → float-reads.Post κs a r₂ x₂ → r₁ ≡ r₂
float-one κs a r₁ r₂ x₁ x₂ p q = λ i. record { word = (p ∙ sym q) i }

pub double-one : (κs : Lfts 0) (a : Dens κs double-kinds.ps) (r₁ r₂ : (res_t double-kinds.r κs).Denot) (x₁ x₂ : AtExit (ended_of 0 double-kinds.ps double-kinds.r) κs)
    → double-reads.Post κs a r₁ x₁ → double-reads.Post κs a r₂ x₂ → r₁ ≡ r₂
double-one κs a r₁ r₂ x₁ x₂ p q = λ i. record { word = (p ∙ sym q) i }

pub unknown-one : (κs : Lfts 0) (a : Dens κs unknown-kinds.ps) (r₁ r₂ : (res_t unknown-kinds.r κs).Denot) (x₁ x₂ : AtExit (ended_of 0 unknown-kinds.ps unknown-kinds.r) κs)
    → unknown-reads.Post κs a r₁ x₁ → unknown-reads.Post κs a r₂ x₂ → r₁ ≡ r₂
unknown-one κs a r₁ r₂ x₁ x₂ p q = λ i. record { word = (p ∙ sym q) i }

pub object-one : (κs : Lfts 0) (a : Dens κs object-kinds.ps) (r₁ r₂ : (res_t object-kinds.r κs).Denot) (x₁ x₂ : AtExit (ended_of 0 object-kinds.ps object-kinds.r) κs)
    → object-reads.Post κs a r₁ x₁ → object-reads.Post κs a r₂ x₂ → r₁ ≡ r₂
object-one κs a r₁ r₂ x₁ x₂ p q = λ i. record { word = (p ∙ sym q) i }

pub dims-one : (κs : Lfts 0) (a : Dens κs dims-kinds.ps) (r₁ r₂ : (res_t dims-kinds.r κs).Denot) (x₁ x₂ : AtExit (ended_of 0 dims-kinds.ps dims-kinds.r) κs)
    → dims-reads.Post κs a r₁ x₁ → dims-reads.Post κs a r₂ x₂ → r₁ ≡ r₂
dims-one κs a r₁ r₂ x₁ x₂ p q = p ∙ sym q

pub tag-one : (κs : Lfts 0) (a : Dens κs tag-kinds.ps) (r₁ r₂ : (res_t tag-kinds.r κs).Denot) (x₁ x₂ : AtExit (ended_of 0 tag-kinds.ps tag-kinds.r) κs)
    → tag-reads.Post κs a r₁ x₁ → tag-reads.Post κs a r₂ x₂ → r₁ ≡ r₂
tag-one κs a r₁ r₂ x₁ x₂ p q = p ∙ sym q

pub load-one : (κs : Lfts 0) (a : Dens κs load-kinds.ps) (r₁ r₂ : (res_t load-kinds.r κs).Denot) (x₁ x₂ : AtExit (ended_of 0 load-kinds.ps load-kinds.r) κs)
    → load-reads.Post κs a r₁ x₁ → load-reads.Post κs a r₂ x₂ → r₁ ≡ r₂
load-one κs a r₁ r₂ x₁ x₂ p q = p ∙ sym q

pub is-known-one : (κs : Lfts 0) (a : Dens κs is-known-kinds.ps) (r₁ r₂ : (res_t is-known-kinds.r κs).Denot) (x₁ x₂ : AtExit (ended_of 0 is-known-kinds.ps is-known-kinds.r) κs)
    → is-known-reads.Post κs a r₁ x₁ → is-known-reads.Post κs a r₂ x₂ → r₁ ≡ r₂
is-known-one κs a r₁ r₂ x₁ x₂ p q = p ∙ sym q

pub is-primitive-one : (κs : Lfts 0) (a : Dens κs is-primitive-kinds.ps) (r₁ r₂ : (res_t is-primitive-kinds.r κs).Denot) (x₁ x₂ : AtExit (ended_of 0 is-primitive-kinds.ps is-primitive-kinds.r) κs)
    → is-primitive-reads.Post κs a r₁ x₁ → is-primitive-reads.Post κs a r₂ x₂ → r₁ ≡ r₂
is-primitive-one κs a r₁ r₂ x₁ x₂ p q = p ∙ sym q

pub is-object-one : (κs : Lfts 0) (a : Dens κs is-object-kinds.ps) (r₁ r₂ : (res_t is-object-kinds.r κs).Denot) (x₁ x₂ : AtExit (ended_of 0 is-object-kinds.ps is-object-kinds.r) κs)
    → is-object-reads.Post κs a r₁ x₁ → is-object-reads.Post κs a r₂ x₂ → r₁ ≡ r₂
is-object-one κs a r₁ r₂ x₁ x₂ p q = p ∙ sym q

pub is-array-one : (κs : Lfts 0) (a : Dens κs is-array-kinds.ps) (r₁ r₂ : (res_t is-array-kinds.r κs).Denot) (x₁ x₂ : AtExit (ended_of 0 is-array-kinds.ps is-array-kinds.r) κs)
    → is-array-reads.Post κs a r₁ x₁ → is-array-reads.Post κs a r₂ x₂ → r₁ ≡ r₂
is-array-one κs a r₁ r₂ x₁ x₂ p q = p ∙ sym q

pub is-reference-one : (κs : Lfts 0) (a : Dens κs is-reference-kinds.ps) (r₁ r₂ : (res_t is-reference-kinds.r κs).Denot) (x₁ x₂ : AtExit (ended_of 0 is-reference-kinds.ps is-reference-kinds.r) κs)
    → is-reference-reads.Post κs a r₁ x₁ → is-reference-reads.Post κs a r₂ x₂ → r₁ ≡ r₂
is-reference-one κs a r₁ r₂ x₁ x₂ p q = p ∙ sym q

pub is-wide-one : (κs : Lfts 0) (a : Dens κs is-wide-kinds.ps) (r₁ r₂ : (res_t is-wide-kinds.r κs).Denot) (x₁ x₂ : AtExit (ended_of 0 is-wide-kinds.ps is-wide-kinds.r) κs)
    → is-wide-reads.Post κs a r₁ x₁ → is-wide-reads.Post κs a r₂ x₂ → r₁ ≡ r₂
is-wide-one κs a r₁ r₂ x₁ x₂ p q = p ∙ sym q

pub is-concrete-one : (κs : Lfts 0) (a : Dens κs is-concrete-kinds.ps) (r₁ r₂ : (res_t is-concrete-kinds.r κs).Denot) (x₁ x₂ : AtExit (ended_of 0 is-concrete-kinds.ps is-concrete-kinds.r) κs)
    → is-concrete-reads.Post κs a r₁ x₁ → is-concrete-reads.Post κs a r₂ x₂ → r₁ ≡ r₂
is-concrete-one κs a r₁ r₂ x₁ x₂ p q = p ∙ sym q

pub element-one : (κs : Lfts 0) (a : Dens κs element-kinds.ps) (r₁ r₂ : (res_t element-kinds.r κs).Denot) (x₁ x₂ : AtExit (ended_of 0 element-kinds.ps element-kinds.r) κs)
    → element-reads.Post κs a r₁ x₁ → element-reads.Post κs a r₂ x₂ → r₁ ≡ r₂
element-one κs a r₁ r₂ x₁ x₂ p q = p ∙ sym q

pub array-one : (κs : Lfts 0) (a : Dens κs array-kinds.ps) (r₁ r₂ : (res_t array-kinds.r κs).Denot) (x₁ x₂ : AtExit (ended_of 0 array-kinds.ps array-kinds.r) κs)
    → array-reads.Post κs a r₁ x₁ → array-reads.Post κs a r₂ x₂ → r₁ ≡ r₂
array-one κs a r₁ r₂ x₁ x₂ p q = p ∙ sym q

pub categories-one : (κs : Lfts 0) (a : Dens κs categories-kinds.ps) (r₁ r₂ : (res_t categories-kinds.r κs).Denot) (x₁ x₂ : AtExit (ended_of 0 categories-kinds.ps categories-kinds.r) κs)
    → categories-reads.Post κs a r₁ x₁ → categories-reads.Post κs a r₂ x₂ → r₁ ≡ r₂
categories-one κs a r₁ r₂ x₁ x₂ p q = p ∙ sym q

pub concrete-hint-one : (κs : Lfts 0) (a : Dens κs concrete-hint-kinds.ps) (r₁ r₂ : (res_t concrete-hint-kinds.r κs).Denot) (x₁ x₂ : AtExit (ended_of 0 concrete-hint-kinds.ps concrete-hint-kinds.r) κs)
    → concrete-hint-reads.Post κs a r₁ x₁ → concrete-hint-reads.Post κs a r₂ x₂ → r₁ ≡ r₂
concrete-hint-one κs a r₁ r₂ x₁ x₂ p q = p ∙ sym q

pub is-legal-one : (κs : Lfts 0) (a : Dens κs is-legal-kinds.ps) (r₁ r₂ : (res_t is-legal-kinds.r κs).Denot) (x₁ x₂ : AtExit (ended_of 0 is-legal-kinds.ps is-legal-kinds.r) κs)
    → is-legal-reads.Post κs a r₁ x₁ → is-legal-reads.Post κs a r₂ x₂ → r₁ ≡ r₂
is-legal-one κs a r₁ r₂ x₁ x₂ p q = p ∙ sym q

pub are-legal-one : (κs : Lfts 1) (a : Dens κs are-legal-kinds.ps) (r₁ r₂ : (res_t are-legal-kinds.r κs).Denot) (x₁ x₂ : AtExit (ended_of 1 are-legal-kinds.ps are-legal-kinds.r) κs)
    → are-legal-reads.Post κs a r₁ x₁ → are-legal-reads.Post κs a r₂ x₂ → r₁ ≡ r₂
are-legal-one κs a r₁ r₂ x₁ x₂ p q = p ∙ sym q

pub decode-one : (κs : Lfts 0) (a : Dens κs decode-kinds.ps) (r₁ r₂ : (res_t decode-kinds.r κs).Denot) (x₁ x₂ : AtExit (ended_of 0 decode-kinds.ps decode-kinds.r) κs)
    → decode-reads.Post κs a r₁ x₁ → decode-reads.Post κs a r₂ x₂ → r₁ ≡ r₂
decode-one κs a r₁ r₂ x₁ x₂ p q = p ∙ sym q
