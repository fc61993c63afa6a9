-- The exported readers against JVMS 4.3: what each promises, as the check reads its contract, of every result that it allows.
use Rattle.std.specs.Prelude.{◌≡◌, List, ℕ, ◌≤◌, length}
use Rattle.std.proofs.Common.{sym, subst}
use borrow.Fn.Kinds.{Dens, res_t, ended_of}
use denote.Triple.Clauses.{AtExit}
use contract.Lifetimes.{Lfts}
use Rattle.bracepuffin.proofs.bp_read_type.Reads as bp-read-type-reads
use Rattle.bracepuffin.proofs.bp_read_type.Kinds as bp-read-type-kinds
use Rattle.bracepuffin.proofs.bp_read_type_strict.Reads as bp-read-type-strict-reads
use Rattle.bracepuffin.proofs.bp_read_type_strict.Kinds as bp-read-type-strict-kinds
use Rattle.bracepuffin.proofs.bp_read_method.Reads as bp-read-method-reads
use Rattle.bracepuffin.proofs.bp_read_method.Kinds as bp-read-method-kinds
use Rattle.bracepuffin.proofs.bp_read_method_strict.Reads as bp-read-method-strict-reads
use Rattle.bracepuffin.proofs.bp_read_method_strict.Kinds as bp-read-method-strict-kinds
use Rattle.bracepuffin.specs.declared.BpMethod.{BpMethod}
use Rattle.jvms.specs.Jvms.{AnyName, ClassName}
use Rattle.demands.specs.Descriptors.{ReadsType, ReadsMethod, ordinary-type-accepted, strict-type-accepted, ordinary-method-accepted, strict-method-accepted}

-- a promise moved along the contract's equations
moved : {Name : List ℕ → Type 0} {s params p q : List ℕ} {r t : BpMethod} → r ≡ t → p ≡ q → ReadsMethod Name s params q t → ReadsMethod Name s params p r
moved {Name} {s} {params} {p} {q} {r} {t} e f h =
    subst (λ (y : BpMethod). ReadsMethod Name s params p y) (sym e) (subst (λ (l : List ℕ). ReadsMethod Name s params l t) (sym f) h)

-- BP_READ_TYPE ACCEPTS WHAT THE GRAMMAR DERIVES WITH ANY NAMES
pub bp-read-type : (κs : Lfts 1) (a : Dens κs bp-read-type-kinds.ps) (r : (res_t bp-read-type-kinds.r κs).Denot) (x : AtExit (ended_of 1 bp-read-type-kinds.ps bp-read-type-kinds.r) κs)
    → bp-read-type-reads.Post κs a r x → ReadsType AnyName a.0.now r
bp-read-type κs a r x p = subst (ReadsType AnyName a.0.now) (sym p) (ordinary-type-accepted a.0.now)

-- BP_READ_TYPE_STRICT WHAT THE JVMS DERIVES
pub bp-read-type-strict : (κs : Lfts 1) (a : Dens κs bp-read-type-strict-kinds.ps) (r : (res_t bp-read-type-strict-kinds.r κs).Denot) (x : AtExit (ended_of 1 bp-read-type-strict-kinds.ps bp-read-type-strict-kinds.r) κs)
    → bp-read-type-strict-reads.Post κs a r x → ReadsType ClassName a.0.now r
bp-read-type-strict κs a r x p = subst (ReadsType ClassName a.0.now) (sym p) (strict-type-accepted a.0.now)

-- BP_READ_METHOD, WITH ROOM FOR 255 OFFSETS, WHAT THE GRAMMAR DERIVES WITH ANY NAMES
pub bp-read-method : (κs : Lfts 2) (a : Dens κs bp-read-method-kinds.ps) (r : (res_t bp-read-method-kinds.r κs).Denot) (x : AtExit (ended_of 2 bp-read-method-kinds.ps bp-read-method-kinds.r) κs)
    → bp-read-method-reads.Post κs a r x → 255 ≤ length a.1.0.now → ReadsMethod AnyName a.0.now a.1.0.now x.1.0.now r
bp-read-method κs a r x p room = moved p.0 p.1 (ordinary-method-accepted a.0.now a.1.0.now room)

-- BP_READ_METHOD_STRICT, WITH ROOM FOR 255 OFFSETS, WHAT THE JVMS DERIVES
pub bp-read-method-strict : (κs : Lfts 2) (a : Dens κs bp-read-method-strict-kinds.ps) (r : (res_t bp-read-method-strict-kinds.r κs).Denot) (x : AtExit (ended_of 2 bp-read-method-strict-kinds.ps bp-read-method-strict-kinds.r) κs)
    → bp-read-method-strict-reads.Post κs a r x → 255 ≤ length a.1.0.now → ReadsMethod ClassName a.0.now a.1.0.now x.1.0.now r
bp-read-method-strict κs a r x p room = moved p.0 p.1 (strict-method-accepted a.0.now a.1.0.now room)
