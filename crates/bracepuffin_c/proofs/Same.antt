-- The contract of each export, as the check reads it, is that of the function that it calls. So what is proved of that contract, in bracepuffin/proofs
-- and in `demands`, is proved of the export.
use Rattle.std.specs.Prelude.{◌≡◌, refl}
use Rattle.bracepuffin.proofs.bp_abi_1.Reads as bp-abi-1
use Rattle.bracepuffin_c.proofs.bp_abi_1.Reads as c-bp-abi-1
use Rattle.bracepuffin.proofs.bp_read_type.Reads as bp-read-type
use Rattle.bracepuffin_c.proofs.bp_read_type.Reads as c-bp-read-type
use Rattle.bracepuffin.proofs.bp_read_type_strict.Reads as bp-read-type-strict
use Rattle.bracepuffin_c.proofs.bp_read_type_strict.Reads as c-bp-read-type-strict
use Rattle.bracepuffin.proofs.bp_read_method.Reads as bp-read-method
use Rattle.bracepuffin_c.proofs.bp_read_method.Reads as c-bp-read-method
use Rattle.bracepuffin.proofs.bp_read_method_strict.Reads as bp-read-method-strict
use Rattle.bracepuffin_c.proofs.bp_read_method_strict.Reads as c-bp-read-method-strict
use Rattle.bracepuffin.proofs.bp_write_type.Reads as bp-write-type
use Rattle.bracepuffin_c.proofs.bp_write_type.Reads as c-bp-write-type
use Rattle.bracepuffin.proofs.bp_write_method.Reads as bp-write-method
use Rattle.bracepuffin_c.proofs.bp_write_method.Reads as c-bp-write-method
use Rattle.bracepuffin.proofs.bp_lookup.Reads as bp-lookup
use Rattle.bracepuffin_c.proofs.bp_lookup.Reads as c-bp-lookup
use Rattle.bracepuffin.proofs.bp_check_table.Reads as bp-check-table
use Rattle.bracepuffin_c.proofs.bp_check_table.Reads as c-bp-check-table
use Rattle.bracepuffin.proofs.bp_relation.Reads as bp-relation
use Rattle.bracepuffin_c.proofs.bp_relation.Reads as c-bp-relation
use Rattle.bracepuffin.proofs.bp_distance.Reads as bp-distance
use Rattle.bracepuffin_c.proofs.bp_distance.Reads as c-bp-distance
use Rattle.bracepuffin.proofs.bp_ancestors.Reads as bp-ancestors
use Rattle.bracepuffin_c.proofs.bp_ancestors.Reads as c-bp-ancestors
use Rattle.bracepuffin.proofs.bp_supertype.Reads as bp-supertype
use Rattle.bracepuffin_c.proofs.bp_supertype.Reads as c-bp-supertype
use Rattle.bracepuffin.proofs.bp_cast.Reads as bp-cast
use Rattle.bracepuffin_c.proofs.bp_cast.Reads as c-bp-cast
use Rattle.bracepuffin.proofs.bp_join.Reads as bp-join
use Rattle.bracepuffin_c.proofs.bp_join.Reads as c-bp-join
use Rattle.bracepuffin.proofs.bp_assignable.Reads as bp-assignable
use Rattle.bracepuffin_c.proofs.bp_assignable.Reads as c-bp-assignable
use Rattle.bracepuffin.proofs.bp_solve.Reads as bp-solve
use Rattle.bracepuffin_c.proofs.bp_solve.Reads as c-bp-solve

pub bp-abi-1-same : c-bp-abi-1.Post ≡ bp-abi-1.Post
bp-abi-1-same = refl

pub bp-read-type-same : c-bp-read-type.Post ≡ bp-read-type.Post
bp-read-type-same = refl

pub bp-read-type-strict-same : c-bp-read-type-strict.Post ≡ bp-read-type-strict.Post
bp-read-type-strict-same = refl

pub bp-read-method-same : c-bp-read-method.Post ≡ bp-read-method.Post
bp-read-method-same = refl

pub bp-read-method-strict-same : c-bp-read-method-strict.Post ≡ bp-read-method-strict.Post
bp-read-method-strict-same = refl

pub bp-write-type-same : c-bp-write-type.Post ≡ bp-write-type.Post
bp-write-type-same = refl

pub bp-write-method-same : c-bp-write-method.Post ≡ bp-write-method.Post
bp-write-method-same = refl

pub bp-lookup-same : c-bp-lookup.Post ≡ bp-lookup.Post
bp-lookup-same = refl

pub bp-check-table-same : c-bp-check-table.Post ≡ bp-check-table.Post
bp-check-table-same = refl

pub bp-relation-same : c-bp-relation.Post ≡ bp-relation.Post
bp-relation-same = refl

pub bp-distance-same : c-bp-distance.Post ≡ bp-distance.Post
bp-distance-same = refl

pub bp-ancestors-same : c-bp-ancestors.Post ≡ bp-ancestors.Post
bp-ancestors-same = refl

pub bp-supertype-same : c-bp-supertype.Post ≡ bp-supertype.Post
bp-supertype-same = refl

pub bp-cast-same : c-bp-cast.Post ≡ bp-cast.Post
bp-cast-same = refl

pub bp-join-same : c-bp-join.Post ≡ bp-join.Post
bp-join-same = refl

pub bp-assignable-same : c-bp-assignable.Post ≡ bp-assignable.Post
bp-assignable-same = refl

pub bp-solve-same : c-bp-solve.Post ≡ bp-solve.Post
bp-solve-same = refl
