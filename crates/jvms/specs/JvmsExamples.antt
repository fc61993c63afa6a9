-- Descriptors that the grammar of the JVMS derives, and one that it does not.
use Rattle.std.specs.Prelude.{refl, List, [], ◌∷◌, ℕ}
use Rattle.text.specs.Text.{ascii}
use Rattle.ty.specs.Types.{Void, Int}
use Rattle.utf8.specs.Utf8.{table, within, matches, first_match, sequence, scan, valid_prefix}
use Rattle.descriptor.specs.Read.{letter_of, index_of, name_read, read_name, read_type, finish, parts_from, strict_name, strictly}
use Rattle.methods.specs.Method.{read_params, returns, after_params, read_method, strict_params, strict_method, read_method_strict}
use Rattle.jvms.specs.Jvms.{JavaType, Primitive, Object, Array, ClassName, I, FieldType.base, FieldType.array, ReturnDescriptor, ReturnDescriptor.field, MethodDescriptor}
use Rattle.jvms.specs.Meaning.{type_at, type_read, parameters_at, method_read}
use Rattle.jvms.specs.JvmsTheorem.{strict-method}

pub derives : ReturnDescriptor ClassName (ascii "[[I") (Array (Array (Primitive Int)))
unfolding ascii
derives = field (array (array (base I)))

-- whatever the names
pub derives-not : {Name : List ℕ → Type 0} {t : JavaType} → ReturnDescriptor Name (ascii "[V") t → ⊥
unfolding ascii
derives-not (field (array (base l))) = elim l [ ]

-- as strict reading finds it
pub derives-method : MethodDescriptor ClassName (ascii "(ILa;)V") (record {
  parameters = record { bytes = ascii "I"; type = Primitive Int } ∷ record { bytes = ascii "La;"; type = Object (ascii "a") } ∷ [];
  result = Primitive Void;
})
unfolding ascii letter_of index_of name_read read_name read_type finish parts_from strict_name strictly read_params returns after_params read_method strict_params strict_method read_method_strict valid_prefix scan sequence first_match table matches within type_at type_read parameters_at method_read
derives-method = ((strict-method _ _).0 refl).0
