-- What the contracts cite: how a type that may be missing is sent.
use Rattle.std.specs.Prelude.{cond, Some, None}
use Rattle.ty.specs.Answers.{MaybeType}
use Rattle.ty.specs.Types.{Array, is_concrete}
use Rattle.ty.specs.Words.{Legal, type_of}
use Rattle.ty.specs.Answers.{element_word}
use Rattle.inserting.specs.declared.Sent.{Sent}
use Rattle.inserting.specs.declared.Sent.TheVariants.{Nothing as NoType}
use Rattle.inserting.specs.Store.{sent_of}

abbrev pub LegalMaybe : MaybeType → Type 0
LegalMaybe (Some t) = Legal t.word
LegalMaybe None = Unit {0}

abbrev pub sent_maybe : MaybeType → Sent
sent_maybe (Some t) = sent_of (type_of t.word)
sent_maybe None = NoType

abbrev pub sent_element : MaybeType → Sent
sent_element (Some t) = sent_maybe (element_word t.word)
sent_element None = NoType

abbrev pub sent_array : MaybeType → Sent
sent_array (Some t) = cond (is_concrete (type_of t.word)) (sent_of (Array (type_of t.word))) NoType
sent_array None = NoType
