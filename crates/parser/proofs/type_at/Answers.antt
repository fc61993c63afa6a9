-- `parser::type_at` meets its contract: it is what the type reader ensures.
use Rattle.parser.proofs.type_at.Goals as goal

pub returns : goal.returns
returns c = c.read_type.ensures
