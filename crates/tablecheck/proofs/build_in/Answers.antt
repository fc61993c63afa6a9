-- `build_in` meets its contract: what is built in two arrays without an entry.
use borrow.Author.Rules.{rules}
use Rattle.tablecheck.specs.Steps.{built-is}
use Rattle.columns.specs.Given.{given_of}
use Rattle.tablecheck.proofs.build_in.Goals as goal

pub build_shown-requires : goal.build_shown-requires
build_shown-requires g c = (c.requires.0, c.requires.1, search rules)

pub returns : goal.returns
returns g c = built-is (given_of c.args.columns.now) _ _ _ c.build_shown.ensures
