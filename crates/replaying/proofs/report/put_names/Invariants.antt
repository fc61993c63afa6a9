-- `put_names` meets its contract: what is left are the names from the next byte on.
use Rattle.std.proofs.Common.{◌+◌, ◌*◌, ◌≤◌, drop}
use Rattle.lineout.specs.Laws.{Writing}
use Rattle.replaying.specs.Report.{names_text}
use Rattle.replaying.proofs.report.put_names.Given as goal

abbrev pub invariant-loop-b : goal.invariant-loop-b
invariant-loop-b l = (l.k ≤ l.b-index) × (l.m ≤ l.at + 43 * l.b-index) × Writing (names_text l.counts 0 l.names) (names_text l.counts l.k (drop l.b-index l.names)) l.at l.m l.initial.out l.out
