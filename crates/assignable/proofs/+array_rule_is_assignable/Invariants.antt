-- The rule asks about the elements, whose words are less.
use Rattle.std.proofs.Common.{◌+◌, ◌*◌}
use Rattle.assignable.proofs.+array_rule_is_assignable.Given as goal

abbrev pub decreases-array_rule : goal.decreases-array_rule
decreases-array_rule l = 2 * l.value.word

abbrev pub decreases-is_assignable : goal.decreases-is_assignable
decreases-is_assignable l = 2 * l.value.word + 1
