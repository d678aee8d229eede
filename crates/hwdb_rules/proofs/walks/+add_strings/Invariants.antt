use Rattle.std.proofs.Common.{length}
use Rattle.hwdb_rules.proofs.walks.+add_strings.Given as goal

abbrev pub decreases-add_strings : goal.decreases-add_strings
decreases-add_strings l = length l.chain.now
