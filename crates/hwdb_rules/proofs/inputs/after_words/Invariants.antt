use Rattle.std.proofs.Common.{◌≡◌}
use Rattle.hwdb_spec_commands.specs.Inputs.{after_words}
use Rattle.hwdb_rules.proofs.inputs.after_words.Given as goal

abbrev pub invariant-loop-more : goal.invariant-loop-more
invariant-loop-more l = after_words l.more l.left ≡ after_words l.words l.mask

abbrev pub decreases-loop-more : goal.decreases-loop-more
decreases-loop-more l = l.more
