use Rattle.std.proofs.Common.{List, length}
use Rattle.hwdb_samples.specs.Levels.{AreLevels}
use Rattle.hwdb_spec_commands.specs.SampleRules.{RuleTexts}
use Rattle.hwdb_samples.proofs.levels.drop_others.Given as goal

abbrev pub invariant-loop-levels : goal.invariant-loop-levels
invariant-loop-levels l = (old new : List RuleTexts) → AreLevels old new l.fn.levels.items → AreLevels old new l.levels.items

abbrev pub decreases-loop-levels : goal.decreases-loop-levels
decreases-loop-levels l = length l.levels.items
