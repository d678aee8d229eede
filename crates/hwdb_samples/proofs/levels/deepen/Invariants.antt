use Rattle.std.proofs.Common.{map}
use Rattle.hwdb_samples.specs.Levels.{AreLevels}
use Rattle.hwdb_samples.specs.Views.{rule_texts}
use Rattle.hwdb_samples.proofs.levels.deepen.Given as goal

abbrev pub invariant-loop-left : goal.invariant-loop-left
invariant-loop-left l = AreLevels (map rule_texts l.old) (map rule_texts l.new) l.levels.items

abbrev pub decreases-loop-left : goal.decreases-loop-left
decreases-loop-left l = l.left
