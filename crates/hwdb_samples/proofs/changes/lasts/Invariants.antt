use Rattle.std.proofs.Common.{map, take}
use Rattle.hwdb_samples.specs.Internal.{IsLasts}
use Rattle.hwdb_samples.specs.Views.{rule_texts}
use Rattle.hwdb_samples.proofs.changes.lasts.Given as goal

abbrev pub invariant-loop-rule : goal.invariant-loop-rule
invariant-loop-rule l = IsLasts (map rule_texts (take l.rule-index l.rules)) l.lasts
