use Rattle.std.proofs.Common.{◌≡◌, map, take}
use Rattle.hwdb_spec_commands.specs.SamplesFound.{counted}
use Rattle.hwdb_samples.specs.Views.{counted_shown, rule_texts}
use Rattle.hwdb_samples.proofs.agreement.counted_of.Given as goal

abbrev pub invariant-loop-rule : goal.invariant-loop-rule
invariant-loop-rule l = counted_shown l.counted ≡ counted l.pattern (map rule_texts (take l.rule-index l.rules))
