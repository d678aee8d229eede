use Rattle.std.proofs.Common.{◌≡◌, map, take}
use Rattle.hwdb_spec_commands.specs.SamplesFound.{near}
use Rattle.hwdb_samples.specs.Views.{rule_texts}
use Rattle.hwdb_samples.proofs.agreement.near.Given as goal

abbrev pub invariant-loop-rule : goal.invariant-loop-rule
invariant-loop-rule l = map rule_texts l.near.items ≡ near l.pattern (map rule_texts (take l.rule-index l.rules))
