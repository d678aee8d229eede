use Rattle.std.proofs.Common.{◌≡◌, map, take}
use Rattle.hwdb_spec_commands.specs.SampleRules.{given}
use Rattle.hwdb_samples.specs.Views.{rule_texts, value_of}
use Rattle.hwdb_samples.proofs.rules.given.Given as goal

abbrev pub invariant-loop-rule : goal.invariant-loop-rule
invariant-loop-rule l = value_of l.found ≡ given l.device (map rule_texts (take l.rule-index l.rules))
