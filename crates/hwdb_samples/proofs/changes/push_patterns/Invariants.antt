use Rattle.std.proofs.Common.{◌≡◌, ◌++◌, map, take}
use Rattle.hwdb_spec_commands.specs.SamplesFound.{pattern_of}
use Rattle.hwdb_samples.specs.Views.{own_text, rule_texts}
use Rattle.hwdb_samples.proofs.changes.push_patterns.Given as goal

abbrev pub invariant-loop-rule : goal.invariant-loop-rule
invariant-loop-rule l = map own_text l.listed.items ≡ map own_text l.fn.listed.items ++ map pattern_of (map rule_texts (take l.rule-index l.rules))
