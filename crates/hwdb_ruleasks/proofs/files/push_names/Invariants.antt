use Rattle.std.proofs.Common.{◌≡◌, ◌++◌, map, drop}
use Rattle.hwdb_spec_rules.specs.RuleAnswers.{names_text}
use Rattle.hwdb_ruleasks.specs.Views.{own_text}
use Rattle.hwdb_ruleasks.proofs.files.push_names.Given as goal

abbrev pub invariant-loop-name : goal.invariant-loop-name
invariant-loop-name l =
    l.text.items ++ names_text (map own_text (drop l.name-index l.names)) ≡ l.initial.text.items ++ names_text (map own_text l.names)
