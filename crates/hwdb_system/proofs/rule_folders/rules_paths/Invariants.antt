use Rattle.std.proofs.Common.{◌≡◌, map, take, string_bytes}
use Rattle.hwdb_rulefiles.specs.ChoiceViews.{chosen_of}
use Rattle.hwdb_spec_commands.specs.RulePaths.{rules_path}
use Rattle.hwdb_system.proofs.rule_folders.rules_paths.Given as goal

abbrev pub invariant-loop-file : goal.invariant-loop-file
invariant-loop-file l = map string_bytes l.paths.items ≡ map rules_path (map chosen_of (take l.file-index l.chosen))
