use Rattle.std.proofs.Common.{◌≡◌, ◌++◌, length, map, string_bytes}
use Rattle.hwdb_plan.specs.OwnRules.{sources_of}
use Rattle.hwdb_spec_rules.specs.RuleAnswers.{files_of}
use Rattle.hwdb_ruleasks.specs.FileViews.{parsed_of}
use Rattle.hwdb_ruleasks.proofs.files.parsed_files.Given as goal

abbrev pub invariant-files : goal.invariant-files
invariant-files l =
    map parsed_of l.files.items ++ files_of (sources_of (map string_bytes l.paths) (map (λ t. t.items) l.texts))
    ≡ files_of (sources_of (map string_bytes l.fn.paths) (map (λ t. t.items) l.fn.texts))

abbrev pub decreases-files : goal.decreases-files
decreases-files l = length l.paths
