use Rattle.std.proofs.Common.{◌≡◌, ◌++◌, map, drop}
use Rattle.hwdb_ruleevents.specs.FileViews.{lines_of}
use Rattle.hwdb_spec_rules.specs.RuleStrings
use Rattle.hwdb_ruleasks.specs.Views.{file_of}
use Rattle.hwdb_ruleasks.proofs.strings.lines_in.Given as goal

abbrev pub invariant-loop-file : goal.invariant-loop-file
invariant-loop-file l =
    map lines_of l.all.items ++ RuleStrings.lines_in (map file_of (drop l.file-index l.files)) ≡ RuleStrings.lines_in (map file_of l.files)
