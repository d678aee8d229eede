use Rattle.std.proofs.Common.{◌≡◌, ◌++◌, map, drop}
use Rattle.std.specs.Prelude.{flat_map}
use Rattle.hwdb_ruleevents.specs.FileViews.{lines_of}
use Rattle.hwdb_spec_rules.specs.RuleNames.{file_names}
use Rattle.hwdb_ruleasks.specs.Views.{own_text}
use Rattle.hwdb_ruleasks.proofs.names.push_files.Given as goal

abbrev pub invariant-loop-lines : goal.invariant-loop-lines
invariant-loop-lines l =
    map own_text l.names.items ++ flat_map file_names (map lines_of (drop l.lines-index l.files))
    ≡ map own_text l.initial.names.items ++ flat_map file_names (map lines_of l.files)
