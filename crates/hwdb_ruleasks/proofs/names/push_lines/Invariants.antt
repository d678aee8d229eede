use Rattle.std.proofs.Common.{◌≡◌, ◌++◌, map, drop}
use Rattle.std.specs.Prelude.{flat_map}
use Rattle.hwdb_rulefiles.specs.LineViews.{line_of}
use Rattle.hwdb_spec_rules.specs.RuleNames.{line_names}
use Rattle.hwdb_ruleasks.specs.Views.{own_text}
use Rattle.hwdb_ruleasks.proofs.names.push_lines.Given as goal

abbrev pub invariant-loop-line : goal.invariant-loop-line
invariant-loop-line l =
    map own_text l.names.items ++ flat_map line_names (map line_of (drop l.line-index l.lines))
    ≡ map own_text l.initial.names.items ++ flat_map line_names (map line_of l.lines)
