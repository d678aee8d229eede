use Rattle.std.proofs.Common.{◌≡◌, ◌++◌, map}
use Rattle.std.specs.Prelude.{flat_map}
use Rattle.hwdb_spec.specs.Lines.{is, pieces}
use Rattle.hwdb_ruleevents.specs.ChangeViews.{change_of}
use Rattle.hwdb_spec_rules.specs.RuleSights.{line_property}
use Rattle.hwdb_text.specs.PiecesLeft.{lines_left}
use Rattle.hwdb_ruleasks.proofs.properties.push_uevent.Given as goal

abbrev pub invariant-loop-line : goal.invariant-loop-line
invariant-loop-line l =
    map change_of l.all.items ++ flat_map line_property (lines_left l.line-iterator)
    ≡ map change_of l.initial.all.items ++ flat_map line_property (pieces (is 10) l.uevent)
