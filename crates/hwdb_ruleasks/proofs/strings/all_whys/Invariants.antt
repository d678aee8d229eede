use Rattle.std.proofs.Common.{◌≡◌, ◌++◌, map, drop}
use Rattle.hwdb_ruleevents.specs.ReasonViews.{reason_of}
use Rattle.hwdb_spec_rules.specs.RuleReasons.{rather_all}
use Rattle.hwdb_spec_rules.specs.RuleStrings
use Rattle.hwdb_ruleasks.specs.Views.{file_of, why_view}
use Rattle.hwdb_ruleasks.proofs.strings.all_whys.Given as goal

abbrev pub invariant-loop-one : goal.invariant-loop-one
invariant-loop-one l =
    map why_view l.whys.items ++ map (RuleStrings.why_of (map file_of l.files)) (rather_all (map reason_of (drop l.one-index l.added)) (map reason_of l.others))
    ≡ map (RuleStrings.why_of (map file_of l.files)) (rather_all (map reason_of l.added) (map reason_of l.changed))
