use Rattle.std.proofs.Common.{◌≡◌, drop, map}
use Rattle.hwdb_ruleevents.specs.TellViews.{told_of}
use Rattle.hwdb_spec_rules.specs.RuleStrings
use Rattle.hwdb_ruleasks.proofs.strings.is_new.Given as goal

abbrev pub invariant-loop-other : goal.invariant-loop-other
invariant-loop-other l =
    RuleStrings.is_new (map told_of (drop l.other-index l.told)) (told_of l.one) ≡ RuleStrings.is_new (map told_of l.told) (told_of l.one)
