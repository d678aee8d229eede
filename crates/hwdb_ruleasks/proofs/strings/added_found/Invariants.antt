use Rattle.std.proofs.Common.{◌≡◌, ◌++◌, map, drop}
use Rattle.std.specs.Prelude.{flat_map}
use Rattle.hwdb_ruleevents.specs.ReasonViews.{reason_of}
use Rattle.hwdb_ruleevents.specs.TellViews.{told_of}
use Rattle.hwdb_sysfs.specs.Views.{ancestor_of}
use Rattle.hwdb_spec_rules.specs.RuleStrings
use Rattle.hwdb_ruleasks.specs.Views.{file_of, found_of, tells_of}
use Rattle.hwdb_ruleasks.proofs.strings.added_found.Given as goal

abbrev pub invariant-loop-one : goal.invariant-loop-one
invariant-loop-one l =
    let f = RuleStrings.found_of (tells_of l.asking.db) (map file_of l.asking.files.now) (map ancestor_of l.asking.chain.now) (map reason_of l.added.reasons.items) in
    map found_of l.found.items ++ flat_map f (map told_of (drop l.one-index l.added.told.items)) ≡ flat_map f (map told_of l.added.told.items)
