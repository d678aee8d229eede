use Rattle.std.proofs.Common.{◌≡◌, map, take}
use Rattle.hwdb_rulefiles.specs.RuleSpots
use Rattle.hwdb_rulefiles.specs.RuleText
use Rattle.hwdb_rulefiles.proofs.spots.spots_of.Given as goal

abbrev pub invariant-loop-finding : goal.invariant-loop-finding
invariant-loop-finding l = l.all.items ≡ map (RuleSpots.spot (RuleText.rows l.file)) (take l.finding-index l.findings)
