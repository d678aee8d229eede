use Rattle.std.proofs.Common.{◌≡◌, [], map, drop}
use Rattle.hwdb_rulefiles.specs.Views.{text_of}
use Rattle.hwdb_ruleevents.specs.Reasons
use Rattle.hwdb_ruleevents.proofs.reasons.jumps.Given as goal

abbrev pub invariant-loop-label : goal.invariant-loop-label
invariant-loop-label l =
    Reasons.with_waiting (map text_of l.labels.items) (map text_of (drop l.label-index l.waiting)) ≡ Reasons.with_waiting [] (map text_of l.waiting)
