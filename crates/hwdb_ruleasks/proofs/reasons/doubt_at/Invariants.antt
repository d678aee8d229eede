use Rattle.std.proofs.Common.{◌≡◌, drop, map, []}
use Rattle.hwdb_ruleevents.specs.Events.{turn}
use Rattle.hwdb_ruleevents.specs.ReasonViews.{reason_of}
use Rattle.hwdb_spec_rules.specs.RuleReasons
use Rattle.hwdb_ruleasks.proofs.reasons.doubt_at.Given as goal

abbrev pub invariant-loop-reason : goal.invariant-loop-reason
invariant-loop-reason l =
    (l.text.items ≡ [])
    × (RuleReasons.doubt_at (map reason_of (drop l.reason-index l.reasons)) (turn l.file l.line) ≡ RuleReasons.doubt_at (map reason_of l.reasons) (turn l.file l.line))
