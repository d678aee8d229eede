-- What reasons mean.
use Rattle.std.specs.Prelude.{map}
use Rattle.hwdb_rulefiles.specs.Views.{text_of}
use Rattle.hwdb_rulerun.specs.CauseViews.{token_in}
use Rattle.hwdb_ruleevents.specs.Events.{turn}
use Rattle.hwdb_ruleevents.specs.Reasons
use Rattle.hwdb_ruleevents.specs.declared.reasons.Cause.{Cause}
use Rattle.hwdb_ruleevents.specs.declared.reasons.Cause.TheVariants as Kinds
use Rattle.hwdb_ruleevents.specs.declared.reasons.Reason.{Reason}

abbrev pub cause_of : Cause → Reasons.Cause
cause_of (Kinds.Jumped labels) = Reasons.Jumped (map text_of labels.items)
cause_of (Kinds.By tokens) = Reasons.By (map token_in tokens.items)

abbrev pub reason_of : Reason → Reasons.Reason
reason_of r = record { at = turn r.file r.line; asks = r.asks; cause = cause_of r.cause }
