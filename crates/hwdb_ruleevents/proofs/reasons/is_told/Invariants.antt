use Rattle.std.proofs.Common.{◌≡◌, map, drop}
use Rattle.std.specs.List.{list_any}
use Rattle.std.specs.Str.{bytes_eq}
use Rattle.hwdb_rulefiles.specs.Views.{text_of}
use Rattle.hwdb_ruleevents.proofs.reasons.is_told.Given as goal

abbrev pub invariant-loop-told : goal.invariant-loop-told
invariant-loop-told l = list_any (bytes_eq l.label) (map text_of (drop l.told-index l.labels)) ≡ list_any (bytes_eq l.label) (map text_of l.labels)
