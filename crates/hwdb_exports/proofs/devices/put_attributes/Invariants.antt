use Rattle.std.proofs.Common.{◌≡◌, List, ℕ}
use Rattle.std.specs.Prelude.{filter_map}
use Rattle.hwdb_spec_commands.specs.Exports as spec
use Rattle.hwdb_text.specs.PiecesLeft.{lines_left}
use Rattle.hwdb_exports.specs.Views.{exported, spot_at}
use Rattle.hwdb_exports.proofs.devices.put_attributes.Given as goal

abbrev pub invariant-loop-rule : goal.invariant-loop-rule
invariant-loop-rule l = (path : List ℕ) → spec.spot_after path (spot_at l.spots path) (filter_map (spec.attribute_spot (exported l.device).path (exported l.device).lines) (lines_left l.rule-iterator))
    ≡ spec.spot_after path (spot_at l.fn.spots path) (filter_map (spec.attribute_spot (exported l.device).path (exported l.device).lines) spec.export_rules)
