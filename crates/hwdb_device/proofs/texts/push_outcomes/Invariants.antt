use Rattle.std.proofs.Common.{◌≡◌, ◌++◌, take}
use Rattle.std.specs.Prelude.{flat_map}
use Rattle.hwdb_spec_commands.specs.DeviceTexts
use Rattle.hwdb_device.specs.Views.{outcomes_in}
use Rattle.hwdb_device.proofs.texts.push_outcomes.Given as goal

abbrev pub invariant-loop-outcome : goal.invariant-loop-outcome
invariant-loop-outcome l = l.text.items ≡ l.fn.text.items ++ flat_map DeviceTexts.result_lines (outcomes_in (take l.outcome-index l.outcomes))
