use Rattle.std.proofs.Common.{◌≡◌, None, map, string_bytes, take, false}
use Rattle.std.specs.Prelude.{filter_map}
use Rattle.hwdb_system.specs.Internal.{step_name}
use Rattle.hwdb_spec_commands.specs.Told.{first_misnamed}
use Rattle.hwdb_system.proofs.memory.names_after.Given as goal

abbrev pub invariant-loop-step : goal.invariant-loop-step
invariant-loop-step l = record {
  told : map string_bytes l.names.items ≡ filter_map (step_name false l.steps l.folder) (take l.step-index l.steps);
  utf8 : first_misnamed (map string_bytes l.names.items) ≡ None;
}
