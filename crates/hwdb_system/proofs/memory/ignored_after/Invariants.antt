use Rattle.std.proofs.Common.{◌≡◌, map, take, true}
use Rattle.std.specs.Prelude.{filter_map}
use Rattle.hwdb_system.specs.Internal.{step_name}
use Rattle.hwdb_system.proofs.memory.ignored_after.Given as goal

abbrev pub invariant-loop-step : goal.invariant-loop-step
invariant-loop-step l = map (λ n. n.items) l.names.items ≡ filter_map (step_name true l.steps l.folder) (take l.step-index l.steps)
