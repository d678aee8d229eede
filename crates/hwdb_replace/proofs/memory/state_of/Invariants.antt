use Rattle.std.proofs.Common.{◌≡◌, drop}
use Rattle.hwdb_spec.specs.Crashes.{begin}
use Rattle.hwdb_replace.specs.Memory.{lent, state_of}
use Rattle.hwdb_replace.proofs.memory.state_of.Given as goal

abbrev pub invariant-loop-step : goal.invariant-loop-step
invariant-loop-step l = state_of l.path (lent l.state) (drop l.step-index l.steps) ≡ state_of l.path begin l.steps
