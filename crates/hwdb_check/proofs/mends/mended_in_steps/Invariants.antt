use Rattle.std.proofs.Common.{◌≡◌, ◌≤◌}
use Rattle.hwdb_spec_commands.specs.Mends.{mended_in}
use Rattle.hwdb_check.proofs.mends.mended_in_steps.Given as goal

abbrev pub invariant-loop-steps : goal.invariant-loop-steps
invariant-loop-steps l = record {
  within : l.steps ≤ 4;
  same : mended_in l.steps l.text.items l.at ≡ mended_in 4 l.pattern l.place;
}

abbrev pub decreases-loop-steps : goal.decreases-loop-steps
decreases-loop-steps l = l.steps
