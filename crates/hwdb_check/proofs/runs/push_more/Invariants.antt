use Rattle.std.proofs.Common.{◌≡◌, ◌++◌, flat_map, take}
use Rattle.hwdb_spec_commands.specs.Unmatched.{or_run}
use Rattle.hwdb_check.proofs.runs.push_more.Given as goal

abbrev pub invariant-loop-run : goal.invariant-loop-run
invariant-loop-run l = l.text.items ≡ l.fn.text.items ++ flat_map or_run (take l.run-index l.more)
