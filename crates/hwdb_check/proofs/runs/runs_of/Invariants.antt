use Rattle.std.proofs.Common.{◌≡◌, ◌+◌, ◌++◌, drop}
use Rattle.hwdb_spec_commands.specs.Unmatched.{runs, runs_from}
use Rattle.hwdb_check.proofs.runs.runs_of.Given as goal

abbrev pub invariant-loop-byte : goal.invariant-loop-byte
invariant-loop-byte l = l.runs.items ++ runs_from l.run.0 l.run.1 (drop (l.byte-index + 1) l.bytes) ≡ runs l.bytes
