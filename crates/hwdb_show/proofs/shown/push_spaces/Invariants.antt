use Rattle.std.proofs.Common.{◌≡◌, ◌++◌, take}
use Rattle.hwdb_spec_commands.specs.Reports.{spaces}
use Rattle.hwdb_show.proofs.shown.push_spaces.Given as goal

abbrev pub invariant-loop-byte : goal.invariant-loop-byte
invariant-loop-byte l = l.text.items ≡ l.fn.text.items ++ spaces (take l._byte-index l.other)
