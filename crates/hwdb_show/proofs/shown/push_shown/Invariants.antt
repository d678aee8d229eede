use Rattle.std.proofs.Common.{◌≡◌, ◌++◌, take}
use Rattle.hwdb_spec_commands.specs.Reports.{shown}
use Rattle.hwdb_show.proofs.shown.push_shown.Given as goal

abbrev pub invariant-loop-byte : goal.invariant-loop-byte
invariant-loop-byte l = l.text.items ≡ l.fn.text.items ++ shown (take l.byte-index l.bytes)
