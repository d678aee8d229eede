use Rattle.std.proofs.Common.{◌≡◌, ◌++◌, length}
use Rattle.hwdb_spec_commands.specs.Sysfs.{replaced}
use Rattle.hwdb_ruleevents.proofs.values.push_replaced.Given as goal

abbrev pub invariant-writing : goal.invariant-writing
invariant-writing l = l.text.items ++ replaced 0 l.left ≡ l.fn.text.items ++ replaced 0 l.value

abbrev pub decreases-writing : goal.decreases-writing
decreases-writing l = length l.left
