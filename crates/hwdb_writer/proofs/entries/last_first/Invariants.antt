use Rattle.std.proofs.Common.{◌≡◌, take}
use Rattle.hwdb_writer.proofs.entries.last_first.Given as goal

abbrev pub invariant-loop-entry : goal.invariant-loop-entry
invariant-loop-entry l = l.order.items ≡ take l.entry-index l.all
