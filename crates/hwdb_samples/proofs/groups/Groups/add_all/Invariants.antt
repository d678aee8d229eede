use Rattle.std.proofs.Common.{take}
use Rattle.hwdb_samples.proofs.GroupLemmas.{AddsAll}
use Rattle.hwdb_samples.proofs.groups.Groups.add_all.Given as goal

abbrev pub invariant-loop-property : goal.invariant-loop-property
invariant-loop-property l = AddsAll l.fn.self l.self l.side (take l.property-index l.list)
