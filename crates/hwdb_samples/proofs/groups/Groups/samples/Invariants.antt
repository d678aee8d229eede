use Rattle.hwdb_samples.proofs.GroupLemmas.{Completes}
use Rattle.hwdb_samples.proofs.groups.Groups.samples.Given as goal

abbrev pub invariant-loop-key : goal.invariant-loop-key
invariant-loop-key l = Completes l.key-iterator l.fn.self.sides.entries l.list.items
