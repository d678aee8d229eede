use Rattle.std.proofs.Common.{◌≡◌}
use Rattle.hwdb_replace.proofs.StepLemmas.{ClearedSoFar}
use Rattle.hwdb_replace.proofs.memory.MemoryStore.clear_parts.Given as goal

abbrev pub invariant-steps : goal.invariant-steps
invariant-steps l = record {
  cleared : ClearedSoFar l.folder l.fn.self.steps.items l.self.steps.items;
  failed : l.self.failed ≡ l.fn.self.failed;
}
