use Rattle.std.proofs.Common.{◌≡◌}
use Rattle.hwdb_replace.specs.Sharing.{WentOn}
use Rattle.hwdb_replace.proofs.others.Shared.wait.Given as goal

abbrev pub invariant-steps : goal.invariant-steps
invariant-steps g l = record {
  went : WentOn g.O.Others.whole l.fn.self.memory.part.items l.fn.self.memory.steps.items l.self.memory.steps.items;
  part : l.self.memory.part.items ≡ l.fn.self.memory.part.items;
  failed : l.self.memory.failed ≡ l.fn.self.memory.failed;
}
