use Rattle.std.proofs.Common.{◌∙◌}
use Rattle.hwdb_replace.proofs.StepLemmas.{cleared_on}
use Rattle.hwdb_replace.proofs.memory.MemoryStore.clear_parts.Goals as goal

pub steps-preserved : goal.steps-preserved
steps-preserved c = record {
  cleared = cleared_on c.args.folder.now c.args.self.now.steps.items c.steps.self.steps.items c.clear.new.self.steps.items c.steps.invariant.cleared c.clear.ensures.cleared;
  failed = c.clear.ensures.failed ∙ c.steps.invariant.failed;
}
