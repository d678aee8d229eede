use Rattle.std.proofs.Common.{rules}
use Rattle.hwdb_replace.specs.Memory.{stored}
use Rattle.hwdb_replace.proofs.StepLemmas.{standing}
use Rattle.hwdb_replace.proofs.memory.Memory.longer.Goals as goal

pub returns-in-Some : goal.returns-in-Some
returns-in-Some c = (
  stored c.in-Some.file.now,
  standing c.in_ok-state.state _ _ _ _ _ c.in_ok-state.ensures c.deref.ensures.value c.deref-2.ensures.value c.in-Some.is,
  (search rules, search rules),
)
