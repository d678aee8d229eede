use Rattle.std.proofs.Common.{IfOk, map, string_bytes, subst}
use Rattle.hwdb_spec.specs.System.{AreNamesIn}
use Rattle.hwdb_replace.specs.Memory.{seen_of}
use Rattle.hwdb_system.proofs.MemoryLemmas.{listed_are}
use Rattle.hwdb_system.proofs.memory.MemorySystem.names.Goals as goal

pub returns-clause-names : goal.returns-clause-names
returns-clause-names c = λ tells.
    subst (λ steps. IfOk c.names_after.result (λ names. AreNamesIn c.args.folder.now (seen_of steps) (map string_bytes names.items))) c.deref.ensures.value
    (listed_are (λ names. map string_bytes names.items) c.deref.result.now c.args.folder.now c.names_after.result c.names_after.ensures.told)
