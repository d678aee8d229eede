use Rattle.std.proofs.Common.{◌∙◌, map, subst}
use Rattle.hwdb_spec_commands.specs.Ignored.{AreIgnoredIn}
use Rattle.hwdb_replace.specs.Memory.{seen_of}
use Rattle.hwdb_system.proofs.MemoryLemmas.{ignored_listed}
use Rattle.hwdb_system.proofs.memory.MemoryTextFolders.names_beside_rules.Goals as goal

pub returns-clause-names : goal.returns-clause-names
returns-clause-names c = λ tells.
    let names = map (λ n. n.items) c.in_ok-ignored_after.field-0.items in
    subst (λ folder. AreIgnoredIn folder (seen_of c.args.self.now.steps.items) names) (c.as_str.ensures.value ∙ c.in_ok-folder.ensures)
    (subst (λ steps. AreIgnoredIn c.as_str.result.now (seen_of steps) names) c.deref.ensures.value
    (ignored_listed c.deref.result.now c.as_str.result.now names c.in_ok-ignored_after.ensures))
