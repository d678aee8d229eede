use Rattle.hwdb_rules.specs.Views.{questions_of}
use Rattle.hwdb_sysfs.specs.Views.{ancestor_of}
use Rattle.hwdb_rules.proofs.WalkLemmas.{no_parents}
use Rattle.hwdb_rules.proofs.walks.add_parents.Goals as goal

pub returns-in_default : goal.returns-in_default
returns-in_default c =
    no_parents c.args.of.subsystem.now c.args.of.prefix.now 1 c.args.is_last ancestor_of c.args.chain.now (questions_of c.args.questions.now.items) c.in_default.ensures.cases
