use Rattle.hwdb_io.proofs.TransferLemmas.{beginning_of, not_both}
use Rattle.hwdb_io.proofs.laws.outputs_have_what_they_took.Goals as goal
use Rattle.hwdb_spec.specs.Lemmas.Calls.{failed_call}

pub returns-clause-whole : goal.returns-clause-whole
returns-clause-whole c = λ text before now f g took. took.whole

pub returns-clause-beginning : goal.returns-clause-beginning
returns-clause-beginning c = λ text before now f g cut. beginning_of text before now cut.prefix

pub returns-clause-apart : goal.returns-clause-apart
returns-clause-apart c = λ text before now f g few took cut. not_both f g few took.unfailed (failed_call f g cut.failed)
