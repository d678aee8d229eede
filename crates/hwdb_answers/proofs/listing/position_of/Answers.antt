use Rattle.hwdb_answers.proofs.RefusalLemmas.{position_refused}
use Rattle.hwdb_answers.proofs.listing.position_of.Goals as goal

pub returns-in_err-read-in-Some-clause-refusals : goal.returns-in_err-read-in-Some-clause-refusals
returns-in_err-read-in-Some-clause-refusals c =
    rw c.in-Some.is (position_refused c.in-Some.text.now c.in_err-read-in-Some.field-0.0 _ c.from_residual.ensures.1 c.in_err-read-in-Some.ensures.refused)
