use Rattle.hwdb_io.proofs.laws.one_failed_has_failed.Goals as goal
use Rattle.hwdb_spec.specs.Lemmas.Calls.{failed_call}

pub returns : goal.returns
returns c = λ before now failed. failed_call before now failed
