use Rattle.std.proofs.Common.{⊎_elim, refl}
use Rattle.hwdb_io.proofs.TransferLemmas.{not_both}
use Rattle.hwdb_io.proofs.laws.nothing_is_held_back.Goals as goal
use Rattle.hwdb_spec.specs.Lemmas.Calls.{failed_call}

pub returns-clause-call : goal.returns-clause-call
returns-clause-call c = λ before now count few one.
    ⊎_elim (λ failed. absurd (not_both count count few refl (failed_call count count failed))) (λ more. more.1) one

pub returns-clause-run : goal.returns-clause-run
returns-clause-run c = λ before now count few one.
    ⊎_elim (λ failed. absurd (not_both count count few refl failed)) (λ more. more) one
