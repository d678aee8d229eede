-- What a count of failed calls tells, that a word too many is a fault, and what comes before a job is done.
use Rattle.std.proofs.Common.{◌≡◌, ◌≢◌, ◌∙◌, ◌<◌, ◌-◌, ⊎_elim, ap, sym, refl, ℕ, [], length, arith, ne_of_lt}
use Rattle.std.specs.Prelude.{◌^◌}
use Rattle.clap.specs.Faults.{fault_of}
use Rattle.clap.proofs.OnLiterals.{clap_on_literals}
use Rattle.hwdb_spec_commands.specs.CommandLine.{hwdb_app}
use Rattle.hwdb_spec.specs.Failures.{HasFailed}
use Rattle.hwdb_tool.specs.Failures.{words_with_one_too_many}

pub at_greatest : (count : ℕ) → HasFailed count count → count ≡ 2 ^ 64 - 1
at_greatest count failed = ⊎_elim (λ (less : count < count). absurd (ne_of_lt less refl)) (λ greatest. greatest) failed

pub one_fault : length (fault_of hwdb_app words_with_one_too_many) ≡ 1
unfolding clap_on_literals
one_fault = refl

pub one_too_many : fault_of hwdb_app words_with_one_too_many ≢ []
one_too_many none =
    let one_is_none : 1 ≡ 0 = sym one_fault ∙ ap length none in
    absurd (omega (arith, one_is_none))
