use Rattle.std.proofs.Common.{inr, refl, subst}
use Rattle.hwdb_test.specs.Refusals.{IsUnsaid}
use Rattle.hwdb_tool.proofs.record_command.refusal_of.Goals as goal

pub returns-in-Unsaid : goal.returns-in-Unsaid
returns-in-Unsaid c = λ words is. inr (c.in-Unsaid.words.items, subst (λ e. IsUnsaid words e) c.in-Unsaid.is is, refl)
