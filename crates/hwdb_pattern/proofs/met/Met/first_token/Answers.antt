use Rattle.std.proofs.lemmas.Result.{IfOk-weaker}
use Rattle.hwdb_spec.specs.Patterns.{token_at}
use Rattle.hwdb_pattern.specs.Internal.Met.{lengths_of}
use Rattle.hwdb_pattern.proofs.PathLemmas.{ok_and}
use Rattle.hwdb_pattern.proofs.TableLemmas.{steps_none}
use Rattle.hwdb_pattern.proofs.met.Met.first_token.Goals as goal

pub returns-clause-after : goal.returns-clause-after
returns-clause-after c =
    IfOk-weaker c.taken.result _ _ (λ after s. record { star = λ e. absurd (c.if-text-eq42.false e); token = λ _. s }) c.taken.ensures.steps

pub returns-clause-free : goal.returns-clause-free
returns-clause-free c no_star none =
    ok_and c.taken.result _ (c.taken.ensures.free none)
    (IfOk-weaker c.taken.result _ _
    (λ after s. steps_none (token_at c.args.text.now) c.args.device.now (lengths_of c.args.self.now) (lengths_of after) none s) c.taken.ensures.steps)
