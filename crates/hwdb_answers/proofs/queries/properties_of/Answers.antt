use Rattle.std.proofs.Common.{◌∙◌}
use Rattle.std.proofs.lemmas.Result.{IfOk-weaker}
use Rattle.hwdb_answers.proofs.StreamLemmas.{one_queried, one_value}
use Rattle.hwdb_answers.proofs.queries.properties_of.Goals as goal

pub returns-clause-text : goal.returns-clause-text
returns-clause-text c = IfOk-weaker c.answer.result _ _ (λ text is. record { tree = is.tree; database = is.database; is = is.is ∙ one_queried c.args.device.now is.tree }) c.answer.ensures.text

pub returns-clause-headline : goal.returns-clause-headline
returns-clause-headline c = IfOk-weaker c.answer.result _ _ (λ text is etc usr compiled. is etc usr compiled ∙ one_value c.args.device.now etc usr) c.answer.ensures.headline
