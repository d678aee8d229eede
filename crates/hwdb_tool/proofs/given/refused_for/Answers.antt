use Rattle.hwdb_tool.proofs.NamedInputLemmas.{cause_stop}
use Rattle.hwdb_tool.proofs.given.refused_for.Goals as goal

pub returns-in_default-clause-stops : goal.returns-in_default-clause-stops
returns-in_default-clause-stops c = cause_stop c.args.cause c.of_cause.result c.in_default.not-Memory c.of_cause.ensures
