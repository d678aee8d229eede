use Rattle.std.proofs.Common.{◌∙◌, ap, map}
use Rattle.hwdb_query.specs.Views.{assignment_of_answer}
use Rattle.hwdb_lookup.proofs.lookups.hits_windows.Goals as goal

pub returns-clause-answer : goal.returns-clause-answer
returns-clause-answer c file t m h = c.in_ok-hits.ensures c.args.device.now t (ap (map assignment_of_answer) c.deref.ensures.value ∙ c.in_ok-found.ensures.found file t m h)
