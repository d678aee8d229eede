use Rattle.hwdb_spec.specs.Patterns.{token_at}
use Rattle.hwdb_forms.proofs.MeetLemmas.{byte_met}
use Rattle.hwdb_forms.proofs.sets.bracket_meets.Goals as goal

pub returns-then-takes_of_set : goal.returns-then-takes_of_set
returns-then-takes_of_set c = byte_met (token_at c.args.text.now) c.args.set _ c.takes_of_set.result c.takes_of_set.ensures c.if-takes_of_set.true
