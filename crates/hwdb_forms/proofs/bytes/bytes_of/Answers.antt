use Rattle.hwdb_forms.proofs.AfterLemmas.{halves}
use Rattle.hwdb_forms.proofs.bytes.bytes_of.Goals as goal

pub returns : goal.returns
returns c = λ byte h. halves c.args.set _ byte c.low_bytes.ensures c.high_bytes.ensures h
