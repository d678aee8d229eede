use Rattle.hwdb_properties.proofs.SameLemmas.{differ}
use Rattle.hwdb_properties.proofs.cuts.same.Goals as goal

pub returns-then-one-other : goal.returns-then-one-other
returns-then-one-other c = differ c.args.one.now c.args.other.now c.if-one-other.true
