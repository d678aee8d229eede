use Rattle.hwdb_reader.proofs.CopyLemmas.{fresh}
use Rattle.hwdb_reader.proofs.repeats.Repeats.new.Goals as goal

pub invariant_of-result : goal.invariant_of-result
invariant_of-result c = fresh c.args.bytes.now 64
