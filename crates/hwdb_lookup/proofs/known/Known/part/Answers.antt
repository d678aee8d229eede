use Rattle.hwdb_lookup.proofs.PartsLemmas.{part_read}
use Rattle.hwdb_lookup.proofs.known.Known.part.Goals as goal

pub returns-clause-read : goal.returns-clause-read
returns-clause-read c file m = part_read file c.args.self.buffer.now c.args.from c.args.to (c.in_ok-need.ensures.read file m) m.size c.requires.ordered c.requires.inside
