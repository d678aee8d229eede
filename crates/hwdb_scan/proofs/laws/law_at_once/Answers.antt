use Rattle.hwdb_scan.proofs.PieceLemmas.{at_once}
use Rattle.hwdb_scan.proofs.laws.law_at_once.Goals as goal

pub returns : goal.returns
returns c = record { once = at_once }
