use Rattle.hwdb_pattern.proofs.GrowthLemmas.{live_front}
use Rattle.hwdb_pattern.proofs.laws.dead_stays_dead.Goals as goal

pub returns : goal.returns
returns c = live_front
