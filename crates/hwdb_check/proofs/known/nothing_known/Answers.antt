use Rattle.hwdb_check.proofs.PlainLemmas.{known_nothing}
use Rattle.hwdb_check.proofs.known.nothing_known.Goals as goal
use Rattle.std.proofs.Common.{refl}

pub returns : goal.returns
returns c = (known_nothing _ c.requires c.new-repeated.ensures.empty c.new-replaced.ensures.empty c.new-elsewhere.ensures.empty c.new-unpaired.ensures.empty, refl)
