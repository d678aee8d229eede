use Rattle.std.proofs.Common.{ap}
use Rattle.hwdb_pattern.specs.Internal.Tables.{said}
use Rattle.hwdb_pattern.proofs.met.all_of.Goals as goal

pub returns : goal.returns
returns c = ap (said c.args.rest.least) (c.in_ok-says.ensures.items_if_clones_equal (λ y e. e))
