use Rattle.std.proofs.Common.{ap}
use Rattle.hwdb_pattern.specs.Views.{Reached}
use Rattle.hwdb_pattern.specs.Internal.Met.{lengths_of}
use Rattle.hwdb_pattern.proofs.PathLemmas.{alive_test}
use Rattle.hwdb_pattern.proofs.paths.Reach.is_alive.Goals as goal

pub returns : goal.returns
returns c = alive_test c.args.self.now (lengths_of c.self.inside.met) c.is_empty.result
    (ap (λ (r : Reached). r.lengths) c.self.view_is) c.is_empty.ensures
