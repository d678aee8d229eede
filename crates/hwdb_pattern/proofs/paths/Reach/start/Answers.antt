use Rattle.std.proofs.Common.{refl, [], ◌∷◌}
use Rattle.hwdb_pattern.proofs.PathLemmas.{starts}
use Rattle.hwdb_pattern.proofs.paths.Reach.start.Goals as goal

pub returns-clause-path : goal.returns-clause-path
returns-clause-path c = starts c.args.device.now (0 ∷ []) c.new.result.items refl c.new.ensures.items
