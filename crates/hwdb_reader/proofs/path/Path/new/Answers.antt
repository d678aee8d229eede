use Rattle.std.proofs.Common.{refl}
use Rattle.hwdb_reader.specs.Internal.Paths.{open_nodes}
use Rattle.hwdb_reader.proofs.path.Path.new.Goals as goal

pub returns : goal.returns
unfolding open_nodes
returns c = refl
