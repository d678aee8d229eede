use Rattle.std.proofs.Common.{refl}
use Rattle.hwdb_reader.specs.Views.{tree_of}
use Rattle.hwdb_reader.proofs.view.Node.with_stars.Goals as goal

pub returns : goal.returns
unfolding tree_of
returns c = refl
