use Rattle.std.proofs.Common.{◌∙◌}
use Rattle.hwdb_compile.specs.Internal.Reading.{path_in}
use Rattle.hwdb_compile.proofs.GatherLemmas.{mapped_all}
use Rattle.hwdb_compile.proofs.compiler.paths_of.Goals as goal

pub returns : goal.returns
returns c = c.loop-file.invariant ∙ mapped_all path_in c.args.files.now c.loop-file.file-index c.loop-file-test.false
