use Rattle.std.proofs.Common.{map}
use Rattle.hwdb_text.specs.Views.{choice_of}
use Rattle.hwdb_tool.proofs.GivenFolderLemmas.{folder_plain}
use Rattle.hwdb_tool.proofs.given_folders.files_in.Goals as goal

pub returns-clause-plain : goal.returns-clause-plain
returns-clause-plain c = λ plain. folder_plain c.folder_of.result.now (map choice_of c.deref.result.now) _ c.in_ok-paths_in.ensures
