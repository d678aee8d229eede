use Rattle.std.proofs.Common.{◌≡◌, map, take}
use Rattle.hwdb_check.specs.Checks
use Rattle.hwdb_near.specs.Views
use Rattle.hwdb_tool.proofs.near_command.compared.Given as goal

abbrev pub invariant-loop-file : goal.invariant-loop-file
invariant-loop-file l = map Views.source_of l.list.items ≡ map Checks.source_of (take l.file-index l.files)
