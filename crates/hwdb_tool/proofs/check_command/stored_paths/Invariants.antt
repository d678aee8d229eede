use Rattle.std.proofs.Common.{◌≡◌, map, take, string_bytes}
use Rattle.hwdb_spec.specs.Folders.{path_of}
use Rattle.hwdb_text.specs.Views.{choice_of}
use Rattle.hwdb_tool.proofs.check_command.stored_paths.Given as goal

abbrev pub invariant-loop-file : goal.invariant-loop-file
invariant-loop-file l = map string_bytes l.paths.items ≡ map path_of (map choice_of (take l.file-index l.chosen))
