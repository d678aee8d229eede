use Rattle.std.proofs.Common.{◌≡◌, map, take, string_bytes}
use Rattle.hwdb_spec.specs.Store.{path_in}
use Rattle.hwdb_text.specs.Views.{choice_of}
use Rattle.hwdb_tool.proofs.given_folders.paths_in.Given as goal

abbrev pub invariant-loop-file : goal.invariant-loop-file
invariant-loop-file l = map string_bytes l.paths.items ≡ map (λ c. path_in l.folder c.name) (map choice_of (take l.file-index l.chosen))
