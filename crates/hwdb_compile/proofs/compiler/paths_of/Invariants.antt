use Rattle.std.proofs.Common.{◌≡◌, map, take}
use Rattle.std.specs.String.{string_bytes}
use Rattle.hwdb_compile.specs.Internal.Reading.{path_in}
use Rattle.hwdb_compile.proofs.compiler.paths_of.Given as goal

abbrev pub invariant-loop-file : goal.invariant-loop-file
invariant-loop-file l = map string_bytes l.paths.items ≡ map path_in (take l.file-index l.files)
