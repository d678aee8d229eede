use Rattle.std.proofs.Common.{◌≡◌, map, take}
use Rattle.std.specs.String.{string_bytes}
use Rattle.hwdb_compile.specs.Views.{source_of, name_of}
use Rattle.hwdb_compile.proofs.sources.names.Given as goal

abbrev pub invariant-loop-file : goal.invariant-loop-file
invariant-loop-file l = map string_bytes l.names.items ≡ map (λ f. name_of (source_of f)) (take l.file-index l.files)
