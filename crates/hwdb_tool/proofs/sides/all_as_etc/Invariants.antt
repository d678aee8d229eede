use Rattle.std.proofs.Common.{◌≡◌, map, take}
use Rattle.hwdb_compile.specs.Views as compiled
use Rattle.hwdb_check.specs.Checks.{source_of}
use Rattle.hwdb_spec_commands.specs.Sides.{as_etc}
use Rattle.hwdb_tool.proofs.sides.all_as_etc.Given as goal

abbrev pub invariant-loop-file : goal.invariant-loop-file
invariant-loop-file l = map compiled.source_of l.etc.items ≡ map as_etc (map source_of (take l.file-index l.files))
