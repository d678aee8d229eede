use Rattle.std.proofs.Common.{◌≡◌, map, take}
use Rattle.std.specs.Prelude.{option_map}
use Rattle.hwdb_spec_commands.specs.Checks.{named}
use Rattle.hwdb_check.specs.Checks.{source_of}
use Rattle.hwdb_check.proofs.files.all_named.Given as goal

abbrev pub invariant-loop-file : goal.invariant-loop-file
invariant-loop-file l = map source_of l.all.items ≡ map (named (option_map (λ t. t.now) l.name)) (map source_of (take l.file-index l.files))
