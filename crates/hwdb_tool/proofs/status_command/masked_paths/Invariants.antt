use Rattle.std.proofs.Common.{◌≡◌, map, string_bytes, take}
use Rattle.std.specs.Prelude.{flat_map}
use Rattle.hwdb_text.specs.Views.{choice_in}
use Rattle.hwdb_spec_commands.specs.Status.{masked_of}
use Rattle.hwdb_tool.proofs.status_command.masked_paths.Given as goal

abbrev pub invariant-loop-file : goal.invariant-loop-file
invariant-loop-file l = map (λ p. p.items) l.paths.items ≡ flat_map (masked_of (map string_bytes l.listed)) (map choice_in (take l.file-index l.files))
