use Rattle.std.proofs.Common.{◌≡◌, map, take, flat_map}
use Rattle.hwdb_check.specs.Checks.{source_of}
use Rattle.hwdb_spec.specs.Folders.{Source}
use Rattle.hwdb_spec.specs.Texts.{devices_of}
use Rattle.hwdb_tool.proofs.diff_command.devices_in.Given as goal

abbrev pub invariant-loop-file : goal.invariant-loop-file
invariant-loop-file l = map (λ d. d.now) l.devices.items ≡ flat_map (λ (f : Source). devices_of f.bytes) (map source_of (take l.file-index l.files))
