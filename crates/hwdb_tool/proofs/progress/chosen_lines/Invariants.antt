use Rattle.std.proofs.Common.{◌≡◌, map, string_bytes, take}
use Rattle.std.specs.Prelude.{flat_map}
use Rattle.hwdb_spec_commands.specs.Progress.{chosen_line}
use Rattle.hwdb_text.specs.Views.{choice_in}
use Rattle.hwdb_tool.proofs.progress.chosen_lines.Given as goal

abbrev pub invariant-loop-file : goal.invariant-loop-file
invariant-loop-file l = l.text.items ≡ flat_map (chosen_line (map string_bytes l.listed)) (map choice_in (take l.file-index l.files))
