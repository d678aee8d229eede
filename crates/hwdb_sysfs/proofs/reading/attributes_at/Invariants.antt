use Rattle.std.proofs.Common.{◌≡◌, ◌++◌, map}
use Rattle.std.specs.Prelude.{filter_map}
use Rattle.hwdb_spec_commands.specs.DeviceTree as tree
use Rattle.hwdb_spec.specs.Lines.{is, pieces}
use Rattle.hwdb_text.specs.PiecesLeft.{lines_left}
use Rattle.hwdb_spec_commands.specs.SysfsAnswers.{seen}
use Rattle.hwdb_sysfs.specs.Views.{attribute_of}
use Rattle.hwdb_sysfs.proofs.reading.attributes_at.Given as goal

abbrev pub invariant-loop-name : goal.invariant-loop-name
invariant-loop-name g l = g.F.DeviceFiles.tells → map attribute_of l.attributes.items ++ filter_map (tree.attribute_at (seen (g.F.DeviceFiles.answers l.files)) l.folder) (lines_left l.name-iterator)
    ≡ filter_map (tree.attribute_at (seen (g.F.DeviceFiles.answers l.files)) l.folder) (pieces (is 10) l.names)
