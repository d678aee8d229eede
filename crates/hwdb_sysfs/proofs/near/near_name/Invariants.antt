use Rattle.std.proofs.Common.{◌≡◌, flat_map, length, map}
use Rattle.hwdb_spec_commands.specs.DeviceTree as tree
use Rattle.hwdb_spec_commands.specs.SysfsAnswers.{seen}
use Rattle.hwdb_sysfs.proofs.near.near_name.Given as goal

abbrev pub invariant-folders : goal.invariant-folders
invariant-folders g l = g.F.DeviceFiles.tells → tree.nearest_of l.wanted l.nearest.items (flat_map (tree.names_in (seen (g.F.DeviceFiles.answers l.files))) (map (λ f. f.items) l.left))
    ≡ tree.near_name (seen (g.F.DeviceFiles.answers l.files)) l.sys l.wanted

abbrev pub decreases-folders : goal.decreases-folders
decreases-folders g l = length l.left
