use Rattle.std.proofs.Common.{◌≡◌, ◌++◌, ◌∷◌, ◌≤◌, length, map, reverse, take}
use Rattle.std.specs.Prelude.{filter_map}
use Rattle.hwdb_spec_commands.specs.DeviceTree as tree
use Rattle.hwdb_spec.specs.Lines.{is, pieces}
use Rattle.hwdb_spec_commands.specs.SysfsAnswers.{seen}
use Rattle.hwdb_sysfs.specs.Views.{ancestor_of}
use Rattle.hwdb_sysfs.proofs.reading.chain_at.Given as goal

abbrev pub invariant-bytes : goal.invariant-bytes
invariant-bytes g l = record {
  within : l.end ≤ length l.place;
  chain : g.F.DeviceFiles.tells → map ancestor_of l.chain.items
      ++ filter_map (tree.ancestor_below (seen (g.F.DeviceFiles.answers l.sysfs.files.now)) (pieces (is 10) l.sysfs.names.now) l.sysfs.folder.now) (tree.above (reverse (take l.end l.place)))
      ≡ filter_map (tree.ancestor_below (seen (g.F.DeviceFiles.answers l.sysfs.files.now)) (pieces (is 10) l.sysfs.names.now) l.sysfs.folder.now) (l.place ∷ tree.above (reverse l.place));
}

abbrev pub decreases-bytes : goal.decreases-bytes
decreases-bytes g l = l.end
