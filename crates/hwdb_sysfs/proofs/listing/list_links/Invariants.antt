use Rattle.std.proofs.Common.{◌≡◌, ◌++◌, codes, flat_map, map, take}
use Rattle.hwdb_spec_commands.specs.DeviceTree as tree
use Rattle.hwdb_spec_commands.specs.SysfsAnswers.{seen}
use Rattle.hwdb_sysfs.proofs.listing.list_links.Given as goal

abbrev pub invariant-loop-folder : goal.invariant-loop-folder
invariant-loop-folder g l = g.F.DeviceFiles.tells → map (λ p. p.items) l.links.items
    ≡ tree.links_in (seen (g.F.DeviceFiles.answers l.files)) (l.sys ++ codes "/class/input")
    ++ flat_map (tree.other_links (seen (g.F.DeviceFiles.answers l.files)) (l.sys ++ codes "/class/input")) (map (λ f. f.items) (take l.folder-index l.folder-items))
