use Rattle.std.proofs.Common.{◌≡◌, length, map}
use Rattle.hwdb_spec_commands.specs.DeviceTree as tree
use Rattle.hwdb_sysfs.proofs.near.nearest_of.Given as goal

abbrev pub invariant-names : goal.invariant-names
invariant-names l = tree.nearest_of l.wanted l.nearest.items (map (λ n. n.items) l.left) ≡ tree.nearest_of l.wanted l.fn.before.items (map (λ n. n.items) l.names)

abbrev pub decreases-names : goal.decreases-names
decreases-names l = length l.left
