use Rattle.std.proofs.Common.{◌≡◌, length, map}
use Rattle.hwdb_spec_commands.specs.Sysfs.{value_of}
use Rattle.hwdb_sysfs.specs.Views.{attribute_of}
use Rattle.hwdb_rules.proofs.ancestors.value_of.Given as goal

abbrev pub invariant-looking : goal.invariant-looking
invariant-looking l = value_of l.name (map attribute_of l.left) ≡ value_of l.name (map attribute_of l.attributes)

abbrev pub decreases-looking : goal.decreases-looking
decreases-looking l = length l.left
