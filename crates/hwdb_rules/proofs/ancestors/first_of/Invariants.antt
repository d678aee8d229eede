use Rattle.std.proofs.Common.{◌≡◌, ◌+◌, length, map}
use Rattle.hwdb_spec_commands.specs.Sysfs.{first_at}
use Rattle.hwdb_sysfs.specs.Views.{ancestor_of}
use Rattle.hwdb_rules.specs.Internal.{passes}
use Rattle.hwdb_rules.proofs.ancestors.first_of.Given as goal

abbrev pub invariant-looking : goal.invariant-looking
invariant-looking l = record {
  place : l.place + length l.left ≡ length l.chain;
  same : first_at (passes l.wanted) l.place (map ancestor_of l.left) ≡ first_at (passes l.wanted) 0 (map ancestor_of l.chain);
}

abbrev pub decreases-looking : goal.decreases-looking
decreases-looking l = length l.left
