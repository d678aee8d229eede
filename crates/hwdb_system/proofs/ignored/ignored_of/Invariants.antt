use Rattle.std.proofs.Common.{◌≡◌, ◌++◌, filter, length, map}
use Rattle.hwdb_spec_commands.specs.Ignored.{is_ignored}
use Rattle.hwdb_system.specs.Raw.{entries}
use Rattle.hwdb_system.proofs.ignored.ignored_of.Given as goal

abbrev pub invariant-names : goal.invariant-names
invariant-names l = map (λ n. n.items) l.names.items ++ filter is_ignored (entries l.left) ≡ filter is_ignored (entries l.listing)

abbrev pub decreases-names : goal.decreases-names
decreases-names l = length l.left
