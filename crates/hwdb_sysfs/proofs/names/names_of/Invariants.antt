use Rattle.std.proofs.Common.{◌≡◌, ◌++◌, length, map}
use Rattle.hwdb_spec.specs.Assignment.{in_order, text_cmp}
use Rattle.hwdb_spec_commands.specs.SysfsAnswers.{names_listed}
use Rattle.hwdb_sysfs.proofs.names.names_of.Given as goal

abbrev pub invariant-names : goal.invariant-names
invariant-names l = map (λ n. n.items) l.names.items ++ map (λ n. n.items) l.set.keys ≡ in_order text_cmp (names_listed l.listing)

abbrev pub decreases-names : goal.decreases-names
decreases-names l = length l.set.keys
