use Rattle.std.proofs.Common.{◌≡◌, length, map}
use Rattle.std.specs.List.{list_any}
use Rattle.hwdb_spec.specs.Folders.{same}
use Rattle.hwdb_device.proofs.every.is_among.Given as goal

abbrev pub invariant-others : goal.invariant-others
invariant-others l = list_any (same l.text) (map (λ o. o.items) l.left) ≡ list_any (same l.text) (map (λ o. o.items) l.others)

abbrev pub decreases-others : goal.decreases-others
decreases-others l = length l.left
