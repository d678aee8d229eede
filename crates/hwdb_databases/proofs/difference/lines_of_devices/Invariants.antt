use Rattle.std.proofs.Common.{◌≡◌, map, take, flat_map}
use Rattle.std.specs.List.{list_any}
use Rattle.hwdb_spec_commands.specs.ChangeForms.{device_changes_form}
use Rattle.hwdb_spec_commands.specs.Comparisons.{device_changes}
use Rattle.hwdb_spec_commands.specs.Differences.{are_some}
use Rattle.hwdb_spec_commands.specs.Reviews.{review_in}
use Rattle.hwdb_databases.proofs.difference.lines_of_devices.Given as goal

abbrev pub invariant-loop-device : goal.invariant-loop-device
invariant-loop-device l = record {
  text : l.text.items
      ≡ flat_map (λ d. device_changes_form (review_in l.fn.review).json (review_in l.fn.review).layout d (device_changes (review_in l.fn.review) l.fn.sides.old.now l.fn.sides.new.now d)) (map (λ d. d.now) (take l.device-index l.devices));
  differ : l.differ
      ≡ list_any (λ d. are_some (device_changes (review_in l.fn.review) l.fn.sides.old.now l.fn.sides.new.now d)) (map (λ d. d.now) (take l.device-index l.devices));
}
