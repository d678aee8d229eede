use Rattle.std.proofs.Common.{◌≡◌, map, take}
use Rattle.std.specs.List.{list_any}
use Rattle.hwdb_spec_commands.specs.ChangeCounts.{no_stat, with_devices}
use Rattle.hwdb_spec_commands.specs.Comparisons.{device_changes}
use Rattle.hwdb_spec_commands.specs.Differences.{are_some}
use Rattle.hwdb_spec_commands.specs.Reviews.{review_in}
use Rattle.hwdb_databases.specs.Internal.Counts.{stat_shown}
use Rattle.hwdb_databases.proofs.counting.device_stat.Given as goal

abbrev pub invariant-loop-device : goal.invariant-loop-device
invariant-loop-device l = record {
  stat : stat_shown l.stat ≡ with_devices (review_in l.fn.review) no_stat (map (λ d. d.now) (take l.device-index l.devices)) l.fn.sides.old.now l.fn.sides.new.now;
  differ : l.differ
      ≡ list_any (λ d. are_some (device_changes (review_in l.fn.review) l.fn.sides.old.now l.fn.sides.new.now d)) (map (λ d. d.now) (take l.device-index l.devices));
}
