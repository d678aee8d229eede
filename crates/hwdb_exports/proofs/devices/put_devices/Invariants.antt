use Rattle.std.proofs.Common.{◌≡◌, ◌++◌, ◌-◌, ◌≤◌, List, ℕ, drop, length, map}
use Rattle.std.specs.Prelude.{flat_map}
use Rattle.hwdb_spec_commands.specs.Exports as spec
use Rattle.hwdb_exports.specs.Views.{names_at, spot_at}
use Rattle.hwdb_exports.proofs.devices.put_devices.Given as goal

abbrev pub invariant-lines : goal.invariant-lines
invariant-lines l = record {
  at_in : l.at ≤ length l.lines;
  spots : (path : List ℕ) → spec.spot_after path (spot_at l.spots path) (flat_map spec.spots_of (spec.devices_in (map (λ t. t.now) (drop l.at l.lines))))
      ≡ spec.spot_after path (spot_at l.fn.spots path) (flat_map spec.spots_of (spec.devices_in (map (λ t. t.now) l.lines)));
  names : (folder : List ℕ) → names_at l.names folder ++ spec.names_under folder (flat_map spec.entries_of (spec.devices_in (map (λ t. t.now) (drop l.at l.lines))))
      ≡ names_at l.fn.names folder ++ spec.names_under folder (flat_map spec.entries_of (spec.devices_in (map (λ t. t.now) l.lines)));
}

abbrev pub decreases-lines : goal.decreases-lines
decreases-lines l = length l.lines - l.at
