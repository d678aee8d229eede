use Rattle.std.proofs.Common.{length, ◌-◌, ◌+◌, ◌≡◌, ◌≤◌, drop, map}
use Rattle.std.specs.List.{prefix_len}
use Rattle.std.specs.Prelude.{not}
use Rattle.hwdb_spec_commands.specs.Exports.{begins_device}
use Rattle.hwdb_exports.proofs.lines.own_lines.Given as goal

abbrev pub invariant-loop-end : goal.invariant-loop-end
invariant-loop-end l = record {
  end_in : l.end ≤ length l.lines;
  same : l.end + prefix_len (λ x. not (begins_device x)) (map (λ l. l.now) (drop l.end l.lines)) ≡ prefix_len (λ x. not (begins_device x)) (map (λ l. l.now) l.lines);
}

abbrev pub decreases-loop-end : goal.decreases-loop-end
decreases-loop-end l = length l.lines - l.end
