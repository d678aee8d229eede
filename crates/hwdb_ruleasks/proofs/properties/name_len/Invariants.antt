use Rattle.std.proofs.Common.{length, ◌-◌, ◌+◌, ◌≡◌, ◌≤◌, drop}
use Rattle.std.specs.List.{position_or_len}
use Rattle.hwdb_spec.specs.Lines.{is}
use Rattle.hwdb_ruleasks.proofs.properties.name_len.Given as goal

abbrev pub invariant-loop-at : goal.invariant-loop-at
invariant-loop-at l =
    record {
      at_in : l.at ≤ length l.line;
      same : l.at + position_or_len (is 61) (drop l.at l.line) ≡ position_or_len (is 61) l.line;
    }

abbrev pub decreases-loop-at : goal.decreases-loop-at
decreases-loop-at l = length l.line - l.at
