use Rattle.std.proofs.Common.{◌≡◌, ◌+◌, ◌-◌, ◌≤◌, length, drop}
use Rattle.std.specs.List.{position_or_len}
use Rattle.hwdb_spec.specs.Forms.{is_wild}
use Rattle.hwdb_check.proofs.line_warnings.wild_place.Given as goal

abbrev pub invariant-loop-place : goal.invariant-loop-place
invariant-loop-place l = record {
  within : l.place ≤ length l.text;
  found : l.place + position_or_len is_wild (drop l.place l.text) ≡ position_or_len is_wild l.text;
}

abbrev pub decreases-loop-place : goal.decreases-loop-place
decreases-loop-place l = length l.text - l.place
