use Rattle.std.proofs.Common.{◌≡◌, ◌≤◌, ◌-◌}
use Rattle.std.specs.List.{list_any}
use Rattle.hwdb_spec.specs.Patterns.{token_at}
use Rattle.hwdb_spec.specs.Forms.{all_bytes_from, candidates}
use Rattle.hwdb_forms.specs.Internal.{takes_of_set}
use Rattle.hwdb_forms.proofs.sets.bracket_takes.Given as goal

abbrev pub invariant-loop-byte : goal.invariant-loop-byte
invariant-loop-byte l = record {
  within : l.byte ≤ 255;
  rest : list_any (takes_of_set (token_at l.text) l.set) (all_bytes_from (256 - l.byte) l.byte) ≡ list_any (takes_of_set (token_at l.text) l.set) (candidates l.set);
}

abbrev pub decreases-loop-byte : goal.decreases-loop-byte
decreases-loop-byte l = 255 - l.byte
