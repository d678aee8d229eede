use Rattle.std.proofs.Common.{◌≡◌, ◌≤◌, ◌-◌, ◌++◌}
use Rattle.std.specs.Prelude.{filter}
use Rattle.hwdb_forms.specs.Internal.{forms_of}
use Rattle.hwdb_spec.specs.Forms.{all_bytes_from, is_expected}
use Rattle.hwdb_forms.proofs.expecting.expected_by.Given as goal

abbrev pub invariant-loop-byte : goal.invariant-loop-byte
invariant-loop-byte l = record {
  within : l.byte ≤ 255;
  done : l.bytes.items ++ filter (is_expected (forms_of l.known.table) l.front) (all_bytes_from (256 - l.byte) l.byte) ≡ filter (is_expected (forms_of l.known.table) l.front) (all_bytes_from 256 0);
}

abbrev pub decreases-loop-byte : goal.decreases-loop-byte
decreases-loop-byte l = 255 - l.byte
