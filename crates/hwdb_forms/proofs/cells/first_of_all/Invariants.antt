use Rattle.std.proofs.Common.{◌≡◌, ◌≤◌, ◌-◌}
use Rattle.std.specs.Prelude.{find}
use Rattle.hwdb_spec.specs.Patterns.{token_at}
use Rattle.hwdb_spec.specs.Forms.{all_bytes_from}
use Rattle.hwdb_spec_commands.specs.FormTexts.{takes}
use Rattle.hwdb_forms.proofs.cells.first_of_all.Given as goal

abbrev pub invariant-loop-byte : goal.invariant-loop-byte
invariant-loop-byte l = record {
  within : l.byte ≤ 255;
  rest : find (takes (token_at l.token) l.set) (all_bytes_from (256 - l.byte) l.byte) ≡ find (takes (token_at l.token) l.set) (all_bytes_from 256 0);
}

abbrev pub decreases-loop-byte : goal.decreases-loop-byte
decreases-loop-byte l = 255 - l.byte
