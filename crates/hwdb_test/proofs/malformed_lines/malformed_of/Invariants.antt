use Rattle.std.proofs.Common.{◌≡◌, not, take}
use Rattle.std.specs.Prelude.{filter}
use Rattle.hwdb_spec.specs.Lines.{lines}
use Rattle.hwdb_spec_commands.specs.Reports.{text_of_line}
use Rattle.hwdb_check.specs.Internal.{IsStart}
use Rattle.hwdb_spec_commands.specs.Wanted.{is_excused}
use Rattle.hwdb_test.proofs.malformed_lines.malformed_of.Given as goal

abbrev pub invariant-loop-fault : goal.invariant-loop-fault
invariant-loop-fault l = record {
  start : IsStart l.bytes l.start;
  done : l.list.items ≡ filter (λ f. not (is_excused f (text_of_line (lines l.bytes) f.line))) (take l.fault-index l.all);
}
