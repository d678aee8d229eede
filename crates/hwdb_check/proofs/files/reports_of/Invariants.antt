use Rattle.std.proofs.Common.{◌≡◌, take}
use Rattle.std.specs.Prelude.{flat_map}
use Rattle.hwdb_spec_commands.specs.Findings.{told_fault}
use Rattle.hwdb_spec.specs.Lines.{lines}
use Rattle.hwdb_spec_commands.specs.Reports.{text_of_line}
use Rattle.hwdb_check.specs.Internal.{IsStart}
use Rattle.hwdb_check.proofs.files.reports_of.Given as goal

abbrev pub invariant-loop-fault : goal.invariant-loop-fault
invariant-loop-fault l = record {
  start : IsStart l.bytes l.start;
  done : l.text.items ≡ flat_map (λ f. told_fault l.format l.path (text_of_line (lines l.bytes) f.line) f) (take l.fault-index l.faults);
}
