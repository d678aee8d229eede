use Rattle.std.proofs.Common.{length, ◌+◌, ◌-◌, ◌≡◌, ◌≤◌, ◌++◌, drop, take}
use Rattle.std.specs.Prelude.{flat_map}
use Rattle.hwdb_spec_commands.specs.Findings.{found_warnings}
use Rattle.hwdb_spec.specs.Lines.{is, numbered, pieces}
use Rattle.hwdb_check.specs.Found.{finds}
use Rattle.hwdb_check.specs.Leaving.{names_of}
use Rattle.hwdb_check.specs.Plain.{AreQuiet, IsTame, plain_findings}
use Rattle.hwdb_check.proofs.warnings.cut_warnings.Given as goal

abbrev pub invariant-loop-at : goal.invariant-loop-at
invariant-loop-at l = record {
  within : l.at ≤ length l.bytes + 1;
  near : l.number ≤ l.at + 1;
  tame : IsTame 10 (take l.tame (drop l.at l.bytes));
  quiet : AreQuiet l.bytes (numbered l.number (pieces (is 10) (drop l.at l.bytes)));
  found : finds l.warned.found.items
      ++ flat_map (found_warnings l.telling.format (names_of l.telling) l.path l.bytes) (numbered l.number (pieces (is 10) (drop l.at l.bytes)))
      ≡ plain_findings l.telling.format (names_of l.telling) l.path l.bytes;
}

abbrev pub decreases-loop-at : goal.decreases-loop-at
decreases-loop-at l = length l.bytes + 1 - l.at
