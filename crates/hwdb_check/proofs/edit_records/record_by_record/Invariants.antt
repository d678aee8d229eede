use Rattle.std.proofs.Common.{◌≡◌, ◌≤◌, ◌++◌, ◌-◌, [], drop, length, take}
use Rattle.hwdb_spec_commands.specs.Patches.{record_by_record, records_from}
use Rattle.hwdb_check.specs.Found.{finds}
use Rattle.hwdb_check.specs.Patching.{edits_of}
use Rattle.hwdb_check.proofs.edit_records.record_by_record.Given as goal

abbrev pub invariant-lines : goal.invariant-lines
invariant-lines l = record {
  before : l.from ≤ l.at;
  within : l.at ≤ length l.edits;
  seen : l.seen ≤ length l.found;
  lines : edits_of l.all.items
      ++ record_by_record (finds (drop l.seen l.found)) (records_from (edits_of (take (l.at - l.from) (drop l.from l.edits))) (edits_of (drop l.at l.edits)))
      ≡ record_by_record (finds l.found) (records_from [] (edits_of l.edits));
}

abbrev pub decreases-lines : goal.decreases-lines
decreases-lines l = length l.edits - l.at
