use Rattle.std.proofs.Common.{◌≡◌, map, take}
use Rattle.std.specs.Prelude.{string_bytes}
use Rattle.hwdb_spec_commands.specs.Checks.{all_findings, empty_tally, tally_from}
use Rattle.hwdb_check.specs.Checks.{source_of}
use Rattle.hwdb_check.specs.Found.{finds}
use Rattle.hwdb_check.proofs.files.look_over_all.Given as goal

abbrev pub invariant-loop-file : goal.invariant-loop-file
invariant-loop-file l = record {
  found : finds l.all.items ≡ all_findings l.telling.format (map string_bytes l.telling.allowed.now) (map source_of (take l.file-index l.files));
  tally : l.tally ≡ tally_from empty_tally (map source_of (take l.file-index l.files));
}
