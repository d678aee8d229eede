use Rattle.std.proofs.Common.{◌≡◌, ◌+◌, map, take}
use Rattle.hwdb_spec_commands.specs.NearAsked.{patterns_from}
use Rattle.hwdb_near.specs.Views.{pattern_at, source_of}
use Rattle.hwdb_near.proofs.patterns.patterns_of_files.Given as goal

abbrev pub invariant-loop-file : goal.invariant-loop-file
invariant-loop-file l = record {
  place : l.place ≡ l.file-index + 1;
  patterns : map pattern_at l.patterns.items ≡ patterns_from 1 (map source_of (take l.file-index l.files));
}
