use Rattle.std.proofs.Common.{◌≡◌, map, take}
use Rattle.std.specs.Prelude.{flat_map}
use Rattle.hwdb_check.specs.Checks.{source_of}
use Rattle.hwdb_spec_commands.specs.Wanted.{file_text, held}
use Rattle.hwdb_test.proofs.trials.try_files.Given as goal

abbrev pub invariant-loop-file : goal.invariant-loop-file
invariant-loop-file l = record {
  text : l.told.text.items ≡ flat_map (file_text l.json l.db) (map source_of (take l.file-index l.files));
  held : l.told.held.items ≡ held l.db (map source_of (take l.file-index l.files));
}
