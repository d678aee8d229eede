use Rattle.std.proofs.Common.{◌≡◌, ◌++◌, map, take}
use Rattle.std.specs.Prelude.{flat_map}
use Rattle.hwdb_spec_commands.specs.Wanted.{holds}
use Rattle.hwdb_test.specs.Internal.{tried_text}
use Rattle.hwdb_test.specs.Views.{given_at, line_at, pair_at}
use Rattle.hwdb_test.proofs.trials.try_lines.Given as goal

abbrev pub invariant-loop-line : goal.invariant-loop-line
invariant-loop-line l = record {
  text : l.told.text.items ≡ l.fn.told.text.items
      ++ flat_map (tried_text l.form.json l.form.path.now l.device.text.now (map line_at l.all) (map given_at l.device.found.now) (map pair_at l.device.found.now)) (map line_at (take l.line-index l.all));
  held : l.told.held.items ≡ l.fn.told.held.items ++ map (holds (map line_at l.all) (map pair_at l.device.found.now)) (map line_at (take l.line-index l.all));
}
