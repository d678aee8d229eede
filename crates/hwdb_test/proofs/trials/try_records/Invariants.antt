use Rattle.std.proofs.Common.{◌≡◌, ◌++◌, map, take}
use Rattle.std.specs.Prelude.{flat_map}
use Rattle.hwdb_spec_commands.specs.Wanted.{record_held, record_text}
use Rattle.hwdb_test.specs.Views.{record_at}
use Rattle.hwdb_test.proofs.trials.try_records.Given as goal

abbrev pub invariant-loop-record : goal.invariant-loop-record
invariant-loop-record l = record {
  text : l.told.text.items ≡ l.fn.told.text.items ++ flat_map (record_text l.trial.form.json l.trial.form.path.now l.trial.db.now) (map record_at (take l.record-index l.records));
  held : l.told.held.items ≡ l.fn.told.held.items ++ flat_map (record_held l.trial.db.now) (map record_at (take l.record-index l.records));
}
