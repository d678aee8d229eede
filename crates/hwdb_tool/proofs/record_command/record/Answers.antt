use Rattle.std.proofs.Common.{map, option_map, string_bytes, Err}
use Rattle.hwdb_spec_commands.specs.Recorded.{no_json_text}
use Rattle.hwdb_spec_commands.specs.declared.unread.Unread.TheVariants.{Memory}
use Rattle.hwdb_plan.specs.Lemmas.Diff.{once_goes, twice_ends}
use Rattle.hwdb_plan.specs.Lemmas.Sides.{in_words_stops}
use Rattle.hwdb_plan.specs.Record.{devices_plan}
use Rattle.hwdb_tool.specs.Views.{end_of}
use Rattle.hwdb_tool.proofs.record_command.record.Goals as goal

pub returns-then-json-clause-follows : goal.returns-then-json-clause-follows
returns-then-json-clause-follows g c = λ tells.
    let r = c.refused_json.result in (
      Err Memory,
      tt,
      twice_ends (g.D.System.reads c.args.system.now) end_of no_json_text (devices_plan (Err Memory) (map string_bytes c.args.devices.words.now) (option_map (λ t. t.now) c.args.devices.database) c.args.devices.root.now) c.args.json r
          c.if-json.true (in_words_stops no_json_text r c.refused_json.ensures),
    )

pub returns-clause-follows : goal.returns-clause-follows
returns-clause-follows g c = λ tells.
    let told = c.record_devices.ensures.follows tells in (
      told.0,
      told.1,
      once_goes (g.D.System.reads c.args.system.now) end_of no_json_text (devices_plan told.0 (map string_bytes c.args.devices.words.now) (option_map (λ t. t.now) c.args.devices.database) c.args.devices.root.now) c.args.json c.record_devices.result
          c.if-json.false told.2,
    )
