-- What was looked for means.
use Rattle.std.specs.Prelude.{map}
use Rattle.hwdb_rulerun.specs.Sights.{Seen}
use Rattle.hwdb_rulerun.specs.Views.{entry_view}
use Rattle.hwdb_ruleevents.specs.Effects.{known_value, some_text}
use Rattle.hwdb_ruleasks.specs.declared.sights.Looked.{Looked}

abbrev pub looked_of : Looked → Seen
looked_of l =
    record {
      name = l.ancestor.now.name.items;
      subsystem = known_value (some_text l.ancestor.now.subsystem.items);
      driver = known_value (some_text l.ancestor.now.driver.items);
      attributes = map entry_view l.entries.items;
    }
