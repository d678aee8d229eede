-- What the types of this crate mean.
use Rattle.std.specs.Prelude.{map}
use Rattle.hwdb_rulerun.specs.Sights
use Rattle.hwdb_rulerun.specs.declared.sights.Known.{Known}
use Rattle.hwdb_rulerun.specs.declared.sights.Known.TheVariants as Values
use Rattle.hwdb_rulerun.specs.declared.sights.Entry.{Entry}
use Rattle.hwdb_rulerun.specs.declared.sights.Seen.{Seen}
use Rattle.hwdb_rulerun.specs.declared.sights.Sight.{Sight}

abbrev pub known_of : Known → Sights.Known
known_of Values.Unknown = Sights.Unknown
known_of Values.Missing = Sights.Missing
known_of (Values.Text text) = Sights.Text text.now

abbrev pub entry_view : Entry → Sights.Entry
entry_view e = record { name = e.name.now; value = known_of e.value }

abbrev pub seen_of : Seen → Sights.Seen
seen_of s =
    record { name = s.name.now; subsystem = known_of s.subsystem; driver = known_of s.driver; attributes = map entry_view s.attributes.now }

abbrev pub sight_of : Sight → Sights.Sight
sight_of s =
    record { action = s.action.now; path = s.path.now; own = seen_of s.own; parents = map seen_of s.parents.now; properties = map entry_view s.properties.now; closed = s.closed }
