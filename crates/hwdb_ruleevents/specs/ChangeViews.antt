-- What changes mean.
use Rattle.std.specs.Prelude.{Option, Some, None}
use Rattle.hwdb_rulerun.specs.Sights
use Rattle.hwdb_rulerun.specs.Views.{known_of}
use Rattle.hwdb_rulerun.specs.declared.sights.Known.{Known}
use Rattle.hwdb_ruleevents.specs.Changes
use Rattle.hwdb_ruleevents.specs.declared.changes.Change.{Change}
use Rattle.hwdb_ruleevents.specs.declared.changes.Change.TheVariants as Kinds
use Rattle.hwdb_ruleevents.specs.declared.changes.Value.{Value}
use Rattle.hwdb_ruleevents.specs.declared.changes.Value.TheVariants as Values
use Rattle.hwdb_ruleevents.specs.declared.changes.Held.{Held}
use Rattle.hwdb_ruleevents.specs.declared.changes.Held.TheVariants as Holds

abbrev pub known_view : Option Known → Option Sights.Known
known_view None = None
known_view (Some k) = Some (known_of k)

abbrev pub change_of : Change → Changes.Change
change_of (Kinds.Put name value) = Changes.Put name.now (known_of value)
change_of (Kinds.Open start) = Changes.Open start.now

abbrev pub value_of : Value → Sights.Known
value_of Values.Unknown = Sights.Unknown
value_of Values.Missing = Sights.Missing
value_of (Values.Text text) = Sights.Text text.items

abbrev pub held_of : Held → Changes.Change
held_of (Holds.Put name value) = Changes.Put name.items (value_of value)
held_of (Holds.Open start) = Changes.Open start.items
