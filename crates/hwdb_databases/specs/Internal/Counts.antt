-- Counts of changes, as their definitions have them.
use Rattle.std.specs.Prelude.{◌≡◌, Bool, List, Option, is_some, map, ℕ}
use Rattle.std.specs.Borrow.{Bor}
use Rattle.std.specs.BTreeMap.{BTreeMap}
use Rattle.hwdb_spec_commands.specs.ChangeCounts as spec
use Rattle.hwdb_databases.specs.declared.counting.Count.{Count}
use Rattle.hwdb_databases.specs.declared.counting.Stat.{Stat}

abbrev pub count_shown : Count → spec.Count
count_shown c = record { came = c.came; went = c.went; changed = c.changed }

-- a name and its counts
abbrev pub named_count : Bor (List ℕ) × Count → List ℕ × spec.Count
named_count e = (e.0.now, count_shown e.1)

abbrev pub counts_shown : BTreeMap (Bor (List ℕ)) Count → List (List ℕ × spec.Count)
counts_shown m = map named_count m.entries

abbrev pub stat_shown : Stat → spec.Stat
stat_shown s = record { files = counts_shown s.files; keys = counts_shown s.keys; total = count_shown s.total; devices = s.devices }

-- whether devices were asked for
abbrev pub AreAsked : Bool → (devices : Option (List (List ℕ))) → Type 0
AreAsked of_devices devices = is_some devices ≡ of_devices
