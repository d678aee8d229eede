use Rattle.std.proofs.Common.{◌≡◌, ◌++◌, List, map, take}
use Rattle.std.specs.Prelude.{flat_map}
use Rattle.hwdb_spec_commands.specs.Renamed.{Group, text_among}
use Rattle.hwdb_databases.specs.Internal.Renaming.{IsOf, shown}
use Rattle.hwdb_databases.proofs.renamed.push_groups.Given as goal

abbrev pub invariant-loop-group : goal.invariant-loop-group
invariant-loop-group l = (all : List Group) → IsOf l.moves all → l.text.items ≡ l.fn.text.items ++ flat_map (text_among all) (map shown (take l.group-index l.groups))
