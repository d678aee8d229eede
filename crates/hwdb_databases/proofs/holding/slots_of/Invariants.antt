use Rattle.std.proofs.Common.{◌≡◌, map, take}
use Rattle.hwdb_databases.specs.Internal.Holding.{held_in, slot_in}
use Rattle.hwdb_databases.proofs.holding.slots_of.Given as goal

abbrev pub invariant-loop-held : goal.invariant-loop-held
invariant-loop-held l = record { made : map (slot_in l.patterns) l.slots.items ≡ map (held_in l.patterns) (take l.held-index l.list) }
