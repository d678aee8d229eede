use Rattle.std.proofs.Common.{◌≡◌, flat_map, map, drop, take}
use Rattle.hwdb_databases.specs.Internal.Holding.{slot_in}
use Rattle.hwdb_spec_commands.specs.Dump.{first_unsaid, record_text}
use Rattle.hwdb_databases.proofs.listing.said_records.Given as goal

abbrev pub invariant-loop-slot : goal.invariant-loop-slot
invariant-loop-slot l = record {
  text : l.text.items ≡ flat_map record_text (map (slot_in l.patterns) (take l.slot-index l.slots));
  unsaid : first_unsaid (map (slot_in l.patterns) l.slots) ≡ first_unsaid (map (slot_in l.patterns) (drop l.slot-index l.slots));
}
