use Rattle.std.proofs.Common.{◌≡◌, ◌++◌, take}
use Rattle.std.specs.Prelude.{flat_map}
use Rattle.hwdb_spec_commands.specs.Tables.{page_byte}
use Rattle.hwdb_databases.proofs.tables.push_bytes.Given as goal

abbrev pub invariant-loop-byte : goal.invariant-loop-byte
invariant-loop-byte l = l.text.items ≡ l.fn.text.items ++ flat_map page_byte (take l.byte-index l.bytes)
